use Rattle.std.proofs.Common.{◌∙◌, sym}
use Rattle.page_form.proofs.Pages.{front_room, front_bad, front_good}
use Rattle.page_form.proofs.read.check_parts.Goals as goal

pub check_content-requires-clause-room : goal.check_content-requires-clause-room
check_content-requires-clause-room c =
    (c.requires.head.0, front_room c.args.u c.args.at c.args.pointers c.args.bytes.now (sym c.bad_front.ensures ∙ c.in-None.is))

pub returns-in-Some : goal.returns-in-Some
returns-in-Some c = front_bad c.args.u c.args.at c.args.pointers c.args.kind c.args.bytes.now c.in-Some.field (sym c.bad_front.ensures ∙ c.in-Some.is)

pub returns-in-None : goal.returns-in-None
returns-in-None c =
    rw (front_good c.args.u c.args.at c.args.pointers c.args.kind c.args.bytes.now (sym c.bad_front.ensures ∙ c.in-None.is)) c.check_content.ensures

use Rattle.std.proofs.Common.{take}
use Rattle.tree_check.proofs.Front.{first_goes, first_bars}
use Rattle.tree_check.proofs.check.check_first.Goals as goal

pub returns-in-Ok-visit_first-clause-first : goal.returns-in-Ok-visit_first-clause-first
returns-in-Ok-visit_first-clause-first g c =
    first_goes g.P.PagesTells c.args.pages.now c.check_front.new.pages c.visit_first.new.pages c.args.walk.now c.check_front.new.walk c.visit_first.new.walk c.in-Ok.free
    (take c.args.walk.now.page_size c.check_front.new.bufs) c.in-Ok.ensures.reading c.in-Ok-visit_first.ensures.reading c.in-Ok.ensures.front c.in-Ok-visit_first.ensures.visited

pub returns-in-Err-visit_first-clause-cause : goal.returns-in-Err-visit_first-clause-cause
returns-in-Err-visit_first-clause-cause g c =
    first_bars g.P.PagesTells c.args.pages.now c.check_front.new.pages c.visit_first.new.pages c.args.walk.now c.check_front.new.walk c.in-Ok.free
    (take c.args.walk.now.page_size c.check_front.new.bufs) c.in-Err-visit_first.why c.in-Ok.ensures.reading c.in-Err-visit_first.ensures.reading c.in-Ok.ensures.front
    c.in-Err-visit_first.ensures.cause

use Rattle.std.proofs.Common.{subst, arith}
use Rattle.std.proofs.lemmas.Grind.{common_steps}
use Rattle.page_spec.proofs.BytesLaws.{differs-set}
use Rattle.page_edit.specs.Forms.{IsPacked}
use Rattle.page_edit.proofs.Shown.{started}
use Rattle.page_edit.proofs.start.start_page.Goals as goal

pub returns-clause-shows : goal.returns-clause-shows
returns-clause-shows c =
    let e = c.set_packed.ensures in
    let set = differs-set c.args.bytes.now c.header_at-at.result c.flag_of.result in
    (started c.args.u c.args.first c.args.kind c.args.right c.header_at-at.result _ c.put_u16.new.to c.set_packed.new.bytes c.put_right.new.bytes
    (omega (arith, c.put_right.ensures.others.same_length, e.others.same_length, c.put_u16.ensures.others.same_length, set.same_length, c.requires.usable))
    c.requires.usable.0 c.requires.usable.1 c.header_at-at.ensures.at (grind (arith, common_steps)) c.put_u16.ensures.others c.put_u16.ensures.value e.start e.blocks e.fragments e.count e.flag
    c.put_right.ensures.others c.put_right.ensures.right).0

pub returns-clause-packed : goal.returns-clause-packed
returns-clause-packed c =
    let e = c.set_packed.ensures in
    let set = differs-set c.args.bytes.now c.header_at-at.result c.flag_of.result in
    subst (λ n. IsPacked n c.put_right.new.bytes) c.header_at-at.ensures.at
    (started c.args.u c.args.first c.args.kind c.args.right c.header_at-at.result _ c.put_u16.new.to c.set_packed.new.bytes c.put_right.new.bytes
    (omega (arith, c.put_right.ensures.others.same_length, e.others.same_length, c.put_u16.ensures.others.same_length, set.same_length, c.requires.usable))
    c.requires.usable.0 c.requires.usable.1 c.header_at-at.ensures.at (grind (arith, common_steps)) c.put_u16.ensures.others c.put_u16.ensures.value e.start e.blocks e.fragments e.count e.flag
    c.put_right.ensures.others c.put_right.ensures.right).1

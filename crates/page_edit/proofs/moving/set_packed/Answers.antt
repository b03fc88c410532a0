use Rattle.std.proofs.Common.{◌+◌, ◌∙◌, arith}
use Rattle.page_spec.proofs.BytesLaws.{u16_at-below, u16_at-above, differs-set}
use Rattle.page_edit.proofs.Packs.{content_wraps}
use Rattle.page_edit.proofs.moving.set_packed.Goals as goal

pub returns-clause-start : goal.returns-clause-start
returns-clause-start c =
    let last = differs-set c.put_u16-2.new.to (c.args.at + 7) 0 in
    content_wraps _ c.args.at c.args.end (u16_at-below last (c.args.at + 5) (omega arith) ∙ c.put_u16-2.ensures.value) c.requires.end.0 c.requires.end.1

pub returns-clause-blocks : goal.returns-clause-blocks
returns-clause-blocks c =
    let last = differs-set c.put_u16-2.new.to (c.args.at + 7) 0 in
    u16_at-below last (c.args.at + 1) (omega arith) ∙ u16_at-below c.put_u16-2.ensures.others (c.args.at + 1) (omega arith) ∙ c.put_u16.ensures.value

pub returns-clause-count : goal.returns-clause-count
returns-clause-count c =
    let last = differs-set c.put_u16-2.new.to (c.args.at + 7) 0 in
    u16_at-below last (c.args.at + 3) (omega arith) ∙ u16_at-below c.put_u16-2.ensures.others (c.args.at + 3) (omega arith) ∙ u16_at-above c.put_u16.ensures.others (c.args.at + 3) (omega arith)

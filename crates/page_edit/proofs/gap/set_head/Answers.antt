use Rattle.std.proofs.Common.{◌+◌, ◌∙◌, arith}
use Rattle.page_spec.proofs.BytesLaws.{u16_at-below}
use Rattle.page_edit.proofs.gap.set_head.Goals as goal

pub returns-clause-count : goal.returns-clause-count
returns-clause-count c = u16_at-below c.put_u16-2.ensures.others (c.args.at + 3) (omega arith) ∙ c.put_u16.ensures.value

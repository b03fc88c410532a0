use Rattle.std.proofs.Common.{◌/◌, ◌+◌, arith}
use Rattle.std.proofs.lemmas.List.{get_or-replicate}
use Rattle.tree_check.proofs.Bits.{none_met}
use Rattle.tree_check.proofs.marks.Marks.new.Goals as goal

pub returns-clause-none : goal.returns-clause-none
returns-clause-none c = λ page most. none_met c.in_ok-vec.field-0.items page (rw (c.in_ok-vec.ensures.items_if_clones_equal (λ y e. e)) (get_or-replicate (c.args.last / 8 + 1) (page / 8) 0 0 (omega (arith, most))))

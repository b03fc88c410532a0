use Rattle.std.proofs.Common.{◌≡◌, length, sym, ◌∙◌, arith}
use Rattle.std.proofs.lemmas.Bool.Decides.{nat_tests}
use Rattle.edit_tests.proofs.OneCell.{long_cell}
use Rattle.edit_tests.proofs.cells.is_long.Goals as goal

pub returns-in-Some : goal.returns-in-Some
returns-in-Some c = λ all.
    let is : c.in-Some.len ≡ length c.args.cell.now = grind (arith, nat_tests, all) in
    let size = c.in-Some.ensures.0 in
    long_cell c.args.kind c.args.u c.lay_front.new.page c.args.cell.now c.lay_front.ensures.same (omega arith) (omega (arith, c.lay_front.ensures.size)) (sym size ∙ is)

use Rattle.std.proofs.Common.{◌/◌, sym, arith, ◌∙◌}
use Rattle.std.proofs.lemmas.Grind.{get_or_default_zero}
use Rattle.tree_check.proofs.Bits.{has_is}
use Rattle.tree_check.proofs.marks.Marks.has.Goals as goal

pub returns : goal.returns
returns c =
    has_is c.args.self.now.bits.items c.args.page c.index.result.now c.bit_of.result c.has_bit.result
    (sym (get_or_default_zero c.args.self.now.bits.items (c.args.page / 8) c.index.result.now (omega (arith, c.requires))) ∙ sym c.index.ensures)
    c.bit_of.ensures.bit c.has_bit.ensures

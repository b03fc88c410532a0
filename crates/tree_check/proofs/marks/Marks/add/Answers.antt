use Rattle.std.proofs.Common.{◌/◌, sym, ◌∙◌}
use Rattle.std.proofs.lemmas.Grind.{get_or_default_zero}
use Rattle.tree_check.proofs.Bits.{add_met, add_others}
use Rattle.tree_check.proofs.marks.Marks.add.Goals as goal

pub returns-clause-met : goal.returns-clause-met
returns-clause-met c =
    add_met c.args.self.now.bits.items c.args.page c.index_mut.result.now c.bit_of.result c.requires c.bit_of.ensures.bit c.bit_of.ensures.some

pub returns-clause-others : goal.returns-clause-others
returns-clause-others c = λ other inside apart.
    add_others c.args.self.now.bits.items c.args.page other c.index_mut.result.now c.bit_of.result c.requires c.bit_of.ensures.bit
    (sym (get_or_default_zero c.args.self.now.bits.items (c.args.page / 8) c.index_mut.result.now c.requires) ∙ sym c.index_mut.ensures.value) apart

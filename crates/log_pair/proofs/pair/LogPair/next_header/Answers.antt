use Rattle.std.proofs.Common.{inl, inr, sym, ◌∙◌}
use Rattle.log_pair.proofs.NewHeaders.{next_generation}
use Rattle.log_pair.proofs.pair.LogPair.next_header.Goals as goal

pub returns-clause-generation : goal.returns-clause-generation
returns-clause-generation c =
    next_generation c.args.self.now.current c.generation.result
    (elim c.current.ensures.which [ inl one ↦ inl (sym c.current.ensures.value ∙ one) | inr two ↦ inr (sym c.current.ensures.value ∙ two) ])
    c.generation.ensures.legal (rw c.generation.ensures.value c.requires)

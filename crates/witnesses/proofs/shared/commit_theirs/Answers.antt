use Rattle.std.proofs.Common.{refl, subst, sym, arith, inl, inr, ◌≡◌, ℕ, Option}
use Rattle.std.specs.Prelude.{MatchOption}
use Rattle.memory_engine.specs.Plain.{state_of}
use Rattle.memory_engine.specs.contracts.plain.PlainEngineTells.TheImpl.{ghosts}
use Rattle.witnesses.specs.Shared.{SomeCommitted}
use Rattle.witnesses.proofs.Became.{became, runs_on}
use Rattle.witnesses.proofs.shared.commit_theirs.Goals as goal

pub returns-clause-number : goal.returns-clause-number
returns-clause-number g c =
    let told = ghosts g.row.M g.M.Means g.M.Means-dict in
    subst (λ (found : Option ℕ). MatchOption found (state_of c.commit-answer.new.self ≡ state_of c.args.plain.now)
    (λ number. SomeCommitted c.args.plain.now number c.commit-answer.new.self)) (sym c.number_of.ensures)
    (became g.M.Means told c.args.plain.now c.args.waiting.pin c.args.waiting.prepared c.args.waiting.who c.commit-answer.new.self c.commit-answer.result
    refl (λ rose. elim rose.counted [ inl more ↦ omega (arith, more) | inr last ↦ omega (arith, last) ]) c.requires.fit.fresh c.requires.fit.freed c.commit-answer.ensures.answer)

pub returns-clause-runs : goal.returns-clause-runs
returns-clause-runs g c =
    runs_on g.M.Means (ghosts g.row.M g.M.Means g.M.Means-dict) c.args.plain.now c.args.waiting.pin c.args.waiting.prepared c.args.waiting.who
    c.commit-answer.new.self c.commit-answer.result c.commit-answer.ensures.runs

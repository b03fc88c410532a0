use Rattle.std.proofs.Common.{◌≡◌, ◌∙◌, refl, sym, ap, subst, ℕ, [], ◌∷◌, ◌++◌, Option}
use Rattle.std.specs.Prelude.{MatchOption}
use Rattle.memory_engine.specs.Plain.{state_of}
use Rattle.witnesses.specs.Shared.{SomeCommitted}
use Rattle.witnesses.proofs.SharedMoves.{theirs_came, none_came, waits_live, at_waiting}
use Rattle.witnesses.proofs.shared.Shared.admit.Goals as goal

pub returns-then-is_err : goal.returns-then-is_err
returns-then-is_err g c =
    none_came g.M.Means c.args.self.now _ refl c.take.ensures.after c.reserve.ensures.items refl refl refl refl
    (record { hold = λ pins live. live; maps = λ pin live. refl }) (λ first run. run.plain)

pub commit_theirs-requires-clause-live : goal.commit_theirs-requires-clause-live
commit_theirs-requires-clause-live g c =
    waits_live c.args.self.now c.in-Some.waiting (sym c.take.ensures.value ∙ c.in-Some.is) c.requires

pub returns-in-Some-commit_theirs : goal.returns-in-Some-commit_theirs
returns-in-Some-commit_theirs g c =
    theirs_came g.M.Means c.args.self.now _ c.requires.0 c.in-Some.waiting c.in-Some-commit_theirs.number c.requires.1
    (sym c.take.ensures.value ∙ c.in-Some.is) c.take.ensures.after
    (c.push_reserved.ensures ∙ ap (λ xs. xs ++ c.in-Some-commit_theirs.number ∷ []) c.reserve.ensures.items) refl refl refl
    (subst (λ (found : Option ℕ). MatchOption found (state_of c.commit_theirs.new.plain ≡ state_of c.args.self.now.plain)
    (λ number. SomeCommitted c.args.self.now.plain number c.commit_theirs.new.plain)) c.in-Some-commit_theirs.is c.commit_theirs.ensures.number)
    c.commit_theirs.ensures.pins c.commit_theirs.ensures.runs

pub returns-in_default-commit_theirs : goal.returns-in_default-commit_theirs
returns-in_default-commit_theirs g c =
    none_came g.M.Means c.args.self.now _
    (subst (λ (found : Option ℕ). MatchOption found (state_of c.commit_theirs.new.plain ≡ state_of c.args.self.now.plain)
    (λ number. SomeCommitted c.args.self.now.plain number c.commit_theirs.new.plain)) c.in_default-commit_theirs.is c.commit_theirs.ensures.number)
    c.take.ensures.after c.reserve.ensures.items refl refl refl refl
    c.commit_theirs.ensures.pins
    (λ first run. c.commit_theirs.ensures.runs first run.plain
    (at_waiting c.args.self.now.waiting c.in-Some.waiting _ (sym c.take.ensures.value ∙ c.in-Some.is) run.good))

use Rattle.std.proofs.Common.{◌≡◌, ℕ, List, [], ◌∷◌, ◌++◌, sym, subst, ap}
use Rattle.wal_index.specs.Commits.{AreCommits}
use Rattle.wal_index.specs.Index.{IsAbove}
use Rattle.wal_index.proofs.Rising.{commits_more, tails_more}
use Rattle.wal_index.proofs.commits.LogCommits.push.Goals as goal

-- the fields after the pushes
are_commits : (numbers ends tails more_numbers more_ends more_tails : List ℕ) (number end : ℕ) → more_numbers ≡ numbers ++ number ∷ []
    → more_ends ≡ ends ++ end ∷ [] → AreCommits (numbers ++ number ∷ []) (ends ++ end ∷ []) more_tails → AreCommits more_numbers more_ends more_tails
are_commits numbers ends tails more_numbers more_ends more_tails number end is too are =
    subst (λ numbers. AreCommits numbers more_ends more_tails) (sym is) (subst (λ ends. AreCommits (numbers ++ number ∷ []) ends more_tails) (sym too) are)

pub invariant_of-self : goal.invariant_of-self
invariant_of-self c = are_commits c.self.inside.numbers.items c.self.inside.ends.items c.self.inside.tails.items _ _ _ c.args.number c.args.end
    c.push_reserved.ensures.items c.push_reserved-2.ensures.items
    (subst (AreCommits (c.self.inside.numbers.items ++ c.args.number ∷ []) (c.self.inside.ends.items ++ c.args.end ∷ [])) (sym c.push_reserved-then-tail.ensures.items)
    (tails_more c.self.inside.numbers.items c.self.inside.ends.items c.self.inside.tails.items c.args.number c.args.end c.self.invariant
    (subst (λ numbers. IsAbove numbers c.args.number) (sym (ap (λ commits. commits.numbers) c.self.view_is)) c.requires.number)
    (subst (λ ends. IsAbove ends c.args.end) (sym (ap (λ commits. commits.ends) c.self.view_is)) c.requires.end) c.requires.some))

pub invariant_of-self-else-tail : goal.invariant_of-self-else-tail
invariant_of-self-else-tail c = are_commits c.self.inside.numbers.items c.self.inside.ends.items c.self.inside.tails.items _ _ _ c.args.number c.args.end
    c.push_reserved.ensures.items c.push_reserved-2.ensures.items
    (commits_more c.self.inside.numbers.items c.self.inside.ends.items c.self.inside.tails.items c.args.number c.args.end c.self.invariant
    (subst (λ numbers. IsAbove numbers c.args.number) (sym (ap (λ commits. commits.numbers) c.self.view_is)) c.requires.number)
    (subst (λ ends. IsAbove ends c.args.end) (sym (ap (λ commits. commits.ends) c.self.view_is)) c.requires.end) c.requires.some)

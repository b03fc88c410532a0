use Rattle.std.proofs.Common.{◌+◌, ℕ, subst, sym}
use Rattle.store.proofs.store.Store.enter.Goals as goal
use Rattle.wal_index.specs.Index.{log_in, IsAbove}
use Rattle.store.specs.Writing.{EndWithin}
use Rattle.store.proofs.Entering.{both_above, end_within}

pub enter_commit-requires-clause-rises1 : goal.enter_commit-requires-clause-rises1
enter_commit-requires-clause-rises1 g c =
    subst (λ (n : ℕ). IsAbove c.args.self.now.index.log1.numbers (n + 1)) (sym c.len.ensures.count)
    (both_above c.args.self.now.index c.args.self.now.pair.current c.args.self.now.commits.commits c.requires.indexed).0

pub enter_commit-requires-clause-rises2 : goal.enter_commit-requires-clause-rises2
enter_commit-requires-clause-rises2 g c =
    subst (λ (n : ℕ). IsAbove c.args.self.now.index.log2.numbers (n + 1)) (sym c.len.ensures.count)
    (both_above c.args.self.now.index c.args.self.now.pair.current c.args.self.now.commits.commits c.requires.indexed).1

pub enter_commit-requires-clause-ended : goal.enter_commit-requires-clause-ended
enter_commit-requires-clause-ended g c =
    subst (λ (n : ℕ). EndWithin (log_in c.args.self.now.index n)) (sym c.current.ensures.value)
    (end_within c.args.self.now.index c.args.self.now.pair.current c.args.self.now.commits.commits c.requires.indexed)

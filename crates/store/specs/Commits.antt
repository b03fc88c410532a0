-- The history of a store, as it is kept.
use Rattle.std.specs.Prelude.{ℕ, List, [], ◌∷◌}
use Rattle.engine_spec.specs.declared.commits.Commit.{Commit}
use Rattle.engine_spec.specs.declared.commits.Entry.{Entry}
use Rattle.store.specs.declared.commits.Wrote.{Wrote}

-- each entry with what its commit wrote
abbrev pub commits_of : List Entry → List Wrote → List Commit
commits_of [] wrote = []
commits_of (entry ∷ entries) [] = []
commits_of (entry ∷ entries) (one ∷ wrote) = (record { entry = entry; wrote = one.pages; tail = one.tail }) ∷ commits_of entries wrote

-- a list of commits as callers see it, with how many more it has room for
pub record CommitList : Type 0 where
  pub commits : List Commit
  pub room : ℕ

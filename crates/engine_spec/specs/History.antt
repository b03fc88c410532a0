-- The history of a store: its commits in order, and which of them bars a later one.
use Rattle.std.specs.Prelude.{◌≡◌, ℕ, ◌+◌, ◌<◌, ◌≤◌, Bool, true, false, ◌==◌, ◌&&◌, ◌||◌, not, List, [], ◌∷◌, ◌++◌, length, drop, Contains, Option, Some, None, if◌then◌else◌, nat_lt}
use Rattle.std.specs.List.{list_any, flat_map}
use Rattle.engine_spec.specs.declared.commits.Commit.{Commit}
use Rattle.engine_spec.specs.declared.commits.Mode.{Mode}
use Rattle.engine_spec.specs.declared.commits.Mode.TheVariants.{Plain, Concurrent}

-- Whether a commit counts as having written a page, for a transaction of this mode. Every commit writes page 1, for its header
-- fields; to a concurrent transaction that counts only where the commit changed page 1 from byte 100 on.
abbrev pub counts : Mode → ℕ → Commit → Bool
counts Plain page commit = list_any (λ p. p == page) commit.wrote
counts Concurrent page commit = list_any (λ p. p == page) commit.wrote && (commit.tail || not (page == 1))

-- some of these commits counts as having written the page
abbrev pub is_written : Mode → ℕ → List Commit → Bool
is_written mode page commits = list_any (counts mode page) commits

-- A page that was read, the least of those that a commit after snapshot n wrote, and the number of the first such commit.
pub record IsConflict (mode : Mode) (reads : List ℕ) (n : ℕ) (history : List Commit) (page number : ℕ) : Type 0 where
  pub before : List Commit
  pub commit : Commit
  pub after : List Commit
  pub parts : history ≡ before ++ commit ∷ after
  pub number_is : number ≡ length before + 1
  pub later : n ≤ length before
  pub read : Contains reads page
  pub wrote : counts mode page commit ≡ true
  pub first : is_written mode page (drop n before) ≡ false
  pub least : (q : ℕ) → Contains reads q → q < page → is_written mode q (drop n history) ≡ false

-- no page that was read was written by a commit after snapshot n
abbrev pub NoConflict : Mode → List ℕ → ℕ → List Commit → Type 0
NoConflict mode reads n history = (q : ℕ) → Contains reads q → is_written mode q (drop n history) ≡ false

-- the number of the first of these commits that wrote the page; so many commits stand before them
abbrev pub first_writer : Mode → ℕ → ℕ → List Commit → Option ℕ
first_writer mode page number [] = None
first_writer mode page number (commit ∷ commits) =
    if counts mode page commit then Some (number + 1) else first_writer mode page (number + 1) commits

-- of a page with its commit and perhaps another, the one of the lesser page
abbrev pub lesser : ℕ × ℕ → Option (ℕ × ℕ) → Option (ℕ × ℕ)
lesser one None = Some one
lesser one (Some other) = if nat_lt other.0 one.0 then Some other else Some one

-- the page with its first later commit, where there is one, or what other pages give
abbrev pub or_others : ℕ → Option ℕ → Option (ℕ × ℕ) → Option (ℕ × ℕ)
or_others page None others = others
or_others page (Some number) others = lesser (page, number) others

-- the conflict of a transaction of this mode that read these pages at snapshot n: the least page written since, and its first commit
abbrev pub conflict : Mode → List ℕ → ℕ → List Commit → Option (ℕ × ℕ)
conflict mode [] n history = None
conflict mode (page ∷ pages) n history =
    or_others page (first_writer mode page n (drop n history)) (conflict mode pages n history)

-- the accepted statements of these commits, in order
abbrev pub statements_of : List Commit → List (List ℕ)
statements_of commits = flat_map (λ commit. commit.entry.statements) commits

-- each commit began at a snapshot before itself; so many commits stand before them
abbrev pub SnapsBefore : ℕ → List Commit → Type 0
SnapsBefore number [] = Unit {0}
SnapsBefore number (commit ∷ commits) = (commit.entry.snap ≤ number) × SnapsBefore (number + 1) commits

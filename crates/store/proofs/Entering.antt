-- What the index of a history allows: the next commit's number is above all, and commits end inside the frames.
use Rattle.std.proofs.Common.{◌≡◌, ◌⊎◌, inl, inr, ℕ, zero, suc, ◌+◌, ◌-◌, ◌<◌, ◌≤◌, List, [], ◌∷◌, length, take, drop, sym, subst, arith, length-append, length-take, length-drop}
use Rattle.std.specs.Prelude.{slice_index}
use Rattle.engine_spec.specs.declared.commits.Commit.{Commit}
use Rattle.engine_spec.specs.TwoLogs.{TwoLogs, frames_of, other_log}
use Rattle.wal_index.specs.Index.{Indexed, IndexedLog, log_in, IsAbove}
use Rattle.wal_rules.specs.Indexing.{HoldsCommits, IsIndexOf, ends_of}
use Rattle.wal_rules.proofs.Places.{numbers-length, number-at}
use Rattle.store.specs.Writing.{EndWithin}
use Rattle.store.specs.Committing.{IsIndexed}

-- the numbers of a log that holds the commits behind some
above : (log : IndexedLog) (before number : ℕ) (commits : List Commit) → HoldsCommits log before commits → before + length commits < number → IsAbove log.numbers number
above log before number commits holds less = λ place within.
    subst (λ (numbers : List ℕ). (place : ℕ) → place < length numbers → slice_index numbers place < number) (sym holds.numbers)
    (λ at inside. let few : at < length commits = subst (λ (n : ℕ). at < n) (numbers-length (before + 1) (length commits)) inside in
    let is = number-at (before + 1) (length commits) at few in omega arith) place within

current_above : (index : Indexed) (logs : TwoLogs) (history : List Commit) → IsIndexOf index logs history → IsAbove (log_in index logs.current).numbers (length history + 1)
current_above index logs history is =
    above (log_in index logs.current) logs.since (length history + 1) (drop logs.since history) is.current (let since = is.are.since in omega (arith, length-drop logs.since history))

other_above : (index : Indexed) (logs : TwoLogs) (history : List Commit) → IsIndexOf index logs history → IsAbove (log_in index (other_log logs)).numbers (length history + 1)
other_above index logs history is =
    above (log_in index (other_log logs)) logs.other_since (length history + 1) (drop logs.other_since (take logs.since history)) is.other
    (let since = is.are.since in let other = is.are.other_since in
    let long : length (take logs.since history) ≤ logs.since = omega (arith, length-take logs.since history) in
    omega (arith, length-drop logs.other_since (take logs.since history)))

pub both_above : (index : Indexed) (current : ℕ) (history : List Commit) → IsIndexed index current history → IsAbove index.log1.numbers (length history + 1) × IsAbove index.log2.numbers (length history + 1)
both_above index current history indexed = by indexed.is.are.current
  where
    logs : TwoLogs
    logs = indexed.logs

    by : (logs.current ≡ 1) ⊎ (logs.current ≡ 2) → IsAbove index.log1.numbers (length history + 1) × IsAbove index.log2.numbers (length history + 1)
    by (inl one) = (
      subst (λ (n : ℕ). IsAbove (log_in index n).numbers (length history + 1)) one (current_above index logs history indexed.is),
      subst (λ (n : ℕ). IsAbove (log_in index (3 - n)).numbers (length history + 1)) one (other_above index logs history indexed.is),
    )
    by (inr two) = (
      subst (λ (n : ℕ). IsAbove (log_in index (3 - n)).numbers (length history + 1)) two (other_above index logs history indexed.is),
      subst (λ (n : ℕ). IsAbove (log_in index n).numbers (length history + 1)) two (current_above index logs history indexed.is),
    )

-- each commit ends inside the frames
ends_inside : (before : ℕ) (commits : List Commit) (place : ℕ) → place < length (ends_of before commits) → slice_index (ends_of before commits) place ≤ before + length (frames_of commits)
ends_inside before [] place within = absurd (omega arith)
ends_inside before (commit ∷ commits) zero within = omega (arith, length-append commit.wrote (frames_of commits))
ends_inside before (commit ∷ commits) (suc place) within =
    let rest = ends_inside (before + length commit.wrote) commits place (omega (arith, within)) in omega (arith, length-append commit.wrote (frames_of commits))

pub end_within : (index : Indexed) (current : ℕ) (history : List Commit) → IsIndexed index current history → EndWithin (log_in index current)
end_within index current history indexed = subst (λ (n : ℕ). EndWithin (log_in index n)) indexed.same (λ place within.
    let commits : List Commit = drop indexed.logs.since history in
    let holds = indexed.is.current in
    let least = ends_inside 0 commits place (subst (λ (ends : List ℕ). place < length ends) holds.ends within) in
    let inside : slice_index (ends_of 0 commits) place ≤ length (frames_of commits) = omega (arith, least) in
    subst (λ (ends : List ℕ). slice_index ends place ≤ length (log_in index indexed.logs.current).pages) (sym holds.ends)
    (subst (λ (pages : List ℕ). slice_index (ends_of 0 commits) place ≤ length pages) (sym holds.pages) inside))

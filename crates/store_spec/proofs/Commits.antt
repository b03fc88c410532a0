-- The index of a store once it has one commit more.
use Rattle.std.proofs.Common.{◌≡◌, ◌∙◌, ℕ, zero, suc, ◌+◌, ◌-◌, Bool, true, false, if◌then◌else◌, List, [], ◌∷◌, ◌++◌, length, take, drop, length-append, length-drop, append-nil, add-one, refl, sym, ap, subst, inl, inr, arith, Contains}
use Rattle.std.specs.Prelude.{◌⊎◌}
use Rattle.std.proofs.lemmas.List.{drop-append-le, take-append-le}
use Rattle.std.proofs.lemmas.List.Elements.{All-append, All-cons, All-nil}
use Rattle.std.proofs.lemmas.Grind.{flat_map-append}
use Rattle.engine_spec.specs.declared.commits.Commit.{Commit}
use Rattle.engine_spec.specs.TwoLogs.{TwoLogs, AreLogs, frames_of}
use Rattle.engine_spec.specs.Written.{numbers_from}
use Rattle.wal_index.specs.Index.{Indexed, IndexedLog, log_in}
use Rattle.wal_rules.specs.Indexing.{HoldsCommits, IsIndexOf, ends_of, tails_of}
use Rattle.log_pair.specs.Pair.{PairView, other_number, current_header}
use Rattle.store_spec.specs.Store.{StoreData, two_logs, since_of, other_since_of}
use Rattle.store_spec.specs.Steps.{HasIndexed, IsSameLog, committed}

-- a list with one more is one longer
pub one_longer : {X : Type 0} (xs : List X) (x : X) → length (xs ++ x ∷ []) ≡ length xs + 1
one_longer xs x = length-append xs (x ∷ [])

-- so many commits stand before the first of each log as before
pub since_same : (kept : StoreData) (pair : PairView) (commit : Commit) (index : Indexed) → pair.current ≡ kept.pair.current → HasIndexed kept commit index
    → since_of (committed kept pair index commit) ≡ since_of kept
since_same kept pair commit index same has =
    ap (λ (log : ℕ). length (kept.history ++ commit ∷ []) - length (log_in index log).numbers) same
    ∙ omega (arith, one_longer kept.history commit, ap length has.numbers, one_longer (log_in kept.index kept.pair.current).numbers (length kept.history + 1))

pub other_since_same : (kept : StoreData) (pair : PairView) (commit : Commit) (index : Indexed) → pair.current ≡ kept.pair.current → HasIndexed kept commit index
    → other_since_of (committed kept pair index commit) ≡ other_since_of kept
other_since_same kept pair commit index same has =
    ap (λ (n : ℕ). n - length (log_in index (other_number pair.current)).numbers) (since_same kept pair commit index same has)
    ∙ ap (λ (log : ℕ). since_of kept - length (log_in index (other_number log)).numbers) same
    ∙ ap (λ (numbers : List ℕ). since_of kept - length numbers) has.other.numbers

-- what a log's index holds of commits with one more
pub numbers-more : (from count : ℕ) → numbers_from from (suc count) ≡ numbers_from from count ++ (from + count) ∷ []
numbers-more from zero = ap (λ (n : ℕ). n ∷ []) (omega arith)
numbers-more from (suc count) =
    ap (λ (rest : List ℕ). from ∷ rest)
    (numbers-more (from + 1) count ∙ ap (λ (n : ℕ). numbers_from (from + 1) count ++ n ∷ []) (omega arith))

frames-more : (commits : List Commit) (commit : Commit) → frames_of (commits ++ commit ∷ []) ≡ frames_of commits ++ commit.wrote
frames-more commits commit =
    flat_map-append (λ (c : Commit). c.wrote) commits (commit ∷ []) ∙ ap (λ (pages : List ℕ). frames_of commits ++ pages) (append-nil commit.wrote)

ends-more : (before : ℕ) (commits : List Commit) (commit : Commit) → ends_of before (commits ++ commit ∷ []) ≡ ends_of before commits ++ (before + length (frames_of (commits ++ commit ∷ []))) ∷ []
ends-more before [] commit = ap (λ (pages : List ℕ). (before + length pages) ∷ []) (sym (append-nil commit.wrote))
ends-more before (first ∷ commits) commit =
    ap (λ (rest : List ℕ). (before + length first.wrote) ∷ rest)
    (ends-more (before + length first.wrote) commits commit
    ∙ ap (λ (n : ℕ). ends_of (before + length first.wrote) commits ++ n ∷ []) (omega (arith, length-append first.wrote (frames_of (commits ++ commit ∷ [])))))

tails-more : (before : ℕ) (commits : List Commit) (commit : Commit)
    → tails_of before (commits ++ commit ∷ []) ≡ (if commit.tail then tails_of before commits ++ (before + length commits + 1) ∷ [] else tails_of before commits)
tails-more before [] commit = by commit.tail
  where
    by : (tail : Bool) → (if tail then (before + 1) ∷ [] else []) ≡ (if tail then (before + 0 + 1) ∷ [] else [])
    by true = ap (λ (n : ℕ). n ∷ []) (omega arith)
    by false = refl
tails-more before (first ∷ commits) commit =
    by first.tail commit.tail (tails_of (before + 1) (commits ++ commit ∷ [])) (tails_of (before + 1) commits) (before + 1 + length commits + 1) (before + suc (length commits) + 1)
    (tails-more (before + 1) commits commit) (omega arith)
  where
    by : (one last : Bool) (all rest : List ℕ) (n m : ℕ) → all ≡ (if last then rest ++ n ∷ [] else rest) → n ≡ m
        → (if one then (before + 1) ∷ all else all) ≡ (if last then (if one then (before + 1) ∷ rest else rest) ++ m ∷ [] else (if one then (before + 1) ∷ rest else rest))
    by true true all rest n m is same = ap (λ (xs : List ℕ). (before + 1) ∷ xs) (is ∙ ap (λ (k : ℕ). rest ++ k ∷ []) same)
    by true false all rest n m is same = ap (λ (xs : List ℕ). (before + 1) ∷ xs) is
    by false true all rest n m is same = is ∙ ap (λ (k : ℕ). rest ++ k ∷ []) same
    by false false all rest n m is same = is

holds_more : (old new : IndexedLog) (before number : ℕ) (commits : List Commit) (commit : Commit) → number ≡ before + length commits + 1 → Contains commit.wrote 1
    → new.pages ≡ old.pages ++ commit.wrote → new.numbers ≡ old.numbers ++ number ∷ [] → new.ends ≡ old.ends ++ length (old.pages ++ commit.wrote) ∷ []
    → new.tails ≡ (if commit.tail then old.tails ++ number ∷ [] else old.tails) → HoldsCommits old before commits → HoldsCommits new before (commits ++ commit ∷ [])
holds_more old new before number commits commit is first pages numbers ends tails holds = record {
  pages = pages_are;
  numbers = numbers
      ∙ ap (λ (xs : List ℕ). xs ++ number ∷ []) holds.numbers
      ∙ ap (λ (n : ℕ). numbers_from (before + 1) (length commits) ++ n ∷ []) (omega (arith, is))
      ∙ sym (ap (numbers_from (before + 1)) (one_longer commits commit ∙ add-one (length commits)) ∙ numbers-more (before + 1) (length commits));
  ends = ends
      ∙ ap (λ (xs : List ℕ). xs ++ length (old.pages ++ commit.wrote) ∷ []) holds.ends
      ∙ ap (λ (xs : List ℕ). ends_of 0 commits ++ length xs ∷ []) (sym pages ∙ pages_are)
      ∙ ap (λ (n : ℕ). ends_of 0 commits ++ n ∷ []) (none (length (frames_of (commits ++ commit ∷ []))))
      ∙ sym (ends-more 0 commits commit);
  tails = tails
      ∙ ap (λ (xs : List ℕ). if commit.tail then xs ++ number ∷ [] else xs) holds.tails
      ∙ ap (λ (n : ℕ). if commit.tail then tails_of before commits ++ n ∷ [] else tails_of before commits) is
      ∙ sym (tails-more before commits commit);
  first_pages = All-append (λ (c : Commit). Contains c.wrote 1) commits (commit ∷ []) holds.first_pages
      (All-cons (λ (c : Commit). Contains c.wrote 1) commit [] first (All-nil (λ (c : Commit). Contains c.wrote 1)));
}
  where
    none : (n : ℕ) → n ≡ 0 + n
    none n = omega arith

    pages_are : new.pages ≡ frames_of (commits ++ commit ∷ [])
    pages_are = pages ∙ ap (λ (xs : List ℕ). xs ++ commit.wrote) holds.pages ∙ sym (frames-more commits commit)

holds_same : (old new : IndexedLog) (before : ℕ) (commits : List Commit) → IsSameLog old new → HoldsCommits old before commits → HoldsCommits new before commits
holds_same old new before commits same holds = record {
  pages = same.pages ∙ holds.pages;
  numbers = same.numbers ∙ holds.numbers;
  ends = same.ends ∙ holds.ends;
  tails = same.tails ∙ holds.tails;
  first_pages = holds.first_pages;
}

-- the other log by both its names
pub other_is : (log : ℕ) → (log ≡ 1) ⊎ (log ≡ 2) → 3 - log ≡ other_number log
other_is log (inl is) = subst (λ (n : ℕ). 3 - n ≡ other_number n) (sym is) refl
other_is log (inr is) = subst (λ (n : ℕ). 3 - n ≡ other_number n) (sym is) refl

-- The index holds the history with its new commit.
index_at : (kept : StoreData) (commit : Commit) (index : Indexed) (logs : TwoLogs) → logs ≡ two_logs kept → IsIndexOf kept.index (two_logs kept) kept.history
    → HasIndexed kept commit index → Contains commit.wrote 1 → IsIndexOf index logs (kept.history ++ commit ∷ [])
index_at kept commit index logs is holds has first = subst (λ (l : TwoLogs). IsIndexOf index l (kept.history ++ commit ∷ [])) (sym is) (record {
  are = record {
    current = are.current;
    least = are.least;
    most = are.most;
    odd = are.odd;
    since = omega (arith, are.since, one_longer kept.history commit);
    other_since = are.other_since;
  };
  current = subst (HoldsCommits (log_in index kept.pair.current) (since_of kept)) (sym (drop-append-le (since_of kept) kept.history (commit ∷ []) are.since))
      (holds_more (log_in kept.index kept.pair.current) (log_in index kept.pair.current) (since_of kept) (length kept.history + 1) (drop (since_of kept) kept.history) commit
      (omega (arith, length-drop (since_of kept) kept.history, are.since)) first has.pages has.numbers has.ends has.tails holds.current);
  other = subst (λ (commits : List Commit). HoldsCommits (log_in index (3 - kept.pair.current)) (other_since_of kept) (drop (other_since_of kept) commits))
      (sym (take-append-le (since_of kept) kept.history (commit ∷ []) are.since))
      (subst (λ (log : ℕ). HoldsCommits (log_in index log) (other_since_of kept) (drop (other_since_of kept) (take (since_of kept) kept.history))) (sym (other_is kept.pair.current are.current))
      (holds_same (log_in kept.index (other_number kept.pair.current)) (log_in index (other_number kept.pair.current)) (other_since_of kept) (drop (other_since_of kept) (take (since_of kept) kept.history)) has.other
      (subst (λ (log : ℕ). HoldsCommits (log_in kept.index log) (other_since_of kept) (drop (other_since_of kept) (take (since_of kept) kept.history))) (other_is kept.pair.current are.current) holds.other)));
})
  where
    are : AreLogs (two_logs kept) kept.history
    are = holds.are

pub logs_same : (kept : StoreData) (pair : PairView) (commit : Commit) (index : Indexed) → pair.current ≡ kept.pair.current → current_header pair ≡ current_header kept.pair
    → HasIndexed kept commit index → two_logs (committed kept pair index commit) ≡ two_logs kept
logs_same kept pair commit index same header has = λ i. record {
  current = same i;
  generation = (header i).generation;
  since = since_same kept pair commit index same has i;
  other_since = other_since_same kept pair commit index same has i;
  done = kept.state.done;
  copied = kept.state.copied;
  limit = kept.limit;
}

pub index_keeps : (kept : StoreData) (pair : PairView) (commit : Commit) (index : Indexed) → pair.current ≡ kept.pair.current → current_header pair ≡ current_header kept.pair
    → IsIndexOf kept.index (two_logs kept) kept.history → HasIndexed kept commit index → Contains commit.wrote 1
    → IsIndexOf index (two_logs (committed kept pair index commit)) (kept.history ++ commit ∷ [])
index_keeps kept pair commit index same header holds has first =
    index_at kept commit index (two_logs (committed kept pair index commit)) (logs_same kept pair commit index same header has) holds has first

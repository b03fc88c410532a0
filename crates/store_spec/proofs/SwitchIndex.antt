-- The index and the logs of a store that has gone over to its other log.
use Rattle.std.proofs.Common.{◌≡◌, ◌∙◌, ℕ, ◌+◌, ◌%◌, ◌-◌, Bool, true, false, if◌then◌else◌, List, [], length, take, drop, refl, sym, ap, subst, inl, inr, arith, Contains}
use Rattle.std.specs.Prelude.{◌⊎◌, ◌↔◌}
use Rattle.std.proofs.lemmas.Bool.{cases_lt}
use Rattle.std.proofs.lemmas.List.{take_all, drop_all}
use Rattle.std.proofs.lemmas.List.Elements.{All-nil}
use Rattle.log_spec.specs.Checksum.{Sum}
use Rattle.log_spec.specs.LogHeader.{LogFields}
use Rattle.engine_spec.specs.declared.commits.Commit.{Commit}
use Rattle.engine_spec.specs.declared.pins.Readers.{Readers}
use Rattle.engine_spec.specs.TwoLogs.{TwoLogs, may_switch, switched, to_write}
use Rattle.wal_index.specs.Index.{Indexed, IndexedLog, log_in}
use Rattle.wal_rules.specs.Indexing.{HoldsCommits, IsIndexOf}
use Rattle.log_pair.specs.Pair.{PairView, other_number, current_header, switched_pair}
use Rattle.log_pair.specs.Switch.{next_header}
use Rattle.store_spec.specs.Store.{StoreData, two_logs, since_of, other_since_of}
use Rattle.store_spec.specs.Steps.{IsSameLog, HasCleared, gone_over}
use Rattle.store_spec.specs.Standing.{IsWholeStore}
use Rattle.store_spec.proofs.Switching.{IsAllowed}
use Rattle.store_spec.proofs.Switched.{other_of_other, new_header_is}

-- the number of the other log, and of the one before that
pub other_is_3 : (log : ℕ) → (log ≡ 1) ⊎ (log ≡ 2) → other_number log ≡ 3 - log
other_is_3 log (inl is) = rw is refl
other_is_3 log (inr is) = rw is refl

odd_next : (generation log : ℕ) → (log ≡ 1) ⊎ (log ≡ 2) → (generation % 2 ≡ 1 ↔ log ≡ 1) → ((generation + 1) % 2 ≡ 1 ↔ 3 - log ≡ 1)
odd_next generation log (inl is) odd = let one = odd.1 is in (λ even. absurd (omega arith), λ two. absurd (omega arith))
odd_next generation log (inr is) odd = (
  λ even. omega arith,
  λ one. elim (cases_lt (generation % 2) 1) [
    | inl none ↦ omega arith
    | inr some ↦ absurd (let first = odd.0 (omega arith) in omega arith)
  ],
)

-- an index of the same
pub holds_same : (old new : IndexedLog) (before : ℕ) (commits : List Commit) → IsSameLog old new → HoldsCommits old before commits → HoldsCommits new before commits
holds_same old new before commits same holds = record {
  pages = same.pages ∙ holds.pages;
  numbers = same.numbers ∙ holds.numbers;
  ends = same.ends ∙ holds.ends;
  tails = same.tails ∙ holds.tails;
  first_pages = holds.first_pages;
}

module _ (kept : StoreData) (readers : Readers) (whole : IsWholeStore kept) (allowed : IsAllowed kept readers) (salt2 : ℕ) (sum : Sum) (index : Indexed) (cleared : HasCleared kept index) where
  abbrev over : PairView
  over = switched_pair kept.pair (next_header kept.pair salt2 sum)

  -- before the first commit of the new log there are all of them
  pub since_over : since_of (gone_over kept over index) ≡ length kept.history
  since_over = ap (λ (numbers : List ℕ). length kept.history - length numbers) cleared.numbers ∙ all (length kept.history)
    where
      all : (n : ℕ) → n - 0 ≡ n
      all n = omega arith

  -- and before the first of the other one as many as before
  pub other_since_over : other_since_of (gone_over kept over index) ≡ since_of kept
  other_since_over =
      ap (λ (n : ℕ). n - length (log_in index (other_number (other_number kept.pair.current))).numbers) since_over
      ∙ ap (λ (log : ℕ). length kept.history - length (log_in index log).numbers) (other_of_other kept.pair.current whole.pair.which)
      ∙ ap (λ (numbers : List ℕ). length kept.history - length numbers) cleared.current.numbers

  pub logs_over : two_logs (gone_over kept over index) ≡ switched (two_logs kept) kept.history
  logs_over = λ i. record {
    current = other_is_3 kept.pair.current whole.pair.which i;
    generation = ap (λ (h : LogFields). h.generation) (new_header_is kept.pair (next_header kept.pair salt2 sum)) i;
    since = since_over i;
    other_since = other_since_over i;
    done = false;
    copied = 0;
    limit = kept.limit;
  }

  -- as the switch rule has them
  pub logs_to_write : may_switch (two_logs kept) readers kept.history ≡ true → two_logs (gone_over kept over index) ≡ to_write (two_logs kept) readers kept.history
  logs_to_write may = logs_over ∙ sym (ap (λ (b : Bool). if b then switched (two_logs kept) kept.history else two_logs kept) may)

  none_held : HoldsCommits (log_in index (other_number kept.pair.current)) (length kept.history) []
  none_held = record { pages = cleared.pages; numbers = cleared.numbers; ends = cleared.ends; tails = cleared.tails; first_pages = All-nil (λ commit. Contains commit.wrote 1) }

  index_switched : IsIndexOf index (switched (two_logs kept) kept.history) kept.history
  index_switched = record {
    are = record {
      current = elim whole.pair.which [ inl one ↦ inr (omega arith) | inr two ↦ inl (omega arith) ];
      least = omega arith;
      most = let few = allowed.few in omega arith;
      odd = odd_next (current_header kept.pair).generation kept.pair.current whole.pair.which whole.index.are.odd;
      since = omega arith;
      other_since = omega arith;
    };
    current = subst (λ (log : ℕ). HoldsCommits (log_in index log) (length kept.history) (drop (length kept.history) kept.history)) (other_is_3 kept.pair.current whole.pair.which)
        (subst (λ (commits : List Commit). HoldsCommits (log_in index (other_number kept.pair.current)) (length kept.history) commits)
        (sym (drop_all (length kept.history) kept.history (omega arith))) none_held);
    other = subst (λ (log : ℕ). HoldsCommits (log_in index log) (since_of kept) (drop (since_of kept) (take (length kept.history) kept.history))) (back kept.pair.current whole.pair.which)
        (subst (λ (commits : List Commit). HoldsCommits (log_in index kept.pair.current) (since_of kept) (drop (since_of kept) commits))
        (sym (take_all (length kept.history) kept.history (omega arith)))
        (holds_same (log_in kept.index kept.pair.current) (log_in index kept.pair.current) (since_of kept) (drop (since_of kept) kept.history) cleared.current whole.index.current));
  }
    where
      back : (log : ℕ) → (log ≡ 1) ⊎ (log ≡ 2) → log ≡ 3 - (3 - log)
      back log (inl is) = omega arith
      back log (inr is) = omega arith

  -- The index is that of the logs and the history.
  pub index_over : IsIndexOf index (two_logs (gone_over kept over index)) kept.history
  index_over = subst (λ (logs : TwoLogs). IsIndexOf index logs kept.history) (sym logs_over) index_switched

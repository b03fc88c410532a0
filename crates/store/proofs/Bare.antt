-- The index of a store, whatever room it has.
use Rattle.std.proofs.Common.{◌≡◌, ◌==◌, Bool, true, false, if◌then◌else◌, ℕ, List, take, drop, refl, ap, subst}
use Rattle.engine_spec.specs.declared.commits.Commit.{Commit}
use Rattle.engine_spec.specs.TwoLogs.{TwoLogs, other_log}
use Rattle.wal_index.specs.Index.{Indexed, IndexedLog, log_in, SameLog}
use Rattle.wal_rules.specs.Indexing.{HoldsCommits, IsIndexOf}
use Rattle.store.specs.Kept.{bare, bare_log}

pub bare_in : (index : Indexed) (log : ℕ) → log_in (bare index) log ≡ bare_log (log_in index log)
bare_in index log = by (log == 1)
  where
    by : (first : Bool) → (if first then bare_log index.log1 else bare_log index.log2) ≡ bare_log (if first then index.log1 else index.log2)
    by true = refl
    by false = refl

pub bare_pages : (index : Indexed) (log : ℕ) → (log_in (bare index) log).pages ≡ (log_in index log).pages
bare_pages index log = ap (λ (l : IndexedLog). l.pages) (bare_in index log)

holds_bare : (log : IndexedLog) (before : ℕ) (commits : List Commit) → HoldsCommits (bare_log log) before commits → HoldsCommits log before commits
holds_bare log before commits holds = record { pages = holds.pages; numbers = holds.numbers; ends = holds.ends; tails = holds.tails; first_pages = holds.first_pages }

pub index_bare : (index : Indexed) (logs : TwoLogs) (history : List Commit) → IsIndexOf (bare index) logs history → IsIndexOf index logs history
index_bare index logs history is = record {
  are = is.are;
  current = holds_bare (log_in index logs.current) logs.since (drop logs.since history)
      (subst (λ (l : IndexedLog). HoldsCommits l logs.since (drop logs.since history)) (bare_in index logs.current) is.current);
  other = holds_bare (log_in index (other_log logs)) logs.other_since (drop logs.other_since (take logs.since history))
      (subst (λ (l : IndexedLog). HoldsCommits l logs.other_since (drop logs.other_since (take logs.since history))) (bare_in index (other_log logs)) is.other);
}

-- two logs that hold the same are the same but for their room
pub same_log : (old new : IndexedLog) → SameLog old new → bare_log new ≡ bare_log old
same_log old new same = λ i. record { pages = same.pages i; numbers = same.numbers i; ends = same.ends i; tails = same.tails i; room = 0; seals = 0 }

pub same_bare : (old new : Indexed) → SameLog old.log1 new.log1 → SameLog old.log2 new.log2 → bare new ≡ bare old
same_bare old new one two = λ i. record { log1 = same_log old.log1 new.log1 one i; log2 = same_log old.log2 new.log2 two i; last = 1 }

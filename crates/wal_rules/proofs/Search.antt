-- The search for the least conflict, from the last page to the first.
use Rattle.std.proofs.Common.{◌≡◌, ◌∙◌, ℕ, suc, ◌-◌, ◌<◌, ◌≤◌, Bool, List, [], ◌∷◌, length, drop, slice_index, Option, Some, None, refl, sym, ap, arith}
use Rattle.std.specs.Option.{option_map}
use Rattle.std.proofs.Math.Seq.{drop-cons}
use Rattle.engine_spec.specs.declared.commits.Commit.{Commit}
use Rattle.engine_spec.specs.History.{or_others, lesser, conflict}
use Rattle.engine_spec.specs.TwoLogs.{TwoLogs}
use Rattle.engine_spec.proofs.Conflicts.{no_conflict, is_conflict}
use Rattle.wal_index.specs.Index.{Indexed, by_tail, FirstWriterOfBoth}
use Rattle.wal_rules.specs.declared.conflict.Conflict.{Conflict}
use Rattle.wal_rules.specs.Indexing.{IsIndexOf}
use Rattle.wal_rules.specs.Rules.{mode_of, pair_of, Finds}
use Rattle.wal_rules.proofs.Conflicts.{first_is}

-- The pages from this place on were looked at, and this is what they gave, whatever the history of which this is the index.
pub record HasFound (whole : Bool) (index : Indexed) (n : ℕ) (pages : List ℕ) (left : ℕ) (found : Option Conflict) : Type 0 where
  pub inside : left ≤ length pages
  pub is : (logs : TwoLogs) (history : List Commit) → IsIndexOf index logs history → logs.other_since ≤ n → n ≤ length history
      → option_map pair_of found ≡ conflict (mode_of whole) (drop left pages) n history

-- none was looked at
pub at_end : (whole : Bool) (index : Indexed) (n : ℕ) (pages : List ℕ) → HasFound whole index n pages (length pages) None
at_end whole index n pages = record {
  inside = omega arith;
  is = λ logs history indexed behind within. sym (ap (λ (ps : List ℕ). conflict (mode_of whole) ps n history) (drop_all pages));
}
  where
    drop_all : (pages : List ℕ) → drop (length pages) pages ≡ []
    drop_all [] = refl
    drop_all (page ∷ pages) = drop_all pages

-- the pages from a place on are the one there and those behind it
one_more_page : (pages : List ℕ) (left : ℕ) → 0 < left → left ≤ length pages → drop (left - 1) pages ≡ slice_index pages (left - 1) ∷ drop left pages
one_more_page pages left some inside =
    drop-cons pages (left - 1) 0 (omega arith) ∙ ap (λ (n : ℕ). slice_index pages (left - 1) ∷ drop n pages) (back left some)
  where
    back : (left : ℕ) → 0 < left → suc (left - 1) ≡ left
    back left some = omega arith

-- no commit wrote the next page
pub not_here : (whole : Bool) (index : Indexed) (n : ℕ) (pages : List ℕ) (left : ℕ) (found : Option Conflict) (here : Option ℕ) → 0 < left
    → here ≡ None → FirstWriterOfBoth (by_tail (slice_index pages (left - 1)) whole) index n (slice_index pages (left - 1)) here
    → HasFound whole index n pages left found → HasFound whole index n pages (left - 1) found
not_here whole index n pages left found here some none first before = record {
  inside = omega (arith, before.inside);
  is = λ logs history indexed behind within.
      let page = slice_index pages (left - 1) in
      let others = conflict (mode_of whole) (drop left pages) n history in
      before.is logs history indexed behind within
      ∙ ap (λ (first : Option ℕ). or_others page first others) (sym none ∙ first_is whole page index logs history n here indexed behind within first)
      ∙ ap (λ (ps : List ℕ). conflict (mode_of whole) ps n history) (sym (one_more_page pages left some before.inside));
}

-- this commit wrote it
pub found_here : (whole : Bool) (index : Indexed) (n : ℕ) (pages : List ℕ) (left : ℕ) (found : Option Conflict) (here : Option ℕ) (commit : ℕ) (best : Conflict)
    → 0 < left → here ≡ Some commit → FirstWriterOfBoth (by_tail (slice_index pages (left - 1)) whole) index n (slice_index pages (left - 1)) here
    → Some (pair_of best) ≡ lesser (slice_index pages (left - 1), commit) (option_map pair_of found)
    → HasFound whole index n pages left found → HasFound whole index n pages (left - 1) (Some best)
found_here whole index n pages left found here commit best some is_here first is_best before = record {
  inside = omega (arith, before.inside);
  is = λ logs history indexed behind within.
      let page = slice_index pages (left - 1) in
      let others = conflict (mode_of whole) (drop left pages) n history in
      is_best
      ∙ ap (lesser (page, commit)) (before.is logs history indexed behind within)
      ∙ ap (λ (first : Option ℕ). or_others page first others) (sym is_here ∙ first_is whole page index logs history n here indexed behind within first)
      ∙ ap (λ (ps : List ℕ). conflict (mode_of whole) ps n history) (sym (one_more_page pages left some before.inside));
}

-- all were looked at
pub found_all : (whole : Bool) (index : Indexed) (n : ℕ) (pages reads : List ℕ) (left : ℕ) (found : Option Conflict) → pages ≡ reads → left ≡ 0
    → HasFound whole index n pages left found → (logs : TwoLogs) (history : List Commit) → IsIndexOf index logs history → logs.other_since ≤ n
    → n ≤ length history → Finds whole reads n history found
found_all whole index n pages reads left found same none before logs history indexed behind within =
    at found (before.is logs history indexed behind within
    ∙ ap (λ (k : ℕ). conflict (mode_of whole) (drop k pages) n history) none ∙ ap (λ (ps : List ℕ). conflict (mode_of whole) ps n history) same)
  where
    at : (found : Option Conflict) → option_map pair_of found ≡ conflict (mode_of whole) reads n history → Finds whole reads n history found
    at None is = no_conflict (mode_of whole) reads n history (sym is)
    at (Some one) is = is_conflict (mode_of whole) reads n history one.page one.commit (sym is)

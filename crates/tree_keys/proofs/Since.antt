-- What is said after pages were read, said since before.
use Rattle.std.proofs.Common.{◌≡◌, ℕ, ◌≤◌, Bool, true, false, cond, List, [], ◌∷◌, ◌++◌, sym, subst, arith, inl, inr}
use Rattle.std.specs.Prelude.{◌⊎◌, Contains}
use Rattle.page_spec.specs.View.{View}
use Rattle.engine_spec.specs.PageSet.{with_page}
use Rattle.engine_spec.proofs.PageSets.{with_cases}
use Rattle.page_face.specs.declared.pages_tells.PagesTells.{Ghosts}
use Rattle.page_face.specs.Pages.{ReadsAtMost}
use Rattle.tree_spec.specs.Layout.{times, Item}
use Rattle.tree_spec.specs.Shown.{Shown}
use Rattle.tree_spec.specs.Trees.{IsTree}
use Rattle.overflow.specs.Following.{shown_over, all_read}
use Rattle.edit_spec.proofs.Lists.{cons_count, page_there}
use Rattle.tree_read.specs.Ways.{GoesOn, IsWay}
use Rattle.tree_read.proofs.Descents.{same_shown}
use Rattle.tree_keys.specs.Keys.{Sought, OfRow, OfEntry}
use Rattle.tree_keys.specs.Spots.{NamesNext, IsPath, IsOfPath, StaysOnPath}
use Rattle.tree_keys.specs.Standing.{Stands}

page_is : (page n : ℕ) → page ≡ n → 1 ≤ times (page ∷ []) n
page_is page n same = subst (λ (k : ℕ). 1 ≤ times (page ∷ []) k) same (page_there page)

-- what was read once a list was
pub reads_all : (has : ℕ → Bool) (reads list : List ℕ) (n : ℕ) → Contains (all_read has reads list) n → Contains reads n ⊎ (1 ≤ times list n)
reads_all has reads [] n there = inl there
reads_all has reads (page ∷ list) n there = elim (reads_all has (cond (has page) reads (with_page reads page)) list n there) [
  | inl before ↦ by_case (has page) before
  | inr later ↦ inr (omega (arith, later))
]
  where
    by_case : (had : Bool) → Contains (cond had reads (with_page reads page)) n → Contains reads n ⊎ (1 ≤ times (page ∷ list) n)
    by_case true here = inl here
    by_case false here = elim (with_cases reads page n here) [
      | inl same ↦ inr (omega (arith, page_is page n (sym same), cons_count page list n))
      | inr before ↦ inl before
    ]

-- a tree stands still
pub stands_then : {P : Type 0} (pages : Ghosts P) (old now : P) → ReadsAtMost pages old now → (world : View) → pages.tells now world → (table : Bool) (height root : ℕ) (own : List ℕ) (items : List Item)
    → Stands pages old world table height root own items → Stands pages now world table height root own items
stands_then pages old now only world told table height root own items stands = record {
  neat = (only.each world told).list.neat stands.neat;
  tree = subst (λ (s : Shown). IsTree table (pages.usable now) (pages.last_page now) s height root own items) (sym (same_shown pages old now only world told))
      (subst (λ (u : ℕ). IsTree table u (pages.last_page now) (shown_over pages old world) height root own items) (sym only.edits.usable)
      (subst (λ (l : ℕ). IsTree table (pages.usable old) l (shown_over pages old world) height root own items) (sym only.last) stands.tree));
  used = λ n there. let here = stands.used n there in (here.0, λ free. here.1 ((only.each world told).list.none_more n free));
}

-- the path, as it was
pub path_since : {P : Type 0} (pages : Ghosts P) (old now : P) → ReadsAtMost pages old now → (world : View) → pages.tells now world → (sought : Sought) (level page : ℕ) (path read put : List ℕ)
    → StaysOnPath sought (pages.usable now) (pages.last_page now) (shown_over pages now world) level page path read put
    → StaysOnPath sought (pages.usable old) (pages.last_page old) (shown_over pages old world) level page path read put
path_since pages old now only world told sought level page path read put on =
    subst (λ (u : ℕ). StaysOnPath sought u (pages.last_page old) (shown_over pages old world) level page path read put) only.edits.usable
    (subst (λ (l : ℕ). StaysOnPath sought (pages.usable now) l (shown_over pages old world) level page path read put) only.last
    (subst (λ (s : Shown). StaysOnPath sought (pages.usable now) (pages.last_page now) s level page path read put) (same_shown pages old now only world told) on))

-- a path begins with its page
pub path_begins : (sought : Sought) (usable last : ℕ) (shown : Shown) (level page : ℕ) (path : List ℕ) → IsPath sought usable last shown level page path → 1 ≤ times path page
path_begins sought usable last shown level page path is = subst (λ (l : List ℕ). 1 ≤ times l page) (sym is.are) (by_way is.way is.leads)
  where
    by_way : (way : List ℕ) → IsWay (GoesOn last (NamesNext sought usable last shown)) level page way is.end → 1 ≤ times (way ++ (is.end ∷ [])) page
    by_way [] leads = page_is is.end page leads
    by_way (p ∷ ps) leads = omega (arith, page_is p page leads.0, cons_count p (ps ++ (is.end ∷ [])) page)

-- a page of the path may be read
pub of_path : (sought : Sought) (usable last : ℕ) (shown : Shown) (path : List ℕ) (n : ℕ) → 1 ≤ times path n → IsOfPath sought usable last shown path n
of_path (OfRow rowid) usable last shown path n there = there
of_path (OfEntry entry) usable last shown path n there = inl there

-- Laws of sets of pages that were given up: what adding one and taking it out again changes.
use Rattle.std.proofs.Common.{◌≡◌, ◌∙◌, ℕ, ◌<◌, ◌≤◌, zero, suc, List, [], ◌∷◌, ◌++◌, Result, Ok, Err, refl, sym, ap, inl, inr, arith, eq-eqb}
use Rattle.std.specs.List.{insert, remove}
use Rattle.std.specs.List.Sorted.{IsBinarySearchResult}
use Rattle.std.specs.Ordering.{nat_cmp}
use Rattle.std.proofs.lemmas.Bool.{cases_eq, cases_order, ne_eqb}
use Rattle.std.proofs.lemmas.List.Sorted.{searched}
use Rattle.engine_spec.specs.PageSet.{with_page}
use Rattle.engine_spec.proofs.PageSets.{with_same, with_before, with_after, with_new}
use Rattle.overlay.specs.Places.{RisesFrom, IsPlace}
use Rattle.overlay.specs.FreedPages.{without_page, taken_back}
use Rattle.overlay.proofs.Searching.{above_low, rises_far}

-- what a binary search finds is the page's place
pub is_place_in : (pages : List ℕ) (page : ℕ) (answer : Result ℕ ℕ) → RisesFrom 0 pages → IsBinarySearchResult (λ y. nat_cmp y page) pages answer
    → IsPlace pages page answer
is_place_in pages page (Ok at) rises found = searched pages page (Ok at) found (rises_far 0 pages rises)
is_place_in pages page (Err at) rises found = searched pages page (Err at) found (rises_far 0 pages rises)

-- a page taken out of a set whose first page it is, or isn't
without_first : (first : ℕ) (pages : List ℕ) (page : ℕ) → page ≡ first → without_page (first ∷ pages) page ≡ pages
without_first first pages page same = rw (eq-eqb page first same) refl

without_past : (first : ℕ) (pages : List ℕ) (page : ℕ) → (page ≡ first → ⊥) → without_page (first ∷ pages) page ≡ first ∷ without_page pages page
without_past first pages page apart = rw (ne_eqb page first apart) refl

-- a page's place among the others
behind : (first : ℕ) (pages : List ℕ) (page at : ℕ) → IsPlace (first ∷ pages) page (Err (suc at)) → IsPlace pages page (Err at)
behind first pages page at place =
    let within = place.0 in
    (omega arith, λ k before. place.1 (suc k) (omega arith), λ k least inside. place.2 (suc k) (omega arith) (omega arith))

-- a page that wasn't there, added and taken out
pub without_with : (pages : List ℕ) (page at : ℕ) → IsPlace pages page (Err at) → without_page (with_page pages page) page ≡ pages
without_with [] page at place = without_first page [] page refl
without_with (first ∷ pages) page zero place =
    rw (with_before first pages page (place.2 zero (omega arith) (omega arith))) (without_first page (first ∷ pages) page refl)
without_with (first ∷ pages) page (suc at) place =
    let above = place.1 zero (omega arith) in
    rw (with_after first pages page above)
    (without_past first (with_page pages page) page (λ e. omega arith)
    ∙ ap (λ (rest : List ℕ). first ∷ rest) (without_with pages page at (behind first pages page at place)))

-- taking out a page that isn't there changes nothing
pub without_none : (pages : List ℕ) (page at : ℕ) → IsPlace pages page (Err at) → without_page pages page ≡ pages
without_none [] page at place = refl
without_none (first ∷ pages) page zero place =
    let below = place.2 zero (omega arith) (omega arith) in
    without_past first pages page (λ e. omega arith)
    ∙ ap (λ (rest : List ℕ). first ∷ rest)
    (without_none pages page zero
    (omega arith, λ k within. absurd (omega arith), λ k least within. place.2 (suc k) (omega arith) (omega arith)))
without_none (first ∷ pages) page (suc at) place =
    let above = place.1 zero (omega arith) in
    without_past first pages page (λ e. omega arith)
    ∙ ap (λ (rest : List ℕ). first ∷ rest) (without_none pages page at (behind first pages page at place))

-- and one that is there is taken out at its place
pub without_there : (low : ℕ) (pages : List ℕ) (page at : ℕ) → RisesFrom low pages → IsPlace pages page (Ok at) → remove pages at ≡ without_page pages page
without_there low [] page at rises place = absurd (let within = place.0 in omega arith)
without_there low (first ∷ pages) page zero rises place = sym (without_first first pages page (sym place.1))
without_there low (first ∷ pages) page (suc at) rises place =
    let within = place.0 in
    let above = above_low first pages at rises.1 (omega arith) in
    let same = place.1 in
    ap (λ (rest : List ℕ). first ∷ rest) (without_there first pages page at rises.1 (omega arith, same))
    ∙ sym (without_past first pages page (λ e. omega arith))

-- a page that is there changes nothing
pub with_found : (low : ℕ) (pages : List ℕ) (page at : ℕ) → RisesFrom low pages → IsPlace pages page (Ok at) → with_page pages page ≡ pages
with_found low [] page at rises place = absurd (let within = place.0 in omega arith)
with_found low (first ∷ pages) page zero rises place = with_same first pages page (sym place.1)
with_found low (first ∷ pages) page (suc at) rises place =
    let within = place.0 in
    let above = above_low first pages at rises.1 (omega arith) in
    let same = place.1 in
    with_after first pages page (omega arith)
    ∙ ap (λ (rest : List ℕ). first ∷ rest) (with_found first pages page at rises.1 (omega arith, same))

-- and one that isn't is put at its place
pub with_missed : (pages : List ℕ) (page at : ℕ) → IsPlace pages page (Err at) → insert pages at page ≡ with_page pages page
with_missed pages page at place = sym (with_new pages page at place.0 place.1 place.2)

-- numbers that rise from one rise from each lesser one
pub numbers_lower : (low lower : ℕ) (pages : List ℕ) → lower ≤ low → RisesFrom low pages → RisesFrom lower pages
numbers_lower low lower [] less rises = tt
numbers_lower low lower (page ∷ pages) less rises = (let above = rises.0 in omega arith, rises.1)

-- they rise with one more
pub rises_with : (low : ℕ) (pages : List ℕ) (page : ℕ) → RisesFrom low pages → low < page → RisesFrom low (with_page pages page)
rises_with low [] page rises past = (past, tt)
rises_with low (first ∷ pages) page rises past = elim (cases_order page first) [
  | inl same ↦ rw (with_same first pages page same) rises
  | inr (inl below) ↦ rw (with_before first pages page below) (past, (below, rises.1))
  | inr (inr above) ↦ rw (with_after first pages page above) (rises.0, rises_with first pages page rises.1 above)
]

-- and with one fewer
pub rises_without : (low : ℕ) (pages : List ℕ) (page : ℕ) → RisesFrom low pages → RisesFrom low (without_page pages page)
rises_without low [] page rises = tt
rises_without low (first ∷ pages) page rises = elim (cases_eq page first) [
  | inl same ↦ rw (without_first first pages page same) (numbers_lower first low pages (let above = rises.0 in omega arith) rises.1)
  | inr apart ↦ rw (without_past first pages page apart) (rises.0, rises_without first pages page rises.1)
]

-- the last page that was added is taken out first
pub taken_last : (set pages : List ℕ) (page : ℕ) → taken_back set (pages ++ page ∷ []) ≡ taken_back (without_page set page) pages
taken_last set [] page = refl
taken_last set (first ∷ pages) page = ap (λ (all : List ℕ). without_page all first) (taken_last set pages page)

-- Laws of a set of page numbers: what it has, its order, and where a page comes to stand.
use Rattle.std.proofs.Common.{◌≡◌, ℕ, ◌<◌, ◌≤◌, List, [], ◌∷◌, length, get_or, zero, suc, refl, sym, subst, ap, ◌∙◌, inl, inr, arith, add-one, eq-eqb}
use Rattle.std.specs.Prelude.{Contains, ◌⊎◌, ◌↔◌}
use Rattle.std.specs.List.{insert}
use Rattle.std.specs.List.Sorted.{IsStrictlyIncreasing}
use Rattle.std.proofs.lemmas.Bool.{cases_eq, cases_order, ne_eqb, lt-ltb, le-ltb}
use Rattle.engine_spec.specs.PageSet.{with_page}
use Rattle.engine_spec.proofs.Conflicts.{contains_cases, contains_more}

-- a page put into a set whose first page it is, or before its first page, or behind it
pub with_same : (first : ℕ) (pages : List ℕ) (page : ℕ) → page ≡ first → with_page (first ∷ pages) page ≡ first ∷ pages
with_same first pages page same = rw (eq-eqb page first same) refl

pub with_before : (first : ℕ) (pages : List ℕ) (page : ℕ) → page < first → with_page (first ∷ pages) page ≡ page ∷ first ∷ pages
with_before first pages page below = rw (ne_eqb page first (λ e. omega arith), lt-ltb page first below) refl

pub with_after : (first : ℕ) (pages : List ℕ) (page : ℕ) → first < page
    → with_page (first ∷ pages) page ≡ first ∷ with_page pages page
with_after first pages page above = rw (ne_eqb page first (λ e. omega arith), le-ltb page first (omega arith)) refl

-- the set with a page has that page and what it had
pub with_has : (pages : List ℕ) (page : ℕ) → Contains (with_page pages page) page
with_has [] page = (zero, omega arith, refl)
with_has (first ∷ pages) page = elim (cases_order page first) [
  | inl same ↦ subst (λ (set : List ℕ). Contains set page) (sym (with_same first pages page same)) (zero, omega arith, sym same)
  | inr (inl below) ↦
      subst (λ (set : List ℕ). Contains set page) (sym (with_before first pages page below)) (zero, omega arith, refl)
  | inr (inr above) ↦
      subst (λ (set : List ℕ). Contains set page) (sym (with_after first pages page above))
      (contains_more first page (with_page pages page) (with_has pages page))
]

pub with_keeps : (pages : List ℕ) (page q : ℕ) → Contains pages q → Contains (with_page pages page) q
with_keeps [] page q there = absurd (omega (arith, there.1))
with_keeps (first ∷ pages) page q there = elim (cases_order page first) [
  | inl same ↦ subst (λ (set : List ℕ). Contains set q) (sym (with_same first pages page same)) there
  | inr (inl below) ↦
      subst (λ (set : List ℕ). Contains set q) (sym (with_before first pages page below))
      (contains_more page q (first ∷ pages) there)
  | inr (inr above) ↦
      subst (λ (set : List ℕ). Contains set q) (sym (with_after first pages page above))
      (elim (contains_cases first q pages there) [
        | inl e ↦ (zero, omega arith, e)
        | inr later ↦ contains_more first q (with_page pages page) (with_keeps pages page q later)
      ])
]

-- and no others
pub with_cases : (pages : List ℕ) (page q : ℕ) → Contains (with_page pages page) q → (q ≡ page) ⊎ Contains pages q
with_cases [] page q there = elim (contains_cases page q [] there) [ inl e ↦ inl (sym e) | inr none ↦ inr none ]
with_cases (first ∷ pages) page q there = elim (cases_order page first) [
  | inl same ↦ inr (subst (λ (set : List ℕ). Contains set q) (with_same first pages page same) there)
  | inr (inl below) ↦
      (elim (contains_cases page q (first ∷ pages) (subst (λ (set : List ℕ). Contains set q) (with_before first pages page below) there)) [
        | inl e ↦ inl (sym e)
        | inr others ↦ inr others
      ])
  | inr (inr above) ↦
      (elim (contains_cases first q (with_page pages page) (subst (λ (set : List ℕ). Contains set q) (with_after first pages page above) there)) [
        | inl e ↦ inr (zero, omega arith, e)
        | inr others ↦ elim (with_cases pages page q others) [
          | inl same ↦ inl same
          | inr later ↦ inr (contains_more first q pages later)
        ]
      ])
]

-- what the set with a page has, in one
pub contains_with : (pages : List ℕ) (page q : ℕ) → Contains (with_page pages page) q ↔ ((q ≡ page) ⊎ Contains pages q)
contains_with pages page q = (
  with_cases pages page q,
  λ one. elim one [
    | inl same ↦ subst (Contains (with_page pages page)) (sym same) (with_has pages page)
    | inr there ↦ with_keeps pages page q there
  ],
)

-- a set with a first element that is below it rises
rises_more : (first : ℕ) (pages : List ℕ) → (0 < length pages → first < get_or pages 0 0) → IsStrictlyIncreasing pages
    → IsStrictlyIncreasing (first ∷ pages)
rises_more first pages below rises zero within = below (omega arith)
rises_more first pages below rises (suc k) within =
    let step = rises k (omega arith) in
    rw (add-one (suc k)) (rw (add-one k) at step)

rises_rest : (first : ℕ) (pages : List ℕ) → IsStrictlyIncreasing (first ∷ pages) → IsStrictlyIncreasing pages
rises_rest first pages rises k within =
    let step = rises (suc k) (omega arith) in
    rw (add-one k) (rw (add-one (suc k)) at step)

below_with : (pages : List ℕ) (page bound : ℕ) → bound < page → (0 < length pages → bound < get_or pages 0 0)
    → bound < get_or (with_page pages page) 0 0
below_with [] page bound past below = past
below_with (first ∷ pages) page bound past below = elim (cases_order page first) [
  | inl same ↦ rw (with_same first pages page same) (below (omega arith))
  | inr (inl least) ↦ rw (with_before first pages page least) past
  | inr (inr above) ↦ rw (with_after first pages page above) (below (omega arith))
]

-- a set stays in rising order
pub with_rises : (pages : List ℕ) (page : ℕ) → IsStrictlyIncreasing pages → IsStrictlyIncreasing (with_page pages page)
with_rises [] page rises = λ k within. absurd (omega arith)
with_rises (first ∷ pages) page rises = elim (cases_order page first) [
  | inl same ↦ subst IsStrictlyIncreasing (sym (with_same first pages page same)) rises
  | inr (inl below) ↦
      subst IsStrictlyIncreasing (sym (with_before first pages page below))
      (rises_more page (first ∷ pages) (λ some. below) rises)
  | inr (inr above) ↦
      subst IsStrictlyIncreasing (sym (with_after first pages page above))
      (rises_more first (with_page pages page)
      (λ some. below_with pages page first above (λ more. rises zero (omega arith)))
      (with_rises pages page (rises_rest first pages rises)))
]

-- in a set that rises no page is below one before it
pub rises_far : (pages : List ℕ) → IsStrictlyIncreasing pages → (i j : ℕ) → i ≤ j → j < length pages
    → get_or pages i 0 ≤ get_or pages j 0
rises_far pages rises i zero before within =
    let same : i ≡ zero = omega arith in
    rw same (omega arith)
rises_far pages rises i (suc j) before within = elim (cases_eq i (suc j)) [
  | inl same ↦ rw same (omega arith)
  | inr apart ↦
      (let step : get_or pages j 0 < get_or pages (suc j) 0 = rw (add-one j) at (rises j (omega arith)) in
      let rest = rises_far pages rises i j (omega arith) (omega arith) in
      omega arith)
]

-- in a set that rises the first page is below the others
first_below : (first : ℕ) (pages : List ℕ) (i : ℕ) → IsStrictlyIncreasing (first ∷ pages) → i < length pages
    → first < get_or pages i 0
first_below first pages zero rises within = rises zero (omega arith)
first_below first pages (suc i) rises within =
    let step = rises (suc i) (omega arith) in
    let more : get_or pages i 0 < get_or pages (suc i) 0 = rw (add-one (suc i)) at step in
    let before = first_below first pages i rises (omega arith) in
    omega arith

-- a page that is there changes nothing
pub with_there : (pages : List ℕ) (page i : ℕ) → IsStrictlyIncreasing pages → i < length pages → get_or pages i 0 ≡ page
    → with_page pages page ≡ pages
with_there [] page i rises within is = absurd (omega arith)
with_there (first ∷ pages) page zero rises within is = with_same first pages page (sym is)
with_there (first ∷ pages) page (suc i) rises within is =
    let below = first_below first pages i rises (omega arith) in
    with_after first pages page (omega arith)
    ∙ ap (λ (rest : List ℕ). first ∷ rest) (with_there pages page i (rises_rest first pages rises) (omega arith) is)

-- a page that isn't there comes behind the lesser ones
pub with_new : (pages : List ℕ) (page at : ℕ) → at ≤ length pages → ((k : ℕ) → k < at → get_or pages k 0 < page)
    → ((k : ℕ) → at ≤ k → k < length pages → page < get_or pages k 0) → with_page pages page ≡ insert pages at page
with_new [] page zero within below above = refl
with_new [] page (suc at) within below above = absurd (omega arith)
with_new (first ∷ pages) page zero within below above = with_before first pages page (above zero (omega arith) (omega arith))
with_new (first ∷ pages) page (suc at) within below above =
    with_after first pages page (below zero (omega arith))
    ∙ ap (λ (rest : List ℕ). first ∷ rest)
    (with_new pages page at (omega arith) (λ k l. below (suc k) (omega arith)) (λ k l m. above (suc k) (omega arith) (omega arith)))

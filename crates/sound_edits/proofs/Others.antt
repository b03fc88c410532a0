-- The pages of other trees than the one that is edited: they show the same, are in use still, and none of them is the tree's.
use Rattle.std.proofs.Common.{◌≡◌, ℕ, zero, suc, ◌+◌, ◌≤◌, List, [], ◌∷◌, ◌++◌, refl, sym, subst, ap, ◌∙◌, arith, inl, inr}
use Rattle.std.proofs.lemmas.Bool.{cases_eq, ne_eqb}
use Rattle.std.specs.Prelude.{◌⊎◌}
use Rattle.page_spec.specs.View.{View}
use Rattle.page_face.specs.declared.pages_tells.PagesTells.{Ghosts}
use Rattle.tree_spec.specs.Layout.{times, Item}
use Rattle.tree_spec.proofs.Lists.{times-append}
use Rattle.overflow.specs.Following.{shown_over}
use Rattle.overflow.specs.Editing.{AreInUse}
use Rattle.tree_edit.specs.Editing.{PageLists, IsFreeBy, kept, taken, given}
use Rattle.tree_edit.proofs.Edits.{alike, still_used}
use Rattle.sound_spec.specs.Sound.{IsSoundTrees}
use Rattle.sound_spec.proofs.Within.{AreInRange, of_each}
use Rattle.sound_spec.proofs.Local.{AreAlike}
use Rattle.sound_spec.proofs.Apart.{used_range}
use Rattle.sound_edits.specs.Standing.{TreesStand, ChangesPages}

pub some_or_none : (n : ℕ) → (n ≡ 0) ⊎ (1 ≤ n)
some_or_none zero = inl refl
some_or_none (suc n) = inr (omega arith)

none_of : (m n : ℕ) → (1 ≤ m → 1 ≤ n) → n ≡ 0 → m ≡ 0
none_of m n if none = elim (some_or_none m) [
  | inl is ↦ is
  | inr some ↦ absurd (omega (arith, if some, none))
]

-- pages of other trees: they are in use, and aren't the tree's
abbrev pub AreOthers : {P : Type 0} → Ghosts P → P → View → (own others : List ℕ) → Type 0
AreOthers pages at world own others = (n : ℕ) → 1 ≤ times others n → (1 ≤ n) × (pages.free at world n → ⊥) × (times own n ≡ 0)

-- a page in use that isn't given up isn't made either: what is made was free
not_made : {Before After : Type 0} (made gone : ℕ) → (Before → ⊥) → gone ≡ 0 → IsFreeBy Before After made gone → made ≡ 0
not_made made gone used none (kept e on back) = omega (arith, e, none)
not_made made gone used none (taken e was not) = absurd (used was)
not_made made gone used none (given e not is) = absurd (omega (arith, e, none))

module _ {P : Type 0} (pages : Ghosts P) (lists : PageLists) (own own_then : List ℕ) (old new : P) (world : View) (is : ChangesPages pages lists own own_then old new world) where
  pub others_alike : (others : List ℕ) → AreOthers pages old world own others → AreAlike (shown_over pages old world) (shown_over pages new world) others
  others_alike others are n there =
      let (least, used, apart) = are n there in
      alike pages lists old new world is.edits is.usable n least used (none_of (times lists.put n) (times own n) (is.put n) apart) (none_of (times lists.gone n) (times own n) (is.gone n) apart)

  pub others_used : (others : List ℕ) → AreOthers pages old world own others → AreOthers pages new world own_then others
  others_used others are n there =
      let (least, used, apart) = are n there in
      let gone = none_of (times lists.gone n) (times own n) (is.gone n) apart in
      let made = not_made (times lists.made n) (times lists.gone n) used gone (is.edits.free n) in
      (least, still_used pages lists old new world is.edits n used gone, omega (arith, is.counts n, apart, gone, made))

  -- With the tree's pages then each page is in use, and in one place.
  pub in_use_then : (others used_then : List ℕ) → AreOthers pages old world own others → AreInUse pages new world own_then → ((n : ℕ) → times others n ≤ 1)
      → ((n : ℕ) → times used_then n ≡ times others n + times own_then n) → AreInUse pages new world used_then
  in_use_then others used_then are own_used once sum n there = elim (some_or_none (times own_then n)) [
    | inl none ↦
        let found = others_used others are n (omega (arith, sum n, there, none)) in
        (omega (arith, sum n, none, once n), found.1)
    | inr some ↦
        elim (some_or_none (times others n)) [
          | inl none ↦
              let found = own_used n some in
              (omega (arith, sum n, none, found.0), found.1)
          | inr both ↦
              let found = others_used others are n both in
              absurd (omega (arith, found.2, some))
        ]
  ]

-- page 1 and pages in range are no less than 1
least : (last : ℕ) (rest : List ℕ) (n : ℕ) → 1 ≤ times (1 ∷ rest) n → AreInRange last rest → 1 ≤ n
least last rest n there range = elim (cases_eq 1 n) [
  | inl same ↦ omega (arith, same)
  | inr apart ↦
      let behind = rw (ne_eqb 1 n apart) at there in
      let found = of_each (λ m. (2 ≤ m) × (m ≤ last)) rest n range (omega (arith, behind)) in
      omega (arith, found.0)
]

-- used pages but for the tree's are those of other trees
pub others_of : {P : Type 0} (pages : Ghosts P) (at : P) (world : View) (roots used own others : List ℕ) (rows : List Item) → TreesStand pages at world roots used rows
    → ((n : ℕ) → times used n ≡ times others n + times own n) → AreOthers pages at world own others
others_of pages at world roots used own others rows s sum n there =
    let found = s.in_use n (omega (arith, sum n, there)) in
    let (rest, used_is, range) = used_range (pages.usable at) (pages.last_page at) (shown_over pages at world) roots used rows s.trees.trees in (
      least (pages.last_page at) rest n (subst (λ (l : List ℕ). 1 ≤ times l n) used_is (omega (arith, sum n, there))) range,
      found.1,
      omega (arith, sum n, there, found.0),
    )

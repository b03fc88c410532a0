-- Which numbers are free over a world where a page is put, made or given up.
use Rattle.std.proofs.Common.{◌≡◌, ◌∙◌, ℕ, ◌+◌, ◌≤◌, List, [], ◌∷◌, refl, sym, subst, ap, arith, inl, inr, eq-eqb}
use Rattle.std.specs.Prelude.{Contains}
use Rattle.std.proofs.lemmas.Bool.{cases_eq, ne_eqb}
use Rattle.page_spec.specs.Bytes.{u32_at}
use Rattle.page_spec.specs.View.{View, view_with}
use Rattle.engine_spec.specs.declared.commits.Mode.{Mode}
use Rattle.engine_spec.specs.declared.commits.Mode.TheVariants.{Plain, Concurrent}
use Rattle.engine_spec.specs.Change.{Change}
use Rattle.engine_spec.specs.PageSet.{with_page}
use Rattle.engine_spec.proofs.PageSets.{with_cases}
use Rattle.page_face.specs.Pages.{LeavesFields}
use Rattle.tree_spec.specs.Layout.{times, Each}
use Rattle.tree_spec.proofs.Freelists.{freelist_range}
use Rattle.overlay.specs.Overlay.{over_change, with_own, with_new, with_freed_page, last_page, IsChangeInOrder}
use Rattle.overlay.specs.FreeNumbers.{trunk_field, count_field, IsListed, IsListNeat, IsFreeOver, IsNeatOver}
use Rattle.overlay.proofs.Fields.{trunk_same, count_same}
use Rattle.overlay.proofs.Listing.{SameListed, same_listed, KeepsFreeOver, listed_over}
use Rattle.overlay.proofs.Writing.{over_put, own_mode, own_base, same_freed, free_put, unfree_put, over_made, freed_free, free_freed, unfree_freed, made_unfree}

-- a view with one page changed shows the others as before
pub other_than : (view : View) (page : ℕ) (bytes : List ℕ) (number : ℕ) → (number ≡ page → ⊥) → view_with view page bytes number ≡ view number
other_than view page bytes number apart = rw (ne_eqb number page apart) refl

pub here_with : (view : View) (page : ℕ) (bytes : List ℕ) → view_with view page bytes page ≡ bytes
here_with view page bytes = rw (eq-eqb page page refl) refl

-- what holds of each page of a list
pub of_times : (P : ℕ → Type 0) (list : List ℕ) (number : ℕ) → Each P list → 1 ≤ times list number → P number
of_times P [] number each there = absurd (omega (arith, there))
of_times P (page ∷ pages) number each there = elim (cases_eq page number) [
  | inl same ↦ subst P same each.0
  | inr apart ↦
      (let more : 1 ≤ 0 + times pages number = rw (ne_eqb page number apart) at there in
      of_times P pages number each.1 (omega (arith, more)))
]

-- a page that is listed is one of the snapshot, and not page 1
pub listed_range : (mode : Mode) (usable base : ℕ) (view : View) (number : ℕ) → IsListed mode usable base view number → (2 ≤ number) × (number ≤ base)
listed_range Concurrent usable base view number never = absurd never
listed_range Plain usable base view number (list, is, there) =
    of_times (λ (page : ℕ). (2 ≤ page) × (page ≤ base)) list number
    (freelist_range usable base view (u32_at (view 1) trunk_field) (u32_at (view 1) count_field) list is) there

-- a field of page 1 where a page is put that leaves page 1's fields
field_put : (field : List ℕ → ℕ) (view view_then : View) (page : ℕ) (bytes : List ℕ) → ((n : ℕ) → view_then n ≡ view_with view page bytes n)
    → (page ≡ 1 → field bytes ≡ field (view 1)) → field (view_then 1) ≡ field (view 1)
field_put field view view_then page bytes each fields = elim (cases_eq 1 page) [
  | inl same ↦
      ap field (each 1)
      ∙ (subst (λ (n : ℕ). field (view_with view page bytes n) ≡ field bytes) (sym same) (ap field (here_with view page bytes)) ∙ fields (sym same))
  | inr apart ↦ ap field (each 1 ∙ other_than view page bytes 1 apart)
]

-- a page that isn't free is put
pub keeps_put : (usable : ℕ) (change : Change) (page : ℕ) (bytes : List ℕ) (world : View) → last_page (with_own change page bytes) ≡ last_page change
    → (IsFreeOver usable change world page → ⊥) → IsNeatOver usable change world → LeavesFields page (over_change change world 1) bytes
    → KeepsFreeOver usable usable change (with_own change page bytes) world
keeps_put usable change page bytes world last used neat fields =
    let view = over_change change world in
    let view_then = over_change (with_own change page bytes) world in
    let each : (n : ℕ) → view_then n ≡ view_with view page bytes n = λ n. over_put change page bytes world n in
    listed_over usable change (with_own change page bytes) world (own_mode change page bytes) (own_base change page bytes)
    (λ n. free_put change page bytes n last) (λ n. unfree_put change page bytes n last)
    (same_listed change.mode usable change.base change.freed (with_own change page bytes).freed view view_then neat
    (λ n listed. each n ∙ other_than view page bytes n
    (λ e. used (inr (subst (λ (m : ℕ). IsListed change.mode usable change.base view m) e listed))))
    (field_put (λ (b : List ℕ). u32_at b trunk_field) view view_then page bytes each (λ first. trunk_same bytes (view 1) (fields first)))
    (field_put (λ (b : List ℕ). u32_at b count_field) view view_then page bytes each (λ first. count_same bytes (view 1) (fields first)))
    (λ n listed there. subst (λ (l : List ℕ). Contains l n) (same_freed change page bytes) there))

-- a page that is made behind the last one is none that is listed
pub made_listed : (usable : ℕ) (change : Change) (size : ℕ) (world : View) → 1 ≤ change.base → IsNeatOver usable change world
    → SameListed change.mode usable change.base change.freed (over_change change world) (over_change (with_new change size) world)
made_listed usable change size world some neat =
    let view = over_change change world in
    let view_then = over_change (with_new change size) world in
    let first : view_then 1 ≡ view 1 = over_made change size world 1 (λ e. omega (arith, e, some)) in
    same_listed change.mode usable change.base change.freed change.freed view view_then neat
    (λ n listed. over_made change size world n (λ e. let range = listed_range change.mode usable change.base view n listed in omega (arith, e, range.1)))
    (ap (λ (b : List ℕ). u32_at b trunk_field) first) (ap (λ (b : List ℕ). u32_at b count_field) first) (λ n listed there. there)

-- a page is given up
neat_with : (mode : Mode) (usable base : ℕ) (freed : List ℕ) (view : View) (page : ℕ) → (IsListed mode usable base view page → ⊥)
    → IsListNeat mode usable base freed view → IsListNeat mode usable base (with_page freed page) view
neat_with Concurrent usable base freed view page unlisted neat = tt
neat_with Plain usable base freed view page unlisted (list, is, once, apart) = (
  list,
  is,
  once,
  λ number there given. elim (with_cases freed page number given) [
    | inl same ↦ unlisted (list, is, subst (λ (n : ℕ). 1 ≤ times list n) same there)
    | inr before ↦ apart number there before
  ],
)

module _ (usable : ℕ) (change : Change) (page : ℕ) (world : View) where
  pub given_free : IsFreeOver usable (with_freed_page change page) world page
  given_free = inl (freed_free change page)

  pub given_stay : (number : ℕ) → IsFreeOver usable change world number → IsFreeOver usable (with_freed_page change page) world number
  given_stay number free = elim free [ inl own ↦ inl (free_freed change page number own) | inr listed ↦ inr listed ]

  pub given_none_more : (number : ℕ) → (number ≡ page → ⊥) → IsFreeOver usable (with_freed_page change page) world number → IsFreeOver usable change world number
  given_none_more number apart free = elim free [ inl own ↦ inl (unfree_freed change page number apart own) | inr listed ↦ inr listed ]

  pub given_neat : (IsFreeOver usable change world page → ⊥) → IsNeatOver usable change world → IsNeatOver usable (with_freed_page change page) world
  given_neat used neat = neat_with change.mode usable change.base change.freed (over_change change world) page (λ listed. used (inr listed)) neat

-- the new page isn't free
pub made_taken : (usable : ℕ) (change : Change) (size : ℕ) (world : View) → last_page (with_new change size) ≡ last_page change + 1 → IsChangeInOrder change
    → IsFreeOver usable (with_new change size) world (last_page change + 1) → ⊥
made_taken usable change size world last order free = elim free [
  | inl own ↦ made_unfree change size last order own
  | inr listed ↦
      (let range = listed_range change.mode usable change.base (over_change (with_new change size) world) (last_page change + 1) listed in
      omega (arith, range.1))
]

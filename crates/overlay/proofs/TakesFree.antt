-- Which numbers are free where a page was taken out of the freelist that page 1 names, and where all pages are as before.
use Rattle.std.proofs.Common.{◌≡◌, ◌≢◌, ◌∙◌, ℕ, ◌+◌, ◌<◌, ◌≤◌, List, ◌∷◌, ◌++◌, refl, sym, subst, ap, arith, inl, inr, eq-eqb, ne_eqb}
use Rattle.std.specs.Prelude.{◌⊎◌, Contains}
use Rattle.std.proofs.lemmas.Bool.{cases_eq}
use Rattle.page_spec.specs.Bytes.{u32_at}
use Rattle.page_spec.specs.View.{View}
use Rattle.engine_spec.specs.declared.commits.Mode.{Mode}
use Rattle.engine_spec.specs.declared.commits.Mode.TheVariants.{Plain}
use Rattle.engine_spec.specs.Change.{Change}
use Rattle.tree_spec.specs.Layout.{times}
use Rattle.tree_spec.proofs.Lists.{times-append}
use Rattle.tree_spec.proofs.Freelists.{freelist_once, freelist_local, freelist_range, first_there}
use Rattle.overlay.specs.Overlay.{over_change, last_page}
use Rattle.overlay.specs.FreeNumbers.{greatest_page, trunk_field, count_field, IsNamedList, IsListed, IsListNeat, HasListed, IsFreeOver, IsNeatOver, SparesOver}
use Rattle.overlay.specs.Own.{TakesNamed}
use Rattle.overlay.proofs.Listing.{KeepsFreeOver}
use Rattle.overlay.proofs.FreeOver.{of_times}

-- counts in a list with one page more
times_here : (front back : List ℕ) (page : ℕ) → times (front ++ page ∷ back) page ≡ times (front ++ back) page + 1
times_here front back page =
    let whole = times-append front (page ∷ back) page in
    let here : times (page ∷ back) page ≡ 1 + times back page = rw (eq-eqb page page refl) refl in
    let rest = times-append front back page in
    omega (arith, whole, here, rest)

times_other : (front back : List ℕ) (page number : ℕ) → page ≢ number → times (front ++ page ∷ back) number ≡ times (front ++ back) number
times_other front back page number apart =
    let whole = times-append front (page ∷ back) number in
    let here : times (page ∷ back) number ≡ 0 + times back number = rw (ne_eqb page number apart) refl in
    let rest = times-append front back number in
    omega (arith, whole, here, rest)

-- the numbers that are free, by what is said of them
abbrev IsFreeIn : Mode → (usable base last : ℕ) → (freed : List ℕ) → View → ℕ → Type 0
IsFreeIn mode usable base last freed view number =
    (((last < number) × (number ≤ greatest_page)) ⊎ Contains freed number) ⊎ IsListed mode usable base view number

record TakesIn (mode mode_then : Mode) (usable usable_then base base_then last last_then : ℕ) (freed freed_then : List ℕ) (view view_then : View) (page : ℕ) : Type 0 where
  pub was_free : IsFreeIn mode usable base last freed view page
  pub taken : IsFreeIn mode_then usable_then base_then last_then freed_then view_then page → ⊥
  pub stay : (number : ℕ) → number ≢ page → IsFreeIn mode usable base last freed view number
      → IsFreeIn mode_then usable_then base_then last_then freed_then view_then number
  pub none_more : (number : ℕ) → IsFreeIn mode_then usable_then base_then last_then freed_then view_then number
      → IsFreeIn mode usable base last freed view number
  pub neat : IsListNeat mode_then usable_then base_then freed_then view_then
  pub spare : HasListed mode view

takes_in : (usable base last trunk page : ℕ) (freed : List ℕ) (view view_then : View) → page ≤ last → TakesNamed usable trunk page view view_then
    → IsListNeat Plain usable base freed view
    → TakesIn Plain Plain usable usable base base last last freed freed view view_then page
takes_in usable base last trunk page freed view view_then within takes (list, is, once, apart) =
    let found = takes.list base list is in
    let rest = found.0 ++ found.1 in
    let split : list ≡ found.0 ++ page ∷ found.1 = found.2 in
    let here : times list page ≡ times rest page + 1 = ap (λ (l : List ℕ). times l page) split ∙ times_here found.0 found.1 page in
    let other : (n : ℕ) → n ≢ page → times list n ≡ times rest n =
    λ n e. ap (λ (l : List ℕ). times l n) split ∙ times_other found.0 found.1 page n (λ same. e (sym same)) in
    let fewer : (n : ℕ) → times rest n ≤ times list n = λ n. elim (cases_eq n page) [
      | inl same ↦ subst (λ (m : ℕ). times rest m ≤ times list m) (sym same) (omega (arith, here))
      | inr e ↦ omega (arith, other n e)
    ] in
    let is_list : (l : List ℕ) → IsNamedList usable base view l → l ≡ list = λ l named.
    freelist_once usable base base view (u32_at (view 1) trunk_field) (u32_at (view 1) count_field) (u32_at (view 1) count_field) l list named is in
    let is_rest : (l : List ℕ) → IsNamedList usable base view_then l → l ≡ rest = λ l named.
    freelist_once usable base base view_then (u32_at (view_then 1) trunk_field) (u32_at (view_then 1) count_field) (u32_at (view_then 1) count_field) l rest named found.3 in
    record {
      was_free = inr (list, is, omega (arith, here));
      taken = λ free. elim free [
        | inl (inl past) ↦ omega (arith, past.0, within)
        | inl (inr given) ↦ apart page (omega (arith, here)) given
        | inr (l, named, there) ↦
            (let more : 1 ≤ times rest page = subst (λ (m : List ℕ). 1 ≤ times m page) (is_rest l named) there in
            omega (arith, more, here, once page))
      ];
      stay = λ number e free. elim free [
        | inl own ↦ inl own
        | inr (l, named, there) ↦
            inr (
              rest,
              found.3,
              (let more : 1 ≤ times list number = subst (λ (m : List ℕ). 1 ≤ times m number) (is_list l named) there in
                  omega (arith, more, other number e)),
            )
      ];
      none_more = λ number free. elim free [
        | inl own ↦ inl own
        | inr (l, named, there) ↦
            inr (
              list,
              is,
              (let more : 1 ≤ times rest number = subst (λ (m : List ℕ). 1 ≤ times m number) (is_rest l named) there in
                  omega (arith, more, fewer number)),
            )
      ];
      neat = (
        rest,
        found.3,
        λ number. omega (arith, once number, fewer number),
        λ number there given. apart number (omega (arith, there, fewer number)) given,
      );
      spare = omega (arith, takes.count);
    }

-- a page taken out of the freelist of a plain transaction, over a world
pub record TakesFreeOver (usable usable_then : ℕ) (change change_then : Change) (world : View) (page : ℕ) : Type 0 where
  pub was_free : IsFreeOver usable change world page
  pub taken : IsFreeOver usable_then change_then world page → ⊥
  pub stay : (number : ℕ) → number ≢ page → IsFreeOver usable change world number → IsFreeOver usable_then change_then world number
  pub none_more : (number : ℕ) → IsFreeOver usable_then change_then world number → IsFreeOver usable change world number
  pub neat : IsNeatOver usable_then change_then world
  pub spare : SparesOver change world

pub takes_over : (usable usable_then trunk page : ℕ) (change change_then : Change) (world : View) → usable_then ≡ usable → change.mode ≡ Plain
    → change_then.mode ≡ change.mode → change_then.base ≡ change.base → last_page change_then ≡ last_page change → change_then.freed ≡ change.freed
    → page ≤ last_page change → TakesNamed usable trunk page (over_change change world) (over_change change_then world) → IsNeatOver usable change world
    → TakesFreeOver usable usable_then change change_then world page
takes_over usable usable_then trunk page change change_then world sizes plain modes bases lasts frees within takes neat =
    let view = over_change change world in
    let view_then = over_change change_then world in
    let base = change.base in
    let last = last_page change in
    let freed = change.freed in
    let first = takes_in usable base last trunk page freed view view_then within takes (subst (λ (m : Mode). IsListNeat m usable base freed view) plain neat) in
    let moded : TakesIn change.mode change_then.mode usable usable base base last last freed freed view view_then page =
    subst (λ (m : Mode). TakesIn m change_then.mode usable usable base base last last freed freed view view_then page) (sym plain)
    (subst (λ (m : Mode). TakesIn Plain m usable usable base base last last freed freed view view_then page) (sym (modes ∙ plain)) first) in
    let all : TakesIn change.mode change_then.mode usable usable_then base change_then.base last (last_page change_then) freed change_then.freed view view_then page =
    subst (λ (u : ℕ). TakesIn change.mode change_then.mode usable u base change_then.base last (last_page change_then) freed change_then.freed view view_then page) (sym sizes)
    (subst (λ (b : ℕ). TakesIn change.mode change_then.mode usable usable base b last (last_page change_then) freed change_then.freed view view_then page) (sym bases)
    (subst (λ (l : ℕ). TakesIn change.mode change_then.mode usable usable base base last l freed change_then.freed view view_then page) (sym lasts)
    (subst (λ (f : List ℕ). TakesIn change.mode change_then.mode usable usable base base last last freed f view view_then page) (sym frees) moded))) in
    record {
      was_free = all.was_free;
      taken = all.taken;
      stay = all.stay;
      none_more = all.none_more;
      neat = all.neat;
      spare = subst (λ (m : Mode). HasListed m view) (sym plain) first.spare;
    }

-- the first trunk is free
pub trunk_over : (usable : ℕ) (change : Change) (world : View) → change.mode ≡ Plain → 0 < u32_at (over_change change world 1) count_field
    → IsNeatOver usable change world → IsFreeOver usable change world (u32_at (over_change change world 1) trunk_field)
trunk_over usable change world plain some neat =
    let view = over_change change world in
    let listed = subst (λ (m : Mode). IsListNeat m usable change.base change.freed view) plain neat in
    inr (subst (λ (m : Mode). IsListed m usable change.base view (u32_at (view 1) trunk_field)) (sym plain)
    (listed.0, listed.1, first_there usable change.base view (u32_at (view 1) trunk_field) (u32_at (view 1) count_field) listed.0 some listed.1))

-- the freelist of the snapshot's pages is one of all pages
pub named_over : (usable : ℕ) (change : Change) (world : View) → change.mode ≡ Plain → IsNeatOver usable change world
    → (list : List ℕ) × IsNamedList usable (last_page change) (over_change change world) list
named_over usable change world plain neat =
    let view = over_change change world in
    let listed = subst (λ (m : Mode). IsListNeat m usable change.base change.freed view) plain neat in (
      listed.0,
      freelist_local usable change.base (last_page change) view view (u32_at (view 1) trunk_field) (u32_at (view 1) count_field) listed.0 (omega arith)
          (λ n there. refl) listed.1,
    )

-- the first trunk is in range
pub trunk_range : (usable : ℕ) (change : Change) (world : View) → change.mode ≡ Plain → 0 < u32_at (over_change change world 1) count_field
    → IsNeatOver usable change world
    → (2 ≤ u32_at (over_change change world 1) trunk_field) × (u32_at (over_change change world 1) trunk_field ≤ last_page change)
trunk_range usable change world plain some neat =
    let view = over_change change world in
    let trunk = u32_at (view 1) trunk_field in
    let count = u32_at (view 1) count_field in
    let named = named_over usable change world plain neat in
    of_times (λ (n : ℕ). (2 ≤ n) × (n ≤ last_page change)) named.0 trunk (freelist_range usable (last_page change) view trunk count named.0 named.1)
    (first_there usable (last_page change) view trunk count named.0 some named.1)

-- where all pages are as before
record KeepsIn (mode mode_then : Mode) (usable usable_then base base_then last last_then : ℕ) (freed freed_then : List ℕ) (view view_then : View) : Type 0 where
  pub stay : (number : ℕ) → IsFreeIn mode usable base last freed view number → IsFreeIn mode_then usable_then base_then last_then freed_then view_then number
  pub none_more : (number : ℕ) → IsFreeIn mode_then usable_then base_then last_then freed_then view_then number → IsFreeIn mode usable base last freed view number
  pub neat : IsListNeat mode usable base freed view → IsListNeat mode_then usable_then base_then freed_then view_then
  pub spare : HasListed mode view → HasListed mode_then view_then
  pub no_more_spare : HasListed mode_then view_then → HasListed mode view

pub keeps_over : (usable usable_then : ℕ) (change change_then : Change) (world : View) → usable_then ≡ usable → change_then.mode ≡ change.mode
    → change_then.base ≡ change.base → last_page change_then ≡ last_page change → change_then.freed ≡ change.freed
    → ((number : ℕ) → over_change change_then world number ≡ over_change change world number)
    → KeepsFreeOver usable usable_then change change_then world
keeps_over usable usable_then change change_then world sizes modes bases lasts frees each =
    let view = over_change change world in
    let view_then = over_change change_then world in
    let views : view_then ≡ view = λ i n. each n i in
    let mode = change.mode in
    let base = change.base in
    let last = last_page change in
    let freed = change.freed in
    let same : KeepsIn mode mode usable usable base base last last freed freed view view = record {
      stay = λ number free. free;
      none_more = λ number free. free;
      neat = λ neat. neat;
      spare = λ spare. spare;
      no_more_spare = λ spare. spare;
    } in
    let all : KeepsIn mode change_then.mode usable usable_then base change_then.base last (last_page change_then) freed change_then.freed view view_then =
    subst (λ (m : Mode). KeepsIn mode m usable usable_then base change_then.base last (last_page change_then) freed change_then.freed view view_then) (sym modes)
    (subst (λ (u : ℕ). KeepsIn mode mode usable u base change_then.base last (last_page change_then) freed change_then.freed view view_then) (sym sizes)
    (subst (λ (b : ℕ). KeepsIn mode mode usable usable base b last (last_page change_then) freed change_then.freed view view_then) (sym bases)
    (subst (λ (l : ℕ). KeepsIn mode mode usable usable base base last l freed change_then.freed view view_then) (sym lasts)
    (subst (λ (f : List ℕ). KeepsIn mode mode usable usable base base last last freed f view view_then) (sym frees)
    (subst (λ (v : View). KeepsIn mode mode usable usable base base last last freed freed view v) (sym views) same))))) in
    record {
      stay = all.stay;
      none_more = all.none_more;
      neat = all.neat;
      spare = all.spare;
      no_more_spare = all.no_more_spare;
    }

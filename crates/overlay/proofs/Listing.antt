-- The freelist that page 1 names, in a view and in another one that shows the same of it.
use Rattle.std.proofs.Common.{◌≡◌, ℕ, ◌<◌, ◌≤◌, List, sym, subst, arith, inl, inr}
use Rattle.std.specs.Prelude.{Contains}
use Rattle.page_spec.specs.Bytes.{u32_at}
use Rattle.page_spec.specs.View.{View}
use Rattle.engine_spec.specs.declared.commits.Mode.{Mode}
use Rattle.engine_spec.specs.declared.commits.Mode.TheVariants.{Plain, Concurrent}
use Rattle.engine_spec.specs.Change.{Change}
use Rattle.tree_spec.specs.Layout.{times}
use Rattle.tree_spec.specs.Freelist.{IsFreelist}
use Rattle.tree_spec.proofs.Freelists.{freelist_once, freelist_local}
use Rattle.overlay.specs.Overlay.{over_change}
use Rattle.overlay.specs.FreeNumbers.{trunk_field, count_field, IsNamedList, IsListed, IsListNeat, HasListed, IsFreeNumber, IsFreeOver, IsNeatOver, SparesOver}

-- a list of pages that both views show, and that page 1 names in both
pub list_moves : (usable base : ℕ) (view view_then : View) (list : List ℕ) → ((n : ℕ) → 1 ≤ times list n → view_then n ≡ view n)
    → u32_at (view_then 1) trunk_field ≡ u32_at (view 1) trunk_field → u32_at (view_then 1) count_field ≡ u32_at (view 1) count_field
    → IsNamedList usable base view list → IsNamedList usable base view_then list
list_moves usable base view view_then list same trunk count is =
    subst (λ (n : ℕ). IsFreelist usable base view_then n (u32_at (view_then 1) count_field) list) (sym trunk)
    (subst (λ (n : ℕ). IsFreelist usable base view_then (u32_at (view 1) trunk_field) n list) (sym count)
    (freelist_local usable base base view view_then (u32_at (view 1) trunk_field) (u32_at (view 1) count_field) list (omega arith) same is))

-- what is listed, and whether the list is neat, in one view and in another one
pub record SameListed (mode : Mode) (usable base : ℕ) (freed_then : List ℕ) (view view_then : View) : Type 0 where
  pub stay : (number : ℕ) → IsListed mode usable base view number → IsListed mode usable base view_then number
  pub none_more : (number : ℕ) → IsListed mode usable base view_then number → IsListed mode usable base view number
  pub neat : IsListNeat mode usable base freed_then view_then
  pub spare : HasListed mode view → HasListed mode view_then
  pub no_more_spare : HasListed mode view_then → HasListed mode view

-- where the other one shows the same of page 1's fields and of what is listed, and no page that is listed is given up
pub same_listed : (mode : Mode) (usable base : ℕ) (freed freed_then : List ℕ) (view view_then : View) → IsListNeat mode usable base freed view
    → ((n : ℕ) → IsListed mode usable base view n → view_then n ≡ view n)
    → u32_at (view_then 1) trunk_field ≡ u32_at (view 1) trunk_field → u32_at (view_then 1) count_field ≡ u32_at (view 1) count_field
    → ((n : ℕ) → IsListed mode usable base view n → Contains freed_then n → Contains freed n)
    → SameListed mode usable base freed_then view view_then
same_listed Concurrent usable base freed freed_then view view_then neat same trunk count gone = record {
  stay = λ number never. never;
  none_more = λ number never. never;
  neat = tt;
  spare = λ never. never;
  no_more_spare = λ never. never;
}
same_listed Plain usable base freed freed_then view view_then (list, is, once, apart) same trunk count gone =
    let moved = list_moves usable base view view_then list (λ n there. same n (list, is, there)) trunk count is in
    record {
      stay = λ number listed. (
        list,
        moved,
        subst (λ (l : List ℕ). 1 ≤ times l number)
            (freelist_once usable base base view (u32_at (view 1) trunk_field) (u32_at (view 1) count_field) (u32_at (view 1) count_field) listed.0 list
            listed.1 is) listed.2,
      );
      none_more = λ number listed. (
        list,
        is,
        subst (λ (l : List ℕ). 1 ≤ times l number)
            (freelist_once usable base base view_then (u32_at (view_then 1) trunk_field) (u32_at (view_then 1) count_field)
            (u32_at (view_then 1) count_field) listed.0 list listed.1 moved) listed.2,
      );
      neat = (list, moved, once, λ number there given. apart number there (gone number (list, is, there) given));
      spare = λ spare. subst (λ (n : ℕ). 0 < n) (sym count) spare;
      no_more_spare = λ spare. subst (λ (n : ℕ). 0 < n) count spare;
    }

-- the same numbers are free over a world before and after a change
pub record KeepsFreeOver (usable usable_then : ℕ) (change change_then : Change) (world : View) : Type 0 where
  pub stay : (number : ℕ) → IsFreeOver usable change world number → IsFreeOver usable_then change_then world number
  pub none_more : (number : ℕ) → IsFreeOver usable_then change_then world number → IsFreeOver usable change world number
  pub neat : IsNeatOver usable change world → IsNeatOver usable_then change_then world
  pub spare : SparesOver change world → SparesOver change_then world
  pub no_more_spare : SparesOver change_then world → SparesOver change world

-- where nothing was changed
pub same_over : (usable usable_then : ℕ) (change change_then : Change) (world : View) → usable_then ≡ usable → change_then ≡ change
    → KeepsFreeOver usable usable_then change change_then world
same_over usable usable_then change change_then world size is =
    subst (λ (u : ℕ). KeepsFreeOver usable u change change_then world) (sym size)
    (subst (λ (c : Change). KeepsFreeOver usable usable change c world) (sym is) (record {
      stay = λ number free. free;
      none_more = λ number free. free;
      neat = λ neat. neat;
      spare = λ spare. spare;
      no_more_spare = λ spare. spare;
    }))

-- where the same numbers are behind the last page or given up, and the same are listed
pub listed_over : (usable : ℕ) (change change_then : Change) (world : View) → change_then.mode ≡ change.mode → change_then.base ≡ change.base
    → ((n : ℕ) → IsFreeNumber change n → IsFreeNumber change_then n) → ((n : ℕ) → IsFreeNumber change_then n → IsFreeNumber change n)
    → SameListed change.mode usable change.base change_then.freed (over_change change world) (over_change change_then world)
    → KeepsFreeOver usable usable change change_then world
listed_over usable change change_then world mode base numbers no_more same =
    let view = over_change change world in
    let view_then = over_change change_then world in
    let later : SameListed change_then.mode usable change_then.base change_then.freed view view_then =
    subst (λ (m : Mode). SameListed m usable change_then.base change_then.freed view view_then) (sym mode)
    (subst (λ (b : ℕ). SameListed change.mode usable b change_then.freed view view_then) (sym base) same) in
    let there : (n : ℕ) → IsListed change.mode usable change.base view n → IsListed change_then.mode usable change_then.base view n =
    λ n listed. subst (λ (m : Mode). IsListed m usable change_then.base view n) (sym mode)
    (subst (λ (b : ℕ). IsListed change.mode usable b view n) (sym base) listed) in
    let back : (n : ℕ) → IsListed change_then.mode usable change_then.base view n → IsListed change.mode usable change.base view n =
    λ n listed. subst (λ (m : Mode). IsListed m usable change.base view n) mode
    (subst (λ (b : ℕ). IsListed change_then.mode usable b view n) base listed) in
    record {
      stay = λ number free. elim free [ inl own ↦ inl (numbers number own) | inr listed ↦ inr (later.stay number (there number listed)) ];
      none_more = λ number free. elim free [ inl own ↦ inl (no_more number own) | inr listed ↦ inr (back number (later.none_more number listed)) ];
      neat = λ neat. later.neat;
      spare = λ spare. later.spare (subst (λ (m : Mode). HasListed m view) (sym mode) spare);
      no_more_spare = λ spare. subst (λ (m : Mode). HasListed m view) mode (later.no_more_spare spare);
    }

-- What a transaction's own pages over its snapshot are read for, and what taking a page of its freelist makes of them. It is said of the
-- transaction and of the engine, whatever numbers are free.
use Rattle.std.specs.Prelude.{◌≡◌, ◌≢◌, ◌⊎◌, ℕ, ◌+◌, ◌<◌, ◌≤◌, true, if◌then◌else◌, List, ◌∷◌, ◌++◌, Contains, Result, OnOk, OnErr, IfOk, IfErr}
use Rattle.page_spec.specs.Bytes.{u32_at}
use Rattle.page_spec.specs.View.{View, but_freelist}
use Rattle.engine_spec.specs.declared.pins.Pin.{Pin}
use Rattle.engine_spec.specs.declared.commits.FetchFault.{FetchFault}
use Rattle.engine_spec.specs.PageSet.{with_page}
use Rattle.page_face.specs.declared.engine_tells.EngineTells.{Ghosts}
use Rattle.page_face.specs.Pages.{IsFromOutside, BarsFresh}
use Rattle.overlay.specs.Overlay.{OverlayState, has_own_image, over_change, last_page}
use Rattle.overlay.specs.FreeNumbers.{count_field, IsNamedList}
use Rattle.overlay.specs.Live.{MayBeRead, IsOfPin}
use Rattle.overlay.specs.Behind.{WasRead, IsStill}

-- A page was fetched through a transaction: its own, or that of the snapshot, which then was read. Nothing else of the transaction changed.
pub record HasFetchedOwn {E M : Type 0} (told : Ghosts E M) (engine : E) (pin : Pin) (overlay : OverlayState) (page : ℕ)
    (result : Result Unit FetchFault) (bytes : List ℕ) (engine_then : E) (overlay_then : OverlayState) : Type 0 where
  pub page_is : OnOk result ((world : View) → MayBeRead (told.map_at engine_then pin) overlay_then.reads world
      → bytes ≡ over_change overlay.change world page)
  pub read : OnOk result (overlay_then.reads ≡ if has_own_image overlay.change page then overlay.reads else with_page overlay.reads page)
  pub unread : OnErr result (overlay_then.reads ≡ overlay.reads)
  pub cause : IfErr result (λ why. IsFromOutside (told.state engine).faults (told.state engine_then).faults why)
  pub same : overlay_then ≡ record overlay { reads = overlay_then.reads }
  pub kept : (number : ℕ) → Contains overlay.reads number → Contains overlay_then.reads number
  pub narrows : (world : View) → MayBeRead (told.map_at engine_then pin) overlay_then.reads world → MayBeRead (told.map_at engine pin) overlay.reads world
  pub behind : WasRead told engine engine_then

-- A page was taken out of the freelist that page 1 of a view names: the first trunk alone may have changed, and page 1's fields, which name the
-- list without that page.
pub record TakesNamed (usable trunk page : ℕ) (view view_then : View) : Type 0 where
  pub list : (bound : ℕ) (list : List ℕ) → IsNamedList usable bound view list
      → (front back : List ℕ) × (list ≡ front ++ page ∷ back) × IsNamedList usable bound view_then (front ++ back)
  pub each : (number : ℕ) → 1 < number → number ≢ trunk → view_then number ≡ view number
  pub first : but_freelist (view_then 1) ≡ but_freelist (view 1)
  pub count : u32_at (view 1) count_field ≡ u32_at (view_then 1) count_field + 1

-- what a call leaves of a transaction and of its engine that changes and reads pages, and numbers and gives up none
pub record ChangesOwn {E M : Type 0} (told : Ghosts E M) (engine : E) (pin : Pin) (overlay : OverlayState) (engine_then : E) (overlay_then : OverlayState) : Type 0 where
  pub last : last_page overlay_then.change ≡ last_page overlay.change
  pub freed : overlay_then.change.freed ≡ overlay.change.freed
  pub has : (number : ℕ) → has_own_image overlay.change number ≡ true → has_own_image overlay_then.change number ≡ true
  pub reads : (number : ℕ) → Contains overlay.reads number → Contains overlay_then.reads number
  pub narrows : (world : View) → MayBeRead (told.map_at engine_then pin) overlay_then.reads world → MayBeRead (told.map_at engine pin) overlay.reads world
  pub ready : IsOfPin told engine_then pin overlay_then
  pub still : IsStill overlay overlay_then
  pub behind : WasRead told engine engine_then

-- A page was taken out of the freelist from this trunk on, which page 1 names, or none could be, and then each page is as before. Beyond what was changed
-- and read before there is the trunk alone.
pub record HasTakenOwn {E M : Type 0} (told : Ghosts E M) (engine : E) (pin : Pin) (overlay : OverlayState) (trunk : ℕ)
    (result : Result ℕ FetchFault) (engine_then : E) (overlay_then : OverlayState) : Type 0 where
  pub range : IfOk result (λ page. (2 ≤ page) × (page ≤ last_page overlay.change))
  pub taken : IfOk result (λ page. (world : View) → MayBeRead (told.map_at engine_then pin) overlay_then.reads world
      → TakesNamed (told.state engine).usable trunk page (over_change overlay.change world) (over_change overlay_then.change world))
  pub cause : IfErr result (λ why. BarsFresh (last_page overlay.change) (told.state engine).page_size (told.state engine).faults
      (told.state engine_then).faults why)
  pub exact : IfErr result (λ why. (world : View) → MayBeRead (told.map_at engine_then pin) overlay_then.reads world → (list : List ℕ)
      → IsNamedList (told.state engine).usable (last_page overlay.change) (over_change overlay.change world) list
      → IsFromOutside (told.state engine).faults (told.state engine_then).faults why)
  pub back : OnErr result ((world : View) → MayBeRead (told.map_at engine_then pin) overlay_then.reads world
      → (number : ℕ) → over_change overlay_then.change world number ≡ over_change overlay.change world number)
  pub changed : (number : ℕ) → has_own_image overlay_then.change number ≡ true → (has_own_image overlay.change number ≡ true) ⊎ (number ≡ trunk)
  pub read : (number : ℕ) → Contains overlay_then.reads number → Contains overlay.reads number ⊎ (number ≡ trunk)
  pub leaves : ChangesOwn told engine pin overlay engine_then overlay_then

-- What a page that is read through a transaction's pages is, and what reading leaves.
use Rattle.std.proofs.Common.{◌≡◌, ◌∙◌, ℕ, ◌+◌, ◌<◌, ◌≤◌, zero, suc, List, [], ◌∷◌, length, Option, Some, None, Result, sym, subst, ap, inl, inr, arith}
use Rattle.std.specs.Prelude.{IfSome, All, unwrap_or}
use Rattle.std.proofs.lemmas.Bool.{cases_eq, cases_lt, lt-ltb, le-ltb}
use Rattle.page_spec.specs.PageMap.{PageMap, page_at}
use Rattle.page_spec.specs.View.{View}
use Rattle.engine_spec.specs.declared.pins.Pin.{Pin}
use Rattle.engine_spec.specs.declared.commits.PageImage.{PageImage}
use Rattle.engine_spec.specs.declared.commits.FetchFault.{FetchFault}
use Rattle.engine_spec.specs.Change.{Change, image_of}
use Rattle.engine_spec.specs.PageSet.{with_page}
use Rattle.engine_spec.specs.State.{EngineState}
use Rattle.engine_spec.proofs.PageSets.{with_has, with_keeps}
use Rattle.page_face.specs.declared.engine_tells.EngineTells.{Ghosts}
use Rattle.page_face.specs.Calls.{HasFetched}
use Rattle.overlay.specs.Places.{image_numbers, AreNumbered}
use Rattle.overlay.specs.Overlay.{OverlayState, own_image, over_change, last_page, IsChangeInOrder}
use Rattle.overlay.specs.Live.{MayBeRead, AreWhole, IsOfPin}
use Rattle.overlay.specs.Behind.{WasRead}
use Rattle.overlay.specs.BehindLaws.{fetch_counts}
use Rattle.overlay.proofs.ImageLaws.{image_at, image_past}

-- each image is whole
image_whole : (images : List PageImage) (size page : ℕ) (bytes : List ℕ) → All (λ image. length image.bytes ≡ size) images
    → image_of images page ≡ Some bytes → length bytes ≡ size
image_whole [] size page bytes whole found = absurd (let e : None ≡ Some bytes = found in cc)
image_whole (image ∷ images) size page bytes whole found = elim (cases_eq image.page page) [
  | inl same ↦
      (let e : Some image.bytes ≡ Some bytes = sym (image_at image images page same) ∙ found in
      let is : image.bytes ≡ bytes = cc in
      ap length (sym is) ∙ whole zero image (omega arith))
  | inr apart ↦
      image_whole images size page bytes (λ k d within. whole (suc k) d (omega arith)) (sym (image_past image images page apart) ∙ found)
]

pub own_whole : (change : Change) (size page : ℕ) (bytes : List ℕ) → AreWhole size change → own_image change page ≡ Some bytes → length bytes ≡ size
own_whole change size page bytes whole found = elim (cases_lt change.base page) [
  | inl past ↦ image_whole change.fresh size page bytes whole.fresh (rw (lt-ltb change.base page past) at found)
  | inr below ↦ image_whole change.changed size page bytes whole.changed (rw (le-ltb change.base page below) at found)
]

-- each number among those that are numbered has an image
numbered_there : (base : ℕ) (images : List PageImage) (page : ℕ) → AreNumbered base (image_numbers images) → base < page → page ≤ base + length images
    → image_of images page ≡ None → ⊥
numbered_there base [] page numbered past within none = omega arith
numbered_there base (image ∷ images) page numbered past within none = elim (cases_eq image.page page) [
  | inl same ↦ (let e = sym none ∙ image_at image images page same in cc)
  | inr apart ↦
      (let first = numbered.0 in
      numbered_there (base + 1) images page numbered.1 (elim (cases_lt (base + 1) page) [ inl more ↦ more | inr less ↦ absurd (apart (omega arith)) ])
      (omega arith) (sym (image_past image images page apart) ∙ none))
]

-- a page that wasn't changed or made is one of the snapshot
pub own_none : (change : Change) (page : ℕ) → IsChangeInOrder change → page ≤ last_page change → own_image change page ≡ None → page ≤ change.base
own_none change page order within none = elim (cases_lt change.base page) [
  | inl past ↦ absurd (numbered_there change.base change.fresh page order.fresh past within (rw (lt-ltb change.base page past) at none))
  | inr below ↦ below
]

-- a page of its own stands over a world, and another one is the world's
pub over_own : (change : Change) (world : View) (page : ℕ) (bytes : List ℕ) → own_image change page ≡ Some bytes → bytes ≡ over_change change world page
over_own change world page bytes found = ap (λ held. unwrap_or held (world page)) (sym found)

pub over_none : (change : Change) (world : View) (page : ℕ) → own_image change page ≡ None → world page ≡ over_change change world page
over_none change world page none = ap (λ held. unwrap_or held (world page)) (sym none)

-- what was fetched of the snapshot is the world's, over each world that may still be read
pub read_is : (before after : Option PageMap) (reads reads_then : List ℕ) (page : ℕ) (bytes : List ℕ) (world : View) → after ≡ before
    → reads_then ≡ with_page reads page → IfSome before (λ pages. bytes ≡ page_at pages page) → MayBeRead after reads_then world → bytes ≡ world page
read_is before after reads reads_then page bytes world same read is may =
    by_told before is (subst (λ (told : Option PageMap). MayBeRead told (with_page reads page) world) same
    (subst (λ (set : List ℕ). MayBeRead after set world) read may))
  where
    by_told : (told : Option PageMap) → IfSome told (λ pages. bytes ≡ page_at pages page) → MayBeRead told (with_page reads page) world
        → bytes ≡ world page
    by_told None is never = absurd never
    by_told (Some pages) is agrees = is ∙ sym (agrees page (with_has reads page))

-- which was one that might be read
pub may_before : (before after : Option PageMap) (reads reads_then : List ℕ) (page : ℕ) (world : View) → after ≡ before
    → reads_then ≡ with_page reads page → MayBeRead after reads_then world → MayBeRead before reads world
may_before before after reads reads_then page world same read may =
    by_told before (subst (λ (told : Option PageMap). MayBeRead told (with_page reads page) world) same
    (subst (λ (set : List ℕ). MayBeRead after set world) read may))
  where
    by_told : (told : Option PageMap) → MayBeRead told (with_page reads page) world → MayBeRead told reads world
    by_told None never = never
    by_told (Some pages) agrees = λ number there. agrees number (with_keeps reads page number there)

module _ {E M : Type 0} (told : Ghosts E M) (old new : E) where
  -- an engine that a page was fetched from
  pub fetched_read : (pin : Pin) (page : ℕ) (result : Result Unit FetchFault) (bytes : List ℕ) → HasFetched told old pin page result bytes new
      → WasRead told old new
  fetched_read pin page result bytes fetched = record {
    stays = fetched.stays;
    runs = fetched.runs;
    state = (fetched.event.0, fetched.event.1, fetch_counts fetched.event.0 (told.state new) result fetched.event.2);
  }

  -- its sizes are as before, and it counts no fewer faults
  pub read_page_size : WasRead told old new → (told.state new).page_size ≡ (told.state old).page_size
  read_page_size read = ap (λ (s : EngineState). s.page_size) read.state.2.1 ∙ read.state.1.page_size

  pub read_usable : WasRead told old new → (told.state new).usable ≡ (told.state old).usable
  read_usable read = ap (λ (s : EngineState). s.usable) read.state.2.1 ∙ read.state.1.usable

  pub read_faults : WasRead told old new → (told.state old).faults ≤ (told.state new).faults
  read_faults read = (let first = read.state.1.faults in let then = read.state.2.0 in omega arith)

  -- and the pin holds in it
  pub of_pin_read : (pin : Pin) (overlay : OverlayState) → WasRead told old new → IsOfPin told old pin overlay → IsOfPin told new pin overlay
  of_pin_read pin overlay read ready = record {
    hold = (ready.hold.0, read.stays.pins.hold ready.hold.0 ready.hold.1, ready.hold.2);
    snap = ready.snap;
    base = ready.base;
    whole = subst (λ (size : ℕ). AreWhole size overlay.change) (sym (read_page_size read)) ready.whole;
    marked = subst (λ (size : ℕ). IfSome overlay.marked (AreWhole size)) (sym (read_page_size read)) ready.marked;
  }

-- whatever else was read
pub of_pin_noted : {E M : Type 0} (told : Ghosts E M) (engine : E) (pin : Pin) (overlay : OverlayState) (reads : List ℕ)
    → IsOfPin told engine pin overlay → IsOfPin told engine pin (record overlay { reads = reads })
of_pin_noted told engine pin overlay reads ready = record {
  hold = ready.hold;
  snap = ready.snap;
  base = ready.base;
  whole = ready.whole;
  marked = ready.marked;
}

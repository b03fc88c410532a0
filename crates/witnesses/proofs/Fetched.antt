-- What a transaction's pages hold once one was read through to the engine.
use Rattle.std.proofs.Common.{◌≡◌, ◌∙◌, ℕ, List, length, Option, Some, None, IsSome, Result, Ok, refl, sym, subst, ap}
use Rattle.std.specs.Prelude.{All, IfSome, slice_get}
use Rattle.page_spec.specs.PageMap.{PageMap, page_at}
use Rattle.page_spec.specs.View.{View}
use Rattle.engine_spec.specs.declared.pins.Pin.{Pin}
use Rattle.engine_spec.specs.declared.commits.FetchFault.{FetchFault}
use Rattle.engine_spec.specs.PageSet.{with_page}
use Rattle.engine_spec.specs.State.{EngineState, During}
use Rattle.engine_spec.specs.Events.{Fetches}
use Rattle.engine_spec.proofs.PageSets.{with_has, with_keeps}
use Rattle.engine_spec.proofs.Here.{at_once}
use Rattle.page_face.specs.Pins.{KeepsPins}
use Rattle.memory_engine.specs.Plain.{PlainState, PlainLive, state_of}
use Rattle.witnesses.specs.Live.{AgreesOn, IsReady}

-- a world that is still told after a page was read has that page
pub read_page : (found : Option PageMap) (reads : List ℕ) (page : ℕ) (bytes : List ℕ) (world : View) → IsSome found
    → IfSome found (λ pages. bytes ≡ page_at pages page) → AgreesOn found (with_page reads page) world → bytes ≡ world page
read_page None reads page bytes world some is agrees = absurd (let e = some in cc)
read_page (Some pages) reads page bytes world some is agrees = is ∙ sym (agrees page (with_has reads page))

-- and was told before
pub told_before : (found : Option PageMap) (reads : List ℕ) (page : ℕ) (world : View) → AgreesOn found (with_page reads page) world
    → AgreesOn found reads world
told_before None reads page world agrees = tt
told_before (Some pages) reads page world agrees = λ number there. agrees number (with_keeps reads page number there)

-- a fetch that went well leaves what the engine tells
pub told_same : (old new : PlainState) (result : Result Unit FetchFault) → result ≡ Ok tt
    → During (state_of old) (λ mid. Fetches mid result (state_of new)) → state_of new ≡ state_of old
told_same old new result ok event =
    subst (λ (r : Result Unit FetchFault). Fetches (state_of old) r (state_of new)) ok
    (at_once (state_of old) (λ mid. Fetches mid result (state_of new)) refl event)

-- the pages stay ready
pub ready_on : (old new : PlainState) (pin : Pin) (puts : List (Option (List ℕ)))
    → KeepsPins PlainLive (λ (plain : PlainState) (p : Pin). slice_get plain.maps p.n) old new → state_of new ≡ state_of old
    → IsReady old pin puts → IsReady new pin puts
ready_on old new pin puts keeps same ready = record {
  live = (ready.live.0, keeps.hold ready.live.0 ready.live.1, ready.live.2);
  places = ready.places;
  whole = subst (λ (size : ℕ). All (λ put. IfSome put (λ bytes. length bytes ≡ size)) puts)
      (sym (ap (λ (state : EngineState). state.page_size) same)) ready.whole;
}

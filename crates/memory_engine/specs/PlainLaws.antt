-- Laws of the engine in memory.
use Rattle.std.specs.Prelude.{◌≡◌, ℕ, zero, suc, ◌+◌, ◌<◌, ◌≤◌, List, [], Contains, length, take, Option, Some, None, IsSome, slice_get}
use Rattle.std.proofs.Common.{subst, sym, ap, arith, refl, inl, inr, ◌∙◌}
use Rattle.std.proofs.lemmas.Option.{get_or_from_slice_get, slice_get-get_or, slice_get_cases}
use Rattle.std.proofs.lemmas.List.{take_all}
use Rattle.page_spec.specs.PageMap.{PageMap, page_sizes}
use Rattle.engine_spec.specs.declared.pins.Pin.{Pin}
use Rattle.engine_spec.specs.History.{statements_of}
use Rattle.engine_spec.specs.TwoLogs.{TwoLogs, AreLogs}
use Rattle.engine_spec.specs.Written.{numbers_from}
use Rattle.engine_spec.proofs.Conflicts.{contains_cases}
use Rattle.engine_spec.specs.Good.{HasSizes, RunsFrom}
use Rattle.page_face.specs.Pins.{IsLive}
use Rattle.memory_engine.specs.Plain.{PlainState, IsPlain, IsOfMap, PlainRuns, PlainLive, state_of, newest_of}

-- an element that is found stands inside the list
pub inside : {X : Type 0} (xs : List X) (i : ℕ) (x : X) → slice_get xs i ≡ Some x → i < length xs
inside xs i x found =
    elim ((slice_get_cases xs i).1) [ inl here ↦ here.1 | inr past ↦ absurd (let e : Some x ≡ None = sym found ∙ past.1 in cc) ]

-- a pin that holds is of one of the maps
pub held : (plain : PlainState) (pin : Pin) → IsLive PlainLive plain pin → IsOfMap plain pin
held plain pin live =
    let at = live.2.0 in
    subst (λ (p : Pin). IsOfMap plain p) live.2.2 (live.1.1 at pin live.2.1)

-- each map has whole pages
pub map_has_sizes : (plain : PlainState) (n : ℕ) (pages : PageMap) → IsPlain plain → slice_get plain.maps n ≡ Some pages
    → HasSizes pages (length pages) plain.page_size
map_has_sizes plain n pages whole found =
    subst (λ (p : PageMap). HasSizes p (length p) plain.page_size) (get_or_from_slice_get plain.maps n pages pages found)
    (whole.whole n pages (inside plain.maps n pages found))

-- the newest map has whole pages
pub newest_has_sizes : (plain : PlainState) (pages : PageMap) → IsPlain plain → Some (newest_of plain) ≡ Some pages
    → HasSizes pages (length (newest_of plain)) plain.page_size
newest_has_sizes plain pages whole told =
    let same : newest_of plain ≡ pages = cc in
    let count : length plain.history < length plain.maps = omega (arith, whole.count) in
    subst (λ (p : PageMap). HasSizes p (length (newest_of plain)) plain.page_size) same
    (whole.whole (length plain.history) [] count)

-- the map of a pin that holds has as many pages as the pin says
pub pinned_has_sizes : (plain : PlainState) (pin : Pin) (pages : PageMap) → IsLive PlainLive plain pin
    → slice_get plain.maps pin.n ≡ Some pages → HasSizes pages pin.size plain.page_size
pinned_has_sizes plain pin pages live found =
    let size : length pages ≡ pin.size =
    sym (ap length (get_or_from_slice_get plain.maps pin.n pages [] found)) ∙ sym (held plain pin live).size in
    subst (λ (n : ℕ). HasSizes pages n plain.page_size) size (map_has_sizes plain pin.n pages live.1.0 found)

-- the map of a pin that holds is told
pub plain_tells : (plain : PlainState) (pin : Pin) → IsLive PlainLive plain pin → IsSome (Some (newest_of plain))
    → IsSome (slice_get plain.maps pin.n)
plain_tells plain pin live told =
    let count : pin.n < length plain.maps = omega (arith, live.1.0.count, (held plain pin live).n) in
    subst (λ (found : Option PageMap). IsSome found) (sym (slice_get-get_or plain.maps pin.n [] count)) refl

-- a pin that holds is of a commit that is there, and its map has a page
pub plain_bounds : (plain : PlainState) (pin : Pin) → IsLive PlainLive plain pin → (pin.n ≤ length plain.history) × (1 ≤ pin.size)
plain_bounds plain pin live =
    let hold = held plain pin live in
    let whole = live.1.0 in
    let few = whole.few pin.n [] (omega (arith, whole.count, hold.n)) in
    (hold.n, omega (arith, hold.size, few.0))

-- so many numbers from one on are from that one on
numbers_there : (from count number : ℕ) → Contains (numbers_from from count) number → (from ≤ number) × (number < from + count)
numbers_there from zero number there = absurd (let low = there.1 in omega arith)
numbers_there from (suc count) number there = elim (contains_cases from number (numbers_from (from + 1) count) there) [
  | inl is ↦ (omega arith, omega arith)
  | inr later ↦ (let one = numbers_there (from + 1) count number later in (omega (arith, one.0), omega (arith, one.1)))
]

-- each commit is the engine's own
pub plain_own : (plain : PlainState) (number : ℕ) → Contains (numbers_from 1 (length plain.history)) number
    → (1 ≤ number) × (number ≤ length plain.history)
plain_own plain number there =
    let one = numbers_there 1 (length plain.history) number there in
    (one.0, omega (arith, one.1))

-- no logs are told
pub plain_logs : (plain : PlainState) (pins : List Pin) (logs : TwoLogs) → PlainLive plain pins → None ≡ Some logs → AreLogs logs plain.history
plain_logs plain pins logs live told = absurd cc

-- the sizes are legal
pub plain_legal : (plain : PlainState) (pins : List Pin) → PlainLive plain pins
    → Contains page_sizes plain.page_size × (480 ≤ plain.usable) × (plain.usable ≤ plain.page_size)
plain_legal plain pins live = (live.0.legal, live.0.usable_least, live.0.usable_most)

-- what standing for a run means
pub plain_run : (sound : PageMap → Type 0) (leads : PageMap → List (List ℕ) → PageMap → Type 0) (first : PageMap) (plain : PlainState)
    → PlainRuns sound leads first plain
    → RunsFrom sound leads first (state_of plain) (IsLive PlainLive plain) (λ pin. slice_get plain.maps pin.n)
plain_run sound leads first plain runs = record {
  snaps = runs.snaps;
  newest = λ pages told.
      let same : newest_of plain ≡ pages = cc in
      let count : length plain.history < length plain.maps = omega (arith, runs.whole.count) in
      let found : slice_get plain.maps (length plain.history) ≡ Some pages =
      slice_get-get_or plain.maps (length plain.history) [] count ∙ ap Some same in
      let each : sound pages × leads first (statements_of (take (length plain.history) plain.history)) pages =
      runs.each (length plain.history) pages found in
      (each.0, rw (take_all (length plain.history) plain.history (omega arith)) at each.1);
  pinned = λ pin pages live found. runs.each pin.n pages found;
}

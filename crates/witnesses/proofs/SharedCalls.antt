-- What a view's own call does, after what others did.
use Rattle.std.proofs.Common.{◌≡◌, ◌∙◌, ℕ, ◌≤◌, List, [], ◌∷◌, ◌++◌, length, refl, sym, ap, subst, arith, Result, Ok, Err, Bool, true, inl, inr}
use Rattle.std.specs.Prelude.{All, Option, Some, None, IfSome, MatchOption, unwrap_or, OnOk}
use Rattle.page_spec.specs.PageMap.{PageMap, page_at}
use Rattle.engine_spec.specs.declared.pins.Pin.{Pin}
use Rattle.engine_spec.specs.State.{EngineState, Later, During}
use Rattle.engine_spec.specs.Written.{commit_of}
use Rattle.engine_spec.specs.declared.pins.Lock.TheVariants.{Part1}
use Rattle.engine_spec.specs.declared.pins.Logs.{Logs}
use Rattle.engine_spec.specs.declared.commits.FetchFault.{FetchFault}
use Rattle.engine_spec.specs.TwoLogs.{told_logs}
use Rattle.engine_spec.specs.Events.{Begins, Fetches}
use Rattle.engine_spec.proofs.Here.{later_same, at_once}
use Rattle.page_face.specs.declared.means.Means.{Ghosts as Meaning}
use Rattle.page_face.specs.declared.engine_tells.EngineTells.{Ghosts}
use Rattle.page_face.specs.Pins.{IsLive, KeepsPins, AddsPin}
use Rattle.page_face.specs.Calls.{HasBegun}
use Rattle.memory_engine.specs.Plain.{PlainState, PlainLive, PlainRuns, IsOfMap, state_of}
use Rattle.memory_engine.proofs.PlainPins.{back_all}
use Rattle.std.proofs.lemmas.List.Elements.{All-head}
use Rattle.witnesses.specs.declared.shared.Shared.{Shared}
use Rattle.witnesses.specs.Shared.{SharedLive, SharedRuns, OthersCame, SomeCommitted, shared_state, shared_map, plain_map, pin_of, viewed}
use Rattle.witnesses.specs.SharedLaws.{held_inside}
use Rattle.witnesses.proofs.OwnNumbers.{one_longer}
use Rattle.witnesses.proofs.SharedCommits.{no_frames}
use Rattle.witnesses.proofs.SharedPins.{without_waiting, other_pin}

-- a view after a call of its own
abbrev pub after_call : {M : Type 0} → Shared M → PlainState → ℕ → Bool → Shared M
after_call mid plain commits barred = record mid { plain = plain; commits = commits; barred = barred }

-- how many commits there are after a transaction was handed in
pub counts_on : (old new : PlainState) (found : Option ℕ) (commits : ℕ)
    → MatchOption found (state_of new ≡ state_of old) (λ number. SomeCommitted old number new) → commits ≡ length old.history
    → (unwrap_or found commits ≡ length new.history) × (commits ≤ unwrap_or found commits)
counts_on old new None commits same counted = (counted ∙ sym (ap (λ (s : EngineState). length s.history) same), omega arith)
counts_on old new (Some number) commits came counted =
    let longer = one_longer old.history (commit_of came.0 came.1.pages) in
    let grown : length new.history ≡ length (old.history ++ commit_of came.0 came.1.pages ∷ []) =
    ap (λ (s : EngineState). length s.history) came.1.after_is in
    let next = came.1.number_is in
    (omega (arith, grown, longer, next), omega (arith, next, counted))

module _ {M : Type 0} (old mid : Shared M) (plain : PlainState) (commits : ℕ) (barred : Bool) where
  -- pins hold on
  pub live_on : mid.waiting ≡ None → KeepsPins PlainLive plain_map mid.plain plain
      → ((mid.commits ≡ length mid.plain.history) → (commits ≡ length plain.history) × (mid.commits ≤ commits))
      → (pins : List Pin) → SharedLive mid pins → SharedLive (after_call mid plain commits barred) pins
  live_on none keeps counts pins live =
      let on = counts live.commits in
      record {
        plain = rw none (keeps.hold pins (without_waiting mid.waiting mid.plain pins live.plain));
        fit = rw none tt;
        commits = on.0;
        theirs = λ k d within. let bound = live.theirs k d within in omega (arith, on.1);
        since = omega (arith, live.since, on.1);
      }

  -- and with the same maps
  pub pins_on : mid.waiting ≡ None → KeepsPins SharedLive shared_map old mid → KeepsPins PlainLive plain_map mid.plain plain
      → ((mid.commits ≡ length mid.plain.history) → (commits ≡ length plain.history) × (mid.commits ≤ commits))
      → KeepsPins SharedLive shared_map old (after_call mid plain commits barred)
  pins_on none came keeps counts = record {
    hold = λ pins live. live_on none keeps counts pins (came.hold pins live);
    maps = λ pin live. keeps.maps pin (held_inside mid pin (live.0, came.hold live.0 live.1, live.2)) ∙ came.maps pin live;
  }

  -- and so do runs
  pub run_on : mid.waiting ≡ None → (sound : PageMap → Type 0) (leads : PageMap → List (List ℕ) → PageMap → Type 0) (first : PageMap)
      → PlainRuns sound leads first plain → SharedRuns sound leads first (after_call mid plain commits barred)
  run_on none sound leads first runs = record { plain = runs; good = rw none tt }

-- a pin that holds in the view held in the engine in memory once others came
pub held_then : {M : Type 0} (means : Meaning M) (old mid : Shared M) → OthersCame means old mid → (pin : Pin) → IsLive SharedLive old pin
    → IsLive PlainLive mid.plain pin
held_then means old mid came pin live = held_inside mid pin (live.0, came.came.pins.hold live.0 live.1, live.2)

-- the engine in memory is whole then
pub whole_then : {M : Type 0} (means : Meaning M) (old mid : Shared M) → OthersCame means old mid → ((pins : List Pin) × SharedLive old pins)
    → (pins : List Pin) × PlainLive mid.plain pins
whole_then means old mid came (pins, live) = (pin_of mid.waiting ++ pins, (came.came.pins.hold pins live).plain)

-- BEGIN on the engine in memory leaves what it tells
pub begins_plain : {M : Type 0} (means : Meaning M) (told : Ghosts PlainState M) (old : PlainState) (pin : Pin) (new : PlainState)
    → told.state old ≡ state_of old → told.state new ≡ state_of new → HasBegun told old pin new
    → (pin.n ≡ length old.history) × (pin.size ≡ (state_of old).size) × (state_of new ≡ state_of old) × (told.map_at new pin ≡ (state_of old).newest)
begins_plain means told old pin new is is_new begun =
    let event : During (state_of old) (λ mid. (after : EngineState) × Begins mid pin after × Later after (state_of new) × (told.map_at new pin ≡ mid.newest)) =
    subst (λ (s : EngineState). During (state_of old) (λ mid. (after : EngineState) × Begins mid pin after × Later after s × (told.map_at new pin ≡ mid.newest))) is_new
    (subst (λ (s : EngineState). During s (λ mid. (after : EngineState) × Begins mid pin after × Later after (told.state new) × (told.map_at new pin ≡ mid.newest))) is begun.event) in
    let at = at_once (state_of old) (λ mid. (after : EngineState) × Begins mid pin after × Later after (state_of new) × (told.map_at new pin ≡ mid.newest)) refl event in
    let unchanged : at.0 ≡ state_of old = at.1.after_is in
    let alone : at.0.alone ≡ true = ap (λ (s : EngineState). s.alone) unchanged in
    (at.1.n, at.1.size, at.2.nobody alone ∙ unchanged, at.3)

-- a pin of the view for one that the engine in memory gave
pub adds_pin : {M : Type 0} (means : Meaning M) (old mid : Shared M) (plain : PlainState) (given pin : Pin) → OthersCame means old mid
    → pin.n ≡ given.n → pin.size ≡ given.size → state_of plain ≡ state_of mid.plain → AddsPin PlainLive plain_map mid.plain given plain
    → AddsPin SharedLive shared_map old pin (after_call mid plain mid.commits true)
adds_pin means old mid plain given pin came n size same adds = record {
  added = λ before after live.
      let one = came.came.pins.hold (before ++ after) live in
      let none = came.came.none in
      let held = adds.added before after (without_waiting mid.waiting mid.plain (before ++ after) one.plain) in
      let of = All-head (IsOfMap plain) given after (back_all (IsOfMap plain) before (given ∷ after) held.1) in
      record {
        plain = rw none (other_pin plain before after given pin n size of held);
        fit = rw none tt;
        commits = one.commits ∙ sym (ap (λ (s : EngineState). length s.history) same);
        theirs = one.theirs;
        since = one.since;
      };
  maps = λ other live. adds.maps other (held_then means old mid came other live) ∙ came.came.pins.maps other live;
}

-- BEGIN of the view
pub begins_view : {M : Type 0} (means : Meaning M) (old mid : Shared M) (plain : PlainState) (given : Pin) → ((pins : List Pin) × SharedLive old pins)
    → OthersCame means old mid
    → (given.n ≡ length mid.plain.history) × (given.size ≡ (state_of mid.plain).size) × (state_of plain ≡ state_of mid.plain)
    × (plain_map plain given ≡ (state_of mid.plain).newest)
    → During (shared_state old) (λ m. (after : EngineState)
    × Begins m (record { n = given.n; size = given.size; lock = Part1; generation = 1; mark = 0 }) after
    × Later after (shared_state (after_call mid plain mid.commits true)) × (plain_map plain given ≡ m.newest))
begins_view means old mid plain given (pins, live) came told =
    let since : mid.since ≡ length mid.plain.history = came.since ∙ (came.came.pins.hold pins live).commits in (
      shared_state mid,
      came.came.later,
      (
        shared_state mid,
        record {
          n = told.0;
          size = told.1;
          lock = refl;
          generation = refl;
          mark = sym (no_frames mid.since mid.plain.history since);
          after_is = refl;
        },
        subst (λ (s : EngineState). Later (shared_state mid) (viewed mid.theirs.items mid.since mid.readers s)) (sym told.2) (later_same (shared_state mid)),
        told.3,
      ),
    )

-- LOGS: log 1 has no frames, as it has just begun anew
pub told_anew : {M : Type 0} (means : Meaning M) (old mid : Shared M) → ((pins : List Pin) × SharedLive old pins) → OthersCame means old mid
    → During (shared_state old) (λ m. ((record { current = 1; frames = 0; done = true }) ≡ told_logs m.logs m.history) × (shared_state mid ≡ m))
told_anew means old mid (pins, live) came =
    let since : mid.since ≡ length mid.plain.history = came.since ∙ (came.came.pins.hold pins live).commits in
    (shared_state mid, came.came.later, (ap (λ (n : ℕ). with_frames n) (sym (no_frames mid.since mid.plain.history since)), refl))
  where
    with_frames : ℕ → Logs
    with_frames n = record { current = 1; frames = n; done = true }

-- a fetch from the engine in memory, and what that is to a view of it
pub fetches_plain : {M : Type 0} (means : Meaning M) (told : Ghosts PlainState M) (old : PlainState) (result : Result Unit FetchFault) (new : PlainState)
    → told.state old ≡ state_of old → told.state new ≡ state_of new → During (told.state old) (λ mid. Fetches mid result (told.state new))
    → (state_of new ≡ state_of old) × ((theirs : List ℕ) (since readers : ℕ)
    → Fetches (viewed theirs since readers (state_of old)) result (viewed theirs since readers (state_of new)))
fetches_plain means told old result new is is_new event =
    go result (at_once (state_of old) (λ mid. Fetches mid result (state_of new)) refl
    (subst (λ (s : EngineState). During (state_of old) (λ mid. Fetches mid result s)) is_new
    (subst (λ (s : EngineState). During s (λ mid. Fetches mid result (told.state new))) is event)))
  where
    go : (result : Result Unit FetchFault) → Fetches (state_of old) result (state_of new)
        → (state_of new ≡ state_of old) × ((theirs : List ℕ) (since readers : ℕ)
        → Fetches (viewed theirs since readers (state_of old)) result (viewed theirs since readers (state_of new)))
    go (Ok done) same = (same, λ theirs since readers. ap (viewed theirs since readers) same)
    go (Err why) failed = absurd (elim failed.1.0.counted [ inl more ↦ omega (arith, more) | inr last ↦ omega (arith, last) ])

pub fetches_view : {M : Type 0} (means : Meaning M) (old mid : Shared M) (plain : PlainState) → OthersCame means old mid
    → (result : Result Unit FetchFault)
    → (state_of plain ≡ state_of mid.plain) × ((theirs : List ℕ) (since readers : ℕ)
    → Fetches (viewed theirs since readers (state_of mid.plain)) result (viewed theirs since readers (state_of plain)))
    → During (shared_state old) (λ m. Fetches m result (shared_state (after_call mid plain mid.commits mid.barred)))
fetches_view means old mid plain came result same =
    (shared_state mid, came.came.later, same.1 mid.theirs.items mid.since mid.readers)

-- the page is that of the pin's map
pub fetched_page : {M : Type 0} (means : Meaning M) (old mid : Shared M) → OthersCame means old mid → (pin : Pin) (page : ℕ)
    (result : Result Unit FetchFault) (bytes : List ℕ) → IsLive SharedLive old pin
    → OnOk result (IfSome (plain_map mid.plain pin) (λ pages. bytes ≡ page_at pages page))
    → OnOk result (IfSome (shared_map old pin) (λ pages. bytes ≡ page_at pages page))
fetched_page means old mid came pin page result bytes live is =
    subst (λ (map : Option PageMap). OnOk result (IfSome map (λ pages. bytes ≡ page_at pages page))) (came.came.pins.maps pin live) is

-- as many commits as before
pub same_counts : {M : Type 0} (mid : Shared M) (plain : PlainState) → state_of plain ≡ state_of mid.plain
    → mid.commits ≡ length mid.plain.history → (mid.commits ≡ length plain.history) × (mid.commits ≤ mid.commits)
same_counts mid plain same counted = (counted ∙ sym (ap (λ (s : EngineState). length s.history) same), omega arith)

-- the log begins behind the last commit then
pub since_is : {M : Type 0} (means : Meaning M) (old mid : Shared M) → OthersCame means old mid → {pin : Pin} → IsLive SharedLive old pin
    → mid.since ≡ length mid.plain.history
since_is means old mid came live = came.since ∙ (came.came.pins.hold live.0 live.1).commits

-- the commits of others are among the history
pub theirs_within : {M : Type 0} (mid : Shared M) (pins : List Pin) → SharedLive mid pins → All (λ t. t ≤ length mid.plain.history) mid.theirs.items
theirs_within mid pins live = rw (← live.commits) live.theirs

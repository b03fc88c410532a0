-- A step of a checkpoint keeps the store, its maps and its pins, and at each moment of it a crash leaves one of its maps.
use Rattle.std.proofs.Common.{◌≡◌, ◌≢◌, ◌∙◌, inl, inr, ℕ, ◌≤◌, false, List, ◌∷◌, length, refl, sym, ap, subst, arith, Option, Some, None}
use Rattle.std.specs.Prelude.{MatchOption, Contains, Result}
use Rattle.std.specs.Option.{option_map}
use Rattle.std.proofs.lemmas.Bool.{true≢false}
use Rattle.disk_face.specs.declared.Failed.{Failed}
use Rattle.disk_face.specs.declared.step.Step.{Step}
use Rattle.disk_face.specs.Files.{Files}
use Rattle.disk_face.specs.Steps.{History, reads, further}
use Rattle.page_spec.specs.PageMap.{PageMap}
use Rattle.log_spec.specs.Accept.{Frame, last_size}
use Rattle.crash_spec.specs.Logs.{IsOwnAt, Hands}
use Rattle.crash_spec.specs.Moments.{AtEachMoment}
use Rattle.crash_spec.specs.Opening.{Opening, grown, rebased}
use Rattle.crash_spec.specs.Passes.{Passes}
use Rattle.crash_spec.specs.Store.{StoreView, Holds, Leaves, named_size}
use Rattle.crash_spec.specs.Recovered.{recovered}
use Rattle.crash_spec.proofs.KnownFronts.{own_elsewhere}
use Rattle.crash_spec.proofs.Passing.{passes_still, passes_weaker}
use Rattle.crash_spec.proofs.Rebased.{rebased_reads}
use Rattle.engine_spec.specs.declared.pins.Pin.{Pin}
use Rattle.engine_spec.specs.declared.pins.Ckpt.{Ckpt}
use Rattle.engine_spec.specs.declared.pins.Readers.{Readers}
use Rattle.engine_spec.specs.Leaves.{may_recover, kept_map, RecoversOneOf, LeavesOneOf, AtEach}
use Rattle.wal_rules.specs.declared.state.LogState.{LogState}
use Rattle.log_commit.specs.Commit.{map_under}
use Rattle.log_commit.specs.GoesBy.{GoesBy}
use Rattle.log_commit.proofs.Steps.{goes_one, goes_still}
use Rattle.store_spec.specs.Store.{StoreData, KeptStop, current_read, other_read, newest_in, view_of, newest_told, stop_map, stop_told, store_state}
use Rattle.store_spec.specs.Standing.{IsWholeStore, IsLiveStore, IsRunning, IsStoreOn, IsTornOn, StandsOn, IsOpenedAt}
use Rattle.store_spec.specs.Steps.{HasTakenStep, stepped}
use Rattle.store_spec.proofs.Taken.{Taken, Stays, Goes, taken, pages_are}
use Rattle.store_spec.proofs.Copied.{StepsOn}
use Rattle.store_spec.proofs.Standing.{newest_same, standing_stays}
use Rattle.store_spec.proofs.EngineLaws.{maps_in, leaves_now}
use Rattle.store_spec.proofs.OwnFronts.{HandsOwn, LeavesNamed, either_named, either_names, own_moments, own_of}

module _ (kept : StoreData) (readers : Readers) (state : LogState) where
  -- The store stands since each opening since which it stood.
  goes_opened : (opening : Opening) (told : History) (step : Step) → ((here : History) → reads here ≡ reads told → StepsOn kept state here step)
      → IsOpenedAt opening kept (Some told) → IsOpenedAt opening (stepped kept state) (Some (further step told))
  goes_opened opening told step goes (since, is, on) = (
    step ∷ since,
    ap (further step) is,
    standing_stays kept state (rebased opening.start since) step
        (goes (rebased opening.start since) (sym (rebased_reads opening.start since) ∙ ap reads (sym is))) opening on,
  )

  opened_step : (old new : Option History) (opening : Opening) → Taken kept readers state old new → IsOpenedAt opening kept old → IsOpenedAt opening (stepped kept state) new
  opened_step old new opening (Stays is same) h =
      subst (λ (s : LogState). IsOpenedAt opening (stepped kept s) new) (sym is) (subst (λ (t : Option History). IsOpenedAt opening kept t) (sym same) h)
  opened_step None new opening (Goes step same unfinished free current goes) h = subst (λ (t : Option History). IsOpenedAt opening (stepped kept state) t) (sym same) tt
  opened_step (Some told) new opening (Goes step same unfinished free current goes) h =
      subst (λ (t : Option History). IsOpenedAt opening (stepped kept state) t) (sym same)
      (goes_opened opening told step (λ here is. goes told here refl is) h)

  -- the newest map names the page size
  pub named_now : (opening : Opening) (told : History) → kept.state.done ≡ false → IsOpenedAt opening kept (Some told)
      → named_size (reads told).main (other_read kept.pair (reads told)) (current_read kept.pair (reads told)) ≡ kept.page_size
  named_now opening told unfinished (since, is, on) =
      subst (λ (files : Files). named_size files.main (other_read kept.pair files) (current_read kept.pair files) ≡ kept.page_size)
      (sym (rebased_reads opening.start since) ∙ ap reads (sym is)) (by on)
    where
      by : StandsOn opening kept (rebased opening.start since)
          → named_size (reads (rebased opening.start since)).main (other_read kept.pair (reads (rebased opening.start since))) (current_read kept.pair (reads (rebased opening.start since)))
          ≡ kept.page_size
      by (inl on) = on.holds.sized
      by (inr torn) = absurd (true≢false (sym torn.done ∙ unfinished))

  newest_step : (old new : Option History) (opening : Opening) → Taken kept readers state old new → IsOpenedAt opening kept old
      → newest_told (stepped kept state) new ≡ newest_told kept old
  newest_step old new opening (Stays is same) h = ap (λ (t : Option History). newest_told kept t) same
  newest_step None new opening (Goes step same unfinished free current goes) h = ap (λ (t : Option History). newest_told kept t) same
  newest_step (Some told) new opening (Goes step same unfinished free current goes) h =
      ap (λ (t : Option History). newest_told kept t) same
      ∙ ap (λ (pages : PageMap). Some pages) (newest_same kept state told step (goes told told refl refl) (named_now opening told unfinished h))

  pub stop_step : (stop : KeptStop) (old new : Option History) → newest_told kept new ≡ newest_told kept old → stop_map (stepped kept state) stop new ≡ stop_map kept stop old
  stop_step stop None None same = refl
  stop_step stop None (Some new) same = absurd cc
  stop_step stop (Some old) None same = absurd cc
  stop_step stop (Some old) (Some new) same = ap (λ (m : Option PageMap). option_map (λ (pages : PageMap). map_under pages stop.images stop.size) m) same

  -- What is on its way is the map of the stop.
  pub one_of : (opening : Opening) (here told : History) (pending : List Frame) (over : PageMap) (stop : Option KeptStop) → newest_in kept.pair (reads here) ≡ newest_in kept.pair (reads told)
      → MatchOption stop (IsRunning opening kept pending here) (λ stop. over ≡ map_under (newest_in kept.pair (reads here)) stop.images stop.size)
      → last_size pending ≢ 0 → Contains (newest_in kept.pair (reads told) ∷ kept_map (option_map (stop_told kept (Some told)) stop)) over
  one_of opening here told pending over None same running some = absurd (some (ap (λ (frames : List Frame). last_size frames) running.none))
  one_of opening here told pending over (Some stop) same is some =
      (1, omega arith, ap (λ (pages : PageMap). map_under pages stop.images stop.size) (sym same) ∙ sym is)

  moments_stand : (opening : Opening) (told : History) (new : Option History) (faults : ℕ) (since : List Step) → told ≡ grown since opening.start
      → (on : IsStoreOn opening kept (rebased opening.start since))
      → Passes opening (Leaves opening (view_of kept (reads (rebased opening.start since)) on.pending on.later))
      (Holds opening (view_of kept (reads (rebased opening.start since)) on.pending on.later)) (Some told) new
      → GoesBy (HandsOwn kept.page_size (length (reads (rebased opening.start since)).main)) (Some told) new → AtEachMoment opening (RecoversOneOf opening (may_recover (store_state (Some told) faults kept readers))) (Some told) new
  moments_stand opening told new faults since is on passes goes =
      own_moments opening kept.page_size (length (reads (rebased opening.start since)).main) (may_recover (store_state (Some told) faults kept readers)) (Some told) new goes
      (since, is, (own_of opening kept (rebased opening.start since) (inl on), omega arith))
      (passes_weaker opening (Leaves opening view) (LeavesNamed opening (may_recover (store_state (Some told) faults kept readers)) kept.page_size (length (reads here).main)) (Holds opening view) (Holds opening view)
      each (λ t h. h) (Some told) new passes).each_moment
    where
      here : History
      here = rebased opening.start since

      view : StoreView
      view = view_of kept (reads (rebased opening.start since)) on.pending on.later

      same : newest_in kept.pair (reads (rebased opening.start since)) ≡ newest_in kept.pair (reads told)
      same = ap (λ (files : Files). newest_in kept.pair files) (sym (rebased_reads opening.start since) ∙ ap reads (sym is))

      each : (t : History) (image : Files) → Leaves opening (view_of kept (reads (rebased opening.start since)) on.pending on.later) t image
          → LeavesNamed opening (may_recover (store_state (Some told) faults kept readers)) kept.page_size (length (reads here).main) t image
      each t image leaves chance = (
        elim (leaves chance) [
          | inl old ↦ (0, omega arith, sym (old ∙ same))
          | inr (some, late) ↦
              subst (λ (pages : PageMap). Contains (newest_in kept.pair (reads told) ∷ kept_map (option_map (stop_told kept (Some told)) kept.stop)) pages) (sym late)
              (one_of opening here told on.pending on.later kept.stop same on.running some)
        ],
        either_named opening kept here on (recovered image) (leaves chance),
        either_names opening kept here on (recovered image) (leaves chance),
      )

  -- what a crash leaves now is one of these maps, and so it is where nothing changed
  moments_still : (opening : Opening) (told : History) (faults : ℕ) (since : List Step) → told ≡ grown since opening.start → IsTornOn opening kept (rebased opening.start since)
      → AtEachMoment opening (RecoversOneOf opening (may_recover (store_state (Some told) faults kept readers))) (Some told) (Some told)
  moments_still opening told faults since is torn =
      (passes_still opening (RecoversOneOf opening maps) (LeavesOneOf opening maps) (λ t leaves. leaves) (Some told) (since, is, each)).each_moment
    where
      maps : List PageMap
      maps = may_recover (store_state (Some told) faults kept readers)

      each : LeavesOneOf opening (may_recover (store_state (Some told) faults kept readers)) (rebased opening.start since)
      each image left chance =
          let leaves = leaves_now opening kept (rebased opening.start since) (inr torn) image left chance in (
            subst (λ (files : Files). Contains (maps_in kept files) (recovered image)) (sym (rebased_reads opening.start since) ∙ ap reads (sym is)) leaves.0,
            leaves.1,
            leaves.2,
          )

  -- a step hands no header to a write, and writes Main no further than to its end
  step_goes : (told here : History) (new : Option History) → reads here ≡ reads told → Taken kept readers state (Some told) new
      → GoesBy (HandsOwn kept.page_size (length (reads here).main)) (Some told) new
  step_goes told here new is (Stays still same) = goes_still (HandsOwn kept.page_size (length (reads here).main)) (Some told) new same
  step_goes told here new is (Goes step same unfinished free current goes) =
      let on = goes told here refl is in
      goes_one (HandsOwn kept.page_size (length (reads here).main)) step (Some told) new (own_elsewhere kept.page_size step on.log1 on.log2, on.ends) same

  moments_step : (result : Result Ckpt Failed) (old new : Option History) (opening : Opening) (faults : ℕ) → IsWholeStore kept → HasTakenStep kept readers result state old new
      → Taken kept readers state old new → IsOpenedAt opening kept old → AtEachMoment opening (RecoversOneOf opening (may_recover (store_state old faults kept readers))) old new
  moments_step result None new opening faults whole has (Stays is same) h =
      subst (λ (t : Option History). AtEachMoment opening (RecoversOneOf opening (may_recover (store_state None faults kept readers))) None t) (sym same) tt
  moments_step result None new opening faults whole has (Goes step same unfinished free current goes) h =
      subst (λ (t : Option History). AtEachMoment opening (RecoversOneOf opening (may_recover (store_state None faults kept readers))) None t) (sym same) tt
  moments_step result (Some told) new opening faults whole has took (since, is, inl on) =
      moments_stand opening told new faults since is on
      (has.moments opening (view_of kept (reads (rebased opening.start since)) on.pending on.later) (since, is, on.holds) refl
      (on.there.other_pages ∙ sym (pages_are kept whole))) (step_goes told (rebased opening.start since) new (sym (rebased_reads opening.start since) ∙ ap reads (sym is)) took)
  moments_step result (Some told) new opening faults whole has (Stays same still) (since, is, inr torn) =
      subst (λ (t : Option History). AtEachMoment opening (RecoversOneOf opening (may_recover (store_state (Some told) faults kept readers))) (Some told) t) (sym still)
      (moments_still opening told faults since is torn)
  moments_step result (Some told) new opening faults whole has (Goes step same unfinished free current goes) (since, is, inr torn) =
      absurd (true≢false (sym torn.done ∙ unfinished))

-- The newest map stays, and so does the one that is on its way.
pub step_newest : (kept : StoreData) (readers : Readers) (pins : List Pin) (result : Result Ckpt Failed) (state : LogState) (old new : Option History)
    → IsLiveStore old kept readers pins → HasTakenStep kept readers result state old new → newest_told (stepped kept state) new ≡ newest_told kept old
step_newest kept readers pins result state old new live has =
    newest_step kept readers state old new live.opening (taken kept readers pins result state old new live has) live.opened

pub step_stop : (kept : StoreData) (readers : Readers) (pins : List Pin) (result : Result Ckpt Failed) (state : LogState) (old new : Option History)
    → IsLiveStore old kept readers pins → HasTakenStep kept readers result state old new
    → option_map (stop_told (stepped kept state) new) kept.stop ≡ option_map (stop_told kept old) kept.stop
step_stop kept readers pins result state old new live has = by kept.stop
  where
    by : (stop : Option KeptStop) → option_map (stop_told (stepped kept state) new) stop ≡ option_map (stop_told kept old) stop
    by None = refl
    by (Some stop) =
        let same : stop_map (stepped kept state) stop new ≡ stop_map kept stop old =
        stop_step kept readers state stop old new (step_newest kept readers pins result state old new live has) in
        λ i. Some (record { log = stop.log; at = stop.at; map = same i })

-- The store stands since each opening since which it stood.
pub step_opened : (kept : StoreData) (readers : Readers) (pins : List Pin) (result : Result Ckpt Failed) (state : LogState) (old new : Option History) (opening : Opening)
    → IsLiveStore old kept readers pins → HasTakenStep kept readers result state old new → IsOpenedAt opening kept old → IsOpenedAt opening (stepped kept state) new
step_opened kept readers pins result state old new opening live has h =
    opened_step kept readers state old new opening (taken kept readers pins result state old new live has) h

-- At each moment of the step a crash leaves one of the maps that it might have left before.
pub step_moments : (kept : StoreData) (readers : Readers) (pins : List Pin) (result : Result Ckpt Failed) (state : LogState) (old new : Option History) (faults : ℕ)
    → IsLiveStore old kept readers pins → HasTakenStep kept readers result state old new
    → AtEach (λ opening. IsOpenedAt opening kept old) (may_recover (store_state old faults kept readers)) old new
step_moments kept readers pins result state old new faults live has opening h =
    moments_step kept readers state result old new opening faults live.whole has (taken kept readers pins result state old new live has) h

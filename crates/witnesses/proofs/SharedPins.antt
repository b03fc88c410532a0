-- The pins and runs of a view, while what waits becomes a commit or goes.
use Rattle.std.proofs.Common.{◌≡◌, ℕ, List, [], ◌∷◌, ◌++◌, length, refl, sym, subst}
use Rattle.std.specs.Prelude.{All, Option, Some, None, false}
use Rattle.std.proofs.lemmas.List.Elements.{All-head, All-append}
use Rattle.engine_spec.specs.declared.pins.Pin.{Pin}
use Rattle.engine_spec.specs.State.{EngineState}
use Rattle.engine_spec.specs.declared.commits.Who.{Who}
use Rattle.page_face.specs.declared.prepared.Prepared.{Prepared}
use Rattle.page_face.specs.Pins.{TakesPin}
use Rattle.page_face.specs.Prepared.{IsFit}
use Rattle.memory_engine.specs.Plain.{PlainState, PlainLive, IsOfMap, state_of}
use Rattle.memory_engine.proofs.PlainPins.{all_without, all_with, front_all, back_all}
use Rattle.witnesses.specs.declared.shared.Shared.{Shared}
use Rattle.witnesses.specs.declared.shared.Waiting.{Waiting}
use Rattle.witnesses.specs.Shared.{SharedLive, shared_map, pin_of}

-- what fits still does where the page size is the same
pub fits_on : {M : Type 0} (old new : EngineState) (pin : Pin) (prepared : Prepared M) → new.page_size ≡ old.page_size
    → IsFit old pin prepared → IsFit new pin prepared
fits_on old new pin prepared size fit = record {
  snap = fit.snap;
  base = fit.base;
  different = fit.different;
  in_range = fit.in_range;
  whole = subst (λ (s : ℕ). All (λ image. length image.bytes ≡ s) prepared.changed) (sym size) fit.whole;
  first_page = fit.first_page;
  fresh = fit.fresh;
  freed = fit.freed;
}

-- the pin of what waits may be dropped
pub without_waiting : {M : Type 0} (waiting : Option (Waiting M)) (plain : PlainState) (pins : List Pin)
    → PlainLive plain (pin_of waiting ++ pins) → PlainLive plain pins
without_waiting None plain pins live = live
without_waiting (Some waiting) plain pins live = (live.0, all_without (IsOfMap plain) [] waiting.pin pins live.1)

-- a pin of the same snapshot and size holds as well
pub other_pin : (plain : PlainState) (before after : List Pin) (one other : Pin) → other.n ≡ one.n → other.size ≡ one.size
    → IsOfMap plain one → PlainLive plain (before ++ one ∷ after) → PlainLive plain (before ++ other ∷ after)
other_pin plain before after one other n size of live = (
  live.0,
  all_with (IsOfMap plain) before other after
      (record { n = rw n of.n; size = rw (n, size) of.size })
      (all_without (IsOfMap plain) before one after live.1),
)

-- the pin of what is handed over stands first
moved_first : (plain : PlainState) (waiting before after : List Pin) (pin : Pin) → PlainLive plain (waiting ++ (before ++ pin ∷ after))
    → PlainLive plain (pin ∷ (before ++ after))
moved_first plain waiting before after pin live =
    let rest = back_all (IsOfMap plain) waiting (before ++ pin ∷ after) live.1 in
    let here = All-head (IsOfMap plain) pin after (back_all (IsOfMap plain) before (pin ∷ after) rest) in
    (live.0, all_with (IsOfMap plain) [] pin (before ++ after) here (all_without (IsOfMap plain) before pin after rest))

-- a transaction that fits is handed over with its pin
pub handed_over : {M : Type 0} (shared : Shared M) (pin : Pin) (prepared : Prepared M) (who : Who) (before after : List Pin)
    → IsFit (state_of shared.plain) pin prepared → SharedLive shared (before ++ pin ∷ after)
    → SharedLive (record shared { waiting = Some (record { pin = pin; prepared = prepared; who = who }); barred = false }) (before ++ after)
handed_over shared pin prepared who before after fit live = record {
  plain = moved_first shared.plain (pin_of shared.waiting) before after pin live.plain;
  fit = fit;
  commits = live.commits;
  theirs = live.theirs;
  since = live.since;
}

-- a pin is given back
pub takes_pin : {M : Type 0} (shared : Shared M) (pin : Pin) → TakesPin SharedLive shared_map shared pin (record shared { barred = false })
takes_pin shared pin = record {
  taken = λ before after live. record {
    plain = (
      live.plain.0,
      All-append (IsOfMap shared.plain) (pin_of shared.waiting) (before ++ after)
          (front_all (IsOfMap shared.plain) (pin_of shared.waiting) (before ++ pin ∷ after) live.plain.1)
          (all_without (IsOfMap shared.plain) before pin after (back_all (IsOfMap shared.plain) (pin_of shared.waiting) (before ++ pin ∷ after) live.plain.1)),
    );
    fit = live.fit;
    commits = live.commits;
    theirs = live.theirs;
    since = live.since;
  };
  maps = λ other live. refl;
}

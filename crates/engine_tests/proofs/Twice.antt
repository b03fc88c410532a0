-- Two transactions of one snapshot: a view's pins aren't counted, so one that holds does twice.
use Rattle.std.proofs.Common.{[], ◌∷◌, arith}
use Rattle.engine_spec.specs.declared.pins.Pin.{Pin}
use Rattle.memory_engine.specs.Plain.{IsOfMap}
use Rattle.memory_engine.proofs.PlainPins.{back_all, all_with}
use Rattle.witnesses.specs.declared.shared.Shared.{Shared}
use Rattle.witnesses.specs.Shared.{SharedLive, pin_of}

pub held_twice : {M : Type 0} (shared : Shared M) (pin : Pin) → SharedLive shared (pin ∷ []) → SharedLive shared (pin ∷ pin ∷ [])
held_twice shared pin live =
    let here : IsOfMap shared.plain pin = back_all (IsOfMap shared.plain) (pin_of shared.waiting) (pin ∷ []) live.plain.1 0 pin (omega arith) in
    record {
      plain = (live.plain.0, all_with (IsOfMap shared.plain) (pin_of shared.waiting) pin (pin ∷ []) here live.plain.1);
      fit = live.fit;
      commits = live.commits;
      theirs = live.theirs;
      since = live.since;
    }

-- Nothing changed meanwhile.
use Rattle.std.proofs.Common.{◌≡◌, [], refl, sym, append-nil, arith, Option, Some, None, true, subst}
use Rattle.disk_face.specs.Steps.{History}
use Rattle.engine_spec.specs.State.{EngineState, Stop, Later, During, KeepsStop, GoesOn}

stop_stays : (stop : Option Stop) → KeepsStop stop stop
stop_stays None = tt
stop_stays (Some stop) = refl

disk_stays : (disk : Option History) → GoesOn disk disk
disk_stays None = refl
disk_stays (Some disk) = ([], refl)

-- each moment follows itself
pub later_same : (state : EngineState) → Later state state
later_same state = record {
  more = [];
  grown = sym (append-nil state.history);
  own = refl;
  told = refl;
  size = omega arith;
  stopped = stop_stays state.stopped;
  faults = omega arith;
  page_size = refl;
  usable = refl;
  always_begins = refl;
  alone = refl;
  keeps_logs = refl;
  logs = λ always. refl;
  readers = λ always. refl;
  disk = disk_stays state.disk;
  nobody = λ alone. refl;
}

-- what comes at once comes during the call
pub during_here : (state : EngineState) (event : EngineState → Type 0) → event state → During state event
during_here state event here = (state, later_same state, here)

-- where nobody else commits, what came during the call came at once
pub at_once : (state : EngineState) (event : EngineState → Type 0) → state.alone ≡ true → During state event → event state
at_once state event alone found = subst event (found.1.nobody alone) found.2

-- A run of page lines over an engine that keeps logs is a run over the logged world.
use Rattle.std.proofs.Common.{◌≡◌, ◌∙◌, ℕ, true, List, [], ◌∷◌, refl, sym, ap, subst, arith}
use Rattle.std.specs.Prelude.{Option, Some, None}
use Rattle.std.proofs.lemmas.List.Elements.{All-head, All-tail}
use Rattle.page_spec.specs.PageMap.{PageMap, page_size_of}
use Rattle.crash_spec.specs.Opening.{Opening}
use Rattle.engine_spec.specs.declared.pins.Lock.{Lock}
use Rattle.engine_spec.specs.declared.pins.Pin.{Pin}
use Rattle.engine_spec.specs.Events.{with_readers}
use Rattle.engine_spec.specs.Leaves.{RecoversNow}
use Rattle.engine_spec.specs.State.{EngineState}
use Rattle.engine_spec.specs.TwoLogs.{TwoLogs, one_fewer}
use Rattle.page_lines.specs.declared.lines.Act.{Act}
use Rattle.page_lines.specs.declared.lines.Told.{Told}
use Rattle.page_lines.specs.PageLines.{IsPageStore}
use Rattle.page_lines.specs.Range.{IsInRange, AreInRange}
use Rattle.page_lines.specs.World.{world_over}
use Rattle.page_lines.specs.Logged.{LoggedWorld, Line, Lines, may_leave}
use Rattle.acts.specs.declared.seats.Seat.{Seat}
use Rattle.acts.specs.Logged.{StandsLogged, LeadsLogged, past_of}
use Rattle.acts.specs.Pagers.{Acts, AreSound, Between, EndsAll, KeepsMaps, LeavesItsMaps, Plays, pins_of}
use Rattle.acts.proofs.Growth.{GoesOn, acts_go}
use Rattle.acts.proofs.LoggedActs.{acts_logged}
use Rattle.acts.proofs.LoggedStanding.{leaves_now, counted_disk, counted_faults}
use Rattle.acts.proofs.Soundness.{acts_sound}

-- An engine between two acts: nobody else commits to it, a transaction may always begin on it, and it stands at a logged world, which a
-- crash leaves as the world says. Each session's transaction is sound.
pub record RunsLogged (opened : Opening → Type 0) (seen : EngineState) (map_at : Pin → Option PageMap) (seats : List Seat)
    (logged : LoggedWorld) : Type 0 where
  pub alone : seen.alone ≡ true
  pub always : seen.always_begins ≡ true
  pub stands : StandsLogged seen map_at seats logged
  pub sound : AreSound seen.page_size seats
  pub recovers : (opening : Opening) → opened opening → RecoversNow opening (may_leave logged) seen.disk

-- what the next act makes of it
pub record ComesNext (opened : Opening → Type 0) (old mid : EngineState) (maps_then : Pin → Option PageMap) (seats_then : List Seat)
    (logged : LoggedWorld) (one : Act) (answer : Told) : Type 0 where
  pub next : LoggedWorld
  pub line : Line opened logged (past_of old) one answer next (past_of mid)
  pub stands : RunsLogged opened mid maps_then seats_then next

-- one act, after which a crash leaves what the engine says
pub comes_next : (opened : Opening → Type 0) (old mid : EngineState) (maps maps_then : Pin → Option PageMap) (seats seats_then : List Seat)
    (logged : LoggedWorld) (one : Act) (answer : Told) → IsInRange one → RunsLogged opened old maps seats logged
    → Acts (record { opened = opened; old = old; new = mid; map_before = maps; map_after = maps_then }) seats one answer seats_then
    → KeepsMaps seats maps seats_then maps_then → LeavesItsMaps opened mid
    → ComesNext opened old mid maps_then seats_then logged one answer
comes_next opened old mid maps maps_then seats seats_then logged one answer range b acted keeps leaves =
    let engine : Between = record { opened = opened; old = old; new = mid; map_before = maps; map_after = maps_then } in
    let goes : GoesOn old mid = acts_go opened old mid maps maps_then seats one answer seats_then acted in
    let leads : LeadsLogged engine seats seats_then logged one answer = acts_logged engine seats seats_then logged one answer (record {
      alone = b.alone;
      always = b.always;
      stands = b.stands;
      sound = b.sound;
      maps = keeps;
      recovers = b.recovers;
      recovers_then = leaves;
    }) acted in
    record {
      next = leads.next;
      line = leads.line;
      stands = record {
        alone = goes.alone ∙ b.alone;
        always = goes.always ∙ b.always;
        stands = leads.stands;
        sound = subst (λ (size : ℕ). AreSound size seats_then) (sym goes.page_size)
            (acts_sound engine seats seats_then one answer (omega (arith, b.stands.tells.size)) range b.sound acted);
        recovers = leads.line.leaves;
      };
    }

-- giving pins back leaves the disk and its count of faults
ends_past : (pins : List Pin) (old new : EngineState) → EndsAll pins old new → past_of new ≡ past_of old
ends_past [] old new same = ap past_of same
ends_past (pin ∷ pins) old new (mid, ends, rest) = ends_past pins mid new rest ∙ ap past_of ends ∙ counted pin.lock
  where
    counted : (lock : Lock) → past_of (with_readers one_fewer lock old) ≡ past_of old
    counted lock = λ i. record { faults = counted_faults one_fewer lock old i; past = counted_disk one_fewer lock old i }

-- A run of page lines over such an engine is a run over the logged world.
pub plays_logged : (opened : Opening → Type 0) (old : EngineState) (maps : Pin → Option PageMap) (seats : List Seat) (acts : List Act)
    (answers : List Told) (new : EngineState) (logged : LoggedWorld) → AreInRange acts → RunsLogged opened old maps seats logged
    → Plays opened old maps seats acts answers new
    → (after : LoggedWorld) × Lines opened logged (past_of old) acts answers after (past_of new)
plays_logged opened old maps seats [] [] new logged range b plays = (logged, (refl, ends_past (pins_of seats) old new plays))
plays_logged opened old maps seats [] (answer ∷ answers) new logged range b never = absurd never
plays_logged opened old maps seats (one ∷ acts) [] new logged range b never = absurd never
plays_logged opened old maps seats (one ∷ acts) (answer ∷ answers) new logged range b (mid, maps_then, seats_then, acted, keeps, leaves, rest) =
    let first = comes_next opened old mid maps maps_then seats seats_then logged one answer (All-head IsInRange one acts range) b acted keeps leaves in
    let others = plays_logged opened mid maps_then seats_then acts answers new first.next (All-tail IsInRange one acts range) first.stands rest in
    (others.0, (first.next, past_of mid, first.line, others.1))

-- An engine to which nothing was committed yet, and which keeps logs, stands at the world over its page store, with these logs.
pub begins_logged : (seen : EngineState) (map_at : Pin → Option PageMap) (pages : PageMap) (logs : TwoLogs) (locks : ℕ → Lock)
    → seen.history ≡ [] → seen.newest ≡ Some pages → IsPageStore pages → seen.size ≡ 16 → seen.page_size ≡ page_size_of pages
    → seen.stopped ≡ None → seen.logs ≡ Some logs
    → StandsLogged seen map_at [] (record { world = world_over pages; logs = logs; readers = seen.readers; locks = locks; stopped = None })
begins_logged seen map_at pages logs locks history newest store size page_size running has = record {
  tells = record {
    history_is = history;
    newest = newest;
    store = store;
    size = size;
    page_size = page_size;
    count = refl;
    logs = has;
    readers = refl;
    stopped = running;
  };
  sessions = λ session. tt;
  begun = λ session. refl;
  locks = λ session pin (k, within, is). absurd (omega arith);
}

-- Where no session has acted yet, such a run may begin.
pub runs_logged : (opened : Opening → Type 0) (seen : EngineState) (map_at : Pin → Option PageMap) (logged : LoggedWorld) → seen.alone ≡ true
    → seen.always_begins ≡ true → StandsLogged seen map_at [] logged → LeavesItsMaps opened seen → RunsLogged opened seen map_at [] logged
runs_logged opened seen map_at logged alone always stands leaves = record {
  alone = alone;
  always = always;
  stands = stands;
  sound = λ k d within. absurd (omega arith);
  recovers = leaves_now opened seen logged stands.tells leaves;
}

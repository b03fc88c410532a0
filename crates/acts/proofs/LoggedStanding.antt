-- An engine that keeps logs stands, with the sessions over it, at a logged world: what keeps it there.
use Rattle.std.proofs.Common.{◌≡◌, ◌∙◌, ℕ, zero, suc, ◌+◌, Bool, true, false, cond, ◌&&◌, is_some, List, [], ◌∷◌, ◌++◌, length, refl, sym, ap, subst, inl, inr, arith, get_or, eq-eqb}
use Rattle.std.specs.Prelude.{Option, Some, Contains}
use Rattle.std.proofs.lemmas.Bool.{cases_eq, ne_eqb}
use Rattle.std.proofs.lemmas.List.Elements.{Contains-append_left}
use Rattle.disk_face.specs.Faults.{Rose}
use Rattle.disk_face.specs.Steps.{History}
use Rattle.page_spec.specs.PageMap.{PageMap, page_size_of}
use Rattle.crash_spec.specs.Opening.{Opening}
use Rattle.engine_spec.specs.declared.commits.Commit.{Commit}
use Rattle.engine_spec.specs.declared.pins.Lock.{Lock}
use Rattle.engine_spec.specs.declared.pins.Pin.{Pin}
use Rattle.engine_spec.specs.declared.pins.Readers.{Readers}
use Rattle.engine_spec.specs.Events.{with_readers}
use Rattle.engine_spec.specs.Leaves.{AtEach, RecoversNow, if_told, kept_map, may_recover}
use Rattle.engine_spec.specs.State.{EngineState, Stop, During}
use Rattle.engine_spec.specs.TwoLogs.{TwoLogs, change_readers}
use Rattle.page_lines.specs.declared.lines.Act.{Act}
use Rattle.page_lines.specs.declared.lines.Told.{Told}
use Rattle.page_lines.specs.declared.lines.Told.TheVariants as reply
use Rattle.page_lines.specs.PageLines.{IsPageStore}
use Rattle.page_lines.specs.World.{World, SessionState, changed_at, newest_map}
use Rattle.page_lines.specs.Logged.{LoggedWorld, LoggedOutcome, FailsIn, logged_step, may_leave, unchanged}
use Rattle.acts.specs.declared.seats.Seat.{Seat}
use Rattle.acts.specs.declared.seats.State.{State}
use Rattle.acts.specs.Logged.{TellsLogged, StandsLogged, FindsLogged, LeadsLogged}
use Rattle.acts.specs.Pagers.{Between, LeavesItsMaps, Same, seat_state, begun_of, with_seat, pins_in}
use Rattle.acts.specs.Standing.{Matches, PinStands}
use Rattle.page_lines.proofs.LoggedMoments.{at_wider, at_rest}
use Rattle.acts.proofs.SeatLaws.{seat_state-same, seat_state-other, begun_of-same, begun_of-other, pin_there}
use Rattle.acts.proofs.Standing.{matches_keep}
use Rattle.acts.proofs.Telling.{Extends, extends_same, pin_keeps}

-- An act that went well: it is answered as one outcome of the logged world says, no fault was counted, and the engine stands at the
-- world after it.
pub record GoesWell (engine : Between) (after : List Seat) (logged : LoggedWorld) (answer : Told) (outcome : LoggedOutcome) : Type 0 where
  pub answer_is : answer ≡ outcome.told
  pub faults : engine.new.faults ≡ engine.old.faults
  pub moments : AtEach engine.opened (may_leave logged ++ may_leave outcome.after) engine.old.disk engine.new.disk
  pub stands : StandsLogged engine.new engine.map_after after outcome.after

-- An act in which the disk failed, which leaves a world that Fails says.
pub record GoesWrong (engine : Between) (after : List Seat) (logged : LoggedWorld) (answer : Told) (Fails : LoggedWorld → Type 0) : Type 0 where
  pub next : LoggedWorld
  pub answer_is : answer ≡ reply.Disk
  pub fails : Fails next
  pub rose : Rose engine.old.faults engine.new.faults
  pub moments : AtEach engine.opened (may_leave logged ++ may_leave next) engine.old.disk engine.new.disk
  pub stands : StandsLogged engine.new engine.map_after after next

-- what the engine says that a crash leaves is what the world says
pub leaves_is : (seen : EngineState) (logged : LoggedWorld) → TellsLogged seen logged → may_recover seen ≡ may_leave logged
leaves_is seen logged tells =
    ap (λ (newest : Option PageMap). if_told newest ++ kept_map seen.stopped) tells.newest
    ∙ ap (λ (stop : Option Stop). newest_map logged.world ∷ kept_map stop) tells.stopped

-- where a crash leaves now what the engine says, it leaves what the world says at which the engine stands
pub leaves_now : (opened : Opening → Type 0) (seen : EngineState) (logged : LoggedWorld) → TellsLogged seen logged → LeavesItsMaps opened seen
    → (opening : Opening) → opened opening → RecoversNow opening (may_leave logged) seen.disk
leaves_now opened seen logged tells leaves opening is =
    subst (λ (maps : List PageMap). RecoversNow opening maps seen.disk) (leaves_is seen logged tells) (leaves opening is)

pub leads_well : (engine : Between) (seats after : List Seat) (logged : LoggedWorld) (one : Act) (answer : Told)
    → FindsLogged engine seats after logged → GoesWell engine after logged answer (logged_step logged one)
    → LeadsLogged engine seats after logged one answer
leads_well engine seats after logged one answer b goes = record {
  next = (logged_step logged one).after;
  line = record {
    answers = inl (ap (λ (told : Told). record { told = told; after = (logged_step logged one).after }) goes.answer_is, goes.faults);
    moments = goes.moments;
    leaves = leaves_now engine.opened engine.new (logged_step logged one).after goes.stands.tells b.recovers_then;
  };
  stands = goes.stands;
}

pub leads_wrong : (engine : Between) (seats after : List Seat) (logged : LoggedWorld) (one : Act) (answer : Told)
    → FindsLogged engine seats after logged → GoesWrong engine after logged answer (FailsIn logged one)
    → LeadsLogged engine seats after logged one answer
leads_wrong engine seats after logged one answer b goes = record {
  next = goes.next;
  line = record {
    answers = inr (goes.answer_is, goes.fails, goes.rose);
    moments = goes.moments;
    leaves = leaves_now engine.opened engine.new goes.next goes.stands.tells b.recovers_then;
  };
  stands = goes.stands;
}

-- where the disk didn't change, a crash leaves at each moment what the world before says
pub still : (engine : Between) (seats after : List Seat) (logged next : LoggedWorld) → FindsLogged engine seats after logged
    → engine.new.disk ≡ engine.old.disk → AtEach engine.opened (may_leave logged ++ may_leave next) engine.old.disk engine.new.disk
still engine seats after logged next b same =
    at_wider engine.opened (may_leave logged) (may_leave logged ++ may_leave next)
    (λ pages there. Contains-append_left (may_leave logged) (may_leave next) pages there) engine.old.disk engine.new.disk
    (at_rest engine.opened (may_leave logged) engine.old.disk engine.new.disk same b.recovers)

-- where a crash leaves at each moment what the engine says before
pub moments_kept : (engine : Between) (seats after : List Seat) (logged next : LoggedWorld) → FindsLogged engine seats after logged
    → AtEach engine.opened (may_recover engine.old) engine.old.disk engine.new.disk
    → AtEach engine.opened (may_leave logged ++ may_leave next) engine.old.disk engine.new.disk
moments_kept engine seats after logged next b at =
    at_wider engine.opened (may_recover engine.old) (may_leave logged ++ may_leave next)
    (λ pages there. Contains-append_left (may_leave logged) (may_leave next) pages
    (subst (λ (maps : List PageMap). Contains maps pages) (leaves_is engine.old logged b.stands.tells) there)) engine.old.disk engine.new.disk at

-- Where nothing but the place of a failed write, the faults, the logs, their readers and the disk's past changed, the engine tells of a
-- world in which nothing but these and the sessions changed.
pub tells_as : (old new : EngineState) (logged next : LoggedWorld) (stopped : Option Stop) (faults : ℕ) (logs : Option TwoLogs)
    (readers : Readers) (disk : Option History)
    → new ≡ record old { stopped = stopped; faults = faults; logs = logs; readers = readers; disk = disk }
    → next.world.maps ≡ logged.world.maps → next.world.history ≡ logged.world.history → stopped ≡ next.stopped → logs ≡ Some next.logs
    → readers ≡ next.readers → TellsLogged old logged → TellsLogged new next
tells_as old new logged next stopped faults logs readers disk is maps history stopped_is logs_are readers_are tells =
    let newest : newest_map logged.world ≡ newest_map next.world = sym
    (ap (λ (list : List PageMap). get_or list (length next.world.history) []) maps
    ∙ ap (λ (list : List Commit). get_or logged.world.maps (length list) []) history) in
    subst (λ (seen : EngineState). TellsLogged seen next) (sym is) (record {
      history_is = tells.history_is ∙ sym history;
      newest = tells.newest ∙ ap Some newest;
      store = subst IsPageStore newest tells.store;
      size = tells.size;
      page_size = tells.page_size ∙ ap page_size_of newest;
      count = ap length maps ∙ tells.count ∙ ap (λ (list : List Commit). length list + 1) (sym history);
      logs = logs_are;
      readers = readers_are;
      stopped = stopped_is;
    })

-- the same of the very engine
pub tells_same : (old new : EngineState) (logged next : LoggedWorld) → new ≡ old → next.world.maps ≡ logged.world.maps
    → next.world.history ≡ logged.world.history → next.stopped ≡ logged.stopped → next.logs ≡ logged.logs → next.readers ≡ logged.readers
    → TellsLogged old logged → TellsLogged new next
tells_same old new logged next same maps history stopped logs readers tells =
    tells_as old new logged next old.stopped old.faults old.logs old.readers old.disk same maps history (tells.stopped ∙ sym stopped)
    (tells.logs ∙ ap Some (sym logs)) (tells.readers ∙ sym readers) tells

-- an engine that keeps logs, and on which a transaction may always begin, counts its readers
pub counts : (change : ℕ → ℕ) (lock : Lock) (old : EngineState) (logs : TwoLogs) → old.always_begins ≡ true → old.logs ≡ Some logs
    → with_readers change lock old ≡ record old { readers = change_readers change old.readers lock }
counts change lock old logs always has =
    let test : (old.always_begins && is_some old.logs) ≡ true =
    ap (λ (begins : Bool). begins && is_some old.logs) always ∙ ap (λ (told : Option TwoLogs). is_some told) has in
    ap (λ (b : Bool). cond b (record old { readers = change_readers change old.readers lock }) old) test

-- a world with another count of readers
pub tells_counted : (old new : EngineState) (logged next : LoggedWorld) (change : ℕ → ℕ) (lock : Lock) → old.always_begins ≡ true
    → new ≡ with_readers change lock old → next.world.maps ≡ logged.world.maps → next.world.history ≡ logged.world.history
    → next.stopped ≡ logged.stopped → next.logs ≡ logged.logs → next.readers ≡ change_readers change logged.readers lock
    → TellsLogged old logged → TellsLogged new next
tells_counted old new logged next change lock always is maps history stopped logs readers tells =
    tells_as old new logged next old.stopped old.faults old.logs (change_readers change old.readers lock) old.disk
    (is ∙ counts change lock old logged.logs always tells.logs) maps history (tells.stopped ∙ sym stopped) (tells.logs ∙ ap Some (sym logs))
    (ap (λ (now : Readers). change_readers change now lock) tells.readers ∙ sym readers) tells

-- counting a reader leaves the disk and its count of faults
pub counted_disk : (change : ℕ → ℕ) (lock : Lock) (old : EngineState) → (with_readers change lock old).disk ≡ old.disk
counted_disk change lock old = by_test (old.always_begins && is_some old.logs)
  where
    by_test : (test : Bool) → (cond test (record old { readers = change_readers change old.readers lock }) old).disk ≡ old.disk
    by_test true = refl
    by_test false = refl

pub counted_faults : (change : ℕ → ℕ) (lock : Lock) (old : EngineState) → (with_readers change lock old).faults ≡ old.faults
counted_faults change lock old = by_test (old.always_begins && is_some old.logs)
  where
    by_test : (test : Bool) → (cond test (record old { readers = change_readers change old.readers lock }) old).faults ≡ old.faults
    by_test true = refl
    by_test false = refl

-- a pin of a list of one
pub the_pin : (one pin : Pin) → Contains (one ∷ []) pin → pin ≡ one
the_pin one pin (zero, within, is) = sym is
the_pin one pin (suc k, within, is) = absurd (omega arith)

-- a session that doesn't move stands as before
session_stays : (engine : Between) (seats after : List Seat) (logged next : LoggedWorld) (s : ℕ) → FindsLogged engine seats after logged
    → Extends logged.world.maps next.world.maps → seat_state after s ≡ seat_state seats s → next.world.sessions s ≡ logged.world.sessions s
    → Matches engine.map_after next.world.maps (seat_state after s) (next.world.sessions s)
session_stays engine seats after logged next s b extends state kept =
    let maps : (pin : Pin) → Contains (pins_in (seat_state seats s)) pin → engine.map_after pin ≡ engine.map_before pin = λ pin held.
    b.maps pin (pin_there seats s pin held)
    (pin_there after s pin (subst (λ (x : State). Contains (pins_in x) pin) (sym state) held)) in
    subst (λ (x : State). Matches engine.map_after next.world.maps x (next.world.sessions s)) (sym state)
    (subst (Matches engine.map_after next.world.maps (seat_state seats s)) (sym kept)
    (matches_keep engine.map_before engine.map_after logged.world.maps next.world.maps (seat_state seats s) (logged.world.sessions s)
    extends maps (b.stands.sessions s)))

-- and holds its lock
lock_stays : (engine : Between) (seats after : List Seat) (logged next : LoggedWorld) (s : ℕ) (pin : Pin) → FindsLogged engine seats after logged
    → seat_state after s ≡ seat_state seats s → next.locks s ≡ logged.locks s → Contains (pins_in (seat_state after s)) pin
    → pin.lock ≡ next.locks s
lock_stays engine seats after logged next s pin b state kept held =
    b.stands.locks s pin (subst (λ (x : State). Contains (pins_in x) pin) state held) ∙ sym kept

-- where no session moves, the engine stands at the world
pub stays : (engine : Between) (seats after : List Seat) (logged next : LoggedWorld) → FindsLogged engine seats after logged → after ≡ seats
    → TellsLogged engine.new next → next.world ≡ logged.world → next.locks ≡ logged.locks
    → StandsLogged engine.new engine.map_after after next
stays engine seats after logged next b same tells world locks =
    let state : (s : ℕ) → seat_state after s ≡ seat_state seats s = λ s. ap (λ (list : List Seat). seat_state list s) same in
    record {
      tells = tells;
      sessions = λ s.
          session_stays engine seats after logged next s b
          (subst (λ (w : World). Extends logged.world.maps w.maps) (sym world) (extends_same logged.world.maps)) (state s)
          (ap (λ (w : World). w.sessions s) world);
      begun = λ s.
          ap (λ (w : World). w.begun s) world ∙ b.stands.begun s ∙ ap (λ (list : List Seat). begun_of list s) (sym same);
      locks = λ s pin held.
          lock_stays engine seats after logged next s pin b (state s) (ap (λ (f : ℕ → Lock). f s) locks) held;
    }

-- where one session moves, the engine stands at the world in which it does
pub moves : (engine : Between) (seats after : List Seat) (logged next : LoggedWorld) (one : Seat) (session : SessionState)
    → FindsLogged engine seats after logged → after ≡ with_seat seats one → TellsLogged engine.new next
    → Extends logged.world.maps next.world.maps → Matches engine.map_after next.world.maps one.state session
    → ((s : ℕ) → next.world.sessions s ≡ changed_at logged.world.sessions one.session session s)
    → next.world.begun one.session ≡ one.begun → ((s : ℕ) → (one.session ≡ s → ⊥) → next.world.begun s ≡ logged.world.begun s)
    → ((pin : Pin) → Contains (pins_in one.state) pin → pin.lock ≡ next.locks one.session)
    → ((s : ℕ) → (one.session ≡ s → ⊥) → next.locks s ≡ logged.locks s)
    → StandsLogged engine.new engine.map_after after next
moves engine seats after logged next one session b same tells extends matches sessions begun others lock locks =
    let put : (s : ℕ) → one.session ≡ s → seat_state after s ≡ one.state = λ s is.
    ap (λ (list : List Seat). seat_state list s) same ∙ ap (seat_state (with_seat seats one)) (sym is) ∙ seat_state-same seats one in
    let state : (s : ℕ) → (one.session ≡ s → ⊥) → seat_state after s ≡ seat_state seats s = λ s apart.
    ap (λ (list : List Seat). seat_state list s) same ∙ seat_state-other seats one s apart in
    record {
      tells = tells;
      sessions = λ s. elim (cases_eq one.session s) [
        | inl is ↦
            (let moved : next.world.sessions s ≡ session =
            sessions s ∙ ap (λ (test : Bool). cond test session (logged.world.sessions s)) (eq-eqb s one.session (sym is)) in
            subst (λ (x : State). Matches engine.map_after next.world.maps x (next.world.sessions s)) (sym (put s is))
            (subst (Matches engine.map_after next.world.maps one.state) (sym moved) matches))
        | inr apart ↦
            session_stays engine seats after logged next s b extends (state s apart)
            (sessions s ∙ ap (λ (test : Bool). cond test session (logged.world.sessions s)) (ne_eqb s one.session (λ e. apart (sym e))))
      ];
      begun = λ s. elim (cases_eq one.session s) [
        | inl is ↦
            ap next.world.begun (sym is) ∙ begun ∙ sym (begun_of-same seats one) ∙ ap (begun_of (with_seat seats one)) is
            ∙ ap (λ (list : List Seat). begun_of list s) (sym same)
        | inr apart ↦
            others s apart ∙ b.stands.begun s ∙ sym (begun_of-other seats one s apart)
            ∙ ap (λ (list : List Seat). begun_of list s) (sym same)
      ];
      locks = λ s pin held. elim (cases_eq one.session s) [
        | inl is ↦ lock pin (subst (λ (x : State). Contains (pins_in x) pin) (put s is) held) ∙ ap next.locks is
        | inr apart ↦ lock_stays engine seats after logged next s pin b (state s apart) (locks s apart) held
      ];
    }

-- the same where the session begins nothing, and goes on under a pin that it has, or under none
pub turns : (engine : Between) (seats after : List Seat) (logged next : LoggedWorld) (s : ℕ) (state before : State) (session : SessionState)
    → FindsLogged engine seats after logged → seat_state seats s ≡ before
    → after ≡ with_seat seats (record { session = s; begun = begun_of seats s; state = state })
    → ((pin : Pin) → Contains (pins_in state) pin → Contains (pins_in before) pin)
    → TellsLogged engine.new next → Extends logged.world.maps next.world.maps → Matches engine.map_after next.world.maps state session
    → ((other : ℕ) → next.world.sessions other ≡ changed_at logged.world.sessions s session other)
    → ((other : ℕ) → next.world.begun other ≡ logged.world.begun other) → ((other : ℕ) → next.locks other ≡ logged.locks other)
    → StandsLogged engine.new engine.map_after after next
turns engine seats after logged next s state before session b was same pins tells extends matches sessions begun locks =
    moves engine seats after logged next (record { session = s; begun = begun_of seats s; state = state }) session b same tells extends
    matches sessions (begun s ∙ b.stands.begun s) (λ other apart. begun other)
    (λ pin held. b.stands.locks s pin (subst (λ (x : State). Contains (pins_in x) pin) (sym was) (pins pin held)) ∙ sym (locks s))
    (λ other apart. locks other)

-- the pin of a session that stays in its transaction stands
pub pin_stays : (engine : Between) (seats after : List Seat) (logged : LoggedWorld) (maps : List PageMap) (s : ℕ) (state before : State) (pin : Pin)
    → FindsLogged engine seats after logged → seat_state seats s ≡ before
    → after ≡ with_seat seats (record { session = s; begun = begun_of seats s; state = state })
    → Contains (pins_in before) pin → Contains (pins_in state) pin → Extends logged.world.maps maps
    → PinStands engine.map_before logged.world.maps pin → PinStands engine.map_after maps pin
pin_stays engine seats after logged maps s state before pin b was same old new extends stands =
    let one : Seat = record { session = s; begun = begun_of seats s; state = state } in
    let there : seat_state after s ≡ state = ap (λ (list : List Seat). seat_state list s) same ∙ seat_state-same seats one in
    pin_keeps engine.map_before engine.map_after logged.world.maps maps pin extends
    (b.maps pin (pin_there seats s pin (subst (λ (x : State). Contains (pins_in x) pin) (sym was) old))
    (pin_there after s pin (subst (λ (x : State). Contains (pins_in x) pin) (sym there) new)))
    stands

-- an answer that changes nothing
pub rests : (engine : Between) (seats after : List Seat) (logged : LoggedWorld) (answer told : Told) → FindsLogged engine seats after logged
    → Same engine seats after answer told → GoesWell engine after logged told (unchanged logged answer)
rests engine seats after logged answer told b same = record {
  answer_is = same.0;
  faults = ap (λ (seen : EngineState). seen.faults) same.2;
  moments = still engine seats after logged logged b (ap (λ (seen : EngineState). seen.disk) same.2);
  stands = stays engine seats after logged logged b same.1
      (tells_same engine.old engine.new logged logged same.2 refl refl refl refl refl b.stands.tells) refl refl;
}

-- what came during the call came at once, since nobody else commits
pub at_once : (engine : Between) (seats after : List Seat) (logged : LoggedWorld) (event : EngineState → Type 0)
    → FindsLogged engine seats after logged → During engine.old event → event engine.old
at_once engine seats after logged event b found = subst event (found.1.nobody b.alone) found.2

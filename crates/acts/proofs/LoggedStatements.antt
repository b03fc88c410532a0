-- What BEGIN, READ, WRITE and ROLLBACK do over an engine that keeps logs is what they do to the logged world.
use Rattle.std.proofs.Common.{◌≡◌, ◌∙◌, ℕ, Bool, true, cond, List, [], ◌∷◌, ◌++◌, length, replicate, refl, sym, ap, subst, inl, inr, arith, get_or, eq-eqb}
use Rattle.std.specs.Prelude.{◌⊎◌, Option, Some, None, Contains, slice_index, unwrap_or, IfSome}
use Rattle.std.proofs.lemmas.Bool.{ne_eqb}
use Rattle.disk_face.specs.Faults.{one_more}
use Rattle.page_spec.specs.PageMap.{PageMap, page_at, page_size_of}
use Rattle.engine_spec.specs.declared.commits.PageImage.{PageImage}
use Rattle.engine_spec.specs.declared.pins.Pin.{Pin}
use Rattle.engine_spec.specs.Change.{image_of}
use Rattle.engine_spec.specs.Events.{Begins, Ends, FailsAlone, lock_now}
use Rattle.engine_spec.specs.PageSet.{with_page}
use Rattle.engine_spec.specs.State.{EngineState}
use Rattle.engine_spec.specs.TwoLogs.{change_readers, lock_of, one_fewer}
use Rattle.page_lines.specs.declared.lines.Told.{Told}
use Rattle.page_lines.specs.declared.lines.Told.TheVariants as reply
use Rattle.page_lines.specs.PageLines.{with_image, read_text, write_text}
use Rattle.page_lines.specs.World.{World, SessionState, Outcome, map_number, newest_map, read_step, write_step, moved}
use Rattle.page_lines.specs.World as run
use Rattle.page_lines.specs.Logged.{LoggedWorld, LoggedOutcome, FailsToRead, in_world, without_reader, logged_begin, logged_rollback}
use Rattle.acts.specs.declared.seats.Seat.{Seat}
use Rattle.acts.specs.declared.seats.State.{State}
use Rattle.acts.specs.declared.seats.State.TheVariants as seat
use Rattle.acts.specs.declared.seats.Transaction.{Transaction}
use Rattle.acts.specs.Logged.{FindsLogged}
use Rattle.acts.specs.Pagers.{Between, BeginActs, ReadOpen, ReadActs, WriteActs, RollbackActs, seat_state, begun_of, with_seat, with_state, new_transaction, pins_in}
use Rattle.acts.specs.Standing.{PinStands, IsTransaction, Matches}
use Rattle.acts.proofs.LoggedStanding.{GoesWell, GoesWrong, still, tells_as, tells_same, tells_counted, counted_disk, counted_faults, the_pin, stays, moves, turns, pin_stays, rests, at_once}
use Rattle.acts.proofs.StandingStatements.{readers_alone}
use Rattle.acts.proofs.Telling.{extends_same}

-- BEGIN out of a transaction, where the engine began one
begin_out : (engine : Between) (seats after : List Seat) (logged : LoggedWorld) (s : ℕ) (told : Told) (pin : Pin)
    → FindsLogged engine seats after logged → told ≡ reply.Ok → Begins engine.old pin engine.new → engine.map_after pin ≡ engine.old.newest
    → after ≡ with_seat seats (record { session = s; begun = one_more (begun_of seats s); state = seat.Open (new_transaction pin) })
    → GoesWell engine after logged told (logged_begin logged s run.Out)
begin_out engine seats after logged s told pin b ok begins mapped put =
    let world = logged.world in
    let tells = b.stands.tells in
    let lock : pin.lock ≡ lock_of logged.logs = begins.lock ∙ ap lock_now tells.logs in
    let n : pin.n ≡ length world.history = begins.n ∙ ap length tells.history_is in
    let newest : get_or world.maps pin.n [] ≡ newest_map world = ap (λ (k : ℕ). get_or world.maps k []) n in
    let size : pin.size ≡ length (get_or world.maps pin.n []) =
    begins.size ∙ tells.size ∙ sym tells.store.count ∙ ap length (sym newest) in
    let map : engine.map_after pin ≡ Some (get_or world.maps pin.n []) = mapped ∙ tells.newest ∙ ap Some (sym newest) in
    let next : LoggedWorld = (logged_begin logged s run.Out).after in
    record {
      answer_is = ok;
      faults = ap (λ (seen : EngineState). seen.faults) begins.after_is ∙ counted_faults one_more pin.lock engine.old;
      moments = still engine seats after logged next b
          (ap (λ (seen : EngineState). seen.disk) begins.after_is ∙ counted_disk one_more pin.lock engine.old);
      stands = moves engine seats after logged next _ _ b put
          (tells_counted engine.old engine.new logged next one_more pin.lock b.always begins.after_is refl refl refl refl
          (ap (change_readers one_more logged.readers) (sym lock)) tells)
          (extends_same world.maps) (
            record { snap = sym n; reads = refl; changed = refl; said = refl; wrote = refl },
            record { n = omega (arith, n, tells.count); size = size; map = map },
          )
          (λ other. refl)
          (ap (λ (test : Bool). cond test (one_more (world.begun s)) (world.begun s)) (eq-eqb s s refl) ∙ ap one_more (b.stands.begun s))
          (λ other apart. ap (λ (test : Bool). cond test (one_more (world.begun s)) (world.begun other)) (ne_eqb other s (λ e. apart (sym e))))
          (λ held there. ap (λ (one : Pin). one.lock) (the_pin pin held there) ∙ lock
          ∙ sym (ap (λ (test : Bool). cond test (lock_of logged.logs) (logged.locks s)) (eq-eqb s s refl)))
          (λ other apart. ap (λ (test : Bool). cond test (lock_of logged.logs) (logged.locks other)) (ne_eqb other s (λ e. apart (sym e))));
    }

-- BEGIN
pub begin_logged : (engine : Between) (seats after : List Seat) (logged : LoggedWorld) (s : ℕ) (told : Told) (state : State)
    (session : SessionState) → FindsLogged engine seats after logged → Matches engine.map_before logged.world.maps state session
    → BeginActs engine s seats after told state → GoesWell engine after logged told (logged_begin logged s session)
begin_logged engine seats after logged s told seat.Out run.Out b matches (ok, (pin, (mid, later, (begun, begins, then, map)), put)) =
    let old : mid ≡ engine.old = later.nobody b.alone in
    let now : Begins engine.old pin begun = subst (λ (seen : EngineState). Begins seen pin begun) old begins in
    let alone : begun.alone ≡ true =
    ap (λ (seen : EngineState). seen.alone) now.after_is ∙ (readers_alone engine.old one_more pin.lock ∙ b.alone) in
    begin_out engine seats after logged s told pin b ok
    (subst (λ (seen : EngineState). Begins engine.old pin seen) (sym (then.nobody alone)) now)
    (map ∙ ap (λ (seen : EngineState). seen.newest) old) put
begin_logged engine seats after logged s told (seat.Open held) (run.Open transaction) b matches acts =
    rests engine seats after logged reply.InTransaction told b acts
begin_logged engine seats after logged s told (seat.Refused pin) (run.Refused transaction) b matches acts =
    rests engine seats after logged reply.MustRollBack told b acts
begin_logged engine seats after logged s told seat.Out (run.Open transaction) b matches acts = absurd matches
begin_logged engine seats after logged s told seat.Out (run.Refused transaction) b matches acts = absurd matches
begin_logged engine seats after logged s told (seat.Open held) run.Out b matches acts = absurd matches
begin_logged engine seats after logged s told (seat.Open held) (run.Refused transaction) b matches acts = absurd matches
begin_logged engine seats after logged s told (seat.Refused pin) run.Out b matches acts = absurd matches
begin_logged engine seats after logged s told (seat.Refused pin) (run.Open transaction) b matches acts = absurd matches

-- A session went on in its transaction, and the engine didn't change.
goes_on : (engine : Between) (seats after : List Seat) (logged : LoggedWorld) (s : ℕ) (held then : Transaction)
    (transaction next : run.PageTransaction) (answer told : Told) → FindsLogged engine seats after logged
    → seat_state seats s ≡ seat.Open held → told ≡ answer → after ≡ with_state seats s (seat.Open then) → engine.new ≡ engine.old
    → then.pin ≡ held.pin → IsTransaction then next → PinStands engine.map_before logged.world.maps held.pin
    → GoesWell engine after logged told (in_world logged (moved logged.world s (run.Open next) answer))
goes_on engine seats after logged s held then transaction next answer told b was is put same pinned has pin =
    let outcome : LoggedOutcome = in_world logged (moved logged.world s (run.Open next) answer) in
    let here : Contains (pins_in (seat.Open held)) then.pin = (0, omega arith, sym pinned) in
    record {
      answer_is = is;
      faults = ap (λ (seen : EngineState). seen.faults) same;
      moments = still engine seats after logged outcome.after b (ap (λ (seen : EngineState). seen.disk) same);
      stands = turns engine seats after logged outcome.after s (seat.Open then) (seat.Open held) (run.Open next) b was put
          (λ one there. subst (λ (x : Pin). Contains (pins_in (seat.Open held)) x) (sym (the_pin then.pin one there)) here)
          (tells_same engine.old engine.new logged outcome.after same refl refl refl refl refl b.stands.tells)
          (extends_same logged.world.maps) (
            has,
            pin_stays engine seats after logged logged.world.maps s (seat.Open then) (seat.Open held) then.pin b was put here
                (0, omega arith, refl) (extends_same logged.world.maps)
                (subst (PinStands engine.map_before logged.world.maps) (sym pinned) pin),
          )
          (λ other. refl) (λ other. refl) (λ other. refl);
    }

-- READ of a page that the transaction wrote itself
read_own : (engine : Between) (seats after : List Seat) (logged : LoggedWorld) (s page : ℕ) (told : Told) (held : Transaction)
    (transaction : run.PageTransaction) (bytes : List ℕ) → FindsLogged engine seats after logged → seat_state seats s ≡ seat.Open held
    → image_of transaction.changed page ≡ Some bytes → IsTransaction held transaction
    → PinStands engine.map_before logged.world.maps held.pin → ReadOpen engine s page seats after told held (Some bytes)
    → GoesWell engine after logged told (in_world logged (run.read logged.world s transaction page))
read_own engine seats after logged s page told held transaction bytes b was own same pin acts =
    let world = logged.world in
    let byte : slice_index (run.shown world transaction page) 0 ≡ slice_index bytes 0 =
    ap (λ (image : Option (List ℕ)). slice_index (unwrap_or image (page_at (map_number world transaction.snap) page)) 0) own in
    let reads : run.reads_with transaction page ≡ transaction.reads = rw own refl in
    goes_on engine seats after logged s held _ transaction _ _ told b was (acts.0 ∙ ap reply.Byte (sym byte)) acts.1 acts.2 refl (record {
      snap = same.snap;
      reads = reads ∙ same.reads;
      changed = same.changed;
      said = ap (λ (said : List (List ℕ)). said ++ read_text page ∷ []) same.said;
      wrote = same.wrote;
    }) pin

-- READ of a page of the snapshot, which the disk gave
read_there : (engine : Between) (seats after : List Seat) (logged : LoggedWorld) (s page byte : ℕ) (told : Told) (held : Transaction)
    (transaction : run.PageTransaction) → FindsLogged engine seats after logged → seat_state seats s ≡ seat.Open held
    → image_of transaction.changed page ≡ None → IsTransaction held transaction
    → PinStands engine.map_before logged.world.maps held.pin → told ≡ reply.Byte byte
    → IfSome (engine.map_before held.pin) (λ pages. byte ≡ slice_index (page_at pages page) 0)
    → after ≡ with_state seats s (seat.Open (record held {
      reads = with_page held.reads page;
      said = held.said ++ read_text page ∷ [];
    })) → engine.new ≡ engine.old
    → GoesWell engine after logged told (in_world logged (run.read logged.world s transaction page))
read_there engine seats after logged s page byte told held transaction b was own same pin is gives put still_there =
    let world = logged.world in
    let read : byte ≡ slice_index (page_at (get_or world.maps held.pin.n []) page) 0 =
    subst (λ (found : Option PageMap). IfSome found (λ (pages : PageMap). byte ≡ slice_index (page_at pages page) 0)) pin.map gives in
    let shown : slice_index (run.shown world transaction page) 0 ≡ slice_index (page_at (get_or world.maps held.pin.n []) page) 0 =
    ap (λ (image : Option (List ℕ)). slice_index (unwrap_or image (page_at (map_number world transaction.snap) page)) 0) own
    ∙ ap (λ (n : ℕ). slice_index (page_at (get_or world.maps n []) page) 0) same.snap in
    let reads : run.reads_with transaction page ≡ with_page transaction.reads page = rw own refl in
    goes_on engine seats after logged s held _ transaction _ _ told b was (is ∙ ap reply.Byte (read ∙ sym shown)) put still_there refl (record {
      snap = same.snap;
      reads = reads ∙ ap (λ (pages : List ℕ). with_page pages page) same.reads;
      changed = same.changed;
      said = ap (λ (said : List (List ℕ)). said ++ read_text page ∷ []) same.said;
      wrote = same.wrote;
    }) pin

-- nothing but the count of faults changed
fails_alone : (engine : Between) (seats after : List Seat) (logged : LoggedWorld) (told : Told) (Fails : LoggedWorld → Type 0)
    → FindsLogged engine seats after logged → told ≡ reply.Disk → after ≡ seats → FailsAlone engine.old engine.new → Fails logged
    → GoesWrong engine after logged told Fails
fails_alone engine seats after logged told Fails b is same fails so =
    let tells = b.stands.tells in
    record {
      next = logged;
      answer_is = is;
      fails = so;
      rose = fails.0;
      moments = still engine seats after logged logged b (ap (λ (seen : EngineState). seen.disk) fails.1);
      stands = stays engine seats after logged logged b same
          (tells_as engine.old engine.new logged logged engine.old.stopped engine.new.faults engine.old.logs engine.old.readers engine.old.disk
          fails.1 refl refl tells.stopped tells.logs tells.readers tells) refl refl;
    }

-- READ in a transaction
read_open : (engine : Between) (seats after : List Seat) (logged : LoggedWorld) (s page : ℕ) (told : Told) (held : Transaction)
    (transaction : run.PageTransaction) (own : Option (List ℕ)) → FindsLogged engine seats after logged → seat_state seats s ≡ seat.Open held
    → image_of transaction.changed page ≡ own → IsTransaction held transaction → PinStands engine.map_before logged.world.maps held.pin
    → ReadOpen engine s page seats after told held own
    → GoesWell engine after logged told (in_world logged (run.read logged.world s transaction page))
    ⊎ GoesWrong engine after logged told (FailsToRead logged page (run.Open transaction))
read_open engine seats after logged s page told held transaction (Some bytes) b was own same pin acts =
    inl (read_own engine seats after logged s page told held transaction bytes b was own same pin acts)
read_open engine seats after logged s page told held transaction None b was own same pin (inl (is, rests, found)) =
    inr (fails_alone engine seats after logged told (FailsToRead logged page (run.Open transaction)) b is rests
    (at_once engine seats after logged (λ (mid : EngineState). FailsAlone mid engine.new) b found) (own, refl))
read_open engine seats after logged s page told held transaction None b was own same pin (inr (byte, is, gives, put, found)) =
    inl (read_there engine seats after logged s page byte told held transaction b was own same pin is gives put
    (at_once engine seats after logged (λ (mid : EngineState). engine.new ≡ mid) b found))

-- READ
pub read_logged : (engine : Between) (seats after : List Seat) (logged : LoggedWorld) (s page : ℕ) (told : Told) (state : State)
    (session : SessionState) → FindsLogged engine seats after logged → seat_state seats s ≡ state
    → Matches engine.map_before logged.world.maps state session → ReadActs engine s page seats after told state
    → GoesWell engine after logged told (in_world logged (read_step logged.world s page session))
    ⊎ GoesWrong engine after logged told (FailsToRead logged page session)
read_logged engine seats after logged s page told seat.Out run.Out b is matches acts =
    inl (rests engine seats after logged reply.NoTransaction told b acts)
read_logged engine seats after logged s page told (seat.Open held) (run.Open transaction) b is matches acts =
    read_open engine seats after logged s page told held transaction (image_of held.changed page) b is
    (ap (λ (images : List PageImage). image_of images page) matches.0.changed) matches.0 matches.1 acts
read_logged engine seats after logged s page told (seat.Refused pin) (run.Refused transaction) b is matches acts =
    inl (rests engine seats after logged reply.MustRollBack told b acts)
read_logged engine seats after logged s page told seat.Out (run.Open transaction) b is matches acts = absurd matches
read_logged engine seats after logged s page told seat.Out (run.Refused transaction) b is matches acts = absurd matches
read_logged engine seats after logged s page told (seat.Open held) run.Out b is matches acts = absurd matches
read_logged engine seats after logged s page told (seat.Open held) (run.Refused transaction) b is matches acts = absurd matches
read_logged engine seats after logged s page told (seat.Refused pin) run.Out b is matches acts = absurd matches
read_logged engine seats after logged s page told (seat.Refused pin) (run.Open transaction) b is matches acts = absurd matches

-- WRITE
pub write_logged : (engine : Between) (seats after : List Seat) (logged : LoggedWorld) (s page byte : ℕ) (told : Told) (state : State)
    (session : SessionState) → FindsLogged engine seats after logged → seat_state seats s ≡ state
    → Matches engine.map_before logged.world.maps state session → WriteActs engine s page byte seats after told state
    → GoesWell engine after logged told (in_world logged (write_step logged.world s page byte session))
write_logged engine seats after logged s page byte told seat.Out run.Out b is matches acts =
    rests engine seats after logged reply.NoTransaction told b acts
write_logged engine seats after logged s page byte told (seat.Open held) (run.Open transaction) b is matches acts =
    let same = matches.0 in
    let changed : with_image transaction.changed page (replicate (page_size_of (newest_map logged.world)) byte)
    ≡ with_image held.changed page (replicate engine.old.page_size byte) =
    ap (λ (images : List PageImage). with_image images page (replicate (page_size_of (newest_map logged.world)) byte)) same.changed
    ∙ ap (λ (size : ℕ). with_image held.changed page (replicate size byte)) (sym b.stands.tells.page_size) in
    goes_on engine seats after logged s held _ transaction _ _ told b is acts.0 acts.1 acts.2 refl (record {
      snap = same.snap;
      reads = same.reads;
      changed = changed;
      said = ap (λ (said : List (List ℕ)). said ++ write_text page byte ∷ []) same.said;
      wrote = refl;
    }) matches.1
write_logged engine seats after logged s page byte told (seat.Refused pin) (run.Refused transaction) b is matches acts =
    rests engine seats after logged reply.MustRollBack told b acts
write_logged engine seats after logged s page byte told seat.Out (run.Open transaction) b is matches acts = absurd matches
write_logged engine seats after logged s page byte told seat.Out (run.Refused transaction) b is matches acts = absurd matches
write_logged engine seats after logged s page byte told (seat.Open held) run.Out b is matches acts = absurd matches
write_logged engine seats after logged s page byte told (seat.Open held) (run.Refused transaction) b is matches acts = absurd matches
write_logged engine seats after logged s page byte told (seat.Refused pin) run.Out b is matches acts = absurd matches
write_logged engine seats after logged s page byte told (seat.Refused pin) (run.Open transaction) b is matches acts = absurd matches

-- a session out of its transaction, whose pin was given back
pub goes_out : (engine : Between) (seats after : List Seat) (logged : LoggedWorld) (s : ℕ) (answer told : Told) (before : State) (pin : Pin)
    → FindsLogged engine seats after logged → seat_state seats s ≡ before → Contains (pins_in before) pin → told ≡ answer
    → after ≡ with_state seats s seat.Out → Ends engine.old pin engine.new
    → GoesWell engine after logged told (in_world (without_reader logged s) (moved logged.world s run.Out answer))
goes_out engine seats after logged s answer told before pin b was held is put ends =
    let outcome : LoggedOutcome = in_world (without_reader logged s) (moved logged.world s run.Out answer) in
    let lock : pin.lock ≡ logged.locks s = b.stands.locks s pin (subst (λ (x : State). Contains (pins_in x) pin) (sym was) held) in
    record {
      answer_is = is;
      faults = ap (λ (seen : EngineState). seen.faults) ends ∙ counted_faults one_fewer pin.lock engine.old;
      moments = still engine seats after logged outcome.after b
          (ap (λ (seen : EngineState). seen.disk) ends ∙ counted_disk one_fewer pin.lock engine.old);
      stands = turns engine seats after logged outcome.after s seat.Out before run.Out b was put
          (λ one never. absurd (omega (arith, never.1)))
          (tells_counted engine.old engine.new logged outcome.after one_fewer pin.lock b.always ends refl refl refl refl
          (ap (change_readers one_fewer logged.readers) (sym lock)) b.stands.tells)
          (extends_same logged.world.maps) tt (λ other. refl) (λ other. refl) (λ other. refl);
    }

-- ROLLBACK
pub rollback_logged : (engine : Between) (seats after : List Seat) (logged : LoggedWorld) (s : ℕ) (told : Told) (state : State)
    (session : SessionState) → FindsLogged engine seats after logged → seat_state seats s ≡ state
    → Matches engine.map_before logged.world.maps state session → RollbackActs engine s seats after told state
    → GoesWell engine after logged told (logged_rollback logged s session)
rollback_logged engine seats after logged s told seat.Out run.Out b is matches acts =
    rests engine seats after logged reply.NoTransaction told b acts
rollback_logged engine seats after logged s told (seat.Open held) (run.Open transaction) b is matches (ok, put, ends) =
    goes_out engine seats after logged s reply.Ok told (seat.Open held) held.pin b is (0, omega arith, refl) ok put ends
rollback_logged engine seats after logged s told (seat.Refused pin) (run.Refused transaction) b is matches (ok, put, ends) =
    goes_out engine seats after logged s reply.Ok told (seat.Refused pin) pin b is (0, omega arith, refl) ok put ends
rollback_logged engine seats after logged s told seat.Out (run.Open transaction) b is matches acts = absurd matches
rollback_logged engine seats after logged s told seat.Out (run.Refused transaction) b is matches acts = absurd matches
rollback_logged engine seats after logged s told (seat.Open held) run.Out b is matches acts = absurd matches
rollback_logged engine seats after logged s told (seat.Open held) (run.Refused transaction) b is matches acts = absurd matches
rollback_logged engine seats after logged s told (seat.Refused pin) run.Out b is matches acts = absurd matches
rollback_logged engine seats after logged s told (seat.Refused pin) (run.Open transaction) b is matches acts = absurd matches

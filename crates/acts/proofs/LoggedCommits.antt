-- What COMMIT does over an engine that keeps logs is one line of a run over a store that keeps two logs.
use Rattle.std.proofs.Common.{◌≡◌, ◌∙◌, ℕ, ◌+◌, true, false, List, ◌++◌, length, refl, sym, ap, subst, inl, inr, arith}
use Rattle.std.specs.Prelude.{◌⊎◌, Option, Some, Contains}
use Rattle.disk_face.specs.Faults.{Rose}
use Rattle.page_spec.specs.PageMap.{PageMap, page_size_of}
use Rattle.engine_spec.specs.declared.commits.Commit.{Commit}
use Rattle.engine_spec.specs.declared.commits.CommitFault.{CommitFault}
use Rattle.engine_spec.specs.declared.commits.CommitFault.TheVariants as fault
use Rattle.engine_spec.specs.declared.commits.Receipt.TheVariants.{At, ReadOnly}
use Rattle.engine_spec.specs.Change.{Change, laid}
use Rattle.engine_spec.specs.Events.{Ends, IsClear, IsCommitted, IsStopped, map_after}
use Rattle.engine_spec.specs.Leaves.{AtEach, if_told, may_recover}
use Rattle.engine_spec.specs.State.{EngineState, Stop}
use Rattle.engine_spec.specs.TwoLogs.{TwoLogs, IsStopPlace, change_readers, one_fewer}
use Rattle.engine_spec.specs.Written.{Submitted}
use Rattle.page_lines.specs.declared.lines.Act.TheVariants as act
use Rattle.page_lines.specs.declared.lines.Told.{Told}
use Rattle.page_lines.specs.declared.lines.Told.TheVariants as reply
use Rattle.page_lines.specs.Logged.{LoggedWorld, LoggedOutcome, FailsClear, FailsToCommit, StopsCommit, in_world, logs_written, logged_commit, logged_committed}
use Rattle.page_lines.specs.World as run
use Rattle.page_lines.specs.World.{SessionState, change_of, committed, handed_in, moved, newest_map}
use Rattle.acts.specs.Logged.{TellsLogged, FindsLogged, LeadsLogged}
use Rattle.acts.specs.Pagers.{Between, CommitActs, CommitOpen, IsSoundState, IsSoundTransaction, RefusesLines, pins_in, seat_state, state_refused, submitted_of, told_of_refusal, with_state}
use Rattle.acts.specs.Standing.{IsTransaction, Matches, PinStands}
use Rattle.acts.specs.declared.seats.Seat.{Seat}
use Rattle.acts.specs.declared.seats.State.{State}
use Rattle.acts.specs.declared.seats.State.TheVariants as seat
use Rattle.acts.specs.declared.seats.Transaction.{Transaction}
use Rattle.acts.proofs.LoggedBars.{reads_only, finds_stop, finds_conflict, finds_no_room, finds_nothing}
use Rattle.acts.proofs.LoggedLaying.{as_maps, as_logged, barred_world, fits_world, free_world, map_is, moments_laid, over_world, stop_place, written_is}
use Rattle.acts.proofs.LoggedStanding.{GoesWell, GoesWrong, at_once, counted_disk, counted_faults, leads_well, leads_wrong, pin_stays, rests, stays, still, tells_as, tells_counted, tells_same, turns}
use Rattle.acts.proofs.LoggedStatements.{goes_out}
use Rattle.acts.proofs.SeatLaws.{sound_at, told_once, unmoved}
use Rattle.acts.proofs.StandingCommits.{submits, tells_committed}
use Rattle.acts.proofs.Telling.{extends_push, extends_same}

-- COMMIT went well in the world, or the disk failed in it
abbrev Commits : Between → List Seat → LoggedWorld → ℕ → Told → SessionState → Type 0
Commits engine after logged s told session = GoesWell engine after logged told (logged_commit logged s session)
    ⊎ GoesWrong engine after logged told (FailsToCommit logged session)

-- COMMIT of an open transaction, which stands as the world says
module _ (engine : Between) (seats after : List Seat) (logged : LoggedWorld) (s : ℕ) (held : Transaction) (transaction : run.PageTransaction)
    (b : FindsLogged engine seats after logged) (was : seat_state seats s ≡ seat.Open held) (same : IsTransaction held transaction)
    (pin : PinStands engine.map_before logged.world.maps held.pin) where
  -- what it hands in is what the world commits
  asked_is : submitted_of seats s held ≡ handed_in logged.world s transaction
  asked_is = submits seats logged.world s held transaction engine.map_before same pin (b.stands.begun s)

  change_is : (submitted_of seats s held).change ≡ change_of logged.world transaction
  change_is = ap (λ (asked : Submitted). asked.change) asked_is

  -- its pin has the lock that the world says
  lock_is : held.pin.lock ≡ logged.locks s
  lock_is = b.stands.locks s held.pin (subst (λ (state : State). Contains (pins_in state) held.pin) (sym was) (0, omega arith, refl))

  sound : IsSoundTransaction engine.old.page_size held
  sound = subst (IsSoundState engine.old.page_size) was (sound_at engine.old.page_size seats s b.sound)

  -- it wrote nothing: its reader goes
  reads_alone : (n : ℕ) (done : EngineState) → held.wrote ≡ false → n ≡ held.pin.n → done ≡ engine.old → Ends done held.pin engine.new
      → after ≡ with_state seats s seat.Out
      → GoesWell engine after logged (reply.Done (ReadOnly n)) (logged_commit logged s (run.Open transaction))
  reads_alone n done wrote n_is done_is ends put =
      subst (GoesWell engine after logged (reply.Done (ReadOnly n))) (sym (reads_only logged s transaction (same.wrote ∙ wrote)))
      (goes_out engine seats after logged s (reply.Done (ReadOnly transaction.snap)) (reply.Done (ReadOnly n)) (seat.Open held) held.pin b was
      (0, omega arith, refl) (ap (λ (k : ℕ). reply.Done (ReadOnly k)) (n_is ∙ sym same.snap)) put
      (subst (λ (seen : EngineState). Ends seen held.pin engine.new) done_is ends))

  -- nothing bars it: there is one commit more, and then its reader goes
  is_laid : (number : ℕ) (done : EngineState) → IsCommitted engine.opened engine.old (submitted_of seats s held) number done
      → Ends done held.pin engine.new → after ≡ with_state seats s seat.Out
      → GoesWell engine after logged (reply.Done (At number)) (logged_commit logged s (run.Open transaction))
  is_laid number done accepts ends put =
      let tells = b.stands.tells in
      let change : Change = (submitted_of seats s held).change in
      let mid : LoggedWorld = record logged { logs = logs_written logged; world = (committed logged.world s transaction).world } in
      let next : LoggedWorld = (logged_committed logged s transaction).after in
      let told : TellsLogged done mid =
      as_logged done mid
      (tells_committed engine.opened engine.old done seats logged.world s held transaction number asked_is sound.images same
      (as_maps engine.old logged tells accepts.clear.running) accepts)
      (ap (λ (seen : EngineState). seen.logs) accepts.after_is ∙ written_is engine.old logged tells)
      (ap (λ (seen : EngineState). seen.readers) accepts.after_is ∙ tells.readers)
      (ap (λ (seen : EngineState). seen.stopped) accepts.after_is ∙ tells.stopped) in
      let always : done.always_begins ≡ true = ap (λ (seen : EngineState). seen.always_begins) accepts.after_is ∙ b.always in
      let map : Some (newest_map next.world) ≡ Some (laid (newest_map logged.world) change) =
      sym told.newest ∙ ap (λ (seen : EngineState). seen.newest) accepts.after_is ∙ map_is engine.old logged change tells in
      let disk : engine.new.disk ≡ done.disk =
      ap (λ (seen : EngineState). seen.disk) ends ∙ counted_disk one_fewer held.pin.lock done in
      subst (GoesWell engine after logged (reply.Done (At number))) (sym (finds_nothing logged s transaction (same.wrote ∙ accepts.clear.wrote)
      (sym tells.stopped ∙ accepts.clear.running)
      (free_world held transaction logged.world.history engine.old.history same tells.history_is accepts.clear.free)
      (fits_world engine.old logged transaction change tells (sym same.changed) refl refl accepts.clear.fits.frames))) (record {
        answer_is = ap (λ (k : ℕ). reply.Done (At k))
            (accepts.number_is ∙ ap (λ (commits : List Commit). length commits + 1) tells.history_is);
        faults = ap (λ (seen : EngineState). seen.faults) ends ∙ counted_faults one_fewer held.pin.lock done
            ∙ ap (λ (seen : EngineState). seen.faults) accepts.after_is;
        moments = moments_laid engine.opened engine.old logged next change engine.new.disk tells (0, omega arith, cc)
            (subst (AtEach engine.opened (may_recover engine.old ++ if_told (map_after engine.old change)) engine.old.disk) (sym disk)
            accepts.moments);
        stands = turns engine seats after logged next s seat.Out (seat.Open held) run.Out b was put
            (λ one never. absurd (omega (arith, never.1)))
            (tells_counted done engine.new mid next one_fewer held.pin.lock always ends refl refl refl refl
            (ap (change_readers one_fewer logged.readers) (sym lock_is)) told)
            (extends_push logged.world.maps (laid (newest_map logged.world) (change_of logged.world transaction))) tt
            (λ other. refl) (λ other. refl) (λ other. refl);
      })

  -- a later commit bars it: it is refused
  is_barred : (page number : ℕ) → RefusesLines engine.opened engine.old (submitted_of seats s held) (fault.BusySnapshot page number) engine.new
      → after ≡ with_state seats s (seat.Refused held.pin)
      → GoesWell engine after logged (reply.Busy page number) (logged_commit logged s (run.Open transaction))
  is_barred page number refuses put =
      let tells = b.stands.tells in
      let outcome : LoggedOutcome = in_world logged (moved logged.world s (run.Refused transaction) (reply.Busy page number)) in
      subst (GoesWell engine after logged (reply.Busy page number)) (sym (finds_conflict logged s transaction page number (same.wrote ∙ refuses.0)
      (sym tells.stopped ∙ refuses.1)
      (barred_world held transaction logged.world.history engine.old.history page number same tells.history_is refuses.2))) (record {
        answer_is = refl;
        faults = ap (λ (seen : EngineState). seen.faults) refuses.3;
        moments = still engine seats after logged outcome.after b (ap (λ (seen : EngineState). seen.disk) refuses.3);
        stands = turns engine seats after logged outcome.after s (seat.Refused held.pin) (seat.Open held) (run.Refused transaction) b was put
            (λ one there. there)
            (tells_same engine.old engine.new logged outcome.after refuses.3 refl refl refl refl refl tells) (extends_same logged.world.maps) (
              same.snap,
              pin_stays engine seats after logged logged.world.maps s (seat.Refused held.pin) (seat.Open held) held.pin b was put
                  (0, omega arith, refl) (0, omega arith, refl) (extends_same logged.world.maps) pin,
            )
            (λ other. refl) (λ other. refl) (λ other. refl);
      })

  -- a limit bars it: nothing changes
  has_no_room : (pages frames : ℕ) → RefusesLines engine.opened engine.old (submitted_of seats s held) (fault.SizeLimit pages frames) engine.new
      → after ≡ seats → GoesWell engine after logged (reply.Size pages) (logged_commit logged s (run.Open transaction))
  has_no_room pages frames refuses put =
      let tells = b.stands.tells in
      let count : pages ≡ length (newest_map logged.world) = omega (arith, refuses.4, tells.size, tells.store.count) in
      subst (GoesWell engine after logged (reply.Size pages)) (sym (finds_no_room logged s transaction (same.wrote ∙ refuses.0)
      (sym tells.stopped ∙ refuses.1)
      (free_world held transaction logged.world.history engine.old.history same tells.history_is refuses.2)
      (over_world engine.old logged transaction (submitted_of seats s held).change tells refuses.1 (sym same.changed) refl refl refuses.3)))
      (rests engine seats after logged (reply.Size (length (newest_map logged.world))) (reply.Size pages) b
      (ap (λ (n : ℕ). reply.Size n) count, put, refuses.6))

  -- a write of a log failed before: nothing changes
  has_stopped : (log at : ℕ) → RefusesLines engine.opened engine.old (submitted_of seats s held) (fault.Stopped log at) engine.new
      → after ≡ seats → GoesWell engine after logged (reply.Stopped log at) (logged_commit logged s (run.Open transaction))
  has_stopped log at (wrote, found, unmoved) put =
      let stop : Stop = found.0 in
      let told : reply.Stopped log at ≡ reply.Stopped stop.log stop.at =
      sym (ap (λ (n : ℕ). reply.Stopped n stop.at) found.2 ∙ ap (λ (n : ℕ). reply.Stopped log n) found.3) in
      subst (GoesWell engine after logged (reply.Stopped log at))
      (sym (finds_stop logged s transaction stop (same.wrote ∙ wrote) (sym b.stands.tells.stopped ∙ found.1)))
      (rests engine seats after logged (reply.Stopped stop.log stop.at) (reply.Stopped log at) b (told, put, unmoved))

  -- nothing bars it in the world either
  fails_clear : (next : LoggedWorld) → IsClear engine.old (submitted_of seats s held) → (next ≡ logged) ⊎ StopsCommit logged transaction next
      → FailsClear logged transaction next
  fails_clear next clear left =
      let tells = b.stands.tells in
      record {
        wrote = same.wrote ∙ clear.wrote;
        running = sym tells.stopped ∙ clear.running;
        free = free_world held transaction logged.world.history engine.old.history same tells.history_is clear.free;
        fits = fits_world engine.old logged transaction (submitted_of seats s held).change tells (sym same.changed) refl refl clear.fits.frames;
        left = left;
      }

  -- the disk failed in reading: nothing changes
  fails_to_read : IsClear engine.old (submitted_of seats s held) → Rose engine.old.faults engine.new.faults
      → engine.new ≡ record engine.old { faults = engine.new.faults } → after ≡ seats
      → GoesWrong engine after logged reply.Disk (FailsToCommit logged (run.Open transaction))
  fails_to_read clear rose is put =
      let tells = b.stands.tells in
      record {
        next = logged;
        answer_is = refl;
        fails = fails_clear logged clear (inl refl);
        rose = rose;
        moments = still engine seats after logged logged b (ap (λ (seen : EngineState). seen.disk) is);
        stands = stays engine seats after logged logged b put
            (tells_as engine.old engine.new logged logged engine.old.stopped engine.new.faults engine.old.logs engine.old.readers engine.old.disk
            is refl refl tells.stopped tells.logs tells.readers tells) refl refl;
      }

  -- a write or sync of a log failed: its place is kept
  stops : IsClear engine.old (submitted_of seats s held) → Rose engine.old.faults engine.new.faults
      → IsStopped engine.opened engine.old (submitted_of seats s held) engine.new → after ≡ seats
      → GoesWrong engine after logged reply.Disk (FailsToCommit logged (run.Open transaction))
  stops clear rose stopped put = at_place (stop_place engine.old logged stopped.stop engine.new.logs b.stands.tells stopped.place)
    where
      at_place : (logs : TwoLogs) × (engine.new.logs ≡ Some logs)
          × IsStopPlace (page_size_of (newest_map logged.world)) logged.logs logged.readers logged.world.history stopped.stop.log stopped.stop.at logs
          → GoesWrong engine after logged reply.Disk (FailsToCommit logged (run.Open transaction))
      at_place (logs, logs_are, place) =
          let tells = b.stands.tells in
          let change : Change = (submitted_of seats s held).change in
          let made : PageMap = laid (newest_map logged.world) (change_of logged.world transaction) in
          let stop : Stop = record { log = stopped.stop.log; at = stopped.stop.at; map = Some made } in
          let next : LoggedWorld = record logged { logs = logs; stopped = Some stop } in
          let made_is : laid (newest_map logged.world) change ≡ made = ap (laid (newest_map logged.world)) change_is in
          let map : stopped.stop.map ≡ Some made =
          stopped.map ∙ map_is engine.old logged change tells ∙ ap (λ (pages : PageMap). Some pages) made_is in
          record {
            next = next;
            answer_is = refl;
            fails = fails_clear next clear
                (inr (record { log = stopped.stop.log; at = stopped.stop.at; logs = logs; place = place; after_is = refl }));
            rose = rose;
            moments = moments_laid engine.opened engine.old logged next change engine.new.disk tells (1, omega arith, sym made_is) stopped.moments;
            stands = stays engine seats after logged next b put
                (tells_as engine.old engine.new logged next (Some stopped.stop) engine.new.faults engine.new.logs engine.old.readers
                engine.new.disk stopped.after_is refl refl
                (ap (λ (kept : Option PageMap). Some (record { log = stopped.stop.log; at = stopped.stop.at; map = kept })) map)
                logs_are tells.readers tells) refl refl;
          }

  -- it was refused
  commit_refused : (why : CommitFault) (told : Told) → told_of_refusal why ≡ Some told
      → RefusesLines engine.opened engine.old (submitted_of seats s held) why engine.new → after ≡ with_state seats s (state_refused why held)
      → Commits engine after logged s told (run.Open transaction)
  commit_refused (fault.BusySnapshot page number) told is refuses put =
      subst (λ (told : Told). Commits engine after logged s told (run.Open transaction)) (told_once _ told is) (inl (is_barred page number refuses put))
  commit_refused (fault.SizeLimit pages frames) told is refuses put =
      subst (λ (told : Told). Commits engine after logged s told (run.Open transaction)) (told_once _ told is)
      (inl (has_no_room pages frames refuses (put ∙ unmoved seats s held was)))
  commit_refused (fault.Stopped log at) told is refuses put =
      subst (λ (told : Told). Commits engine after logged s told (run.Open transaction)) (told_once _ told is)
      (inl (has_stopped log at refuses (put ∙ unmoved seats s held was)))
  commit_refused fault.Disk told is refuses put =
      subst (λ (told : Told). Commits engine after logged s told (run.Open transaction)) (told_once _ told is)
      (inr (by_left refuses (put ∙ unmoved seats s held was)))
    where
      by_left : RefusesLines engine.opened engine.old (submitted_of seats s held) fault.Disk engine.new → after ≡ seats
          → GoesWrong engine after logged reply.Disk (FailsToCommit logged (run.Open transaction))
      by_left (clear, rose, inl is) same = fails_to_read clear rose is same
      by_left (clear, rose, inr stopped) same = stops clear rose stopped same
  commit_refused fault.Memory told is refuses put = absurd cc
  commit_refused (fault.Corrupt page) told is refuses put = absurd cc

  -- by its answer
  commit_answered : (told : Told) → CommitOpen engine s seats after held told → Commits engine after logged s told (run.Open transaction)
  commit_answered told (inl (ReadOnly n, is, (mid, later, (done, accepts, ends)), put)) =
      subst (λ (told : Told). Commits engine after logged s told (run.Open transaction)) (sym is)
      (inl (reads_alone n done accepts.0 accepts.1 (accepts.2 ∙ later.nobody b.alone) ends put))
  commit_answered told (inl (At number, is, (mid, later, (done, accepts, ends)), put)) =
      subst (λ (told : Told). Commits engine after logged s told (run.Open transaction)) (sym is)
      (inl (is_laid number done (subst (λ (seen : EngineState). IsCommitted engine.opened seen (submitted_of seats s held) number done)
      (later.nobody b.alone) accepts) ends put))
  commit_answered told (inr (why, is, found, put)) = commit_refused why told is (at_once engine seats after logged _ b found) put

-- by how the session stands
commit_stands : (engine : Between) (seats after : List Seat) (logged : LoggedWorld) (s : ℕ) (told : Told) (state : State) (session : SessionState)
    → FindsLogged engine seats after logged → seat_state seats s ≡ state → Matches engine.map_before logged.world.maps state session
    → CommitActs engine s seats after told state → Commits engine after logged s told session
commit_stands engine seats after logged s told seat.Out run.Out b was matches acts =
    inl (rests engine seats after logged reply.NoTransaction told b acts)
commit_stands engine seats after logged s told (seat.Open held) (run.Open transaction) b was matches acts =
    commit_answered engine seats after logged s held transaction b was matches.0 matches.1 told acts
commit_stands engine seats after logged s told (seat.Refused pin) (run.Refused transaction) b was matches acts =
    inl (rests engine seats after logged reply.MustRollBack told b acts)
commit_stands engine seats after logged s told seat.Out (run.Open transaction) b was matches acts = absurd matches
commit_stands engine seats after logged s told seat.Out (run.Refused transaction) b was matches acts = absurd matches
commit_stands engine seats after logged s told (seat.Open held) run.Out b was matches acts = absurd matches
commit_stands engine seats after logged s told (seat.Open held) (run.Refused transaction) b was matches acts = absurd matches
commit_stands engine seats after logged s told (seat.Refused pin) run.Out b was matches acts = absurd matches
commit_stands engine seats after logged s told (seat.Refused pin) (run.Open transaction) b was matches acts = absurd matches

-- COMMIT is one line of the run
pub commit_logged : (engine : Between) (seats after : List Seat) (logged : LoggedWorld) (s : ℕ) (told : Told)
    → FindsLogged engine seats after logged → CommitActs engine s seats after told (seat_state seats s)
    → LeadsLogged engine seats after logged (act.Commit s) told
commit_logged engine seats after logged s told b acts = elim (commit_stands engine seats after logged s told (seat_state seats s)
    (logged.world.sessions s) b refl (b.stands.sessions s) acts) [
      | inl well ↦ leads_well engine seats after logged (act.Commit s) told b well
      | inr wrong ↦ leads_wrong engine seats after logged (act.Commit s) told b wrong
    ]

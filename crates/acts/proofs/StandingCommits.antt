-- What COMMIT does over an engine is what it does to the world.
use Rattle.std.proofs.Common.{◌≡◌, ◌∙◌, ℕ, ◌+◌, Bool, true, false, cond, List, [], ◌∷◌, ◌++◌, length, refl, sym, ap, subst, inl, inr, arith, get_or}
use Rattle.std.specs.Prelude.{Option, Some, None}
use Rattle.disk_face.specs.Faults.{Rose}
use Rattle.page_spec.specs.PageMap.{PageMap}
use Rattle.crash_spec.specs.Opening.{Opening}
use Rattle.engine_spec.specs.declared.pins.Pin.{Pin}
use Rattle.engine_spec.specs.declared.commits.Commit.{Commit}
use Rattle.engine_spec.specs.declared.commits.Mode.TheVariants.{Concurrent}
use Rattle.engine_spec.specs.declared.commits.Receipt.{Receipt}
use Rattle.engine_spec.specs.declared.commits.Receipt.TheVariants.{At, ReadOnly}
use Rattle.engine_spec.specs.declared.commits.CommitFault.{CommitFault}
use Rattle.engine_spec.specs.declared.commits.CommitFault.TheVariants as fault
use Rattle.page_lines.specs.declared.lines.Act.TheVariants as act
use Rattle.page_lines.specs.declared.lines.Told.{Told}
use Rattle.page_lines.specs.declared.lines.Told.TheVariants as reply
use Rattle.engine_spec.specs.Change.{laid}
use Rattle.engine_spec.specs.History.{conflict}
use Rattle.engine_spec.specs.State.{EngineState}
use Rattle.engine_spec.specs.TwoLogs.{one_fewer}
use Rattle.engine_spec.specs.Written.{Submitted, commit_of}
use Rattle.engine_spec.specs.Events.{Ends, AcceptsCommit, IsCommitted}
use Rattle.page_lines.specs.World.{World, SessionState, Outcome, changed_at, map_number, newest_map, step, begin_step, read_step, write_step, commit_step, rollback_step, commit, committed, moved, decided, change_of, handed_in, commit_in, pages_written}
use Rattle.page_lines.specs.World as run
use Rattle.page_lines.specs.PageLines.{AreImages}
use Rattle.page_lines.proofs.Written.{writes_is}
use Rattle.engine_spec.proofs.Conflicts.{conflict_none, conflict_is}
use Rattle.acts.specs.declared.seats.Seat.{Seat}
use Rattle.acts.specs.declared.seats.State.{State}
use Rattle.acts.specs.declared.seats.State.TheVariants as seat
use Rattle.acts.specs.declared.seats.Transaction.{Transaction}
use Rattle.acts.specs.Pagers.{Between, RefusesLines, CommitOpen, CommitActs, IsSoundTransaction, IsSoundState, seat_state, begun_of, with_seat, with_state, submitted_of, told_of_refusal, state_refused}
use Rattle.acts.specs.Playing.{HasNoLimit}
use Rattle.acts.specs.Standing.{TellsMaps, PinStands, IsTransaction, Matches}
use Rattle.acts.proofs.SeatLaws.{sound_at, told_once}
use Rattle.acts.proofs.Telling.{extends_same, extends_push, tells_more, tells_readers, not_over}
use Rattle.acts.proofs.Standing.{Stands, Leads, MindsNoLogs, turn, tells_same, rests, pin_stays, tells_ended}

-- what a transaction hands in is what the world commits
pub submits : (seats : List Seat) (world : World) (s : ℕ) (held : Transaction) (transaction : run.PageTransaction)
    (map_before : Pin → Option PageMap) → IsTransaction held transaction → PinStands map_before world.maps held.pin
    → world.begun s ≡ begun_of seats s → submitted_of seats s held ≡ handed_in world s transaction
submits seats world s held transaction map_before same pin begun =
    let base : held.pin.size ≡ length (map_number world transaction.snap) =
    pin.size ∙ ap (λ (n : ℕ). length (get_or world.maps n [])) (sym same.snap) in
    let snap = same.snap in
    let reads = same.reads in
    let changed = same.changed in
    let said = same.said in
    let wrote = same.wrote in
    cc

-- COMMIT that nothing bars
commit_is : (world : World) (s : ℕ) (transaction : run.PageTransaction) → transaction.wrote ≡ true
    → conflict Concurrent transaction.reads transaction.snap world.history ≡ None
    → commit world s transaction ≡ committed world s transaction
commit_is world s transaction wrote none =
    ap (λ (test : Bool). cond test
    (decided world s transaction (conflict Concurrent transaction.reads transaction.snap world.history))
    (moved world s run.Out (reply.Done (ReadOnly transaction.snap)))) wrote
    ∙ ap (decided world s transaction) none

-- COMMIT that a later commit bars
busy_is : (world : World) (s : ℕ) (transaction : run.PageTransaction) (page number : ℕ) → transaction.wrote ≡ true
    → conflict Concurrent transaction.reads transaction.snap world.history ≡ Some (page, number)
    → commit world s transaction ≡ moved world s (run.Refused transaction) (reply.Busy page number)
busy_is world s transaction page number wrote found =
    ap (λ (test : Bool). cond test
    (decided world s transaction (conflict Concurrent transaction.reads transaction.snap world.history))
    (moved world s run.Out (reply.Done (ReadOnly transaction.snap)))) wrote
    ∙ ap (decided world s transaction) found

-- COMMIT of a transaction that wrote nothing
read_only_is : (world : World) (s : ℕ) (transaction : run.PageTransaction) → transaction.wrote ≡ false
    → commit world s transaction ≡ moved world s run.Out (reply.Done (ReadOnly transaction.snap))
read_only_is world s transaction wrote =
    ap (λ (test : Bool). cond test
    (decided world s transaction (conflict Concurrent transaction.reads transaction.snap world.history))
    (moved world s run.Out (reply.Done (ReadOnly transaction.snap)))) wrote

-- once a commit is laid, the engine tells of the maps of the world after it
pub tells_committed : (opened : Opening → Type 0) (old done : EngineState) (seats : List Seat) (world : World) (s : ℕ) (held : Transaction)
    (transaction : run.PageTransaction) (number : ℕ) → submitted_of seats s held ≡ handed_in world s transaction
    → AreImages old.page_size held.changed → IsTransaction held transaction → TellsMaps old world.maps world.history
    → IsCommitted opened old (submitted_of seats s held) number done
    → TellsMaps done (committed world s transaction).world.maps (committed world s transaction).world.history
tells_committed opened old done seats world s held transaction number asked_is images same tells accepts =
    let asked : Submitted = submitted_of seats s held in
    let pages_are : accepts.pages ≡ pages_written held.changed =
    writes_is old.newest old.size asked.change accepts.pages refl refl accepts.wrote in
    let told : TellsMaps done (world.maps ++ laid (newest_map world) asked.change ∷ []) (world.history ++ commit_of asked accepts.pages ∷ []) =
    tells_more old done world.maps world.history asked.change (commit_of asked accepts.pages) refl refl images
    (ap (λ (seen : EngineState). seen.history) accepts.after_is) (ap (λ (seen : EngineState). seen.newest) accepts.after_is)
    (ap (λ (seen : EngineState). seen.size) accepts.after_is) (ap (λ (seen : EngineState). seen.page_size) accepts.after_is)
    (ap (λ (seen : EngineState). seen.stopped) accepts.after_is) tells in
    let same_commit : commit_of asked accepts.pages ≡ commit_in world s transaction =
    ap (λ (pages : List ℕ). commit_of asked pages) (pages_are ∙ ap pages_written (sym same.changed))
    ∙ ap (λ (one : Submitted). commit_of one (pages_written transaction.changed)) asked_is in
    subst (λ (one : Commit). TellsMaps done (world.maps ++ laid (newest_map world) (change_of world transaction) ∷ [])
    (world.history ++ one ∷ [])) same_commit
    (subst (λ (one : Submitted). TellsMaps done (world.maps ++ laid (newest_map world) one.change ∷ [])
    (world.history ++ commit_of asked accepts.pages ∷ [])) asked_is told)

-- a session out of its transaction after COMMIT
committed_acts : (engine : Between) (seats after : List Seat) (world : World) (s : ℕ) (held : Transaction)
    (transaction : run.PageTransaction) (receipt : Receipt) → Stands engine seats after world → seat_state seats s ≡ seat.Open held
    → IsTransaction held transaction → PinStands engine.map_before world.maps held.pin
    → (done : EngineState) → AcceptsCommit engine.opened engine.old (submitted_of seats s held) receipt done → Ends done held.pin engine.new
    → after ≡ with_seat seats (record { session = s; begun = begun_of seats s; state = seat.Out })
    → Leads engine after (reply.Done receipt) (commit world s transaction)
committed_acts engine seats after world s held transaction (ReadOnly n) b is same pin done accepts ends put =
    let new : Ends engine.old held.pin engine.new = subst (λ (seen : EngineState). Ends seen held.pin engine.new) accepts.2 ends in
    let n_is : n ≡ transaction.snap = accepts.1 ∙ sym same.snap in
    subst (Leads engine after (reply.Done (ReadOnly n))) (sym (read_only_is world s transaction (same.wrote ∙ accepts.0))) (
      ap (λ (k : ℕ). reply.Done (ReadOnly k)) n_is,
      turn engine seats after world (moved world s run.Out (reply.Done (ReadOnly transaction.snap))).world s seat.Out run.Out b put
          (tells_ended engine seats after world held.pin b new) (extends_same world.maps) tt (λ other. refl) (λ other. refl),
    )
committed_acts engine seats after world s held transaction (At number) b is same pin done accepts ends put =
    let tells = b.stands.tells in
    let asked_is : submitted_of seats s held ≡ handed_in world s transaction =
    submits seats world s held transaction engine.map_before same pin (b.stands.begun s) in
    let sound : IsSoundTransaction engine.old.page_size held =
    subst (IsSoundState engine.old.page_size) is (sound_at engine.old.page_size seats s b.sound) in
    let free : conflict Concurrent transaction.reads transaction.snap world.history ≡ None =
    ap (λ (reads : List ℕ). conflict Concurrent reads transaction.snap world.history) same.reads
    ∙ ap (λ (n : ℕ). conflict Concurrent held.reads n world.history) same.snap
    ∙ ap (conflict Concurrent held.reads held.pin.n) (sym tells.history_is)
    ∙ conflict_none Concurrent held.reads held.pin.n engine.old.history accepts.clear.free in
    let told : TellsMaps done (committed world s transaction).world.maps (committed world s transaction).world.history =
    tells_committed engine.opened engine.old done seats world s held transaction number asked_is sound.images same tells accepts in
    let number_is : number ≡ length world.history + 1 =
    accepts.number_is ∙ ap (λ (commits : List Commit). length commits + 1) tells.history_is in
    subst (Leads engine after (reply.Done (At number))) (sym (commit_is world s transaction (same.wrote ∙ accepts.clear.wrote) free)) (
      ap (λ (k : ℕ). reply.Done (At k)) number_is,
      turn engine seats after world (committed world s transaction).world s seat.Out run.Out b put
          (tells_readers done engine.new _ _ one_fewer held.pin.lock ends told)
          (extends_push world.maps (laid (newest_map world) (change_of world transaction))) tt (λ other. refl) (λ other. refl),
    )

-- COMMIT that was refused: over maps alone only a page that was written since bars it
refused_open : (engine : Between) (seats after : List Seat) (world : World) (s : ℕ) (held : Transaction)
    (transaction : run.PageTransaction) (told : Told) (why : CommitFault) → Stands engine seats after world → MindsNoLogs engine.old (act.Commit s) told
    → seat_state seats s ≡ seat.Open held → IsTransaction held transaction → PinStands engine.map_before world.maps held.pin
    → told_of_refusal why ≡ Some told → RefusesLines engine.opened engine.old (submitted_of seats s held) why engine.new
    → after ≡ with_state seats s (state_refused why held) → Leads engine after told (commit world s transaction)
refused_open engine seats after world s held transaction told (fault.BusySnapshot page number) b minds is same pin told_is refuses put =
    let tells = b.stands.tells in
    let bars : conflict Concurrent transaction.reads transaction.snap world.history ≡ Some (page, number) =
    ap (λ (reads : List ℕ). conflict Concurrent reads transaction.snap world.history) same.reads
    ∙ ap (λ (n : ℕ). conflict Concurrent held.reads n world.history) same.snap
    ∙ ap (conflict Concurrent held.reads held.pin.n) (sym tells.history_is)
    ∙ conflict_is Concurrent held.reads held.pin.n engine.old.history page number refuses.2 in
    subst (λ (told : Told). Leads engine after told (commit world s transaction)) (told_once (reply.Busy page number) told told_is)
    (subst (Leads engine after (reply.Busy page number)) (sym (busy_is world s transaction page number (same.wrote ∙ refuses.0) bars)) (
      refl,
      turn engine seats after world (moved world s (run.Refused transaction) (reply.Busy page number)).world s
          (seat.Refused held.pin) (run.Refused transaction) b put
          (tells_same engine seats after world b refuses.3) (extends_same world.maps) (
            same.snap,
            pin_stays engine seats after world s (seat.Refused held.pin) (seat.Open held) held.pin b is put
                (0, omega arith, refl) (0, omega arith, refl) pin,
          )
          (λ other. refl) (λ other. refl),
    ))
refused_open engine seats after world s held transaction told fault.Disk b minds is same pin told_is refuses put = absurd (b.quiet refuses.1)
refused_open engine seats after world s held transaction told (fault.Stopped log at) b minds is same pin told_is refuses put =
    let stop = refuses.1 in
    let none : engine.old.stopped ≡ None = b.stands.tells.running in
    let some : engine.old.stopped ≡ Some stop.0 = stop.1 in
    absurd cc
refused_open engine seats after world s held transaction told (fault.SizeLimit pages frames) b minds is same pin told_is refuses put =
    let sound : IsSoundTransaction engine.old.page_size held =
    subst (IsSoundState engine.old.page_size) is (sound_at engine.old.page_size seats s b.sound) in
    elim minds [
      | inl none ↦
          absurd (not_over engine.old world.maps world.history (submitted_of seats s held).change b.stands.tells none refl refl sound.images refuses.3)
      | inr never ↦ absurd (subst HasNoLimit (sym (told_once (reply.Size pages) told told_is)) never.1)
    ]
refused_open engine seats after world s held transaction told fault.Memory b minds is same pin told_is refuses put = absurd cc
refused_open engine seats after world s held transaction told (fault.Corrupt page) b minds is same pin told_is refuses put = absurd cc

-- COMMIT of an open transaction
commit_open : (engine : Between) (seats after : List Seat) (world : World) (s : ℕ) (held : Transaction)
    (transaction : run.PageTransaction) (told : Told) → Stands engine seats after world → MindsNoLogs engine.old (act.Commit s) told
    → seat_state seats s ≡ seat.Open held → IsTransaction held transaction → PinStands engine.map_before world.maps held.pin
    → CommitOpen engine s seats after held told → Leads engine after told (commit world s transaction)
commit_open engine seats after world s held transaction told b minds is same pin (inl (receipt, told_is, found, put)) =
    let accepts : AcceptsCommit engine.opened engine.old (submitted_of seats s held) receipt found.2.0 =
    subst (λ (mid : EngineState). AcceptsCommit engine.opened mid (submitted_of seats s held) receipt found.2.0) (found.1.nobody b.alone) found.2.1 in
    subst (λ (told : Told). Leads engine after told (commit world s transaction)) (sym told_is)
    (committed_acts engine seats after world s held transaction receipt b is same pin found.2.0 accepts found.2.2 put)
commit_open engine seats after world s held transaction told b minds is same pin (inr (why, told_is, found, put)) =
    refused_open engine seats after world s held transaction told why b minds is same pin told_is
    (subst (λ (mid : EngineState). RefusesLines engine.opened mid (submitted_of seats s held) why engine.new) (found.1.nobody b.alone) found.2) put

-- COMMIT
pub commit_acts : (engine : Between) (seats after : List Seat) (world : World) (s : ℕ) (told : Told) (state : State) (session : SessionState)
    → Stands engine seats after world → MindsNoLogs engine.old (act.Commit s) told → seat_state seats s ≡ state
    → Matches engine.map_before world.maps state session → CommitActs engine s seats after told state → Leads engine after told (commit_step world s session)
commit_acts engine seats after world s told seat.Out run.Out b minds is matches acts =
    rests engine seats after world reply.NoTransaction told b acts
commit_acts engine seats after world s told (seat.Open held) (run.Open transaction) b minds is matches acts =
    commit_open engine seats after world s held transaction told b minds is matches.0 matches.1 acts
commit_acts engine seats after world s told (seat.Refused pin) (run.Refused transaction) b minds is matches acts =
    rests engine seats after world reply.MustRollBack told b acts
commit_acts engine seats after world s told seat.Out (run.Open transaction) b minds is matches acts = absurd matches
commit_acts engine seats after world s told seat.Out (run.Refused transaction) b minds is matches acts = absurd matches
commit_acts engine seats after world s told (seat.Open held) run.Out b minds is matches acts = absurd matches
commit_acts engine seats after world s told (seat.Open held) (run.Refused transaction) b minds is matches acts = absurd matches
commit_acts engine seats after world s told (seat.Refused pin) run.Out b minds is matches acts = absurd matches
commit_acts engine seats after world s told (seat.Refused pin) (run.Open transaction) b minds is matches acts = absurd matches

-- What was done where others keep away is done where they may, and what an engine tells goes on through each act.
use Rattle.std.proofs.Common.{◌≡◌, ℕ, ◌≤◌, List, [], ◌∷◌, ◌++◌, Option, Some, None, sym, refl, subst, ap, ◌∙◌, Bool, true, false, cond, ◌&&◌, is_some, inl, inr, arith, append_assoc}
use Rattle.std.specs.Option.{option_map}
use Rattle.std.proofs.lemmas.List.{append-nil}
use Rattle.std.proofs.lemmas.Bool.{true≢false}
use Rattle.page_spec.specs.PageMap.{PageMap}
use Rattle.engine_spec.specs.declared.pins.Pin.{Pin}
use Rattle.engine_spec.specs.declared.pins.Ckpt.{Ckpt}
use Rattle.engine_spec.specs.declared.pins.Ckpt.TheVariants.{Idle}
use Rattle.page_lines.specs.declared.lines.Act.{Act}
use Rattle.page_lines.specs.declared.lines.Act.TheVariants as act
use Rattle.page_lines.specs.declared.lines.Told.{Told}
use Rattle.engine_spec.specs.declared.commits.Receipt.{Receipt}
use Rattle.engine_spec.specs.declared.commits.Receipt.TheVariants.{At, ReadOnly}
use Rattle.engine_spec.specs.declared.commits.Commit.{Commit}
use Rattle.engine_spec.specs.declared.commits.CommitFault.{CommitFault}
use Rattle.engine_spec.specs.declared.commits.CommitFault.TheVariants as fault
use Rattle.engine_spec.specs.declared.pins.Lock.{Lock}
use Rattle.engine_spec.specs.declared.pins.Readers.{Readers}
use Rattle.disk_face.specs.Steps.{History}
use Rattle.crash_spec.specs.Opening.{Opening}
use Rattle.engine_spec.specs.TwoLogs.{TwoLogs, one_fewer, change_readers, to_write}
use Rattle.disk_face.specs.Faults.{one_more}
use Rattle.engine_spec.specs.State.{EngineState, Stop, Later, During}
use Rattle.engine_spec.specs.Leaves.{AtEach}
use Rattle.engine_spec.specs.Written.{Submitted, commit_of}
use Rattle.engine_spec.specs.Events.{Begins, Ends, FailsAlone, FailsInStep, AcceptsCommit, Checkpoints, StopsAt, with_readers}
use Rattle.acts.specs.declared.seats.Seat.{Seat}
use Rattle.acts.specs.declared.seats.State.{State}
use Rattle.acts.specs.declared.seats.State.TheVariants.{Out, Open, Refused}
use Rattle.acts.specs.declared.seats.Transaction.{Transaction}
use Rattle.acts.specs.Pagers.{RefusesLines, Acts, BeginActs, ReadActs, ReadOpen, WriteActs, CommitActs, CommitOpen, RollbackActs, StepActs, Copies, Grew, EndsAll, Plays, pins_of, seat_state, submitted_of}
use Rattle.engine_spec.specs.Change.{image_of}

-- What was promised for some openings is promised for fewer.
at_under : (opened opened_then : Opening → Type 0) → ((one : Opening) → opened one → opened_then one) → (maps : List PageMap)
    (old new : Option History) → AtEach opened_then maps old new → AtEach opened maps old new
at_under opened opened_then keeps maps old new at = λ one is. at one (keeps one is)

accepts_under : (opened opened_then : Opening → Type 0) → ((one : Opening) → opened one → opened_then one) → (before : EngineState)
    (asked : Submitted) (receipt : Receipt) (after : EngineState) → AcceptsCommit opened_then before asked receipt after
    → AcceptsCommit opened before asked receipt after
accepts_under opened opened_then keeps before asked (ReadOnly n) after accepts = accepts
accepts_under opened opened_then keeps before asked (At number) after accepts = record {
  clear = accepts.clear;
  number_is = accepts.number_is;
  pages = accepts.pages;
  wrote = accepts.wrote;
  moments = at_under opened opened_then keeps _ before.disk after.disk accepts.moments;
  after_is = accepts.after_is;
}

refuses_under : (opened opened_then : Opening → Type 0) → ((one : Opening) → opened one → opened_then one) → (before : EngineState)
    (asked : Submitted) (after : EngineState) → RefusesLines opened_then before asked fault.Disk after
    → RefusesLines opened before asked fault.Disk after
refuses_under opened opened_then keeps before asked after (clear, rose, inl read) = (clear, rose, inl read)
refuses_under opened opened_then keeps before asked after (clear, rose, inr stops) = (
  clear,
  rose,
  inr (record {
    stop = stops.stop;
    map = stops.map;
    place = stops.place;
    moments = at_under opened opened_then keeps _ before.disk after.disk stops.moments;
    after_is = stops.after_is;
  }),
)

fails_under : (opened opened_then : Opening → Type 0) → ((one : Opening) → opened one → opened_then one) → (before after : EngineState)
    → FailsInStep opened_then before after → FailsInStep opened before after
fails_under opened opened_then keeps before after fails = record {
  rose = fails.rose;
  moments = at_under opened opened_then keeps _ before.disk after.disk fails.moments;
  after_is = fails.after_is;
}

steps_under : (opened opened_then : Opening → Type 0) → ((one : Opening) → opened one → opened_then one) → (before : EngineState)
    (answer : Ckpt) (after : EngineState) → Checkpoints opened_then before answer after → Checkpoints opened before answer after
steps_under opened opened_then keeps before answer after steps = record {
  steps = steps.steps;
  moments = at_under opened opened_then keeps _ before.disk after.disk steps.moments;
  after_is = steps.after_is;
}

pub fails_at : (opened opened_then : Opening → Type 0) → ((one : Opening) → opened one → opened_then one) → (before after : EngineState)
    → During before (λ mid. FailsInStep opened_then mid after) → During before (λ mid. FailsInStep opened mid after)
fails_at opened opened_then keeps before after (mid, later, fails) = (mid, later, fails_under opened opened_then keeps mid after fails)

pub steps_at : (opened opened_then : Opening → Type 0) → ((one : Opening) → opened one → opened_then one) → (before : EngineState)
    (answer : Ckpt) (after : EngineState) → During before (λ mid. Checkpoints opened_then mid answer after)
    → During before (λ mid. Checkpoints opened mid answer after)
steps_at opened opened_then keeps before answer after (mid, later, steps) =
    (mid, later, steps_under opened opened_then keeps mid answer after steps)

-- an act, under weaker premises
pub acts_under : (opened opened_then : Opening → Type 0) (old new : EngineState) (maps maps_then : Pin → Option PageMap)
    (before : List Seat) (act : Act) (told : Told) (after : List Seat) → ((one : Opening) → opened one → opened_then one)
    → Acts (record { opened = opened_then; old = old; new = new; map_before = maps; map_after = maps_then }) before act told after
    → Acts (record { opened = opened; old = old; new = new; map_before = maps; map_after = maps_then }) before act told after
acts_under opened opened_then old new maps maps_then before (act.Begin session) told after keeps acts =
    by_state (seat_state before session) acts
  where
    by_state : (state : State)
        → BeginActs (record { opened = opened_then; old = old; new = new; map_before = maps; map_after = maps_then }) session before after told state
        → BeginActs (record { opened = opened; old = old; new = new; map_before = maps; map_after = maps_then }) session before after told state
    by_state Out (is, (pin, (mid, later, (begun, begins, then, map)), put)) = (
      is,
      (
        pin,
        (
          mid,
          later,
          (begun, begins, then, map),
        ),
        put,
      ),
    )
    by_state (Open transaction) same = same
    by_state (Refused pin) same = same
acts_under opened opened_then old new maps maps_then before (act.Read session page) told after keeps acts =
    by_state (seat_state before session) acts
  where
    by_image : (transaction : Transaction) (image : Option (List ℕ))
        → ReadOpen (record { opened = opened_then; old = old; new = new; map_before = maps; map_after = maps_then }) session page before after told transaction image
        → ReadOpen (record { opened = opened; old = old; new = new; map_before = maps; map_after = maps_then }) session page before after told transaction image
    by_image transaction (Some bytes) read = read
    by_image transaction None (inl (is, put, (mid, later, fails))) =
        inl (is, put, (mid, later, fails))
    by_image transaction None (inr (byte, is, bytes, put, (mid, later, only))) =
        inr (byte, is, bytes, put, (mid, later, only))

    by_state : (state : State)
        → ReadActs (record { opened = opened_then; old = old; new = new; map_before = maps; map_after = maps_then }) session page before after told state
        → ReadActs (record { opened = opened; old = old; new = new; map_before = maps; map_after = maps_then }) session page before after told state
    by_state Out same = same
    by_state (Open transaction) read = by_image transaction (image_of transaction.changed page) read
    by_state (Refused pin) same = same
acts_under opened opened_then old new maps maps_then before (act.Write session page byte) told after keeps acts =
    by_state (seat_state before session) acts
  where
    by_state : (state : State)
        → WriteActs (record { opened = opened_then; old = old; new = new; map_before = maps; map_after = maps_then }) session page byte before after told state
        → WriteActs (record { opened = opened; old = old; new = new; map_before = maps; map_after = maps_then }) session page byte before after told state
    by_state Out same = same
    by_state (Open transaction) write = write
    by_state (Refused pin) same = same
acts_under opened opened_then old new maps maps_then before (act.Commit session) told after keeps acts =
    by_state (seat_state before session) acts
  where
    by_fault : (transaction : Transaction) (why : CommitFault) (mid : EngineState)
        → RefusesLines opened_then mid (submitted_of before session transaction) why new → RefusesLines opened mid (submitted_of before session transaction) why new
    by_fault transaction (fault.Stopped log at) mid refuses = refuses
    by_fault transaction (fault.BusySnapshot page number) mid refuses = refuses
    by_fault transaction (fault.SizeLimit pages frames) mid refuses = refuses
    by_fault transaction fault.Memory mid refuses = refuses
    by_fault transaction fault.Disk mid refuses = refuses_under opened opened_then keeps mid _ new refuses
    by_fault transaction (fault.Corrupt page) mid refuses = refuses

    by_answer : (transaction : Transaction)
        → CommitOpen (record { opened = opened_then; old = old; new = new; map_before = maps; map_after = maps_then }) session before after transaction told
        → CommitOpen (record { opened = opened; old = old; new = new; map_before = maps; map_after = maps_then }) session before after transaction told
    by_answer transaction (inl (receipt, is, (mid, later, (done, accepts, ends)), put)) =
        inl (receipt, is, (mid, later, (done, accepts_under opened opened_then keeps mid _ receipt done accepts, ends)), put)
    by_answer transaction (inr (why, is, (mid, later, refuses), put)) = inr (why, is, (mid, later, by_fault transaction why mid refuses), put)

    by_state : (state : State)
        → CommitActs (record { opened = opened_then; old = old; new = new; map_before = maps; map_after = maps_then }) session before after told state
        → CommitActs (record { opened = opened; old = old; new = new; map_before = maps; map_after = maps_then }) session before after told state
    by_state Out same = same
    by_state (Open transaction) commit = by_answer transaction commit
    by_state (Refused pin) same = same
acts_under opened opened_then old new maps maps_then before (act.Rollback session) told after keeps acts =
    by_state (seat_state before session) acts
  where
    by_state : (state : State)
        → RollbackActs (record { opened = opened_then; old = old; new = new; map_before = maps; map_after = maps_then }) session before after told state
        → RollbackActs (record { opened = opened; old = old; new = new; map_before = maps; map_after = maps_then }) session before after told state
    by_state Out same = same
    by_state (Open transaction) rollback = rollback
    by_state (Refused pin) rollback = rollback
acts_under opened opened_then old new maps maps_then before act.Step told after keeps (step, same) = (by_answer step, same)
  where
    by_answer : StepActs (record { opened = opened_then; old = old; new = new; map_before = maps; map_after = maps_then }) told
        → StepActs (record { opened = opened; old = old; new = new; map_before = maps; map_after = maps_then }) told
    by_answer (inl (is, (mid, later, fails))) =
        inl (is, (mid, later, fails_under opened opened_then keeps mid new fails))
    by_answer (inr (answer, is, (mid, later, steps))) =
        inr (answer, is, (mid, later, steps_under opened opened_then keeps mid answer new steps))
acts_under opened opened_then old new maps maps_then before act.Copy told after keeps ((answers, copies), same) =
    ((answers, by_answers answers old copies), same)
  where
    by_answers : (answers : List Ckpt) (from : EngineState) → Copies opened_then answers from told new → Copies opened answers from told new
    by_answers [] from (inl (is, (mid, later, fails))) =
        inl (is, (mid, later, fails_under opened opened_then keeps mid new fails))
    by_answers [] from (inr (answer, last, is, (mid, later, steps))) =
        inr (answer, last, is, (mid, later, steps_under opened opened_then keeps mid answer new steps))
    by_answers (answer ∷ answers) from (copied, page, is, (mid, later, steps), rest) = (
      copied,
      page,
      is,
      (mid, later, steps_under opened opened_then keeps mid answer copied steps),
      by_answers answers copied rest,
    )
acts_under opened opened_then old new maps maps_then before act.Logs told after keeps (same, (mid, later, logs)) =
    (same, (mid, later, logs))

-- it grew twice
pub grew_on : (old mid new : EngineState) → Grew old mid → Grew mid new → Grew old new
grew_on old mid new first then = record {
  more = first.more ++ then.more;
  history = then.history ∙ (ap (λ (commits : List Commit). commits ++ then.more) first.history ∙ append_assoc old.history first.more then.more);
  more_own = first.more_own ++ then.more_own;
  own = then.own ∙ (ap (λ (numbers : List ℕ). numbers ++ then.more_own) first.own ∙ append_assoc old.own first.more_own then.more_own);
  faults = omega (arith, first.faults, then.faults);
}

-- What an engine tells goes on: it grew, its page size stays, who may commit and whether a transaction may always begin stays, and where
-- it keeps no logs it goes on to keep none.
pub record GoesOn (old new : EngineState) : Type 0 where
  pub grew : Grew old new
  pub page_size : new.page_size ≡ old.page_size
  pub alone : new.alone ≡ old.alone
  pub always : new.always_begins ≡ old.always_begins
  pub no_logs : old.logs ≡ None → new.logs ≡ None

-- it does so twice
pub goes_twice : (old mid new : EngineState) → GoesOn old mid → GoesOn mid new → GoesOn old new
goes_twice old mid new first then = record {
  grew = grew_on old mid new first.grew then.grew;
  page_size = then.page_size ∙ first.page_size;
  alone = then.alone ∙ first.alone;
  always = then.always ∙ first.always;
  no_logs = λ none. then.no_logs (first.no_logs none);
}

-- nothing but the place of a failed write, the faults, the logs, their readers and the disk's past may have changed
goes_but : (old new : EngineState) (stopped : Option Stop) (faults : ℕ) (logs : Option TwoLogs) (readers : Readers) (disk : Option History)
    → new ≡ record old { stopped = stopped; faults = faults; logs = logs; readers = readers; disk = disk } → old.faults ≤ faults
    → (old.logs ≡ None → logs ≡ None) → GoesOn old new
goes_but old new stopped faults logs readers disk is more none = subst (GoesOn old) (sym is) (record {
  grew = record {
    more = [];
    history = sym (append-nil old.history);
    more_own = [];
    own = sym (append-nil old.own);
    faults = more;
  };
  page_size = refl;
  alone = refl;
  always = refl;
  no_logs = none;
})

-- nothing changed
goes_equal : (old new : EngineState) → new ≡ old → GoesOn old new
goes_equal old new same = goes_but old new old.stopped old.faults old.logs old.readers old.disk same (omega arith) (λ was. was)

pub grew_equal : (old new : EngineState) → new ≡ old → Grew old new
grew_equal old new same = (goes_equal old new same).grew

-- logs that are told by neither
still_none : (old new : Option TwoLogs) → is_some new ≡ is_some old → old ≡ None → new ≡ None
still_none old None told none = refl
still_none old (Some logs) told none = absurd (true≢false (told ∙ ap is_some none))

-- others let it grow
goes_later : (old new : EngineState) → Later old new → GoesOn old new
goes_later old new later = record {
  grew = record {
    more = later.more;
    history = later.grown;
    more_own = [];
    own = later.own ∙ sym (append-nil old.own);
    faults = later.faults;
  };
  page_size = later.page_size;
  alone = later.alone;
  always = later.always_begins;
  no_logs = still_none old.logs new.logs later.keeps_logs;
}

-- nothing changed beyond that
goes_still : (old new : EngineState) → During old (λ mid. new ≡ mid) → GoesOn old new
goes_still old new (mid, later, same) = goes_twice old mid new (goes_later old mid later) (goes_equal mid new same)

pub grew_still : (old new : EngineState) → During old (λ mid. new ≡ mid) → Grew old new
grew_still old new found = (goes_still old new found).grew

goes_fails : (old new : EngineState) → During old (λ mid. FailsAlone mid new) → GoesOn old new
goes_fails old new (mid, later, fails) = goes_twice old mid new (goes_later old mid later)
    (goes_but mid new mid.stopped new.faults mid.logs mid.readers mid.disk fails.1 fails.0.later (λ none. none))

-- a step of a checkpoint: where there are no logs, there are none after it
goes_step_fails : (opened : Opening → Type 0) (old new : EngineState) → During old (λ mid. FailsInStep opened mid new) → GoesOn old new
goes_step_fails opened old new (mid, later, fails) = goes_twice old mid new (goes_later old mid later)
    (goes_but mid new mid.stopped new.faults mid.logs mid.readers new.disk fails.after_is fails.rose.later (λ none. none))

goes_steps : (opened : Opening → Type 0) (old new : EngineState) (answer : Ckpt) → During old (λ mid. Checkpoints opened mid answer new)
    → GoesOn old new
goes_steps opened old new answer (mid, later, steps) = goes_twice old mid new (goes_later old mid later)
    (goes_but mid new mid.stopped mid.faults new.logs mid.readers new.disk steps.after_is (omega arith)
    (λ none. let there : (answer ≡ Idle) × (new.logs ≡ None) = rw none at steps.steps in there.1))

-- a reader more or less
goes_reader : (old new : EngineState) (change : ℕ → ℕ) (lock : Lock) → new ≡ with_readers change lock old → GoesOn old new
goes_reader old new change lock is = subst (GoesOn old) (sym is) (by_test (old.always_begins && is_some old.logs))
  where
    by_test : (test : Bool) → GoesOn old (cond test (record old { readers = change_readers change old.readers lock }) old)
    by_test true = goes_but old _ old.stopped old.faults old.logs (change_readers change old.readers lock) old.disk refl (omega arith) (λ none. none)
    by_test false = goes_equal old old refl

-- the end of a pin
goes_ends : (old new : EngineState) (pin : Pin) → Ends old pin new → GoesOn old new
goes_ends old new pin ends = goes_reader old new one_fewer pin.lock ends

-- the ends of pins
pub goes_all : (pins : List Pin) (old new : EngineState) → EndsAll pins old new → GoesOn old new
goes_all [] old new same = goes_equal old new same
goes_all (pin ∷ pins) old new (mid, ends, rest) = goes_twice old mid new (goes_ends old mid pin ends) (goes_all pins mid new rest)

pub grew_all : (pins : List Pin) (old new : EngineState) → EndsAll pins old new → Grew old new
grew_all pins old new ends = (goes_all pins old new ends).grew

-- a commit
goes_accepts : (opened : Opening → Type 0) (mid done : EngineState) (asked : Submitted) (receipt : Receipt)
    → AcceptsCommit opened mid asked receipt done → GoesOn mid done
goes_accepts opened mid done asked (ReadOnly n) accepts = goes_equal mid done accepts.2
goes_accepts opened mid done asked (At number) accepts = record {
  grew = record {
    more = commit_of asked accepts.pages ∷ [];
    history = ap (λ (seen : EngineState). seen.history) accepts.after_is;
    more_own = number ∷ [];
    own = ap (λ (seen : EngineState). seen.own) accepts.after_is;
    faults = omega (arith, ap (λ (seen : EngineState). seen.faults) accepts.after_is);
  };
  page_size = ap (λ (seen : EngineState). seen.page_size) accepts.after_is;
  alone = ap (λ (seen : EngineState). seen.alone) accepts.after_is;
  always = ap (λ (seen : EngineState). seen.always_begins) accepts.after_is;
  no_logs = λ none.
      ap (λ (seen : EngineState). seen.logs) accepts.after_is
      ∙ ap (option_map (λ (logs : TwoLogs). to_write logs mid.readers mid.history)) none;
}

-- an engine that keeps no logs stops nowhere
never_stops : (before : EngineState) (stop : Stop) (after : Option TwoLogs) → before.logs ≡ None → StopsAt before stop after → ⊥
never_stops before stop after none stops = rw none at stops

-- a commit that a disk barred, which may have switched the logs where there are some
goes_barred : (opened : Opening → Type 0) (mid new : EngineState) (asked : Submitted) → RefusesLines opened mid asked fault.Disk new → GoesOn mid new
goes_barred opened mid new asked (clear, rose, inl read) =
    goes_but mid new mid.stopped new.faults mid.logs mid.readers mid.disk read rose.later (λ none. none)
goes_barred opened mid new asked (clear, rose, inr stops) =
    goes_but mid new (Some stops.stop) new.faults new.logs mid.readers new.disk stops.after_is rose.later
    (λ none. absurd (never_stops mid stops.stop new.logs none stops.place))

-- BEGIN
goes_begins : (mid begun : EngineState) (pin : Pin) → Begins mid pin begun → GoesOn mid begun
goes_begins mid begun pin begins = goes_reader mid begun one_more pin.lock begins.after_is

-- an act
pub acts_go : (opened : Opening → Type 0) (old new : EngineState) (maps maps_then : Pin → Option PageMap)
    (before : List Seat) (act : Act) (told : Told) (after : List Seat)
    → Acts (record { opened = opened; old = old; new = new; map_before = maps; map_after = maps_then }) before act told after
    → GoesOn old new
acts_go opened old new maps maps_then before (act.Begin session) told after acts = by_state (seat_state before session) acts
  where
    by_state : (state : State)
        → BeginActs (record { opened = opened; old = old; new = new; map_before = maps; map_after = maps_then }) session before after told state
        → GoesOn old new
    by_state Out (is, (pin, (mid, later, (begun, begins, then, map)), put)) =
        goes_twice old begun new
        (goes_twice old mid begun (goes_later old mid later) (goes_begins mid begun pin begins))
        (goes_later begun new then)
    by_state (Open transaction) same = goes_equal old new same.2
    by_state (Refused pin) same = goes_equal old new same.2
acts_go opened old new maps maps_then before (act.Read session page) told after acts = by_state (seat_state before session) acts
  where
    by_image : (transaction : Transaction) (image : Option (List ℕ))
        → ReadOpen (record { opened = opened; old = old; new = new; map_before = maps; map_after = maps_then }) session page before after told transaction image
        → GoesOn old new
    by_image transaction (Some bytes) read = goes_equal old new read.2
    by_image transaction None (inl (is, put, fails)) = goes_fails old new fails
    by_image transaction None (inr (byte, is, bytes, put, only)) = goes_still old new only

    by_state : (state : State)
        → ReadActs (record { opened = opened; old = old; new = new; map_before = maps; map_after = maps_then }) session page before after told state
        → GoesOn old new
    by_state Out same = goes_equal old new same.2
    by_state (Open transaction) read = by_image transaction (image_of transaction.changed page) read
    by_state (Refused pin) same = goes_equal old new same.2
acts_go opened old new maps maps_then before (act.Write session page byte) told after acts = by_state (seat_state before session) acts
  where
    by_state : (state : State)
        → WriteActs (record { opened = opened; old = old; new = new; map_before = maps; map_after = maps_then }) session page byte before after told state
        → GoesOn old new
    by_state Out same = goes_equal old new same.2
    by_state (Open transaction) write = goes_equal old new write.2
    by_state (Refused pin) same = goes_equal old new same.2
acts_go opened old new maps maps_then before (act.Commit session) told after acts = by_state (seat_state before session) acts
  where
    by_fault : (transaction : Transaction) (why : CommitFault) (mid : EngineState)
        → RefusesLines opened mid (submitted_of before session transaction) why new → GoesOn mid new
    by_fault transaction (fault.Stopped log at) mid refuses = goes_equal mid new refuses.2
    by_fault transaction (fault.BusySnapshot page number) mid refuses = goes_equal mid new refuses.3
    by_fault transaction (fault.SizeLimit pages frames) mid refuses = goes_equal mid new refuses.6
    by_fault transaction fault.Memory mid refuses = goes_equal mid new refuses.1
    by_fault transaction fault.Disk mid refuses = goes_barred opened mid new (submitted_of before session transaction) refuses
    by_fault transaction (fault.Corrupt page) mid refuses = goes_equal mid new refuses.2

    by_answer : (transaction : Transaction)
        → CommitOpen (record { opened = opened; old = old; new = new; map_before = maps; map_after = maps_then }) session before after transaction told
        → GoesOn old new
    by_answer transaction (inl (receipt, is, (mid, later, (done, accepts, ends)), put)) =
        goes_twice old done new (goes_twice old mid done (goes_later old mid later)
        (goes_accepts opened mid done (submitted_of before session transaction) receipt accepts)) (goes_ends done new transaction.pin ends)
    by_answer transaction (inr (why, is, (mid, later, refuses), put)) =
        goes_twice old mid new (goes_later old mid later) (by_fault transaction why mid refuses)

    by_state : (state : State)
        → CommitActs (record { opened = opened; old = old; new = new; map_before = maps; map_after = maps_then }) session before after told state
        → GoesOn old new
    by_state Out same = goes_equal old new same.2
    by_state (Open transaction) commit = by_answer transaction commit
    by_state (Refused pin) same = goes_equal old new same.2
acts_go opened old new maps maps_then before (act.Rollback session) told after acts = by_state (seat_state before session) acts
  where
    by_state : (state : State)
        → RollbackActs (record { opened = opened; old = old; new = new; map_before = maps; map_after = maps_then }) session before after told state
        → GoesOn old new
    by_state Out same = goes_equal old new same.2
    by_state (Open transaction) rollback = goes_ends old new transaction.pin rollback.2
    by_state (Refused pin) rollback = goes_ends old new pin rollback.2
acts_go opened old new maps maps_then before act.Step told after (inl (is, fails), same) = goes_step_fails opened old new fails
acts_go opened old new maps maps_then before act.Step told after (inr (answer, is, steps), same) = goes_steps opened old new answer steps
acts_go opened old new maps maps_then before act.Copy told after ((answers, copies), same) = by_answers answers old copies
  where
    by_answers : (answers : List Ckpt) (from : EngineState) → Copies opened answers from told new → GoesOn from new
    by_answers [] from (inl (is, fails)) = goes_step_fails opened from new fails
    by_answers [] from (inr (answer, last, is, steps)) = goes_steps opened from new answer steps
    by_answers (answer ∷ answers) from (copied, page, is, steps, rest) =
        goes_twice from copied new (goes_steps opened from copied answer steps) (by_answers answers copied rest)
acts_go opened old new maps maps_then before act.Logs told after (same, (mid, later, logs)) =
    goes_twice old mid new (goes_later old mid later) (goes_equal mid new logs.1)

-- a run of page lines
pub plays_go : (opened : Opening → Type 0) (old : EngineState) (maps : Pin → Option PageMap) (seats : List Seat) (acts : List Act) (answers : List Told)
    (new : EngineState) → Plays opened old maps seats acts answers new → GoesOn old new
plays_go opened old maps seats [] [] new ends = goes_all (pins_of seats) old new ends
plays_go opened old maps seats (act ∷ acts) (answer ∷ answers) new (mid, maps_then, seats_then, acted, keeps, leaves, rest) =
    goes_twice old mid new (acts_go opened old mid maps maps_then seats act answer seats_then acted)
    (plays_go opened mid maps_then seats_then acts answers new rest)
plays_go opened old maps seats [] (answer ∷ answers) new never = absurd never
plays_go opened old maps seats (act ∷ acts) [] new never = absurd never

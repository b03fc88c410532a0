-- Each act keeps the sessions' transactions sound.
use Rattle.std.proofs.Common.{◌≡◌, ℕ, ◌≤◌, List, [], ◌∷◌, Option, Some, None, refl, sym, subst, inl, inr, arith, eq-eqb}
use Rattle.std.proofs.lemmas.Bool.{cases_eq, ne_eqb}
use Rattle.std.proofs.lemmas.List.Elements.{All-cons, All-head, All-tail}
use Rattle.engine_spec.specs.declared.pins.Pin.{Pin}
use Rattle.page_lines.specs.declared.lines.Act.{Act}
use Rattle.page_lines.specs.declared.lines.Act.TheVariants as act
use Rattle.page_lines.specs.declared.lines.Told.{Told}
use Rattle.page_lines.specs.declared.lines.Told.TheVariants as reply
use Rattle.engine_spec.specs.Change.{image_of}
use Rattle.page_lines.specs.Range.{IsInRange}
use Rattle.page_lines.proofs.Transactions.{none_are, fills_none}
use Rattle.engine_spec.specs.declared.commits.CommitFault.{CommitFault}
use Rattle.engine_spec.specs.declared.commits.CommitFault.TheVariants as fault
use Rattle.acts.specs.declared.seats.Seat.{Seat}
use Rattle.acts.specs.declared.seats.Transaction.{Transaction}
use Rattle.acts.specs.declared.seats.State.{State}
use Rattle.acts.specs.declared.seats.State.TheVariants.{Out, Open, Refused}
use Rattle.acts.specs.Pagers.{Between, Acts, BeginActs, ReadActs, ReadOpen, WriteActs, CommitActs, RollbackActs, AreSound, IsSoundState, IsSoundTransaction, seat_state, begun_of, with_seat, with_state, new_transaction, state_refused, after_own, after_fetch}
use Rattle.acts.proofs.SeatLaws.{sound_at}
use Rattle.acts.proofs.Outcomes.{sound_own, sound_fetch, after_write_sound}

-- where all are sound, and a seat that is sound is put
sound_with : (size : ℕ) (seats : List Seat) (one : Seat) → IsSoundState size one.state → AreSound size seats
    → AreSound size (with_seat seats one)
sound_with size [] one sound all = All-cons (λ (seat : Seat). IsSoundState size seat.state) one [] sound all
sound_with size (first ∷ seats) one sound all =
    let rest = All-tail (λ (seat : Seat). IsSoundState size seat.state) first seats all in
    elim (cases_eq first.session one.session) [
      | inl same ↦
          rw (eq-eqb first.session one.session same) (All-cons (λ (seat : Seat). IsSoundState size seat.state) one seats sound rest)
      | inr apart ↦
          rw (ne_eqb first.session one.session apart)
          (All-cons (λ (seat : Seat). IsSoundState size seat.state) first (with_seat seats one)
          (All-head (λ (seat : Seat). IsSoundState size seat.state) first seats all) (sound_with size seats one sound rest))
    ]

-- the same where a session moved
sound_moved : (size : ℕ) (before after : List Seat) (session : ℕ) (state : State) → AreSound size before → IsSoundState size state
    → after ≡ with_state before session state → AreSound size after
sound_moved size before after session state all sound put =
    subst (AreSound size) (sym put)
    (sound_with size before (record { session = session; begun = begun_of before session; state = state }) sound all)

-- and where none did
sound_same : (size : ℕ) (before after : List Seat) → AreSound size before → after ≡ before → AreSound size after
sound_same size before after all same = subst (AreSound size) (sym same) all

-- a transaction that has just begun is sound
new_sound : (size : ℕ) (pin : Pin) → 16 ≤ pin.size → IsSoundTransaction size (new_transaction pin)
new_sound size pin pages = record {
  pages = pages;
  images = none_are size;
  statements = [];
  texts = refl;
  fills = fills_none size;
}

-- BEGIN
begin_sound : (engine : Between) (session : ℕ) (before after : List Seat) (told : Told) (state : State)
    → 16 ≤ engine.old.size → AreSound engine.old.page_size before → BeginActs engine session before after told state
    → AreSound engine.old.page_size after
begin_sound engine session before after told Out pages all (is, (pin, (mid, later, (begun, begins, then, map)), put)) =
    subst (AreSound engine.old.page_size) (sym put)
    (sound_with engine.old.page_size before _ (new_sound engine.old.page_size pin (omega (arith, pages, later.size, begins.size))) all)
begin_sound engine session before after told (Open transaction) pages all same = sound_same engine.old.page_size before after all same.1
begin_sound engine session before after told (Refused pin) pages all same = sound_same engine.old.page_size before after all same.1

-- READ
read_sound : (engine : Between) (session page : ℕ) (before after : List Seat) (told : Told) (state : State)
    → AreSound engine.old.page_size before → IsSoundState engine.old.page_size state
    → ReadActs engine session page before after told state → AreSound engine.old.page_size after
read_sound engine session page before after told Out all sound same = sound_same engine.old.page_size before after all same.1
read_sound engine session page before after told (Refused pin) all sound same = sound_same engine.old.page_size before after all same.1
read_sound engine session page before after told (Open transaction) all sound acts = by_image (image_of transaction.changed page) acts
  where
    by_image : (image : Option (List ℕ)) → ReadOpen engine session page before after told transaction image
        → AreSound engine.old.page_size after
    by_image (Some bytes) (is, put, same) =
        sound_moved engine.old.page_size before after session (Open (after_own transaction page)) all
        (sound_own engine.old.page_size transaction (after_own transaction page) page refl sound) put
    by_image None (inl (is, same, fails)) = sound_same engine.old.page_size before after all same
    by_image None (inr (byte, is, bytes, put, found)) =
        sound_moved engine.old.page_size before after session (Open (after_fetch transaction page)) all
        (sound_fetch engine.old.page_size engine.old.page_size transaction (after_fetch transaction page) page refl refl sound) put

-- WRITE
write_sound : (engine : Between) (session page byte : ℕ) (before after : List Seat) (told : Told) (state : State) → 2 ≤ page → page ≤ 16
    → AreSound engine.old.page_size before → IsSoundState engine.old.page_size state
    → WriteActs engine session page byte before after told state → AreSound engine.old.page_size after
write_sound engine session page byte before after told Out low high all sound same = sound_same engine.old.page_size before after all same.1
write_sound engine session page byte before after told (Refused pin) low high all sound same =
    sound_same engine.old.page_size before after all same.1
write_sound engine session page byte before after told (Open transaction) low high all sound acts =
    sound_moved engine.old.page_size before after session _ all
    (after_write_sound engine.old.page_size transaction page byte low high sound) acts.1

-- so is one whose COMMIT was refused
refused_sound : (size : ℕ) (why : CommitFault) (transaction : Transaction) → IsSoundTransaction size transaction
    → IsSoundState size (state_refused why transaction)
refused_sound size (fault.Stopped log at) transaction sound = sound
refused_sound size (fault.BusySnapshot page number) transaction sound = tt
refused_sound size (fault.SizeLimit pages frames) transaction sound = sound
refused_sound size fault.Memory transaction sound = sound
refused_sound size fault.Disk transaction sound = sound
refused_sound size (fault.Corrupt page) transaction sound = sound

-- COMMIT
commit_sound : (engine : Between) (session : ℕ) (before after : List Seat) (told : Told) (state : State) → AreSound engine.old.page_size before
    → IsSoundState engine.old.page_size state → CommitActs engine session before after told state → AreSound engine.old.page_size after
commit_sound engine session before after told Out all sound same = sound_same engine.old.page_size before after all same.1
commit_sound engine session before after told (Refused pin) all sound same = sound_same engine.old.page_size before after all same.1
commit_sound engine session before after told (Open transaction) all sound (inl (receipt, is, found, put)) =
    sound_moved engine.old.page_size before after session Out all tt put
commit_sound engine session before after told (Open transaction) all sound (inr (why, is, found, put)) =
    sound_moved engine.old.page_size before after session (state_refused why transaction) all (refused_sound engine.old.page_size why transaction sound) put

-- ROLLBACK
rollback_sound : (engine : Between) (session : ℕ) (before after : List Seat) (told : Told) (state : State)
    → AreSound engine.old.page_size before → RollbackActs engine session before after told state → AreSound engine.old.page_size after
rollback_sound engine session before after told Out all same = sound_same engine.old.page_size before after all same.1
rollback_sound engine session before after told (Open transaction) all acts =
    sound_moved engine.old.page_size before after session Out all tt acts.1
rollback_sound engine session before after told (Refused pin) all acts =
    sound_moved engine.old.page_size before after session Out all tt acts.1

-- An act on pages that page lines may name, over maps of 16 pages, leaves each session's transaction sound.
pub acts_sound : (engine : Between) (before after : List Seat) (one : Act) (told : Told) → 16 ≤ engine.old.size → IsInRange one
    → AreSound engine.old.page_size before → Acts engine before one told after → AreSound engine.old.page_size after
acts_sound engine before after (act.Begin session) told pages range all acts =
    begin_sound engine session before after told (seat_state before session) pages all acts
acts_sound engine before after (act.Read session page) told pages range all acts =
    read_sound engine session page before after told (seat_state before session) all (sound_at engine.old.page_size before session all) acts
acts_sound engine before after (act.Write session page byte) told pages range all acts =
    write_sound engine session page byte before after told (seat_state before session) range.0 range.1 all
    (sound_at engine.old.page_size before session all) acts
acts_sound engine before after (act.Commit session) told pages range all acts =
    commit_sound engine session before after told (seat_state before session) all (sound_at engine.old.page_size before session all) acts
acts_sound engine before after (act.Rollback session) told pages range all acts =
    rollback_sound engine session before after told (seat_state before session) all acts
acts_sound engine before after act.Copy told pages range all acts = sound_same engine.old.page_size before after all acts.1
acts_sound engine before after act.Step told pages range all acts = sound_same engine.old.page_size before after all acts.1
acts_sound engine before after act.Logs told pages range all acts = sound_same engine.old.page_size before after all acts.0

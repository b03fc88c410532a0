-- What BEGIN, READ, WRITE and ROLLBACK do over an engine is what they do to the world.
use Rattle.std.proofs.Common.{◌≡◌, ◌∙◌, ℕ, Bool, true, false, cond, ◌&&◌, is_some, List, [], ◌∷◌, ◌++◌, length, replicate, refl, sym, ap, subst, inl, inr, arith, get_or, eq-eqb}
use Rattle.std.specs.Prelude.{Option, Some, None, slice_index, unwrap_or, IfSome}
use Rattle.std.proofs.lemmas.Bool.{ne_eqb}
use Rattle.page_spec.specs.PageMap.{PageMap, page_at, page_size_of}
use Rattle.engine_spec.specs.declared.commits.PageImage.{PageImage}
use Rattle.page_lines.specs.declared.lines.Told.{Told}
use Rattle.page_lines.specs.declared.lines.Told.TheVariants as reply
use Rattle.engine_spec.specs.PageSet.{with_page}
use Rattle.page_lines.specs.PageLines.{with_image, read_text, write_text}
use Rattle.engine_spec.specs.Change.{image_of}
use Rattle.disk_face.specs.Faults.{one_more}
use Rattle.engine_spec.specs.declared.pins.Lock.{Lock}
use Rattle.engine_spec.specs.State.{EngineState}
use Rattle.engine_spec.specs.TwoLogs.{change_readers}
use Rattle.engine_spec.specs.Events.{with_readers}
use Rattle.page_lines.specs.World.{World, SessionState, Outcome, changed_at, map_number, newest_map, step, begin_step, read_step, write_step, commit_step, rollback_step, commit, committed, moved, decided, change_of, handed_in}
use Rattle.page_lines.specs.World as run
use Rattle.acts.specs.declared.seats.Seat.{Seat}
use Rattle.acts.specs.declared.seats.State.{State}
use Rattle.acts.specs.declared.seats.State.TheVariants as seat
use Rattle.acts.specs.declared.seats.Transaction.{Transaction}
use Rattle.acts.specs.Pagers.{Between, BeginActs, ReadOpen, ReadActs, WriteActs, RollbackActs, seat_state}
use Rattle.acts.specs.Standing.{PinStands, IsTransaction, Matches}
use Rattle.acts.proofs.Telling.{extends_same, tells_readers}
use Rattle.acts.proofs.Standing.{Stands, Leads, move, turn, tells_same, rests, pin_stays, tells_quiet, never_fails, tells_ended}

-- counting a reader leaves who may commit
pub readers_alone : (old : EngineState) (change : ℕ → ℕ) (lock : Lock) → (with_readers change lock old).alone ≡ old.alone
readers_alone old change lock = by_test (old.always_begins && is_some old.logs)
  where
    by_test : (test : Bool) → (cond test (record old { readers = change_readers change old.readers lock }) old).alone ≡ old.alone
    by_test true = refl
    by_test false = refl

-- BEGIN
pub begin_acts : (engine : Between) (seats after : List Seat) (world : World) (s : ℕ) (told : Told) (state : State) (session : SessionState)
    → Stands engine seats after world → Matches engine.map_before world.maps state session
    → BeginActs engine s seats after told state → Leads engine after told (begin_step world s session)
begin_acts engine seats after world s told seat.Out run.Out b matches acts =
    let pin = acts.1.0 in
    let found = acts.1.1 in
    let begins = found.2.1 in
    let tells = b.stands.tells in
    let old : found.0 ≡ engine.old = found.1.nobody b.alone in
    let begun : found.2.0 ≡ with_readers one_more pin.lock engine.old =
    begins.after_is ∙ ap (with_readers one_more pin.lock) old in
    let alone : found.2.0.alone ≡ true =
    ap (λ (seen : EngineState). seen.alone) begun ∙ (readers_alone engine.old one_more pin.lock ∙ b.alone) in
    let new : engine.new ≡ with_readers one_more pin.lock engine.old = found.2.2.nobody alone ∙ begun in
    let n : pin.n ≡ length world.history =
    begins.n ∙ ap (λ (seen : EngineState). length seen.history) old ∙ ap length tells.history_is in
    let newest : get_or world.maps pin.n [] ≡ newest_map world = ap (λ (k : ℕ). get_or world.maps k []) n in
    let size : pin.size ≡ length (get_or world.maps pin.n []) =
    begins.size ∙ ap (λ (seen : EngineState). seen.size) old ∙ tells.size ∙ sym tells.store.count ∙ ap length (sym newest) in
    let map : engine.map_after pin ≡ Some (get_or world.maps pin.n []) =
    found.2.3 ∙ ap (λ (seen : EngineState). seen.newest) old ∙ tells.newest ∙ ap Some (sym newest) in (
      acts.0,
      move engine seats after world (run.begin world s).world _ _ b acts.1.2
          (tells_readers engine.old engine.new world.maps world.history one_more pin.lock new tells)
          (extends_same world.maps) (
            record { snap = sym n; reads = refl; changed = refl; said = refl; wrote = refl },
            record { n = omega (arith, n, tells.count); size = size; map = map },
          )
          (λ other. refl)
          (ap (λ (test : Bool). cond test (one_more (world.begun s)) (world.begun s)) (eq-eqb s s refl) ∙ ap one_more (b.stands.begun s))
          (λ other apart. ap (λ (test : Bool). cond test (one_more (world.begun s)) (world.begun other)) (ne_eqb other s (λ e. apart (sym e)))),
    )
begin_acts engine seats after world s told (seat.Open held) (run.Open transaction) b matches acts =
    rests engine seats after world reply.InTransaction told b acts
begin_acts engine seats after world s told (seat.Refused pin) (run.Refused transaction) b matches acts =
    rests engine seats after world reply.MustRollBack told b acts
begin_acts engine seats after world s told seat.Out (run.Open transaction) b matches acts = absurd matches
begin_acts engine seats after world s told seat.Out (run.Refused transaction) b matches acts = absurd matches
begin_acts engine seats after world s told (seat.Open held) run.Out b matches acts = absurd matches
begin_acts engine seats after world s told (seat.Open held) (run.Refused transaction) b matches acts = absurd matches
begin_acts engine seats after world s told (seat.Refused pin) run.Out b matches acts = absurd matches
begin_acts engine seats after world s told (seat.Refused pin) (run.Open transaction) b matches acts = absurd matches

-- READ of a page that the transaction wrote itself, or of its snapshot
read_open : (engine : Between) (seats after : List Seat) (world : World) (s page : ℕ) (told : Told) (held : Transaction)
    (transaction : run.PageTransaction) (own : Option (List ℕ)) → Stands engine seats after world → seat_state seats s ≡ seat.Open held
    → image_of transaction.changed page ≡ own → IsTransaction held transaction → PinStands engine.map_before world.maps held.pin
    → ReadOpen engine s page seats after told held own → Leads engine after told (run.read world s transaction page)
read_open engine seats after world s page told held transaction (Some bytes) b is own same pin acts =
    let byte : slice_index (run.shown world transaction page) 0 ≡ slice_index bytes 0 =
    ap (λ (image : Option (List ℕ)). slice_index (unwrap_or image (page_at (map_number world transaction.snap) page)) 0) own in
    let reads : run.reads_with transaction page ≡ transaction.reads = rw own refl in (
      acts.0 ∙ ap reply.Byte (sym byte),
      turn engine seats after world (run.read world s transaction page).world s _ _ b acts.1
          (tells_same engine seats after world b acts.2) (extends_same world.maps) (
            record {
              snap = same.snap;
              reads = reads ∙ same.reads;
              changed = same.changed;
              said = ap (λ (said : List (List ℕ)). said ++ read_text page ∷ []) same.said;
              wrote = same.wrote;
            },
            pin_stays engine seats after world s _ (seat.Open held) held.pin b is acts.1 (0, omega arith, refl) (0, omega arith, refl) pin,
          )
          (λ other. refl) (λ other. refl),
    )
read_open engine seats after world s page told held transaction None b is own same pin acts = elim acts [
  | inl fails ↦ absurd (never_fails engine seats after world b fails.2)
  | inr answers ↦
      (let map : engine.map_before held.pin ≡ Some (get_or world.maps held.pin.n []) = pin.map in
      let read : answers.0 ≡ slice_index (page_at (get_or world.maps held.pin.n []) page) 0 =
      subst (λ (found : Option PageMap). IfSome found (λ (pages : PageMap). answers.0 ≡ slice_index (page_at pages page) 0)) map answers.2 in
      let shown : slice_index (run.shown world transaction page) 0 ≡ slice_index (page_at (get_or world.maps held.pin.n []) page) 0 =
      ap (λ (image : Option (List ℕ)). slice_index (unwrap_or image (page_at (map_number world transaction.snap) page)) 0) own
      ∙ ap (λ (n : ℕ). slice_index (page_at (get_or world.maps n []) page) 0) same.snap in
      let reads : run.reads_with transaction page ≡ with_page transaction.reads page = rw own refl in (
        answers.1 ∙ ap reply.Byte (read ∙ sym shown),
        turn engine seats after world (run.read world s transaction page).world s _ _ b answers.3
            (tells_quiet engine seats after world b answers.4) (extends_same world.maps) (
              record {
                snap = same.snap;
                reads = reads ∙ ap (λ (pages : List ℕ). with_page pages page) same.reads;
                changed = same.changed;
                said = ap (λ (said : List (List ℕ)). said ++ read_text page ∷ []) same.said;
                wrote = same.wrote;
              },
              pin_stays engine seats after world s _ (seat.Open held) held.pin b is answers.3 (0, omega arith, refl) (0, omega arith, refl) pin,
            )
            (λ other. refl) (λ other. refl),
      ))
]

-- READ
pub read_acts : (engine : Between) (seats after : List Seat) (world : World) (s page : ℕ) (told : Told) (state : State) (session : SessionState)
    → Stands engine seats after world → seat_state seats s ≡ state → Matches engine.map_before world.maps state session
    → ReadActs engine s page seats after told state → Leads engine after told (read_step world s page session)
read_acts engine seats after world s page told seat.Out run.Out b is matches acts =
    rests engine seats after world reply.NoTransaction told b acts
read_acts engine seats after world s page told (seat.Open held) (run.Open transaction) b is matches acts =
    read_open engine seats after world s page told held transaction (image_of held.changed page) b is
    (ap (λ (images : List PageImage). image_of images page) matches.0.changed) matches.0 matches.1 acts
read_acts engine seats after world s page told (seat.Refused pin) (run.Refused transaction) b is matches acts =
    rests engine seats after world reply.MustRollBack told b acts
read_acts engine seats after world s page told seat.Out (run.Open transaction) b is matches acts = absurd matches
read_acts engine seats after world s page told seat.Out (run.Refused transaction) b is matches acts = absurd matches
read_acts engine seats after world s page told (seat.Open held) run.Out b is matches acts = absurd matches
read_acts engine seats after world s page told (seat.Open held) (run.Refused transaction) b is matches acts = absurd matches
read_acts engine seats after world s page told (seat.Refused pin) run.Out b is matches acts = absurd matches
read_acts engine seats after world s page told (seat.Refused pin) (run.Open transaction) b is matches acts = absurd matches

-- WRITE
pub write_acts : (engine : Between) (seats after : List Seat) (world : World) (s page byte : ℕ) (told : Told) (state : State)
    (session : SessionState) → Stands engine seats after world → seat_state seats s ≡ state
    → Matches engine.map_before world.maps state session
    → WriteActs engine s page byte seats after told state → Leads engine after told (write_step world s page byte session)
write_acts engine seats after world s page byte told seat.Out run.Out b is matches acts =
    rests engine seats after world reply.NoTransaction told b acts
write_acts engine seats after world s page byte told (seat.Open held) (run.Open transaction) b is matches acts =
    let same = matches.0 in
    let changed : with_image transaction.changed page (replicate (page_size_of (newest_map world)) byte)
    ≡ with_image held.changed page (replicate engine.old.page_size byte) =
    ap (λ (images : List PageImage). with_image images page (replicate (page_size_of (newest_map world)) byte)) same.changed
    ∙ ap (λ (size : ℕ). with_image held.changed page (replicate size byte)) (sym b.stands.tells.page_size) in (
      acts.0,
      turn engine seats after world (run.write world s transaction page byte).world s _ _ b acts.1
          (tells_same engine seats after world b acts.2) (extends_same world.maps) (
            record {
              snap = same.snap;
              reads = same.reads;
              changed = changed;
              said = ap (λ (said : List (List ℕ)). said ++ write_text page byte ∷ []) same.said;
              wrote = refl;
            },
            pin_stays engine seats after world s _ (seat.Open held) held.pin b is acts.1 (0, omega arith, refl) (0, omega arith, refl) matches.1,
          )
          (λ other. refl) (λ other. refl),
    )
write_acts engine seats after world s page byte told (seat.Refused pin) (run.Refused transaction) b is matches acts =
    rests engine seats after world reply.MustRollBack told b acts
write_acts engine seats after world s page byte told seat.Out (run.Open transaction) b is matches acts = absurd matches
write_acts engine seats after world s page byte told seat.Out (run.Refused transaction) b is matches acts = absurd matches
write_acts engine seats after world s page byte told (seat.Open held) run.Out b is matches acts = absurd matches
write_acts engine seats after world s page byte told (seat.Open held) (run.Refused transaction) b is matches acts = absurd matches
write_acts engine seats after world s page byte told (seat.Refused pin) run.Out b is matches acts = absurd matches
write_acts engine seats after world s page byte told (seat.Refused pin) (run.Open transaction) b is matches acts = absurd matches

-- ROLLBACK
pub rollback_acts : (engine : Between) (seats after : List Seat) (world : World) (s : ℕ) (told : Told) (state : State) (session : SessionState)
    → Stands engine seats after world → Matches engine.map_before world.maps state session
    → RollbackActs engine s seats after told state → Leads engine after told (rollback_step world s session)
rollback_acts engine seats after world s told seat.Out run.Out b matches acts =
    rests engine seats after world reply.NoTransaction told b acts
rollback_acts engine seats after world s told (seat.Open held) (run.Open transaction) b matches acts = (
  acts.0,
  turn engine seats after world (moved world s run.Out reply.Ok).world s seat.Out run.Out b acts.1
      (tells_ended engine seats after world held.pin b acts.2) (extends_same world.maps) tt (λ other. refl) (λ other. refl),
)
rollback_acts engine seats after world s told (seat.Refused pin) (run.Refused transaction) b matches acts = (
  acts.0,
  turn engine seats after world (moved world s run.Out reply.Ok).world s seat.Out run.Out b acts.1
      (tells_ended engine seats after world pin b acts.2) (extends_same world.maps) tt (λ other. refl) (λ other. refl),
)
rollback_acts engine seats after world s told seat.Out (run.Open transaction) b matches acts = absurd matches
rollback_acts engine seats after world s told seat.Out (run.Refused transaction) b matches acts = absurd matches
rollback_acts engine seats after world s told (seat.Open held) run.Out b matches acts = absurd matches
rollback_acts engine seats after world s told (seat.Open held) (run.Refused transaction) b matches acts = absurd matches
rollback_acts engine seats after world s told (seat.Refused pin) run.Out b matches acts = absurd matches
rollback_acts engine seats after world s told (seat.Refused pin) (run.Open transaction) b matches acts = absurd matches

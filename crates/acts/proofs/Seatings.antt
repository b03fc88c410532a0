-- What an act on one seat means for the list of seats and the pins in it.
use Rattle.std.proofs.Common.{◌≡◌, ℕ, ◌<◌, List, [], ◌∷◌, ◌++◌, length, set, get_or, take, drop, eqb, Some, None, Result, Ok, Err, suc, refl, sym, subst, ap, ◌∙◌, append_assoc}
use Rattle.std.specs.Prelude.{Contains, IfOk}
use Rattle.std.specs.List.{position}
use Rattle.std.specs.declared.alloc.AllocError.{AllocError}
use Rattle.std.proofs.lemmas.List.{set-get_or, set_split, set_at, append-nil, get_or_default}
use Rattle.std.proofs.Math.Seq.{get_or-append_seam}
use Rattle.std.proofs.lemmas.List.Concat.{flat_map-append}
use Rattle.std.proofs.lemmas.List.Elements.{Contains-append_left, Contains-append_right}
use Rattle.engine_spec.specs.declared.pins.Pin.{Pin}
use Rattle.page_lines.specs.declared.lines.Told.{Told}
use Rattle.page_lines.specs.declared.lines.Told.TheVariants as reply
use Rattle.disk_face.specs.Faults.{one_more}
use Rattle.page_face.specs.declared.engine_tells.EngineTells.{Ghosts}
use Rattle.acts.specs.declared.seats.Seat.{Seat}
use Rattle.acts.specs.declared.seats.State.{State}
use Rattle.acts.specs.declared.seats.State.TheVariants.{Out, Open, Refused}
use Rattle.acts.specs.declared.turns.Deed.{Deed}
use Rattle.acts.specs.declared.turns.Deed.TheVariants.{Read, Write, Commit, Rollback}
use Rattle.acts.specs.Pagers.{Between, Acts, BeginActs, ReadActs, WriteActs, CommitActs, RollbackActs, seat_state, begun_of, with_seat, pins_in, pins_of, new_transaction}
use Rattle.acts.specs.Turns.{act_of, Moves, AllLive, SwapsPins, SeatHasBegun, IsBegun}
use Rattle.acts.proofs.Places.{IsSeated, seated, unseated}

-- the pins of all sessions, once one seat is another
pins_set : (seats : List Seat) (at : ℕ) (new : Seat) → at < length seats
    → pins_of (set seats at new) ≡ pins_of (take at seats) ++ (pins_in new.state ++ pins_of (drop (suc at) seats))
pins_set seats at new within =
    ap pins_of (set_split seats at new within) ∙ flat_map-append (λ (seat : Seat). pins_in seat.state) (take at seats) (new ∷ drop (suc at) seats)

-- and as they were
pins_split : (seats : List Seat) (at : ℕ) (seat : Seat) → at < length seats → seat ≡ get_or seats at seat
    → pins_of seats ≡ pins_of (take at seats) ++ (pins_in seat.state ++ pins_of (drop (suc at) seats))
pins_split seats at seat within item =
    ap pins_of (sym (set-get_or seats at seat) ∙ ap (λ (one : Seat). set seats at one) (sym item)) ∙ pins_set seats at seat within

-- the pins of a session's transaction hold where those of all do
pub live_there : {E : Type 0} (live : E → List Pin → Type 0) (engine : E) (seats : List Seat) (session at : ℕ) (seat : Seat)
    → position (λ seat. eqb seat.session session) seats ≡ Some at → seat ≡ get_or seats at seat
    → (others : List Pin) × live engine (pins_of seats ++ others) → AllLive live engine (pins_in seat.state)
live_there live engine seats session at seat found item lives = λ k d within.
    (let place = seated seats session at found in
    let pin = get_or (pins_in seat.state) k d in
    let here : Contains (pins_in seat.state) pin = (k, within, get_or_default (pins_in seat.state) k pin d within) in (
      pins_of seats ++ lives.0,
      lives.1,
      Contains-append_left (pins_of seats) lives.0 pin
          (subst (λ (pins : List Pin). Contains pins pin) (sym (pins_split seats at seat place.within item))
          (Contains-append_right (pins_of (take at seats)) (pins_in seat.state ++ pins_of (drop (suc at) seats)) pin
          (Contains-append_left (pins_in seat.state) (pins_of (drop (suc at) seats)) pin here))),
    ))

-- a session without a seat is in no transaction
pub none_acts : (engine : Between) (seats : List Seat) (session : ℕ) (deed : Deed) → position (λ seat. eqb seat.session session) seats ≡ None
    → engine.new ≡ engine.old → Acts engine seats (act_of session deed) reply.NoTransaction seats
none_acts engine seats session (Read page) none same =
    subst (λ (state : State). ReadActs engine session page seats seats reply.NoTransaction state) (sym (unseated seats session none).state) (refl, refl, same)
none_acts engine seats session (Write page byte) none same =
    subst (λ (state : State). WriteActs engine session page byte seats seats reply.NoTransaction state) (sym (unseated seats session none).state) (refl, refl, same)
none_acts engine seats session Commit none same =
    subst (λ (state : State). CommitActs engine session seats seats reply.NoTransaction state) (sym (unseated seats session none).state) (refl, refl, same)
none_acts engine seats session Rollback none same =
    subst (λ (state : State). RollbackActs engine session seats seats reply.NoTransaction state) (sym (unseated seats session none).state) (refl, refl, same)

-- a seat's parts
seat_is : (new : Seat) (session begun : ℕ) (state : State) → new.session ≡ session → new.begun ≡ begun → new.state ≡ state
    → new ≡ record { session = session; begun = begun; state = state }
seat_is new session begun state one two three =
    ap (λ (k : ℕ). (let seat : Seat = record { session = k; begun = new.begun; state = new.state } in seat)) one
    ∙ (ap (λ (k : ℕ). (let seat : Seat = record { session = session; begun = k; state = new.state } in seat)) two
    ∙ ap (λ (s : State). (let seat : Seat = record { session = session; begun = begun; state = s } in seat)) three)

-- a session moved where its seat is another
moves_there : (seats : List Seat) (session at : ℕ) (seat new : Seat) → IsSeated seats session at → seat ≡ get_or seats at seat
    → new.session ≡ seat.session → new.begun ≡ seat.begun → seat.session ≡ session
    → Moves seats seat.session seat.begun seat.state new.state (set seats at new)
moves_there seats session at seat new place item same_session same_begun is = record {
  state = ap (seat_state seats) is ∙ (place.state seat ∙ ap (λ (one : Seat). one.state) (sym item));
  begun = begun_is;
  put = ap (set seats at) (seat_is new seat.session (begun_of seats seat.session) new.state same_session (same_begun ∙ sym begun_is) refl)
      ∙ sym (place.put (record { session = seat.session; begun = begun_of seats seat.session; state = new.state }) is);
  rests = λ e. ap (set seats at) (seat_is new seat.session seat.begun seat.state same_session same_begun e)
      ∙ (ap (set seats at) item ∙ set-get_or seats at seat);
}
  where
    begun_is : begun_of seats seat.session ≡ seat.begun
    begun_is = ap (begun_of seats) is ∙ (place.begun seat ∙ ap (λ (one : Seat). one.begun) (sym item))

-- what a seat's turn was answered is what the act is answered
pub seat_acts : (engine : Between) (told : Result Told AllocError) (seats : List Seat) (session at : ℕ) (seat new : Seat) (deed : Deed)
    → position (λ seat. eqb seat.session session) seats ≡ Some at → seat ≡ get_or seats at seat
    → new.session ≡ seat.session → new.begun ≡ seat.begun
    → IfOk told (λ told. (before after : List Seat) → Moves before seat.session seat.begun seat.state new.state after
    → Acts engine before (act_of seat.session deed) told after)
    → IfOk told (λ told. Acts engine seats (act_of session deed) told (set seats at new))
seat_acts engine (Err why) seats session at seat new deed found item same_session same_begun acts = tt
seat_acts engine (Ok told) seats session at seat new deed found item same_session same_begun acts =
    let place = seated seats session at found in
    let is : seat.session ≡ session = ap (λ (one : Seat). one.session) item ∙ place.session_is seat in
    subst (λ (k : ℕ). Acts engine seats (act_of k deed) told (set seats at new)) is
    (acts seats (set seats at new) (moves_there seats session at seat new place item same_session same_begun is))

-- pins among others
regroup : (front before pins after back : List Pin) → front ++ ((before ++ (pins ++ after)) ++ back) ≡ (front ++ before) ++ (pins ++ (after ++ back))
regroup front before pins after back = simp append_assoc

-- What stays of an engine where some pins became others, stays where they stand among others.
pub wider : {E M : Type 0} (told : Ghosts E M) (old : E) (olds : List Pin) (new : E) (news : List Pin)
    (before after : List Pin) → SwapsPins told old olds new news
    → SwapsPins told old (before ++ (olds ++ after)) new (before ++ (news ++ after))
wider told old olds new news before after stays = record {
  holds = λ front back lives. subst (told.live new) (sym (regroup front before news after back))
      (stays.holds (front ++ before) (after ++ back) (subst (told.live old) (regroup front before olds after back) lives));
  maps = λ front back pin lives was is. stays.maps (front ++ before) (after ++ back) pin
      (subst (told.live old) (regroup front before olds after back) lives)
      (subst (λ (pins : List Pin). Contains pins pin) (regroup front before olds after back) was)
      (subst (λ (pins : List Pin). Contains pins pin) (regroup front before news after back) is);
  runs = stays.runs;
  opened = stays.opened;
  loans = stays.loans;
  always_begins = stays.always_begins;
  alone = stays.alone;
  pages = stays.pages;
  page_size = stays.page_size;
}

-- where one seat became another
pub seat_stays : {E M : Type 0} (told : Ghosts E M) (old new : E) (seats : List Seat) (session at : ℕ) (seat turned : Seat)
    → position (λ seat. eqb seat.session session) seats ≡ Some at → seat ≡ get_or seats at seat
    → SwapsPins told old (pins_in seat.state) new (pins_in turned.state)
    → SwapsPins told old (pins_of seats) new (pins_of (set seats at turned))
seat_stays told old new seats session at seat turned found item stays =
    let place = seated seats session at found in
    subst (λ (pins : List Pin). SwapsPins told old pins new (pins_of (set seats at turned)))
    (sym (pins_split seats at seat place.within item))
    (subst (λ (pins : List Pin). SwapsPins told old
    (pins_of (take at seats) ++ (pins_in seat.state ++ pins_of (drop (suc at) seats))) new pins)
    (sym (pins_set seats at turned place.within))
    (wider told old (pins_in seat.state) new (pins_in turned.state)
    (pins_of (take at seats)) (pins_of (drop (suc at) seats)) stays))

-- where a seat was put at the end
pub new_stays : {E M : Type 0} (told : Ghosts E M) (old new : E) (seats : List Seat) (turned : Seat)
    → SwapsPins told old [] new (pins_in turned.state)
    → SwapsPins told old (pins_of seats) new (pins_of (seats ++ turned ∷ []))
new_stays told old new seats turned stays =
    subst (λ (pins : List Pin). SwapsPins told old pins new (pins_of (seats ++ turned ∷ [])))
    (append-nil (pins_of seats))
    (subst (λ (pins : List Pin). SwapsPins told old (pins_of seats ++ []) new pins)
    (sym (flat_map-append (λ (seat : Seat). pins_in seat.state) seats (turned ∷ [])))
    (wider told old [] new (pins_in turned.state) (pins_of seats) [] stays))

-- BEGIN of a session that has a seat, as an act
pub begin_acts : (engine : Between) (seats : List Seat) (session at : ℕ) (seat new : Seat) (told : Told)
    → position (λ seat. eqb seat.session session) seats ≡ Some at → seat ≡ get_or seats at seat
    → IsBegun engine seat new told seat.state → BeginActs engine session seats (set seats at new) told (seat_state seats session)
begin_acts engine seats session at seat new told found item begun =
    subst (λ (state : State). BeginActs engine session seats (set seats at new) told state)
    (sym (place.state seat ∙ ap (λ (one : Seat). one.state) (sym item))) (by_state seat.state begun)
  where
    place : IsSeated seats session at
    place = seated seats session at found

    is : seat.session ≡ session
    is = ap (λ (one : Seat). one.session) item ∙ place.session_is seat

    begun_is : begun_of seats session ≡ seat.begun
    begun_is = place.begun seat ∙ ap (λ (one : Seat). one.begun) (sym item)

    stands : new ≡ seat → set seats at new ≡ seats
    stands same = ap (set seats at) (same ∙ item) ∙ set-get_or seats at seat

    begun_seat : Pin → Seat
    begun_seat pin = record { session = session; begun = one_more (begun_of seats session); state = Open (new_transaction pin) }

    put : (pin : Pin) → new ≡ record { session = seat.session; begun = one_more seat.begun; state = Open (new_transaction pin) }
        → set seats at new ≡ with_seat seats (record {
          session = session;
          begun = one_more (begun_of seats session);
          state = Open (new_transaction pin);
        })
    put pin made =
        ap (set seats at) (made ∙ seat_is (record { session = seat.session; begun = one_more seat.begun; state = Open (new_transaction pin) })
        session (one_more (begun_of seats session)) (Open (new_transaction pin)) is (ap one_more (sym begun_is)) refl)
        ∙ sym (place.put (record { session = session; begun = one_more (begun_of seats session); state = Open (new_transaction pin) }) refl)

    by_state : (state : State) → IsBegun engine seat new told state → BeginActs engine session seats (set seats at new) told state
    by_state Out began = (began.0, (began.1.0, began.1.1, put began.1.0 began.1.2))
    by_state (Open transaction) began = (began.0, stands began.1, began.2)
    by_state (Refused pin) began = (began.0, stands began.1, began.2)

-- BEGIN of a session that has none
pub new_acts : (engine : Between) (seats : List Seat) (session : ℕ) (seat new : Seat)
    → position (λ seat. eqb seat.session session) seats ≡ None → seat ≡ record { session = session; begun = 0; state = Out }
    → SeatHasBegun engine seat new → BeginActs engine session seats (seats ++ new ∷ []) reply.Ok (seat_state seats session)
new_acts engine seats session seat new none blank (pin, found, made) =
    let place = unseated seats session none in
    subst (λ (state : State). BeginActs engine session seats (seats ++ new ∷ []) reply.Ok state) (sym place.state) (
      refl,
      (
        pin,
        found,
        ap (λ (one : Seat). seats ++ one ∷ []) (made ∙ seat_is (record { session = seat.session; begun = one_more seat.begun; state = Open (new_transaction pin) })
            session (one_more (begun_of seats session)) (Open (new_transaction pin)) (ap (λ (one : Seat). one.session) blank)
            (ap one_more (ap (λ (one : Seat). one.begun) blank ∙ sym place.begun)) refl)
            ∙ sym (place.put (record { session = session; begun = one_more (begun_of seats session); state = Open (new_transaction pin) }) refl),
      ),
    )

-- the seat that was put at the end
pushed_item : (seats pushed : List Seat) (at : ℕ) (blank seat : Seat) → pushed ≡ seats ++ blank ∷ [] → length seats ≡ at
    → seat ≡ get_or pushed at seat → seat ≡ blank
pushed_item seats pushed at blank seat is last item =
    item ∙ (ap (λ (list : List Seat). get_or list at seat) is
    ∙ (ap (λ (k : ℕ). get_or (seats ++ blank ∷ []) k seat) (sym last) ∙ get_or-append_seam seats blank [] seat))

-- and another in its place
pushed_set : (seats pushed : List Seat) (at : ℕ) (blank new : Seat) → pushed ≡ seats ++ blank ∷ [] → length seats ≡ at
    → set pushed at new ≡ seats ++ new ∷ []
pushed_set seats pushed at blank new is last = ap (λ (list : List Seat). set list at new) is ∙ set_at seats blank [] new at last

-- BEGIN of a session whose seat was put at the end first
pub pushed_acts : (engine : Between) (seats pushed : List Seat) (session at : ℕ) (seat new : Seat)
    → position (λ seat. eqb seat.session session) seats ≡ None
    → pushed ≡ seats ++ record { session = session; begun = 0; state = Out } ∷ [] → length seats ≡ at
    → seat ≡ get_or pushed at seat → SeatHasBegun engine seat new
    → BeginActs engine session seats (set pushed at new) reply.Ok (seat_state seats session)
pushed_acts engine seats pushed session at seat new none is last item begun =
    subst (λ (after : List Seat). BeginActs engine session seats after reply.Ok (seat_state seats session))
    (sym (pushed_set seats pushed at (record { session = session; begun = 0; state = Out }) new is last))
    (new_acts engine seats session seat new none
    (pushed_item seats pushed at (record { session = session; begun = 0; state = Out }) seat is last item) begun)

pub pushed_stays : {E M : Type 0} (told : Ghosts E M) (old new : E) (seats pushed : List Seat) (at : ℕ)
    (blank turned : Seat) → pushed ≡ seats ++ blank ∷ [] → length seats ≡ at
    → SwapsPins told old [] new (pins_in turned.state)
    → SwapsPins told old (pins_of seats) new (pins_of (set pushed at turned))
pushed_stays told old new seats pushed at blank turned is last stays =
    subst (λ (after : List Seat). SwapsPins told old (pins_of seats) new (pins_of after))
    (sym (pushed_set seats pushed at blank turned is last))
    (new_stays told old new seats turned stays)

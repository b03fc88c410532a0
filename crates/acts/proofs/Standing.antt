-- An engine under its sessions stands at a world: what keeps it there.
use Rattle.std.proofs.Common.{◌≡◌, ◌∙◌, ℕ, Bool, true, cond, List, refl, sym, ap, subst, inl, inr, arith, eq-eqb}
use Rattle.std.specs.Prelude.{◌⊎◌, Option, None, Contains}
use Rattle.std.proofs.lemmas.Bool.{cases_eq, ne_eqb}
use Rattle.disk_face.specs.Faults.{Rose}
use Rattle.page_spec.specs.PageMap.{PageMap}
use Rattle.engine_spec.specs.declared.pins.Pin.{Pin}
use Rattle.page_lines.specs.declared.lines.Act.{Act}
use Rattle.page_lines.specs.declared.lines.Told.{Told}
use Rattle.engine_spec.specs.State.{EngineState, During}
use Rattle.engine_spec.specs.TwoLogs.{one_fewer}
use Rattle.engine_spec.specs.Events.{Ends, FailsAlone, FailsInStep}
use Rattle.page_lines.specs.World.{World, SessionState, Outcome, changed_at, map_number, newest_map, step, begin_step, read_step, write_step, commit_step, rollback_step, commit, committed, moved, decided, change_of, handed_in}
use Rattle.page_lines.specs.World as run
use Rattle.acts.specs.declared.seats.Seat.{Seat}
use Rattle.acts.specs.declared.seats.State.{State}
use Rattle.acts.specs.declared.seats.State.TheVariants as seat
use Rattle.acts.specs.Pagers.{Between, Same, AreSound, seat_state, begun_of, with_seat, pins_in, pins_of}
use Rattle.acts.specs.Playing.{IsOfSession, HasNoLimit}
use Rattle.acts.specs.Standing.{TellsMaps, PinStands, Matches, StandsAt}
use Rattle.acts.proofs.SeatLaws.{seat_state-same, seat_state-other, begun_of-same, begun_of-other, pin_there}
use Rattle.acts.proofs.Telling.{Extends, extends_same, pin_keeps, tells_readers}

-- What an act finds: an engine that is alone and stands at the world, whose disk doesn't fail meanwhile, and which keeps the maps
-- of pins.
pub record Stands (engine : Between) (seats after : List Seat) (world : World) : Type 0 where
  pub alone : engine.old.alone ≡ true
  pub stands : StandsAt engine.old engine.map_before seats world
  pub sound : AreSound engine.old.page_size seats
  pub quiet : Rose engine.old.faults engine.new.faults → ⊥
  pub maps : (pin : Pin) → Contains (pins_of after) pin → Contains (pins_of seats) pin → engine.map_after pin ≡ engine.map_before pin

-- there are no logs, or else the act is of a session and met no limit
abbrev pub MindsNoLogs : EngineState → Act → Told → Type 0
MindsNoLogs seen one told = (seen.logs ≡ None) ⊎ (IsOfSession one × HasNoLimit told)

-- what an act leads to: the answer of the world, and an engine that stands at the world after it
abbrev pub Leads : Between → List Seat → Told → Outcome → Type 0
Leads engine after told outcome = (told ≡ outcome.told) × StandsAt engine.new engine.map_after after outcome.world

-- a session stands as before where its pin's map is as before
pub matches_keep : (map_before map_after : Pin → Option PageMap) (maps after : List PageMap) (state : State) (session : SessionState)
    → Extends maps after → ((pin : Pin) → Contains (pins_in state) pin → map_after pin ≡ map_before pin)
    → Matches map_before maps state session → Matches map_after after state session
matches_keep map_before map_after maps after seat.Out run.Out extends same matches = tt
matches_keep map_before map_after maps after (seat.Open held) (run.Open transaction) extends same matches =
    (matches.0, pin_keeps map_before map_after maps after held.pin extends (same held.pin (0, omega arith, refl)) matches.1)
matches_keep map_before map_after maps after (seat.Refused pin) (run.Refused transaction) extends same matches =
    (matches.0, pin_keeps map_before map_after maps after pin extends (same pin (0, omega arith, refl)) matches.1)
matches_keep map_before map_after maps after seat.Out (run.Open transaction) extends same matches = absurd matches
matches_keep map_before map_after maps after seat.Out (run.Refused transaction) extends same matches = absurd matches
matches_keep map_before map_after maps after (seat.Open held) run.Out extends same matches = absurd matches
matches_keep map_before map_after maps after (seat.Open held) (run.Refused transaction) extends same matches = absurd matches
matches_keep map_before map_after maps after (seat.Refused pin) run.Out extends same matches = absurd matches
matches_keep map_before map_after maps after (seat.Refused pin) (run.Open transaction) extends same matches = absurd matches

-- where no session moves, the engine stands at the world as before
pub stay : (engine : Between) (seats after : List Seat) (world : World) → Stands engine seats after world → after ≡ seats
    → TellsMaps engine.new world.maps world.history → StandsAt engine.new engine.map_after after world
stay engine seats after world b same tells = record {
  tells = tells;
  sessions = λ s.
      let there : seat_state after s ≡ seat_state seats s = ap (λ (list : List Seat). seat_state list s) same in
      let maps : (pin : Pin) → Contains (pins_in (seat_state seats s)) pin → engine.map_after pin ≡ engine.map_before pin = λ pin held.
      let old : Contains (pins_of seats) pin = pin_there seats s pin held in
      b.maps pin (subst (λ (list : List Seat). Contains (pins_of list) pin) (sym same) old) old in
      subst (λ (state : State). Matches engine.map_after world.maps state (world.sessions s)) (sym there)
      (matches_keep engine.map_before engine.map_after world.maps world.maps (seat_state seats s) (world.sessions s)
      (extends_same world.maps) maps (b.stands.sessions s));
  begun = λ s. b.stands.begun s ∙ ap (λ (list : List Seat). begun_of list s) (sym same);
}

-- where one session moves, the engine stands at the world in which it does
pub move : (engine : Between) (seats after : List Seat) (world next : World) (one : Seat) (session : SessionState)
    → Stands engine seats after world → after ≡ with_seat seats one → TellsMaps engine.new next.maps next.history
    → Extends world.maps next.maps → Matches engine.map_after next.maps one.state session
    → ((s : ℕ) → next.sessions s ≡ changed_at world.sessions one.session session s)
    → next.begun one.session ≡ one.begun → ((s : ℕ) → (one.session ≡ s → ⊥) → next.begun s ≡ world.begun s)
    → StandsAt engine.new engine.map_after after next
move engine seats after world next one session b same tells extends matches sessions begun others = record {
  tells = tells;
  sessions = λ s. elim (cases_eq one.session s) [
    | inl is ↦
        (let state : seat_state after s ≡ one.state =
        ap (λ (list : List Seat). seat_state list s) same ∙ ap (seat_state (with_seat seats one)) (sym is) ∙ seat_state-same seats one in
        let moved : next.sessions s ≡ session =
        sessions s ∙ ap (λ (test : Bool). cond test session (world.sessions s)) (eq-eqb s one.session (sym is)) in
        subst (λ (x : State). Matches engine.map_after next.maps x (next.sessions s)) (sym state)
        (subst (Matches engine.map_after next.maps one.state) (sym moved) matches))
    | inr apart ↦
        (let put : seat_state (with_seat seats one) s ≡ seat_state seats s = seat_state-other seats one s apart in
        let state : seat_state after s ≡ seat_state seats s = ap (λ (list : List Seat). seat_state list s) same ∙ put in
        let kept : next.sessions s ≡ world.sessions s =
        sessions s ∙ ap (λ (test : Bool). cond test session (world.sessions s)) (ne_eqb s one.session (λ e. apart (sym e))) in
        let maps : (pin : Pin) → Contains (pins_in (seat_state seats s)) pin → engine.map_after pin ≡ engine.map_before pin = λ pin held.
        b.maps pin (pin_there after s pin (subst (λ (x : State). Contains (pins_in x) pin) (sym state) held))
        (pin_there seats s pin held) in
        subst (λ (x : State). Matches engine.map_after next.maps x (next.sessions s)) (sym state)
        (subst (Matches engine.map_after next.maps (seat_state seats s)) (sym kept)
        (matches_keep engine.map_before engine.map_after world.maps next.maps (seat_state seats s) (world.sessions s)
        extends maps (b.stands.sessions s))))
  ];
  begun = λ s. elim (cases_eq one.session s) [
    | inl is ↦
        ap next.begun (sym is) ∙ begun ∙ sym (begun_of-same seats one) ∙ ap (begun_of (with_seat seats one)) is
        ∙ ap (λ (list : List Seat). begun_of list s) (sym same)
    | inr apart ↦
        others s apart ∙ b.stands.begun s ∙ sym (begun_of-other seats one s apart) ∙ ap (λ (list : List Seat). begun_of list s) (sym same)
  ];
}

-- the same where the session begins nothing
pub turn : (engine : Between) (seats after : List Seat) (world next : World) (s : ℕ) (state : State) (session : SessionState)
    → Stands engine seats after world
    → after ≡ with_seat seats (record { session = s; begun = begun_of seats s; state = state })
    → TellsMaps engine.new next.maps next.history → Extends world.maps next.maps → Matches engine.map_after next.maps state session
    → ((other : ℕ) → next.sessions other ≡ changed_at world.sessions s session other)
    → ((other : ℕ) → next.begun other ≡ world.begun other)
    → StandsAt engine.new engine.map_after after next
turn engine seats after world next s state session b same tells extends matches sessions begun =
    move engine seats after world next (record { session = s; begun = begun_of seats s; state = state }) session b same tells extends matches
    sessions (begun s ∙ b.stands.begun s) (λ other apart. begun other)

-- an engine that didn't change tells what it told
pub tells_same : (engine : Between) (seats after : List Seat) (world : World) → Stands engine seats after world → engine.new ≡ engine.old
    → TellsMaps engine.new world.maps world.history
tells_same engine seats after world b same =
    subst (λ (s : EngineState). TellsMaps s world.maps world.history) (sym same) b.stands.tells

-- an answer that changes nothing
pub rests : (engine : Between) (seats after : List Seat) (world : World) (answer told : Told) → Stands engine seats after world
    → Same engine seats after answer told → Leads engine after told (run.same world answer)
rests engine seats after world answer told b same =
    (same.0, stay engine seats after world b same.1 (tells_same engine seats after world b same.2))

-- the pin of a session that stays in its transaction stands
pub pin_stays : (engine : Between) (seats after : List Seat) (world : World) (s : ℕ) (state before : State) (pin : Pin)
    → Stands engine seats after world → seat_state seats s ≡ before
    → after ≡ with_seat seats (record { session = s; begun = begun_of seats s; state = state })
    → Contains (pins_in before) pin → Contains (pins_in state) pin
    → PinStands engine.map_before world.maps pin → PinStands engine.map_after world.maps pin
pin_stays engine seats after world s state before pin b is same old new stands =
    let one : Seat = record { session = s; begun = begun_of seats s; state = state } in
    let there : seat_state after s ≡ state =
    ap (λ (list : List Seat). seat_state list s) same ∙ seat_state-same seats one in
    pin_keeps engine.map_before engine.map_after world.maps world.maps pin (extends_same world.maps)
    (b.maps pin (pin_there after s pin (subst (λ (x : State). Contains (pins_in x) pin) (sym there) new))
    (pin_there seats s pin (subst (λ (x : State). Contains (pins_in x) pin) (sym is) old)))
    stands

-- where nothing changed, all stays as told
pub tells_quiet : (engine : Between) (seats after : List Seat) (world : World) → Stands engine seats after world
    → During engine.old (λ mid. engine.new ≡ mid) → TellsMaps engine.new world.maps world.history
tells_quiet engine seats after world b found = tells_same engine seats after world b (found.2 ∙ found.1.nobody b.alone)

-- the disk doesn't fail
pub never_fails : (engine : Between) (seats after : List Seat) (world : World) → Stands engine seats after world
    → During engine.old (λ mid. FailsAlone mid engine.new) → ⊥
never_fails engine seats after world b found =
    b.quiet (subst (λ (mid : EngineState). Rose mid.faults engine.new.faults) (found.1.nobody b.alone) found.2.0)

-- neither in a step of a checkpoint
pub never_steps : (engine : Between) (seats after : List Seat) (world : World) → Stands engine seats after world
    → During engine.old (λ mid. FailsInStep engine.opened mid engine.new) → ⊥
never_steps engine seats after world b found =
    b.quiet (subst (λ (mid : EngineState). Rose mid.faults engine.new.faults) (found.1.nobody b.alone) found.2.rose)

-- what the engine tells once a pin was given back
pub tells_ended : (engine : Between) (seats after : List Seat) (world : World) (pin : Pin) → Stands engine seats after world
    → Ends engine.old pin engine.new → TellsMaps engine.new world.maps world.history
tells_ended engine seats after world pin b ends =
    tells_readers engine.old engine.new world.maps world.history one_fewer pin.lock ends b.stands.tells

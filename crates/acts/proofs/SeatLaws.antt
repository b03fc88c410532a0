-- Laws of a list of seats: how a session stands after one is put.
use Rattle.std.proofs.Common.{◌≡◌, ◌∙◌, ℕ, Bool, true, false, cond, eqb, List, [], ◌∷◌, refl, sym, ap, subst, inl, inr, eq-eqb}
use Rattle.std.specs.Prelude.{Contains, Option, Some, unwrap_or}
use Rattle.std.proofs.lemmas.Bool.{cases_eq, ne_eqb}
use Rattle.std.proofs.lemmas.List.Elements.{All-head, All-tail, Contains-append_left, Contains-append_right}
use Rattle.engine_spec.specs.declared.pins.Pin.{Pin}
use Rattle.page_lines.specs.declared.lines.Told.{Told}
use Rattle.acts.specs.declared.seats.Seat.{Seat}
use Rattle.acts.specs.declared.seats.State.{State}
use Rattle.acts.specs.declared.seats.State.TheVariants.{Open}
use Rattle.acts.specs.declared.seats.Transaction.{Transaction}
use Rattle.acts.specs.Pagers.{seat_state, begun_of, with_seat, with_state, pins_in, pins_of, IsSoundState, AreSound}

-- a session stands as the seat says that is put for it
pub seat_state-same : (seats : List Seat) (seat : Seat) → seat_state (with_seat seats seat) seat.session ≡ seat.state
seat_state-same [] seat = rw (eq-eqb seat.session seat.session refl) refl
seat_state-same (first ∷ seats) seat = elim (cases_eq first.session seat.session) [
  | inl same ↦ rw (eq-eqb first.session seat.session same, eq-eqb seat.session seat.session refl) refl
  | inr apart ↦ rw (ne_eqb first.session seat.session apart, ne_eqb first.session seat.session apart) (seat_state-same seats seat)
]

-- and the others stand as before
pub seat_state-other : (seats : List Seat) (seat : Seat) (session : ℕ) → (seat.session ≡ session → ⊥)
    → seat_state (with_seat seats seat) session ≡ seat_state seats session
seat_state-other [] seat session apart = rw (ne_eqb seat.session session apart) refl
seat_state-other (first ∷ seats) seat session apart = elim (cases_eq first.session seat.session) [
  | inl same ↦
      (let differs : first.session ≡ session → ⊥ = λ e. apart (sym same ∙ e) in
      rw (eq-eqb first.session seat.session same, ne_eqb seat.session session apart, ne_eqb first.session session differs) refl)
  | inr differs ↦
      rw (ne_eqb first.session seat.session differs) (by_test (eqb first.session session) (seat_state-other seats seat session apart))
]
  where
    by_test : (test : Bool) → seat_state (with_seat seats seat) session ≡ seat_state seats session
        → cond test first.state (seat_state (with_seat seats seat) session) ≡ cond test first.state (seat_state seats session)
    by_test true rest = refl
    by_test false rest = rest

-- a session has begun as often as the seat says that is put for it
pub begun_of-same : (seats : List Seat) (seat : Seat) → begun_of (with_seat seats seat) seat.session ≡ seat.begun
begun_of-same [] seat = rw (eq-eqb seat.session seat.session refl) refl
begun_of-same (first ∷ seats) seat = elim (cases_eq first.session seat.session) [
  | inl same ↦ rw (eq-eqb first.session seat.session same, eq-eqb seat.session seat.session refl) refl
  | inr apart ↦ rw (ne_eqb first.session seat.session apart, ne_eqb first.session seat.session apart) (begun_of-same seats seat)
]

-- and the others as often as before
pub begun_of-other : (seats : List Seat) (seat : Seat) (session : ℕ) → (seat.session ≡ session → ⊥)
    → begun_of (with_seat seats seat) session ≡ begun_of seats session
begun_of-other [] seat session apart = rw (ne_eqb seat.session session apart) refl
begun_of-other (first ∷ seats) seat session apart = elim (cases_eq first.session seat.session) [
  | inl same ↦
      (let differs : first.session ≡ session → ⊥ = λ e. apart (sym same ∙ e) in
      rw (eq-eqb first.session seat.session same, ne_eqb seat.session session apart, ne_eqb first.session session differs) refl)
  | inr differs ↦
      rw (ne_eqb first.session seat.session differs) (by_test (eqb first.session session) (begun_of-other seats seat session apart))
]
  where
    by_test : (test : Bool) → begun_of (with_seat seats seat) session ≡ begun_of seats session
        → cond test first.begun (begun_of (with_seat seats seat) session) ≡ cond test first.begun (begun_of seats session)
    by_test true rest = refl
    by_test false rest = rest

-- the pin of a session is one of the pins of all
pub pin_there : (seats : List Seat) (session : ℕ) (pin : Pin) → Contains (pins_in (seat_state seats session)) pin → Contains (pins_of seats) pin
pin_there [] session pin there = there
pin_there (seat ∷ seats) session pin there = elim (cases_eq seat.session session) [
  | inl same ↦
      (let is : seat_state (seat ∷ seats) session ≡ seat.state = rw (eq-eqb seat.session session same) refl in
      Contains-append_left (pins_in seat.state) (pins_of seats) pin (subst (λ (s : State). Contains (pins_in s) pin) is there))
  | inr apart ↦
      (let is : seat_state (seat ∷ seats) session ≡ seat_state seats session = rw (ne_eqb seat.session session apart) refl in
      Contains-append_right (pins_in seat.state) (pins_of seats) pin
      (pin_there seats session pin (subst (λ (s : State). Contains (pins_in s) pin) is there)))
]

-- where all are sound, each session's transaction is
pub sound_at : (page_size : ℕ) (seats : List Seat) (session : ℕ) → AreSound page_size seats → IsSoundState page_size (seat_state seats session)
sound_at page_size [] session sound = tt
sound_at page_size (seat ∷ seats) session sound = elim (cases_eq seat.session session) [
  | inl same ↦
      (let is : seat.state ≡ seat_state (seat ∷ seats) session = rw (eq-eqb seat.session session same) refl in
      subst (IsSoundState page_size) is (All-head (λ (s : Seat). IsSoundState page_size s.state) seat seats sound))
  | inr apart ↦
      (let is : seat_state seats session ≡ seat_state (seat ∷ seats) session = rw (ne_eqb seat.session session apart) refl in
      subst (IsSoundState page_size) is
      (sound_at page_size seats session (All-tail (λ (s : Seat). IsSoundState page_size s.state) seat seats sound)))
]

-- a session that stands in its transaction may be put as it stands
pub unmoved : (seats : List Seat) (session : ℕ) (transaction : Transaction) → seat_state seats session ≡ Open transaction
    → with_state seats session (Open transaction) ≡ seats
unmoved [] session transaction is = absurd cc
unmoved (first ∷ seats) session transaction is = elim (cases_eq first.session session) [
  | inl same ↦
      (let here : seat_state (first ∷ seats) session ≡ first.state = rw (eq-eqb first.session session same) refl in
      rw (eq-eqb first.session session same) (ap (λ (seat : Seat). seat ∷ seats)
      (ap (λ (state : State). record { session = session; begun = first.begun; state = state }) (sym is ∙ here)
      ∙ ap (λ (number : ℕ). record { session = number; begun = first.begun; state = first.state }) (sym same))))
  | inr apart ↦
      (let here : seat_state (first ∷ seats) session ≡ seat_state seats session = rw (ne_eqb first.session session apart) refl in
      rw (ne_eqb first.session session apart) (ap (λ (others : List Seat). first ∷ others) (unmoved seats session transaction (sym here ∙ is))))
]

-- what is told is told in one way
pub told_once : (one told : Told) → Some one ≡ Some told → one ≡ told
told_once one told is = ap (λ (answer : Option Told). unwrap_or answer told) is

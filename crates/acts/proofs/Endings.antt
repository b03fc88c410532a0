-- How the pins of all sessions are given back, one after another.
use Rattle.std.proofs.Common.{◌≡◌, ℕ, ◌+◌, ◌<◌, List, [], ◌∷◌, ◌++◌, length, get_or, drop, suc, sym, subst, ap, ◌∙◌, arith, inl, inr, drop-cons}
use Rattle.std.specs.Prelude.{Contains}
use Rattle.std.proofs.lemmas.List.{get_or_default}
use Rattle.std.proofs.lemmas.List.Elements.{Contains-append_left, Contains-append_right, Contains-append_cases}
use Rattle.engine_spec.specs.declared.pins.Pin.{Pin}
use Rattle.engine_spec.specs.State.{EngineState}
use Rattle.page_face.specs.declared.engine_tells.EngineTells.{Ghosts}
use Rattle.acts.specs.declared.seats.Seat.{Seat}
use Rattle.acts.specs.Pagers.{pins_in, pins_of, EndsAll}
use Rattle.acts.specs.Turns.{AllLive, SwapsPins}
use Rattle.acts.proofs.Seatings.{wider}

-- the pins from one seat on
pub pins_drop : (seats : List Seat) (i : ℕ) (seat : Seat) → i < length seats → seat ≡ get_or seats i seat
    → pins_of (drop i seats) ≡ pins_in seat.state ++ pins_of (drop (i + 1) seats)
pins_drop seats i seat within item =
    let next : suc i ≡ i + 1 = omega arith in
    ap pins_of (drop-cons seats i seat within)
    ∙ (ap (λ (one : Seat). pins_in one.state ++ pins_of (drop (suc i) seats)) (sym item)
    ∙ ap (λ (k : ℕ). pins_in seat.state ++ pins_of (drop k seats)) next)

-- some pins are given back, and then others
ends_both : (some others : List Pin) (old mid new : EngineState) → EndsAll some old mid → EndsAll others mid new → EndsAll (some ++ others) old new
ends_both [] others old mid new same rest = subst (λ (seen : EngineState). EndsAll others seen new) same rest
ends_both (pin ∷ some) others old mid new (first, ends, more) rest = (first, ends, ends_both some others first mid new more rest)

pub ends_from : (seats : List Seat) (i : ℕ) (seat : Seat) (old mid new : EngineState) → i < length seats → seat ≡ get_or seats i seat
    → EndsAll (pins_in seat.state) old mid → EndsAll (pins_of (drop (i + 1) seats)) mid new → EndsAll (pins_of (drop i seats)) old new
ends_from seats i seat old mid new within item some rest =
    subst (λ (pins : List Pin). EndsAll pins old new) (sym (pins_drop seats i seat within item))
    (ends_both (pins_in seat.state) (pins_of (drop (i + 1) seats)) old mid new some rest)

-- the pin of a seat holds where those from it on do
pub live_from : {E : Type 0} (live : E → List Pin → Type 0) (engine : E) (seats : List Seat) (i : ℕ) (seat : Seat) (others : List Pin)
    → i < length seats → seat ≡ get_or seats i seat → live engine (pins_of (drop i seats) ++ others) → AllLive live engine (pins_in seat.state)
live_from live engine seats i seat others within item lives = λ k d inside.
    (let pin = get_or (pins_in seat.state) k d in
    let here : Contains (pins_in seat.state) pin = (k, inside, get_or_default (pins_in seat.state) k pin d inside) in (
      pins_of (drop i seats) ++ others,
      lives,
      Contains-append_left (pins_of (drop i seats)) others pin
          (subst (λ (pins : List Pin). Contains pins pin) (sym (pins_drop seats i seat within item))
          (Contains-append_left (pins_in seat.state) (pins_of (drop (i + 1) seats)) pin here)),
    ))

-- fewer pins among others are among more
among : (front some rest back : List Pin) (pin : Pin) → Contains (front ++ (rest ++ back)) pin → Contains (front ++ ((some ++ rest) ++ back)) pin
among front some rest back pin there = elim (Contains-append_cases front (rest ++ back) pin there) [
  | inl before ↦ Contains-append_left front ((some ++ rest) ++ back) pin before
  | inr other ↦ elim (Contains-append_cases rest back pin other) [
    | inl inside ↦ Contains-append_right front ((some ++ rest) ++ back) pin
        (Contains-append_left (some ++ rest) back pin (Contains-append_right some rest pin inside))
    | inr after ↦ Contains-append_right front ((some ++ rest) ++ back) pin (Contains-append_right (some ++ rest) back pin after)
  ]
]

-- What stays where some pins became others, of which the first were then given back.
through : {E M : Type 0} (told : Ghosts E M) (old mid new : E) (olds some rest : List Pin)
    → SwapsPins told old olds mid (some ++ rest)
    → SwapsPins told mid (some ++ rest) new rest
    → SwapsPins told old olds new rest
through told old mid new olds some rest first then = record {
  holds = λ front back lives. then.holds front back (first.holds front back lives);
  maps = λ front back pin lives was is.
      then.maps front back pin (first.holds front back lives) (among front some rest back pin is) is
      ∙ first.maps front back pin lives was (among front some rest back pin is);
  runs = λ one begun. then.runs one (first.runs one begun);
  opened = λ one is. then.opened one (first.opened one is);
  loans = then.loans ∙ first.loans;
  always_begins = then.always_begins ∙ first.always_begins;
  alone = then.alone ∙ first.alone;
  pages = (let a = first.pages in let b = then.pages in omega arith);
  page_size = then.page_size ∙ first.page_size;
}

pub stays_from : {E M : Type 0} (told : Ghosts E M) (old mid new : E) (olds : List Pin)
    (seats : List Seat) (i : ℕ) (seat : Seat) → i < length seats → seat ≡ get_or seats i seat
    → SwapsPins told old olds mid (pins_of (drop i seats))
    → SwapsPins told mid (pins_in seat.state) new []
    → SwapsPins told old olds new (pins_of (drop (i + 1) seats))
stays_from told old mid new olds seats i seat within item first then =
    through told old mid new olds (pins_in seat.state) (pins_of (drop (i + 1) seats))
    (subst (λ (pins : List Pin). SwapsPins told old olds mid pins) (pins_drop seats i seat within item) first)
    (wider told mid (pins_in seat.state) new [] [] (pins_of (drop (i + 1) seats)) then)

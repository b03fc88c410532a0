-- How the acts of a run follow one another.
use Rattle.std.proofs.Common.{◌≡◌, ℕ, ◌+◌, ◌<◌, ◌≤◌, List, [], ◌∷◌, ◌++◌, length, get_or, drop, Option, zero, suc, refl, sym, subst, ap, ◌∙◌, arith, append_assoc, drop-cons}
use Rattle.std.specs.Prelude.{Contains}
use Rattle.std.proofs.lemmas.List.Elements.{Contains-append_left, Contains-append_right}
use Rattle.page_spec.specs.PageMap.{PageMap}
use Rattle.engine_spec.specs.declared.pins.Pin.{Pin}
use Rattle.page_lines.specs.declared.lines.Act.{Act}
use Rattle.page_lines.specs.declared.lines.Told.{Told}
use Rattle.crash_spec.specs.Opening.{Opening}
use Rattle.engine_spec.specs.State.{EngineState}
use Rattle.acts.specs.declared.seats.Seat.{Seat}
use Rattle.acts.specs.Pagers.{Acts, KeepsMaps, LeavesItsMaps, Plays, pins_of}
use Rattle.acts.proofs.Growth.{acts_under}

-- one act more, where what was promised for some openings is promised for fewer
pub plays_next : (opened opened_then : Opening → Type 0) (old mid new : EngineState) (maps maps_then : Pin → Option PageMap)
    (seats seats_then : List Seat) (acts : List Act) (i : ℕ) (act : Act) (answer : Told) (answers : List Told)
    → i < length acts → act ≡ get_or acts i act → ((one : Opening) → opened one → opened_then one)
    → Acts (record { opened = opened_then; old = old; new = mid; map_before = maps; map_after = maps_then }) seats act answer seats_then
    → KeepsMaps seats maps seats_then maps_then → LeavesItsMaps opened_then mid
    → Plays opened mid maps_then seats_then (drop (i + 1) acts) answers new
    → Plays opened old maps seats (drop i acts) (answer ∷ answers) new
plays_next opened opened_then old mid new maps maps_then seats seats_then acts i act answer answers within item onward acted keeps leaves rest =
    let next : suc i ≡ i + 1 = omega arith in
    let split : drop i acts ≡ act ∷ drop (i + 1) acts =
    drop-cons acts i act within ∙ (ap (λ (one : Act). one ∷ drop (suc i) acts) (sym item) ∙ ap (λ (k : ℕ). act ∷ drop k acts) next) in
    subst (λ (left : List Act). Plays opened old maps seats left (answer ∷ answers) new) (sym split) (
      mid,
      maps_then,
      seats_then,
      acts_under opened opened_then old mid maps maps_then seats act answer seats_then onward acted,
      keeps,
      λ opening is. leaves opening (onward opening is),
      rest,
    )

-- the answers so far, with one more and those that follow
pub answers_on : (before now : List Told) (answer : Told) (rest : List Told) → now ≡ before ++ answer ∷ [] → before ++ (answer ∷ rest) ≡ now ++ rest
answers_on before now answer rest is = sym (ap (λ (list : List Told). list ++ rest) is ∙ append_assoc before (answer ∷ []) rest)

-- no act is left
pub none_left : (acts : List Act) (i : ℕ) → length acts ≤ i → drop i acts ≡ []
none_left [] zero past = refl
none_left [] (suc i) past = refl
none_left (act ∷ acts) zero past = absurd (omega arith)
none_left (act ∷ acts) (suc i) past = none_left acts i (omega arith)

-- the maps of the pins of others
pub maps_next : {E : Type 0} (live : E → List Pin → Type 0) (map_at : E → Pin → Option PageMap) (first old new : E) (seats seats_then : List Seat)
    → ((others : List Pin) → live first others → live old (pins_of seats ++ others))
    → ((others : List Pin) (pin : Pin) → live first others → Contains others pin → map_at old pin ≡ map_at first pin)
    → ((others : List Pin) (pin : Pin) → live old (pins_of seats ++ others) → Contains (pins_of seats_then ++ others) pin
    → Contains (pins_of seats ++ others) pin → map_at new pin ≡ map_at old pin)
    → (others : List Pin) (pin : Pin) → live first others → Contains others pin → map_at new pin ≡ map_at first pin
maps_next live map_at first old new seats seats_then lives maps act_maps others pin living there =
    act_maps others pin (lives others living) (Contains-append_right (pins_of seats_then) others pin there)
    (Contains-append_right (pins_of seats) others pin there) ∙ maps others pin living there

-- the maps of the sessions' pins
pub keeps_next : {E : Type 0} (live : E → List Pin → Type 0) (map_at : E → Pin → Option PageMap) (old new : E) (seats seats_then : List Seat)
    → live old (pins_of seats ++ [])
    → ((others : List Pin) (pin : Pin) → live old (pins_of seats ++ others) → Contains (pins_of seats_then ++ others) pin
    → Contains (pins_of seats ++ others) pin → map_at new pin ≡ map_at old pin)
    → KeepsMaps seats (map_at old) seats_then (map_at new)
keeps_next live map_at old new seats seats_then living act_maps = λ pin was is.
    act_maps [] pin living (Contains-append_left (pins_of seats_then) [] pin is) (Contains-append_left (pins_of seats) [] pin was)

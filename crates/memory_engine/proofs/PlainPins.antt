-- The pins of the engine in memory.
use Rattle.std.proofs.Common.{◌≡◌, ◌∙◌, ℕ, zero, suc, ◌+◌, ◌-◌, ◌<◌, ◌≤◌, List, [], ◌∷◌, ◌++◌, length, refl, sym, ap, subst, arith, All, get_or, length-append, add-one}
use Rattle.std.specs.Prelude.{slice_get, Option, Some, IfSome}
use Rattle.std.proofs.lemmas.Option.{slice_get-get_or}
use Rattle.std.proofs.lemmas.List.{get_or-append-add, get_or_append_left}
use Rattle.std.proofs.lemmas.List.Elements.{All-append, All-cons}
use Rattle.page_spec.specs.PageMap.{PageMap, page_at}
use Rattle.engine_spec.specs.declared.pins.Pin.{Pin}
use Rattle.page_face.specs.Pins.{IsLive, AddsPin, TakesPin}
use Rattle.memory_engine.specs.Plain.{PlainState, IsPlain, IsOfMap, PlainLive, newest_of}
use Rattle.memory_engine.specs.PlainLaws.{held}

-- what holds of a joined list holds of its front
pub front_all : {X : Type 0} (P : X → Type 0) (xs ys : List X) → All P (xs ++ ys) → All P xs
front_all P xs ys all k d within =
    subst P (get_or_append_left xs ys d k within) (all k d (omega (arith, length-append xs ys)))

-- and of its back
pub back_all : {X : Type 0} (P : X → Type 0) (xs ys : List X) → All P (xs ++ ys) → All P ys
back_all P xs ys all k d within =
    subst P (get_or-append-add xs ys k d) (all (length xs + k) d (omega (arith, length-append xs ys)))

-- what holds of a list but for one element and of that element holds of the list
pub all_with : {X : Type 0} (P : X → Type 0) (xs : List X) (x : X) (ys : List X) → P x → All P (xs ++ ys) → All P (xs ++ x ∷ ys)
all_with P xs x ys here all =
    All-append P xs (x ∷ ys) (front_all P xs ys all) (All-cons P x ys here (back_all P xs ys all))

-- what holds of a list holds of it without one element
pub all_without : {X : Type 0} (P : X → Type 0) (xs : List X) (x : X) (ys : List X) → All P (xs ++ x ∷ ys) → All P (xs ++ ys)
all_without P xs x ys all =
    All-append P xs ys (front_all P xs (x ∷ ys) all)
    (λ k d within. rw add-one at (back_all P xs (x ∷ ys) all (k + 1) d (omega arith)))

-- an element of a list, whatever stands for one past its end
pub same_element : {X : Type 0} (xs : List X) (i : ℕ) (d e : X) → i < length xs → get_or xs i d ≡ get_or xs i e
same_element xs i d e within =
    let one : slice_get xs i ≡ Some (get_or xs i d) = slice_get-get_or xs i d within in
    let other : slice_get xs i ≡ Some (get_or xs i e) = slice_get-get_or xs i e within in
    cc

-- the pages that stand at the number of the newest map are the newest map
pub newest_is : (plain : PlainState) (n : ℕ) (pages : PageMap) → IsPlain plain → n ≡ length plain.history
    → pages ≡ get_or plain.maps n pages → pages ≡ newest_of plain
newest_is plain n pages whole number found =
    found ∙ ap (λ (k : ℕ). get_or plain.maps k pages) number
    ∙ same_element plain.maps (length plain.history) pages [] (omega (arith, whole.count))

-- a pin of the newest map is added
pub adds_pin : (plain : PlainState) (pin : Pin) → pin.n ≡ length plain.history → pin.size ≡ length (newest_of plain)
    → AddsPin PlainLive (λ (p : PlainState) (q : Pin). slice_get p.maps q.n) plain pin plain
adds_pin plain pin n size = record {
  added = λ before after live.
      (live.0, all_with (IsOfMap plain) before pin after (record { n = omega (arith, n); size = rw n size }) live.1);
  maps = λ other live. refl;
}

-- a pin is taken out
pub takes_pin : (plain : PlainState) (pin : Pin)
    → TakesPin PlainLive (λ (p : PlainState) (q : Pin). slice_get p.maps q.n) plain pin plain
takes_pin plain pin = record {
  taken = λ before after live. (live.0, all_without (IsOfMap plain) before pin after live.1);
  maps = λ other live. refl;
}

-- the bytes that stand at a page of the map that stands at a pin's number are the page of the pin's map
pub fetched : (plain : PlainState) (pin : Pin) (pages : PageMap) (page : ℕ) (bytes : List ℕ) → IsLive PlainLive plain pin
    → 1 ≤ page → page ≤ pin.size → pages ≡ get_or plain.maps pin.n pages → bytes ≡ get_or pages (page - 1) bytes
    → IfSome (slice_get plain.maps pin.n) (λ found. bytes ≡ page_at found page)
fetched plain pin pages zero bytes live low high is there = absurd (omega arith)
fetched plain pin pages (suc k) bytes live low high is there =
    let hold = held plain pin live in
    let within : pin.n < length plain.maps = omega (arith, live.1.0.count, hold.n) in
    let size : pin.size ≡ length pages = hold.size ∙ ap length (same_element plain.maps pin.n [] pages within ∙ sym is) in
    let less : suc k - 1 ≡ k = omega arith in
    let here : bytes ≡ page_at pages (suc k) =
    there ∙ ap (λ (i : ℕ). get_or pages i bytes) less ∙ same_element pages k bytes [] (omega arith) in
    subst (λ (found : Option PageMap). IfSome found (λ f. bytes ≡ page_at f (suc k))) (sym (slice_get-get_or plain.maps pin.n pages within))
    (subst (λ (f : PageMap). bytes ≡ page_at f (suc k)) is here)

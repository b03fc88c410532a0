-- Frames as pieces of a file, one behind the other.
use Rattle.std.proofs.Common.{◌≡◌, ℕ, zero, suc, ◌+◌, ◌≤◌, ◌<◌, List, [], ◌∷◌, ◌++◌, length, take, refl, sym, ◌∙◌, ap, arith, length-append, ◌⊎◌, inl, inr}
use Rattle.std.specs.Prelude.{All, Contains}
use Rattle.std.specs.List.{concat}
use Rattle.std.proofs.lemmas.List.Elements.{All-nil, All-cons, All-head, All-tail, All-weaker, All-contains, All-contains_itself, Contains-append_right}
use Rattle.disk_face.specs.declared.disk.File.{File}
use Rattle.disk_face.specs.declared.step.Piece.{Piece}
use Rattle.log_spec.specs.Checksum.{Sum}
use Rattle.log_spec.specs.LogHeader.{LogFields}
use Rattle.log_spec.specs.Accept.{Frame, AreValidFrames, sum_after}
use Rattle.crash_spec.specs.Marks.{pieces_from}
use Rattle.crash_spec.specs.Logs.{IsOneOf, IsFresh}

-- an element of a list with one more in front
pub contains_cons : {X : Type 0} (x : X) (xs : List X) (y : X) → Contains (x ∷ xs) y → (x ≡ y) ⊎ Contains xs y
contains_cons x xs y (zero, less, is) = inl is
contains_cons x xs y (suc k, less, is) = inr (k, omega arith, is)

pub contains_head : {X : Type 0} (x : X) (xs : List X) → Contains (x ∷ xs) x
contains_head x xs = (0, omega arith, refl)

pub contains_tail : {X : Type 0} (x : X) (xs : List X) (y : X) → Contains xs y → Contains (x ∷ xs) y
contains_tail x xs y (k, less, is) = (suc k, omega arith, is)

pub contains_none : {X : Type 0} (y : X) → Contains {X = X} [] y → ⊥
contains_none y (k, less, is) = omega arith

-- what holds of all of a list holds of all of its back
pub all_right : {X : Type 0} (P : X → Type 0) (xs ys : List X) → All P (xs ++ ys) → All P ys
all_right P xs ys all = All-weaker (Contains ys) P (λ y c. All-contains P (xs ++ ys) y all (Contains-append_right xs ys y c)) ys (All-contains_itself ys)

-- the pieces of two lists of frames, one behind the other
pub pieces-append : (file : File) (at : ℕ) (xs ys : List Frame) → pieces_from file at (xs ++ ys) ≡ pieces_from file at xs ++ pieces_from file (at + length (concat xs)) ys
pieces-append file at [] ys = ap (λ (n : ℕ). pieces_from file n ys) (omega arith)
pieces-append file at (x ∷ xs) ys =
    let place : at + length x + length (concat xs) ≡ at + length (x ++ concat xs) = omega (arith, length-append x (concat xs)) in
    let first : Piece = record { file = file; at = at; bytes = x } in
    ap (λ (ps : List Piece). first ∷ ps) (pieces-append file (at + length x) xs ys)
    ∙ ap (λ (n : ℕ). first ∷ pieces_from file (at + length x) xs ++ pieces_from file n ys) place

-- none of them stands before the first
pub pieces_behind : (file : File) (at : ℕ) (frames : List Frame) → All (λ piece. at ≤ piece.at) (pieces_from file at frames)
pieces_behind file at [] = All-nil (λ (piece : Piece). at ≤ piece.at)
pieces_behind file at (frame ∷ rest) =
    All-cons (λ (piece : Piece). at ≤ piece.at) _ _ (omega arith)
    (All-weaker (λ (piece : Piece). at + length frame ≤ piece.at) (λ (piece : Piece). at ≤ piece.at) (λ piece far. omega arith) _ (pieces_behind file (at + length frame) rest))

-- and each ends before all of them do
pub pieces_before : (file : File) (at : ℕ) (frames : List Frame) → All (λ piece. piece.at + length piece.bytes ≤ at + length (concat frames)) (pieces_from file at frames)
pieces_before file at [] = All-nil (λ (piece : Piece). piece.at + length piece.bytes ≤ at + 0)
pieces_before file at (frame ∷ rest) =
    let joined = length-append frame (concat rest) in
    All-cons (λ (piece : Piece). piece.at + length piece.bytes ≤ at + length (concat (frame ∷ rest))) _ _ (omega arith)
    (All-weaker (λ (piece : Piece). piece.at + length piece.bytes ≤ at + length frame + length (concat rest)) (λ (piece : Piece). piece.at + length piece.bytes ≤ at + length (concat (frame ∷ rest)))
    (λ piece near. omega arith) _ (pieces_before file (at + length frame) rest))

-- and, of valid frames, none is empty
pub pieces_some : (file : File) (at : ℕ) (header : LogFields) (sum : Sum) (frames : List Frame) → AreValidFrames header sum frames → All (λ piece. 0 < length piece.bytes) (pieces_from file at frames)
pieces_some file at header sum [] valid = All-nil (λ (piece : Piece). 0 < length piece.bytes)
pieces_some file at header sum (frame ∷ rest) (valid, others) =
    All-cons (λ (piece : Piece). 0 < length piece.bytes) _ _ (omega (arith, valid.whole)) (pieces_some file (at + length frame) header (sum_after header sum frame) rest others)

-- valid frames that are known behind a place, where only pending ones are fresh, are pending pieces
pub known_are_pending : (known : List Piece) (log : File) (header : LogFields) (end : ℕ) (pending : List Frame) → IsFresh known log header end pending
    → (at : ℕ) (sum : Sum) (more : List Frame) → end ≤ at → AreValidFrames header sum more → All (Contains known) (pieces_from log at more)
    → All (Contains (pieces_from log end pending)) (pieces_from log at more)
known_are_pending known log header end pending fresh at sum [] behind valid all = All-nil (Contains (pieces_from log end pending))
known_are_pending known log header end pending fresh at sum (frame ∷ rest) behind (valid, others) all =
    let first : Piece = record { file = log; at = at; bytes = frame } in
    All-cons (Contains (pieces_from log end pending)) first (pieces_from log (at + length frame) rest)
    (All-contains (IsOneOf log header end pending) known first fresh (All-head (Contains known) first (pieces_from log (at + length frame) rest) all) refl behind (valid.same_salt1, valid.same_salt2))
    (known_are_pending known log header end pending fresh (at + length frame) (sum_after header sum frame) rest (omega arith) others
    (All-tail (Contains known) first (pieces_from log (at + length frame) rest) all))

-- frames whose pieces are all among those of others at the same place are a front of these
pub front_of_pieces : (log : File) (header : LogFields) (at : ℕ) (sum : Sum) (pending more : List Frame) → AreValidFrames header sum pending
    → All (Contains (pieces_from log at pending)) (pieces_from log at more) → (more ≡ take (length more) pending) × (length more ≤ length pending)
front_of_pieces log header at sum pending [] valid all = (refl, omega arith)
front_of_pieces log header at sum [] (m ∷ ms) valid all =
    absurd (contains_none _ (All-head (Contains {X = Piece} []) (record { file = log; at = at; bytes = m }) (pieces_from log (at + length m) ms) all))
front_of_pieces log header at sum (p ∷ ps) (m ∷ ms) (valid, others) all =
    let here : Piece = record { file = log; at = at; bytes = p } in
    let found : Piece = record { file = log; at = at; bytes = m } in
    let behind : List Piece = pieces_from log (at + length p) ps in
    let long = valid.whole in
    let same : m ≡ p =
    elim (contains_cons here behind found (All-head (Contains (here ∷ behind)) found (pieces_from log (at + length m) ms) all)) [
      | inl is ↦ ap (λ (piece : Piece). piece.bytes) (sym is)
      | inr later ↦ absurd (too_late (All-contains (λ (piece : Piece). at + length p ≤ piece.at) behind found (pieces_behind log (at + length p) ps) later) long)
    ] in
    let rest : All (Contains (here ∷ behind)) (pieces_from log (at + length m) ms) = All-tail (Contains (here ∷ behind)) found (pieces_from log (at + length m) ms) all in
    let rest_far = pieces_behind log (at + length m) ms in
    let others_are : All (Contains behind) (pieces_from log (at + length m) ms) =
    λ k d less. later_only here behind _ (rest k d less) (far_on (rest_far k d less) (ap (λ (f : Frame). length f) same) long) in
    let place : at + length m ≡ at + length p = ap (λ (f : Frame). at + length f) same in
    let tail = front_of_pieces log header (at + length p) (sum_after header sum p) ps ms others (rw place at others_are) in
    (cc, omega (arith, tail.1))
  where
    too_late : at + length p ≤ at → length p ≡ 24 + header.page_size → ⊥
    too_late le long = omega arith

    far_on : {x : ℕ} → at + length m ≤ x → length m ≡ length p → length p ≡ 24 + header.page_size → at < x
    far_on le same long = omega arith

    later_only : (here : Piece) (behind : List Piece) (x : Piece) → Contains (here ∷ behind) x → here.at < x.at → Contains behind x
    later_only here behind x c far =
        elim (contains_cons here behind x c) [
          | inl is ↦ let no = ap (λ (piece : Piece). piece.at) is in absurd (omega arith)
          | inr later ↦ later
        ]

-- Lists with one element more or one fewer.
use Rattle.std.proofs.Common.{◌≡◌, ℕ, suc, ◌+◌, ◌-◌, ◌<◌, ◌≤◌, List, [], ◌∷◌, ◌++◌, length, get_or, insert, remove, take, drop, map, sum_by, refl, sym, ap, ap₂, subst, ◌∙◌, inl, inr, arith}
use Rattle.std.proofs.lemmas.List.Edits.{get_or-insert_below, get_or-insert_at, get_or-insert_above, get_or-remove_below, get_or-remove_above}
use Rattle.std.proofs.lemmas.List.Sums.{sum_by-cons}
use Rattle.std.proofs.lemmas.Bool.{cases_order, cases_lt}
use Rattle.std.proofs.lemmas.List.{take-map, drop-map, map-append}
use Rattle.node_spec.specs.Layout.{Piece, taken, size_of}
use Rattle.page_edit.specs.Forms.{texts_of}

-- a fact about each element at its place, of a list with one more
pub each-insert : {X : Type 0} (Q : ℕ → X → Type 0) (xs : List X) (k : ℕ) (y d : X) → k ≤ length xs
    → ((i : ℕ) → i < k → Q i (get_or xs i d)) → Q k y → ((i : ℕ) → k ≤ i → i < length xs → Q (i + 1) (get_or xs i d))
    → (i : ℕ) → i < length xs + 1 → Q i (get_or (insert xs k y) i d)
each-insert Q xs k y d place below here above i h = elim (cases_order i k) [
  | inl e ↦ rw (e, get_or-insert_at xs k y d place) here
  | inr o ↦ elim o [
    | inl lt ↦ rw (get_or-insert_below xs k y d i lt place) (below i lt)
    | inr gt ↦
        let back : i ≡ i - 1 + 1 = omega arith in
        subst (λ n. Q n (get_or (insert xs k y) n d)) (sym back)
        (rw (get_or-insert_above xs k y d (i - 1) (omega arith) place) (above (i - 1) (omega arith) (omega arith)))
  ]
]

-- and of a list with one fewer
pub each-remove : {X : Type 0} (Q : ℕ → X → Type 0) (xs : List X) (k : ℕ) (d : X) → k < length xs
    → ((i : ℕ) → i < k → Q i (get_or xs i d)) → ((i : ℕ) → k ≤ i → i + 1 < length xs → Q i (get_or xs (i + 1) d))
    → (i : ℕ) → i + 1 < length xs → Q i (get_or (remove xs k) i d)
each-remove Q xs k d place below above i h = elim (cases_lt i k) [
  | inl lt ↦ rw (get_or-remove_below xs k d i lt place) (below i lt)
  | inr ge ↦ rw (get_or-remove_above xs k d i ge place) (above i ge h)
]

pub texts_of-insert : (cells : List Piece) (k : ℕ) (cell : Piece) → texts_of (insert cells k cell) ≡ insert (texts_of cells) k cell.bytes
texts_of-insert cells k cell =
    map-append (λ (c : Piece). c.bytes) (take k cells) (cell ∷ drop k cells)
    ∙ ap₂ (λ (a b : List (List ℕ)). a ++ cell.bytes ∷ b) (sym (take-map (λ (c : Piece). c.bytes) k cells)) (sym (drop-map (λ (c : Piece). c.bytes) k cells))

pub texts_of-remove : (cells : List Piece) (k : ℕ) → texts_of (remove cells k) ≡ remove (texts_of cells) k
texts_of-remove cells k =
    map-append (λ (c : Piece). c.bytes) (take k cells) (drop (suc k) cells)
    ∙ ap₂ (λ (a b : List (List ℕ)). a ++ b) (sym (take-map (λ (c : Piece). c.bytes) k cells)) (sym (drop-map (λ (c : Piece). c.bytes) (suc k) cells))

pub length-texts_of : (cells : List Piece) → length (texts_of cells) ≡ length cells
length-texts_of [] = refl
length-texts_of (c ∷ cells) = let rest = length-texts_of cells in grind arith

pub taken-texts_of : (cells : List Piece) → sum_by length (texts_of cells) ≡ taken cells
taken-texts_of [] = refl
taken-texts_of (c ∷ cells) = sum_by-cons length c.bytes (texts_of cells) ∙ ap (λ n. length c.bytes + n) (taken-texts_of cells) ∙ sym (sum_by-cons size_of c cells)

-- a list with one element more or one fewer, seen through a function
pub map-insert : {X Y : Type 0} (f : X → Y) (xs : List X) (k : ℕ) (x : X) → map f (insert xs k x) ≡ insert (map f xs) k (f x)
map-insert f xs k x =
    map-append f (take k xs) (x ∷ drop k xs)
    ∙ ap₂ (λ a b. a ++ (f x ∷ b)) (sym (take-map f k xs)) (sym (drop-map f k xs))

pub map-remove : {X Y : Type 0} (f : X → Y) (xs : List X) (k : ℕ) → map f (remove xs k) ≡ remove (map f xs) k
map-remove f xs k =
    map-append f (take k xs) (drop (suc k) xs)
    ∙ ap₂ (λ a b. a ++ b) (sym (take-map f k xs)) (sym (drop-map f (suc k) xs))

-- Marks with one piece more.
use Rattle.std.proofs.Common.{◌≡◌, ℕ, ◌+◌, ◌-◌, ◌*◌, ◌<◌, ◌≤◌, min, List, [], ◌∷◌, ◌++◌, length, get_or, drop, refl, sym, ◌∙◌, inl, inr, arith, ◌⊎◌, length-drop, add-one}
use Rattle.std.proofs.lemmas.List.{length-take-le}
use Rattle.std.proofs.lemmas.List.Sums.{sum_by-append, sum_by-cons}
use Rattle.std.proofs.lemmas.Bool.{cases_lt}
use Rattle.page_spec.specs.Bytes.{u16_at}
use Rattle.node_spec.specs.declared.kinds.Kind.{Kind}
use Rattle.node_spec.specs.Cells.{cell_size}
use Rattle.node_spec.specs.Layout.{Piece, hit, cover, size_of, taken}
use Rattle.node_spec.specs.Faults.{rest_at, cell_piece, cells_in}
use Rattle.node_spec.proofs.PieceLaws.{hit_none, hit_here}
use Rattle.page_form.specs.Marks.{AreMarks}

-- one piece more at the end of a list
pub cover_more : (pieces : List Piece) (piece : Piece) (k : ℕ) → cover (pieces ++ piece ∷ []) k ≡ cover pieces k + hit k piece
cover_more pieces piece k = omega (arith, sum_by-append (hit k) pieces (piece ∷ []), sum_by-cons (hit k) piece [])

pub taken_more : (pieces : List Piece) (piece : Piece) → taken (pieces ++ piece ∷ []) ≡ taken pieces + length piece.bytes
taken_more pieces piece = omega (arith, sum_by-append size_of pieces (piece ∷ []), sum_by-cons size_of piece [])

-- the marks of a piece's bytes, one by one
pub marked : (old new : List ℕ) (piece : Piece) (start len : ℕ) → piece.start ≡ start → length piece.bytes ≡ len
    → ((k : ℕ) → start ≤ k → k < start + len → get_or new k 0 ≡ min 2 (get_or old k 0 + 1))
    → ((k : ℕ) → (k < start) ⊎ (start + len ≤ k) → get_or new k 0 ≡ get_or old k 0)
    → (k n : ℕ) → get_or old k 0 ≡ min 2 n → get_or new k 0 ≡ min 2 (n + hit k piece)
marked old new piece start len start_is len_is inside outside k n is = elim (cases_lt k start) [
  | inl below ↦ omega (arith, outside k (inl below), hit_none k piece (inl (omega arith)))
  | inr above ↦ elim (cases_lt k (start + len)) [
    | inl within ↦ omega (arith, inside k above within, hit_here k piece (omega arith) (omega arith))
    | inr past ↦ omega (arith, outside k (inr past), hit_none k piece (inr (omega arith)))
  ]
]

-- the cell that a pointer leads to, where it is whole
pub cell_piece_is : (usable : ℕ) (kind : Kind) (page : List ℕ) (start : ℕ) → usable ≤ length page
    → start + cell_size kind usable (rest_at usable page start) ≤ usable
    → ((cell_piece usable kind page start).start ≡ start) × (length (cell_piece usable kind page start).bytes ≡ cell_size kind usable (rest_at usable page start))
unfolding cell_piece
cell_piece_is usable kind page start long whole =
    let room : length (rest_at usable page start) ≡ usable - start = length-take-le (usable - start) (drop start page) (omega (arith, length-drop start page)) in
    (refl, length-take-le (cell_size kind usable (rest_at usable page start)) (rest_at usable page start) (omega arith))

-- The cells of one pointer more.
pub record OneMoreCell (usable : ℕ) (kind : Kind) (page : List ℕ) (pointers i len : ℕ) (old new : List ℕ) : Type 0 where
  pub sum : taken (cells_in usable kind page pointers (i + 1)) ≡ taken (cells_in usable kind page pointers i) + len
  pub marks : AreMarks old (cells_in usable kind page pointers i) [] → AreMarks new (cells_in usable kind page pointers (i + 1)) []

pub cells_more : (usable : ℕ) (kind : Kind) (page : List ℕ) (pointers i start place len : ℕ) (old new : List ℕ) → usable ≤ length page
    → start ≡ u16_at page (pointers + 2 * i) → place ≡ start → len ≡ cell_size kind usable (rest_at usable page start) → start + len ≤ usable
    → ((k : ℕ) → place ≤ k → k < place + len → get_or new k 0 ≡ min 2 (get_or old k 0 + 1))
    → ((k : ℕ) → (k < place) ⊎ (place + len ≤ k) → get_or new k 0 ≡ get_or old k 0)
    → OneMoreCell usable kind page pointers i len old new
unfolding cells_in
cells_more usable kind page pointers i start place len old new long start_is place_is len_is room inside outside =
    let front = cells_in usable kind page pointers i in
    let piece = cell_piece usable kind page start in
    let is = cell_piece_is usable kind page start long (omega arith) in
    let all : cells_in usable kind page pointers (i + 1) ≡ front ++ piece ∷ [] =
    rw (add-one, sym start_is) refl in
    record {
      sum = rw all (omega (arith, taken_more front piece, is.1, len_is));
      marks = λ marks k. rw all (
          let m = marked old new piece place len (is.0 ∙ sym place_is) (is.1 ∙ sym len_is) inside outside k (cover front k) (omega (arith, marks k)) in
          omega (arith, m, cover_more front piece k)
          );
    }

pub cells_none : (usable : ℕ) (kind : Kind) (page : List ℕ) (pointers : ℕ) (marks : List ℕ) → AreMarks marks [] []
    → (0 ≡ taken (cells_in usable kind page pointers 0)) × AreMarks marks (cells_in usable kind page pointers 0) []
unfolding cells_in
cells_none usable kind page pointers marks are = (refl, are)

-- Bytes that are just one cell, as they were tested.
use Rattle.std.proofs.Common.{◌≡◌, ℕ, ◌+◌, ◌<◌, ◌≤◌, true, List, [], ◌∷◌, ◌++◌, length, take, drop, get_or, zero-add, length-append, refl, subst, ap, ◌∙◌, inl, arith, take_at}
use Rattle.std.proofs.lemmas.Bool.Decides.{nat_tests}
use Rattle.page_spec.specs.Varint.{varint_size, varint_number}
use Rattle.page_spec.proofs.VarintLaws.{varint_is}
use Rattle.node_spec.specs.declared.kinds.Kind.{Kind}
use Rattle.node_spec.specs.declared.kinds.Kind.TheVariants.{TableLeaf}
use Rattle.node_spec.specs.Cells.{keys_size, payload_in, body_size, stored_size, local_size, spills, most_local, cell_size, IsCell, IsOneCell}
use Rattle.node_spec.specs.Faults.{rest_at}
use Rattle.node_spec.proofs.CellLaws.{split_in, cell_cut}

-- a byte below 128 is a varint
byte_is_varint : (byte : ℕ) (rest : List ℕ) → byte < 128 → (varint_number (byte ∷ rest) ≡ byte) × (varint_size (byte ∷ rest) ≡ 1)
byte_is_varint byte rest low =
    let is = varint_is (byte ∷ rest) 0 (omega arith) (omega arith) (λ k none. omega arith) (λ _. low) in
    (is.spelled ∙ omega arith, is.used)

-- a payload of so few bytes is stored whole
small_is_stored : (usable payload : ℕ) → 480 ≤ usable → payload < 128 → stored_size true usable payload ≡ payload
unfolding stored_size local_size spills most_local
small_is_stored usable payload least low = grind (arith, nat_tests)

-- the bytes of a cell of a leaf of a table whose varints have one byte each
pub short_cell : (usable : ℕ) (text : List ℕ) → 480 ≤ usable → 2 ≤ length text → get_or text 0 0 < 128 → get_or text 1 0 < 128
    → length text ≡ 2 + get_or text 0 0 → IsOneCell TableLeaf usable text
unfolding body_size keys_size payload_in
short_cell usable [] least two low_size low_rowid whole = absurd (omega arith)
short_cell usable (size ∷ []) least two low_size low_rowid whole = absurd (omega arith)
short_cell usable (size ∷ rowid ∷ rest) least two low_size low_rowid whole =
    let first = byte_is_varint size (rowid ∷ rest) low_size in
    let second = byte_is_varint rowid rest low_rowid in
    let stored = small_is_stored usable size least low_size in
    inl (rw (first.1, second.1, first.0, stored) (omega arith))

-- the bytes at the front of a page that are all of the cell there
pub long_cell : (kind : Kind) (usable : ℕ) (page text : List ℕ) → ((k : ℕ) → k < length text → get_or page k 0 ≡ get_or text k 0)
    → length text ≤ usable → usable ≤ length page → cell_size kind usable (rest_at usable page 0) ≡ length text → IsCell kind usable text
long_cell kind usable page text same room long size =
    let rest = rest_at usable page 0 in
    let more = drop (length text) rest in
    let split : rest ≡ text ++ more = split_in page text 0 usable (λ k l. ap (λ n. get_or page n 0) (zero-add k) ∙ same k l) (omega arith) long in
    let within : cell_size kind usable rest ≤ length rest = omega (arith, size, ap (λ (xs : List ℕ). length xs) split, length-append text more) in
    let cut : IsCell kind usable (take (cell_size kind usable rest) rest) = cell_cut kind usable rest within in
    let is : take (cell_size kind usable rest) rest ≡ text = ap (λ n. take n rest) size ∙ ap (take (length text)) split ∙ take_at text more (length text) refl in
    subst (λ (xs : List ℕ). IsCell kind usable xs) is cut

-- Single checks of a page, passed and failed.
use Rattle.std.proofs.Common.{◌≡◌, ℕ, ◌+◌, ◌*◌, ◌<◌, ◌≤◌, nat_le, true, false, None, Some, List, refl, arith}
use Rattle.std.proofs.lemmas.Bool.Decides.{nat_tests}
use Rattle.page_spec.specs.Bytes.{u16_at}
use Rattle.node_spec.specs.declared.kinds.Kind.{Kind}
use Rattle.node_spec.specs.Cells.{cell_size}
use Rattle.node_spec.specs.Layout.{Piece, cover}
use Rattle.node_spec.specs.Faults.{pointer_fault, cell_fault, byte_fault, rest_at}

pub pointer_good : (content : ℕ) (page : List ℕ) (pointers i : ℕ) → content ≤ u16_at page (pointers + 2 * i) → pointer_fault content page pointers i ≡ None
unfolding pointer_fault
pointer_good content page pointers i low = let holds : nat_le content (u16_at page (pointers + 2 * i)) ≡ true = grind (arith, nat_tests) in rw holds refl

pub pointer_bad : (content : ℕ) (page : List ℕ) (pointers i : ℕ) → u16_at page (pointers + 2 * i) < content
    → pointer_fault content page pointers i ≡ Some (pointers + 2 * i)
unfolding pointer_fault
pointer_bad content page pointers i low = let fails : nat_le content (u16_at page (pointers + 2 * i)) ≡ false = grind (arith, nat_tests) in rw fails refl

pub cell_good : (usable : ℕ) (kind : Kind) (page : List ℕ) (pointers i start : ℕ) → start ≡ u16_at page (pointers + 2 * i)
    → start + cell_size kind usable (rest_at usable page start) ≤ usable → cell_fault usable kind page pointers i ≡ None
unfolding cell_fault
cell_good usable kind page pointers i start is whole =
    let holds : nat_le (start + cell_size kind usable (rest_at usable page start)) usable ≡ true = grind (arith, nat_tests) in
    let at = rw is at holds in
    rw at refl

pub cell_bad : (usable : ℕ) (kind : Kind) (page : List ℕ) (pointers i start : ℕ) → start ≡ u16_at page (pointers + 2 * i)
    → usable < start + cell_size kind usable (rest_at usable page start) → cell_fault usable kind page pointers i ≡ Some start
unfolding cell_fault
cell_bad usable kind page pointers i start is past =
    let fails : nat_le (start + cell_size kind usable (rest_at usable page start)) usable ≡ false = grind (arith, nat_tests) in
    let at = rw is at fails in
    rw (at, is) refl

pub byte_good : (cells blocks : List Piece) (k : ℕ) → cover cells k + cover blocks k ≤ 1 → byte_fault cells blocks k ≡ None
unfolding byte_fault
byte_good cells blocks k once = let holds : nat_le (cover cells k + cover blocks k) 1 ≡ true = grind (arith, nat_tests) in rw holds refl

pub byte_bad : (cells blocks : List Piece) (k : ℕ) → 1 < cover cells k + cover blocks k → byte_fault cells blocks k ≡ Some k
unfolding byte_fault
byte_bad cells blocks k twice = let fails : nat_le (cover cells k + cover blocks k) 1 ≡ false = grind (arith, nat_tests) in rw fails refl

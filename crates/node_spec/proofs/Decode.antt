-- The checks hold exactly for the text of a page, and what they read are its cells and its freeblocks.
use Rattle.std.proofs.Common.{◌≡◌, ℕ, zero, suc, ◌+◌, ◌-◌, ◌*◌, ◌<◌, ◌≤◌, ◌==◌, ◌&&◌, nat_le, nat_lt, Bool, true, false, None, Some, List, [], ◌∷◌, length, get_or, take, take_at, drop, All, refl, sym, ap, subst, ◌∙◌, inl, inr, arith, length-append, length-drop}
use Rattle.std.proofs.lemmas.List.{ext_get_or, length-take-le, get_or-take, get_or-drop, get_or_append_left}
use Rattle.std.proofs.lemmas.List.Elements.{All-from_get_or, All-cons}
use Rattle.std.proofs.lemmas.Bool.{cases_lt, cases_eq}
use Rattle.std.proofs.lemmas.Bool.Decides.{nat_tests}
use Rattle.std.proofs.lemmas.Grind.{common_steps}
use Rattle.page_spec.specs.Bytes.{u16_at}
use Rattle.node_spec.specs.declared.kinds.Kind.{Kind}
use Rattle.node_spec.specs.declared.kinds.Kind.TheVariants.{IndexInner, TableInner, IndexLeaf, TableLeaf}
use Rattle.node_spec.specs.Kinds.{flag_of, kind_of}
use Rattle.node_spec.specs.Cells.{cell_size, IsCell}
use Rattle.node_spec.specs.Layout.{Piece, nowhere, cover, taken, Stands, IsChain, HasCells, IsPage, content_start}
use Rattle.node_spec.specs.Faults.{first_fault, rest_at, cell_piece, cells_in, block_piece, blocks_in, is_block, chain_fault, pointer_fault, cell_fault, byte_fault, has_fragments, front_fault, content_fault, parts_fault}
use Rattle.node_spec.proofs.CellLaws.{cell_cut, cell_stands, split_at}
use Rattle.node_spec.proofs.FaultLaws.{unless_none, or_none, none_first, first_none}
use Rattle.node_spec.proofs.PieceLaws.{same_piece, cover_none}

-- flags and kinds are one to one
pub kind_flag : (kind : Kind) → kind_of (flag_of kind) ≡ Some kind
unfolding kind_of
kind_flag IndexInner = refl
kind_flag TableInner = refl
kind_flag IndexLeaf = refl
kind_flag TableLeaf = refl

pub flag_kind : (flag : ℕ) (kind : Kind) → kind_of flag ≡ Some kind → flag ≡ flag_of kind
unfolding kind_of
flag_kind flag IndexInner e = grind (arith, common_steps, nat_tests)
flag_kind flag TableInner e = grind (arith, common_steps, nat_tests)
flag_kind flag IndexLeaf e = grind (arith, common_steps, nat_tests)
flag_kind flag TableLeaf e = grind (arith, common_steps, nat_tests)

-- the cells that pointers lead to, one by one
pub length-cells_in : (usable : ℕ) (kind : Kind) (page : List ℕ) (pointers n : ℕ) → length (cells_in usable kind page pointers n) ≡ n
unfolding cells_in
length-cells_in usable kind page pointers zero = refl
length-cells_in usable kind page pointers (suc n) =
    let rest = length-cells_in usable kind page pointers n in
    omega (arith, length-append (cells_in usable kind page pointers n) (cell_piece usable kind page (u16_at page (pointers + 2 * n)) ∷ []))

pub at-cells_in : (usable : ℕ) (kind : Kind) (page : List ℕ) (pointers n i : ℕ) → i < n
    → get_or (cells_in usable kind page pointers n) i nowhere ≡ cell_piece usable kind page (u16_at page (pointers + 2 * i))
unfolding cells_in
at-cells_in usable kind page pointers zero i less = absurd (omega arith)
at-cells_in usable kind page pointers (suc n) i less =
    let front = cells_in usable kind page pointers n in
    let len = length-cells_in usable kind page pointers n in
    elim (cases_lt i n) [
      | inl l ↦ get_or_append_left front _ nowhere i (omega arith) ∙ at-cells_in usable kind page pointers n i l
      | inr g ↦ let is : i ≡ n = omega arith in grind (arith, common_steps)
    ]

-- a text of a page has the cells that its pointers lead to
pub cells_are : {usable at pointers content : ℕ} {kind : Kind} {page : List ℕ} {cells : List Piece} → HasCells usable at pointers content kind page cells
    → cells_in usable kind page pointers (length cells) ≡ cells
unfolding cell_piece
cells_are {usable} {pointers = pointers} {kind = kind} {page = page} {cells = cells} h =
    ext_get_or nowhere _ cells (length-cells_in usable kind page pointers (length cells)) (λ i l.
    let less : i < length cells = omega (arith, length-cells_in usable kind page pointers (length cells)) in
    let piece = get_or cells i nowhere in
    let s = h.stand i nowhere less in
    let is : cell_piece usable kind page piece.start ≡ piece =
    same_piece (cell_piece usable kind page piece.start) piece refl (cell_stands kind usable page piece.bytes piece.start (h.kinds i less) s.same s.high h.whole).1 in
    at-cells_in usable kind page pointers (length cells) i less ∙ ap (cell_piece usable kind page) (h.points i less) ∙ is)

pub cells_whole : {usable at pointers content : ℕ} {kind : Kind} {page : List ℕ} {cells : List Piece} → HasCells usable at pointers content kind page cells
    → (i : ℕ) → i < length cells → cell_fault usable kind page pointers i ≡ None
unfolding cell_fault
cells_whole {usable} {pointers = pointers} {kind = kind} {page = page} {cells = cells} h i less =
    let piece = get_or cells i nowhere in
    let s = h.stand i nowhere less in
    let size = (cell_stands kind usable page piece.bytes piece.start (h.kinds i less) s.same s.high h.whole).0 in
    let high = s.high in
    let holds : nat_le (piece.start + cell_size kind usable (rest_at usable page piece.start)) usable ≡ true = grind (arith, nat_tests) in
    rw (h.points i less, holds) refl

-- what stands at a freeblock's place
block_reads : {page : List ℕ} {from to : ℕ} {block : Piece} → Stands page from to block
    → (u16_at page block.start ≡ u16_at block.bytes 0) × (u16_at page (block.start + 2) ≡ u16_at block.bytes 2)
unfolding u16_at
block_reads {page} {block = block} s =
    let some = s.some in
    let a : get_or page block.start 0 ≡ get_or block.bytes 0 0 = ap (λ n. get_or page n 0) (omega arith) ∙ s.same 0 (omega arith) in
    let c : get_or page (block.start + 2 + 1) 0 ≡ get_or block.bytes (2 + 1) 0 = ap (λ n. get_or page n 0) (omega arith) ∙ s.same 3 (omega arith) in
    (rw (a, s.same 1 (omega arith)) refl, rw (s.same 2 (omega arith), c) refl)

-- a text of a page has the freeblocks that its chain leads to
pub blocks_are : (usable content : ℕ) (page : List ℕ) (more before at : ℕ) (blocks : List Piece) → usable ≤ length page
    → All (Stands page content usable) blocks → IsChain before at blocks → usable < more + before → before ≤ usable
    → (blocks_in more page at ≡ blocks) × (chain_fault more usable content page before at ≡ None)
unfolding blocks_in chain_fault is_block block_piece
blocks_are usable content page zero before at blocks long all chain enough low = absurd (omega arith)
blocks_are usable content page (suc more) before at [] long all chain enough low = rw chain (refl, refl)
blocks_are usable content page (suc more) before at (block ∷ blocks) long all chain enough low =
    let s : Stands page content usable block = all 0 block (omega arith) in
    let is : at ≡ block.start = chain.0 in
    let rises : before < at = chain.1 in
    let some = s.some in
    let down = s.low in
    let high = s.high in
    let reads = block_reads s in
    let next : u16_at page at ≡ u16_at block.bytes 0 = ap (u16_at page) is ∙ reads.0 in
    let size : u16_at page (at + 2) ≡ length block.bytes = ap (λ n. u16_at page (n + 2)) is ∙ reads.1 ∙ chain.2 in
    let rest = blocks_are usable content page more at (u16_at block.bytes 0) blocks long (λ i d h. all (suc i) d (omega arith)) chain.3 (omega arith) (omega arith) in
    let not_end : (at == 0) ≡ false = grind (arith, nat_tests) in
    let split = split_at page block.bytes block.start s.same (omega arith) in
    let bytes : take (u16_at page (at + 2)) (drop at page) ≡ block.bytes =
    rw (size, is) (ap (take (length block.bytes)) split ∙ take_at block.bytes (drop (length block.bytes) (drop block.start page)) (length block.bytes) refl) in
    let piece : block_piece page at ≡ block = same_piece _ block is bytes in
    let first : nat_lt before at ≡ true = grind (arith, nat_tests) in
    let second : nat_le content at ≡ true = grind (arith, nat_tests) in
    let third : nat_le (at + 4) usable ≡ true = grind (arith, nat_tests) in
    let fourth : nat_le 4 (length block.bytes) ≡ true = grind (arith, nat_tests) in
    let fifth : nat_le (at + length block.bytes) usable ≡ true = grind (arith, nat_tests) in
    (rw (not_end, next, rest.0) (ap (λ p. p ∷ blocks) piece), rw (not_end, size, first, second, third, fourth, fifth, next, rest.1) refl)

-- what is cut from a page reads as the page does there
pub cut_reads : (page : List ℕ) (at size : ℕ) → at + size ≤ length page
    → (length (take size (drop at page)) ≡ size)
    × ((k : ℕ) → k < size → get_or page (at + k) 0 ≡ get_or (take size (drop at page)) k 0)
cut_reads page at size room = (
  length-take-le size (drop at page) (omega (arith, length-drop at page)),
  (λ k l. sym (get_or-take size (drop at page) k 0 l ∙ get_or-drop at page k 0)),
)

cut_numbers : (page : List ℕ) (at size : ℕ) → at + size ≤ length page → 4 ≤ size
    → (u16_at (take size (drop at page)) 0 ≡ u16_at page at) × (u16_at (take size (drop at page)) 2 ≡ u16_at page (at + 2))
unfolding u16_at
cut_numbers page at size room some =
    let same = (cut_reads page at size room).1 in
    let a : get_or (take size (drop at page)) 0 0 ≡ get_or page at 0 = sym (same 0 (omega arith)) ∙ ap (λ n. get_or page n 0) (omega arith) in
    let c : get_or (take size (drop at page)) (2 + 1) 0 ≡ get_or page (at + 2 + 1) 0 = sym (same 3 (omega arith)) ∙ ap (λ n. get_or page n 0) (omega arith) in
    (rw (a, sym (same 1 (omega arith))) refl, rw (sym (same 2 (omega arith)), c) refl)

pub block_fits : (usable content : ℕ) (page : List ℕ) (before at : ℕ) → is_block usable content page before at ≡ true
    → (before < at) × (content ≤ at) × (at + 4 ≤ usable) × (4 ≤ u16_at page (at + 2)) × (at + u16_at page (at + 2) ≤ usable)
unfolding is_block
block_fits usable content page before at is = (
  grind (arith, common_steps, nat_tests),
  grind (arith, common_steps, nat_tests),
  grind (arith, common_steps, nat_tests),
  grind (arith, common_steps, nat_tests),
  grind (arith, common_steps, nat_tests),
)

-- The other way round: a chain without a fault leads to freeblocks.
pub chain_is : (usable content : ℕ) (page : List ℕ) (more before at : ℕ) → usable ≤ length page
    → chain_fault more usable content page before at ≡ None → usable < more + before → before ≤ usable
    → IsChain before at (blocks_in more page at) × All (Stands page content usable) (blocks_in more page at)
unfolding blocks_in chain_fault block_piece
chain_is usable content page zero before at long none enough low = absurd (omega arith)
chain_is usable content page (suc more) before at long none enough low = elim (cases_eq at 0) [
  | inl is ↦
      let ends : (at == 0) ≡ true = grind (arith, nat_tests) in
      rw ends (is, λ i d h. absurd (omega arith))
  | inr other ↦
      let not_end : (at == 0) ≡ false = grind (arith, nat_tests) in
      let parts = or_none _ _ (rw not_end at none) in
      let fits = block_fits usable content page before at (unless_none _ _ parts.0) in
      let size = u16_at page (at + 2) in
      let bytes = take size (drop at page) in
      let block : Piece = record { start = at; bytes = bytes } in
      let read = cut_reads page at size (omega arith) in
      let numbers = cut_numbers page at size (omega arith) fits.3 in
      let rest = chain_is usable content page more at (u16_at page at) long parts.1 (omega arith) (omega arith) in
      let stands : Stands page content usable block = record {
        low = fits.1;
        high = omega (arith, read.0, fits.4);
        some = omega (arith, read.0, fits.3);
        same = λ k l. read.1 k (omega (arith, read.0));
      } in
      rw not_end (
        (refl, fits.0, numbers.1 ∙ sym read.0, subst (λ n. IsChain at n (blocks_in more page (u16_at page at))) (sym numbers.0) rest.0),
        All-cons (Stands page content usable) block (blocks_in more page (u16_at page at)) stands rest.1,
      )
]

-- One pointer, one cell, one byte, and the fragments: what each check says.
pointer_passes : (content : ℕ) (page : List ℕ) (pointers i : ℕ) → content ≤ u16_at page (pointers + 2 * i) → pointer_fault content page pointers i ≡ None
unfolding pointer_fault
pointer_passes content page pointers i low =
    let holds : nat_le content (u16_at page (pointers + 2 * i)) ≡ true = grind (arith, nat_tests) in
    rw holds refl

pointer_passed : (content : ℕ) (page : List ℕ) (pointers i : ℕ) → pointer_fault content page pointers i ≡ None → content ≤ u16_at page (pointers + 2 * i)
unfolding pointer_fault
pointer_passed content page pointers i none =
    let holds = unless_none (nat_le content (u16_at page (pointers + 2 * i))) (pointers + 2 * i) none in
    grind (arith, nat_tests)

cell_passed : (usable : ℕ) (kind : Kind) (page : List ℕ) (pointers i : ℕ) → cell_fault usable kind page pointers i ≡ None
    → u16_at page (pointers + 2 * i) + cell_size kind usable (rest_at usable page (u16_at page (pointers + 2 * i))) ≤ usable
unfolding cell_fault
cell_passed usable kind page pointers i none =
    let start = u16_at page (pointers + 2 * i) in
    let holds = unless_none (nat_le (start + cell_size kind usable (rest_at usable page start)) usable) start none in
    grind (arith, nat_tests)

byte_passes : (cells blocks : List Piece) (k : ℕ) → cover cells k + cover blocks k ≤ 1 → byte_fault cells blocks k ≡ None
unfolding byte_fault
byte_passes cells blocks k once =
    let holds : nat_le (cover cells k + cover blocks k) 1 ≡ true = grind (arith, nat_tests) in
    rw holds refl

byte_passed : (cells blocks : List Piece) (k : ℕ) → byte_fault cells blocks k ≡ None → cover cells k + cover blocks k ≤ 1
unfolding byte_fault
byte_passed cells blocks k none =
    let holds = unless_none (nat_le (cover cells k + cover blocks k) 1) k none in
    grind (arith, nat_tests)

fragments_pass : (usable content : ℕ) (cells blocks : List Piece) (fragments : ℕ) → fragments ≤ 60
    → content + taken cells + taken blocks + fragments ≡ usable → has_fragments usable content cells blocks fragments ≡ true
unfolding has_fragments
fragments_pass usable content cells blocks fragments few all = grind (arith, common_steps, nat_tests)

fragments_passed : (usable content : ℕ) (cells blocks : List Piece) (fragments : ℕ) → has_fragments usable content cells blocks fragments ≡ true
    → (fragments ≤ 60) × (content + taken cells + taken blocks + fragments ≡ usable)
unfolding has_fragments
fragments_passed usable content cells blocks fragments is = (grind (arith, common_steps, nat_tests), grind (arith, common_steps, nat_tests))

-- The text of a page passes all checks,
pub no_parts_fault : {usable at pointers : ℕ} {kind : Kind} {page : List ℕ} {cells blocks : List Piece} → IsPage usable at pointers kind page cells blocks
    → parts_fault usable at pointers kind page ≡ None
unfolding parts_fault front_fault content_fault
no_parts_fault {usable} {at} {pointers} {kind} {page} {cells} {blocks} p =
    let h = p.holds in
    let content = content_start page at in
    let count = h.count in
    let fits = h.fits in
    let room = h.room in
    let read : cells_in usable kind page pointers (length cells) ≡ cells = cells_are h in
    let chain = blocks_are usable content page (suc usable) 0 (u16_at page (at + 1)) blocks h.whole p.free p.chain (omega arith) (omega arith) in
    let first : nat_le (pointers + 2 * length cells) usable ≡ true = grind (arith, nat_tests) in
    let second : nat_le (pointers + 2 * length cells) content ≡ true = grind (arith, nat_tests) in
    let third : nat_le content usable ≡ true = grind (arith, nat_tests) in
    let points : first_fault (length cells) (pointer_fault content page pointers) ≡ None =
    none_first (length cells) (pointer_fault content page pointers) (λ i l. pointer_passes content page pointers i (omega (arith, h.points i l, (h.stand i nowhere l).low))) in
    let whole : first_fault (length cells) (cell_fault usable kind page pointers) ≡ None =
    none_first (length cells) (cell_fault usable kind page pointers) (cells_whole h) in
    let bytes : first_fault usable (byte_fault cells blocks) ≡ None = none_first usable (byte_fault cells blocks) (λ k l. byte_passes cells blocks k (p.apart k)) in
    let fragments = fragments_pass usable content cells blocks (get_or page (at + 7) 0) p.few p.all in
    rw (count, first, second, third, points, whole, chain.1, read, chain.0, bytes, fragments) refl

cell_size_least : (kind : Kind) (usable : ℕ) (bytes : List ℕ) → 4 ≤ cell_size kind usable bytes
unfolding cell_size
cell_size_least kind usable bytes = omega arith

-- the cell that a pointer leads to, where it is whole
pub piece_stands : (usable content : ℕ) (kind : Kind) (page : List ℕ) (start : ℕ) → usable ≤ length page → content ≤ start
    → start + cell_size kind usable (rest_at usable page start) ≤ usable
    → Stands page content usable (cell_piece usable kind page start) × IsCell kind usable (cell_piece usable kind page start).bytes
unfolding cell_piece
piece_stands usable content kind page start long low whole =
    let rest = rest_at usable page start in
    let size = cell_size kind usable rest in
    let some = cell_size_least kind usable rest in
    let room : length rest ≡ usable - start = length-take-le (usable - start) (drop start page) (omega (arith, length-drop start page)) in
    let len : length (take size rest) ≡ size = length-take-le size rest (omega arith) in (
      record {
        low = low;
        high = omega arith;
        some = omega arith;
        same = λ k l. sym (get_or-take size rest k 0 (omega arith) ∙ get_or-take (usable - start) (drop start page) k 0 (omega arith) ∙ get_or-drop start page k 0);
      },
      cell_cut kind usable rest (omega arith),
    )

both : (a b : Bool) → (a && b) ≡ true → (a ≡ true) × (b ≡ true)
both true b e = (refl, e)
both false b e = cc

-- and what passes all checks is one.
pub no_fault_page : (usable at pointers : ℕ) (kind : Kind) (page : List ℕ) → usable ≤ length page → 480 ≤ usable → usable ≤ 65536 → at + 8 ≤ pointers
    → get_or page at 0 ≡ flag_of kind → parts_fault usable at pointers kind page ≡ None
    → IsPage usable at pointers kind page (cells_in usable kind page pointers (u16_at page (at + 3))) (blocks_in (suc usable) page (u16_at page (at + 1)))
unfolding parts_fault front_fault content_fault cell_piece
no_fault_page usable at pointers kind page long least most head flag none =
    let count = u16_at page (at + 3) in
    let content = content_start page at in
    let cells = cells_in usable kind page pointers count in
    let blocks = blocks_in (suc usable) page (u16_at page (at + 1)) in
    let parts = or_none _ _ none in
    let one = or_none _ _ parts.0 in
    let two = or_none _ _ one.1 in
    let four = or_none _ _ parts.1 in
    let five = or_none _ _ four.1 in
    let six = or_none _ _ five.1 in
    let bounds = both (nat_le (pointers + 2 * count) content) (nat_le content usable) (unless_none _ (at + 5) two.0) in
    let room : pointers + 2 * count ≤ content = let t = bounds.0 in grind (arith, nat_tests) in
    let low : (i : ℕ) → i < count → content ≤ u16_at page (pointers + 2 * i) = λ i l.
    pointer_passed content page pointers i (first_none count (pointer_fault content page pointers) two.1 i l) in
    let whole : (i : ℕ) → i < count → u16_at page (pointers + 2 * i) + cell_size kind usable (rest_at usable page (u16_at page (pointers + 2 * i))) ≤ usable = λ i l.
    cell_passed usable kind page pointers i (first_none count (cell_fault usable kind page pointers) four.0 i l) in
    let len = length-cells_in usable kind page pointers count in
    let chain = chain_is usable content page (suc usable) 0 (u16_at page (at + 1)) long five.0 (omega arith) (omega arith) in
    let piece : (i : ℕ) → i < count → Stands page content usable (get_or cells i nowhere) × IsCell kind usable (get_or cells i nowhere).bytes = λ i l.
    subst (λ p. Stands page content usable p × IsCell kind usable p.bytes) (sym (at-cells_in usable kind page pointers count i l))
    (piece_stands usable content kind page (u16_at page (pointers + 2 * i)) long (low i l) (whole i l)) in
    let stand : All (Stands page content usable) cells = All-from_get_or (Stands page content usable) cells nowhere (λ i l. (piece i (omega arith)).0) in
    let apart : (k : ℕ) → cover cells k + cover blocks k ≤ 1 = λ k. elim (cases_lt k usable) [
      | inl l ↦ byte_passed cells blocks k (first_none usable (byte_fault cells blocks) six.0 k l)
      | inr g ↦ omega (arith, cover_none page content usable cells stand k (inr g), cover_none page content usable blocks chain.1 k (inr g))
    ] in
    let fragments = fragments_passed usable content cells blocks (get_or page (at + 7) 0) (unless_none _ (at + 7) six.1) in
    record {
      holds = record {
        whole = long;
        least = least;
        most = most;
        head = head;
        flag = flag;
        count = sym len;
        points = λ i l. ap (λ (p : Piece). p.start) (sym (at-cells_in usable kind page pointers count i (omega arith)));
        room = omega arith;
        kinds = λ i l. (piece i (omega arith)).1;
        fits = omega arith;
        stand = stand;
        once = λ k. omega (arith, apart k);
      };
      chain = chain.0;
      free = chain.1;
      apart = apart;
      all = fragments.1;
      few = fragments.0;
    }

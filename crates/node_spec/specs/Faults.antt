-- The first field that breaks the text of a page. The checks are made in this order: the flag; the count, against the room for pointers;
-- the start of the content, behind the pointers and at most at the end; each pointer, at or behind the start of the content; each cell,
-- whole before the end; each freeblock, behind the one before it, of at least 4 bytes, in the content; that no byte is in two cells or
-- freeblocks; the count of fragment bytes. A field is told by its offset, a cell and a freeblock by its start.
use Rattle.std.specs.Prelude.{ℕ, zero, suc, ◌+◌, ◌*◌, ◌==◌, ◌&&◌, nat_le, nat_lt, if◌then◌else◌, Bool, true, false, List, [], ◌∷◌, ◌++◌, take, drop, slice_index, slice_range, Option, None, Some}
use Rattle.page_spec.specs.Bytes.{u16_at}
use Rattle.node_spec.specs.declared.kinds.Kind.{Kind}
use Rattle.node_spec.specs.Kinds.{kind_of, header_at, pointers_at}
use Rattle.node_spec.specs.Cells.{cell_size}
use Rattle.node_spec.specs.Layout.{Piece, cover, taken, content_start}

-- the field of a check that doesn't hold
abbrev pub unless : Bool → ℕ → Option ℕ
unless true field = None
unless false field = Some field

-- the first of two faults
abbrev pub or_else : Option ℕ → Option ℕ → Option ℕ
or_else (Some fault) later = Some fault
or_else None later = later

-- the first fault of so many
unfoldable pub first_fault : ℕ → (ℕ → Option ℕ) → Option ℕ
first_fault zero fault_at = None
first_fault (suc n) fault_at = or_else (first_fault n fault_at) (fault_at n)

-- the bytes in use from a place on
abbrev pub rest_at : (usable : ℕ) → List ℕ → ℕ → List ℕ
rest_at usable page start = slice_range page start usable

-- the cell that a pointer leads to, as far as the page goes
unfoldable pub cell_piece : (usable : ℕ) → Kind → List ℕ → ℕ → Piece
cell_piece usable kind page start = record {
  start = start;
  bytes = take (cell_size kind usable (rest_at usable page start)) (rest_at usable page start);
}

-- the cells that the first so many pointers lead to
unfoldable pub cells_in : (usable : ℕ) → Kind → List ℕ → (pointers count : ℕ) → List Piece
cells_in usable kind page pointers zero = []
cells_in usable kind page pointers (suc i) =
    cells_in usable kind page pointers i ++ cell_piece usable kind page (u16_at page (pointers + 2 * i)) ∷ []

-- the freeblock at a place, with the size that it names
unfoldable pub block_piece : List ℕ → ℕ → Piece
block_piece page start = record { start = start; bytes = take (u16_at page (start + 2)) (drop start page) }

-- the freeblocks of the chain from a place on, at most so many
unfoldable pub blocks_in : ℕ → List ℕ → ℕ → List Piece
blocks_in zero page at = []
blocks_in (suc more) page at = if at == 0 then [] else block_piece page at ∷ blocks_in more page (u16_at page at)

-- at a place in the content is a freeblock, behind the place before
unfoldable pub is_block : (usable content : ℕ) → List ℕ → (before at : ℕ) → Bool
is_block usable content page before at =
    nat_lt before at && nat_le content at && nat_le (at + 4) usable
    && nat_le 4 (u16_at page (at + 2)) && nat_le (at + u16_at page (at + 2)) usable

-- the first of the chain's places, of at most so many, at which there is none
unfoldable pub chain_fault : ℕ → (usable content : ℕ) → List ℕ → (before at : ℕ) → Option ℕ
chain_fault zero usable content page before at = None
chain_fault (suc more) usable content page before at =
    if at == 0 then None
    else or_else (unless (is_block usable content page before at) at) (chain_fault more usable content page at (u16_at page at))

-- The checks of one pointer, of one cell, of one byte of the page, and of the fragments.
unfoldable pub pointer_fault : (content : ℕ) → List ℕ → (pointers : ℕ) → ℕ → Option ℕ
pointer_fault content page pointers i = unless (nat_le content (u16_at page (pointers + 2 * i))) (pointers + 2 * i)

unfoldable pub cell_fault : (usable : ℕ) → Kind → List ℕ → (pointers : ℕ) → ℕ → Option ℕ
cell_fault usable kind page pointers i =
    let start = u16_at page (pointers + 2 * i) in
    unless (nat_le (start + cell_size kind usable (rest_at usable page start)) usable) start

unfoldable pub byte_fault : (cells blocks : List Piece) → ℕ → Option ℕ
byte_fault cells blocks k = unless (nat_le (cover cells k + cover blocks k) 1) k

unfoldable pub has_fragments : (usable content : ℕ) → (cells blocks : List Piece) → ℕ → Bool
has_fragments usable content cells blocks fragments =
    nat_le fragments 60 && content + taken cells + taken blocks + fragments == usable

-- The checks of the content: cells, then freeblocks, then both together. A chain that rises has fewer blocks than the page has bytes.
unfoldable pub content_fault : (usable at pointers : ℕ) → Kind → List ℕ → Option ℕ
content_fault usable at pointers kind page =
    let count = u16_at page (at + 3) in
    let content = content_start page at in
    let cells = cells_in usable kind page pointers count in
    let blocks = blocks_in (suc usable) page (u16_at page (at + 1)) in
    or_else (first_fault count (cell_fault usable kind page pointers))
    (or_else (chain_fault (suc usable) usable content page 0 (u16_at page (at + 1)))
    (or_else (first_fault usable (byte_fault cells blocks))
    (unless (has_fragments usable content cells blocks (slice_index page (at + 7))) (at + 7))))

-- The checks of what stands before the content: the count, the start of the content, the pointers.
unfoldable pub front_fault : (usable at pointers : ℕ) → List ℕ → Option ℕ
front_fault usable at pointers page =
    let count = u16_at page (at + 3) in
    let content = content_start page at in
    or_else (unless (nat_le (pointers + 2 * count) usable) (at + 3))
    (or_else (unless (nat_le (pointers + 2 * count) content && nat_le content usable) (at + 5))
    (first_fault count (pointer_fault content page pointers)))

-- all checks of a page of a kind
unfoldable pub parts_fault : (usable at pointers : ℕ) → Kind → List ℕ → Option ℕ
parts_fault usable at pointers kind page = or_else (front_fault usable at pointers page) (content_fault usable at pointers kind page)

abbrev pub fault_by_kind : (usable : ℕ) (first : Bool) → Option Kind → List ℕ → Option ℕ
fault_by_kind usable first None page = Some (header_at first)
fault_by_kind usable first (Some kind) page = parts_fault usable (header_at first) (pointers_at first kind) kind page

-- the offset of the first field that breaks the text of the page in so many bytes, none where nothing does
unfoldable pub page_fault : (usable : ℕ) (first : Bool) → List ℕ → Option ℕ
page_fault usable first page = fault_by_kind usable first (kind_of (slice_index page (header_at first))) page

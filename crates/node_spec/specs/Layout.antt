-- The text of a page: where its parts stand, and that each byte is in one of them.
-- Source: SQLite's "Database File Format", "B-tree Pages".
--
-- | bytes of the header | content                                              |
-- | 0                   | the flag of the page's kind                          |
-- | 1, 2                | the place of the first freeblock, 0 for none         |
-- | 3, 4                | the count of cells                                   |
-- | 5, 6                | where the cell content starts; 0 stands for 65536    |
-- | 7                   | the count of fragment bytes, at most 60              |
-- | 8 to 11             | the right child, on an interior page                 |
--
-- The cell pointers follow, then a gap without meaning, then the content up to the end of the usable bytes: cells, freeblocks, and
-- fragments, which are the bytes in neither. Places are offsets from the page's first byte.
use Rattle.std.specs.Prelude.{◌≡◌, ℕ, ◌+◌, ◌*◌, ◌<◌, ◌≤◌, ◌==◌, ◌&&◌, nat_le, nat_lt, if◌then◌else◌, Bool, List, [], ◌∷◌, length, sum_by, slice_index, slice_index_or, All}
use Rattle.page_spec.specs.Bytes.{u16_at}
use Rattle.node_spec.specs.declared.kinds.Kind.{Kind}
use Rattle.node_spec.specs.Kinds.{flag_of, header_at, pointers_at}
use Rattle.node_spec.specs.Cells.{IsCell}

-- bytes that stand at a place of a page: a cell or a freeblock
pub record Piece : Type 0 where
  pub start : ℕ
  pub bytes : List ℕ

abbrev pub nowhere : Piece
nowhere = record { start = 0; bytes = [] }

-- 1 where a byte of the page is in the piece
unfoldable pub hit : ℕ → Piece → ℕ
hit k piece = if nat_le piece.start k && nat_lt k (piece.start + length piece.bytes) then 1 else 0

-- in how many of the pieces a byte of the page is
abbrev pub cover : List Piece → ℕ → ℕ
cover pieces k = sum_by (hit k) pieces

abbrev pub size_of : Piece → ℕ
size_of piece = length piece.bytes

-- how many bytes the pieces have together
abbrev pub taken : List Piece → ℕ
taken pieces = sum_by size_of pieces

-- A piece of at least 4 bytes lies from one place up to another, and the page has its bytes there.
pub record Stands (page : List ℕ) (from to : ℕ) (piece : Piece) : Type 0 where
  pub low : from ≤ piece.start
  pub high : piece.start + length piece.bytes ≤ to
  pub some : 4 ≤ length piece.bytes
  pub same : (k : ℕ) → k < length piece.bytes → slice_index page (piece.start + k) ≡ slice_index piece.bytes k

-- where the cell content starts: two bytes have no room for 65536, so 0 stands for it
unfoldable pub content_start : List ℕ → ℕ → ℕ
content_start page at = if u16_at page (at + 5) == 0 then 65536 else u16_at page (at + 5)

-- Freeblocks in a chain whose places rise: each has the place of the next in its first two bytes, 0 at the end, and its size in the two
-- after them.
abbrev pub IsChain : (before at : ℕ) → List Piece → Type 0
IsChain before at [] = at ≡ 0
IsChain before at (block ∷ blocks) =
    (at ≡ block.start) × (before < at) × (u16_at block.bytes 2 ≡ length block.bytes) × IsChain at (u16_at block.bytes 0) blocks

-- A page whose header and pointers stand at these places has cells in its content, each at its pointer, no two on one byte. Nothing is
-- said of the bytes in no cell.
pub record HasCells (usable at pointers content : ℕ) (kind : Kind) (page : List ℕ) (cells : List Piece) : Type 0 where
  pub whole : usable ≤ length page
  pub least : 480 ≤ usable
  pub most : usable ≤ 65536
  pub head : at + 8 ≤ pointers
  pub flag : slice_index page at ≡ flag_of kind
  pub count : u16_at page (at + 3) ≡ length cells
  pub points : (i : ℕ) → i < length cells → u16_at page (pointers + 2 * i) ≡ (slice_index_or cells i nowhere).start
  pub room : pointers + 2 * length cells ≤ content
  pub kinds : (i : ℕ) → i < length cells → IsCell kind usable (slice_index_or cells i nowhere).bytes
  pub fits : content + taken cells ≤ usable
  pub stand : All (Stands page content usable) cells
  pub once : (k : ℕ) → cover cells k ≤ 1

-- The text of a page with these cells and freeblocks: each byte of the content is in one cell, in one freeblock, or in a fragment.
pub record IsPage (usable at pointers : ℕ) (kind : Kind) (page : List ℕ) (cells blocks : List Piece) : Type 0 where
  pub holds : HasCells usable at pointers (content_start page at) kind page cells
  pub chain : IsChain 0 (u16_at page (at + 1)) blocks
  pub free : All (Stands page (content_start page at) usable) blocks
  pub apart : (k : ℕ) → cover cells k + cover blocks k ≤ 1
  pub all : content_start page at + taken cells + taken blocks + slice_index page (at + 7) ≡ usable
  pub few : slice_index page (at + 7) ≤ 60

-- the first so many bytes are the text of a page, of page 1 or of another
pub record IsPageText (usable : ℕ) (first : Bool) (page : List ℕ) : Type 0 where
  pub kind : Kind
  pub cells : List Piece
  pub blocks : List Piece
  pub is_page : IsPage usable (header_at first) (pointers_at first kind) kind page cells blocks

-- Cells of leaves, made of a key and a payload.
use Rattle.std.specs.Prelude.{◌≡◌, ℕ, ℤ, ◌^◌, ◌<◌, max, ◌++◌, if◌then◌else◌, Bool, true, false, List, length, take, Option, None, Some}
use Rattle.page_spec.specs.Bytes.{u32_at}
use Rattle.std.specs.Int.{cast_signed, cast_unsigned, w64}
use Rattle.page_spec.specs.Varint.{shortest_varint}
use Rattle.node_spec.specs.declared.kinds.Kind.{Kind}
use Rattle.node_spec.specs.declared.kinds.Kind.TheVariants.{IndexLeaf, TableLeaf}
use Rattle.node_spec.specs.Kinds.{is_table}
use Rattle.node_spec.specs.Cells.{IsOneCell, NodeCell, cell_in, local_size, spills}

-- the kind of the leaves that have a row with this rowid, or an entry, which has none
abbrev pub leaf_kind : Option ℤ → Kind
leaf_kind None = IndexLeaf
leaf_kind (Some rowid) = TableLeaf

-- the key of its cell: an entry's is 0
abbrev pub key_of : Option ℤ → ℤ
key_of None = cast_signed w64 0
key_of (Some rowid) = rowid

-- The cell of a payload, of which it stores as much as the format says; the rest is in a chain that begins at this page. It takes so many bytes.
abbrev pub cell_of : (usable : ℕ) → Option ℤ → (payload : List ℕ) → (first size : ℕ) → NodeCell
cell_of usable rowid payload first size = record {
  left = 0;
  rowid = key_of rowid;
  payload = length payload;
  local = take (local_size (is_table (leaf_kind rowid)) usable (length payload)) payload;
  overflow = if spills (is_table (leaf_kind rowid)) usable (length payload) then first else 0;
  size = size;
}

-- a text is the cell of this payload
pub record IsLeafCell (usable : ℕ) (rowid : Option ℤ) (payload : List ℕ) (first : ℕ) (text : List ℕ) : Type 0 where
  pub one : IsOneCell (leaf_kind rowid) usable text
  pub spells : cell_in (leaf_kind rowid) usable text ≡ cell_of usable rowid payload first (max 4 (length text))

-- what stands in front of the payload: its size, and the rowid's 64 bits
abbrev pub keys_text : (size : ℕ) → Option ℤ → List ℕ
keys_text size None = shortest_varint size
keys_text size (Some rowid) = shortest_varint size ++ shortest_varint (cast_unsigned w64 rowid)

-- What stands behind the payload's front: the number of the page with which its chain begins, or nothing.
pub record Ends (large : Bool) (first : ℕ) (tail : List ℕ) : Type 0 where
  pub some : large ≡ true → (length tail ≡ 4) × (u32_at tail 0 ≡ first)
  pub none : large ≡ false → length tail ≡ 0

-- the rowid, if there is one, is a number of 64 bits
abbrev pub KeyFits : Option ℤ → Type 0
KeyFits None = Unit {0}
KeyFits (Some rowid) = (cast_unsigned w64 rowid < 2 ^ 64) × (cast_signed w64 (cast_unsigned w64 rowid) ≡ rowid)

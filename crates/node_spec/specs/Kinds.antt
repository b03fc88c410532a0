-- The kinds of pages: the flag of each, and where its header and its cell pointers stand.
-- Source: SQLite's "Database File Format", "B-tree Pages".
use Rattle.std.specs.Prelude.{ℕ, ◌+◌, ◌==◌, if◌then◌else◌, Bool, true, false, Option, None, Some}
use Rattle.node_spec.specs.declared.kinds.Kind.{Kind}
use Rattle.node_spec.specs.declared.kinds.Kind.TheVariants.{IndexInner, TableInner, IndexLeaf, TableLeaf}

-- the first byte of a page's header
abbrev pub flag_of : Kind → ℕ
flag_of IndexInner = 2
flag_of TableInner = 5
flag_of IndexLeaf = 10
flag_of TableLeaf = 13

-- the kind of page that a flag names
unfoldable pub kind_of : ℕ → Option Kind
kind_of flag =
    if flag == 2 then Some IndexInner else
    if flag == 5 then Some TableInner else
    if flag == 10 then Some IndexLeaf else
    if flag == 13 then Some TableLeaf else None

abbrev pub is_leaf : Kind → Bool
is_leaf IndexInner = false
is_leaf TableInner = false
is_leaf IndexLeaf = true
is_leaf TableLeaf = true

abbrev pub is_table : Kind → Bool
is_table IndexInner = false
is_table TableInner = true
is_table IndexLeaf = false
is_table TableLeaf = true

-- where the header of a page stands: on page 1 behind the database header
abbrev pub header_at : Bool → ℕ
header_at true = 100
header_at false = 0

-- how many bytes the header has: an interior page's has the right child besides
abbrev pub header_size : Kind → ℕ
header_size IndexInner = 12
header_size TableInner = 12
header_size IndexLeaf = 8
header_size TableLeaf = 8

-- where the cell pointers begin
abbrev pub pointers_at : Bool → Kind → ℕ
pointers_at first kind = header_at first + header_size kind

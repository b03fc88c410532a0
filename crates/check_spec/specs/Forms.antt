-- The first field of a page that breaks what is asked of it where it stands, told by its offset: of a trunk, of a page of a chain, of a page of
-- a tree. And which cell of a table's page breaks the order of rowids.
use Rattle.std.specs.Prelude.{◌≡◌, ℕ, ℤ, zero, suc, ◌+◌, ◌-◌, ◌*◌, ◌<ℤ◌, ◌≤ℤ◌, ◌==◌, ◌&&◌, ◌||◌, nat_le, nat_lt, if◌then◌else◌, Bool, true, false, List, [], ◌∷◌, length, Option, None, Some}
use Rattle.page_spec.specs.Bytes.{u16_at, u32_at}
use Rattle.node_spec.specs.declared.kinds.Kind.{Kind}
use Rattle.node_spec.specs.Kinds.{is_leaf, is_table, header_at, pointers_at}
use Rattle.node_spec.specs.Cells.{NodeCell}
use Rattle.node_spec.specs.Nodes.{Node, node_of, cell_at}
use Rattle.node_spec.specs.Faults.{unless, or_else, first_fault, page_fault}
use Rattle.tree_spec.specs.Freelist.{most_leaves}
use Rattle.sound_spec.specs.Sound.{most_levels}

-- a number is that of a page from 2 to the last one
unfoldable pub is_inside : (last number : ℕ) → Bool
is_inside last number = nat_le 2 number && nat_le number last

-- or it is 0, for none
unfoldable pub is_inside_or_none : (last number : ℕ) → Bool
is_inside_or_none last number = (number == 0) || is_inside last number

-- A trunk: the next trunk's number, the count of leaves, and each leaf's number are in range.
unfoldable pub trunk_fault : (usable last : ℕ) → List ℕ → Option ℕ
trunk_fault usable last page =
    or_else (unless (is_inside_or_none last (u32_at page 0)) 0)
    (or_else (unless (nat_le (u32_at page 4) (most_leaves usable)) 4)
    (first_fault (u32_at page 4) (λ i. unless (is_inside last (u32_at page (8 + 4 * i))) (8 + 4 * i))))

-- A page of a chain of which so many bytes are to come: it names a next page in range where they don't end in it, and else none.
unfoldable pub link_fault : (usable last left : ℕ) → List ℕ → Option ℕ
link_fault usable last left page =
    unless (if nat_lt (usable - 4) left then is_inside last (u32_at page 0) else (u32_at page 0 == 0)) 0

-- the payload of a cell goes on in a chain
unfoldable pub has_chain : NodeCell → Bool
has_chain cell = nat_lt (length cell.local) cell.payload

-- A cell that starts at an offset: its child, whose number is at its start, and the first page of its chain, whose number is at its end.
unfoldable pub cell_numbers_fault : (last : ℕ) → Kind → (start : ℕ) → NodeCell → Option ℕ
cell_numbers_fault last kind start cell =
    or_else (unless (is_leaf kind || is_inside last cell.left) start)
    (if has_chain cell then unless (is_inside last cell.overflow) (start + cell.size - 4) else None)

-- The numbers that a page of a tree names: the right child, which is in its header, and then those of each cell in order.
unfoldable pub numbers_fault : (last : ℕ) (first : Bool) → List ℕ → Node → Option ℕ
numbers_fault last first page node =
    or_else (unless (is_leaf node.kind || is_inside last node.right) (header_at first + 8))
    (first_fault (length node.cells)
    (λ k. cell_numbers_fault last node.kind (u16_at page (pointers_at first node.kind + 2 * k)) (cell_at node k)))

-- a kind is the one that is asked for, if one is
abbrev pub is_asked : Option Bool → Kind → Bool
is_asked None kind = true
is_asked (Some true) kind = is_table kind
is_asked (Some false) kind = if is_table kind then false else true

-- All leaves of a tree stand equally deep: so a page fits where no leaf of the tree was met yet; or it is a leaf as deep as the first one, or an
-- interior page that isn't so deep.
abbrev pub fits_leaves : (leaves : Option ℕ) → (level : ℕ) → (leaf : Bool) → Bool
fits_leaves None level leaf = true
fits_leaves (Some depth) level true = level == depth
fits_leaves (Some depth) level false = nat_lt level depth

-- A page may stand so many levels below its root, the first leaf of its tree having been met so deep, if one was: its kind is the tree's, its depth
-- at most 40 and fits the leaves, and it has a cell. Page 1 and a root that is a leaf may have none.
unfoldable pub may_stand : Option Bool → (leaves : Option ℕ) → (level page : ℕ) → Node → Bool
may_stand table leaves level page node =
    is_asked table node.kind && (nat_le level most_levels && (fits_leaves leaves level (is_leaf node.kind)
    && ((page == 1) || (((level == 0) && is_leaf node.kind) || nat_le 1 (length node.cells)))))

abbrev pub fault_in_node : (last : ℕ) → Option Bool → (leaves : Option ℕ) → (level page : ℕ) → List ℕ → Option Node → Option ℕ
fault_in_node last table leaves level page bytes None = None
fault_in_node last table leaves level page bytes (Some node) =
    or_else (numbers_fault last (page == 1) bytes node) (unless (may_stand table leaves level page node) (header_at (page == 1)))

-- A page of a tree: its text, then the numbers that it names, then whether it may stand there, which is told at its header.
unfoldable pub node_fault : (usable last : ℕ) → Option Bool → (leaves : Option ℕ) → (level page : ℕ) → List ℕ → Option ℕ
node_fault usable last table leaves level page bytes =
    or_else (page_fault usable (page == 1) bytes) (fault_in_node last table leaves level page bytes (node_of usable (page == 1) bytes))

-- a rowid is above the one before it, if there is one, and at most the last one that is allowed, if there is a bound
abbrev pub IsAbove : Option ℤ → ℤ → Type 0
IsAbove None rowid = Unit {0}
IsAbove (Some before) rowid = before <ℤ rowid

abbrev pub IsAtMost : Option ℤ → ℤ → Type 0
IsAtMost None rowid = Unit {0}
IsAtMost (Some bound) rowid = rowid ≤ℤ bound

-- the rowids of these cells rise, above one that stands before them and at most at a bound
abbrev pub AreInOrder : (before bound : Option ℤ) → List NodeCell → Type 0
AreInOrder before bound [] = Unit {0}
AreInOrder before bound (cell ∷ cells) = IsAbove before cell.rowid × IsAtMost bound cell.rowid × AreInOrder (Some cell.rowid) bound cells

-- the cell at this place is the first whose rowid doesn't
abbrev pub BreaksOrder : (before bound : Option ℤ) → List NodeCell → ℕ → Type 0
BreaksOrder before bound [] k = ⊥
BreaksOrder before bound (cell ∷ cells) zero = IsAbove before cell.rowid × IsAtMost bound cell.rowid → ⊥
BreaksOrder before bound (cell ∷ cells) (suc k) = IsAbove before cell.rowid × IsAtMost bound cell.rowid × BreaksOrder (Some cell.rowid) bound cells k

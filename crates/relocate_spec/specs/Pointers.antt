-- Which bytes of a page are pointers: where numbers of four bytes stand that name other pages.
-- Source: SQLite's "Database File Format", "B-tree Pages", "B-tree Cell Format" and "Cell Payload Overflow Pages".
--
-- | page                  | pointers                                                            |
-- | interior page         | the right child; the left child at the front of each cell           |
-- | any page of a b-tree  | behind the stored part of each payload that spills: its first page  |
-- | page of a chain       | the next page, in its first four bytes                              |
--
-- A page's first byte tells which it is: a page's number in a database within the limit has a first byte of 0, which is no flag of a kind.
use Rattle.std.specs.Prelude.{ℕ, zero, suc, ◌+◌, ◌*◌, ◌==◌, if◌then◌else◌, Bool, true, false, List, [], ◌∷◌, ◌++◌, drop, slice_index, Option, None, Some}
use Rattle.page_spec.specs.Bytes.{u16_at}
use Rattle.node_spec.specs.declared.kinds.Kind.{Kind}
use Rattle.node_spec.specs.Kinds.{is_leaf, is_table, kind_of, header_at, pointers_at}
use Rattle.node_spec.specs.Cells.{left_size, payload_in, payload_at, local_size, spills}
use Rattle.node_spec.specs.Faults.{rest_at}

-- where the number of a cell's first overflow page stands, if it has one; the cell begins at a place and has these bytes
unfoldable pub overflow_place : (usable : ℕ) → Kind → (start : ℕ) → List ℕ → List ℕ
overflow_place usable kind start text =
    let payload = payload_in kind (drop (left_size kind) text) in
    if spills (is_table kind) usable payload then (start + (payload_at kind text + local_size (is_table kind) usable payload)) ∷ [] else []

-- where the number of a cell's left child stands, if it has one
abbrev pub left_place : Kind → (start : ℕ) → List ℕ
left_place kind start = if is_leaf kind then [] else start ∷ []

-- the pointers of the first so many cells
abbrev pub cell_places : (usable : ℕ) → Kind → List ℕ → (pointers count : ℕ) → List ℕ
cell_places usable kind page pointers zero = []
cell_places usable kind page pointers (suc i) =
    let start = u16_at page (pointers + 2 * i) in
    cell_places usable kind page pointers i ++ (left_place kind start ++ overflow_place usable kind start (rest_at usable page start))

-- the right child
abbrev pub right_place : (first : Bool) → Kind → List ℕ
right_place first kind = if is_leaf kind then [] else (header_at first + 8) ∷ []

-- the pointers of a page that isn't of a b-tree: page 1 has none then
abbrev pub link_place : (first : Bool) → List ℕ
link_place true = []
link_place false = 0 ∷ []

abbrev pub places_by_kind : (usable : ℕ) (first : Bool) → Option Kind → List ℕ → List ℕ
places_by_kind usable first None page = link_place first
places_by_kind usable first (Some kind) page =
    right_place first kind ++ cell_places usable kind page (pointers_at first kind) (u16_at page (header_at first + 3))

-- where the pointers of a page stand
unfoldable pub pointer_places : (usable : ℕ) (first : Bool) → List ℕ → List ℕ
pointer_places usable first page = places_by_kind usable first (kind_of (slice_index page (header_at first))) page

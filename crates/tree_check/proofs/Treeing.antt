-- The cells of a page, one after another: their payloads, and their children.
use Rattle.std.proofs.Common.{◌≡◌, ℕ, ℤ, zero, suc, ◌+◌, ◌-◌, ◌*◌, ◌<◌, ◌≤◌, Bool, true, false, List, [], ◌∷◌, ◌++◌, length, drop, Option, refl, sym, subst, ap, ◌∙◌, arith}
use Rattle.std.specs.List.{slice_index_or}
use Rattle.std.proofs.lemmas.List.{drop_more, drop_all}
use Rattle.node_spec.specs.declared.kinds.Kind.{Kind}
use Rattle.node_spec.specs.Kinds.{is_leaf, is_table}
use Rattle.node_spec.specs.Cells.{NodeCell}
use Rattle.node_spec.specs.Nodes.{Node, cell_at, no_cell}
use Rattle.tree_spec.specs.Layout.{Each}
use Rattle.page_form.specs.Reading.{IsCellOf}
use Rattle.page_form.specs.declared.page.Page.{Page}
use Rattle.page_form.specs.declared.cells.Cell.{Cell}
use Rattle.page_face.specs.declared.pages_tells.PagesTells.{Ghosts}
use Rattle.page_face.specs.Pages.{ReadsAtMost}
use Rattle.check_spec.specs.declared.fault.CheckFault.{CheckFault}
use Rattle.check_spec.specs.declared.spot.Spot.{Spot}
use Rattle.check_spec.specs.Walk.{Place, payload_places, leaf_places, inner_places, child_spot}
use Rattle.tree_check.specs.declared.walk.Walk.{Walk}
use Rattle.tree_check.specs.Walking.{SuitsPages, WalksTo, HasVisited, BarsVisit}
use Rattle.tree_check.specs.Visiting.{node_place, CellNames, ShowsNode, ShowsCell, rowid_then, cell_places}
use Rattle.tree_check.proofs.Levels.{level_below, same_room}
use Rattle.tree_check.proofs.Reaching.{walks_on, walks_then, bars_on}

each_at : {X : Type 0} (P : X → Type 0) (xs : List X) (d : X) (k : ℕ) → Each P xs → k < length xs → P (slice_index_or xs k d)
each_at P [] d k each less = absurd (omega (arith, less))
each_at P (x ∷ xs) d zero each less = each.0
each_at P (x ∷ xs) d (suc k) each less = each_at P xs d k each.1 (omega (arith, less))

-- a cell of a page that was read
pub shows_cell : (usable last now : ℕ) (first : Bool) (bytes : List ℕ) (read : Page) (told : Node) (cell : Cell) (k : ℕ) → now ≡ last
    → ShowsNode usable last first bytes read told → k < length told.cells → IsCellOf usable bytes cell told k → ShowsCell now read.kind bytes cell (cell_at told k)
shows_cell usable last now first bytes read told cell k same shows less is =
    subst (λ (n : ℕ). ShowsCell n read.kind bytes cell (cell_at told k)) (sym same)
    (subst (λ (kind : Kind). ShowsCell last kind bytes cell (cell_at told k)) (sym shows.tells.kind) (record {
      usable = usable;
      tells = is;
      names = each_at (CellNames last (is_leaf told.kind)) told.cells no_cell k shows.cells less;
    }))

-- the payloads of the cells before one were visited
pub payloads_more : {P : Type 0} (pages : Ghosts P) (old now new : P) (before walk later : Walk) (schema : Bool) (told : Node) (k : ℕ)
    → ReadsAtMost pages old now → ReadsAtMost pages now new → k < length told.cells
    → WalksTo pages old now before walk (leaf_places schema told.cells) (leaf_places schema (drop k told.cells))
    → HasVisited pages now walk (payload_places schema (cell_at told k)) new later
    → WalksTo pages old new before later (leaf_places schema told.cells) (leaf_places schema (drop (k + 1) told.cells))
payloads_more pages old now new before walk later schema told k one two less walks visited =
    walks_on pages old now new before walk later (leaf_places schema told.cells) (payload_places schema (cell_at told k)) (leaf_places schema (drop (k + 1) told.cells)) one two
    (subst (λ (l : List NodeCell). WalksTo pages old now before walk (leaf_places schema told.cells) (leaf_places schema l)) (drop_more told.cells k no_cell less) walks)
    visited.walks

pub payloads_bar : {P : Type 0} (pages : Ghosts P) (old now new : P) (before walk : Walk) (schema : Bool) (told : Node) (k : ℕ) (why : CheckFault)
    → ReadsAtMost pages old now → ReadsAtMost pages now new → k < length told.cells
    → WalksTo pages old now before walk (leaf_places schema told.cells) (leaf_places schema (drop k told.cells))
    → BarsVisit pages now new walk (payload_places schema (cell_at told k)) why → BarsVisit pages old new before (leaf_places schema told.cells) why
payloads_bar pages old now new before walk schema told k why one two less walks bars =
    bars_on pages old now new before walk (leaf_places schema told.cells) (payload_places schema (cell_at told k)) (leaf_places schema (drop (k + 1) told.cells)) why one two
    (subst (λ (l : List NodeCell). WalksTo pages old now before walk (leaf_places schema told.cells) (leaf_places schema l)) (drop_more told.cells k no_cell less) walks)
    bars

-- and those of all of them
pub payloads_end : {P : Type 0} (pages : Ghosts P) (old now : P) (before walk : Walk) (schema : Bool) (told : Node) (k : ℕ) → SuitsPages pages now walk → length told.cells ≤ k
    → WalksTo pages old now before walk (leaf_places schema told.cells) (leaf_places schema (drop k told.cells))
    → HasVisited pages old before (leaf_places schema told.cells) now walk
payloads_end pages old now before walk schema told k suits most walks = record {
  walks = subst (λ (l : List NodeCell). WalksTo pages old now before walk (leaf_places schema told.cells) (leaf_places schema l)) (drop_all k told.cells most) walks;
  suits = suits;
}

inner_split : (spot : Spot) (table : Bool) (before : Option ℤ) (cell : NodeCell) (cells : List NodeCell) (right : ℕ)
    → inner_places spot table before (cell ∷ cells) right ≡ cell_places spot table before cell ++ inner_places spot table (rowid_then table before cell.rowid) cells right
inner_split spot true before cell cells right = refl
inner_split spot false before cell cells right = refl

-- the children of the cells from one on, and the right child
abbrev pub places_from : Spot → Node → (k : ℕ) → (before : Option ℤ) → List Place
places_from spot told k before = inner_places spot (is_table told.kind) before (drop k told.cells) told.right

from_next : (spot : Spot) (told : Node) (k : ℕ) (before : Option ℤ) → k < length told.cells
    → places_from spot told k before
    ≡ cell_places spot (is_table told.kind) before (cell_at told k) ++ places_from spot told (k + 1) (rowid_then (is_table told.kind) before (cell_at told k).rowid)
from_next spot told k before less =
    ap (λ (l : List NodeCell). inner_places spot (is_table told.kind) before l told.right) (drop_more told.cells k no_cell less)
    ∙ inner_split spot (is_table told.kind) before (cell_at told k) (drop (k + 1) told.cells) told.right

-- the cells before one were visited
pub children_more : {P : Type 0} (pages : Ghosts P) (old now new : P) (start walk later : Walk) (spot : Spot) (kind : Kind) (told : Node) (k : ℕ) (before next : Option ℤ)
    → ReadsAtMost pages old now → ReadsAtMost pages now new → k < length told.cells → kind ≡ told.kind
    → next ≡ rowid_then (is_table told.kind) before (cell_at told k).rowid
    → WalksTo pages old now start walk (places_from spot told 0 spot.before) (places_from spot told k before)
    → HasVisited pages now walk (cell_places spot (is_table kind) before (cell_at told k)) new later
    → WalksTo pages old new start later (places_from spot told 0 spot.before) (places_from spot told (k + 1) next)
children_more pages old now new start walk later spot kind told k before next one two less kind_is next_is walks visited =
    subst (λ (b : Option ℤ). WalksTo pages old new start later (places_from spot told 0 spot.before) (places_from spot told (k + 1) b)) (sym next_is)
    (walks_on pages old now new start walk later (places_from spot told 0 spot.before) (cell_places spot (is_table told.kind) before (cell_at told k))
    (places_from spot told (k + 1) (rowid_then (is_table told.kind) before (cell_at told k).rowid)) one two
    (subst (λ (l : List Place). WalksTo pages old now start walk (places_from spot told 0 spot.before) l) (from_next spot told k before less) walks)
    (subst (λ (n : Kind). WalksTo pages now new walk later (cell_places spot (is_table n) before (cell_at told k)) []) kind_is visited.walks))

pub children_bar : {P : Type 0} (pages : Ghosts P) (old now new : P) (start walk : Walk) (spot : Spot) (kind : Kind) (told : Node) (k : ℕ) (before : Option ℤ) (why : CheckFault)
    → ReadsAtMost pages old now → ReadsAtMost pages now new → k < length told.cells → kind ≡ told.kind
    → WalksTo pages old now start walk (places_from spot told 0 spot.before) (places_from spot told k before)
    → BarsVisit pages now new walk (cell_places spot (is_table kind) before (cell_at told k)) why
    → BarsVisit pages old new start (places_from spot told 0 spot.before) why
children_bar pages old now new start walk spot kind told k before why one two less kind_is walks bars =
    bars_on pages old now new start walk (places_from spot told 0 spot.before) (cell_places spot (is_table told.kind) before (cell_at told k))
    (places_from spot told (k + 1) (rowid_then (is_table told.kind) before (cell_at told k).rowid)) why one two
    (subst (λ (l : List Place). WalksTo pages old now start walk (places_from spot told 0 spot.before) l) (from_next spot told k before less) walks)
    (subst (λ (n : Kind). BarsVisit pages now new walk (cell_places spot (is_table n) before (cell_at told k)) why) kind_is bars)

-- only the right child is left
right_left : {P : Type 0} (pages : Ghosts P) (old now : P) (start walk : Walk) (spot : Spot) (table : Bool) (told : Node) (k right : ℕ) (before : Option ℤ)
    → length told.cells ≤ k → table ≡ is_table told.kind → right ≡ told.right
    → WalksTo pages old now start walk (places_from spot told 0 spot.before) (places_from spot told k before)
    → WalksTo pages old now start walk (places_from spot told 0 spot.before) (node_place (child_spot spot table before spot.bound) right)
right_left pages old now start walk spot table told k right before most table_is right_is walks =
    subst (λ (b : Bool). WalksTo pages old now start walk (places_from spot told 0 spot.before) (node_place (child_spot spot b before spot.bound) right)) (sym table_is)
    (subst (λ (n : ℕ). WalksTo pages old now start walk (places_from spot told 0 spot.before) (node_place (child_spot spot (is_table told.kind) before spot.bound) n)) (sym right_is)
    (subst (λ (l : List NodeCell). WalksTo pages old now start walk (places_from spot told 0 spot.before) (inner_places spot (is_table told.kind) before l told.right))
    (drop_all k told.cells most) walks))

pub children_end : {P : Type 0} (pages : Ghosts P) (old now new : P) (start walk later : Walk) (spot : Spot) (table : Bool) (told : Node) (k right : ℕ) (before : Option ℤ)
    → ReadsAtMost pages old now → ReadsAtMost pages now new → length told.cells ≤ k → table ≡ is_table told.kind → right ≡ told.right
    → WalksTo pages old now start walk (places_from spot told 0 spot.before) (places_from spot told k before)
    → HasVisited pages now walk (node_place (child_spot spot table before spot.bound) right) new later
    → HasVisited pages old start (places_from spot told 0 spot.before) new later
children_end pages old now new start walk later spot table told k right before one two most table_is right_is walks visited = record {
  walks = walks_then pages old now new start walk later (places_from spot told 0 spot.before) (node_place (child_spot spot table before spot.bound) right) [] one two
      (right_left pages old now start walk spot table told k right before most table_is right_is walks) visited.walks;
  suits = visited.suits;
}

pub right_bars : {P : Type 0} (pages : Ghosts P) (old now new : P) (start walk : Walk) (spot : Spot) (table : Bool) (told : Node) (k right : ℕ) (before : Option ℤ) (why : CheckFault)
    → ReadsAtMost pages old now → ReadsAtMost pages now new → length told.cells ≤ k → table ≡ is_table told.kind → right ≡ told.right
    → WalksTo pages old now start walk (places_from spot told 0 spot.before) (places_from spot told k before)
    → BarsVisit pages now new walk (node_place (child_spot spot table before spot.bound) right) why
    → BarsVisit pages old new start (places_from spot told 0 spot.before) why
right_bars pages old now new start walk spot table told k right before why one two most table_is right_is walks bars =
    bars_on pages old now new start walk (places_from spot told 0 spot.before) (node_place (child_spot spot table before spot.bound) right) [] why one two
    (right_left pages old now start walk spot table told k right before most table_is right_is walks) bars

-- the child of a cell
abbrev pub child_place : Spot → (table : Bool) → (before : Option ℤ) → NodeCell → List Place
child_place spot table before cell = node_place (child_spot spot table before (rowid_then table before cell.rowid)) cell.left

pub child_is : (spot child : Spot) (kind : Kind) (table : Bool) (before bound : Option ℤ) (rowid : ℤ) (left : ℕ) (told : NodeCell) → table ≡ is_table kind
    → rowid ≡ told.rowid → left ≡ told.left → bound ≡ rowid_then table before rowid → child ≡ child_spot spot table before bound
    → node_place child left ≡ child_place spot (is_table kind) before told
child_is spot child kind table before bound rowid left told table_is rowid_is left_is bound_is is =
    ap (λ (s : Spot). node_place s left) is
    ∙ ap (λ (b : Option ℤ). node_place (child_spot spot table before b) left) (bound_is ∙ ap (λ (n : ℤ). rowid_then table before n) rowid_is)
    ∙ ap (λ (b : Bool). node_place (child_spot spot b before (rowid_then b before told.rowid)) left) table_is
    ∙ ap (λ (n : ℕ). node_place (child_spot spot (is_table kind) before (rowid_then (is_table kind) before told.rowid)) n) left_is

-- in a table's tree a cell's child is all, in an index its payload comes behind it
pub places_table : (spot : Spot) (table : Bool) (before : Option ℤ) (cell : NodeCell) → table ≡ true → child_place spot table before cell ≡ cell_places spot table before cell
places_table spot true before cell is = refl
places_table spot false before cell is = cc

pub places_index : (spot : Spot) (table : Bool) (before : Option ℤ) (cell : NodeCell) → table ≡ false
    → child_place spot table before cell ++ payload_places false cell ≡ cell_places spot table before cell
places_index spot true before cell is = cc
places_index spot false before cell is = refl

-- the child comes first
pub places_child : (spot : Spot) (table : Bool) (before : Option ℤ) (cell : NodeCell)
    → (others : List Place) × (child_place spot table before cell ++ others ≡ cell_places spot table before cell)
places_child spot true before cell = ([], refl)
places_child spot false before cell = (payload_places false cell, refl)

pub visited_at : {P : Type 0} (pages : Ghosts P) (old new : P) (before walk : Walk) (xs ys : List Place) → xs ≡ ys → HasVisited pages old before xs new walk
    → HasVisited pages old before ys new walk
visited_at pages old new before walk xs ys same visited = subst (λ (l : List Place). HasVisited pages old before l new walk) same visited

pub bars_at : {P : Type 0} (pages : Ghosts P) (old new : P) (before : Walk) (xs ys : List Place) (why : CheckFault) → xs ≡ ys → BarsVisit pages old new before xs why
    → BarsVisit pages old new before ys why
bars_at pages old new before xs ys why same bars = subst (λ (l : List Place). BarsVisit pages old new before l why) same bars

-- the right child of a page that isn't a leaf is in range
pub right_range : (usable last now : ℕ) (first : Bool) (bytes : List ℕ) (read : Page) (told : Node) → now ≡ last → is_leaf read.kind ≡ false
    → ShowsNode usable last first bytes read told → (1 ≤ read.right) × (read.right ≤ now)
right_range usable last now first bytes read told same inner shows =
    let range = shows.right (ap (λ (kind : Kind). is_leaf kind) (sym shows.tells.kind) ∙ inner) in
    (omega (arith, range.0, shows.tells.right), omega (arith, range.1, shows.tells.right, same))

pub left_range : (last : ℕ) (kind : Kind) (bytes : List ℕ) (read : Cell) (told : NodeCell) → is_leaf kind ≡ false → ShowsCell last kind bytes read told
    → (1 ≤ read.left) × (read.left ≤ last)
left_range last kind bytes read told inner shows =
    let range = shows.names.child inner in
    (omega (arith, range.0, shows.tells.left), omega (arith, range.1, shows.tells.left))

-- room for a child's level
pub child_room : (spot child : Spot) (table : Bool) (before bound : Option ℤ) (size now n now_n : ℕ) → child ≡ child_spot spot table before bound → now ≡ size → now_n ≡ n
    → (41 - spot.level) * size ≤ n → (42 - child.level) * now ≤ now_n
child_room spot child table before bound size now n now_n is size_is n_is room =
    subst (λ (l : ℕ). (42 - l) * now ≤ now_n) (sym (ap (λ (s : Spot). s.level) is))
    (level_below spot.level now now_n (same_room (41 - spot.level) size now n now_n size_is n_is room))

pub child_level : (spot child : Spot) (table : Bool) (before bound : Option ℤ) → child ≡ child_spot spot table before bound → spot.level ≤ 40 → child.level ≤ 41
child_level spot child table before bound is low =
    let level : child.level ≡ spot.level + 1 = ap (λ (s : Spot). s.level) is in omega (arith, level, low)

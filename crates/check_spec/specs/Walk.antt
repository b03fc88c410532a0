-- The order in which the places of a database are looked at, which says which of several faults is the first: page 1's header, the freelist, page
-- 1's tree, and then the trees of the roots in the order of the schema rows, each depth first.
use Rattle.std.specs.Prelude.{◌≡◌, ℕ, ℤ, zero, suc, ◌+◌, ◌-◌, ◌<◌, ◌≤◌, ◌==◌, ◌⊎◌, if◌then◌else◌, Bool, true, false, IsTrue, List, [], ◌∷◌, ◌++◌, length, map, Option, None, Some}
use Rattle.page_spec.specs.Bytes.{u32_at}
use Rattle.page_spec.specs.Header.{fields_of}
use Rattle.page_spec.specs.View.{View}
use Rattle.node_spec.specs.Kinds.{is_leaf, is_table}
use Rattle.node_spec.specs.Cells.{NodeCell}
use Rattle.node_spec.specs.Nodes.{Node, node_of}
use Rattle.tree_spec.specs.Layout.{times, Item}
use Rattle.tree_spec.specs.Shown.{shown_by}
use Rattle.tree_spec.specs.Freelist.{trunk_in}
use Rattle.tree_spec.specs.Trees.{IsItem}
use Rattle.sound_spec.specs.Schema.{NamesRoot, with_root}
use Rattle.sound_spec.specs.Sound.{CountsPages}
use Rattle.check_spec.specs.Forms.{is_inside_or_none, trunk_fault, link_fault, node_fault, AreInOrder, BreaksOrder}
use Rattle.check_spec.specs.declared.fault.CheckFault.{CheckFault}
use Rattle.check_spec.specs.declared.spot.Spot.{Spot}
use Rattle.check_spec.specs.declared.fault.CheckFault.TheVariants as fault

-- a database as it is looked at
pub record Database : Type 0 where
  pub page_size : ℕ
  pub usable : ℕ
  pub last : ℕ
  pub view : View

-- the place of page 1, which is a table's, and of another root
abbrev pub schema_spot : Spot
schema_spot = record { schema = true; table = Some true; level = 0; before = None; bound = None }

abbrev pub root_spot : Spot
root_spot = record { schema = false; table = None; level = 0; before = None; bound = None }

-- A place at which the walk looks.
pub data Place : Type 0 where
  -- page 1's header
  AtHeader : Place
  -- a trunk of the freelist, a leaf that it lists, and the list's end
  AtTrunk : (page : ℕ) → Place
  AtLeaf : (page : ℕ) → Place
  AtEnd : Place
  -- a page of a tree, and the rowids of its cells
  AtNode : Spot → (page : ℕ) → Place
  AtRowids : Spot → (page : ℕ) → List NodeCell → Place
  -- a page of a chain of which so many bytes are to come
  AtLink : (page left : ℕ) → Place
  -- the schema row in a cell of page 1's tree
  AtRow : NodeCell → Place

abbrev pub trunk_places : ℕ → List Place
trunk_places zero = []
trunk_places (suc n) = AtTrunk (suc n) ∷ []

-- a chain of so many bytes from a page on
abbrev pub link_places : (page left : ℕ) → List Place
link_places page zero = []
link_places page (suc n) = AtLink page (suc n) ∷ []

-- what a cell leads to besides a child: its chain, and the schema row that is whole then
abbrev pub payload_places : (schema : Bool) → NodeCell → List Place
payload_places true cell = link_places cell.overflow (cell.payload - length cell.local) ++ AtRow cell ∷ []
payload_places false cell = link_places cell.overflow (cell.payload - length cell.local)

abbrev pub leaf_places : (schema : Bool) → List NodeCell → List Place
leaf_places schema [] = []
leaf_places schema (cell ∷ cells) = payload_places schema cell ++ leaf_places schema cells

-- a child's place, with the rowids that may stand under it
abbrev pub child_spot : Spot → (table : Bool) → (before bound : Option ℤ) → Spot
child_spot spot table before bound = record { schema = spot.schema; table = Some table; level = spot.level + 1; before = before; bound = bound }

-- Of an interior page: each child, in an index with the cell's own payload behind it, and last the right child.
abbrev pub inner_places : Spot → (table : Bool) → (before : Option ℤ) → List NodeCell → (right : ℕ) → List Place
inner_places spot table before [] right = AtNode (child_spot spot table before spot.bound) right ∷ []
inner_places spot true before (cell ∷ cells) right =
    AtNode (child_spot spot true before (Some cell.rowid)) cell.left ∷ inner_places spot true (Some cell.rowid) cells right
inner_places spot false before (cell ∷ cells) right =
    AtNode (child_spot spot false before before) cell.left ∷ (payload_places false cell ++ inner_places spot false before cells right)

abbrev pub rowid_places : (table : Bool) → Spot → (page : ℕ) → List NodeCell → List Place
rowid_places true spot page cells = AtRowids spot page cells ∷ []
rowid_places false spot page cells = []

-- what a page of a tree leads to: a leaf to its payloads and then to its rowids, an interior page to its rowids and then to its children
abbrev pub node_places : (leaf : Bool) → Spot → (page : ℕ) → Node → List Place
node_places true spot page node = leaf_places spot.schema node.cells ++ rowid_places (is_table node.kind) spot page node.cells
node_places false spot page node =
    rowid_places (is_table node.kind) spot page node.cells ++ inner_places spot (is_table node.kind) spot.before node.cells node.right

-- What went before: the pages that were met, and how deep the first leaf of the tree stands that is being walked, once one was met.
pub record Past : Type 0 where
  pub met : List ℕ
  pub leaves : Option ℕ

abbrev pub no_past : Past
no_past = record { met = []; leaves = None }

-- no leaf of a tree was met before its root
abbrev pub leaves_at : (level : ℕ) → Past → Option ℕ
leaves_at zero past = None
leaves_at (suc level) past = past.leaves

-- how deep the first leaf stands, once a page was met
abbrev pub leaves_then : (leaf : Bool) → (level : ℕ) → Past → Option ℕ
leaves_then true level past = Some level
leaves_then false level past = leaves_at level past

-- What a place leads to where it is in order: what has gone before then, the places behind it, and the root that it names.
pub record Onward : Type 0 where
  pub now : Past
  pub next : List Place
  pub named : List ℕ

abbrev pub leads_to : Past → List Place → Onward
leads_to now next = record { now = now; next = next; named = [] }

-- a page was met besides
abbrev pub with_met : Past → ℕ → Past
with_met past page = record past { met = past.met ++ page ∷ [] }

-- the bytes of a page
abbrev pub bytes_of : Database → ℕ → List ℕ
bytes_of db page = db.view page

-- A place is in order, after this past, and leads on so.
abbrev pub IsInOrder : Database → Past → Place → Onward → Type 0
IsInOrder db past AtHeader on =
    CountsPages db.page_size db.last (bytes_of db 1) × IsTrue (is_inside_or_none db.last (fields_of (bytes_of db 1)).first_trunk)
    × (on ≡ leads_to past (trunk_places (fields_of (bytes_of db 1)).first_trunk ++ (AtEnd ∷ AtNode schema_spot 1 ∷ [])))
IsInOrder db past (AtTrunk page) on =
    (times past.met page ≡ 0) × (trunk_fault db.usable db.last (bytes_of db page) ≡ None)
    × (on ≡ leads_to (with_met past page) (map AtLeaf (trunk_in (bytes_of db page)).leaves ++ trunk_places (trunk_in (bytes_of db page)).next))
IsInOrder db past (AtLeaf page) on = (times past.met page ≡ 0) × (on ≡ leads_to (with_met past page) [])
IsInOrder db past AtEnd on = (length past.met ≡ (fields_of (bytes_of db 1)).free_pages) × (on ≡ leads_to past [])
IsInOrder db past (AtNode spot page) on =
    (node : Node) × (times past.met page ≡ 0)
    × (node_fault db.usable db.last spot.table (leaves_at spot.level past) spot.level page (bytes_of db page) ≡ None)
    × (node_of db.usable (page == 1) (bytes_of db page) ≡ Some node)
    × (on ≡ leads_to (record { met = past.met ++ page ∷ []; leaves = leaves_then (is_leaf node.kind) spot.level past }) (node_places (is_leaf node.kind) spot page node))
IsInOrder db past (AtRowids spot page cells) on = AreInOrder spot.before spot.bound cells × (on ≡ leads_to past [])
IsInOrder db past (AtLink page left) on =
    (times past.met page ≡ 0) × (link_fault db.usable db.last left (bytes_of db page) ≡ None)
    × (on ≡ leads_to (with_met past page) (link_places (u32_at (bytes_of db page) 0) (left - (db.usable - 4))))
IsInOrder db past (AtRow cell) on =
    (item : Item) × (root : ℕ) × IsItem db.usable db.last (shown_by db.usable db.view) cell item × NamesRoot db.last item root
    × (on ≡ record { now = past; next = []; named = with_root root [] })

-- a page was met before, or it is met now and this field of it is the first that breaks
abbrev pub IsFaultyPage : Database → Past → (page : ℕ) → Option ℕ → CheckFault → Type 0
IsFaultyPage db past page field why = ((1 ≤ times past.met page) × (why ≡ fault.Twice page))
    ⊎ ((at : ℕ) × (times past.met page ≡ 0) × (field ≡ Some at) × (why ≡ fault.Page page at))

-- A place isn't in order, after this past, and this is what is told of it.
abbrev pub IsFaulty : Database → Past → Place → CheckFault → Type 0
IsFaulty db past AtHeader why =
    ((CountsPages db.page_size db.last (bytes_of db 1) → ⊥) × (why ≡ fault.Page 1 28))
    ⊎ (CountsPages db.page_size db.last (bytes_of db 1) × (is_inside_or_none db.last (fields_of (bytes_of db 1)).first_trunk ≡ false) × (why ≡ fault.Page 1 32))
IsFaulty db past (AtTrunk page) why = IsFaultyPage db past page (trunk_fault db.usable db.last (bytes_of db page)) why
IsFaulty db past (AtLeaf page) why = (1 ≤ times past.met page) × (why ≡ fault.Twice page)
IsFaulty db past AtEnd why = (length past.met ≡ (fields_of (bytes_of db 1)).free_pages → ⊥) × (why ≡ fault.Page 1 36)
IsFaulty db past (AtNode spot page) why =
    IsFaultyPage db past page (node_fault db.usable db.last spot.table (leaves_at spot.level past) spot.level page (bytes_of db page)) why
IsFaulty db past (AtRowids spot page cells) why = (k : ℕ) × BreaksOrder spot.before spot.bound cells k × (why ≡ fault.Order page k)
IsFaulty db past (AtLink page left) why = IsFaultyPage db past page (link_fault db.usable db.last left (bytes_of db page)) why
IsFaulty db past (AtRow cell) why =
    (item : Item) × IsItem db.usable db.last (shown_by db.usable db.view) cell item × ((root : ℕ) → NamesRoot db.last item root → ⊥)
    × (why ≡ fault.Schema cell.rowid)

-- These places are visited in order, each with all that it leads to before the next one; all is in order, and then this has gone before, and these
-- roots were named.
pub data Visits (db : Database) : Past → List Place → (done : Past) → (named : List ℕ) → Type 0 where
  rests : (past : Past) (places : List Place) (done : Past) (named : List ℕ) → places ≡ [] → done ≡ past → named ≡ [] → Visits db past places done named
  visits : (past : Past) (places : List Place) (done : Past) (named : List ℕ) (place : Place) (others : List Place) (on : Onward) (mid : Past) (inside behind : List ℕ)
      → places ≡ place ∷ others → named ≡ on.named ++ (inside ++ behind) → IsInOrder db past place on
      → Visits db on.now on.next mid inside → Visits db mid others done behind → Visits db past places done named

-- These places are visited in order, and this is the first fault that is met: at the first place; or in what that leads to; or behind all of it.
pub data Meets (db : Database) (why : CheckFault) : Past → List Place → Type 0 where
  meets_here : (past : Past) (places : List Place) (place : Place) (others : List Place) → places ≡ place ∷ others → IsFaulty db past place why
      → Meets db why past places
  meets_inside : (past : Past) (places : List Place) (place : Place) (others : List Place) (on : Onward)
      → places ≡ place ∷ others → IsInOrder db past place on → Meets db why on.now on.next → Meets db why past places
  meets_behind : (past : Past) (places : List Place) (place : Place) (others : List Place) (on : Onward) (mid : Past) (named : List ℕ)
      → places ≡ place ∷ others → IsInOrder db past place on → Visits db on.now on.next mid named → Meets db why mid others → Meets db why past places

-- the places of roots
abbrev pub root_places : List ℕ → List Place
root_places roots = map (AtNode root_spot) roots

-- The whole walk: page 1 with its freelist and its tree, which name these roots, and then their trees. These pages were met.
pub record WalksAll (db : Database) (roots met : List ℕ) : Type 0 where
  pub first : Past
  pub done : Past
  pub schema : Visits db no_past (AtHeader ∷ []) first roots
  pub trees : Visits db first (root_places roots) done []
  pub met_is : met ≡ done.met

-- This page is the least that isn't met on the whole walk.
pub record IsLost (db : Database) (page : ℕ) : Type 0 where
  pub roots : List ℕ
  pub met : List ℕ
  pub walk : WalksAll db roots met
  pub least : 2 ≤ page
  pub most : page ≤ db.last
  pub never : times met page ≡ 0
  pub others : (n : ℕ) → 2 ≤ n → n < page → 1 ≤ times met n

-- This is the first fault of a place that the walk meets: in page 1's part, or in the trees of the roots that its rows name.
abbrev pub MeetsFirst : Database → CheckFault → Type 0
MeetsFirst db why = Meets db why no_past (AtHeader ∷ [])
    ⊎ ((roots : List ℕ) × (first : Past) × Visits db no_past (AtHeader ∷ []) first roots × Meets db why first (root_places roots))

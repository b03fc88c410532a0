-- What stands when a tree is edited by a key, and why the edit is refused.
use Rattle.std.specs.Prelude.{◌≡◌, ◌⊎◌, ℕ, ◌+◌, ◌≤◌, ◌==◌, Bool, List, length, Some}
use Rattle.disk_face.specs.Faults.{Rose}
use Rattle.page_spec.specs.View.{View}
use Rattle.engine_spec.specs.declared.commits.FetchFault.{FetchFault}
use Rattle.engine_spec.specs.declared.commits.FetchFault.TheVariants as fault
use Rattle.page_face.specs.declared.pages_tells.PagesTells.{Ghosts}
use Rattle.page_face.specs.Pages.{BarsFresh}
use Rattle.node_spec.specs.Nodes.{Node}
use Rattle.page_form.specs.declared.page.Page.{Page}
use Rattle.page_form.specs.Reading.{Tells}
use Rattle.tree_spec.specs.Layout.{Item}
use Rattle.tree_spec.specs.Shown.{Shown}
use Rattle.tree_spec.specs.Trees.{IsTree}
use Rattle.overflow.specs.Following.{shown_over}
use Rattle.overflow.specs.Editing.{AreInUse}
use Rattle.tree_read.specs.Ways.{MayStand}
use Rattle.tree_read.specs.Looking.{IsNoRow}
use Rattle.tree_read.specs.Entries.{IsAmong}
use Rattle.tree_keys.specs.Keys.{Sought, OfRow, OfEntry, is_row}

-- A tree stands over a world: its own pages stand once each and none is free, and the freelist is in order.
pub record Stands {P : Type 0} (pages : Ghosts P) (at : P) (world : View) (table : Bool) (height root : ℕ) (own : List ℕ) (items : List Item) : Type 0 where
  pub neat : pages.neat at world
  pub tree : IsTree table (pages.usable at) (pages.last_page at) (shown_over pages at world) height root own items
  pub used : AreInUse pages at world own

-- Some world that is still told has such a tree at a page in range, so many levels below the root: at most 40 deep, where any page but the root has a cell.
pub record ThereStands {P : Type 0} (pages : Ghosts P) (old : P) (sought : Sought) (level page : ℕ) (items : List Item) (new : P) : Type 0 where
  pub world : View
  pub told : pages.tells new world
  pub least : 1 ≤ page
  pub most : page ≤ pages.last_page old
  pub height : ℕ
  pub low : level + height ≤ 40
  pub own : List ℕ
  pub stands : Stands pages old world (is_row sought) height page own items
  pub some : (page ≡ 1) ⊎ ((level ≡ 0) ⊎ (1 ≤ length stands.tree.node.cells))

-- an entry of an index is no row
abbrev pub HasNoRow : Sought → (usable last : ℕ) → Shown → List Item → Type 0
HasNoRow (OfRow rowid) usable last shown items = ⊥
HasNoRow (OfEntry entry) usable last shown items = (item : Item) × (IsAmong items item × IsNoRow usable last shown item)

-- Why an edit below a page was refused: the disk failed, memory ran out, or the database would be too large, where no page is to spare. Over a tree that stands no page is
-- corrupt, but where an entry of an index is no row.
abbrev pub BarsEdit : {P : Type 0} → Ghosts P → P → Sought → (level page : ℕ) → P → FetchFault → Type 0
BarsEdit pages old sought level page new fault.Disk = Rose (pages.faults old) (pages.faults new)
BarsEdit pages old sought level page new (fault.Corrupt named) = (items : List Item) (there : ThereStands pages old sought level page items new)
    → HasNoRow sought (pages.usable old) (pages.last_page old) (shown_over pages old there.world) items
BarsEdit pages old sought level page new (fault.Size count) =
    BarsFresh (pages.last_page new) (pages.page_size old) (pages.faults old) (pages.faults new) (fault.Size count)
    × ((items : List Item) (there : ThereStands pages old sought level page items new) → pages.spare new there.world → ⊥)
BarsEdit pages old sought level page new fault.Memory = Unit {0}

-- Bytes are at hand, with what was told of them: those of a page that may stand so many levels below the root, which shows this node over each world.
pub record IsAtHand {P : Type 0} (pages : Ghosts P) (at : P) (sought : Sought) (page level : ℕ) (bytes : List ℕ) (told : Page) (shown : Node) : Type 0 where
  pub tells : Tells (pages.usable at) (page == 1) bytes told shown
  pub may : MayStand (is_row sought) page level shown
  pub holds : (world : View) → pages.tells at world → (shown_over pages at world).node page ≡ Some shown

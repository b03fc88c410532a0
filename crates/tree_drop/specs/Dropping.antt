-- What giving up a whole tree makes of pages, and why it is refused.
use Rattle.std.specs.Prelude.{ℕ, ◌≤◌, Bool, List}
use Rattle.disk_face.specs.Faults.{Rose}
use Rattle.page_spec.specs.View.{View}
use Rattle.engine_spec.specs.declared.commits.FetchFault.{FetchFault}
use Rattle.engine_spec.specs.declared.commits.FetchFault.TheVariants as fault
use Rattle.page_face.specs.declared.pages_tells.PagesTells.{Ghosts}
use Rattle.tree_spec.specs.Layout.{Item}
use Rattle.tree_edit.specs.Editing.{EditsPages, giving}
use Rattle.tree_keys.specs.Standing.{Stands}

-- A tree was given up: over each world that is still told in which it stood, all its own pages were given up, which are its nodes and its payloads' chains, and
-- nothing else was done.
abbrev pub DropsTree : {P : Type 0} → Ghosts P → P → (table : Bool) → (root : ℕ) → P → Type 0
DropsTree pages old table root new = (world : View) → pages.tells new world → (height : ℕ) (own : List ℕ) (items : List Item)
    → Stands pages old world table height root own items → EditsPages pages (giving own) old new world

-- Over some world that is still told such a tree stands at a root in range, with at most 40 levels below it.
pub record ThereStandsTree {P : Type 0} (table : Bool) (pages : Ghosts P) (old : P) (root : ℕ) (new : P) : Type 0 where
  pub world : View
  pub told : pages.tells new world
  pub least : 1 ≤ root
  pub most : root ≤ pages.last_page old
  pub height : ℕ
  pub low : height ≤ 40
  pub own : List ℕ
  pub items : List Item
  pub stands : Stands pages old world table height root own items

-- Why a tree wasn't given up, or only in part: the disk failed, or memory ran out. Over a tree that stands no page is corrupt.
abbrev pub BarsDrop : {P : Type 0} → Ghosts P → P → (table : Bool) → (root : ℕ) → P → FetchFault → Type 0
BarsDrop pages old table root new fault.Disk = Rose (pages.faults old) (pages.faults new)
BarsDrop pages old table root new (fault.Corrupt named) = ThereStandsTree table pages old root new → ⊥
BarsDrop pages old table root new (fault.Size count) = ⊥
BarsDrop pages old table root new fault.Memory = Unit {0}

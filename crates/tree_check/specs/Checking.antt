-- What checking a whole database says: that it is sound, with its counts, or the first fault on the walk.
use Rattle.std.specs.Prelude.{◌≡◌, ℕ, ◌+◌, List, length}
use Rattle.disk_face.specs.Faults.{Rose}
use Rattle.page_spec.specs.View.{View}
use Rattle.tree_spec.specs.Layout.{Item}
use Rattle.page_face.specs.declared.pages_tells.PagesTells.{Ghosts}
use Rattle.sound_spec.specs.Sound.{IsSound}
use Rattle.check_spec.specs.declared.fault.CheckFault.{CheckFault}
use Rattle.check_spec.specs.declared.fault.CheckFault.TheVariants as fault
use Rattle.check_spec.specs.declared.fault.Count.{Count}
use Rattle.check_spec.specs.Walk.{Database, MeetsFirst, IsLost}

-- what the pages are over a world
abbrev pub database_over : {P : Type 0} → Ghosts P → P → View → Database
database_over pages at world = record {
  page_size = pages.page_size at;
  usable = pages.usable at;
  last = pages.last_page at;
  view = pages.over at world;
}

-- A database is sound and has so many pages, trees, page 1's among them, and free pages.
pub record IsCounted (db : Database) (count : Count) : Type 0 where
  pub roots : List ℕ
  pub used : List ℕ
  pub free : List ℕ
  pub rows : List Item
  pub sound : IsSound db.page_size db.usable db.last db.view roots used free rows
  pub pages_are : count.pages ≡ db.last
  pub trees_are : count.trees ≡ length roots + 1
  pub free_are : count.free ≡ length free

-- the pages show this fault: it is the first on the walk
abbrev pub IsShown : Database → CheckFault → Type 0
IsShown db (fault.Page page at) = MeetsFirst db (fault.Page page at)
IsShown db (fault.Schema rowid) = MeetsFirst db (fault.Schema rowid)
IsShown db (fault.Order page cell) = MeetsFirst db (fault.Order page cell)
IsShown db (fault.Twice page) = MeetsFirst db (fault.Twice page)
IsShown db (fault.Lost page) = IsLost db page
IsShown db fault.Disk = ⊥
IsShown db fault.Memory = ⊥

-- Why a check didn't go through: the pages show the fault in each world that is still told, or it comes from outside: the disk failed and counted it,
-- or memory ran out.
abbrev pub BarsCheck : {P : Type 0} → Ghosts P → P → P → CheckFault → Type 0
BarsCheck pages old new (fault.Page page at) = (world : View) → pages.tells new world → IsShown (database_over pages old world) (fault.Page page at)
BarsCheck pages old new (fault.Schema rowid) = (world : View) → pages.tells new world → IsShown (database_over pages old world) (fault.Schema rowid)
BarsCheck pages old new (fault.Order page cell) = (world : View) → pages.tells new world → IsShown (database_over pages old world) (fault.Order page cell)
BarsCheck pages old new (fault.Twice page) = (world : View) → pages.tells new world → IsShown (database_over pages old world) (fault.Twice page)
BarsCheck pages old new (fault.Lost page) = (world : View) → pages.tells new world → IsShown (database_over pages old world) (fault.Lost page)
BarsCheck pages old new fault.Disk = Rose (pages.faults old) (pages.faults new)
BarsCheck pages old new fault.Memory = Unit {0}

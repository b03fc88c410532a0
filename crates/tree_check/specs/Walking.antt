-- What each part of a walk promises: over each world that is still told, its places are visited, or this is the first fault that is met.
use Rattle.std.specs.Prelude.{◌≡◌, ℕ, ◌+◌, ◌/◌, ◌≤◌, List, [], ◌++◌, length}
use Rattle.disk_face.specs.Faults.{Rose}
use Rattle.page_spec.specs.View.{View}
use Rattle.tree_spec.specs.Layout.{times, Each}
use Rattle.page_face.specs.declared.pages_tells.PagesTells.{Ghosts}
use Rattle.check_spec.specs.declared.fault.CheckFault.{CheckFault}
use Rattle.check_spec.specs.declared.fault.CheckFault.TheVariants as fault
use Rattle.check_spec.specs.Walk.{Database, Place, Past, with_met, Visits, Meets}
use Rattle.tree_check.specs.Checking.{database_over}
use Rattle.tree_check.specs.Met.{met_up_to, ShowMet}
use Rattle.tree_check.specs.declared.walk.Walk.{Walk}

-- what a walk keeps is so of what went before
pub record KeepsPast (walk : Walk) (past : Past) : Type 0 where
  pub marks : ShowMet walk.marks.bits.items walk.last past.met
  pub leaves : walk.leaves ≡ past.leaves

-- A page was met, which wasn't before, so one more is. Nothing else changes.
pub record HasMet (before : Walk) (page : ℕ) (walk : Walk) : Type 0 where
  pub same : walk ≡ record before { marks = walk.marks }
  pub room : length walk.marks.bits.items ≡ length before.marks.bits.items
  pub was_not : (past : Past) → KeepsPast before past → times past.met page ≡ 0
  pub is_now : (past : Past) → KeepsPast before past → KeepsPast walk (with_met past page)
  pub counted : met_up_to walk.marks.bits.items before.last ≡ met_up_to before.marks.bits.items before.last + 1

-- a page was met before, and this is told
pub record HasMetBefore (before : Walk) (page : ℕ) (why : CheckFault) : Type 0 where
  pub told : why ≡ fault.Twice page
  pub was : (past : Past) → KeepsPast before past → 1 ≤ times past.met page

-- The walk has the sizes of the pages, a bit for each page, and roots in range.
pub record SuitsPages {P : Type 0} (pages : Ghosts P) (at : P) (walk : Walk) : Type 0 where
  pub ready : pages.ready at
  pub page_size : walk.page_size ≡ pages.page_size at
  pub usable : walk.usable ≡ pages.usable at
  pub last : walk.last ≡ pages.last_page at
  pub least : 480 ≤ walk.usable
  pub fits : walk.usable ≤ walk.page_size
  pub most : walk.page_size ≤ 65536
  pub room : length walk.marks.bits.items ≡ walk.last / 8 + 1
  pub roots : Each (λ root. (2 ≤ root) × (root ≤ walk.last)) walk.roots.items

-- Once the first of these places were visited, after which this has gone before, the rest is visited: whatever is said of visiting the rest is said
-- of visiting them all.
pub record Reaches (db : Database) (past : Past) (all : List Place) (mid : Past) (rest : List Place) (named : List ℕ) : Type 0 where
  pub visits : (done : Past) (more : List ℕ) → Visits db mid rest done more → Visits db past all done (named ++ more)
  pub meets : (why : CheckFault) → Meets db why mid rest → Meets db why past all

-- the walk has come so far, and has kept the roots that were named meanwhile
pub record ComesTo (db : Database) (walk : Walk) (roots : List ℕ) (past : Past) (all rest : List Place) : Type 0 where
  pub mid : Past
  pub named : List ℕ
  pub reaches : Reaches db past all mid rest named
  pub keeps : KeepsPast walk mid
  pub roots_are : walk.roots.items ≡ roots ++ named

-- over each world that is still told
abbrev pub WalksTo : {P : Type 0} → Ghosts P → (old now : P) → (before walk : Walk) → (all rest : List Place) → Type 0
WalksTo pages old now before walk all rest = (world : View) → pages.tells now world → (past : Past) → KeepsPast before past
    → ComesTo (database_over pages old world) walk before.roots.items past all rest

-- These places were visited.
pub record HasVisited {P : Type 0} (pages : Ghosts P) (old : P) (before : Walk) (places : List Place) (new : P) (walk : Walk) : Type 0 where
  pub walks : WalksTo pages old new before walk places []
  pub suits : SuitsPages pages new walk

-- this fault is the first that is met, over each world that is still told
abbrev pub MeetsOver : {P : Type 0} → Ghosts P → (old new : P) → Walk → List Place → CheckFault → Type 0
MeetsOver pages old new before places why = (world : View) → pages.tells new world → (past : Past) → KeepsPast before past
    → Meets (database_over pages old world) why past places

-- why these places weren't all visited: the pages show it, or it comes from outside
abbrev pub BarsVisit : {P : Type 0} → Ghosts P → (old new : P) → Walk → List Place → CheckFault → Type 0
BarsVisit pages old new before places (fault.Page page at) = MeetsOver pages old new before places (fault.Page page at)
BarsVisit pages old new before places (fault.Schema rowid) = MeetsOver pages old new before places (fault.Schema rowid)
BarsVisit pages old new before places (fault.Order page cell) = MeetsOver pages old new before places (fault.Order page cell)
BarsVisit pages old new before places (fault.Twice page) = MeetsOver pages old new before places (fault.Twice page)
BarsVisit pages old new before places (fault.Lost page) = ⊥
BarsVisit pages old new before places fault.Disk = Rose (pages.faults old) (pages.faults new)
BarsVisit pages old new before places fault.Memory = Unit {0}

-- a fault that says nothing of the pages: the disk failed and counted it, or memory ran out
abbrev pub ComesFromOutside : (before after : ℕ) → CheckFault → Type 0
ComesFromOutside before after (fault.Page page at) = ⊥
ComesFromOutside before after (fault.Schema rowid) = ⊥
ComesFromOutside before after (fault.Order page cell) = ⊥
ComesFromOutside before after (fault.Twice page) = ⊥
ComesFromOutside before after (fault.Lost page) = ⊥
ComesFromOutside before after fault.Disk = Rose before after
ComesFromOutside before after fault.Memory = Unit {0}

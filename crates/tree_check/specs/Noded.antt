-- What is told of a page of a tree that was met and read.
use Rattle.std.specs.Prelude.{◌≡◌, ℕ, ◌==◌, List, Some, None}
use Rattle.node_spec.specs.Kinds.{is_leaf}
use Rattle.node_spec.specs.Nodes.{Node}
use Rattle.page_form.specs.Reading.{Tells}
use Rattle.page_form.specs.declared.page.Page.{Page}
use Rattle.check_spec.specs.declared.fault.CheckFault.{CheckFault}
use Rattle.check_spec.specs.declared.fault.CheckFault.TheVariants as fault
use Rattle.check_spec.specs.declared.spot.Spot.{Spot}
use Rattle.check_spec.specs.Forms.{node_fault}
use Rattle.check_spec.specs.Walk.{Past, leaves_at, leaves_then}
use Rattle.tree_check.specs.declared.walk.Walk.{Walk}

-- The page's bytes show a node that is in order where it stands. Only how deep the first leaf stands may change.
pub record HasNode (before : Walk) (spot : Spot) (page : ℕ) (buf : List ℕ) (read : Page) (walk : Walk) : Type 0 where
  pub told : Node
  pub tells : Tells before.usable (page == 1) buf read told
  pub fits : (past : Past) → before.leaves ≡ past.leaves → node_fault before.usable before.last spot.table (leaves_at spot.level past) spot.level page buf ≡ None
  pub leaves : (past : Past) → before.leaves ≡ past.leaves → walk.leaves ≡ leaves_then (is_leaf told.kind) spot.level past
  pub same : walk ≡ record before { leaves = walk.leaves }

-- this field of the page is the first that breaks, or memory ran out
abbrev pub BarsNode : (before : Walk) → Spot → (page : ℕ) → List ℕ → CheckFault → Type 0
BarsNode before spot page buf (fault.Page number at) = (number ≡ page)
    × ((past : Past) → before.leaves ≡ past.leaves → node_fault before.usable before.last spot.table (leaves_at spot.level past) spot.level page buf ≡ Some at)
BarsNode before spot page buf (fault.Schema rowid) = ⊥
BarsNode before spot page buf (fault.Order number cell) = ⊥
BarsNode before spot page buf (fault.Twice number) = ⊥
BarsNode before spot page buf (fault.Lost number) = ⊥
BarsNode before spot page buf fault.Disk = ⊥
BarsNode before spot page buf fault.Memory = Unit {0}

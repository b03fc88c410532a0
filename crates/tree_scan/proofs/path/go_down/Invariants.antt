use Rattle.std.proofs.Common.{◌≡◌, ◌-◌, List, [], ◌∷◌, ◌++◌, length, Ok, true, false}
use Rattle.page_face.specs.Pages.{ReadsAtMost}
use Rattle.tree_scan.specs.Bounded.{of_table}
use Rattle.tree_scan.specs.Coming.{IsSpent}
use Rattle.tree_scan.specs.Reads.{HasWalked}
use Rattle.tree_scan.specs.Scanning.{AreLevels, KeepsComing}
use Rattle.tree_scan.specs.Seeking.{KeepsSought}
use Rattle.tree_scan.specs.declared.level.Level.{Level}
use Rattle.tree_scan.proofs.path.go_down.Given as goal

abbrev pub invariant-downs : goal.invariant-downs
invariant-downs g l = record {
  reading : ReadsAtMost g.P.PagesTells l.fn.pages l.pages;
  levels : AreLevels (of_table l.bounds) g.P.PagesTells l.pages l.levels.items;
  coming : l.seek ≡ false → KeepsComing (of_table l.bounds) g.P.PagesTells l.fn.pages l.fn.levels.items l.levels.items l.pages;
  sought : l.seek ≡ true → KeepsSought g.P.PagesTells l.fn.pages l.bounds l.fn.levels.items l.levels.items l.pages;
  walked : HasWalked {T = Unit {0}} l.seek l.bounds g.P.PagesTells l.fn.pages l.fn.levels.items l.levels.items (Ok tt) l.pages;
  left : l.seek ≡ false → ((above : List Level) (top : Level) → l.fn.levels.items ≡ above ++ top ∷ [] → IsSpent top → ⊥)
      → (above : List Level) (top : Level) → l.levels.items ≡ above ++ top ∷ [] → IsSpent top → ⊥;
  inner : (above : List Level) (top : Level) → l.levels.items ≡ above ++ top ∷ [] → top.at_cell ≡ false → IsSpent top → ⊥;
}

abbrev pub decreases-downs : goal.decreases-downs
decreases-downs g l = 41 - length l.levels.items

-- The parts in which a transaction's change is kept, each as it is and as it was at a mark.
use Rattle.std.specs.Prelude.{◌≡◌, ℕ, Bool, length, Contains, List, Option, IfSome}
use Rattle.engine_spec.specs.declared.commits.Mode.{Mode}
use Rattle.engine_spec.specs.declared.commits.Mode.TheVariants.{Plain}
use Rattle.engine_spec.specs.Change.{Change}
use Rattle.overlay.specs.declared.overlay.Mark.{Mark}
use Rattle.overlay.specs.Images.{TwoImages}
use Rattle.overlay.specs.FreedPages.{TwoSets}
use Rattle.overlay.specs.Overlay.{IsChangeInOrder}

-- the change as it is
abbrev pub change_now : Mode → ℕ → TwoImages → TwoImages → TwoSets → Bool → Change
change_now mode base changed fresh freed tail =
    record { mode = mode; base = base; changed = changed.now; fresh = fresh.now; freed = freed.now; tail = tail }

-- the change as it was at the mark
abbrev pub change_at : Mode → ℕ → TwoImages → TwoImages → TwoSets → Mark → Change
change_at mode base changed fresh freed mark =
    record { mode = mode; base = base; changed = changed.marked; fresh = fresh.marked; freed = freed.marked; tail = mark.tail }

-- what holds of the parts: both changes are in order, the counts of new pages are right, and a plain transaction has read page 1
pub record AreParts (mode : Mode) (base : ℕ) (changed fresh : TwoImages) (freed : TwoSets) (tail : Bool) (mark : Option Mark) (made : ℕ) (reads : List ℕ) : Type 0 where
  pub now : IsChangeInOrder (change_now mode base changed fresh freed tail)
  pub at_mark : IfSome mark (λ held. IsChangeInOrder (change_at mode base changed fresh freed held) × (held.made ≡ length fresh.marked))
  pub count : made ≡ length fresh.now
  pub first : mode ≡ Plain → Contains reads 1

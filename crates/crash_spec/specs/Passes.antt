-- A call takes a disk from one state to another, since an opening.
use Rattle.std.specs.Prelude.{Bool, true, false, Option}
use Rattle.disk_face.specs.Files.{Files}
use Rattle.disk_face.specs.Steps.{History}
use Rattle.crash_spec.specs.Opening.{Opening, Since}
use Rattle.crash_spec.specs.Moments.{AtEachMoment}

-- At each moment of the call whatever a crash may leave has the one, and after it the history since the opening has the other.
pub record Passes (opening : Opening) (Leaves : History → Files → Type 0) (Then : History → Type 0) (old new : Option History) : Type 0 where
  pub each_moment : AtEachMoment opening Leaves old new
  pub holds : Since opening.start Then new

-- what holds where a call was done, and nothing where it failed
abbrev pub WhereDone : Bool → (History → Type 0) → History → Type 0
WhereDone true P told = P told
WhereDone false P told = Unit {0}

-- the one holds where a call was done, and the other where it failed
abbrev pub ByAnswer : Bool → (History → Type 0) → (History → Type 0) → History → Type 0
ByAnswer true P Q told = P told
ByAnswer false P Q told = Q told

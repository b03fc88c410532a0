-- Frames that were appended and don't end a commit yet.
use Rattle.std.specs.Prelude.{◌≡◌, ℕ, Bool, List, Option}
use Rattle.disk_face.specs.Steps.{History}
use Rattle.log_spec.specs.Accept.{Frame, last_size}
use Rattle.page_spec.specs.PageMap.{PageMap}
use Rattle.crash_spec.specs.Opening.{Opening, Since}
use Rattle.crash_spec.specs.Passes.{Passes}
use Rattle.crash_spec.specs.Store.{StoreView, Holds}
use Rattle.engine_spec.specs.declared.commits.PageImage.{PageImage}
use Rattle.log_pair.specs.Pair.{PairView}
use Rattle.log_pair.specs.Appending.{LogStands, AppendsFrame}
use Rattle.log_pair.specs.Switch.{IsStoreOf}
use Rattle.log_commit.specs.Commit.{AreFramesOf, StandsAs, LeavesEither, MayCome, with_pending}

-- the store with these frames on their way, all of which are read, and none ends a commit
abbrev pub IsGrowing : Opening → StoreView → PairView → List Frame → History → Type 0
IsGrowing opening view pair more told =
    Holds opening (with_pending view more view.map) told × LogStands opening pair view.frames more told

-- whatever map is to come, a crash leaves the newest one or that
abbrev pub Grows : PairView → PairView → List Frame → Option History → Option History → Opening → StoreView → PageMap → Type 0
Grows pair later more old new opening view after =
    IsStoreOf pair view → Since opening.start (StandsAs opening view pair) old
    → Passes opening (LeavesEither opening view.map after) (IsGrowing opening view later more) old new

-- Frames of these pages were appended.
abbrev pub HasAppended : PairView → PairView → List PageImage → Option History → Option History → Type 0
HasAppended pair later images old new = (more : List Frame) × (last_size more ≡ 0) × AreFramesOf images more
    × ((opening : Opening) (view : StoreView) (after : PageMap) → Grows pair later more old new opening view after)

-- An append failed.
abbrev pub FailsToAppend : PairView → Option History → Option History → Type 0
FailsToAppend pair old new = (opening : Opening) (view : StoreView) (after : PageMap) → IsStoreOf pair view
    → Since opening.start (StandsAs opening view pair) old
    → Passes opening (LeavesEither opening view.map after) (MayCome opening view after) old new

-- A frame of the page was appended by one write, or that was refused; the commit that it ends has this size, 0 where it ends none.
abbrev pub AppendsImage : Bool → PairView → PairView → PageImage → ℕ → Option History → Option History → Type 0
AppendsImage ok pair later image size old new = (frame : Frame) × AppendsFrame ok pair later image.page size image.bytes old new frame

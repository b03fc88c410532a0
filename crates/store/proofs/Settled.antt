-- The writes of an opening that were not begun: what a crash leaves meanwhile.
use Rattle.std.proofs.Common.{[], Option}
use Rattle.disk_face.specs.Steps.{History}
use Rattle.crash_spec.specs.Opening.{Since}
use Rattle.crash_spec.specs.Passes.{Passes}
use Rattle.opening_spec.specs.Found.{OpeningView, FoundLog}
use Rattle.opening_spec.specs.States.{IsSyncing}
use Rattle.recover.specs.Ready.{LeavesSettling, first_map}
use Rattle.recover.specs.Seeing.{SeenView}
use Rattle.recover.specs.declared.setup.StoreKind.{StoreKind}
use Rattle.recover.proofs.Readying.{nothing_done}

pub nothing_settled : (kind : StoreKind) (seen : SeenView) (view : OpeningView) (one two : FoundLog) (old : Option History) → Since view.opening.start (IsSyncing view one two []) old
    → Passes view.opening (LeavesSettling view (first_map kind seen view.size view.map)) (λ told. Unit {0}) old old
nothing_settled kind seen view one two old h = nothing_done view (first_map kind seen view.size view.map) (λ told. Unit {0}) one two (λ told. tt) old h

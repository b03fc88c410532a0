use Rattle.std.proofs.Common.{length, ◌+◌, ◌-◌, ◌*◌, ◌≡◌, ◌≤◌, true}
use Rattle.std.specs.Prelude.{IfSome}
use Rattle.disk_face.specs.Stays.{OnlyWrites}
use Rattle.disk_face.specs.declared.disk.File.TheVariants.{Main}
use Rattle.disk_face.specs.Steps.{reads}
use Rattle.disk_face.specs.Told.{IsInside}
use Rattle.crash_spec.specs.Opening.{Since}
use Rattle.crash_spec.specs.Passes.{Passes}
use Rattle.opening_spec.specs.Found.{OpeningView, FoundLog}
use Rattle.opening_spec.specs.States.{IsWriting, LeavesMap}
use Rattle.recover.specs.Places.{ArePlacesOf, OnlyMain}
use Rattle.recover.proofs.pages.write_pages.Given as goal

abbrev pub invariant-loop-index : goal.invariant-loop-index
invariant-loop-index g l = record {
  within : l.index ≤ length l.places;
  room : length l.buf ≡ length l.fn.buf;
  only : OnlyMain (g.D.DiskTells.told l.fn.disk) (g.D.DiskTells.told l.disk);
  reached : IsInside (g.D.DiskTells.told l.disk) Main (l.index * length l.fn.buf) 0;
  moments : (view : OpeningView) (one two : FoundLog) → Since view.opening.start (IsWriting view one two 1) (g.D.DiskTells.told l.fn.disk) → length l.fn.buf ≡ view.size
      → IfSome (g.D.DiskTells.told l.fn.disk) (λ told. ArePlacesOf view one two (reads told) l.places × (length l.places ≤ length view.map))
      → Passes view.opening (LeavesMap view) (IsWriting view one two (l.index + 1)) (g.D.DiskTells.told l.fn.disk) (g.D.DiskTells.told l.disk);
  attached : g.D.DiskTells.attached l.disk ≡ true;
  stays : OnlyWrites g.D.DiskTells l.fn.disk l.disk;
  faults : g.D.DiskTells.faults l.disk ≡ g.D.DiskTells.faults l.fn.disk;
}

abbrev pub decreases-loop-index : goal.decreases-loop-index
decreases-loop-index g l = length l.places - l.index

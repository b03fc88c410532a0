use Rattle.std.proofs.Common.{length, ◌+◌, ◌-◌, ◌*◌, ◌≡◌, ◌≤◌, true, []}
use Rattle.disk_face.specs.Stays.{OnlyWrites}
use Rattle.disk_face.specs.declared.disk.File.TheVariants.{Main}
use Rattle.disk_face.specs.Told.{IsInside}
use Rattle.crash_spec.specs.Opening.{Since}
use Rattle.crash_spec.specs.Passes.{Passes}
use Rattle.opening_spec.specs.Found.{OpeningView, FoundLog}
use Rattle.opening_spec.specs.States.{IsWriting, LeavesMap}
use Rattle.recover.specs.NewPages.{first_then_zeros}
use Rattle.recover.specs.Founding.{HoldFrom}
use Rattle.recover.proofs.founding.write_first.Given as goal

abbrev pub invariant-loop-number : goal.invariant-loop-number
invariant-loop-number g l = record {
  from : 1 ≤ l.number;
  within : l.number ≤ l.pages + 1;
  room : length l.buf ≡ length l.fn.buf;
  bytes : l.buf ≡ first_then_zeros l.fn.buf l.number;
  reached : IsInside (g.D.DiskTells.told l.disk) Main ((l.number - 1) * length l.fn.buf) 0;
  moments : (view : OpeningView) (one two : FoundLog) → Since view.opening.start (IsWriting view one two 1) (g.D.DiskTells.told l.fn.disk) → length l.fn.buf ≡ view.size
      → two.frames ≡ [] → HoldFrom (first_then_zeros l.fn.buf) 1 one.frames → length one.frames ≡ l.pages → l.pages ≤ length view.map
      → Passes view.opening (LeavesMap view) (IsWriting view one two l.number) (g.D.DiskTells.told l.fn.disk) (g.D.DiskTells.told l.disk);
  attached : g.D.DiskTells.attached l.disk ≡ true;
  stays : OnlyWrites g.D.DiskTells l.fn.disk l.disk;
  faults : g.D.DiskTells.faults l.disk ≡ g.D.DiskTells.faults l.fn.disk;
}

abbrev pub decreases-loop-number : goal.decreases-loop-number
decreases-loop-number g l = l.pages + 1 - l.number

use Rattle.std.proofs.Common.{length, ◌-◌, ◌≡◌, ◌≤◌, true}
use Rattle.disk_face.specs.Stays.{OnlyWrites}
use Rattle.log_pair.specs.Pair.{current_header, written_frames}
use Rattle.log_pair.specs.Appending.{IsReached}
use Rattle.recover.specs.NewPages.{first_then_zeros}
use Rattle.recover.specs.Founding.{AppendsPages}
use Rattle.recover.proofs.founding.append_pages.Given as goal

abbrev pub invariant-loop-number : goal.invariant-loop-number
invariant-loop-number g l = record {
  from : 1 ≤ l.number;
  within : l.number ≤ l.pages;
  room : length l.buf ≡ length l.fn.buf;
  bytes : l.buf ≡ first_then_zeros l.fn.buf l.number;
  appended : AppendsPages l.fn.pair l.pair (first_then_zeros l.fn.buf) (l.number - 1) 0 (g.D.DiskTells.told l.fn.disk) (g.D.DiskTells.told l.disk);
  current : l.pair.current ≡ 1;
  header : current_header l.pair ≡ current_header l.fn.pair;
  counted : written_frames l.pair ≡ l.number - 1;
  reached : IsReached (g.D.DiskTells.told l.disk) l.pair;
  attached : g.D.DiskTells.attached l.disk ≡ true;
  stays : OnlyWrites g.D.DiskTells l.fn.disk l.disk;
  faults : g.D.DiskTells.faults l.disk ≡ g.D.DiskTells.faults l.fn.disk;
}

abbrev pub decreases-loop-number : goal.decreases-loop-number
decreases-loop-number g l = l.pages - l.number

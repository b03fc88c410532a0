use Rattle.std.proofs.Common.{length, take, ◌-◌, ◌≡◌, ◌≤◌, true}
use Rattle.disk_face.specs.Stays.{OnlyWrites}
use Rattle.log_pair.specs.Pair.{current_file, current_header}
use Rattle.log_pair.specs.Appending.{IsReached}
use Rattle.log_commit.specs.GoesBy.{GoesBy}
use Rattle.log_commit.specs.Commit.{SameElsewhere, IsCommitStep, with_appended}
use Rattle.log_commit.specs.Pages.{images_of}
use Rattle.log_commit.specs.Appended.{HasAppended}
use Rattle.log_commit.proofs.commit.append_pages.Given as goal

abbrev pub invariant-loop-index : goal.invariant-loop-index
invariant-loop-index g l = record {
  within : l.index ≤ length l.pages.order.now;
  appended : HasAppended l.fn.pair l.pair (take l.index (images_of l.pages)) (g.D.DiskTells.told l.fn.disk) (g.D.DiskTells.told l.disk);
  becomes : l.pair ≡ with_appended l.fn.pair l.pair;
  counted : l.pair.appended ≡ l.index;
  reached : IsReached (g.D.DiskTells.told l.disk) l.pair;
  steps : GoesBy (IsCommitStep (current_file l.fn.pair) (current_header l.fn.pair)) (g.D.DiskTells.told l.fn.disk) (g.D.DiskTells.told l.disk);
  elsewhere : SameElsewhere (current_file l.fn.pair) (g.D.DiskTells.told l.fn.disk) (g.D.DiskTells.told l.disk);
  stays : OnlyWrites g.D.DiskTells l.fn.disk l.disk;
  attached : g.D.DiskTells.attached l.disk ≡ true;
  faults : g.D.DiskTells.faults l.disk ≡ g.D.DiskTells.faults l.fn.disk;
}

abbrev pub decreases-loop-index : goal.decreases-loop-index
decreases-loop-index g l = length l.pages.order.now - l.index

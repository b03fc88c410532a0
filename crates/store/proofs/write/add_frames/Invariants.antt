use Rattle.std.proofs.Common.{◌≡◌, ◌-◌, ◌≤◌, ◌<◌, take, length}
use Rattle.wal_index.specs.Index.{log_in, SameOther}
use Rattle.store.specs.Writing.{HasAdded}
use Rattle.store.proofs.write.add_frames.Given as goal

abbrev pub invariant-frames : goal.invariant-frames
invariant-frames l = record {
  within : l.place ≤ length l.pages;
  added : HasAdded (log_in l.initial.index l.log) (take l.place l.pages) (log_in l.index l.log);
  other : SameOther l.initial.index l.log l.index;
  last : 0 < l.place → l.index.last ≡ l.log;
}

abbrev pub decreases-frames : goal.decreases-frames
decreases-frames l = length l.pages - l.place

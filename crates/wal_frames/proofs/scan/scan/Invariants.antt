use Rattle.std.proofs.Common.{◌≡◌, ◌≤◌, ◌-◌, List, true}
use Rattle.std.specs.Prelude.{IfSome}
use Rattle.disk_face.specs.Files.{content}
use Rattle.disk_face.specs.Steps.{reads}
use Rattle.log_spec.specs.Accept.{Frame, page_numbers}
use Rattle.log_spec.proofs.ScanLaws.{Scanned}
use Rattle.wal_frames.specs.Front.{words_of, fields_for}
use Rattle.disk_face.specs.Stays.{OnlyReads}
use Rattle.wal_frames.proofs.Kept.{Keeps}
use Rattle.wal_frames.proofs.scan.scan.Given as goal

abbrev pub invariant-loop-pages : goal.invariant-loop-pages
invariant-loop-pages g l = record {
  within : l.at ≤ l.fn.size;
  attached : g.D.DiskTells.attached l.disk ≡ true;
  stays : OnlyReads g.D.DiskTells l.fn.disk l.disk;
  faults : g.D.DiskTells.faults l.disk ≡ g.D.DiskTells.faults l.fn.disk;
  kept : Keeps l.pages.items l.kept l.kept_size (words_of l.kept_sum) (words_of l.fn.header.sum);
  scanned : IfSome (g.D.DiskTells.told l.fn.disk) (λ told. (frames : List Frame)
      × Scanned (content (reads told) l.fn.file) (fields_for l.fn.header) frames l.at (words_of l.sum) l.kept l.kept_size (words_of l.kept_sum)
      × (l.pages.items ≡ page_numbers frames));
}

abbrev pub decreases-loop-pages : goal.decreases-loop-pages
decreases-loop-pages g l = l.fn.size - l.at

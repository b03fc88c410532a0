-- What a crash of a disk in memory leaves is what a crash may leave.
use Rattle.std.proofs.Common.{ℕ, [], List, length, arith}
use Rattle.disk_face.specs.declared.disk.File.{File}
use Rattle.disk_face.specs.declared.disk.File.TheVariants.{Main, Log1, Log2}
use Rattle.disk_face.specs.Files.{content}
use Rattle.disk_face.specs.Steps.{History, reads}
use Rattle.disk_face.specs.Image.{IsFileImage, MayLeave, unsure}
use Rattle.disk_mem.specs.Crash.{marks_of, picked, unpicked, crashed}
use Rattle.disk_mem.proofs.Places.{places_at, sure_place}
use Rattle.disk_mem.proofs.Picked.{length-picked, picked_stands}
use Rattle.std.proofs.Common.{◌∙◌}

file_allowed : (told : History) (file : File) (pick : List ℕ) → IsFileImage (unsure [] told.steps) file (content (reads told) file) (picked (marks_of told file) (content (reads told) file) pick)
file_allowed told file pick = record {
  no_longer = omega (arith, length-picked (marks_of told file) (content (reads told) file) pick);
  reaches = λ place inside sure. omega (arith, length-picked (marks_of told file) (content (reads told) file) pick);
  sure = λ place inside sure. picked_stands (marks_of told file) (content (reads told) file) pick place
      (places_at (unsure [] told.steps) file (length (content (reads told) file)) place inside ∙ sure_place (unsure [] told.steps) file place sure);
}

pub crash_allowed : (told : History) (pick : List ℕ) → MayLeave [] told (reads (crashed told pick))
crash_allowed told pick Main = file_allowed told Main pick
crash_allowed told pick Log1 = file_allowed told Log1 (unpicked (marks_of told Main) pick)
crash_allowed told pick Log2 = file_allowed told Log2 (unpicked (marks_of told Log1) (unpicked (marks_of told Main) pick))

-- What going over to the other log does.
use Rattle.std.specs.Prelude.{◌≡◌, ◌⊎◌, ℕ, ◌+◌, ◌%◌, ◌^◌, if◌then◌else◌, Bool, true, false, List, [], Option}
use Rattle.disk_face.specs.declared.disk.File.{File}
use Rattle.disk_face.specs.declared.disk.File.TheVariants.{Main}
use Rattle.disk_face.specs.declared.step.Piece.{Piece}
use Rattle.disk_face.specs.declared.step.Step.TheVariants.{Wrote, Synced}
use Rattle.disk_face.specs.Files.{Files}
use Rattle.disk_face.specs.Steps.{History, after}
use Rattle.disk_face.specs.Told.{Refuses}
use Rattle.disk_face.specs.Image.{MayLeave}
use Rattle.log_spec.specs.Checksum.{Sum}
use Rattle.log_spec.specs.LogHeader.{LogFields, big_magic, own_version}
use Rattle.log_spec.specs.Written.{IsHeaderOf}
use Rattle.crash_spec.specs.Marks.{other_of}
use Rattle.crash_spec.specs.Opening.{Opening, Since}
use Rattle.crash_spec.specs.Passes.{Passes, ByAnswer}
use Rattle.crash_spec.specs.Logs.{IsWhole, IsOnDisk}
use Rattle.crash_spec.specs.Store.{StoreView, Holds, Leaves, MaySwitch}
use Rattle.wal_frames.specs.Found.{log_file}
use Rattle.log_pair.specs.Pair.{PairView, log_of, other_number, current_file, current_header, switched_pair}

-- The header that the other log gets: for the same pages, with the next generation, the first salt after the one that it had, this
-- second salt, and its words read with the most significant byte first.
abbrev pub next_header : PairView → ℕ → Sum → LogFields
next_header pair salt2 sum = record {
  magic = big_magic;
  version = own_version;
  page_size = (current_header pair).page_size;
  generation = (current_header pair).generation + 1;
  salt1 = ((log_of pair (other_number pair.current)).header.salt1 + 1) % 2 ^ 32;
  salt2 = salt2;
  sum = sum;
}

-- the file of the other log
abbrev pub other_file : PairView → File
other_file pair = log_file (other_number pair.current)

-- bytes for the front of a file
abbrev pub front_piece : File → List ℕ → Piece
front_piece file bytes = record { file = file; at = 0; bytes = bytes }

-- A write of the piece and a sync of its file were answered so: both were done; or the write was refused, and nothing was synced; or it
-- was done, and the sync failed.
abbrev pub WritesAndSyncs : Bool → Piece → Option History → Option History → Type 0
WritesAndSyncs true piece old new = new ≡ after (Synced piece.file) (after (Wrote piece) old)
WritesAndSyncs false piece old new = Refuses piece old new ⊎ (new ≡ after (Wrote piece) old)

-- a store on a disk whose current log is that of the pair, with nothing on its way
pub record IsStoreOf (pair : PairView) (view : StoreView) : Type 0 where
  pub current : view.current ≡ current_file pair
  pub header : view.header ≡ current_header pair
  pub sealed : view.pending ≡ []

-- the store whose current log is the other one, with this header and no frames
abbrev pub switched_view : StoreView → LogFields → StoreView
switched_view view header = record view { current = other_of view.current; header = header; older = view.header; frames = []; pending = []; other = view.frames }

-- the store is on the disk, and may go over to its other log with this header
abbrev pub MayGoOver : Opening → StoreView → List ℕ → History → Type 0
MayGoOver opening view bytes told = Holds opening view told × MaySwitch opening told view.current view.frames view.other view.size bytes

-- The other log's front may be torn. The current log and Main are as they were, and whatever a crash leaves recovers to the same map.
pub record MayBeTorn (opening : Opening) (view : StoreView) (told : History) : Type 0 where
  pub newest : IsOnDisk opening told view.current view.header view.frames []
  pub main : IsWhole opening told Main
  pub leaves : (image : Files) → MayLeave opening.before told image → Leaves opening view told image

-- Where the store could go over to its other log: at each moment a crash leaves its map. Then that log is the current one, and the map is
-- the same; or, where a call failed, the other log's front may be torn.
abbrev pub GoesOver : Bool → PairView → LogFields → List ℕ → Option History → Option History → Opening → StoreView → Type 0
GoesOver ok pair header bytes old new opening view =
    IsStoreOf pair view → Since opening.start (MayGoOver opening view bytes) old
    → Passes opening (Leaves opening view) (ByAnswer ok (Holds opening (switched_view view header)) (MayBeTorn opening view)) old new

-- These bytes, the other log's next header with this checksum, were written to its front by one write, and it was synced: it is the
-- current log, and has no frames. Or one of both calls failed, and the pair is as before.
pub record Switches (ok : Bool) (pair later : PairView) (salt2 : ℕ) (old new : Option History) (bytes : List ℕ) (sum : Sum) : Type 0 where
  pub is : IsHeaderOf (other_number pair.current) (next_header pair salt2 sum) bytes
  pub steps : WritesAndSyncs ok (front_piece (other_file pair) bytes) old new
  pub becomes : later ≡ (if ok then switched_pair pair (next_header pair salt2 sum) else pair)
  pub moments : (opening : Opening) (view : StoreView) → GoesOver ok pair (next_header pair salt2 sum) bytes old new opening view

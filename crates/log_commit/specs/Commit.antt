-- The frames of a commit, written to the current log of a store.
use Rattle.std.specs.Prelude.{◌≡◌, ◌⊎◌, ℕ, ◌+◌, ◌<◌, ◌≤◌, ◌==◌, if◌then◌else◌, Bool, true, false, List, [], ◌∷◌, ◌++◌, length, map, get_or, Contains, Option, Some, None}
use Rattle.disk_face.specs.declared.disk.File.{File}
use Rattle.disk_face.specs.declared.step.Step.{Step}
use Rattle.disk_face.specs.declared.step.Step.TheVariants.{Wrote, Refused, Synced}
use Rattle.disk_face.specs.Files.{Files, content}
use Rattle.disk_face.specs.Steps.{History, reads}
use Rattle.disk_face.specs.Image.{same_file}
use Rattle.page_spec.specs.Header.{fields_of, page_size_in}
use Rattle.page_spec.specs.PageMap.{PageMap, page_at}
use Rattle.log_spec.specs.LogHeader.{LogFields, header_size}
use Rattle.log_spec.specs.Accept.{Frame, page_number, page_of}
use Rattle.crash_spec.specs.Opening.{Opening, Since}
use Rattle.crash_spec.specs.Known.{IsWithoutChance}
use Rattle.crash_spec.specs.Passes.{Passes, ByAnswer}
use Rattle.crash_spec.specs.Logs.{HasSalts}
use Rattle.crash_spec.specs.Recovered.{pages_from, recovered}
use Rattle.crash_spec.specs.Store.{StoreView, Holds}
use Rattle.engine_spec.specs.declared.commits.PageImage.{PageImage}
use Rattle.log_pair.specs.Pair.{PairView, log_of, with_log, current_header}
use Rattle.log_pair.specs.Appending.{LogStands}
use Rattle.log_pair.specs.Switch.{IsStoreOf}

-- what stands for an image behind the end of a list
abbrev pub no_image : PageImage
no_image = record { page = 0; bytes = [] }

-- the images at these places, in this order
abbrev pub in_order : List PageImage → List ℕ → List PageImage
in_order changed [] = []
in_order changed (place ∷ order) = get_or changed place no_image ∷ in_order changed order

-- the frames hold these pages, one each, in their order
abbrev pub AreFramesOf : List PageImage → List Frame → Type 0
AreFramesOf [] [] = Unit {0}
AreFramesOf (image ∷ images) (frame ∷ frames) = (page_number frame ≡ image.page) × (page_of frame ≡ image.bytes) × AreFramesOf images frames
AreFramesOf [] (frame ∷ frames) = ⊥
AreFramesOf (image ∷ images) [] = ⊥

-- a page under some others: the last of them with its number, or what lies below
abbrev pub page_under : List PageImage → ℕ → List ℕ → List ℕ
page_under [] number below = below
page_under (image ∷ images) number below = page_under images number (if image.page == number then image.bytes else below)

-- the map with these pages over it, which then has this size
abbrev pub map_under : PageMap → List PageImage → ℕ → PageMap
map_under pages images size = pages_from (λ number. page_under images number (page_at pages number)) 1 size

-- The pages that a commit writes: page 1 is among them and names the page size, and each page behind the map's end is among them.
pub record FitsMap (view : StoreView) (images : List PageImage) (size : ℕ) : Type 0 where
  pub named : (below : List ℕ) → page_size_in (fields_of (page_under images 1 below)) ≡ view.size
  pub covers : (number : ℕ) → length view.map < number → number ≤ size → Contains (map (λ image. image.page) images) number

-- the store with these frames on their way, and the map that they make
abbrev pub with_pending : StoreView → List Frame → PageMap → StoreView
with_pending view more later = record view { pending = more; later = later }

-- the store with these frames in its log, and that map
abbrev pub with_frames : StoreView → List Frame → PageMap → StoreView
with_frames view more later = record view { frames = view.frames ++ more; pending = []; map = later }

-- the store is on the disk, and its current log is that of the pair
abbrev pub StandsAs : Opening → StoreView → PairView → History → Type 0
StandsAs opening view pair told = Holds opening view told × LogStands opening pair view.frames [] told

-- a crash leaves one of the two maps
abbrev pub LeavesEither : Opening → PageMap → PageMap → History → Files → Type 0
LeavesEither opening before after told image =
    IsWithoutChance opening told image → (recovered image ≡ before) ⊎ (recovered image ≡ after)

-- The commit is on the medium.
abbrev pub IsCommittedTo : Opening → StoreView → PairView → List Frame → PageMap → History → Type 0
IsCommittedTo opening view pair more later told =
    Holds opening (with_frames view more later) told × LogStands opening pair (view.frames ++ more) [] told

-- Some of it may be on its way.
abbrev pub MayCome : Opening → StoreView → PageMap → History → Type 0
MayCome opening view later told = (more : List Frame) × Holds opening (with_pending view more later) told

-- From the pair and the disk of the beginning: what a crash leaves at each moment, and the store after it.
abbrev pub WritesTo : Bool → PairView → PairView → List PageImage → ℕ → List Frame → Option History → Option History → Opening → StoreView → Type 0
WritesTo ok pair later images size more old new opening view =
    IsStoreOf pair view → FitsMap view images size → Since opening.start (StandsAs opening view pair) old
    → Passes opening (LeavesEither opening view.map (map_under view.map images size))
    (ByAnswer ok (IsCommittedTo opening view later more (map_under view.map images size)) (MayCome opening view (map_under view.map images size))) old new

-- the pair with so many frames more in its current log, and with this checksum behind them
abbrev pub with_more : PairView → ℕ → PairView → PairView
with_more pair count later =
    record (with_log pair pair.current (record { header = current_header pair; frames = (log_of pair pair.current).frames + count })) {
      appended = 0;
      sum = later.sum;
    }

-- the pair with frames appended that aren't sealed
abbrev pub with_appended : PairView → PairView → PairView
with_appended pair later = record pair { appended = later.appended; sum = later.sum }

-- the files but this one hold what they held
abbrev pub SameElsewhere : File → Option History → Option History → Type 0
SameElsewhere file None new = new ≡ None
SameElsewhere file (Some old) new =
    (told : History) × (new ≡ Some told) × ((other : File) → same_file file other ≡ false → content (reads told) other ≡ content (reads old) other)

-- a step of a commit: a frame with the header's salts is written to the file behind its header, or that is refused; or the file is synced
abbrev pub IsCommitStep : File → LogFields → Step → Type 0
IsCommitStep file header (Wrote piece) = (piece.file ≡ file) × (header_size ≤ piece.at) × HasSalts header piece.bytes
IsCommitStep file header (Refused piece left) =
    (piece.file ≡ file) × (header_size ≤ piece.at) × HasSalts header piece.bytes × (length left ≤ length piece.bytes)
IsCommitStep file header (Synced other) = other ≡ file

-- Frames of these pages were appended to the current log, the last of which ends a commit of this size, and sealed; or a call failed.
pub record WritesCommit (ok : Bool) (pair later : PairView) (images : List PageImage) (size : ℕ) (more : List Frame) (old new : Option History) : Type 0 where
  pub frames : ok ≡ true → AreFramesOf images more
  pub becomes : later ≡ (if ok then with_more pair (length images) later else with_appended pair later)
  pub moments : (opening : Opening) (view : StoreView) → WritesTo ok pair later images size more old new opening view

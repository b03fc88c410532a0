-- A log on a disk: what is on the medium, what is on its way, and what of it a crash may leave.
use Rattle.std.specs.Prelude.{◌≡◌, ◌≢◌, ◌⊎◌, ℕ, ◌+◌, ◌%◌, ◌^◌, ◌≤◌, ◌<◌, true, List, [], ◌++◌, length, take, Contains, All}
use Rattle.disk_face.specs.declared.disk.File.{File}
use Rattle.disk_face.specs.declared.step.Piece.{Piece}
use Rattle.disk_face.specs.declared.step.Step.{Step}
use Rattle.disk_face.specs.declared.step.Step.TheVariants.{Wrote, Refused, Synced}
use Rattle.disk_face.specs.Files.{Files, content}
use Rattle.disk_face.specs.Steps.{History, reads}
use Rattle.disk_face.specs.Image.{unsure, IsSure}
use Rattle.page_spec.specs.Bytes.{u32_at}
use Rattle.log_spec.specs.LogHeader.{LogFields, log_fields, is_signed, header_bytes, IsOurs}
use Rattle.log_spec.specs.Accept.{Frame, AreValidFrames, AreCommitted, sum_of_frames, last_size}
use Rattle.log_spec.specs.Frames.{accepted_frames, end_of}
use Rattle.crash_spec.specs.Marks.{IsLog, number_of, pieces_from}
use Rattle.crash_spec.specs.Opening.{Opening}
use Rattle.crash_spec.specs.Known.{known_pieces, IsWithoutChance}
use Rattle.crash_spec.specs.Recovered.{recovered, size_of_first}

-- all that reads give of a file is on the medium
abbrev pub IsWhole : Opening → History → File → Type 0
IsWhole opening told file = (place : ℕ) → place < length (content (reads told) file) → IsSure (unsure opening.before told.steps) file place

-- the bytes have the salts of the header where a frame has them
abbrev pub HasSalts : LogFields → List ℕ → Type 0
HasSalts header bytes = (u32_at bytes 8 ≡ header.salt1) × (u32_at bytes 12 ≡ header.salt2)

-- a piece of a log behind a place, with the header's salts, is one of these frames, each behind the one before
abbrev pub IsOneOf : File → LogFields → ℕ → List Frame → Piece → Type 0
IsOneOf log header end pending piece = piece.file ≡ log → end ≤ piece.at → HasSalts header piece.bytes → Contains (pieces_from log end pending) piece

-- Behind a place of a log no known piece has the header's salts but these, each behind the one before.
abbrev pub IsFresh : List Piece → File → LogFields → ℕ → List Frame → Type 0
IsFresh known log header end pending = All (IsOneOf log header end pending) known

-- The log is on the medium with its header, which is ours, and these frames. Behind them stands, whole, in part or not at all,
-- what was handed to writes since: the pending frames, of which only the last may end a commit.
pub record IsOnDisk (opening : Opening) (told : History) (log : File) (header : LogFields) (frames pending : List Frame) : Type 0 where
  pub is_log : IsLog log
  pub ours : IsOurs (number_of log) (content (reads told) log)
  pub same_header : log_fields (content (reads told) log) ≡ header
  pub committed : AreCommitted (content (reads told) log) frames
  pub long : end_of frames ≤ length (content (reads told) log)
  pub sure : (place : ℕ) → place < end_of frames → IsSure (unsure opening.before told.steps) log place
  pub valid : AreValidFrames header (sum_of_frames header header.sum frames) pending
  pub one_commit : (n : ℕ) → n < length pending → last_size (take n pending) ≡ 0
  pub fresh : IsFresh (known_pieces opening told) log header (end_of frames) pending

-- what a crash leaves of a log: its frames, or these and the pending ones where these end a commit
abbrev pub LeavesFrames : Opening → File → List Frame → List Frame → History → Files → Type 0
LeavesFrames opening log frames pending told image =
    IsWithoutChance opening told image
    → (accepted_frames (number_of log) (content image log) ≡ frames)
    ⊎ ((last_size pending ≢ 0) × (accepted_frames (number_of log) (content image log) ≡ frames ++ pending))

-- a piece at the front of the log that is signed has this header
abbrev pub HasHeader : File → List ℕ → Piece → Type 0
HasHeader log header piece = piece.file ≡ log → piece.at ≡ 0 → is_signed piece.bytes ≡ true → header_bytes piece.bytes ≡ header

-- one header alone is known at the front of the log
abbrev pub IsOnlyHeader : List Piece → File → List ℕ → Type 0
IsOnlyHeader known log header = All (HasHeader log header) known

-- a piece of the log behind its front has this first salt, or one that is at most so many behind
abbrev pub IsBehind : File → ℕ → ℕ → Piece → Type 0
IsBehind log salt most piece = piece.file ≡ log → 0 < piece.at → (n : ℕ) × (n ≤ most) × ((u32_at piece.bytes 8 + n) % 2 ^ 32 ≡ salt)

abbrev pub AreBehind : List Piece → File → ℕ → ℕ → Type 0
AreBehind known log salt most = All (IsBehind log salt most) known

-- a piece at the front of the log that is signed is a header that is ours
abbrev pub IsOursAt : File → Piece → Type 0
IsOursAt log piece = piece.file ≡ log → piece.at ≡ 0 → is_signed piece.bytes ≡ true → IsOurs (number_of log) piece.bytes

-- no log begins with a signed header that isn't ours, so that an opening refuses none as foreign
abbrev pub NoneForeign : Files → Type 0
NoneForeign files = (log : File) → IsLog log → is_signed (content files log) ≡ true → IsOurs (number_of log) (content files log)

-- each log with an accepted frame has a header of this page size
abbrev pub HaveSize : ℕ → Files → Type 0
HaveSize size files =
    (log : File) → IsLog log → (accepted_frames (number_of log) (content files log) ≡ [] → ⊥) → (log_fields (content files log)).page_size ≡ size

-- No log bars an opening of the files: none is foreign, and each with an accepted frame has the page size that page 1 of the recovered map
-- names, where that map has a page.
abbrev pub HaveOwnLogs : Files → Type 0
HaveOwnLogs files = NoneForeign files × (1 ≤ length (recovered files) → HaveSize (size_of_first (recovered files)) files)

-- a piece at the front of the log that is signed is a header with this page size
abbrev pub IsSizedAt : File → ℕ → Piece → Type 0
IsSizedAt log size piece = piece.file ≡ log → piece.at ≡ 0 → is_signed piece.bytes ≡ true → (log_fields piece.bytes).page_size ≡ size

-- a piece at the front of a log that is signed is a header that is ours and has this page size
abbrev pub IsOwnAt : ℕ → Piece → Type 0
IsOwnAt size piece = (log : File) → IsLog log → IsOursAt log piece × IsSizedAt log size piece

-- what a step hands to a write has P
abbrev pub Hands : (Piece → Type 0) → Step → Type 0
Hands P (Wrote piece) = P piece
Hands P (Refused piece left) = P piece
Hands P (Synced file) = Unit {0}

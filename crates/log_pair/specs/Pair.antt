-- The two logs of a store, as callers see them.
use Rattle.std.specs.Prelude.{◌≡◌, ◌⊎◌, ℕ, ◌+◌, ◌<◌, ◌==◌, ◌^◌, IsTrue, if◌then◌else◌}
use Rattle.disk_face.specs.declared.disk.File.{File}
use Rattle.disk_face.specs.declared.step.Piece.{Piece}
use Rattle.page_spec.specs.Header.{is_page_size}
use Rattle.log_spec.specs.Checksum.{Sum}
use Rattle.log_spec.specs.LogHeader.{LogFields, is_generation}
use Rattle.log_spec.specs.Accept.{Frame, sum_after}
use Rattle.log_spec.specs.Frames.{frame_place}
use Rattle.wal_frames.specs.Front.{words_of, fields_for}
use Rattle.wal_frames.specs.Found.{log_file}
use Rattle.wal_frames.specs.declared.header.LogHeader.{LogHeader}

-- One log: what its header tells, and how many frames it has.
pub record LogView : Type 0 where
  pub header : LogFields
  pub frames : ℕ

-- Both logs, the number of the current one, how many frames were appended to that one since it was sealed, and the checksum behind
-- all of its frames, these included.
pub record PairView : Type 0 where
  pub current : ℕ
  pub one : LogView
  pub two : LogView
  pub appended : ℕ
  pub sum : Sum

-- log 1 or log 2
abbrev pub log_of : PairView → ℕ → LogView
log_of pair log = if log == 1 then pair.one else pair.two

-- the number of the other log
abbrev pub other_number : ℕ → ℕ
other_number log = if log == 1 then 2 else 1

-- the file of the current log, and its header
abbrev pub current_file : PairView → File
current_file pair = log_file pair.current

abbrev pub current_header : PairView → LogFields
current_header pair = (log_of pair pair.current).header

-- how many frames were written to the current log, those that were appended since it was sealed included
abbrev pub written_frames : PairView → ℕ
written_frames pair = (log_of pair pair.current).frames + pair.appended

-- the place in the current log where the next frame goes
abbrev pub next_place : PairView → ℕ
next_place pair = frame_place (current_header pair) (written_frames pair)

-- a frame as the next piece of the current log
abbrev pub next_piece : PairView → Frame → Piece
next_piece pair frame = record { file = current_file pair; at = next_place pair; bytes = frame }

-- a log whose header is legal there
pub record IsLegalLog (log : ℕ) (view : LogView) : Type 0 where
  pub page_size : IsTrue (is_page_size view.header.page_size)
  pub generation : IsTrue (is_generation log view.header.generation)

-- What holds of every pair: both headers are legal, each in its log, and for pages of one size; and the frames can be counted.
pub record IsPair (pair : PairView) : Type 0 where
  pub which : (pair.current ≡ 1) ⊎ (pair.current ≡ 2)
  pub one : IsLegalLog 1 pair.one
  pub two : IsLegalLog 2 pair.two
  pub same_size : pair.two.header.page_size ≡ pair.one.header.page_size
  pub counted : written_frames pair < 2 ^ 32

-- a log with this header and no frames
abbrev pub new_log : LogHeader → LogView
new_log header = record { header = fields_for header; frames = 0 }

-- two logs that have their headers alone
abbrev pub new_pair : ℕ → LogHeader → LogHeader → PairView
new_pair current one two = record {
  current = current;
  one = new_log one;
  two = new_log two;
  appended = 0;
  sum = words_of (if current == 1 then one else two).sum;
}

-- a pair with another view of one log
abbrev pub with_log : PairView → ℕ → LogView → PairView
with_log pair log view = record pair { one = if log == 1 then view else pair.one; two = if log == 1 then pair.two else view }

-- a pair to which a frame was appended
abbrev pub with_frame : PairView → Frame → PairView
with_frame pair frame = record pair { appended = pair.appended + 1; sum = sum_after (current_header pair) pair.sum frame }

-- a pair whose appended frames are frames of the current log
abbrev pub sealed_pair : PairView → PairView
sealed_pair pair = record (with_log pair pair.current (record { header = current_header pair; frames = written_frames pair })) { appended = 0 }

-- a pair whose other log is current, with this header and no frames
abbrev pub switched_pair : PairView → LogFields → PairView
switched_pair pair header =
    record (with_log pair (other_number pair.current) (record { header = header; frames = 0 })) {
      current = other_number pair.current;
      sum = header.sum;
    }

-- What is told of a frame, in the types of this crate.
use Rattle.std.specs.Prelude.{◌≡◌, ◌≢◌, ℕ, ◌+◌, List, length, take, drop, Option, MatchOption}
use Rattle.page_spec.specs.Bytes.{u32_at}
use Rattle.log_spec.specs.Checksum.{Sum as Words}
use Rattle.log_spec.specs.Accept.{Frame, IsValidFrame, page_number, commit_size, sum_after}
use Rattle.wal_frames.specs.Front.{words_of, fields_for}
use Rattle.wal_frames.specs.declared.header.LogHeader.{LogHeader}
use Rattle.wal_frames.specs.declared.scan.FrameTold.{FrameTold}

-- the header of a frame has a page number, the salts of the log's header, and this checksum
pub record FitsHead (head : List ℕ) (header : LogHeader) (after : Words) : Type 0 where
  pub numbered : u32_at head 0 ≢ 0
  pub same_salt1 : u32_at head 8 ≡ header.salt1
  pub same_salt2 : u32_at head 12 ≡ header.salt2
  pub first_word : u32_at head 16 ≡ after.0
  pub second_word : u32_at head 20 ≡ after.1

-- a valid frame, and what it tells
pub record TellsFrame (header : LogHeader) (sum : Words) (frame : Frame) (told : FrameTold) : Type 0 where
  pub valid : IsValidFrame (fields_for header) sum frame
  pub page : told.page ≡ page_number frame
  pub size : told.size ≡ commit_size frame
  pub summed : words_of told.sum ≡ sum_after (fields_for header) sum frame

-- what is told of the bytes of a frame: nothing where they are no valid frame
abbrev pub TellsOf : LogHeader → Words → Frame → Option FrameTold → Type 0
TellsOf header sum frame found = MatchOption found (IsValidFrame (fields_for header) sum frame → ⊥) (λ told. TellsFrame header sum frame told)

-- what is told of the bytes from a place on: nothing where no valid frame stands there
abbrev pub NextOf : LogHeader → Words → List ℕ → ℕ → Option FrameTold → Type 0
NextOf header sum bytes at found = MatchOption found
    ((frame : Frame) → take (length frame) (drop at bytes) ≡ frame → IsValidFrame (fields_for header) sum frame → ⊥)
    (λ told. TellsFrame header sum (take (24 + header.page_size) (drop at bytes)) told)

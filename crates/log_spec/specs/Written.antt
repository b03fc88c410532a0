-- What is written to a log: a header and frames.
use Rattle.std.specs.Prelude.{◌≡◌, ℕ, List, length}
use Rattle.log_spec.specs.Checksum.{Sum}
use Rattle.log_spec.specs.LogHeader.{LogFields, log_fields, big_magic, header_size, IsOurs}
use Rattle.log_spec.specs.Accept.{Frame, IsValidFrame, page_number, commit_size, page_of}

-- A header that is written to log 1 or log 2: it is ours there, tells these fields, and its words are read with the most
-- significant byte first.
pub record IsHeaderOf (log : ℕ) (header : LogFields) (bytes : List ℕ) : Type 0 where
  pub whole : length bytes ≡ header_size
  pub ours : IsOurs log bytes
  pub told : log_fields bytes ≡ header
  pub big : header.magic ≡ big_magic

-- A frame that is written under a header, where the frames before it left this checksum: it is valid there, and holds this page
-- with these bytes. The size is that of the database after the commit that it ends, 0 where it ends none.
pub record IsFrameOf (header : LogFields) (sum : Sum) (page size : ℕ) (bytes : List ℕ) (frame : Frame) : Type 0 where
  pub valid : IsValidFrame header sum frame
  pub numbered : page_number frame ≡ page
  pub sized : commit_size frame ≡ size
  pub holds : page_of frame ≡ bytes

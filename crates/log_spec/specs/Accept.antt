-- The frames of a log that are accepted, said of the whole list of its bytes.
use Rattle.std.specs.Prelude.{◌≡◌, ◌≢◌, ℕ, ◌+◌, ◌≤◌, List, [], ◌∷◌, length, map, take, drop}
use Rattle.std.specs.List.{concat, fold}
use Rattle.page_spec.specs.Bytes.{u32_at}
use Rattle.log_spec.specs.Checksum.{Sum, checksum}
use Rattle.log_spec.specs.LogHeader.{LogFields, log_fields, is_big, IsOurs, header_size}

-- A frame is the bytes of its header, which has 24, and of a page.
abbrev pub Frame : Type 0
Frame = List ℕ

-- the number of the page that a frame holds
abbrev pub page_number : Frame → ℕ
page_number frame = u32_at frame 0

-- the size of the database in pages after the commit that the frame ends; 0 where it ends none
abbrev pub commit_size : Frame → ℕ
commit_size frame = u32_at frame 4

-- the bytes of its page
abbrev pub page_of : Frame → List ℕ
page_of frame = drop 24 frame

-- the checksum after a frame, which runs over its first 8 bytes and its page
abbrev pub sum_after : LogFields → Sum → Frame → Sum
sum_after header sum frame = checksum (is_big header) (checksum (is_big header) sum (take 8 frame)) (page_of frame)

-- a frame is valid under a header, where the frames before it left this checksum
pub record IsValidFrame (header : LogFields) (sum : Sum) (frame : Frame) : Type 0 where
  pub whole : length frame ≡ 24 + header.page_size
  pub numbered : page_number frame ≢ 0
  pub same_salt1 : u32_at frame 8 ≡ header.salt1
  pub same_salt2 : u32_at frame 12 ≡ header.salt2
  pub summed : (u32_at frame 16, u32_at frame 20) ≡ sum_after header sum frame

-- each frame is valid after those before it
abbrev pub AreValidFrames : LogFields → Sum → List Frame → Type 0
AreValidFrames header sum [] = Unit {0}
AreValidFrames header sum (frame ∷ rest) = IsValidFrame header sum frame × AreValidFrames header (sum_after header sum frame) rest

-- the checksum after all of some frames
abbrev pub sum_of_frames : LogFields → Sum → List Frame → Sum
sum_of_frames header sum frames = fold (sum_after header) sum frames

-- the commit size of the last frame, 0 where there is none
abbrev pub last_size : List Frame → ℕ
last_size frames = fold (λ size frame. commit_size frame) 0 frames

-- the numbers of the pages that the frames hold
abbrev pub page_numbers : List Frame → List ℕ
page_numbers frames = map page_number frames

-- the log's bytes go on, after their header, with these frames
abbrev pub AreThere : List ℕ → List Frame → Type 0
AreThere bytes frames = take (length (concat frames)) (drop header_size bytes) ≡ concat frames

-- the log's bytes go on with these frames, each is valid, and the last one, where there is one, ends a commit
pub record AreCommitted (bytes : List ℕ) (frames : List Frame) : Type 0 where
  pub there : AreThere bytes frames
  pub valid : AreValidFrames (log_fields bytes) (log_fields bytes).sum frames
  pub committed : frames ≢ [] → last_size frames ≢ 0

-- The frames that are accepted of the bytes of log 1 or log 2: none where its header isn't ours, and else the longest list of
-- frames that are committed.
pub record Accepted (log : ℕ) (bytes : List ℕ) (frames : List Frame) : Type 0 where
  pub ours : frames ≢ [] → IsOurs log bytes
  pub committed : AreCommitted bytes frames
  pub longest : (longer : List Frame) → IsOurs log bytes → AreCommitted bytes longer → length longer ≤ length frames

-- The frames of a log that are accepted, as a function of its bytes; and where frames stand.
use Rattle.std.specs.Prelude.{ℕ, zero, suc, ◌+◌, ◌*◌, Bool, true, false, not, ◌==◌, ◌&&◌, if◌then◌else◌, List, [], ◌∷◌, length, take, drop, is_none}
use Rattle.std.specs.List.{concat}
use Rattle.page_spec.specs.Bytes.{u32_at}
use Rattle.log_spec.specs.Checksum.{Sum}
use Rattle.log_spec.specs.LogHeader.{LogFields, log_fields, same_sum, is_signed, foreign_at, header_size}
use Rattle.log_spec.specs.Accept.{Frame, page_number, commit_size, sum_after}

-- how many bytes stand before the page in a frame
abbrev pub frame_head_size : ℕ
frame_head_size = 24

-- how many bytes each frame of a log has
abbrev pub frame_size : LogFields → ℕ
frame_size header = frame_head_size + header.page_size

-- the place behind so many frames of a log with pages of this size
abbrev pub place_behind : ℕ → ℕ → ℕ
place_behind page_size count = header_size + count * (frame_head_size + page_size)

-- the place of the frame that has so many before it, and so the place behind so many frames
abbrev pub frame_place : LogFields → ℕ → ℕ
frame_place header count = place_behind header.page_size count

-- the place behind a log's header and these frames
abbrev pub end_of : List Frame → ℕ
end_of frames = header_size + length (concat frames)

-- whether a frame is valid under a header, where the frames before it left this checksum
unfoldable pub is_valid_frame : LogFields → Sum → Frame → Bool
is_valid_frame header sum frame =
    length frame == frame_size header && not (page_number frame == 0) && u32_at frame 8 == header.salt1
    && u32_at frame 12 == header.salt2 && same_sum (u32_at frame 16, u32_at frame 20) (sum_after header sum frame)

-- the valid frames at the front of some bytes, at most so many
unfoldable pub valid_frames : ℕ → LogFields → Sum → List ℕ → List Frame
valid_frames zero header sum bytes = []
valid_frames (suc most) header sum bytes =
    let frame = take (frame_size header) bytes in
    if is_valid_frame header sum frame then frame ∷ valid_frames most header (sum_after header sum frame) (drop (frame_size header) bytes)
    else []

-- a frame before others that were kept: it is kept where one of these is, or where it ends a commit itself
abbrev pub kept_before : Bool → Frame → List Frame → List Frame
kept_before true frame [] = frame ∷ []
kept_before false frame [] = []
kept_before ends frame (next ∷ rest) = frame ∷ next ∷ rest

-- the frames up to the last that ends a commit
abbrev pub up_to_commit : List Frame → List Frame
up_to_commit [] = []
up_to_commit (frame ∷ rest) = kept_before (not (commit_size frame == 0)) frame (up_to_commit rest)

-- whether bytes begin with a header that is ours in log 1 or log 2
abbrev pub is_ours : ℕ → List ℕ → Bool
is_ours log bytes = is_signed bytes && is_none (foreign_at log (log_fields bytes))

-- the frames that are accepted of the bytes of log 1 or log 2
unfoldable pub accepted_frames : ℕ → List ℕ → List Frame
accepted_frames log bytes =
    if is_ours log bytes then up_to_commit (valid_frames (length bytes) (log_fields bytes) (log_fields bytes).sum (drop header_size bytes))
    else []

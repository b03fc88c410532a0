-- Where a page stands that is read.
use Rattle.std.specs.Prelude.{◌≡◌, ◌⊎◌, ℕ, ◌-◌, ◌*◌, ◌≤◌, List, length, Option, Some, None}
use Rattle.disk_face.specs.declared.disk.File.TheVariants.{Main}
use Rattle.disk_face.specs.Steps.{History}
use Rattle.disk_face.specs.Told.{IsInside, IsRead}
use Rattle.log_spec.specs.Accept.{Frame}
use Rattle.log_spec.specs.Frames.{frame_place, frame_size}
use Rattle.wal_frames.specs.Found.{log_file}
use Rattle.log_pair.specs.Pair.{PairView, log_of}
use Rattle.log_pair.specs.Appending.{HasFrames, IsPageOf}

-- the file reaches behind the page there, which has so many bytes
abbrev pub IsPlaceInside : Option History → PairView → (size page : ℕ) → Option (ℕ × ℕ) → Type 0
IsPlaceInside told pair size page None = IsInside told Main ((page - 1) * size) size
IsPlaceInside told pair size page (Some (log, frame)) =
    ((log ≡ 1) ⊎ (log ≡ 2)) × (1 ≤ frame) × (frame ≤ (log_of pair log).frames) × (size ≡ (log_of pair log).header.page_size)
    × IsInside told (log_file log) (frame_place (log_of pair log).header (frame - 1)) (frame_size (log_of pair log).header)

-- the bytes were read there
abbrev pub IsReadAt : Option History → PairView → (page : ℕ) → Option (ℕ × ℕ) → List ℕ → Type 0
IsReadAt told pair page None bytes = IsRead told Main ((page - 1) * length bytes) bytes
IsReadAt told pair page (Some (log, frame)) bytes =
    (frames : List Frame) → frame ≤ length frames → HasFrames told (log_file log) (log_of pair log).header frames → IsPageOf told frames frame bytes

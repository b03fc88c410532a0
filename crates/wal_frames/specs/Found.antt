-- What is found of a log's accepted frames, in the types of this crate.
use Rattle.std.specs.Prelude.{◌≡◌, ◌≢◌, ◌⊎◌, ◌↔◌, ℕ, ◌==◌, if◌then◌else◌, Bool, true, false, List, [], All, Result, Ok, Err}
use Rattle.disk_face.specs.declared.disk.File.{File}
use Rattle.disk_face.specs.declared.disk.File.TheVariants.{Log1, Log2}
use Rattle.log_spec.specs.Checksum.{Sum as Words}
use Rattle.wal_frames.specs.declared.header.Front.{Front}
use Rattle.wal_frames.specs.declared.header.Front.TheVariants.{Nothing, Foreign, Ours}
use Rattle.log_spec.specs.LogHeader.{log_fields, IsOurs}
use Rattle.log_spec.specs.Accept.{Frame, Accepted as IsAccepted, page_numbers, last_size, sum_of_frames}
use Rattle.wal_frames.specs.declared.found.ScanFault.{ScanFault}
use Rattle.wal_frames.specs.declared.found.ScanFault.TheVariants.{Disk, Memory}
use Rattle.wal_frames.specs.Front.{words_of, fields_for, front_of, IsLegalFront, IsOursFront}
use Rattle.wal_frames.specs.declared.header.LogHeader.{LogHeader}
use Rattle.wal_frames.specs.declared.found.Accepted.{Accepted}

-- the pages, the size and the checksum found are those of the accepted frames, where the bytes have this header and it is ours
abbrev pub FindsFrames : LogHeader → List ℕ → Accepted → Type 0
FindsFrames header bytes found =
    (log : ℕ) → IsOurs log bytes → fields_for header ≡ log_fields bytes
    → (frames : List Frame) × IsAccepted log bytes frames × (found.pages.items ≡ page_numbers frames) × (found.size ≡ last_size frames)
    × (words_of found.sum ≡ sum_of_frames (log_fields bytes) (log_fields bytes).sum frames)

-- the file of log 1 or log 2
abbrev pub log_file : ℕ → File
log_file log = if log == 1 then Log1 else Log2

-- the checksum from which that of the first frame goes on; 0, 0 without a header of ours
abbrev pub start_sum : Front → Words
start_sum Nothing = (0, 0)
start_sum (Foreign version at) = (0, 0)
start_sum (Ours header) = words_of header.sum

-- what was found is what the bytes of log 1 or log 2 begin with, and the pages, the size and the checksum of the accepted frames
pub record FindsAccepted (log : ℕ) (bytes : List ℕ) (found : Accepted) : Type 0 where
  pub front : found.front ≡ front_of log bytes
  pub frames : (frames : List Frame) × IsAccepted log bytes frames × (found.pages.items ≡ page_numbers frames) × (found.size ≡ last_size frames)
      × (words_of found.sum ≡ sum_of_frames (log_fields bytes) (start_sum (front_of log bytes)) frames)

-- What is found of log 1 or log 2, whatever the disk tells of its bytes: a header of ours is a legal one; without one there are no
-- pages; no page is numbered 0; the size is 0, and the checksum the one from which the first frame's goes on, exactly where there is
-- no page.
pub record IsLegal (log : ℕ) (found : Accepted) : Type 0 where
  pub front : IsLegalFront log found.front
  pub bare : (found.pages.items ≡ []) ⊎ IsOursFront found.front
  pub numbered : All (λ page. page ≢ 0) found.pages.items
  pub sized : (found.size ≡ 0) ↔ (found.pages.items ≡ [])
  pub summed : found.pages.items ≡ [] → words_of found.sum ≡ start_sum found.front

-- whether the disk did its part
abbrev pub is_disk_well : {T : Type 0} → Result T ScanFault → Bool
is_disk_well (Ok value) = true
is_disk_well (Err Memory) = true
is_disk_well (Err Disk) = false

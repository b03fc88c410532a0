-- What an opening finds: in each log its frames and its last first salt, and the map that these make over Main.
use Rattle.std.specs.Prelude.{◌≡◌, ◌⊎◌, ℕ, ◌+◌, ◌*◌, ◌%◌, ◌^◌, ◌<◌, ◌≤◌, max, nat_lt, if◌then◌else◌, List, [], ◌++◌, length, All, Bool}
use Rattle.disk_face.specs.declared.disk.File.{File}
use Rattle.disk_face.specs.declared.disk.File.TheVariants.{Main, Log1, Log2}
use Rattle.disk_face.specs.Files.{Files, content}
use Rattle.disk_face.specs.Steps.{History, reads}
use Rattle.page_spec.specs.Header.{pages_in}
use Rattle.page_spec.specs.PageMap.{PageMap, page_at}
use Rattle.log_spec.specs.LogHeader.{LogFields, log_fields, header_size, header_bytes, IsOurs}
use Rattle.log_spec.specs.Accept.{Frame, page_numbers}
use Rattle.log_spec.specs.Frames.{accepted_frames}
use Rattle.crash_spec.specs.Marks.{IsLog, number_of, other_of}
use Rattle.crash_spec.specs.Opening.{Opening}
use Rattle.crash_spec.specs.Known.{known_pieces}
use Rattle.crash_spec.specs.Logs.{IsOnDisk, IsOnlyHeader, AreBehind, IsOursAt}
use Rattle.crash_spec.specs.Recovered.{page_after_frames, main_page, overlaid}
use Rattle.crash_spec.specs.Store.{named_size}

-- What an opening knows of a log: its accepted frames, its last first salt, and how many headers it got since.
pub record FoundLog : Type 0 where
  pub frames : List Frame
  pub salt : ℕ
  pub most : ℕ

-- the log with its next header
abbrev pub next_log : FoundLog → FoundLog
next_log log = record { frames = []; salt = (log.salt + 1) % 2 ^ 32; most = log.most + 1 }

-- A log between two writes to it. These frames are accepted of it: of its bytes as they are, or by the premise on chance. Only the
-- header that stands at its front is known there, and what is known behind it has older salts.
pub record IsFound (opening : Opening) (told : History) (log : File) (has : FoundLog) : Type 0 where
  pub is_log : IsLog log
  pub accepted : (accepted_frames (number_of log) (content (reads told) log) ≡ has.frames) ⊎ ((header : LogFields) × IsOnDisk opening told log header has.frames [])
  pub only : IsOnlyHeader (known_pieces opening told) log (header_bytes (content (reads told) log))
  pub behind : AreBehind (known_pieces opening told) log has.salt has.most
  pub ours : All (IsOursAt log) (known_pieces opening told)

-- What an opening goes by: when it began, the page size, how long Main was, the map that is recovered, and whether that has this program's
-- versions.
pub record OpeningView : Type 0 where
  pub opening : Opening
  pub size : ℕ
  pub long : ℕ
  pub map : PageMap
  pub own : Bool

-- the frames of the log of lower generation, which lie below the other's, and those of the other
abbrev pub older_in : Files → FoundLog → FoundLog → List Frame
older_in files one two = if nat_lt (log_fields files.log1).generation (log_fields files.log2).generation then one.frames else two.frames

abbrev pub newer_in : Files → FoundLog → FoundLog → List Frame
newer_in files one two = if nat_lt (log_fields files.log1).generation (log_fields files.log2).generation then two.frames else one.frames

-- the map that these frames make over Main
abbrev pub map_in : Files → FoundLog → FoundLog → PageMap
map_in files one two = overlaid files.main (older_in files one two) (newer_in files one two)

-- the bytes that a page has in it
abbrev pub page_in : ℕ → Files → FoundLog → FoundLog → ℕ → List ℕ
page_in size files one two number = page_after_frames (newer_in files one two) number (page_after_frames (older_in files one two) number (main_page size files.main number))

-- each of the logs that has frames has a header of this page size
abbrev pub AreSized : ℕ → FoundLog → FoundLog → Files → Type 0
AreSized size one two files =
    ((one.frames ≡ [] → ⊥) → (log_fields files.log1).page_size ≡ size) × ((two.frames ≡ [] → ⊥) → (log_fields files.log2).page_size ≡ size)

-- nothing is there yet
abbrev pub IsEmpty : FoundLog → FoundLog → Files → Type 0
IsEmpty one two files = (one.frames ≡ []) × (two.frames ≡ []) × (files.main ≡ [])

-- the page size that page 1 names
abbrev pub size_named : Files → FoundLog → FoundLog → ℕ
size_named files one two = named_size files.main (older_in files one two) (newer_in files one two)

-- the numbers of the pages that a log holds
abbrev pub pages_held : FoundLog → FoundLog → List ℕ
pages_held one two = page_numbers one.frames ++ page_numbers two.frames

-- Page 1 of the map names the size of the map, for a file as long as Main is once the map was written to it; or no log has a frame.
abbrev pub NamesItsSize : OpeningView → FoundLog → FoundLog → Type 0
NamesItsSize view one two =
    ((one.frames ≡ []) × (two.frames ≡ []))
    ⊎ (pages_in (page_at view.map 1) (max view.long (length view.map * view.size)) ≡ length view.map)

-- what an opening knows of one of the logs, and its frames
abbrev pub found_log : File → FoundLog → FoundLog → FoundLog
found_log Log2 one two = two
found_log log one two = one

abbrev pub frames_in : File → FoundLog → FoundLog → List Frame
frames_in Main one two = []
frames_in Log1 one two = one.frames
frames_in Log2 one two = two.frames

-- log 1 and log 2, once this one has its next header
abbrev pub one_after : File → FoundLog → FoundLog
one_after Log1 one = next_log one
one_after log one = one

abbrev pub two_after : File → FoundLog → FoundLog
two_after Log2 two = next_log two
two_after log two = two

-- A header for the log: it is ours, its first salt is the next one, and its generation is at least the count of headers that the log then got.
pub record IsNextHeader (log : File) (has : FoundLog) (bytes : List ℕ) : Type 0 where
  pub is_log : IsLog log
  pub long : length bytes ≡ header_size
  pub ours : IsOurs (number_of log) bytes
  pub salt : (log_fields bytes).salt1 ≡ (has.salt + 1) % 2 ^ 32
  pub few : has.most + 1 < 2 ^ 32
  pub risen : has.most + 1 ≤ (log_fields bytes).generation

-- The log that gets its new header first: it has no frames, or the other log is the newer one.
pub record IsFirst (files : Files) (log : File) (one two : FoundLog) : Type 0 where
  pub is_log : IsLog log
  pub below : (frames_in log one two ≡ []) ⊎ (frames_in (other_of log) one two ≡ newer_in files one two)

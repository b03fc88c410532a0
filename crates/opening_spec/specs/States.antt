-- The states that a database's files pass while it is opened, each on the history since the opening began.
use Rattle.std.specs.Prelude.{◌≡◌, ◌≢◌, ◌⊎◌, ℕ, ◌-◌, ◌*◌, ◌≤◌, ◌<◌, ◌==◌, max, Bool, false, true, ◌&&◌, ◌||◌, List, [], ◌∷◌, length, take, All, Contains, Option, IfSome}
use Rattle.disk_face.specs.declared.disk.File.{File}
use Rattle.disk_face.specs.declared.disk.File.TheVariants.{Main, Log1, Log2}
use Rattle.disk_face.specs.declared.step.Piece.{Piece}
use Rattle.disk_face.specs.declared.step.Step.{Step}
use Rattle.disk_face.specs.declared.step.Step.TheVariants.{Wrote, Refused, Synced}
use Rattle.disk_face.specs.Files.{Files, content}
use Rattle.disk_face.specs.Steps.{History, reads}
use Rattle.disk_face.specs.Image.{unsure, IsSure, MayLeave, same_file}
use Rattle.page_spec.specs.Header.{fields_of, page_size_in}
use Rattle.page_spec.specs.PageMap.{PageMap}
use Rattle.log_spec.specs.LogHeader.{LogFields, header_bytes}
use Rattle.log_spec.specs.Accept.{Frame, last_size}
use Rattle.log_spec.specs.Frames.{is_ours}
use Rattle.crash_spec.specs.Marks.{other_of}
use Rattle.crash_spec.specs.Opening.{Opening, rebased}
use Rattle.crash_spec.specs.Known.{known_pieces, IsWithoutChance}
use Rattle.crash_spec.specs.Logs.{IsWhole, IsOnDisk, IsOnlyHeader, AreBehind, IsOursAt, NoneForeign, HaveSize}
use Rattle.crash_spec.specs.Recovered.{main_page, page_after_frames, overlaid, recovered}
use Rattle.crash_spec.specs.Store.{named_size, MainIsSure}
use Rattle.opening_spec.specs.Found.{FoundLog, IsFound, OpeningView, older_in, newer_in, map_in, AreSized, IsEmpty, size_named, pages_held, frames_in, one_after, two_after}

-- as the opening began, each log with an accepted frame had a header of the page size
abbrev pub HadSize : OpeningView → Type 0
HadSize view = HaveSize view.size (reads view.opening.start)

-- Main is no longer than it was as the opening began, or than the map; and log 2 has a header of ours only where it had one then, or where
-- the map has this program's versions.
abbrev pub KeepsTo : Opening → (size : ℕ) → (own : Bool) → PageMap → Files → Type 0
KeepsTo opening size own map files =
    (length files.main ≤ max (length (reads opening.start).main) (length map * size))
    × (is_ours 2 files.log2 ≡ true → (own ≡ true) ⊎ (is_ours 2 (reads opening.start).log2 ≡ true))

-- log 2 may have a header of ours
abbrev pub MayBeOurs : OpeningView → Type 0
MayBeOurs view = (view.own ≡ true) ⊎ (is_ours 2 (reads view.opening.start).log2 ≡ true)

-- The logs have these frames, and Main is on the medium but for pages that they hold. The view's map is what is recovered.
pub record IsOpened (view : OpeningView) (one two : FoundLog) (told : History) : Type 0 where
  pub log1 : IsFound view.opening told Log1 one
  pub log2 : IsFound view.opening told Log2 two
  pub main : MainIsSure view.opening told view.size (pages_held one two)
  pub fits : IsEmpty one two (reads told) ⊎ ((100 ≤ view.size) × (size_named (reads told) one two ≡ view.size))
  pub is : map_in (reads told) one two ≡ view.map
  pub sizes : HadSize view → AreSized view.size one two (reads told)
  pub keeps : KeepsTo view.opening view.size view.own view.map (reads told)

-- what a crash may leave now, it may have left at the start, and it met the premise on chance then
abbrev pub LeftAtStart : OpeningView → History → Files → Type 0
LeftAtStart view told image =
    IsWithoutChance view.opening told image
    → MayLeave view.opening.before (rebased view.opening.start []) image × IsWithoutChance view.opening (rebased view.opening.start []) image

-- the file was synced in one of these steps
abbrev pub was_synced : File → List Step → Bool
was_synced file [] = false
was_synced file (Wrote piece ∷ steps) = was_synced file steps
was_synced file (Refused piece left ∷ steps) = was_synced file steps
was_synced file (Synced other ∷ steps) = same_file other file || was_synced file steps

-- the file was empty at first, or it was synced since
abbrev pub is_on_medium : File → History → Bool
is_on_medium file told = length (content told.first file) == 0 || was_synced file told.steps

-- each log that isn't empty was synced
abbrev pub all_synced : History → Bool
all_synced told = is_on_medium Log1 told && is_on_medium Log2 told

-- First state: the logs are being synced. Of these all is on the medium.
pub record IsSyncing (view : OpeningView) (one two : FoundLog) (synced : List File) (told : History) : Type 0 where
  pub opened : IsOpened view one two told
  pub fewer : (image : Files) → MayLeave view.opening.before told image → LeftAtStart view told image
  pub whole : (log : File) → Contains synced log → IsWhole view.opening told log
  pub each : (log : File) → is_on_medium log told ≡ true → IsWhole view.opening told log

-- Second state: both logs are on the medium. Pages that they hold are being written to Main.
pub record AreSynced (view : OpeningView) (one two : FoundLog) (told : History) : Type 0 where
  pub opened : IsOpened view one two told
  pub whole1 : IsWhole view.opening told Log1
  pub whole2 : IsWhole view.opening told Log2

-- no log of an image bars the next opening: none is foreign, and where it was so as the opening began, each with an accepted frame has the
-- page size
abbrev pub LeavesLogs : OpeningView → Files → Type 0
LeavesLogs view image = NoneForeign image × (HadSize view → HaveSize view.size image)

-- what a crash leaves then: it recovers to the map, is no longer than that, and no log of it bars the next opening
abbrev pub LeavesMap : OpeningView → History → Files → Type 0
LeavesMap view told image =
    IsWithoutChance view.opening told image
    → ((recovered image ≡ view.map) × KeepsTo view.opening view.size view.own view.map image) × LeavesLogs view image

-- What a crash leaves during an opening recovers to the map; or a log that isn't empty wasn't synced yet, and the crash leaves what it
-- might have left at the start.
abbrev pub LeavesOpening : OpeningView → History → Files → Type 0
LeavesOpening view told image = LeavesMap view told image ⊎ ((all_synced told ≡ false) × LeftAtStart view told image)

-- laying the frames over Main leaves its pages below a number: they were written
abbrev pub AreLaid : ℕ → List ℕ → List Frame → List Frame → ℕ → Type 0
AreLaid size main older newer next =
    (number : ℕ) → 1 ≤ number → number < next
    → page_after_frames newer number (page_after_frames older number (main_page size main number)) ≡ main_page size main number

-- the piece that is a page of Main
abbrev pub page_piece : ℕ → ℕ → List ℕ → Piece
page_piece number size bytes = record { file = Main; at = (number - 1) * size; bytes = bytes }

-- Second state, where the pages below a number were written: Main reaches to that page, or is as long as it was.
pub record IsWriting (view : OpeningView) (one two : FoundLog) (next : ℕ) (told : History) : Type 0 where
  pub synced : AreSynced view one two told
  pub laid : AreLaid view.size (reads told).main (older_in (reads told) one two) (newer_in (reads told) one two) next
  pub long : length (reads told).main ≡ max view.long ((next - 1) * view.size)

-- The same, and all of Main is on the medium.
pub record IsLaidDown (view : OpeningView) (one two : FoundLog) (next : ℕ) (told : History) : Type 0 where
  pub writing : IsWriting view one two next told
  pub main : IsWhole view.opening told Main

-- Third state: all is on the medium, and Main alone is the map.
pub record AreWritten (view : OpeningView) (one two : FoundLog) (told : History) : Type 0 where
  pub log1 : IsFound view.opening told Log1 one
  pub log2 : IsFound view.opening told Log2 two
  pub whole1 : IsWhole view.opening told Log1
  pub whole2 : IsWhole view.opening told Log2
  pub main : IsWhole view.opening told Main
  pub fits : ((reads told).main ≡ []) ⊎ ((100 ≤ view.size) × (page_size_in (fields_of (take 100 (reads told).main)) ≡ view.size))
  pub is : map_in (reads told) one two ≡ view.map
  pub bare : overlaid (reads told).main [] [] ≡ view.map
  pub sizes : HadSize view → AreSized view.size one two (reads told)
  pub keeps : KeepsTo view.opening view.size view.own view.map (reads told)

-- a log may get a new header: without its frames the map is the same
abbrev pub MayReset : OpeningView → File → FoundLog → FoundLog → History → Type 0
MayReset view log one two told = overlaid (reads told).main [] (frames_in (other_of log) one two) ≡ view.map

-- A log has its new header on the medium, and nothing behind it counts.
pub record IsReset (view : OpeningView) (log : File) (header : LogFields) (told : History) : Type 0 where
  pub on : IsOnDisk view.opening told log header [] []
  pub sure : (place : ℕ) → IsSure (unsure view.opening.before told.steps) log place

-- Third state, where a log may get its new header. The other log may have its one.
pub record IsResetting (view : OpeningView) (log : File) (one two : FoundLog) (beside : Option LogFields) (told : History) : Type 0 where
  pub written : AreWritten view one two told
  pub may : MayReset view log one two told
  pub other : IfSome beside (λ header. IsReset view (other_of log) header told)

-- Third state, where the log has its new header, which is this one.
pub record HasReset (view : OpeningView) (log : File) (header : LogFields) (one two : FoundLog) (beside : Option LogFields) (told : History) : Type 0 where
  pub written : AreWritten view (one_after log one) (two_after log two) told
  pub ready : IsReset view log header told
  pub other : IfSome beside (λ header. IsReset view (other_of log) header told)

-- A new or migrated database: log 1 has its new header, and the frames of a first commit are on their way behind it. The other log has
-- no frame, and Main is on the medium. `later` is the map with that commit, whose pages have the page size.
pub record IsFounding (view : OpeningView) (later : PageMap) (header : LogFields) (pending : List Frame) (one two : FoundLog) (told : History) : Type 0 where
  pub log1 : IsOnDisk view.opening told Log1 header [] pending
  pub only : IsOnlyHeader (known_pieces view.opening told) Log1 (header_bytes (content (reads told) Log1))
  pub behind : AreBehind (known_pieces view.opening told) Log1 one.salt one.most
  pub ours : All (IsOursAt Log1) (known_pieces view.opening told)
  pub salt : header.salt1 ≡ one.salt
  pub paged : header.page_size ≡ view.size
  pub log2 : IsFound view.opening told Log2 two
  pub none : two.frames ≡ []
  pub whole2 : IsWhole view.opening told Log2
  pub main : IsWhole view.opening told Main
  pub is : overlaid (reads told).main [] [] ≡ view.map
  pub lies : last_size pending ≢ 0 → overlaid (reads told).main [] pending ≡ later
  pub sized : last_size pending ≢ 0 → named_size (reads told).main [] pending ≡ view.size
  pub some_size : 100 ≤ view.size
  pub keeps : KeepsTo view.opening view.size view.own view.map (reads told)
  pub room : length (reads told).main ≤ max (length (reads view.opening.start).main) (length later * view.size)

-- what a crash leaves then: the map before, or the one that the commit makes
abbrev pub LeavesEither : OpeningView → PageMap → History → Files → Type 0
LeavesEither view later told image =
    IsWithoutChance view.opening told image
    → ((recovered image ≡ view.map) × KeepsTo view.opening view.size view.own view.map image
    ⊎ ((recovered image ≡ later) × KeepsTo view.opening view.size true later image)) × LeavesLogs view image

-- a log's last header is this one: it has the last first salt, and its generation is at least the count of headers that the log got
pub record IsLastHeader (has : FoundLog) (header : LogFields) : Type 0 where
  pub salt : header.salt1 ≡ has.salt
  pub few : has.most ≤ header.generation

-- Fourth state: both logs have new headers, and all is on the medium.
pub record IsSettled (view : OpeningView) (header older : LogFields) (told : History) : Type 0 where
  pub one : FoundLog
  pub two : FoundLog
  pub last1 : IsLastHeader one header
  pub last2 : IsLastHeader two older
  pub written : AreWritten view one two told
  pub log1 : IsReset view Log1 header told
  pub log2 : IsReset view Log2 older told

-- the headers of log 1 and of log 2, where one is that of this log, and one that of the other
abbrev pub header1_of : File → LogFields → LogFields → LogFields
header1_of Log1 here there = here
header1_of log here there = there

abbrev pub header2_of : File → LogFields → LogFields → LogFields
header2_of Log1 here there = there
header2_of log here there = here

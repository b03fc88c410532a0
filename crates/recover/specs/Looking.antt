-- What is read of a database's files before they are judged, where a page stands by the page numbers of both logs, and what bars an opening
-- by what was read.
use Rattle.std.specs.Prelude.{◌≡◌, ℕ, ◌+◌, ◌*◌, ◌-◌, ◌<◌, ◌≤◌, ◌==◌, max, nat_lt, nat_le, Bool, true, false, ◌&&◌, ◌||◌, not, if◌then◌else◌, List, [], ◌∷◌, length, take, drop, slice_index, slice_index_or, Option, Some, None, IfSome, Result, Ok, Err}
use Rattle.disk_face.specs.declared.disk.File.{File}
use Rattle.disk_face.specs.declared.disk.File.TheVariants.{Main, Log1, Log2}
use Rattle.disk_face.specs.Files.{Files, content}
use Rattle.disk_face.specs.Steps.{History, reads}
use Rattle.page_spec.specs.Header.{fields_of}
use Rattle.log_spec.specs.Frames.{place_behind, frame_head_size}
use Rattle.log_spec.specs.LogHeader.{last_generation}
use Rattle.db_header.specs.Header.{TellsHeader, IsTold, refusal}
use Rattle.wal_frames.specs.declared.header.Front.{Front}
use Rattle.wal_frames.specs.declared.header.Front.TheVariants.{Nothing, Foreign, Ours}
use Rattle.wal_frames.specs.declared.found.Accepted.{Accepted}
use Rattle.wal_frames.specs.Found.{FindsAccepted, IsLegal}
use Rattle.recover.specs.Headers.{generation_in}
use Rattle.recover.specs.Seeing.{is_new_in, header_fault, missing_fault, of_legacy, foreign_fault, of_size, is_some_list, first_fault, first_missing, higher_log, last_written, newest_of}
use Rattle.recover.specs.declared.place.Place.{Place}
use Rattle.recover.specs.declared.place.Place.TheVariants.{InMain, InLog}
use Rattle.recover.specs.declared.scan.First.{First}
use Rattle.recover.specs.declared.scan.Looked.{Looked}
use Rattle.recover.specs.declared.seen.LookFault.{LookFault}
use Rattle.recover.specs.declared.seen.LookFault.TheVariants.{Header, HotJournal, ForeignLog, Missing, Disk, Memory}

-- the page size of a log, 0 where it has no header of ours
abbrev pub page_size_of_log : Front → ℕ
page_size_of_log Nothing = 0
page_size_of_log (Foreign version at) = 0
page_size_of_log (Ours header) = header.page_size

-- the place of the page in the frame that has so many before it, in a log with pages of this size
abbrev pub page_place : ℕ → ℕ → ℕ
page_place size count = place_behind size count + frame_head_size

-- Where a page stands, by a log's page numbers from the frame on that has so many before it: in its last frame there, else where it stood
-- below.
abbrev pub place_after : File → ℕ → ℕ → List ℕ → ℕ → Place → Place
place_after log size count [] number below = below
place_after log size count (page ∷ rest) number below = place_after log size (count + 1) rest number (if page == number then InLog log (page_place size count) else below)

abbrev pub place_over : File → Accepted → ℕ → Place → Place
place_over log found number below = place_after log (page_size_of_log found.front) 0 found.pages.items number below

-- where a page stands: in the log of higher generation, else in the other, else in Main
abbrev pub place_in : Accepted → Accepted → ℕ → Place
place_in one two number =
    if nat_lt (generation_in one.front) (generation_in two.front) then place_over Log2 two number (place_over Log1 one number InMain)
    else place_over Log1 one number (place_over Log2 two number InMain)

-- whether a log has the page there, or Main is long enough to have it whole
abbrev pub is_whole_at : ℕ → ℕ → ℕ → Place → Bool
is_whole_at size main number InMain = nat_le (number * size) main
is_whole_at size main number (InLog file at) = true

-- The places are those of the pages from page 1 on.
abbrev pub ArePlaces : Accepted → Accepted → List Place → Type 0
ArePlaces one two places = (k : ℕ) (none : Place) → k < length places → slice_index_or places k none ≡ place_in one two (k + 1)

-- each place goes over to where its page stands in a log
abbrev pub AreOver : File → Accepted → List Place → List Place → Type 0
AreOver log found old new = (k : ℕ) (none : Place) → k < length old → slice_index_or new k none ≡ place_over log found (k + 1) (slice_index_or old k none)

-- the page of this number is whole where these places have it
abbrev pub is_whole_in : List Place → ℕ → ℕ → ℕ → Bool
is_whole_in places size main number = is_whole_at size main number (slice_index_or places (number - 1) InMain)

-- and where the logs have it
abbrev pub is_whole_by : Accepted → Accepted → ℕ → ℕ → ℕ → Bool
is_whole_by one two size main number = is_whole_at size main number (place_in one two number)

-- the first bytes of page 1, as many as there are up to one more than its header has
abbrev pub first_size : ℕ
first_size = 101

abbrev pub bytes_at : Files → Place → List ℕ
bytes_at files InMain = take first_size files.main
bytes_at files (InLog file at) = take first_size (drop at (content files file))

abbrev pub first_size_at : ℕ → Place → ℕ
first_size_at main InMain = if nat_lt main first_size then main else first_size
first_size_at main (InLog file at) = first_size

-- the file that has the page there, and where a page of this size and number begins
abbrev pub file_of : Place → File
file_of InMain = Main
file_of (InLog file at) = file

abbrev pub start_at : (size number : ℕ) → Place → ℕ
start_at size number InMain = (number - 1) * size
start_at size number (InLog file at) = at

-- the bytes of the page that stand there
abbrev pub page_there : Files → (size number : ℕ) → Place → List ℕ
page_there files size number place = take size (drop (start_at size number place) (content files (file_of place)))

-- a log has that many bytes of page 1 there
abbrev pub FitsFirst : Files → Place → Type 0
FitsFirst files InMain = Unit {0}
FitsFirst files (InLog file at) = at + first_size ≤ length (content files file)

-- the size in pages that page 1 names counts
abbrev pub size_counts : List ℕ → Bool
size_counts bytes = nat_lt 0 (fields_of bytes).pages && (fields_of bytes).change_counter == (fields_of bytes).valid_for

-- What is told of the first bytes of page 1, where Main is so long.
pub record TellsFirst (bytes : List ℕ) (main : ℕ) (first : First) : Type 0 where
  pub header : TellsHeader bytes main first.header
  pub counts : first.counts ≡ size_counts bytes
  pub byte : first.byte ≡ slice_index bytes 100

-- page 1 is told, or the database is new
abbrev pub IsPage1 : Files → Place → Option First → Type 0
IsPage1 files place None = is_new_in files ≡ true
IsPage1 files place (Some first) = (is_new_in files ≡ false) × TellsFirst (bytes_at files place) (length files.main) first

-- What was found of both logs is of these files.
pub record AreScanned (files : Files) (first second : Accepted) : Type 0 where
  pub one : FindsAccepted 1 files.log1 first
  pub two : FindsAccepted 2 files.log2 second

-- nothing is there yet, by what was read
abbrev pub is_new_read : Accepted → Accepted → ℕ → Bool
is_new_read one two main = main == 0 && not (is_some_list one.pages.items || is_some_list two.pages.items)

-- What was read is of these files.
pub record AreRead (files : Files) (looked : Looked) : Type 0 where
  pub logs : AreScanned files looked.one looked.two
  pub main : looked.main ≡ length files.main
  pub page1 : IsPage1 files (place_in looked.one looked.two 1) looked.page1

-- What holds of what was read, whatever the disk tells.
pub record AreLegal (first second : Accepted) : Type 0 where
  pub one : IsLegal 1 first
  pub two : IsLegal 2 second
  pub few1 : length first.pages.items ≤ 4294967295
  pub few2 : length second.pages.items ≤ 4294967295

pub record IsLegalLook (looked : Looked) : Type 0 where
  pub logs : AreLegal looked.one looked.two
  pub told : IfSome looked.page1 (λ first. IsTold first.header)

-- the size in pages after a log whose last commit has this size, 0 where it has none
abbrev pub size_over : ℕ → ℕ → ℕ
size_over size below = if size == 0 then below else size

-- the size in pages of the recovered map, where page 1 gives so many
abbrev pub pages_told : Accepted → Accepted → ℕ → ℕ
pages_told one two given =
    if nat_lt (generation_in one.front) (generation_in two.front) then size_over two.size (size_over one.size given) else size_over one.size (size_over two.size given)

-- the size in pages that page 1 names for Main, once it has so many
abbrev pub named_read : First → ℕ → ℕ
named_read first count = if first.counts then first.header.pages else max first.header.pages count

-- What bars an opening by what was read, in the order in which faults are told.

abbrev pub wal_read : Option First → Front → Option LookFault
wal_read None front = None
wal_read (Some first) front = if first.header.versions.0 == 2 && first.header.versions.1 == 2 then of_legacy front else None

abbrev pub size_read : Option First → Front → List ℕ → File → Option LookFault
size_read None front pages log = None
size_read (Some first) front pages log = if is_some_list pages then of_size front first.header.page_size log else None

-- an opening of it makes a commit of its own
abbrev pub founds_read : Option First → Bool
founds_read None = true
founds_read (Some first) = not (first.header.versions.0 == 3 && first.header.versions.1 == 3)

abbrev pub room_read : Option First → Front → Front → Option LookFault
room_read first one two =
    if nat_le (last_written (founds_read first) (newest_of one two)) last_generation then None
    else Some (ForeignLog (higher_log one two) 12)

-- what bars it by what the logs begin with
abbrev pub logs_read : Looked → Option LookFault
logs_read looked = first_fault (
    foreign_fault looked.one.front Log1
    ∷ foreign_fault looked.two.front Log2
    ∷ size_read looked.page1 looked.one.front looked.one.pages.items Log1
    ∷ size_read looked.page1 looked.two.front looked.two.pages.items Log2
    ∷ room_read looked.page1 looked.one.front looked.two.front
    ∷ [])

-- what bars it before pages are looked for, where the journal answers so
abbrev pub judged : Looked → Bool → Option LookFault
judged looked hot = first_fault (
    wal_read looked.page1 looked.one.front
    ∷ (if hot then Some HotJournal else None)
    ∷ logs_read looked
    ∷ [])

-- The fault is want of memory, or that the disk failed.
abbrev pub IsOutsideFault : LookFault → Type 0
IsOutsideFault Disk = Unit {0}
IsOutsideFault Memory = Unit {0}
IsOutsideFault fault = ⊥

-- The fault is one of those, or the one of the header.
abbrev pub IsHeaderFault : Option History → LookFault → Type 0
IsHeaderFault told Disk = Unit {0}
IsHeaderFault told Memory = Unit {0}
IsHeaderFault told fault = IfSome told (λ told. header_fault (reads told) ≡ Some fault)

-- the same of the first bytes of page 1, where it stands there and Main has so many bytes
abbrev pub IsFirstFault : Option History → Place → ℕ → LookFault → Type 0
IsFirstFault told place main Disk = Unit {0}
IsFirstFault told place main (Header fault) = IfSome told (λ told. refusal (bytes_at (reads told) place) main ≡ Some fault)
IsFirstFault told place main fault = ⊥

-- The fault is that the disk failed, or the one that was found.
abbrev pub IsJudged : Looked → Option Bool → LookFault → Type 0
IsJudged looked hot Disk = Unit {0}
IsJudged looked hot Memory = ⊥
IsJudged looked hot fault = IfSome hot (λ hot. judged looked hot ≡ Some fault)

-- The fault is want of memory, or the first page up to this size that isn't whole.
abbrev pub IsMissing : (ℕ → Bool) → ℕ → LookFault → Type 0
IsMissing held count Memory = Unit {0}
IsMissing held count (Missing page) = first_missing held 1 count ≡ Some page
IsMissing held count fault = ⊥

-- The fault is want of memory, or the first page of any files that this was read of that isn't there whole.
abbrev pub IsSeenFault : Looked → LookFault → Type 0
IsSeenFault looked Memory = Unit {0}
IsSeenFault looked (Missing page) = (files : Files) → AreRead files looked → missing_fault files ≡ Some (Missing page)
IsSeenFault looked fault = ⊥

-- with this fault no call on the disk has failed
abbrev pub keeps_count : LookFault → Bool
keeps_count Disk = false
keeps_count fault = true

-- the disk did its part
abbrev pub is_disk_fine : {T : Type 0} → Result T LookFault → Bool
is_disk_fine (Ok value) = true
is_disk_fine (Err fault) = keeps_count fault

-- What an opening sees of a database's files, and why it refuses them.
use Rattle.std.specs.List.{list_any}
use Rattle.std.specs.Prelude.{◌≡◌, ℕ, suc, ◌+◌, ◌-◌, ◌*◌, ◌%◌, ◌<◌, ◌≤◌, ◌==◌, max, nat_lt, nat_le, Bool, true, false, ◌&&◌, ◌||◌, not, if◌then◌else◌, List, [], ◌∷◌, length, slice_index, Option, Some, None, IsTrue, IfSome, zero}
use Rattle.disk_face.specs.declared.disk.File.{File}
use Rattle.disk_face.specs.declared.disk.File.TheVariants.{Log1, Log2}
use Rattle.disk_face.specs.Faults.{Rose}
use Rattle.disk_face.specs.Files.{Files}
use Rattle.disk_face.specs.Steps.{History, reads}
use Rattle.page_spec.specs.Header.{fields_of, page_size_in, pages_in, is_page_size}
use Rattle.page_spec.specs.PageMap.{PageMap, page_at}
use Rattle.log_spec.specs.LogHeader.{last_generation}
use Rattle.log_spec.specs.Accept.{Frame}
use Rattle.db_header.specs.Header.{refusal}
use Rattle.db_header.specs.declared.fault.HeaderFault.{HeaderFault}
use Rattle.wal_frames.specs.declared.header.Front.{Front}
use Rattle.wal_frames.specs.declared.header.Front.TheVariants.{Nothing, Foreign, Ours}
use Rattle.wal_frames.specs.Front.{front_of, IsLegalFront}
use Rattle.crash_spec.specs.Recovered.{first_bytes}
use Rattle.opening_spec.specs.Found.{FoundLog, OpeningView, older_in, newer_in, map_in, pages_held}
use Rattle.opening_spec.specs.Begins.{found_in}
use Rattle.recover.specs.Headers.{generation_in, next_even}
use Rattle.recover.specs.Places.{ArePlacesOf, FitPlaces}
use Rattle.recover.specs.declared.place.Place.{Place}
use Rattle.recover.specs.declared.seen.LookFault.{LookFault}
use Rattle.recover.specs.declared.seen.LookFault.TheVariants.{Header, WalMode, HotJournal, ForeignLog, Missing, Disk, Memory}

-- What an opening has seen, as callers see it: whether nothing is there yet, the page size and how much of a page is in use, whether the
-- versions are this program's, the size that page 1 names for Main once it has all pages, byte 100 of page 1, what the logs begin with,
-- whether one has an accepted frame, and where each page of the recovered map stands.
pub record SeenView : Type 0 where
  pub is_new : Bool
  pub page_size : ℕ
  pub usable : ℕ
  pub is_ours : Bool
  pub named : ℕ
  pub byte : ℕ
  pub one : Front
  pub two : Front
  pub some_frames : Bool
  pub places : List Place

-- a log begins with a header of ours
abbrev pub is_front_ours : Front → Bool
is_front_ours Nothing = false
is_front_ours (Foreign version at) = false
is_front_ours (Ours header) = true

-- what is found of log 1 and of log 2
abbrev pub one_in : Files → FoundLog
one_in files = found_in Log1 files

abbrev pub two_in : Files → FoundLog
two_in files = found_in Log2 files

-- a list has something in it
abbrev pub is_some_list : {T : Type 0} → List T → Bool
is_some_list [] = false
is_some_list (x ∷ xs) = true

-- a log has an accepted frame
abbrev pub has_frames : Files → Bool
has_frames files = is_some_list (one_in files).frames || is_some_list (two_in files).frames

-- nothing is there yet: Main is empty, and no log has an accepted frame
abbrev pub is_new_in : Files → Bool
is_new_in files = length files.main == 0 && not (has_frames files)

-- the first 100 bytes of the recovered page 1, as many of them as there are
abbrev pub first_in : Files → List ℕ
first_in files = first_bytes files.main (older_in files (one_in files) (two_in files)) (newer_in files (one_in files) (two_in files))

-- the page size that they name
abbrev pub size_in : Files → ℕ
size_in files = page_size_in (fields_of (first_in files))

-- the versions that they name are this program's
abbrev pub is_ours_in : Files → Bool
is_ours_in files = (fields_of (first_in files)).write_version == 3 && (fields_of (first_in files)).read_version == 3

-- The last generation that an opening writes, where this is the greatest one: a new database, and one whose versions aren't this program's,
-- gets a header more before the others, of the least odd generation from two more on.
abbrev pub next_odd : ℕ → ℕ
next_odd newest = newest + 3 - newest % 2

abbrev pub newest_then : (founds : Bool) → ℕ → ℕ
newest_then true newest = next_odd newest
newest_then false newest = newest

abbrev pub last_written : (founds : Bool) → ℕ → ℕ
last_written founds newest = next_even (newest_then founds newest) + 1

-- an opening makes a commit of its own: the database is new, or its versions aren't this program's
abbrev pub founds : SeenView → Bool
founds seen = seen.is_new || not seen.is_ours

abbrev pub newest_of : Front → Front → ℕ
newest_of one two = max (generation_in one) (generation_in two)

-- the generation of log 1's header as the store begins, by what was seen; that of log 2's is one less
abbrev pub generation_seen : SeenView → ℕ
generation_seen seen = last_written (founds seen) (newest_of seen.one seen.two)

-- What holds of what was seen, whatever the disk tells.
pub record IsWholeSeen (seen : SeenView) : Type 0 where
  pub page_size : IsTrue (is_page_size seen.page_size)
  pub usable : (480 ≤ seen.usable) × (seen.usable ≤ seen.page_size)
  pub one : IsLegalFront 1 seen.one
  pub two : IsLegalFront 2 seen.two
  pub room : generation_seen seen ≤ last_generation
  pub few : length seen.places < 4294967295

-- the recovered map, and its page 1
abbrev pub map_found : Files → PageMap
map_found files = map_in files (one_in files) (two_in files)

-- What was seen of these files, where a new database gets pages of this size.
pub record IsSeen (new_size : ℕ) (files : Files) (seen : SeenView) : Type 0 where
  pub new : seen.is_new ≡ is_new_in files
  pub one : seen.one ≡ front_of 1 files.log1
  pub two : seen.two ≡ front_of 2 files.log2
  pub some : seen.some_frames ≡ has_frames files
  pub page_size : seen.page_size ≡ (if seen.is_new then new_size else size_in files)
  pub usable : seen.page_size ≡ seen.usable + (if seen.is_new then 0 else (fields_of (first_in files)).reserved)
  pub ours : seen.is_new ≡ false → seen.is_ours ≡ is_ours_in files
  pub named : seen.is_new ≡ false → seen.named ≡ pages_in (first_in files) (max (length files.main) (length (map_found files) * seen.page_size))
  pub byte : seen.is_new ≡ false → seen.byte ≡ slice_index (page_at (map_found files) 1) 100
  pub count : length seen.places ≡ (if seen.is_new then 0 else length (map_found files))
  pub some_page : seen.is_new ≡ false → 1 ≤ length seen.places
  pub standing : (view : OpeningView) → view.size ≡ seen.page_size → ArePlacesOf view (one_in files) (two_in files) files seen.places
  pub fits : FitPlaces files seen.page_size seen.places

-- Why these files are refused, where the journal answers so.

-- the header on page 1
abbrev pub of_header : Option HeaderFault → Option LookFault
of_header None = None
of_header (Some fault) = Some (Header fault)

abbrev pub header_fault : Files → Option LookFault
header_fault files = if is_new_in files then None else of_header (refusal (first_in files) (length files.main))

-- the log of a database in SQLite's own log mode
abbrev pub legacy_version : ℕ
legacy_version = 3007000

abbrev pub of_legacy : Front → Option LookFault
of_legacy Nothing = None
of_legacy (Foreign version at) = if version == legacy_version then Some WalMode else None
of_legacy (Ours header) = None

abbrev pub is_log_mode : Files → Bool
is_log_mode files = not (is_new_in files) && (fields_of (first_in files)).write_version == 2 && (fields_of (first_in files)).read_version == 2

abbrev pub wal_fault : Files → Option LookFault
wal_fault files = if is_log_mode files then of_legacy (front_of 1 files.log1) else None

-- a signed header that isn't ours
abbrev pub foreign_fault : Front → File → Option LookFault
foreign_fault Nothing log = None
foreign_fault (Foreign version at) log = Some (ForeignLog log at)
foreign_fault (Ours header) log = None

-- a log with accepted frames that has another page size than page 1 names
abbrev pub of_size : Front → ℕ → File → Option LookFault
of_size Nothing size log = None
of_size (Foreign version at) size log = None
of_size (Ours header) size log = if header.page_size == size then None else Some (ForeignLog log 8)

abbrev pub size_fault : Front → List Frame → ℕ → File → Option LookFault
size_fault front frames size log = if is_some_list frames then of_size front size log else None

-- the greatest generation of a header of ours in the logs, 0 where there is none
abbrev pub greatest_generation : Files → ℕ
greatest_generation files = newest_of (front_of 1 files.log1) (front_of 2 files.log2)

-- an opening of these files makes a commit of its own
abbrev pub founds_in : Files → Bool
founds_in files = is_new_in files || not (is_ours_in files)

-- The generation of log 1's header as the store begins on these files; that of log 2's is one less, the least even one from two more than the
-- greatest one on. Where the opening makes a commit of its own, log 1 has a header before that, which is then the one of the greatest
-- generation: the least odd one from two more than the greatest one in these files on.
abbrev pub generation_opened : Files → ℕ
generation_opened files = last_written (founds_in files) (greatest_generation files)

-- no generation is left for the headers that an opening writes
abbrev pub higher_log : Front → Front → File
higher_log one two = if nat_lt (generation_in one) (generation_in two) then Log2 else Log1

abbrev pub room_fault : Files → Option LookFault
room_fault files =
    if nat_le (generation_opened files) last_generation then None
    else Some (ForeignLog (higher_log (front_of 1 files.log1) (front_of 2 files.log2)) 12)

-- a frame holds the page, or Main holds it whole
abbrev pub is_held : Files → ℕ → Bool
is_held files number = list_any (λ n. n == number) (pages_held (one_in files) (two_in files)) || nat_le (number * size_in files) (length files.main)

-- the first of so many pages, from this one on, that isn't held
abbrev pub first_missing : (ℕ → Bool) → ℕ → ℕ → Option ℕ
first_missing held number zero = None
first_missing held number (suc count) = if held number then first_missing held (number + 1) count else Some number

abbrev pub of_missing : Option ℕ → Option LookFault
of_missing None = None
of_missing (Some page) = Some (Missing page)

abbrev pub missing_fault : Files → Option LookFault
missing_fault files = if is_new_in files then None else of_missing (first_missing (is_held files) 1 (max 1 (length (map_found files))))

-- the first of some faults
abbrev pub first_fault : List (Option LookFault) → Option LookFault
first_fault [] = None
first_fault (None ∷ rest) = first_fault rest
first_fault (Some fault ∷ rest) = Some fault

-- The first fault of the files, in the order in which faults are told.
unfoldable pub fault_of : Files → (hot : Bool) → Option LookFault
fault_of files hot = first_fault (
    header_fault files
    ∷ wal_fault files
    ∷ (if hot then Some HotJournal else None)
    ∷ foreign_fault (front_of 1 files.log1) Log1
    ∷ foreign_fault (front_of 2 files.log2) Log2
    ∷ size_fault (front_of 1 files.log1) (one_in files).frames (size_in files) Log1
    ∷ size_fault (front_of 2 files.log2) (two_in files).frames (size_in files) Log2
    ∷ room_fault files
    ∷ missing_fault files
    ∷ [])

-- the files of a disk that tells them
abbrev pub files_told : Option History → Option Files
files_told None = None
files_told (Some told) = Some (reads told)

-- A look at a disk was answered so: a fault of the files is told exactly where it is the first one, and a failed disk only where the count
-- of faults rose.
abbrev pub RefusesLook : (before after : ℕ) → Option Files → Option Bool → LookFault → Type 0
RefusesLook before after files hot Disk = Rose before after
RefusesLook before after files hot Memory = Unit {0}
RefusesLook before after files hot fault = IfSome files (λ files. IfSome hot (λ hot. fault_of files hot ≡ Some fault))

pub record HasSeen (new_size : ℕ) (files : Option Files) (hot : Option Bool) (seen : SeenView) : Type 0 where
  pub whole : IsWholeSeen seen
  pub new : seen.is_new ≡ true → seen.page_size ≡ new_size
  pub seen_is : IfSome files (λ files. IsSeen new_size files seen)
  pub no_fault : IfSome files (λ files. IfSome hot (λ hot. fault_of files hot ≡ None))
  pub fine : IfSome files (λ files. fault_of files false ≡ None)

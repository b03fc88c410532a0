-- What was judged by what was read is the first fault of the files.
use Rattle.std.proofs.Common.{◌≡◌, ℕ, ◌==◌, ◌&&◌, ◌||◌, not, Bool, true, false, if◌then◌else◌, List, [], ◌∷◌, ◌++◌, length, Option, Some, None, refl, sym, ◌∙◌}
use Rattle.std.specs.Prelude.{IfSome}
use Rattle.disk_face.specs.declared.disk.File.TheVariants.{Log1, Log2}
use Rattle.disk_face.specs.Faults.{Counts}
use Rattle.disk_face.specs.Files.{Files}
use Rattle.disk_face.specs.Steps.{History, reads}
use Rattle.db_header.specs.Header.{refusal}
use Rattle.wal_frames.specs.Front.{front_of}
use Rattle.wal_frames.specs.declared.found.Accepted.{Accepted}
use Rattle.recover.specs.declared.scan.First.{First}
use Rattle.recover.specs.declared.scan.Looked.{Looked}
use Rattle.recover.specs.declared.seen.LookFault.{LookFault}
use Rattle.recover.specs.declared.seen.LookFault.TheVariants.{Header, WalMode, HotJournal, ForeignLog, Missing, Disk, Memory}
use Rattle.recover.specs.Seeing.{SeenView, IsSeen, IsWholeSeen, HasSeen, first_in, RefusesLook, files_told, one_in, two_in, size_in, is_some_list, first_fault, fault_of, header_fault, wal_fault, foreign_fault, size_fault, room_fault, missing_fault}
use Rattle.recover.specs.Looking.{AreRead, IsLegalLook, AreScanned, AreLegal, IsPage1, bytes_at, place_in, wal_read, size_read, room_read, judged, IsHeaderFault, IsJudged, IsSeenFault, keeps_count}
use Rattle.recover.proofs.Page1.{refusal_alike}
use Rattle.recover.proofs.Page1Read.{same_first}
use Rattle.recover.proofs.LogsRead.{some1, some2}
use Rattle.recover.proofs.HeaderRead.{page_size_is, write_is, read_is}

-- the first of some faults, where some of these were looked at before
flat : (front rest : List (Option LookFault)) → first_fault (first_fault front ∷ rest) ≡ first_fault (front ++ rest)
flat [] rest = refl
flat (None ∷ front) rest = flat front rest
flat (Some fault ∷ front) rest = refl

some_more : (front rest : List (Option LookFault)) (fault : LookFault) → first_fault front ≡ Some fault → first_fault (front ++ rest) ≡ Some fault
some_more [] rest fault is = cc
some_more (None ∷ front) rest fault is = some_more front rest fault is
some_more (Some other ∷ front) rest fault is = is

none_more : (front rest : List (Option LookFault)) → first_fault front ≡ None → first_fault (front ++ rest) ≡ first_fault rest
none_more [] rest is = refl
none_more (None ∷ front) rest is = none_more front rest is
none_more (Some other ∷ front) rest is = cc

behind_two : (one two : Option LookFault) (front rest : List (Option LookFault)) → first_fault (one ∷ two ∷ first_fault front ∷ rest) ≡ first_fault (one ∷ two ∷ (front ++ rest))
behind_two None None front rest = flat front rest
behind_two None (Some fault) front rest = refl
behind_two (Some fault) two front rest = refl

pub alone : (fault : Option LookFault) → first_fault (fault ∷ []) ≡ fault
alone None = refl
alone (Some fault) = refl

-- where nothing is there yet no log has a frame
none_new : (a b c : Bool) → (a && not (b || c)) ≡ true → (b ≡ false) × (c ≡ false)
none_new true false false is = (refl, refl)
none_new true false true is = cc
none_new true true c is = cc
none_new false b c is = cc

-- each fault by what was read
wal_is : (files : Files) (one two : Accepted) (page1 : Option First) → AreScanned files one two → AreLegal one two → IsPage1 files (place_in one two 1) page1 → wal_fault files ≡ wal_read page1 one.front
wal_is files one two None scanned legal new = rw new refl
wal_is files one two (Some first) scanned legal (old, tells) =
    rw (old, sym (write_is files one two first scanned legal tells), sym (read_is files one two first scanned legal tells), sym scanned.one.front) refl

size1_is : (files : Files) (one two : Accepted) (page1 : Option First) → AreScanned files one two → AreLegal one two → IsPage1 files (place_in one two 1) page1
    → size_fault (front_of 1 files.log1) (one_in files).frames (size_in files) Log1 ≡ size_read page1 one.front one.pages.items Log1
size1_is files one two None scanned legal new = rw (none_new (length files.main == 0) (is_some_list (one_in files).frames) (is_some_list (two_in files).frames) new).0 refl
size1_is files one two (Some first) scanned legal (old, tells) =
    rw (sym scanned.one.front, sym (some1 files one two scanned), sym (page_size_is files one two first scanned legal tells)) refl

size2_is : (files : Files) (one two : Accepted) (page1 : Option First) → AreScanned files one two → AreLegal one two → IsPage1 files (place_in one two 1) page1
    → size_fault (front_of 2 files.log2) (two_in files).frames (size_in files) Log2 ≡ size_read page1 two.front two.pages.items Log2
size2_is files one two None scanned legal new = rw (none_new (length files.main == 0) (is_some_list (one_in files).frames) (is_some_list (two_in files).frames) new).1 refl
size2_is files one two (Some first) scanned legal (old, tells) =
    rw (sym scanned.two.front, sym (some2 files one two scanned), sym (page_size_is files one two first scanned legal tells)) refl

room_is : (files : Files) (one two : Accepted) (page1 : Option First) → AreScanned files one two → AreLegal one two → IsPage1 files (place_in one two 1) page1
    → room_fault files ≡ room_read page1 one.front two.front
room_is files one two None scanned legal new = rw (new, sym scanned.one.front, sym scanned.two.front) refl
room_is files one two (Some first) scanned legal (old, tells) =
    rw (old, sym (write_is files one two first scanned legal tells), sym (read_is files one two first scanned legal tells), sym scanned.one.front, sym scanned.two.front) refl

header_is : (files : Files) (one two : Accepted) (page1 : Option First) → AreScanned files one two → AreLegal one two → IsPage1 files (place_in one two 1) page1 → header_fault files ≡ None
header_is files one two None scanned legal new = rw new refl
header_is files one two (Some first) scanned legal (old, tells) =
    let same : refusal (first_in files) (length files.main) ≡ None =
    sym (refusal_alike (bytes_at files (place_in one two 1)) (first_in files) (length files.main) (same_first files one two scanned legal)) ∙ tells.header.accepted in
    rw (old, same) refl

-- all but the last fault are those that were judged
faults_are : (files : Files) (looked : Looked) (hot : Bool) → AreRead files looked → IsLegalLook looked
    → fault_of files hot
    ≡ first_fault (
    (wal_read looked.page1 looked.one.front
    ∷ (if hot then Some HotJournal else None)
    ∷ foreign_fault looked.one.front Log1
    ∷ foreign_fault looked.two.front Log2
    ∷ size_read looked.page1 looked.one.front looked.one.pages.items Log1
    ∷ size_read looked.page1 looked.two.front looked.two.pages.items Log2
    ∷ room_read looked.page1 looked.one.front looked.two.front
    ∷ [])
    ++ missing_fault files ∷ []
    )
unfolding fault_of
faults_are files looked hot read legal =
    rw (
      header_is files looked.one looked.two looked.page1 read.logs legal.logs read.page1,
      wal_is files looked.one looked.two looked.page1 read.logs legal.logs read.page1,
      size1_is files looked.one looked.two looked.page1 read.logs legal.logs read.page1,
      size2_is files looked.one looked.two looked.page1 read.logs legal.logs read.page1,
      room_is files looked.one looked.two looked.page1 read.logs legal.logs read.page1,
      sym read.logs.one.front,
      sym read.logs.two.front,
    ) refl

module _ (files : Files) (looked : Looked) (hot : Bool) (read : AreRead files looked) (legal : IsLegalLook looked) where
  abbrev before : List (Option LookFault)
  before =
      wal_read looked.page1 looked.one.front
      ∷ (if hot then Some HotJournal else None)
      ∷ foreign_fault looked.one.front Log1
      ∷ foreign_fault looked.two.front Log2
      ∷ size_read looked.page1 looked.one.front looked.one.pages.items Log1
      ∷ size_read looked.page1 looked.two.front looked.two.pages.items Log2
      ∷ room_read looked.page1 looked.one.front looked.two.front
      ∷ []

  judged_is : judged looked hot ≡ first_fault before
  judged_is =
      behind_two (wal_read looked.page1 looked.one.front) (if hot then Some HotJournal else None)
      (foreign_fault looked.one.front Log1
      ∷ foreign_fault looked.two.front Log2
      ∷ size_read looked.page1 looked.one.front looked.one.pages.items Log1
      ∷ size_read looked.page1 looked.two.front looked.two.pages.items Log2
      ∷ room_read looked.page1 looked.one.front looked.two.front
      ∷ []) []

  pub judged_first : (why : LookFault) → judged looked hot ≡ Some why → fault_of files hot ≡ Some why
  judged_first why is = faults_are files looked hot read legal ∙ some_more before (missing_fault files ∷ []) why (sym judged_is ∙ is)

  pub judged_none : judged looked hot ≡ None → fault_of files hot ≡ missing_fault files
  judged_none is = faults_are files looked hot read legal ∙ none_more before (missing_fault files ∷ []) (sym judged_is ∙ is) ∙ alone (missing_fault files)

-- a fault of the header is the first one
header_first : (files : Files) (hot : Bool) (why : LookFault) → header_fault files ≡ Some why → fault_of files hot ≡ Some why
unfolding fault_of
header_first files hot why is = rw is refl

-- each way to refuse

pub refused_header : (told : Option History) (hot : Option Bool) (earlier after : ℕ) (why : LookFault) → Counts (keeps_count why) earlier after → IsHeaderFault told why
    → RefusesLook earlier after (files_told told) hot why
refused_header told hot earlier after Disk counts is = counts
refused_header told hot earlier after Memory counts is = tt
refused_header None hot earlier after (Header fault) counts is = tt
refused_header None hot earlier after WalMode counts is = tt
refused_header None hot earlier after HotJournal counts is = tt
refused_header None hot earlier after (ForeignLog file at) counts is = tt
refused_header None hot earlier after (Missing page) counts is = tt
refused_header (Some told) None earlier after (Header fault) counts is = tt
refused_header (Some told) None earlier after WalMode counts is = tt
refused_header (Some told) None earlier after HotJournal counts is = tt
refused_header (Some told) None earlier after (ForeignLog file at) counts is = tt
refused_header (Some told) None earlier after (Missing page) counts is = tt
refused_header (Some told) (Some hot) earlier after (Header fault) counts is = header_first (reads told) hot (Header fault) is
refused_header (Some told) (Some hot) earlier after WalMode counts is = header_first (reads told) hot WalMode is
refused_header (Some told) (Some hot) earlier after HotJournal counts is = header_first (reads told) hot HotJournal is
refused_header (Some told) (Some hot) earlier after (ForeignLog file at) counts is = header_first (reads told) hot (ForeignLog file at) is
refused_header (Some told) (Some hot) earlier after (Missing page) counts is = header_first (reads told) hot (Missing page) is

-- the fault that was judged, of a disk that may tell nothing
first_told : (told : Option History) (hot : Option Bool) (looked : Looked) (why : LookFault) → IfSome told (λ told. AreRead (reads told) looked) → IsLegalLook looked
    → IfSome hot (λ hot. judged looked hot ≡ Some why) → IfSome (files_told told) (λ files. IfSome hot (λ hot. fault_of files hot ≡ Some why))
first_told None hot looked why read legal is = tt
first_told (Some told) None looked why read legal is = tt
first_told (Some told) (Some hot) looked why read legal is = judged_first (reads told) looked hot read legal why is

pub refused_judge : (told : Option History) (hot : Option Bool) (looked : Looked) (earlier after : ℕ) (why : LookFault) → IfSome told (λ told. AreRead (reads told) looked) → IsLegalLook looked
    → Counts (keeps_count why) earlier after → IsJudged looked hot why → RefusesLook earlier after (files_told told) hot why
refused_judge told hot looked earlier after Disk read legal counts is = counts
refused_judge told hot looked earlier after Memory read legal counts is = tt
refused_judge told hot looked earlier after (Header fault) read legal counts is = first_told told hot looked (Header fault) read legal is
refused_judge told hot looked earlier after WalMode read legal counts is = first_told told hot looked WalMode read legal is
refused_judge told hot looked earlier after HotJournal read legal counts is = first_told told hot looked HotJournal read legal is
refused_judge told hot looked earlier after (ForeignLog file at) read legal counts is = first_told told hot looked (ForeignLog file at) read legal is
refused_judge told hot looked earlier after (Missing page) read legal counts is = first_told told hot looked (Missing page) read legal is

pub refused_see : (told : Option History) (hot : Option Bool) (looked : Looked) (earlier after : ℕ) (why : LookFault) → IfSome told (λ told. AreRead (reads told) looked) → IsLegalLook looked
    → IfSome hot (λ hot. judged looked hot ≡ None) → IsSeenFault looked why → RefusesLook earlier after (files_told told) hot why
refused_see told hot looked earlier after Memory read legal passed is = tt
refused_see None hot looked earlier after (Missing page) read legal passed is = tt
refused_see (Some told) None looked earlier after (Missing page) read legal passed is = tt
refused_see (Some told) (Some hot) looked earlier after (Missing page) read legal passed is = judged_none (reads told) looked hot read legal passed ∙ is (reads told) read
refused_see told hot looked earlier after Disk read legal passed is = absurd is
refused_see told hot looked earlier after (Header fault) read legal passed is = absurd is
refused_see told hot looked earlier after WalMode read legal passed is = absurd is
refused_see told hot looked earlier after HotJournal read legal passed is = absurd is
refused_see told hot looked earlier after (ForeignLog file at) read legal passed is = absurd is

pub has_seen : (new_size : ℕ) (told : Option History) (hot : Option Bool) (looked : Looked) (seen : SeenView) → IfSome told (λ told. AreRead (reads told) looked) → IsLegalLook looked
    → IfSome hot (λ hot. judged looked hot ≡ None) → judged looked false ≡ None → IsWholeSeen seen → (seen.is_new ≡ true → seen.page_size ≡ new_size) → ((files : Files) → AreRead files looked → IsSeen new_size files seen) → ((files : Files) → AreRead files looked → missing_fault files ≡ None)
    → HasSeen new_size (files_told told) hot seen
has_seen new_size told hot looked seen read legal passed fine whole size seen_is none =
    record { whole = whole; new = size; seen_is = is told read; no_fault = first told hot read passed; fine = without told read }
  where
    is : (told : Option History) → IfSome told (λ told. AreRead (reads told) looked) → IfSome (files_told told) (λ files. IsSeen new_size files seen)
    is None read = tt
    is (Some told) read = seen_is (reads told) read

    without : (told : Option History) → IfSome told (λ told. AreRead (reads told) looked) → IfSome (files_told told) (λ files. fault_of files false ≡ None)
    without None read = tt
    without (Some told) read = judged_none (reads told) looked false read legal fine ∙ none (reads told) read

    first : (told : Option History) (hot : Option Bool) → IfSome told (λ told. AreRead (reads told) looked) → IfSome hot (λ hot. judged looked hot ≡ None)
        → IfSome (files_told told) (λ files. IfSome hot (λ hot. fault_of files hot ≡ None))
    first None hot read passed = tt
    first (Some told) None read passed = tt
    first (Some told) (Some hot) read passed = judged_none (reads told) looked hot read legal passed ∙ none (reads told) read

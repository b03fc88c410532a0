-- Page 1 is read where it stands.
use Rattle.std.proofs.Common.{◌≡◌, ◌≢◌, ℕ, ◌≤◌, true, false, List, [], length, take, drop, Option, Some, None, refl, sym, ◌∙◌, ap, subst, arith}
use Rattle.std.specs.Prelude.{IfSome}
use Rattle.std.proofs.lemmas.Bool.Decides.{nat_tests}
use Rattle.std.proofs.lemmas.List.{take-take}
use Rattle.disk_face.specs.declared.disk.File.TheVariants.{Main}
use Rattle.disk_face.specs.Files.{Files, content}
use Rattle.disk_face.specs.Steps.{History, reads}
use Rattle.disk_face.specs.Told.{IsSize}
use Rattle.page_spec.specs.Header.{is_page_size}
use Rattle.log_spec.specs.Frames.{accepted_frames}
use Rattle.db_header.specs.Header.{refusal}
use Rattle.db_header.specs.declared.fault.HeaderFault.{HeaderFault}
use Rattle.wal_frames.specs.Front.{IsLegalFront, header_in}
use Rattle.wal_frames.specs.declared.header.Front.{Front}
use Rattle.wal_frames.specs.declared.header.Front.TheVariants.{Ours}
use Rattle.wal_frames.specs.declared.found.Accepted.{Accepted}
use Rattle.wal_frames.specs.Found.{IsLegal}
use Rattle.recover.specs.declared.place.Place.{Place}
use Rattle.recover.specs.declared.place.Place.TheVariants.{InMain, InLog}
use Rattle.recover.specs.declared.scan.First.{First}
use Rattle.recover.specs.declared.seen.LookFault.{LookFault}
use Rattle.recover.specs.declared.seen.LookFault.TheVariants.{Header, WalMode, HotJournal, ForeignLog, Missing, Disk, Memory}
use Rattle.recover.specs.Seeing.{first_in, header_fault, is_new_in}
use Rattle.recover.specs.Looking.{AreScanned, AreLegal, page_size_of_log, place_in, bytes_at, FitsFirst, IsPage1, TellsFirst, IsFirstFault, IsHeaderFault, is_new_read}
use Rattle.recover.proofs.PlacesHold.{HoldsAt}
use Rattle.recover.proofs.LogsRead.{place_holds, ours_front, IsOfLog, new_is, one_of, two_of}
use Rattle.recover.proofs.Page1.{refusal_alike}

-- a page has room for the first bytes
abbrev pub IsRoomy : ℕ → Type 0
IsRoomy n = 512 ≤ n

pub roomy_size : (n : ℕ) → is_page_size n ≡ true → 512 ≤ n
unfolding is_page_size
roomy_size n is = grind (arith, nat_tests)

-- the page size of a log with frames
pub roomy : (log : ℕ) (bytes : List ℕ) (found : Accepted) → IsLegal log found → IsOfLog log bytes found → accepted_frames log bytes ≢ [] → IsRoomy (page_size_of_log found.front)
roomy log bytes found legal of some =
    let is : found.front ≡ Ours (header_in bytes) = of.front ∙ ours_front log bytes (of.ours some) in
    subst (λ (front : Front). IsRoomy (page_size_of_log front)) (sym is) (roomy_size (header_in bytes).page_size (subst (λ (front : Front). IsLegalFront log front) is legal.front).0)

fits_at : (files : Files) (base : List ℕ) (place : Place) (page : List ℕ) → HoldsAt files IsRoomy base place page → FitsFirst files place
fits_at files base InMain page holds = tt
fits_at files base (InLog file at) page (is_log, has) = omega (arith, has.fits, has.inside)

first_at : (files : Files) (place : Place) (page : List ℕ) → HoldsAt files IsRoomy (take 100 files.main) place page → take 100 (bytes_at files place) ≡ take 100 page
first_at files InMain page is = take-take 100 101 files.main (omega arith) ∙ sym (take-take 100 100 files.main (omega arith)) ∙ ap (λ (bytes : List ℕ). take 100 bytes) (sym is)
first_at files (InLog file at) page (is_log, has) =
    take-take 100 101 (drop at (content files file)) (omega arith) ∙ sym (take-take 100 has.size (drop at (content files file)) (omega (arith, has.fits))) ∙ ap (λ (bytes : List ℕ). take 100 bytes) has.is

module _ (files : Files) (one two : Accepted) (scanned : AreScanned files one two) (legal : AreLegal one two) where
  pub roomy1 : accepted_frames 1 files.log1 ≢ [] → IsRoomy (page_size_of_log one.front)
  roomy1 = roomy 1 files.log1 one legal.one (one_of files one two scanned)

  pub roomy2 : accepted_frames 2 files.log2 ≢ [] → IsRoomy (page_size_of_log two.front)
  roomy2 = roomy 2 files.log2 two legal.two (two_of files one two scanned)

  first_holds : HoldsAt files IsRoomy (take 100 files.main) (place_in one two 1) (first_in files)
  first_holds = place_holds files one two scanned IsRoomy (take 100 files.main) 1 roomy1 roomy2

  pub fits_first : FitsFirst files (place_in one two 1)
  fits_first = fits_at files (take 100 files.main) (place_in one two 1) (first_in files) first_holds

  pub same_first : take 100 (bytes_at files (place_in one two 1)) ≡ take 100 (first_in files)
  same_first = first_at files (place_in one two 1) (first_in files) first_holds

  refused : (main : ℕ) (fault : HeaderFault) → main ≡ length files.main → is_new_in files ≡ false → refusal (bytes_at files (place_in one two 1)) main ≡ Some fault → header_fault files ≡ Some (Header fault)
  refused main fault sized old is =
      let same : refusal (first_in files) (length files.main) ≡ Some fault =
      sym (refusal_alike (bytes_at files (place_in one two 1)) (first_in files) (length files.main) same_first) ∙ ap (λ (n : ℕ). refusal (bytes_at files (place_in one two 1)) n) (sym sized) ∙ is in
      rw (old, same) refl

pub new_told : (told : Option History) (one two : Accepted) (main : ℕ) → IfSome told (λ told. AreScanned (reads told) one two) → IsSize told Main main → is_new_read one two main ≡ true
    → IfSome told (λ told. IsPage1 (reads told) (place_in one two 1) None)
new_told None one two main scanned sized new = tt
new_told (Some told) one two main scanned sized new = sym (new_is (reads told) one two scanned main sized) ∙ new

pub fits_told : (told : Option History) (one two : Accepted) → AreLegal one two → IfSome told (λ told. AreScanned (reads told) one two) → IfSome told (λ told. FitsFirst (reads told) (place_in one two 1))
fits_told None one two legal scanned = tt
fits_told (Some told) one two legal scanned = fits_first (reads told) one two scanned legal

pub page1_told : (told : Option History) (one two : Accepted) (main : ℕ) (first : First) → IfSome told (λ told. AreScanned (reads told) one two) → IsSize told Main main → is_new_read one two main ≡ false
    → IfSome told (λ told. TellsFirst (bytes_at (reads told) (place_in one two 1)) main first) → IfSome told (λ told. IsPage1 (reads told) (place_in one two 1) (Some first))
page1_told None one two main first scanned sized old tells = tt
page1_told (Some told) one two main first scanned sized old tells = (
  sym (new_is (reads told) one two scanned main sized) ∙ old,
  subst (λ (n : ℕ). TellsFirst (bytes_at (reads told) (place_in one two 1)) n first) sized tells,
)

pub fault_told : (told : Option History) (one two : Accepted) (main : ℕ) (why : LookFault) → AreLegal one two → IfSome told (λ told. AreScanned (reads told) one two) → IsSize told Main main
    → is_new_read one two main ≡ false → IsFirstFault told (place_in one two 1) main why → IsHeaderFault told why
fault_told told one two main Disk legal scanned sized old is = tt
fault_told told one two main Memory legal scanned sized old is = tt
fault_told None one two main (Header fault) legal scanned sized old is = tt
fault_told (Some told) one two main (Header fault) legal scanned sized old is =
    refused (reads told) one two scanned legal main fault sized (sym (new_is (reads told) one two scanned main sized) ∙ old) is
fault_told told one two main WalMode legal scanned sized old is = absurd is
fault_told told one two main HotJournal legal scanned sized old is = absurd is
fault_told told one two main (ForeignLog file at) legal scanned sized old is = absurd is
fault_told told one two main (Missing page) legal scanned sized old is = absurd is

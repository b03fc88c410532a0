-- From what was read of a database that is there to what is seen of it.
use Rattle.std.proofs.Common.{◌≡◌, ℕ, ◌+◌, ◌-◌, ◌≤◌, ◌<◌, ◌==◌, ◌&&◌, ◌||◌, not, Bool, true, false, if◌then◌else◌, List, [], ◌∷◌, length, Option, Some, None, refl, sym, ◌∙◌, ap, subst, arith}
use Rattle.std.specs.Prelude.{nat_le, IfSome}
use Rattle.disk_face.specs.declared.disk.File.TheVariants.{Log1, Log2}
use Rattle.disk_face.specs.Files.{Files}
use Rattle.page_spec.specs.Header.{is_page_size}
use Rattle.log_spec.specs.LogHeader.{last_generation}
use Rattle.db_header.specs.Header.{IsTold}
use Rattle.wal_frames.specs.Front.{IsLegalFront}
use Rattle.wal_frames.specs.declared.header.Front.{Front}
use Rattle.recover.specs.declared.place.Place.{Place}
use Rattle.recover.specs.declared.scan.First.{First}
use Rattle.recover.specs.declared.scan.Looked.{Looked}
use Rattle.recover.specs.declared.seen.LookFault.{LookFault}
use Rattle.recover.specs.declared.seen.LookFault.TheVariants.{Header, WalMode, HotJournal, ForeignLog, Missing, Disk, Memory}
use Rattle.recover.specs.Places.{IsPlaceOf, FitsPlace}
use Rattle.recover.specs.Seeing.{SeenView, IsSeen, IsWholeSeen, one_in, two_in, map_found, is_new_in, is_some_list, first_fault, first_missing, foreign_fault, missing_fault, of_missing, last_written, newest_of, higher_log}
use Rattle.recover.specs.Looking.{AreRead, IsLegalLook, ArePlaces, IsPage1, TellsFirst, bytes_at, place_in, size_read, room_read, logs_read, pages_told, named_read, is_whole_by, IsMissing, IsSeenFault}
use Rattle.recover.proofs.Page1.{le_of}
use Rattle.recover.proofs.LogsRead.{some1, some2}
use Rattle.recover.proofs.HeaderRead.{page_size_is, reserved_is, write_is, read_is}
use Rattle.recover.proofs.Missing.{none_missing}
use Rattle.recover.proofs.SeenOld.{counted, place_is, place_fits, missing_is, none_there, named_size_is, byte_is}

-- The view is made of these parts.
pub record IsOldView (looked : Looked) (page1 : First) (seen : SeenView) : Type 0 where
  pub new : seen.is_new ≡ false
  pub page_size : seen.page_size ≡ page1.header.page_size
  pub usable : seen.usable ≡ page1.header.page_size - page1.header.reserved
  pub ours : seen.is_ours ≡ (page1.header.versions.0 == 3 && page1.header.versions.1 == 3)
  pub named : seen.named ≡ named_read page1 (pages_told looked.one looked.two page1.header.pages)
  pub byte : seen.byte ≡ page1.byte
  pub one : seen.one ≡ looked.one.front
  pub two : seen.two ≡ looked.two.front
  pub some : seen.some_frames ≡ (is_some_list looked.one.pages.items || is_some_list looked.two.pages.items)
  pub places : ArePlaces looked.one looked.two seen.places
  pub count : length seen.places ≡ pages_told looked.one looked.two page1.header.pages
  pub few : length seen.places < 4294967295
  pub some_page : 1 ≤ length seen.places
  pub none_missing : first_missing (is_whole_by looked.one looked.two page1.header.page_size looked.main) 1 (length seen.places) ≡ None

-- where there is no first fault each is none
none_of : (fault : Option LookFault) (rest : List (Option LookFault)) → first_fault (fault ∷ rest) ≡ None → (fault ≡ None) × (first_fault rest ≡ None)
none_of None rest none = (refl, none)
none_of (Some fault) rest none = cc

module _ (looked : Looked) (page1 : First) (legal : IsLegalLook looked) (is_old : looked.page1 ≡ Some page1) (judged : logs_read looked ≡ None) where
  told : IsTold page1.header
  told = subst (λ (first : Option First). IfSome first (λ first. IsTold first.header)) is_old legal.told

  behind_foreign : first_fault (size_read looked.page1 looked.one.front looked.one.pages.items Log1 ∷ size_read looked.page1 looked.two.front looked.two.pages.items Log2 ∷ room_read looked.page1 looked.one.front looked.two.front ∷ []) ≡ None
  behind_foreign = (none_of (foreign_fault looked.two.front Log2) _ (none_of (foreign_fault looked.one.front Log1) _ judged).1).1

  passes1 : size_read (Some page1) looked.one.front looked.one.pages.items Log1 ≡ None
  passes1 = subst (λ (first : Option First). size_read first looked.one.front looked.one.pages.items Log1 ≡ None) is_old (none_of (size_read looked.page1 looked.one.front looked.one.pages.items Log1) _ behind_foreign).0

  behind_one : first_fault (size_read looked.page1 looked.two.front looked.two.pages.items Log2 ∷ room_read looked.page1 looked.one.front looked.two.front ∷ []) ≡ None
  behind_one = (none_of (size_read looked.page1 looked.one.front looked.one.pages.items Log1) _ behind_foreign).1

  passes2 : size_read (Some page1) looked.two.front looked.two.pages.items Log2 ≡ None
  passes2 = subst (λ (first : Option First). size_read first looked.two.front looked.two.pages.items Log2 ≡ None) is_old (none_of (size_read looked.page1 looked.two.front looked.two.pages.items Log2) _ behind_one).0

  room : last_written (not (page1.header.versions.0 == 3 && page1.header.versions.1 == 3)) (newest_of looked.one.front looked.two.front) ≤ last_generation
  room =
      by (nat_le (last_written (not (page1.header.versions.0 == 3 && page1.header.versions.1 == 3)) (newest_of looked.one.front looked.two.front)) last_generation) refl
      (subst (λ (first : Option First). room_read first looked.one.front looked.two.front ≡ None) is_old
      (none_of (room_read looked.page1 looked.one.front looked.two.front) [] (none_of (size_read looked.page1 looked.two.front looked.two.pages.items Log2) _ behind_one).1).0)
    where
      by : (fits : Bool) → nat_le (last_written (not (page1.header.versions.0 == 3 && page1.header.versions.1 == 3)) (newest_of looked.one.front looked.two.front)) last_generation ≡ fits
          → (if fits then None else Some (ForeignLog (higher_log looked.one.front looked.two.front) 12)) ≡ None
          → last_written (not (page1.header.versions.0 == 3 && page1.header.versions.1 == 3)) (newest_of looked.one.front looked.two.front) ≤ last_generation
      by true fits none = le_of _ _ fits
      by false fits none = cc

  pub whole : (seen : SeenView) → IsOldView looked page1 seen → IsWholeSeen seen
  whole seen v = record {
    page_size = ap (λ (n : ℕ). is_page_size n) v.page_size ∙ told.page_size;
    usable = (omega (arith, v.usable, told.usable_bytes), omega (arith, v.usable, v.page_size));
    one = subst (λ (front : Front). IsLegalFront 1 front) (sym v.one) legal.logs.one.front;
    two = subst (λ (front : Front). IsLegalFront 2 front) (sym v.two) legal.logs.two.front;
    room = rw (v.new, v.ours, v.one, v.two) room;
    few = v.few;
  }

  module _ (files : Files) (read : AreRead files looked) where
    is_page1 : (is_new_in files ≡ false) × TellsFirst (bytes_at files (place_in looked.one looked.two 1)) (length files.main) page1
    is_page1 = subst (λ (first : Option First). IsPage1 files (place_in looked.one looked.two 1) first) is_old read.page1

    pub none_there_of : pages_told looked.one looked.two page1.header.pages ≡ 0 → missing_fault files ≡ Some (Missing 1)
    none_there_of = none_there files looked.one looked.two looked.main page1 read.logs legal.logs read.main is_page1.0 is_page1.1 told passes1 passes2

    pub missing_of : (count : ℕ) (result : Option ℕ) → count ≡ pages_told looked.one looked.two page1.header.pages → 1 ≤ count
        → first_missing (is_whole_by looked.one looked.two page1.header.page_size looked.main) 1 count ≡ result → missing_fault files ≡ of_missing result
    missing_of count result is =
        missing_is files looked.one looked.two looked.main page1 read.logs legal.logs read.main is_page1.0 is_page1.1 told passes1 passes2 count result
        (is ∙ counted files looked.one looked.two looked.main page1 read.logs legal.logs read.main is_page1.0 is_page1.1 told passes1 passes2)

    pub seen_is : (new_size : ℕ) (seen : SeenView) → IsOldView looked page1 seen → IsSeen new_size files seen
    seen_is new_size seen v =
        let size_is = page_size_is files looked.one looked.two page1 read.logs legal.logs is_page1.1 in
        let count_is : length seen.places ≡ length (map_found files) = v.count ∙ counted files looked.one looked.two looked.main page1 read.logs legal.logs read.main is_page1.0 is_page1.1 told passes1 passes2 in
        record {
          new = v.new ∙ sym is_page1.0;
          one = v.one ∙ read.logs.one.front;
          two = v.two ∙ read.logs.two.front;
          some = v.some ∙ rw (some1 files looked.one looked.two read.logs, some2 files looked.one looked.two read.logs) refl;
          page_size = rw v.new (v.page_size ∙ size_is);
          usable =
              rw v.new
              (omega (
                arith,
                v.page_size,
                v.usable,
                told.usable_bytes,
                reserved_is files looked.one looked.two page1 read.logs legal.logs is_page1.1,
              ));
          ours = λ old.
              v.ours
              ∙ rw (
                write_is files looked.one looked.two page1 read.logs legal.logs is_page1.1,
                read_is files looked.one looked.two page1 read.logs legal.logs is_page1.1,
              ) refl;
          named = λ old.
              v.named
              ∙ named_size_is files looked.one looked.two looked.main page1 read.logs legal.logs read.main is_page1.0 is_page1.1 told passes1 passes2 (pages_told looked.one looked.two page1.header.pages)
              (counted files looked.one looked.two looked.main page1 read.logs legal.logs read.main is_page1.0 is_page1.1 told passes1 passes2)
              ∙ rw v.page_size refl;
          byte = λ old.
              v.byte ∙ byte_is files looked.one looked.two looked.main page1 read.logs legal.logs read.main is_page1.0 is_page1.1 told passes1 passes2 (omega (arith, count_is, v.some_page));
          count = rw v.new count_is;
          some_page = λ old. v.some_page;
          standing = λ view same k none less.
              subst (λ (place : Place). IsPlaceOf view (one_in files) (two_in files) files (k + 1) place) (sym (v.places k none less))
              (place_is files looked.one looked.two looked.main page1 read.logs legal.logs read.main is_page1.0 is_page1.1 told passes1 passes2 view (same ∙ v.page_size ∙ size_is) (k + 1));
          fits = λ k none less.
              let whole = none_missing (is_whole_by looked.one looked.two page1.header.page_size looked.main) 1 (length seen.places) v.none_missing (k + 1) (omega arith) (omega (arith, less)) in
              subst (λ (place : Place). FitsPlace files seen.page_size (k + 1) place) (sym (v.places k none less))
              (subst (λ (n : ℕ). FitsPlace files n (k + 1) (place_in looked.one looked.two (k + 1))) (sym (v.page_size ∙ size_is))
              (place_fits files looked.one looked.two looked.main page1 read.logs legal.logs read.main is_page1.0 is_page1.1 told passes1 passes2 (k + 1)
              (sym (ap (λ (n : ℕ). is_whole_by looked.one looked.two n looked.main (k + 1)) size_is) ∙ whole)));
        }

  pub fault_is : (count : ℕ) (why : LookFault) → count ≡ pages_told looked.one looked.two page1.header.pages → 1 ≤ count → IsMissing (is_whole_by looked.one looked.two page1.header.page_size looked.main) count why
      → IsSeenFault looked why
  fault_is count Memory is some missing = tt
  fault_is count (Missing page) is some missing = λ files read. missing_of files read count (Some page) is some missing
  fault_is count Disk is some missing = absurd missing
  fault_is count (Header fault) is some missing = absurd missing
  fault_is count WalMode is some missing = absurd missing
  fault_is count HotJournal is some missing = absurd missing
  fault_is count (ForeignLog file at) is some missing = absurd missing

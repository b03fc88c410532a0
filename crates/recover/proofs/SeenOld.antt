-- What was seen of a database that is there.
use Rattle.std.proofs.Common.{◌≡◌, ◌≢◌, ℕ, zero, suc, ◌+◌, ◌*◌, ◌≤◌, ◌<◌, ◌==◌, ◌||◌, not, max, Bool, true, false, if◌then◌else◌, List, [], ◌∷◌, ◌++◌, length, take, drop, Option, Some, None, refl, sym, ◌∙◌, ap, subst, arith, get_or-take}
use Rattle.std.specs.Prelude.{nat_le, slice_index}
use Rattle.std.proofs.lemmas.Bool.{true≢false}
use Rattle.std.proofs.lemmas.Bool.Decides.{Decides-eqb}
use Rattle.disk_face.specs.declared.disk.File.{File}
use Rattle.disk_face.specs.declared.disk.File.TheVariants.{Log1, Log2}
use Rattle.disk_face.specs.Files.{Files, content}
use Rattle.page_spec.specs.Header.{fields_of, pages_in}
use Rattle.page_spec.specs.PageMap.{page_at}
use Rattle.log_spec.specs.Accept.{Frame}
use Rattle.log_spec.specs.Frames.{accepted_frames}
use Rattle.db_header.specs.Header.{IsTold}
use Rattle.wal_frames.specs.Front.{header_in}
use Rattle.wal_frames.specs.declared.header.LogHeader.{LogHeader}
use Rattle.wal_frames.specs.declared.header.Front.{Front}
use Rattle.wal_frames.specs.declared.header.Front.TheVariants.{Ours}
use Rattle.wal_frames.specs.declared.found.Accepted.{Accepted}
use Rattle.crash_spec.specs.Recovered.{main_page, size_after, pages_from}
use Rattle.opening_spec.specs.Found.{OpeningView, older_in, newer_in, page_in, pages_held}
use Rattle.opening_spec.proofs.Laid.{page_1_is}
use Rattle.recover.specs.declared.place.Place.{Place}
use Rattle.recover.specs.declared.place.Place.TheVariants.{InMain, InLog}
use Rattle.recover.specs.declared.scan.First.{First}
use Rattle.recover.specs.declared.seen.LookFault.TheVariants.{Missing, ForeignLog}
use Rattle.recover.specs.Places.{IsPlaceOf, FitsPlace}
use Rattle.recover.specs.Seeing.{one_in, two_in, first_in, size_in, map_found, is_new_in, is_some_list, is_held, first_missing, missing_fault, of_missing, of_size}
use Rattle.recover.specs.Looking.{AreScanned, AreLegal, TellsFirst, bytes_at, place_in, page_size_of_log, size_read, pages_told, size_over, named_read, size_counts, is_whole_at, is_whole_by}
use Rattle.recover.proofs.PlacesHold.{HoldsAt, is_in_main, whole_is}
use Rattle.recover.proofs.LogsRead.{place_holds, in_order, one_of, two_of, some1, some2, earlier, IsOfLog, ours_front}
use Rattle.recover.proofs.Page1.{le_of, le_false}
use Rattle.recover.proofs.Page1Read.{roomy_size}
use Rattle.recover.proofs.HeaderRead.{fields_same, page_size_is, pages_is}
use Rattle.recover.proofs.Held.{is_among, among_then, then_among, in_main_is}
use Rattle.recover.proofs.SizesRead.{size_after_is, named_is, none_given, none_over}
use Rattle.recover.proofs.Missing.{same_held}

length_pages : (page : ℕ → List ℕ) (number count : ℕ) → length (pages_from page number count) ≡ count
length_pages page number zero = refl
length_pages page number (suc count) = omega (arith, length_pages page (number + 1) count)

-- a log with frames has pages of the size that page 1 names
sized_log : (pages : List ℕ) (front : Front) (size : ℕ) (log : File) → (if is_some_list pages then of_size front size log else None) ≡ None → is_some_list pages ≡ true → (header : LogHeader) → front ≡ Ours header
    → page_size_of_log front ≡ size
sized_log pages front size log passes some header is =
    ap (λ (f : Front). page_size_of_log f) is
    ∙ by (header.page_size == size) (Decides-eqb header.page_size size)
    (sym (ap (λ (f : Front). of_size f size log) is) ∙ sym (ap (λ (b : Bool). if b then of_size front size log else None) some) ∙ passes)
  where
    by : (same : Bool) → (same ≡ true → header.page_size ≡ size) × (header.page_size ≡ size → same ≡ true) → (if same then None else Some (ForeignLog log 8)) ≡ None → header.page_size ≡ size
    by true decides none = decides.0 refl
    by false decides none = cc

some_of : (frames : List Frame) → frames ≢ [] → is_some_list frames ≡ true
some_of [] some = absurd (some refl)
some_of (frame ∷ rest) some = refl

page_one : (page : ℕ → List ℕ) (count : ℕ) → 1 ≤ count → page_at (pages_from page 1 count) 1 ≡ page 1
page_one page zero some = absurd (omega arith)
page_one page (suc count) some = refl

byte_of : (files : Files) (size : ℕ) (place : Place) (page : List ℕ) → 512 ≤ size → HoldsAt files (λ n. n ≡ size) (main_page size files.main 1) place page → slice_index (bytes_at files place) 100 ≡ slice_index page 100
byte_of files size InMain page big is =
    get_or-take 101 files.main 100 0 (omega arith) ∙ sym (get_or-take size files.main 100 0 (omega arith)) ∙ ap (λ (bytes : List ℕ). slice_index bytes 100) (sym (is ∙ page_1_is size files.main))
byte_of files size (InLog file at) page big (is_log, has) =
    get_or-take 101 (drop at (content files file)) 100 0 (omega arith) ∙ sym (get_or-take has.size (drop at (content files file)) 100 0 (omega (arith, has.fits)))
    ∙ ap (λ (bytes : List ℕ). slice_index bytes 100) has.is

module _ (files : Files) (one two : Accepted) (main : ℕ) (first : First) (scanned : AreScanned files one two) (legal : AreLegal one two) (sized : main ≡ length files.main) (old : is_new_in files ≡ false)
    (tells : TellsFirst (bytes_at files (place_in one two 1)) (length files.main) first) (told : IsTold first.header)
    (passes1 : size_read (Some first) one.front one.pages.items Log1 ≡ None) (passes2 : size_read (Some first) two.front two.pages.items Log2 ≡ None) where
  abbrev f1 : List Frame
  f1 = accepted_frames 1 files.log1

  abbrev f2 : List Frame
  f2 = accepted_frames 2 files.log2

  abbrev bytes : List ℕ
  bytes = bytes_at files (place_in one two 1)

  abbrev size : ℕ
  size = size_in files

  of1 : IsOfLog 1 files.log1 one
  of1 = one_of files one two scanned

  of2 : IsOfLog 2 files.log2 two
  of2 = two_of files one two scanned

  abbrev same_fields : fields_of bytes ≡ fields_of (first_in files)
  same_fields = fields_same files one two first scanned legal tells

  abbrev size_is : first.header.page_size ≡ size
  size_is = page_size_is files one two first scanned legal tells

  abbrev given_is : first.header.pages ≡ pages_in (first_in files) (length files.main)
  given_is = pages_is files one two first scanned legal tells

  big : 512 ≤ size
  big = subst (λ (n : ℕ). 512 ≤ n) size_is (roomy_size first.header.page_size told.page_size)

  fits1 : f1 ≢ [] → page_size_of_log one.front ≡ size
  fits1 some =
      sized_log one.pages.items one.front first.header.page_size Log1 passes1 (some1 files one two scanned ∙ some_of f1 some) (header_in files.log1) (of1.front ∙ ours_front 1 files.log1 (of1.ours some)) ∙ size_is

  fits2 : f2 ≢ [] → page_size_of_log two.front ≡ size
  fits2 some =
      sized_log two.pages.items two.front first.header.page_size Log2 passes2 (some2 files one two scanned ∙ some_of f2 some) (header_in files.log2) (of2.front ∙ ours_front 2 files.log2 (of2.ours some)) ∙ size_is

  page_here : (number : ℕ) → HoldsAt files (λ n. n ≡ size) (main_page size files.main number) (place_in one two number) (page_in size files (one_in files) (two_in files) number)
  page_here number = place_holds files one two scanned (λ n. n ≡ size) (main_page size files.main number) number fits1 fits2

  -- the size of the map
  abbrev given : ℕ
  given = pages_in (first_in files) (length files.main)

  pub counted : pages_told one two first.header.pages ≡ length (map_found files)
  counted =
      ap (λ (n : ℕ). pages_told one two n) given_is ∙ by (earlier files one two scanned) ∙ sym (in_order files one two scanned (λ (older newer : List Frame). size_after newer (size_after older given)) (λ frames. refl))
      ∙ sym (length_pages (λ number. page_in size files (one_in files) (two_in files) number) 1 (size_after (newer_in files (one_in files) (two_in files)) (size_after (older_in files (one_in files) (two_in files)) given)))
    where
      over1 : (below : ℕ) → size_over one.size below ≡ size_after f1 below
      over1 below = ap (λ (n : ℕ). size_over n below) of1.size ∙ sym (size_after_is f1 below of1.committed.committed)

      over2 : (below : ℕ) → size_over two.size below ≡ size_after f2 below
      over2 below = ap (λ (n : ℕ). size_over n below) of2.size ∙ sym (size_after_is f2 below of2.committed.committed)

      by : (is_first : Bool) → (if is_first then size_over two.size (size_over one.size given) else size_over one.size (size_over two.size given))
          ≡ size_after (if is_first then f2 else f1) (size_after (if is_first then f1 else f2) given)
      by true = over2 (size_over one.size given) ∙ ap (λ (n : ℕ). size_after f2 n) (over1 given)
      by false = over1 (size_over two.size given) ∙ ap (λ (n : ℕ). size_after f1 n) (over2 given)

  held_is : (number : ℕ) → is_among (pages_held (one_in files) (two_in files)) number ≡ is_among (one.pages.items ++ two.pages.items) number
  held_is number = rw (of1.pages, of2.pages) refl

  -- each page stands where it is said to
  pub place_is : (view : OpeningView) → view.size ≡ size → (number : ℕ) → IsPlaceOf view (one_in files) (two_in files) files number (place_in one two number)
  place_is view same number = by (place_in one two number) (page_here number) (in_main_is one two number ∙ ap (λ (held : Bool). not held) (sym (held_is number)))
    where
      by : (place : Place) → HoldsAt files (λ n. n ≡ size) (main_page size files.main number) place (page_in size files (one_in files) (two_in files) number)
          → is_in_main place ≡ not (is_among (pages_held (one_in files) (two_in files)) number) → IsPlaceOf view (one_in files) (two_in files) files number place
      by InMain holds is = λ held. true≢false (is ∙ ap (λ (there : Bool). not there) (then_among (pages_held (one_in files) (two_in files)) number held))
      by (InLog file at) (is_log, has) is = (
        is_log,
        among_then (pages_held (one_in files) (two_in files)) number (negated (is_among (pages_held (one_in files) (two_in files)) number) is),
        subst (λ (n : ℕ). take n (drop at (content files file)) ≡ page_in n files (one_in files) (two_in files) number) (sym same)
            (subst (λ (n : ℕ). take n (drop at (content files file)) ≡ page_in size files (one_in files) (two_in files) number) has.fits has.is),
      )
        where
          negated : (a : Bool) → false ≡ not a → a ≡ true
          negated true is = refl
          negated false is = absurd (true≢false (sym is))

  pub place_fits : (number : ℕ) → is_whole_at size main number (place_in one two number) ≡ true → FitsPlace files size number (place_in one two number)
  place_fits number whole = by (place_in one two number) (page_here number) whole
    where
      by : (place : Place) → HoldsAt files (λ n. n ≡ size) (main_page size files.main number) place (page_in size files (one_in files) (two_in files) number) → is_whole_at size main number place ≡ true
          → FitsPlace files size number place
      by InMain holds whole = omega (arith, le_of (number * size) main whole, sized)
      by (InLog file at) (is_log, has) whole = omega (arith, has.inside, has.fits)

  -- a page is held exactly where it is whole by the logs' page numbers and Main's length
  whole_held : (number : ℕ) → is_whole_by one two first.header.page_size main number ≡ is_held files number
  whole_held number =
      ap (λ (n : ℕ). is_whole_by one two n main number) size_is
      ∙ whole_is size main number (place_in one two number) (is_among (pages_held (one_in files) (two_in files)) number) (in_main_is one two number ∙ ap (λ (held : Bool). not held) (sym (held_is number)))
      ∙ ap (λ (n : ℕ). is_among (pages_held (one_in files) (two_in files)) number || nat_le (number * size) n) sized

  pub missing_is : (count : ℕ) (result : Option ℕ) → count ≡ length (map_found files) → 1 ≤ count → first_missing (is_whole_by one two first.header.page_size main) 1 count ≡ result
      → missing_fault files ≡ of_missing result
  missing_is count result is some found =
      let all : max 1 (length (map_found files)) ≡ count = omega (arith, is) in
      let same : first_missing (is_held files) 1 (max 1 (length (map_found files))) ≡ result =
      ap (λ (n : ℕ). first_missing (is_held files) 1 n) all ∙ sym (same_held (is_whole_by one two first.header.page_size main) (is_held files) 1 count (λ n from less. whole_held n)) ∙ found in
      rw (old, same) refl

  pub none_there : pages_told one two first.header.pages ≡ 0 → missing_fault files ≡ Some (Missing 1)
  none_there none =
      let all : max 1 (length (map_found files)) ≡ 1 = omega (arith, counted, none) in
      let free : is_held files 1 ≡ false = sym (whole_held 1) ∙ not_whole in
      let same : first_missing (is_held files) 1 (max 1 (length (map_found files))) ≡ Some 1 = ap (λ (n : ℕ). first_missing (is_held files) 1 n) all ∙ rw free refl in
      rw (old, same) refl
    where
      zeros : (one.size ≡ 0) × (two.size ≡ 0) × (first.header.pages ≡ 0)
      zeros = by (earlier files one two scanned) none
        where
          by : (is_first : Bool) → (if is_first then size_over two.size (size_over one.size first.header.pages) else size_over one.size (size_over two.size first.header.pages)) ≡ 0
              → (one.size ≡ 0) × (two.size ≡ 0) × (first.header.pages ≡ 0)
          by true is =
              let a = none_over two.size (size_over one.size first.header.pages) is in
              let b = none_over one.size first.header.pages a.1 in
              (b.0, a.0, b.1)
          by false is =
              let a = none_over one.size (size_over two.size first.header.pages) is in
              let b = none_over two.size first.header.pages a.1 in
              (a.0, b.0, b.1)

      not_whole : is_whole_by one two first.header.page_size main 1 ≡ false
      not_whole =
          let none1 : one.pages.items ≡ [] = legal.one.sized.0 zeros.0 in
          let none2 : two.pages.items ≡ [] = legal.two.sized.0 zeros.1 in
          let short : length files.main < size = none_given (first_in files) (length files.main) (omega (arith, big)) (sym given_is ∙ zeros.2) in
          let held : is_among (one.pages.items ++ two.pages.items) 1 ≡ false = rw (none1, none2) refl in
          ap (λ (n : ℕ). is_whole_by one two n main 1) size_is
          ∙ whole_is size main 1 (place_in one two 1) (is_among (one.pages.items ++ two.pages.items) 1) (in_main_is one two 1)
          ∙ rw held (le_false (1 * size) main (omega (arith, short, sized, alone size)))
        where
          alone : (n : ℕ) → 1 * n ≡ n
          alone n = grind arith

  pub named_size_is : (count : ℕ) → count ≡ length (map_found files) → named_read first count ≡ pages_in (first_in files) (max (length files.main) (length (map_found files) * first.header.page_size))
  named_size_is count is =
      named_is (first_in files) first (length files.main) count (omega (arith, big)) (tells.counts ∙ counts_alike bytes (first_in files) same_fields) given_is
      ∙ ap (λ (n : ℕ). pages_in (first_in files) (max (length files.main) (n * size))) is
      ∙ ap (λ (n : ℕ). pages_in (first_in files) (max (length files.main) (length (map_found files) * n))) (sym size_is)
    where
      counts_alike : (a b : List ℕ) → fields_of a ≡ fields_of b → size_counts a ≡ size_counts b
      counts_alike a b same = rw same refl

  pub byte_is : 1 ≤ length (map_found files) → first.byte ≡ slice_index (page_at (map_found files) 1) 100
  byte_is some =
      let count : ℕ = size_after (newer_in files (one_in files) (two_in files)) (size_after (older_in files (one_in files) (two_in files)) given) in
      let long : length (map_found files) ≡ count = length_pages (λ number. page_in size files (one_in files) (two_in files) number) 1 count in
      tells.byte ∙ byte_of files size (place_in one two 1) (page_in size files (one_in files) (two_in files) 1) big (page_here 1)
      ∙ ap (λ (page : List ℕ). slice_index page 100) (sym (page_one (λ number. page_in size files (one_in files) (two_in files) number) count (omega (arith, long, some))))

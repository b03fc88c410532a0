-- What files tell in which an opening finds no fault: a header that is readable, logs of the page size, and whole pages.
use Rattle.std.proofs.Common.{◌≡◌, ◌⊎◌, inl, inr, ℕ, zero, suc, ◌+◌, ◌-◌, ◌*◌, ◌≤◌, ◌<◌, ◌==◌, ◌||◌, max, Bool, true, false, if◌then◌else◌, List, [], ◌∷◌, ◌++◌, length, take, drop, Option, Some, None, refl, sym, ◌∙◌, ap, arith}
use Rattle.std.specs.List.{list_any}
use Rattle.std.specs.Prelude.{Contains, nat_lt, nat_le}
use Rattle.std.proofs.lemmas.Bool.{cases_lt, eqb-true}
use Rattle.std.proofs.lemmas.Bool.Decides.{Decides-eqb}
use Rattle.std.proofs.lemmas.List.{length-take-le, length-drop, take-take}
use Rattle.std.proofs.lemmas.List.Elements.{Contains-append_cases, Contains-append_left, Contains-append_right}
use Rattle.disk_face.specs.declared.disk.File.{File}
use Rattle.disk_face.specs.declared.disk.File.TheVariants.{Main, Log1, Log2}
use Rattle.disk_face.specs.Files.{Files}
use Rattle.page_spec.specs.Header.{fields_of, page_size_in, pages_in, is_database, has_page_size, has_versions, is_utf8, is_without_auto_vacuum, has_usable_bytes, has_schema_format, is_within_limit, IsHeader}
use Rattle.page_spec.specs.PageMap.{page_at}
use Rattle.log_spec.specs.Checksum.{Sum}
use Rattle.log_spec.specs.LogHeader.{LogFields, log_fields, is_signed, foreign_at}
use Rattle.log_spec.specs.Accept.{Frame, page_number, page_of, page_numbers, sum_after, AreValidFrames}
use Rattle.log_spec.specs.Frames.{accepted_frames}
use Rattle.log_spec.proofs.AcceptedIs.{accepted_is}
use Rattle.db_header.specs.Header.{refusal, tests_of, first_failure}
use Rattle.db_header.specs.declared.fault.HeaderFault.{HeaderFault}
use Rattle.wal_frames.specs.Front.{front_of, signed_front, header_in}
use Rattle.wal_frames.specs.declared.header.Front.TheVariants.{Nothing}
use Rattle.crash_spec.specs.Logs.{HaveSize}
use Rattle.crash_spec.specs.Recovered.{main_page, page_after_frames, size_after}
use Rattle.crash_spec.proofs.FirstPage.{page_1_is}
use Rattle.crash_spec.proofs.Pieces.{contains_cons, contains_none, contains_tail}
use Rattle.opening_spec.specs.Found.{older_in, newer_in, page_in, pages_held}
use Rattle.opening_spec.proofs.Written.{page_of_both, page_of_neither}
use Rattle.recover.specs.Seeing.{is_new_in, first_in, size_in, one_in, two_in, map_found, fault_of, first_fault, header_fault, wal_fault, foreign_fault, size_fault, room_fault, missing_fault, is_held, is_some_list, first_missing, of_header, of_missing}
use Rattle.recover.proofs.Page1.{le_of}
use Rattle.recover.proofs.SeenFiles.{legal_size}
use Rattle.recover.specs.declared.seen.LookFault.{LookFault}
use Rattle.recover.specs.declared.seen.LookFault.TheVariants.{ForeignLog}
use Rattle.store.proofs.Mixed.{no_header}
use Rattle.reopening.proofs.PagesHeld.{nth_page, length_pages, among_or_not, page_end}

-- no fault is the first one, so there is none
none_more : (fault : Option LookFault) (rest : List (Option LookFault)) → first_fault (fault ∷ rest) ≡ None → (fault ≡ None) × (first_fault rest ≡ None)
none_more None rest is = (refl, is)
none_more (Some fault) rest is = cc

-- the faults that are asked here
pub record HasNone (header one two size1 size2 missing : Option LookFault) : Type 0 where
  pub header_none : header ≡ None
  pub one_none : one ≡ None
  pub two_none : two ≡ None
  pub size1_none : size1 ≡ None
  pub size2_none : size2 ≡ None
  pub missing_none : missing ≡ None

none_at_all : (a b d e f g h i : Option LookFault) → first_fault (a ∷ b ∷ None ∷ d ∷ e ∷ f ∷ g ∷ h ∷ i ∷ []) ≡ None → HasNone a d e f g i
none_at_all a b d e f g h i is =
    let one = none_more a (b ∷ None ∷ d ∷ e ∷ f ∷ g ∷ h ∷ i ∷ []) is in
    let two = none_more b (None ∷ d ∷ e ∷ f ∷ g ∷ h ∷ i ∷ []) one.1 in
    let three = none_more None (d ∷ e ∷ f ∷ g ∷ h ∷ i ∷ []) two.1 in
    let four = none_more d (e ∷ f ∷ g ∷ h ∷ i ∷ []) three.1 in
    let five = none_more e (f ∷ g ∷ h ∷ i ∷ []) four.1 in
    let six = none_more f (g ∷ h ∷ i ∷ []) five.1 in
    let seven = none_more g (h ∷ i ∷ []) six.1 in
    let eight = none_more h (i ∷ []) seven.1 in
    let nine = none_more i [] eight.1 in
    record { header_none = one.0; one_none = four.0; two_none = five.0; size1_none = six.0; size2_none = seven.0; missing_none = nine.0 }

abbrev pub HaveNone : Files → Type 0
HaveNone files =
    HasNone (header_fault files) (foreign_fault (front_of 1 files.log1) Log1) (foreign_fault (front_of 2 files.log2) Log2)
    (size_fault (front_of 1 files.log1) (one_in files).frames (size_in files) Log1) (size_fault (front_of 2 files.log2) (two_in files).frames (size_in files) Log2) (missing_fault files)

pub none_of : (files : Files) → fault_of files false ≡ None → HaveNone files
unfolding fault_of
none_of files fine =
    none_at_all (header_fault files) (wal_fault files) (foreign_fault (front_of 1 files.log1) Log1) (foreign_fault (front_of 2 files.log2) Log2)
    (size_fault (front_of 1 files.log1) (one_in files).frames (size_in files) Log1) (size_fault (front_of 2 files.log2) (two_in files).frames (size_in files) Log2) (room_fault files)
    (missing_fault files) fine

-- a header that isn't refused is a readable one
passes_all : (a b c d e f g h : Bool) (fa fb fc fd fe ff fg fh : HeaderFault)
    → first_failure (
    (record { passes = a; fault = fa })
    ∷ (record { passes = b; fault = fb })
    ∷ (record { passes = c; fault = fc })
    ∷ (record { passes = d; fault = fd })
    ∷ (record { passes = e; fault = fe })
    ∷ (record { passes = f; fault = ff })
    ∷ (record { passes = g; fault = fg })
    ∷ (record { passes = h; fault = fh })
    ∷ []) ≡ None
    → (a ≡ true) × (b ≡ true) × (c ≡ true) × (d ≡ true) × (e ≡ true) × (f ≡ true) × (g ≡ true)
passes_all false b c d e f g h fa fb fc fd fe ff fg fh is = cc
passes_all true false c d e f g h fa fb fc fd fe ff fg fh is = cc
passes_all true true false d e f g h fa fb fc fd fe ff fg fh is = cc
passes_all true true true false e f g h fa fb fc fd fe ff fg fh is = cc
passes_all true true true true false f g h fa fb fc fd fe ff fg fh is = cc
passes_all true true true true true false g h fa fb fc fd fe ff fg fh is = cc
passes_all true true true true true true false h fa fb fc fd fe ff fg fh is = cc
passes_all true true true true true true true h fa fb fc fd fe ff fg fh is = (refl, refl, refl, refl, refl, refl, refl)

pub accepted_header : (first : List ℕ) (n : ℕ) → refusal first n ≡ None → IsHeader first
unfolding refusal tests_of
accepted_header first n none =
    let all = passes_all (is_database first) (has_page_size (fields_of first)) (has_versions (fields_of first)) (is_utf8 (fields_of first)) (is_without_auto_vacuum (fields_of first))
    (has_usable_bytes (fields_of first)) (has_schema_format (fields_of first)) (is_within_limit (pages_in first n) (page_size_in (fields_of first))) _ _ _ _ _ _ _ _ none in
    record {
      database = all.0;
      page_size = all.1;
      versions = all.2;
      utf8 = all.3;
      without_auto_vacuum = all.4;
      usable_bytes = all.5;
      schema_format = all.6;
    }

-- a log with frames has the page size
sized_front : (log : ℕ) (bytes : List ℕ) (size : ℕ) (file : File) → size_fault (front_of log bytes) (accepted_frames log bytes) size file ≡ None
    → (accepted_frames log bytes ≡ [] → ⊥) → (log_fields bytes).page_size ≡ size
unfolding front_of header_in
sized_front log bytes size file none some = by (is_signed bytes) (foreign_at log (log_fields bytes)) refl refl none
  where
    seen : (frames : List Frame) → (frames ≡ [] → ⊥) → (if is_some_list frames then (if (header_in bytes).page_size == size then None else Some (ForeignLog file 8)) else None) ≡ None → (log_fields bytes).page_size ≡ size
    seen [] some none = absurd (some refl)
    seen (frame ∷ rest) some none = own ((header_in bytes).page_size == size) refl none
      where
        own : (same : Bool) → ((header_in bytes).page_size == size) ≡ same → (if same then None else Some (ForeignLog file 8)) ≡ None → (log_fields bytes).page_size ≡ size
        own true is none = eqb-true (header_in bytes).page_size size is
        own false is none = cc

    by : (s : Bool) (at : Option ℕ) → is_signed bytes ≡ s → foreign_at log (log_fields bytes) ≡ at → size_fault (if s then signed_front bytes at else Nothing) (accepted_frames log bytes) size file ≡ None
        → (log_fields bytes).page_size ≡ size
    by true None is own none = seen (accepted_frames log bytes) some none
    by true (Some at) is own none = absurd (some (no_header log bytes (rw (is, own) refl)))
    by false at is own none = absurd (some (no_header log bytes (rw is refl)))

pub none_sized : (files : Files) → HaveNone files → HaveSize (size_in files) files
none_sized files none Main is some = absurd is
none_sized files none Log1 is some = sized_front 1 files.log1 (size_in files) Log1 none.size1_none some
none_sized files none Log2 is some = sized_front 2 files.log2 (size_in files) Log2 none.size2_none some

-- a page that frames hold has their page size, and so has one below them that has it
abbrev KeepsSize : ℕ → ℕ → List Frame → Type 0
KeepsSize size number frames = (below : List ℕ) → Contains (page_numbers frames) number ⊎ (length below ≡ size) → length (page_after_frames frames number below) ≡ size

frames_sized : (size number : ℕ) (header : LogFields) (sum : Sum) (frames : List Frame) → AreValidFrames header sum frames → ((frames ≡ [] → ⊥) → header.page_size ≡ size) → KeepsSize size number frames
frames_sized size number header sum [] valid sized below (inl held) = absurd (contains_none number held)
frames_sized size number header sum [] valid sized below (inr long) = long
frames_sized size number header sum (frame ∷ rest) (valid, others) sized below has =
    by (frames_sized size number header (sum_after header sum frame) rest others (λ some. paged)) (page_number frame == number) (Decides-eqb (page_number frame) number)
  where
    paged : header.page_size ≡ size
    paged = sized (λ none. cc)

    page_long : length (page_of frame) ≡ size
    page_long = omega (arith, length-drop 24 frame, valid.whole, paged)

    by : KeepsSize size number rest → (same : Bool) → (same ≡ true → page_number frame ≡ number) × (page_number frame ≡ number → same ≡ true)
        → length (page_after_frames rest number (if same then page_of frame else below)) ≡ size
    by behind true decides = behind (page_of frame) (inr page_long)
    by behind false decides = elim has [
      | inl held ↦ elim (contains_cons (page_number frame) (page_numbers rest) number held) [
        | inl here ↦ absurd (let same = decides.1 here in cc)
        | inr later ↦ behind below (inl later)
      ]
      | inr long ↦ behind below (inr long)
    ]

both_sized : (size number : ℕ) (first : Bool) (one two : List Frame) → KeepsSize size number one → KeepsSize size number two → (below : List ℕ)
    → Contains (page_numbers one ++ page_numbers two) number ⊎ (length below ≡ size)
    → length (page_after_frames (if first then two else one) number (page_after_frames (if first then one else two) number below)) ≡ size
both_sized size number first one two keeps1 keeps2 below (inr long) = by first
  where
    by : (first : Bool) → length (page_after_frames (if first then two else one) number (page_after_frames (if first then one else two) number below)) ≡ size
    by true = keeps2 (page_after_frames one number below) (inr (keeps1 below (inr long)))
    by false = keeps1 (page_after_frames two number below) (inr (keeps2 below (inr long)))
both_sized size number first one two keeps1 keeps2 below (inl held) = elim (Contains-append_cases (page_numbers one) (page_numbers two) number held) [
  | inl here ↦ in_one first here
  | inr there ↦ in_two first there
]
  where
    in_one : (first : Bool) → Contains (page_numbers one) number → length (page_after_frames (if first then two else one) number (page_after_frames (if first then one else two) number below)) ≡ size
    in_one true here = keeps2 (page_after_frames one number below) (inr (keeps1 below (inl here)))
    in_one false here = keeps1 (page_after_frames two number below) (inl here)

    in_two : (first : Bool) → Contains (page_numbers two) number → length (page_after_frames (if first then two else one) number (page_after_frames (if first then one else two) number below)) ≡ size
    in_two true there = keeps2 (page_after_frames one number below) (inl there)
    in_two false there = keeps1 (page_after_frames two number below) (inr (keeps2 below (inl there)))

-- where none is missing, each is held
each_there : (held : ℕ → Bool) (number count : ℕ) → first_missing held number count ≡ None → (n : ℕ) → number ≤ n → n < number + count → held n ≡ true
each_there held number zero none n from less = absurd (omega arith)
each_there held number (suc count) none n from less = by (λ none later less. each_there held (number + 1) count none n later less) (held number) refl none
  where
    by : (first_missing held (number + 1) count ≡ None → number + 1 ≤ n → n < number + 1 + count → held n ≡ true)
        → (there : Bool) → held number ≡ there → (if there then first_missing held (number + 1) count else Some number) ≡ None → held n ≡ true
    by rest true is none = elim (cases_lt number n) [
      | inl later ↦ rest none (omega arith) (omega arith)
      | inr here ↦ let same : number ≡ n = omega arith in ap held (sym same) ∙ is
    ]
    by rest false is none = cc

-- a number that is found among others is one of them
found_among : (numbers : List ℕ) (number : ℕ) → list_any (λ n. n == number) numbers ≡ true → Contains numbers number
found_among [] number is = cc
found_among (first ∷ rest) number is = by (found_among rest number) (first == number) (Decides-eqb first number) is
  where
    by : (list_any (λ n. n == number) rest ≡ true → Contains rest number) → (same : Bool) → (same ≡ true → first ≡ number) × (first ≡ number → same ≡ true)
        → (same || list_any (λ n. n == number) rest) ≡ true → Contains (first ∷ rest) number
    by behind true decides is = (0, omega arith, decides.0 refl)
    by behind false decides is = contains_tail first rest number (behind is)

either_held : (first : Bool) (one two : List Frame) (number : ℕ)
    → (Contains (page_numbers (if first then one else two)) number → Contains (page_numbers one ++ page_numbers two) number)
    × (Contains (page_numbers (if first then two else one)) number → Contains (page_numbers one ++ page_numbers two) number)
either_held true one two number = (λ c. Contains-append_left (page_numbers one) (page_numbers two) number c, λ c. Contains-append_right (page_numbers one) (page_numbers two) number c)
either_held false one two number = (λ c. Contains-append_right (page_numbers one) (page_numbers two) number c, λ c. Contains-append_left (page_numbers one) (page_numbers two) number c)

-- the pages of the recovered map, one by one
found_page : (files : Files) (k : ℕ) → k < length (map_found files) → page_at (map_found files) (suc k) ≡ page_in (size_in files) files (one_in files) (two_in files) (suc k)
found_page files k less = nth_page page 1 count k (omega (arith, length_pages page 1 count)) ∙ ap page (omega arith)
  where
    page : ℕ → List ℕ
    page number = page_in (size_in files) files (one_in files) (two_in files) number

    count : ℕ
    count = size_after (newer_in files (one_in files) (two_in files)) (size_after (older_in files (one_in files) (two_in files)) (pages_in (first_in files) (length files.main)))

module _ (files : Files) (none : HaveNone files) (old : is_new_in files ≡ false) where
  pub header_is : IsHeader (first_in files)
  header_is = accepted_header (first_in files) (length files.main) (by (is_new_in files) old none.header_none)
    where
      of_none : (fault : Option HeaderFault) → of_header fault ≡ None → fault ≡ None
      of_none None is = refl
      of_none (Some fault) is = cc

      by : (new : Bool) → new ≡ false → (if new then None else of_header (refusal (first_in files) (length files.main))) ≡ None → refusal (first_in files) (length files.main) ≡ None
      by true is none = cc
      by false is none = of_none (refusal (first_in files) (length files.main)) none

  legal : (512 ≤ size_in files) × (size_in files ≤ 65536)
  legal = legal_size (size_in files) header_is.page_size

  page_held : (number : ℕ) → 1 ≤ number → number < 1 + length (map_found files) → is_held files number ≡ true
  page_held number from less = by (is_new_in files) old none.missing_none
    where
      of_none : (page : Option ℕ) → of_missing page ≡ None → page ≡ None
      of_none None is = refl
      of_none (Some page) is = cc

      by : (new : Bool) → new ≡ false → (if new then None else of_missing (first_missing (is_held files) 1 (max 1 (length (map_found files))))) ≡ None → is_held files number ≡ true
      by true is none = cc
      by false is none =
          each_there (is_held files) 1 (max 1 (length (map_found files))) (of_none (first_missing (is_held files) 1 (max 1 (length (map_found files)))) none) number from (omega arith)

  page_whole : (number : ℕ) → 1 ≤ number → is_held files number ≡ true → length (page_in (size_in files) files (one_in files) (two_in files) number) ≡ size_in files
  page_whole number from held =
      both_sized (size_in files) number (nat_lt (log_fields files.log1).generation (log_fields files.log2).generation) (one_in files).frames (two_in files).frames
      (frames_sized (size_in files) number (log_fields files.log1) (log_fields files.log1).sum (one_in files).frames (accepted_is 1 files.log1).committed.valid (none_sized files none Log1 tt))
      (frames_sized (size_in files) number (log_fields files.log2) (log_fields files.log2).sum (two_in files).frames (accepted_is 2 files.log2).committed.valid (none_sized files none Log2 tt))
      (main_page (size_in files) files.main number) (by (list_any (λ n. n == number) (pages_held (one_in files) (two_in files))) refl held)
    where
      by : (any : Bool) → list_any (λ n. n == number) (pages_held (one_in files) (two_in files)) ≡ any → (any || nat_le (number * size_in files) (length files.main)) ≡ true
          → Contains (pages_held (one_in files) (two_in files)) number ⊎ (length (main_page (size_in files) files.main number) ≡ size_in files)
      by true is there = inl (found_among (pages_held (one_in files) (two_in files)) number is)
      by false is there =
          let reaches : number * size_in files ≤ length files.main = le_of (number * size_in files) (length files.main) there in
          inr (length-take-le (size_in files) (drop ((number - 1) * size_in files) files.main)
          (omega (arith, length-drop ((number - 1) * size_in files) files.main, reaches, page_end number (size_in files) from)))

  -- each page of the recovered map has the page size
  pub found_long : (k : ℕ) → k < length (map_found files) → length (page_at (map_found files) (suc k)) ≡ size_in files
  found_long k less =
      ap (λ (page : List ℕ). length page) (found_page files k less)
      ∙ page_whole (suc k) (omega arith) (page_held (suc k) (omega arith) (omega arith))

  -- and its page 1 begins with the bytes by which an opening goes
  pub found_first : 1 ≤ length (map_found files) → take 100 (page_at (map_found files) 1) ≡ take 100 (first_in files)
  found_first some = elim (among_or_not (pages_held (one_in files) (two_in files)) 1) [
    | inl (c, is) ↦ ap (λ (bytes : List ℕ). take 100 bytes) (found_page files 0 some
        ∙ page_of_both (nat_lt (log_fields files.log1).generation (log_fields files.log2).generation) (one_in files).frames (two_in files).frames 1 c (main_page (size_in files) files.main 1) (take 100 files.main))
    | inr none ↦ not_held none
  ]
    where
      in_main : (below : List ℕ) → (Contains (pages_held (one_in files) (two_in files)) 1 → ⊥)
          → page_after_frames (newer_in files (one_in files) (two_in files)) 1 (page_after_frames (older_in files (one_in files) (two_in files)) 1 below) ≡ below
      in_main below none =
          let either = either_held (nat_lt (log_fields files.log1).generation (log_fields files.log2).generation) (one_in files).frames (two_in files).frames 1 in
          page_of_neither (older_in files (one_in files) (two_in files)) (newer_in files (one_in files) (two_in files)) 1 below (λ held. none (either.0 held)) (λ held. none (either.1 held))

      not_held : (Contains (pages_held (one_in files) (two_in files)) 1 → ⊥) → take 100 (page_at (map_found files) 1) ≡ take 100 (first_in files)
      not_held none =
          let here : page_at (map_found files) 1 ≡ take (size_in files) files.main =
          found_page files 0 some ∙ in_main (main_page (size_in files) files.main 1) none ∙ page_1_is (size_in files) files.main in
          ap (λ (bytes : List ℕ). take 100 bytes) here ∙ take-take 100 (size_in files) files.main (omega (arith, legal.0))
          ∙ sym (take-take 100 100 files.main (omega arith)) ∙ ap (λ (bytes : List ℕ). take 100 bytes) (sym (in_main (take 100 files.main) none))

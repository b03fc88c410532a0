-- Files that a crash left are opened.
use Rattle.std.proofs.Common.{◌≡◌, inl, inr, ℕ, suc, ◌+◌, ◌-◌, ◌*◌, ◌≤◌, ◌<◌, ◌==◌, ◌&&◌, ◌||◌, not, max, Bool, true, false, if◌then◌else◌, List, [], length, take, Option, Some, None, refl, sym, ◌∙◌, ap, subst, arith}
use Rattle.std.specs.List.{list_any}
use Rattle.std.specs.Prelude.{Contains, nat_lt, nat_le, slice_index, IfSome}
use Rattle.std.proofs.lemmas.List.{take-take, length-take}
use Rattle.std.proofs.lemmas.List.Elements.{All-get_or, Contains-append_left, Contains-append_right}
use Rattle.disk_face.specs.declared.disk.File.TheVariants.{Log1, Log2}
use Rattle.disk_face.specs.Files.{Files}
use Rattle.page_spec.specs.Header.{HeaderFields, database_limit, fields_of, page_size_in, pages_in}
use Rattle.page_spec.specs.PageMap.{PageMap, page_at}
use Rattle.log_spec.specs.LogHeader.{log_fields, last_generation}
use Rattle.log_spec.specs.Accept.{page_numbers}
use Rattle.db_header.specs.Header.{refusal}
use Rattle.wal_frames.specs.Front.{front_of}
use Rattle.crash_spec.specs.Recovered.{main_page, page_after_frames, size_after, size_of_first}
use Rattle.crash_spec.proofs.NamedPages.{pages_alike}
use Rattle.opening_spec.specs.Found.{older_in, newer_in, page_in, pages_held}
use Rattle.opening_spec.proofs.Beginning.{map_is_recovered}
use Rattle.opening_spec.proofs.Laid.{page_1_is}
use Rattle.opening_spec.proofs.Written.{page_of_both, page_of_neither}
use Rattle.recover.specs.Seeing.{one_in, two_in, is_new_in, is_ours_in, first_in, size_in, map_found, fault_of, header_fault, wal_fault, room_fault, missing_fault, is_held, first_missing, of_header, of_missing, generation_opened, is_log_mode, size_fault, is_front_ours}
use Rattle.recover.proofs.SeenFiles.{legal_size}
use Rattle.store.specs.Opening.{AreOpened, fault_by, pages_fault, named_in, byte_in, is_mixed}
use Rattle.reopening.specs.Reopening.{HasOwnVersions, MayReopen}
use Rattle.reopening.proofs.FirstBytes.{le_true, database_is_long, fields_alike, header_alike, accepted_within, fewer_pages}
use Rattle.reopening.proofs.PagesHeld.{nth_page, length_pages, among_or_not, none_missing, whole_inside, page_end}
use Rattle.reopening.proofs.Fronts.{front_familiar, not_legacy, not_foreign, size_fits, not_ours, size_read, none_either, none_unless}

module _ (files : Files) (pages : PageMap) (m : MayReopen files pages) where
  abbrev held : List ℕ
  held = pages_held (one_in files) (two_in files)

  abbrev page : ℕ → List ℕ
  page number = page_in (size_in files) files (one_in files) (two_in files) number

  found_is : map_found files ≡ pages
  found_is = sym (map_is_recovered 0 (record { first = files; steps = [] })) ∙ m.is

  count_is : length (map_found files) ≡ 16
  count_is = ap (λ (pages : PageMap). length pages) found_is ∙ m.store.count

  -- each page of the map
  page_is : (k : ℕ) → k < 16 → page_at pages (suc k) ≡ page (k + 1)
  page_is k less =
      ap (λ (pages : PageMap). page_at pages (suc k)) (sym found_is)
      ∙ nth_page page 1 count k (omega (arith, length_pages page 1 count, count_is)) ∙ ap page (omega arith)
    where
      count : ℕ
      count = size_after (newer_in files (one_in files) (two_in files)) (size_after (older_in files (one_in files) (two_in files)) (pages_in (first_in files) (length files.main)))

  page_long : (k : ℕ) → k < 16 → length (page_at pages (suc k)) ≡ size_of_first pages
  page_long k less = All-get_or (λ (page : List ℕ). length page ≡ size_of_first pages) pages k [] (omega (arith, m.store.count)) m.store.each

  -- where no log holds a page it is Main's
  in_main : (number : ℕ) (below : List ℕ) → (Contains held number → ⊥)
      → page_after_frames (newer_in files (one_in files) (two_in files)) number (page_after_frames (older_in files (one_in files) (two_in files)) number below) ≡ below
  in_main number below none = by (nat_lt (log_fields files.log1).generation (log_fields files.log2).generation)
    where
      front_of_both : Contains (page_numbers (one_in files).frames) number → Contains held number
      front_of_both c = Contains-append_left (page_numbers (one_in files).frames) (page_numbers (two_in files).frames) number c

      back_of_both : Contains (page_numbers (two_in files).frames) number → Contains held number
      back_of_both c = Contains-append_right (page_numbers (one_in files).frames) (page_numbers (two_in files).frames) number c

      by : (first : Bool)
          → page_after_frames (if first then (two_in files).frames else (one_in files).frames) number
          (page_after_frames (if first then (one_in files).frames else (two_in files).frames) number below) ≡ below
      by true = page_of_neither (one_in files).frames (two_in files).frames number below (λ c. none (front_of_both c)) (λ c. none (back_of_both c))
      by false = page_of_neither (two_in files).frames (one_in files).frames number below (λ c. none (back_of_both c)) (λ c. none (front_of_both c))

  -- page 1 begins with the bytes by which an opening goes
  first_alike : take 100 (page_at pages 1) ≡ take 100 (first_in files)
  first_alike = elim (among_or_not held 1) [
    | inl (c, is) ↦ ap (λ (bytes : List ℕ). take 100 bytes) (page_is 0 (omega arith)
        ∙ page_of_both (nat_lt (log_fields files.log1).generation (log_fields files.log2).generation) (one_in files).frames (two_in files).frames 1 c (main_page (size_in files) files.main 1) (take 100 files.main))
    | inr none ↦ not_held none
  ]
    where
      not_held : (Contains held 1 → ⊥) → take 100 (page_at pages 1) ≡ take 100 (first_in files)
      not_held none =
          let here : page_at pages 1 ≡ take (size_in files) files.main =
          page_is 0 (omega arith) ∙ in_main 1 (main_page (size_in files) files.main 1) none ∙ page_1_is (size_in files) files.main in
          let roomy : 100 ≤ size_in files = omega (arith, database_is_long (page_at pages 1) m.store.header.database, ap (λ (bytes : List ℕ). length bytes) here, length-take (size_in files) files.main) in
          ap (λ (bytes : List ℕ). take 100 bytes) here ∙ take-take 100 (size_in files) files.main roomy
          ∙ sym (take-take 100 100 files.main (omega arith)) ∙ ap (λ (bytes : List ℕ). take 100 bytes) (sym (in_main 1 (take 100 files.main) none))

  same_fields : fields_of (page_at pages 1) ≡ fields_of (first_in files)
  same_fields = fields_alike (page_at pages 1) (first_in files) first_alike

  size_is : size_of_first pages ≡ size_in files
  size_is = ap page_size_in same_fields

  sized : (512 ≤ size_in files) × (size_in files ≤ 65536)
  sized = subst (λ (n : ℕ). (512 ≤ n) × (n ≤ 65536)) size_is (legal_size (size_of_first pages) m.store.header.page_size)

  -- page 1 names 16 pages
  named_is : pages_in (first_in files) (max (length files.main) (length (map_found files) * size_in files)) ≡ 16
  named_is =
      sym (pages_alike (page_at pages 1) (first_in files) (max (length files.main) (length (map_found files) * size_in files)) same_fields)
      ∙ ap (λ (n : ℕ). pages_in (page_at pages 1) (max (length files.main) (n * size_in files))) count_is
      ∙ ap (λ (n : ℕ). pages_in (page_at pages 1) (max (length files.main) (16 * n))) (sym size_is) ∙ m.named

  accepted : refusal (first_in files) (length files.main) ≡ None
  accepted =
      accepted_within (first_in files) (length files.main) (header_alike (page_at pages 1) (first_in files) first_alike m.store.header)
      (within (pages_in (first_in files) (length files.main)) (size_in files)
      (omega (arith, named_is, fewer_pages (first_in files) (length files.main) (max (length files.main) (length (map_found files) * size_in files)) (omega (arith, sized.0)) (omega arith))) sized.1)
    where
      within : (count size : ℕ) → count ≤ 16 → size ≤ 65536 → count * size ≤ database_limit
      within count size few small = grind arith

  -- each page is held
  each_held : (number : ℕ) → 1 ≤ number → number < 17 → is_held files number ≡ true
  each_held number from less = elim (among_or_not held number) [
    | inl (c, is) ↦ rw is refl
    | inr none ↦ or_true (list_any (λ n. n == number) held) (nat_le (number * size_in files) (length files.main)) (le_true (number * size_in files) (length files.main) (reaches none))
  ]
    where
      or_true : (a b : Bool) → b ≡ true → (a || b) ≡ true
      or_true true b is = refl
      or_true false b is = is

      reaches : (Contains held number → ⊥) → number * size_in files ≤ length files.main
      reaches none =
          let k : ℕ = number - 1 in
          let there : page_at pages (suc k) ≡ main_page (size_in files) files.main number =
          page_is k (omega arith) ∙ ap page (omega arith) ∙ in_main number (main_page (size_in files) files.main number) none in
          let long : length (main_page (size_in files) files.main number) ≡ size_in files =
          ap (λ (bytes : List ℕ). length bytes) (sym there) ∙ page_long k (omega arith) ∙ size_is in
          let inside = whole_inside files.main ((number - 1) * size_in files) (size_in files) (omega (arith, sized.0)) long in
          omega (arith, inside, page_end number (size_in files) from)

  -- no fault of the files bars it
  no_header_fault : header_fault files ≡ None
  no_header_fault = none_unless (is_new_in files) (of_header (refusal (first_in files) (length files.main))) (ap of_header accepted)

  no_missing : missing_fault files ≡ None
  no_missing =
      none_unless (is_new_in files) (of_missing (first_missing (is_held files) 1 (max 1 (length (map_found files)))))
      (ap (λ (n : ℕ). of_missing (first_missing (is_held files) 1 (max 1 n))) count_is ∙ ap of_missing (none_missing (is_held files) 1 16 (λ n from less. each_held n from (omega arith))))

  room_left : room_fault files ≡ None
  room_left = let is = le_true (generation_opened files) last_generation m.room in rw is refl

  pub no_fault : fault_of files false ≡ None
  unfolding fault_of
  no_fault =
      let one = front_familiar 1 files.log1 (λ is. m.fronts Log1 tt is) in
      let two = front_familiar 2 files.log2 (λ is. m.fronts Log2 tt is) in
      let legacy : wal_fault files ≡ None = none_either (is_log_mode files) _ (not_legacy files.log1 (front_of 1 files.log1) one) in
      let foreign1 = not_foreign files.log1 (front_of 1 files.log1) Log1 one in
      let foreign2 = not_foreign files.log2 (front_of 2 files.log2) Log2 two in
      let size1 : size_fault (front_of 1 files.log1) (one_in files).frames (size_in files) Log1 ≡ None =
      size_fits files.log1 (front_of 1 files.log1) (one_in files).frames (size_in files) Log1 one (λ some. size_read files.log1 (size_in files) (m.sizes Log1 tt some ∙ size_is)) in
      let size2 : size_fault (front_of 2 files.log2) (two_in files).frames (size_in files) Log2 ≡ None =
      size_fits files.log2 (front_of 2 files.log2) (two_in files).frames (size_in files) Log2 two (λ some. size_read files.log2 (size_in files) (m.sizes Log2 tt some ∙ size_is)) in
      rw (no_header_fault, legacy, foreign1, foreign2, size1, size2, room_left, no_missing) refl

  -- and they are a page store, of this program's versions or without a header of ours in log 2
  tree_is : byte_in files ≡ 0
  tree_is = ap (λ (pages : PageMap). slice_index (page_at pages 1) 100) found_is ∙ m.store.no_tree

  are_store : pages_fault files ≡ None
  are_store = by (is_new_in files)
    where
      store : (count named byte : ℕ) → count ≡ 16 → named ≡ 16 → byte ≡ 0 → fault_by false count named byte ≡ None
      store count named byte sixteen all none = rw (sixteen, all, none) refl

      by : (new : Bool) → fault_by new (length (map_found files)) (named_in files) (byte_in files) ≡ None
      by true = refl
      by false = store (length (map_found files)) (named_in files) (byte_in files) count_is named_is tree_is

  apart : is_mixed files ≡ false
  apart = elim m.versions [
    | inl own ↦ by_own (is_new_in files) (is_ours_in files) (is_front_ours (front_of 2 files.log2)) (own_versions own)
    | inr none ↦ by_none (is_new_in files) (is_ours_in files) (is_front_ours (front_of 2 files.log2)) (not_ours 2 files.log2 none)
  ]
    where
      both : (a b : ℕ) → a ≡ 3 → b ≡ 3 → (a == 3 && b == 3) ≡ true
      both a b one two = rw (one, two) refl

      own_versions : HasOwnVersions pages → is_ours_in files ≡ true
      own_versions (write, read) =
          both (fields_of (first_in files)).write_version (fields_of (first_in files)).read_version
          (ap (λ (f : HeaderFields). f.write_version) (sym same_fields) ∙ write) (ap (λ (f : HeaderFields). f.read_version) (sym same_fields) ∙ read)

      by_own : (new ours two : Bool) → ours ≡ true → (not new && not ours && two) ≡ false
      by_own true ours two is = refl
      by_own false true two is = refl
      by_own false false two is = cc

      by_none : (new ours two : Bool) → two ≡ false → (not new && not ours && two) ≡ false
      by_none true ours two is = refl
      by_none false true two is = refl
      by_none false false two is = is

-- Such files are opened, whatever the journal answers but that it is hot.
pub reopened : (files : Files) (pages : PageMap) (hot : Option Bool) → (hot ≡ Some true → ⊥) → MayReopen files pages → AreOpened hot files
reopened files pages hot cold m = record {
  look = record { asked = by hot cold; fine = no_fault files pages m };
  pages = are_store files pages m;
  settles = apart files pages m;
}
  where
    by : (hot : Option Bool) → (hot ≡ Some true → ⊥) → IfSome hot (λ hot. fault_of files hot ≡ None)
    by None cold = tt
    by (Some true) cold = absurd (cold refl)
    by (Some false) cold = no_fault files pages m

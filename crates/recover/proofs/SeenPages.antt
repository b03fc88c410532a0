-- The pages of the recovered map have the page size that was seen.
use Rattle.std.proofs.Common.{◌≡◌, ℕ, zero, suc, ◌+◌, ◌-◌, ◌*◌, ◌≤◌, ◌<◌, Bool, false, if◌then◌else◌, List, [], length, take, drop, refl, sym, ◌∙◌, ap, subst, arith, length-drop}
use Rattle.std.specs.Prelude.{nat_lt, slice_index_or}
use Rattle.std.proofs.lemmas.List.{length-take-le}
use Rattle.disk_face.specs.Files.{Files, content}
use Rattle.page_spec.specs.Header.{pages_in}
use Rattle.page_spec.specs.PageMap.{page_at}
use Rattle.log_spec.specs.LogHeader.{log_fields}
use Rattle.crash_spec.specs.Recovered.{main_page, pages_from, size_after}
use Rattle.opening_spec.specs.Found.{OpeningView, older_in, newer_in, page_in}
use Rattle.opening_spec.proofs.Written.{page_of_neither}
use Rattle.recover.specs.declared.place.Place.{Place}
use Rattle.recover.specs.declared.place.Place.TheVariants.{InMain, InLog}
use Rattle.recover.specs.Places.{IsPlaceOf, FitsPlace}
use Rattle.recover.specs.Seeing.{SeenView, IsSeen, one_in, two_in, first_in, size_in, map_found}
use Rattle.recover.proofs.Placing.{held_by_either}

-- the pages from a number on, one by one
nth_page : (page : ℕ → List ℕ) (first count k : ℕ) → k < count → slice_index_or (pages_from page first count) k [] ≡ page (first + k)
nth_page page first zero k less = absurd (omega arith)
nth_page page first (suc count) zero less = ap page (omega arith)
nth_page page first (suc count) (suc k) less = nth_page page (first + 1) count k (omega arith) ∙ ap page (omega arith)

length_pages : (page : ℕ → List ℕ) (first count : ℕ) → length (pages_from page first count) ≡ count
length_pages page first zero = refl
length_pages page first (suc count) = omega (arith, length_pages page (first + 1) count)

-- a page that stands somewhere whole has the page size
whole_page : (files : Files) (size number : ℕ) (view : OpeningView) (place : Place) → view.size ≡ size → 1 ≤ number → IsPlaceOf view (one_in files) (two_in files) files number place → FitsPlace files size number place
    → length (page_in size files (one_in files) (two_in files) number) ≡ size
whole_page files size number view InMain sized some free fits =
    let either = held_by_either (nat_lt (log_fields files.log1).generation (log_fields files.log2).generation) (one_in files).frames (two_in files).frames number in
    ap (λ (page : List ℕ). length page)
    (page_of_neither (older_in files (one_in files) (two_in files)) (newer_in files (one_in files) (two_in files)) number (main_page size files.main number) (λ held. free (either.0 held)) (λ held. free (either.1 held)))
    ∙ length-take-le size (drop ((number - 1) * size) files.main) (omega (arith, length-drop ((number - 1) * size) files.main, fits, before number size some))
  where
    step : (m size : ℕ) → m * size + size ≡ (m + 1) * size
    step m size = grind arith

    more : (m n size : ℕ) → n ≡ m + 1 → m * size + size ≡ n * size
    more m n size is = step m size ∙ ap (λ (k : ℕ). k * size) (sym is)

    before : (n size : ℕ) → 1 ≤ n → (n - 1) * size + size ≡ n * size
    before n size some = more (n - 1) n size (omega (arith, some))
whole_page files size number view (InLog file at) sized some (is_log, held, is) fits =
    ap (λ (page : List ℕ). length page) (sym (subst (λ (n : ℕ). take n (drop at (content files file)) ≡ page_in n files (one_in files) (two_in files) number) sized is))
    ∙ length-take-le size (drop at (content files file)) (omega (arith, length-drop at (content files file), fits))

module _ (new_size : ℕ) (files : Files) (seen : SeenView) (s : IsSeen new_size files seen) (old : seen.is_new ≡ false) where
  pub size_is : seen.page_size ≡ size_in files
  size_is = s.page_size ∙ ap (λ (new : Bool). if new then new_size else size_in files) old

  pub count_is : length seen.places ≡ length (map_found files)
  count_is = s.count ∙ ap (λ (new : Bool). if new then 0 else length (map_found files)) old

  -- each page of the recovered map
  pub page_found : (k : ℕ) → k < length (map_found files) → page_at (map_found files) (suc k) ≡ page_in (size_in files) files (one_in files) (two_in files) (suc k)
  page_found k less =
      nth_page page 1 count k (omega (arith, length_pages page 1 count)) ∙ ap page (omega arith)
    where
      page : ℕ → List ℕ
      page number = page_in (size_in files) files (one_in files) (two_in files) number

      count : ℕ
      count = size_after (newer_in files (one_in files) (two_in files)) (size_after (older_in files (one_in files) (two_in files)) (pages_in (first_in files) (length files.main)))

  -- all pages of the recovered map have the page size
  pub seen_pages : (k : ℕ) → k < length (map_found files) → length (page_at (map_found files) (suc k)) ≡ seen.page_size
  seen_pages k less =
      let inside : k < length seen.places = omega (arith, count_is) in
      ap (λ (page : List ℕ). length page) (page_found k less)
      ∙ ap (λ (n : ℕ). length (page_in (size_in files) files (one_in files) (two_in files) n)) (omega arith)
      ∙ whole_page files (size_in files) (k + 1) view (slice_index_or seen.places k InMain) size_is (omega arith) (s.standing view refl k InMain inside)
      (subst (λ (n : ℕ). FitsPlace files n (k + 1) (slice_index_or seen.places k InMain)) size_is (s.fits k InMain inside))
      ∙ sym size_is
    where
      view : OpeningView
      view = record {
        opening = record { start = record { first = files; steps = [] }; before = []; pieces = [] };
        size = seen.page_size;
        long = 0;
        map = [];
        own = false;
      }

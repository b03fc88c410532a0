-- A page of the recovered map is what stands at its place, and what was seen tells the map's sizes.
use Rattle.std.proofs.Common.{◌≡◌, ℕ, zero, suc, ◌+◌, ◌-◌, ◌*◌, ◌≤◌, ◌<◌, Bool, false, nat_lt, if◌then◌else◌, List, [], ◌∷◌, length, take, drop, Option, None, Some, refl, sym, ◌∙◌, ap, subst, arith}
use Rattle.std.specs.Prelude.{All, slice_index_or, IfSome}
use Rattle.std.proofs.lemmas.List.Elements.{All-nil, All-cons}
use Rattle.disk_face.specs.Files.{Files, content}
use Rattle.disk_face.specs.Steps.{History, reads}
use Rattle.disk_face.specs.Stays.{OnlyReads}
use Rattle.disk_face.specs.Told.{IsInside, IsRead}
use Rattle.disk_face.specs.declared.tells.DiskTells.{Ghosts}
use Rattle.page_spec.specs.Header.{HeaderFields, fields_of}
use Rattle.page_spec.specs.PageMap.{PageMap, page_at}
use Rattle.page_spec.specs.View.{View, view_of}
use Rattle.log_spec.specs.LogHeader.{log_fields}
use Rattle.crash_spec.specs.Recovered.{main_page, recovered}
use Rattle.crash_spec.proofs.FirstPage.{first_fields}
use Rattle.opening_spec.specs.Found.{OpeningView, older_in, newer_in, page_in}
use Rattle.opening_spec.proofs.Beginning.{map_is_recovered}
use Rattle.opening_spec.proofs.Written.{page_of_neither}
use Rattle.recover.specs.declared.place.Place.{Place}
use Rattle.recover.specs.declared.place.Place.TheVariants.{InMain, InLog}
use Rattle.recover.specs.AsLooked.{IsAsLooked, IsViewOfRecovered, AreSizesOf}
use Rattle.recover.specs.Looking.{file_of, start_at, page_there}
use Rattle.recover.specs.Places.{IsPlaceOf, FitsPlace}
use Rattle.recover.specs.Seeing.{SeenView, IsSeen, IsWholeSeen, one_in, two_in, map_found, size_in, first_in}
use Rattle.recover.proofs.Placing.{held_by_either}
use Rattle.recover.proofs.SeenFiles.{legal_size}
use Rattle.recover.proofs.SeenPages.{page_found, seen_pages, size_is, count_is}

-- what is recovered is the map that was found
pub recovered_found : (files : Files) → recovered files ≡ map_found files
recovered_found files = map_is_recovered 0 (record { first = files; steps = [] })

-- a page is what stands at its place
there_is : (files : Files) (number : ℕ) (view : OpeningView) (place : Place) → IsPlaceOf view (one_in files) (two_in files) files number place
    → page_there files view.size number place ≡ page_in view.size files (one_in files) (two_in files) number
there_is files number view InMain free =
    let either = held_by_either (nat_lt (log_fields files.log1).generation (log_fields files.log2).generation) (one_in files).frames (two_in files).frames number in
    sym (page_of_neither (older_in files (one_in files) (two_in files)) (newer_in files (one_in files) (two_in files)) number (main_page view.size files.main number) (λ held. free (either.0 held)) (λ held. free (either.1 held)))
there_is files number view (InLog file at) (is_log, held, is) = is

-- and inside its file
there_fits : (files : Files) (size number : ℕ) (place : Place) → 1 ≤ number → FitsPlace files size number place → start_at size number place + size ≤ length (content files (file_of place))
there_fits files size number InMain some fits = omega (arith, fits, before number size some)
  where
    step : (m size : ℕ) → m * size + size ≡ (m + 1) * size
    step m size = grind arith

    more : (m n size : ℕ) → n ≡ m + 1 → m * size + size ≡ n * size
    more m n size is = step m size ∙ ap (λ (k : ℕ). k * size) (sym is)

    before : (n size : ℕ) → 1 ≤ n → (n - 1) * size + size ≡ n * size
    before n size some = more (n - 1) n size (omega (arith, some))
there_fits files size number (InLog file at) some fits = fits

module _ (new_size : ℕ) (files : Files) (seen : SeenView) (s : IsSeen new_size files seen) (old : seen.is_new ≡ false) (number : ℕ) (some : 1 ≤ number) (within : number ≤ length seen.places) (place : Place)
    (is : place ≡ slice_index_or seen.places (number - 1) place) where
  here : number - 1 + 1 ≡ number
  here = omega (arith, some)

  pub seen_there : page_there files seen.page_size number place ≡ page_at (recovered files) number
  seen_there =
      there_is files number view place (subst (λ (n : ℕ). IsPlaceOf view (one_in files) (two_in files) files n place) here
      (subst (λ (p : Place). IsPlaceOf view (one_in files) (two_in files) files (number - 1 + 1) p) (sym is) (s.standing view refl (number - 1) place (omega (arith, some, within)))))
      ∙ ap (λ (n : ℕ). page_in n files (one_in files) (two_in files) number) (size_is new_size files seen s old)
      ∙ sym (found number some (omega (arith, within, count_is new_size files seen s old)))
      ∙ ap (λ pages. page_at pages number) (sym (recovered_found files))
    where
      view : OpeningView
      view = record {
        opening = record { start = record { first = files; steps = [] }; before = []; pieces = [] };
        size = seen.page_size;
        long = 0;
        map = [];
        own = false;
      }

      found : (n : ℕ) → 1 ≤ n → n ≤ length (map_found files) → page_at (map_found files) n ≡ page_in (size_in files) files (one_in files) (two_in files) n
      found zero some within = absurd (omega (arith, some))
      found (suc k) some within = page_found new_size files seen s old k (omega (arith, within))

  pub seen_inside : start_at seen.page_size number place + seen.page_size ≤ length (content files (file_of place))
  seen_inside =
      there_fits files seen.page_size number place some (subst (λ (n : ℕ). FitsPlace files seen.page_size n place) here
      (subst (λ (p : Place). FitsPlace files seen.page_size (number - 1 + 1) p) (sym is) (s.fits (number - 1) place (omega (arith, some, within)))))

module _ {D : Type 0} (tells : Ghosts D) (disk : D) (seen : SeenView) (looked : IsAsLooked tells disk seen) (number : ℕ) (some : 1 ≤ number) (within : number ≤ length seen.places) (place : Place)
    (is : place ≡ slice_index_or seen.places (number - 1) place) where
  -- the file has the page whole there
  pub inside_told : (size : ℕ) → size ≡ seen.page_size → IsInside (tells.told disk) (file_of place) (start_at size number place) size
  inside_told size sized = subst (λ (n : ℕ). IsInside (tells.told disk) (file_of place) (start_at n number place) n) (sym sized) (by (tells.told disk) looked.seen_is)
    where
      by : (told : Option History) → IfSome told (λ told. IsSeen looked.new_size (reads told) seen) → IsInside told (file_of place) (start_at seen.page_size number place) seen.page_size
      by None s = tt
      by (Some told) s = seen_inside looked.new_size (reads told) seen s looked.old number some within place is

  -- what was read there is the page, over each view that is told
  pub read_told : (size : ℕ) (bytes : List ℕ) (new : D) (world : View) → size ≡ seen.page_size → length bytes ≡ size
      → IsRead (tells.told disk) (file_of place) (start_at size number place) bytes → OnlyReads tells disk new → IsViewOfRecovered (tells.told new) world → bytes ≡ world number
  read_told size bytes new world sized long read stays view =
      by (tells.told disk) looked.seen_is (subst (λ (n : ℕ). IsRead (tells.told disk) (file_of place) (start_at n number place) bytes) sized read)
      (subst (λ (told : Option History). IsViewOfRecovered told world) stays.told view)
    where
      by : (told : Option History) → IfSome told (λ told. IsSeen looked.new_size (reads told) seen) → IsRead told (file_of place) (start_at seen.page_size number place) bytes → IsViewOfRecovered told world → bytes ≡ world number
      by None s read view = absurd view
      by (Some told) s read view =
          let new_size = looked.new_size in
          let counted : length seen.places ≡ length (recovered (reads told)) = count_is new_size (reads told) seen s looked.old ∙ ap length (sym (recovered_found (reads told))) in
          read ∙ ap (λ (n : ℕ). take n (drop (start_at seen.page_size number place) (content (reads told) (file_of place)))) (long ∙ sized)
          ∙ seen_there new_size (reads told) seen s looked.old number some within place is
          ∙ sym (view number some (omega (arith, within, counted)))

-- a disk that was only read since is as it was looked at
pub still_looked : {D : Type 0} (tells : Ghosts D) (disk new : D) (seen : SeenView) → OnlyReads tells disk new → IsAsLooked tells disk seen → IsAsLooked tells new seen
still_looked tells disk new seen stays looked = record {
  attached = stays.attached ∙ looked.attached;
  old = looked.old;
  whole = looked.whole;
  new_size = looked.new_size;
  seen_is = subst (λ (told : Option History). IfSome told (λ told. IsSeen looked.new_size (reads told) seen)) (sym stays.told) looked.seen_is;
}

-- so all pages are as before
pub same_pages : {D : Type 0} (tells : Ghosts D) (disk new : D) (world : View) → OnlyReads tells disk new → IsViewOfRecovered (tells.told new) world → IsViewOfRecovered (tells.told disk) world
same_pages tells disk new world stays view = subst (λ (told : Option History). IsViewOfRecovered told world) stays.told view

-- The view of the recovered map is told where the disk tells its bytes, and a told view shows its pages.
pub told_view : (told : History) → IsViewOfRecovered (Some told) (view_of (recovered (reads told)))
told_view told number some within = refl

-- each item of a list by its place
all_at : (P : List ℕ → Type 0) (pages : PageMap) → ((k : ℕ) → k < length pages → P (page_at pages (suc k))) → All P pages
all_at P [] each = All-nil P
all_at P (page ∷ rest) each = All-cons P page rest (each zero (omega arith)) (all_at P rest (λ k less. each (suc k) (omega (arith, less))))

-- what was seen of a database that is there tells the sizes of the recovered map
pub sizes_seen : (new_size : ℕ) (files : Files) (seen : SeenView) → IsSeen new_size files seen → IsWholeSeen seen → seen.is_new ≡ false → AreSizesOf (recovered files) seen
unfolding fields_of
sizes_seen new_size files seen s whole old =
    let count = count_is new_size files seen s old in
    let some : 1 ≤ length (map_found files) = omega (arith, count, s.some_page old) in
    let fits = legal_size seen.page_size whole.page_size in
    let size = size_is new_size files seen s old in
    subst (λ (pages : PageMap). AreSizesOf pages seen) (sym (recovered_found files)) (record {
      sizes = record {
        count = sym count;
        each = all_at (λ page. length page ≡ seen.page_size) (map_found files) (seen_pages new_size files seen s old);
      };
      some = some;
      reserved =
          s.usable
          ∙ ap (λ (new : Bool). seen.usable + (if new then 0 else (fields_of (first_in files)).reserved)) old
          ∙ ap (λ (fields : HeaderFields). seen.usable + fields.reserved)
          (sym (ap fields_of (page_found new_size files seen s old 0 (omega (arith, some)))
          ∙ first_fields (size_in files) files.main (older_in files (one_in files) (two_in files)) (newer_in files (one_in files) (two_in files)) (omega (arith, fits.0, size))));
    })

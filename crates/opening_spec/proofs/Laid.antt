-- Once all pages of the map were written to Main, it is the map without the logs too.
use Rattle.std.proofs.Common.{◌≡◌, max, ℕ, zero, suc, ◌+◌, ◌-◌, ◌*◌, ◌≤◌, ◌<◌, Bool, true, false, if◌then◌else◌, inl, inr, List, [], ◌∷◌, length, take, drop, refl, sym, ◌∙◌, ap, subst, arith, get_or-take}
use Rattle.page_spec.specs.Header.{fields_of, page_size_in, pages_in}
use Rattle.page_spec.specs.PageMap.{PageMap, page_at}
use Rattle.log_spec.specs.Accept.{Frame}
use Rattle.crash_spec.specs.Recovered.{main_page, page_after_frames, pages_from, overlaid, laid_over, first_bytes, size_after}
use Rattle.crash_spec.specs.Store.{named_size}
use Rattle.crash_spec.proofs.Overlaid.{held_or_not}
pub use Rattle.crash_spec.proofs.FirstPage.{header-take, page_1_is}
use Rattle.std.specs.Prelude.{◌⊎◌, nat_lt}
use Rattle.disk_face.specs.Steps.{History, reads}
use Rattle.log_spec.specs.LogHeader.{log_fields}
use Rattle.opening_spec.specs.Found.{OpeningView, FoundLog, NamesItsSize, IsEmpty, size_named, older_in, newer_in}
use Rattle.opening_spec.specs.States.{IsOpened, IsLaidDown, AreWritten, AreLaid}

same_pages_in : (a b : List ℕ) (n : ℕ) → fields_of a ≡ fields_of b → pages_in a n ≡ pages_in b n
unfolding pages_in
same_pages_in a b n is = rw is refl

-- pages that are the same up to the last
same_pages_below : (page other : ℕ → List ℕ) (number count : ℕ) → ((n : ℕ) → number ≤ n → n < number + count → page n ≡ other n) → pages_from page number count ≡ pages_from other number count
same_pages_below page other number zero same = refl
same_pages_below page other number (suc count) same =
    let first = same number (omega arith) (omega arith) in
    let rest = same_pages_below page other (number + 1) count (λ n from less. same n (omega arith) (omega arith)) in
    cc

-- a page that laying both leaves is left by the newer frames alone
newer_leaves : (older newer : List Frame) (number : ℕ) (page : List ℕ) → page_after_frames newer number (page_after_frames older number page) ≡ page → page_after_frames newer number page ≡ page
newer_leaves older newer number page is =
    elim (held_or_not newer number) [
      | inl held ↦ held page (page_after_frames older number page) ∙ is
      | inr (none, leaves) ↦ leaves page
    ]

module _ (size : ℕ) (some : 100 ≤ size) (main : List ℕ) (older newer : List Frame) (count : ℕ) (has : 1 ≤ count) (laid : AreLaid size main older newer (count + 1))
    (sized : named_size main older newer ≡ size) (counts : size_after newer (size_after older (pages_in (first_bytes main older newer) (length main))) ≡ count)
    (named : pages_in (take 100 main) (length main) ≡ count) where
  page_1 : main_page size main 1 ≡ take size main
  page_1 = ap (λ (n : ℕ). take size (drop n main)) no_place
    where
      no_place : (1 - 1) * size ≡ 0
      no_place = grind arith

  laid_1 : page_after_frames newer 1 (page_after_frames older 1 (take size main)) ≡ take size main
  laid_1 = subst (λ (page : List ℕ). page_after_frames newer 1 (page_after_frames older 1 page) ≡ page) page_1 (laid 1 (omega arith) (omega arith))

  -- the first bytes name the same page size
  same_fields : fields_of (take 100 main) ≡ fields_of (first_bytes main older newer)
  same_fields =
      let here : page_after_frames newer 1 (page_after_frames older 1 (take size main)) ≡ take size main = laid_1 in
      elim (held_or_not newer 1) [
        | inl held ↦
            header-take 100 main (omega arith) ∙ sym (header-take size main some)
            ∙ ap (λ (bytes : List ℕ). fields_of bytes) (sym here ∙ held (page_after_frames older 1 (take size main)) (page_after_frames older 1 (take 100 main)))
        | inr (none, leaves) ↦
            elim (held_or_not older 1) [
              | inl held ↦
                  header-take 100 main (omega arith) ∙ sym (header-take size main some)
                  ∙ ap (λ (bytes : List ℕ). fields_of bytes)
                  (sym here ∙ ap (λ (bytes : List ℕ). page_after_frames newer 1 bytes) (held (take size main) (take 100 main)))
              | inr (neither, keeps) ↦
                  ap (λ (bytes : List ℕ). fields_of bytes) (sym (ap (λ (bytes : List ℕ). page_after_frames newer 1 bytes) (keeps (take 100 main)) ∙ leaves (take 100 main)))
            ]
      ]

  same_size : page_size_in (fields_of (take 100 main)) ≡ size
  same_size = ap (λ fields. page_size_in fields) same_fields ∙ sized

  over : overlaid main older newer ≡ laid_over count size main older newer
  over =
      ap (λ (n : ℕ). laid_over n (page_size_in (fields_of (first_bytes main older newer))) main older newer) counts
      ∙ ap (λ (n : ℕ). laid_over count n main older newer) sized

  -- Main alone is the map
  pub bare_is : overlaid main [] [] ≡ overlaid main older newer
  bare_is =
      ap (λ (n : ℕ). laid_over n (page_size_in (fields_of (take 100 main))) main [] []) named
      ∙ ap (λ (n : ℕ). laid_over count n main [] []) same_size
      ∙ same_pages_below (λ number. main_page size main number) (λ number. page_after_frames newer number (page_after_frames older number (main_page size main number))) 1 count
      (λ n from less. sym (laid n from (omega arith)))
      ∙ sym over

  newer_first : fields_of (first_bytes main [] newer) ≡ fields_of (take 100 main)
  newer_first =
      let here : page_after_frames newer 1 (take size main) ≡ take size main = newer_leaves older newer 1 (take size main) laid_1 in
      elim (held_or_not newer 1) [
        | inl held ↦ ap (λ (bytes : List ℕ). fields_of bytes) (held (take 100 main) (take size main) ∙ here) ∙ header-take size main some ∙ sym (header-take 100 main (omega arith))
        | inr (none, leaves) ↦ ap (λ (bytes : List ℕ). fields_of bytes) (leaves (take 100 main))
      ]

  newer_sized : page_size_in (fields_of (first_bytes main [] newer)) ≡ size
  newer_sized = ap (λ fields. page_size_in fields) newer_first ∙ same_size

  newer_pages : pages_in (first_bytes main [] newer) (length main) ≡ count
  newer_pages = same_pages_in (first_bytes main [] newer) (take 100 main) (length main) newer_first ∙ named

  newer_counts : size_after newer (pages_in (first_bytes main [] newer) (length main)) ≡ count
  newer_counts = by newer counts
    where
      by : (frames : List Frame) → size_after frames (size_after older (pages_in (first_bytes main older newer) (length main))) ≡ count → size_after frames (pages_in (first_bytes main [] newer) (length main)) ≡ count
      by [] is = newer_pages
      by (frame ∷ rest) is = is

  -- and so it is with the newer frames
  pub newer_is : overlaid main [] newer ≡ overlaid main older newer
  newer_is =
      ap (λ (n : ℕ). laid_over n (page_size_in (fields_of (first_bytes main [] newer))) main [] newer) newer_counts
      ∙ ap (λ (n : ℕ). laid_over count n main [] newer) newer_sized
      ∙ same_pages_below (λ number. page_after_frames newer number (main_page size main number)) (λ number. page_after_frames newer number (page_after_frames older number (main_page size main number))) 1 count
      (λ n from less. newer_leaves older newer n (main_page size main n) (laid n from (omega arith)) ∙ sym (laid n from (omega arith)))
      ∙ sym over

length_pages : (page : ℕ → List ℕ) (number count : ℕ) → length (pages_from page number count) ≡ count
length_pages page number zero = refl
length_pages page number (suc count) = omega (arith, length_pages page (number + 1) count)

one_less : (n : ℕ) → n + 1 - 1 ≡ n
one_less n = omega arith

empty_map : (first : Bool) (main : List ℕ) (xs ys : List Frame) → xs ≡ [] → ys ≡ []
    → (overlaid main (if first then xs else ys) (if first then ys else xs) ≡ overlaid main [] []) × ((if first then ys else xs) ≡ [])
empty_map true main xs ys x y = (ap (λ (fs : List Frame). overlaid main fs ys) x ∙ ap (λ (fs : List Frame). overlaid main [] fs) y, y)
empty_map false main xs ys x y = (ap (λ (fs : List Frame). overlaid main fs xs) y ∙ ap (λ (fs : List Frame). overlaid main [] fs) x, x)

-- the pages of the map, page 1 first
first_of_pages : (page : ℕ → List ℕ) (count : ℕ) → 1 ≤ count → page_at (pages_from page 1 count) 1 ≡ page 1
first_of_pages page zero some = absurd (omega arith)
first_of_pages page (suc count) some = refl

-- Where no log has a frame, Main is the map.
pub bare_is_map : (view : OpeningView) (one two : FoundLog) (told : History) → IsOpened view one two told → one.frames ≡ [] → two.frames ≡ []
    → (((reads told).main ≡ []) ⊎ ((100 ≤ view.size) × (page_size_in (fields_of (take 100 (reads told).main)) ≡ view.size))) × (overlaid (reads told).main [] [] ≡ view.map)
bare_is_map view one two told s none neither = (
  elim s.fits [
    | inl (x, y, empty) ↦ inl empty
    | inr (big, sized) ↦
        inr (
          big,
          sym (ap (λ (fs : List Frame). named_size main fs (newer_in (reads told) one two)) (either first none neither) ∙ ap (λ (fs : List Frame). named_size main [] fs) (empty_map first main one.frames two.frames none neither).1)
              ∙ sized,
        )
  ],
  sym (empty_map first main one.frames two.frames none neither).0 ∙ s.is,
)
  where
    main : List ℕ
    main = (reads told).main

    first : Bool
    first = nat_lt (log_fields (reads told).log1).generation (log_fields (reads told).log2).generation

    either : (first : Bool) → one.frames ≡ [] → two.frames ≡ [] → (if first then one.frames else two.frames) ≡ []
    either true x y = x
    either false x y = y

-- Once all was written, Main is the map, and so it is with the newer log's frames alone.
pub laid_down : (view : OpeningView) (one two : FoundLog) (told : History) → IsLaidDown view one two (length view.map + 1) told → 1 ≤ length view.map → NamesItsSize view one two
    → AreWritten view one two told × (overlaid (reads told).main [] (newer_in (reads told) one two) ≡ view.map)
laid_down view one two told d some names = (
  record {
    log1 = s.log1;
    log2 = s.log2;
    whole1 = d.writing.synced.whole1;
    whole2 = d.writing.synced.whole2;
    main = d.main;
    fits = (go names s.fits).0;
    is = s.is;
    bare = (go names s.fits).1;
    sizes = s.sizes;
    keeps = s.keeps;
  },
  (go names s.fits).2,
)
  where
    s : IsOpened view one two told
    s = d.writing.synced.opened

    main : List ℕ
    main = (reads told).main

    older : List Frame
    older = older_in (reads told) one two

    newer : List Frame
    newer = newer_in (reads told) one two

    first : Bool
    first = nat_lt (log_fields (reads told).log1).generation (log_fields (reads told).log2).generation

    count : ℕ
    count = size_after newer (size_after older (pages_in (first_bytes main older newer) (length main)))

    counts : count ≡ length view.map
    counts =
        sym (length_pages (λ number. page_after_frames newer number (page_after_frames older number (main_page (page_size_in (fields_of (first_bytes main older newer))) main number))) 1 count)
        ∙ ap (λ (map : PageMap). length map) s.is

    first_page : (size : ℕ) → page_size_in (fields_of (first_bytes main older newer)) ≡ size → page_at view.map 1 ≡ page_after_frames newer 1 (page_after_frames older 1 (main_page size main 1))
    first_page size sized =
        sym (ap (λ (map : PageMap). page_at map 1) s.is)
        ∙ first_of_pages (λ number. page_after_frames newer number (page_after_frames older number (main_page (page_size_in (fields_of (first_bytes main older newer))) main number))) count (omega (arith, counts))
        ∙ ap (λ (n : ℕ). page_after_frames newer 1 (page_after_frames older 1 (main_page n main 1))) sized

    empty_map' : (first : Bool) → one.frames ≡ [] → two.frames ≡ [] → (if first then one.frames else two.frames) ≡ []
    empty_map' true x y = x
    empty_map' false x y = y

    Result : Type 0
    Result = ((main ≡ []) ⊎ ((100 ≤ view.size) × (page_size_in (fields_of (take 100 main)) ≡ view.size))) × (overlaid main [] [] ≡ view.map) × (overlaid main [] newer ≡ view.map)

    nothing : one.frames ≡ [] → two.frames ≡ [] → ((main ≡ []) ⊎ ((100 ≤ view.size) × (page_size_in (fields_of (first_bytes main [] [])) ≡ view.size))) → Result
    nothing none neither fits =
        let bare = empty_map first main one.frames two.frames none neither in
        (fits, sym bare.0 ∙ s.is, ap (λ (fs : List Frame). overlaid main [] fs) bare.1 ∙ sym bare.0 ∙ s.is)

    go : NamesItsSize view one two → IsEmpty one two (reads told) ⊎ ((100 ≤ view.size) × (size_named (reads told) one two ≡ view.size)) → Result
    go names (inl (none, neither, empty)) = nothing none neither (inl empty)
    go (inl (none, neither)) (inr (big, sized)) = nothing none neither (inr (big, sym (ap (λ (fs : List Frame). named_size main fs newer) (empty_map' first none neither) ∙ ap (λ (fs : List Frame). named_size main [] fs) (empty_map first main one.frames two.frames none neither).1) ∙ sized))
    go (inr names) (inr (big, sized)) =
        let laid_first : page_at view.map 1 ≡ main_page view.size main 1 = first_page view.size sized ∙ d.writing.laid 1 (omega arith) (omega arith) in
        let fields : fields_of (take 100 main) ≡ fields_of (page_at view.map 1) =
        header-take 100 main (omega arith) ∙ sym (header-take view.size main big) ∙ ap (λ (bytes : List ℕ). fields_of bytes) (sym (laid_first ∙ page_1_is view.size main)) in
        let named : pages_in (take 100 main) (length main) ≡ length view.map = same_pages_in (take 100 main) (page_at view.map 1) (length main) fields ∙ ap (λ (n : ℕ). pages_in (page_at view.map 1) n) (d.writing.long ∙ ap (λ (n : ℕ). max view.long (n * view.size)) (one_less (length view.map))) ∙ names in (
          inr (big, same_size view.size big main older newer (length view.map) some d.writing.laid sized counts named),
          bare_is view.size big main older newer (length view.map) some d.writing.laid sized counts named ∙ s.is,
          newer_is view.size big main older newer (length view.map) some d.writing.laid sized counts named ∙ s.is,
        )

-- Page 1 gets this program's versions.
use Rattle.std.proofs.Common.{◌≡◌, ◌≢◌, ℕ, zero, suc, ◌+◌, ◌-◌, ◌*◌, ◌≤◌, ◌<◌, ◌==◌, Bool, true, false, if◌then◌else◌, inl, inr, List, [], ◌∷◌, length, take, max, Option, Some, None, refl, sym, ◌∙◌, ap, subst, arith}
use Rattle.std.specs.Prelude.{IfSome, nat_lt, slice_index}
use Rattle.std.proofs.lemmas.Bool.{cases_lt}
use Rattle.std.proofs.lemmas.Bool.Decides.{nat_tests}
use Rattle.std.proofs.lemmas.List.{get_or-set_other}
use Rattle.disk_face.specs.declared.disk.File.TheVariants.{Main, Log1}
use Rattle.disk_face.specs.Files.{Files}
use Rattle.disk_face.specs.Steps.{History, reads}
use Rattle.disk_face.specs.Told.{IsRead}
use Rattle.page_spec.specs.Bytes.{u16_at, u32_at}
use Rattle.page_spec.specs.Header.{fields_of, page_size_in, pages_in}
use Rattle.page_spec.specs.PageMap.{PageMap, page_at}
use Rattle.log_spec.specs.LogHeader.{log_fields}
use Rattle.log_spec.specs.Accept.{Frame, page_of}
use Rattle.crash_spec.specs.Opening.{Since, rebased}
use Rattle.crash_spec.specs.Passes.{Passes, ByAnswer}
use Rattle.crash_spec.specs.Recovered.{main_page, page_after_frames, pages_from, overlaid, laid_over}
use Rattle.crash_spec.proofs.Passing.{passes_weaker, passes_still}
use Rattle.crash_spec.proofs.Rebased.{rebased_reads}
use Rattle.opening_spec.specs.Found.{OpeningView, FoundLog, IsNextHeader, next_log}
use Rattle.opening_spec.specs.States.{AreSynced, IsLaidDown, IsResetting, LeavesMap, LeavesEither}
use Rattle.opening_spec.proofs.Laid.{header-take, page_1_is}
use Rattle.opening_spec.proofs.Reset.{written_images}
use Rattle.recover.specs.NewPages.{first_then_zeros, with_versions, migrated}
use Rattle.recover.specs.Founding.{HoldFrom, MakesMap, HasFirstCommit, HasFounded, HasMigrated, FoundsPages, FailsToFound, later_view, with_first}
use Rattle.recover.proofs.FirstPages.{hold_page, size_of, either_page}
use Rattle.recover.proofs.Beginnings.{synced_then, long_then, founded_all, founded_not}
use Rattle.recover.proofs.FoundsNew.{LaysFirst}

-- other bytes than the versions stay
byte_still : (page : List ℕ) (k : ℕ) → k ≢ 18 → k ≢ 19 → slice_index (with_versions page) k ≡ slice_index page k
byte_still page k one two = get_or-set_other _ 19 k 3 0 two ∙ get_or-set_other page 18 k 3 0 one

u16_still : (page : List ℕ) (at : ℕ) → at ≢ 18 → at ≢ 19 → at + 1 ≢ 18 → at + 1 ≢ 19 → u16_at (with_versions page) at ≡ u16_at page at
unfolding u16_at
u16_still page at a b c d = rw (byte_still page at a b, byte_still page (at + 1) c d) refl

u32_still : (page : List ℕ) (at : ℕ) → 20 ≤ at → u32_at (with_versions page) at ≡ u32_at page at
unfolding u32_at
u32_still page at far =
    rw (
      byte_still page at (λ is. omega arith) (λ is. omega arith),
      byte_still page (at + 1) (λ is. omega arith) (λ is. omega arith),
      byte_still page (at + 2) (λ is. omega arith) (λ is. omega arith),
      byte_still page (at + 3) (λ is. omega arith) (λ is. omega arith),
    ) refl

size_still : (page : List ℕ) → page_size_in (fields_of (with_versions page)) ≡ page_size_in (fields_of page)
unfolding fields_of
size_still page = rw (u16_still page 16 (λ is. omega arith) (λ is. omega arith) (λ is. omega arith) (λ is. omega arith)) refl

pages_still : (page : List ℕ) (n : ℕ) → pages_in (with_versions page) n ≡ pages_in page n
unfolding pages_in fields_of
pages_still page n =
    rw (
      u16_still page 16 (λ is. omega arith) (λ is. omega arith) (λ is. omega arith) (λ is. omega arith),
      u32_still page 24 (omega arith),
      u32_still page 28 (omega arith),
      u32_still page 92 (omega arith),
    ) refl

pub pages_of_fields : (a b : List ℕ) (n : ℕ) → fields_of a ≡ fields_of b → pages_in a n ≡ pages_in b n
unfolding pages_in
pages_of_fields a b n is = rw is refl

pages_alike : (f g : ℕ → List ℕ) (number count : ℕ) → ((n : ℕ) → number ≤ n → f n ≡ g n) → pages_from f number count ≡ pages_from g number count
pages_alike f g number zero same = refl
pages_alike f g number (suc count) same =
    let head = same number (omega arith) in
    let rest = pages_alike f g (number + 1) count (λ n from. same n (omega arith)) in
    λ i. head i ∷ rest i

lower_number : (m n : ℕ) → m < n → (m == n) ≡ false
lower_number m n less = grind (arith, nat_tests)

higher_number : (m n : ℕ) → n < m → (m == n) ≡ false
higher_number m n less = grind (arith, nat_tests)

above_hold : (page : ℕ → List ℕ) (from n : ℕ) (frames : List Frame) (below : List ℕ) → HoldFrom page from frames → from + length frames ≤ n → page_after_frames frames n below ≡ below
above_hold page from n [] below hold far = refl
above_hold page from n (f ∷ fs) below (is, bytes, hold) far =
    ap (λ (b : Bool). page_after_frames fs n (if b then page_of f else below)) (ap (λ (k : ℕ). k == n) is ∙ lower_number from n (omega arith))
    ∙ above_hold page (from + 1) n fs below hold (omega arith)

pub length_from : (page : ℕ → List ℕ) (number count : ℕ) → length (pages_from page number count) ≡ count
length_from page number zero = refl
length_from page number (suc count) = omega (arith, length_from page (number + 1) count)

-- Main, whose pages have the size that this page names, with this page 1
abbrev over_one : List ℕ → List ℕ → ℕ → PageMap
over_one first main count = pages_from (λ n. if n == 1 then first else main_page (page_size_in (fields_of first)) main n) 1 count

makes_one : (main first : List ℕ) (count : ℕ) → MakesMap main (page_size_in (fields_of first)) (over_one first main count) (first_then_zeros first) 1 count
makes_one main first count frames hold long ends =
    let page : ℕ → List ℕ = first_then_zeros first in
    let start : page_after_frames frames 1 (take 100 main) ≡ first = (hold_page page 1 frames 1 (take 100 main) hold (omega arith) (omega arith)).0 in
    let s : ℕ = page_size_in (fields_of (page_after_frames frames 1 (take 100 main))) in
    let named : s ≡ page_size_in (fields_of first) = ap (λ (bytes : List ℕ). page_size_in (fields_of bytes)) start in (
      ap (λ (n : ℕ). laid_over n s main [] frames) (size_of frames _ (omega arith) ∙ ends) ∙ ap (λ (n : ℕ). laid_over count n main [] frames) named
          ∙ pages_alike (λ n. page_after_frames frames n (main_page (page_size_in (fields_of first)) main n)) (λ n. if n == 1 then first else main_page (page_size_in (fields_of first)) main n) 1 count
          (λ n from. each n from (main_page (page_size_in (fields_of first)) main n)),
      named,
    )
  where
    each : (n : ℕ) → 1 ≤ n → (below : List ℕ) → page_after_frames frames n below ≡ (if n == 1 then first else below)
    each n from below = elim (cases_lt 1 n) [
      | inl later ↦
          above_hold (first_then_zeros first) 1 n frames below hold (omega (arith, long))
          ∙ sym (ap (λ (b : Bool). if b then first else below) (higher_number n 1 later))
      | inr here ↦
          let one : 1 ≡ n = omega arith in
          subst (λ (k : ℕ). page_after_frames frames k below ≡ (if k == 1 then first else below)) one (hold_page (first_then_zeros first) 1 frames 1 below hold (omega arith) (omega (arith, long))).0
    ]

module _ (main : List ℕ) (map : PageMap) (size : ℕ) (big : 100 ≤ size) (sized : page_size_in (fields_of (take 100 main)) ≡ size) (is : overlaid main [] [] ≡ map) (some : 1 ≤ length map) where
  abbrev count : ℕ
  count = pages_in (take 100 main) (length main)

  bare : pages_from (λ n. main_page size main n) 1 count ≡ map
  bare = sym (ap (λ (n : ℕ). laid_over count n main [] []) sized) ∙ is

  counted : count ≡ length map
  counted = sym (length_from (λ n. main_page size main n) 1 count) ∙ ap (λ (m : PageMap). length m) bare

  fields : fields_of (take size main) ≡ fields_of (take 100 main)
  fields = header-take size main big ∙ sym (header-take 100 main (omega arith))

  named : page_size_in (fields_of (with_versions (take size main))) ≡ size
  named = size_still (take size main) ∙ ap (λ f. page_size_in f) fields ∙ sized

  over_is : (n : ℕ) → 1 ≤ n → over_one (with_versions (take size main)) main n ≡ migrated (pages_from (λ n. main_page size main n) 1 n)
  over_is zero from = absurd (omega arith)
  over_is (suc n) from =
      let head : with_versions (take size main) ≡ with_versions (main_page size main 1) = ap with_versions (sym (page_1_is size main)) in
      let rest = pages_alike (λ n. if n == 1 then with_versions (take size main) else main_page (page_size_in (fields_of (with_versions (take size main)))) main n) (λ n. main_page size main n) (1 + 1) n
      (λ n far. ap (λ (b : Bool). if b then with_versions (take size main) else main_page (page_size_in (fields_of (with_versions (take size main)))) main n) (higher_number n 1 (omega arith)) ∙ ap (λ (s : ℕ). main_page s main n) named) in
      λ i. head i ∷ rest i

  pub migrates : MakesMap main size (migrated map) (first_then_zeros (with_versions (take size main))) 1 (length map)
  migrates =
      subst (λ (n : ℕ). MakesMap main n (migrated map) (first_then_zeros (with_versions (take size main))) 1 (length map)) named
      (subst (λ (m : PageMap). MakesMap main (page_size_in (fields_of (with_versions (take size main)))) m (first_then_zeros (with_versions (take size main))) 1 (length map))
      (ap (λ (n : ℕ). over_one (with_versions (take size main)) main n) (sym counted) ∙ over_is count (omega (arith, counted)) ∙ ap migrated bare)
      (makes_one main (with_versions (take size main)) (length map)))

  pub as_long_as : length (migrated map) ≡ length map
  as_long_as = by map
    where
      by : (m : PageMap) → length (migrated m) ≡ length m
      by [] = refl
      by (p ∷ rest) = refl

  first_is : page_at (migrated map) 1 ≡ with_versions (take size main)
  first_is =
      by map some ∙ ap with_versions (sym (ap (λ (m : PageMap). page_at m 1) bare) ∙ head count (omega (arith, counted)) ∙ page_1_is size main)
    where
      by : (m : PageMap) → 1 ≤ length m → page_at (migrated m) 1 ≡ with_versions (page_at m 1)
      by [] some = absurd (omega arith)
      by (p ∷ rest) some = refl

      head : (n : ℕ) → 1 ≤ n → page_at (pages_from (λ n. main_page size main n) 1 n) 1 ≡ main_page size main 1
      head zero from = absurd (omega arith)
      head (suc n) from = refl

  pub migrated_names : length map * size ≤ length main → pages_in (page_at (migrated map) 1) (max (length main) (length (migrated map) * size)) ≡ length (migrated map)
  migrated_names long =
      let within : length (migrated map) * size ≤ length main = subst (λ (n : ℕ). n * size ≤ length main) (sym as_long_as) long in
      let same : max (length main) (length (migrated map) * size) ≡ length main = omega arith in
      ap (λ (bytes : List ℕ). pages_in bytes (max (length main) (length (migrated map) * size))) first_is
      ∙ ap (λ (n : ℕ). pages_in (with_versions (take size main)) n) same
      ∙ pages_still (take size main) (length main)
      ∙ pages_of_fields (take size main) (take 100 main) (length main) fields
      ∙ counted ∙ sym as_long_as

-- the pages behind page 1 need no write
laid_further : (view : OpeningView) (one two : FoundLog) (page : ℕ → List ℕ) (count : ℕ) (told : History) → HoldFrom page 1 one.frames → length one.frames ≡ 1 → two.frames ≡ [] → 1 ≤ count → count * view.size ≤ view.long
    → IsLaidDown view one two (1 + 1) told → IsLaidDown view one two (count + 1) told
laid_further view one two page count told hold single none some long d = record {
  writing = record {
    synced = d.writing.synced;
    laid = λ n from less. elim (cases_lt 1 n) [
      | inl later ↦
          either_page (nat_lt (log_fields (reads told).log1).generation (log_fields (reads told).log2).generation) one.frames two.frames n (main_page view.size (reads told).main n) none
          ∙ above_hold page 1 n one.frames (main_page view.size (reads told).main n) hold (omega (arith, single))
      | inr here ↦ d.writing.laid n from (omega arith)
    ];
    long =
        let first : (1 + 1 - 1) * view.size ≤ view.long = first_within count some long in
        let back : count + 1 - 1 ≡ count = omega arith in
        let last : (count + 1 - 1) * view.size ≤ view.long = subst (λ (n : ℕ). n * view.size ≤ view.long) (sym back) long in
        omega (arith, d.writing.long);
  };
  main = d.main;
}
  where
    first_within : (n : ℕ) → 1 ≤ n → n * view.size ≤ view.long → (1 + 1 - 1) * view.size ≤ view.long
    first_within zero from within = absurd (omega arith)
    first_within (suc n) from within = let more : suc n * view.size ≡ view.size + n * view.size = grind arith in let one : (1 + 1 - 1) * view.size ≡ view.size = grind arith in omega arith

-- The commit was made, and page 1 was written.
module _ (view : OpeningView) (one two : FoundLog) (bytes first : List ℕ) (size : ℕ) (sized : length first ≡ view.size) (big : 100 ≤ view.size) (paged : (log_fields bytes).page_size ≡ view.size) (some : size ≢ 0) (next : IsNextHeader Log1 one bytes) (none : two.frames ≡ []) where
  abbrev later : PageMap
  later = migrated view.map

  abbrev Told : Option History → Type 0
  Told old =
      Since view.opening.start (IsResetting view Log1 one two None) old × IfSome old (λ told. (length view.map ≡ size) × (size * view.size ≤ length (reads told).main))
      × IfSome old (λ told. first ≡ with_versions (take view.size (reads told).main))

  -- what Main is then
  on_main : (told : History) → Told (Some told) → (page_size_in (fields_of (take 100 (reads told).main)) ≡ view.size) × (overlaid (reads told).main [] [] ≡ view.map)
  on_main told ((since, grew, r), (counts, long), is) =
      let same : reads (rebased view.opening.start since) ≡ reads told = sym (ap reads grew ∙ rebased_reads view.opening.start since) in (
        elim r.written.fits [
          | inl empty ↦ absurd (not_empty (ap (λ (files : Files). length files.main) (sym same) ∙ ap (λ (xs : List ℕ). length xs) empty) long)
          | inr (b, fits) ↦ subst (λ (files : Files). page_size_in (fields_of (take 100 files.main)) ≡ view.size) same fits
        ],
        subst (λ (files : Files). overlaid files.main [] [] ≡ view.map) same r.written.bare,
      )
    where
      not_empty : length (reads told).main ≡ 0 → size * view.size ≤ length (reads told).main → ⊥
      not_empty zero_long long = by size some long
        where
          by : (n : ℕ) → n ≢ 0 → n * view.size ≤ length (reads told).main → ⊥
          by zero some long = some refl
          by (suc n) some long = let more : suc n * view.size ≡ view.size + n * view.size = grind arith in omega arith

  some_map : (told : History) → Told (Some told) → 1 ≤ length view.map
  some_map told (h, (counts, long), is) = by size some counts
    where
      by : (n : ℕ) → n ≢ 0 → length view.map ≡ n → 1 ≤ length view.map
      by zero some is = absurd (some refl)
      by (suc n) some is = omega arith

  makes : (told : History) → Told (Some told) → MakesMap (reads told).main view.size later (first_then_zeros first) 1 size
  makes told t =
      let on = on_main told t in
      subst (λ (n : ℕ). MakesMap (reads told).main view.size later (first_then_zeros first) 1 n) t.1.0
      (subst (λ (bs : List ℕ). MakesMap (reads told).main view.size later (first_then_zeros bs) 1 (length view.map)) (sym t.2)
      (migrates (reads told).main view.map view.size big on.0 on.1 (some_map told t)))

  -- Main is no longer than at first or than the map
  room_now : (told : History) → Told (Some told) → length (reads told).main ≤ max (length (reads view.opening.start).main) (length later * view.size)
  room_now told t =
      let on = on_main told t in
      subst (λ (n : ℕ). length (reads told).main ≤ max (length (reads view.opening.start).main) (n * view.size)) (sym (as_long_as (reads told).main view.map view.size big on.0 on.1 (some_map told t)))
      (by t.0)
    where
      by : Since view.opening.start (IsResetting view Log1 one two None) (Some told) → length (reads told).main ≤ max (length (reads view.opening.start).main) (length view.map * view.size)
      by (since, grew, r) =
          let same : reads (rebased view.opening.start since) ≡ reads told = sym (ap reads grew ∙ rebased_reads view.opening.start since) in
          subst (λ (files : Files). length files.main ≤ max (length (reads view.opening.start).main) (length view.map * view.size)) same r.written.keeps.0

  pub migrates_not : (old mid : Option History) → Told old → FailsToFound bytes (first_then_zeros first) 1 size old mid → Passes view.opening (LeavesEither view later) (λ told. Unit {0}) old mid
  migrates_not (Some told) mid t fails = fails view later (reads told).main one two (makes told t) t.0 next none (refl, big, paged, room_now told t)
  migrates_not None None t fails = record { each_moment = tt; holds = tt }
  migrates_not None (Some mid) t fails =
      absurd (fails (record { opening = view.opening; size = page_size_in (fields_of first); long = 0; map = []; own = true }) (over_one first [] size) [] one two (makes_one [] first size) tt next none tt).each_moment

  -- then its mid state isn't told either
  untold : (mid : Option History) → FoundsPages bytes (first_then_zeros first) 1 size None mid → mid ≡ None
  untold None made = refl
  untold (Some mid) made =
      absurd (made.3 (record { opening = view.opening; size = page_size_in (fields_of first); long = 0; map = []; own = true }) (over_one first [] size) [] one two (makes_one [] first size) tt next none tt).each_moment

  laid_none : (ok : Bool) (new : Option History) (frames : List Frame) → HoldFrom (first_then_zeros first) 1 frames → length frames ≡ 1 → LaysFirst ok first 1 None new → new ≡ None
  laid_none ok None frames hold long laying = refl
  laid_none ok (Some new) frames hold long laying =
      absurd (laying (record { opening = view.opening; size = length first; long = 0; map = [] ∷ []; own = true }) (record { frames = frames; salt = 0; most = 0 }) (record { frames = []; salt = 0; most = 0 }) tt refl tt refl hold long (omega arith)).each_moment

  nothing_told : (P : History → Type 0) (new : Option History) → new ≡ None → Passes view.opening (LeavesEither view later) P None new
  nothing_told P new is = subst (λ (told : Option History). Passes view.opening (LeavesEither view later) P None told) (sym is) (record { each_moment = tt; holds = tt })

  module _ (told : History) (mid new : Option History) (t : Told (Some told)) (made : FoundsPages bytes (first_then_zeros first) 1 size (Some told) mid) where
    abbrev main : List ℕ
    main = (reads told).main

    abbrev one' : FoundLog
    one' = with_first (next_log one) made.0

    committed : Passes view.opening (LeavesEither view later) (HasFirstCommit view later main (next_log one) two made.0) (Some told) mid
    committed = made.3 view later main one two (makes told t) t.0 next none (refl, big, paged, room_now told t)

    lays : (ok : Bool) → LaysFirst ok first 1 mid new → Passes view.opening (LeavesMap (later_view view later main)) (ByAnswer ok (IsLaidDown (later_view view later main) one' two (1 + 1)) (AreSynced (later_view view later main) one' two)) mid new
    lays ok laying =
        laying (later_view view later main) one' two (synced_then view later main (next_log one) two made.0 (Some told) mid new committed) sized
        (long_then view later main (next_log one) two made.0 (Some told) mid new committed) none made.1 made.2
        (let on = on_main told t in let has = some_map told t in let same = as_long_as main view.map view.size big on.0 on.1 has in omega (arith, same, has))

    founded : LaysFirst true first 1 mid new → Passes view.opening (LeavesEither view later) (HasMigrated view (next_log one) two) (Some told) new
    founded laying =
        let on = on_main told t in
        let has = some_map told t in
        let long : length view.map * view.size ≤ length main = subst (λ (n : ℕ). n * view.size ≤ length main) (sym t.1.0) t.1.1 in
        let same = as_long_as main view.map view.size big on.0 on.1 has in
        passes_weaker view.opening (LeavesEither view later) (LeavesEither view later) (λ told. HasFounded view later main (next_log one) two told) (HasMigrated view (next_log one) two)
        (λ told image leaves. leaves) (λ told f. (main, f)) (Some told) new
        (founded_all view later main (next_log one) two made.0 (Some told) mid new committed none (omega (arith, same, has)) (inr (migrated_names main view.map view.size big on.0 on.1 has long))
        (passes_weaker view.opening (LeavesMap (later_view view later main)) (LeavesMap (later_view view later main)) (IsLaidDown (later_view view later main) one' two (1 + 1)) (IsLaidDown (later_view view later main) one' two (length later + 1))
        (λ told image leaves. leaves)
        (λ told d. laid_further (later_view view later main) one' two (first_then_zeros first) (length later) told made.1 made.2 none (omega (arith, same, has)) (subst (λ (n : ℕ). n * view.size ≤ length main) (sym same) long) d) mid new (lays true laying)))

    not_founded : LaysFirst false first 1 mid new → Passes view.opening (LeavesEither view later) (λ told. Unit {0}) (Some told) new
    not_founded laying = founded_not view later main (next_log one) two made.0 (Some told) mid new committed (λ told. AreSynced (later_view view later main) one' two told) (lays false laying)

  pub migrates_all : (old mid new : Option History) → Told old → FoundsPages bytes (first_then_zeros first) 1 size old mid → LaysFirst true first 1 mid new
      → Passes view.opening (LeavesEither view later) (HasMigrated view (next_log one) two) old new
  migrates_all (Some told) mid new t made laying = founded told mid new t made laying
  migrates_all None mid new t made laying =
      nothing_told (HasMigrated view (next_log one) two) new (laid_none true new made.0 made.1 made.2 (subst (λ (told : Option History). LaysFirst true first 1 told new) (untold mid made) laying))

  pub lays_none : (old mid new : Option History) → Told old → FoundsPages bytes (first_then_zeros first) 1 size old mid → LaysFirst false first 1 mid new → Passes view.opening (LeavesEither view later) (λ told. Unit {0}) old new
  lays_none (Some told) mid new t made laying = not_founded told mid new t made laying
  lays_none None mid new t made laying =
      nothing_told (λ told. Unit {0}) new (laid_none false new made.0 made.1 made.2 (subst (λ (told : Option History). LaysFirst false first 1 told new) (untold mid made) laying))

-- what was read is page 1
pub read_first : (size : ℕ) (read first : List ℕ) (old : Option History) → length read ≡ size → first ≡ with_versions read → IsRead old Main 0 read → IfSome old (λ told. first ≡ with_versions (take size (reads told).main))
read_first size read first None long is bytes = tt
read_first size read first (Some told) long is bytes = is ∙ ap with_versions (bytes ∙ ap (λ (n : ℕ). take n (reads told).main) long)

-- nothing was written
pub stays_then : (view : OpeningView) (later : PageMap) (one two : FoundLog) (old : Option History) → Since view.opening.start (IsResetting view Log1 one two None) old → Passes view.opening (LeavesEither view later) (λ told. Unit {0}) old old
stays_then view later one two old h =
    passes_weaker view.opening (LeavesMap view) (LeavesEither view later) (IsResetting view Log1 one two None) (λ told. Unit {0}) (λ told image leaves chance. (inl (leaves chance).0, (leaves chance).1)) (λ told r. tt) old old
    (passes_still view.opening (LeavesMap view) (IsResetting view Log1 one two None) (λ told r. written_images view one two told r.written) old h)

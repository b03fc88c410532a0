-- The pages that a commit writes, over the newest map of a store.
use Rattle.std.proofs.Common.{◌≡◌, ◌∙◌, ℕ, zero, suc, ◌+◌, ◌^◌, ◌≤◌, ◌<◌, ◌==◌, if◌then◌else◌, Bool, true, false, List, [], ◌∷◌, length, map, take, drop, refl, sym, ap, subst, arith, Contains, Option, Some, None}
use Rattle.std.specs.Prelude.{All, IfSome, ◌*◌}
use Rattle.std.proofs.lemmas.List.Elements.{All-cons, All-map}
use Rattle.disk_face.specs.Steps.{History, reads}
use Rattle.page_spec.specs.Header.{database_limit, fields_of, page_size_in}
use Rattle.page_spec.specs.PageMap.{PageMap, page_at}
use Rattle.log_spec.specs.Accept.{Frame, page_number, page_of}
use Rattle.crash_spec.specs.Recovered.{page_after_frames, main_page, overlaid, NamesPages}
use Rattle.crash_spec.specs.Store.{named_size}
use Rattle.opening_spec.proofs.Laid.{header-take}
use Rattle.engine_spec.specs.declared.commits.Commit.{Commit}
use Rattle.engine_spec.specs.declared.commits.PageImage.{PageImage}
use Rattle.engine_spec.specs.declared.pins.Pin.{Pin}
use Rattle.engine_spec.specs.declared.pins.Readers.{Readers}
use Rattle.engine_spec.specs.Change.{laid}
use Rattle.engine_spec.specs.Good.{HasSizes}
use Rattle.engine_spec.specs.State.{EngineState}
use Rattle.engine_spec.specs.Written.{Writes}
use Rattle.engine_spec.proofs.Laying.{legal_size, page_at-length, IsWhole}
use Rattle.engine_spec.proofs.Stamped.{laid_names}
use Rattle.page_face.specs.declared.prepared.Prepared.{Prepared}
use Rattle.page_face.specs.Prepared.{IsFit, change_in}
use Rattle.laying.specs.Order.{in_order, images_of, page_numbers}
use Rattle.laying.proofs.Laws.{laid_is, fits, writes}
use Rattle.laying.proofs.Orders.{all_in_order}
use Rattle.log_commit.specs.Commit.{map_under, FitsMap}
use Rattle.store_spec.specs.Store.{StoreData, current_read, other_read, newest_in, newest_told, view_of}
use Rattle.store_spec.specs.Named.{AreNamed}
use Rattle.store_spec.specs.Standing.{IsWholeStore, IsLiveStore}
use Rattle.store_spec.proofs.Committed.{IsLaid}
use Rattle.store_spec.proofs.PinLaws.{named_all}
use Rattle.store_spec.proofs.Reading.{page_of_overlaid}
use Rattle.store.specs.declared.plan.Plan.{Plan}
use Rattle.store.specs.Planning.{IsPlanOf}

-- what two pages have in common, they have after the same frames
after_same : {A : Type 0} (f : List ℕ → A) (frames : List Frame) (number : ℕ) (a b : List ℕ) → f a ≡ f b → f (page_after_frames frames number a) ≡ f (page_after_frames frames number b)
after_same f [] number a b same = same
after_same f (frame ∷ rest) number a b same = by (page_number frame == number) (after_same f rest number a b same)
  where
    by : (here : Bool) → f (page_after_frames rest number a) ≡ f (page_after_frames rest number b)
        → f (page_after_frames rest number (if here then page_of frame else a)) ≡ f (page_after_frames rest number (if here then page_of frame else b))
    by true below = refl
    by false below = below

-- page 1 of the map names the page size that its first bytes name
first_names : (size : ℕ) (main : List ℕ) (older newer : List Frame) → named_size main older newer ≡ size → 100 ≤ size → 1 ≤ length (overlaid main older newer)
    → page_size_in (fields_of (page_at (overlaid main older newer) 1)) ≡ size
first_names size main older newer named long some =
    ap (λ (page : List ℕ). page_size_in (fields_of page)) (page_of_overlaid size main older newer 1 named (omega arith) some)
    ∙ ap page_size_in (after_same fields_of newer 1 (page_after_frames older 1 (main_page size main 1)) (page_after_frames older 1 (take 100 main))
    (after_same fields_of older 1 (main_page size main 1) (take 100 main) (ap (λ (n : ℕ). fields_of (take size (drop n main))) (nothing size) ∙ header-take size main long ∙ sym (header-take 100 main (omega arith)))))
    ∙ named
  where
    nothing : (n : ℕ) → 0 * n ≡ 0
    nothing n = omega arith

-- a database within the limit has fewer pages than four bytes count
few_pages : (size bytes : ℕ) → 1 ≤ bytes → size * bytes ≤ database_limit → size < 2 ^ 32
few_pages size zero some within = absurd (omega arith)
few_pages size (suc more) some within = omega (arith, split size more, within)
  where
    split : (m n : ℕ) → m * suc n ≡ m + m * n
    split m n = grind arith

-- over a map whose page 1 names the page size
module _ {M : Type 0} (kept : StoreData) (state : EngineState) (pin : Pin) (prepared : Prepared M) (plan : Plan) (first : List ℕ) (sized : state.page_size ≡ kept.page_size)
    (fit : IsFit state pin prepared) (smaller : pin.size ≤ kept.size) (is : IsPlanOf prepared.changed plan) where
  abbrev images : List PageImage
  images = images_of first prepared.changed plan.order.items

  least : All (λ image. 1 ≤ image.page) prepared.changed
  least k d within = (fit.in_range k d within).0

  pub is_whole : IsWhole kept.size kept.page_size (change_in prepared)
  is_whole = record {
    in_range = λ k d within. (let range = fit.in_range k d within in (range.0, omega (arith, range.1, smaller)));
    whole = λ k d within. fit.whole k d within ∙ sized;
    fresh = fit.fresh;
  }

  numbers_within : 1 ≤ kept.size → All (λ page. (1 ≤ page) × (page ≤ kept.size)) (map (λ (image : PageImage). image.page) images)
  numbers_within some = All-cons (λ (page : ℕ). (1 ≤ page) × (page ≤ kept.size)) 1 (page_numbers (in_order prepared.changed plan.order.items)) (omega arith, some)
      (mapped (in_order prepared.changed plan.order.items) (all_in_order (λ (image : PageImage). (1 ≤ image.page) × (image.page ≤ kept.size)) prepared.changed plan.order.items is_whole.in_range is.order.places))
    where
      mapped : (list : List PageImage) → All (λ image. (1 ≤ image.page) × (image.page ≤ kept.size)) list → All (λ page. (1 ≤ page) × (page ≤ kept.size)) (map (λ (image : PageImage). image.page) list)
      mapped list all = All-map (λ (page : ℕ). (1 ≤ page) × (page ≤ kept.size)) (λ (image : PageImage). image.page) list all

  pub wrote_is : (newest : Option PageMap) → Writes newest kept.size (change_in prepared) plan.wrote
  wrote_is newest = subst (Writes newest kept.size (change_in prepared)) (sym is.wrote) (writes newest kept.size (change_in prepared) plan.order.items fit.fresh least is.order)

  fits_told : (told : History) (readers : Readers) → IsWholeStore kept → AreNamed (Some told) kept readers → HasSizes (newest_in kept.pair (reads told)) kept.size kept.page_size
      → first ≡ page_at (laid (newest_in kept.pair (reads told)) (change_in prepared)) 1 → FitsMap (view_of kept (reads told) [] (newest_in kept.pair (reads told))) images kept.size
  fits_told told readers whole named sizes laid_first =
      let some : 1 ≤ length (newest_in kept.pair (reads told)) = let count = sizes.count in let least = whole.some in omega arith in
      let long : 100 ≤ kept.page_size = let least = legal_size kept.page_size whole.legal in omega arith in
      subst (λ (size : ℕ). FitsMap (view_of kept (reads told) [] (newest_in kept.pair (reads told))) images size) sizes.count
      (fits (view_of kept (reads told) [] (newest_in kept.pair (reads told))) (change_in prepared) plan.order.items first fit.fresh
      (let count = page_at-length (newest_in kept.pair (reads told)) kept.page_size 1 sizes.each (omega arith) some in omega arith)
      fit.different least is.order laid_first
      (first_names kept.page_size (reads told).main (other_read kept.pair (reads told)) (current_read kept.pair (reads told)) (named_all told kept readers whole named) long some))

  lies_told : (told : History) → IsWholeStore kept → HasSizes (newest_in kept.pair (reads told)) kept.size kept.page_size
      → first ≡ page_at (laid (newest_in kept.pair (reads told)) (change_in prepared)) 1
      → map_under (newest_in kept.pair (reads told)) images kept.size ≡ laid (newest_in kept.pair (reads told)) (change_in prepared)
  lies_told told whole sizes laid_first =
      let some : 1 ≤ length (newest_in kept.pair (reads told)) = let count = sizes.count in let least = whole.some in omega arith in
      ap (λ (size : ℕ). map_under (newest_in kept.pair (reads told)) images size) (sym sizes.count)
      ∙ laid_is (newest_in kept.pair (reads told)) (change_in prepared) plan.order.items first fit.fresh some fit.different least is.order laid_first

  names_told : (told : History) → IsWholeStore kept → HasSizes (newest_in kept.pair (reads told)) kept.size kept.page_size
      → first ≡ page_at (laid (newest_in kept.pair (reads told)) (change_in prepared)) 1
      → (long : ℕ) → NamesPages long kept.page_size (map_under (newest_in kept.pair (reads told)) images kept.size)
  names_told told whole sizes laid_first long =
      let big : 100 ≤ kept.page_size = let least = legal_size kept.page_size whole.legal in omega arith in
      let few : kept.size < 2 ^ 32 = few_pages kept.size kept.page_size (omega (arith, big)) whole.fits in
      let count = sizes.count in
      subst (λ (pages : PageMap). NamesPages long kept.page_size pages) (sym (lies_told told whole sizes laid_first))
      (laid_names (newest_in kept.pair (reads told)) (change_in prepared) kept.size kept.page_size big is_whole (omega (arith, count)) sizes.each (omega (arith, count, few)) long kept.page_size)

  pub is_laid : (told : Option History) (readers : Readers) (pins : List Pin) (commit : Commit) → IsLiveStore told kept readers pins → AreNamed told kept readers
      → IfSome (newest_told kept told) (λ pages. first ≡ page_at (laid pages (change_in prepared)) 1) → commit.wrote ≡ plan.wrote → IsLaid kept told images (change_in prepared) commit
  is_laid told readers pins commit live named laid_first same = record {
    numbers = same ∙ is.wrote;
    first = subst (λ (pages : List ℕ). Contains pages 1) (sym (same ∙ is.wrote)) (0, omega arith, refl);
    within = subst (λ (pages : List ℕ). All (λ page. (1 ≤ page) × (page ≤ kept.size)) pages) (sym (same ∙ is.wrote)) (numbers_within live.whole.some);
    fits = fits_by told live.whole named live.sizes laid_first;
    lies = lies_by told live.whole live.sizes laid_first;
    names = names_by told live.whole live.sizes laid_first;
  }
    where
      fits_by : (told : Option History) → IsWholeStore kept → AreNamed told kept readers → IfSome (newest_told kept told) (λ pages. HasSizes pages kept.size kept.page_size)
          → IfSome (newest_told kept told) (λ pages. first ≡ page_at (laid pages (change_in prepared)) 1)
          → IfSome told (λ told. FitsMap (view_of kept (reads told) [] (newest_in kept.pair (reads told))) images kept.size)
      fits_by None whole named sizes laid_first = tt
      fits_by (Some told) whole named sizes laid_first = fits_told told readers whole named sizes laid_first

      lies_by : (told : Option History) → IsWholeStore kept → IfSome (newest_told kept told) (λ pages. HasSizes pages kept.size kept.page_size)
          → IfSome (newest_told kept told) (λ pages. first ≡ page_at (laid pages (change_in prepared)) 1)
          → IfSome told (λ told. map_under (newest_in kept.pair (reads told)) images kept.size ≡ laid (newest_in kept.pair (reads told)) (change_in prepared))
      lies_by None whole sizes laid_first = tt
      lies_by (Some told) whole sizes laid_first = lies_told told whole sizes laid_first

      names_by : (told : Option History) → IsWholeStore kept → IfSome (newest_told kept told) (λ pages. HasSizes pages kept.size kept.page_size)
          → IfSome (newest_told kept told) (λ pages. first ≡ page_at (laid pages (change_in prepared)) 1)
          → IfSome told (λ told. (long : ℕ) → NamesPages long kept.page_size (map_under (newest_in kept.pair (reads told)) images kept.size))
      names_by None whole sizes laid_first = tt
      names_by (Some told) whole sizes laid_first = names_told told whole sizes laid_first

-- A store as it begins is whole, and stands on its disk.
use Rattle.std.proofs.Common.{◌≡◌, inl, inr, ℕ, zero, suc, ◌+◌, ◌-◌, ◌*◌, ◌%◌, ◌≤◌, ◌<◌, true, List, [], ◌∷◌, length, take, drop, Option, Some, None, refl, sym, ◌∙◌, ap, subst, arith, length-drop}
use Rattle.std.specs.Prelude.{All, Contains, IfSome, slice_index_or}
use Rattle.std.proofs.lemmas.Bool.Decides.{nat_tests}
use Rattle.std.proofs.lemmas.List.{length-take}
use Rattle.std.proofs.lemmas.List.Elements.{All-nil, All-head, All-tail}
use Rattle.disk_face.specs.declared.disk.File.TheVariants.{Log1, Log2}
use Rattle.disk_face.specs.Steps.{History, reads}
use Rattle.page_spec.specs.Header.{is_page_size, database_limit}
use Rattle.page_spec.specs.PageMap.{PageMap, page_at}
use Rattle.log_spec.specs.LogHeader.{is_generation, last_generation}
use Rattle.crash_spec.specs.Opening.{Since, rebased}
use Rattle.crash_spec.specs.Known.{known_pieces}
use Rattle.crash_spec.specs.Logs.{AreBehind}
use Rattle.crash_spec.specs.Recovered.{overlaid}
use Rattle.crash_spec.specs.Store.{HoldsStore, named_size}
use Rattle.crash_spec.proofs.Rebased.{rebased_reads}
use Rattle.engine_spec.specs.declared.commits.Commit.{Commit}
use Rattle.engine_spec.specs.declared.pins.Pin.{Pin}
use Rattle.engine_spec.specs.Good.{HasSizes}
use Rattle.engine_spec.specs.History.{statements_of}
use Rattle.log_spec.specs.Accept.{Frame}
use Rattle.std.proofs.Math.Seq.{take-nil}
use Rattle.wal_frames.specs.declared.header.LogHeader.{LogHeader}
use Rattle.log_pair.specs.Pair.{PairView, IsPair, new_pair}
use Rattle.opening_spec.specs.Found.{OpeningView}
use Rattle.recover.specs.Ready.{IsReady, IsNewPair}
use Rattle.recover.proofs.Begun.{ready_holds}
use Rattle.recover.proofs.SeenFiles.{legal_size, is_legal}
use Rattle.store_spec.specs.Store.{StoreData, newest_told, since_of}
use Rattle.store_spec.specs.Pins.{PinHolds, mark_at}
use Rattle.store_spec.specs.Standing.{IsWholeStore, IsReadable, AreFronts, StandsOn, IsOpenedAt, IsLiveStore, StandsFrom}
use Rattle.store_spec.specs.Steady.{IsSteady}
use Rattle.store_spec.proofs.NamedLaws.{named_bare}
use Rattle.store_spec.proofs.Named.{named_none}
use Rattle.store_spec.proofs.OwnFronts.{names_bare}
use Rattle.store_spec.proofs.Reading.{on_has, page_of_overlaid}
use Rattle.store.specs.Opening.{BeginsWith, no_frames, first_state, no_readers}

-- a store as it begins
abbrev pub first_kept : (count bytes used most : ℕ) → (one two : LogHeader) → StoreData
first_kept count bytes used most one two = record {
  page_size = bytes;
  usable = used;
  size = count;
  limit = most;
  pair = new_pair 1 one two;
  index = no_frames;
  state = first_state;
  history = [];
  stop = None;
}

pub kept_is : (count bytes used most : ℕ) (kept : StoreData) → (b : BeginsWith count bytes used most kept) → kept ≡ first_kept count bytes used most b.pair.one b.pair.two
kept_is count bytes used most kept b = λ i. record {
  page_size = b.page_size i;
  usable = b.usable i;
  size = b.size i;
  limit = b.limit i;
  pair = b.pair.is i;
  index = b.index i;
  state = b.state i;
  history = b.history i;
  stop = b.stop i;
}

-- what a generation of log 1 is
pub generation_of_one : (g : ℕ) → is_generation 1 g ≡ true → (1 ≤ g) × (g ≤ last_generation) × (g % 2 ≡ 1)
unfolding is_generation
generation_of_one g is = (grind (arith, nat_tests), grind (arith, nat_tests), grind (arith, nat_tests))

-- What an opening gives a store: some pages, no more than a database has, a legal page size, of which enough is in use, and a limit.
pub record MayBegin (count bytes used most : ℕ) : Type 0 where
  pub some : 1 ≤ count
  pub fits : count * bytes ≤ database_limit
  pub legal : is_page_size bytes ≡ true
  pub usable : (480 ≤ used) × (used ≤ bytes)
  pub limit : 1 ≤ most

module _ (count bytes used most : ℕ) (may : MayBegin count bytes used most) (pair : PairView) (new : IsNewPair bytes pair) where
  abbrev kept : StoreData
  kept = first_kept count bytes used most new.one new.two

  is_pair : IsPair kept.pair
  is_pair = record {
    which = inl refl;
    one = record { page_size = new.legal.0.0; generation = new.legal.0.1 };
    two = record { page_size = new.legal.1.0; generation = new.legal.1.1 };
    same_size = new.size_two ∙ sym new.size_one;
    counted = omega arith;
  }

  none_first : All (λ (commit : Commit). Contains commit.wrote 1) []
  none_first = All-nil (λ (commit : Commit). Contains commit.wrote 1)

  no_pages : All (λ page. (1 ≤ page) × (page ≤ count)) []
  no_pages = All-nil (λ (page : ℕ). (1 ≤ page) × (page ≤ count))

  pub first_whole : IsWholeStore kept
  first_whole =
      let generation = generation_of_one new.one.generation new.legal.0.1 in
      record {
        legal = is_legal bytes may.legal;
        usable = may.usable;
        some = may.some;
        fits = may.fits;
        limit = may.limit;
        pair = is_pair;
        page_size = new.size_one;
        rising = sym new.newer;
        current = refl;
        index = record {
          are = record {
            current = inl refl;
            least = generation.0;
            most = generation.1;
            odd = ((λ odd. refl), (λ one. generation.2));
            since = omega arith;
            other_since = omega arith;
          };
          current = record { pages = refl; numbers = refl; ends = refl; tails = refl; first_pages = none_first };
          other = record { pages = refl; numbers = refl; ends = refl; tails = refl; first_pages = none_first };
        };
        log1 = record { counted = refl; pages = no_pages };
        log2 = record { counted = refl; pages = no_pages };
        sealed = λ none. refl;
      }

  -- since the opening of which its files are ready
  pub first_stands : (view : OpeningView) (later : PageMap) (told : History) → view.size ≡ bytes → IsReady view later kept.pair told → StandsOn view.opening kept told
  first_stands view later told sized r = inl (record {
    pending = [];
    later = later;
    there = record {
      current = on_has view.opening told Log1 kept.pair.one.header [] [] r.settled.log1.on;
      other = on_has view.opening told Log2 kept.pair.two.header [] [] r.settled.log2.on;
      current_pages = refl;
      other_pages = refl;
      copied = λ number from or. refl;
    };
    holds = holds;
    running = record { none = refl; stands = r.stands; whole = λ place inside. r.settled.log1.sure place };
    other_whole = λ place inside. r.settled.log2.sure place;
    main_whole = λ done. r.settled.written.main;
    fronts = fronts;
    names = names_bare bytes (reads told).main (omega (arith, (legal_size bytes may.legal).0)) holds.sized;
    later_names = λ some. absurd (some refl);
  })
    where
      pair_is : IsNewPair view.size kept.pair
      pair_is = record { one = new.one; two = new.two; is = refl; size_one = new.size_one ∙ sym sized; size_two = new.size_two ∙ sym sized; newer = new.newer; legal = new.legal; salts = new.salts }

      holds : HoldsStore view.opening Log1 kept.pair.one.header kept.pair.two.header [] [] [] bytes (overlaid (reads told).main [] []) later told
      holds =
          subst (λ (n : ℕ). HoldsStore view.opening Log1 kept.pair.one.header kept.pair.two.header [] [] [] n (overlaid (reads told).main [] []) later told) sized
          (subst (λ (m : PageMap). HoldsStore view.opening Log1 kept.pair.one.header kept.pair.two.header [] [] [] view.size m later told) (sym r.settled.written.bare)
          (ready_holds view later kept.pair told r pair_is (omega (arith, sized, (legal_size bytes may.legal).0))))

      fronts : AreFronts view.opening kept told
      fronts = record {
        most1 = r.settled.one.most;
        most2 = r.settled.two.most;
        few = (r.settled.last1.few, omega (arith, r.settled.last2.few, new.newer));
        sizes = (new.size_one, new.size_two);
        log1 = record {
          only = r.settled.written.log1.only;
          behind = subst (λ (salt : ℕ). AreBehind (known_pieces view.opening told) Log1 salt r.settled.one.most) (sym r.settled.last1.salt) r.settled.written.log1.behind;
          ours = r.settled.written.log1.ours;
        };
        log2 = record {
          only = r.settled.written.log2.only;
          behind = subst (λ (salt : ℕ). AreBehind (known_pieces view.opening told) Log2 salt r.settled.two.most) (sym r.settled.last2.salt) r.settled.written.log2.behind;
          ours = r.settled.written.log2.ours;
        };
      }

  pub first_opened : (view : OpeningView) (later : PageMap) (told : Option History) → view.size ≡ bytes → Since view.opening.start (IsReady view later kept.pair) told
      → IsOpenedAt view.opening kept told
  first_opened view later None sized ready = tt
  first_opened view later (Some told) sized (since, grew, ready) = (since, grew, first_stands view later (rebased view.opening.start since) sized ready)

  -- what the files show, where they are ready
  main_is : (view : OpeningView) (later : PageMap) (told : History) → Since view.opening.start (IsReady view later kept.pair) (Some told)
      → (overlaid (reads told).main [] [] ≡ later) × (named_size (reads told).main [] [] ≡ view.size)
      × (32 ≤ length (reads told).log1) × (32 ≤ length (reads told).log2)
  main_is view later told (since, grew, r) =
      let same = ap reads grew ∙ rebased_reads view.opening.start since in
      subst (λ files. (overlaid files.main [] [] ≡ later) × (named_size files.main [] [] ≡ view.size) × (32 ≤ length files.log1) × (32 ≤ length files.log2)) (sym same)
      (r.settled.written.bare, r.sized, omega (arith, r.settled.log1.on.long), omega (arith, r.settled.log2.on.long))

  -- the last page of the map is all there
  last_page : (pages : PageMap) (size number : ℕ) → length pages ≡ number → 1 ≤ number → All (λ page. length page ≡ size) pages → length (page_at pages number) ≡ size
  last_page pages size zero is some all = absurd (omega (arith, some))
  last_page pages size (suc k) is some all = nth pages k (omega (arith, is)) all
    where
      nth : (pages : PageMap) (k : ℕ) → k < length pages → All (λ page. length page ≡ size) pages → length (slice_index_or pages k []) ≡ size
      nth [] k less all = absurd (omega arith)
      nth (page ∷ pages) zero less all = All-head (λ (page : List ℕ). length page ≡ size) page pages all
      nth (page ∷ pages) (suc k) less all = nth pages k (omega arith) (All-tail (λ (page : List ℕ). length page ≡ size) page pages all)

  main_long : (main : List ℕ) → named_size main [] [] ≡ bytes → HasSizes (overlaid main [] []) count bytes → count * bytes ≤ length main
  main_long main named sizes =
      let page = page_of_overlaid bytes main [] [] count named may.some (omega (arith, sizes.count)) in
      let whole : length (take bytes (drop ((count - 1) * bytes) main)) ≡ bytes = sym (ap (λ (bytes : List ℕ). length bytes) page) ∙ last_page (overlaid main [] []) bytes count sizes.count may.some sizes.each in
      omega (arith, whole, length-take bytes (drop ((count - 1) * bytes) main), length-drop ((count - 1) * bytes) main, (legal_size bytes may.legal).0, before count bytes may.some)
    where
      step : (m size : ℕ) → m * size + size ≡ (m + 1) * size
      step m size = grind arith

      before : (n size : ℕ) → 1 ≤ n → (n - 1) * size + size ≡ n * size
      before n size some = step (n - 1) size ∙ ap (λ (k : ℕ). k * size) (omega (arith, some))

  pub first_sizes : (view : OpeningView) (later : PageMap) (told : Option History) → IfSome told (λ told. HasSizes later count bytes) → Since view.opening.start (IsReady view later kept.pair) told
      → IfSome (newest_told kept told) (λ pages. HasSizes pages count bytes)
  first_sizes view later None sizes ready = tt
  first_sizes view later (Some told) sizes ready = subst (λ (map : PageMap). HasSizes map count bytes) (sym (main_is view later told ready).0) sizes

  pub first_newest : (view : OpeningView) (later : PageMap) (told : Option History) → Since view.opening.start (IsReady view later kept.pair) told
      → IfSome (newest_told kept told) (λ pages. pages ≡ later)
  first_newest view later None ready = tt
  first_newest view later (Some told) ready = (main_is view later told ready).0

  pub first_readable : (view : OpeningView) (later : PageMap) (told : Option History) → view.size ≡ bytes → IfSome told (λ told. HasSizes later count bytes)
      → Since view.opening.start (IsReady view later kept.pair) told → IsReadable kept told
  first_readable view later None sized sizes ready = record { log1 = tt; log2 = tt; main = tt }
  first_readable view later (Some told) sized sizes ready =
      let files = main_is view later told ready in
      let none1 : 0 * (24 + new.one.page_size) ≡ 0 = grind arith in
      let none2 : 0 * (24 + new.two.page_size) ≡ 0 = grind arith in
      record {
        log1 = omega (arith, files.2, none1);
        log2 = omega (arith, files.3, none2);
        main = omega (arith, main_long (reads told).main (files.1 ∙ sized) (subst (λ (map : PageMap). HasSizes map count bytes) (sym files.0) sizes));
      }

  pub first_live : (view : OpeningView) (later : PageMap) (told : Option History) → view.size ≡ bytes → IfSome told (λ told. HasSizes later count bytes)
      → Since view.opening.start (IsReady view later kept.pair) told → IsLiveStore told kept no_readers []
  first_live view later told sized sizes ready = record {
    whole = first_whole;
    readable = first_readable view later told sized sizes ready;
    sizes = first_sizes view later told sizes ready;
    hold = All-nil (PinHolds told kept);
    counted = λ lock. inl (omega arith);
    opening = view.opening;
    opened = first_opened view later told sized ready;
  }

  pub first_steady : (view : OpeningView) (later : PageMap) (told : Option History) → view.size ≡ bytes → Since view.opening.start (IsReady view later kept.pair) told
      → IsSteady told kept no_readers []
  first_steady view later None sized ready = record {
    named = record { fronts = tt; older = λ some. tt };
    frames = tt;
    salts = new.salts;
    begun = λ none. inr refl;
    smaller = All-nil (λ (pin : Pin). pin.size ≤ count);
  }
  first_steady view later (Some told) sized ready = record {
    named = named_bare kept told no_readers refl refl ((main_is view later told ready).1 ∙ sized);
    frames = named_none bytes;
    salts = new.salts;
    begun = λ none. inr refl;
    smaller = All-nil (λ (pin : Pin). pin.size ≤ count);
  }

  -- it stands for a run from its own map
  pub first_from : (sound : PageMap → Type 0) (leads : PageMap → List (List ℕ) → PageMap → Type 0) (first : PageMap) (view : OpeningView) (later : PageMap) (told : Option History)
      → Since view.opening.start (IsReady view later kept.pair) told → IfSome told (λ told. (first ≡ later) × sound first × leads first [] first)
      → StandsFrom sound leads first told kept no_readers
  first_from sound leads first view later None ready is = record { snaps = tt; newest = tt; fronts = tt; older = λ some. tt }
  first_from sound leads first view later (Some told) ready (same, good, rests) = record {
    snaps = tt;
    newest = holds;
    fronts = λ n front.
        subst (λ (frames : List Frame). sound (overlaid (reads told).main [] frames) × leads first (statements_of (take n [])) (overlaid (reads told).main [] frames)) (sym (take-nil (mark_at [] (since_of kept) n)))
        (subst (λ (commits : List Commit). sound (overlaid (reads told).main [] []) × leads first (statements_of commits) (overlaid (reads told).main [] [])) (sym (take-nil n)) holds);
    older = λ some. absurd (omega arith);
  }
    where
      holds : sound (overlaid (reads told).main [] []) × leads first [] (overlaid (reads told).main [] [])
      holds = subst (λ (map : PageMap). sound map × leads first [] map) (same ∙ sym (main_is view later told ready).0) (good, rests)

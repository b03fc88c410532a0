-- What was seen of the files makes the store that an opening answers.
use Rattle.std.proofs.Common.{◌≡◌, ◌⊎◌, inl, inr, ℕ, zero, suc, ◌+◌, ◌*◌, ◌≤◌, ◌<◌, ◌==◌, Bool, true, false, ◌&&◌, ◌||◌, not, if◌then◌else◌, List, [], ◌∷◌, length, Option, Some, None, refl, sym, ◌∙◌, ap, subst, arith}
use Rattle.std.specs.Prelude.{All, IfSome, slice_set, replicate}
use Rattle.std.proofs.lemmas.Bool.{eqb-true}
use Rattle.std.proofs.lemmas.List.{length-set, length-replicate}
use Rattle.std.proofs.lemmas.List.Elements.{All-nil, All-cons, All-head, All-tail}
use Rattle.disk_face.specs.declared.disk.File.{File}
use Rattle.disk_face.specs.declared.disk.File.TheVariants.{Main, Log1, Log2}
use Rattle.disk_face.specs.Files.{Files}
use Rattle.disk_face.specs.Steps.{History, reads}
use Rattle.disk_face.specs.Image.{IsOutside}
use Rattle.page_spec.specs.Header.{database_limit}
use Rattle.page_spec.specs.PageMap.{PageMap, page_at}
use Rattle.log_spec.specs.LogHeader.{log_fields, is_signed, foreign_at, IsOurs}
use Rattle.crash_spec.specs.Logs.{NoneForeign}
use Rattle.crash_spec.specs.Opening.{Since, opening_at, rebased, tail_of}
use Rattle.crash_spec.specs.Passes.{Passes}
use Rattle.crash_spec.specs.Recovered.{recovered, pages_from}
use Rattle.crash_spec.proofs.Passing.{passes_weaker}
use Rattle.engine_spec.specs.Good.{HasSizes}
use Rattle.wal_frames.specs.Front.{front_of, signed_front}
use Rattle.wal_frames.specs.declared.header.Front.TheVariants.{Nothing}
use Rattle.opening_spec.specs.Found.{OpeningView, FoundLog, IsEmpty, size_named}
use Rattle.opening_spec.specs.States.{IsSyncing}
use Rattle.opening_spec.specs.Begins.{MayOpen, view_at}
use Rattle.opening_spec.proofs.Beginning.{begins, since_begins, map_is_recovered}
use Rattle.recover.specs.NewPages.{new_count, new_pages, new_first_page, first_then_zeros, migrated}
use Rattle.recover.specs.Ready.{IsReady, IsViewOf, LeavesSettling, first_map}
use Rattle.recover.specs.Seeing.{SeenView, IsSeen, IsWholeSeen, one_in, two_in, founds, header_fault, wal_fault, foreign_fault, size_fault, room_fault, missing_fault, first_fault, fault_of, is_new_in, is_ours_in, size_in, map_found}
use Rattle.recover.specs.declared.seen.LookFault.{LookFault}
use Rattle.recover.specs.declared.setup.StoreKind.{StoreKind}
use Rattle.recover.specs.declared.setup.StoreKind.TheVariants.{Pages}
use Rattle.recover.proofs.NewPages.{first_long, new_length}
use Rattle.recover.proofs.Readying.{nothing_done}
use Rattle.recover.proofs.SeenFiles.{legal_size, new_is}
use Rattle.recover.proofs.SeenPages.{seen_pages}
use Rattle.store_spec.specs.Store.{StoreData, newest_told}
use Rattle.store_spec.specs.Standing.{IsWholeStore, IsLiveStore, StandsOn, StandsFrom}
use Rattle.store_spec.specs.Steady.{IsSteady}
use Rattle.store.specs.declared.open_fault.OpenFault.TheVariants.{NotPages}
use Rattle.store.specs.Opening.{BeginsWith, MaySettle, are_pages, wrong_count, fault_by, fault_seen, count_begun, map_begun, size_opened, no_readers}
use Rattle.store.proofs.Beginning.{MayBegin, first_kept, kept_is, first_whole, first_stands, first_newest, first_live, first_steady, first_from}

pub whole_of : (count bytes used most : ℕ) (kept : StoreData) → BeginsWith count bytes used most kept → MayBegin count bytes used most → IsWholeStore kept
whole_of count bytes used most kept b may = subst IsWholeStore (sym (kept_is count bytes used most kept b)) (first_whole count bytes used most may kept.pair b.pair)

pub may_begin : (count : ℕ) (seen : SeenView) (most : ℕ) → IsWholeSeen seen → 1 ≤ count → count * seen.page_size ≤ database_limit → 1 ≤ most → MayBegin count seen.page_size seen.usable most
may_begin count seen most whole some fits limit = record { some = some; fits = fits; legal = whole.page_size; usable = whole.usable; limit = limit }

-- files without a fault have no header that isn't ours
none_more : (fault : Option LookFault) (rest : List (Option LookFault)) → first_fault (fault ∷ rest) ≡ None → (fault ≡ None) × (first_fault rest ≡ None)
none_more None rest is = (refl, is)
none_more (Some fault) rest is = cc

own_front : (log : ℕ) (file : File) (bytes : List ℕ) → foreign_fault (front_of log bytes) file ≡ None → is_signed bytes ≡ true → IsOurs log bytes
unfolding front_of
own_front log file bytes none signed = by (is_signed bytes) (foreign_at log (log_fields bytes)) refl refl none signed
  where
    by : (s : Bool) (at : Option ℕ) → is_signed bytes ≡ s → foreign_at log (log_fields bytes) ≡ at → foreign_fault (if s then signed_front bytes at else Nothing) file ≡ None → is_signed bytes ≡ true → IsOurs log bytes
    by true None is own none signed = record { signed = signed; own = own }
    by true (Some at) is own none signed = cc
    by false at is own none signed = cc

four_five : (a b c d e : Option LookFault) (rest : List (Option LookFault)) → first_fault (a ∷ b ∷ c ∷ d ∷ e ∷ rest) ≡ None → (d ≡ None) × (e ≡ None)
four_five a b c d e rest is =
    let one = none_more a (b ∷ c ∷ d ∷ e ∷ rest) is in
    let two = none_more b (c ∷ d ∷ e ∷ rest) one.1 in
    let three = none_more c (d ∷ e ∷ rest) two.1 in
    let four = none_more d (e ∷ rest) three.1 in
    (four.0, (none_more e rest four.1).0)

own_fronts : (files : Files) → fault_of files false ≡ None → NoneForeign files
unfolding fault_of
own_fronts files fine =
    by (four_five (header_fault files) (wal_fault files) None (foreign_fault (front_of 1 files.log1) Log1) (foreign_fault (front_of 2 files.log2) Log2)
    (size_fault (front_of 1 files.log1) (one_in files).frames (size_in files) Log1
    ∷ size_fault (front_of 2 files.log2) (two_in files).frames (size_in files) Log2
    ∷ room_fault files
    ∷ missing_fault files
    ∷ []) fine)
  where
    by : (foreign_fault (front_of 1 files.log1) Log1 ≡ None) × (foreign_fault (front_of 2 files.log2) Log2 ≡ None) → NoneForeign files
    by none Main is signed = absurd is
    by none Log1 is signed = own_front 1 Log1 files.log1 none.0 signed
    by none Log2 is signed = own_front 2 Log2 files.log2 none.1 signed

-- a page store has 16 pages
pub counts_are : (pages named byte : ℕ) → fault_by false pages named byte ≡ None → (pages ≡ 16) × (named ≡ 16)
counts_are pages named byte none = by (are_pages pages named byte) refl none
  where
    parts : (a b c : Bool) → (a && b && c) ≡ true → (a ≡ true) × (b ≡ true)
    parts true true true is = (refl, refl)
    parts true true false is = cc
    parts true false c is = cc
    parts false b c is = cc

    by : (are : Bool) → are_pages pages named byte ≡ are → (if are then None else Some (NotPages (wrong_count pages named) byte)) ≡ None → (pages ≡ 16) × (named ≡ 16)
    by true is none = let both = parts (pages == 16) (named == 16) (byte == 0) is in (eqb-true pages 16 both.0, eqb-true named 16 both.1)
    by false is none = cc

-- pages of one size
all_from : (size : ℕ) (page : ℕ → List ℕ) → ((n : ℕ) → length (page n) ≡ size) → (first count : ℕ) → All (λ page. length page ≡ size) (pages_from page first count)
all_from size page each first zero = All-nil (λ (page : List ℕ). length page ≡ size)
all_from size page each first (suc count) = All-cons (λ (page : List ℕ). length page ≡ size) (page first) (pages_from page (first + 1) count) (each first) (all_from size page each (first + 1) count)

new_each : (kind : StoreKind) (size : ℕ) → 512 ≤ size → All (λ page. length page ≡ size) (new_pages kind size)
unfolding new_pages
new_each kind size big = all_from size (first_then_zeros (new_first_page kind size)) each 1 (new_count kind)
  where
    long : length (new_first_page kind size) ≡ size
    long = first_long kind size (omega arith)

    each : (n : ℕ) → length (first_then_zeros (new_first_page kind size) n) ≡ size
    each n = by (n == 1)
      where
        by : (first : Bool) → length (if first then new_first_page kind size else replicate (length (new_first_page kind size)) 0) ≡ size
        by true = long
        by false = length-replicate (length (new_first_page kind size)) 0 ∙ long

each_of : (size : ℕ) (pages : PageMap) → ((k : ℕ) → k < length pages → length (page_at pages (suc k)) ≡ size) → All (λ page. length page ≡ size) pages
each_of size [] each = All-nil (λ (page : List ℕ). length page ≡ size)
each_of size (page ∷ pages) each = All-cons (λ (page : List ℕ). length page ≡ size) page pages (each 0 (omega arith)) (each_of size pages (λ k less. each (suc k) (omega arith)))

migrated_sizes : (size count : ℕ) (pages : PageMap) → HasSizes pages count size → HasSizes (migrated pages) count size
migrated_sizes size count [] sizes = sizes
migrated_sizes size count (page ∷ rest) sizes = record {
  count = sizes.count;
  each = All-cons (λ (page : List ℕ). length page ≡ size) _ rest
      (length-set (slice_set page 18 3) 19 3 ∙ length-set page 18 3 ∙ All-head (λ (page : List ℕ). length page ≡ size) page rest sizes.each)
      (All-tail (λ (page : List ℕ). length page ≡ size) page rest sizes.each);
}

log1_apart : Log1 ≡ Main → ⊥
log1_apart is = cc

log2_apart : Log2 ≡ Main → ⊥
log2_apart is = cc

-- what is said of the writes of an opening
abbrev pub Says : StoreKind → (OpeningView → PageMap → History → Type 0) → SeenView → (old new : Option History) → Type 0
Says kind P seen old new =
    (view : OpeningView) (one two : FoundLog) → Since view.opening.start (IsSyncing view one two []) old → IfSome old (λ told. IsViewOf seen (reads told) view one two)
    → Passes view.opening (LeavesSettling view (first_map kind seen view.size view.map)) (P view (first_map kind seen view.size view.map)) old new

module _ (kind : StoreKind) (count new_size : ℕ) (seen : SeenView) (whole : IsWholeSeen seen) (new_sized : seen.is_new ≡ true → seen.page_size ≡ new_size) (counts : count_begun kind seen ≡ count) where
  -- how many pages there are
  begun_new : seen.is_new ≡ true → new_count kind ≡ count
  begun_new new = sym (ap (λ (new : Bool). if new then new_count kind else length seen.places) new) ∙ counts

  begun_old : seen.is_new ≡ false → length seen.places ≡ count
  begun_old old = sym (ap (λ (new : Bool). if new then new_count kind else length seen.places) old) ∙ counts

  module _ (told : History) (s : IsSeen new_size (reads told) seen) where
    abbrev files : Files
    files = reads told

    abbrev later : PageMap
    later = first_map kind seen seen.page_size (map_found files)

    size_is : size_opened new_size files ≡ seen.page_size
    size_is = sym (s.page_size ∙ ap (λ (new : Bool). if new then new_size else size_in files) s.new)

    pub map_is : map_begun kind new_size files ≡ later
    map_is = by seen.is_new (is_new_in files) s.new refl
      where
        map_same : recovered files ≡ map_found files
        map_same = map_is_recovered seen.page_size told

        by : (new is_new : Bool) → new ≡ is_new → seen.is_new ≡ new
            → (if is_new then new_pages kind new_size else (if is_ours_in files then recovered files else migrated (recovered files)))
            ≡ (if new then new_pages kind seen.page_size else (if seen.is_ours then map_found files else migrated (map_found files)))
        by true true same is = ap (λ (n : ℕ). new_pages kind n) (sym (new_sized is))
        by true false same is = cc
        by false true same is = cc
        by false false same is = λ i. if (sym (s.ours is) i) then map_same i else migrated (map_same i)

    pub sizes_of : HasSizes later count seen.page_size
    sizes_of = by seen.is_new seen.is_ours refl
      where
        wide : 512 ≤ seen.page_size
        wide = (legal_size seen.page_size whole.page_size).0

        found : seen.is_new ≡ false → HasSizes (map_found files) count seen.page_size
        found old = record {
          count = sym (s.count ∙ ap (λ (new : Bool). if new then 0 else length (map_found files)) old) ∙ begun_old old;
          each = each_of seen.page_size (map_found files) (seen_pages new_size files seen s old);
        }

        by : (new ours : Bool) → seen.is_new ≡ new → HasSizes (if new then new_pages kind seen.page_size else (if ours then map_found files else migrated (map_found files))) count seen.page_size
        by true ours is = record { count = new_length kind seen.page_size ∙ begun_new is; each = new_each kind seen.page_size wide }
        by false true is = found is
        by false false is = migrated_sizes seen.page_size count (map_found files) (found is)

    -- an opening at which nothing is unsure but the tails of the logs
    abbrev sure_view : OpeningView
    sure_view = record {
      opening = record (opening_at (rebased told [])) { start = told };
      size = seen.page_size;
      long = length files.main;
      map = map_found files;
      own = is_ours_in files;
    }

    fits : IsEmpty (one_in files) (two_in files) files ⊎ ((100 ≤ seen.page_size) × (size_named files (one_in files) (two_in files) ≡ seen.page_size))
    fits = by seen.is_new refl
      where
        by : (new : Bool) → seen.is_new ≡ new → IsEmpty (one_in files) (two_in files) files ⊎ ((100 ≤ seen.page_size) × (size_named files (one_in files) (two_in files) ≡ seen.page_size))
        by true is = let empty = new_is new_size files seen s is in inl (empty.1, empty.2, empty.0)
        by false is = inr (omega (arith, (legal_size seen.page_size whole.page_size).0), sym (s.page_size ∙ ap (λ (new : Bool). if new then new_size else size_in files) is))

    sure_may : fault_of files false ≡ None → MayOpen seen.page_size (rebased told [])
    sure_may fine = record {
      main = λ place inside free.
          All-cons (IsOutside Main place) (tail_of Log1 files) (tail_of Log2 files ∷ []) (λ is from less. log1_apart is)
          (All-cons (IsOutside Main place) (tail_of Log2 files) [] (λ is from less. log2_apart is) (All-nil (IsOutside Main place)));
      fits = fits;
      fronts = own_fronts files fine;
    }

    sure_syncing : fault_of files false ≡ None → IsSyncing sure_view (one_in files) (two_in files) [] (rebased told [])
    sure_syncing fine =
        let b = begins seen.page_size (rebased told []) (sure_may fine) in
        record {
          opened = record {
            log1 = record { is_log = tt; accepted = inl refl; only = b.opened.log1.only; behind = b.opened.log1.behind; ours = b.opened.log1.ours };
            log2 = record { is_log = tt; accepted = inl refl; only = b.opened.log2.only; behind = b.opened.log2.behind; ours = b.opened.log2.ours };
            main = b.opened.main;
            fits = b.opened.fits;
            is = refl;
            sizes = b.opened.sizes;
            keeps = (omega arith, λ is. inr is);
          };
          fewer = λ image left chance. (left, chance);
          whole = λ log there. b.whole log there;
          each = λ log on. b.each log on;
        }

    bare_two : MaySettle files → founds seen ≡ true → (two_in files).frames ≡ []
    bare_two (inr none) makes = none
    bare_two (inl ours) makes = by seen.is_new refl
      where
        by : (new : Bool) → seen.is_new ≡ new → (two_in files).frames ≡ []
        by true is = (new_is new_size files seen s is).2
        by false is = absurd (no seen.is_ours (s.ours is ∙ ours) (ap (λ (new : Bool). new || not seen.is_ours) (sym is) ∙ makes))
          where
            no : (own : Bool) → own ≡ true → (false || not own) ≡ true → ⊥
            no true is makes = cc
            no false is makes = cc

    pub sure_says : (P : OpeningView → PageMap → History → Type 0) (new : Option History) → fault_of files false ≡ None → MaySettle files → Says kind P seen (Some told) new
        → Passes sure_view.opening (LeavesSettling sure_view later) (P sure_view later) (Some told) new
    sure_says P new fine may says =
        says sure_view (one_in files) (two_in files) ([], refl, sure_syncing fine)
        (record { has_one = refl; has_two = refl; size = refl; long = refl; bare = bare_two may; own = λ there ours. sym (s.ours there) ∙ ours })

    pub told_says : (P : OpeningView → PageMap → History → Type 0) (new : Option History) → MayOpen (size_opened new_size files) told → MaySettle files → Says kind P seen (Some told) new
        → Passes (opening_at told) (LeavesSettling (view_at seen.page_size told) later) (P (view_at seen.page_size told) later) (Some told) new
    told_says P new may settle says =
        says (view_at seen.page_size told) (one_in files) (two_in files)
        (since_begins seen.page_size told (subst (λ (n : ℕ). MayOpen n told) size_is may))
        (record { has_one = refl; has_two = refl; size = refl; long = refl; bare = bare_two settle; own = λ there ours. sym (s.ours there) ∙ ours })

    -- said of what the disk told at the call
    pub as_opened : (Q : OpeningView → PageMap → History → Type 0) (new : Option History)
        → Passes (opening_at told) (LeavesSettling (view_at seen.page_size told) later) (Q (view_at seen.page_size told) later) (Some told) new
        → Passes (opening_at told) (LeavesSettling (view_at (size_opened new_size files) told) (map_begun kind new_size files)) (Q (view_at (size_opened new_size files) told) (map_begun kind new_size files)) (Some told) new
    as_opened Q new passes =
        subst (λ (n : ℕ). Passes (opening_at told) (LeavesSettling (view_at n told) (map_begun kind new_size files)) (Q (view_at n told) (map_begun kind new_size files)) (Some told) new) (sym size_is)
        (subst (λ (m : PageMap). Passes (opening_at told) (LeavesSettling (view_at seen.page_size told) m) (Q (view_at seen.page_size told) m) (Some told) new) (sym map_is) passes)

-- Nothing was written.
pub quiet : (size : ℕ) (later : PageMap) (told : History) (old new : Option History) → old ≡ Some told → new ≡ old → MayOpen size told
    → Passes (opening_at told) (LeavesSettling (view_at size told) later) (λ told. Unit {0}) old new
quiet size later told old new is same may =
    subst (λ (o : Option History). Passes (opening_at told) (LeavesSettling (view_at size told) later) (λ told. Unit {0}) o new) (sym is)
    (subst (λ (n : Option History). Passes (opening_at told) (LeavesSettling (view_at size told) later) (λ told. Unit {0}) (Some told) n) (sym (same ∙ is))
    (nothing_done (view_at size told) later (λ told. Unit {0}) (one_in (reads told)) (two_in (reads told)) (λ told. tt) (Some told) (since_begins size told may)))

-- The store that was answered.
module _ (kind : StoreKind) (count new_size most : ℕ) (seen : SeenView) (whole : IsWholeSeen seen) (new_sized : seen.is_new ≡ true → seen.page_size ≡ new_size) (counts : count_begun kind seen ≡ count)
    (may : MayBegin count seen.page_size seen.usable most) (kept : StoreData) (b : BeginsWith count seen.page_size seen.usable most kept) where
  abbrev Ready : OpeningView → PageMap → History → Type 0
  Ready view later told = IsReady view later kept.pair told

  abbrev first : StoreData
  first = first_kept count seen.page_size seen.usable most b.pair.one b.pair.two

  is_first : kept ≡ first
  is_first = kept_is count seen.page_size seen.usable most kept b

  ready_first : (view : OpeningView) (later : PageMap) (told : Option History) → Since view.opening.start (Ready view later) told → Since view.opening.start (IsReady view later first.pair) told
  ready_first view later told h = subst (λ p. Since view.opening.start (IsReady view later p) told) b.pair.is h

  -- it is live
  abbrev IsLiveAs : Option History → StoreData → Type 0
  IsLiveAs told kept = IsLiveStore told kept no_readers [] × IsSteady told kept no_readers []

  live_with : (view : OpeningView) (later : PageMap) (told : Option History) → view.size ≡ seen.page_size → IfSome told (λ told. HasSizes later count seen.page_size)
      → Since view.opening.start (Ready view later) told → IsLiveAs told kept
  live_with view later told sized sizes h =
      let ready = ready_first view later told h in
      subst (IsLiveAs told) (sym is_first)
      (first_live count seen.page_size seen.usable most may kept.pair b.pair view later told sized sizes ready, first_steady count seen.page_size seen.usable most may kept.pair b.pair view later told sized ready)

  some_sizes : (after : PageMap) (told : Option History) → HasSizes after count seen.page_size → IfSome told (λ told. HasSizes after count seen.page_size)
  some_sizes after None sizes = tt
  some_sizes after (Some told) sizes = sizes

  pub live_of : (old new : Option History) → IfSome old (λ told. IsSeen new_size (reads told) seen) → IfSome old (λ told. fault_of (reads told) false ≡ None) → IfSome old (λ told. MaySettle (reads told))
      → Says kind Ready seen old new → IsLiveAs new kept
  live_of None None s fine settle says =
      let view : OpeningView = record { opening = record { start = nowhere; before = []; pieces = [] }; size = seen.page_size; long = 0; map = []; own = true } in
      live_with view [] None refl tt tt
    where
      nowhere : History
      nowhere = record { first = record { main = []; log1 = []; log2 = [] }; steps = [] }
  live_of None (Some new) s fine settle says =
      absurd (says (record { opening = record { start = new; before = []; pieces = [] }; size = seen.page_size; long = 0; map = []; own = true }) (record { frames = []; salt = 0; most = 0 }) (record { frames = []; salt = 0; most = 0 }) tt tt).each_moment
  live_of (Some told) new s fine settle says =
      let passes = sure_says kind count new_size seen whole new_sized counts told s Ready new fine settle says in
      live_with (sure_view kind count new_size seen whole new_sized counts told s) (later kind count new_size seen whole new_sized counts told s) new refl
      (some_sizes (later kind count new_size seen whole new_sized counts told s) new (sizes_of kind count new_size seen whole new_sized counts told s)) passes.holds

  -- its newest map
  pub newest_of : (old new : Option History) → IfSome old (λ told. IsSeen new_size (reads told) seen) → IfSome old (λ told. fault_of (reads told) false ≡ None)
      → Says kind Ready seen old new → IfSome old (λ told. MaySettle (reads told) → newest_told kept new ≡ Some (map_begun kind new_size (reads told)))
  newest_of None new s fine says = tt
  newest_of (Some told) None s fine says = λ settle. absurd (sure_says kind count new_size seen whole new_sized counts told s Ready None fine settle says).each_moment
  newest_of (Some told) (Some new) s fine says = λ settle.
      let passes = sure_says kind count new_size seen whole new_sized counts told s Ready (Some new) fine settle says in
      let view = sure_view kind count new_size seen whole new_sized counts told s in
      let after = later kind count new_size seen whole new_sized counts told s in
      ap (λ (kept : StoreData). newest_told kept (Some new)) is_first
      ∙ ap (λ (map : PageMap). Some map) (first_newest count seen.page_size seen.usable most may kept.pair b.pair view after (Some new) (ready_first view after (Some new) passes.holds) ∙ sym (map_is kind count new_size seen whole new_sized counts told s))

  -- and the run that it stands for
  pub from_of : (sound : PageMap → Type 0) (leads : PageMap → List (List ℕ) → PageMap → Type 0) (origin : PageMap) (old new : Option History)
      → IfSome old (λ told. IsSeen new_size (reads told) seen) → IfSome old (λ told. fault_of (reads told) false ≡ None) → Says kind Ready seen old new
      → (sound origin → leads origin [] origin) → IfSome old (λ told. MaySettle (reads told) × (origin ≡ map_begun kind new_size (reads told)) × sound origin)
      → StandsFrom sound leads origin new kept no_readers
  from_of sound leads origin None None s fine says rests is =
      subst (λ (k : StoreData). StandsFrom sound leads origin None k no_readers) (sym is_first)
      (first_from count seen.page_size seen.usable most may kept.pair b.pair sound leads origin nowhere [] None tt tt)
    where
      nowhere : OpeningView
      nowhere = record {
        opening = record { start = record { first = record { main = []; log1 = []; log2 = [] }; steps = [] }; before = []; pieces = [] };
        size = seen.page_size;
        long = 0;
        map = [];
        own = true;
      }
  from_of sound leads origin None (Some new) s fine says rests is =
      absurd (says (record { opening = record { start = new; before = []; pieces = [] }; size = seen.page_size; long = 0; map = []; own = true }) (record { frames = []; salt = 0; most = 0 }) (record { frames = []; salt = 0; most = 0 }) tt tt).each_moment
  from_of sound leads origin (Some told) new s fine says rests (settle, same, good) =
      let passes = sure_says kind count new_size seen whole new_sized counts told s Ready new fine settle says in
      let view = sure_view kind count new_size seen whole new_sized counts told s in
      let after = later kind count new_size seen whole new_sized counts told s in
      subst (λ (k : StoreData). StandsFrom sound leads origin new k no_readers) (sym is_first)
      (first_from count seen.page_size seen.usable most may kept.pair b.pair sound leads origin view after new (ready_first view after new passes.holds)
      (said new (same ∙ map_is kind count new_size seen whole new_sized counts told s, good, rests good)))
    where
      said : {X : Type 0} (told : Option History) → X → IfSome told (λ told. X)
      said None x = tt
      said (Some told) x = x

  -- and since the opening
  pub stands_of : (told : History) (old new : Option History) → old ≡ Some told → IfSome old (λ told. IsSeen new_size (reads told) seen) → MayOpen (size_opened new_size (reads told)) told → MaySettle (reads told)
      → Says kind Ready seen old new
      → Passes (opening_at told) (LeavesSettling (view_at (size_opened new_size (reads told)) told) (map_begun kind new_size (reads told))) (StandsOn (opening_at told) kept) old new
  stands_of told old new is s open_may settle says =
      subst (λ (o : Option History). Passes (opening_at told) (LeavesSettling (view_at (size_opened new_size (reads told)) told) (map_begun kind new_size (reads told))) (StandsOn (opening_at told) kept) o new) (sym is)
      (by (subst (λ (o : Option History). IfSome o (λ told. IsSeen new_size (reads told) seen)) is s) (subst (λ (o : Option History). Says kind Ready seen o new) is says))
    where
      by : IsSeen new_size (reads told) seen → Says kind Ready seen (Some told) new
          → Passes (opening_at told) (LeavesSettling (view_at (size_opened new_size (reads told)) told) (map_begun kind new_size (reads told))) (StandsOn (opening_at told) kept) (Some told) new
      by s says =
          let view = view_at seen.page_size told in
          let after = later kind count new_size seen whole new_sized counts told s in
          as_opened kind count new_size seen whole new_sized counts told s (λ view later. StandsOn (opening_at told) kept) new
          (passes_weaker (opening_at told) (LeavesSettling view after) (LeavesSettling view after) (Ready view after) (StandsOn (opening_at told) kept) (λ told image leaves. leaves)
          (λ now ready. subst (λ (k : StoreData). StandsOn (opening_at told) k now) (sym is_first)
          (first_stands count seen.page_size seen.usable most may kept.pair b.pair view after now refl (subst (λ p. IsReady view after p now) b.pair.is ready)))
          (Some told) new
          (told_says kind count new_size seen whole new_sized counts told s Ready new open_may settle says))

-- Where it failed, what a crash leaves is said too.
pub failed_of : (kind : StoreKind) (count new_size : ℕ) (seen : SeenView) (whole : IsWholeSeen seen) (new_sized : seen.is_new ≡ true → seen.page_size ≡ new_size) (counts : count_begun kind seen ≡ count)
    (told : History) (old new : Option History) → old ≡ Some told → IfSome old (λ told. IsSeen new_size (reads told) seen) → MayOpen (size_opened new_size (reads told)) told → MaySettle (reads told)
    → Says kind (λ view later told. Unit {0}) seen old new
    → Passes (opening_at told) (LeavesSettling (view_at (size_opened new_size (reads told)) told) (map_begun kind new_size (reads told))) (λ told. Unit {0}) old new
failed_of kind count new_size seen whole new_sized counts told old new is s may settle says =
    subst (λ (o : Option History). Passes (opening_at told) (LeavesSettling (view_at (size_opened new_size (reads told)) told) (map_begun kind new_size (reads told))) (λ told. Unit {0}) o new) (sym is)
    (by (subst (λ (o : Option History). IfSome o (λ told. IsSeen new_size (reads told) seen)) is s) (subst (λ (o : Option History). Says kind (λ view later told. Unit {0}) seen o new) is says))
  where
    by : IsSeen new_size (reads told) seen → Says kind (λ view later told. Unit {0}) seen (Some told) new
        → Passes (opening_at told) (LeavesSettling (view_at (size_opened new_size (reads told)) told) (map_begun kind new_size (reads told))) (λ told. Unit {0}) (Some told) new
    by s says =
        as_opened kind count new_size seen whole new_sized counts told s (λ view later told. Unit {0}) new
        (told_says kind count new_size seen whole new_sized counts told s (λ view later told. Unit {0}) new may settle says)

-- a page store has 16 pages, whatever was seen
pub pages_begun : (seen : SeenView) → fault_seen seen ≡ None → count_begun Pages seen ≡ 16
pages_begun seen none = by seen.is_new none
  where
    by : (new : Bool) → fault_by new (length seen.places) seen.named seen.byte ≡ None → (if new then 16 else length seen.places) ≡ 16
    by true none = refl
    by false none = (counts_are (length seen.places) seen.named seen.byte none).0

-- and they are no more than a database has
pub pages_may : (seen : SeenView) (most : ℕ) → IsWholeSeen seen → 1 ≤ most → MayBegin 16 seen.page_size seen.usable most
pages_may seen most whole limit = may_begin 16 seen most whole (omega arith) (let fits = legal_size seen.page_size whole.page_size in omega (arith, fits.1)) limit

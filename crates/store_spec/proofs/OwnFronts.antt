-- Each signed header that is known at the front of a store's logs is ours and has the store's page size, and each map that a crash may leave
-- names that size: so no log of an image bars the next opening. And each such map's page 1 names its pages, or Main's length does.
use Rattle.std.proofs.Common.{◌≡◌, ◌≢◌, ◌∙◌, ◌⊎◌, inl, inr, ℕ, zero, suc, ◌+◌, ◌*◌, ◌≤◌, ◌==◌, max, if◌then◌else◌, Bool, true, false, List, [], ◌∷◌, ◌++◌, length, take, refl, sym, ap, subst, arith, length-append, Option, Some, None, All, Contains}
use Rattle.std.proofs.lemmas.List.{append_assoc, append_cancel_right}
use Rattle.std.proofs.lemmas.List.Elements.{All-weaker}
use Rattle.disk_face.specs.declared.disk.File.{File}
use Rattle.disk_face.specs.declared.disk.File.TheVariants.{Main, Log1, Log2}
use Rattle.disk_face.specs.declared.step.Piece.{Piece}
use Rattle.disk_face.specs.declared.step.Step.{Step}
use Rattle.disk_face.specs.declared.step.Step.TheVariants.{Wrote, Refused, Synced}
use Rattle.disk_face.specs.Files.{Files, content}
use Rattle.disk_face.specs.Image.{MayLeave, back}
use Rattle.disk_face.specs.Steps.{History, reads, after}
use Rattle.page_spec.specs.Header.{fields_of, page_size_in, pages_in, HeaderFields}
use Rattle.page_spec.specs.PageMap.{PageMap, page_at}
use Rattle.log_spec.specs.Checksum.{Sum}
use Rattle.log_spec.specs.LogHeader.{LogFields, log_fields, header_size, is_signed, IsOurs}
use Rattle.log_spec.specs.Accept.{Frame, last_size}
use Rattle.log_spec.specs.Written.{IsHeaderOf}
use Rattle.crash_spec.specs.Known.{known_pieces, IsWithoutChance}
use Rattle.crash_spec.specs.Logs.{IsOursAt, IsSizedAt, IsOwnAt, HaveOwnLogs, Hands}
use Rattle.crash_spec.specs.Marks.{IsLog, number_of}
use Rattle.crash_spec.specs.Moments.{AtEachMoment}
use Rattle.crash_spec.specs.Opening.{Opening, Since, grown, rebased}
use Rattle.crash_spec.specs.Recovered.{overlaid, recovered, size_of_first, page_after_frames, main_page, size_after, NamesPages}
use Rattle.crash_spec.specs.Store.{AreOnDisk, named_size}
use Rattle.crash_spec.proofs.FirstPage.{first_fields}
use Rattle.crash_spec.proofs.KnownFronts.{known_at, only_sized, own_known, own_logs}
use Rattle.crash_spec.proofs.NamedPages.{EndsBy, main_at, names_all, names_own, names_shorter, pages_alike}
use Rattle.crash_spec.proofs.Since.{since_is_one}
use Rattle.engine_spec.specs.declared.commits.PageImage.{PageImage}
use Rattle.engine_spec.specs.Leaves.{RecoversOneOf}
use Rattle.wal_frames.specs.Found.{log_file}
use Rattle.log_pair.specs.Pair.{PairView, log_of, other_number, current_header}
use Rattle.log_pair.specs.Switch.{WritesAndSyncs, front_piece, next_header, other_file}
use Rattle.log_commit.specs.Commit.{IsCommitStep, map_under, page_under}
use Rattle.log_commit.specs.GoesBy.{GoesBy}
use Rattle.log_commit.proofs.SinceSteps.{since_goes}
use Rattle.log_commit.proofs.Lying.{length-pages}
use Rattle.log_commit.proofs.Steps.{goes_one, goes_still, goes_both}
use Rattle.store_spec.specs.Store.{StoreData, current_read, other_read, newest_in}
use Rattle.store_spec.specs.Standing.{IsStoreOn, IsTornOn, StandsOn, AreFronts}
use Rattle.store_spec.proofs.Reading.{page_of_overlaid}

-- a map that has a page 1 names this page size there
abbrev pub NamesOwn : ℕ → PageMap → Type 0
NamesOwn size pages = 1 ≤ length pages → size_of_first pages ≡ size

-- so do frames over Main, by the first 100 bytes
pub named_overlaid : (size : ℕ) (main : List ℕ) (older newer : List Frame) → 100 ≤ size → named_size main older newer ≡ size → NamesOwn size (overlaid main older newer)
named_overlaid size main older newer big sized some =
    ap (λ (bytes : List ℕ). page_size_in (fields_of bytes)) (page_of_overlaid size main older newer 1 sized (omega arith) some)
    ∙ ap (λ (fields : HeaderFields). page_size_in fields) (first_fields size main older newer big)
    ∙ sized

-- Main alone names as many pages as the map over it without a frame has
pub names_bare : (size : ℕ) (main : List ℕ) → 100 ≤ size → named_size main [] [] ≡ size → NamesPages (length main) size (overlaid main [] [])
names_bare size main big sized some =
    let same : fields_of (page_at (overlaid main [] []) 1) ≡ fields_of (take 100 main) =
    ap (λ (bytes : List ℕ). fields_of bytes) (page_of_overlaid size main [] [] 1 sized (omega arith) some) ∙ first_fields size main [] [] big in
    pages_alike (page_at (overlaid main [] []) 1) (take 100 main) (max (length main) (length (overlaid main [] []) * size)) same
    ∙ (λ i. pages_in (take 100 main) (max (length main) (count i * sym sized i)))
    ∙ names_all (take 100 main) (length main) ∙ sym count
  where
    count : length (overlaid main [] []) ≡ pages_in (take 100 main) (length main)
    count = length-pages (λ (number : ℕ). main_page (page_size_in (fields_of (take 100 main))) main number) 1 (pages_in (take 100 main) (length main))

-- and the pages of a commit over a map, where page 1 is among them and names it
pub named_under : (size : ℕ) (map : PageMap) (images : List PageImage) (count : ℕ) → ((below : List ℕ) → page_size_in (fields_of (page_under images 1 below)) ≡ size)
    → NamesOwn size (map_under map images count)
named_under size map images zero named some = absurd (omega arith)
named_under size map images (suc count) named some = named (page_at map 1)

-- the headers on the medium
header_sizes : (opening : Opening) (told : History) (header older : LogFields) (frames pending other : List Frame) (size page : ℕ) (current : File)
    → AreOnDisk opening told current header older frames pending other size → header.page_size ≡ page → older.page_size ≡ page → (log : File) → IsLog log
    → (log_fields (content (reads told) log)).page_size ≡ page
header_sizes opening told header older frames pending other size page Main on new old log is = absurd on.newest.is_log
header_sizes opening told header older frames pending other size page Log1 on new old Main is = absurd is
header_sizes opening told header older frames pending other size page Log1 on new old Log1 is = ap (λ (f : LogFields). f.page_size) on.newest.same_header ∙ new
header_sizes opening told header older frames pending other size page Log1 on new old Log2 is = ap (λ (f : LogFields). f.page_size) on.oldest.same_header ∙ old
header_sizes opening told header older frames pending other size page Log2 on new old Main is = absurd is
header_sizes opening told header older frames pending other size page Log2 on new old Log1 is = ap (λ (f : LogFields). f.page_size) on.oldest.same_header ∙ old
header_sizes opening told header older frames pending other size page Log2 on new old Log2 is = ap (λ (f : LogFields). f.page_size) on.newest.same_header ∙ new

-- both logs are for pages of the store's size
pub size_of_either : (opening : Opening) (kept : StoreData) (told : History) → AreFronts opening kept told → (log : ℕ) → (log_of kept.pair log).header.page_size ≡ kept.page_size
size_of_either opening kept told fronts log = by (log == 1)
  where
    by : (first : Bool) → (if first then kept.pair.one else kept.pair.two).header.page_size ≡ kept.page_size
    by true = fronts.sizes.0
    by false = fronts.sizes.1

module _ (opening : Opening) (kept : StoreData) (told : History) where
  own_on : IsStoreOn opening kept told → All (IsOwnAt kept.page_size) (known_pieces opening told)
  own_on on = own_known (known_pieces opening told) kept.page_size ours sized
    where
      there : (log : File) → IsLog log → (log_fields (content (reads told) log)).page_size ≡ kept.page_size
      there log is =
          header_sizes opening told _ _ _ _ _ _ kept.page_size _ on.holds.on (size_of_either opening kept told on.fronts kept.pair.current)
          (size_of_either opening kept told on.fronts (other_number kept.pair.current)) log is

      ours : (log : File) → IsLog log → All (IsOursAt log) (known_pieces opening told)
      ours Main is = absurd is
      ours Log1 is = on.fronts.log1.ours
      ours Log2 is = on.fronts.log2.ours

      sized : (log : File) → IsLog log → All (IsSizedAt log kept.page_size) (known_pieces opening told)
      sized Main is = absurd is
      sized Log1 is = only_sized (known_pieces opening told) Log1 (content (reads told) Log1) kept.page_size on.fronts.log1.only (there Log1 is)
      sized Log2 is = only_sized (known_pieces opening told) Log2 (content (reads told) Log2) kept.page_size on.fronts.log2.only (there Log2 is)

  -- what is known at the fronts of a store's logs
  pub own_of : StandsOn opening kept told → All (IsOwnAt kept.page_size) (known_pieces opening told)
  own_of (inl on) = own_on on
  own_of (inr torn) = torn.own

  -- its newest map names its page size, and so does the one that may be on its way
  pub newest_named : StandsOn opening kept told → NamesOwn kept.page_size (newest_in kept.pair (reads told))
  newest_named (inl on) = named_overlaid kept.page_size (reads told).main (other_read kept.pair (reads told)) (current_read kept.pair (reads told)) on.holds.on.some_size on.holds.sized
  newest_named (inr torn) = named_overlaid kept.page_size (reads told).main (other_read kept.pair (reads told)) (current_read kept.pair (reads told)) torn.some_size torn.sized

  pub either_named : (on : IsStoreOn opening kept told) (got : PageMap) → (got ≡ newest_in kept.pair (reads told)) ⊎ ((last_size on.pending ≢ 0) × (got ≡ on.later))
      → NamesOwn kept.page_size got
  either_named on got (inl is) = subst (λ (pages : PageMap). NamesOwn kept.page_size pages) (sym is) (newest_named (inl on))
  either_named on got (inr (some, is)) =
      subst (λ (pages : PageMap). NamesOwn kept.page_size pages) (sym (is ∙ on.holds.is_later some))
      (named_overlaid kept.page_size (reads told).main (other_read kept.pair (reads told)) (current_read kept.pair (reads told) ++ on.pending) on.holds.on.some_size (on.holds.sized_later some))

  -- its newest map names its pages, and so does the one on its way, also for a file that is shorter than Main
  pub newest_names : StandsOn opening kept told → (long : ℕ) → long ≤ length (reads told).main → NamesPages long kept.page_size (newest_in kept.pair (reads told))
  newest_names (inl on) long le =
      names_shorter long (length (reads told).main) kept.page_size (newest_in kept.pair (reads told)) (let big = on.holds.on.some_size in omega (arith, big)) (newest_named (inl on)) le on.names
  newest_names (inr torn) long le =
      names_shorter long (length (reads told).main) kept.page_size (newest_in kept.pair (reads told)) (let big = torn.some_size in omega (arith, big)) (newest_named (inr torn)) le torn.names

  pub either_names : (on : IsStoreOn opening kept told) (got : PageMap) → (got ≡ newest_in kept.pair (reads told)) ⊎ ((last_size on.pending ≢ 0) × (got ≡ on.later))
      → (long : ℕ) → long ≤ length (reads told).main → NamesPages long kept.page_size got
  either_names on got (inl is) long le = subst (λ (pages : PageMap). NamesPages long kept.page_size pages) (sym is) (newest_names (inl on) long le)
  either_names on got (inr (some, is)) long le = subst (λ (pages : PageMap). NamesPages long kept.page_size pages) (sym is) (on.later_names some long)

-- an image recovers one of these maps, which names the page size and, for a file that ends by this place, its pages, where nothing in it is
-- as it is by chance
abbrev pub LeavesNamed : Opening → List PageMap → (size end : ℕ) → History → Files → Type 0
LeavesNamed opening maps size end told image =
    IsWithoutChance opening told image
    → Contains maps (recovered image) × NamesOwn size (recovered image) × ((long : ℕ) → long ≤ end → NamesPages long size (recovered image))

-- a step hands to a write nothing but own headers at the fronts of logs, and writes Main no further than to this place
abbrev pub HandsOwn : (size end : ℕ) → Step → Type 0
HandsOwn size end step = Hands (IsOwnAt size) step × EndsBy end step

-- such headers alone are known, and Main ends by this place
abbrev pub IsOwnTill : Opening → (size end : ℕ) → History → Type 0
IsOwnTill opening size end told = All (IsOwnAt size) (known_pieces opening told) × (length (reads told).main ≤ end)

only_own : (size end : ℕ) (more : List Step) → All (HandsOwn size end) more → All (Hands (IsOwnAt size)) more
only_own size end more all = All-weaker (HandsOwn size end) (Hands (IsOwnAt size)) (λ step hands. hands.0) more all

only_ends : (size end : ℕ) (more : List Step) → All (HandsOwn size end) more → All (EndsBy end) more
only_ends size end more all = All-weaker (HandsOwn size end) (EndsBy end) (λ step hands. hands.1) more all

-- At each moment of such steps no log of an image bars the next opening, and its map names its pages.
pub own_moments : (opening : Opening) (size end : ℕ) (maps : List PageMap) (old new : Option History) → GoesBy (HandsOwn size end) old new
    → Since opening.start (IsOwnTill opening size end) old → AtEachMoment opening (LeavesNamed opening maps size end) old new
    → AtEachMoment opening (RecoversOneOf opening maps) old new
own_moments opening size end maps None None goes own each = tt
own_moments opening size end maps None (Some new) goes own each = absurd each
own_moments opening size end maps (Some old) None goes own each = absurd each
own_moments opening size end maps (Some old) (Some new) (more, all, is) (since, grew, own) (since', more', grew', reached, each) = (
  since',
  more',
  grew',
  reached,
  λ ago most image left chance.
      let leaves = each ago most image left chance in (
        leaves.0,
        own_logs opening (back ago (rebased opening.start (more' ++ since'))) size image
            (known_at (IsOwnAt size) opening (rebased opening.start since') more' ago (omega (arith, most, length-append more' since')) own_then.0 (only_own size end more' all_then)) chance leaves.1,
        names_own (length image.main) size (recovered image) leaves.1 (leaves.2 (length image.main)
            (let shorter = (left Main).no_longer in
            let short = main_at end (rebased opening.start since') more' ago (omega (arith, most, length-append more' since')) (only_ends size end more' all_then) own_then.1 in
            omega (arith, shorter, short))),
      ),
)
  where
    some_is : {A : Type 0} {x y : A} → Some x ≡ Some y → x ≡ y
    some_is e = cc

    same_since : since ≡ since'
    same_since = since_is_one opening.start since since' (sym grew ∙ grew')

    own_then : IsOwnTill opening size end (rebased opening.start since')
    own_then = subst (λ (steps : List Step). IsOwnTill opening size end (rebased opening.start steps)) same_since own

    same_more : more ≡ more'
    same_more =
        append_cancel_right more more' old.steps
        (sym (ap (λ (told : History). told.steps) (some_is is)) ∙ ap (λ (told : History). told.steps) reached ∙ joined ∙ sym (ap (λ (told : History). more' ++ told.steps) grew'))
      where
        joined : (more' ++ since') ++ opening.start.steps ≡ more' ++ (since' ++ opening.start.steps)
        joined = append_assoc more' since' opening.start.steps

    all_then : All (HandsOwn size end) more'
    all_then = subst (λ (steps : List Step). All (HandsOwn size end) steps) same_more all

-- and afterwards such headers alone are known
pub own_since : (opening : Opening) (size end : ℕ) (old new : Option History) → GoesBy (HandsOwn size end) old new
    → Since opening.start (λ told. All (IsOwnAt size) (known_pieces opening told)) old → Since opening.start (λ told. All (IsOwnAt size) (known_pieces opening told)) new
own_since opening size end old new goes own =
    since_goes opening.start (λ told. All (IsOwnAt size) (known_pieces opening told)) (λ told. All (IsOwnAt size) (known_pieces opening told)) (HandsOwn size end) old new goes
    (λ told more all known. known_at (IsOwnAt size) opening told more 0 (omega arith) known (only_own size end more all)) own

-- a piece behind the header
behind : (size : ℕ) (piece : Piece) → header_size ≤ piece.at → IsOwnAt size piece
behind size piece far log is = (λ file at signed. absurd (omega (arith, far, at)), λ file at signed. absurd (omega (arith, far, at)))

-- no log's file is Main
pub not_main : (log : ℕ) → log_file log ≡ Main → ⊥
not_main log = by (log == 1)
  where
    by : (first : Bool) → (if first then Log1 else Log2) ≡ Main → ⊥
    by true is = cc
    by false is = cc

-- a step of a commit stands behind the header of a log
commit_hands : (size end log : ℕ) (header : LogFields) (step : Step) → IsCommitStep (log_file log) header step → HandsOwn size end step
commit_hands size end log header (Wrote piece) (is, far, salts) = (behind size piece far, λ main. absurd (not_main log (sym is ∙ main)))
commit_hands size end log header (Refused piece left) (is, far, salts, within) = (behind size piece far, λ main. absurd (not_main log (sym is ∙ main)))
commit_hands size end log header (Synced synced) is = (tt, tt)

pub commit_goes : (size end log : ℕ) (header : LogFields) (old new : Option History) → GoesBy (IsCommitStep (log_file log) header) old new → GoesBy (HandsOwn size end) old new
commit_goes size end log header None new is = is
commit_goes size end log header (Some old) new (more, all, is) =
    (more, All-weaker (IsCommitStep (log_file log) header) (HandsOwn size end) (λ step one. commit_hands size end log header step one) more all, is)

-- a log's header and its sync
pub switch_goes : (size end : ℕ) (piece : Piece) (ok : Bool) (old new : Option History) → (piece.file ≡ Main → ⊥) → IsOwnAt size piece → WritesAndSyncs ok piece old new
    → GoesBy (HandsOwn size end) old new
switch_goes size end piece true old new apart own is =
    goes_both (HandsOwn size end) old (after (Wrote piece) old) new
    (goes_one (HandsOwn size end) (Wrote piece) old (after (Wrote piece) old) (own, λ main. absurd (apart main)) refl)
    (goes_one (HandsOwn size end) (Synced piece.file) (after (Wrote piece) old) new (tt, tt) is)
switch_goes size end piece false old new apart own (inl (inl same)) = goes_still (HandsOwn size end) old new same
switch_goes size end piece false old new apart own (inl (inr (left, within, is))) =
    goes_one (HandsOwn size end) (Refused piece left) old new (own, λ main. absurd (apart main)) is
switch_goes size end piece false old new apart own (inr is) = goes_one (HandsOwn size end) (Wrote piece) old new (own, λ main. absurd (apart main)) is

-- The header of a switch is one of ours, for pages of the store's size.
pub own_header : (kept : StoreData) (salt2 : ℕ) (sum : Sum) (bytes : List ℕ) → (current_header kept.pair).page_size ≡ kept.page_size
    → IsHeaderOf (other_number kept.pair.current) (next_header kept.pair salt2 sum) bytes → number_of (other_file kept.pair) ≡ other_number kept.pair.current
    → IsOwnAt kept.page_size (front_piece (other_file kept.pair) bytes)
own_header kept salt2 sum bytes sized is numbered log some = (
  λ file at signed. subst (λ (n : ℕ). IsOurs n bytes) (sym numbered ∙ ap number_of file) is.ours,
  λ file at signed. ap (λ (f : LogFields). f.page_size) is.told ∙ sized,
)

-- A store that is running, while the frames of a commit are written to its current log: what stays.
use Rattle.std.proofs.Common.{◌≡◌, ◌∙◌, ℕ, ◌+◌, ◌≤◌, ◌<◌, ◌^◌, ◌==◌, Bool, true, false, if◌then◌else◌, List, [], ◌++◌, length, refl, sym, ap, subst, inl, inr, arith, Option, None, All, IsSome}
use Rattle.std.specs.Prelude.{◌⊎◌, MatchOption}
use Rattle.std.proofs.lemmas.List.{map-append}
use Rattle.disk_face.specs.declared.disk.File.TheVariants.{Main, Log1, Log2}
use Rattle.disk_face.specs.declared.step.Step.{Step}
use Rattle.disk_face.specs.Files.{Files, content}
use Rattle.disk_face.specs.Image.{same_file}
use Rattle.disk_face.specs.Steps.{History, reads}
use Rattle.page_spec.specs.PageMap.{PageMap}
use Rattle.log_spec.specs.LogHeader.{LogFields, header_size}
use Rattle.log_spec.specs.Accept.{Frame, page_numbers, page_number}
use Rattle.crash_spec.specs.Elsewhere.{IsElsewhere}
use Rattle.crash_spec.specs.Logs.{IsWhole}
use Rattle.crash_spec.specs.Opening.{Opening, grown}
use Rattle.crash_spec.specs.Recovered.{page_after_frames, main_page, NamesPages}
use Rattle.crash_spec.specs.Store.{StoreView, AreOnDisk}
use Rattle.engine_spec.specs.declared.commits.Commit.{Commit}
use Rattle.wal_frames.specs.Found.{log_file}
use Rattle.wal_index.specs.Index.{Indexed, log_in}
use Rattle.log_pair.specs.Pair.{PairView, log_of, other_number, current_file, current_header}
use Rattle.log_pair.specs.Switch.{other_file}
use Rattle.log_pair.specs.Appending.{LogStands}
use Rattle.log_commit.specs.Commit.{map_under, IsCommitStep, StandsAs, IsCommittedTo, MayCome, with_frames, with_pending, with_more, with_appended}
use Rattle.log_commit.specs.Fronts.{HasFront}
use Rattle.log_commit.proofs.SinceSteps.{commits_elsewhere, content_goes, whole_goes}
use Rattle.log_commit.proofs.FrontLaws.{front_commits, front_beside}
use Rattle.store_spec.specs.Store.{StoreData, KeptStop, current_read, other_read, newest_in, view_of}
use Rattle.store_spec.specs.Standing.{IsRunning, IsStoreOn, StandsOn, AreCopied, AreFronts}
use Rattle.store_spec.specs.Steps.{HasIndexed, committed, stopped}
use Rattle.store_spec.proofs.FramesStand.{IsViewOf, current_is, current_has, other_is_read, other_has, newest_is, holds_view}
use Rattle.store_spec.proofs.Runs.{frames_in-length}

-- The logs of a pair are those of another, but for frames of the current one.
pub record IsPairOf (old new : PairView) : Type 0 where
  pub current : new.current ≡ old.current
  pub one : new.one.header ≡ old.one.header
  pub two : new.two.header ≡ old.two.header
  pub other : (log_of new (other_number old.current)).frames ≡ (log_of old (other_number old.current)).frames

-- by what a commit makes of it
more_pair : (old : PairView) (count : ℕ) (later : PairView) → IsPairOf old (with_more old count later) × ((log_of (with_more old count later) old.current).frames ≡ (log_of old old.current).frames + count)
more_pair old count later = (record { current = refl; one = one (old.current == 1); two = two (old.current == 1); other = other (old.current == 1) }, frames (old.current == 1))
  where
    one : (first : Bool) → (if first then (record { header = (if first then old.one else old.two).header; frames = (if first then old.one else old.two).frames + count }) else old.one).header ≡ old.one.header
    one true = refl
    one false = refl

    two : (first : Bool) → (if first then old.two else (record { header = (if first then old.one else old.two).header; frames = (if first then old.one else old.two).frames + count })).header ≡ old.two.header
    two true = refl
    two false = refl

    other : (first : Bool) → (if (if first then 2 else 1) == 1 then (if first then (record { header = (if first then old.one else old.two).header; frames = (if first then old.one else old.two).frames + count }) else old.one)
        else (if first then old.two else (record { header = (if first then old.one else old.two).header; frames = (if first then old.one else old.two).frames + count }))).frames
        ≡ (if (if first then 2 else 1) == 1 then old.one else old.two).frames
    other true = refl
    other false = refl

    frames : (first : Bool) → (if first then (if first then (record { header = (if first then old.one else old.two).header; frames = (if first then old.one else old.two).frames + count }) else old.one)
        else (if first then old.two else (record { header = (if first then old.one else old.two).header; frames = (if first then old.one else old.two).frames + count }))).frames
        ≡ (if first then old.one else old.two).frames + count
    frames true = refl
    frames false = refl

pub pair_more : (old new : PairView) (count : ℕ) → new ≡ with_more old count new
    → IsPairOf old new × ((log_of new new.current).frames ≡ (log_of old old.current).frames + count) × (new.appended ≡ 0)
pair_more old new count is = (
  subst (IsPairOf old) (sym is) (more_pair old count new).0,
  ap (λ (p : PairView). (log_of p p.current).frames) is ∙ (more_pair old count new).1,
  ap (λ (p : PairView). p.appended) is,
)

pub pair_appended : (old new : PairView) → new ≡ with_appended old new → IsPairOf old new × ((log_of new new.current).frames ≡ (log_of old old.current).frames)
pair_appended old new is = (
  subst (IsPairOf old) (sym is) (record { current = refl; one = refl; two = refl; other = refl }),
  ap (λ (p : PairView). (log_of p p.current).frames) is,
)

module _ (old new : PairView) (same : IsPairOf old new) where
  pub header_of : (log : ℕ) → (log_of new log).header ≡ (log_of old log).header
  header_of log = by (log == 1)
    where
      by : (first : Bool) → (if first then new.one else new.two).header ≡ (if first then old.one else old.two).header
      by true = same.one
      by false = same.two

  pub current_header_of : current_header new ≡ current_header old
  current_header_of = header_of new.current ∙ ap (λ (log : ℕ). (log_of old log).header) same.current

  pub other_header_of : (log_of new (other_number new.current)).header ≡ (log_of old (other_number old.current)).header
  other_header_of = header_of (other_number new.current) ∙ ap (λ (log : ℕ). (log_of old (other_number log)).header) same.current

  pub other_frames_of : (log_of new (other_number new.current)).frames ≡ (log_of old (other_number old.current)).frames
  other_frames_of = ap (λ (log : ℕ). (log_of new (other_number log)).frames) same.current ∙ same.other

  pub current_file_of : current_file new ≡ current_file old
  current_file_of = ap log_file same.current

  pub other_file_of : other_file new ≡ other_file old
  other_file_of = ap (λ (log : ℕ). log_file (other_number log)) same.current

-- the current log is neither the other one nor Main
pub apart_other : (log : ℕ) → same_file (log_file log) (log_file (other_number log)) ≡ false
apart_other log = by (log == 1)
  where
    by : (first : Bool) → same_file (if first then Log1 else Log2) (log_file (if first then 2 else 1)) ≡ false
    by true = refl
    by false = refl

pub apart_main : (log : ℕ) → same_file (log_file log) Main ≡ false
apart_main log = by (log == 1)
  where
    by : (first : Bool) → same_file (if first then Log1 else Log2) Main ≡ false
    by true = refl
    by false = refl

-- the store's view while it is running
abbrev pub now_view : StoreData → Files → StoreView
now_view kept files = view_of kept files [] (newest_in kept.pair files)

module _ (opening : Opening) (kept : StoreData) (none : kept.stop ≡ None) where
  pub running_on : (told : History) → StandsOn opening kept told → IsStoreOn opening kept told
  running_on told (inl on) = on
  running_on told (inr torn) = absurd (let e = subst (λ (stop : Option KeptStop). IsSome stop) none torn.stopped in cc)

  pub is_running : (told : History) (on : IsStoreOn opening kept told) → IsRunning opening kept on.pending told
  is_running told on = subst (λ (stop : Option KeptStop). MatchOption stop (IsRunning opening kept on.pending told) (λ stop. on.later ≡ map_under (newest_in kept.pair (reads told)) stop.images stop.size)) none on.running

  pub stands_as : (told : History) → IsStoreOn opening kept told → StandsAs opening (now_view kept (reads told)) kept.pair told
  stands_as told on =
      let running = is_running told on in (
        record {
          on = subst (λ (fs : List Frame). AreOnDisk opening told (current_file kept.pair) (current_header kept.pair) (log_of kept.pair (other_number kept.pair.current)).header
              (current_read kept.pair (reads told)) fs (other_read kept.pair (reads told)) kept.page_size) running.none on.holds.on;
          sized = on.holds.sized;
          sized_later = λ some. absurd (some refl);
          is = on.holds.is;
          is_later = λ some. absurd (some refl);
        },
        running.stands,
      )

-- What is known beside the current log while frames are written to it.
pub record IsBeside (opening : Opening) (kept : StoreData) (files : Files) (told : History) : Type 0 where
  pub main : (reads told).main ≡ files.main
  pub current_pages : page_numbers (current_read kept.pair files) ≡ (log_in kept.index kept.pair.current).pages
  pub other_pages : page_numbers (other_read kept.pair files) ≡ (log_in kept.index (other_number kept.pair.current)).pages
  pub copied : AreCopied kept files
  pub other_whole : IsWhole opening told (other_file kept.pair)
  pub main_whole : kept.state.done ≡ true → IsWhole opening told Main
  pub fronts : AreFronts opening kept told

-- the fronts of both logs
module _ (opening : Opening) (kept : StoreData) (told : History) (more : List Step) (small : (current_header kept.pair).salt1 < 2 ^ 32)
    (long : header_size ≤ length (content (reads told) (current_file kept.pair))) (all : All (IsCommitStep (current_file kept.pair) (current_header kept.pair)) more)
    (fronts : AreFronts opening kept told) where
  fronts_go : (kept.pair.current ≡ 1) ⊎ (kept.pair.current ≡ 2) → AreFronts opening kept (grown more told)
  fronts_go (inl is) =
      let steps : All (IsCommitStep Log1 kept.pair.one.header) more = subst (λ (log : ℕ). All (IsCommitStep (log_file log) (log_of kept.pair log).header) more) is all in
      record {
        most1 = fronts.most1;
        most2 = fronts.most2;
        few = fronts.few;
        sizes = fronts.sizes;
        log1 = (front_commits opening told Log1 kept.pair.one.header kept.pair.one.header.salt1 fronts.most1 more refl
            (subst (λ (log : ℕ). (log_of kept.pair log).header.salt1 < 2 ^ 32) is small)
            (subst (λ (log : ℕ). header_size ≤ length (content (reads told) (log_file log))) is long) steps fronts.log1).0;
        log2 = front_beside opening told Log1 Log2 kept.pair.one.header kept.pair.two.header.salt1 fronts.most2 more refl steps fronts.log2;
      }
  fronts_go (inr is) =
      let steps : All (IsCommitStep Log2 kept.pair.two.header) more = subst (λ (log : ℕ). All (IsCommitStep (log_file log) (log_of kept.pair log).header) more) is all in
      record {
        most1 = fronts.most1;
        most2 = fronts.most2;
        few = fronts.few;
        sizes = fronts.sizes;
        log1 = front_beside opening told Log2 Log1 kept.pair.two.header kept.pair.one.header.salt1 fronts.most1 more refl steps fronts.log1;
        log2 = (front_commits opening told Log2 kept.pair.two.header kept.pair.two.header.salt1 fronts.most2 more refl
            (subst (λ (log : ℕ). (log_of kept.pair log).header.salt1 < 2 ^ 32) is small)
            (subst (λ (log : ℕ). header_size ≤ length (content (reads told) (log_file log))) is long) steps fronts.log2).0;
      }

fronts_of : (opening : Opening) (old new : StoreData) (told : History) → IsPairOf old.pair new.pair → new.page_size ≡ old.page_size → AreFronts opening old told → AreFronts opening new told
fronts_of opening old new told same paged fronts = record {
  most1 = fronts.most1;
  most2 = fronts.most2;
  few = subst (λ (h : LogFields). (fronts.most1 ≤ h.generation) × (fronts.most2 ≤ h.generation)) (sym (current_header_of old.pair new.pair same)) fronts.few;
  sizes = subst (λ (size : ℕ). (new.pair.one.header.page_size ≡ size) × (new.pair.two.header.page_size ≡ size)) (sym paged)
      (ap (λ (h : LogFields). h.page_size) same.one ∙ fronts.sizes.0, ap (λ (h : LogFields). h.page_size) same.two ∙ fronts.sizes.1);
  log1 = subst (λ (h : LogFields). HasFront opening told Log1 h.salt1 fronts.most1) (sym same.one) fronts.log1;
  log2 = subst (λ (h : LogFields). HasFront opening told Log2 h.salt1 fronts.most2) (sym same.two) fronts.log2;
}

-- after the steps of a commit
pub beside : (opening : Opening) (kept : StoreData) (files : Files) → (kept.pair.current ≡ 1) ⊎ (kept.pair.current ≡ 2) → (current_header kept.pair).salt1 < 2 ^ 32
    → (told : History) (more : List Step) → All (IsCommitStep (current_file kept.pair) (current_header kept.pair)) more
    → IsStoreOn opening kept told × (reads told ≡ files) → IsBeside opening kept files (grown more told)
beside opening kept files which small told more all (on, same) = record {
  main = content_goes Main told more main ∙ ap (λ (f : Files). f.main) same;
  current_pages = subst (λ (f : Files). page_numbers (current_read kept.pair f) ≡ (log_in kept.index kept.pair.current).pages) same on.there.current_pages;
  other_pages = subst (λ (f : Files). page_numbers (other_read kept.pair f) ≡ (log_in kept.index (other_number kept.pair.current)).pages) same on.there.other_pages;
  copied = subst (AreCopied kept) same on.there.copied;
  other_whole = whole_goes opening (other_file kept.pair) told more other on.other_whole;
  main_whole = λ done. whole_goes opening Main told more main (on.main_whole done);
  fronts = fronts_go opening kept told more small (let long = on.holds.on.newest.long in omega arith) all on.fronts which;
}
  where
    main : All (IsElsewhere Main) more
    main = commits_elsewhere (current_file kept.pair) Main (current_header kept.pair) more (apart_main kept.pair.current) all

    other : All (IsElsewhere (other_file kept.pair)) more
    other = commits_elsewhere (current_file kept.pair) (other_file kept.pair) (current_header kept.pair) more (apart_other kept.pair.current) all

-- pages that are copied
copied_of : (kept : StoreData) (frames other : List Frame) (main same : List ℕ) → other ≡ frames → same ≡ main
    → ((number : ℕ) → 1 ≤ number → (number ≤ kept.state.copied) ⊎ (kept.state.done ≡ true) → page_after_frames frames number (main_page kept.page_size main number) ≡ main_page kept.page_size main number)
    → (number : ℕ) → 1 ≤ number → (number ≤ kept.state.copied) ⊎ (kept.state.done ≡ true) → page_after_frames other number (main_page kept.page_size same number) ≡ main_page kept.page_size same number
copied_of kept frames other main same is is_main copied number from so =
    subst (λ (fs : List Frame). page_after_frames fs number (main_page kept.page_size same number) ≡ main_page kept.page_size same number) (sym is)
    (subst (λ (bytes : List ℕ). page_after_frames frames number (main_page kept.page_size bytes number) ≡ main_page kept.page_size bytes number) (sym is_main) (copied number from so))

-- The commit is on the medium.
module _ (opening : Opening) (kept : StoreData) (pair : PairView) (index : Indexed) (commit : Commit) (files : Files) (more : List Frame) (later : PageMap) (told : History)
    (none : kept.stop ≡ None) (same : IsPairOf kept.pair pair) (has : HasIndexed kept commit index) (numbers : page_numbers more ≡ commit.wrote)
    (aside : IsBeside opening kept files told) (done : IsCommittedTo opening (now_view kept files) pair more later told) where
  abbrev pub Kept : StoreData
  Kept = committed kept pair index commit

  abbrev pub View : StoreView
  View = with_frames (now_view kept files) more later

  pub committed_view : IsViewOf Kept View
  committed_view = record {
    current = sym (current_file_of kept.pair pair same);
    header = sym (current_header_of kept.pair pair same);
    older = sym (other_header_of kept.pair pair same);
    count = done.1.counted;
    other_count = frames_in-length _ _ _ ∙ sym (other_frames_of kept.pair pair same);
    size = refl;
  }

  pub current_after : current_read pair (reads told) ≡ current_read kept.pair files ++ more
  current_after = current_is opening Kept View told committed_view done.0

  pub other_after : other_read pair (reads told) ≡ other_read kept.pair files
  other_after = other_is_read opening Kept View told committed_view done.0

  pub newest_after : newest_in pair (reads told) ≡ later
  newest_after = newest_is opening Kept View told committed_view done.0

  current_pages_after : page_numbers (current_read pair (reads told)) ≡ (log_in index pair.current).pages
  current_pages_after =
      ap page_numbers current_after ∙ map-append page_number (current_read kept.pair files) more
      ∙ ap (λ (xs : List ℕ). xs ++ page_numbers more) aside.current_pages ∙ ap (λ (xs : List ℕ). (log_in kept.index kept.pair.current).pages ++ xs) numbers
      ∙ sym has.pages ∙ ap (λ (log : ℕ). (log_in index log).pages) (sym same.current)

  other_pages_after : page_numbers (other_read pair (reads told)) ≡ (log_in index (other_number pair.current)).pages
  other_pages_after =
      ap page_numbers other_after ∙ aside.other_pages ∙ sym has.other.pages ∙ ap (λ (log : ℕ). (log_in index (other_number log)).pages) (sym same.current)

  pub on_committed : IsWhole opening told (current_file kept.pair) → ((long : ℕ) → NamesPages long kept.page_size later) → IsStoreOn opening Kept told
  on_committed whole names = record {
    pending = [];
    later = newest_in kept.pair files;
    there = record {
      current = current_has opening Kept View told committed_view done.0;
      other = other_has opening Kept View told committed_view done.0;
      current_pages = current_pages_after;
      other_pages = other_pages_after;
      copied = copied_of kept (other_read kept.pair files) (other_read pair (reads told)) files.main (reads told).main other_after aside.main aside.copied;
    };
    holds = holds_view opening Kept View told committed_view done.0;
    running = subst (λ (stop : Option KeptStop). MatchOption stop (IsRunning opening Kept [] told) (λ stop. newest_in kept.pair files ≡ map_under (newest_in pair (reads told)) stop.images stop.size)) (sym none) (record {
      none = refl;
      stands = subst (λ (fs : List Frame). LogStands opening pair fs [] told) (sym current_after) done.1;
      whole = subst (IsWhole opening told) (sym (current_file_of kept.pair pair same)) whole;
    });
    other_whole = subst (IsWhole opening told) (sym (other_file_of kept.pair pair same)) aside.other_whole;
    main_whole = aside.main_whole;
    fronts = fronts_of opening kept Kept told same refl aside.fronts;
    names = subst (λ (pages : PageMap). NamesPages (length (reads told).main) kept.page_size pages) (sym newest_after) (names (length (reads told).main));
    later_names = λ some. absurd (some refl);
  }

-- A call failed, and some of it may be on its way.
module _ (opening : Opening) (kept : StoreData) (pair : PairView) (stop : KeptStop) (files : Files) (later : PageMap) (told : History)
    (same : IsPairOf kept.pair pair) (counted : (log_of pair pair.current).frames ≡ (log_of kept.pair kept.pair.current).frames)
    (aside : IsBeside opening kept files told) (may : MayCome opening (now_view kept files) later told) where
  abbrev pub Stopped : StoreData
  Stopped = stopped kept pair stop

  abbrev pub Coming : StoreView
  Coming = with_pending (now_view kept files) may.0 later

  pub stopped_view : IsViewOf Stopped Coming
  stopped_view = record {
    current = sym (current_file_of kept.pair pair same);
    header = sym (current_header_of kept.pair pair same);
    older = sym (other_header_of kept.pair pair same);
    count = frames_in-length _ _ _ ∙ sym counted;
    other_count = frames_in-length _ _ _ ∙ sym (other_frames_of kept.pair pair same);
    size = refl;
  }

  pub current_stays : current_read pair (reads told) ≡ current_read kept.pair files
  current_stays = current_is opening Stopped Coming told stopped_view may.1

  pub other_stays : other_read pair (reads told) ≡ other_read kept.pair files
  other_stays = other_is_read opening Stopped Coming told stopped_view may.1

  pub newest_stays : newest_in pair (reads told) ≡ newest_in kept.pair files
  newest_stays = newest_is opening Stopped Coming told stopped_view may.1

  pub on_stopped : later ≡ map_under (newest_in kept.pair files) stop.images stop.size
      → NamesPages (length files.main) kept.page_size (newest_in kept.pair files) → ((long : ℕ) → NamesPages long kept.page_size later) → IsStoreOn opening Stopped told
  on_stopped is names later_names = record {
    pending = may.0;
    later = later;
    there = record {
      current = current_has opening Stopped Coming told stopped_view may.1;
      other = other_has opening Stopped Coming told stopped_view may.1;
      current_pages = ap page_numbers current_stays ∙ aside.current_pages ∙ ap (λ (log : ℕ). (log_in kept.index log).pages) (sym same.current);
      other_pages = ap page_numbers other_stays ∙ aside.other_pages ∙ ap (λ (log : ℕ). (log_in kept.index (other_number log)).pages) (sym same.current);
      copied = copied_of kept (other_read kept.pair files) (other_read pair (reads told)) files.main (reads told).main other_stays aside.main aside.copied;
    };
    holds = holds_view opening Stopped Coming told stopped_view may.1;
    running = is ∙ ap (λ (m : PageMap). map_under m stop.images stop.size) (sym newest_stays);
    other_whole = subst (IsWhole opening told) (sym (other_file_of kept.pair pair same)) aside.other_whole;
    main_whole = aside.main_whole;
    fronts = fronts_of opening kept Stopped told same refl aside.fronts;
    names = subst (λ (pages : PageMap). NamesPages (length (reads told).main) kept.page_size pages) (sym newest_stays)
        (subst (λ (main : List ℕ). NamesPages (length main) kept.page_size (newest_in kept.pair files)) (sym aside.main) names);
    later_names = λ some. later_names;
  }

-- A commit of a store is written to its current log, or fails in writing: what is opened, what is told, and what a crash leaves.
use Rattle.std.proofs.Common.{◌≡◌, ◌∙◌, ℕ, ◌≤◌, ◌<◌, ◌^◌, Bool, true, false, List, [], ◌∷◌, ◌++◌, length, map, refl, sym, ap, subst, inl, inr, arith, Option, Some, None, All, Contains}
use Rattle.std.specs.Prelude.{◌⊎◌, IfSome}
use Rattle.std.specs.Option.{option_map}
use Rattle.disk_face.specs.declared.step.Step.{Step}
use Rattle.disk_face.specs.Files.{Files}
use Rattle.disk_face.specs.Steps.{History, reads}
use Rattle.page_spec.specs.PageMap.{PageMap}
use Rattle.log_spec.specs.Accept.{Frame, page_numbers}
use Rattle.crash_spec.specs.Known.{known_pieces}
use Rattle.crash_spec.specs.Logs.{IsWhole, IsOwnAt}
use Rattle.crash_spec.specs.Moments.{AtEachMoment}
use Rattle.crash_spec.specs.Opening.{Opening, Since, grown}
use Rattle.crash_spec.specs.Passes.{Passes, ByAnswer}
use Rattle.crash_spec.specs.Recovered.{recovered, NamesPages}
use Rattle.crash_spec.proofs.Passing.{passes_weaker}
use Rattle.engine_spec.specs.declared.commits.Commit.{Commit}
use Rattle.engine_spec.specs.declared.commits.PageImage.{PageImage}
use Rattle.engine_spec.specs.declared.pins.Readers.{Readers}
use Rattle.engine_spec.specs.Change.{Change, laid}
use Rattle.engine_spec.specs.Events.{map_after}
use Rattle.engine_spec.specs.Leaves.{RecoversOneOf, may_recover, if_told, kept_map}
use Rattle.wal_index.specs.Index.{Indexed}
use Rattle.log_pair.specs.Pair.{PairView, log_of, current_file, current_header}
use Rattle.log_pair.proofs.Standing.{since_weaker}
use Rattle.log_commit.specs.GoesBy.{GoesBy}
use Rattle.log_commit.specs.Commit.{map_under, FitsMap, IsCommitStep, StandsAs, IsCommittedTo, MayCome, LeavesEither, AreFramesOf}
use Rattle.log_commit.proofs.SinceSteps.{since_goes, since_both, whole_since}
use Rattle.store_spec.specs.Store.{StoreData, KeptStop, current_read, other_read, newest_in, newest_told, stop_map, stop_told, store_state, view_of}
use Rattle.store_spec.specs.Standing.{IsStoreOn, StandsOn, IsOpenedAt}
use Rattle.store_spec.specs.Steps.{HasWritten, HasIndexed, committed, stopped}
use Rattle.store_spec.proofs.FramesStand.{since_told, at_told}
use Rattle.store_spec.proofs.OwnFronts.{IsOwnTill, LeavesNamed, NamesOwn, commit_goes, named_under, newest_named, newest_names, own_moments, own_of}
use Rattle.store_spec.proofs.Writing.{IsPairOf, pair_more, pair_appended, now_view, running_on, stands_as, IsBeside, beside, current_after, other_after, newest_after, on_committed, current_stays, other_stays, newest_stays, on_stopped}

-- The images are the pages of the commit, and make of the newest map what laying the change makes of it, whose page 1 names its pages.
pub record IsLaid (kept : StoreData) (old : Option History) (images : List PageImage) (change : Change) (commit : Commit) : Type 0 where
  pub numbers : commit.wrote ≡ map (λ image. image.page) images
  pub first : Contains commit.wrote 1
  pub within : All (λ page. (1 ≤ page) × (page ≤ kept.size)) commit.wrote
  pub fits : IfSome old (λ told. FitsMap (view_of kept (reads told) [] (newest_in kept.pair (reads told))) images kept.size)
  pub lies : IfSome old (λ told. map_under (newest_in kept.pair (reads told)) images kept.size ≡ laid (newest_in kept.pair (reads told)) change)
  pub names : IfSome old (λ told. (long : ℕ) → NamesPages long kept.page_size (map_under (newest_in kept.pair (reads told)) images kept.size))

-- A store that can be written to: nothing has failed, one of the logs is current, and its first salt is one of 32 bits.
pub record MayWriteOn (kept : StoreData) : Type 0 where
  pub running : kept.stop ≡ None
  pub which : (kept.pair.current ≡ 1) ⊎ (kept.pair.current ≡ 2)
  pub salt : (current_header kept.pair).salt1 < 2 ^ 32

numbers_are : (images : List PageImage) (frames : List Frame) → AreFramesOf images frames → page_numbers frames ≡ map (λ image. image.page) images
numbers_are [] [] are = refl
numbers_are [] (frame ∷ frames) are = absurd are
numbers_are (image ∷ images) [] are = absurd are
numbers_are (image ∷ images) (frame ∷ frames) (same, bytes, are) = let rest = numbers_are images frames are in cc

-- a disk that tells goes on to tell
pub still_told : (P : Step → Type 0) (told : History) (Q : Option History → Type 0) (new : Option History) → GoesBy P (Some told) new → ((later : History) → new ≡ Some later → Q (Some later)) → Q new
still_told P told Q new (more, all, is) law = subst Q (sym is) (law (grown more told) is)

-- since an opening, where the disk tells
module _ (opening : Opening) (kept : StoreData) (ok : Bool) (images : List PageImage) (pair : PairView) (told : History) (new : Option History)
    (may : MayWriteOn kept) (has : HasWritten kept ok images pair (Some told) new) (fits : FitsMap (now_view kept (reads told)) images kept.size)
    (opened : IsOpenedAt opening kept (Some told)) where
  abbrev Later : PageMap
  Later = map_under (newest_in kept.pair (reads told)) images kept.size

  abbrev IsHere : History → Type 0
  IsHere t = IsStoreOn opening kept t × (reads t ≡ reads told)

  here : Since opening.start IsHere (Some told)
  here =
      since_told opening.start (IsStoreOn opening kept) told
      (since_weaker opening.start (StandsOn opening kept) (IsStoreOn opening kept) (running_on opening kept may.running) (Some told) opened)

  asides : Since opening.start (IsBeside opening kept (reads told)) new
  asides =
      since_goes opening.start IsHere (IsBeside opening kept (reads told)) (IsCommitStep (current_file kept.pair) (current_header kept.pair)) (Some told) new has.steps
      (λ t more all on. beside opening kept (reads told) may.which may.salt t more all on) here

  passes : Passes opening (LeavesEither opening (newest_in kept.pair (reads told)) Later)
      (ByAnswer ok (IsCommittedTo opening (now_view kept (reads told)) pair has.more Later) (MayCome opening (now_view kept (reads told)) Later)) (Some told) new
  passes =
      has.writes.moments opening (now_view kept (reads told)) (record { current = refl; header = refl; sealed = refl }) fits
      (since_weaker opening.start IsHere (StandsAs opening (now_view kept (reads told)) kept.pair)
      (λ t on. subst (λ (f : Files). StandsAs opening (now_view kept f) kept.pair t) on.1 (stands_as opening kept may.running t on.0)) (Some told) here)

-- Written: since an opening.
module _ (opening : Opening) (kept : StoreData) (images : List PageImage) (pair : PairView) (index : Indexed) (commit : Commit) (told : History) (new : Option History)
    (may : MayWriteOn kept) (has : HasWritten kept true images pair (Some told) new) (fits : FitsMap (now_view kept (reads told)) images kept.size)
    (indexed : HasIndexed kept commit index) (numbers : page_numbers has.more ≡ commit.wrote) (opened : IsOpenedAt opening kept (Some told)) where
  abbrev pub Made : PageMap
  Made = map_under (newest_in kept.pair (reads told)) images kept.size

  abbrev pub IsDone : History → Type 0
  IsDone t = IsBeside opening kept (reads told) t × IsCommittedTo opening (now_view kept (reads told)) pair has.more Made t

  pub is_done : Since opening.start IsDone new
  is_done =
      since_both opening.start (IsBeside opening kept (reads told)) (IsCommittedTo opening (now_view kept (reads told)) pair has.more Made) new
      (asides opening kept true images pair told new may has fits opened) (passes opening kept true images pair told new may has fits opened).holds

  pub same_pair : IsPairOf kept.pair pair
  same_pair = (pair_more kept.pair pair (length images) has.writes.becomes).0

  done_whole : Since opening.start (λ t. IsWhole opening t (current_file kept.pair)) new
  done_whole =
      let synced = has.synced refl in
      whole_since opening (StandsOn opening kept) (IsCommitStep (current_file kept.pair) (current_header kept.pair)) (current_file kept.pair) (Some told) synced.0 new synced.1 synced.2 opened

  done_opened : ((long : ℕ) → NamesPages long kept.page_size Made) → IsOpenedAt opening (committed kept pair index commit) new
  done_opened names =
      since_weaker opening.start (λ t. IsDone t × IsWhole opening t (current_file kept.pair)) (StandsOn opening (committed kept pair index commit))
      (λ t done. inl (on_committed opening kept pair index commit (reads told) has.more Made t may.running same_pair indexed numbers done.0.0 done.0.1 done.1 names)) new
      (since_both opening.start IsDone (λ t. IsWhole opening t (current_file kept.pair)) new is_done done_whole)

  -- what is read then
  module _ (later : History) (is : new ≡ Some later) where
    pub done_then : Since opening.start IsDone (Some later)
    done_then = subst (Since opening.start IsDone) is is_done

    pub done_current : current_read pair (reads later) ≡ current_read kept.pair (reads told) ++ has.more
    done_current =
        at_told opening.start IsDone (λ f. current_read pair f ≡ current_read kept.pair (reads told) ++ has.more) later
        (λ t done. current_after opening kept pair index commit (reads told) has.more Made t may.running same_pair indexed numbers done.0 done.1) done_then

    pub done_other : other_read pair (reads later) ≡ other_read kept.pair (reads told)
    done_other =
        at_told opening.start IsDone (λ f. other_read pair f ≡ other_read kept.pair (reads told)) later
        (λ t done. other_after opening kept pair index commit (reads told) has.more Made t may.running same_pair indexed numbers done.0 done.1) done_then

    pub done_newest : newest_in pair (reads later) ≡ Made
    done_newest =
        at_told opening.start IsDone (λ f. newest_in pair f ≡ Made) later
        (λ t done. newest_after opening kept pair index commit (reads told) has.more Made t may.running same_pair indexed numbers done.0 done.1) done_then

    pub done_main : (reads later).main ≡ (reads told).main
    done_main = at_told opening.start IsDone (λ f. f.main ≡ (reads told).main) later (λ t done. done.0.main) done_then

-- Not written: since an opening.
module _ (opening : Opening) (kept : StoreData) (images : List PageImage) (pair : PairView) (stop : KeptStop) (told : History) (new : Option History)
    (may : MayWriteOn kept) (has : HasWritten kept false images pair (Some told) new) (fits : FitsMap (now_view kept (reads told)) images kept.size)
    (opened : IsOpenedAt opening kept (Some told)) where
  abbrev pub Coming : PageMap
  Coming = map_under (newest_in kept.pair (reads told)) images kept.size

  abbrev pub IsOnWay : History → Type 0
  IsOnWay t = IsBeside opening kept (reads told) t × MayCome opening (now_view kept (reads told)) Coming t

  pub on_way : Since opening.start IsOnWay new
  on_way =
      since_both opening.start (IsBeside opening kept (reads told)) (MayCome opening (now_view kept (reads told)) Coming) new
      (asides opening kept false images pair told new may has fits opened) (passes opening kept false images pair told new may has fits opened).holds

  pub still_pair : IsPairOf kept.pair pair × ((log_of pair pair.current).frames ≡ (log_of kept.pair kept.pair.current).frames)
  still_pair = pair_appended kept.pair pair has.writes.becomes

  -- the newest map names its pages
  newest_told_names : NamesPages (length (reads told).main) kept.page_size (newest_in kept.pair (reads told))
  newest_told_names =
      at_told opening.start (StandsOn opening kept) (λ files. NamesPages (length files.main) kept.page_size (newest_in kept.pair files)) told
      (λ t stands. newest_names opening kept t stands (length (reads t).main) (omega arith)) opened

  way_opened : stop.images ≡ images → stop.size ≡ kept.size → ((long : ℕ) → NamesPages long kept.page_size Coming) → IsOpenedAt opening (stopped kept pair stop) new
  way_opened is_images is_size names =
      since_weaker opening.start IsOnWay (StandsOn opening (stopped kept pair stop))
      (λ t way. inl (on_stopped opening kept pair stop (reads told) Coming t still_pair.0 still_pair.1 way.0 way.1 (λ i. map_under (newest_in kept.pair (reads told)) (sym is_images i) (sym is_size i)) newest_told_names names)) new on_way

  module _ (later : History) (is : new ≡ Some later) where
    pub way_then : Since opening.start IsOnWay (Some later)
    way_then = subst (Since opening.start IsOnWay) is on_way

    pub way_current : current_read pair (reads later) ≡ current_read kept.pair (reads told)
    way_current =
        at_told opening.start IsOnWay (λ f. current_read pair f ≡ current_read kept.pair (reads told)) later
        (λ t way. current_stays opening kept pair stop (reads told) Coming t still_pair.0 still_pair.1 way.0 way.1) way_then

    pub way_other : other_read pair (reads later) ≡ other_read kept.pair (reads told)
    way_other =
        at_told opening.start IsOnWay (λ f. other_read pair f ≡ other_read kept.pair (reads told)) later
        (λ t way. other_stays opening kept pair stop (reads told) Coming t still_pair.0 still_pair.1 way.0 way.1) way_then

    pub way_newest : newest_in pair (reads later) ≡ newest_in kept.pair (reads told)
    way_newest =
        at_told opening.start IsOnWay (λ f. newest_in pair f ≡ newest_in kept.pair (reads told)) later
        (λ t way. newest_stays opening kept pair stop (reads told) Coming t still_pair.0 still_pair.1 way.0 way.1) way_then

    pub way_main : (reads later).main ≡ (reads told).main
    way_main = at_told opening.start IsOnWay (λ f. f.main ≡ (reads told).main) later (λ t way. way.0.main) way_then

-- what a commit is answered, of any disk
module _ (kept : StoreData) (images : List PageImage) (pair : PairView) (change : Change) (commit : Commit) (may : MayWriteOn kept) where
  -- the frames have the pages of the commit
  pub more_numbers : (old new : Option History) (has : HasWritten kept true images pair old new) → IsLaid kept old images change commit → page_numbers has.more ≡ commit.wrote
  more_numbers old new has lays = numbers_are images has.more (has.writes.frames refl) ∙ sym lays.numbers

  -- at each moment a crash leaves the newest map, or the one that the commit makes
  pub either_map : (ok : Bool) (old new : Option History) (faults : ℕ) (readers : Readers) → HasWritten kept ok images pair old new → IsLaid kept old images change commit
      → (opening : Opening) → IsOpenedAt opening kept old
      → AtEachMoment opening (RecoversOneOf opening (may_recover (store_state old faults kept readers) ++ if_told (map_after (store_state old faults kept readers) change))) old new
  either_map ok None new faults readers has lays opening opened =
      subst (λ (t : Option History). AtEachMoment opening (RecoversOneOf opening (may_recover (store_state None faults kept readers) ++ if_told (map_after (store_state None faults kept readers) change))) None t) (sym has.steps) tt
  either_map ok (Some told) new faults readers has lays opening opened =
      own_moments opening kept.page_size end maps (Some told) new (commit_goes kept.page_size end kept.pair.current (current_header kept.pair) (Some told) new has.steps)
      (since_weaker opening.start (λ t. StandsOn opening kept t × (reads t ≡ reads told)) (IsOwnTill opening kept.page_size end)
      (λ t (stands, same). (own_of opening kept t stands, (let long = ap (λ (files : Files). length files.main) same in omega (arith, long))))
      (Some told) (since_told opening.start (StandsOn opening kept) told opened))
      (passes_weaker opening (LeavesEither opening (newest_in kept.pair (reads told)) (map_under (newest_in kept.pair (reads told)) images kept.size)) (LeavesNamed opening maps kept.page_size end)
      (ByAnswer ok (IsCommittedTo opening (now_view kept (reads told)) pair has.more (map_under (newest_in kept.pair (reads told)) images kept.size)) (MayCome opening (now_view kept (reads told)) (map_under (newest_in kept.pair (reads told)) images kept.size)))
      (λ t. Unit {0})
      (λ t image leaves chance. either (recovered image) (leaves chance)) (λ t any. tt) (Some told) new (passes opening kept ok images pair told new may has lays.fits opened)).each_moment
    where
      end : ℕ
      end = length (reads told).main

      maps : List PageMap
      maps = may_recover (store_state (Some told) faults kept readers) ++ if_told (map_after (store_state (Some told) faults kept readers) change)

      maps_are : may_recover (store_state (Some told) faults kept readers) ++ if_told (map_after (store_state (Some told) faults kept readers) change)
          ≡ newest_in kept.pair (reads told) ∷ laid (newest_in kept.pair (reads told)) change ∷ []
      maps_are = ap (λ (stop : Option KeptStop). (newest_in kept.pair (reads told) ∷ kept_map (option_map (stop_told kept (Some told)) stop)) ++ laid (newest_in kept.pair (reads told)) change ∷ []) may.running

      either : (got : PageMap) → (got ≡ newest_in kept.pair (reads told)) ⊎ (got ≡ map_under (newest_in kept.pair (reads told)) images kept.size)
          → Contains (may_recover (store_state (Some told) faults kept readers) ++ if_told (map_after (store_state (Some told) faults kept readers) change)) got × NamesOwn kept.page_size got
          × ((long : ℕ) → long ≤ length (reads told).main → NamesPages long kept.page_size got)
      either got (inl same) = (
        subst (λ (ms : List PageMap). Contains ms got) (sym maps_are) (0, omega arith, sym same),
        subst (λ (pages : PageMap). NamesOwn kept.page_size pages) (sym same)
            (at_told opening.start (StandsOn opening kept) (λ files. NamesOwn kept.page_size (newest_in kept.pair files)) told (newest_named opening kept) opened),
        λ long le. subst (λ (pages : PageMap). NamesPages long kept.page_size pages) (sym same)
            (at_told opening.start (StandsOn opening kept) (λ files. long ≤ length files.main → NamesPages long kept.page_size (newest_in kept.pair files)) told
            (λ t stands. newest_names opening kept t stands long) opened le),
      )
      either got (inr same) = (
        subst (λ (ms : List PageMap). Contains ms got) (sym maps_are) (1, omega arith, sym (same ∙ lays.lies)),
        subst (λ (pages : PageMap). NamesOwn kept.page_size pages) (sym same)
            (named_under kept.page_size (newest_in kept.pair (reads told)) images kept.size lays.fits.named),
        λ long le. subst (λ (pages : PageMap). NamesPages long kept.page_size pages) (sym same) (lays.names long),
      )

  -- the openings go on
  pub opened_committed : (index : Indexed) (old new : Option History) → HasWritten kept true images pair old new → IsLaid kept old images change commit → HasIndexed kept commit index
      → (opening : Opening) → IsOpenedAt opening kept old → IsOpenedAt opening (committed kept pair index commit) new
  opened_committed index None new has lays indexed opening opened = subst (IsOpenedAt opening (committed kept pair index commit)) (sym has.steps) tt
  opened_committed index (Some told) new has lays indexed opening opened =
      done_opened opening kept images pair index commit told new may has lays.fits indexed (more_numbers (Some told) new has lays) opened lays.names

  pub opened_stopped : (stop : KeptStop) (old new : Option History) → HasWritten kept false images pair old new → IsLaid kept old images change commit → stop.images ≡ images → stop.size ≡ kept.size
      → (opening : Opening) → IsOpenedAt opening kept old → IsOpenedAt opening (stopped kept pair stop) new
  opened_stopped stop None new has lays is_images is_size opening opened = subst (IsOpenedAt opening (stopped kept pair stop)) (sym has.steps) tt
  opened_stopped stop (Some told) new has lays is_images is_size opening opened =
      way_opened opening kept images pair stop told new may has lays.fits opened is_images is_size lays.names

  -- what is told then
  pub newest_committed : (index : Indexed) (old new : Option History) → HasWritten kept true images pair old new → IsLaid kept old images change commit → HasIndexed kept commit index
      → (opening : Opening) → IsOpenedAt opening kept old → newest_told (committed kept pair index commit) new ≡ option_map (λ pages. laid pages change) (newest_told kept old)
  newest_committed index None new has lays indexed opening opened = ap (newest_told (committed kept pair index commit)) has.steps
  newest_committed index (Some told) new has lays indexed opening opened =
      still_told (IsCommitStep (current_file kept.pair) (current_header kept.pair)) told
      (λ (t : Option History). newest_told (committed kept pair index commit) t ≡ Some (laid (newest_in kept.pair (reads told)) change)) new has.steps
      (λ later is. ap (λ (m : PageMap). Some m) (done_newest opening kept images pair index commit told new may has lays.fits indexed (more_numbers (Some told) new has lays) opened later is ∙ lays.lies))

  pub newest_stopped : (stop : KeptStop) (old new : Option History) → HasWritten kept false images pair old new → IsLaid kept old images change commit
      → (opening : Opening) → IsOpenedAt opening kept old → newest_told (stopped kept pair stop) new ≡ newest_told kept old
  newest_stopped stop None new has lays opening opened = ap (newest_told (stopped kept pair stop)) has.steps
  newest_stopped stop (Some told) new has lays opening opened =
      still_told (IsCommitStep (current_file kept.pair) (current_header kept.pair)) told
      (λ (t : Option History). newest_told (stopped kept pair stop) t ≡ Some (newest_in kept.pair (reads told))) new has.steps
      (λ later is. ap (λ (m : PageMap). Some m) (way_newest opening kept images pair stop told new may has lays.fits opened later is))

  pub stop_is_laid : (stop : KeptStop) (old new : Option History) → HasWritten kept false images pair old new → IsLaid kept old images change commit → stop.images ≡ images → stop.size ≡ kept.size
      → (opening : Opening) → IsOpenedAt opening kept old → stop_map (stopped kept pair stop) stop new ≡ option_map (λ pages. laid pages change) (newest_told kept old)
  stop_is_laid stop None new has lays is_images is_size opening opened = ap (stop_map (stopped kept pair stop) stop) has.steps
  stop_is_laid stop (Some told) new has lays is_images is_size opening opened =
      still_told (IsCommitStep (current_file kept.pair) (current_header kept.pair)) told
      (λ (t : Option History). stop_map (stopped kept pair stop) stop t ≡ Some (laid (newest_in kept.pair (reads told)) change)) new has.steps
      (λ later is. ap (λ (m : PageMap). Some m) ((λ i. map_under (way_newest opening kept images pair stop told new may has lays.fits opened later is i) (is_images i) (is_size i)) ∙ lays.lies))

-- A store is live after a commit that was written, or failed in writing.
use Rattle.std.proofs.Common.{◌≡◌, ◌∙◌, ℕ, ◌+◌, ◌*◌, ◌≤◌, true, false, List, [], length, get_or, length-append, sym, ap, subst, inl, inr, arith, Option, Some, None, All, Contains}
use Rattle.std.specs.Prelude.{◌⊎◌, IfSome}
use Rattle.std.specs.Option.{option_map}
use Rattle.std.proofs.lemmas.List.{length-map}
use Rattle.std.proofs.lemmas.List.Elements.{All-append, Contains-get_or}
use Rattle.disk_face.specs.Files.{content}
use Rattle.disk_face.specs.Steps.{History, reads}
use Rattle.page_spec.specs.PageMap.{PageMap}
use Rattle.log_spec.specs.LogHeader.{LogFields}
use Rattle.log_spec.specs.Frames.{frame_place}
use Rattle.crash_spec.specs.Opening.{Since}
use Rattle.engine_spec.specs.declared.commits.Commit.{Commit}
use Rattle.engine_spec.specs.declared.commits.PageImage.{PageImage}
use Rattle.engine_spec.specs.declared.pins.Pin.{Pin}
use Rattle.engine_spec.specs.declared.pins.Readers.{Readers}
use Rattle.engine_spec.specs.Change.{Change, laid}
use Rattle.engine_spec.specs.Good.{HasSizes}
use Rattle.engine_spec.specs.TwoLogs.{TwoLogs}
use Rattle.engine_spec.specs.Written.{Submitted}
use Rattle.engine_spec.proofs.Laying.{laid-length, laid-whole, legal_size, IsWhole}
use Rattle.wal_frames.specs.Found.{log_file}
use Rattle.wal_index.specs.Index.{Indexed, log_in}
use Rattle.wal_rules.specs.Indexing.{IsIndexOf}
use Rattle.log_pair.specs.Pair.{PairView, log_of, other_number, current_file, current_header}
use Rattle.log_pair.specs.Switch.{other_file}
use Rattle.log_commit.specs.Commit.{IsCommitStep, map_under}
use Rattle.store_spec.specs.Store.{StoreData, KeptStop, newest_in, newest_told, two_logs}
use Rattle.store_spec.specs.Pins.{IsOfCurrent}
use Rattle.store_spec.specs.Standing.{IsWholeStore, IsCountedLog, IsReadable, IsLiveStore}
use Rattle.store_spec.specs.Steps.{HasIndexed, committed, stopped}
use Rattle.store_spec.proofs.Commits.{index_keeps}
use Rattle.store_spec.proofs.Committed.{still_told, IsDone, IsOnWay, done_then, way_then, more_numbers, opened_committed, opened_stopped, newest_committed, newest_stopped}
use Rattle.store_spec.proofs.CommitPins.{HasBegun, GoesOnFrom}
use Rattle.store_spec.proofs.Committing.{IsCommitting, goes_stopped, read_committed, read_stopped, pin_committed, pin_stopped}
use Rattle.store_spec.proofs.FramesStand.{at_told, current_reach, other_reach}
use Rattle.store_spec.proofs.Writing.{IsPairOf, pair_more, pair_appended, current_header_of, other_header_of, other_frames_of, committed_view, stopped_view, Kept, View, Stopped}
use Rattle.store_spec.proofs.Writing as writing

-- log 1 and log 2 by the current one
one_is : (current : ℕ) → (current ≡ 1) ⊎ (current ≡ 2) → (1 ≡ current) ⊎ (1 ≡ other_number current)
one_is current (inl is) = inl (sym is)
one_is current (inr is) = inr (sym (ap other_number is))

two_is : (current : ℕ) → (current ≡ 1) ⊎ (current ≡ 2) → (2 ≡ current) ⊎ (2 ≡ other_number current)
two_is current (inl is) = inr (sym (ap other_number is))
two_is current (inr is) = inl (sym is)

-- the rising generations of another pair with the same headers
rising_on : (old new : PairView) → IsPairOf old new → (log_of old (other_number old.current)).header.generation + 1 ≡ (current_header old).generation
    → (log_of new (other_number new.current)).header.generation + 1 ≡ (current_header new).generation
rising_on old new same rising =
    ap (λ (h : LogFields). h.generation + 1) (other_header_of old new same) ∙ rising ∙ sym (ap (λ (h : LogFields). h.generation) (current_header_of old new same))

module _ (kept : StoreData) (images : List PageImage) (pair : PairView) (index : Indexed) (asked : Submitted) (commit : Commit) (old new : Option History)
    (c : IsCommitting kept true images pair asked commit old new) (indexed : HasIndexed kept commit index) (whole : IsWholeStore kept) where
  made : IsPairOf kept.pair pair × ((log_of pair pair.current).frames ≡ (log_of kept.pair kept.pair.current).frames + length images) × (pair.appended ≡ 0)
  made = pair_more kept.pair pair (length images) c.has.writes.becomes

  counted_current : (log : ℕ) → log ≡ kept.pair.current → IsCountedLog kept log → IsCountedLog (committed kept pair index commit) log
  counted_current log is counts = subst (IsCountedLog (committed kept pair index commit)) (sym is) (
      let old_counts = subst (IsCountedLog kept) is counts in
      record {
        counted = ap length indexed.pages ∙ length-append (log_in kept.index kept.pair.current).pages commit.wrote
            ∙ omega (arith, old_counts.counted, ap length c.lays.numbers, length-map images (λ (image : PageImage). image.page), made.1, ap (λ (n : ℕ). (log_of pair n).frames) made.0.current);
        pages = subst (All (λ page. (1 ≤ page) × (page ≤ kept.size))) (sym indexed.pages)
            (All-append (λ (page : ℕ). (1 ≤ page) × (page ≤ kept.size)) (log_in kept.index kept.pair.current).pages commit.wrote old_counts.pages c.lays.within);
      }
      )

  counted_other : (log : ℕ) → log ≡ other_number kept.pair.current → IsCountedLog kept log → IsCountedLog (committed kept pair index commit) log
  counted_other log is counts = subst (IsCountedLog (committed kept pair index commit)) (sym is) (
      let old_counts = subst (IsCountedLog kept) is counts in
      record {
        counted = ap length indexed.other.pages ∙ old_counts.counted ∙ sym made.0.other;
        pages = subst (All (λ page. (1 ≤ page) × (page ≤ kept.size))) (sym indexed.other.pages) old_counts.pages;
      }
      )

  counted_on : (log : ℕ) → (log ≡ kept.pair.current) ⊎ (log ≡ other_number kept.pair.current) → IsCountedLog kept log → IsCountedLog (committed kept pair index commit) log
  counted_on log (inl is) counts = counted_current log is counts
  counted_on log (inr is) counts = counted_other log is counts

  pub whole_committed : IsWholeStore (committed kept pair index commit)
  whole_committed = record {
    legal = whole.legal;
    usable = whole.usable;
    some = whole.some;
    fits = whole.fits;
    limit = whole.limit;
    pair = c.legal;
    page_size = ap (λ (h : LogFields). h.page_size) (current_header_of kept.pair pair made.0) ∙ whole.page_size;
    rising = rising_on kept.pair pair made.0 whole.rising;
    current = whole.current ∙ sym made.0.current;
    index = index_keeps kept pair commit index made.0.current (current_header_of kept.pair pair made.0) whole.index indexed c.lays.first;
    log1 = counted_on 1 (one_is kept.pair.current whole.pair.which) whole.log1;
    log2 = counted_on 2 (two_is kept.pair.current whole.pair.which) whole.log2;
    sealed = λ none. made.2;
  }

-- the logs of a store whose pair has the same
pub stopped_logs : (kept : StoreData) (pair : PairView) (stop : KeptStop) → IsPairOf kept.pair pair → GoesOnFrom kept (stopped kept pair stop) [] → two_logs (stopped kept pair stop) ≡ two_logs kept
stopped_logs kept pair stop same goes = λ i. record {
  current = same.current i;
  generation = (current_header_of kept.pair pair same i).generation;
  since = goes.since i;
  other_since = goes.other_since i;
  done = kept.state.done;
  copied = kept.state.copied;
  limit = kept.limit;
}

pub whole_stopped : (kept : StoreData) (images : List PageImage) (pair : PairView) (stop : KeptStop) (asked : Submitted) (commit : Commit) (old new : Option History)
    → IsCommitting kept false images pair asked commit old new → IsWholeStore kept → IsWholeStore (stopped kept pair stop)
whole_stopped kept images pair stop asked commit old new c whole =
    let same = (pair_appended kept.pair pair c.has.writes.becomes).0 in
    record {
      legal = whole.legal;
      usable = whole.usable;
      some = whole.some;
      fits = whole.fits;
      limit = whole.limit;
      pair = c.legal;
      page_size = ap (λ (h : LogFields). h.page_size) (current_header_of kept.pair pair same) ∙ whole.page_size;
      rising = rising_on kept.pair pair same whole.rising;
      current = whole.current ∙ sym same.current;
      index = subst (λ (logs : TwoLogs). IsIndexOf kept.index logs kept.history) (sym (stopped_logs kept pair stop same (goes_stopped kept images pair stop asked commit old new c))) whole.index;
      log1 = record { counted = whole.log1.counted ∙ sym (ap (λ (p : PairView). p.one.frames) c.has.writes.becomes); pages = whole.log1.pages };
      log2 = record { counted = whole.log2.counted ∙ sym (ap (λ (p : PairView). p.two.frames) c.has.writes.becomes); pages = whole.log2.pages };
      sealed = λ none. absurd (let e = none in cc);
    }

-- how far the files reach, by the current log
pub readable_of : (kept : StoreData) (told : History) → (kept.pair.current ≡ 1) ⊎ (kept.pair.current ≡ 2)
    → frame_place (current_header kept.pair) (log_of kept.pair kept.pair.current).frames + 0 ≤ length (content (reads told) (current_file kept.pair))
    → frame_place (log_of kept.pair (other_number kept.pair.current)).header (log_of kept.pair (other_number kept.pair.current)).frames + 0 ≤ length (content (reads told) (other_file kept.pair))
    → kept.size * kept.page_size + 0 ≤ length (reads told).main → IsReadable kept (Some told)
readable_of kept told which current other main = by which
  where
    open_at : ℕ → Type 0
    open_at log = frame_place (log_of kept.pair log).header (log_of kept.pair log).frames + 0 ≤ length (content (reads told) (log_file log))

    by : (kept.pair.current ≡ 1) ⊎ (kept.pair.current ≡ 2) → IsReadable kept (Some told)
    by (inl is) = record {
      log1 = subst open_at is current;
      log2 = subst (λ (log : ℕ). open_at (other_number log)) is other;
      main = main;
    }
    by (inr is) = record {
      log1 = subst (λ (log : ℕ). open_at (other_number log)) is other;
      log2 = subst open_at is current;
      main = main;
    }

readable_untold : (kept : StoreData) → IsReadable kept None
readable_untold kept = record { log1 = tt; log2 = tt; main = tt }

pub readable_committed : (kept : StoreData) (images : List PageImage) (pair : PairView) (index : Indexed) (asked : Submitted) (commit : Commit) (readers : Readers) (pins : List Pin) (old new : Option History)
    → IsCommitting kept true images pair asked commit old new → HasIndexed kept commit index → IsLiveStore old kept readers pins → IsReadable (committed kept pair index commit) new
readable_committed kept images pair index asked commit readers pins None new c indexed live =
    subst (IsReadable (committed kept pair index commit)) (sym c.has.steps) (readable_untold (committed kept pair index commit))
readable_committed kept images pair index asked commit readers pins (Some told) new c indexed live =
    still_told (IsCommitStep (current_file kept.pair) (current_header kept.pair)) told (IsReadable (committed kept pair index commit)) new c.has.steps at
  where
    at : (later : History) → new ≡ Some later → IsReadable (committed kept pair index commit) (Some later)
    at later is =
        let opening = live.opening in
        let opened = live.opened in
        let numbers = more_numbers kept images pair asked.change commit c.may (Some told) new c.has c.lays in
        let same = (pair_more kept.pair pair (length images) c.has.writes.becomes).0 in
        let made : PageMap = map_under (newest_in kept.pair (reads told)) images kept.size in
        let done : Since opening.start (IsDone opening kept images pair index commit told new c.may c.has c.lays.fits indexed numbers opened) (Some later) =
        done_then opening kept images pair index commit told new c.may c.has c.lays.fits indexed numbers opened later is in
        let main = live.readable.main in
        let read = (read_committed opening kept images pair index asked commit told later new c indexed opened is).0 in
        readable_of (committed kept pair index commit) later c.legal.which
        (at_told opening.start (IsDone opening kept images pair index commit told new c.may c.has c.lays.fits indexed numbers opened)
        (λ f. frame_place (current_header pair) (log_of pair pair.current).frames + 0 ≤ length (content f (current_file pair))) later
        (λ t d. current_reach opening (committed kept pair index commit) (View opening kept pair index commit (reads told) c.has.more made t c.may.running same indexed numbers d.0 d.1) t
        (committed_view opening kept pair index commit (reads told) c.has.more made t c.may.running same indexed numbers d.0 d.1) d.1.0) done)
        (at_told opening.start (IsDone opening kept images pair index commit told new c.may c.has c.lays.fits indexed numbers opened)
        (λ f. frame_place (log_of pair (other_number pair.current)).header (log_of pair (other_number pair.current)).frames + 0 ≤ length (content f (other_file pair))) later
        (λ t d. other_reach opening (committed kept pair index commit) (View opening kept pair index commit (reads told) c.has.more made t c.may.running same indexed numbers d.0 d.1) t
        (committed_view opening kept pair index commit (reads told) c.has.more made t c.may.running same indexed numbers d.0 d.1) d.1.0) done)
        (subst (λ (bytes : List ℕ). kept.size * kept.page_size + 0 ≤ length bytes) (sym read.main) main)

pub readable_stopped : (kept : StoreData) (images : List PageImage) (pair : PairView) (stop : KeptStop) (asked : Submitted) (commit : Commit) (readers : Readers) (pins : List Pin) (old new : Option History)
    → IsCommitting kept false images pair asked commit old new → IsLiveStore old kept readers pins → IsReadable (stopped kept pair stop) new
readable_stopped kept images pair stop asked commit readers pins None new c live =
    subst (IsReadable (stopped kept pair stop)) (sym c.has.steps) (readable_untold (stopped kept pair stop))
readable_stopped kept images pair stop asked commit readers pins (Some told) new c live =
    still_told (IsCommitStep (current_file kept.pair) (current_header kept.pair)) told (IsReadable (stopped kept pair stop)) new c.has.steps at
  where
    at : (later : History) → new ≡ Some later → IsReadable (stopped kept pair stop) (Some later)
    at later is =
        let opening = live.opening in
        let opened = live.opened in
        let same = pair_appended kept.pair pair c.has.writes.becomes in
        let made : PageMap = map_under (newest_in kept.pair (reads told)) images kept.size in
        let way : Since opening.start (IsOnWay opening kept images pair stop told new c.may c.has c.lays.fits opened) (Some later) =
        way_then opening kept images pair stop told new c.may c.has c.lays.fits opened later is in
        let main = live.readable.main in
        let read = (read_stopped opening kept images pair stop asked commit told later new c opened is).0 in
        readable_of (stopped kept pair stop) later c.legal.which
        (at_told opening.start (IsOnWay opening kept images pair stop told new c.may c.has c.lays.fits opened)
        (λ f. frame_place (current_header pair) (log_of pair pair.current).frames + 0 ≤ length (content f (current_file pair))) later
        (λ t w. current_reach opening (stopped kept pair stop) (writing.Coming opening kept pair stop (reads told) made t same.0 same.1 w.0 w.1) t
        (stopped_view opening kept pair stop (reads told) made t same.0 same.1 w.0 w.1) w.1.1) way)
        (at_told opening.start (IsOnWay opening kept images pair stop told new c.may c.has c.lays.fits opened)
        (λ f. frame_place (log_of pair (other_number pair.current)).header (log_of pair (other_number pair.current)).frames + 0 ≤ length (content f (other_file pair))) later
        (λ t w. other_reach opening (stopped kept pair stop) (writing.Coming opening kept pair stop (reads told) made t same.0 same.1 w.0 w.1) t
        (stopped_view opening kept pair stop (reads told) made t same.0 same.1 w.0 w.1) w.1.1) way)
        (subst (λ (bytes : List ℕ). kept.size * kept.page_size + 0 ≤ length bytes) (sym read.main) main)

-- a map that a change is laid on keeps its sizes
sizes_laid : (size page_size : ℕ) (change : Change) (pages : Option PageMap) → 100 ≤ page_size → IsWhole size page_size change → IfSome pages (λ pages. HasSizes pages size page_size)
    → IfSome (option_map (λ pages. laid pages change) pages) (λ pages. HasSizes pages size page_size)
sizes_laid size page_size change None legal whole sizes = tt
sizes_laid size page_size change (Some pages) legal whole sizes = record {
  count = laid-length pages change whole.fresh ∙ sizes.count;
  each = laid-whole pages change size page_size legal whole (omega (arith, sizes.count)) sizes.each;
}

pub live_committed : (kept : StoreData) (images : List PageImage) (pair : PairView) (index : Indexed) (asked : Submitted) (commit : Commit) (readers : Readers) (pins : List Pin) (old new : Option History)
    → IsCommitting kept true images pair asked commit old new → HasIndexed kept commit index → ((pin : Pin) → Contains pins pin → IsOfCurrent kept pin → HasBegun kept)
    → IsLiveStore old kept readers pins → IsLiveStore new (committed kept pair index commit) readers pins
live_committed kept images pair index asked commit readers pins old new c indexed begun live = record {
  whole = whole_committed kept images pair index asked commit old new c indexed live.whole;
  readable = readable_committed kept images pair index asked commit readers pins old new c indexed live;
  sizes = subst (λ (pages : Option PageMap). IfSome pages (λ pages. HasSizes pages kept.size kept.page_size))
      (sym (newest_committed kept images pair asked.change commit c.may index old new c.has c.lays indexed live.opening live.opened))
      (sizes_laid kept.size kept.page_size asked.change (newest_told kept old) (let least = legal_size kept.page_size live.whole.legal in omega arith) c.whole live.sizes);
  hold = λ k d within. (pin_committed kept images pair index asked commit readers pins old new c indexed live (get_or pins k d) (begun (get_or pins k d) (Contains-get_or pins k d within)) (live.hold k d within)).0;
  counted = live.counted;
  opening = live.opening;
  opened = opened_committed kept images pair asked.change commit c.may index old new c.has c.lays indexed live.opening live.opened;
}

pub live_stopped : (kept : StoreData) (images : List PageImage) (pair : PairView) (stop : KeptStop) (asked : Submitted) (commit : Commit) (readers : Readers) (pins : List Pin) (old new : Option History)
    → IsCommitting kept false images pair asked commit old new → stop.images ≡ images → stop.size ≡ kept.size
    → IsLiveStore old kept readers pins → IsLiveStore new (stopped kept pair stop) readers pins
live_stopped kept images pair stop asked commit readers pins old new c is_images is_size live = record {
  whole = whole_stopped kept images pair stop asked commit old new c live.whole;
  readable = readable_stopped kept images pair stop asked commit readers pins old new c live;
  sizes = subst (λ (pages : Option PageMap). IfSome pages (λ pages. HasSizes pages kept.size kept.page_size))
      (sym (newest_stopped kept images pair asked.change commit c.may stop old new c.has c.lays live.opening live.opened)) live.sizes;
  hold = λ k d within. (pin_stopped kept images pair stop asked commit readers pins old new c live (get_or pins k d) (live.hold k d within)).0;
  counted = live.counted;
  opening = live.opening;
  opened = opened_stopped kept images pair asked.change commit c.may stop old new c.has c.lays is_images is_size live.opening live.opened;
}

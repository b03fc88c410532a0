-- What holds besides of a store between its calls goes on over a commit, a switch to the other log, and where either fails.
use Rattle.std.proofs.Common.{◌≡◌, ◌∙◌, ℕ, zero, suc, ◌<◌, ◌≤◌, ◌==◌, true, false, if◌then◌else◌, List, [], ◌∷◌, length, take, map, append-nil, add-one, refl, sym, ap, subst, inl, inr, arith, Option, Some, None, All, Contains}
use Rattle.std.specs.Prelude.{IfSome}
use Rattle.std.specs.List.Sorted.{IsStrictlyIncreasing}
use Rattle.std.proofs.lemmas.List.Elements.{All-head, All-contains}
use Rattle.disk_face.specs.Steps.{History, reads}
use Rattle.page_spec.specs.Header.{fields_of, page_size_in}
use Rattle.log_spec.specs.Accept.{page_numbers}
use Rattle.log_spec.specs.Checksum.{Sum}
use Rattle.log_spec.specs.LogHeader.{LogFields}
use Rattle.crash_spec.specs.Opening.{Opening}
use Rattle.crash_spec.specs.Store.{named_size}
use Rattle.engine_spec.specs.declared.commits.Commit.{Commit}
use Rattle.engine_spec.specs.declared.commits.PageImage.{PageImage}
use Rattle.engine_spec.specs.declared.pins.Pin.{Pin}
use Rattle.engine_spec.specs.declared.pins.Readers.{Readers}
use Rattle.engine_spec.specs.TwoLogs.{may_switch}
use Rattle.engine_spec.specs.Written.{Submitted}
use Rattle.engine_spec.proofs.Conflicts.{contains_cases}
use Rattle.wal_index.specs.Index.{Indexed}
use Rattle.log_pair.specs.Pair.{PairView, current_file, current_header, switched_pair}
use Rattle.log_pair.specs.Switch.{next_header}
use Rattle.log_commit.specs.Commit.{IsCommitStep, AreFramesOf, page_under}
use Rattle.store_spec.specs.Store.{StoreData, KeptStop, current_read, other_read, since_of, other_since_of, two_logs}
use Rattle.store_spec.specs.Named.{AreNamed}
use Rattle.store_spec.specs.Pins.{PinHolds, IsOfCurrent, IsFront, IsOlderFront, mark_at}
use Rattle.store_spec.specs.Reading.{current_pages}
use Rattle.store_spec.specs.Standing.{IsWholeStore, IsLiveStore, IsOpenedAt, StandsOn}
use Rattle.store_spec.specs.Steady.{AllName, AreSalts, HasBegun, IsSteady}
use Rattle.store_spec.specs.Steps.{HasCleared, HasSwitched, HasIndexed, gone_over, committed, stopped}
use Rattle.store_spec.proofs.Named.{named_more, named_commit}
use Rattle.store_spec.proofs.NamedLaws as named_laws
use Rattle.store_spec.proofs.NamedLaws.{HasGrown, HasGoneOver, named_grown}
use Rattle.store_spec.proofs.FramesStand.{at_told}
use Rattle.store_spec.proofs.Writing.{pair_appended}
use Rattle.store_spec.proofs.Committed.{still_told, opened_committed}
use Rattle.store_spec.proofs.Committing.{IsCommitting, goes_committed, goes_stopped, read_committed, read_stopped}
use Rattle.store_spec.proofs.CommitLive.{whole_committed}
use Rattle.store_spec.proofs.CommitPins.{begun_after, none_current}
use Rattle.store_spec.proofs.CommitSalts.{salts_on, salts_switched}
use Rattle.store_spec.proofs.CommitAnswers.{frames_committed, frames_stopped}
use Rattle.store_spec.proofs.Switching.{IsAllowed, allowed, on_of}
use Rattle.store_spec.proofs.Switched.{FrontAlone, BothTold, switch_keeps, current_alone, other_alone, new_none, new_header_is, old_all}
use Rattle.store_spec.proofs.SwitchIndex.{since_over, other_since_over}
use Rattle.store_spec.proofs.SwitchLive as switch_live
use Rattle.store_spec.proofs.SwitchOpened.{IsReady, files_ready}

-- All of a steady store but that it has begun its current log: so it is between a switch and the commit that comes after it.
pub record IsSteadyBut (told : Option History) (kept : StoreData) (readers : Readers) (pins : List Pin) : Type 0 where
  pub named : AreNamed told kept readers
  pub frames : IfSome told (λ told. AllName kept.page_size (current_read kept.pair (reads told)))
  pub salts : AreSalts kept.pair
  pub smaller : All (λ pin. pin.size ≤ kept.size) pins

pub steady_but : (told : Option History) (kept : StoreData) (readers : Readers) (pins : List Pin) → IsSteady told kept readers pins → IsSteadyBut told kept readers pins
steady_but told kept readers pins steady = record { named = steady.named; frames = steady.frames; salts = steady.salts; smaller = steady.smaller }

-- nothing is named where nothing is told
named_untold : (kept : StoreData) (readers : Readers) → AreNamed None kept readers
named_untold kept readers = record { fronts = tt; older = λ some. tt }

-- Another store with the same commits in both logs, of which the same is read.
record ReadsSame (kept later : StoreData) (old new : History) : Type 0 where
  history : later.history ≡ kept.history
  since : since_of later ≡ since_of kept
  other_since : other_since_of later ≡ other_since_of kept
  current : later.pair.current ≡ kept.pair.current
  page_size : later.page_size ≡ kept.page_size
  main : (reads new).main ≡ (reads old).main
  other : other_read later.pair (reads new) ≡ other_read kept.pair (reads old)
  frames : current_read later.pair (reads new) ≡ current_read kept.pair (reads old)

-- its maps name the page size as before
named_same : (kept later : StoreData) (old new : History) (readers : Readers) → ReadsSame kept later old new → AreNamed (Some old) kept readers → AreNamed (Some new) later readers
named_same kept later old new readers same named = record {
  fronts = λ n front.
      (λ i. named_size (same.main i) (same.other i) (take (mark_at (same.history i) (same.since i) n) (same.frames i)))
      ∙ named.fronts n (front_back n front) ∙ sym same.page_size;
  older = λ some n front.
      (λ i. named_size (same.main i) [] (take (mark_at (same.history i) (same.other_since i) n) (same.other i)))
      ∙ named.older (subst (λ (current : ℕ). 0 < (if current == 1 then readers.part2 else readers.part1)) same.current some) n (older_back n front) ∙ sym same.page_size;
}
  where
    front_back : (n : ℕ) → IsFront later n → IsFront kept n
    front_back n front = record {
      least = omega (arith, front.least, same.since);
      most = omega (arith, front.most, ap length same.history);
      held = elim front.held [
        | inl above ↦ inl (omega (arith, above, same.since))
        | inr (inl none) ↦ inr (inl (sym same.since ∙ none))
        | inr (inr last) ↦ inr (inr (last ∙ ap length same.history))
      ];
    }

    older_back : (n : ℕ) → IsOlderFront later n → IsOlderFront kept n
    older_back n front = record {
      least = omega (arith, front.least, same.other_since);
      most = omega (arith, front.most, same.since);
      held = elim front.held [
        | inl above ↦ inl (omega (arith, above, same.other_since))
        | inr none ↦ inr (sym same.other_since ∙ none)
      ];
    }

-- The images of a commit: the first is of page 1, and no other one is.
record BeginWithPage1 (images : List PageImage) : Type 0 where
  first : PageImage
  rest : List PageImage
  are : images ≡ first ∷ rest
  one : first.page ≡ 1
  once : Contains (map (λ image. image.page) rest) 1 → ⊥

-- where numbers rise, the first is below each other one
rises_rest : (first : ℕ) (pages : List ℕ) → IsStrictlyIncreasing (first ∷ pages) → IsStrictlyIncreasing pages
rises_rest first pages rises k within =
    let step = rises (suc k) (omega arith) in
    rw (add-one k) (rw (add-one (suc k)) at step)

first_below : (first page : ℕ) (pages : List ℕ) → IsStrictlyIncreasing (first ∷ pages) → Contains pages page → first < page
first_below first page [] rises (k, within, is) = absurd (omega arith)
first_below first page (next ∷ pages) rises (zero, within, is) = let less : first < next = rises zero (omega arith) in omega (arith, less, is)
first_below first page (next ∷ pages) rises (suc k, within, is) =
    let less : first < next = rises zero (omega arith) in
    let more = first_below next page pages (rises_rest first (next ∷ pages) rises) (k, omega arith, is) in
    omega arith

-- so page 1 is the first of some numbers that rise
page_1_first : (images : List PageImage) (size : ℕ) → IsStrictlyIncreasing (map (λ image. image.page) images) → All (λ page. (1 ≤ page) × (page ≤ size)) (map (λ image. image.page) images)
    → Contains (map (λ image. image.page) images) 1 → BeginWithPage1 images
page_1_first [] size rises within there = absurd (let low = there.1 in omega arith)
page_1_first (image ∷ rest) size rises within there = record {
  first = image;
  rest = rest;
  are = refl;
  one = elim (contains_cases image.page 1 (map (λ image. image.page) rest) there) [
    | inl is ↦ is
    | inr later ↦ absurd (none later)
  ];
  once = none;
}
  where
    none : Contains (map (λ image. image.page) rest) 1 → ⊥
    none later =
        let some = (All-head (λ (page : ℕ). (1 ≤ page) × (page ≤ size)) image.page (map (λ image. image.page) rest) within).0 in
        let less = first_below image.page 1 (map (λ image. image.page) rest) rises later in
        omega arith

begins_with : (kept : StoreData) (images : List PageImage) (pair : PairView) (asked : Submitted) (commit : Commit) (old new : Option History) → IsCommitting kept true images pair asked commit old new
    → BeginWithPage1 images
begins_with kept images pair asked commit old new c =
    page_1_first images kept.size (subst IsStrictlyIncreasing c.lays.numbers c.wrote.rising) (subst (All (λ page. (1 ≤ page) × (page ≤ kept.size))) c.lays.numbers c.lays.within)
    (subst (λ (pages : List ℕ). Contains pages 1) c.lays.numbers c.lays.first)

-- the pages of the frames of the current log, wherever the store stands
current_there : (opening : Opening) (kept : StoreData) (told : History) → IsOpenedAt opening kept (Some told) → page_numbers (current_read kept.pair (reads told)) ≡ current_pages kept
current_there opening kept told opened =
    at_told opening.start (StandsOn opening kept) (λ files. page_numbers (current_read kept.pair files) ≡ current_pages kept) told by opened
  where
    by : (t : History) → StandsOn opening kept t → page_numbers (current_read kept.pair (reads t)) ≡ current_pages kept
    by t (inl on) = on.there.current_pages
    by t (inr torn) = torn.there.current_pages

-- the newest map of a store that isn't stopped names the page size
newest_named : (opening : Opening) (kept : StoreData) (told : History) → kept.stop ≡ None → IsOpenedAt opening kept (Some told)
    → named_size (reads told).main (other_read kept.pair (reads told)) (current_read kept.pair (reads told)) ≡ kept.page_size
newest_named opening kept told none opened =
    at_told opening.start (StandsOn opening kept) (λ files. named_size files.main (other_read kept.pair files) (current_read kept.pair files) ≡ kept.page_size) told
    (λ t stands. (on_of opening kept t none stands).holds.sized) opened

-- a commit that was written
module _ (kept : StoreData) (images : List PageImage) (pair : PairView) (index : Indexed) (asked : Submitted) (commit : Commit) (readers : Readers) (pins : List Pin) where
  named_committed : (old new : Option History) → IsCommitting kept true images pair asked commit old new → HasIndexed kept commit index → IsLiveStore old kept readers pins → AreNamed old kept readers
      → AreNamed new (committed kept pair index commit) readers
  named_committed None new c indexed live named =
      subst (λ (t : Option History). AreNamed t (committed kept pair index commit) readers) (sym c.has.steps) (named_untold (committed kept pair index commit) readers)
  named_committed (Some told) new c indexed live named =
      still_told (IsCommitStep (current_file kept.pair) (current_header kept.pair)) told (λ (t : Option History). AreNamed t (committed kept pair index commit) readers) new c.has.steps at
    where
      at : (later : History) → new ≡ Some later → AreNamed (Some later) (committed kept pair index commit) readers
      at later is =
          let goes = goes_committed kept images pair index asked commit (Some told) new c indexed in
          let read = (read_committed live.opening kept images pair index asked commit told later new c indexed live.opened is).0 in
          let opened : IsOpenedAt live.opening (committed kept pair index commit) (Some later) =
          subst (IsOpenedAt live.opening (committed kept pair index commit)) is
          (opened_committed kept images pair asked.change commit c.may index (Some told) new c.has c.lays indexed live.opening live.opened) in
          named_grown kept (committed kept pair index commit) told later commit c.has.more (record {
            history = refl;
            since = goes.since;
            other_since = goes.other_since;
            current = goes.pair.current;
            page_size = refl;
            main = read.main;
            other = read.other;
            frames = read.current;
            pages = current_there live.opening kept told live.opened;
            pages_later = current_there live.opening (committed kept pair index commit) later opened;
            newest = newest_named live.opening (committed kept pair index commit) later c.may.running opened;
          }) live.whole (whole_committed kept images pair index asked commit (Some told) new c indexed live.whole) readers named

  frames_named : (old new : Option History) → IsCommitting kept true images pair asked commit old new → HasIndexed kept commit index → (opening : Opening) → IsOpenedAt opening kept old
      → IfSome old (λ told. AllName kept.page_size (current_read kept.pair (reads told))) → IfSome new (λ told. AllName kept.page_size (current_read pair (reads told)))
  frames_named None new c indexed opening opened before =
      subst (λ (t : Option History). IfSome t (λ told. AllName kept.page_size (current_read pair (reads told)))) (sym c.has.steps) tt
  frames_named (Some told) new c indexed opening opened before =
      let begins = begins_with kept images pair asked commit (Some told) new c in
      frames_committed (AllName kept.page_size) kept images pair index asked commit (Some told) new opening c indexed opened
      (λ frames are. named_more kept.page_size frames c.has.more are
      (named_commit kept.page_size begins.first begins.rest c.has.more (subst (λ (is : List PageImage). AreFramesOf is c.has.more) begins.are (c.has.writes.frames refl)) begins.one begins.once
      (subst (λ (is : List PageImage). (below : List ℕ) → page_size_in (fields_of (page_under is 1 below)) ≡ kept.page_size) begins.are c.lays.fits.named)))
      before

  -- The store is steady after it, whether it had begun its current log or not.
  pub steady_committed : (old new : Option History) → IsCommitting kept true images pair asked commit old new → HasIndexed kept commit index
      → IsLiveStore old kept readers pins → IsSteadyBut old kept readers pins → IsSteady new (committed kept pair index commit) readers pins
  steady_committed old new c indexed live steady =
      let goes = goes_committed kept images pair index asked commit old new c indexed in
      record {
        named = named_committed old new c indexed live steady.named;
        frames = frames_named old new c indexed live.opening live.opened steady.frames;
        salts = salts_on kept.pair pair goes.pair steady.salts;
        begun = λ none. begun_after kept (committed kept pair index commit) commit goes;
        smaller = steady.smaller;
      }

-- a commit whose writing failed
module _ (kept : StoreData) (images : List PageImage) (pair : PairView) (stop : KeptStop) (asked : Submitted) (commit : Commit) (readers : Readers) (pins : List Pin) where
  named_stopped : (old new : Option History) → IsCommitting kept false images pair asked commit old new → (opening : Opening) → IsOpenedAt opening kept old → AreNamed old kept readers
      → AreNamed new (stopped kept pair stop) readers
  named_stopped None new c opening opened named =
      subst (λ (t : Option History). AreNamed t (stopped kept pair stop) readers) (sym c.has.steps) (named_untold (stopped kept pair stop) readers)
  named_stopped (Some told) new c opening opened named =
      still_told (IsCommitStep (current_file kept.pair) (current_header kept.pair)) told (λ (t : Option History). AreNamed t (stopped kept pair stop) readers) new c.has.steps
      (λ later is.
      let goes = goes_stopped kept images pair stop asked commit (Some told) new c in
      let read = (read_stopped opening kept images pair stop asked commit told later new c opened is).0 in
      named_same kept (stopped kept pair stop) told later readers (record {
        history = refl;
        since = goes.since;
        other_since = goes.other_since;
        current = goes.pair.current;
        page_size = refl;
        main = read.main;
        other = read.other;
        frames = read.current ∙ append-nil (current_read kept.pair (reads told));
      }) named)

  -- The store is steady after it.
  pub steady_stopped : (old new : Option History) → IsCommitting kept false images pair asked commit old new → IsLiveStore old kept readers pins → IsSteadyBut old kept readers pins
      → IsSteady new (stopped kept pair stop) readers pins
  steady_stopped old new c live steady = record {
    named = named_stopped old new c live.opening live.opened steady.named;
    frames = frames_stopped (AllName kept.page_size) kept images pair stop asked commit old new live.opening c live.opened steady.frames;
    salts = salts_on kept.pair pair (pair_appended kept.pair pair c.has.writes.becomes).0 steady.salts;
    begun = λ none. absurd (let some = none in cc);
    smaller = steady.smaller;
  }

-- a store that has gone over to its other log
named_gone : (kept : StoreData) (readers : Readers) (salt2 : ℕ) (sum : Sum) (index : Indexed) (old new : Option History) → IsWholeStore kept → IsAllowed kept readers → HasCleared kept index
    → BothTold (FrontAlone kept.pair) old new → IfSome old (λ told. IsReady kept (reads told)) → AreNamed old kept readers
    → AreNamed new (gone_over kept (switched_pair kept.pair (next_header kept.pair salt2 sum)) index) readers
named_gone kept readers salt2 sum index None None whole allowed cleared alone ready named = named_untold (gone_over kept (switched_pair kept.pair (next_header kept.pair salt2 sum)) index) readers
named_gone kept readers salt2 sum index None (Some later) whole allowed cleared alone ready named = absurd alone
named_gone kept readers salt2 sum index (Some told) None whole allowed cleared alone ready named = absurd alone
named_gone kept readers salt2 sum index (Some told) (Some later) whole allowed cleared alone ready named =
    let header : LogFields = next_header kept.pair salt2 sum in
    named_laws.named_over kept (gone_over kept (switched_pair kept.pair header) index) told later (record {
      history = refl;
      since = since_over kept readers whole allowed salt2 sum index cleared;
      other_since = other_since_over kept readers whole allowed salt2 sum index cleared;
      page_size = refl;
      main = alone.main;
      other = old_all kept.pair header whole.pair.which (reads later) ∙ current_alone kept.pair (reads told) (reads later) alone;
      frames = new_none kept.pair header (reads later);
      pages = ready.current_pages;
      other_pages = ready.other_pages;
      page_1 = ready.first;
    }) whole readers named

-- and one that failed in that
named_failed : (kept : StoreData) (readers : Readers) (stop : KeptStop) (old new : Option History) → BothTold (FrontAlone kept.pair) old new → AreNamed old kept readers
    → AreNamed new (stopped kept kept.pair stop) readers
named_failed kept readers stop None None alone named = named_untold (stopped kept kept.pair stop) readers
named_failed kept readers stop None (Some later) alone named = absurd alone
named_failed kept readers stop (Some told) None alone named = absurd alone
named_failed kept readers stop (Some told) (Some later) alone named =
    named_same kept (stopped kept kept.pair stop) told later readers (record {
      history = refl;
      since = refl;
      other_since = refl;
      current = refl;
      page_size = refl;
      main = alone.main;
      other = other_alone kept.pair (reads told) (reads later) alone;
      frames = current_alone kept.pair (reads told) (reads later) alone;
    }) named

-- a pin of the current log needs it begun; so it is where the store didn't go over
pub kept_begun : (told : Option History) (kept : StoreData) (readers : Readers) (pins : List Pin) → kept.stop ≡ None → IsSteady told kept readers pins
    → (pin : Pin) → Contains pins pin → IsOfCurrent kept pin → HasBegun kept
kept_begun told kept readers pins none steady pin there of = steady.begun none

module _ (kept : StoreData) (readers : Readers) (pins : List Pin) (salt2 : ℕ) (old new : Option History) (live : IsLiveStore old kept readers pins) (none : kept.stop ≡ None) where
  module _ (steady : IsSteadyBut old kept readers pins) where
    -- The switch was done.
    module _ (may : may_switch (two_logs kept) readers kept.history ≡ true) (pair : PairView) (index : Indexed) (cleared : HasCleared kept index) (has : HasSwitched kept true pair salt2 old new) where
      pub steady_gone : IsSteadyBut new (gone_over kept pair index) readers pins
      steady_gone =
          let may_go = allowed kept readers may in
          subst (λ (p : PairView). IsSteadyBut new (gone_over kept p index) readers pins) (sym has.switches.becomes) (record {
            named = named_gone kept readers salt2 has.sum index old new live.whole may_go cleared (switch_keeps true kept.pair has.bytes old new has.switches.is.whole has.switches.steps)
                (files_ready kept readers none live.whole may_go live.opening old live.opened) steady.named;
            frames = switch_live.named_over kept (next_header kept.pair salt2 has.sum) new;
            salts = salts_switched kept.pair salt2 has.sum steady.salts;
            smaller = steady.smaller;
          })

    -- The switch failed.
    module _ (pair : PairView) (stop : KeptStop) (has : HasSwitched kept false pair salt2 old new) where
      pub steady_failed : IsSteady new (stopped kept pair stop) readers pins
      steady_failed =
          let alone = switch_keeps false kept.pair has.bytes old new has.switches.is.whole has.switches.steps in
          subst (λ (p : PairView). IsSteady new (stopped kept p stop) readers pins) (sym has.switches.becomes) (record {
            named = named_failed kept readers stop old new alone steady.named;
            frames = switch_live.named_torn kept old new alone steady.frames;
            salts = steady.salts;
            begun = λ still. absurd (let some = still in cc);
            smaller = steady.smaller;
          })

  -- After a switch no pin is of the current log, so none needs it begun.
  module _ (pair : PairView) (index : Indexed) (has : HasSwitched kept true pair salt2 old new) where
    pub gone_current : (pin : Pin) → Contains pins pin → IsOfCurrent (gone_over kept pair index) pin → ⊥
    gone_current pin there =
        none_current kept (gone_over kept pair index) pin
        (ap (λ (p : PairView). (current_header p).generation) has.switches.becomes ∙ ap (λ (h : LogFields). h.generation) (new_header_is kept.pair (next_header kept.pair salt2 has.sum)))
        (All-contains (PinHolds old kept) pins pin live.hold there).place

    pub gone_begun : (pin : Pin) → Contains pins pin → IsOfCurrent (gone_over kept pair index) pin → HasBegun (gone_over kept pair index)
    gone_begun pin there of = absurd (gone_current pin there of)

-- A store that has gone over to its other log, or failed in that, is whole, its pins hold, and it stands for the same runs.
use Rattle.std.proofs.Common.{◌≡◌, ◌∙◌, ℕ, ◌+◌, ◌*◌, ◌<◌, ◌≤◌, true, false, List, length, refl, sym, ap, subst, inl, inr, arith, Contains, All, Option, Some, None}
use Rattle.std.specs.Prelude.{◌⊎◌, IfSome}
use Rattle.std.proofs.lemmas.Bool.Decides.{nat_tests}
use Rattle.std.proofs.lemmas.List.Elements.{All-nil, All-weaker, All-contains, All-contains_itself}
use Rattle.disk_face.specs.Files.{content}
use Rattle.disk_face.specs.Steps.{History, reads}
use Rattle.disk_face.specs.Told.{IsInside}
use Rattle.page_spec.specs.PageMap.{PageMap}
use Rattle.log_spec.specs.Checksum.{Sum}
use Rattle.log_spec.specs.LogHeader.{LogFields, is_generation, last_generation}
use Rattle.log_spec.specs.Frames.{frame_place}
use Rattle.engine_spec.specs.declared.pins.Pin.{Pin}
use Rattle.engine_spec.specs.declared.pins.Readers.{Readers}
use Rattle.engine_spec.specs.Good.{HasSizes}
use Rattle.wal_frames.specs.Found.{log_file}
use Rattle.wal_index.specs.Index.{Indexed}
use Rattle.log_pair.specs.Pair.{PairView, LogView, IsPair, IsLegalLog, log_of, other_number, current_file, current_header, switched_pair}
use Rattle.log_pair.specs.Switch.{next_header, other_file}
use Rattle.store_spec.specs.Store.{StoreData, KeptStop, current_read}
use Rattle.store_spec.specs.Pins.{PinHolds}
use Rattle.store_spec.specs.Steps.{HasCleared, HasSwitched, gone_over, stopped}
use Rattle.store_spec.specs.Standing.{IsWholeStore, IsCountedLog, IsReadable, IsOpenedAt, IsLiveStore}
use Rattle.store_spec.proofs.Runs.{counted_of}
use Rattle.store_spec.proofs.Named.{AllName, named_none}
use Rattle.store_spec.proofs.Switching.{IsAllowed}
use Rattle.store_spec.proofs.Switched.{FrontAlone, BothTold, switch_keeps, current_alone, new_none, new_log_is, old_log_is, new_header_is, back_log_is}
use Rattle.store_spec.proofs.SwitchIndex.{index_over}
use Rattle.store_spec.proofs.SwitchOpened.{files_ready, opened_over, opened_torn}
use Rattle.store_spec.proofs.SwitchPins.{newest_over_told, newest_torn_told, pin_holds_over, pin_holds_torn}

-- what holds of the current log and of the other one holds of log 1, and of log 2
one_of_both : (P : ℕ → Type 0) (log : ℕ) → (log ≡ 1) ⊎ (log ≡ 2) → P log → P (other_number log) → P 1 × P 2
one_of_both P log (inl is) current other = (subst P is current, subst (λ (n : ℕ). P (other_number n)) is other)
one_of_both P log (inr is) current other = (subst (λ (n : ℕ). P (other_number n)) is other, subst P is current)

-- the next generation is one of the other log
next_generation : (current generation : ℕ) → (current ≡ 1) ⊎ (current ≡ 2) → is_generation current generation ≡ true → generation < last_generation
    → is_generation (other_number current) (generation + 1) ≡ true
unfolding is_generation
next_generation current generation (inl is) legal less = rw is (let from = rw is at legal in grind (arith, nat_tests))
next_generation current generation (inr is) legal less = rw is (let from = rw is at legal in grind (arith, nat_tests))

-- headers are legal, each in its log, and for pages of one size
legal_of : (pair : PairView) → IsPair pair → IsLegalLog pair.current (log_of pair pair.current)
legal_of pair is = elim is.which [
  | inl one ↦ subst (λ (log : ℕ). IsLegalLog log (log_of pair log)) (sym one) is.one
  | inr two ↦ subst (λ (log : ℕ). IsLegalLog log (log_of pair log)) (sym two) is.two
]

module _ (kept : StoreData) (readers : Readers) (whole : IsWholeStore kept) (allowed : IsAllowed kept readers) (none : kept.stop ≡ None) (salt2 : ℕ) (sum : Sum) (index : Indexed) (cleared : HasCleared kept index) where
  abbrev header : LogFields
  header = next_header kept.pair salt2 sum

  abbrev over : PairView
  over = switched_pair kept.pair header

  new_legal : IsLegalLog (other_number kept.pair.current) (log_of over (other_number kept.pair.current))
  new_legal =
      let legal = legal_of kept.pair whole.pair in
      subst (IsLegalLog (other_number kept.pair.current)) (sym (new_log_is kept.pair header)) (record {
        page_size = legal.page_size;
        generation = next_generation kept.pair.current (current_header kept.pair).generation whole.pair.which legal.generation allowed.few;
      })

  old_legal : IsLegalLog kept.pair.current (log_of over kept.pair.current)
  old_legal = subst (IsLegalLog kept.pair.current) (sym (old_log_is kept.pair header)) (legal_of kept.pair whole.pair)

  pair_over : IsPair over
  pair_over =
      let both = one_of_both (λ (log : ℕ). IsLegalLog log (log_of over log)) kept.pair.current whole.pair.which old_legal new_legal in
      record {
        which = elim whole.pair.which [ inl one ↦ inr (ap other_number one) | inr two ↦ inl (ap other_number two) ];
        one = both.0;
        two = both.1;
        same_size = elim whole.pair.which [
          | inl one ↦ (let new = new_size one in let old = old_size one in new ∙ sym old)
          | inr two ↦ (let new = new_size two in let old = old_size two in old ∙ sym new)
        ];
        counted = omega (arith, ap (λ (log : LogView). log.frames) (new_log_is kept.pair header), whole.sealed none);
      }
    where
      new_size : {log : ℕ} → kept.pair.current ≡ log → (log_of over (other_number log)).header.page_size ≡ (current_header kept.pair).page_size
      new_size {log} is = subst (λ (n : ℕ). (log_of over (other_number n)).header.page_size ≡ (current_header kept.pair).page_size) is (ap (λ (view : LogView). view.header.page_size) (new_log_is kept.pair header))

      old_size : {log : ℕ} → kept.pair.current ≡ log → (log_of over log).header.page_size ≡ (current_header kept.pair).page_size
      old_size {log} is = subst (λ (n : ℕ). (log_of over n).header.page_size ≡ (current_header kept.pair).page_size) is (ap (λ (view : LogView). view.header.page_size) (old_log_is kept.pair header))

  counted_new : IsCountedLog (gone_over kept over index) (other_number kept.pair.current)
  counted_new = record {
    counted = ap (λ (pages : List ℕ). length pages) cleared.pages ∙ sym (ap (λ (log : LogView). log.frames) (new_log_is kept.pair header));
    pages = subst (λ (pages : List ℕ). All (λ page. (1 ≤ page) × (page ≤ kept.size)) pages) (sym cleared.pages) (All-nil (λ page. (1 ≤ page) × (page ≤ kept.size)));
  }

  counted_old : IsCountedLog (gone_over kept over index) kept.pair.current
  counted_old =
      let before = counted_of kept kept.pair.current whole whole.pair.which in
      record {
        counted = ap (λ (pages : List ℕ). length pages) cleared.current.pages ∙ before.counted ∙ sym (ap (λ (log : LogView). log.frames) (old_log_is kept.pair header));
        pages = subst (λ (pages : List ℕ). All (λ page. (1 ≤ page) × (page ≤ kept.size)) pages) (sym cleared.current.pages) before.pages;
      }

  -- What it keeps in memory fits together.
  pub whole_over : IsWholeStore (gone_over kept over index)
  whole_over =
      let both = one_of_both (IsCountedLog (gone_over kept over index)) kept.pair.current whole.pair.which counted_old counted_new in
      record {
        legal = whole.legal;
        usable = whole.usable;
        some = whole.some;
        fits = whole.fits;
        limit = whole.limit;
        pair = pair_over;
        page_size = ap (λ (h : LogFields). h.page_size) (new_header_is kept.pair header) ∙ whole.page_size;
        rising = omega (arith, ap (λ (log : LogView). log.header.generation) (back_log_is kept.pair header whole.pair.which), ap (λ (h : LogFields). h.generation) (new_header_is kept.pair header));
        current = refl;
        index = index_over kept readers whole allowed salt2 sum index cleared;
        log1 = both.0;
        log2 = both.1;
        sealed = λ still. whole.sealed none;
      }

-- and so it does where the switch failed
pub whole_torn : (kept : StoreData) (stop : KeptStop) → kept.stop ≡ None → IsWholeStore kept → IsWholeStore (stopped kept kept.pair stop)
whole_torn kept stop none whole = record {
  legal = whole.legal;
  usable = whole.usable;
  some = whole.some;
  fits = whole.fits;
  limit = whole.limit;
  pair = whole.pair;
  page_size = whole.page_size;
  rising = whole.rising;
  current = whole.current;
  index = whole.index;
  log1 = record { counted = whole.log1.counted; pages = whole.log1.pages };
  log2 = record { counted = whole.log2.counted; pages = whole.log2.pages };
  sealed = λ still. whole.sealed none;
}

-- the files reach as far as the store reads of a log
reach_of : (kept : StoreData) (told : Option History) (log : ℕ) → (log ≡ 1) ⊎ (log ≡ 2) → IsReadable kept told
    → IsInside told (log_file log) (frame_place (log_of kept.pair log).header (log_of kept.pair log).frames) 0
reach_of kept told log (inl is) readable = subst (λ (n : ℕ). IsInside told (log_file n) (frame_place (log_of kept.pair n).header (log_of kept.pair n).frames) 0) (sym is) readable.log1
reach_of kept told log (inr is) readable = subst (λ (n : ℕ). IsInside told (log_file n) (frame_place (log_of kept.pair n).header (log_of kept.pair n).frames) 0) (sym is) readable.log2

other_which : (log : ℕ) → (log ≡ 1) ⊎ (log ≡ 2) → (other_number log ≡ 1) ⊎ (other_number log ≡ 2)
other_which log (inl is) = inr (ap other_number is)
other_which log (inr is) = inl (ap other_number is)

pub readable_over : (kept : StoreData) (header : LogFields) (index : Indexed) (old new : Option History) → IsWholeStore kept → BothTold (FrontAlone kept.pair) old new → IsReadable kept old
    → IsReadable (gone_over kept (switched_pair kept.pair header) index) new
readable_over kept header index None None whole alone readable = record { log1 = tt; log2 = tt; main = tt }
readable_over kept header index None (Some later) whole alone readable = absurd alone
readable_over kept header index (Some told) None whole alone readable = absurd alone
readable_over kept header index (Some told) (Some later) whole alone readable =
    let far = reach_of kept (Some told) kept.pair.current whole.pair.which readable in
    let near = reach_of kept (Some told) (other_number kept.pair.current) (other_which kept.pair.current whole.pair.which) readable in
    let both = one_of_both
    (λ (log : ℕ). frame_place (log_of (switched_pair kept.pair header) log).header (log_of (switched_pair kept.pair header) log).frames + 0 ≤ length (content (reads later) (log_file log)))
    kept.pair.current whole.pair.which
    (subst (λ (view : LogView). frame_place view.header view.frames + 0 ≤ length (content (reads later) (current_file kept.pair))) (sym (old_log_is kept.pair header))
    (subst (λ (bytes : List ℕ). frame_place (current_header kept.pair) (log_of kept.pair kept.pair.current).frames + 0 ≤ length bytes) (sym alone.current) far))
    (subst (λ (view : LogView). frame_place view.header view.frames + 0 ≤ length (content (reads later) (other_file kept.pair))) (sym (new_log_is kept.pair header))
    (let long = alone.no_shorter in omega arith)) in
    record {
      log1 = both.0;
      log2 = both.1;
      main = subst (λ (main : List ℕ). kept.size * kept.page_size + 0 ≤ length main) (sym alone.main) readable.main;
    }

pub readable_torn : (kept : StoreData) (stop : KeptStop) (old new : Option History) → IsWholeStore kept → BothTold (FrontAlone kept.pair) old new → IsReadable kept old
    → IsReadable (stopped kept kept.pair stop) new
readable_torn kept stop None None whole alone readable = record { log1 = tt; log2 = tt; main = tt }
readable_torn kept stop None (Some later) whole alone readable = absurd alone
readable_torn kept stop (Some told) None whole alone readable = absurd alone
readable_torn kept stop (Some told) (Some later) whole alone readable =
    let far = reach_of kept (Some told) kept.pair.current whole.pair.which readable in
    let near = reach_of kept (Some told) (other_number kept.pair.current) (other_which kept.pair.current whole.pair.which) readable in
    let both = one_of_both
    (λ (log : ℕ). frame_place (log_of kept.pair log).header (log_of kept.pair log).frames + 0 ≤ length (content (reads later) (log_file log)))
    kept.pair.current whole.pair.which
    (subst (λ (bytes : List ℕ). frame_place (current_header kept.pair) (log_of kept.pair kept.pair.current).frames + 0 ≤ length bytes) (sym alone.current) far)
    (let long = alone.no_shorter in omega arith) in
    record {
      log1 = both.0;
      log2 = both.1;
      main = subst (λ (main : List ℕ). kept.size * kept.page_size + 0 ≤ length main) (sym alone.main) readable.main;
    }

-- the frames of page 1 in the current log name the page size after it too
pub named_over : (kept : StoreData) (next : LogFields) (new : Option History)
    → IfSome new (λ told. AllName kept.page_size (current_read (switched_pair kept.pair next) (reads told)))
named_over kept next None = tt
named_over kept next (Some later) = subst (AllName kept.page_size) (sym (new_none kept.pair next (reads later))) (named_none kept.page_size)

pub named_torn : (kept : StoreData) (old new : Option History) → BothTold (FrontAlone kept.pair) old new
    → IfSome old (λ told. AllName kept.page_size (current_read kept.pair (reads told))) → IfSome new (λ told. AllName kept.page_size (current_read kept.pair (reads told)))
named_torn kept None None alone named = tt
named_torn kept None (Some later) alone named = absurd alone
named_torn kept (Some told) None alone named = absurd alone
named_torn kept (Some told) (Some later) alone named = subst (AllName kept.page_size) (sym (current_alone kept.pair (reads told) (reads later) alone)) named

module _ (kept : StoreData) (readers : Readers) (pins : List Pin) (salt2 : ℕ) (old new : Option History) (live : IsLiveStore old kept readers pins) (none : kept.stop ≡ None)
    (allowed : IsAllowed kept readers) where
  -- The store that has gone over is live, with the same pins.
  pub live_over : (pair : PairView) (index : Indexed) → HasCleared kept index → HasSwitched kept true pair salt2 old new
      → IfSome old (λ told. AllName kept.page_size (current_read kept.pair (reads told))) → IsLiveStore new (gone_over kept pair index) readers pins
  live_over pair index cleared has named =
      let alone = switch_keeps true kept.pair has.bytes old new has.switches.is.whole has.switches.steps in
      let ready = files_ready kept readers none live.whole allowed live.opening old live.opened in
      subst (λ (p : PairView). IsLiveStore new (gone_over kept p index) readers pins) (sym has.switches.becomes) (record {
        whole = whole_over kept readers live.whole allowed none salt2 has.sum index cleared;
        readable = readable_over kept (next_header kept.pair salt2 has.sum) index old new live.whole alone live.readable;
        sizes = subst (λ (pages : Option PageMap). IfSome pages (λ pages. HasSizes pages kept.size kept.page_size))
            (sym (newest_over_told kept readers live.whole allowed salt2 has.sum index cleared old new alone ready)) live.sizes;
        hold = All-weaker (Contains pins) (PinHolds new (gone_over kept (switched_pair kept.pair (next_header kept.pair salt2 has.sum)) index))
            (λ pin there. pin_holds_over kept readers live.whole allowed salt2 has.sum index cleared old new alone ready named pins live.counted pin there
            (All-contains (PinHolds old kept) pins pin live.hold there)) pins (All-contains_itself pins);
        counted = live.counted;
        opening = live.opening;
        opened = subst (λ (p : PairView). IsOpenedAt live.opening (gone_over kept p index) new) has.switches.becomes
            (opened_over kept readers none live.whole allowed live.opening pair salt2 index old new cleared has live.opened);
      })

  -- And so is one that failed in that.
  pub live_torn : (pair : PairView) (stop : KeptStop) → HasSwitched kept false pair salt2 old new → IsLiveStore new (stopped kept pair stop) readers pins
  live_torn pair stop has =
      let alone = switch_keeps false kept.pair has.bytes old new has.switches.is.whole has.switches.steps in
      subst (λ (p : PairView). IsLiveStore new (stopped kept p stop) readers pins) (sym has.switches.becomes) (record {
        whole = whole_torn kept stop none live.whole;
        readable = readable_torn kept stop old new live.whole alone live.readable;
        sizes = subst (λ (pages : Option PageMap). IfSome pages (λ pages. HasSizes pages kept.size kept.page_size)) (sym (newest_torn_told kept stop old new alone)) live.sizes;
        hold = All-weaker (PinHolds old kept) (PinHolds new (stopped kept kept.pair stop)) (λ pin holds. pin_holds_torn kept stop old new alone pin holds) pins live.hold;
        counted = live.counted;
        opening = live.opening;
        opened = subst (λ (p : PairView). IsOpenedAt live.opening (stopped kept p stop) new) has.switches.becomes
            (opened_torn kept readers none live.whole allowed live.opening pair salt2 stop old new has live.opened);
      })

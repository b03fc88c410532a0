-- What a commit of a store does, said as of an engine.
use Rattle.std.proofs.Common.{◌≡◌, ℕ, zero, suc, ◌+◌, ◌*◌, ◌<◌, ◌≤◌, List, length, false, true, refl, arith, Contains, Result, Ok, Err}
use Rattle.std.proofs.lemmas.List.Elements.{All-contains}
use Rattle.disk_face.specs.declared.tells.DiskTells.{Ghosts as DiskGhosts}
use Rattle.engine_spec.specs.declared.commits.CommitFault.{CommitFault}
use Rattle.engine_spec.specs.declared.commits.CommitFault.TheVariants as fault
use Rattle.engine_spec.specs.declared.commits.Receipt.{Receipt}
use Rattle.engine_spec.specs.declared.commits.Receipt.TheVariants.{At, ReadOnly}
use Rattle.engine_spec.specs.declared.commits.Who.{Who}
use Rattle.engine_spec.specs.declared.pins.Pin.{Pin}
use Rattle.engine_spec.specs.declared.pins.Readers.{Readers}
use Rattle.engine_spec.specs.Events.{AcceptsCommit, RefusesCommit}
use Rattle.engine_spec.specs.State.{EngineState}
use Rattle.engine_spec.proofs.Here.{during_here}
use Rattle.page_face.specs.declared.means.Means.{Ghosts as Meaning}
use Rattle.page_face.specs.declared.prepared.Prepared.{Prepared}
use Rattle.page_face.specs.Prepared.{IsFit, submitted}
use Rattle.page_face.specs.Calls.{HasCommitted, CommitAnswers, CommitKeepsRuns, IsLaidOnEach, StandsForSome}
use Rattle.laying.proofs.Orders.{few_images}
use Rattle.store_spec.specs.Standing.{IsOpenedAt}
use Rattle.store.specs.declared.store.Store.{Store}
use Rattle.store.specs.Kept.{kept_of, state_of, IsLiveIn}
use Rattle.store.specs.Tells.{store_tells}
use Rattle.store.specs.Barring.{Bars}
use Rattle.store.specs.CommittedFrom.{before_of, AnswersFrom, KeepsRunsFrom, CommittedFrom}

-- where each page has some bytes there are no more pages than bytes
not_more : (pages size most : ℕ) → 1 ≤ size → pages * size ≤ most → pages ≤ most
not_more pages zero most some fits = absurd (omega arith)
not_more pages (suc size) most some fits = let is : pages * suc size ≡ pages * size + pages = one_more pages size in omega (arith, is, fits)
  where
    one_more : (pages size : ℕ) → pages * suc size ≡ pages * size + pages
    one_more pages size = grind arith

module _ {D W M : Type 0} (disk : DiskGhosts D) (loans : W → List ℕ) (means : Meaning M) (readers : Readers) (pin : Pin) (prepared : Prepared M) (who : Who) where
  answers : (old : Store D W M) (result : Result Receipt (CommitFault × Prepared M)) (after : EngineState) → AnswersFrom means (before_of disk loans old) readers pin prepared who result after
      → CommitAnswers means (store_tells disk loans means readers) old pin prepared who result after
  answers old (Ok (ReadOnly n)) after answer = answer
  answers old (Ok (At number)) after answer = answer
  answers old (Err refusal) after answer = answer

  keeps_runs : (old new : Store D W M) (result : Result Receipt (CommitFault × Prepared M)) → KeepsRunsFrom disk means (before_of disk loans old) readers pin prepared result new
      → CommitKeepsRuns means (store_tells disk loans means readers) old pin prepared result new
  keeps_runs old new (Ok (ReadOnly n)) runs = runs
  keeps_runs old new (Ok (At number)) runs = runs
  keeps_runs old new (Err refusal) runs = runs

  pub has_committed : (old new : Store D W M) (result : Result Receipt (CommitFault × Prepared M)) → CommittedFrom disk loans means (before_of disk loans old) readers pin prepared who result new
      → HasCommitted means (store_tells disk loans means readers) old pin prepared who result new
  has_committed old new result has = record {
    answer = answers old result (state_of disk new readers) has.answer;
    runs = keeps_runs old new result has.runs;
    stays = record {
      pins = record {
        hold = λ pins live. has.leaves.hold pins live.live live.steady;
        maps = λ one (pins, live, there). has.leaves.maps pins one live.live live.steady there;
      };
      may_begin = λ may. may;
      opened = has.leaves.opened;
      loans = has.leaves.names;
    };
  }

  pub reads_only : (store : Store D W M) → prepared.wrote ≡ false → HasCommitted means (store_tells disk loans means readers) store pin prepared who (Ok (ReadOnly prepared.snap)) store
  reads_only store nothing = record {
    answer = during_here (state_of disk store readers)
        (λ mid. AcceptsCommit (λ opening. IsOpenedAt opening (kept_of store) (disk.told store.disk)) mid (submitted prepared who) (ReadOnly prepared.snap) (state_of disk store readers)
        × IsLaidOnEach means (store_tells disk loans means readers) store pin prepared (ReadOnly prepared.snap) mid)
        ((nothing, refl, refl), tt);
    runs = λ first stood. stood;
    stays = record {
      pins = record { hold = λ pins live. live; maps = λ one live. refl };
      may_begin = λ may. may;
      opened = λ opening opened. opened;
      loans = refl;
    };
  }

  refuses : (store : Store D W M) (why : CommitFault) → prepared.wrote ≡ true → Bars (state_of disk store readers) (submitted prepared who) why
      → RefusesCommit (λ opening. IsOpenedAt opening (kept_of store) (disk.told store.disk)) (StandsForSome (store_tells disk loans means readers) store)
      (state_of disk store readers) (submitted prepared who) why (state_of disk store readers)
  refuses store (fault.Stopped log at) wrote bars = (wrote, bars, refl)
  refuses store (fault.BusySnapshot page number) wrote bars = (wrote, bars.0, bars.1, refl)
  refuses store (fault.SizeLimit pages frames) wrote bars = (wrote, bars.0, bars.1, bars.2, bars.3, bars.4, refl)
  refuses store fault.Memory wrote bars = absurd bars
  refuses store fault.Disk wrote bars = absurd bars
  refuses store (fault.Corrupt page) wrote bars = absurd bars

  pub barred : (store : Store D W M) (why : CommitFault) → prepared.wrote ≡ true → Bars (state_of disk store readers) (submitted prepared who) why
      → HasCommitted means (store_tells disk loans means readers) store pin prepared who (Err (why, prepared)) store
  barred store why wrote bars = record {
    answer = (
      refl,
      during_here (state_of disk store readers)
          (λ mid. RefusesCommit (λ opening. IsOpenedAt opening (kept_of store) (disk.told store.disk)) (StandsForSome (store_tells disk loans means readers) store) mid (submitted prepared who) why (state_of disk store readers))
          (refuses store why wrote bars),
    );
    runs = λ first stood. stood;
    stays = record {
      pins = record { hold = λ pins live. live; maps = λ one live. refl };
      may_begin = λ may. may;
      opened = λ opening opened. opened;
      loans = refl;
    };
  }

  -- no more pages are changed than the store has
  pub few_changed : (store : Store D W M) (pins : List Pin) → IsLiveIn disk store readers pins → Contains pins pin → IsFit (state_of disk store readers) pin prepared → length prepared.changed < 4294967296
  few_changed store pins live there fit =
      let few = few_images prepared.changed pin.size fit.different fit.in_range in
      let smaller : pin.size ≤ store.size = All-contains (λ (one : Pin). one.size ≤ store.size) pins pin live.steady.smaller there in
      let least = live.live.whole.usable.0 in
      let most = live.live.whole.usable.1 in
      let pages : store.size ≤ 1073741824 = not_more store.size store.page_size 1073741824 (omega (arith, least, most)) live.live.whole.fits in
      omega (arith, few, smaller, pages)

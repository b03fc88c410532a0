-- A commit that is refused before its first write, and a store that is as before but for its room, its buffer and its disk's faults.
use Rattle.std.proofs.Common.{◌≡◌, ◌∙◌, ℕ, List, ◌++◌, length, refl, sym, ap, subst, inl, Option, Err}
use Rattle.disk_face.specs.declared.tells.DiskTells.{Ghosts as DiskGhosts}
use Rattle.disk_face.specs.Faults.{Rose}
use Rattle.disk_face.specs.Stays.{OnlyReads}
use Rattle.disk_face.specs.Steps.{History}
use Rattle.page_spec.specs.PageMap.{PageMap}
use Rattle.engine_spec.specs.declared.commits.CommitFault.{CommitFault}
use Rattle.engine_spec.specs.declared.commits.CommitFault.TheVariants as fault
use Rattle.engine_spec.specs.declared.commits.Who.{Who}
use Rattle.engine_spec.specs.declared.pins.Pin.{Pin}
use Rattle.engine_spec.specs.declared.pins.Readers.{Readers}
use Rattle.engine_spec.specs.Events.{IsClear, RefusesCommit}
use Rattle.engine_spec.proofs.Here.{during_here}
use Rattle.page_face.specs.declared.means.Means.{Ghosts as Meaning}
use Rattle.page_face.specs.declared.prepared.Prepared.{Prepared}
use Rattle.page_face.specs.Prepared.{submitted}
use Rattle.store_spec.specs.Store.{StoreData, pin_told, store_state}
use Rattle.store_spec.specs.Standing.{IsLiveStore, StandsFrom, IsOpenedAt}
use Rattle.store_spec.specs.Steady.{IsSteady}
use Rattle.store.specs.declared.store.Store.{Store}
use Rattle.store.specs.Kept.{kept_of, state_of, IsAble, IsLiveIn}
use Rattle.store.specs.CommittedFrom.{before_of, StoodFrom, LeavesFrom, CommittedFrom}

-- A store that keeps what another does, over a disk that tells the same.
pub record Rests {D W M : Type 0} (disk : DiskGhosts D) (loans : W → List ℕ) (old new : Store D W M) : Type 0 where
  pub kept : kept_of new ≡ kept_of old
  pub told : disk.told new.disk ≡ disk.told old.disk
  pub able : IsAble disk old → IsAble disk new
  pub names : disk.loans new.disk ++ loans new.salts ≡ disk.loans old.disk ++ loans old.salts

module _ {D W M : Type 0} (disk : DiskGhosts D) (loans : W → List ℕ) where
  pub rests_again : (old mid new : Store D W M) → Rests disk loans old mid → Rests disk loans mid new → Rests disk loans old new
  rests_again old mid new one two = record {
    kept = two.kept ∙ one.kept;
    told = two.told ∙ one.told;
    able = λ able. two.able (one.able able);
    names = two.names ∙ one.names;
  }

  -- after a plan, which took room
  pub rests_planned : (old new : Store D W M) → kept_of new ≡ kept_of old → new ≡ record old { index = new.index; commits = new.commits; spare = new.spare } → new.spare.pages ≡ old.spare.pages
      → new.spare.bytes ≡ old.spare.bytes → Rests disk loans old new
  rests_planned old new kept same pages bytes = record {
    kept = kept;
    told = ap (λ (s : Store D W M). disk.told s.disk) same;
    able = λ able. record {
      attached = ap (λ (s : Store D W M). disk.attached s.disk) same ∙ able.attached;
      room = ap (λ (s : Store D W M). length s.buf.items) same ∙ able.room ∙ sym (ap (λ (s : Store D W M). s.page_size) same);
      none_kept = λ none. (let is = able.none_kept (sym (ap (λ (s : Store D W M). s.stop) same) ∙ none) in (pages ∙ is.0, bytes ∙ is.1));
    };
    names = ap (λ (s : Store D W M). disk.loans s.disk ++ loans s.salts) same;
  }

  -- after page 1 was laid in the buffer
  pub rests_laid : (old new : Store D W M) → new ≡ record old { disk = new.disk; buf = new.buf } → length new.buf.items ≡ length old.buf.items → OnlyReads disk old.disk new.disk → Rests disk loans old new
  rests_laid old new same size reads = record {
    kept = ap (λ (s : Store D W M). kept_of s) same;
    told = reads.told;
    able = λ able. record {
      attached = reads.attached ∙ able.attached;
      room = size ∙ able.room ∙ sym (ap (λ (s : Store D W M). s.page_size) same);
      none_kept = λ none. (let is = able.none_kept (sym (ap (λ (s : Store D W M). s.stop) same) ∙ none) in
          (ap (λ (s : Store D W M). s.spare.pages) same ∙ is.0, ap (λ (s : Store D W M). s.spare.bytes) same ∙ is.1));
    };
    names = (λ i. reads.loans i ++ loans (ap (λ (s : Store D W M). s.salts) same i));
  }

  module _ (readers : Readers) (old new : Store D W M) (rests : Rests disk loans old new) where
    live_same : (pins : List Pin) → IsLiveStore (disk.told old.disk) (kept_of old) readers pins → IsLiveStore (disk.told new.disk) (kept_of new) readers pins
    live_same pins live =
        subst (λ (t : Option History). IsLiveStore t (kept_of new) readers pins) (sym rests.told) (subst (λ (k : StoreData). IsLiveStore (disk.told old.disk) k readers pins) (sym rests.kept) live)

    steady_same : (pins : List Pin) → IsSteady (disk.told old.disk) (kept_of old) readers pins → IsSteady (disk.told new.disk) (kept_of new) readers pins
    steady_same pins steady =
        subst (λ (t : Option History). IsSteady t (kept_of new) readers pins) (sym rests.told) (subst (λ (k : StoreData). IsSteady (disk.told old.disk) k readers pins) (sym rests.kept) steady)

    pub lives_on : (pins : List Pin) → IsLiveIn disk old readers pins → IsLiveIn disk new readers pins
    lives_on pins live = record { able = rests.able live.able; live = live_same pins live.live; steady = steady_same pins live.steady }

    pub state_same : disk.faults new.disk ≡ disk.faults old.disk → state_of disk new readers ≡ state_of disk old readers
    state_same faults = λ i. store_state (rests.told i) (faults i) (rests.kept i) readers

    pub before_same : disk.faults new.disk ≡ disk.faults old.disk → before_of disk loans new ≡ before_of disk loans old
    before_same faults = λ i. record { kept = rests.kept i; told = rests.told i; faults = faults i; names = rests.names i }

    leaves_same : IsAble disk old → LeavesFrom disk loans (before_of disk loans old) readers new
    leaves_same able = record {
      hold = λ pins live steady. record { able = rests.able able; live = live_same pins live; steady = steady_same pins steady };
      maps = λ pins pin live steady there. (λ i. pin_told (rests.kept i) (rests.told i) pin);
      opened = λ opening opened. subst (λ (t : Option History). IsOpenedAt opening (kept_of new) t) (sym rests.told) (subst (λ (k : StoreData). IsOpenedAt opening k (disk.told old.disk)) (sym rests.kept) opened);
      names = rests.names;
    }

    module _ (means : Meaning M) (pin : Pin) (prepared : Prepared M) (who : Who) (able : IsAble disk old) (clear : IsClear (state_of disk old readers) (submitted prepared who)) where
      refused : (why : CommitFault) → RefusesCommit (λ opening. IsOpenedAt opening (kept_of old) (disk.told old.disk)) ((first : PageMap) × StoodFrom means (before_of disk loans old) readers first)
          (state_of disk old readers) (submitted prepared who) why (state_of disk new readers) → CommittedFrom disk loans means (before_of disk loans old) readers pin prepared who (Err (why, prepared)) new
      refused why refuses = record {
        answer = (
          refl,
          during_here (state_of disk old readers)
              (λ mid. RefusesCommit (λ opening. IsOpenedAt opening (kept_of old) (disk.told old.disk)) ((first : PageMap) × StoodFrom means (before_of disk loans old) readers first) mid (submitted prepared who) why (state_of disk new readers))
              refuses,
        );
        runs = λ first stood. subst (λ (t : Option History). StandsFrom (means.sound first) (means.leads first) first t (kept_of new) readers) (sym rests.told)
            (subst (λ (k : StoreData). StandsFrom (means.sound first) (means.leads first) first (disk.told old.disk) k readers) (sym rests.kept) stood);
        leaves = leaves_same able;
      }

      pub no_memory : disk.faults new.disk ≡ disk.faults old.disk → CommittedFrom disk loans means (before_of disk loans old) readers pin prepared who (Err (fault.Memory, prepared)) new
      no_memory faults = refused fault.Memory (clear, state_same faults)

      pub not_read : Rose (disk.faults old.disk) (disk.faults new.disk) → CommittedFrom disk loans means (before_of disk loans old) readers pin prepared who (Err (fault.Disk, prepared)) new
      not_read rose = refused fault.Disk (clear, rose, inl (λ i. store_state (rests.told i) (disk.faults new.disk) (rests.kept i) readers))

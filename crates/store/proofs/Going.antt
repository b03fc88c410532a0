-- A commit for which the store goes over to its other log, by how that is answered.
use Rattle.std.proofs.Common.{◌≡◌, ℕ, ◌≤◌, List, ◌++◌, true, refl, subst, Contains, Option, Some, None, Result, Ok, Err}
use Rattle.std.specs.Prelude.{IfSome, OnOk, OnErr, is_ok}
use Rattle.std.specs.Option.{option_map}
use Rattle.std.proofs.lemmas.List.Elements.{All-contains}
use Rattle.disk_face.specs.declared.Failed.{Failed}
use Rattle.disk_face.specs.declared.tells.DiskTells.{Ghosts as DiskGhosts}
use Rattle.disk_face.specs.Faults.{Counts}
use Rattle.disk_face.specs.Stays.{OnlyWrites}
use Rattle.disk_face.specs.Steps.{History}
use Rattle.page_spec.specs.PageMap.{page_at}
use Rattle.engine_spec.specs.declared.commits.CommitFault.TheVariants as fault
use Rattle.engine_spec.specs.declared.commits.PageImage.{PageImage}
use Rattle.engine_spec.specs.declared.commits.Who.{Who}
use Rattle.engine_spec.specs.declared.pins.Pin.{Pin}
use Rattle.engine_spec.specs.declared.pins.Readers.{Readers}
use Rattle.engine_spec.specs.Change.{laid}
use Rattle.engine_spec.specs.Events.{IsClear}
use Rattle.engine_spec.specs.TwoLogs.{may_switch}
use Rattle.engine_spec.specs.Written.{commit_of}
use Rattle.log_pair.specs.Pair.{other_number}
use Rattle.laying.specs.Order.{images_of}
use Rattle.page_face.specs.declared.means.Means.{Ghosts as Meaning}
use Rattle.page_face.specs.declared.prepared.Prepared.{Prepared}
use Rattle.page_face.specs.Prepared.{IsFit, change_in, submitted}
use Rattle.store_spec.specs.Store.{StoreData, newest_told, stop_told, two_logs}
use Rattle.store_spec.specs.Steps.{HasSwitched, HasCleared, gone_over, stopped}
use Rattle.store.specs.declared.plan.Plan.{Plan}
use Rattle.store.specs.declared.store.Halt.{Halt}
use Rattle.store.specs.declared.store.Store.{Store}
use Rattle.store.specs.Halts.{KeptPages}
use Rattle.store.specs.Kept.{kept_of, stop_of, bare, state_of, IsAble, IsLiveIn}
use Rattle.store.specs.Planning.{IsPlanOf}
use Rattle.store.specs.Committing.{kept_stop}
use Rattle.store.specs.CommittedFrom.{before_of, CommittedFrom, IsReadyFrom}
use Rattle.store.proofs.Laid.{is_laid}
use Rattle.store.proofs.Readying.{ready_over}
use Rattle.store.proofs.Torn.{torn_from}

-- a store that tells no failed write has none
pub not_halted : (kept : StoreData) (told : Option History) (page_size : ℕ) (spare : KeptPages) (stop : Option Halt)
    → option_map (stop_told kept told) (option_map (stop_of page_size spare) stop) ≡ None → stop ≡ None
not_halted kept told page_size spare None is = refl
not_halted kept told page_size spare (Some halt) is = absurd cc

module _ {D W M : Type 0} (disk : DiskGhosts D) (loans : W → List ℕ) (means : Meaning M) (readers : Readers) (old new : Store D W M) (plan : Plan) (prepared : Prepared M)
    (none : old.stop ≡ None) (may : may_switch (two_logs (kept_of old)) readers (kept_of old).history ≡ true)
    (stays : OnlyWrites disk old.disk new.disk) (salts : loans new.salts ≡ loans old.salts) where
  names : disk.loans new.disk ++ loans new.salts ≡ disk.loans old.disk ++ loans old.salts
  names = λ i. stays.loans i ++ salts i

  pub over_ok : (pins : List Pin) → IsLiveIn disk old readers pins → (result : Result Unit Failed) → (salt2 : ℕ) × HasSwitched (kept_of old) (is_ok result) new.pair salt2 (disk.told old.disk) (disk.told new.disk)
      → OnOk result (kept_of new ≡ gone_over (kept_of old) new.pair (bare new.index)) → OnOk result (HasCleared (kept_of old) (bare new.index))
      → Counts (is_ok result) (disk.faults old.disk) (disk.faults new.disk) → OnOk result (IsReadyFrom disk loans means (before_of disk loans old) readers new)
  over_ok pins live (Err why) has becomes cleared counts = tt
  over_ok pins live (Ok done) has becomes cleared counts =
      ready_over disk loans means readers old new pins has.0 live none may has.1 cleared becomes counts names

  pub over_failed : (result : Result Unit Failed) (changed : List PageImage) → changed ≡ prepared.changed → (salt2 : ℕ) × HasSwitched (kept_of old) (is_ok result) new.pair salt2 (disk.told old.disk) (disk.told new.disk)
      → OnErr result (kept_of new ≡ stopped (kept_of old) new.pair (kept_stop (other_number old.pair.current) 0 old.size (images_of old.buf.items changed plan.order.items)))
      → Counts (is_ok result) (disk.faults old.disk) (disk.faults new.disk) → IsAble disk new → IsPlanOf prepared.changed plan
      → IfSome (newest_told (kept_of old) (disk.told old.disk)) (λ pages. old.buf.items ≡ page_at (laid pages (change_in prepared)) 1)
      → OnErr result ((pins : List Pin) (pin : Pin) (who : Who) → IsLiveIn disk old readers pins → Contains pins pin → IsFit (state_of disk old readers) pin prepared
      → IsClear (state_of disk old readers) (submitted prepared who) → CommittedFrom disk loans means (before_of disk loans old) readers pin prepared who (Err (fault.Disk, prepared)) new)
  over_failed (Ok done) changed same has stops counts able is is_first = tt
  over_failed (Err why) changed same has stops counts able is is_first = λ pins pin who live there fit clear.
      let smaller : pin.size ≤ (kept_of old).size = All-contains (λ (one : Pin). one.size ≤ (kept_of old).size) pins pin live.steady.smaller there in
      torn_from disk loans means readers old new pins pin has.0 (images_of old.buf.items prepared.changed plan.order.items) prepared who live none may has.1
      (subst (λ (images : List PageImage). kept_of new ≡ stopped (kept_of old) new.pair (kept_stop (other_number old.pair.current) 0 old.size (images_of old.buf.items images plan.order.items))) same stops)
      (is_laid (kept_of old) (state_of disk old readers) pin prepared plan old.buf.items refl fit smaller is (disk.told old.disk) readers pins (commit_of (submitted prepared who) plan.wrote) live.live live.steady.named is_first refl).lies
      clear counts able names

-- A commit whose frames were written and that was entered, by the contracts of both.
use Rattle.std.proofs.Common.{◌≡◌, ◌∙◌, ℕ, ◌+◌, List, [], ◌∷◌, ◌++◌, length, true, sym, ap, subst, Contains, Option, Ok}
use Rattle.std.specs.Prelude.{IfSome}
use Rattle.disk_face.specs.declared.tells.DiskTells.{Ghosts as DiskGhosts}
use Rattle.disk_face.specs.Stays.{OnlyWrites}
use Rattle.disk_face.specs.Steps.{History}
use Rattle.page_spec.specs.PageMap.{page_at}
use Rattle.engine_spec.specs.declared.commits.PageImage.{PageImage}
use Rattle.engine_spec.specs.declared.commits.Receipt.TheVariants.{At}
use Rattle.engine_spec.specs.declared.commits.Who.{Who}
use Rattle.engine_spec.specs.declared.pins.Pin.{Pin}
use Rattle.engine_spec.specs.declared.pins.Readers.{Readers}
use Rattle.engine_spec.specs.Change.{laid}
use Rattle.engine_spec.specs.Events.{IsClear}
use Rattle.engine_spec.specs.Written.{commit_of}
use Rattle.log_pair.specs.Pair.{PairView, IsPair}
use Rattle.laying.specs.Order.{images_of}
use Rattle.page_face.specs.declared.means.Means.{Ghosts as Meaning}
use Rattle.page_face.specs.declared.prepared.Prepared.{Prepared}
use Rattle.page_face.specs.Prepared.{IsFit, change_in, submitted}
use Rattle.store_spec.specs.Store.{newest_told}
use Rattle.store_spec.specs.Standing.{IsLiveStore}
use Rattle.store_spec.specs.Steady.{IsSteady}
use Rattle.store_spec.specs.Steps.{HasWritten}
use Rattle.store_spec.proofs.Writing.{pair_more}
use Rattle.store.specs.declared.plan.Plan.{Plan}
use Rattle.store.specs.declared.store.Store.{Store}
use Rattle.store.specs.Kept.{kept_of, IsAble}
use Rattle.store.specs.Planning.{IsPlanOf}
use Rattle.store.specs.CommittedFrom.{Before, state_before, IsReadyFrom, CommittedFrom}
use Rattle.store.specs.Writing.{HasEntered}
use Rattle.store.proofs.Finishing.{finish_ok}
use Rattle.store.proofs.Fitting.{has_indexed, makes, able_now, pair_now, disk_now, names_now}

-- the same log is current
pub current_now : {D W M : Type 0} (mid X : Store D W M) (images : List PageImage) (old new : Option History) → HasWritten (kept_of mid) true images X.pair old new → X.pair.current ≡ mid.pair.current
current_now mid X images old new has = (pair_more mid.pair X.pair (length images) has.writes.becomes).0.current

pub finished : {D W M : Type 0} (disk : DiskGhosts D) (loans : W → List ℕ) (means : Meaning M) (readers : Readers) (before : Before) (mid X new : Store D W M) (pins : List Pin) (pin : Pin) (plan : Plan)
    (prepared : Prepared M) (who : Who) → IsLiveStore before.told before.kept readers pins → IsSteady before.told before.kept readers pins → Contains pins pin → IsReadyFrom disk loans means before readers mid
    → IsFit (state_before before readers) pin prepared → IsClear (state_before before readers) (submitted prepared who) → IsPlanOf prepared.changed plan
    → IfSome (newest_told before.kept before.told) (λ pages. mid.buf.items ≡ page_at (laid pages (change_in prepared)) 1) → IsPair X.pair
    → HasWritten (kept_of mid) true (images_of mid.buf.items prepared.changed plan.order.items) X.pair (disk.told mid.disk) (disk.told X.disk)
    → X ≡ record mid { disk = X.disk; pair = X.pair } → new ≡ record X { index = new.index; commits = new.commits } → (number : ℕ) → number ≡ length X.commits.commits + 1
    → HasEntered X.index X.pair.current plan.wrote (length X.commits.commits + 1) prepared.tail new.index → new.commits.commits ≡ X.commits.commits ++ commit_of (submitted prepared who) plan.wrote ∷ []
    → disk.faults X.disk ≡ disk.faults mid.disk → IsAble disk X → OnlyWrites disk mid.disk X.disk → X.salts ≡ mid.salts
    → CommittedFrom disk loans means before readers pin prepared who (Ok (At number)) new
finished {D = D} {W = W} {M = M} disk loans means readers before mid X new pins pin plan prepared who live steady there ready fit clear is is_first legal has becomes same number numbered entered history faults able stays salts =
    let commit = commit_of (submitted prepared who) plan.wrote in
    let current = current_now mid X (images_of mid.buf.items prepared.changed plan.order.items) (disk.told mid.disk) (disk.told X.disk) has in
    let pairs = pair_now disk loans mid X new commit becomes same in
    let disks = disk_now disk loans mid X new commit becomes same in
    finish_ok disk loans means readers before mid new pins pin plan prepared who live steady there ready fit clear is is_first (subst IsPair (sym pairs) legal) number
    (subst (λ (pair : PairView). HasWritten (kept_of mid) true (images_of mid.buf.items prepared.changed plan.order.items) pair (disk.told mid.disk) (disk.told new.disk)) (sym pairs)
    (subst (λ (told : Option History). HasWritten (kept_of mid) true (images_of mid.buf.items prepared.changed plan.order.items) X.pair (disk.told mid.disk) told) (sym (ap disk.told disks)) has))
    (makes disk loans mid X new commit becomes same history)
    (has_indexed disk loans mid X new commit becomes same (ready.live pins live steady).whole.pair.which current entered)
    (numbered ∙ ap (λ (s : Store D W M). length s.commits.commits + 1) becomes)
    (ap disk.faults disks ∙ faults) (able_now disk loans mid X new commit becomes same able) (names_now disk loans mid X new commit becomes same stays.loans salts)

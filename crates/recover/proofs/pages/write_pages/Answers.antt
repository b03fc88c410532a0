use Rattle.std.proofs.Common.{◌≡◌, ℕ, ◌+◌, ◌*◌, length, refl, ◌∙◌, subst, arith, false}
use Rattle.disk_face.specs.declared.disk.File.TheVariants.{Main}
use Rattle.disk_face.specs.Told.{IsInside}
use Rattle.disk_face.proofs.Calls.{writes_twice, counts_twice}
use Rattle.crash_spec.specs.Passes.{Passes}
use Rattle.crash_spec.proofs.Passing.{passes_join}
use Rattle.opening_spec.specs.States.{IsWriting, AreSynced, LeavesMap}
use Rattle.recover.proofs.Placing.{inside_start, only_still, only_join, place_still, place_one, first_page}
use Rattle.recover.proofs.pages.write_pages.Goals as goal

pub loop-index-init : goal.loop-index-init
loop-index-init g c = record {
  within = omega arith;
  room = refl;
  only = only_still (g.D.DiskTells.told c.args.disk.now);
  reached = inside_start (length c.args.buf.now) (g.D.DiskTells.told c.args.disk.now);
  moments = λ view one two h sized are. first_page view one two (g.D.DiskTells.told c.args.disk.now) h;
  attached = c.requires.attached;
  stays = record { attached = refl; named = refl; journal_answer = refl; loans = refl };
  faults = refl;
}

pub loop-index-preserved : goal.loop-index-preserved
loop-index-preserved g c =
    let i = c.loop-index.invariant in
    let e = c.in-Ok.ensures in
    record {
      within = omega arith;
      room = omega (arith, i.room);
      only = only_join _ _ _ i.only e.only;
      reached = subst (λ (n : ℕ). IsInside (g.D.DiskTells.told c.settle_page.new.disk) Main ((c.loop-index.index + 1) * n) 0) i.room e.reached;
      moments = λ view one two h sized are.
          let before = i.moments view one two h sized are in
          passes_join view.opening (LeavesMap view) (λ told. IsWriting view one two (c.loop-index.index + 1) told) (λ told. IsWriting view one two (c.loop-index.index + 1 + 1) told) _ _ _ before
          (e.moments view one two before.holds (i.room ∙ sized) (place_still view one two (c.loop-index.index + 1) _ _ _ i.only (place_one view one two c.args.places.now c.loop-index.index _ (g.D.DiskTells.told c.args.disk.now) c.loop-index-test.true are)));
      attached = e.stays.attached ∙ i.attached;
      stays = writes_twice g.D.DiskTells _ _ _ i.stays e.stays;
      faults = e.faults ∙ i.faults;
    }

pub returns-in-Err-clause-moments : goal.returns-in-Err-clause-moments
returns-in-Err-clause-moments g c view one two h sized are =
    let i = c.loop-index.invariant in
    let e = c.in-Err.ensures in
    let before = i.moments view one two h sized are in
    passes_join view.opening (LeavesMap view) (λ told. IsWriting view one two (c.loop-index.index + 1) told) (λ told. AreSynced view one two told) _ _ _ before
    (e.moments view one two before.holds (i.room ∙ sized) (place_still view one two (c.loop-index.index + 1) _ _ _ i.only (place_one view one two c.args.places.now c.loop-index.index _ (g.D.DiskTells.told c.args.disk.now) c.loop-index-test.true are)))

pub returns-in-Err-clause-stays : goal.returns-in-Err-clause-stays
returns-in-Err-clause-stays g c = writes_twice g.D.DiskTells _ _ _ c.loop-index.invariant.stays c.in-Err.ensures.stays

pub returns-in-Err-clause-faults : goal.returns-in-Err-clause-faults
returns-in-Err-clause-faults g c = counts_twice false _ _ _ c.loop-index.invariant.faults c.in-Err.ensures.faults

pub returns-clause-moments : goal.returns-clause-moments
returns-clause-moments g c view one two h sized are =
    let i = c.loop-index.invariant in
    let all : c.loop-index.index ≡ length c.args.places.now = omega (arith, i.within) in
    subst (λ (n : ℕ). Passes view.opening (LeavesMap view) (IsWriting view one two (n + 1)) (g.D.DiskTells.told c.args.disk.now) (g.D.DiskTells.told c.loop-index.disk)) all (i.moments view one two h sized are)

pub returns-clause-only : goal.returns-clause-only
returns-clause-only g c = c.loop-index.invariant.only

pub returns-clause-stays : goal.returns-clause-stays
returns-clause-stays g c = c.loop-index.invariant.stays

pub returns-clause-faults : goal.returns-clause-faults
returns-clause-faults g c = c.loop-index.invariant.faults

pub returns-clause-reached : goal.returns-clause-reached
returns-clause-reached g c =
    let i = c.loop-index.invariant in
    let all : c.loop-index.index ≡ length c.args.places.now = omega (arith, i.within) in
    subst (λ (n : ℕ). IsInside (g.D.DiskTells.told c.loop-index.disk) Main (n * length c.args.buf.now) 0) all i.reached

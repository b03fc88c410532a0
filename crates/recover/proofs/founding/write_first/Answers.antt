use Rattle.std.proofs.Common.{◌≡◌, ℕ, ◌+◌, ◌-◌, ◌*◌, length, refl, sym, ◌∙◌, subst, arith}
use Rattle.disk_face.specs.declared.disk.File.TheVariants.{Main}
use Rattle.disk_face.specs.Told.{IsInside}
use Rattle.disk_face.proofs.Calls.{writes_twice}
use Rattle.crash_spec.specs.Passes.{Passes}
use Rattle.crash_spec.proofs.Passing.{passes_join}
use Rattle.opening_spec.specs.States.{IsWriting, AreSynced, LeavesMap}
use Rattle.recover.specs.NewPages.{first_then_zeros}
use Rattle.recover.proofs.Placing.{inside_start, first_page, wrote_reaches}
use Rattle.recover.proofs.FirstPages.{next_zeros, one_back, held_page}
use Rattle.recover.proofs.founding.write_first.Goals as goal

pub loop-number-init : goal.loop-number-init
loop-number-init g c = record {
  from = omega arith;
  within = omega (arith, c.requires.pages.0);
  room = refl;
  bytes = refl;
  reached = inside_start (length c.args.buf.now) (g.D.DiskTells.told c.args.disk.now);
  moments = λ view one two h sized none hold long few. first_page view one two (g.D.DiskTells.told c.args.disk.now) h;
  attached = c.requires.attached;
  stays = record { attached = refl; named = refl; journal_answer = refl; loans = refl };
  faults = refl;
}

pub loop-number-preserved : goal.loop-number-preserved
loop-number-preserved g c =
    let i = c.loop-number.invariant in
    let e = c.in-Ok.ensures in
    let mid = g.D.DiskTells.told c.loop-number.disk in
    let new = g.D.DiskTells.told c.write_page.new.disk in
    let number : ℕ = c.loop-number.number in
    let inside = subst (λ (n : ℕ). IsInside mid Main ((number - 1) * n) 0) (sym i.room) i.reached in
    record {
      from = omega arith;
      within = omega (arith, c.loop-number-test.true);
      room = c.wipe.ensures.length ∙ i.room;
      bytes = c.wipe.ensures.zeros ∙ next_zeros c.args.buf.now number (length c.loop-number.buf) i.from i.room;
      reached = subst (λ (n : ℕ). IsInside new Main (n * length c.args.buf.now) 0) (sym (one_back number))
          (wrote_reaches number (length c.args.buf.now) c.loop-number.buf mid mid new refl i.from i.room i.reached e.written);
      moments = λ view one two h sized none hold long few.
          let before = i.moments view one two h sized none hold long few in
          passes_join view.opening (LeavesMap view) (λ told. IsWriting view one two number told) (λ told. IsWriting view one two (number + 1) told) _ _ _ before
          (e.moments view one two before.holds (i.room ∙ sized) (held_page view one two (first_then_zeros c.args.buf.now) number c.loop-number.buf mid none hold i.from (omega (arith, c.loop-number-test.true, long)) i.bytes (omega (arith, c.loop-number-test.true, few))));
      attached = e.stays.attached ∙ i.attached;
      stays = writes_twice g.D.DiskTells _ _ _ i.stays e.stays;
      faults = e.faults ∙ i.faults;
    }

pub returns-in-Err-clause-moments : goal.returns-in-Err-clause-moments
returns-in-Err-clause-moments g c view one two h sized none hold long few =
    let i = c.loop-number.invariant in
    let e = c.in-Err.ensures in
    let mid = g.D.DiskTells.told c.loop-number.disk in
    let number : ℕ = c.loop-number.number in
    let before = i.moments view one two h sized none hold long few in
    passes_join view.opening (LeavesMap view) (λ told. IsWriting view one two number told) (λ told. AreSynced view one two told) _ _ _ before
    (e.moments view one two before.holds (i.room ∙ sized) (held_page view one two (first_then_zeros c.args.buf.now) number c.loop-number.buf mid none hold i.from (omega (arith, c.loop-number-test.true, long)) i.bytes (omega (arith, c.loop-number-test.true, few))))

pub returns-clause-moments : goal.returns-clause-moments
returns-clause-moments g c view one two h sized none hold long few =
    let i = c.loop-number.invariant in
    let all : c.loop-number.number ≡ c.args.pages + 1 = omega (arith, i.within, c.loop-number-test.false) in
    subst (λ (n : ℕ). Passes view.opening (LeavesMap view) (IsWriting view one two n) (g.D.DiskTells.told c.args.disk.now) (g.D.DiskTells.told c.loop-number.disk)) all (i.moments view one two h sized none hold long few)

use Rattle.std.proofs.Common.{◌≡◌, ◌∙◌, ℕ, length, refl, sym, ap, subst, arith}
use Rattle.disk_face.proofs.Calls.{writes_twice}
use Rattle.log_pair.specs.Pair.{PairView, current_header, written_frames}
use Rattle.recover.specs.NewPages.{first_then_zeros}
use Rattle.recover.specs.Founding.{AppendsPages, FailsToCommit}
use Rattle.recover.proofs.Committing.{appends_none, appends_at, fails_at, fails_last_at}
use Rattle.recover.proofs.FirstPages.{next_zeros, once_more, one_back}
use Rattle.recover.proofs.founding.append_pages.Goals as goal

pub loop-number-init : goal.loop-number-init
loop-number-init g c = record {
  from = omega arith;
  within = c.requires.pages;
  room = refl;
  bytes = refl;
  appended = appends_none c.args.pair.now (first_then_zeros c.args.buf.now) (g.D.DiskTells.told c.args.disk.now);
  current = c.requires.current;
  header = refl;
  counted = c.requires.none;
  reached = c.requires.reached;
  attached = c.requires.attached;
  stays = record { attached = refl; named = refl; journal_answer = refl; loans = refl };
  faults = refl;
}

pub loop-number-preserved : goal.loop-number-preserved
loop-number-preserved g c =
    let i = c.loop-number.invariant in
    let e = c.in-Ok.ensures in
    let becomes = e.appends.1.becomes in
    record {
      from = omega arith;
      within = omega (arith, c.loop-number-test.true);
      room = c.wipe.ensures.length ∙ i.room;
      bytes = c.wipe.ensures.zeros ∙ next_zeros c.args.buf.now c.loop-number.number (length c.loop-number.buf) i.from i.room;
      appended = subst (λ (n : ℕ). AppendsPages c.args.pair.now c.append.new.self (first_then_zeros c.args.buf.now) n 0 (g.D.DiskTells.told c.args.disk.now) (g.D.DiskTells.told c.append.new.disk)) (once_more c.loop-number.number i.from ∙ sym (one_back c.loop-number.number)) (appends_at c.args.pair.now c.loop-number.pair c.append.new.self (first_then_zeros c.args.buf.now) c.loop-number.number 0 c.loop-number.buf _ _ _ e.appends.0 i.from i.current i.bytes i.appended e.appends.1);
      current = ap (λ (p : PairView). p.current) becomes ∙ i.current;
      header = ap (λ (p : PairView). current_header p) becomes ∙ i.header;
      counted = ap (λ (p : PairView). written_frames p) becomes ∙ omega (arith, i.counted, i.from);
      reached = e.reached;
      attached = e.stays.attached ∙ i.attached;
      stays = writes_twice g.D.DiskTells _ _ _ i.stays e.stays;
      faults = e.faults ∙ i.faults;
    }

pub returns-in-Err-clause-fails : goal.returns-in-Err-clause-fails
returns-in-Err-clause-fails g c =
    let i = c.loop-number.invariant in
    let e = c.in-Err.ensures in
    fails_at c.args.pair.now c.loop-number.pair c.append.new.self (first_then_zeros c.args.buf.now) c.loop-number.number c.args.pages c.args.size c.loop-number.buf _ _ _ e.appends.0 i.from i.current i.bytes i.appended e.appends.1

pub returns-in-Ok-append-clause-appended : goal.returns-in-Ok-append-clause-appended
returns-in-Ok-append-clause-appended g c =
    let i = c.loop-number.invariant in
    let e = c.in-Ok-append.ensures in
    let last : c.loop-number.number ≡ c.args.pages = omega (arith, i.within, c.loop-number-test.false) in
    subst (λ (n : ℕ). AppendsPages c.args.pair.now c.append-2.new.self (first_then_zeros c.args.buf.now) n c.args.size (g.D.DiskTells.told c.args.disk.now) (g.D.DiskTells.told c.append-2.new.disk)) (once_more c.loop-number.number i.from ∙ last)
    (appends_at c.args.pair.now c.loop-number.pair c.append-2.new.self (first_then_zeros c.args.buf.now) c.loop-number.number c.args.size c.loop-number.buf _ _ _ e.appends.0 i.from i.current i.bytes i.appended e.appends.1)

pub returns-in-Err-append-clause-fails : goal.returns-in-Err-append-clause-fails
returns-in-Err-append-clause-fails g c =
    let i = c.loop-number.invariant in
    let e = c.in-Err-append.ensures in
    let last : c.loop-number.number ≡ c.args.pages = omega (arith, i.within, c.loop-number-test.false) in
    subst (λ (n : ℕ). FailsToCommit c.args.pair.now (first_then_zeros c.args.buf.now) n c.args.size (g.D.DiskTells.told c.args.disk.now) (g.D.DiskTells.told c.append-2.new.disk)) (once_more c.loop-number.number i.from ∙ last)
    (fails_last_at c.args.pair.now c.loop-number.pair c.append-2.new.self (first_then_zeros c.args.buf.now) c.loop-number.number c.args.size c.loop-number.buf _ _ _ e.appends.0 i.from i.current i.bytes i.appended e.appends.1)

use Rattle.std.proofs.Common.{◌≡◌, ◌+◌, length, sym, subst, arith}
use Rattle.crash_spec.specs.Opening.{Since}
use Rattle.crash_spec.specs.Passes.{Passes}
use Rattle.opening_spec.specs.States.{IsWriting, AreSynced, LeavesMap}
use Rattle.opening_spec.proofs.Writing.{main_fails}
use Rattle.recover.proofs.Placing.{place_bytes, wrote_reaches, only_wrote}
use Rattle.recover.proofs.pages.copy_page.Goals as goal

pub returns-in-Ok-write_page-clause-moments : goal.returns-in-Ok-write_page-clause-moments
returns-in-Ok-write_page-clause-moments g c view one two h sized is =
    let long : length c.read_at.new.buf ≡ view.size = omega arith in
    let still = c.in-Ok.ensures.stays.told in
    subst (λ told. Passes view.opening (LeavesMap view) (IsWriting view one two (c.args.number + 1)) told (g.D.DiskTells.told c.write_page.new.disk)) still
    (c.in-Ok-write_page.ensures.moments view one two (subst (λ told. Since view.opening.start (IsWriting view one two c.args.number) told) (sym still) h) long
    (place_bytes view one two c.args.number c.args.file c.args.at c.read_at.new.buf _ _ still long c.in-Ok.ensures.bytes is))

pub returns-in-Ok-write_page-clause-reached : goal.returns-in-Ok-write_page-clause-reached
returns-in-Ok-write_page-clause-reached g c =
    wrote_reaches c.args.number (length c.args.buf.now) c.read_at.new.buf _ _ _ c.in-Ok.ensures.stays.told c.requires.number (omega arith) c.requires.reached c.in-Ok-write_page.ensures.written

pub returns-in-Ok-write_page-clause-only : goal.returns-in-Ok-write_page-clause-only
returns-in-Ok-write_page-clause-only g c =
    only_wrote c.args.number (length c.args.buf.now) c.read_at.new.buf _ _ _ c.in-Ok.ensures.stays.told c.requires.reached (omega arith) c.in-Ok-write_page.ensures.written

pub returns-in-Err-write_page-clause-moments : goal.returns-in-Err-write_page-clause-moments
returns-in-Err-write_page-clause-moments g c view one two h sized is =
    let long : length c.read_at.new.buf ≡ view.size = omega arith in
    let still = c.in-Ok.ensures.stays.told in
    subst (λ told. Passes view.opening (LeavesMap view) (AreSynced view one two) told (g.D.DiskTells.told c.write_page.new.disk)) still
    (c.in-Err-write_page.ensures.moments view one two (subst (λ told. Since view.opening.start (IsWriting view one two c.args.number) told) (sym still) h) long
    (place_bytes view one two c.args.number c.args.file c.args.at c.read_at.new.buf _ _ still long c.in-Ok.ensures.bytes is))

pub returns-in-Err-clause-moments : goal.returns-in-Err-clause-moments
returns-in-Err-clause-moments g c view one two h sized is =
    subst (λ told. Passes view.opening (LeavesMap view) (AreSynced view one two) (g.D.DiskTells.told c.args.disk.now) told) (sym c.in-Err.ensures.stays.told)
    (main_fails view one two c.args.number (g.D.DiskTells.told c.args.disk.now) h)

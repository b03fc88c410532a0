use Rattle.std.proofs.Common.{◌≡◌, ℕ, List, length, Option, true, false, sym, ◌∙◌, ap, subst, arith}
use Rattle.crash_spec.specs.Passes.{Passes}
use Rattle.disk_face.specs.Steps.{History}
use Rattle.log_spec.specs.LogHeader.{LogFields}
use Rattle.opening_spec.specs.States.{LeavesEither}
use Rattle.recover.specs.NewPages.{first_then_zeros, migrated}
use Rattle.recover.specs.Founding.{FoundsPages, FailsToFound}
use Rattle.recover.proofs.FoundsNew.{LaysFirst}
use Rattle.recover.proofs.Migrating.{migrates_all, migrates_not, lays_none, read_first, stays_then}
use Rattle.recover.proofs.founding.found_migrated.Goals as goal

pub returns-in-Ok-lay_first-clause-moments : goal.returns-in-Ok-lay_first-clause-moments
returns-in-Ok-lay_first-clause-moments g c view one two h next none sized on =
    let old = g.D.DiskTells.told c.args.disk.now in
    let mid = g.D.DiskTells.told c.commit_first.new.disk in
    let new = g.D.DiskTells.told c.lay_first.new.disk in
    let first : List ℕ = c.set_versions.new.page in
    let long : length first ≡ view.size = c.set_versions.auto.page ∙ c.read_at.auto.buf ∙ sized in
    let made = subst (λ told. FoundsPages c.args.header.now.bytes (first_then_zeros first) 1 c.args.size told mid) c.in-Ok.ensures.stays.told c.in-Ok-commit_first.ensures.committed in
    migrates_all view one two c.args.header.now.bytes first c.args.size long (omega (arith, c.requires.room.0, sized)) (ap (λ (f : LogFields). f.page_size) c.requires.fields ∙ sym c.requires.page_size ∙ sized) c.requires.size next none old mid new
    (h, on, read_first view.size c.read_at.new.buf first old (c.read_at.auto.buf ∙ sized) c.set_versions.ensures c.in-Ok.ensures.bytes) made
    (subst (λ (bs : List ℕ). LaysFirst true bs 1 mid new) c.in-Ok-commit_first.ensures.bytes (λ view one two h sized long none hold count few. c.in-Ok-lay_first.ensures.moments view one two h sized long none hold count few))

pub returns-in-Err-lay_first-clause-moments : goal.returns-in-Err-lay_first-clause-moments
returns-in-Err-lay_first-clause-moments g c view one two h next none sized on =
    let old = g.D.DiskTells.told c.args.disk.now in
    let mid = g.D.DiskTells.told c.commit_first.new.disk in
    let new = g.D.DiskTells.told c.lay_first.new.disk in
    let first : List ℕ = c.set_versions.new.page in
    let long : length first ≡ view.size = c.set_versions.auto.page ∙ c.read_at.auto.buf ∙ sized in
    let made = subst (λ told. FoundsPages c.args.header.now.bytes (first_then_zeros first) 1 c.args.size told mid) c.in-Ok.ensures.stays.told c.in-Ok-commit_first.ensures.committed in
    lays_none view one two c.args.header.now.bytes first c.args.size long (omega (arith, c.requires.room.0, sized)) (ap (λ (f : LogFields). f.page_size) c.requires.fields ∙ sym c.requires.page_size ∙ sized) c.requires.size next none old mid new
    (h, on, read_first view.size c.read_at.new.buf first old (c.read_at.auto.buf ∙ sized) c.set_versions.ensures c.in-Ok.ensures.bytes) made
    (subst (λ (bs : List ℕ). LaysFirst false bs 1 mid new) c.in-Ok-commit_first.ensures.bytes (λ view one two h sized long none hold count few. c.in-Err-lay_first.ensures.moments view one two h sized long none hold count few))

pub returns-in-Err-commit_first-clause-moments : goal.returns-in-Err-commit_first-clause-moments
returns-in-Err-commit_first-clause-moments g c view one two h next none sized on =
    let old = g.D.DiskTells.told c.args.disk.now in
    let mid = g.D.DiskTells.told c.commit_first.new.disk in
    let first : List ℕ = c.set_versions.new.page in
    let long : length first ≡ view.size = c.set_versions.auto.page ∙ c.read_at.auto.buf ∙ sized in
    migrates_not view one two c.args.header.now.bytes first c.args.size long (omega (arith, c.requires.room.0, sized)) (ap (λ (f : LogFields). f.page_size) c.requires.fields ∙ sym c.requires.page_size ∙ sized) c.requires.size next none old mid
    (h, on, read_first view.size c.read_at.new.buf first old (c.read_at.auto.buf ∙ sized) c.set_versions.ensures c.in-Ok.ensures.bytes)
    (subst (λ told. FailsToFound c.args.header.now.bytes (first_then_zeros first) 1 c.args.size told mid) c.in-Ok.ensures.stays.told c.in-Err-commit_first.ensures.fails)

pub returns-in-Err-clause-moments : goal.returns-in-Err-clause-moments
returns-in-Err-clause-moments g c view one two h next none sized on =
    subst (λ (told : Option History). Passes view.opening (LeavesEither view (migrated view.map)) (λ told. Unit {0}) (g.D.DiskTells.told c.args.disk.now) told) (sym c.in-Err.ensures.stays.told)
    (stays_then view (migrated view.map) one two (g.D.DiskTells.told c.args.disk.now) h)

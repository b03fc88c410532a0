use Rattle.std.proofs.Common.{ℕ, ◌+◌, length, sym, ◌∙◌, ap, subst}
use Rattle.disk_face.specs.declared.step.Step.TheVariants.{Wrote}
use Rattle.disk_face.specs.Steps.{after}
use Rattle.disk_face.specs.Told.{Refuses}
use Rattle.crash_spec.specs.Passes.{Passes}
use Rattle.opening_spec.specs.States.{IsWriting, LeavesMap, page_piece}
use Rattle.opening_spec.proofs.Writing.{told_page_done, told_page_fails}
use Rattle.recover.proofs.pages.write_page.Goals as goal

pub returns-in-Ok-clause-moments : goal.returns-in-Ok-clause-moments
returns-in-Ok-clause-moments g c view one two h sized is =
    subst (λ told. Passes view.opening (LeavesMap view) (IsWriting view one two (c.args.number + 1)) (g.D.DiskTells.told c.args.disk.now) told)
    (sym (c.in-Ok.ensures.written
    ∙ ap (λ (n : ℕ). after (Wrote (page_piece n (length c.args.bytes.now) c.args.bytes.now)) (g.D.DiskTells.told c.args.disk.now)) c.from.ensures
    ∙ ap (λ (n : ℕ). after (Wrote (page_piece c.args.number n c.args.bytes.now)) (g.D.DiskTells.told c.args.disk.now)) sized))
    (told_page_done view one two c.args.number c.requires.number c.args.bytes.now sized (g.D.DiskTells.told c.args.disk.now) is h)

pub returns-in-Err-clause-moments : goal.returns-in-Err-clause-moments
returns-in-Err-clause-moments g c view one two h sized is =
    told_page_fails view one two c.args.number c.requires.number c.args.bytes.now sized _ _ is
    (subst (λ (n : ℕ). Refuses (page_piece c.args.number n c.args.bytes.now) (g.D.DiskTells.told c.args.disk.now) (g.D.DiskTells.told c.write_at.new.self)) sized
    (subst (λ (n : ℕ). Refuses (page_piece n (length c.args.bytes.now) c.args.bytes.now) (g.D.DiskTells.told c.args.disk.now) (g.D.DiskTells.told c.write_at.new.self)) c.from.ensures c.in-Err.ensures.refused)) h

use Rattle.std.proofs.Common.{◌∙◌, ◌*◌, ◌-◌, ℕ, sym, ap, subst}
use Rattle.std.specs.Prelude.{is_ok, length}
use Rattle.crash_spec.specs.Store.{KeepsStore}
use Rattle.crash_spec.proofs.StoreMoments.{keeps_still}
use Rattle.checkpoint.proofs.Copies.{keeps_page, written_so, size_of_log}
use Rattle.checkpoint.proofs.copy.copy_page.Goals as goal

pub returns-in-Ok-clause-moments : goal.returns-in-Ok-clause-moments
returns-in-Ok-clause-moments g c = λ opening view h sized held.
    let size = length c.args.buf.now in
    let same = size_of_log c.args.log c.args.pair.now c.page_size.result size c.page_size.ensures.one c.page_size.ensures.two c.requires.room in
    let at = ap (λ (n : ℕ). n * c.from-2.result) c.from.ensures ∙ ap (λ (n : ℕ). (c.args.page - 1) * n) (c.from-2.ensures ∙ same) in
    keeps_page opening view (is_ok c.write_at.result) c.args.page size c.read_frame.new.buf (g.D.DiskTells.told c.args.disk.now) (g.D.DiskTells.told c.write_at.new.self)
    h sized held c.requires.page c.read_frame.ensures.size c.requires.reached
    (written_so c.write_at.result _ c.args.page size c.read_frame.new.buf (g.D.DiskTells.told c.args.disk.now) (g.D.DiskTells.told c.read_frame.new.disk)
    (g.D.DiskTells.told c.write_at.new.self) at c.read_frame.ensures.size c.read_frame.ensures.stays.told c.write_at.ensures.written c.write_at.ensures.refused)

pub returns-in-Err-clause-moments : goal.returns-in-Err-clause-moments
returns-in-Err-clause-moments g c = λ opening view h sized held.
    subst (λ told. KeepsStore opening view (g.D.DiskTells.told c.args.disk.now) told) (sym c.read_frame.ensures.stays.told)
    (keeps_still opening view (g.D.DiskTells.told c.args.disk.now) h)

use Rattle.std.proofs.Common.{◌∙◌, ap, sym, refl}
use Rattle.store.proofs.store.Store.lay.Goals as goal
use Rattle.page_face.specs.Prepared.{change_in}
use Rattle.store_spec.specs.Store.{newest_told}
use Rattle.store.specs.declared.store.Store.{Store}
use Rattle.store.specs.Kept.{kept_of}
use Rattle.store.proofs.Buffers.{laid_over_newest}

pub returns-in-Ok-clause-laid : goal.returns-in-Ok-clause-laid
returns-in-Ok-clause-laid g c =
    laid_over_newest (newest_told (kept_of c.args.self.now) (g.D.DiskTells.told c.args.self.now.disk)) c.args.self.now.size c.args.self.now.page_size (change_in c.args.prepared.now)
    c.read_first.new.self.buf.items c.lay_in.new.buf.items c.requires.live.2.live.sizes c.in-Ok.ensures.read
    (λ pages count first. c.lay_in.ensures.laid pages (change_in c.args.prepared.now)
    (record { is_mode = refl; is_tail = refl; is_changed = sym c.as_slice.ensures; fresh = c.requires.fresh; freed = c.requires.freed }) (count ∙ sym (ap (λ (store : Store g.row.D.Denot g.row.W.Denot g.row.M.Denot). store.size) c.read_first.ensures.same)) first)

use Rattle.std.proofs.Common.{true, false, refl, ◌∙◌, ap, subst}
use Rattle.disk_face.specs.declared.disk.File.{File}
use Rattle.wal_frames.specs.Found.{log_file}
use Rattle.log_pair.specs.Appending.{SyncsFile}
use Rattle.log_pair.proofs.Standing.{seals, seal_reached}
use Rattle.log_pair.proofs.pair.LogPair.seal.Goals as goal

pub returns-in-Ok-clause-seals : goal.returns-in-Ok-clause-seals
returns-in-Ok-clause-seals g c =
    seals true c.args.self.now c.take_in.new.self _ _ (subst (λ (file : File). SyncsFile true file (g.D.DiskTells.told c.args.disk.now) (g.D.DiskTells.told c.sync.new.self)) (c.log_file.ensures ∙ ap log_file c.current.ensures.value) c.in-Ok.ensures.synced) c.take_in.ensures

pub returns-in-Err-clause-seals : goal.returns-in-Err-clause-seals
returns-in-Err-clause-seals g c = seals false c.args.self.now c.args.self.now _ _ c.in-Err.ensures.unsynced refl

pub returns-in-Ok-clause-reached : goal.returns-in-Ok-clause-reached
returns-in-Ok-clause-reached g c =
    seal_reached true c.args.self.now c.take_in.new.self (g.D.DiskTells.told c.args.disk.now) (g.D.DiskTells.told c.sync.new.self)
    (subst (λ (file : File). SyncsFile true file (g.D.DiskTells.told c.args.disk.now) (g.D.DiskTells.told c.sync.new.self)) (c.log_file.ensures ∙ ap log_file c.current.ensures.value) c.in-Ok.ensures.synced)
    c.take_in.ensures

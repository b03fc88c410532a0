use Rattle.checkpoint.proofs.Copies.{keeps_sync}
use Rattle.checkpoint.proofs.copy.sync_main.Goals as goal

pub returns-clause-moments : goal.returns-clause-moments
returns-clause-moments g c = λ opening view h.
    keeps_sync opening view c.sync.result (g.D.DiskTells.told c.args.disk.now) (g.D.DiskTells.told c.sync.new.self) h
    c.sync.ensures.synced c.sync.ensures.unsynced

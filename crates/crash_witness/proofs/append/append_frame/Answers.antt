use Rattle.crash_witness.proofs.Appending.{done, not_written}
use Rattle.crash_witness.proofs.append.append_frame.Goals as goal

pub returns-in-Ok-clause-moments : goal.returns-in-Ok-clause-moments
returns-in-Ok-clause-moments g c opening header frames h =
    done opening c.args.log header frames c.args.at c.args.frame.now c.sync.result (g.D.DiskTells.told c.args.disk.now) (g.D.DiskTells.told c.write_at.new.self) (g.D.DiskTells.told c.sync.new.self)
    c.in-Ok.ensures.written c.sync.ensures.synced c.sync.ensures.unsynced h

pub returns-in-Err-clause-moments : goal.returns-in-Err-clause-moments
returns-in-Err-clause-moments g c opening header frames h =
    not_written opening c.args.log header frames c.args.at c.args.frame.now (g.D.DiskTells.told c.args.disk.now) (g.D.DiskTells.told c.write_at.new.self) c.in-Err.ensures.refused h

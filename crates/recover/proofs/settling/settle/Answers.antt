use Rattle.std.proofs.Common.{Err}
use Rattle.wal_frames.specs.declared.found.ScanFault.{ScanFault}
use Rattle.recover.specs.Ready.{ReadyWith, first_map}
use Rattle.recover.proofs.Readying.{nothing_done}
use Rattle.recover.proofs.settling.settle.Goals as goal

pub returns-clause-moments : goal.returns-clause-moments
returns-clause-moments g c view one two h of =
    let later = first_map c.args.setup.now.kind c.args.seen view.size view.map in
    nothing_done view later (ReadyWith {E = ScanFault} (Err c.in-Err.fault) view later) one two (λ told. tt) _ h

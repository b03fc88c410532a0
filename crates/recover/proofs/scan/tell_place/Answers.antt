use Rattle.std.proofs.Common.{◌≡◌, List, ℕ, Some, length, arith}
use Rattle.db_header.specs.Header.{refusal}
use Rattle.recover.specs.Looking.{TellsFirst}
use Rattle.recover.proofs.FirstRead.{told_first}
use Rattle.recover.proofs.scan.tell_place.Goals as goal

pub returns-in-Ok-tell_first-clause-told : goal.returns-in-Ok-tell_first-clause-told
returns-in-Ok-tell_first-clause-told g c =
    told_first (λ (bytes : List ℕ). TellsFirst bytes c.args.main c.in-Ok-tell_first.first) (g.D.DiskTells.told c.args.disk.now) (length c.args.bytes.now) c.args.place c.args.main c.read_place.new.bytes c.requires.sized
    (omega (arith, c.requires.room)) c.in-Ok.ensures.bytes c.in-Ok-tell_first.ensures.told

pub returns-in-Err-tell_first-clause-refused : goal.returns-in-Err-tell_first-clause-refused
returns-in-Err-tell_first-clause-refused g c =
    told_first (λ (bytes : List ℕ). refusal bytes c.args.main ≡ Some c.in-Err-tell_first.fault) (g.D.DiskTells.told c.args.disk.now) (length c.args.bytes.now) c.args.place c.args.main c.read_place.new.bytes c.requires.sized
    (omega (arith, c.requires.room)) c.in-Ok.ensures.bytes c.in-Err-tell_first.ensures.refused

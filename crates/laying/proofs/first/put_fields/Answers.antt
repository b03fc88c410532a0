use Rattle.std.proofs.Common.{take, drop}
use Rattle.laying.proofs.Putting.{put_is, three_pieces}
use Rattle.laying.proofs.first.put_fields.Goals as goal

pub returns-in-Plain-clause-put : goal.returns-in-Plain-clause-put
returns-in-Plain-clause-put c =
    rw c.in-Plain.is (put_is 32 28 c.args.first.now c.copy_from_slice.new.self (take 28 (drop 32 c.args.new.now)) c.copy_from_slice.ensures.after)

pub returns-in-Concurrent-clause-put : goal.returns-in-Concurrent-clause-put
returns-in-Concurrent-clause-put c = rw c.in-Concurrent.is (three_pieces 32 28 c.args.first.now)

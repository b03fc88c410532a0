use Rattle.std.proofs.Common.{length, sym}
use Rattle.overflow.proofs.Making.{same_by}
use Rattle.overflow.proofs.Written.{written_none, written_not}
use Rattle.overflow.proofs.write.write_chain.Goals as goal

pub returns-then-is_empty-clause-written : goal.returns-then-is_empty-clause-written
returns-then-is_empty-clause-written g c =
    written_none g.P.PagesTells c.args.pages.now c.args.bytes.now (same_by (length c.args.bytes.now) 0 (sym c.if-is_empty.ensures)) c.requires.ready (g.P.PagesTells.follows_itself _)

pub returns-in-Err-clause-written : goal.returns-in-Err-clause-written
returns-in-Err-clause-written g c =
    rw (c.in-Err.ensures.cause) (written_not g.P.PagesTells c.args.pages.now c.args.bytes.now c.requires.ready (g.P.PagesTells.follows_itself _))

use Rattle.log_pair.specs.Pair.{new_pair}
use Rattle.recover.specs.NewPages.{first_then_zeros}
use Rattle.recover.proofs.Beginnings.{founds_pages, fails_founding}
use Rattle.recover.proofs.founding.commit_first.Goals as goal

pub returns-in-Ok-commit_pages-clause-committed : goal.returns-in-Ok-commit_pages-clause-committed
returns-in-Ok-commit_pages-clause-committed g c =
    founds_pages c.args.header.now.bytes _ (new_pair 1 c.args.header.now.header c.args.other) (first_then_zeros c.args.buf.now) c.args.pages c.args.size _ _ _ c.in-Ok.ensures.pair c.in-Ok.ensures.moments c.in-Ok-commit_pages.ensures.committed

pub returns-in-Err-commit_pages-clause-fails : goal.returns-in-Err-commit_pages-clause-fails
returns-in-Err-commit_pages-clause-fails g c =
    fails_founding c.args.header.now.bytes _ (new_pair 1 c.args.header.now.header c.args.other) (first_then_zeros c.args.buf.now) c.args.pages c.args.size _ _ _ c.in-Ok.ensures.pair c.in-Ok.ensures.moments c.in-Err-commit_pages.ensures.fails

pub returns-in-Err-clause-fails : goal.returns-in-Err-clause-fails
returns-in-Err-clause-fails g c view later main one two makes h next none main_is = c.in-Err.ensures.moments view later main one two h next none main_is

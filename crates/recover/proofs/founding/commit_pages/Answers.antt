use Rattle.recover.specs.NewPages.{first_then_zeros}
use Rattle.recover.proofs.Committing.{commits_all, not_sealed}
use Rattle.recover.proofs.founding.commit_pages.Goals as goal

pub returns-in-Ok-seal-clause-committed : goal.returns-in-Ok-seal-clause-committed
returns-in-Ok-seal-clause-committed g c =
    commits_all c.args.pair.now c.append_pages.new.pair c.seal.new.self (first_then_zeros c.args.buf.now) c.args.pages c.args.size _ _ _ c.requires.size c.append_pages.ensures.current c.in-Ok.ensures.appended c.in-Ok-seal.ensures.seals

pub returns-in-Err-seal-clause-fails : goal.returns-in-Err-seal-clause-fails
returns-in-Err-seal-clause-fails g c =
    not_sealed c.args.pair.now c.append_pages.new.pair c.seal.new.self (first_then_zeros c.args.buf.now) c.args.pages c.args.size _ _ _ c.requires.size c.append_pages.ensures.current c.in-Ok.ensures.appended c.in-Err-seal.ensures.seals

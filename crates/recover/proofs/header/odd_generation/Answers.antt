use Rattle.recover.proofs.Resets.{first_odd_is}
use Rattle.recover.proofs.header.odd_generation.Goals as goal

pub returns-clause-odd : goal.returns-clause-odd
returns-clause-odd c = first_odd_is c.args.newest c.requires

use Rattle.recover.proofs.Resets.{next_even_is, next_odd_is}
use Rattle.recover.proofs.header.even_generation.Goals as goal

pub returns-clause-even : goal.returns-clause-even
returns-clause-even c = next_even_is c.args.newest c.requires

pub returns-clause-odd : goal.returns-clause-odd
returns-clause-odd c = next_odd_is c.args.newest c.requires

use Rattle.recover.proofs.inspect.see.Goals as goal

pub returns-in-Some-clause-seen : goal.returns-in-Some-clause-seen
returns-in-Some-clause-seen c files read = c.see_old.ensures.seen c.args.new_size files read

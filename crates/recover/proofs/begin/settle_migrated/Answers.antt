use Rattle.log_spec.specs.LogHeader.{log_fields}
use Rattle.recover.specs.NewPages.{migrated}
use Rattle.recover.proofs.Readying.{migrated_some, new_ready}
use Rattle.recover.proofs.begin.settle_migrated.Goals as goal

pub returns-in-Ok-clause-moments : goal.returns-in-Ok-clause-moments
returns-in-Ok-clause-moments g c view has1 has2 h sized none none1 seen some salt1 salt2 most1 most2 =
    let after = c.first_headers-headers.result.after in
    let e = c.first_headers-headers.ensures in
    let next = e.next has1 has2 salt1 salt2 most1 most2 in
    new_ready view (migrated view.map) after.one after.two c.new.result (log_fields after.there.bytes) (log_fields after.here.bytes) _ _ c.new.ensures e.one e.two (migrated_some view.map some)
    (c.in-Ok.ensures.moments view has1 has2 h sized none none1 seen next.0 next.1 next.2)

pub returns-in-Err-clause-moments : goal.returns-in-Err-clause-moments
returns-in-Err-clause-moments g c view has1 has2 h sized none none1 seen some salt1 salt2 most1 most2 =
    let next = c.first_headers-headers.ensures.next has1 has2 salt1 salt2 most1 most2 in
    c.in-Err.ensures.moments view has1 has2 h sized none none1 seen next.0 next.1 next.2

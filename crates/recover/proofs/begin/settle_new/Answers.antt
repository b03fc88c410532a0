use Rattle.std.proofs.Common.{◌≤◌, ℕ, sym, subst}
use Rattle.log_spec.specs.LogHeader.{log_fields}
use Rattle.recover.specs.NewPages.{new_pages}
use Rattle.recover.proofs.NewPages.{new_length, new_some}
use Rattle.recover.proofs.Readying.{new_ready}
use Rattle.recover.proofs.begin.settle_new.Goals as goal

pub returns-in-Ok-clause-moments : goal.returns-in-Ok-clause-moments
returns-in-Ok-clause-moments g c view has1 has2 h sized none neither empty salt1 salt2 most1 most2 =
    let after = c.first_headers-headers.result.after in
    let e = c.first_headers-headers.ensures in
    let next = e.next has1 has2 salt1 salt2 most1 most2 in
    new_ready view (new_pages c.args.kind view.size) after.one after.two c.new.result (log_fields after.there.bytes) (log_fields after.here.bytes) _ _ c.new.ensures e.one e.two
    (subst (λ (n : ℕ). 1 ≤ n) (sym (new_length c.args.kind view.size)) (new_some c.args.kind))
    (c.in-Ok.ensures.moments view has1 has2 h sized none neither empty next.0 next.1 next.2)

pub returns-in-Err-clause-moments : goal.returns-in-Err-clause-moments
returns-in-Err-clause-moments g c view has1 has2 h sized none neither empty salt1 salt2 most1 most2 =
    let next = c.first_headers-headers.ensures.next has1 has2 salt1 salt2 most1 most2 in
    c.in-Err.ensures.moments view has1 has2 h sized none neither empty next.0 next.1 next.2

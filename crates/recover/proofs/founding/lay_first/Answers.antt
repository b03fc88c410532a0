use Rattle.std.proofs.Common.{ℕ, ◌+◌}
use Rattle.crash_spec.proofs.Passing.{passes_join}
use Rattle.opening_spec.specs.States.{IsWriting, AreSynced, IsLaidDown, LeavesMap}
use Rattle.opening_spec.proofs.Settling.{begins_writing}
use Rattle.recover.proofs.founding.lay_first.Goals as goal

pub returns-in-Ok-sync_main-clause-moments : goal.returns-in-Ok-sync_main-clause-moments
returns-in-Ok-sync_main-clause-moments g c view one two h sized long none hold count few =
    let n : ℕ = c.args.pages in
    let told = g.D.DiskTells.told c.args.disk.now in
    let first = c.in-Ok.ensures.moments view one two (begins_writing view one two told long h) sized none hold count few in
    passes_join view.opening (LeavesMap view) (λ told. IsWriting view one two (n + 1) told) (λ told. IsLaidDown view one two (n + 1) told) _ _ _ first
    (c.in-Ok-sync_main.ensures.moments view one two (n + 1) first.holds)

pub returns-in-Err-sync_main-clause-moments : goal.returns-in-Err-sync_main-clause-moments
returns-in-Err-sync_main-clause-moments g c view one two h sized long none hold count few =
    let n : ℕ = c.args.pages in
    let told = g.D.DiskTells.told c.args.disk.now in
    let first = c.in-Ok.ensures.moments view one two (begins_writing view one two told long h) sized none hold count few in
    passes_join view.opening (LeavesMap view) (λ told. IsWriting view one two (n + 1) told) (λ told. AreSynced view one two told) _ _ _ first
    (c.in-Err-sync_main.ensures.moments view one two (n + 1) first.holds)

pub returns-in-Err-clause-moments : goal.returns-in-Err-clause-moments
returns-in-Err-clause-moments g c view one two h sized long none hold count few =
    c.in-Err.ensures.moments view one two (begins_writing view one two (g.D.DiskTells.told c.args.disk.now) long h) sized none hold count few

use Rattle.std.proofs.Common.{ℕ, length, ◌+◌}
use Rattle.crash_spec.proofs.Passing.{passes_join}
use Rattle.opening_spec.specs.States.{IsWriting, AreSynced, IsLaidDown, LeavesMap}
use Rattle.opening_spec.proofs.Settling.{begins_writing}
use Rattle.recover.proofs.Placing.{only_join, reached_still, seen_places, seen_long, counted_places}
use Rattle.recover.proofs.pages.write_main.Goals as goal

pub returns-in-Ok-sync_main-clause-moments : goal.returns-in-Ok-sync_main-clause-moments
returns-in-Ok-sync_main-clause-moments g c view one two h sized seen =
    let n : ℕ = length c.args.places.now in
    let told = g.D.DiskTells.told c.args.disk.now in
    let first = c.in-Ok.ensures.moments view one two (begins_writing view one two told (seen_long view one two c.args.places.now told seen) h) sized (seen_places view one two c.args.places.now told seen) in
    counted_places view one two c.args.places.now told (g.D.DiskTells.told c.sync_main.new.disk) seen
    (passes_join view.opening (LeavesMap view) (λ told. IsWriting view one two (n + 1) told) (λ told. IsLaidDown view one two (n + 1) told) _ _ _ first
    (c.in-Ok-sync_main.ensures.moments view one two (n + 1) first.holds))

pub returns-in-Ok-sync_main-clause-only : goal.returns-in-Ok-sync_main-clause-only
returns-in-Ok-sync_main-clause-only g c = only_join _ _ _ c.in-Ok.ensures.only c.in-Ok-sync_main.ensures.only

pub returns-in-Err-sync_main-clause-moments : goal.returns-in-Err-sync_main-clause-moments
returns-in-Err-sync_main-clause-moments g c view one two h sized seen =
    let n : ℕ = length c.args.places.now in
    let told = g.D.DiskTells.told c.args.disk.now in
    let first = c.in-Ok.ensures.moments view one two (begins_writing view one two told (seen_long view one two c.args.places.now told seen) h) sized (seen_places view one two c.args.places.now told seen) in
    passes_join view.opening (LeavesMap view) (λ told. IsWriting view one two (n + 1) told) (λ told. AreSynced view one two told) _ _ _ first
    (c.in-Err-sync_main.ensures.moments view one two (n + 1) first.holds)

pub returns-in-Err-clause-moments : goal.returns-in-Err-clause-moments
returns-in-Err-clause-moments g c view one two h sized seen =
    let told = g.D.DiskTells.told c.args.disk.now in
    c.in-Err.ensures.moments view one two (begins_writing view one two told (seen_long view one two c.args.places.now told seen) h) sized (seen_places view one two c.args.places.now told seen)

pub returns-in-Ok-sync_main-clause-reached : goal.returns-in-Ok-sync_main-clause-reached
returns-in-Ok-sync_main-clause-reached g c = reached_still _ _ _ c.in-Ok-sync_main.ensures.only c.in-Ok.ensures.reached

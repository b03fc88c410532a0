use Rattle.std.proofs.Common.{None, Some, subst}
use Rattle.disk_face.specs.declared.disk.File.{File}
use Rattle.log_spec.specs.LogHeader.{log_fields}
use Rattle.crash_spec.specs.Opening.{Since}
use Rattle.crash_spec.specs.Passes.{Passes}
use Rattle.opening_spec.specs.Found.{IsNextHeader, found_log, one_after, two_after}
use Rattle.opening_spec.specs.States.{IsResetting, HasReset, LeavesMap}
use Rattle.opening_spec.proofs.Ended.{reset_both, second_not, next_header}
use Rattle.recover.proofs.header.reset_logs.Goals as goal

pub returns-in-Ok-reset_log-clause-moments : goal.returns-in-Ok-reset_log-clause-moments
returns-in-Ok-reset_log-clause-moments g c view one two h own next after =
    let one' = one_after c.args.first one in
    let two' = two_after c.args.first two in
    let header = log_fields c.args.here.now.bytes in
    reset_both view c.args.first one two c.args.here.now.bytes c.args.there.now.bytes next after _ _ _ (c.in-Ok.ensures.moments view one two None h next (λ is. own))
    (λ k. subst (λ (file : File). Since view.opening.start (IsResetting view file one' two' (Some header)) (g.D.DiskTells.told c.reset_log.new.disk) → IsNextHeader file (found_log file one' two') c.args.there.now.bytes
    → Passes view.opening (LeavesMap view) (HasReset view file (log_fields c.args.there.now.bytes) one' two' (Some header)) (g.D.DiskTells.told c.reset_log.new.disk) (g.D.DiskTells.told c.reset_log-in-Ok.new.disk))
    c.requires.other (λ k next'. c.in-Ok-reset_log.ensures.moments view one' two' (Some header) k next' (λ is. own)) k (next_header c.args.first one two c.args.there.now.bytes next.is_log after))

pub returns-in-Err-reset_log-clause-moments : goal.returns-in-Err-reset_log-clause-moments
returns-in-Err-reset_log-clause-moments g c view one two h own next after =
    let one' = one_after c.args.first one in
    let two' = two_after c.args.first two in
    let header = log_fields c.args.here.now.bytes in
    second_not view c.args.first one two c.args.here.now.bytes c.args.there.now.bytes next _ _ _ (c.in-Ok.ensures.moments view one two None h next (λ is. own))
    (λ k. subst (λ (file : File). Since view.opening.start (IsResetting view file one' two' (Some header)) (g.D.DiskTells.told c.reset_log.new.disk) → IsNextHeader file (found_log file one' two') c.args.there.now.bytes
    → Passes view.opening (LeavesMap view) (λ told. Unit {0}) (g.D.DiskTells.told c.reset_log.new.disk) (g.D.DiskTells.told c.reset_log-in-Ok.new.disk))
    c.requires.other (λ k next'. c.in-Err-reset_log.ensures.moments view one' two' (Some header) k next' (λ is. own)) k (next_header c.args.first one two c.args.there.now.bytes next.is_log after))

pub returns-in-Err-clause-moments : goal.returns-in-Err-clause-moments
returns-in-Err-clause-moments g c view one two h own next after = c.in-Err.ensures.moments view one two None h next (λ is. own)

use Rattle.std.proofs.Common.{[], ◌∷◌}
use Rattle.disk_face.specs.declared.disk.File.TheVariants.{Log1}
use Rattle.opening_spec.proofs.Syncing.{both_done, first_failed, second_failed}
use Rattle.recover.proofs.Placing.{same_join}
use Rattle.recover.proofs.sync.sync_logs.Goals as goal

pub returns-in-Ok-sync_log-clause-moments : goal.returns-in-Ok-sync_log-clause-moments
returns-in-Ok-sync_log-clause-moments g c view one two h =
    both_done view one two _ _ _ (c.in-Ok.ensures.moments view one two [] h) (λ k. c.in-Ok-sync_log.ensures.moments view one two (Log1 ∷ []) k)

pub returns-in-Ok-sync_log-clause-reads : goal.returns-in-Ok-sync_log-clause-reads
returns-in-Ok-sync_log-clause-reads g c = same_join _ _ _ c.in-Ok.ensures.reads c.in-Ok-sync_log.ensures.reads

pub returns-in-Err-sync_log-clause-moments : goal.returns-in-Err-sync_log-clause-moments
returns-in-Err-sync_log-clause-moments g c view one two h =
    second_failed view one two _ _ _ (c.in-Ok.ensures.moments view one two [] h) (λ k. c.in-Err-sync_log.ensures.moments view one two (Log1 ∷ []) k)

pub returns-in-Err-clause-moments : goal.returns-in-Err-clause-moments
returns-in-Err-clause-moments g c view one two h =
    first_failed view one two _ _ (c.in-Err.ensures.moments view one two [] h)

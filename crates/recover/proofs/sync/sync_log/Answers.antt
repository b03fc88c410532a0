use Rattle.std.proofs.Common.{sym, ◌∙◌, ap, subst, ◌∷◌}
use Rattle.disk_face.specs.declared.step.Step.TheVariants.{Synced}
use Rattle.disk_face.specs.Steps.{after}
use Rattle.crash_spec.specs.Passes.{Passes}
use Rattle.opening_spec.specs.States.{IsSyncing, LeavesOpening}
use Rattle.opening_spec.proofs.Syncing.{sync_still, sync_step, sync_empty}
use Rattle.recover.proofs.Placing.{same_synced, same_at}
use Rattle.recover.proofs.sync.sync_log.Goals as goal

pub returns-then-size-eq0-clause-moments : goal.returns-then-size-eq0-clause-moments
returns-then-size-eq0-clause-moments g c view one two synced h =
    subst (λ told. Passes view.opening (LeavesOpening view) (IsSyncing view one two (c.args.log ∷ synced)) (g.D.DiskTells.told c.args.disk.now) told) (sym c.in-Ok.ensures.stays.told)
    (sync_empty view one two synced c.args.log _ (g.D.DiskTells.told c.args.disk.now) c.if-size-eq0.true c.in-Ok.ensures.size h)

pub returns-then-size-eq0-clause-reads : goal.returns-then-size-eq0-clause-reads
returns-then-size-eq0-clause-reads g c = same_at _ _ c.in-Ok.ensures.stays.told

pub returns-in-Ok-sync-clause-moments : goal.returns-in-Ok-sync-clause-moments
returns-in-Ok-sync-clause-moments g c view one two synced h =
    subst (λ told. Passes view.opening (LeavesOpening view) (IsSyncing view one two (c.args.log ∷ synced)) (g.D.DiskTells.told c.args.disk.now) told)
    (sym (c.in-Ok-sync.ensures.synced ∙ ap (after (Synced c.args.log)) c.in-Ok.ensures.stays.told))
    (sync_step view one two synced c.args.log (g.D.DiskTells.told c.args.disk.now) h)

pub returns-in-Ok-sync-clause-reads : goal.returns-in-Ok-sync-clause-reads
returns-in-Ok-sync-clause-reads g c = same_synced c.args.log _ _ (c.in-Ok-sync.ensures.synced ∙ ap (after (Synced c.args.log)) c.in-Ok.ensures.stays.told)

pub returns-in-Err-sync-clause-moments : goal.returns-in-Err-sync-clause-moments
returns-in-Err-sync-clause-moments g c view one two synced h =
    subst (λ told. Passes view.opening (LeavesOpening view) (IsSyncing view one two synced) (g.D.DiskTells.told c.args.disk.now) told)
    (sym (c.in-Err-sync.ensures.unsynced ∙ c.in-Ok.ensures.stays.told))
    (sync_still view one two synced (g.D.DiskTells.told c.args.disk.now) h)

pub returns-in-Err-clause-moments : goal.returns-in-Err-clause-moments
returns-in-Err-clause-moments g c view one two synced h =
    subst (λ told. Passes view.opening (LeavesOpening view) (IsSyncing view one two synced) (g.D.DiskTells.told c.args.disk.now) told) (sym c.in-Err.ensures.stays.told)
    (sync_still view one two synced (g.D.DiskTells.told c.args.disk.now) h)

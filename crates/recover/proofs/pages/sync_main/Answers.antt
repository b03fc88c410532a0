use Rattle.std.proofs.Common.{sym, subst}
use Rattle.crash_spec.specs.Passes.{Passes}
use Rattle.opening_spec.specs.States.{IsLaidDown, AreSynced, LeavesMap}
use Rattle.opening_spec.proofs.Writing.{main_done, main_fails}
use Rattle.recover.proofs.Placing.{only_same, same_synced}
use Rattle.disk_face.specs.declared.disk.File.TheVariants.{Main}
use Rattle.recover.proofs.pages.sync_main.Goals as goal

pub returns-in-Ok-clause-moments : goal.returns-in-Ok-clause-moments
returns-in-Ok-clause-moments g c view one two next h =
    subst (λ told. Passes view.opening (LeavesMap view) (IsLaidDown view one two next) (g.D.DiskTells.told c.args.disk.now) told) (sym c.in-Ok.ensures.synced)
    (main_done view one two next (g.D.DiskTells.told c.args.disk.now) h)

pub returns-in-Ok-clause-only : goal.returns-in-Ok-clause-only
returns-in-Ok-clause-only g c = only_same _ _ (same_synced Main _ _ c.in-Ok.ensures.synced)

pub returns-in-Err-clause-moments : goal.returns-in-Err-clause-moments
returns-in-Err-clause-moments g c view one two next h =
    subst (λ told. Passes view.opening (LeavesMap view) (AreSynced view one two) (g.D.DiskTells.told c.args.disk.now) told) (sym c.in-Err.ensures.unsynced)
    (main_fails view one two next (g.D.DiskTells.told c.args.disk.now) h)

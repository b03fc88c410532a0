use Rattle.std.proofs.Common.{◌≡◌, sym, ap, subst, Option, Some, Ok}
use Rattle.std.specs.Prelude.{IfSome}
use Rattle.store.proofs.solo.Solo.open.Goals as goal
use Rattle.disk_face.specs.Steps.{reads}
use Rattle.page_spec.specs.PageMap.{PageMap}
use Rattle.crash_spec.specs.Opening.{opening_at}
use Rattle.crash_spec.specs.Passes.{Passes}
use Rattle.opening_spec.specs.Begins.{view_at}
use Rattle.engine_spec.specs.State.{EngineState}
use Rattle.recover.specs.Ready.{LeavesSettling}
use Rattle.store.specs.declared.store.Store.{Store}
use Rattle.store.specs.Opening.{MaySettle, StandsAs, map_opened, size_opened}

pub returns-in-Ok-clause-newest : goal.returns-in-Ok-clause-newest
returns-in-Ok-clause-newest g c =
    subst (λ (newest : Option PageMap). IfSome (g.D.DiskTells.told c.args.disk) (λ told. MaySettle (reads told) → newest ≡ Some (map_opened c.args.setup.page_size (reads told))))
    (sym (ap (λ (state : EngineState). state.newest) c.new.ensures.state)) c.in-Ok.ensures.newest

pub returns-in-Ok-clause-moments : goal.returns-in-Ok-clause-moments
returns-in-Ok-clause-moments g c told is may settles =
    subst (λ (store : Store g.row.D.Denot g.row.W.Denot g.row.M.Denot). Passes (opening_at told) (LeavesSettling (view_at (size_opened c.args.setup.page_size (reads told)) told) (map_opened c.args.setup.page_size (reads told)))
    (StandsAs (Ok store) (opening_at told)) (g.D.DiskTells.told c.args.disk) (g.D.DiskTells.told store.disk))
    (sym c.new.ensures.store) (c.in-Ok.ensures.moments told is may settles)

use Rattle.std.proofs.Common.{◌∙◌, ap}
use Rattle.page_runs.proofs.Memory.{ends_as}
use Rattle.store.specs.Solo.{store_of}
use Rattle.disk_runs.proofs.Given.{run_given}
use Rattle.disk_runs.proofs.on_disk.run_store.Goals as goal

pub returns-clause-run : goal.returns-clause-run
returns-clause-run g c =
    ends_as g.S.Source g.K.Sink _ _ c.run_pages-status.result c.args.src.now c.args.out.now c.run_pages-status.new.src c.run_pages-status.new.out
    (λ acts answers range run.
    run_given g.D.DiskTells g.W.Salts.loans _ c.args.solo c.new-sessions.result.engine c.run_pages-status.new.sessions.engine c.close-disk.result.0 acts answers run.last
    c.new-sessions.ensures.engine
    (c.close-disk.ensures.disk ∙ ap (λ store. store.disk) c.into_store.ensures ∙ ap (λ solo. (store_of solo).disk) c.into_engine.ensures)
    run.plays run.faults run.disk)
    c.run_pages-status.ensures.run

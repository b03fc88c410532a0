use Rattle.std.proofs.Common.{inl, inr, rules}
use Rattle.disk_runs.proofs.Opens.{runs_store, settles_told}
use Rattle.disk_runs.proofs.Openings.{reopens_settling}
use Rattle.disk_runs.proofs.on_disk.run_attached.Goals as goal

pub run_store-requires-clause-live : goal.run_store-requires-clause-live
run_store-requires-clause-live g c =
    c.in-Ok.ensures.live (settles_told (g.D.DiskTells.journal_answer c.args.disk) (g.D.DiskTells.told c.args.disk) c.in-Ok.ensures.opened)

pub returns-in-Ok-clause-run : goal.returns-in-Ok-clause-run
returns-in-Ok-clause-run g c =
    inr (runs_store g.D.DiskTells g.S.Source g.K.Sink g.W.Salts.loans _ c.args.setup.page_size c.args.setup.limit c.run_store.result.0 c.args.disk c.args.src.now
    c.args.out.now c.run_store.result.1 c.run_store.new.src c.run_store.new.out c.in-Ok.solo c.requires.page_size c.in-Ok.ensures.begins c.in-Ok.ensures.generation c.in-Ok.ensures.state
    c.in-Ok.ensures.live c.in-Ok.ensures.newest c.in-Ok.ensures.moments c.in-Ok.ensures.opened c.in-Ok.ensures.faults c.run_store.ensures.run)

pub returns-in-Err-clause-run : goal.returns-in-Err-clause-run
returns-in-Err-clause-run g c =
    inl (record {
      unopened = record { why = c.in-Err.why; refused = c.in-Err.ensures.refused; moments = search rules; says = search rules };
      reopens = reopens_settling c.args.setup.page_size c.requires.page_size (g.D.DiskTells.told c.args.disk) _ (search rules);
      untaken = search rules;
    })

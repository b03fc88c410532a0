use Rattle.std.proofs.Common.{◌∙◌, ap, refl}
use Rattle.memory_engine.specs.Plain.{PlainState}
use Rattle.page_runs.specs.InMemory.{IsAnsweredInMemory}
use Rattle.page_runs.proofs.Memory.{ends_as, nothing_in_memory, plays_in_memory}
use Rattle.page_runs.proofs.Exits.{nothing_yet}
use Rattle.page_runs.proofs.in_memory.run_in_memory.Goals as goal

pub returns-clause-run : goal.returns-clause-run
returns-clause-run g c =
    let made = c.new-sessions.ensures.engine in
    ends_as g.S.Source g.K.Sink _ IsAnsweredInMemory c.run_pages.result c.args.src.now c.args.out.now c.run_pages.new.src c.run_pages.new.out
    (λ acts answers range run.
    plays_in_memory _ c.new-sessions.result.engine c.run_pages.new.sessions.engine _ acts answers run.last
    (ap (λ (plain : PlainState). plain.maps) made ∙ c.in-Ok.ensures.maps) (ap (λ (plain : PlainState). plain.history) made ∙ c.in-Ok.ensures.history)
    (ap (λ (plain : PlainState). plain.page_size) made ∙ c.in-Ok.ensures.page_size) range run.plays run.faults)
    c.run_pages.ensures.run

-- there was no memory for the pages, and nothing was run
pub returns-in_default-clause-run : goal.returns-in_default-clause-run
returns-in_default-clause-run g c = record {
  of_run = tt;
  script = nothing_yet IsAnsweredInMemory (g.S.Source.left c.args.src.now) (g.S.Source.left c.args.src.now) (g.K.Sink.written c.args.out.now) nothing_in_memory;
  faults = (refl, refl);
}

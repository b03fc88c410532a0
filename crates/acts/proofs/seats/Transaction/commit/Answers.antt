use Rattle.std.proofs.Common.{ap, refl, false}
use Rattle.engine_spec.specs.declared.commits.Mode.TheVariants.{Concurrent}
use Rattle.page_lines.specs.contracts.raw.RawMeans.TheImpl.{ghosts}
use Rattle.page_face.specs.declared.prepared.Prepared.{Prepared}
use Rattle.page_lines.specs.declared.raw.Raw.{Raw}
use Rattle.acts.specs.declared.seats.Transaction.{Transaction}
use Rattle.acts.specs.Pagers.{told_between}
use Rattle.acts.proofs.Outcomes.{some_by, good, commit_runs, done_stays, done_acts, refuses_during, refused_acts}
use Rattle.acts.proofs.seats.Transaction.commit.Goals as goal

-- what page lines write is good over each map
pub commit-requires-clause-good : goal.commit-requires-clause-good
commit-requires-clause-good g c = λ others first stands.
    some_by (g.E.EngineTells.map_at c.args.engine.now c.args.self.pin) _
    (λ snapshot is. good snapshot c.args.self (g.E.EngineTells.state c.args.engine.now).page_size c.new.result c.new-2.result c.new.ensures
    (g.E.EngineTells.pinned_sizes c.args.engine.now c.args.self.pin snapshot c.requires.live is) c.requires.sound)

pub returns-in-Ok-clause-acts : goal.returns-in-Ok-clause-acts
returns-in-Ok-clause-acts g c = λ before after moves.
    (let answer = c.in-Ok.ensures.answer in
    done_acts (told_between g.E.EngineTells c.args.engine.now c.end.new.self) c.args.who.session c.args.who.ordinal c.args.self _ c.in-Ok.receipt
    (g.E.EngineTells.state c.commit.new.self) c.new.result c.new-2.result c.new.ensures c.new-2.ensures refl
    (answer.0, answer.1, answer.2.0) c.end.ensures.event before after moves)

pub returns-in-Ok-clause-stays : goal.returns-in-Ok-clause-stays
returns-in-Ok-clause-stays g c =
    let answer = c.in-Ok.ensures.answer in
    let prepared : Prepared Raw = record {
      mode = Concurrent;
      snap = c.args.self.pin.n;
      base = c.args.self.pin.size;
      reads = c.args.self.reads;
      changed = c.args.self.changed;
      fresh = c.new.result;
      freed = c.new-2.result;
      tail = false;
      wrote = c.args.self.wrote;
      said = c.args.self.said;
      of = record {};
    } in
    done_stays g.E.EngineTells c.args.engine.now c.commit.new.self c.end.new.self _ c.in-Ok.receipt c.args.self.pin
    c.in-Ok.ensures.stays c.end.ensures
    (commit_runs ghosts g.E.EngineTells c.args.engine.now c.args.self.pin prepared c.in-Ok.receipt c.commit.new.self
    (λ first stands. some_by (g.E.EngineTells.map_at c.args.engine.now c.args.self.pin) _
    (λ snapshot is. good snapshot c.args.self (g.E.EngineTells.state c.args.engine.now).page_size c.new.result c.new-2.result c.new.ensures
    (g.E.EngineTells.pinned_sizes c.args.engine.now c.args.self.pin snapshot c.requires.live is) c.requires.sound))
    c.in-Ok.ensures.runs)
    (answer.0, answer.1, answer.2.0)

pub after_refusal-requires : goal.after_refusal-requires
after_refusal-requires g c =
    (refuses_during _ _ _ _ c.in-Err.why _ c.new.ensures c.new-2.ensures c.in-Err.ensures.answer.1).1

pub returns-in-Err-clause-acts : goal.returns-in-Err-clause-acts
returns-in-Err-clause-acts g c =
    refused_acts (told_between g.E.EngineTells c.args.engine.now c.commit.new.self)
    c.args.who.session c.args.who.ordinal c.args.self _ c.in-Err.why c.after_refusal.result.0 c.after_refusal.result.1
    c.new.result c.new-2.result c.new.ensures c.new-2.ensures
    (refuses_during _ _ _ _ c.in-Err.why _ c.new.ensures c.new-2.ensures c.in-Err.ensures.answer.1).0
    (ap (λ (prepared : Prepared Raw). (let back : Transaction = record {
      pin = c.args.self.pin;
      reads = prepared.reads;
      changed = prepared.changed;
      said = prepared.said;
      wrote = prepared.wrote;
    } in back)) c.in-Err.ensures.answer.0)
    c.after_refusal.ensures

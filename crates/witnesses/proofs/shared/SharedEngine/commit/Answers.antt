use Rattle.std.proofs.Common.{◌≡◌, ◌∙◌, ℕ, ◌≤◌, length, refl, subst, sym, arith, inl, inr}
use Rattle.witnesses.specs.Shared.{number_in}
use Rattle.memory_engine.specs.contracts.plain.PlainEngineTells.TheImpl.{ghosts as plain_ghosts}
use Rattle.witnesses.specs.contracts.shared.SharedEngineTells.TheImpl.{ghosts}
use Rattle.witnesses.proofs.Became.{became}
use Rattle.witnesses.proofs.Answering.{answered_at_once, answered_then, answers_viewed, runs_viewed}
use Rattle.witnesses.proofs.SharedCalls.{held_then, counts_on, pins_on, run_on, theirs_within, since_is}
use Rattle.witnesses.proofs.shared.SharedEngine.commit.Goals as goal

pub commit-answer-requires-clause-live : goal.commit-answer-requires-clause-live
commit-answer-requires-clause-live g c =
    held_then g.M.Means c.args.self.now c.meanwhile.new.self c.meanwhile.ensures c.args.pin.now c.requires.live

pub returns : goal.returns
returns g c =
    let inner = plain_ghosts g.row.M g.M.Means g.M.Means-dict in
    let outer = ghosts g.row.M g.M.Means g.M.Means-dict in
    let old = c.args.self.now in
    let mid = c.meanwhile.new.self in
    let plain = c.commit-answer.new.self in
    let came = c.meanwhile.ensures in
    let pin = c.args.pin.now in
    let result = c.commit-answer.result in
    let live = came.came.pins.hold c.requires.live.0 c.requires.live.1 in
    let found = became g.M.Means inner mid.plain pin c.args.prepared c.args.who plain result refl
    (λ rose. elim rose.counted [ inl more ↦ omega (arith, more) | inr last ↦ omega (arith, last) ]) c.requires.fit.fresh c.requires.fit.freed
    c.commit-answer.ensures.answer in
    record {
      answer = answered_then g.M.Means outer old pin c.args.prepared c.args.who result _ _ came.came.later
          (answers_viewed g.M.Means inner outer old mid.plain pin c.args.prepared c.args.who
          (λ first runs. (came.came.runs first runs).plain) (came.came.pins.maps pin c.requires.live)
          mid.theirs.items mid.since mid.readers (since_is g.M.Means old mid came c.requires.live) (theirs_within mid c.requires.live.0 live)
          c.requires.fit.fresh c.requires.fit.freed refl refl refl result plain
          (answered_at_once g.M.Means inner mid.plain pin c.args.prepared c.args.who result _ refl c.commit-answer.ensures.answer));
      runs = runs_viewed g.M.Means inner outer old mid.plain pin c.args.prepared c.args.who
          (λ first runs. (came.came.runs first runs).plain) (came.came.pins.maps pin c.requires.live) result _ plain
          (λ first runs. run_on old mid plain c.commits_after-self.result mid.barred came.came.none (g.M.Means.sound first) (g.M.Means.leads first) first runs)
          c.commit-answer.ensures.runs;
      stays = record {
        pins = pins_on old mid plain c.commits_after-self.result mid.barred came.came.none came.came.pins c.commit-answer.ensures.stays.pins
            (λ counted. subst (λ (n : ℕ). (n ≡ length plain.history) × (mid.commits ≤ n)) (sym c.commits_after-self.ensures)
            (counts_on mid.plain plain (number_in result) mid.commits found counted));
        may_begin = λ may. came.came.barred ∙ may;
        opened = λ opening opened. tt;
        loans = refl;
      };
    }

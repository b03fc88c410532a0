use Rattle.std.proofs.Common.{◌∙◌, ◌-◌, arith, length, take, drop}
use Rattle.page_runs.proofs.Written.{left_of-fits, Puts-front}
use Rattle.page_runs.proofs.Counting.{some_put}
use Rattle.page_runs.proofs.output.write_all.Goals as goal

pub loop-done-preserved : goal.loop-done-preserved
loop-done-preserved g c =
    let before = c.loop-done.invariant in
    let put = c.in_ok-count.ensures in
    record {
      within = left_of-fits c.args.piece.now c.loop-done.done c.in_ok-count.count before.within put.within;
      written = Puts-front (g.K.Sink.written c.args.out.now) (g.K.Sink.written c.loop-done.out) (g.K.Sink.written c.put.new.self) c.args.piece.now c.loop-done.done c.in_ok-count.count before.written put.written;
      faults = some_put c.in_ok-count.count (length (take (length c.args.piece.now - c.loop-done.done) (drop c.loop-done.done c.args.piece.now))) (g.K.Sink.faults c.loop-done.out) (g.K.Sink.faults c.put.new.self) (omega (arith, c.if-count-eq0.false)) put.faults ∙ before.faults;
      loans = put.loans ∙ before.loans;
    }

use Rattle.std.proofs.Common.{◌≡◌, ◌-◌, length, arith}
use Rattle.page_runs.specs.Reading.{buffer_limit}
use Rattle.page_runs.proofs.Ranges.{Takes-refilled, length-pending}
use Rattle.page_runs.proofs.lines.LineReader.refill.Goals as goal

pub returns-clause-taken : goal.returns-clause-taken
returns-clause-taken g c =
    let r = c.self.inside in
    let kept : length c.args.self.now.pending ≡ r.end - r.next = length-pending c.args.self.now r.buffer.items r.line r.next r.end r.passed c.self.view_is (omega arith) (omega (arith, r.buffer.ok.0, c.self.invariant.0)) in
    Takes-refilled (g.S.Source.left c.args.src.now) (g.S.Source.left c.take_after.new.src) buffer_limit (length c.deref_mut.result.now) (length c.args.self.now.pending) (r.end - r.next) c.in_ok-count.count c.copy_within.new.self.len c.take_after.new.buffer c.copy_within.new.self.items kept (omega (arith, c.deref_mut.ensures.len, c.copy_within.ensures.len, c.self.invariant.0)) (omega (arith, c.take_after.auto.buffer, c.deref_mut.ensures.len)) c.in_ok-count.ensures.taken

use Rattle.std.proofs.Common.{◌∙◌, sym, length}
use Rattle.disk_mem.proofs.Places.{sync_clears, sync_keeps}
use Rattle.disk_mem.proofs.crash.mark_step.Goals as goal

pub returns-then-is_same : goal.returns-then-is_same
returns-then-is_same c ranges was = sync_clears c.args.step.now c.in-Synced.synced c.args.file ranges (length c.args.marks.now) c.clear.new.marks
    c.in-Synced.is (sym c.is_same.ensures ∙ c.if-is_same.true) c.clear.ensures

pub returns-else-is_same : goal.returns-else-is_same
returns-else-is_same c ranges was = sync_keeps c.args.step.now c.in-Synced.synced c.args.file ranges (length c.args.marks.now) c.args.marks.now
    c.in-Synced.is (sym c.is_same.ensures ∙ c.if-is_same.false) was

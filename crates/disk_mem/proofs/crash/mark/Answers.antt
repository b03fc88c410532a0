use Rattle.std.proofs.Common.{◌∙◌, ap, arith, length, replicate, false}
use Rattle.disk_mem.proofs.Places.{none_marked}
use Rattle.disk_mem.proofs.crash.mark.Goals as goal

pub loop-step-init : goal.loop-step-init
loop-step-init c = none_marked c.args.file (length c.clear.new.marks) c.clear.new.marks (c.clear.ensures ∙ ap (λ n. replicate n false) (omega arith))

use Rattle.std.proofs.Common.{◌∙◌, sym, arith, false, replicate, length}
use Rattle.std.proofs.lemmas.List.{ext_get_or, length-replicate, get_or-replicate}
use Rattle.disk_mem.proofs.crash.clear.Goals as goal

pub returns : goal.returns
returns c = ext_get_or false c.loop-place.marks (replicate (length c.args.marks.now) false) (omega (arith, length-replicate (length c.args.marks.now) false))
    (λ k below. c.loop-place.invariant k (omega arith) ∙ sym (get_or-replicate (length c.args.marks.now) k false false (omega arith)))

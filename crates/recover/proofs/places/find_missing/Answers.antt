use Rattle.std.proofs.Common.{◌+◌, ◌-◌, length, ◌∙◌, sym, arith}
use Rattle.recover.specs.Looking.{is_whole_in}
use Rattle.recover.proofs.Missing.{goes_on, whole_in}
use Rattle.recover.proofs.places.find_missing.Goals as goal

pub loop-index-preserved : goal.loop-index-preserved
loop-index-preserved c =
    goes_on (is_whole_in c.args.places.now c.args.size c.args.main) (c.loop-index.index + 1) (length c.args.places.now - c.loop-index.index) (length c.args.places.now - (c.loop-index.index + 1)) (omega arith)
    (sym (whole_in c.args.places.now c.args.size c.args.main c.loop-index.index) ∙ sym c.is_whole_at.ensures ∙ c.if-not-is_whole_at.false)
    ∙ c.loop-index.invariant

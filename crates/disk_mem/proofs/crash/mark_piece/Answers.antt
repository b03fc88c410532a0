use Rattle.std.proofs.Common.{◌∙◌, sym, arith, length}
use Rattle.disk_face.specs.Image.{range_of}
use Rattle.disk_mem.proofs.Places.{places_more, range_marks}
use Rattle.disk_mem.proofs.crash.mark_piece.Goals as goal

pub returns-then-is_same : goal.returns-then-is_same
returns-then-is_same c ranges was = places_more (range_of c.args.piece.now) ranges c.args.file (length c.args.marks.now) c.args.marks.now c.mark_range.new.marks was (omega arith)
    (λ place inside. range_marks c.args.piece.now c.args.file place _ _ (sym c.is_same.ensures ∙ c.if-is_same.true) (grind (arith, c.mark_range.ensures place inside)))

use Rattle.std.proofs.Common.{arith}
use Rattle.overlay.specs.Places.{image_numbers}
use Rattle.overlay.proofs.Numbers.{numbered_rise}
use Rattle.overlay.proofs.FreedLaws.{numbers_lower}
use Rattle.overlay.proofs.overlay.Overlay.thaw.Goals as goal

pub of-requires-2 : goal.of-requires-2
of-requires-2 g c =
    numbers_lower c.args.prepared.base 0 (image_numbers c.args.prepared.fresh) (omega arith)
    (numbered_rise c.args.prepared.base (image_numbers c.args.prepared.fresh) c.requires.change.fresh)

pub of-requires-3 : goal.of-requires-3
of-requires-3 g c = numbers_lower 1 0 c.args.prepared.freed (omega arith) c.requires.change.freed

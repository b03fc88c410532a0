use Rattle.std.proofs.Common.{◌≡◌, length}
use Rattle.overlay.specs.Images.{merged}
use Rattle.overlay.specs.Layers.{AreLayers}
use Rattle.overlay.specs.Runs.{items_in, room_in}
use Rattle.overlay.proofs.images.Images.mark.Given as goal

abbrev pub invariant-loop-image : goal.invariant-loop-image
invariant-loop-image l =
    (merged (items_in l.self-inside.kept) l.self-inside.since.items ≡ merged (items_in l.initial.self-inside.kept) l.initial.self-inside.since.items)
    × AreLayers (items_in l.self-inside.kept) l.self-inside.since.items (room_in l.self-inside.kept)

abbrev pub decreases-loop-image : goal.decreases-loop-image
decreases-loop-image l = length l.self-inside.since.items

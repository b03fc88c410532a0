use Rattle.std.proofs.Common.{◌∙◌, List, ℕ, Some, sym, ap}
use Rattle.overlay.proofs.Searching.{image_there, image_none}
use Rattle.overlay.proofs.images.bytes_of.Goals as goal

pub returns-in-Ok : goal.returns-in-Ok
returns-in-Ok c =
    image_there 0 c.args.images.now c.args.page c.in-Ok.at c.index-images-at.result c.requires c.in-Ok.ensures
    ∙ ap (λ (bytes : List ℕ). Some bytes) (sym c.bytes.ensures)

pub returns-in-Err : goal.returns-in-Err
returns-in-Err c = image_none c.args.images.now c.args.page c.in-Err.field-0 c.in-Err.ensures

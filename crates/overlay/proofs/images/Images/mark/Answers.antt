use Rattle.std.proofs.Common.{◌∙◌, List, sym, subst, ap}
use Rattle.engine_spec.specs.declared.commits.PageImage.{PageImage}
use Rattle.overlay.specs.Images.{merged}
use Rattle.overlay.specs.Layers.{AreLayers}
use Rattle.overlay.specs.Runs.{items_in, room_in}
use Rattle.overlay.proofs.ImageLaws.{merged_last}
use Rattle.overlay.proofs.LayerLaws.{layers_last}
use Rattle.overlay.proofs.images.Images.mark.Goals as goal

pub loop-image-preserved : goal.loop-image-preserved
loop-image-preserved c =
    let kept = items_in c.loop-image.self-inside.kept in
    let rest = c.pop.new.self.items in
    let more = room_in c.put_reserved.new.images in (
      ap (λ (all : List PageImage). merged all rest) c.put_reserved.ensures.items
          ∙ (sym (merged_last kept rest c.in-Some.image)
          ∙ (ap (λ (others : List PageImage). merged kept others) (sym c.in-Some.ensures.items) ∙ c.loop-image.invariant.0)),
      subst (λ (all : List PageImage). AreLayers all rest more) (sym c.put_reserved.ensures.items)
          (layers_last kept rest (room_in c.loop-image.self-inside.kept) more c.in-Some.image
          (subst (λ (others : List PageImage). AreLayers kept others (room_in c.loop-image.self-inside.kept)) c.in-Some.ensures.items
          c.loop-image.invariant.1) c.put_reserved.ensures.room),
    )

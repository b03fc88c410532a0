use Rattle.std.proofs.Common.{◌∙◌, List, subst, Ok, Err}
use Rattle.engine_spec.specs.declared.commits.PageImage.{PageImage}
use Rattle.overlay.specs.Places.{image_numbers, IsPlace}
use Rattle.overlay.specs.Runs.{items_in}
use Rattle.overlay.proofs.Searching.{put_there, put_new}
use Rattle.overlay.proofs.images.put_reserved.Goals as goal

pub returns-in-Ok-clause-items : goal.returns-in-Ok-clause-items
returns-in-Ok-clause-items c =
    c.set.ensures.items
    ∙ put_there 0 (items_in c.args.images.now) c.args.image.page c.in-Ok.at c.args.image.bytes c.requires.rises
    (subst (λ (all : List PageImage). IsPlace (image_numbers all) c.args.image.page (Ok c.in-Ok.at)) c.as_slice.ensures c.in-Ok.ensures)

pub returns-in-Err-clause-items : goal.returns-in-Err-clause-items
returns-in-Err-clause-items c =
    c.insert_reserved.ensures.items
    ∙ put_new (items_in c.args.images.now) c.args.image.page c.in-Err.at c.args.image.bytes
    (subst (λ (all : List PageImage). IsPlace (image_numbers all) c.args.image.page (Err c.in-Err.at)) c.as_slice.ensures c.in-Err.ensures)

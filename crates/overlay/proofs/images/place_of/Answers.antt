use Rattle.std.proofs.Common.{rules}
use Rattle.std.proofs.lemmas.List.Sorted.{answers_always}
use Rattle.engine_spec.specs.declared.commits.PageImage.{PageImage}
use Rattle.overlay.proofs.Searching.{is_place}
use Rattle.overlay.proofs.images.place_of.Goals as goal

pub returns : goal.returns
returns c =
    is_place c.args.images.now c.args.page c.binary_search_by_key.result c.requires
    (c.binary_search_by_key.ensures.position (λ (image : PageImage). image.page) (answers_always _ _ _ (λ f a r h called. search rules)))

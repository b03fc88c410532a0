use Rattle.std.proofs.Common.{◌∙◌, ap, List, [], ◌∷◌, map}
use Rattle.engine_spec.specs.declared.commits.PageImage.{PageImage}
use Rattle.engine_spec.specs.PageSet.{with_pages}
use Rattle.memory_engine.specs.Plain.{PlainState}
use Rattle.memory_engine.proofs.PlainCommits.{plain_pushed}
use Rattle.memory_engine.proofs.plain.Plain.add.Goals as goal

pub invariant_of-self-2 : goal.invariant_of-self-2
invariant_of-self-2 g c =
    plain_pushed c.args.self.now c.args.prepared c.args.who c.requires.add
    _ _ _ _ _ _ _ _
    (ap (λ (s : PlainState). s.page_size) c.self.view_is)
    (ap (λ (s : PlainState). s.usable) c.self.view_is)
    (c.reserve.ensures.items ∙ ap (λ (s : PlainState). s.maps) c.self.view_is)
    (c.reserve-else-is_err.ensures.items ∙ ap (λ (s : PlainState). s.history) c.self.view_is)
    c.in-Ok.ensures
    (c.in-Ok-written_pages.ensures ∙ ap (λ (images : List PageImage). with_pages (1 ∷ []) (map (λ image. image.page) images)) c.as_slice.ensures)
    c.push_reserved.ensures
    c.push_reserved-2.ensures

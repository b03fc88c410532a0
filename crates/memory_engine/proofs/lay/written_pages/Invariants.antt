use Rattle.std.proofs.Common.{◌≡◌, [], ◌∷◌, drop, map}
use Rattle.engine_spec.specs.PageSet.{with_pages}
use Rattle.memory_engine.proofs.lay.written_pages.Given as goal

-- adding the pages that are left gives what adding all of them to page 1 does
abbrev pub invariant-loop-image : goal.invariant-loop-image
invariant-loop-image l =
    with_pages l.pages (map (λ image. image.page) (drop l.image-index l.changed))
    ≡ with_pages (1 ∷ []) (map (λ image. image.page) l.changed)

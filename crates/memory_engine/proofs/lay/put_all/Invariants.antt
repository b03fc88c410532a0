use Rattle.std.proofs.Common.{◌≡◌, drop, length, All}
use Rattle.engine_spec.specs.Change.{put_pages}
use Rattle.memory_engine.proofs.lay.put_all.Given as goal

-- laying the images that are left gives what laying all of them on the first map does; the pages stay whole, and so many
abbrev pub invariant-loop-image : goal.invariant-loop-image
invariant-loop-image l =
    (put_pages l.mode l.tail l.laid (drop l.image-index l.changed) ≡ put_pages l.mode l.tail l.pages l.changed)
    × (All (λ page. length page ≡ l.page_size) l.laid)
    × (length l.laid ≡ length l.pages)

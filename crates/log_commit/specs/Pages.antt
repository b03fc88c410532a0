-- The pages that a commit is handed.
use Rattle.std.specs.Prelude.{List, ◌∷◌}
use Rattle.engine_spec.specs.declared.commits.PageImage.{PageImage}
use Rattle.log_commit.specs.Commit.{in_order}
use Rattle.log_commit.specs.declared.commit.CommitPages.{CommitPages}

-- the pages as their frames stand: page 1, and behind it those of the changed pages that the order names
abbrev pub images_of : CommitPages → List PageImage
images_of pages = (record { page = 1; bytes = pages.first.now }) ∷ in_order pages.changed.now pages.order.now

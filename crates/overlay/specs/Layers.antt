-- What holds of two layers of images: the pages of each rise, and there is room below for all above.
use Rattle.std.specs.Prelude.{ℕ, ◌≤◌, List, length}
use Rattle.engine_spec.specs.declared.commits.PageImage.{PageImage}
use Rattle.overlay.specs.Places.{image_numbers, RisesFrom}

pub record AreLayers (below above : List PageImage) (room : ℕ) : Type 0 where
  pub kept : RisesFrom 0 (image_numbers below)
  pub since : RisesFrom 0 (image_numbers above)
  pub fits : length above ≤ room

-- What the images of a test have to be.
use Rattle.std.specs.Prelude.{◌≡◌, ◌≢◌, ◌≤◌, List, length, All}
use Rattle.std.specs.List.{AllPairs}
use Rattle.engine_spec.specs.declared.commits.PageImage.{PageImage}

-- at most 100 images of different pages from 1 on, each of 512 bytes
pub record AreFit (images : List PageImage) : Type 0 where
  pub few : length images ≤ 100
  pub least : All (λ image. 1 ≤ image.page) images
  pub whole : All (λ image. length image.bytes ≡ 512) images
  pub different : AllPairs (λ one other. one.page ≢ other.page) images

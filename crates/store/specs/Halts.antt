-- The pages of a commit that are kept where a write of it failed.
use Rattle.std.specs.Prelude.{ℕ, List, [], ◌∷◌, take, drop}
use Rattle.engine_spec.specs.declared.commits.PageImage.{PageImage}

-- pages with these numbers, whose bytes stand one page behind the other
abbrev pub images_in : (size : ℕ) → List ℕ → List ℕ → List PageImage
images_in size [] bytes = []
images_in size (page ∷ pages) bytes = (record { page = page; bytes = take size bytes }) ∷ images_in size pages (drop size bytes)

-- some pages as callers see them: their numbers, their bytes, and for how many pages and bytes more there is room
pub record KeptPages : Type 0 where
  pub pages : List ℕ
  pub bytes : List ℕ
  pub page_room : ℕ
  pub byte_room : ℕ

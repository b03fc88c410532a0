-- Images of pages in rising order of their numbers, as they are and as they were at a mark.
use Rattle.std.specs.Prelude.{ℕ, ◌==◌, if◌then◌else◌, nat_lt, List, [], ◌∷◌}
use Rattle.engine_spec.specs.declared.commits.PageImage.{PageImage}

-- the images with this one in the place of that of its page, or where its number belongs
abbrev pub with_put : List PageImage → ℕ → List ℕ → List PageImage
with_put [] page bytes = record { page = page; bytes = bytes } ∷ []
with_put (image ∷ images) page bytes =
    if page == image.page then record { page = page; bytes = bytes } ∷ images
    else (if nat_lt page image.page then record { page = page; bytes = bytes } ∷ image ∷ images else image ∷ with_put images page bytes)

-- the images with each of the others put over them
abbrev pub merged : List PageImage → List PageImage → List PageImage
merged images [] = images
merged images (image ∷ others) = with_put (merged images others) image.page image.bytes

-- images as they are, as they were at a mark, and those that were put since
pub record TwoImages : Type 0 where
  pub now : List PageImage
  pub marked : List PageImage
  pub since : List PageImage

-- the images with one more put since the mark
abbrev pub image_put_since : TwoImages → ℕ → List ℕ → TwoImages
image_put_since images page bytes = record images { now = with_put images.now page bytes; since = with_put images.since page bytes }

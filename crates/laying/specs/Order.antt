-- The order in which a commit writes its pages.
use Rattle.std.specs.Prelude.{ℕ, ◌+◌, ◌<◌, nat_lt, if◌then◌else◌, List, [], ◌∷◌, length, map, slice_index, Contains, All}
use Rattle.std.specs.List.Sorted.{IsStrictlyIncreasing}
use Rattle.engine_spec.specs.declared.commits.PageImage.{PageImage}
pub use Rattle.log_commit.specs.Commit.{no_image, in_order}

-- the numbers of the pages that these images are of
abbrev pub page_numbers : List PageImage → List ℕ
page_numbers images = map (λ image. image.page) images

-- the images that a commit writes: page 1, of these bytes, and the others in this order
abbrev pub images_of : List ℕ → List PageImage → List ℕ → List PageImage
images_of first images order = (record { page = 1; bytes = first }) ∷ in_order images order

-- An order of images: places among them, at which the page numbers rise from page 2 on, and none is left out.
pub record IsOrder (images : List PageImage) (order : List ℕ) : Type 0 where
  pub places : All (λ place. place < length images) order
  pub rising : IsStrictlyIncreasing (1 ∷ page_numbers (in_order images order))
  pub all : (place : ℕ) → place < length images → 1 < slice_index (page_numbers images) place → Contains order place

-- the places of the images of pages from 2 on, where the first image's place is this number
abbrev pub places_from : ℕ → List PageImage → List ℕ
places_from place [] = []
places_from place (image ∷ images) =
    if nat_lt 1 image.page then place ∷ places_from (place + 1) images else places_from (place + 1) images

-- Numbers of pages in rising order, and where one stands among them.
use Rattle.std.specs.Prelude.{◌≡◌, ℕ, ◌+◌, ◌<◌, ◌≤◌, List, [], ◌∷◌, length, map, slice_index, Result, Ok, Err}
use Rattle.engine_spec.specs.declared.commits.PageImage.{PageImage}

-- the numbers of the pages
abbrev pub image_numbers : List PageImage → List ℕ
image_numbers images = map (λ image. image.page) images

-- the numbers rise, and the first is above this one
abbrev pub RisesFrom : ℕ → List ℕ → Type 0
RisesFrom low [] = Unit {0}
RisesFrom low (page ∷ pages) = (low < page) × RisesFrom page pages

-- the numbers follow this one, without a gap
abbrev pub AreNumbered : ℕ → List ℕ → Type 0
AreNumbered base [] = Unit {0}
AreNumbered base (page ∷ pages) = (page ≡ base + 1) × AreNumbered (base + 1) pages

-- where a number stands among others, or the place behind the lesser ones
abbrev pub IsPlace : List ℕ → ℕ → Result ℕ ℕ → Type 0
IsPlace pages page (Ok at) = (at < length pages) × (slice_index pages at ≡ page)
IsPlace pages page (Err at) = (at ≤ length pages) × ((k : ℕ) → k < at → slice_index pages k < page)
    × ((k : ℕ) → at ≤ k → k < length pages → page < slice_index pages k)

-- The numbers that new pages get at a commit. A concurrent transaction numbered them on from its snapshot's end, where others may have made
-- pages meanwhile. They get those behind the current map's last page, in their order.
use Rattle.std.specs.Prelude.{ℕ, zero, suc, ◌+◌, ◌==◌, ◌||◌, if◌then◌else◌, Bool, false, List, [], ◌∷◌}
use Rattle.engine_spec.specs.declared.commits.PageImage.{PageImage}

-- so many numbers behind the last page
abbrev pub numbers_given : (last count : ℕ) → List ℕ
numbers_given last zero = []
numbers_given last (suc count) = (last + 1) ∷ numbers_given (last + 1) count

-- The number that a page has after the commit: of the new pages, which had numbers of the transaction's own, each has the one given to it, and
-- any other page keeps its own.
abbrev pub new_number : (own given : List ℕ) → ℕ → ℕ
new_number [] given page = page
new_number (first ∷ own) [] page = page
new_number (first ∷ own) (number ∷ given) page = if first == page then number else new_number own given page

-- a page is one of these
abbrev pub is_among : List ℕ → ℕ → Bool
is_among [] page = false
is_among (first ∷ pages) page = (first == page) || is_among pages page

-- the images of pages that aren't among these
abbrev pub without : List ℕ → List PageImage → List PageImage
without pages [] = []
without pages (image ∷ images) = if is_among pages image.page then without pages images else image ∷ without pages images

-- the numbers of images
abbrev pub numbers_of : List PageImage → List ℕ
numbers_of [] = []
numbers_of (image ∷ images) = image.page ∷ numbers_of images

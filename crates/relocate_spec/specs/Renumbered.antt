-- Pages with their pointers renumbered: each number that names a new page becomes the one that this page gets.
use Rattle.std.specs.Prelude.{ℕ, ◌+◌, ◌==◌, if◌then◌else◌, List, [], ◌∷◌, ◌++◌, take, drop}
use Rattle.page_spec.specs.Bytes.{u32_at}
use Rattle.engine_spec.specs.declared.commits.PageImage.{PageImage}
use Rattle.engine_spec.specs.Change.{u32_bytes}
use Rattle.relocate_spec.specs.Pointers.{pointer_places}

-- the bytes with a number of four bytes at an offset
abbrev pub with_number : List ℕ → (at number : ℕ) → List ℕ
with_number bytes at number = take at bytes ++ (u32_bytes number ++ drop (at + 4) bytes)

-- the bytes with the number at an offset renumbered, which stay as they are where it keeps its page's number
abbrev pub number_renumbered : (ℕ → ℕ) → (at : ℕ) → List ℕ → List ℕ
number_renumbered name at bytes = if name (u32_at bytes at) == u32_at bytes at then bytes else with_number bytes at (name (u32_at bytes at))

-- and with the numbers at each of these offsets
abbrev pub renumbered_at : (ℕ → ℕ) → (places : List ℕ) → List ℕ → List ℕ
renumbered_at name [] bytes = bytes
renumbered_at name (at ∷ places) bytes = renumbered_at name places (number_renumbered name at bytes)

-- the bytes of a page with its pointers renumbered; all other bytes stay
abbrev pub page_renumbered : (ℕ → ℕ) → (usable page : ℕ) → List ℕ → List ℕ
page_renumbered name usable page bytes = renumbered_at name (pointer_places usable (page == 1) bytes) bytes

-- a page under its new number, with its pointers renumbered
abbrev pub image_renumbered : (ℕ → ℕ) → (usable : ℕ) → PageImage → PageImage
image_renumbered name usable image = record { page = name image.page; bytes = page_renumbered name usable image.page image.bytes }

-- and a whole set of pages
abbrev pub renumbered : (ℕ → ℕ) → (usable : ℕ) → List PageImage → List PageImage
renumbered name usable [] = []
renumbered name usable (image ∷ images) = image_renumbered name usable image ∷ renumbered name usable images

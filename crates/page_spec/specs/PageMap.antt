-- A page map: the pages of a database, numbered from 1, each a list of bytes of one page size.
use Rattle.std.specs.Prelude.{◌≡◌, ℕ, ◌≤◌, ◌==◌, if◌then◌else◌, List, [], ◌∷◌, length, drop, slice_index, Contains}
use Rattle.std.specs.List.{slice_index_or}
pub use Rattle.page_spec.specs.Header.{page_sizes}

-- the pages of a database, the first of them page 1
abbrev pub PageMap : Type 0
PageMap = List (List ℕ)

-- the bytes of a page, none for a number that is no page of the map
abbrev pub page_at : PageMap → ℕ → List ℕ
page_at pages number = slice_index_or ([] ∷ pages) number []

-- the page size in bytes, which all pages have
abbrev pub page_size_of : PageMap → ℕ
page_size_of pages = length (page_at pages 1)

-- the count of bytes at the end of each page that are reserved, which page 1 names at offset 20
abbrev pub reserved_of : PageMap → ℕ
reserved_of pages = slice_index (page_at pages 1) 20

-- what of a page counts where two maps are compared: all of it, but for page 1 only what follows its first 100 bytes
abbrev pub compared : ℕ → List ℕ → List ℕ
compared number bytes = if number == 1 then drop 100 bytes else bytes

-- The later map is at least as long, and each of the pages named is the same in both.
-- The page size and the reserved bytes are equal, which no commit changes.
pub record Agree (before after : PageMap) (numbers : List ℕ) : Type 0 where
  pub no_shorter : length before ≤ length after
  pub same : (number : ℕ) → Contains numbers number → compared number (page_at before number) ≡ compared number (page_at after number)
  pub page_size : page_size_of before ≡ page_size_of after
  pub reserved : reserved_of before ≡ reserved_of after

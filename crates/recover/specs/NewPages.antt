-- The pages that a new database begins with, and page 1 with this program's versions.
use Rattle.std.specs.Prelude.{ℕ, ◌-◌, ◌/◌, ◌%◌, ◌==◌, if◌then◌else◌, List, [], ◌∷◌, ◌++◌, length, replicate, slice_set}
use Rattle.page_spec.specs.Header.{database_text}
use Rattle.page_spec.specs.PageMap.{PageMap}
use Rattle.crash_spec.specs.Recovered.{pages_from}
use Rattle.recover.specs.declared.setup.StoreKind.{StoreKind}
use Rattle.recover.specs.declared.setup.StoreKind.TheVariants.{Pages, Tables}

-- how many pages a new database has
abbrev pub new_count : StoreKind → ℕ
new_count Pages = 16
new_count Tables = 1

-- a number below 256 in four bytes
abbrev pub in_four : ℕ → List ℕ
in_four n = 0 ∷ 0 ∷ 0 ∷ n ∷ []

-- The first 100 bytes of page 1, field by field. The two bytes of the page size have 1 for 65536.
abbrev pub new_header : (page_size pages : ℕ) → List ℕ
new_header page_size pages =
    database_text  -- at 0
    ++ page_size / 256 % 256 ∷ page_size / 65536 % 256 ∷ []  -- at 16, the page size
    ++ 3 ∷ 3 ∷ []  -- at 18, the write and the read version
    ++ 0 ∷ []  -- at 20, the reserved bytes
    ++ 64 ∷ 32 ∷ 32 ∷ []  -- at 21, the payload fractions
    ++ in_four 1  -- at 24, the change counter
    ++ in_four pages  -- at 28, the size in pages
    ++ in_four 0  -- at 32, the first freelist trunk
    ++ in_four 0  -- at 36, the count of free pages
    ++ in_four 0  -- at 40, the schema cookie
    ++ in_four 4  -- at 44, the schema format
    ++ in_four 0  -- at 48
    ++ in_four 0  -- at 52, the largest root page
    ++ in_four 1  -- at 56, the text encoding
    ++ replicate 32 0  -- at 60
    ++ in_four 1  -- at 92, what the change counter was when the size was written
    ++ in_four 0  -- at 96

-- What stands behind them: for tables an empty table leaf, whose cells would begin at the end of the page, 0 for 65536.
abbrev pub new_leaf : StoreKind → (page_size : ℕ) → List ℕ
new_leaf Pages page_size = replicate 8 0
new_leaf Tables page_size =
    13 ∷ []  -- at 100, the kind of page
    ++ 0 ∷ 0 ∷ []  -- at 101, the first freeblock
    ++ 0 ∷ 0 ∷ []  -- at 103, how many cells there are
    ++ page_size / 256 % 256 ∷ 0 ∷ []  -- at 105, where the cells begin
    ++ 0 ∷ []  -- at 107, fragmented bytes

abbrev pub new_front : StoreKind → (page_size : ℕ) → List ℕ
new_front kind page_size = new_header page_size (new_count kind) ++ new_leaf kind page_size

-- page 1 of a new database
unfoldable pub new_first_page : StoreKind → (page_size : ℕ) → List ℕ
new_first_page kind page_size = new_front kind page_size ++ replicate (page_size - 108) 0

-- the pages of a commit: this one first, and behind it pages of zero bytes
abbrev pub first_then_zeros : List ℕ → ℕ → List ℕ
first_then_zeros first number = if number == 1 then first else replicate (length first) 0

-- the pages of a new database
unfoldable pub new_pages : StoreKind → (page_size : ℕ) → PageMap
new_pages kind page_size = pages_from (first_then_zeros (new_first_page kind page_size)) 1 (new_count kind)

-- page 1 with the versions 3, 3, and nothing else changed
abbrev pub with_versions : List ℕ → List ℕ
with_versions page = slice_set (slice_set page 18 3) 19 3

-- the map with that page 1
abbrev pub migrated : PageMap → PageMap
migrated [] = []
migrated (page ∷ rest) = with_versions page ∷ rest

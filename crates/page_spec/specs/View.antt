-- A view of pages: what a reader sees at each page number, without an end.
use Rattle.std.specs.Prelude.{ℕ, ◌==◌, if◌then◌else◌, List, ◌++◌, take, drop}
use Rattle.page_spec.specs.PageMap.{PageMap, page_at}

-- the bytes of the page of each number
abbrev pub View : Type 0
View = ℕ → List ℕ

-- what is seen of a page map: no bytes past its end
abbrev pub view_of : PageMap → View
view_of pages number = page_at pages number

-- a view with one page changed
abbrev pub view_with : View → ℕ → List ℕ → View
view_with view page bytes number = if number == page then bytes else view number

-- The freelist fields of page 1: the number of the first trunk page and the count of free pages, in bytes 32 to 39.
-- Source: SQLite's "Database File Format", "The Database Header".
abbrev pub freelist_fields : List ℕ → List ℕ
freelist_fields bytes = take 8 (drop 32 bytes)

-- page 1 without its freelist fields
abbrev pub but_freelist : List ℕ → List ℕ
but_freelist bytes = take 32 bytes ++ drop 40 bytes

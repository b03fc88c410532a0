-- What a transaction changed, and what laying that over a page map gives.
use Rattle.std.specs.Prelude.{ℕ, ◌+◌, ◌-◌, ◌%◌, ◌^◌, Bool, if◌then◌else◌, ◌==◌, List, [], ◌∷◌, ◌++◌, length, take, drop, slice_set, map, Option, Some, None}
use Rattle.std.specs.Int.{w32, to_be_bytes}
use Rattle.page_spec.specs.Bytes.{u32_at}
use Rattle.page_spec.specs.PageMap.{PageMap, page_at}
use Rattle.engine_spec.specs.declared.commits.Mode.{Mode}
use Rattle.engine_spec.specs.declared.commits.Mode.TheVariants.{Plain, Concurrent}
use Rattle.engine_spec.specs.declared.commits.PageImage.{PageImage}

-- A transaction's change: how it was begun, the size of its snapshot in pages, the pages of the snapshot that it changed,
-- the new ones, numbered on from the base, the pages that it freed, and whether it changed page 1 from byte 100 on.
pub record Change : Type 0 where
  pub mode : Mode
  pub base : ℕ
  pub changed : List PageImage
  pub fresh : List PageImage
  pub freed : List ℕ
  pub tail : Bool

-- the image of a page among these, if it is there
abbrev pub image_of : List PageImage → ℕ → Option (List ℕ)
image_of [] page = None
image_of (image ∷ images) page = if image.page == page then Some image.bytes else image_of images page

-- the bytes of a page from one offset up to another
abbrev pub between : ℕ → ℕ → List ℕ → List ℕ
between from to bytes = take (to - from) (drop from bytes)

-- the freelist, the schema cookie, format and encoding stand in bytes 32 to 59 of page 1: a plain transaction sets them
abbrev pub schema_fields : Mode → List ℕ → List ℕ → List ℕ
schema_fields Plain old new = between 32 60 new
schema_fields Concurrent old new = between 32 60 old

-- page 1 after a change: of its first 100 bytes only the schema fields are the transaction's; the rest is where it changed that
abbrev pub laid_first : Mode → Bool → List ℕ → List ℕ → List ℕ
laid_first mode tail old new =
    take 32 old ++ (schema_fields mode old new ++ (between 60 100 old ++ (if tail then drop 100 new else drop 100 old)))

-- a page after a change of it
abbrev pub laid_page : Mode → Bool → ℕ → List ℕ → List ℕ → List ℕ
laid_page mode tail number old new = if number == 1 then laid_first mode tail old new else new

-- a map with one page changed
abbrev pub put_page : Mode → Bool → PageMap → PageImage → PageMap
put_page mode tail pages image =
    slice_set pages (image.page - 1) (laid_page mode tail image.page (page_at pages image.page) image.bytes)

-- a map with each of these pages changed
abbrev pub put_pages : Mode → Bool → PageMap → List PageImage → PageMap
put_pages mode tail pages [] = pages
put_pages mode tail pages (image ∷ images) = put_pages mode tail (put_page mode tail pages image) images

-- The new pages that are laid: all of them, as long as none is freed again.
abbrev pub new_pages : Change → List PageImage
new_pages change = change.fresh

-- Laying a change over a map has three steps.

-- Place: the changed pages are put over the map, and the new ones follow its last page.
abbrev pub placed : PageMap → Change → PageMap
placed pages change = put_pages change.mode change.tail pages change.changed ++ map (λ image. image.bytes) (new_pages change)

-- Freelist: the freed pages join it. No page is freed yet, so all stays as it was placed; what freeing does to the map joins here.
abbrev pub with_freed : PageMap → Change → PageMap
with_freed pages change = pages

-- the change counter of page 1 after one commit more
abbrev pub next_counter : List ℕ → ℕ
next_counter first = (u32_at first 24 + 1) % 2 ^ 32

-- the four bytes of a number, the most significant first
abbrev pub u32_bytes : ℕ → List ℕ
u32_bytes number = to_be_bytes w32 number

-- Page 1 of a map of so many pages, once its header says so: the change counter at 24 is one more, the size in pages stands at 28,
-- and the counter that this size is valid for at 92. All other bytes stay.
-- Source: SQLite's "Database File Format", "File change counter" and "In-header database size".
abbrev pub stamped : ℕ → List ℕ → List ℕ
stamped size first =
    take 24 first ++ (u32_bytes (next_counter first) ++ (u32_bytes size
    ++ (between 32 92 first ++ (u32_bytes (next_counter first) ++ drop 96 first))))

-- Header: page 1 says how many pages there are, and that the database changed.
abbrev pub with_header : PageMap → PageMap
with_header [] = []
with_header (first ∷ pages) = stamped (length (first ∷ pages)) first ∷ pages

-- The map that a commit makes of the newest one: all three.
abbrev pub laid : PageMap → Change → PageMap
laid pages change = with_header (with_freed (placed pages change) change)

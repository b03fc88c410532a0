-- What page lines mean as the statements of a transaction.
use Rattle.std.specs.Prelude.{◌≡◌, ℕ, ◌≤◌, ◌==◌, if◌then◌else◌, List, [], ◌∷◌, ◌++◌, length, map, replicate, slice_index, Contains, All, unwrap_or, codes}
use Rattle.std.specs.Fmt.{decimal}
use Rattle.page_spec.specs.PageMap.{PageMap, page_at, page_size_of, page_sizes}
use Rattle.engine_spec.specs.PageSet.{AreDifferent}
use Rattle.engine_spec.specs.declared.commits.PageImage.{PageImage}
use Rattle.engine_spec.specs.Change.{image_of}

-- a statement of page lines: a page is read, or every byte of it is set
pub data Statement : Type 0 where
  ReadPage : ℕ → Statement
  WritePage : ℕ → ℕ → Statement

-- the text of a read, as it is kept among a transaction's statements
abbrev pub read_text : ℕ → List ℕ
read_text page = codes "READ " ++ decimal page

-- the text of a write
abbrev pub write_text : ℕ → ℕ → List ℕ
write_text page byte = codes "WRITE " ++ (decimal page ++ (codes " " ++ decimal byte))

-- the text of a statement
abbrev pub statement_text : Statement → List ℕ
statement_text (ReadPage page) = read_text page
statement_text (WritePage page byte) = write_text page byte

-- what some statements make of the bytes of a page
abbrev pub page_after : ℕ → List Statement → List ℕ → List ℕ
page_after page [] bytes = bytes
page_after page (ReadPage other ∷ statements) bytes = page_after page statements bytes
page_after page (WritePage other byte ∷ statements) bytes =
    page_after page statements (if other == page then replicate (length bytes) byte else bytes)

-- A page store is sound: 16 pages of one legal size, and byte 100 of page 1, where a database has its first tree, is zero.
pub record IsPageStore (pages : PageMap) : Type 0 where
  pub count : length pages ≡ 16
  pub size : Contains page_sizes (page_size_of pages)
  pub each : All (λ page. length page ≡ page_size_of pages) pages
  pub no_tree : slice_index (page_at pages 1) 100 ≡ 0

-- statements with these texts lead from one page store to another: on pages 2 to 16, which are all that page lines speak of
pub record PageLinesLead (before : PageMap) (said : List (List ℕ)) (after : PageMap) : Type 0 where
  pub statements : List Statement
  pub texts : said ≡ map statement_text statements
  pub pages : (page : ℕ) → 2 ≤ page → page ≤ 16 → page_at after page ≡ page_after page statements (page_at before page)

-- these images with one for this page: in the place of the one that is there, else at the end
abbrev pub with_image : List PageImage → ℕ → List ℕ → List PageImage
with_image [] page bytes = record { page = page; bytes = bytes } ∷ []
with_image (image ∷ images) page bytes =
    if image.page == page then record { page = page; bytes = bytes } ∷ images else image ∷ with_image images page bytes

-- the pages that some statements wrote are these, on whatever pages of this size they began
abbrev pub Fills : ℕ → List Statement → List PageImage → Type 0
Fills page_size statements images = (page : ℕ) (bytes : List ℕ) → length bytes ≡ page_size
    → page_after page statements bytes ≡ unwrap_or (image_of images page) bytes

-- Images as page lines make them: different pages from 2 to 16, each whole.
pub record AreImages (page_size : ℕ) (images : List PageImage) : Type 0 where
  pub different : AreDifferent (map (λ image. image.page) images)
  pub in_range : All (λ image. (2 ≤ image.page) × (image.page ≤ 16)) images
  pub whole : All (λ image. length image.bytes ≡ page_size) images

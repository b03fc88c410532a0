-- What files that a crash left need so that the next opening takes them.
use Rattle.std.specs.Prelude.{◌≡◌, ◌⊎◌, ◌*◌, ◌≤◌, max, false, ℕ, length, slice_index, All}
use Rattle.disk_face.specs.Files.{Files}
use Rattle.page_spec.specs.Header.{fields_of, pages_in, IsHeader}
use Rattle.page_spec.specs.PageMap.{PageMap, page_at}
use Rattle.log_spec.specs.LogHeader.{last_generation}
use Rattle.log_spec.specs.Frames.{is_ours}
use Rattle.crash_spec.specs.Logs.{NoneForeign, HaveSize}
use Rattle.crash_spec.specs.Recovered.{recovered, size_of_first}
use Rattle.recover.specs.Seeing.{generation_opened}

-- A map that is read as a page store: 16 pages of the size that page 1 names, whose header is a readable database's and which has no tree.
pub record IsReadableStore (pages : PageMap) : Type 0 where
  pub count : length pages ≡ 16
  pub each : All (λ page. length page ≡ size_of_first pages) pages
  pub header : IsHeader (page_at pages 1)
  pub no_tree : slice_index (page_at pages 1) 100 ≡ 0

-- page 1 has this program's versions, those of two logs
abbrev pub HasOwnVersions : PageMap → Type 0
HasOwnVersions pages = ((fields_of (page_at pages 1)).write_version ≡ 3) × ((fields_of (page_at pages 1)).read_version ≡ 3)

-- Files that recover to this map, which is read as a page store. Page 1 names its 16 pages, or Main's length does once they are all there;
-- no log is foreign, and each with an accepted frame has the map's page size; log 2 has a header of ours only beside this program's
-- versions; and the generations leave room for the headers of the next opening.
pub record MayReopen (files : Files) (pages : PageMap) : Type 0 where
  pub is : recovered files ≡ pages
  pub store : IsReadableStore pages
  pub named : pages_in (page_at pages 1) (max (length files.main) (16 * size_of_first pages)) ≡ 16
  pub fronts : NoneForeign files
  pub sizes : HaveSize (size_of_first pages) files
  pub versions : HasOwnVersions pages ⊎ (is_ours 2 files.log2 ≡ false)
  pub room : generation_opened files ≤ last_generation

-- A store's map as each image shows it that recovers to it, where Main is no longer than so many bytes: it is read as a page store of this
-- page size, with this program's versions, and its page 1 names its 16 pages, or Main's length does.
pub record IsStoreMap (long size : ℕ) (pages : PageMap) : Type 0 where
  pub readable : IsReadableStore pages
  pub own : HasOwnVersions pages
  pub sized : size_of_first pages ≡ size
  pub named : pages_in (page_at pages 1) (max long (16 * size_of_first pages)) ≡ 16

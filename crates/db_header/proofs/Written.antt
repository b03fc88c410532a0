-- What is written for a header is accepted, and tells that header, whatever the length of the file.
use Rattle.std.proofs.Common.{◌≡◌, ℕ, ◌/◌, ◌<◌, ◌≤◌, ◌&&◌, ◌==◌, true, List, length, take, refl, sym, ◌∙◌, arith, get_or, nat_lt, nat_le, if◌then◌else◌}
use Rattle.std.proofs.lemmas.Bool.Decides.{nat_tests}
use Rattle.page_spec.specs.Bytes.{u16_at, u32_at}
use Rattle.page_spec.specs.Header.{fields_of, pages_in, spelled_page_size, is_database, database_text}
use Rattle.db_header.specs.Header.{header_of, TellsHeader, IsTold}
use Rattle.db_header.specs.declared.header.Header.{Header}
use Rattle.db_header.proofs.Order.{PassesSize, PassesVersions, PassesEncoding, PassesVacuum, PassesUsable, PassesFormat, accepted}

-- each field of the header stands at its offset
pub record Written (first : List ℕ) (header : Header) : Type 0 where
  pub long : 100 ≤ length first
  pub text : take 16 first ≡ database_text
  pub largest : get_or first 21 0 ≡ 64
  pub least : get_or first 22 0 ≡ 32
  pub leaf : get_or first 23 0 ≡ 32
  pub page_size : spelled_page_size (u16_at first 16) ≡ header.page_size
  pub write_version : get_or first 18 0 ≡ header.versions.0
  pub read_version : get_or first 19 0 ≡ header.versions.1
  pub reserved : get_or first 20 0 ≡ header.reserved
  pub change : u32_at first 24 ≡ header.change
  pub pages : u32_at first 28 ≡ header.pages
  pub trunk : u32_at first 32 ≡ header.trunk
  pub free : u32_at first 36 ≡ header.free
  pub cookie : u32_at first 40 ≡ header.cookie
  pub format : u32_at first 44 ≡ header.format
  pub largest_root : u32_at first 52 ≡ 0
  pub encoding : u32_at first 56 ≡ header.encoding
  pub valid_for : u32_at first 92 ≡ header.change

le_true : (m n : ℕ) → m ≤ n → nat_le m n ≡ true
le_true m n h = grind (arith, nat_tests)

is_database_written : (first : List ℕ) → 100 ≤ length first → take 16 first ≡ database_text → get_or first 21 0 ≡ 64 → get_or first 22 0 ≡ 32 → get_or first 23 0 ≡ 32
    → is_database first ≡ true
unfolding is_database
is_database_written first long text largest least leaf =
    rw (le_true 100 (length first) long, text, largest, least, leaf) refl

-- the size in the header counts
pages_written : (first : List ℕ) (file_size pages change : ℕ) → 0 < pages → u32_at first 28 ≡ pages → u32_at first 24 ≡ change → u32_at first 92 ≡ change
    → pages_in first file_size ≡ pages
unfolding pages_in fields_of
pages_written first file_size pages change some p a b = rw (p, a, b) (counted pages change (file_size / spelled_page_size (u16_at first 16)) some)
  where
    counted : (pages change others : ℕ) → 0 < pages → (if nat_lt 0 pages && change == change then pages else others) ≡ pages
    counted pages change others some = grind (arith, nat_tests)

passes_written : (first : List ℕ) (header : Header) → Written first header → IsTold header → PassesFormat first
passes_written first header w told =
    let size : PassesSize first = record {
      database = is_database_written first w.long w.text w.largest w.least w.leaf;
      page_size = rw w.page_size told.page_size;
    } in
    let versions : PassesVersions first = record {
      before = size;
      same = w.write_version ∙ told.same_versions ∙ sym w.read_version;
      least = rw (w.read_version, ← told.same_versions) told.least_version;
      greatest = rw (w.read_version, ← told.same_versions) told.greatest_version;
    } in
    let encoding : PassesEncoding first = record { before = versions; encoding = rw (w.encoding, told.encoding) (omega arith) } in
    let vacuum : PassesVacuum first = record { before = encoding; largest_root = w.largest_root } in
    let usable : PassesUsable first = record { before = vacuum; usable = rw (w.reserved, w.page_size) told.usable_bytes } in
    record { before = usable; format = rw w.format told.format }

header_written : (first : List ℕ) (file_size : ℕ) (header : Header) → Written first header → IsTold header → pages_in first file_size ≡ header.pages
    → header_of first file_size ≡ header
unfolding header_of fields_of
header_written first file_size header w told pages =
    rw (w.page_size, w.write_version, w.read_version, w.reserved, w.change, pages, w.trunk, w.free, w.cookie, w.format, w.encoding, told.encoding) refl

pub tells_written : (first : List ℕ) (header : Header) → Written first header → IsTold header → 0 < header.pages
    → (file_size : ℕ) → TellsHeader first file_size header
unfolding fields_of
tells_written first header w told some file_size =
    let pages = pages_written first file_size header.pages header.change some w.pages w.change w.valid_for in
    record {
      accepted = accepted first file_size (passes_written first header w told) (rw (pages, w.page_size) told.within_limit);
      told = header_written first file_size header w told pages;
    }

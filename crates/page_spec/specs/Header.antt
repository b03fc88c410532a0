-- The database header: the first 100 bytes of page 1, as SQLite's page "Database File Format" lays them out under
-- "The Database Header".
use Rattle.std.specs.Prelude.{◌≡◌, ℕ, ◌+◌, ◌*◌, ◌/◌, ◌^◌, List, [], ◌∷◌, ◌++◌, length, drop, slice_index, slice_range, codes, Bool, ◌==◌, nat_lt, nat_le, nat_eq, ◌&&◌, if◌then◌else◌, IsTrue}
use Rattle.std.specs.List.{starts_with, list_any}
use Rattle.page_spec.specs.Bytes.{u16_at, u32_at}

-- the bytes that every database begins with: a text and a zero byte
abbrev pub database_text : List ℕ
database_text = codes "SQLite format 3" ++ 0 ∷ []

-- The fields of a header, each at its offset in the first bytes of page 1. Bytes that no field lists have no meaning here.
pub record HeaderFields : Type 0 where
  pub page_size : ℕ
  pub write_version : ℕ
  pub read_version : ℕ
  pub reserved : ℕ
  pub change_counter : ℕ
  pub pages : ℕ
  pub first_trunk : ℕ
  pub free_pages : ℕ
  pub schema_cookie : ℕ
  pub schema_format : ℕ
  pub largest_root : ℕ
  pub text_encoding : ℕ
  pub valid_for : ℕ

unfoldable pub fields_of : List ℕ → HeaderFields
fields_of first = record {
  page_size = u16_at first 16;
  write_version = slice_index first 18;
  read_version = slice_index first 19;
  reserved = slice_index first 20;
  change_counter = u32_at first 24;
  pages = u32_at first 28;
  first_trunk = u32_at first 32;
  free_pages = u32_at first 36;
  schema_cookie = u32_at first 40;
  schema_format = u32_at first 44;
  largest_root = u32_at first 52;
  text_encoding = u32_at first 56;
  valid_for = u32_at first 92;
}

-- the page size in bytes that two bytes spell: they have no room for 65536, so 1 stands for it
unfoldable pub spelled_page_size : ℕ → ℕ
spelled_page_size number = if number == 1 then 65536 else number

-- the page size in bytes
abbrev pub page_size_in : HeaderFields → ℕ
page_size_in fields = spelled_page_size fields.page_size

-- The size rule. The count of pages stands in the header where it counts: it isn't 0, and the change counter is still
-- the one that it was written for. Otherwise it is the count of whole pages in the file.
unfoldable pub pages_in : List ℕ → ℕ → ℕ
pages_in first file_size =
    let fields = fields_of first in
    if nat_lt 0 fields.pages && fields.change_counter == fields.valid_for then fields.pages
    else file_size / page_size_in fields

-- every page size that a database can have, in bytes
abbrev pub page_sizes : List ℕ
page_sizes = 512 ∷ 1024 ∷ 2048 ∷ 4096 ∷ 8192 ∷ 16384 ∷ 32768 ∷ 65536 ∷ []

unfoldable pub is_page_size : ℕ → Bool
is_page_size size = list_any (nat_eq size) page_sizes

-- The tests that the header of a readable database passes, in the order in which they are made.

-- there are 100 bytes, they begin as every database does, and bytes 21 to 23 are the three fixed fractions of a payload
unfoldable pub is_database : List ℕ → Bool
is_database first =
    nat_le 100 (length first) && starts_with nat_eq first database_text
    && slice_index first 21 == 64 && slice_index first 22 == 32 && slice_index first 23 == 32

abbrev pub has_page_size : HeaderFields → Bool
has_page_size fields = is_page_size (page_size_in fields)

-- both versions are 1 for a rollback journal, 2 for one log, or 3 for two logs
unfoldable pub has_versions : HeaderFields → Bool
has_versions fields = fields.write_version == fields.read_version && nat_le 1 fields.read_version && nat_le fields.read_version 3

-- the texts are UTF-8, or there are no texts yet
unfoldable pub is_utf8 : HeaderFields → Bool
is_utf8 fields = nat_le fields.text_encoding 1

unfoldable pub is_without_auto_vacuum : HeaderFields → Bool
is_without_auto_vacuum fields = fields.largest_root == 0

-- what the reserved bytes leave of a page is at least 480 bytes
unfoldable pub has_usable_bytes : HeaderFields → Bool
has_usable_bytes fields = nat_le (fields.reserved + 480) (page_size_in fields)

unfoldable pub has_schema_format : HeaderFields → Bool
has_schema_format fields = nat_le fields.schema_format 4

-- the most bytes that a database has
abbrev pub database_limit : ℕ
database_limit = 2 ^ 30

-- so many pages of this size are within the limit on a database, in bytes
unfoldable pub is_within_limit : ℕ → ℕ → Bool
is_within_limit pages page_size = nat_le (pages * page_size) database_limit

-- the first bytes of page 1 are the header of a readable database, whatever its size
pub record IsHeader (first : List ℕ) : Type 0 where
  pub database : IsTrue (is_database first)
  pub page_size : IsTrue (has_page_size (fields_of first))
  pub versions : IsTrue (has_versions (fields_of first))
  pub utf8 : IsTrue (is_utf8 (fields_of first))
  pub without_auto_vacuum : IsTrue (is_without_auto_vacuum (fields_of first))
  pub usable_bytes : IsTrue (has_usable_bytes (fields_of first))
  pub schema_format : IsTrue (has_schema_format (fields_of first))

-- the bytes that no field lists are the same in both: 48 to 51, 60 to 91, and those from 96 on
pub record KeepsUnlisted (old new : List ℕ) : Type 0 where
  pub same_length : length new ≡ length old
  pub cache_size : slice_range new 48 52 ≡ slice_range old 48 52
  pub other_numbers : slice_range new 60 92 ≡ slice_range old 60 92
  pub rest : drop 96 new ≡ drop 96 old

-- What a header tells, and which fault a header that is refused is told as.
use Rattle.std.specs.Prelude.{◌≡◌, ℕ, ◌+◌, ◌*◌, ◌^◌, ◌≤◌, List, [], ◌∷◌, Bool, ◌==◌, if◌then◌else◌, IsTrue, Option, Some, None}
use Rattle.page_spec.specs.Header.{database_limit, fields_of, page_size_in, pages_in, is_page_size, is_database, has_page_size, has_versions, is_utf8, is_without_auto_vacuum, has_usable_bytes, has_schema_format, is_within_limit}
use Rattle.db_header.specs.declared.header.Header.{Header}
use Rattle.db_header.specs.declared.fault.HeaderFault.{HeaderFault}
use Rattle.db_header.specs.declared.fault.HeaderFault.TheVariants.{NotADb, PageSize, Versions, Utf16, AutoVacuum, Reserved, Format, TooLarge}

-- a test, and the fault that is told where it fails
pub record Test : Type 0 where
  pub passes : Bool
  pub fault : HeaderFault

-- the fault of the first test that fails
abbrev pub first_failure : List Test → Option HeaderFault
first_failure [] = None
first_failure (test ∷ rest) = if test.passes then first_failure rest else Some test.fault

-- the tests of a header, in their order, for a file of this length
unfoldable pub tests_of : List ℕ → ℕ → List Test
tests_of first file_size =
    let fields = fields_of first in
    let pages = pages_in first file_size in
    (record { passes = is_database first; fault = NotADb })
    ∷ (record { passes = has_page_size fields; fault = PageSize fields.page_size })
    ∷ (record { passes = has_versions fields; fault = Versions fields.write_version fields.read_version })
    ∷ (record { passes = is_utf8 fields; fault = Utf16 fields.text_encoding })
    ∷ (record { passes = is_without_auto_vacuum fields; fault = AutoVacuum fields.largest_root })
    ∷ (record { passes = has_usable_bytes fields; fault = Reserved fields.reserved })
    ∷ (record { passes = has_schema_format fields; fault = Format fields.schema_format })
    ∷ (record { passes = is_within_limit pages (page_size_in fields); fault = TooLarge pages })
    ∷ []

-- why the header is refused; None for one that is accepted
unfoldable pub refusal : List ℕ → ℕ → Option HeaderFault
refusal first file_size = first_failure (tests_of first file_size)

-- what an accepted header tells; an encoding of 0, which a database without objects may have, is taken as UTF-8
unfoldable pub header_of : List ℕ → ℕ → Header
header_of first file_size =
    let fields = fields_of first in
    record {
      page_size = page_size_in fields;
      versions = record { 0 = fields.write_version; 1 = fields.read_version };
      reserved = fields.reserved;
      change = fields.change_counter;
      pages = pages_in first file_size;
      trunk = fields.first_trunk;
      free = fields.free_pages;
      cookie = fields.schema_cookie;
      format = fields.schema_format;
      encoding = if fields.text_encoding == 0 then 1 else fields.text_encoding;
    }

-- the bytes are a header that is accepted, and it tells this
pub record TellsHeader (first : List ℕ) (file_size : ℕ) (header : Header) : Type 0 where
  pub accepted : refusal first file_size ≡ None
  pub told : header_of first file_size ≡ header

-- a header that some bytes tell: each number of it is one that the tests let through
pub record IsTold (header : Header) : Type 0 where
  pub page_size : IsTrue (is_page_size header.page_size)
  pub same_versions : header.versions.0 ≡ header.versions.1
  pub least_version : 1 ≤ header.versions.0
  pub greatest_version : header.versions.0 ≤ 3
  pub usable_bytes : header.reserved + 480 ≤ header.page_size
  pub format : header.format ≤ 4
  pub encoding : header.encoding ≡ 1
  pub within_limit : header.pages * header.page_size ≤ database_limit

-- The header of a log, as SQLite's page "Database File Format" lays it out under "WAL File Format". The version and what the
-- checkpoint sequence number holds are this project's own.
use Rattle.std.specs.Prelude.{◌≡◌, ℕ, ◌%◌, List, [], ◌∷◌, length, take, Bool, ◌==◌, nat_le, ◌&&◌, ◌||◌, if◌then◌else◌, Option, Some, None, IsTrue}
use Rattle.page_spec.specs.Bytes.{u32_at}
use Rattle.page_spec.specs.Header.{is_page_size}
use Rattle.log_spec.specs.Checksum.{Sum, checksum}

-- how many bytes a header has, and how many of them its checksum runs over
abbrev pub header_size : ℕ
header_size = 32

abbrev pub summed_size : ℕ
summed_size = 24

-- the bytes of the header at the front of a log
abbrev pub header_bytes : List ℕ → List ℕ
header_bytes bytes = take header_size bytes

-- the first number of a log whose words are read with the most significant byte first, and of one with the least first
abbrev pub big_magic : ℕ
big_magic = 0x377f_0683

abbrev pub little_magic : ℕ
little_magic = 0x377f_0682

-- the version that this project's logs have
abbrev pub own_version : ℕ
own_version = 93021000

-- the fields of a header, each a big-endian number at its offset
pub record LogFields : Type 0 where
  pub magic : ℕ
  pub version : ℕ
  pub page_size : ℕ
  pub generation : ℕ
  pub salt1 : ℕ
  pub salt2 : ℕ
  pub sum : Sum

unfoldable pub log_fields : List ℕ → LogFields
log_fields bytes = record {
  magic = u32_at bytes 0;
  version = u32_at bytes 4;
  page_size = u32_at bytes 8;
  generation = u32_at bytes 12;
  salt1 = u32_at bytes 16;
  salt2 = u32_at bytes 20;
  sum = (u32_at bytes 24, u32_at bytes 28);
}

-- whether the log's words are read with the most significant byte first
abbrev pub is_big : LogFields → Bool
is_big fields = fields.magic == big_magic

-- two checksums are the same
abbrev pub same_sum : Sum → Sum → Bool
same_sum a b = a.0 == b.0 && a.1 == b.1

-- the bytes begin with a whole header of a right magic number and a right checksum
unfoldable pub is_signed : List ℕ → Bool
is_signed bytes =
    let fields = log_fields bytes in
    nat_le header_size (length bytes) && (fields.magic == big_magic || fields.magic == little_magic)
    && same_sum fields.sum (checksum (is_big fields) (0, 0) (take summed_size bytes))

-- the last generation of a log: no log is begun anew after it
abbrev pub last_generation : ℕ
last_generation = 4_000_000_000

-- a generation of log 1 or log 2: odd in log 1, even in log 2
unfoldable pub is_generation : ℕ → ℕ → Bool
is_generation log generation =
    nat_le 1 generation && nat_le generation last_generation && generation % 2 == (if log == 1 then 1 else 0)

-- a test of a field, and the offset of that field
pub record FieldTest : Type 0 where
  pub passes : Bool
  pub at : ℕ

-- the offset of the first field that fails its test
abbrev pub first_failing : List FieldTest → Option ℕ
first_failing [] = None
first_failing (test ∷ rest) = if test.passes then first_failing rest else Some test.at

-- the offset of the first field by which a signed header is foreign in that log; None for one that is ours
unfoldable pub foreign_at : ℕ → LogFields → Option ℕ
foreign_at log fields = first_failing (
    (record { passes = fields.version == own_version; at = 4 })
    ∷ (record { passes = is_page_size fields.page_size; at = 8 })
    ∷ (record { passes = is_generation log fields.generation; at = 12 })
    ∷ [])

-- the bytes begin with a header that is ours in that log
pub record IsOurs (log : ℕ) (bytes : List ℕ) : Type 0 where
  pub signed : IsTrue (is_signed bytes)
  pub own : foreign_at log (log_fields bytes) ≡ None

-- What the bytes of a log begin with, in the types of this crate.
use Rattle.std.specs.Prelude.{◌≡◌, ℕ, ◌≤◌, IsTrue, List, if◌then◌else◌, Option, Some, None}
use Rattle.page_spec.specs.Header.{is_page_size}
use Rattle.log_spec.specs.Checksum.{Sum as Words}
use Rattle.log_spec.specs.LogHeader.{header_size, is_generation, LogFields, log_fields, is_big, is_signed, foreign_at, own_version, big_magic, little_magic}
use Rattle.wal_frames.specs.declared.sum.Sum.{Sum}
use Rattle.wal_frames.specs.declared.header.LogHeader.{LogHeader}
use Rattle.wal_frames.specs.declared.header.Front.{Front}
use Rattle.wal_frames.specs.declared.header.Front.TheVariants.{Nothing, Foreign, Ours}

-- the two words of a checksum
abbrev pub words_of : Sum → Words
words_of sum = (sum.s0, sum.s1)

-- what the fields of a header tell
unfoldable pub header_in : List ℕ → LogHeader
header_in bytes =
    let fields = log_fields bytes in
    record {
      big = is_big fields;
      page_size = fields.page_size;
      generation = fields.generation;
      salt1 = fields.salt1;
      salt2 = fields.salt2;
      sum = record { s0 = fields.sum.0; s1 = fields.sum.1 };
    }

-- a signed header, which is ours or foreign at an offset
abbrev pub signed_front : List ℕ → Option ℕ → Front
signed_front bytes None = Ours (header_in bytes)
signed_front bytes (Some at) = Foreign (log_fields bytes).version at

-- what the bytes of log 1 or log 2 begin with
unfoldable pub front_of : ℕ → List ℕ → Front
front_of log bytes = if is_signed bytes then signed_front bytes (foreign_at log (log_fields bytes)) else Nothing

-- a front that is a header of ours
abbrev pub IsOursFront : Front → Type 0
IsOursFront Nothing = ⊥
IsOursFront (Foreign version at) = ⊥
IsOursFront (Ours header) = Unit {0}

-- a header of ours in log 1 or log 2 has a legal page size, and a generation of that log
abbrev pub IsLegalFront : ℕ → Front → Type 0
IsLegalFront log Nothing = Unit {0}
IsLegalFront log (Foreign version at) = Unit {0}
IsLegalFront log (Ours header) = IsTrue (is_page_size header.page_size) × IsTrue (is_generation log header.generation)

-- so many bytes have room for the header, where it is ours
abbrev pub HasRoom : Front → ℕ → Type 0
HasRoom Nothing size = Unit {0}
HasRoom (Foreign version at) size = Unit {0}
HasRoom (Ours header) size = header_size ≤ size

-- the bytes tell this header, but for a checksum of their own, and have this project's version
pub record TellsLogHeader (bytes : List ℕ) (header : LogHeader) : Type 0 where
  pub version : (log_fields bytes).version ≡ own_version
  pub told : header_in bytes ≡ record header { sum = (header_in bytes).sum }

-- the fields of a header of ours that tells this
abbrev pub fields_for : LogHeader → LogFields
fields_for header = record {
  magic = if header.big then big_magic else little_magic;
  version = own_version;
  page_size = header.page_size;
  generation = header.generation;
  salt1 = header.salt1;
  salt2 = header.salt2;
  sum = words_of header.sum;
}

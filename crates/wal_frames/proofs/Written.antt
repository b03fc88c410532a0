-- What is written for a log header is signed, and tells that header.
use Rattle.std.proofs.Common.{◌≡◌, ℕ, ◌≤◌, ◌==◌, ◌||◌, ◌&&◌, Bool, true, false, List, length, take, refl, ◌∙◌, ap, arith, if◌then◌else◌}
use Rattle.std.proofs.lemmas.Bool.Decides.{nat_tests}
use Rattle.page_spec.specs.Bytes.{u32_at}
use Rattle.page_spec.specs.Header.{is_page_size}
use Rattle.log_spec.specs.Checksum.{checksum}
use Rattle.log_spec.specs.LogHeader.{header_size, log_fields, is_signed, is_generation, own_version, big_magic, little_magic}
use Rattle.wal_frames.specs.Front.{front_of, header_in, TellsLogHeader}
use Rattle.wal_frames.specs.declared.header.LogHeader.{LogHeader}
use Rattle.wal_frames.specs.declared.header.Front.TheVariants.{Ours}
use Rattle.wal_frames.proofs.Fronts.{signed_by_sum, ours_there}

-- each field of the header stands at its offset, and the checksum over them after them
pub record Written (bytes : List ℕ) (header : LogHeader) : Type 0 where
  pub long : header_size ≤ length bytes
  pub magic : u32_at bytes 0 ≡ (if header.big then big_magic else little_magic)
  pub version : u32_at bytes 4 ≡ own_version
  pub page_size : u32_at bytes 8 ≡ header.page_size
  pub generation : u32_at bytes 12 ≡ header.generation
  pub salt1 : u32_at bytes 16 ≡ header.salt1
  pub salt2 : u32_at bytes 20 ≡ header.salt2
  pub summed : (u32_at bytes 24, u32_at bytes 28) ≡ checksum header.big (0, 0) (take 24 bytes)

magic_tells : (big : Bool) (n : ℕ) → n ≡ (if big then big_magic else little_magic) → (n == big_magic) ≡ big
magic_tells true n h = rw h refl
magic_tells false n h = rw h refl

magic_is_right : (big : Bool) (n : ℕ) → n ≡ (if big then big_magic else little_magic) → (n == big_magic || n == little_magic) ≡ true
magic_is_right true n h = rw h refl
magic_is_right false n h = rw h refl

same_itself : (a b : ℕ) → (a == a && b == b) ≡ true
same_itself a b = grind (arith, nat_tests)

pub signed_written : (bytes : List ℕ) (header : LogHeader) → Written bytes header → is_signed bytes ≡ true
signed_written bytes header w =
    signed_by_sum bytes w.long (magic_is_right header.big (u32_at bytes 0) w.magic)
    ∙ rw (magic_tells header.big (u32_at bytes 0) w.magic, ← w.summed) (same_itself (u32_at bytes 24) (u32_at bytes 28))

pub told_written : (bytes : List ℕ) (header : LogHeader) → Written bytes header → TellsLogHeader bytes header
unfolding header_in log_fields
told_written bytes header w = record {
  version = w.version;
  told = rw (magic_tells header.big (u32_at bytes 0) w.magic, w.page_size, w.generation, w.salt1, w.salt2) refl;
}

pub ours_written : (bytes : List ℕ) (header : LogHeader) → Written bytes header → (log : ℕ) → is_page_size header.page_size ≡ true
    → is_generation log header.generation ≡ true → front_of log bytes ≡ Ours (record header { sum = (header_in bytes).sum })
ours_written bytes header w log size generation =
    ours_there log bytes (signed_written bytes header w) w.version (rw w.page_size size) (rw w.generation generation)
    ∙ ap (λ (told : LogHeader). Ours told) (told_written bytes header w).told

-- The bytes of a new header are ours, and tell its fields.
use Rattle.std.proofs.Common.{◌≡◌, inl, inr, ◌⊎◌, ℕ, ◌+◌, ◌<◌, ◌==◌, Bool, true, if◌then◌else◌, List, length, refl, sym, ◌∙◌, ap, subst, arith, Option, Some, None}
use Rattle.std.proofs.lemmas.Bool.Decides.{nat_tests}
use Rattle.page_spec.specs.Bytes.{u32_at}
use Rattle.page_spec.specs.Header.{is_page_size}
use Rattle.log_spec.specs.LogHeader.{LogFields, log_fields, is_signed, is_generation, last_generation, foreign_at, header_size, big_magic, IsOurs}
use Rattle.log_spec.specs.Written.{IsHeaderOf}
use Rattle.wal_frames.specs.Front.{front_of, signed_front, header_in, fields_for, words_of, TellsLogHeader}
use Rattle.wal_frames.specs.declared.header.LogHeader.{LogHeader}
use Rattle.wal_frames.specs.declared.header.Front.TheVariants.{Ours}
use Rattle.log_spec.specs.Checksum.{Sum as Words}
use Rattle.disk_face.specs.declared.disk.File.{File}
use Rattle.disk_face.specs.Steps.{History}
use Rattle.wal_frames.specs.Found.{log_file}
use Rattle.wal_frames.specs.declared.sum.Sum.{Sum}
use Rattle.log_pair.specs.Pair.{PairView, other_number}
use Rattle.log_pair.specs.Switch.{next_header, other_file, front_piece, WritesAndSyncs}
use Rattle.log_pair.specs.Header.{IsSigned}
use Rattle.log_pair.specs.declared.header.NewHeader.{NewHeader}

-- a front that is ours
own_front : (log : ℕ) (bytes : List ℕ) (header : LogHeader) → is_signed bytes ≡ true → front_of log bytes ≡ Ours header → IsOurs log bytes
unfolding front_of
own_front log bytes header signed is = record { signed = signed; own = by (foreign_at log (log_fields bytes)) (rw signed at is) }
  where
    by : (foreign : Option ℕ) → signed_front bytes foreign ≡ Ours header → foreign ≡ None
    by None is = refl
    by (Some at) is = cc

magic_is : (n : ℕ) → (n == big_magic) ≡ true → n ≡ big_magic
magic_is n is = grind (arith, nat_tests)

-- what the bytes tell
told_fields : (bytes : List ℕ) (header : LogHeader) → header.big ≡ true → TellsLogHeader bytes header
    → log_fields bytes ≡ fields_for (record header { sum = record { s0 = u32_at bytes 24; s1 = u32_at bytes 28 } })
unfolding log_fields header_in
told_fields bytes header big tells =
    let told = tells.told in
    let magic : u32_at bytes 0 ≡ (if header.big then big_magic else 0x377f_0682) = magic_is (u32_at bytes 0) (ap (λ (h : LogHeader). h.big) told ∙ big) ∙ rw big refl in
    λ i. record {
      magic = magic i;
      version = tells.version i;
      page_size = (ap (λ (h : LogHeader). h.page_size) told) i;
      generation = (ap (λ (h : LogHeader). h.generation) told) i;
      salt1 = (ap (λ (h : LogHeader). h.salt1) told) i;
      salt2 = (ap (λ (h : LogHeader). h.salt2) told) i;
      sum = (u32_at bytes 24, u32_at bytes 28);
    }

pub header_is : (log : ℕ) (bytes : List ℕ) (header : LogHeader) (first second : ℕ) → header.big ≡ true → length bytes ≡ header_size → is_signed bytes ≡ true → TellsLogHeader bytes header
    → front_of log bytes ≡ Ours (record header { sum = (header_in bytes).sum }) → first ≡ u32_at bytes 24 → second ≡ u32_at bytes 28
    → IsHeaderOf log (fields_for (record header { sum = record { s0 = first; s1 = second } })) bytes
header_is log bytes header first second big long signed tells front one two = record {
  whole = long;
  ours = own_front log bytes (record header { sum = (header_in bytes).sum }) signed front;
  told = told_fields bytes header big tells ∙ ap (λ (sum : Sum). fields_for (record header { sum = sum })) (λ i. record { s0 = sym one i; s1 = sym two i });
  big = rw big refl;
}

-- the next generation is one of the other log
pub next_generation : (current generation : ℕ) → (current ≡ 1) ⊎ (current ≡ 2) → is_generation current generation ≡ true → generation < last_generation
    → is_generation (other_number current) (generation + 1) ≡ true
unfolding is_generation
next_generation current generation (inl is) legal less = rw is (let from = rw is at legal in grind (arith, nat_tests))
next_generation current generation (inr is) legal less = rw is (let from = rw is at legal in grind (arith, nat_tests))

-- a next header that was signed
pub signed_next : (pair : PairView) (salt2 : ℕ) (header : LogHeader) (new : NewHeader) → fields_for header ≡ next_header pair salt2 (words_of header.sum)
    → is_page_size header.page_size ≡ true → is_generation (other_number pair.current) header.generation ≡ true → new.header ≡ record header { sum = new.header.sum } → IsSigned new
    → (fields_for new.header ≡ next_header pair salt2 (words_of new.header.sum)) × IsHeaderOf (other_number pair.current) (next_header pair salt2 (words_of new.header.sum)) new.bytes
signed_next pair salt2 header new fields size generation is signed =
    let same : fields_for new.header ≡ next_header pair salt2 (words_of new.header.sum) =
    ap fields_for is ∙ ap (λ (f : LogFields). with_sum f (words_of new.header.sum)) fields in (
      same,
      subst (λ (f : LogFields). IsHeaderOf (other_number pair.current) f new.bytes) same
          (signed (other_number pair.current) (ap (λ (h : LogHeader). is_page_size h.page_size) is ∙ size) (ap (λ (h : LogHeader). is_generation (other_number pair.current) h.generation) is ∙ generation)),
    )
  where
    with_sum : LogFields → Words → LogFields
    with_sum fields sum = record fields { sum = sum }

-- the steps, at the other log's file
pub steps_at : (ok : Bool) (pair : PairView) (current other : ℕ) (file : File) (bytes : List ℕ) (old new : Option History) → current ≡ pair.current → other ≡ other_number current → file ≡ log_file other
    → WritesAndSyncs ok (front_piece file bytes) old new → WritesAndSyncs ok (front_piece (other_file pair) bytes) old new
steps_at ok pair current other file bytes old new is apart at steps =
    subst (λ (f : File). WritesAndSyncs ok (front_piece f bytes) old new) (at ∙ ap log_file (apart ∙ ap other_number is)) steps

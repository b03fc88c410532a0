-- The header of a database goes by its first 100 bytes alone, and one within the limit is accepted.
use Rattle.std.proofs.Common.{◌≡◌, ◌≤◌, ◌<◌, ◌*◌, ◌/◌, ◌==◌, ◌&&◌, if◌then◌else◌, ℕ, Bool, List, length, take, true, false, None, refl, sym, ◌∙◌, ap, subst, arith, get_or-take}
use Rattle.std.specs.List.{starts_with}
use Rattle.std.specs.Prelude.{nat_le, nat_lt, nat_eq, slice_index}
use Rattle.std.proofs.lemmas.Nat.{le-div}
use Rattle.std.proofs.Math.Nat.{div-mul-le_self}
use Rattle.std.proofs.lemmas.Bool.Decides.{nat_tests}
use Rattle.std.proofs.lemmas.List.{take-take, length-take}
use Rattle.page_spec.specs.Header.{HeaderFields, database_limit, is_database, database_text, fields_of, page_size_in, pages_in, is_page_size, has_versions, is_utf8, is_without_auto_vacuum, has_usable_bytes, has_schema_format, is_within_limit, IsHeader}
use Rattle.db_header.specs.Header.{refusal, tests_of}
use Rattle.opening_spec.proofs.Laid.{header-take}

pub le_true : (m n : ℕ) → m ≤ n → nat_le m n ≡ true
le_true m n is = grind (arith, nat_tests)

le_of : (m n : ℕ) → nat_le m n ≡ true → m ≤ n
le_of m n is = grind (arith, nat_tests)

and_first : (a b : Bool) → (a && b) ≡ true → a ≡ true
and_first true b is = refl
and_first false b is = is

-- a database's first bytes are at least 100
pub database_is_long : (first : List ℕ) → is_database first ≡ true → 100 ≤ length first
unfolding is_database
database_is_long first is = le_of 100 (length first) (and_first _ _ (and_first _ _ (and_first _ _ (and_first _ _ is))))

-- two lists with the same first 100 bytes
long_too : (a b : List ℕ) → take 100 a ≡ take 100 b → 100 ≤ length a → 100 ≤ length b
long_too a b is long = omega (arith, ap (λ (bytes : List ℕ). length bytes) is, length-take 100 a, length-take 100 b)

text_alike : (a b : List ℕ) → take 100 a ≡ take 100 b → starts_with nat_eq b database_text ≡ starts_with nat_eq a database_text
text_alike a b is =
    let same : take 16 b ≡ take 16 a = sym (take-take 16 100 b (omega arith)) ∙ ap (λ (bytes : List ℕ). take 16 bytes) (sym is) ∙ take-take 16 100 a (omega arith) in
    rw same refl

database_alike : (a b : List ℕ) → take 100 a ≡ take 100 b → is_database a ≡ true → is_database b ≡ true
unfolding is_database
database_alike a b is database =
    let long = database_is_long a database in
    let one : nat_le 100 (length b) ≡ nat_le 100 (length a) = le_true 100 (length b) (long_too a b is long) ∙ sym (le_true 100 (length a) long) in
    rw (one, text_alike a b is, byte 21 (omega arith), byte 22 (omega arith), byte 23 (omega arith)) database
  where
    byte : (k : ℕ) → k < 100 → slice_index b k ≡ slice_index a k
    byte k less = sym (get_or-take 100 b k 0 less) ∙ ap (λ (bytes : List ℕ). slice_index bytes k) (sym is) ∙ get_or-take 100 a k 0 less

pub fields_alike : (a b : List ℕ) → take 100 a ≡ take 100 b → fields_of a ≡ fields_of b
fields_alike a b is = sym (header-take 100 a (omega arith)) ∙ ap (λ (bytes : List ℕ). fields_of bytes) is ∙ header-take 100 b (omega arith)

pub header_alike : (a b : List ℕ) → take 100 a ≡ take 100 b → IsHeader a → IsHeader b
header_alike a b is h =
    let same = fields_alike a b is in
    record {
      database = database_alike a b is h.database;
      page_size = subst (λ (f : HeaderFields). is_page_size (page_size_in f) ≡ true) same h.page_size;
      versions = subst (λ (f : HeaderFields). has_versions f ≡ true) same h.versions;
      utf8 = subst (λ (f : HeaderFields). is_utf8 f ≡ true) same h.utf8;
      without_auto_vacuum = subst (λ (f : HeaderFields). is_without_auto_vacuum f ≡ true) same h.without_auto_vacuum;
      usable_bytes = subst (λ (f : HeaderFields). has_usable_bytes f ≡ true) same h.usable_bytes;
      schema_format = subst (λ (f : HeaderFields). has_schema_format f ≡ true) same h.schema_format;
    }

-- a header within the limit is accepted
pub accepted_within : (first : List ℕ) (n : ℕ) → IsHeader first → pages_in first n * page_size_in (fields_of first) ≤ database_limit → refusal first n ≡ None
unfolding refusal tests_of is_within_limit
accepted_within first n h within =
    rw (
      h.database,
      h.page_size,
      h.versions,
      h.utf8,
      h.without_auto_vacuum,
      h.usable_bytes,
      h.schema_format,
      le_true (pages_in first n * page_size_in (fields_of first)) database_limit within,
    ) refl

-- a shorter file has no more pages
pub fewer_pages : (first : List ℕ) (less more : ℕ) → 0 < page_size_in (fields_of first) → less ≤ more → pages_in first less ≤ pages_in first more
unfolding pages_in
fewer_pages first less more sized le = by (nat_lt 0 (fields_of first).pages && (fields_of first).change_counter == (fields_of first).valid_for)
  where
    quotients : (a b n : ℕ) → 0 < n → a ≤ b → a / n ≤ b / n
    quotients a b n some le = le-div (a / n) b n some (omega (arith, div-mul-le_self a n, le))

    by : (counts : Bool) → (if counts then (fields_of first).pages else less / page_size_in (fields_of first)) ≤ (if counts then (fields_of first).pages else more / page_size_in (fields_of first))
    by true = omega arith
    by false = quotients less more (page_size_in (fields_of first)) sized le

-- Each refusal in its place: the tests before it pass, and its own fails. Then what stands where all pass.
use Rattle.std.proofs.Common.{◌≡◌, ℕ, ◌+◌, ◌*◌, ◌^◌, ◌<◌, ◌≤◌, ◌&&◌, true, false, List, refl, arith, Some, None, get_or, ◌==◌, nat_le, if◌then◌else◌}
use Rattle.std.proofs.lemmas.Bool.Decides.{nat_tests}
use Rattle.page_spec.specs.Bytes.{u16_at, u32_at}
use Rattle.page_spec.specs.Header.{database_limit, fields_of, page_size_in, pages_in, spelled_page_size, is_page_size, is_database, has_page_size, has_versions, is_utf8, is_without_auto_vacuum, has_usable_bytes, has_schema_format, is_within_limit, IsHeader}
use Rattle.db_header.specs.Header.{refusal, tests_of, header_of, IsTold}
use Rattle.db_header.specs.declared.fault.HeaderFault.{HeaderFault}
use Rattle.db_header.specs.declared.fault.HeaderFault.TheVariants.{NotADb, PageSize, Versions, Utf16, AutoVacuum, Reserved, Format, TooLarge}

-- the tests of a header pass up to the page size, the versions, the encoding, and so on
pub record PassesSize (first : List ℕ) : Type 0 where
  pub database : is_database first ≡ true
  pub page_size : is_page_size (spelled_page_size (u16_at first 16)) ≡ true

pub record PassesVersions (first : List ℕ) : Type 0 where
  pub before : PassesSize first
  pub same : get_or first 18 0 ≡ get_or first 19 0
  pub least : 1 ≤ get_or first 19 0
  pub greatest : get_or first 19 0 ≤ 3

pub record PassesEncoding (first : List ℕ) : Type 0 where
  pub before : PassesVersions first
  pub encoding : u32_at first 56 ≤ 1

pub record PassesVacuum (first : List ℕ) : Type 0 where
  pub before : PassesEncoding first
  pub largest_root : u32_at first 52 ≡ 0

pub record PassesUsable (first : List ℕ) : Type 0 where
  pub before : PassesVacuum first
  pub usable : get_or first 20 0 + 480 ≤ spelled_page_size (u16_at first 16)

pub record PassesFormat (first : List ℕ) : Type 0 where
  pub before : PassesUsable first
  pub format : u32_at first 44 ≤ 4

versions_true : (write read : ℕ) → write ≡ read → 1 ≤ read → read ≤ 3 → (write == read && nat_le 1 read && nat_le read 3) ≡ true
versions_true write read same least greatest = grind (arith, nat_tests)

versions_false : (write read : ℕ) → ((write ≡ read) × (1 ≤ read) × (read ≤ 3) → ⊥) → (write == read && nat_le 1 read && nat_le read 3) ≡ false
versions_false write read h = grind (arith, nat_tests)

le_true : (m n : ℕ) → m ≤ n → nat_le m n ≡ true
le_true m n h = grind (arith, nat_tests)

le_false : (m n : ℕ) → n < m → nat_le m n ≡ false
le_false m n h = grind (arith, nat_tests)

zero_true : (n : ℕ) → n ≡ 0 → (n == 0) ≡ true
zero_true n h = grind (arith, nat_tests)

zero_false : (n : ℕ) → 0 < n → (n == 0) ≡ false
zero_false n h = grind (arith, nat_tests)

versions_pass : (first : List ℕ) → PassesVersions first → has_versions (fields_of first) ≡ true
unfolding has_versions fields_of
versions_pass first p = versions_true _ _ p.same p.least p.greatest

utf8_pass : (first : List ℕ) → PassesEncoding first → is_utf8 (fields_of first) ≡ true
unfolding is_utf8 fields_of
utf8_pass first p = le_true _ _ p.encoding

vacuum_pass : (first : List ℕ) → PassesVacuum first → is_without_auto_vacuum (fields_of first) ≡ true
unfolding is_without_auto_vacuum fields_of
vacuum_pass first p = zero_true _ p.largest_root

usable_pass : (first : List ℕ) → PassesUsable first → has_usable_bytes (fields_of first) ≡ true
unfolding has_usable_bytes fields_of
usable_pass first p = le_true _ _ p.usable

format_pass : (first : List ℕ) → PassesFormat first → has_schema_format (fields_of first) ≡ true
unfolding has_schema_format fields_of
format_pass first p = le_true _ _ p.format

size_pass : (first : List ℕ) → PassesSize first → has_page_size (fields_of first) ≡ true
unfolding fields_of
size_pass first p = p.page_size

pub refused_text : (first : List ℕ) (file_size : ℕ) → is_database first ≡ false → refusal first file_size ≡ Some NotADb
unfolding refusal tests_of
refused_text first file_size h = rw h refl

pub refused_size : (first : List ℕ) (file_size : ℕ) → is_database first ≡ true → is_page_size (spelled_page_size (u16_at first 16)) ≡ false
    → refusal first file_size ≡ Some (PageSize (u16_at first 16))
unfolding refusal tests_of fields_of
refused_size first file_size t h = rw (t, h) refl

pub refused_versions : (first : List ℕ) (file_size : ℕ) → PassesSize first
    → ((get_or first 18 0 ≡ get_or first 19 0) × (1 ≤ get_or first 19 0) × (get_or first 19 0 ≤ 3) → ⊥)
    → refusal first file_size ≡ Some (Versions (get_or first 18 0) (get_or first 19 0))
unfolding refusal tests_of fields_of has_versions
refused_versions first file_size p h =
    rw (p.database, p.page_size, versions_false (get_or first 18 0) (get_or first 19 0) h) refl

pub refused_encoding : (first : List ℕ) (file_size : ℕ) → PassesVersions first → 1 < u32_at first 56
    → refusal first file_size ≡ Some (Utf16 (u32_at first 56))
unfolding refusal tests_of fields_of is_utf8
refused_encoding first file_size p h =
    rw (p.before.database, p.before.page_size, versions_pass first p, le_false (u32_at first 56) 1 h) refl

pub refused_vacuum : (first : List ℕ) (file_size : ℕ) → PassesEncoding first → 0 < u32_at first 52
    → refusal first file_size ≡ Some (AutoVacuum (u32_at first 52))
unfolding refusal tests_of fields_of is_without_auto_vacuum
refused_vacuum first file_size p h =
    rw (p.before.before.database, p.before.before.page_size, versions_pass first p.before, utf8_pass first p, zero_false (u32_at first 52) h) refl

pub refused_usable : (first : List ℕ) (file_size : ℕ) → PassesVacuum first → spelled_page_size (u16_at first 16) < get_or first 20 0 + 480
    → refusal first file_size ≡ Some (Reserved (get_or first 20 0))
unfolding refusal tests_of fields_of has_usable_bytes
refused_usable first file_size p h =
    let e = p.before in
    let v = e.before in
    rw (
      v.before.database,
      v.before.page_size,
      versions_pass first v,
      utf8_pass first e,
      vacuum_pass first p,
      le_false (get_or first 20 0 + 480) (spelled_page_size (u16_at first 16)) h,
    ) refl

pub refused_format : (first : List ℕ) (file_size : ℕ) → PassesUsable first → 4 < u32_at first 44
    → refusal first file_size ≡ Some (Format (u32_at first 44))
unfolding refusal tests_of fields_of has_schema_format
refused_format first file_size p h =
    let a = p.before in
    let e = a.before in
    let v = e.before in
    rw (
      v.before.database,
      v.before.page_size,
      versions_pass first v,
      utf8_pass first e,
      vacuum_pass first a,
      usable_pass first p,
      le_false (u32_at first 44) 4 h,
    ) refl

-- the answer where only the limit is left to be tested
limit_left : (first : List ℕ) (file_size : ℕ) → PassesFormat first
    → refusal first file_size ≡ (if is_within_limit (pages_in first file_size) (page_size_in (fields_of first)) then None else Some (TooLarge (pages_in first file_size)))
unfolding refusal tests_of
limit_left first file_size p =
    let u = p.before in
    let a = u.before in
    let e = a.before in
    let v = e.before in
    rw (
      v.before.database,
      size_pass first v.before,
      versions_pass first v,
      utf8_pass first e,
      vacuum_pass first a,
      usable_pass first u,
      format_pass first p,
    ) refl

pub refused_limit : (first : List ℕ) (file_size : ℕ) → PassesFormat first → database_limit < pages_in first file_size * page_size_in (fields_of first)
    → refusal first file_size ≡ Some (TooLarge (pages_in first file_size))
unfolding is_within_limit
refused_limit first file_size p h =
    let left = limit_left first file_size p in
    rw (le_false (pages_in first file_size * page_size_in (fields_of first)) database_limit h) at left

pub accepted : (first : List ℕ) (file_size : ℕ) → PassesFormat first → pages_in first file_size * page_size_in (fields_of first) ≤ database_limit
    → refusal first file_size ≡ None
unfolding is_within_limit
accepted first file_size p h =
    let left = limit_left first file_size p in
    rw (le_true (pages_in first file_size * page_size_in (fields_of first)) database_limit h) at left

-- the page size in bytes, from the two bytes that spell it
pub page_size_read : (first : List ℕ) → page_size_in (fields_of first) ≡ spelled_page_size (u16_at first 16)
unfolding fields_of
page_size_read first = refl

pub header_passes : (first : List ℕ) → PassesFormat first → IsHeader first
header_passes first p =
    let u = p.before in
    let a = u.before in
    let e = a.before in
    let v = e.before in
    record {
      database = v.before.database;
      page_size = size_pass first v.before;
      versions = versions_pass first v;
      utf8 = utf8_pass first e;
      without_auto_vacuum = vacuum_pass first a;
      usable_bytes = usable_pass first u;
      schema_format = format_pass first p;
    }

-- what an accepted header tells is told by some bytes
pub told_passes : (first : List ℕ) (file_size : ℕ) → PassesFormat first → pages_in first file_size * page_size_in (fields_of first) ≤ database_limit
    → IsTold (header_of first file_size)
unfolding header_of fields_of
told_passes first file_size p h =
    let u = p.before in
    let a = u.before in
    let e = a.before in
    let v = e.before in
    record {
      page_size = v.before.page_size;
      same_versions = v.same;
      least_version = rw v.same v.least;
      greatest_version = rw v.same v.greatest;
      usable_bytes = u.usable;
      format = p.format;
      encoding = one_encoding (u32_at first 56) e.encoding;
      within_limit = h;
    }
  where
    one_encoding : (n : ℕ) → n ≤ 1 → (if n == 0 then 1 else n) ≡ 1
    one_encoding n h = grind (arith, nat_tests)

pub text_encoding_read : (first : List ℕ) → u32_at first 56 ≤ 1 → (fields_of first).text_encoding ≤ 1
unfolding fields_of
text_encoding_read first h = h

pub usable_from : {reserved wide size spelled : ℕ} → wide ≡ reserved → size ≡ spelled → wide + 480 ≤ size → reserved + 480 ≤ spelled
usable_from r s h = omega arith

pub unusable_from : {reserved wide size spelled : ℕ} → wide ≡ reserved → size ≡ spelled → size < wide + 480 → spelled < reserved + 480
unusable_from r s h = omega arith

-- the bytes are a header within the limit
abbrev pub IsWithin : List ℕ → ℕ → Type 0
IsWithin first file_size = IsHeader first × (pages_in first file_size * page_size_in (fields_of first) ≤ database_limit)

accepted_within : (first : List ℕ) (file_size : ℕ) → IsWithin first file_size → refusal first file_size ≡ None
unfolding refusal tests_of is_within_limit
accepted_within first file_size (h, within) =
    rw (
      h.database,
      h.page_size,
      h.versions,
      h.utf8,
      h.without_auto_vacuum,
      h.usable_bytes,
      h.schema_format,
      le_true (pages_in first file_size * page_size_in (fields_of first)) database_limit within,
    ) refl

-- a header that is refused isn't one within the limit
pub refused_iff : (first : List ℕ) (file_size : ℕ) (fault : HeaderFault) → refusal first file_size ≡ Some fault
    → (false ≡ true → IsWithin first file_size) × (IsWithin first file_size → false ≡ true)
refused_iff first file_size fault told =
    (λ no. cc, λ within. let none = accepted_within first file_size within in cc)

pub accepted_iff : (first : List ℕ) (file_size : ℕ) → PassesFormat first → pages_in first file_size * page_size_in (fields_of first) ≤ database_limit
    → (true ≡ true → IsWithin first file_size) × (IsWithin first file_size → true ≡ true)
accepted_iff first file_size p within = (λ yes. (header_passes first p, within), λ is. refl)

-- What reading the header of page 1 answers, and whether it counts so many pages.
use Rattle.std.proofs.Common.{◌≡◌, ℕ, ◌*◌, ◌≤◌, if◌then◌else◌, Bool, true, false, List, Option, Some, None, refl, sym, subst, ap, ◌∙◌}
use Rattle.std.specs.Prelude.{unwrap_or}
use Rattle.page_spec.specs.Header.{fields_of, page_size_in, pages_in, is_database, has_page_size, has_versions, is_utf8, is_without_auto_vacuum, has_usable_bytes, has_schema_format, is_within_limit, IsHeader}
use Rattle.db_header.specs.Header.{refusal, tests_of, header_of, TellsHeader}
use Rattle.db_header.specs.declared.header.Header.{Header}
use Rattle.db_header.specs.declared.fault.HeaderFault.{HeaderFault}
use Rattle.db_header.specs.declared.fault.HeaderFault.TheVariants.{NotADb, PageSize, Versions, Utf16, AutoVacuum, Reserved, Format, TooLarge}
use Rattle.sound_spec.specs.Sound.{CountsPages}

-- a header is refused for its size alone
whole_refusal : (first : List ℕ) (size : ℕ) → IsHeader first
    → refusal first size ≡ (if is_within_limit (pages_in first size) (page_size_in (fields_of first)) then None else Some (TooLarge (pages_in first size)))
unfolding refusal tests_of
whole_refusal first size h =
    rw (h.database, h.page_size, h.versions, h.utf8, h.without_auto_vacuum, h.usable_bytes, h.schema_format) refl

fault_same : (one two : HeaderFault) → Some one ≡ Some two → one ≡ two
fault_same one two same = ap (λ (o : Option HeaderFault). unwrap_or o two) same

limit_refused : (within : Bool) (pages : ℕ) (why : HeaderFault) → (if within then None else Some (TooLarge pages)) ≡ Some why → why ≡ TooLarge pages
limit_refused true pages why is = cc
limit_refused false pages why is = sym (fault_same (TooLarge pages) why is)

-- so a header that is refused is refused for that
pub refused_large : (first : List ℕ) (size : ℕ) (why : HeaderFault) → IsHeader first → refusal first size ≡ Some why → why ≡ TooLarge (pages_in first size)
refused_large first size why h is =
    limit_refused (is_within_limit (pages_in first size) (page_size_in (fields_of first))) (pages_in first size) why (sym (whole_refusal first size h) ∙ is)

-- a test that isn't what refused
goes_on : (passes : Bool) (rest : Option HeaderFault) (why told : HeaderFault) → (why ≡ told → ⊥) → (if passes then rest else Some why) ≡ Some told
    → (passes ≡ true) × (rest ≡ Some told)
goes_on true rest why told other is = (refl, is)
goes_on false rest why told other is = absurd (other (fault_same why told is))

pages_same : (within : Bool) (pages told : ℕ) → (if within then None else Some (TooLarge pages)) ≡ Some (TooLarge told) → pages ≡ told
pages_same true pages told is = cc
pages_same false pages told is = let same = fault_same (TooLarge pages) (TooLarge told) is in cc

-- what is refused for its size is a header
pub large_header : (first : List ℕ) (size pages : ℕ) → refusal first size ≡ Some (TooLarge pages) → IsHeader first × (pages_in first size ≡ pages)
unfolding refusal tests_of
large_header first size pages is =
    let fields = fields_of first in
    let a = goes_on (is_database first) _ NotADb (TooLarge pages) (λ e. cc) is in
    let b = goes_on (has_page_size fields) _ (PageSize fields.page_size) (TooLarge pages) (λ e. cc) a.1 in
    let c = goes_on (has_versions fields) _ (Versions fields.write_version fields.read_version) (TooLarge pages) (λ e. cc) b.1 in
    let d = goes_on (is_utf8 fields) _ (Utf16 fields.text_encoding) (TooLarge pages) (λ e. cc) c.1 in
    let e = goes_on (is_without_auto_vacuum fields) _ (AutoVacuum fields.largest_root) (TooLarge pages) (λ e. cc) d.1 in
    let f = goes_on (has_usable_bytes fields) _ (Reserved fields.reserved) (TooLarge pages) (λ e. cc) e.1 in
    let g = goes_on (has_schema_format fields) _ (Format fields.schema_format) (TooLarge pages) (λ e. cc) f.1 in (
      record {
        database = a.0;
        page_size = b.0;
        versions = c.0;
        utf8 = d.0;
        without_auto_vacuum = e.0;
        usable_bytes = f.0;
        schema_format = g.0;
      },
      pages_same (is_within_limit (pages_in first size) (page_size_in fields)) (pages_in first size) pages g.1,
    )

told_pages : (first : List ℕ) (size : ℕ) → (header_of first size).pages ≡ pages_in first size
unfolding header_of
told_pages first size = refl

-- a header that was read has so many pages
pub read_pages : (first : List ℕ) (size : ℕ) (header : Header) → TellsHeader first size header → header.pages ≡ pages_in first size
read_pages first size header tells = sym (ap (λ (h : Header). h.pages) tells.told) ∙ told_pages first size

counts_with : (first : List ℕ) (size last page_size : ℕ) → size ≡ last * page_size → 1 ≤ last → IsHeader first → pages_in first size ≡ last → CountsPages page_size last first
counts_with first size last page_size size_is some header count = record {
  some = some;
  header = header;
  count = subst (λ (n : ℕ). pages_in first n ≡ last) size_is count;
}

-- a header that was read counts the pages where it has so many
pub counts_read : (first : List ℕ) (size last page_size : ℕ) (header : Header) → TellsHeader first size header → IsHeader first → size ≡ last * page_size → 1 ≤ last
    → header.pages ≡ last → CountsPages page_size last first
counts_read first size last page_size header tells is size_is some same =
    counts_with first size last page_size size_is some is (sym (read_pages first size header tells) ∙ same)

pub pages_counted : (first : List ℕ) (size last page_size : ℕ) → size ≡ last * page_size → CountsPages page_size last first → pages_in first size ≡ last
pages_counted first size last page_size size_is counts = subst (λ (n : ℕ). pages_in first n ≡ last) (sym size_is) counts.count

-- and so does one that is refused for its size alone
pub counts_large : (first : List ℕ) (size last page_size : ℕ) (why : HeaderFault) → refusal first size ≡ Some why → size ≡ last * page_size → 1 ≤ last
    → why ≡ TooLarge last → CountsPages page_size last first
counts_large first size last page_size why is size_is some same =
    let large = large_header first size last (is ∙ ap (λ (w : HeaderFault). Some w) same) in
    counts_with first size last page_size size_is some large.0 large.1

pub counts_refused : (first : List ℕ) (size last page_size : ℕ) (why : HeaderFault) → refusal first size ≡ Some why → size ≡ last * page_size
    → (why ≡ TooLarge last → ⊥) → CountsPages page_size last first → ⊥
counts_refused first size last page_size why is size_is other counts =
    other (refused_large first size why counts.header is ∙ ap (λ (n : ℕ). TooLarge n) (pages_counted first size last page_size size_is counts))

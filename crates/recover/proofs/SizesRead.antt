-- The size in pages, of the recovered map and as page 1 names it.
use Rattle.std.proofs.Common.{◌≡◌, ◌≢◌, ℕ, ◌+◌, ◌*◌, ◌/◌, ◌≤◌, ◌<◌, ◌==◌, ◌&&◌, max, Bool, true, false, if◌then◌else◌, List, [], ◌∷◌, refl, sym, ◌∙◌, ap, arith}
use Rattle.std.specs.Prelude.{nat_lt, nat_le}
use Rattle.std.proofs.Math.Nat.{max-eq_left, max-eq_right, div-le_of_le-mul, mul-div_cancel, lt-div-mul-add}
use Rattle.std.proofs.lemmas.Nat.{le-div}
use Rattle.std.proofs.lemmas.Bool.Decides.{Decides-eqb, nat_tests}
use Rattle.page_spec.specs.Header.{fields_of, page_size_in, pages_in}
use Rattle.log_spec.specs.Accept.{Frame, last_size}
use Rattle.crash_spec.specs.Recovered.{size_after}
use Rattle.recover.specs.declared.scan.First.{First}
use Rattle.recover.specs.Looking.{size_over, named_read, size_counts}

-- the size after some frames goes by the size of their last commit
pub size_after_is : (frames : List Frame) (below : ℕ) → (frames ≢ [] → last_size frames ≢ 0) → size_after frames below ≡ size_over (last_size frames) below
size_after_is [] below some = refl
size_after_is (frame ∷ rest) below some = by (last_size (frame ∷ rest) == 0) (Decides-eqb (last_size (frame ∷ rest)) 0)
  where
    by : (same : Bool) → (same ≡ true → last_size (frame ∷ rest) ≡ 0) × (last_size (frame ∷ rest) ≡ 0 → same ≡ true) → last_size (frame ∷ rest) ≡ (if same then below else last_size (frame ∷ rest))
    by true decides = absurd (some (λ empty. cc) (decides.0 refl))
    by false decides = refl

-- whole pages of the longer of two lengths
max_pages : (size long count : ℕ) → 0 < size → max long (count * size) / size ≡ max (long / size) count
max_pages size long count some = by (nat_le (count * size) long) refl
  where
    longer : (m n : ℕ) → nat_le m n ≡ true → m ≤ n
    longer m n is = grind (arith, nat_tests)

    shorter : (m n : ℕ) → nat_le m n ≡ false → n ≤ m
    shorter m n is = grind (arith, nat_tests)

    other : long ≤ count * size → long ≤ size * count
    other within = grind (arith, within)

    by : (fits : Bool) → nat_le (count * size) long ≡ fits → max long (count * size) / size ≡ max (long / size) count
    by true fits =
        let within = longer (count * size) long fits in
        ap (λ (n : ℕ). n / size) (max-eq_left within) ∙ sym (max-eq_left (le-div count long size some within))
    by false fits =
        let within = shorter (count * size) long fits in
        ap (λ (n : ℕ). n / size) (max-eq_right within) ∙ mul-div_cancel count some ∙ sym (max-eq_right (div-le_of_le-mul size (other within)))

-- the size that page 1 names for a longer file
pub named_is : (bytes : List ℕ) (first : First) (long count : ℕ) → 0 < page_size_in (fields_of bytes) → first.counts ≡ size_counts bytes → first.header.pages ≡ pages_in bytes long
    → named_read first count ≡ pages_in bytes (max long (count * page_size_in (fields_of bytes)))
unfolding pages_in
named_is bytes first long count some counts given = by (size_counts bytes) counts given
  where
    by : (fixed : Bool) → first.counts ≡ fixed → first.header.pages ≡ (if fixed then (fields_of bytes).pages else long / page_size_in (fields_of bytes))
        → (if first.counts then first.header.pages else max first.header.pages count)
        ≡ (if fixed then (fields_of bytes).pages else max long (count * page_size_in (fields_of bytes)) / page_size_in (fields_of bytes))
    by true is given = rw is given
    by false is given = rw (is, given) (sym (max_pages (page_size_in (fields_of bytes)) long count some))

-- where page 1 gives no pages, Main has not even one whole
pub none_given : (bytes : List ℕ) (long : ℕ) → 0 < page_size_in (fields_of bytes) → pages_in bytes long ≡ 0 → long < page_size_in (fields_of bytes)
unfolding pages_in
none_given bytes long some none = by (nat_lt 0 (fields_of bytes).pages) refl ((fields_of bytes).change_counter == (fields_of bytes).valid_for) none
  where
    short : (size : ℕ) → 0 < size → long / size ≡ 0 → long < size
    short size some is = let less = lt-div-mul-add {a = long} {b = size} some in let at = ap (λ (n : ℕ). n * size + size) is in omega (arith, less, at, nothing size)
      where
        nothing : (n : ℕ) → 0 * n ≡ 0
        nothing n = grind arith

    by : (pages : Bool) → nat_lt 0 (fields_of bytes).pages ≡ pages → (same : Bool) → (if pages && same then (fields_of bytes).pages else long / page_size_in (fields_of bytes)) ≡ 0
        → long < page_size_in (fields_of bytes)
    by true some_pages true none = absurd (positive (fields_of bytes).pages some_pages none)
      where
        positive : (n : ℕ) → nat_lt 0 n ≡ true → n ≡ 0 → ⊥
        positive n is none = grind (arith, nat_tests)
    by true some_pages false none = short (page_size_in (fields_of bytes)) some none
    by false some_pages same none = short (page_size_in (fields_of bytes)) some none

-- sizes that are 0 in both logs and below
pub none_over : (size below : ℕ) → size_over size below ≡ 0 → (size ≡ 0) × (below ≡ 0)
none_over size below is = by (size == 0) (Decides-eqb size 0) is
  where
    by : (same : Bool) → (same ≡ true → size ≡ 0) × (size ≡ 0 → same ≡ true) → (if same then below else size) ≡ 0 → (size ≡ 0) × (below ≡ 0)
    by true decides is = (decides.0 refl, is)
    by false decides is = absurd (let no_such = decides.1 is in cc)

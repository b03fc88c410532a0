-- What the first bytes of page 1 tell.
use Rattle.std.proofs.Common.{◌≡◌, ◌≤◌, ◌<◌, ◌&&◌, ℕ, Bool, List, length, take, true, false, refl, sym, ◌∙◌, ap, arith, get_or-take}
use Rattle.std.specs.List.{starts_with}
use Rattle.std.specs.Prelude.{nat_le, nat_eq}
use Rattle.std.proofs.lemmas.Bool.Decides.{nat_tests}
use Rattle.std.proofs.lemmas.List.{take-take, length-take}
use Rattle.page_spec.specs.Header.{is_database, database_text, fields_of, pages_in}
use Rattle.db_header.specs.Header.{refusal, tests_of}
use Rattle.opening_spec.proofs.Laid.{header-take}

pub le_of : (m n : ℕ) → nat_le m n ≡ true → m ≤ n
le_of m n is = grind (arith, nat_tests)

pub le_true : (m n : ℕ) → m ≤ n → nat_le m n ≡ true
le_true m n is = grind (arith, nat_tests)

pub le_false : (m n : ℕ) → n < m → nat_le m n ≡ false
le_false m n is = grind (arith, nat_tests)

pub not_le : (m n : ℕ) → nat_le m n ≡ false → n < m
not_le m n is = grind (arith, nat_tests)

and_first : (a b : Bool) → (a && b) ≡ true → a ≡ true
and_first true b is = refl
and_first false b is = is

-- a database's first bytes are at least 100
pub database_is_long : (first : List ℕ) → is_database first ≡ true → 100 ≤ length first
unfolding is_database
database_is_long first is = le_of 100 (length first) (and_first _ _ (and_first _ _ (and_first _ _ (and_first _ _ is))))

long-take : (bytes : List ℕ) → nat_le 100 (length (take 100 bytes)) ≡ nat_le 100 (length bytes)
long-take bytes = by (nat_le 100 (length bytes)) refl
  where
    by : (long : Bool) → nat_le 100 (length bytes) ≡ long → nat_le 100 (length (take 100 bytes)) ≡ long
    by true is = le_true 100 (length (take 100 bytes)) (omega (arith, le_of 100 (length bytes) is, length-take 100 bytes))
    by false is = le_false 100 (length (take 100 bytes)) (omega (arith, not_le 100 (length bytes) is, length-take 100 bytes))

text-take : (bytes : List ℕ) → starts_with nat_eq (take 100 bytes) database_text ≡ starts_with nat_eq bytes database_text
text-take bytes = rw (take-take 16 100 bytes (omega arith)) refl

database-take : (bytes : List ℕ) → is_database (take 100 bytes) ≡ is_database bytes
unfolding is_database
database-take bytes = rw (long-take bytes, text-take bytes, get_or-take 100 bytes 21 0 (omega arith), get_or-take 100 bytes 22 0 (omega arith), get_or-take 100 bytes 23 0 (omega arith)) refl

pub same_pages_in : (a b : List ℕ) (n : ℕ) → fields_of a ≡ fields_of b → pages_in a n ≡ pages_in b n
unfolding pages_in
same_pages_in a b n is = rw is refl

pub fields_alike : (a b : List ℕ) → take 100 a ≡ take 100 b → fields_of a ≡ fields_of b
fields_alike a b is = sym (header-take 100 a (omega arith)) ∙ ap (λ (bytes : List ℕ). fields_of bytes) is ∙ header-take 100 b (omega arith)

refusal-take : (bytes : List ℕ) (n : ℕ) → refusal (take 100 bytes) n ≡ refusal bytes n
unfolding refusal tests_of
refusal-take bytes n =
    let fields = header-take 100 bytes (omega arith) in
    rw (database-take bytes, same_pages_in (take 100 bytes) bytes n fields, fields) refl

-- the header goes by the first 100 bytes alone
pub refusal_alike : (a b : List ℕ) (n : ℕ) → take 100 a ≡ take 100 b → refusal a n ≡ refusal b n
refusal_alike a b n is = sym (refusal-take a n) ∙ ap (λ (bytes : List ℕ). refusal bytes n) is ∙ refusal-take b n

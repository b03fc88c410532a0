-- What the bytes of a log begin with, by the outcome of each test.
use Rattle.std.proofs.Common.{◌⊎◌, inl, inr, ◌≡◌, ℕ, ◌+◌, ◌*◌, ◌%◌, ◌^◌, ◌≤◌, ◌<◌, ◌&&◌, ◌||◌, ◌==◌, Bool, true, false, List, length, take, refl, sym, ◌∙◌, ap, arith, nat_le}
use Rattle.std.proofs.lemmas.Bool.Decides.{nat_tests}
use Rattle.page_spec.specs.Bytes.{u32_at}
use Rattle.page_spec.specs.Header.{is_page_size}
use Rattle.log_spec.specs.Checksum.{checksum, sum_of_pairs, pair_step, word_at}
use Rattle.log_spec.proofs.ChecksumLaws.{sum_of_pairs-more}
use Rattle.log_spec.specs.LogHeader.{header_size, log_fields, is_signed, is_generation, foreign_at, same_sum, own_version, big_magic, little_magic}
use Rattle.wal_frames.specs.Front.{front_of, header_in}
use Rattle.wal_frames.specs.declared.header.Front.TheVariants.{Nothing, Foreign, Ours}

pub le_true : (m n : ℕ) → m ≤ n → nat_le m n ≡ true
le_true m n h = grind (arith, nat_tests)

pub le_false : (m n : ℕ) → n < m → nat_le m n ≡ false
le_false m n h = grind (arith, nat_tests)

pub eq_true : (m n : ℕ) → m ≡ n → (m == n) ≡ true
eq_true m n h = grind (arith, nat_tests)

pub eq_false : (m n : ℕ) → (m ≡ n → ⊥) → (m == n) ≡ false
eq_false m n h = grind (arith, nat_tests)

pub short_is_unsigned : (bytes : List ℕ) → length bytes < header_size → false ≡ is_signed bytes
unfolding is_signed
short_is_unsigned bytes h = rw (le_false header_size (length bytes) h) refl

pub other_is_unsigned : (bytes : List ℕ) → (u32_at bytes 0 ≡ big_magic → ⊥) → (u32_at bytes 0 ≡ little_magic → ⊥) → false ≡ is_signed bytes
unfolding is_signed log_fields
other_is_unsigned bytes big little =
    rw (eq_false (u32_at bytes 0) big_magic big, eq_false (u32_at bytes 0) little_magic little) (no_more (nat_le header_size (length bytes)) _)
  where
    no_more : (b others : Bool) → false ≡ (b && false && others)
    no_more true others = refl
    no_more false others = refl

one_of : (n : ℕ) → (n ≡ big_magic) ⊎ (n ≡ little_magic) → (n == big_magic || n == little_magic) ≡ true
one_of n (inl h) = rw h refl
one_of n (inr h) = rw h refl

-- with a right magic number the checksum decides
pub signed_by_sum : (bytes : List ℕ) → header_size ≤ length bytes → (u32_at bytes 0 == big_magic || u32_at bytes 0 == little_magic) ≡ true
    → is_signed bytes ≡ same_sum (u32_at bytes 24, u32_at bytes 28) (checksum (u32_at bytes 0 == big_magic) (0, 0) (take 24 bytes))
unfolding is_signed log_fields
signed_by_sum bytes long magic = rw (le_true header_size (length bytes) long, magic) refl

pub magic_either : (bytes : List ℕ) (magic : ℕ) → magic ≡ u32_at bytes 0 → ((magic ≡ big_magic → ⊥) × (magic ≡ little_magic)) ⊎ (magic ≡ big_magic)
    → (u32_at bytes 0 == big_magic || u32_at bytes 0 == little_magic) ≡ true
magic_either bytes magic is (inl other) = one_of (u32_at bytes 0) (inr (sym is ∙ other.1))
magic_either bytes magic is (inr same) = one_of (u32_at bytes 0) (inl (sym is ∙ same))

-- the second word decides where the first is right
pub signed_then : (bytes : List ℕ) (big : Bool) (sum : ℕ × ℕ) (first second : ℕ) → header_size ≤ length bytes
    → (u32_at bytes 0 == big_magic || u32_at bytes 0 == little_magic) ≡ true → big ≡ (u32_at bytes 0 == big_magic)
    → sum ≡ checksum big (0, 0) (take 24 bytes) → first ≡ u32_at bytes 24 → second ≡ u32_at bytes 28 → first ≡ sum.0
    → (second == sum.1) ≡ is_signed bytes
signed_then bytes big sum first second long magic is summed one two same =
    let by = signed_by_sum bytes long magic in
    let right : (u32_at bytes 24 == (checksum (u32_at bytes 0 == big_magic) (0, 0) (take 24 bytes)).0) ≡ true =
    eq_true _ _ (sym one ∙ same ∙ ap (λ (w : ℕ × ℕ). w.0) summed ∙ ap (λ (b : Bool). (checksum b (0, 0) (take 24 bytes)).0) is) in
    let last : sum.1 ≡ (checksum (u32_at bytes 0 == big_magic) (0, 0) (take 24 bytes)).1 =
    ap (λ (w : ℕ × ℕ). w.1) summed ∙ ap (λ (b : Bool). (checksum b (0, 0) (take 24 bytes)).1) is in
    rw (two, last) (sym (by ∙ rw right refl))

-- and a wrong first word settles it
pub signed_else : (bytes : List ℕ) (big : Bool) (sum : ℕ × ℕ) (first : ℕ) → header_size ≤ length bytes
    → (u32_at bytes 0 == big_magic || u32_at bytes 0 == little_magic) ≡ true → big ≡ (u32_at bytes 0 == big_magic)
    → sum ≡ checksum big (0, 0) (take 24 bytes) → first ≡ u32_at bytes 24 → (first ≡ sum.0 → ⊥)
    → (first == sum.0) ≡ is_signed bytes
signed_else bytes big sum first long magic is summed one other =
    let by = signed_by_sum bytes long magic in
    let start : sum.0 ≡ (checksum (u32_at bytes 0 == big_magic) (0, 0) (take 24 bytes)).0 =
    ap (λ (w : ℕ × ℕ). w.0) summed ∙ ap (λ (b : Bool). (checksum b (0, 0) (take 24 bytes)).0) is in
    let wrong : (u32_at bytes 24 == (checksum (u32_at bytes 0 == big_magic) (0, 0) (take 24 bytes)).0) ≡ false =
    eq_false _ _ (λ same. other (one ∙ same ∙ sym start)) in
    eq_false first sum.0 other ∙ sym (by ∙ rw wrong refl)

pub nothing_there : (log : ℕ) (bytes : List ℕ) → is_signed bytes ≡ false → Nothing ≡ front_of log bytes
unfolding front_of
nothing_there log bytes h = rw h refl

pub other_version : (log : ℕ) (bytes : List ℕ) → is_signed bytes ≡ true → (u32_at bytes 4 ≡ own_version → ⊥)
    → Foreign (u32_at bytes 4) 4 ≡ front_of log bytes
unfolding front_of foreign_at log_fields
other_version log bytes signed h = rw (signed, eq_false (u32_at bytes 4) own_version h) refl

pub other_page_size : (log : ℕ) (bytes : List ℕ) → is_signed bytes ≡ true → u32_at bytes 4 ≡ own_version → is_page_size (u32_at bytes 8) ≡ false
    → Foreign (u32_at bytes 4) 8 ≡ front_of log bytes
unfolding front_of foreign_at log_fields
other_page_size log bytes signed version h = rw (signed, eq_true (u32_at bytes 4) own_version version, h) refl

pub other_generation : (log : ℕ) (bytes : List ℕ) → is_signed bytes ≡ true → u32_at bytes 4 ≡ own_version → is_page_size (u32_at bytes 8) ≡ true
    → is_generation log (u32_at bytes 12) ≡ false → Foreign (u32_at bytes 4) 12 ≡ front_of log bytes
unfolding front_of foreign_at log_fields
other_generation log bytes signed version size h = rw (signed, eq_true (u32_at bytes 4) own_version version, size, h) refl

pub ours_there : (log : ℕ) (bytes : List ℕ) → is_signed bytes ≡ true → u32_at bytes 4 ≡ own_version → is_page_size (u32_at bytes 8) ≡ true
    → is_generation log (u32_at bytes 12) ≡ true → front_of log bytes ≡ Ours (header_in bytes)
unfolding front_of foreign_at log_fields
ours_there log bytes signed version size generation = rw (signed, eq_true (u32_at bytes 4) own_version version, size, generation) refl

-- one more pair of words, as the code adds it up
pub pair_added : (big : Bool) (sum : ℕ × ℕ) (bytes : List ℕ) (pair s0 s1 x y : ℕ) → (s0, s1) ≡ sum_of_pairs big sum bytes pair
    → x ≡ word_at big bytes (8 * pair) → y ≡ word_at big bytes (8 * pair + 4)
    → (((s0 + x) % 2 ^ 32 + s1) % 2 ^ 32, ((s1 + y) % 2 ^ 32 + ((s0 + x) % 2 ^ 32 + s1) % 2 ^ 32) % 2 ^ 32) ≡ sum_of_pairs big sum bytes (pair + 1)
pair_added big sum bytes pair s0 s1 x y was first second =
    rw (sum_of_pairs-more big sum bytes pair, ← was, ← first, ← second) (added s0 s1 x y)
  where
    wraps : (a b : ℕ) → (a % 2 ^ 32 + b) % 2 ^ 32 ≡ (a + b) % 2 ^ 32
    wraps a b = omega arith

    added : (s0 s1 x y : ℕ) → (((s0 + x) % 2 ^ 32 + s1) % 2 ^ 32, ((s1 + y) % 2 ^ 32 + ((s0 + x) % 2 ^ 32 + s1) % 2 ^ 32) % 2 ^ 32) ≡ pair_step (s0, s1) x y
    added s0 s1 x y = rw (wraps (s0 + x) s1, wraps (s1 + y) ((s0 + x + s1) % 2 ^ 32)) refl

-- Laws of the checksum.
use Rattle.std.proofs.Common.{[], ◌≡◌, ℕ, ◌+◌, ◌*◌, ◌/◌, ◌%◌, ◌≤◌, zero, suc, Bool, List, ◌++◌, length, get_or, refl, ◌∙◌, ap, arith, add-one, length-append, get_or-append-add, add-zero, add-suc}
use Rattle.std.proofs.lemmas.List.{get_or_append_left}
use Rattle.page_spec.specs.Bytes.{u32_at}
use Rattle.log_spec.specs.Checksum.{Sum, word_at, pair_step, sum_of_pairs, checksum}

-- one more pair
pub sum_of_pairs-more : (big : Bool) (sum : Sum) (bytes : List ℕ) (count : ℕ)
    → sum_of_pairs big sum bytes (count + 1)
    ≡ pair_step (sum_of_pairs big sum bytes count) (word_at big bytes (8 * count)) (word_at big bytes (8 * count + 4))
unfolding sum_of_pairs
sum_of_pairs-more big sum bytes count = rw add-one refl

pub sum_of_pairs-none : (big : Bool) (sum : Sum) (bytes : List ℕ) → sum_of_pairs big sum bytes 0 ≡ sum
unfolding sum_of_pairs
sum_of_pairs-none big sum bytes = refl

pub checksum-is : (big : Bool) (sum : Sum) (bytes : List ℕ) → checksum big sum bytes ≡ sum_of_pairs big sum bytes (length bytes / 8)
unfolding checksum
checksum-is big sum bytes = refl

word_at-front : (big : Bool) (xs ys : List ℕ) (at : ℕ) → at + 4 ≤ length xs → word_at big (xs ++ ys) at ≡ word_at big xs at
unfolding word_at u32_at
word_at-front big xs ys at within =
    rw (
      get_or_append_left xs ys 0 at (omega arith),
      get_or_append_left xs ys 0 (at + 1) (omega arith),
      get_or_append_left xs ys 0 (at + 2) (omega arith),
      get_or_append_left xs ys 0 (at + 3) (omega arith),
    ) refl

word_at-after : (big : Bool) (xs ys : List ℕ) (at : ℕ) → word_at big (xs ++ ys) (length xs + at) ≡ word_at big ys at
unfolding word_at u32_at
word_at-after big xs ys at =
    rw (get_or-append-add xs ys at 0, later 1, later 2, later 3) refl
  where
    later : (n : ℕ) → get_or (xs ++ ys) (length xs + at + n) 0 ≡ get_or ys (at + n) 0
    later n =
        let place : length xs + at + n ≡ length xs + (at + n) = omega arith in
        ap (λ (i : ℕ). get_or (xs ++ ys) i 0) place ∙ get_or-append-add xs ys (at + n) 0

sum_of_pairs-front : (big : Bool) (sum : Sum) (xs ys : List ℕ) (count : ℕ) → 8 * count ≤ length xs
    → sum_of_pairs big sum (xs ++ ys) count ≡ sum_of_pairs big sum xs count
unfolding sum_of_pairs
sum_of_pairs-front big sum xs ys zero within = refl
sum_of_pairs-front big sum xs ys (suc count) within =
    rw (sum_of_pairs-front big sum xs ys count (omega arith), word_at-front big xs ys (8 * count) (omega arith), word_at-front big xs ys (8 * count + 4) (omega arith)) refl

sum_of_pairs-after : (big : Bool) (sum : Sum) (xs ys : List ℕ) (first count : ℕ) → 8 * first ≡ length xs
    → sum_of_pairs big sum (xs ++ ys) (first + count) ≡ sum_of_pairs big (sum_of_pairs big sum xs first) ys count
unfolding sum_of_pairs
sum_of_pairs-after big sum xs ys first zero whole = rw (add-zero first) (sum_of_pairs-front big sum xs ys first (omega arith))
sum_of_pairs-after big sum xs ys first (suc count) whole =
    let one : 8 * (first + count) ≡ length xs + 8 * count = omega arith in
    let two : 8 * (first + count) + 4 ≡ length xs + (8 * count + 4) = omega arith in
    rw (
      add-suc first count,
      sum_of_pairs-after big sum xs ys first count whole,
      two,
      one,
      word_at-after big xs ys (8 * count),
      word_at-after big xs ys (8 * count + 4),
    ) refl

-- the checksum of two rows of bytes, the first a multiple of 8, goes on from that of the first
pub checksum-append : (big : Bool) (sum : Sum) (xs ys : List ℕ) → length xs % 8 ≡ 0
    → checksum big sum (xs ++ ys) ≡ checksum big (checksum big sum xs) ys
unfolding checksum
checksum-append big sum xs ys whole =
    let pairs : length (xs ++ ys) / 8 ≡ length xs / 8 + length ys / 8 = omega (arith, length-append xs ys) in
    rw pairs (sum_of_pairs-after big sum xs ys (length xs / 8) (length ys / 8) (omega arith))

-- the checksum of no bytes
pub checksum-none : (big : Bool) (sum : Sum) → checksum big sum [] ≡ sum
unfolding checksum sum_of_pairs
checksum-none big sum = refl

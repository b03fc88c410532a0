-- Rising lists with one number more.
use Rattle.std.proofs.Common.{◌≡◌, ℕ, ◌+◌, ◌<◌, ◌≤◌, List, [], ◌∷◌, ◌++◌, length, slice_index, length-append, Contains, arith, inl, inr, sym, ◌∙◌, ap, subst}
use Rattle.std.proofs.Math.Nat.{eq-or-lt_of_le}
use Rattle.std.proofs.Math.ListN.{get_or-append}
use Rattle.std.proofs.Math.Seq.{get_or-append_seam}
use Rattle.std.proofs.lemmas.Grind.{get_or_default_zero}
use Rattle.wal_index.specs.Commits.{AreCommits}
use Rattle.wal_index.specs.Index.{IsAbove}

-- what an index of the longer list is: an old one, or the last
pub data IsOldOrLast (xs : List ℕ) (x at : ℕ) : Type 0 where
  Old : at < length xs → slice_index (xs ++ x ∷ []) at ≡ slice_index xs at → IsOldOrLast xs x at
  Last : at ≡ length xs → slice_index (xs ++ x ∷ []) at ≡ x → IsOldOrLast xs x at

pub old_or_last : (xs : List ℕ) (x at : ℕ) → at < length (xs ++ x ∷ []) → IsOldOrLast xs x at
old_or_last xs x at inside = elim (eq-or-lt_of_le (at_most (length-append xs (x ∷ [])))) [
  | inl same ↦ Last same (ap (λ at. slice_index (xs ++ x ∷ []) at) same ∙ get_or-append_seam xs x [] 0)
  | inr less ↦ Old less (get_or-append xs (x ∷ []) 0 at less)
]
  where
    at_most : length (xs ++ x ∷ []) ≡ length xs + length (x ∷ []) → at ≤ length xs
    at_most count = omega (arith, inside)

-- they rise
abbrev pub Rises : List ℕ → Type 0
Rises xs = (one other : ℕ) → one < other → other < length xs → slice_index xs one < slice_index xs other

pub rises_more : (xs : List ℕ) (x : ℕ) → Rises xs → IsAbove xs x → Rises (xs ++ x ∷ [])
rises_more xs x rises above one other less inside = by_cases (old_or_last xs x one (omega (arith, inside))) (old_or_last xs x other inside)
  where
    by_cases : IsOldOrLast xs x one → IsOldOrLast xs x other → slice_index (xs ++ x ∷ []) one < slice_index (xs ++ x ∷ []) other
    by_cases (Old here is) (Old there too) = omega (arith, rises one other less there)
    by_cases (Old here is) (Last at too) = omega (arith, above one here)
    by_cases (Last at is) (Old there too) = absurd (omega arith)
    by_cases (Last at is) (Last last too) = absurd (omega arith)

-- an element of a list is one of the longer list, and so is the new one
pub contains_more : (xs : List ℕ) (x one : ℕ) → Contains xs one → Contains (xs ++ x ∷ []) one
contains_more xs x one there = (there.0, omega (arith, there.1, length-append xs (x ∷ [])), get_or-append xs (x ∷ []) one there.0 there.1 ∙ there.2)

pub contains_last : (xs : List ℕ) (x : ℕ) → Contains (xs ++ x ∷ []) x
contains_last xs x = (length xs, omega (arith, length-append xs (x ∷ [])), get_or-append_seam xs x [] x)

-- what is above all of a list is above each part of it
pub above_among : (numbers tails : List ℕ) (number : ℕ) → IsAbove numbers number → ((place : ℕ) → place < length tails → Contains numbers (slice_index tails place)) → IsAbove tails number
above_among numbers tails number above among place inside =
    let there = among place inside in
    let is : slice_index numbers there.0 ≡ slice_index tails place = sym (get_or_default_zero numbers there.0 (slice_index tails place) there.1) ∙ there.2 in
    omega (arith, above there.0 there.1)

-- one commit more
pub commits_more : (numbers ends tails : List ℕ) (number end : ℕ) → AreCommits numbers ends tails → IsAbove numbers number → IsAbove ends end → 0 < end
    → AreCommits (numbers ++ number ∷ []) (ends ++ end ∷ []) tails
commits_more numbers ends tails number end are above behind some = record {
  count = omega (arith, are.count, length-append numbers (number ∷ []), length-append ends (end ∷ []));
  numbers_rise = rises_more numbers number are.numbers_rise above;
  ends_rise = rises_more ends end are.ends_rise behind;
  some_frame = λ place inside. some_in place (old_or_last ends end place inside);
  tails_among = λ place inside. contains_more numbers number (slice_index tails place) (are.tails_among place inside);
  tails_rise = are.tails_rise;
}
  where
    some_in : (place : ℕ) → IsOldOrLast ends end place → 0 < slice_index (ends ++ end ∷ []) place
    some_in place (Old here is) = omega (arith, are.some_frame place here)
    some_in place (Last at is) = omega arith

-- and it changed page 1
pub tails_more : (numbers ends tails : List ℕ) (number end : ℕ) → AreCommits numbers ends tails → IsAbove numbers number → IsAbove ends end → 0 < end
    → AreCommits (numbers ++ number ∷ []) (ends ++ end ∷ []) (tails ++ number ∷ [])
tails_more numbers ends tails number end are above behind some =
    let more = commits_more numbers ends tails number end are above behind some in
    record {
      count = more.count;
      numbers_rise = more.numbers_rise;
      ends_rise = more.ends_rise;
      some_frame = more.some_frame;
      tails_among = λ place inside. among place (old_or_last tails number place inside);
      tails_rise = rises_more tails number are.tails_rise (above_among numbers tails number above are.tails_among);
    }
  where
    among : (place : ℕ) → IsOldOrLast tails number place → Contains (numbers ++ number ∷ []) (slice_index (tails ++ number ∷ []) place)
    among place (Old here is) = subst (Contains (numbers ++ number ∷ [])) (sym is) (contains_more numbers number (slice_index tails place) (are.tails_among place here))
    among place (Last at is) = subst (Contains (numbers ++ number ∷ [])) (sym is) (contains_last numbers number)

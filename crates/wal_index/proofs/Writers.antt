-- The first commit above a number that wrote a page, from the first frame behind the earlier commits.
use Rattle.std.proofs.Common.{◌≡◌, ℕ, zero, suc, ◌-◌, ◌<◌, ◌≤◌, Bool, true, false, List, length, slice_index, Option, Some, None, MatchOption, min, arith, inl, inr, ap, subst}
use Rattle.std.proofs.Math.Decide.{dec_lt}
use Rattle.std.proofs.Math.Nat.{eq-or-lt_of_le}
use Rattle.wal_index.specs.Frames.{IsFirstFrame, FindsFirst}
use Rattle.wal_index.specs.Commits.{AreCommits, HasFrame, IsCountUpTo, FirstAbove, start_of}
use Rattle.wal_index.specs.Index.{Indexed, IndexedLog, Wrote, FirstWriter, FirstWriterOfBoth}
use Rattle.wal_index.specs.Parts.{lesser_of}

-- of those that changed page 1
pub tail_writer : (log : IndexedLog) (n page : ℕ) (found : Option ℕ) → FirstAbove log.tails n found → FirstWriter true log n page found
tail_writer log n page None above = above
tail_writer log n page (Some number) above = record { wrote = above.there; above = above.above; first = above.first }

-- an end isn't less than that of an earlier commit
ends_grow : (numbers ends tails : List ℕ) → AreCommits numbers ends tails → (one other : ℕ) → one ≤ other → other < length ends → slice_index ends one ≤ slice_index ends other
ends_grow numbers ends tails are one other more inside = elim (eq-or-lt_of_le more) [
  | inl same ↦ subst (λ at. slice_index ends one ≤ slice_index ends at) same (same_least (slice_index ends one))
  | inr less ↦ omega (arith, are.ends_rise one other less inside)
]
  where
    same_least : (n : ℕ) → n ≤ n
    same_least n = omega arith

-- the frames of the first commits end where those of the next one begin
start_is : (ends : List ℕ) (place : ℕ) → 0 < place → start_of ends place ≡ slice_index ends (place - 1)
start_is ends zero some = absurd (omega arith)
start_is ends (suc place) some = ap (slice_index ends) (less_one place)
  where
    less_one : (place : ℕ) → place ≡ suc place - 1
    less_one place = omega arith

-- a commit that has the frame behind the first so many isn't one of these
place_behind : (numbers ends tails : List ℕ) → AreCommits numbers ends tails → (count place frame : ℕ) → count ≤ length numbers
    → start_of ends count < frame → frame ≤ slice_index ends place → (place < count → ⊥)
place_behind numbers ends tails are count place frame few after to low =
    omega (arith, start_is ends count (omega arith), ends_grow numbers ends tails are place (count - 1) (omega arith) (omega (arith, are.count)))

-- the frames of a commit behind the first so many are behind theirs
start_behind : (numbers ends tails : List ℕ) → AreCommits numbers ends tails → (count place : ℕ) → count ≤ place → place < length numbers
    → start_of ends count ≤ start_of ends place
start_behind numbers ends tails are zero place more inside = omega arith
start_behind numbers ends tails are (suc count) place more inside =
    omega (
      arith,
      start_is ends (suc count) (omega arith),
      start_is ends place (omega arith),
      ends_grow numbers ends tails are (suc count - 1) (place - 1) (omega arith) (omega (arith, are.count)),
    )

-- a commit above a number isn't one of those up to it
place_above : (numbers : List ℕ) (n count place : ℕ) → IsCountUpTo numbers n count → n < slice_index numbers place → (place < count → ⊥)
place_above numbers n count place counts above low = omega (arith, counts.below place low)

-- the frames of a commit above the number are behind
frame_behind : (numbers ends tails : List ℕ) → AreCommits numbers ends tails → (n count frame number : ℕ) → IsCountUpTo numbers n count
    → HasFrame numbers ends frame number → n < number → start_of ends count < frame
frame_behind numbers ends tails are n count frame number counts has above =
    let not = place_above numbers n count has.place counts (omega (arith, has.number_is)) in
    omega (arith, has.from, start_behind numbers ends tails are count has.place (omega arith) has.there)

-- no frame of the page is behind
pub none_writes : (log : IndexedLog) (n page count : ℕ) → AreCommits log.numbers log.ends log.tails → IsCountUpTo log.numbers n count
    → FindsFirst log.pages page (start_of log.ends count) None → FirstWriter false log n page None
none_writes log n page count are counts none other wrote = elim (dec_lt n other) [
  | yes above ↦ absurd (none wrote.frame (frame_behind log.numbers log.ends log.tails are n count wrote.frame other counts wrote.has above) wrote.is)
  | no not ↦ omega arith
]

-- the first frame of the page behind is of the first commit that wrote it, or of none
pub first_writes : (log : IndexedLog) (n page count frame : ℕ) (found : Option ℕ) → AreCommits log.numbers log.ends log.tails → IsCountUpTo log.numbers n count
    → IsFirstFrame log.pages page (start_of log.ends count) frame
    → MatchOption found ((place : ℕ) → place < length log.ends → slice_index log.ends place < frame) (HasFrame log.numbers log.ends frame)
    → FirstWriter false log n page found
first_writes log n page count frame None are counts first none = λ other wrote. elim (dec_lt n other) [
  | yes above ↦
      let behind = frame_behind log.numbers log.ends log.tails are n count wrote.frame other counts wrote.has above in
      absurd (omega (arith, first.first wrote.frame behind wrote.is, wrote.has.to, none wrote.has.place (omega (arith, are.count, wrote.has.there))))
  | no not ↦ omega arith
]
first_writes log n page count frame (Some number) are counts first has =
    let high = place_behind log.numbers log.ends log.tails are count has.place frame counts.few first.later has.to in
    record {
      wrote = record { frame = frame; is = first.is; has = has };
      above = omega (arith, has.number_is, counts.above has.place (omega arith) has.there);
      first = λ other wrote above.
          let behind = frame_behind log.numbers log.ends log.tails are n count wrote.frame other counts wrote.has above in
          let later : frame ≤ wrote.frame = first.first wrote.frame behind wrote.is in
          elim (dec_lt wrote.has.place has.place) [
            | yes low ↦ absurd (place_behind log.numbers log.ends log.tails are has.place wrote.has.place frame (omega (arith, has.there)) has.from
                (omega (arith, wrote.has.to)) low)
            | no not ↦ elim (eq-or-lt_of_le (at_least not)) [
              | inl same ↦ omega (arith, has.number_is, wrote.has.number_is, ap (slice_index log.numbers) same)
              | inr less ↦ omega (arith, has.number_is, wrote.has.number_is, are.numbers_rise has.place wrote.has.place less wrote.has.there)
            ]
          ];
    }
  where
    at_least : {one other : ℕ} → (one < other → ⊥) → other ≤ one
    at_least not = omega arith

-- the first of both logs is the lesser of the two
pub writer_of_both : (tail : Bool) (index : Indexed) (n page : ℕ) (one other : Option ℕ) → FirstWriter tail index.log1 n page one
    → FirstWriter tail index.log2 n page other → FirstWriterOfBoth tail index n page (lesser_of one other)
writer_of_both tail index n page None None one other = λ number wrote. elim wrote [ inl here ↦ one number here | inr there ↦ other number there ]
writer_of_both tail index n page None (Some next) one other = record {
  wrote = inr other.wrote;
  above = other.above;
  first1 = λ number wrote above. absurd (omega (arith, one number wrote));
  first2 = other.first;
}
writer_of_both tail index n page (Some number) None one other = record {
  wrote = inl one.wrote;
  above = one.above;
  first1 = one.first;
  first2 = λ number wrote above. absurd (omega (arith, other number wrote));
}
writer_of_both tail index n page (Some number) (Some next) one other = elim (dec_lt number next) [
  | yes less ↦ record {
    wrote = inl (subst (Wrote tail index.log1 page) (least_is less) one.wrote);
    above = omega (arith, one.above, other.above);
    first1 = λ later wrote above. omega (arith, one.first later wrote above);
    first2 = λ later wrote above. omega (arith, other.first later wrote above);
  }
  | no more ↦ record {
    wrote = inr (subst (Wrote tail index.log2 page) (least_too more) other.wrote);
    above = omega (arith, one.above, other.above);
    first1 = λ later wrote above. omega (arith, one.first later wrote above);
    first2 = λ later wrote above. omega (arith, other.first later wrote above);
  }
]
  where
    least_is : number < next → number ≡ min number next
    least_is less = omega arith

    least_too : (number < next → ⊥) → next ≡ min number next
    least_too not = omega arith

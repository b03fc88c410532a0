-- Laws of the order in which the frames of a part are kept.
use Rattle.std.proofs.Common.{◌≡◌, ℕ, ◌+◌, ◌<◌, ◌≤◌, List, length, slice_index, arith, inl, inr, sym, subst}
use Rattle.std.proofs.Math.Nat.{eq-or-lt_of_le}
use Rattle.wal_index.specs.Order.{AreOrdered, IsBefore, part_start, named}

-- what comes before a frame that comes before another comes before that
pub before_on : (pages : List ℕ) (one other page place : ℕ) → IsBefore pages one (slice_index pages other) other
    → IsBefore pages other page place → IsBefore pages one page place
before_on pages one other page place (inl less) (inl more) = inl (omega arith)
before_on pages one other page place (inl less) (inr same) = inl (omega (arith, same.0))
before_on pages one other page place (inr same) (inl more) = inl (omega (arith, same.0))
before_on pages one other page place (inr same) (inr again) = inr (omega (arith, same.0, again.0), omega (arith, same.1, again.1))

-- places from a part's start on, fewer than 4,096 behind it, are of that part
pub same_part : (start one other : ℕ) → part_start start ≡ start → start ≤ one → one < start + 4096 → start ≤ other → other < start + 4096
    → part_start one ≡ part_start other
same_part start one other is from to from_too to_too = omega arith

-- what comes before in a part comes before what an entry behind it comes before
pub rises : (pages order : List ℕ) (start end page place one other : ℕ) → AreOrdered pages order → part_start start ≡ start
    → end ≤ start + 4096 → end ≤ length pages → start ≤ one → one < other → other < end
    → IsBefore pages (named order other) page place → IsBefore pages (named order one) page place
rises pages order start end page place one other ordered is few within from less to before =
    let part : part_start one ≡ part_start other = same_part start one other is from (omega arith) (omega arith) (omega arith) in
    before_on pages (named order one) (named order other) page place (ordered.rising one other less (omega arith) part) before

-- up to an entry that comes before, all of its part do
pub below_rank : (pages order : List ℕ) (start end page place middle : ℕ) → AreOrdered pages order → part_start start ≡ start
    → end ≤ start + 4096 → end ≤ length pages → middle < end → IsBefore pages (named order middle) page place
    → (other : ℕ) → start ≤ other → other < middle + 1 → IsBefore pages (named order other) page place
below_rank pages order start end page place middle ordered is few within inside before other from less =
    elim (eq-or-lt_of_le (le_of less)) [
      | inl same ↦ subst (λ entry. IsBefore pages (named order entry) page place) (sym same) before
      | inr under ↦ rises pages order start end page place other middle ordered is few within from under inside before
    ]
  where
    le_of : other < middle + 1 → other ≤ middle
    le_of less = omega arith

-- from an entry that doesn't come before, none of its part does
pub above_rank : (pages order : List ℕ) (start end page place middle : ℕ) → AreOrdered pages order → part_start start ≡ start
    → end ≤ start + 4096 → end ≤ length pages → start ≤ middle → (IsBefore pages (named order middle) page place → ⊥)
    → (other : ℕ) → middle ≤ other → other < end → IsBefore pages (named order other) page place → ⊥
above_rank pages order start end page place middle ordered is few within from not other more to before =
    elim (eq-or-lt_of_le more) [
      | inl same ↦ not (subst (λ entry. IsBefore pages (named order entry) page place) (sym same) before)
      | inr above ↦ not (rises pages order start end page place middle other ordered is few within from above to before)
    ]

-- each place of a part is named by an entry of that part
pub entry_of : (pages order : List ℕ) (start place : ℕ) → AreOrdered pages order → part_start start ≡ start → start ≤ place → place < start + 4096
    → place < length pages → (entry : ℕ) × (start ≤ entry) × (entry < start + 4096) × (entry < length pages) × (named order entry ≡ place)
entry_of pages order start place ordered is from to there =
    let found = ordered.all place there in
    let part : part_start place ≡ start = omega arith in
    (found.0, omega (arith, found.2), omega (arith, found.2), found.1, found.3)

-- an entry of a part names a place of it
pub named_in : (pages order : List ℕ) (start entry : ℕ) → AreOrdered pages order → part_start start ≡ start → start ≤ entry → entry < start + 4096
    → entry < length pages → (start ≤ named order entry) × (named order entry < start + 4096) × (named order entry < length pages)
named_in pages order start entry ordered is from to there =
    let near = ordered.near entry there in
    let part : part_start entry ≡ start = omega arith in
    (omega arith, omega arith, ordered.within entry there)

-- Where the cells of a leaf of a table are cut.
use Rattle.std.proofs.Common.{◌≡◌, ℕ, ◌+◌, ◌-◌, ◌<◌, ◌≤◌, max, List, length, ap, ◌∙◌, inl, inr, arith}
use Rattle.std.proofs.lemmas.Bool.{cases_lt}
use Rattle.node_spec.specs.Cells.{NodeCell}
use Rattle.node_edit.specs.declared.crowd.Crowd.{Crowd}
use Rattle.node_edit.specs.declared.leaves.Cuts.TheVariants.{One, Both}
use Rattle.node_edit.specs.Runs.{cell_of, part_of, weight_of}
use Rattle.node_edit.specs.Dividing.{CutsRows, AreCuts}
use Rattle.node_edit.proofs.Rows.{part_cut, part_none, weight_more, weight_join, part_within}

part_alone : (cells : List NodeCell) (k : ℕ) → k < length cells → weight_of (part_of cells k (k + 1)) ≡ (cell_of cells k).size + 2
part_alone cells k less = omega (arith, weight_more cells k k (omega arith) less, ap weight_of (part_none cells k))

part_behind : (cells : List NodeCell) (from mid to : ℕ) → from ≤ mid → mid ≤ to → weight_of (part_of cells mid to) ≤ weight_of (part_of cells from to)
part_behind cells from mid to low high =
    omega (arith, ap weight_of (part_cut cells from mid to low high) ∙ weight_join (part_of cells from mid) (part_of cells mid to))

-- cut at the limit, or behind the first cell
pub first_cut : {crowd : Crowd} {cells : List NodeCell} {at limit : ℕ} (cuts : CutsRows crowd cells at limit) (reached cut : ℕ) → cut ≡ max reached 1 → reached ≤ length cells - 1
    → weight_of (part_of cells 0 reached) ≤ limit → weight_of (part_of cells cut (length cells)) + 8 ≤ crowd.run.u
    → AreCuts crowd.run.u cells (One cut)
first_cut {crowd} {cells} {at} {limit} cuts reached cut is most fits rest = (
  record {
    some = omega (arith, is);
    within = omega (arith, is, most, cuts.two);
    fits = elim (cases_lt reached 1) [
      | inl none ↦
          let here : cut ≡ 0 + 1 = omega (arith, is, none) in
          omega (arith, ap (λ n. weight_of (part_of cells 0 n)) here, part_alone cells 0 (omega (arith, cuts.two)), cuts.alone 0 (omega (arith, cuts.two)))
      | inr some ↦
          let here : cut ≡ reached = omega (arith, is, some) in
          omega (arith, ap (λ n. weight_of (part_of cells 0 n)) here, fits, cuts.room)
    ];
  },
  record { some = omega (arith, is, most, cuts.two); within = omega arith; fits = rest },
)

-- cut where the first part is as full as can be
pub low_some : {crowd : Crowd} {cells : List NodeCell} {at limit : ℕ} (cuts : CutsRows crowd cells at limit) (low : ℕ)
    → (low < length cells - 1 → crowd.run.u - 8 < weight_of (part_of cells 0 (low + 1))) → 1 ≤ low
low_some {crowd} {cells} {at} {limit} cuts low next = elim (cases_lt low 1) [
  | inl none ↦
      let here : low + 1 ≡ 0 + 1 = omega (arith, none) in
      absurd (omega (arith, next (omega (arith, none, cuts.two)), ap (λ n. weight_of (part_of cells 0 n)) here, part_alone cells 0 (omega (arith, cuts.two)), cuts.alone 0 (omega (arith, cuts.two))))
  | inr some ↦ some
]

pub second_cut : {crowd : Crowd} {cells : List NodeCell} {at limit : ℕ} (cuts : CutsRows crowd cells at limit) (low : ℕ) → low ≤ length cells - 1
    → weight_of (part_of cells 0 low) ≤ crowd.run.u - 8 → 480 ≤ crowd.run.u
    → (low < length cells - 1 → crowd.run.u - 8 < weight_of (part_of cells 0 (low + 1)))
    → weight_of (part_of cells low (length cells)) + 8 ≤ crowd.run.u → AreCuts crowd.run.u cells (One low)
second_cut {crowd} {cells} {at} {limit} cuts low most fits least next rest = (
  record { some = omega (arith, low_some cuts low next); within = omega arith; fits = omega (arith, fits, least) },
  record { some = omega (arith, most, cuts.two); within = omega arith; fits = rest },
)

-- and where three parts are needed
pub third_cut : {crowd : Crowd} {cells : List NodeCell} {at limit : ℕ} (cuts : CutsRows crowd cells at limit) (low high : ℕ) → low ≤ length cells - 1
    → weight_of (part_of cells 0 low) ≤ crowd.run.u - 8 → 480 ≤ crowd.run.u
    → (low < length cells - 1 → crowd.run.u - 8 < weight_of (part_of cells 0 (low + 1)))
    → crowd.run.u < weight_of (part_of cells low (length cells)) + 8
    → low ≤ high → high ≤ length cells - 1 → weight_of (part_of cells low high) ≤ crowd.run.u - 8
    → (high < length cells - 1 → crowd.run.u - 8 < weight_of (part_of cells low (high + 1)))
    → AreCuts crowd.run.u cells (Both low high)
third_cut {crowd} {cells} {at} {limit} cuts low high most fits least next lacks order last mid_fits mid_next =
    let n = length cells in
    let before_last : low < n - 1 = elim (cases_lt low (n - 1)) [
      | inl less ↦ less
      | inr same ↦
          let here : n ≡ low + 1 = omega (arith, most, same, cuts.two) in
          absurd (omega (arith, lacks, ap (λ m. weight_of (part_of cells low m)) here, part_alone cells low (omega (arith, here)), cuts.alone low (omega (arith, here))))
    ] in
    let past : low < high = elim (cases_lt low high) [
      | inl less ↦ less
      | inr same ↦
          let here : high + 1 ≡ low + 1 = omega (arith, order, same) in
          absurd (omega (arith, mid_next (omega (arith, here, before_last)), ap (λ m. weight_of (part_of cells low m)) here, part_alone cells low (omega (arith, before_last)), cuts.alone low (omega (arith, before_last))))
    ] in
    let reaches : at ≤ low = elim (cases_lt low at) [
      | inl less ↦ absurd (omega (arith, next before_last, part_within cells 0 (low + 1) at (omega arith) (omega (arith, less)) (omega (arith, cuts.place)), cuts.before))
      | inr more ↦ more
    ] in (
      record { some = omega (arith, low_some cuts low next); within = omega (arith, most); fits = omega (arith, fits, least) },
      record { some = past; within = omega (arith, last); fits = omega (arith, mid_fits, least) },
      record {
        some = omega (arith, last, cuts.two);
        within = omega arith;
        fits = omega (arith, cuts.behind, part_behind cells (at + 1) high n (omega (arith, past, reaches)) (omega (arith, last)));
      },
    )

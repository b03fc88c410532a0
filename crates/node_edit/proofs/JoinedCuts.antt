-- Two neighbours that have no room in one page, of which one has no cell: their cells and those between can be divided at half.
use Rattle.std.proofs.Common.{◌≡◌, ℕ, ◌+◌, ◌*◌, ◌≤◌, ◌&&◌, Bool, true, false, refl, List, [], ◌∷◌, ◌++◌, length, Some, ap, ◌∙◌, inl, inr, arith}
use Rattle.node_spec.specs.declared.kinds.Kind.{Kind}
use Rattle.node_spec.specs.Kinds.{is_leaf, is_table, pointers_at}
use Rattle.node_spec.specs.Cells.{NodeCell}
use Rattle.node_spec.specs.Nodes.{Node, node_of}
use Rattle.edit_spec.specs.Nodes.{cells_with}
use Rattle.node_edit.specs.declared.crowd.Crowd.{Crowd}
use Rattle.node_edit.specs.Runs.{spelled_by, weight_of}
use Rattle.node_edit.specs.Dividing.{IsCrowd, LackRoom, CutsBetween}
use Rattle.node_edit.proofs.Rows.{node_fits, weight_taking, weight_join}
use Rattle.node_edit.proofs.Weights.{few_light}
use Rattle.node_edit.proofs.Crowds.{pointers_bounds, between_can}

no_weight : (cells : List NodeCell) → length cells ≡ 0 → weight_of cells ≡ 0
no_weight [] none = omega arith
no_weight (cell ∷ cells) none = absurd (omega (arith, none))

module _ (u : ℕ) (texts : List (List ℕ)) (one two : Node) (left right : List ℕ) (shown : node_of u false left ≡ Some one) (beside : node_of u false right ≡ Some two) (r : LackRoom u one two texts) where
  abbrev news : List NodeCell
  news = one.cells ++ spelled_by one.kind u texts

  abbrev all : List NodeCell
  all = cells_with two.cells 0 news

  pub wide : (u ≤ length left) × (u ≤ length right)
  wide = ((node_fits {first = false} {page = left} shown).long, (node_fits {first = false} {page = right} beside).long)

  -- both pages' cells fit in one page without those between
  both : pointers_at false one.kind + (weight_of one.cells + weight_of two.cells) ≤ u
  both =
      let f = node_fits {first = false} {page = left} shown in
      let g = node_fits {first = false} {page = right} beside in
      let same : pointers_at false two.kind ≡ pointers_at false one.kind = ap (pointers_at false) r.kind in
      elim r.thin [
        | inl none ↦ omega (arith, no_weight one.cells none, g.fits, same)
        | inr none ↦ omega (arith, no_weight two.cells none, f.fits)
      ]

  -- leaves of a table would have room
  other : is_leaf one.kind && is_table one.kind ≡ false
  other = by (is_leaf one.kind && is_table one.kind) refl
    where
      by : (rows : Bool) → is_leaf one.kind && is_table one.kind ≡ rows → is_leaf one.kind && is_table one.kind ≡ false
      by true is =
          let none = ap (λ (t : List (List ℕ)). weight_of (spelled_by one.kind u t)) (r.rows is) in
          let same : pointers_at false two.kind ≡ pointers_at false one.kind = ap (pointers_at false) r.kind in
          absurd (omega (arith, r.lacks, none, weight_join one.cells (spelled_by one.kind u texts), both, same))
      by false is = is

  light : weight_of (spelled_by one.kind u texts) + 112 ≤ u
  light = few_light one.kind u texts other (node_fits {first = false} {page = left} shown).least r.cells r.few

  weight : weight_of all ≡ weight_of two.cells + (weight_of one.cells + weight_of (spelled_by one.kind u texts))
  weight = weight_taking two.cells 0 news ∙ ap (λ n. weight_of two.cells + n) (weight_join one.cells (spelled_by one.kind u texts))

  pub weight_low : weight_of all ≤ 131072
  weight_low = let f = node_fits {first = false} {page = left} shown in omega (arith, weight, both, light, f.most)

  pub cuts_joined : (crowd : Crowd) (limit : ℕ) → crowd.run.u ≡ u → crowd.first ≡ false → crowd.run.kind ≡ one.kind → IsCrowd crowd all
      → (2 * limit ≤ weight_of all) × (weight_of all ≤ 2 * limit + 1) → CutsBetween crowd all limit
  cuts_joined crowd limit usable page kind is half =
      let g = node_fits {first = false} {page = right} beside in
      let same : pointers_at false two.kind ≡ pointers_at false one.kind = ap (pointers_at false) r.kind in
      let place : pointers_at crowd.first crowd.run.kind ≡ pointers_at false one.kind = ap (λ f. pointers_at f crowd.run.kind) page ∙ ap (pointers_at false) kind in
      let between : is_leaf crowd.run.kind && is_table crowd.run.kind ≡ false = ap (λ (k : Kind). is_leaf k && is_table k) kind ∙ other in
      between_can crowd all limit is between (omega (arith, usable, place, same, r.lacks, g.fits, weight_taking two.cells 0 news))
      (omega (arith, usable, place, weight, both, light, (pointers_bounds false one.kind).1)) (inr half)

-- A page that has no room for cells can be divided: what the crowd of its cells and theirs is, by what the page shows.
use Rattle.std.proofs.Common.{◌≡◌, ℕ, ◌+◌, ◌*◌, ◌<◌, ◌≤◌, ◌&&◌, Bool, true, false, List, length, Option, Some, Result, Ok, Err, refl, sym, ap, subst, ◌∙◌, inl, inr, arith}
use Rattle.std.proofs.lemmas.List.{length-map}
use Rattle.std.specs.Prelude.{◌⊎◌, All, IfOk, unwrap_or}
use Rattle.node_spec.specs.declared.kinds.Kind.{Kind}
use Rattle.node_spec.specs.declared.kinds.Kind.TheVariants.{IndexInner, TableInner, IndexLeaf, TableLeaf}
use Rattle.node_spec.specs.Kinds.{is_leaf, is_table, pointers_at}
use Rattle.node_spec.specs.Cells.{NodeCell, IsOneCell, cell_in}
use Rattle.node_spec.specs.Nodes.{Node, node_of}
use Rattle.edit_spec.specs.Nodes.{ByLeafOfTable, cells_with}
use Rattle.node_edit.specs.declared.crowd.Crowd.{Crowd}
use Rattle.node_edit.specs.Runs.{spelled_by, weight_of}
use Rattle.node_edit.specs.Dividing.{IsCrowd, IsCrowded, CutsBetween, CutsRows}
use Rattle.node_edit.proofs.Rows.{node_fits, weight_taking}
use Rattle.node_edit.proofs.Weights.{few_light, one_heavy}
use Rattle.node_edit.proofs.Crowds.{few_news, pointers_bounds, between_can, rows_can}

-- of an answer that goes well more follows
pub ok_on : {A E : Type 0} (P Q : A → Type 0) (result : Result A E) → ((x : A) → P x → Q x) → IfOk result P → IfOk result Q
ok_on P Q (Ok x) more says = more x says
ok_on P Q (Err why) more says = tt

-- a page shows one node
pub node_once : (one other : Node) (shown : Option Node) → shown ≡ Some one → shown ≡ Some other → one ≡ other
node_once one other shown is also = ap (λ (found : Option Node). unwrap_or found other) (sym is ∙ also)

-- of two tests both hold, or one doesn't
pub both_true : (a b : Bool) → a ≡ true → b ≡ true → a && b ≡ true
both_true true true one two = refl
both_true true false one two = cc
both_true false b one two = cc

pub not_both : (a b : Bool) → (a ≡ false) ⊎ (b ≡ false) → a && b ≡ false
not_both false b either = refl
not_both true false either = refl
not_both true true (inl is) = cc
not_both true true (inr is) = cc

leaf_kind : (kind : Kind) → is_leaf kind && is_table kind ≡ true → kind ≡ TableLeaf
leaf_kind IndexInner is = cc
leaf_kind TableInner is = cc
leaf_kind IndexLeaf is = cc
leaf_kind TableLeaf is = refl

few_rows : (kind : Kind) (first : Bool) (n : ℕ) → is_leaf kind && is_table kind ≡ true
    → ByLeafOfTable (is_leaf kind && is_table kind) ((first ≡ false) × (n ≡ 1)) (n ≤ 2) → (first ≡ false) × (n ≡ 1)
few_rows IndexInner first n is few = cc
few_rows TableInner first n is few = cc
few_rows IndexLeaf first n is few = cc
few_rows TableLeaf first n is few = few

module _ (u : ℕ) (first : Bool) (at : ℕ) (bytes : List ℕ) (texts : List (List ℕ)) (node : Node) (shown : node_of u first bytes ≡ Some node) (r : IsCrowded u first node at texts) where
  abbrev news : List NodeCell
  news = spelled_by node.kind u texts

  abbrev all : List NodeCell
  all = cells_with node.cells at news

  pub wide : u ≤ length bytes
  wide = (node_fits {first = first} {page = bytes} shown).long

  crowded : u < pointers_at first node.kind + weight_of all
  crowded = let f = node_fits {first = first} {page = bytes} shown in omega (arith, r.lacks, f.fits, weight_taking node.cells at news)

  rows_few : is_leaf node.kind && is_table node.kind ≡ true → (first ≡ false) × (length texts ≡ 1)
  rows_few rows = few_rows node.kind first (length texts) rows r.few

  news_light : is_leaf node.kind && is_table node.kind ≡ false → weight_of news + 112 ≤ u
  news_light other =
      let f = node_fits {first = first} {page = bytes} shown in
      few_light node.kind u texts other f.least r.cells (few_news node.kind first (length texts) r.few)

  news_heavy : is_leaf node.kind && is_table node.kind ≡ true → weight_of news + 11 ≤ u
  news_heavy rows =
      let f = node_fits {first = first} {page = bytes} shown in
      let leaf = leaf_kind node.kind rows in
      subst (λ (kind : Kind). weight_of (spelled_by kind u texts) + 11 ≤ u) (sym leaf)
      (one_heavy u texts f.least (subst (λ (kind : Kind). All (IsOneCell kind u) texts) leaf r.cells) (rows_few rows).1)

  pub weight_few : weight_of all ≤ 131072
  weight_few = by (is_leaf node.kind && is_table node.kind) refl
    where
      by : (rows : Bool) → is_leaf node.kind && is_table node.kind ≡ rows → weight_of all ≤ 131072
      by true is = let f = node_fits {first = first} {page = bytes} shown in omega (arith, f.fits, f.most, weight_taking node.cells at news, news_heavy is)
      by false is = let f = node_fits {first = first} {page = bytes} shown in omega (arith, f.fits, f.most, weight_taking node.cells at news, news_light is)

  module _ (crowd : Crowd) (limit : ℕ) (usable : crowd.run.u ≡ u) (page : crowd.first ≡ first) (kind : crowd.run.kind ≡ node.kind) (is : IsCrowd crowd all)
      (taken : (limit + pointers_at false crowd.run.kind ≡ crowd.run.u) ⊎ ((2 * limit ≤ weight_of all) × (weight_of all ≤ 2 * limit + 1))) where
    place : pointers_at crowd.first crowd.run.kind ≡ pointers_at first node.kind
    place = ap (λ (f : Bool). pointers_at f crowd.run.kind) page ∙ ap (pointers_at first) kind

    pub cuts_between : is_leaf crowd.run.kind && is_table crowd.run.kind ≡ false → CutsBetween crowd all limit
    cuts_between other =
        let f = node_fits {first = first} {page = bytes} shown in
        let light = news_light (ap (λ (k : Kind). is_leaf k && is_table k) (sym kind) ∙ other) in
        between_can crowd all limit is other (omega (arith, crowded, usable, place))
        (omega (arith, usable, place, f.fits, weight_taking node.cells at news, light, (pointers_bounds first node.kind).1)) taken

    pub cuts_rows : is_leaf node.kind && is_table node.kind ≡ true → CutsRows crowd all at limit
    cuts_rows rows =
        let f = node_fits {first = first} {page = bytes} shown in
        let leaf : crowd.run.kind ≡ TableLeaf = kind ∙ leaf_kind node.kind rows in
        let front : pointers_at first node.kind ≡ 8 = ap (λ (f : Bool). pointers_at f node.kind) (rows_few rows).0 ∙ ap (pointers_at false) (leaf_kind node.kind rows) in
        let end : pointers_at false crowd.run.kind ≡ 8 = ap (pointers_at false) leaf in
        rows_can crowd node.cells news at limit is leaf (page ∙ (rows_few rows).0) r.place (length-map texts (cell_in node.kind u) ∙ (rows_few rows).1)
        (omega (arith, crowded, usable, front)) (omega (arith, f.fits, usable, front)) (omega (arith, news_heavy rows, usable))
        (elim taken [
          | inl full ↦ inl (omega (arith, full, end))
          | inr half ↦ inr half
        ])

    pub first_rows : is_leaf node.kind && is_table node.kind ≡ true → first ≡ false
    first_rows rows = (rows_few rows).0

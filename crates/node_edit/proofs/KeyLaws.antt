-- A page number with a key behind it is a cell.
use Rattle.std.proofs.Common.{◌≡◌, ℕ, ◌-◌, ◌≤◌, max, Bool, true, false, if◌then◌else◌, List, length, inl, sym, ap, arith}
use Rattle.node_spec.specs.declared.kinds.Kind.{Kind}
use Rattle.node_spec.specs.declared.kinds.Kind.TheVariants.{IndexInner, TableInner, IndexLeaf, TableLeaf}
use Rattle.node_spec.specs.Kinds.{is_leaf}
use Rattle.node_spec.specs.Cells.{body_size, cell_in}
use Rattle.node_edit.specs.Keys.{kind_above, IsKey, LeadsTo, IsCellAbove, ComesDown}

pub key_leads : {page : ℕ} {key text : List ℕ} → LeadsTo page key text → (kind : Kind) (usable : ℕ) → is_leaf kind ≡ false → IsKey kind usable key → IsCellAbove kind usable page text
unfolding cell_in
key_leads l IndexInner usable inner is = record {
  one = inl (omega (arith, ap (λ xs. body_size IndexInner usable xs) l.key_is, is, l.long));
  left = l.page_is;
}
key_leads l TableInner usable inner is = record {
  one = inl (omega (arith, ap (λ xs. body_size TableInner usable xs) l.key_is, is, l.long));
  left = l.page_is;
}
key_leads l IndexLeaf usable inner is = absurd (cc)
key_leads l TableLeaf usable inner is = absurd (cc)

pub leads_as : {page : ℕ} {key other text made : List ℕ} → LeadsTo page key text → key ≡ other → made ≡ text → LeadsTo page other made
leads_as l same is = record {
  long = rw (is, sym same) l.long;
  page_is = rw is l.page_is;
  key_is = rw (is, sym same) l.key_is;
}

-- a cell that came down takes no more bytes than it took above
pub down_small : {right : ℕ} {text : List ℕ} (kind : Kind) (usable : ℕ) (cell : List ℕ) → ComesDown kind usable (cell_in (kind_above kind) usable cell) right text
    → (cell_in kind usable text).size ≤ (cell_in (kind_above kind) usable cell).size
unfolding cell_in
down_small kind usable cell down = omega (arith, down.size_is, by (is_leaf kind) (max 4 (length cell)) (omega arith))
  where
    by : (leaf : Bool) (size : ℕ) → 4 ≤ size → (if leaf then max 4 (size - 4) else size) ≤ size
    by true size least = omega (arith, least)
    by false size least = omega arith

-- What a leaf has at a rowid's place.
use Rattle.std.proofs.Common.{◌≡◌, ℕ, ℤ, zero, suc, ◌<◌, ◌<ℤ◌, true, List, [], ◌∷◌, length, refl, sym, subst, ◌∙◌, arith}
use Rattle.std.specs.Prelude.{slice_index_or}
use Rattle.node_spec.specs.Cells.{NodeCell}
use Rattle.node_spec.specs.Nodes.{no_cell}
use Rattle.tree_spec.specs.Layout.{Each, Item}
use Rattle.tree_spec.specs.Shown.{Shown}
use Rattle.tree_spec.specs.Trees.{IsItem, AreItems}
use Rattle.tree_read.specs.Ways.{StandsAt, IsAround}
use Rattle.tree_read.proofs.Around.{both_below, stands_behind, around_behind, weaker}

-- a cell has a greater rowid than what is smaller than all that is listed
item_above : (usable last : ℕ) (shown : Shown) (low : ℤ) (cells : List NodeCell) (items : List Item) (j : ℕ) → AreItems true usable last shown cells items
    → Each (λ (item : Item). low <ℤ item.key) items → j < length cells → low <ℤ (slice_index_or cells j no_cell).rowid
item_above usable last shown low [] items j are all inside = absurd (omega (arith, inside))
item_above usable last shown low (cell ∷ cells) [] j never all inside = absurd never
item_above usable last shown low (cell ∷ cells) (item ∷ items) zero are all inside = subst (λ (z : ℤ). low <ℤ z) are.0.key all.0
item_above usable last shown low (cell ∷ cells) (item ∷ items) (suc j) are all inside =
    item_above usable last shown low cells items j are.2 all.1 (omega (arith, inside))

-- the first item is before a place behind it
pub first_below : (usable last : ℕ) (shown : Shown) (rowid : ℤ) (cell : NodeCell) (cells : List NodeCell) (item : Item) (items : List Item) (k : ℕ)
    → AreItems true usable last shown (cell ∷ cells) (item ∷ items) → StandsAt (cell ∷ cells) rowid (suc k) → item.key <ℤ rowid
first_below usable last shown rowid cell cells item items zero are stands =
    subst (λ (z : ℤ). z <ℤ rowid) (sym are.0.key) (stands.above zero refl)
first_below usable last shown rowid cell cells item items (suc j) are stands =
    both_below item.key (slice_index_or cells j no_cell).rowid rowid
    (item_above usable last shown item.key cells items j are.2 are.1 (omega (arith, stands.most))) (stands.above (suc j) refl)

-- the item of a cell, with smaller keys before it and greater ones behind
pub record AtLeaf (usable last : ℕ) (shown : Shown) (rowid : ℤ) (cell : NodeCell) (items : List Item) : Type 0 where
  pub item : Item
  pub is_item : IsItem usable last shown cell item
  pub around : IsAround rowid items (item ∷ [])

pub leaf_has : (usable last : ℕ) (shown : Shown) (rowid : ℤ) (cells : List NodeCell) (items : List Item) (place : ℕ) → AreItems true usable last shown cells items
    → StandsAt cells rowid place → place < length cells → (slice_index_or cells place no_cell).rowid ≡ rowid
    → AtLeaf usable last shown rowid (slice_index_or cells place no_cell) items
leaf_has usable last shown rowid [] items place are stands inside same = absurd (omega (arith, inside))
leaf_has usable last shown rowid (cell ∷ cells) [] place never stands inside same = absurd never
leaf_has usable last shown rowid (cell ∷ cells) (item ∷ items) zero are stands inside same = record {
  item = item;
  is_item = are.0;
  around = record {
    front = [];
    back = items;
    items_are = refl;
    less = tt;
    more = subst (λ (z : ℤ). Each (λ (other : Item). z <ℤ other.key) items) (are.0.key ∙ same) are.1;
  };
}
leaf_has usable last shown rowid (cell ∷ cells) (item ∷ items) (suc k) are stands inside same =
    let found = leaf_has usable last shown rowid cells items k are.2 (stands_behind cell cells rowid k stands) (omega (arith, inside)) same in
    record {
      item = found.item;
      is_item = found.is_item;
      around = around_behind rowid (item ∷ []) items (found.item ∷ []) (first_below usable last shown rowid cell cells item items k are stands, tt) found.around;
    }

pub leaf_lacks : (usable last : ℕ) (shown : Shown) (rowid : ℤ) (cells : List NodeCell) (items : List Item) (place : ℕ) → AreItems true usable last shown cells items
    → StandsAt cells rowid place → (place < length cells → rowid <ℤ (slice_index_or cells place no_cell).rowid) → IsAround rowid items []
leaf_lacks usable last shown rowid [] [] place are stands less = record { front = []; back = []; items_are = refl; less = tt; more = tt }
leaf_lacks usable last shown rowid [] (item ∷ items) place never stands less = absurd never
leaf_lacks usable last shown rowid (cell ∷ cells) [] place never stands less = absurd never
leaf_lacks usable last shown rowid (cell ∷ cells) (item ∷ items) zero are stands less =
    let here : rowid <ℤ item.key = subst (λ (z : ℤ). rowid <ℤ z) (sym are.0.key) (less (omega arith)) in
    record {
      front = [];
      back = item ∷ items;
      items_are = refl;
      less = tt;
      more = (
        here,
        weaker (λ (other : Item). item.key <ℤ other.key) (λ (other : Item). rowid <ℤ other.key) items
            (λ other above. both_below rowid item.key other.key here above) are.1,
      );
    }
leaf_lacks usable last shown rowid (cell ∷ cells) (item ∷ items) (suc k) are stands less =
    around_behind rowid (item ∷ []) items [] (first_below usable last shown rowid cell cells item items k are stands, tt)
    (leaf_lacks usable last shown rowid cells items k are.2 (stands_behind cell cells rowid k stands) (λ inside. less (omega (arith, inside))))

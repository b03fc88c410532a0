-- What comes down from the page above: the key of a cell, alone or behind another left child.
use Rattle.std.proofs.Common.{◌≡◌, ℕ, ◌+◌, ◌-◌, ◌<◌, ◌&&◌, true, false, List, length, take, drop, refl, sym, ap, subst, ◌∙◌, inl, arith, length-drop}
use Rattle.std.proofs.lemmas.List.{take_all}
use Rattle.page_spec.specs.Bytes.{u32_at}
use Rattle.page_spec.specs.Varint.{varint_size, varint_number}
use Rattle.node_spec.specs.declared.kinds.Kind.{Kind}
use Rattle.node_spec.specs.declared.kinds.Kind.TheVariants.{IndexInner, TableInner, IndexLeaf, TableLeaf}
use Rattle.node_spec.specs.Kinds.{is_leaf, is_table}
use Rattle.node_spec.specs.Cells.{IsOneCell, spills, local_size, keys_size, payload_in, rowid_in, body_size, payload_at, cell_in}
use Rattle.node_edit.specs.Keys.{kind_above, LeadsTo, ComesDown}
use Rattle.node_edit.specs.Dividing.{body_in}
use Rattle.node_edit.proofs.KeyLaws.{key_leads, leads_as}
use Rattle.node_edit.proofs.UpKeys.{one_long, inner_long, up_says, range_behind, number_behind, overflow_same}

-- a cell of an interior page has its left child
pub above_long : (kind : Kind) (usable : ℕ) (cell : List ℕ) → IsOneCell (kind_above kind) usable cell → 4 < length cell
above_long IndexInner usable cell one = inner_long IndexInner usable cell refl one
above_long TableInner usable cell one = inner_long TableInner usable cell refl one
above_long IndexLeaf usable cell one = inner_long IndexInner usable cell refl one
above_long TableLeaf usable cell one = inner_long TableInner usable cell refl one

-- the key alone is a cell of an index's leaf
leaf_down : (usable right : ℕ) (cell : List ℕ) → IsOneCell IndexInner usable cell → ComesDown IndexLeaf usable (cell_in IndexInner usable cell) right (drop 4 cell)
unfolding cell_in payload_at body_size keys_size payload_in rowid_in
leaf_down usable right cell one =
    let key = drop 4 cell in
    let k = varint_size key in
    let p = varint_number key in
    let l = local_size false usable p in
    let long = inner_long IndexInner usable cell refl one in
    let whole = one_long IndexInner usable cell one long in
    record {
      one = inl (omega (arith, whole, length-drop 4 cell));
      says = record {
        rowid = refl;
        payload = refl;
        local = range_behind key 0 k l ∙ sym (range_behind cell 4 k l);
        overflow = overflow_same (spills false usable p) (u32_at key (0 + k + l)) (u32_at cell (4 + k + l))
            (λ large. ap (u32_at key) (omega arith) ∙ sym (number_behind cell 4 (k + l)) ∙ ap (u32_at cell) (omega arith));
      };
      leads = refl;
      size_is = omega (arith, long, length-drop 4 cell);
    }

-- the key behind another left child is a cell of an interior page
inner_index : (usable right : ℕ) (cell text : List ℕ) → LeadsTo right (drop 4 cell) text → IsOneCell IndexInner usable cell → ComesDown IndexInner usable (cell_in IndexInner usable cell) right text
unfolding cell_in
inner_index usable right cell text leads one =
    let long = inner_long IndexInner usable cell refl one in
    let whole = one_long IndexInner usable cell one long in
    let up = up_says IndexInner usable cell refl one in
    let same : body_in IndexInner usable cell ≡ drop 4 cell = take_all (body_size IndexInner usable (drop 4 cell)) (drop 4 cell) (omega (arith, whole, length-drop 4 cell)) in
    let made = key_leads leads IndexInner usable refl (omega (arith, whole, length-drop 4 cell)) in
    record {
      one = made.one;
      says = up.says right text (leads_as leads (sym same) refl);
      leads = made.left;
      size_is = omega (arith, leads.long, length-drop 4 cell, long);
    }

inner_table : (usable right : ℕ) (cell text : List ℕ) → LeadsTo right (drop 4 cell) text → IsOneCell TableInner usable cell → ComesDown TableInner usable (cell_in TableInner usable cell) right text
unfolding cell_in
inner_table usable right cell text leads one =
    let long = inner_long TableInner usable cell refl one in
    let whole = one_long TableInner usable cell one long in
    let up = up_says TableInner usable cell refl one in
    let same : body_in TableInner usable cell ≡ drop 4 cell = take_all (body_size TableInner usable (drop 4 cell)) (drop 4 cell) (omega (arith, whole, length-drop 4 cell)) in
    let made = key_leads leads TableInner usable refl (omega (arith, whole, length-drop 4 cell)) in
    record {
      one = made.one;
      says = up.says right text (leads_as leads (sym same) refl);
      leads = made.left;
      size_is = omega (arith, leads.long, length-drop 4 cell, long);
    }

pub down_leaf : (kind : Kind) (usable right : ℕ) (cell text : List ℕ) → is_leaf kind ≡ true → is_leaf kind && is_table kind ≡ false → text ≡ drop 4 cell
    → IsOneCell (kind_above kind) usable cell → ComesDown kind usable (cell_in (kind_above kind) usable cell) right text
down_leaf IndexInner usable right cell text leaf other is one = absurd (cc)
down_leaf TableInner usable right cell text leaf other is one = absurd (cc)
down_leaf IndexLeaf usable right cell text leaf other is one = subst (λ (l : List ℕ). ComesDown IndexLeaf usable (cell_in IndexInner usable cell) right l) (sym is) (leaf_down usable right cell one)
down_leaf TableLeaf usable right cell text leaf other is one = absurd (cc)

pub down_inner : (kind : Kind) (usable right : ℕ) (cell text : List ℕ) → is_leaf kind ≡ false → LeadsTo right (drop 4 cell) text
    → IsOneCell (kind_above kind) usable cell → ComesDown kind usable (cell_in (kind_above kind) usable cell) right text
down_inner IndexInner usable right cell text inner leads one = inner_index usable right cell text leads one
down_inner TableInner usable right cell text inner leads one = inner_table usable right cell text leads one
down_inner IndexLeaf usable right cell text inner leads one = absurd (cc)
down_inner TableLeaf usable right cell text inner leads one = absurd (cc)

-- what stands behind the left child
pub behind : (shown cell : List ℕ) → shown ≡ cell → take (length shown - 4) (drop 4 shown) ≡ drop 4 cell
behind shown cell same = take_all (length shown - 4) (drop 4 shown) (omega (arith, length-drop 4 shown)) ∙ ap (drop 4) same

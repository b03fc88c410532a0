-- What a page of a tree without a fault says besides its cells: its kind, its depth, and that it has a cell.
use Rattle.std.proofs.Common.{◌≡◌, ℕ, ◌≤◌, ◌==◌, ◌&&◌, ◌||◌, nat_le, Bool, true, false, List, length, Option, None, Some, refl, sym, subst, inl, inr}
use Rattle.std.specs.Prelude.{◌⊎◌}
use Rattle.std.proofs.lemmas.Bool.{leb-true, eqb-true}
use Rattle.node_spec.specs.declared.kinds.Kind.{Kind}
use Rattle.node_spec.specs.Kinds.{is_leaf, is_table, header_at}
use Rattle.node_spec.specs.Nodes.{Node, node_of}
use Rattle.node_spec.specs.Faults.{unless, page_fault}
use Rattle.node_spec.proofs.FaultLaws.{unless_none, or_none}
use Rattle.tree_spec.specs.Layout.{Each}
use Rattle.sound_spec.specs.Sound.{most_levels}
use Rattle.check_spec.specs.Forms.{is_asked, fits_leaves, may_stand, numbers_fault, fault_in_node, node_fault}
use Rattle.check_spec.proofs.CellsFit.{IsNumberOf, CellFits, node_fits}
use Rattle.check_spec.proofs.Told.{IsKind, FitsDepth, HasEnough}

both_true : (a b : Bool) → (a && b) ≡ true → (a ≡ true) × (b ≡ true)
both_true true b is = (refl, is)
both_true false b is = cc

one_true : (a b : Bool) → (a || b) ≡ true → (a ≡ true) ⊎ (b ≡ true)
one_true true b is = inl refl
one_true false b is = inr is

asked_kind : (table : Option Bool) (kind : Kind) → is_asked table kind ≡ true → IsKind table (is_table kind)
asked_kind None kind is = tt
asked_kind (Some true) kind is = is
asked_kind (Some false) kind is = by_kind (is_table kind) refl
  where
    by_kind : (table : Bool) → is_table kind ≡ table → is_table kind ≡ false
    by_kind false same = same
    by_kind true same = let there = rw same at is in cc

-- a leaf stands as deep as the first one, if one was met
leaf_fits : (leaves : Option ℕ) (level : ℕ) → fits_leaves leaves level true ≡ true → FitsDepth leaves level
leaf_fits None level is = tt
leaf_fits (Some first) level is = sym (eqb-true level first is)

-- A page may stand where it does.
pub record NodeFits (usable last : ℕ) (table : Option Bool) (leaves : Option ℕ) (level page : ℕ) (node : Node) : Type 0 where
  pub asked : IsKind table (is_table node.kind)
  pub low : level ≤ most_levels
  pub deep : is_leaf node.kind ≡ true → FitsDepth leaves level
  pub enough : HasEnough level page node
  pub cells : Each (CellFits last (is_leaf node.kind)) node.cells
  pub right : is_leaf node.kind ≡ false → IsNumberOf last node.right

enough_is : (level page : ℕ) (node : Node) → ((page == 1) || (((level == 0) && is_leaf node.kind) || nat_le 1 (length node.cells))) ≡ true → HasEnough level page node
enough_is level page node is =
    elim (one_true (page == 1) (((level == 0) && is_leaf node.kind) || nat_le 1 (length node.cells)) is) [
      | inl first ↦ inl (eqb-true page 1 first)
      | inr other ↦
          inr (elim (one_true ((level == 0) && is_leaf node.kind) (nat_le 1 (length node.cells)) other) [
            | inl root ↦ let parts = both_true (level == 0) (is_leaf node.kind) root in inl (eqb-true level 0 parts.0, parts.1)
            | inr some ↦ inr (leb-true 1 (length node.cells) some)
          ])
    ]

pub node_parts : (usable last : ℕ) (table : Option Bool) (leaves : Option ℕ) (level page : ℕ) (bytes : List ℕ) (node : Node)
    → node_fault usable last table leaves level page bytes ≡ None → node_of usable (page == 1) bytes ≡ Some node → NodeFits usable last table leaves level page node
unfolding node_fault may_stand
node_parts usable last table leaves level page bytes node none shows =
    let whole = or_none (page_fault usable (page == 1) bytes) (fault_in_node last table leaves level page bytes (node_of usable (page == 1) bytes)) none in
    let there : fault_in_node last table leaves level page bytes (Some node) ≡ None =
    subst (λ (n : Option Node). fault_in_node last table leaves level page bytes n ≡ None) shows whole.1 in
    let parts = or_none (numbers_fault last (page == 1) bytes node) (unless (may_stand table leaves level page node) (header_at (page == 1))) there in
    let stands = unless_none (may_stand table leaves level page node) (header_at (page == 1)) parts.1 in
    let some : Bool = (page == 1) || (((level == 0) && is_leaf node.kind) || nat_le 1 (length node.cells)) in
    let one = both_true (is_asked table node.kind) (nat_le level most_levels && (fits_leaves leaves level (is_leaf node.kind) && some)) stands in
    let two = both_true (nat_le level most_levels) (fits_leaves leaves level (is_leaf node.kind) && some) one.1 in
    let three = both_true (fits_leaves leaves level (is_leaf node.kind)) some two.1 in
    let fits = node_fits usable last (page == 1) bytes node shows parts.0 in
    record {
      asked = asked_kind table node.kind one.0;
      low = leb-true level most_levels two.0;
      deep = λ leaf. leaf_fits leaves level (subst (λ (b : Bool). fits_leaves leaves level b ≡ true) leaf three.0);
      enough = enough_is level page node three.1;
      cells = fits.0;
      right = fits.1;
    }

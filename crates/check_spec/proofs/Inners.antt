-- What an interior page in order says with what it leads to, and so each page of a tree.
use Rattle.std.proofs.Common.{◌≡◌, ℕ, suc, ◌==◌, Bool, true, false, List, [], ◌∷◌, ◌++◌, Option, None, Some, refl, sym, subst, ap, ◌∙◌, arith}
use Rattle.std.proofs.lemmas.List.{append-nil}
use Rattle.node_spec.specs.Kinds.{is_leaf, is_table}
use Rattle.node_spec.specs.Nodes.{Node, node_of}
use Rattle.tree_spec.specs.Layout.{Each}
use Rattle.check_spec.specs.declared.spot.Spot.{Spot}
use Rattle.check_spec.specs.Forms.{node_fault}
use Rattle.check_spec.specs.Walk.{Database, Past, leaves_at, leaves_then, rowid_places, inner_places, node_places}
use Rattle.check_spec.proofs.CellsFit.{CellFits}
use Rattle.check_spec.proofs.Told.{FitsDepth, NameIn, HasSubtree, SayAll, say_split}
use Rattle.check_spec.proofs.Ordered.{rowids_say}
use Rattle.check_spec.proofs.NodeParts.{NodeFits, node_parts}
use Rattle.check_spec.proofs.Leaves.{met_behind, leaf_says}
use Rattle.check_spec.proofs.Children.{children_say}

inner_says : (db : Database) (spot : Spot) (page : ℕ) (node : Node) (past now after : Past) (named : List ℕ) → is_leaf node.kind ≡ false
    → node_of db.usable (page == 1) (db.view page) ≡ Some node
    → NodeFits db.usable db.last spot.table (leaves_at spot.level past) spot.level page node
    → now.met ≡ past.met ++ page ∷ [] → now.leaves ≡ leaves_at spot.level past
    → SayAll db (rowid_places (is_table node.kind) spot page node.cells ++ inner_places spot (is_table node.kind) spot.before node.cells node.right) now after named
    → HasSubtree db spot page past after named
inner_says db spot page node past now after named inner shows fits met leaves said =
    let table = is_table node.kind in
    let both = say_split db (rowid_places table spot page node.cells) (inner_places spot table spot.before node.cells node.right) now after named said in
    let rowids = rowids_say db table spot page node.cells now both.mid both.first both.front in
    let cells : Each (CellFits db.last false) node.cells = subst (λ (leaf : Bool). Each (CellFits db.last leaf) node.cells) inner fits.cells in
    let children = children_say db spot table spot.before node.cells node.right both.mid after both.behind rowids.0 cells (fits.right inner) both.back in
    let behind : named ≡ both.behind = both.named_is ∙ ap (λ (l : List ℕ). l ++ both.behind) rowids.2 in
    let mid_met : both.mid.met ≡ past.met ++ page ∷ [] = rowids.1.met_is ∙ append-nil now.met ∙ met in
    record {
      table = table;
      asked = fits.asked;
      height = suc children.height;
      node = node;
      below = children.own;
      items = children.items;
      shows = shows;
      enough = fits.enough;
      content = record { inner = inner; table_is = refl; under = children.under };
      met_is = met_behind past both.mid after page children.own mid_met children.met_is;
      depth = children.depth;
      depth_is = omega (arith, children.depth_is);
      low = children.low;
      leaves_are = children.leaves_are;
      deep = subst (λ (l : Option ℕ). FitsDepth l children.depth) (rowids.1.leaves_are ∙ leaves) children.deep;
      within = children.within;
      names = subst (λ (l : List ℕ). NameIn spot.schema table db.last children.items l) (sym behind) children.names;
    }

-- A page of a tree in order, with all that it leads to.
pub node_says : (db : Database) (spot : Spot) (page : ℕ) (node : Node) (past after : Past) (named : List ℕ)
    → node_fault db.usable db.last spot.table (leaves_at spot.level past) spot.level page (db.view page) ≡ None
    → node_of db.usable (page == 1) (db.view page) ≡ Some node
    → SayAll db (node_places (is_leaf node.kind) spot page node)
    (record { met = past.met ++ page ∷ []; leaves = leaves_then (is_leaf node.kind) spot.level past }) after named
    → HasSubtree db spot page past after named
node_says db spot page node past after named none shows said =
    by_leaf (is_leaf node.kind) refl said
  where
    fits : NodeFits db.usable db.last spot.table (leaves_at spot.level past) spot.level page node
    fits = node_parts db.usable db.last spot.table (leaves_at spot.level past) spot.level page (db.view page) node none shows

    by_leaf : (leaf : Bool) → is_leaf node.kind ≡ leaf
        → SayAll db (node_places leaf spot page node) (record { met = past.met ++ page ∷ []; leaves = leaves_then leaf spot.level past }) after named
        → HasSubtree db spot page past after named
    by_leaf true is said =
        leaf_says db spot page node past (record { met = past.met ++ page ∷ []; leaves = Some spot.level }) after named is shows fits refl refl said
    by_leaf false is said =
        inner_says db spot page node past (record { met = past.met ++ page ∷ []; leaves = leaves_at spot.level past }) after named is shows fits refl refl said

-- What a leaf in order says with what it leads to.
use Rattle.std.proofs.Common.{◌≡◌, ℕ, ◌==◌, Bool, true, false, List, [], ◌∷◌, ◌++◌, Some, refl, sym, subst, ap, ◌∙◌, append_assoc, arith}
use Rattle.std.proofs.lemmas.List.{append-nil}
use Rattle.node_spec.specs.Kinds.{is_leaf, is_table}
use Rattle.node_spec.specs.Nodes.{Node, node_of}
use Rattle.tree_spec.specs.Layout.{Item, chains}
use Rattle.check_spec.specs.declared.spot.Spot.{Spot}
use Rattle.check_spec.specs.Walk.{Database, Past, leaves_at, leaf_places, rowid_places}
use Rattle.check_spec.proofs.Told.{shown_of, adds_end, NameIn, HasSubtree, SayAll, say_split}
use Rattle.check_spec.proofs.Payloads.{ItemsName, payloads_say}
use Rattle.check_spec.proofs.Ordered.{held_items, rowids_say}
use Rattle.check_spec.proofs.NodeParts.{NodeFits}

-- pages behind a page that was met
pub met_behind : (before mid after : Past) (page : ℕ) (pages : List ℕ) → mid.met ≡ before.met ++ page ∷ [] → after.met ≡ mid.met ++ pages
    → after.met ≡ before.met ++ page ∷ pages
met_behind before mid after page pages one two = two ∙ ap (λ (l : List ℕ). l ++ pages) one ∙ append_assoc before.met (page ∷ []) pages

names_in : (schema table : Bool) (last : ℕ) (items : List Item) (named : List ℕ) → ItemsName schema last items named → NameIn schema table last items named
names_in false table last items named names = names
names_in true true last items named names = names
names_in true false last items named names = tt

names_same : (schema : Bool) (last : ℕ) (items : List Item) (named first behind : List ℕ) → named ≡ first ++ behind → behind ≡ [] → ItemsName schema last items first
    → ItemsName schema last items named
names_same schema last items named first behind is none names =
    let same : named ≡ first = is ∙ ap (λ (l : List ℕ). first ++ l) none ∙ append-nil first in
    subst (λ (l : List ℕ). ItemsName schema last items l) (sym same) names

pub leaf_says : (db : Database) (spot : Spot) (page : ℕ) (node : Node) (past now after : Past) (named : List ℕ) → is_leaf node.kind ≡ true
    → node_of db.usable (page == 1) (db.view page) ≡ Some node
    → NodeFits db.usable db.last spot.table (leaves_at spot.level past) spot.level page node
    → now.met ≡ past.met ++ page ∷ [] → now.leaves ≡ Some spot.level
    → SayAll db (leaf_places spot.schema node.cells ++ rowid_places (is_table node.kind) spot page node.cells) now after named
    → HasSubtree db spot page past after named
leaf_says db spot page node past now after named leaf shows fits met leaves said =
    let table = is_table node.kind in
    let both = say_split db (leaf_places spot.schema node.cells) (rowid_places table spot page node.cells) now after named said in
    let payloads = payloads_say db spot.schema (is_leaf node.kind) node.cells now both.mid both.first fits.cells both.front in
    let rowids = rowids_say db table spot page node.cells both.mid after both.behind both.back in
    let items = held_items table db.usable db.last (shown_of db) spot.before spot.bound node.cells payloads.items payloads.are rowids.0 in
    let adds = adds_end now both.mid after (chains payloads.items) payloads.adds rowids.1 in
    record {
      table = table;
      asked = fits.asked;
      height = 0;
      node = node;
      below = chains payloads.items;
      items = payloads.items;
      shows = shows;
      enough = fits.enough;
      content = record { leaf = leaf; table_is = refl; items_are = items.0; below_is = refl };
      met_is = met_behind past now after page (chains payloads.items) met adds.met_is;
      depth = spot.level;
      depth_is = omega arith;
      low = fits.low;
      leaves_are = adds.leaves_are ∙ leaves;
      deep = fits.deep leaf;
      within = items.1;
      names = names_in spot.schema table db.last payloads.items named
          (names_same spot.schema db.last payloads.items named both.first both.behind both.named_is rowids.2 payloads.names);
    }

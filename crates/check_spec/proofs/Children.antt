-- What the children of an interior page say, one after another: all of one height, with the keys between those of the cells.
use Rattle.std.proofs.Common.{◌≡◌, ℕ, zero, suc, ◌+◌, ◌≤◌, Bool, true, false, List, [], ◌∷◌, ◌++◌, length, Option, Some, refl, sym, subst, ap, ap₂, ◌∙◌, append_assoc, inl, inr, arith}
use Rattle.std.specs.Prelude.{ℤ, ◌<ℤ◌, ◌≤ℤ◌, ◌⊎◌}
use Rattle.std.proofs.lemmas.List.{append-nil}
use Rattle.std.proofs.Math.Numerals.{add-one}
use Rattle.node_spec.specs.Cells.{NodeCell}
use Rattle.node_spec.specs.Nodes.{Node}
use Rattle.tree_spec.specs.Layout.{Each, Item, chains}
use Rattle.tree_spec.specs.Trees.{AreUnder, IsChild, Content}
use Rattle.tree_spec.proofs.Lists.{each-append}
use Rattle.sound_spec.specs.Schema.{with_root, NameRoots}
use Rattle.sound_spec.specs.Sound.{most_levels}
use Rattle.check_spec.specs.declared.spot.Spot.{Spot}
use Rattle.check_spec.specs.Forms.{IsAbove, IsAtMost, AreInOrder}
use Rattle.check_spec.specs.Walk.{Database, Place, Past, leaves_at, child_spot, payload_places, inner_places}
use Rattle.check_spec.proofs.CellsFit.{IsNumberOf, CellFits}
use Rattle.check_spec.proofs.Told.{shown_of, none_both, OfTable, FitsDepth, HasEnough, KeyFits, NameIn, SayAll, say_split}
use Rattle.check_spec.proofs.Payloads.{HasPayload, payload_says}
use Rattle.check_spec.proofs.Ordered.{each_as, above_above, most_under}

-- Under these cells and a right child: subtrees of one height, which were met.
pub record HasChildren (db : Database) (spot : Spot) (table : Bool) (low_key high_key : Option ℤ) (cells : List NodeCell) (right : ℕ) (before after : Past) (named : List ℕ) : Type 0 where
  pub height : ℕ
  pub own : List ℕ
  pub items : List Item
  pub under : AreUnder table db.usable db.last (shown_of db) (IsChild db.last (shown_of db) (Content table db.usable db.last (shown_of db) height)) cells right own items
  pub met_is : after.met ≡ before.met ++ own
  pub depth : ℕ
  pub depth_is : depth ≡ suc (spot.level + height)
  pub low : depth ≤ most_levels
  pub leaves_are : after.leaves ≡ Some depth
  pub deep : FitsDepth before.leaves depth
  pub within : OfTable table (Each (KeyFits low_key high_key) items)
  pub names : NameIn spot.schema table db.last items named

-- below a root the first leaf that was met counts
leaves_next : (level : ℕ) (past : Past) → leaves_at (level + 1) past ≡ past.leaves
leaves_next level past = rw (add-one level) refl

child_enough : (level page : ℕ) (node : Node) → HasEnough (level + 1) page node → (page ≡ 1) ⊎ (1 ≤ length node.cells)
child_enough level page node (inl first) = inl first
child_enough level page node (inr (inl root)) = absurd (omega (arith, root.0))
child_enough level page node (inr (inr some)) = inr some

-- one child
child_says : (db : Database) (spot : Spot) (table : Bool) (low_key high_key : Option ℤ) (page : ℕ) (before after : Past) (named : List ℕ) → IsNumberOf db.last page
    → SayAll db (Place.AtNode (child_spot spot table low_key high_key) page ∷ []) before after named
    → HasChildren db spot table low_key high_key [] page before after named
child_says db spot table low_key high_key page before after named range (mid, first, behind, tree, more, is) =
    let same : named ≡ first = is ∙ ap (λ (l : List ℕ). first ++ l) more.1 ∙ append-nil first in
    record {
      height = tree.height;
      own = page ∷ tree.below;
      items = tree.items;
      under = record {
        least = range.0;
        most = range.1;
        holds = record {
          node = tree.node;
          holds = tree.shows;
          enough = child_enough spot.level page tree.node tree.enough;
          below = tree.below;
          content = subst (λ (t : Bool). Content t db.usable db.last (shown_of db) tree.height tree.node tree.below tree.items) tree.asked tree.content;
          own_is = refl;
        };
      };
      met_is = more.0.met_is ∙ append-nil mid.met ∙ tree.met_is;
      depth = tree.depth;
      depth_is = omega (arith, tree.depth_is);
      low = tree.low;
      leaves_are = more.0.leaves_are ∙ tree.leaves_are;
      deep = subst (λ (l : Option ℕ). FitsDepth l tree.depth) (leaves_next spot.level before) tree.deep;
      within = subst (λ (t : Bool). OfTable t (Each (KeyFits low_key high_key) tree.items)) tree.asked tree.within;
      names = subst (λ (l : List ℕ). NameIn spot.schema table db.last tree.items l) (sym same)
          (subst (λ (t : Bool). NameIn spot.schema t db.last tree.items first) tree.asked tree.names);
    }

-- children behind one another are of one height
one_height : (db : Database) (spot : Spot) (table other : Bool) (low high third fourth : Option ℤ) (cells others : List NodeCell) (right last : ℕ) (before mid next after : Past) (named behind : List ℕ)
    → (one : HasChildren db spot table low high cells right before mid named) → (two : HasChildren db spot other third fourth others last next after behind)
    → next.leaves ≡ mid.leaves → (one.height ≡ two.height) × (one.depth ≡ two.depth)
one_height db spot table other low high third fourth cells others right last before mid next after named behind one two same =
    let deep : one.depth ≡ two.depth = subst (λ (l : Option ℕ). FitsDepth l two.depth) (same ∙ one.leaves_are) two.deep in
    (omega (arith, deep, one.depth_is, two.depth_is), deep)

name_both : (last : ℕ) (items more : List Item) (first behind : List ℕ) → NameRoots last items first → NameRoots last more behind → NameRoots last (items ++ more) (first ++ behind)
name_both last [] more first behind none rest = subst (λ (l : List ℕ). NameRoots last more (l ++ behind)) (sym none) rest
name_both last (item ∷ items) more first behind (root, others, names, is, later) rest =
    (root, others ++ behind, names, ap (λ (l : List ℕ). l ++ behind) is ∙ root_moves root others behind, name_both last items more others behind later rest)
  where
    root_moves : (root : ℕ) (others behind : List ℕ) → with_root root others ++ behind ≡ with_root root (others ++ behind)
    root_moves zero others behind = refl
    root_moves (suc n) others behind = refl

names_join : (schema : Bool) (last : ℕ) (items more : List Item) (named first behind : List ℕ) → named ≡ first ++ behind
    → NameIn schema true last items first → NameIn schema true last more behind → NameIn schema true last (items ++ more) named
names_join false last items more named first behind is one two = none_both named first behind is one two
names_join true last items more named first behind is one two =
    subst (λ (l : List ℕ). NameRoots last (items ++ more) l) (sym is) (name_both last items more first behind one two)

-- a cell of a table's page, with the child before it and those behind it
table_join : (db : Database) (spot : Spot) (low_key high_key : Option ℤ) (cell : NodeCell) (cells : List NodeCell) (right : ℕ) (before mid after : Past) (named first behind : List ℕ)
    → IsAbove low_key cell.rowid → IsAtMost high_key cell.rowid → named ≡ first ++ behind
    → HasChildren db spot true low_key (Some cell.rowid) [] cell.left before mid first → HasChildren db spot true (Some cell.rowid) high_key cells right mid after behind
    → HasChildren db spot true low_key high_key (cell ∷ cells) right before after named
table_join db spot low_key high_key cell cells right before mid after named first behind above most is one rest =
    let same = one_height db spot true true low_key (Some cell.rowid) (Some cell.rowid) high_key [] cells cell.left right before mid mid after first behind one rest refl in
    record {
      height = rest.height;
      own = one.own ++ rest.own;
      items = one.items ++ rest.items;
      under = record {
        under_own = one.own;
        rest_own = rest.own;
        under = one.items;
        middle = [];
        rest = rest.items;
        own_is = refl;
        items_are = refl;
        sub = subst (λ (h : ℕ). IsChild db.last (shown_of db) (Content true db.usable db.last (shown_of db) h) cell.left one.own one.items) same.0 one.under;
        middle_is = refl;
        divided = (
          each_as (KeyFits low_key (Some cell.rowid)) (λ (item : Item). item.key ≤ℤ cell.rowid) one.items (λ item fits. fits.1) one.within,
          each_as (KeyFits (Some cell.rowid) high_key) (λ (item : Item). cell.rowid <ℤ item.key) rest.items (λ item fits. fits.0) rest.within,
        );
        others = rest.under;
      };
      met_is = rest.met_is ∙ ap (λ (l : List ℕ). l ++ rest.own) one.met_is ∙ append_assoc before.met one.own rest.own;
      depth = rest.depth;
      depth_is = rest.depth_is;
      low = rest.low;
      leaves_are = rest.leaves_are;
      deep = subst (λ (d : ℕ). FitsDepth before.leaves d) same.1 one.deep;
      within = each-append (KeyFits low_key high_key) one.items rest.items
          (each_as (KeyFits low_key (Some cell.rowid)) (KeyFits low_key high_key) one.items
          (λ item fits. (fits.0, most_under high_key item.key cell.rowid fits.1 most)) one.within)
          (each_as (KeyFits (Some cell.rowid) high_key) (KeyFits low_key high_key) rest.items
          (λ item fits. (above_above low_key cell.rowid item.key above fits.0, fits.1)) rest.within);
      names = names_join spot.schema db.last one.items rest.items named first behind is one.names rest.names;
    }

index_names : (schema : Bool) (last : ℕ) (items one more : List Item) (named first middle behind : List ℕ) → named ≡ first ++ (middle ++ behind)
    → NameIn schema false last one first → middle ≡ [] → NameIn schema false last more behind → NameIn schema false last items named
index_names false last items one more named first middle behind is here none rest =
    none_both named first (middle ++ behind) is here (none_both (middle ++ behind) middle behind refl none rest)
index_names true last items one more named first middle behind is here none rest = tt

-- a cell of an index's page, with the child before it, its own entry, and those behind it
index_join : (db : Database) (spot : Spot) (one_low one_high low_key high_key : Option ℤ) (cell : NodeCell) (cells : List NodeCell) (right : ℕ) (before mid next after : Past)
    (named first middle behind : List ℕ) → named ≡ first ++ (middle ++ behind)
    → HasChildren db spot false one_low one_high [] cell.left before mid first → HasPayload db false cell mid next middle
    → HasChildren db spot false low_key high_key cells right next after behind → HasChildren db spot false low_key high_key (cell ∷ cells) right before after named
index_join db spot one_low one_high low_key high_key cell cells right before mid next after named first middle behind is one entry rest =
    let same = one_height db spot false false one_low one_high low_key high_key [] cells cell.left right before mid next after first behind one rest entry.adds.leaves_are in
    let list : List Item = entry.item ∷ [] in
    let met : next.met ≡ before.met ++ (one.own ++ chains list) =
    entry.adds.met_is ∙ ap₂ (λ (a : List ℕ) (b : List ℕ). a ++ b) one.met_is (sym (append-nil entry.item.chain)) ∙ append_assoc before.met one.own (chains list) in
    record {
      height = rest.height;
      own = one.own ++ (chains list ++ rest.own);
      items = one.items ++ (list ++ rest.items);
      under = record {
        under_own = one.own;
        rest_own = rest.own;
        under = one.items;
        middle = list;
        rest = rest.items;
        own_is = refl;
        items_are = refl;
        sub = subst (λ (h : ℕ). IsChild db.last (shown_of db) (Content false db.usable db.last (shown_of db) h) cell.left one.own one.items) same.0 one.under;
        middle_is = (entry.item, refl, entry.is_item);
        divided = tt;
        others = rest.under;
      };
      met_is = rest.met_is ∙ ap (λ (l : List ℕ). l ++ rest.own) met ∙ append_assoc before.met (one.own ++ chains list) rest.own
          ∙ ap (λ (l : List ℕ). before.met ++ l) (append_assoc one.own (chains list) rest.own);
      depth = rest.depth;
      depth_is = rest.depth_is;
      low = rest.low;
      leaves_are = rest.leaves_are;
      deep = subst (λ (d : ℕ). FitsDepth before.leaves d) same.1 one.deep;
      within = tt;
      names = index_names spot.schema db.last (one.items ++ (list ++ rest.items)) one.items rest.items named first middle behind is one.names entry.names rest.names;
    }

-- The children of an interior page, from a rowid on.
pub children_say : (db : Database) (spot : Spot) (table : Bool) (low_key : Option ℤ) (cells : List NodeCell) (right : ℕ) (before after : Past) (named : List ℕ)
    → OfTable table (AreInOrder low_key spot.bound cells) → Each (CellFits db.last false) cells → IsNumberOf db.last right
    → SayAll db (inner_places spot table low_key cells right) before after named → HasChildren db spot table low_key spot.bound cells right before after named
children_say db spot table low_key [] right before after named order fit range said = child_says db spot table low_key spot.bound right before after named range said
children_say db spot true low_key (cell ∷ cells) right before after named order fit range said =
    let both = say_split db (Place.AtNode (child_spot spot true low_key (Some cell.rowid)) cell.left ∷ []) (inner_places spot true (Some cell.rowid) cells right) before after named said in
    table_join db spot low_key spot.bound cell cells right before both.mid after named both.first both.behind order.0 order.1 both.named_is
    (child_says db spot true low_key (Some cell.rowid) cell.left before both.mid both.first (fit.0.child refl) both.front)
    (children_say db spot true (Some cell.rowid) cells right both.mid after both.behind order.2 fit.1 range both.back)
children_say db spot false low_key (cell ∷ cells) right before after named order fit range said =
    let both = say_split db (Place.AtNode (child_spot spot false low_key low_key) cell.left ∷ []) (payload_places false cell ++ inner_places spot false low_key cells right) before after named said in
    let rest = say_split db (payload_places false cell) (inner_places spot false low_key cells right) both.mid after both.behind both.back in
    index_join db spot low_key low_key low_key spot.bound cell cells right before both.mid rest.mid after named both.first rest.first rest.behind
    (both.named_is ∙ ap (λ (l : List ℕ). both.first ++ l) rest.named_is)
    (child_says db spot false low_key low_key cell.left before both.mid both.first (fit.0.child refl) both.front)
    (payload_says db false false cell both.mid rest.mid rest.first fit.0 rest.front)
    (children_say db spot false low_key cells right rest.mid after rest.behind tt fit.1 range rest.back)

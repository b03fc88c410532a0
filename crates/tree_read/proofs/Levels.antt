-- A way down a tree of tables or of an index, level by level.
use Rattle.std.proofs.Common.{◌≡◌, ℕ, zero, suc, ◌+◌, ◌≤◌, true, false, Bool, List, [], ◌∷◌, length, Some, inl, inr, refl, sym, subst, ap, ◌∙◌, arith}
use Rattle.std.specs.Prelude.{◌⊎◌}
use Rattle.node_spec.specs.Kinds.{is_leaf}
use Rattle.node_spec.specs.Nodes.{Node}
use Rattle.tree_spec.specs.Layout.{Item}
use Rattle.tree_spec.specs.Shown.{Shown}
use Rattle.tree_spec.specs.Trees.{AreUnder, Holds, IsChild, Content, IsTree, root_least}
use Rattle.tree_read.specs.Ways.{MayStand, ShowsNode, GoesOn, IsWay, BreaksWay}

-- A page of a tree of so many levels in all, so many of them above the page, and of what it has under it something holds.
pub record Under (table : Bool) (usable last : ℕ) (shown : Shown) (Of : List Item → Type 0) (level page total : ℕ) : Type 0 where
  pub height : ℕ
  pub sum : level + height ≡ total
  pub least : ℕ
  pub least_is : (1 ≤ least) ⊎ ((level ≡ 0) × (least ≡ root_least height))
  pub own : List ℕ
  pub some : List Item
  pub holds : Holds shown least (Content table usable last shown height) page own some
  pub of : Of some

pub at_root : (table : Bool) (usable last : ℕ) (shown : Shown) (Of : List Item → Type 0) (height root : ℕ) (own : List ℕ) (items : List Item) → Of items
    → IsTree table usable last shown height root own items → Under table usable last shown Of 0 root height
at_root table usable last shown Of height root own items of tree = record {
  height = height;
  sum = omega arith;
  least = root_least height;
  least_is = inr (refl, refl);
  own = own;
  some = items;
  holds = tree;
  of = of;
}

-- a page shows one node
pub one_node : (shown : Shown) (page : ℕ) (node other : Node) → shown.node page ≡ Some node → shown.node page ≡ Some other → node ≡ other
one_node shown page node other is is_other = cc

pub not_both : (b : Bool) → b ≡ true → b ≡ false → ⊥
not_both b yes_it no_it = cc

-- a child of an interior node, of which the same holds
pub record ChildIn (table : Bool) (usable last : ℕ) (shown : Shown) (Of : List Item → Type 0) (height child : ℕ) : Type 0 where
  pub own : List ℕ
  pub some : List Item
  pub sub : IsChild last shown (Content table usable last shown height) child own some
  pub of : Of some

-- a child in range, of which the same holds
pub record Beside (table : Bool) (usable last : ℕ) (shown : Shown) (Of : List Item → Type 0) (level child total : ℕ) : Type 0 where
  pub low : 2 ≤ child
  pub high : child ≤ last
  pub under : Under table usable last shown Of level child total

-- it holds of each child that is named where it holds of the page
abbrev pub Steps : (table : Bool) (usable last : ℕ) → Shown → (Of : List Item → Type 0) → (Names : (level page child : ℕ) → Type 0) → Type 0
Steps table usable last shown Of Names = (level page child total : ℕ) → Under table usable last shown Of level page total → Names level page child
    → Beside table usable last shown Of (suc level) child total

-- one level down, from what is under the cells of a page's node
pub one_down : (table : Bool) (usable last : ℕ) (shown : Shown) (Of : List Item → Type 0) (level page child total : ℕ) (node : Node) → shown.node page ≡ Some node
    → is_leaf node.kind ≡ false
    → ((height : ℕ) (own : List ℕ) (some : List Item) → AreUnder table usable last shown (IsChild last shown (Content table usable last shown height)) node.cells node.right own some
    → Of some → ChildIn table usable last shown Of height child)
    → Under table usable last shown Of level page total → Beside table usable last shown Of (suc level) child total
one_down table usable last shown Of level page child total node holds_node inner step under =
    by_height under.height under.sum under.own under.some under.holds under.of
  where
    by_height : (height : ℕ) → level + height ≡ total → (own : List ℕ) (some : List Item) → Holds shown under.least (Content table usable last shown height) page own some
        → Of some → Beside table usable last shown Of (suc level) child total
    by_height zero sum own some holds of =
        let same : node ≡ holds.node = one_node shown page node holds.node holds_node holds.holds in
        absurd (not_both (is_leaf node.kind) (ap (λ (n : Node). is_leaf n.kind) same ∙ holds.content.leaf) inner)
    by_height (suc height) sum own some holds of =
        let same : holds.node ≡ node = one_node shown page holds.node node holds.holds holds_node in
        let are : AreUnder table usable last shown (IsChild last shown (Content table usable last shown height)) node.cells node.right holds.below some =
        subst (λ (n : Node). AreUnder table usable last shown (IsChild last shown (Content table usable last shown height)) n.cells n.right holds.below some) same holds.content.under in
        let found = step height holds.below some are of in
        record {
          low = found.sub.least;
          high = found.sub.most;
          under = record {
            height = height;
            sum = omega (arith, sum);
            least = 1;
            least_is = inl (omega arith);
            own = found.own;
            some = found.some;
            holds = found.sub.holds;
            of = found.of;
          };
        }

-- where the way comes to
pub at_end : (table : Bool) (usable last most : ℕ) (shown : Shown) (Of : List Item → Type 0) (Names : (level page child : ℕ) → Type 0) (level page : ℕ) (way : List ℕ)
    (below total deep : ℕ) → deep ≡ level + length way → Steps table usable last shown Of Names → IsWay (GoesOn most Names) level page way below
    → Under table usable last shown Of level page total → Under table usable last shown Of deep below total
at_end table usable last most shown Of Names level page [] below total deep is steps leads under =
    subst (λ (n : ℕ). Under table usable last shown Of n below total) (omega (arith, is))
    (subst (λ (n : ℕ). Under table usable last shown Of level n total) (sym leads) under)
at_end table usable last most shown Of Names level page (p ∷ ps) below total deep is steps leads under =
    at_end table usable last most shown Of Names (suc level) leads.1.0 ps below total deep (omega (arith, is)) steps leads.1.2
    (steps level page leads.1.0 total under leads.1.1.0).under

-- a page of a tree of at most 40 levels may stand where it stands
pub stands_well : (table : Bool) (usable last : ℕ) (shown : Shown) (Of : List Item → Type 0) (level page total : ℕ) → (under : Under table usable last shown Of level page total)
    → total ≤ 40 → ShowsNode table shown level page under.holds.node
stands_well table usable last shown Of level page total under low = record {
  holds = under.holds.holds;
  may = by_height under.height under.sum under.least_is under.own under.some under.holds;
}
  where
    by_height : (height : ℕ) → level + height ≡ total → (1 ≤ under.least) ⊎ ((level ≡ 0) × (under.least ≡ root_least height)) → (own : List ℕ) (some : List Item)
        → (holds : Holds shown under.least (Content table usable last shown height) page own some) → MayStand table page level holds.node
    by_height zero sum least own some holds = record {
      table_is = holds.content.table_is;
      depth = omega (arith, sum, low);
      enough = elim holds.enough [
        | inl first ↦ inl first
        | inr many ↦ elim least [ inl one ↦ inr (inr (omega (arith, many, one))) | inr root ↦ inr (inl (root.0, holds.content.leaf)) ]
      ];
    }
    by_height (suc height) sum least own some holds = record {
      table_is = holds.content.table_is;
      depth = omega (arith, sum, low);
      enough = elim holds.enough [
        | inl first ↦ inl first
        | inr many ↦ elim least [ inl one ↦ inr (inr (omega (arith, many, one))) | inr root ↦ inr (inr (omega (arith, many, root.1))) ]
      ];
    }

-- over a tree a way down isn't broken
pub breaks_none : (table : Bool) (usable last : ℕ) (shown : Shown) (Of : List Item → Type 0) (Names : (level page child : ℕ) → Type 0) (root total : ℕ) (way : List ℕ) (below : ℕ)
    (after : List ℕ) (page : ℕ) → 1 ≤ root → root ≤ last → total ≤ 40 → Steps table usable last shown Of Names → Under table usable last shown Of (length way) below total
    → BreaksWay table last shown Names root way below after page → ⊥
breaks_none table usable last shown Of Names root total way below after page low high deep steps under (BreaksWay.RootOutside none nothing is outside) =
    elim outside [ inl less ↦ omega (arith, less, low) | inr more ↦ omega (arith, more, high) ]
breaks_none table usable last shown Of Names root total way below after page low high deep steps under (BreaksWay.ShowsNone one is never) =
    never under.holds.node (stands_well table usable last shown Of (length way) below total under deep)
breaks_none table usable last shown Of Names root total way below after page low high deep steps under (BreaksWay.ChildOutside child one is names outside) =
    let at = steps (length way) below child total under names in
    elim outside [ inl less ↦ omega (arith, less, at.low) | inr more ↦ omega (arith, more, at.high) ]

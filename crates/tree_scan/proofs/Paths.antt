-- Steps of a path: a level of which nothing is left, the item of a cell that comes next, the child that comes next.
use Rattle.std.proofs.Common.{◌≡◌, ℕ, zero, suc, ◌+◌, ◌<◌, ◌≤◌, Bool, true, false, List, [], ◌∷◌, ◌++◌, length, Some, inl, inr, refl, sym, subst, ap, ◌∙◌, arith, append_assoc, append-nil}
use Rattle.std.specs.Prelude.{◌⊎◌}
use Rattle.node_spec.specs.Cells.{NodeCell}
use Rattle.node_spec.specs.Kinds.{is_leaf}
use Rattle.node_spec.specs.Nodes.{Node, cell_at}
use Rattle.tree_spec.specs.Shown.{Shown}
use Rattle.tree_spec.specs.Layout.{Each, Item, chains}
use Rattle.tree_spec.specs.Trees.{IsItem, IsChild, Content, IsTree}
use Rattle.tree_read.specs.Ways.{child_at}
use Rattle.tree_read.proofs.Levels.{one_node, not_both}
use Rattle.tree_scan.specs.declared.level.Level.{Level}
use Rattle.tree_scan.specs.Coming.{one_less, LeftUnder, LeftBehind, LeftFrom, Rests, Comes, gone_below, gone_past}
use Rattle.tree_scan.specs.Reads.{StandIn, TakesPages, LeavesAhead}
use Rattle.tree_scan.proofs.Left.{first_item, first_child, first_own, behind_under, from_front, rests_none}
use Rattle.tree_scan.proofs.Within.{within_none, reads_exactly, takes_page, from_place}

-- A level shows a node over one world, of which nothing is left.
pub record IsDone (shown : Shown) (level : Level) : Type 0 where
  pub node : Node
  pub holds : shown.node level.page ≡ Some node
  pub leaf : is_leaf node.kind ≡ true → level.at_cell ≡ true
  pub cell : level.at_cell ≡ true → length node.cells ≤ level.place
  pub child : level.at_cell ≡ false → length node.cells < level.place

all_done : (table : Bool) (usable last : ℕ) (shown : Shown) (height : ℕ) (levels : List Level) (own : List ℕ) (items : List Item) → Each (IsDone shown) levels
    → Comes table usable last shown height levels own items → (own ≡ []) × (items ≡ [])
all_done table usable last shown height [] own items done comes = comes
all_done table usable last shown height (level ∷ levels) own items done comes =
    let d = done.0 in
    let same : comes.node ≡ d.node = one_node shown level.page comes.node d.node comes.holds d.holds in
    let none = rests_none table usable last shown height d.node level.place level.at_cell comes.rest_own comes.rest d.leaf d.cell d.child
    (subst (λ (n : Node). Rests table usable last shown height n level.place level.at_cell comes.rest_own comes.rest) same comes.left) in
    let below = all_done table usable last shown (one_less height) levels comes.below_own comes.below done.1 comes.comes in (
      comes.own_is ∙ ap (λ (l : List ℕ). l ++ comes.rest_own) below.0 ∙ none.0,
      comes.items_are ∙ ap (λ (l : List Item). l ++ comes.rest) below.1 ∙ none.1,
    )

-- going up leaves what is to come
pub up : (table : Bool) (usable last : ℕ) (shown : Shown) (height : ℕ) (levels passed : List Level) (own : List ℕ) (items : List Item) → Each (IsDone shown) passed
    → Comes table usable last shown height (levels ++ passed) own items → Comes table usable last shown height levels own items
up table usable last shown height [] passed own items done comes = all_done table usable last shown height passed own items done comes
up table usable last shown height (level ∷ levels) passed own items done comes = record {
  below_own = comes.below_own;
  rest_own = comes.rest_own;
  below = comes.below;
  rest = comes.rest;
  own_is = comes.own_is;
  items_are = comes.items_are;
  comes = up table usable last shown (one_less height) levels passed comes.below_own comes.below done comes.comes;
  node = comes.node;
  holds = comes.holds;
  left = comes.left;
}

-- The first of the items to come is that of the cell at the last level's place, and the others come from behind it, if the level's page was decoded so.
pub record TakenOne (table : Bool) (usable last : ℕ) (shown : Shown) (height : ℕ) (cell : NodeCell) (IsDecoded : Type 0) (levels : List Level) (own : List ℕ) (items : List Item) : Type 0 where
  pub item : Item
  pub rest_own : List ℕ
  pub rest : List Item
  pub own_is : own ≡ item.chain ++ rest_own
  pub items_are : items ≡ item ∷ rest
  pub is_item : IsItem usable last shown cell item
  pub comes : IsDecoded → Comes table usable last shown height levels rest_own rest

pub take_one : (table : Bool) (usable last : ℕ) (shown : Shown) (height : ℕ) (above : List Level) (top : Level) (node : Node) (own : List ℕ) (items : List Item)
    → shown.node top.page ≡ Some node → top.at_cell ≡ true → (is_leaf node.kind ≡ true) ⊎ (table ≡ false) → top.place < length node.cells
    → Comes table usable last shown height (above ++ top ∷ []) own items
    → TakenOne table usable last shown height (cell_at node top.place) (is_leaf top.node.kind ≡ is_leaf node.kind) (above ++ gone_past top ∷ []) own items
take_one table usable last shown height [] top node own items holds cell has inside comes =
    by_height height has (subst (λ (n : Node). Rests table usable last shown height n top.place top.at_cell comes.rest_own comes.rest)
    (one_node shown top.page comes.node node comes.holds holds) comes.left)
  where
    own_left : own ≡ comes.rest_own
    own_left = comes.own_is ∙ ap (λ (l : List ℕ). l ++ comes.rest_own) comes.comes.0

    items_left : items ≡ comes.rest
    items_left = comes.items_are ∙ ap (λ (l : List Item). l ++ comes.rest) comes.comes.1

    by_height : (height : ℕ) → (is_leaf node.kind ≡ true) ⊎ (table ≡ false) → Rests table usable last shown height node top.place top.at_cell comes.rest_own comes.rest
        → TakenOne table usable last shown height (cell_at node top.place) (is_leaf top.node.kind ≡ is_leaf node.kind) (gone_past top ∷ []) own items
    by_height zero has rests =
        let first = first_item table usable last shown top.place node.cells comes.rest inside rests.1 in
        record {
          item = first.item;
          rest_own = chains first.rest;
          rest = first.rest;
          own_is = own_left ∙ rests.2 ∙ ap chains first.items_are;
          items_are = items_left ∙ first.items_are;
          is_item = first.is_item;
          comes = λ kind. record {
            below_own = [];
            rest_own = chains first.rest;
            below = [];
            rest = first.rest;
            own_is = refl;
            items_are = refl;
            comes = (refl, refl);
            node = node;
            holds = holds;
            left = (rests.0, first.left, refl);
          };
        }
    by_height (suc height) (inl leaf) rests = absurd (not_both (is_leaf node.kind) leaf rests.0)
    by_height (suc height) (inr index) rests =
        let IsSub : ℕ → List ℕ → List Item → Type 0 = IsChild last shown (Content table usable last shown height) in
        let behind : LeftBehind table usable last shown IsSub top.place node.cells node.right comes.rest_own comes.rest =
        subst (λ (b : Bool). LeftFrom b table usable last shown IsSub top.place node.cells node.right comes.rest_own comes.rest) cell rests.1 in
        let first = first_own usable last shown IsSub top.place node.cells node.right comes.rest_own comes.rest inside
        (subst (λ (t : Bool). LeftBehind t usable last shown IsSub top.place node.cells node.right comes.rest_own comes.rest) index behind) in
        record {
          item = first.item;
          rest_own = first.rest_own;
          rest = first.rest;
          own_is = own_left ∙ first.own_is;
          items_are = items_left ∙ first.items_are;
          is_item = first.is_item;
          comes = λ kind. record {
            below_own = [];
            rest_own = first.rest_own;
            below = [];
            rest = first.rest;
            own_is = refl;
            items_are = refl;
            comes = (refl, refl);
            node = node;
            holds = holds;
            left = (
              rests.0,
              subst (λ (b : Bool). LeftFrom b table usable last shown IsSub (suc top.place) node.cells node.right first.rest_own first.rest) (sym (kind ∙ rests.0))
                  (subst (λ (t : Bool). LeftUnder t usable last shown IsSub (suc top.place) node.cells node.right first.rest_own first.rest) (sym index) first.left),
            );
          };
        }
take_one table usable last shown height (level ∷ above) top node own items holds cell has inside comes =
    let found = take_one table usable last shown (one_less height) above top node comes.below_own comes.below holds cell has inside comes.comes in
    record {
      item = found.item;
      rest_own = found.rest_own ++ comes.rest_own;
      rest = found.rest ++ comes.rest;
      own_is = comes.own_is ∙ ap (λ (l : List ℕ). l ++ comes.rest_own) found.own_is ∙ append_assoc found.item.chain found.rest_own comes.rest_own;
      items_are = comes.items_are ∙ ap (λ (l : List Item). l ++ comes.rest) found.items_are;
      is_item = found.is_item;
      comes = λ kind. record {
        below_own = found.rest_own;
        rest_own = comes.rest_own;
        below = found.rest;
        rest = comes.rest;
        own_is = refl;
        items_are = refl;
        comes = found.comes kind;
        node = comes.node;
        holds = comes.holds;
        left = comes.left;
      };
    }

-- The child that comes next: what is under it is first, and whatever of that comes from the child's level, the same comes from the path with it.
pub record AtChild (table : Bool) (usable last : ℕ) (shown : Shown) (height : ℕ) (levels_then : List Level) (child : Level) (node : Node) (own : List ℕ) (items : List Item) : Type 0 where
  pub lower : ℕ
  pub under_own : List ℕ
  pub behind_own : List ℕ
  pub under : List Item
  pub behind : List Item
  pub own_is : own ≡ child.page ∷ (under_own ++ behind_own)
  pub items_are : items ≡ under ++ behind
  pub content : Content table usable last shown lower node under_own under
  pub comes : (o : List ℕ) (i : List Item) → Rests table usable last shown lower node child.place child.at_cell o i
      → Comes table usable last shown height levels_then (o ++ behind_own) (i ++ behind)

pub gone_left : (table : Bool) (usable last : ℕ) (shown : Shown) (height : ℕ) (top : Level) (node : Node) (own : List ℕ) (items : List Item) → is_leaf node.kind ≡ false → top.at_cell ≡ false
    → LeftBehind table usable last shown (IsChild last shown (Content table usable last shown height)) top.place node.cells node.right own items
    → Rests table usable last shown (suc height) node (gone_below table top).place (gone_below table top).at_cell own items
gone_left false usable last shown height top node own items inner child left = (inner, left)
gone_left true usable last shown height top node own items inner child left =
    let IsSub : ℕ → List ℕ → List Item → Type 0 = IsChild last shown (Content true usable last shown height) in (
      inner,
      subst (λ (b : Bool). LeftFrom b true usable last shown IsSub (suc top.place) node.cells node.right own items) (sym child)
          (behind_under usable last shown IsSub top.place node.cells node.right own items left),
    )

pub go_child : (table : Bool) (usable last : ℕ) (shown : Shown) (height : ℕ) (above : List Level) (top child : Level) (node child_node : Node) (own : List ℕ) (items : List Item)
    → shown.node top.page ≡ Some node → is_leaf node.kind ≡ false → top.at_cell ≡ false → top.place ≤ length node.cells
    → child.page ≡ child_at node.cells node.right top.place → shown.node child.page ≡ Some child_node
    → Comes table usable last shown height (above ++ top ∷ []) own items
    → AtChild table usable last shown height (above ++ gone_below table top ∷ child ∷ []) child child_node own items
go_child table usable last shown height [] top child node child_node own items holds inner at inside is shows comes =
    by_height height (subst (λ (n : Node). Rests table usable last shown height n top.place top.at_cell comes.rest_own comes.rest)
    (one_node shown top.page comes.node node comes.holds holds) comes.left)
  where
    own_left : own ≡ comes.rest_own
    own_left = comes.own_is ∙ ap (λ (l : List ℕ). l ++ comes.rest_own) comes.comes.0

    items_left : items ≡ comes.rest
    items_left = comes.items_are ∙ ap (λ (l : List Item). l ++ comes.rest) comes.comes.1

    by_height : (height : ℕ) → Rests table usable last shown height node top.place top.at_cell comes.rest_own comes.rest
        → AtChild table usable last shown height (gone_below table top ∷ child ∷ []) child child_node own items
    by_height zero rests = absurd (not_both (is_leaf node.kind) rests.0 inner)
    by_height (suc height) rests =
        let IsSub : ℕ → List ℕ → List Item → Type 0 = IsChild last shown (Content table usable last shown height) in
        let left : LeftUnder table usable last shown IsSub top.place node.cells node.right comes.rest_own comes.rest =
        subst (λ (b : Bool). LeftFrom b table usable last shown IsSub top.place node.cells node.right comes.rest_own comes.rest) at rests.1 in
        let first = first_child table usable last shown IsSub top.place node.cells node.right comes.rest_own comes.rest inside left in
        let sub : IsSub child.page first.under_own first.under = subst (λ (p : ℕ). IsSub p first.under_own first.under) (sym is) first.sub in
        record {
          lower = height;
          under_own = sub.holds.below;
          behind_own = first.rest_own;
          under = first.under;
          behind = first.rest;
          own_is = own_left ∙ first.own_is ∙ ap (λ (l : List ℕ). l ++ first.rest_own) sub.holds.own_is;
          items_are = items_left ∙ first.items_are;
          content = subst (λ (n : Node). Content table usable last shown height n sub.holds.below first.under)
              (one_node shown child.page sub.holds.node child_node sub.holds.holds shows) sub.holds.content;
          comes = λ o i rests_child. record {
            below_own = o;
            rest_own = first.rest_own;
            below = i;
            rest = first.rest;
            own_is = refl;
            items_are = refl;
            comes = record {
              below_own = [];
              rest_own = o;
              below = [];
              rest = i;
              own_is = refl;
              items_are = refl;
              comes = (refl, refl);
              node = child_node;
              holds = shows;
              left = rests_child;
            };
            node = node;
            holds = by_table table;
            left = gone_left table usable last shown height top node first.rest_own first.rest inner at first.left;
          };
        }
      where
        by_table : (table : Bool) → shown.node (gone_below table top).page ≡ Some node
        by_table true = holds
        by_table false = holds
go_child table usable last shown height (level ∷ above) top child node child_node own items holds inner at inside is shows comes =
    let found = go_child table usable last shown (one_less height) above top child node child_node comes.below_own comes.below holds inner at inside is shows comes.comes in
    record {
      lower = found.lower;
      under_own = found.under_own;
      behind_own = found.behind_own ++ comes.rest_own;
      under = found.under;
      behind = found.behind ++ comes.rest;
      own_is = comes.own_is ∙ ap (λ (l : List ℕ). l ++ comes.rest_own) found.own_is
          ∙ ap (λ (l : List ℕ). child.page ∷ l) (append_assoc found.under_own found.behind_own comes.rest_own);
      items_are = comes.items_are ∙ ap (λ (l : List Item). l ++ comes.rest) found.items_are ∙ append_assoc found.under found.behind comes.rest;
      content = found.content;
      comes = λ o i rests_child. record {
        below_own = o ++ found.behind_own;
        rest_own = comes.rest_own;
        below = i ++ found.behind;
        rest = comes.rest;
        own_is = sym (append_assoc o found.behind_own comes.rest_own);
        items_are = sym (append_assoc i found.behind comes.rest);
        comes = found.comes o i rests_child;
        node = comes.node;
        holds = comes.holds;
        left = comes.left;
      };
    }

-- going down to its front leaves what is to come
pub down : (table : Bool) (usable last : ℕ) (shown : Shown) (height : ℕ) (levels_then : List Level) (child : Level) (node : Node) (own : List ℕ) (items : List Item) → child.place ≡ 0
    → child.at_cell ≡ is_leaf node.kind → AtChild table usable last shown height levels_then child node own items
    → (own_then : List ℕ) × Comes table usable last shown height levels_then own_then items
down table usable last shown height levels_then child node own items front at found = (
  found.under_own ++ found.behind_own,
  subst (λ (l : List Item). Comes table usable last shown height levels_then (found.under_own ++ found.behind_own) l) (sym found.items_are)
      (found.comes found.under_own found.under (subst (λ (n : ℕ). Rests table usable last shown found.lower node n child.at_cell found.under_own found.under) (sym front)
      (from_front table usable last shown found.lower node child.at_cell found.under_own found.under at found.content))),
)

-- to any place of it reads its page, and pages of what it leads to
pub down_reads : (table : Bool) (usable last : ℕ) (shown : Shown) (height : ℕ) (levels_then : List Level) (looks : Bool) (child : Level) (list : List ℕ) (node : Node) (own : List ℕ)
    (items : List Item) → child.place ≤ length node.cells → child.at_cell ≡ is_leaf node.kind → (looks ≡ false → list ≡ [])
    → (found : AtChild table usable last shown height levels_then child node own items) → (looks ≡ true → StandIn list found.under_own)
    → LeavesAhead table usable last shown height levels_then looks own (child.page ∷ list) []
down_reads table usable last shown height levels_then looks child list node own items inside at none found looked =
    let left = from_place table usable last shown found.lower node child.place child.at_cell found.under_own found.under at inside found.content in
    record {
      own_then = left.left_own ++ found.behind_own;
      items_then = left.left_items ++ found.behind;
      comes = found.comes left.left_own left.left_items left.left;
      within = takes_page looks child.page list left.left_own found.under_own found.behind_own own found.own_is left.within none looked;
      next = reads_exactly looks (left.left_own ++ found.behind_own) [] (within_none (left.left_own ++ found.behind_own));
    }

-- the first level
pub start : (table : Bool) (usable last : ℕ) (shown : Shown) (height root : ℕ) (own : List ℕ) (items : List Item) (level : Level) (node : Node) → level.page ≡ root
    → shown.node root ≡ Some node → level.place ≡ 0 → level.at_cell ≡ is_leaf node.kind → IsTree table usable last shown height root own items
    → (left : List ℕ) × Comes table usable last shown height (level ∷ []) left items
start table usable last shown height root own items level node is shows front at tree =
    let same : tree.node ≡ node = one_node shown root tree.node node tree.holds shows in (
      tree.below,
      record {
        below_own = [];
        rest_own = tree.below;
        below = [];
        rest = items;
        own_is = refl;
        items_are = refl;
        comes = (refl, refl);
        node = tree.node;
        holds = ap (λ (p : ℕ). shown.node p) is ∙ tree.holds;
        left = subst (λ (p : ℕ). Rests table usable last shown height tree.node p level.at_cell tree.below items) (sym front)
            (from_front table usable last shown height tree.node level.at_cell tree.below items (at ∙ ap (λ (n : Node). is_leaf n.kind) (sym same)) tree.content);
      },
    )

pub start_reads : (table : Bool) (usable last : ℕ) (shown : Shown) (height root : ℕ) (looks : Bool) (own : List ℕ) (items : List Item) (level : Level) (list : List ℕ) (node : Node)
    → level.page ≡ root → shown.node root ≡ Some node → level.place ≤ length node.cells → level.at_cell ≡ is_leaf node.kind → (looks ≡ false → list ≡ [])
    → (tree : IsTree table usable last shown height root own items) → (looks ≡ true → StandIn list tree.below)
    → LeavesAhead table usable last shown height (level ∷ []) looks own (root ∷ list) []
start_reads table usable last shown height root looks own items level list node is shows inside at none tree looked =
    let same : tree.node ≡ node = one_node shown root tree.node node tree.holds shows in
    let left = from_place table usable last shown height node level.place level.at_cell tree.below items at inside
    (subst (λ (n : Node). Content table usable last shown height n tree.below items) same tree.content) in
    let whole : own ≡ root ∷ (tree.below ++ []) = tree.own_is ∙ ap (λ (l : List ℕ). root ∷ l) (sym (append-nil tree.below)) in
    record {
      own_then = left.left_own;
      items_then = left.left_items;
      comes = record {
        below_own = [];
        rest_own = left.left_own;
        below = [];
        rest = left.left_items;
        own_is = refl;
        items_are = refl;
        comes = (refl, refl);
        node = node;
        holds = ap (λ (p : ℕ). shown.node p) is ∙ shows;
        left = left.left;
      };
      within = subst (TakesPages looks own (root ∷ list)) (append-nil left.left_own) (takes_page looks root list left.left_own tree.below [] own whole left.within none looked);
      next = reads_exactly looks left.left_own [] (within_none left.left_own);
    }

-- the child that comes next is one of the tree, so deep that the tree has room for it, and its pages are first
pub record NextChild (table : Bool) (usable last : ℕ) (shown : Shown) (height deep page : ℕ) (own : List ℕ) (items : List Item) : Type 0 where
  pub lower : ℕ
  pub sum : deep + suc lower ≤ height
  pub under_own : List ℕ
  pub behind_own : List ℕ
  pub under : List Item
  pub behind : List Item
  pub own_is : own ≡ under_own ++ behind_own
  pub items_are : items ≡ under ++ behind
  pub sub : IsChild last shown (Content table usable last shown lower) page under_own under

pub next_child : (table : Bool) (usable last : ℕ) (shown : Shown) (height : ℕ) (above : List Level) (top : Level) (node : Node) (page : ℕ) (own : List ℕ) (items : List Item)
    → shown.node top.page ≡ Some node → is_leaf node.kind ≡ false → top.at_cell ≡ false → top.place ≤ length node.cells → page ≡ child_at node.cells node.right top.place
    → Comes table usable last shown height (above ++ top ∷ []) own items → NextChild table usable last shown height (length above) page own items
next_child table usable last shown height [] top node page own items holds inner at inside is comes =
    by_height height (subst (λ (n : Node). Rests table usable last shown height n top.place top.at_cell comes.rest_own comes.rest)
    (one_node shown top.page comes.node node comes.holds holds) comes.left)
  where
    by_height : (height : ℕ) → Rests table usable last shown height node top.place top.at_cell comes.rest_own comes.rest → NextChild table usable last shown height 0 page own items
    by_height zero rests = absurd (not_both (is_leaf node.kind) rests.0 inner)
    by_height (suc height) rests =
        let IsSub : ℕ → List ℕ → List Item → Type 0 = IsChild last shown (Content table usable last shown height) in
        let left : LeftUnder table usable last shown IsSub top.place node.cells node.right comes.rest_own comes.rest =
        subst (λ (b : Bool). LeftFrom b table usable last shown IsSub top.place node.cells node.right comes.rest_own comes.rest) at rests.1 in
        let first = first_child table usable last shown IsSub top.place node.cells node.right comes.rest_own comes.rest inside left in
        record {
          lower = height;
          sum = omega arith;
          under_own = first.under_own;
          behind_own = first.rest_own;
          under = first.under;
          behind = first.rest;
          own_is = comes.own_is ∙ ap (λ (l : List ℕ). l ++ comes.rest_own) comes.comes.0 ∙ first.own_is;
          items_are = comes.items_are ∙ ap (λ (l : List Item). l ++ comes.rest) comes.comes.1 ∙ first.items_are;
          sub = subst (λ (p : ℕ). IsSub p first.under_own first.under) (sym is) first.sub;
        }
next_child table usable last shown zero (level ∷ above) top node page own items holds inner at inside is comes =
    let found = next_child table usable last shown zero above top node page comes.below_own comes.below holds inner at inside is comes.comes in
    absurd (omega (arith, found.sum))
next_child table usable last shown (suc height) (level ∷ above) top node page own items holds inner at inside is comes =
    let found = next_child table usable last shown height above top node page comes.below_own comes.below holds inner at inside is comes.comes in
    record {
      lower = found.lower;
      sum = omega (arith, found.sum);
      under_own = found.under_own;
      behind_own = found.behind_own ++ comes.rest_own;
      under = found.under;
      behind = found.behind ++ comes.rest;
      own_is = comes.own_is ∙ ap (λ (l : List ℕ). l ++ comes.rest_own) found.own_is ∙ append_assoc found.under_own found.behind_own comes.rest_own;
      items_are = comes.items_are ∙ ap (λ (l : List Item). l ++ comes.rest) found.items_are ∙ append_assoc found.under found.behind comes.rest;
      sub = found.sub;
    }

-- Down to the low bound's place.
use Rattle.std.proofs.Common.{◌≡◌, ℕ, zero, suc, ◌<◌, ◌≤◌, Bool, true, false, List, [], ◌∷◌, ◌++◌, length, None, Some, inl, inr, refl, sym, subst, ap, ◌∙◌, arith, append_assoc}
use Rattle.std.proofs.lemmas.Bool.{cases_lt}
use Rattle.node_spec.specs.Kinds.{is_leaf}
use Rattle.node_spec.specs.Nodes.{Node, cell_at}
use Rattle.tree_spec.specs.Shown.{Shown}
use Rattle.tree_spec.specs.Layout.{Each, Item, chains}
use Rattle.tree_spec.specs.Trees.{IsChild, Content}
use Rattle.tree_spec.proofs.Lists.{each-append}
use Rattle.tree_read.specs.Ways.{child_at}
use Rattle.tree_read.proofs.Around.{child_some, ListsSome}
use Rattle.tree_read.proofs.Levels.{one_node, not_both}
use Rattle.tree_scan.specs.declared.bounds.Bounds.{Bounds}
use Rattle.tree_scan.specs.declared.bounds.Bounds.TheVariants.{Rows, Entries}
use Rattle.tree_scan.specs.declared.level.Level.{Level}
use Rattle.tree_scan.specs.Bounded.{of_table, IsUnder, AreFrom}
use Rattle.tree_scan.specs.Coming.{one_less, Comes, gone_below}
use Rattle.tree_scan.specs.Placing.{IsPlaced}
use Rattle.tree_scan.specs.Seeking.{SoughtLast, Sought}
use Rattle.tree_scan.proofs.Left.{first_item, no_item}
use Rattle.tree_scan.proofs.Parts.{FrontEnds, BackBegins, before_under, behind_over, part_from, leaf_parts, inner_parts, ends_under, begins_over}
use Rattle.tree_scan.proofs.Paths.{gone_left}

pub placed_most : (bounds : Bounds) (usable most : ℕ) (shown : Shown) (node : Node) (place : ℕ) → IsPlaced true usable most shown bounds node place → place ≤ length node.cells
placed_most (Rows None high) usable most shown node place placed = omega (arith, placed)
placed_most (Rows (Some low) high) usable most shown node place placed = placed.most
placed_most (Entries None high) usable most shown node place placed = omega (arith, placed)
placed_most (Entries (Some low) high) usable most shown node place placed = placed.most

-- what is before the place is under the bound
front_under : (inner : Bool) (bounds : Bounds) (usable last most : ℕ) (shown : Shown) (node : Node) (place : ℕ) (items rest front back : List Item) → AreFrom bounds items rest
    → items ≡ front ++ back → IsPlaced true usable most shown bounds node place → (place ≡ 0 → front ≡ [])
    → ((k : ℕ) → place ≡ suc k → FrontEnds inner (of_table bounds) usable last shown (cell_at node k) front) → Each (IsUnder bounds) front
front_under inner bounds usable last most shown node zero items rest front back from is placed none before = subst (Each (IsUnder bounds)) (sym (none refl)) tt
front_under inner bounds usable last most shown node (suc k) items rest front back from is placed none before =
    let ends = before k refl in
    let parts : items ≡ ends.start ++ ends.item ∷ back = is ∙ ap (λ (l : List Item). l ++ back) ends.front_is ∙ append_assoc ends.start (ends.item ∷ []) back in
    subst (Each (IsUnder bounds)) (sym ends.front_is) (before_under bounds items rest ends.start back ends.item from parts
    (ends_under inner bounds usable last most shown node (suc k) k ends.item refl placed ends.ends))

-- what is behind it isn't
back_over : (inner : Bool) (bounds : Bounds) (usable last most : ℕ) (shown : Shown) (node : Node) (place : ℕ) (items rest front back : List Item) → AreFrom bounds items rest
    → items ≡ front ++ back → IsPlaced true usable most shown bounds node place → (length node.cells ≤ place → back ≡ [])
    → (place < length node.cells → BackBegins inner (of_table bounds) usable last shown (cell_at node place) back)
    → Each (λ (item : Item). IsUnder bounds item → ⊥) back
back_over inner bounds usable last most shown node place items rest front back from is placed over after = elim (cases_lt place (length node.cells)) [
  | inl less ↦ (
      let begins = after less in
      let parts : items ≡ front ++ begins.item ∷ begins.more = is ∙ ap (λ (l : List Item). front ++ l) begins.back_is in
      subst (Each (λ (item : Item). IsUnder bounds item → ⊥)) (sym begins.back_is) (behind_over bounds items rest front begins.more begins.item from parts
      (begins_over inner bounds usable last most shown node place begins.item less placed begins.begins)))
  | inr past ↦ subst (Each (λ (item : Item). IsUnder bounds item → ⊥)) (sym (over past)) tt
]

-- a node's place
lists_some : (table : Bool) (usable last : ℕ) (shown : Shown) (height : ℕ) → table ≡ true → ListsSome (IsChild last shown (Content table usable last shown height))
lists_some true usable last shown height is = child_some usable last shown height
lists_some false usable last shown height is = absurd (not_both false is refl)

pub at_place : (bounds : Bounds) (usable last most : ℕ) (shown : Shown) (height : ℕ) (level : Level) (node : Node) (below : List ℕ) (items rest : List Item)
    → shown.node level.page ≡ Some node → level.at_cell ≡ is_leaf node.kind → Content (of_table bounds) usable last shown height node below items → AreFrom bounds items rest
    → IsPlaced true usable most shown bounds node level.place → SoughtLast usable last shown height bounds level items
at_place bounds usable last most shown zero level node below items rest holds at content from placed =
    let parts = leaf_parts (of_table bounds) usable last shown node.cells level.place items (placed_most bounds usable most shown node level.place placed) content.items_are in
    record {
      rest = parts.rest;
      from = record {
        front = parts.front;
        items_are = parts.items_are;
        under = front_under false bounds usable last most shown node level.place items rest parts.front parts.rest from parts.items_are placed parts.none parts.before;
        not_under = back_over false bounds usable last most shown node level.place items rest parts.front parts.rest from parts.items_are placed
            (λ past. no_item (of_table bounds) usable last shown level.place node.cells parts.rest past parts.left) (λ inside. (
            let first = first_item (of_table bounds) usable last shown level.place node.cells parts.rest inside parts.left in
            record { item = first.item; more = first.rest; back_is = first.items_are; begins = first.is_item }));
      };
      node = node;
      holds = holds;
      left = (content.leaf, parts.left, refl);
    }
at_place bounds usable last most shown (suc height) level node below items rest holds at content from placed =
    let IsSub : ℕ → List ℕ → List Item → Type 0 = IsChild last shown (Content (of_table bounds) usable last shown height) in
    let parts = inner_parts (of_table bounds) usable last shown IsSub (lists_some (of_table bounds) usable last shown height) node.cells node.right level.place below items
    (placed_most bounds usable most shown node level.place placed) content.under in
    let part = part_from bounds items rest parts.front parts.under parts.behind from parts.items_are in
    record {
      front = parts.front;
      under_own = parts.under_own;
      behind_own = parts.behind_own;
      under = parts.under;
      behind = parts.behind;
      items_are = parts.items_are;
      node = node;
      holds = holds;
      inner = content.inner;
      at = at ∙ content.inner;
      sub = parts.sub;
      left = parts.left;
      before = front_under true bounds usable last most shown node level.place items rest parts.front (parts.under ++ parts.behind) from parts.items_are placed parts.none parts.before;
      after = back_over true bounds usable last most shown node level.place items rest (parts.front ++ parts.under) parts.behind from
          (parts.items_are ∙ sym (append_assoc parts.front parts.under parts.behind)) placed parts.over parts.after;
      rest = part.rest;
      from = part.from;
    }

-- with items under the bound before it
with_front : (bounds : Bounds) (usable last : ℕ) (shown : Shown) (height : ℕ) (level : Level) (front items : List Item) → Each (IsUnder bounds) front
    → SoughtLast usable last shown height bounds level items → SoughtLast usable last shown height bounds level (front ++ items)
with_front bounds usable last shown zero level front items under sought = record {
  rest = sought.rest;
  from = record {
    front = front ++ sought.from.front;
    items_are = ap (λ (l : List Item). front ++ l) sought.from.items_are ∙ sym (append_assoc front sought.from.front sought.rest);
    under = each-append (IsUnder bounds) front sought.from.front under sought.from.under;
    not_under = sought.from.not_under;
  };
  node = sought.node;
  holds = sought.holds;
  left = sought.left;
}
with_front bounds usable last shown (suc height) level front items under sought = record {
  front = front ++ sought.front;
  under_own = sought.under_own;
  behind_own = sought.behind_own;
  under = sought.under;
  behind = sought.behind;
  items_are = ap (λ (l : List Item). front ++ l) sought.items_are ∙ sym (append_assoc front sought.front (sought.under ++ sought.behind));
  node = sought.node;
  holds = sought.holds;
  inner = sought.inner;
  at = sought.at;
  sub = sought.sub;
  left = sought.left;
  before = each-append (IsUnder bounds) front sought.front under sought.before;
  after = sought.after;
  rest = sought.rest;
  from = sought.from;
}

-- one level down
pub sought_down : (bounds : Bounds) (usable last most : ℕ) (shown : Shown) (height : ℕ) (above : List Level) (top child : Level) (node child_node : Node) (items : List Item)
    → shown.node top.page ≡ Some node → is_leaf node.kind ≡ false → child.page ≡ child_at node.cells node.right top.place → shown.node child.page ≡ Some child_node
    → child.at_cell ≡ is_leaf child_node.kind → IsPlaced true usable most shown bounds child_node child.place → Sought usable last shown height bounds above top items
    → Sought usable last shown height bounds (above ++ gone_below (of_table bounds) top ∷ []) child items
sought_down bounds usable last most shown zero [] top child node child_node items holds inner is shows at placed sought =
    absurd (not_both (is_leaf node.kind) (ap (λ (n : Node). is_leaf n.kind) (one_node shown top.page node sought.node holds sought.holds) ∙ sought.left.0) inner)
sought_down bounds usable last most shown (suc height) [] top child node child_node items holds inner is shows at placed sought =
    let same : sought.node ≡ node = one_node shown top.page sought.node node sought.holds holds in
    let IsSub : ℕ → List ℕ → List Item → Type 0 = IsChild last shown (Content (of_table bounds) usable last shown height) in
    let child_is : child_at sought.node.cells sought.node.right top.place ≡ child.page = ap (λ (n : Node). child_at n.cells n.right top.place) same ∙ sym is in
    let sub : IsSub child.page sought.under_own sought.under = subst (λ (p : ℕ). IsSub p sought.under_own sought.under) child_is sought.sub in
    let one : sub.holds.node ≡ child_node = one_node shown child.page sub.holds.node child_node sub.holds.holds shows in
    let below = at_place bounds usable last most shown height child child_node sub.holds.below sought.under sought.rest shows at
    (subst (λ (n : Node). Content (of_table bounds) usable last shown height n sub.holds.below sought.under) one sub.holds.content) sought.from placed in
    record {
      below = sought.front ++ sought.under;
      rest_own = sought.behind_own;
      rest = sought.behind;
      items_are = sought.items_are ∙ sym (append_assoc sought.front sought.under sought.behind);
      sought = with_front bounds usable last shown height child sought.front sought.under sought.before below;
      node = sought.node;
      holds = by_table (of_table bounds) sought.node sought.holds;
      left = gone_left (of_table bounds) usable last shown height top sought.node sought.behind_own sought.behind sought.inner sought.at sought.left;
      after = sought.after;
    }
  where
    by_table : (table : Bool) (n : Node) → shown.node top.page ≡ Some n → shown.node (gone_below table top).page ≡ Some n
    by_table true n holds = holds
    by_table false n holds = holds
sought_down bounds usable last most shown height (level ∷ above) top child node child_node items holds inner is shows at placed sought = record {
  below = sought.below;
  rest_own = sought.rest_own;
  rest = sought.rest;
  items_are = sought.items_are;
  sought = sought_down bounds usable last most shown (one_less height) above top child node child_node sought.below holds inner is shows at placed sought.sought;
  node = sought.node;
  holds = sought.holds;
  left = sought.left;
  after = sought.after;
}

-- at its end, where a cell comes next
pub record Found (usable last : ℕ) (shown : Shown) (height : ℕ) (bounds : Bounds) (levels : List Level) (items : List Item) : Type 0 where
  pub rest : List Item
  pub from : AreFrom bounds items rest
  pub own : List ℕ
  pub comes : Comes (of_table bounds) usable last shown height levels own rest

pub sought_found : (bounds : Bounds) (usable last : ℕ) (shown : Shown) (height : ℕ) (above : List Level) (top : Level) (items : List Item) → top.at_cell ≡ true
    → Sought usable last shown height bounds above top items → Found usable last shown height bounds (above ++ top ∷ []) items
sought_found bounds usable last shown zero [] top items at sought = record {
  rest = sought.rest;
  from = sought.from;
  own = chains sought.rest;
  comes = record {
    below_own = [];
    rest_own = chains sought.rest;
    below = [];
    rest = sought.rest;
    own_is = refl;
    items_are = refl;
    comes = (refl, refl);
    node = sought.node;
    holds = sought.holds;
    left = sought.left;
  };
}
sought_found bounds usable last shown (suc height) [] top items at sought = absurd (not_both top.at_cell at sought.at)
sought_found bounds usable last shown height (level ∷ above) top items at sought =
    let found = sought_found bounds usable last shown (one_less height) above top sought.below at sought.sought in
    record {
      rest = found.rest ++ sought.rest;
      from = record {
        front = found.from.front;
        items_are = sought.items_are ∙ ap (λ (l : List Item). l ++ sought.rest) found.from.items_are ∙ append_assoc found.from.front found.rest sought.rest;
        under = found.from.under;
        not_under = each-append (λ (item : Item). IsUnder bounds item → ⊥) found.rest sought.rest found.from.not_under sought.after;
      };
      own = found.own ++ sought.rest_own;
      comes = record {
        below_own = found.own;
        rest_own = sought.rest_own;
        below = found.rest;
        rest = sought.rest;
        own_is = refl;
        items_are = refl;
        comes = found.comes;
        node = sought.node;
        holds = sought.holds;
        left = sought.left;
      };
    }

-- the child that the place is under, among the items
pub record SoughtChild (table : Bool) (usable last : ℕ) (shown : Shown) (page : ℕ) (items : List Item) : Type 0 where
  pub lower : ℕ
  pub front : List Item
  pub under : List Item
  pub back : List Item
  pub own : List ℕ
  pub items_are : items ≡ front ++ (under ++ back)
  pub sub : IsChild last shown (Content table usable last shown lower) page own under

pub sought_child : (bounds : Bounds) (usable last : ℕ) (shown : Shown) (height : ℕ) (above : List Level) (top : Level) (node : Node) (page : ℕ) (items : List Item)
    → shown.node top.page ≡ Some node → is_leaf node.kind ≡ false → page ≡ child_at node.cells node.right top.place → Sought usable last shown height bounds above top items
    → SoughtChild (of_table bounds) usable last shown page items
sought_child bounds usable last shown zero [] top node page items holds inner is sought =
    absurd (not_both (is_leaf node.kind) (ap (λ (n : Node). is_leaf n.kind) (one_node shown top.page node sought.node holds sought.holds) ∙ sought.left.0) inner)
sought_child bounds usable last shown (suc height) [] top node page items holds inner is sought =
    let same : sought.node ≡ node = one_node shown top.page sought.node node sought.holds holds in
    record {
      lower = height;
      front = sought.front;
      under = sought.under;
      back = sought.behind;
      own = sought.under_own;
      items_are = sought.items_are;
      sub = subst (λ (p : ℕ). IsChild last shown (Content (of_table bounds) usable last shown height) p sought.under_own sought.under)
          (ap (λ (n : Node). child_at n.cells n.right top.place) same ∙ sym is) sought.sub;
    }
sought_child bounds usable last shown height (level ∷ above) top node page items holds inner is sought =
    let found = sought_child bounds usable last shown (one_less height) above top node page sought.below holds inner is sought.sought in
    record {
      lower = found.lower;
      front = found.front;
      under = found.under;
      back = found.back ++ sought.rest;
      own = found.own;
      items_are = sought.items_are ∙ ap (λ (l : List Item). l ++ sought.rest) found.items_are ∙ append_assoc found.front (found.under ++ found.back) sought.rest
          ∙ ap (λ (l : List Item). found.front ++ l) (append_assoc found.under found.back sought.rest);
      sub = found.sub;
    }

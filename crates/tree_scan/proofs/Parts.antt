-- The parts of a node at a place, and of items that are divided by a bound.
use Rattle.std.proofs.Common.{◌≡◌, ℕ, ℤ, zero, suc, ◌<◌, ◌≤◌, ◌<ℤ◌, ◌≤ℤ◌, Bool, true, false, List, [], ◌∷◌, ◌++◌, length, None, Some, refl, sym, subst, ap, ◌∙◌, arith, append_assoc, append-nil}
use Rattle.std.specs.Prelude.{slice_index_or}
use Rattle.std.specs.declared.cmp.Ordering.TheVariants.{Less}
use Rattle.std.proofs.lemmas.Int.{ints}
use Rattle.std.proofs.lemmas.List.{length-append}
use Rattle.node_spec.specs.Cells.{NodeCell}
use Rattle.node_spec.specs.Nodes.{Node, no_cell, cell_at}
use Rattle.tree_spec.specs.Shown.{Shown}
use Rattle.tree_spec.specs.Layout.{Each, Item, chains}
use Rattle.tree_spec.specs.Trees.{AreItems, AreUnder, IsItem}
use Rattle.tree_spec.proofs.Lists.{each-append}
use Rattle.value_form.specs.declared.value.Value.{Value}
use Rattle.value_form.specs.Record.{IsRecord}
use Rattle.value_form.proofs.ReadingLaws.{record_once}
use Rattle.tree_read.specs.Ways.{child_at}
use Rattle.tree_read.proofs.Around.{each_first, each_last, ListsSome}
use Rattle.tree_read.proofs.Trees.{whole_payload}
use Rattle.tree_scan.specs.declared.bounds.Bounds.{Bounds}
use Rattle.tree_scan.specs.declared.bounds.Bounds.TheVariants.{Rows, Entries}
use Rattle.tree_scan.specs.Bounded.{of_table, leading_order, IsUnder, AreFrom}
use Rattle.tree_scan.specs.Coming.{LeftItems, LeftBehind}
use Rattle.tree_scan.specs.Placing.{CellRow, ValuesStandAt, IsPlaced}
use Rattle.tree_scan.proofs.Lasts.{cut_last}

-- Items that are divided by a bound.

-- what is before an item under it is so, and what is behind one that isn't isn't
split_front : (U : Item → Type 0) (front rest a b : List Item) (x : Item) → front ++ rest ≡ a ++ x ∷ b → Each U front → Each (λ (i : Item). U i → ⊥) rest → U x → Each U a
split_front U front rest [] b x is under over here = tt
split_front U [] [] (y ∷ a) b x is under over here = absurd (none is)
  where
    none : [] ≡ y ∷ (a ++ x ∷ b) → ⊥
    none is = cc
split_front U [] (r ∷ rest) (y ∷ a) b x is under over here = absurd (last_over (r ∷ rest) (y ∷ a) is over)
  where
    last_over : (rest a : List Item) → rest ≡ a ++ x ∷ b → Each (λ (i : Item). U i → ⊥) rest → ⊥
    last_over rest a is over = (each_last (λ (i : Item). U i → ⊥) a (x ∷ b) (subst (Each (λ (i : Item). U i → ⊥)) is over)).0 here
split_front U (f ∷ front) rest (y ∷ a) b x is under over here =
    (subst U (head is) under.0, split_front U front rest a b x (tail is) under.1 over here)
  where
    head : f ∷ (front ++ rest) ≡ y ∷ (a ++ x ∷ b) → f ≡ y
    head is = cc

    tail : f ∷ (front ++ rest) ≡ y ∷ (a ++ x ∷ b) → front ++ rest ≡ a ++ x ∷ b
    tail is = cc

split_back : (U : Item → Type 0) (front rest a b : List Item) (x : Item) → front ++ rest ≡ a ++ x ∷ b → Each U front → Each (λ (i : Item). U i → ⊥) rest → (U x → ⊥)
    → Each (λ (i : Item). U i → ⊥) b
split_back U [] rest a b x is under over here = (each_last (λ (i : Item). U i → ⊥) a (x ∷ b) (subst (Each (λ (i : Item). U i → ⊥)) is over)).1
split_back U (f ∷ front) rest [] b x is under over here = absurd (here (subst U (head is) under.0))
  where
    head : f ∷ (front ++ rest) ≡ x ∷ b → f ≡ x
    head is = cc
split_back U (f ∷ front) rest (y ∷ a) b x is under over here = split_back U front rest a b x (tail is) under.1 over here
  where
    tail : f ∷ (front ++ rest) ≡ y ∷ (a ++ x ∷ b) → front ++ rest ≡ a ++ x ∷ b
    tail is = cc

pub before_under : (bounds : Bounds) (items rest a b : List Item) (x : Item) → AreFrom bounds items rest → items ≡ a ++ x ∷ b → IsUnder bounds x → Each (IsUnder bounds) (a ++ x ∷ [])
before_under bounds items rest a b x from is here =
    each-append (IsUnder bounds) a (x ∷ []) (split_front (IsUnder bounds) from.front rest a b x (sym from.items_are ∙ is) from.under from.not_under here) (here, tt)

pub behind_over : (bounds : Bounds) (items rest a b : List Item) (x : Item) → AreFrom bounds items rest → items ≡ a ++ x ∷ b → (IsUnder bounds x → ⊥)
    → Each (λ (i : Item). IsUnder bounds i → ⊥) (x ∷ b)
behind_over bounds items rest a b x from is here =
    (here, split_back (IsUnder bounds) from.front rest a b x (sym from.items_are ∙ is) from.under from.not_under here)

-- a part of them is divided too
pub record PartFrom (bounds : Bounds) (items : List Item) : Type 0 where
  pub rest : List Item
  pub from : AreFrom bounds items rest

part_last : (bounds : Bounds) (front rest a b : List Item) → front ++ rest ≡ a ++ b → Each (IsUnder bounds) front → Each (λ (i : Item). IsUnder bounds i → ⊥) rest → PartFrom bounds b
part_last bounds front rest [] b is under over = record { rest = rest; from = record { front = front; items_are = sym is; under = under; not_under = over } }
part_last bounds [] rest (y ∷ a) b is under over = record {
  rest = b;
  from = record {
    front = [];
    items_are = refl;
    under = tt;
    not_under = each_last (λ (i : Item). IsUnder bounds i → ⊥) (y ∷ a) b (subst (Each (λ (i : Item). IsUnder bounds i → ⊥)) is over);
  };
}
part_last bounds (f ∷ front) rest (y ∷ a) b is under over = part_last bounds front rest a b (tail is) under.1 over
  where
    tail : f ∷ (front ++ rest) ≡ y ∷ (a ++ b) → front ++ rest ≡ a ++ b
    tail is = cc

part_first : (bounds : Bounds) (front rest a b : List Item) → front ++ rest ≡ a ++ b → Each (IsUnder bounds) front → Each (λ (i : Item). IsUnder bounds i → ⊥) rest → PartFrom bounds a
part_first bounds front rest [] b is under over = record { rest = []; from = record { front = []; items_are = refl; under = tt; not_under = tt } }
part_first bounds [] rest (y ∷ a) b is under over = record {
  rest = y ∷ a;
  from = record {
    front = [];
    items_are = refl;
    under = tt;
    not_under = each_first (λ (i : Item). IsUnder bounds i → ⊥) (y ∷ a) b (subst (Each (λ (i : Item). IsUnder bounds i → ⊥)) is over);
  };
}
part_first bounds (f ∷ front) rest (y ∷ a) b is under over =
    let found = part_first bounds front rest a b (tail is) under.1 over in
    record {
      rest = found.rest;
      from = record {
        front = y ∷ found.from.front;
        items_are = ap (λ (l : List Item). y ∷ l) found.from.items_are;
        under = (subst (IsUnder bounds) (head is) under.0, found.from.under);
        not_under = found.from.not_under;
      };
    }
  where
    head : f ∷ (front ++ rest) ≡ y ∷ (a ++ b) → f ≡ y
    head is = cc

    tail : f ∷ (front ++ rest) ≡ y ∷ (a ++ b) → front ++ rest ≡ a ++ b
    tail is = cc

pub part_from : (bounds : Bounds) (items rest front under behind : List Item) → AreFrom bounds items rest → items ≡ front ++ (under ++ behind) → PartFrom bounds under
part_from bounds items rest front under behind from is =
    let back = part_last bounds from.front rest front (under ++ behind) (sym from.items_are ∙ is) from.under from.not_under in
    part_first bounds back.from.front back.rest under behind (sym back.from.items_are) back.from.under back.from.not_under

-- they are divided in one way
pub one_split : (bounds : Bounds) (front rest other behind : List Item) → front ++ rest ≡ other ++ behind → Each (IsUnder bounds) front → Each (λ (i : Item). IsUnder bounds i → ⊥) rest
    → Each (IsUnder bounds) other → Each (λ (i : Item). IsUnder bounds i → ⊥) behind → rest ≡ behind
one_split bounds [] rest [] behind is under over less more = is
one_split bounds [] [] (o ∷ other) behind is under over less more = absurd (none is)
  where
    none : [] ≡ o ∷ (other ++ behind) → ⊥
    none is = cc
one_split bounds [] (r ∷ rest) (o ∷ other) behind is under over less more = absurd (over.0 (subst (IsUnder bounds) (sym (head is)) less.0))
  where
    head : r ∷ rest ≡ o ∷ (other ++ behind) → r ≡ o
    head is = cc
one_split bounds (f ∷ front) rest [] [] is under over less more = absurd (none is)
  where
    none : f ∷ (front ++ rest) ≡ [] → ⊥
    none is = cc
one_split bounds (f ∷ front) rest [] (b ∷ behind) is under over less more = absurd (more.0 (subst (IsUnder bounds) (head is) under.0))
  where
    head : f ∷ (front ++ rest) ≡ b ∷ behind → f ≡ b
    head is = cc
one_split bounds (f ∷ front) rest (o ∷ other) behind is under over less more = one_split bounds front rest other behind (tail is) under.1 over less.1 more
  where
    tail : f ∷ (front ++ rest) ≡ o ∷ (other ++ behind) → front ++ rest ≡ other ++ behind
    tail is = cc

-- The parts of a node at a place.

-- what ends before a cell, and what begins behind one: its item, or in a table's interior page one at most of its key, and one of a greater key
abbrev pub EndsAt : (inner table : Bool) (usable last : ℕ) → Shown → NodeCell → Item → Type 0
EndsAt false table usable last shown cell item = IsItem usable last shown cell item
EndsAt true true usable last shown cell item = item.key ≤ℤ cell.rowid
EndsAt true false usable last shown cell item = IsItem usable last shown cell item

abbrev pub BeginsAt : (inner table : Bool) (usable last : ℕ) → Shown → NodeCell → Item → Type 0
BeginsAt false table usable last shown cell item = IsItem usable last shown cell item
BeginsAt true true usable last shown cell item = cell.rowid <ℤ item.key
BeginsAt true false usable last shown cell item = IsItem usable last shown cell item

pub record FrontEnds (inner table : Bool) (usable last : ℕ) (shown : Shown) (cell : NodeCell) (front : List Item) : Type 0 where
  pub start : List Item
  pub item : Item
  pub front_is : front ≡ start ++ item ∷ []
  pub ends : EndsAt inner table usable last shown cell item

pub record BackBegins (inner table : Bool) (usable last : ℕ) (shown : Shown) (cell : NodeCell) (back : List Item) : Type 0 where
  pub item : Item
  pub more : List Item
  pub back_is : back ≡ item ∷ more
  pub begins : BeginsAt inner table usable last shown cell item

-- of a leaf
pub record LeafParts (table : Bool) (usable last : ℕ) (shown : Shown) (cells : List NodeCell) (place : ℕ) (items : List Item) : Type 0 where
  pub front : List Item
  pub rest : List Item
  pub items_are : items ≡ front ++ rest
  pub left : LeftItems table usable last shown place cells rest
  pub none : place ≡ 0 → front ≡ []
  pub before : (k : ℕ) → place ≡ suc k → FrontEnds false table usable last shown (slice_index_or cells k no_cell) front

pub leaf_parts : (table : Bool) (usable last : ℕ) (shown : Shown) (cells : List NodeCell) (place : ℕ) (items : List Item) → place ≤ length cells → AreItems table usable last shown cells items
    → LeafParts table usable last shown cells place items
leaf_parts table usable last shown cells zero items inside are = record {
  front = [];
  rest = items;
  items_are = refl;
  left = are;
  none = λ is. refl;
  before = λ k never. absurd (omega (arith, never));
}
leaf_parts table usable last shown [] (suc place) items inside are = absurd (omega (arith, inside))
leaf_parts table usable last shown (cell ∷ cells) (suc place) [] inside never = absurd never
leaf_parts table usable last shown (cell ∷ cells) (suc place) (item ∷ items) inside are =
    let found = leaf_parts table usable last shown cells place items (omega (arith, inside)) are.2 in
    record {
      front = item ∷ found.front;
      rest = found.rest;
      items_are = ap (λ (l : List Item). item ∷ l) found.items_are;
      left = found.left;
      none = λ never. absurd (omega (arith, never));
      before = λ k is. by_place k place (omega (arith, is)) found;
    }
  where
    by_place : (k place : ℕ) → place ≡ k → (found : LeafParts table usable last shown cells place items)
        → FrontEnds false table usable last shown (slice_index_or (cell ∷ cells) k no_cell) (item ∷ found.front)
    by_place zero place is found =
        record { start = []; item = item; front_is = ap (λ (l : List Item). item ∷ l) (found.none is); ends = are.0 }
    by_place (suc k) place is found =
        let last_one = found.before k is in
        record {
          start = item ∷ last_one.start;
          item = last_one.item;
          front_is = ap (λ (l : List Item). item ∷ l) last_one.front_is;
          ends = last_one.ends;
        }

-- of an interior page
pub record InnerParts (table : Bool) (usable last : ℕ) (shown : Shown) (IsSub : ℕ → List ℕ → List Item → Type 0) (cells : List NodeCell) (right place : ℕ) (items : List Item) : Type 0 where
  pub front : List Item
  pub under_own : List ℕ
  pub behind_own : List ℕ
  pub under : List Item
  pub behind : List Item
  pub items_are : items ≡ front ++ (under ++ behind)
  pub sub : IsSub (child_at cells right place) under_own under
  pub left : LeftBehind table usable last shown IsSub place cells right behind_own behind
  pub none : place ≡ 0 → front ≡ []
  pub before : (k : ℕ) → place ≡ suc k → FrontEnds true table usable last shown (slice_index_or cells k no_cell) front
  pub after : place < length cells → BackBegins true table usable last shown (slice_index_or cells place no_cell) behind
  pub over : length cells ≤ place → behind ≡ []

-- something is under cells
under_some : (table : Bool) (usable last : ℕ) (shown : Shown) (IsSub : ℕ → List ℕ → List Item → Type 0) → ListsSome IsSub → (cells : List NodeCell) (right : ℕ) (own : List ℕ)
    (items : List Item) → AreUnder table usable last shown IsSub cells right own items → 1 ≤ length items
under_some table usable last shown IsSub some [] right own items under = some right own items under
under_some table usable last shown IsSub some (cell ∷ cells) right own items under =
    omega (arith, some cell.left under.under_own under.under under.sub, ap length under.items_are, length-append under.under (under.middle ++ under.rest))

-- what ends before the first cell of an interior page, and what begins behind it
first_ends : (table : Bool) (usable last : ℕ) (shown : Shown) (IsSub : ℕ → List ℕ → List Item → Type 0) → (table ≡ true → ListsSome IsSub) → (cell : NodeCell) (cells : List NodeCell)
    (right : ℕ) (own : List ℕ) (items : List Item) → (under : AreUnder table usable last shown IsSub (cell ∷ cells) right own items)
    → FrontEnds true table usable last shown cell (under.under ++ under.middle)
first_ends true usable last shown IsSub some cell cells right own items under =
    let cut = cut_last under.under (some refl cell.left under.under_own under.under under.sub) in
    record {
      start = cut.above;
      item = cut.top;
      front_is = ap (λ (m : List Item). under.under ++ m) under.middle_is ∙ append-nil under.under ∙ cut.is;
      ends = (each_last (λ (item : Item). item.key ≤ℤ cell.rowid) cut.above (cut.top ∷ [])
          (subst (Each (λ (item : Item). item.key ≤ℤ cell.rowid)) cut.is under.divided.0)).0;
    }
first_ends false usable last shown IsSub some cell cells right own items under = record {
  start = under.under;
  item = under.middle_is.0;
  front_is = ap (λ (m : List Item). under.under ++ m) under.middle_is.1;
  ends = under.middle_is.2;
}

first_of : (list : List Item) → 1 ≤ length list → (x : Item) × ((xs : List Item) × (list ≡ x ∷ xs))
first_of [] some = absurd (omega (arith, some))
first_of (x ∷ xs) some = (x, (xs, refl))

first_begins : (table : Bool) (usable last : ℕ) (shown : Shown) (IsSub : ℕ → List ℕ → List Item → Type 0) → (table ≡ true → ListsSome IsSub) → (cell : NodeCell) (cells : List NodeCell)
    (right : ℕ) (own : List ℕ) (items : List Item) → (under : AreUnder table usable last shown IsSub (cell ∷ cells) right own items)
    → BackBegins true table usable last shown cell (under.middle ++ under.rest)
first_begins true usable last shown IsSub some cell cells right own items under =
    let first = first_of under.rest (under_some true usable last shown IsSub (some refl) cells right under.rest_own under.rest under.others) in
    record {
      item = first.0;
      more = first.1.0;
      back_is = ap (λ (m : List Item). m ++ under.rest) under.middle_is ∙ first.1.1;
      begins = (subst (Each (λ (item : Item). cell.rowid <ℤ item.key)) first.1.1 under.divided.1).0;
    }
first_begins false usable last shown IsSub some cell cells right own items under = record {
  item = under.middle_is.0;
  more = under.rest;
  back_is = ap (λ (m : List Item). m ++ under.rest) under.middle_is.1;
  begins = under.middle_is.2;
}

pub inner_parts : (table : Bool) (usable last : ℕ) (shown : Shown) (IsSub : ℕ → List ℕ → List Item → Type 0) → (table ≡ true → ListsSome IsSub) → (cells : List NodeCell)
    (right place : ℕ) (own : List ℕ) (items : List Item) → place ≤ length cells → AreUnder table usable last shown IsSub cells right own items
    → InnerParts table usable last shown IsSub cells right place items
inner_parts table usable last shown IsSub some [] right zero own items inside under = record {
  front = [];
  under_own = own;
  behind_own = [];
  under = items;
  behind = [];
  items_are = sym (append-nil items);
  sub = under;
  left = (refl, refl);
  none = λ is. refl;
  before = λ k never. absurd (omega (arith, never));
  after = λ never. absurd (omega (arith, never));
  over = λ past. refl;
}
inner_parts table usable last shown IsSub some (cell ∷ cells) right zero own items inside under = record {
  front = [];
  under_own = under.under_own;
  behind_own = chains under.middle ++ under.rest_own;
  under = under.under;
  behind = under.middle ++ under.rest;
  items_are = under.items_are;
  sub = under.sub;
  left = record {
    rest_own = under.rest_own;
    middle = under.middle;
    rest = under.rest;
    own_is = refl;
    items_are = refl;
    middle_is = under.middle_is;
    others = under.others;
  };
  none = λ is. refl;
  before = λ k never. absurd (omega (arith, never));
  after = λ here. first_begins table usable last shown IsSub some cell cells right own items under;
  over = λ past. absurd (omega (arith, past));
}
inner_parts table usable last shown IsSub some [] right (suc place) own items inside under = absurd (omega (arith, inside))
inner_parts table usable last shown IsSub some (cell ∷ cells) right (suc place) own items inside under =
    let found = inner_parts table usable last shown IsSub some cells right place under.rest_own under.rest (omega (arith, inside)) under.others in
    record {
      front = (under.under ++ under.middle) ++ found.front;
      under_own = found.under_own;
      behind_own = found.behind_own;
      under = found.under;
      behind = found.behind;
      items_are = under.items_are ∙ sym (append_assoc under.under under.middle under.rest) ∙ ap (λ (l : List Item). (under.under ++ under.middle) ++ l) found.items_are
          ∙ sym (append_assoc (under.under ++ under.middle) found.front (found.under ++ found.behind));
      sub = found.sub;
      left = found.left;
      none = λ never. absurd (omega (arith, never));
      before = λ k is. by_place k place (omega (arith, is)) found;
      after = λ here. found.after (omega (arith, here));
      over = λ past. found.over (omega (arith, past));
    }
  where
    by_place : (k place : ℕ) → place ≡ k → (found : InnerParts table usable last shown IsSub cells right place under.rest)
        → FrontEnds true table usable last shown (slice_index_or (cell ∷ cells) k no_cell) ((under.under ++ under.middle) ++ found.front)
    by_place zero place is found =
        let first = first_ends table usable last shown IsSub some cell cells right own items under in
        record {
          start = first.start;
          item = first.item;
          front_is = ap (λ (l : List Item). (under.under ++ under.middle) ++ l) (found.none is) ∙ append-nil (under.under ++ under.middle) ∙ first.front_is;
          ends = first.ends;
        }
    by_place (suc k) place is found =
        let last_one = found.before k is in
        record {
          start = (under.under ++ under.middle) ++ last_one.start;
          item = last_one.item;
          front_is = ap (λ (l : List Item). (under.under ++ under.middle) ++ l) last_one.front_is
              ∙ sym (append_assoc (under.under ++ under.middle) last_one.start (last_one.item ∷ []));
          ends = last_one.ends;
        }

-- At the bound's place.

row_is : (usable last most : ℕ) (shown : Shown) (node : Node) (k : ℕ) (item : Item) (Of : List Value → Type 0) → (cell : CellRow usable most shown node k Of)
    → IsItem usable last shown (cell_at node k) item → IsRecord item.bytes cell.row
row_is usable last most shown node k item Of cell is =
    subst (λ (b : List ℕ). IsRecord b cell.row) (whole_payload usable last most shown (cell_at node k) cell.chain cell.next item cell.followed is) cell.is_record

at_or_under : (a b c : ℤ) → a ≤ℤ b → b <ℤ c → a <ℤ c
at_or_under a b c p q = omega (arith, ints)

not_both_orders : (a b c : ℤ) → a ≤ℤ b → b <ℤ c → c <ℤ a → ⊥
not_both_orders a b c p q r = omega (arith, ints)

not_less : (a b : ℤ) → a ≤ℤ b → b <ℤ a → ⊥
not_less a b p q = omega (arith, ints)

-- the item before it is under the bound
pub ends_under : (inner : Bool) (bounds : Bounds) (usable last most : ℕ) (shown : Shown) (node : Node) (place k : ℕ) (item : Item) → place ≡ suc k
    → IsPlaced true usable most shown bounds node place → EndsAt inner (of_table bounds) usable last shown (cell_at node k) item → IsUnder bounds item
ends_under inner (Rows None high) usable last most shown node place k item is placed ends = absurd (omega (arith, is, placed))
ends_under false (Rows (Some low) high) usable last most shown node place k item is placed ends = subst (λ (z : ℤ). z <ℤ low) (sym ends.key) (placed.above k is)
ends_under true (Rows (Some low) high) usable last most shown node place k item is placed ends = at_or_under item.key (cell_at node k).rowid low ends (placed.above k is)
ends_under inner (Entries None high) usable last most shown node place k item is placed ends = absurd (omega (arith, is, placed))
ends_under false (Entries (Some low) high) usable last most shown node place k item is placed ends =
    let cell = placed.above k is in
    (cell.row, (row_is usable last most shown node k item _ cell ends, cell.of))
ends_under true (Entries (Some low) high) usable last most shown node place k item is placed ends =
    let cell = placed.above k is in
    (cell.row, (row_is usable last most shown node k item _ cell ends, cell.of))

values_over : (usable last most : ℕ) (shown : Shown) (node : Node) (place : ℕ) (item : Item) (low : List Value) → ValuesStandAt usable most shown node low place
    → place < length node.cells → IsItem usable last shown (cell_at node place) item
    → (row : List Value) × (IsRecord item.bytes row × (leading_order row low ≡ Less)) → ⊥
values_over usable last most shown node place item low placed inside is under =
    let cell = placed.below inside in
    let same : under.0 ≡ cell.row = record_once item.bytes under.0 cell.row under.1.0 (row_is usable last most shown node place item _ cell is) in
    cell.of (subst (λ (r : List Value). leading_order r low ≡ Less) same under.1.1)

-- the item behind it isn't
pub begins_over : (inner : Bool) (bounds : Bounds) (usable last most : ℕ) (shown : Shown) (node : Node) (place : ℕ) (item : Item) → place < length node.cells
    → IsPlaced true usable most shown bounds node place → BeginsAt inner (of_table bounds) usable last shown (cell_at node place) item → IsUnder bounds item → ⊥
begins_over inner (Rows None high) usable last most shown node place item inside placed begins under = under
begins_over false (Rows (Some low) high) usable last most shown node place item inside placed begins under =
    not_less low (cell_at node place).rowid (placed.below inside) (subst (λ (z : ℤ). z <ℤ low) begins.key under)
begins_over true (Rows (Some low) high) usable last most shown node place item inside placed begins under =
    not_both_orders low (cell_at node place).rowid item.key (placed.below inside) begins under
begins_over inner (Entries None high) usable last most shown node place item inside placed begins under = under.1.1
begins_over false (Entries (Some low) high) usable last most shown node place item inside placed begins under = values_over usable last most shown node place item low placed inside begins under
begins_over true (Entries (Some low) high) usable last most shown node place item inside placed begins under = values_over usable last most shown node place item low placed inside begins under

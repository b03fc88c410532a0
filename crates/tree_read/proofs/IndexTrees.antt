-- What an entry's look-up met, said of an index's tree.
use Rattle.std.proofs.Common.{◌≡◌, ℕ, zero, suc, ◌<◌, ◌≤◌, true, false, Bool, List, [], ◌∷◌, ◌++◌, length, Result, Ok, Err, Some, inl, inr, refl, sym, subst, ap, ◌∙◌, arith, append_assoc, append-nil}
use Rattle.std.proofs.lemmas.Bool.{cases_lt}
use Rattle.std.specs.Prelude.{◌⊎◌, IfOk, IfErr, slice_index_or}
use Rattle.std.specs.declared.cmp.Ordering.{Ordering}
use Rattle.std.specs.declared.cmp.Ordering.TheVariants.{Less, Equal, Greater}
use Rattle.std.specs.Ordering.{ordering_reverse}
use Rattle.engine_spec.specs.declared.commits.FetchFault.{FetchFault}
use Rattle.engine_spec.specs.declared.commits.FetchFault.TheVariants as fault
use Rattle.page_face.specs.declared.pages_tells.PagesTells.{Ghosts}
use Rattle.node_spec.specs.Kinds.{is_leaf}
use Rattle.node_spec.specs.Cells.{NodeCell}
use Rattle.node_spec.specs.Nodes.{Node, no_cell, cell_at}
use Rattle.tree_spec.specs.Layout.{Each, Item}
use Rattle.tree_spec.specs.Shown.{Shown}
use Rattle.tree_spec.specs.Trees.{AreItems, AreUnder, IsItem, Holds, IsChild, Content}
use Rattle.tree_spec.proofs.Lists.{each-append}
use Rattle.value_form.specs.declared.value.Value.{Value}
use Rattle.value_form.specs.Order.{row_order}
use Rattle.value_form.specs.Record.{IsRecord}
use Rattle.value_form.proofs.OrderLaws.{row_linear}
use Rattle.value_form.proofs.ReadingLaws.{record_once}
use Rattle.overflow.specs.Following.{shown_over}
use Rattle.overflow.proofs.Chains.{no_chain}
use Rattle.tree_read.specs.Ways.{child_at}
use Rattle.tree_read.specs.Payloads.{chain_size, BreaksPayload}
use Rattle.tree_read.specs.Looking.{IsNoRow}
use Rattle.tree_read.specs.Entries.{Compares, EntryStandsAt, NamesEntryChild, LacksEntry, EndsSearch, HasSearched, RowsRise, IsAmong, AnswersEntry, FindsEntry, FailsEntry}
use Rattle.tree_read.proofs.Around.{each_first, each_last}
use Rattle.tree_read.proofs.Levels.{Under, at_root, one_node, not_both, Steps, one_down, at_end, breaks_none}
use Rattle.tree_read.proofs.Trees.{whole_payload}

-- no item of these has the entry's record
abbrev pub NotRow : List Value → Item → Type 0
NotRow entry item = IsRecord item.bytes entry → ⊥

-- parts of a list in order are in order
rise_first : (a b : List Item) → RowsRise (a ++ b) → RowsRise a
rise_first [] b rise = tt
rise_first (x ∷ xs) b rise = (each_first _ xs b rise.0, rise_first xs b rise.1)

rise_second : (a b : List Item) → RowsRise (a ++ b) → RowsRise b
rise_second [] b rise = rise
rise_second (x ∷ xs) b rise = rise_second xs b rise.1

-- What stands before a place and behind it: up to the item of the cell before, and from that of the cell at it.
pub record Ends (usable last : ℕ) (shown : Shown) (cells : List NodeCell) (place : ℕ) (front back : List Item) : Type 0 where
  pub front_none : place ≡ 0 → front ≡ []
  pub front_ends : (k : ℕ) → place ≡ suc k
      → (f : List Item) × ((item : Item) × ((front ≡ f ++ item ∷ []) × IsItem usable last shown (slice_index_or cells k no_cell) item))
  pub back_none : length cells ≤ place → back ≡ []
  pub back_begins : place < length cells
      → (item : Item) × ((b : List Item) × ((back ≡ item ∷ b) × IsItem usable last shown (slice_index_or cells place no_cell) item))

-- some items are these before a place, those in it, and those behind it
pub record Split (usable last : ℕ) (shown : Shown) (cells : List NodeCell) (place : ℕ) (some : List Item) : Type 0 where
  pub front : List Item
  pub middle : List Item
  pub back : List Item
  pub some_are : some ≡ front ++ (middle ++ back)
  pub ends : Ends usable last shown cells place front back

-- a row compares in one way
never_both : (a b : Ordering) → a ≡ b → a ≡ Less → b ≡ Greater → ⊥
never_both a b same less greater = cc

pub record_of : (usable last most : ℕ) (shown : Shown) (node : Node) (k : ℕ) (entry : List Value) (order : Ordering) (item : Item) → (c : Compares usable most shown node k entry order)
    → IsItem usable last shown (cell_at node k) item → IsRecord item.bytes c.row
record_of usable last most shown node k entry order item c is_item =
    subst (λ (b : List ℕ). IsRecord b c.row) (whole_payload usable last most shown (cell_at node k) c.chain c.next item c.followed is_item) c.is_record

-- the item of a cell that isn't equal hasn't the entry's record
not_itself : (usable last most : ℕ) (shown : Shown) (node : Node) (k : ℕ) (entry : List Value) (order : Ordering) (item : Item) → (order ≡ Equal → ⊥)
    → Compares usable most shown node k entry order → IsItem usable last shown (cell_at node k) item → NotRow entry item
not_itself usable last most shown node k entry order item never c is_item has =
    let same : c.row ≡ entry = record_once item.bytes c.row entry (record_of usable last most shown node k entry order item c is_item) has in
    never (c.order_is ∙ ap (λ (r : List Value). row_order r entry) same ∙ row_linear.same entry)

-- before a smaller row
all_before : (entry row : List Value) (front : List Item) (item : Item) → row_order row entry ≡ Less → IsRecord item.bytes row → RowsRise (front ++ item ∷ [])
    → Each (NotRow entry) front
all_before entry row [] item less is_record rise = tt
all_before entry row (x ∷ xs) item less is_record rise = (
  λ has. never_both (row_order entry row) (row_order entry row) refl ((each_last _ xs (item ∷ []) rise.0).0 entry row has is_record)
      (row_linear.reversed row entry ∙ ap ordering_reverse less),
  all_before entry row xs item less is_record rise.1,
)

-- behind a greater row
all_behind : (entry row : List Value) (item : Item) (back : List Item) → row_order row entry ≡ Greater → IsRecord item.bytes row
    → Each (λ (other : Item). (r next : List Value) → IsRecord item.bytes r → IsRecord other.bytes next → row_order r next ≡ Less) back → Each (NotRow entry) back
all_behind entry row item [] greater is_record rise = tt
all_behind entry row item (x ∷ xs) greater is_record rise = (
  λ has. never_both (row_order row entry) (row_order row entry) refl (rise.0 row entry is_record has) greater,
  all_behind entry row item xs greater is_record rise.1,
)

not_equal_less : Less ≡ Equal → ⊥
not_equal_less e = cc

not_equal_greater : Greater ≡ Equal → ⊥
not_equal_greater e = cc

not_front : (usable last most : ℕ) (shown : Shown) (node : Node) (entry : List Value) (place : ℕ) (front back : List Item) → EntryStandsAt usable most shown node entry place
    → Ends usable last shown node.cells place front back → RowsRise front → Each (NotRow entry) front
not_front usable last most shown node entry zero front back stands ends rise = subst (Each (NotRow entry)) (sym (ends.front_none refl)) tt
not_front usable last most shown node entry (suc k) front back stands ends rise =
    let last_is = ends.front_ends k refl in
    let f = last_is.0 in
    let item = last_is.1.0 in
    let c = stands.above k refl in
    let is_record = record_of usable last most shown node k entry Less item c last_is.1.1.1 in
    subst (Each (NotRow entry)) (sym last_is.1.1.0)
    (each-append (NotRow entry) f (item ∷ []) (all_before entry c.row f item (sym c.order_is) is_record (subst RowsRise last_is.1.1.0 rise))
    (not_itself usable last most shown node k entry Less item not_equal_less c last_is.1.1.1, tt))

not_back : (usable last most : ℕ) (shown : Shown) (node : Node) (entry : List Value) (place : ℕ) (front back : List Item) → EntryStandsAt usable most shown node entry place
    → Ends usable last shown node.cells place front back → RowsRise back → (place < length node.cells) ⊎ (length node.cells ≤ place) → Each (NotRow entry) back
not_back usable last most shown node entry place front back stands ends rise (inl inside) =
    let first_is = ends.back_begins inside in
    let item = first_is.0 in
    let b = first_is.1.0 in
    let c = stands.below inside in
    let is_record = record_of usable last most shown node place entry Greater item c first_is.1.1.1 in
    subst (Each (NotRow entry)) (sym first_is.1.1.0) (
      not_itself usable last most shown node place entry Greater item not_equal_greater c first_is.1.1.1,
      all_behind entry c.row item b (sym c.order_is) is_record (subst RowsRise first_is.1.1.0 rise).0,
    )
not_back usable last most shown node entry place front back stands ends rise (inr past) = subst (Each (NotRow entry)) (sym (ends.back_none past)) tt

-- A part of the items, outside of which none has the entry's record if they stand in order.
pub record IsPart (items : List Item) (entry : List Value) (some : List Item) : Type 0 where
  pub front : List Item
  pub back : List Item
  pub items_are : items ≡ front ++ (some ++ back)
  pub before : RowsRise items → Each (NotRow entry) front
  pub behind : RowsRise items → Each (NotRow entry) back

part_rises : (items : List Item) (entry : List Value) (some : List Item) → IsPart items entry some → RowsRise items → RowsRise some
part_rises items entry some part rise = rise_first some part.back (rise_second part.front (some ++ part.back) (subst RowsRise part.items_are rise))

-- what is split off a part
pub part_in : (usable last most : ℕ) (shown : Shown) (node : Node) (entry : List Value) (place : ℕ) (items some : List Item) → IsPart items entry some
    → (split : Split usable last shown node.cells place some) → EntryStandsAt usable most shown node entry place → (place < length node.cells) ⊎ (length node.cells ≤ place)
    → IsPart items entry split.middle
part_in usable last most shown node entry place items some part split stands where_it = record {
  front = part.front ++ split.front;
  back = split.back ++ part.back;
  items_are = part.items_are ∙ ap (λ (l : List Item). part.front ++ (l ++ part.back)) split.some_are
      ∙ ap (λ (l : List Item). part.front ++ l) (append_assoc split.front (split.middle ++ split.back) part.back
      ∙ ap (λ (l : List Item). split.front ++ l) (append_assoc split.middle split.back part.back))
      ∙ sym (append_assoc part.front split.front (split.middle ++ (split.back ++ part.back)));
  before = λ rise. each-append (NotRow entry) part.front split.front (part.before rise)
      (not_front usable last most shown node entry place split.front split.back stands split.ends
      (rise_first split.front (split.middle ++ split.back) (subst RowsRise split.some_are (part_rises items entry some part rise))));
  behind = λ rise. each-append (NotRow entry) split.back part.back
      (not_back usable last most shown node entry place split.front split.back stands split.ends
      (rise_second split.middle split.back (rise_second split.front (split.middle ++ split.back) (subst RowsRise split.some_are (part_rises items entry some part rise)))) where_it)
      (part.behind rise);
}

-- The items under cells, split at a place, with the child in it.
pub record InPlace (usable last : ℕ) (shown : Shown) (height : ℕ) (cells : List NodeCell) (right place : ℕ) (some : List Item) : Type 0 where
  pub split : Split usable last shown cells place some
  pub own : List ℕ
  pub sub : IsChild last shown (Content false usable last shown height) (child_at cells right place) own split.middle

pub in_place : (usable last : ℕ) (shown : Shown) (height : ℕ) (cells : List NodeCell) (right : ℕ) (own : List ℕ) (some : List Item) (place : ℕ)
    → AreUnder false usable last shown (IsChild last shown (Content false usable last shown height)) cells right own some → place ≤ length cells
    → InPlace usable last shown height cells right place some
in_place usable last shown height [] right own some place under most = record {
  split = record {
    front = [];
    middle = some;
    back = [];
    some_are = sym (append-nil some);
    ends = record {
      front_none = λ none. refl;
      front_ends = λ k is. absurd (omega (arith, is, most));
      back_none = λ past. refl;
      back_begins = λ inside. absurd (omega (arith, inside));
    };
  };
  own = own;
  sub = under;
}
in_place usable last shown height (cell ∷ cells) right own some zero under most = record {
  split = record {
    front = [];
    middle = under.under;
    back = under.middle ++ under.rest;
    some_are = under.items_are;
    ends = record {
      front_none = λ none. refl;
      front_ends = λ k is. absurd (omega (arith, is));
      back_none = λ past. absurd (omega (arith, past));
      back_begins = λ inside. (under.middle_is.0, (under.rest, (ap (λ (l : List Item). l ++ under.rest) under.middle_is.1, under.middle_is.2)));
    };
  };
  own = under.under_own;
  sub = under.sub;
}
in_place usable last shown height (cell ∷ cells) right own some (suc place) under most =
    let found = in_place usable last shown height cells right under.rest_own under.rest place under.others (omega (arith, most)) in
    let item = under.middle_is.0 in
    let front = under.under ++ (under.middle ++ found.split.front) in
    record {
      split = record {
        front = front;
        middle = found.split.middle;
        back = found.split.back;
        some_are = under.items_are ∙ ap (λ (l : List Item). under.under ++ (under.middle ++ l)) found.split.some_are
            ∙ ap (λ (l : List Item). under.under ++ l) (sym (append_assoc under.middle found.split.front (found.split.middle ++ found.split.back)))
            ∙ sym (append_assoc under.under (under.middle ++ found.split.front) (found.split.middle ++ found.split.back));
        ends = record {
          front_none = λ none. absurd (omega (arith, none));
          front_ends = λ k is. by_place place k (omega (arith, is)) found.split.front found.split.ends.front_none found.split.ends.front_ends;
          back_none = λ past. found.split.ends.back_none (omega (arith, past));
          back_begins = λ inside. found.split.ends.back_begins (omega (arith, inside));
        };
      };
      own = found.own;
      sub = found.sub;
    }
  where
    by_place : (place k : ℕ) → place ≡ k → (front : List Item) → (place ≡ 0 → front ≡ [])
        → ((k : ℕ) → place ≡ suc k → (f : List Item) × ((item : Item) × ((front ≡ f ++ item ∷ []) × IsItem usable last shown (slice_index_or cells k no_cell) item)))
        → (f : List Item) × ((item : Item) × ((under.under ++ (under.middle ++ front) ≡ f ++ item ∷ []) × IsItem usable last shown (slice_index_or (cell ∷ cells) k no_cell) item))
    by_place zero zero is front none ends = (
      under.under,
      (
        under.middle_is.0,
        (
          ap (λ (l : List Item). under.under ++ (under.middle ++ l)) (none refl) ∙ ap (λ (l : List Item). under.under ++ l) (append-nil under.middle)
              ∙ ap (λ (l : List Item). under.under ++ l) under.middle_is.1,
          under.middle_is.2,
        ),
      ),
    )
    by_place zero (suc k) is front none ends = absurd (omega (arith, is))
    by_place (suc place) zero is front none ends = absurd (omega (arith, is))
    by_place (suc place) (suc k) is front none ends =
        let found = ends k (omega (arith, is)) in (
          under.under ++ (under.middle ++ found.0),
          (
            found.1.0,
            (
              ap (λ (l : List Item). under.under ++ (under.middle ++ l)) found.1.1.0
                  ∙ ap (λ (l : List Item). under.under ++ l) (sym (append_assoc under.middle found.0 (found.1.0 ∷ [])))
                  ∙ sym (append_assoc under.under (under.middle ++ found.0) (found.1.0 ∷ [])),
              found.1.1.1,
            ),
          ),
        )

-- The items of a leaf, split at a place.
pub leaf_split : (usable last : ℕ) (shown : Shown) (cells : List NodeCell) (some : List Item) (place : ℕ) → AreItems false usable last shown cells some → place ≤ length cells
    → (split : Split usable last shown cells place some) × (split.middle ≡ [])
leaf_split usable last shown [] [] place are most = (
  record {
    front = [];
    middle = [];
    back = [];
    some_are = refl;
    ends = record {
      front_none = λ none. refl;
      front_ends = λ k is. absurd (omega (arith, is, most));
      back_none = λ past. refl;
      back_begins = λ inside. absurd (omega (arith, inside));
    };
  },
  refl,
)
leaf_split usable last shown [] (item ∷ items) place never most = absurd never
leaf_split usable last shown (cell ∷ cells) [] place never most = absurd never
leaf_split usable last shown (cell ∷ cells) (item ∷ items) zero are most = (
  record {
    front = [];
    middle = [];
    back = item ∷ items;
    some_are = refl;
    ends = record {
      front_none = λ none. refl;
      front_ends = λ k is. absurd (omega (arith, is));
      back_none = λ past. absurd (omega (arith, past));
      back_begins = λ inside. (item, (items, (refl, are.0)));
    };
  },
  refl,
)
leaf_split usable last shown (cell ∷ cells) (item ∷ items) (suc place) are most =
    let found = leaf_split usable last shown cells items place are.2 (omega (arith, most)) in (
      record {
        front = item ∷ found.0.front;
        middle = found.0.middle;
        back = found.0.back;
        some_are = ap (λ (l : List Item). item ∷ l) found.0.some_are;
        ends = record {
          front_none = λ none. absurd (omega (arith, none));
          front_ends = λ k is. by_place place k (omega (arith, is)) found.0.front found.0.ends.front_none found.0.ends.front_ends;
          back_none = λ past. found.0.ends.back_none (omega (arith, past));
          back_begins = λ inside. found.0.ends.back_begins (omega (arith, inside));
        };
      },
      found.1,
    )
  where
    by_place : (place k : ℕ) → place ≡ k → (front : List Item) → (place ≡ 0 → front ≡ [])
        → ((k : ℕ) → place ≡ suc k → (f : List Item) × ((other : Item) × ((front ≡ f ++ other ∷ []) × IsItem usable last shown (slice_index_or cells k no_cell) other)))
        → (f : List Item) × ((other : Item) × ((item ∷ front ≡ f ++ other ∷ []) × IsItem usable last shown (slice_index_or (cell ∷ cells) k no_cell) other))
    by_place zero zero is front none ends = ([], (item, (ap (λ (l : List Item). item ∷ l) (none refl), are.0)))
    by_place zero (suc k) is front none ends = absurd (omega (arith, is))
    by_place (suc place) zero is front none ends = absurd (omega (arith, is))
    by_place (suc place) (suc k) is front none ends =
        let found = ends k (omega (arith, is)) in
        (item ∷ found.0, (found.1.0, (ap (λ (l : List Item). item ∷ l) found.1.1.0, found.1.1.1)))

-- all items are a part of them
pub whole_part : (items : List Item) (entry : List Value) → IsPart items entry items
whole_part items entry = record { front = []; back = []; items_are = sym (append-nil items); before = λ rise. tt; behind = λ rise. tt }

-- the entry's place
entry_steps : (usable last most : ℕ) (shown : Shown) (entry : List Value) (items : List Item)
    → Steps false usable last shown (IsPart items entry) (NamesEntryChild usable most shown entry)
entry_steps usable last most shown entry items = λ level page child total under names.
    one_down false usable last shown (IsPart items entry) level page child total names.node names.shows.holds names.inner (λ height own some are part.
    let found = in_place usable last shown height names.node.cells names.node.right own some names.place are names.stands.most in
    record {
      own = found.own;
      some = found.split.middle;
      sub = subst (λ (n : ℕ). IsChild last shown (Content false usable last shown height) n found.own found.split.middle) (sym names.child_is) found.sub;
      of = part_in usable last most shown names.node entry names.place items some part found.split names.stands (cases_lt names.place (length names.node.cells));
    }) under

-- the item of a cell is among those under its page
cell_among : (usable last : ℕ) (shown : Shown) (cells : List NodeCell) (k : ℕ) (some : List Item) → k < length cells → Split usable last shown cells k some
    → (item : Item) × (IsAmong some item × IsItem usable last shown (slice_index_or cells k no_cell) item)
cell_among usable last shown cells k some inside split =
    let begins = split.ends.back_begins inside in (
      begins.0,
      (
        record {
          front = split.front ++ split.middle;
          back = begins.1.0;
          items_are = split.some_are ∙ ap (λ (l : List Item). split.front ++ (split.middle ++ l)) begins.1.1.0
              ∙ sym (append_assoc split.front split.middle (begins.0 ∷ begins.1.0));
        },
        begins.1.1.1,
      ),
    )

pub among_part : (items : List Item) (entry : List Value) (some : List Item) (item : Item) → IsPart items entry some → IsAmong some item → IsAmong items item
among_part items entry some item part among = record {
  front = part.front ++ among.front;
  back = among.back ++ part.back;
  items_are = part.items_are ∙ ap (λ (l : List Item). part.front ++ (l ++ part.back)) among.items_are
      ∙ ap (λ (l : List Item). part.front ++ l) (append_assoc among.front (item ∷ among.back) part.back)
      ∙ sym (append_assoc part.front among.front (item ∷ (among.back ++ part.back)));
}

pub entry_item : (usable last : ℕ) (shown : Shown) (entry : List Value) (items : List Item) (level page total : ℕ) → Under false usable last shown (IsPart items entry) level page total
    → (node : Node) → shown.node page ≡ Some node → (k : ℕ) → k < length node.cells → (item : Item) × (IsAmong items item × IsItem usable last shown (cell_at node k) item)
entry_item usable last shown entry items level page total under node holds_node k inside = by_height under.height under.own under.some under.holds under.of
  where
    by_height : (height : ℕ) (own : List ℕ) (some : List Item) → Holds shown under.least (Content false usable last shown height) page own some
        → IsPart items entry some → (item : Item) × (IsAmong items item × IsItem usable last shown (cell_at node k) item)
    by_height zero own some holds part =
        let same : holds.node ≡ node = one_node shown page holds.node node holds.holds holds_node in
        let are : AreItems false usable last shown node.cells some = subst (λ (n : Node). AreItems false usable last shown n.cells some) same holds.content.items_are in
        let found = cell_among usable last shown node.cells k some inside (leaf_split usable last shown node.cells some k are (omega (arith, inside))).0 in
        (found.0, (among_part items entry some found.0 part found.1.0, found.1.1))
    by_height (suc height) own some holds part =
        let same : holds.node ≡ node = one_node shown page holds.node node holds.holds holds_node in
        let are : AreUnder false usable last shown (IsChild last shown (Content false usable last shown height)) node.cells node.right holds.below some =
        subst (λ (n : Node). AreUnder false usable last shown (IsChild last shown (Content false usable last shown height)) n.cells n.right holds.below some) same holds.content.under in
        let found = cell_among usable last shown node.cells k some inside
        (in_place usable last shown height node.cells node.right holds.below some k are (omega (arith, inside))).split in
        (found.0, (among_part items entry some found.0 part found.1.0, found.1.1))

-- a leaf without the entry
entry_none : (usable last most : ℕ) (shown : Shown) (entry : List Value) (items : List Item) (level page total : ℕ) → Under false usable last shown (IsPart items entry) level page total
    → LacksEntry usable most shown level page entry → RowsRise items → Each (NotRow entry) items
entry_none usable last most shown entry items level page total under lacks rise = by_height under.height under.own under.some under.holds under.of
  where
    by_height : (height : ℕ) (own : List ℕ) (some : List Item) → Holds shown under.least (Content false usable last shown height) page own some
        → IsPart items entry some → Each (NotRow entry) items
    by_height zero own some holds part =
        let same : holds.node ≡ lacks.node = one_node shown page holds.node lacks.node holds.holds lacks.shows.holds in
        let are : AreItems false usable last shown lacks.node.cells some = subst (λ (n : Node). AreItems false usable last shown n.cells some) same holds.content.items_are in
        let split = leaf_split usable last shown lacks.node.cells some lacks.place are lacks.stands.most in
        let rest = part_in usable last most shown lacks.node entry lacks.place items some part split.0 lacks.stands (cases_lt lacks.place (length lacks.node.cells)) in
        let none : items ≡ rest.front ++ rest.back = rest.items_are ∙ ap (λ (l : List Item). rest.front ++ (l ++ rest.back)) split.1 in
        subst (Each (NotRow entry)) (sym none) (each-append (NotRow entry) rest.front rest.back (rest.before rise) (rest.behind rise))
    by_height (suc height) own some holds part =
        let same : holds.node ≡ lacks.node = one_node shown page holds.node lacks.node holds.holds lacks.shows.holds in
        absurd (not_both (is_leaf lacks.node.kind) lacks.leaf (ap (λ (n : Node). is_leaf n.kind) (sym same) ∙ holds.content.inner))

-- What was found, over a tree.
entry_answers : (usable last most : ℕ) (shown : Shown) (entry : List Value) (items : List Item) (way : List ℕ) (below total root : ℕ) (list : List ℕ) (found : Bool)
    → Under false usable last shown (IsPart items entry) (length way) below total → EndsSearch usable most shown root entry way below list (Ok found) → AnswersEntry items entry found
entry_answers usable last most shown entry items way below total root list true under ends =
    let c = ends.compares in
    let item = entry_item usable last shown entry items (length way) below total under ends.node ends.shows.holds ends.k c.inside in
    let same : c.row ≡ entry = row_linear.apart c.row entry (sym c.order_is) in
    (item.0, (item.1.0, subst (IsRecord item.0.bytes) same (record_of usable last most shown ends.node ends.k entry Equal item.0 c item.1.1)))
entry_answers usable last most shown entry items way below total root list false under ends =
    entry_none usable last most shown entry items (length way) below total under ends

-- an item whose payload is broken is no row
pub no_row_in : (usable last : ℕ) (shown : Shown) (cell : NodeCell) (item : Item) (below : ℕ) (chain : List ℕ) (page : ℕ) → IsItem usable last shown cell item
    → BreaksPayload usable last shown cell below chain page → IsNoRow usable last shown item
no_row_in usable last shown cell item below chain page is_item (BreaksPayload.TooLarge none is large) = inr (cell, (is_item, large))
no_row_in usable last shown cell item below chain page is_item (BreaksPayload.BreaksOff next left followed is some outside) =
    absurd (no_chain usable last shown cell.overflow (chain_size cell) chain next left item.chain some outside followed.1 is_item.chain)
no_row_in usable last shown cell item below chain page is_item (BreaksPayload.NoRecord next followed is none) =
    inl (subst (λ (b : List ℕ). (row : List Value) → IsRecord b row → ⊥) (whole_payload usable last last shown cell chain next item followed is_item) none)

finds_entry : {P : Type 0} (pages : Ghosts P) (old : P) (root : ℕ) (entry : List Value) (found : Bool) (new : P) → HasSearched pages old root entry (Ok found) new
    → FindsEntry pages old root entry found new
finds_entry pages old root entry found new searched = λ world told bound height own items tree.
    let usable = pages.usable old in
    let most = pages.last_page old in
    let shown = shown_over pages old world in
    entry_answers usable bound most shown entry items searched.way searched.below height root searched.list found
    (at_end false usable bound most shown (IsPart items entry) (NamesEntryChild usable most shown entry) 0 root searched.way searched.below height (length searched.way) (omega arith)
    (entry_steps usable bound most shown entry items) (searched.leads world told)
    (at_root false usable bound shown (IsPart items entry) height root own items (whole_part items entry) tree)) (searched.ends world told)

fails_entry : {P : Type 0} (pages : Ghosts P) (old : P) (root : ℕ) (entry : List Value) (why : FetchFault) (new : P) → HasSearched pages old root entry (Err why) new
    → FailsEntry pages old root why new
fails_entry pages old root entry fault.Disk new searched = λ items there. searched.cause
fails_entry pages old root entry (fault.Corrupt page) new searched = λ items there.
    let usable = pages.usable old in
    let last = pages.last_page old in
    let shown = shown_over pages old there.world in
    let steps = entry_steps usable last last shown entry items in
    let under = at_end false usable last last shown (IsPart items entry) (NamesEntryChild usable last shown entry) 0 root searched.way searched.below there.height (length searched.way)
    (omega arith) steps (searched.leads there.world there.told)
    (at_root false usable last shown (IsPart items entry) there.height root there.own items (whole_part items entry) there.tree) in
    elim (searched.ends there.world there.told) [
      | inl breaks ↦ absurd (breaks_none false usable last shown (IsPart items entry) (NamesEntryChild usable last shown entry) root there.height searched.way searched.below [] page there.least there.most there.low steps under breaks.1)
      | inr read ↦ elim read.1 [
        | inl breaks ↦ absurd (breaks_none false usable last shown (IsPart items entry) (NamesEntryChild usable last shown entry) root there.height searched.way searched.below (searched.below ∷ []) page there.least there.most there.low steps under breaks)
        | inr row ↦ (
            let item = entry_item usable last shown entry items (length searched.way) searched.below there.height under row.node row.shows.holds row.cell.k row.cell.inside in
            (item.0, (item.1.0, no_row_in usable last shown (cell_at row.node row.cell.k) item.0 searched.below row.cell.chain page item.1.1 row.cell.breaks)))
      ]
    ]
fails_entry pages old root entry (fault.Size count) new searched = λ items there. searched.cause
fails_entry pages old root entry fault.Memory new searched = λ items there. tt

pub if_entry : {P : Type 0} (pages : Ghosts P) (old : P) (root : ℕ) (entry : List Value) (result : Result Bool FetchFault) (new : P)
    → HasSearched pages old root entry result new → IfOk result (λ found. FindsEntry pages old root entry found new)
if_entry pages old root entry (Ok found) new searched = finds_entry pages old root entry found new searched
if_entry pages old root entry (Err why) new searched = tt

pub if_no_entry : {P : Type 0} (pages : Ghosts P) (old : P) (root : ℕ) (entry : List Value) (result : Result Bool FetchFault) (new : P)
    → HasSearched pages old root entry result new → IfErr result (λ why. FailsEntry pages old root why new)
if_no_entry pages old root entry (Ok found) new searched = tt
if_no_entry pages old root entry (Err why) new searched = fails_entry pages old root entry why new searched

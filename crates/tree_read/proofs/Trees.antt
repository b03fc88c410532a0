-- What a look-up met, said of a table's tree.
use Rattle.std.proofs.Common.{◌≡◌, ℕ, ℤ, zero, suc, ◌≤◌, ◌<ℤ◌, true, false, List, [], ◌∷◌, ◌++◌, length, Option, Result, Ok, Err, Some, None, inl, inr, refl, sym, subst, ap, ◌∙◌, arith, append_assoc, append-nil}
use Rattle.std.specs.Prelude.{◌⊎◌, IfOk, IfErr, slice_index_or}
use Rattle.engine_spec.specs.declared.commits.FetchFault.{FetchFault}
use Rattle.engine_spec.specs.declared.commits.FetchFault.TheVariants as fault
use Rattle.page_face.specs.declared.pages_tells.PagesTells.{Ghosts}
use Rattle.node_spec.specs.Kinds.{is_leaf}
use Rattle.node_spec.specs.Cells.{NodeCell}
use Rattle.node_spec.specs.Nodes.{Node, no_cell}
use Rattle.tree_spec.specs.Layout.{Each, Item, KeysRise}
use Rattle.tree_spec.specs.Shown.{Shown}
use Rattle.tree_spec.proofs.Rising.{tree_rises}
use Rattle.tree_spec.specs.Trees.{AreItems, AreUnder, IsItem, Holds, IsChild, Content}
use Rattle.value_form.specs.declared.value.Value.{Value}
use Rattle.value_form.specs.Record.{IsRecord}
use Rattle.overflow.specs.Following.{shown_over}
use Rattle.overflow.proofs.Chains.{whole_chain, no_chain}
use Rattle.tree_read.specs.declared.place.Aim.TheVariants.{Rowid, Last}
use Rattle.tree_read.specs.Ways.{NamesChild, IsAround}
use Rattle.tree_read.specs.Payloads.{chain_size, payload_bytes, IsFollowed, BreaksPayload}
use Rattle.tree_read.specs.Looking.{HasCell, LacksCell, EndsLookUp, HasLooked, Answers, FindsRow, IsNoRow, FailsRow, IsLastRowid, HasLookedLast, IsLastKey, FindsLast, FailsLast}
use Rattle.tree_read.proofs.Levels.{Under, at_root, one_node, not_both, ChildIn, Steps, one_down, at_end, breaks_none}
use Rattle.tree_read.proofs.Around.{around_join, under_place, child_some}
use Rattle.tree_read.proofs.Leaves.{leaf_has, leaf_lacks}

-- the rowid's place
pub rowid_steps : (usable last : ℕ) (shown : Shown) (rowid : ℤ) (items : List Item) → Steps true usable last shown (IsAround rowid items) (NamesChild shown (Rowid rowid))
rowid_steps usable last shown rowid items = λ level page child total under names.
    one_down true usable last shown (IsAround rowid items) level page child total names.node names.shows.holds names.inner (λ height own some are around.
    let found = under_place usable last shown (IsChild last shown (Content true usable last shown height)) (child_some usable last shown height) rowid names.node.cells
    names.node.right own some names.next.0 are names.next.1 in
    record {
      own = found.own;
      some = found.some;
      sub = subst (λ (n : ℕ). IsChild last shown (Content true usable last shown height) n found.own found.some) (sym names.next.2) found.sub;
      of = around_join rowid items some found.some around found.around;
    }) under

-- the end of the items
pub record IsEnd (items some : List Item) : Type 0 where
  pub front : List Item
  pub items_are : items ≡ front ++ some
  pub whole : (front ≡ []) ⊎ (1 ≤ length some)

right_child : (usable last : ℕ) (shown : Shown) (height : ℕ) (cells : List NodeCell) (right : ℕ) (own : List ℕ) (some : List Item)
    → AreUnder true usable last shown (IsChild last shown (Content true usable last shown height)) cells right own some
    → ChildIn true usable last shown (IsEnd some) height right
right_child usable last shown height [] right own some under = record {
  own = own;
  some = some;
  sub = under;
  of = record { front = []; items_are = refl; whole = inl refl };
}
right_child usable last shown height (cell ∷ cells) right own some under =
    let found = right_child usable last shown height cells right under.rest_own under.rest under.others in
    record {
      own = found.own;
      some = found.some;
      sub = found.sub;
      of = record {
        front = under.under ++ (under.middle ++ found.of.front);
        items_are = under.items_are ∙ ap (λ (l : List Item). under.under ++ (under.middle ++ l)) found.of.items_are
            ∙ ap (λ (l : List Item). under.under ++ l) (sym (append_assoc under.middle found.of.front found.some))
            ∙ sym (append_assoc under.under (under.middle ++ found.of.front) found.some);
        whole = inr (child_some usable last shown height right found.own found.some found.sub);
      };
    }

pub last_steps : (usable last : ℕ) (shown : Shown) (items : List Item) → Steps true usable last shown (IsEnd items) (NamesChild shown Last)
last_steps usable last shown items = λ level page child total under names.
    one_down true usable last shown (IsEnd items) level page child total names.node names.shows.holds names.inner (λ height own some are of.
    let found = right_child usable last shown height names.node.cells names.node.right own some are in
    record {
      own = found.own;
      some = found.some;
      sub = subst (λ (n : ℕ). IsChild last shown (Content true usable last shown height) n found.own found.some) (sym names.next) found.sub;
      of = record {
        front = of.front ++ found.of.front;
        items_are = of.items_are ∙ ap (λ (l : List Item). of.front ++ l) found.of.items_are ∙ sym (append_assoc of.front found.of.front found.some);
        whole = inr (child_some usable last shown height names.node.right found.own found.some found.sub);
      };
    }) under

-- the items of a leaf
pub record OfLeaf (usable last : ℕ) (shown : Shown) (Of : List Item → Type 0) (node : Node) : Type 0 where
  pub some : List Item
  pub items_are : AreItems true usable last shown node.cells some
  pub of : Of some

pub leaf_items : (usable last : ℕ) (shown : Shown) (Of : List Item → Type 0) (level page total : ℕ) → Under true usable last shown Of level page total
    → (node : Node) → shown.node page ≡ Some node → is_leaf node.kind ≡ true → OfLeaf usable last shown Of node
leaf_items usable last shown Of level page total under node holds_node leaf = by_height under.height under.own under.some under.holds under.of
  where
    by_height : (height : ℕ) (own : List ℕ) (some : List Item) → Holds shown under.least (Content true usable last shown height) page own some
        → Of some → OfLeaf usable last shown Of node
    by_height zero own some holds of =
        let same : holds.node ≡ node = one_node shown page holds.node node holds.holds holds_node in
        record {
          some = some;
          items_are = subst (λ (n : Node). AreItems true usable last shown n.cells some) same holds.content.items_are;
          of = of;
        }
    by_height (suc height) own some holds of =
        let same : holds.node ≡ node = one_node shown page holds.node node holds.holds holds_node in
        let inner : is_leaf node.kind ≡ false = ap (λ (n : Node). is_leaf n.kind) (sym same) ∙ holds.content.inner in
        absurd (not_both (is_leaf node.kind) leaf inner)

-- the item of a cell with the rowid
pub record OfCell (usable last : ℕ) (shown : Shown) (rowid : ℤ) (cell : NodeCell) (items : List Item) : Type 0 where
  pub item : Item
  pub is_item : IsItem usable last shown cell item
  pub key : item.key ≡ rowid
  pub around : IsAround rowid items (item ∷ [])

pub cell_item : (usable last : ℕ) (shown : Shown) (rowid : ℤ) (level page total : ℕ) (items : List Item) (cell : NodeCell) → Under true usable last shown (IsAround rowid items) level page total
    → HasCell shown level page rowid cell → OfCell usable last shown rowid cell items
cell_item usable last shown rowid level page total items cell under has =
    let leaf = leaf_items usable last shown (IsAround rowid items) level page total under has.node has.shows.holds has.leaf in
    let found = leaf_has usable last shown rowid has.node.cells leaf.some has.has.place leaf.items_are has.has.stands has.has.inside
    (ap (λ (c : NodeCell). c.rowid) (sym has.has.cell_is) ∙ has.has.same) in
    let is_item : IsItem usable last shown cell found.item = subst (λ (c : NodeCell). IsItem usable last shown c found.item) (sym has.has.cell_is) found.is_item in
    record {
      item = found.item;
      is_item = is_item;
      key = is_item.key ∙ has.has.same;
      around = around_join rowid items leaf.some (found.item ∷ []) leaf.of found.around;
    }

pub cell_none : (usable last : ℕ) (shown : Shown) (rowid : ℤ) (level page total : ℕ) (items : List Item) → Under true usable last shown (IsAround rowid items) level page total
    → LacksCell shown level page rowid → IsAround rowid items []
cell_none usable last shown rowid level page total items under lacks =
    let leaf = leaf_items usable last shown (IsAround rowid items) level page total under lacks.node lacks.shows.holds lacks.leaf in
    around_join rowid items leaf.some [] leaf.of
    (leaf_lacks usable last shown rowid lacks.node.cells leaf.some lacks.lacks.place leaf.items_are lacks.lacks.stands lacks.lacks.greater)

-- a chain that was followed to its end gives the item's bytes
pub whole_payload : (usable last most : ℕ) (shown : Shown) (cell : NodeCell) (chain : List ℕ) (next : ℕ) (item : Item) → IsFollowed usable most shown cell chain next 0
    → IsItem usable last shown cell item → payload_bytes usable shown cell chain ≡ item.bytes
whole_payload usable last most shown cell chain next item followed is_item =
    let same : item.chain ≡ chain = whole_chain usable most last shown cell.overflow (chain_size cell) chain next 0 item.chain refl followed.1 is_item.chain in
    ap (λ (l : List ℕ). payload_bytes usable shown cell l) (sym same) ∙ sym is_item.bytes

around_all : (rowid : ℤ) (items : List Item) → IsAround rowid items items
around_all rowid items = record { front = []; back = []; items_are = sym (append-nil items); less = tt; more = tt }

-- What was found, over a tree.
pub answers : (usable last most : ℕ) (shown : Shown) (rowid : ℤ) (level page total root : ℕ) (items : List Item) (way after : List ℕ) (found : Option (List Value)) → level ≡ length way
    → Under true usable last shown (IsAround rowid items) level page total → EndsLookUp usable most shown root rowid way page after (Ok found) → Answers rowid items found
answers usable last most shown rowid level page total root items way after None is under ends =
    cell_none usable last shown rowid level page total items under (subst (λ (n : ℕ). LacksCell shown n page rowid) (sym is) ends.1)
answers usable last most shown rowid level page total root items way after (Some row) is under ends =
    let cell = ends.0 in
    let chain = ends.1.0 in
    let of = cell_item usable last shown rowid level page total items cell under (subst (λ (n : ℕ). HasCell shown n page rowid cell) (sym is) ends.1.1.1.0) in
    let row_ends = ends.1.1.1.1 in
    (of.item, (of.key, (of.around, subst (λ (b : List ℕ). IsRecord b row) (whole_payload usable last most shown cell chain row_ends.0 of.item row_ends.1.0 of.is_item) row_ends.1.1)))

pub finds_row : {P : Type 0} (pages : Ghosts P) (old : P) (root : ℕ) (rowid : ℤ) (found : Option (List Value)) (new : P)
    → HasLooked pages old root rowid (Ok found) new → FindsRow pages old root rowid found new
finds_row pages old root rowid found new looked = λ world told bound height own items tree.
    let shown = shown_over pages old world in
    answers (pages.usable old) bound (pages.last_page old) shown rowid (length looked.way) looked.below height root items looked.way looked.after found refl
    (at_end true (pages.usable old) bound (pages.last_page old) shown (IsAround rowid items) (NamesChild shown (Rowid rowid)) 0 root looked.way looked.below height (length looked.way) (omega arith)
    (rowid_steps (pages.usable old) bound shown rowid items) (looked.leads world told)
    (at_root true (pages.usable old) bound shown (IsAround rowid items) height root own items (around_all rowid items) tree)) (looked.ends world told)

-- Why there is none, over a tree.
no_row_of : (usable last : ℕ) (shown : Shown) (rowid : ℤ) (level page total : ℕ) (items : List Item) (cell : NodeCell) (chain : List ℕ) (below named : ℕ)
    → OfCell usable last shown rowid cell items → BreaksPayload usable last shown cell below chain named
    → (item : Item) × ((item.key ≡ rowid) × (IsAround rowid items (item ∷ []) × IsNoRow usable last shown item))
no_row_of usable last shown rowid level page total items cell chain below named of (BreaksPayload.TooLarge none is large) =
    (of.item, (of.key, (of.around, inr (cell, (of.is_item, large)))))
no_row_of usable last shown rowid level page total items cell chain below named of (BreaksPayload.BreaksOff next left followed is some outside) =
    absurd (no_chain usable last shown cell.overflow (chain_size cell) chain next left of.item.chain some outside followed.1 of.is_item.chain)
no_row_of usable last shown rowid level page total items cell chain below named of (BreaksPayload.NoRecord next followed is none) = (
  of.item,
  (
    of.key,
    (
      of.around,
      inl (subst (λ (b : List ℕ). (row : List Value) → IsRecord b row → ⊥)
          (whole_payload usable last last shown cell chain next of.item followed of.is_item) none),
    ),
  ),
)

pub fails_row : {P : Type 0} (pages : Ghosts P) (old : P) (root : ℕ) (rowid : ℤ) (why : FetchFault) (new : P)
    → HasLooked pages old root rowid (Err why) new → FailsRow pages old root rowid why new
fails_row pages old root rowid fault.Disk new looked = λ items there. looked.cause
fails_row pages old root rowid (fault.Corrupt page) new looked = λ items there.
    let usable = pages.usable old in
    let last = pages.last_page old in
    let shown = shown_over pages old there.world in
    let under = at_end true usable last last shown (IsAround rowid items) (NamesChild shown (Rowid rowid)) 0 root looked.way looked.below there.height (length looked.way) (omega arith)
    (rowid_steps usable last shown rowid items) (looked.leads there.world there.told)
    (at_root true usable last shown (IsAround rowid items) there.height root there.own items (around_all rowid items) there.tree) in
    elim (looked.ends there.world there.told) [
      | inl breaks ↦ absurd (breaks_none true usable last shown (IsAround rowid items) (NamesChild shown (Rowid rowid)) root there.height looked.way looked.below looked.after page there.least there.most there.low
          (rowid_steps usable last shown rowid items) under breaks)
      | inr row ↦ no_row_of usable last shown rowid (length looked.way) looked.below there.height items row.cell row.chain looked.below page
          (cell_item usable last shown rowid (length looked.way) looked.below there.height items row.cell under row.has) row.breaks
    ]
fails_row pages old root rowid (fault.Size count) new looked = λ items there. looked.cause
fails_row pages old root rowid fault.Memory new looked = λ items there. tt

-- both, of any answer
pub if_found : {P : Type 0} (pages : Ghosts P) (old : P) (root : ℕ) (rowid : ℤ) (result : Result (Option (List Value)) FetchFault) (new : P)
    → HasLooked pages old root rowid result new → IfOk result (λ found. FindsRow pages old root rowid found new)
if_found pages old root rowid (Ok found) new looked = finds_row pages old root rowid found new looked
if_found pages old root rowid (Err why) new looked = tt

pub if_failed : {P : Type 0} (pages : Ghosts P) (old : P) (root : ℕ) (rowid : ℤ) (result : Result (Option (List Value)) FetchFault) (new : P)
    → HasLooked pages old root rowid result new → IfErr result (λ why. FailsRow pages old root rowid why new)
if_failed pages old root rowid (Ok found) new looked = tt
if_failed pages old root rowid (Err why) new looked = fails_row pages old root rowid why new looked

-- The last rowid, over a tree.

-- smaller keys stand before a key in a list that rises
below_last : (front : List Item) (item : Item) → KeysRise (front ++ item ∷ []) → Each (λ (other : Item). other.key <ℤ item.key) front
below_last [] item rise = tt
below_last (first ∷ front) item rise = (each_end front item first.key rise.0, below_last front item rise.1)
  where
    each_end : (front : List Item) (item : Item) (key : ℤ) → Each (λ (other : Item). key <ℤ other.key) (front ++ item ∷ []) → key <ℤ item.key
    each_end [] item key all = all.0
    each_end (first ∷ front) item key all = each_end front item key all.1

-- the last of a leaf's items is that of its last cell
last_item : (usable last : ℕ) (shown : Shown) (cells : List NodeCell) (items : List Item) (k : ℕ) → AreItems true usable last shown cells items → length cells ≡ suc k
    → (front : List Item) × ((item : Item) × ((items ≡ front ++ item ∷ []) × (item.key ≡ (slice_index_or cells k no_cell).rowid)))
last_item usable last shown [] items k are count = absurd (omega (arith, count))
last_item usable last shown (cell ∷ cells) [] k never count = absurd never
last_item usable last shown (cell ∷ []) (item ∷ []) zero are count = ([], (item, (refl, are.0.key)))
last_item usable last shown (cell ∷ []) (item ∷ (other ∷ items)) zero are count = absurd are.2
last_item usable last shown (cell ∷ []) (item ∷ items) (suc k) are count = absurd (omega (arith, count))
last_item usable last shown (cell ∷ (next ∷ cells)) (item ∷ items) zero are count = absurd (omega (arith, count))
last_item usable last shown (cell ∷ (next ∷ cells)) (item ∷ items) (suc k) are count =
    let found = last_item usable last shown (next ∷ cells) items k are.2 (omega (arith, count)) in
    (item ∷ found.0, (found.1.0, (ap (λ (l : List Item). item ∷ l) found.1.1.0, found.1.1.1)))

last_key : (usable last : ℕ) (shown : Shown) (node : Node) (items : List Item) (found : Option ℤ) → KeysRise items → OfLeaf usable last shown (IsEnd items) node
    → IsLastRowid node.cells found → IsLastKey items found
last_key usable last shown node items None rise leaf is_last =
    let none : leaf.some ≡ [] = no_items usable last shown node.cells leaf.some leaf.items_are is_last in
    let front : leaf.of.front ≡ [] = elim leaf.of.whole [ inl is ↦ is | inr many ↦ absurd (omega (arith, many, ap (λ (l : List Item). length l) none)) ] in
    leaf.of.items_are ∙ ap (λ (l : List Item). l ++ leaf.some) front ∙ none
  where
    no_items : (usable last : ℕ) (shown : Shown) (cells : List NodeCell) (items : List Item) → AreItems true usable last shown cells items → cells ≡ [] → items ≡ []
    no_items usable last shown [] [] are is = refl
    no_items usable last shown [] (item ∷ items) never is = absurd never
    no_items usable last shown (cell ∷ cells) items are is = absurd (omega (arith, ap (λ (l : List NodeCell). length l) is))
last_key usable last shown node items (Some rowid) rise leaf is_last =
    let found = last_item usable last shown node.cells leaf.some is_last.0 leaf.items_are is_last.1.0 in
    let front = leaf.of.front ++ found.0 in
    let whole : items ≡ front ++ found.1.0 ∷ [] =
    leaf.of.items_are ∙ ap (λ (l : List Item). leaf.of.front ++ l) found.1.1.0 ∙ sym (append_assoc leaf.of.front found.0 (found.1.0 ∷ [])) in
    let key : found.1.0.key ≡ rowid = found.1.1.1 ∙ sym is_last.1.1 in
    (front, (found.1.0, (whole, (key, subst (λ (z : ℤ). Each (λ (other : Item). other.key <ℤ z) front) key (below_last front found.1.0 (subst KeysRise whole rise))))))

end_all : (items : List Item) → IsEnd items items
end_all items = record { front = []; items_are = refl; whole = inl refl }

pub finds_last : {P : Type 0} (pages : Ghosts P) (old : P) (root : ℕ) (found : Option ℤ) (new : P) → HasLookedLast pages old root (Ok found) new
    → FindsLast pages old root found new
finds_last pages old root found new looked = λ world told bound height own items tree.
    let usable = pages.usable old in
    let shown = shown_over pages old world in
    let under = at_end true usable bound (pages.last_page old) shown (IsEnd items) (NamesChild shown Last) 0 root looked.way looked.below height (length looked.way) (omega arith)
    (last_steps usable bound shown items) (looked.leads world told) (at_root true usable bound shown (IsEnd items) height root own items (end_all items) tree) in
    let at = (looked.ends world told).1 in
    last_key usable bound shown at.node items found (tree_rises usable bound shown height root own items tree)
    (leaf_items usable bound shown (IsEnd items) (length looked.way) looked.below height under at.node at.shows.holds at.leaf) at.is_last

pub fails_last : {P : Type 0} (pages : Ghosts P) (old : P) (root : ℕ) (why : FetchFault) (new : P) → HasLookedLast pages old root (Err why) new
    → FailsLast pages old root why new
fails_last pages old root fault.Disk new looked = λ items there. looked.cause
fails_last pages old root (fault.Corrupt page) new looked = λ items there.
    let usable = pages.usable old in
    let last = pages.last_page old in
    let shown = shown_over pages old there.world in
    breaks_none true usable last shown (IsEnd items) (NamesChild shown Last) root there.height looked.way looked.below looked.after page there.least there.most there.low (last_steps usable last shown items)
    (at_end true usable last last shown (IsEnd items) (NamesChild shown Last) 0 root looked.way looked.below there.height (length looked.way) (omega arith)
    (last_steps usable last shown items) (looked.leads there.world there.told) (at_root true usable last shown (IsEnd items) there.height root there.own items (end_all items) there.tree))
    (looked.ends there.world there.told)
fails_last pages old root (fault.Size count) new looked = λ items there. looked.cause
fails_last pages old root fault.Memory new looked = λ items there. tt

pub if_last : {P : Type 0} (pages : Ghosts P) (old : P) (root : ℕ) (result : Result (Option ℤ) FetchFault) (new : P)
    → HasLookedLast pages old root result new → IfOk result (λ found. FindsLast pages old root found new)
if_last pages old root (Ok found) new looked = finds_last pages old root found new looked
if_last pages old root (Err why) new looked = tt

pub if_no_last : {P : Type 0} (pages : Ghosts P) (old : P) (root : ℕ) (result : Result (Option ℤ) FetchFault) (new : P)
    → HasLookedLast pages old root result new → IfErr result (λ why. FailsLast pages old root why new)
if_no_last pages old root (Ok found) new looked = tt
if_no_last pages old root (Err why) new looked = fails_last pages old root why new looked

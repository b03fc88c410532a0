-- The cells of an index's node: the entry of each, and the pages of its chain.
use Rattle.std.proofs.Common.{◌≡◌, ℕ, zero, suc, ◌+◌, ◌<◌, ◌≤◌, false, List, [], ◌∷◌, ◌++◌, length, inl, inr, refl, sym, subst, ap, ◌∙◌, arith, append_assoc, append-nil, eq-eqb}
use Rattle.std.specs.Prelude.{slice_index_or}
use Rattle.std.proofs.lemmas.Bool.{cases_eq, ne_eqb}
use Rattle.node_spec.specs.Cells.{NodeCell}
use Rattle.node_spec.specs.Nodes.{Node, no_cell, cell_at}
use Rattle.tree_spec.specs.Shown.{Shown}
use Rattle.tree_spec.specs.Layout.{Each, Item, times, chains}
use Rattle.tree_spec.specs.Trees.{AreItems, AreUnder, IsItem, IsChild, Content}
use Rattle.tree_spec.proofs.Lists.{times-append}
use Rattle.overflow.proofs.Chains.{no_chain, chain_rest}
use Rattle.value_form.specs.declared.value.Value.{Value}
use Rattle.value_form.specs.Record.{IsRecord}
use Rattle.tree_read.specs.Payloads.{chain_size, IsFollowed, AreOfChain, BreaksPayload}
use Rattle.tree_read.specs.Looking.{IsNoRow}
use Rattle.tree_read.specs.Entries.{IsOfCells, BreaksCell, IsAmong}
use Rattle.tree_read.proofs.Trees.{whole_payload}
use Rattle.tree_scan.specs.Reads.{NoOftener, StandIn}
use Rattle.tree_scan.proofs.Within.{within_same, within_front, within_past}

-- a payload that is broken is no row
pub no_row_of : (usable last : ℕ) (shown : Shown) (cell : NodeCell) (chain : List ℕ) (below named : ℕ) (item : Item) → IsItem usable last shown cell item
    → BreaksPayload usable last shown cell below chain named → IsNoRow usable last shown item
no_row_of usable last shown cell chain below named item is (BreaksPayload.TooLarge none same large) = inr (cell, (is, large))
no_row_of usable last shown cell chain below named item is (BreaksPayload.BreaksOff next left followed same some outside) =
    absurd (no_chain usable last shown cell.overflow (chain_size cell) chain next left item.chain some outside followed.1 is.chain)
no_row_of usable last shown cell chain below named item is (BreaksPayload.NoRecord next followed same none) =
    inl (subst (λ (b : List ℕ). (row : List Value) → IsRecord b row → ⊥) (whole_payload usable last last shown cell chain next item followed is) none)

-- the entry of a cell
pub record EntryAt (usable last : ℕ) (shown : Shown) (cell : NodeCell) (below : List ℕ) (items : List Item) : Type 0 where
  pub item : Item
  pub among : IsAmong items item
  pub is_item : IsItem usable last shown cell item
  pub within : NoOftener item.chain below

in_leaf : (usable last : ℕ) (shown : Shown) (cells : List NodeCell) (items : List Item) (k : ℕ) → AreItems false usable last shown cells items → k < length cells
    → EntryAt usable last shown (slice_index_or cells k no_cell) (chains items) items
in_leaf usable last shown [] items k are inside = absurd (omega (arith, inside))
in_leaf usable last shown (cell ∷ cells) [] k never inside = absurd never
in_leaf usable last shown (cell ∷ cells) (item ∷ items) zero are inside = record {
  item = item;
  among = record { front = []; back = items; items_are = refl };
  is_item = are.0;
  within = within_front item.chain item.chain (chains items) (within_same item.chain);
}
in_leaf usable last shown (cell ∷ cells) (item ∷ items) (suc k) are inside =
    let found = in_leaf usable last shown cells items k are.2 (omega (arith, inside)) in
    record {
      item = found.item;
      among = record {
        front = item ∷ found.among.front;
        back = found.among.back;
        items_are = ap (λ (l : List Item). item ∷ l) found.among.items_are;
      };
      is_item = found.is_item;
      within = within_past found.item.chain item.chain (chains items) found.within;
    }

-- what is among a part is among all
pub among_part : (front some back items : List Item) (item : Item) → items ≡ front ++ (some ++ back) → IsAmong some item → IsAmong items item
among_part front some back items item is among = record {
  front = front ++ among.front;
  back = among.back ++ back;
  items_are = is ∙ ap (λ (l : List Item). front ++ (l ++ back)) among.items_are ∙ ap (λ (l : List Item). front ++ l) (append_assoc among.front (item ∷ among.back) back)
      ∙ sym (append_assoc front among.front (item ∷ (among.back ++ back)));
}

in_inner : (usable last : ℕ) (shown : Shown) (IsSub : ℕ → List ℕ → List Item → Type 0) (cells : List NodeCell) (right : ℕ) (own : List ℕ) (items : List Item) (k : ℕ)
    → AreUnder false usable last shown IsSub cells right own items → k < length cells → EntryAt usable last shown (slice_index_or cells k no_cell) own items
in_inner usable last shown IsSub [] right own items k under inside = absurd (omega (arith, inside))
in_inner usable last shown IsSub (cell ∷ cells) right own items zero under inside =
    let item = under.middle_is.0 in
    let are : under.middle ≡ item ∷ [] = under.middle_is.1 in
    record {
      item = item;
      among = among_part under.under under.middle under.rest items item under.items_are (record { front = []; back = []; items_are = are });
      is_item = under.middle_is.2;
      within = subst (NoOftener item.chain) (sym under.own_is) (within_past item.chain under.under_own (chains under.middle ++ under.rest_own)
          (within_front item.chain (chains under.middle) under.rest_own
          (subst (λ (m : List Item). NoOftener item.chain (chains m)) (sym are) (within_front item.chain item.chain [] (within_same item.chain)))));
    }
in_inner usable last shown IsSub (cell ∷ cells) right own items (suc k) under inside =
    let found = in_inner usable last shown IsSub cells right under.rest_own under.rest k under.others (omega (arith, inside)) in
    record {
      item = found.item;
      among = among_part (under.under ++ under.middle) under.rest [] items found.item
          (under.items_are ∙ sym (append_assoc under.under under.middle under.rest) ∙ ap (λ (l : List Item). (under.under ++ under.middle) ++ l) (sym (append-nil under.rest))) found.among;
      is_item = found.is_item;
      within = subst (NoOftener found.item.chain) (sym under.own_is) (within_past found.item.chain under.under_own (chains under.middle ++ under.rest_own)
          (within_past found.item.chain (chains under.middle) under.rest_own found.within));
    }

pub entry_at : (usable last : ℕ) (shown : Shown) (height : ℕ) (node : Node) (below : List ℕ) (items : List Item) (k : ℕ) → Content false usable last shown height node below items
    → k < length node.cells → EntryAt usable last shown (cell_at node k) below items
entry_at usable last shown zero node below items k content inside =
    subst (λ (b : List ℕ). EntryAt usable last shown (cell_at node k) b items) (sym content.below_is) (in_leaf usable last shown node.cells items k content.items_are inside)
entry_at usable last shown (suc height) node below items k content inside =
    in_inner usable last shown (IsChild last shown (Content false usable last shown height)) node.cells node.right below items k content.under inside

-- a cell whose payload is broken
pub broken_entry : (usable last : ℕ) (shown : Shown) (height : ℕ) (node : Node) (below : List ℕ) (items : List Item) (page named : ℕ)
    → Content false usable last shown height node below items → BreaksCell usable last shown node page named
    → (item : Item) × (IsAmong items item × IsNoRow usable last shown item)
broken_entry usable last shown height node below items page named content breaks =
    let found = entry_at usable last shown height node below items breaks.k content breaks.inside in
    (found.item, (found.among, no_row_of usable last shown (cell_at node breaks.k) breaks.chain page named found.item found.is_item breaks.breaks))

-- the pages of the cells' chains are of the node
followed : (usable last : ℕ) (shown : Shown) (cell : NodeCell) (list : List ℕ) → 1 ≤ length list → AreOfChain usable last shown cell list
    → (next : ℕ) × ((left : ℕ) × IsFollowed usable last shown cell list next left)
followed usable last shown cell [] some are = absurd (omega (arith, some))
followed usable last shown cell (p ∷ ps) some are = are

in_list : (front rest : List ℕ) (page : ℕ) → 1 ≤ times (front ++ page ∷ rest) page
in_list [] rest page = rw (eq-eqb page page refl) (omega arith)
in_list (p ∷ front) rest page = omega (arith, in_list front rest page)

some_there : (front rest : List ℕ) (page : ℕ) → 1 ≤ length (front ++ page ∷ rest)
some_there [] rest page = omega arith
some_there (p ∷ front) rest page = omega arith

one_read : (usable last most : ℕ) (shown : Shown) (height : ℕ) (node : Node) (below : List ℕ) (items : List Item) (page : ℕ) → Content false usable last shown height node below items
    → IsOfCells usable most shown node page → 1 ≤ times below page
one_read usable last most shown height node below items page content of =
    let found = entry_at usable last shown height node below items of.k content of.inside in
    let list = of.front ++ page ∷ of.rest in
    let goes = followed usable most shown (cell_at node of.k) list (some_there of.front of.rest page) of.are in
    let rest = chain_rest usable most last shown (cell_at node of.k).overflow (chain_size (cell_at node of.k)) list goes.0 goes.1.0 found.item.chain goes.1.1.1 found.is_item.chain in
    let there : 1 ≤ times found.item.chain page = subst (λ (l : List ℕ). 1 ≤ times l page) (sym rest.1)
    (omega (arith, times-append list rest.0 page, in_list of.front of.rest page)) in
    omega (arith, there, found.within page)

pub cells_read : (usable last most : ℕ) (shown : Shown) (height : ℕ) (node : Node) (below : List ℕ) (items : List Item) (list : List ℕ)
    → Content false usable last shown height node below items → Each (IsOfCells usable most shown node) list → StandIn list below
cells_read usable last most shown height node below items [] content are = λ page here. absurd (omega (arith, here))
cells_read usable last most shown height node below items (p ∷ ps) content are = λ page.
    by_page p ps page (one_read usable last most shown height node below items p content are.0)
    (cells_read usable last most shown height node below items ps content are.1 page)
  where
    by_page : (p : ℕ) (ps : List ℕ) (page : ℕ) → 1 ≤ times below p → (1 ≤ times ps page → 1 ≤ times below page) → 1 ≤ times (p ∷ ps) page → 1 ≤ times below page
    by_page p ps page first rest here = elim (cases_eq p page) [
      | inl same ↦ subst (λ (n : ℕ). 1 ≤ times below n) same first
      | inr other ↦ (let less : 1 ≤ 0 + times ps page = rw (ne_eqb p page other) at here in rest (omega (arith, less)))
    ]

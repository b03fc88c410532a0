-- A child that was edited and has no cell left is joined with the neighbour on its right or its left; and an entry of an index's interior page that the last one under
-- it replaces.
use Rattle.std.proofs.Common.{◌≡◌, ℕ, ◌+◌, ◌≤◌, Bool, List, [], ◌∷◌, ◌++◌, length, refl, sym, subst, ap, ◌∙◌, arith, inl, inr, Some, append_assoc, append-nil}
use Rattle.node_spec.specs.Cells.{NodeCell}
use Rattle.node_spec.specs.Nodes.{Node}
use Rattle.tree_spec.specs.Layout.{times, Item, chains}
use Rattle.tree_spec.specs.Shown.{Shown}
use Rattle.tree_spec.specs.Trees.{AreUnder, Content}
use Rattle.edit_spec.specs.Nodes.{ShowTogether}
use Rattle.edit_spec.specs.Joins.{Joins}
use Rattle.edit_spec.specs.Places.{Gap, EndsIn, BeginsIn, AreAbove, AreAtMost}
use Rattle.edit_spec.specs.Edits.{IsSubtree, lefts, LeadInRange, EditedPages, IsEdited, IsReplaced, StandOnce, KeepAlike}
use Rattle.edit_spec.proofs.Lists.{cons_count, counts_same, three_counts, page_there, none_among}
use Rattle.edit_spec.proofs.Orders.{divides, divided_upto, divided_above, above_exchanged, upto_exchanged, exchanged_among, exchanged_of}
use Rattle.edit_spec.proofs.Local.{AllAlike, own_moves, says_itself, child_moves}
use Rattle.edit_spec.proofs.Joins.{replaced_joined}

-- a child has its page among its own
pub child_head : (table : Bool) (usable last : ℕ) (shown : Shown) (height page : ℕ) (own : List ℕ) (items : List Item) → IsSubtree table usable last shown height page own items → 1 ≤ times own page
child_head table usable last shown height page own items child =
    subst (λ (l : List ℕ). 1 ≤ times l page) (sym child.holds.own_is) (omega (arith, page_there page, cons_count page child.holds.below page))

-- what a child's page shows and leads to; it has a cell
pub record Opened (table : Bool) (usable last : ℕ) (shown : Shown) (height page : ℕ) (node : Node) (own : List ℕ) (items : List Item) : Type 0 where
  pub below : List ℕ
  pub own_is : own ≡ page ∷ below
  pub content : Content table usable last shown height node below items
  pub some : 1 ≤ length node.cells

pub open_child : (table : Bool) (usable last : ℕ) (shown : Shown) (height page : ℕ) (node : Node) (own : List ℕ) (items : List Item) → shown.node page ≡ Some node
    → IsSubtree table usable last shown height page own items → Opened table usable last shown height page node own items
open_child table usable last shown height page node own items holds child =
    let both : Some child.holds.node ≡ Some node = sym child.holds.holds ∙ holds in
    let same : child.holds.node ≡ node = cc in
    record {
      below = child.holds.below;
      own_is = child.holds.own_is;
      content = subst (λ (n : Node). Content table usable last shown height n child.holds.below items) same child.holds.content;
      some = subst (λ (n : Node). 1 ≤ length n.cells) same (elim child.holds.enough [ inl first ↦ absurd (omega (arith, first, child.least)) | inr many ↦ many ]);
    }

-- pages beside those in which an edit was
pub beside : (shown mid : Shown) (pages : EditedPages) (own edited few : List ℕ) → StandOnce own pages.fresh → ((n : ℕ) → 1 ≤ times pages.put n → 1 ≤ times edited n)
    → ((n : ℕ) → times edited n + times few n ≤ times own n) → KeepAlike shown mid own pages.put → AllAlike shown mid few
beside shown mid pages own edited few once within parts alike n there =
    alike n (omega (arith, parts n, there)) (none_among pages.put edited n within (omega (arith, parts n, there, once n)))

-- The left one of two neighbours was edited and has no cell left.
pub replaced_left : (table : Bool) (usable last last_mid last_then : ℕ) (shown mid then : Shown) (height right : ℕ) (cell : NodeCell) (left two whole : Node) (news : List NodeCell) (place : Gap)
    (out into : List Item) (pages : EditedPages) (own : List ℕ) (items : List Item) → last ≤ last_mid → last_mid ≤ last_then
    → (under : AreUnder table usable last shown (IsSubtree table usable last shown height) (cell ∷ []) right own items)
    → IsEdited table usable last_mid mid height cell.left left [] place out into pages under.under_own under.under
    → AreAtMost table cell.rowid into → BeginsIn place.Behind (under.middle ++ under.rest)
    → StandOnce own pages.fresh → KeepAlike shown mid own pages.put → KeepAlike mid then (own ++ pages.fresh) (cell.left ∷ (right ∷ []))
    → mid.node right ≡ Some two → Joins left cell two whole → ShowTogether then.node news right whole → LeadInRange last_then news
    → IsReplaced table usable last_then then height news right place out into
    (record { fresh = pages.fresh ++ lefts news; lost = pages.lost ++ (cell.left ∷ []); put = cell.left ∷ (right ∷ pages.put) }) own items
replaced_left table usable last last_mid last_then shown mid then height right cell left two whole news place out into pages own items more more_then under done up_to begins once first second holds joins shows ranged =
    let counted : (n : ℕ) → times own n ≡ times under.under_own n + (times (chains under.middle) n + times under.rest_own n) = λ n. three_counts own under.under_own (chains under.middle) under.rest_own n under.own_is in
    let rest_sub : IsSubtree table usable last shown height right under.rest_own under.rest = under.others in
    let right_then = child_moves table usable last last_mid shown mid height right under.rest_own under.rest more
    (beside shown mid pages own under.under_own under.rest_own once done.moved.within (λ n. omega (arith, counted n)) first) rest_sub in
    let opened : Opened table usable last_mid mid height right two under.rest_own under.rest = open_child table usable last_mid mid height right two under.rest_own under.rest holds right_then in
    let middle_then = own_moves table usable last last_mid shown mid cell cell under.middle more
    (beside shown mid pages own under.under_own (chains under.middle) once done.moved.within (λ n. omega (arith, counted n)) first) (says_itself cell) under.middle_is in
    replaced_joined table usable last_mid last_then mid then height cell.left right left two whole cell news place out into pages own items done.below opened.below done.items_then under.middle under.rest
    more_then rest_sub.least (omega (arith, rest_sub.most, more, more_then))
    (omega (arith, child_head table usable last shown height cell.left under.under_own under.under under.sub, counted cell.left))
    (omega (arith, child_head table usable last shown height right under.rest_own under.rest rest_sub, counted right))
    (record {
      counts = λ n. omega (
        arith,
        counted n,
        done.moved.counts n,
        counts_same under.rest_own (right ∷ opened.below) n opened.own_is,
        three_counts ((cell.left ∷ done.below) ++ (chains under.middle ++ (right ∷ opened.below))) (cell.left ∷ done.below) (chains under.middle) (right ∷ opened.below) n refl,
      );
      within = λ n there. omega (arith, counted n, done.moved.within n there);
      held = λ n there. omega (arith, counted n, done.moved.held n there);
      apart = done.moved.apart;
    })
    once second done.content opened.content middle_then
    (divides table cell done.items_then under.rest (upto_exchanged table cell.rowid place out into under.under done.items_then done.exchanged up_to (divided_upto table cell under.under under.rest under.divided))
    (divided_above table cell under.under under.rest under.divided))
    joins (omega (arith, opened.some)) shows ranged
    (exchanged_of place out into ([] ++ (under.under ++ (under.middle ++ under.rest))) ([] ++ (done.items_then ++ (under.middle ++ under.rest))) items (done.items_then ++ (under.middle ++ under.rest))
    under.items_are refl (exchanged_among place out into [] under.under (under.middle ++ under.rest) done.items_then tt begins done.exchanged))

-- And the right one.
pub replaced_right : (table : Bool) (usable last last_mid last_then : ℕ) (shown mid then : Shown) (height right : ℕ) (cell : NodeCell) (one left whole : Node) (news : List NodeCell) (place : Gap)
    (out into : List Item) (pages : EditedPages) (own : List ℕ) (items : List Item) → last ≤ last_mid → last_mid ≤ last_then
    → (under : AreUnder table usable last shown (IsSubtree table usable last shown height) (cell ∷ []) right own items)
    → IsEdited table usable last_mid mid height right left [] place out into pages under.rest_own under.rest
    → AreAbove table cell.rowid into → EndsIn place.Before (under.under ++ under.middle)
    → StandOnce own pages.fresh → KeepAlike shown mid own pages.put → KeepAlike mid then (own ++ pages.fresh) (cell.left ∷ (right ∷ []))
    → mid.node cell.left ≡ Some one → Joins one cell left whole → ShowTogether then.node news right whole → LeadInRange last_then news
    → IsReplaced table usable last_then then height news right place out into
    (record { fresh = pages.fresh ++ lefts news; lost = pages.lost ++ (cell.left ∷ []); put = cell.left ∷ (right ∷ pages.put) }) own items
replaced_right table usable last last_mid last_then shown mid then height right cell one left whole news place out into pages own items more more_then under done above ends once first second holds joins shows ranged =
    let counted : (n : ℕ) → times own n ≡ times under.under_own n + (times (chains under.middle) n + times under.rest_own n) = λ n. three_counts own under.under_own (chains under.middle) under.rest_own n under.own_is in
    let rest_sub : IsSubtree table usable last shown height right under.rest_own under.rest = under.others in
    let left_then = child_moves table usable last last_mid shown mid height cell.left under.under_own under.under more
    (beside shown mid pages own under.rest_own under.under_own once done.moved.within (λ n. omega (arith, counted n)) first) under.sub in
    let opened : Opened table usable last_mid mid height cell.left one under.under_own under.under = open_child table usable last_mid mid height cell.left one under.under_own under.under holds left_then in
    let middle_then = own_moves table usable last last_mid shown mid cell cell under.middle more
    (beside shown mid pages own under.rest_own (chains under.middle) once done.moved.within (λ n. omega (arith, counted n)) first) (says_itself cell) under.middle_is in
    replaced_joined table usable last_mid last_then mid then height cell.left right one left whole cell news place out into pages own items opened.below done.below under.under under.middle done.items_then
    more_then rest_sub.least (omega (arith, rest_sub.most, more, more_then))
    (omega (arith, child_head table usable last shown height cell.left under.under_own under.under under.sub, counted cell.left))
    (omega (arith, child_head table usable last shown height right under.rest_own under.rest rest_sub, counted right))
    (record {
      counts = λ n. omega (
        arith,
        counted n,
        done.moved.counts n,
        counts_same under.under_own (cell.left ∷ opened.below) n opened.own_is,
        three_counts ((cell.left ∷ opened.below) ++ (chains under.middle ++ (right ∷ done.below))) (cell.left ∷ opened.below) (chains under.middle) (right ∷ done.below) n refl,
      );
      within = λ n there. omega (arith, counted n, done.moved.within n there);
      held = λ n there. omega (arith, counted n, done.moved.held n there);
      apart = done.moved.apart;
    })
    once second opened.content done.content middle_then
    (divides table cell under.under done.items_then (divided_upto table cell under.under under.rest under.divided)
    (above_exchanged table cell.rowid place out into under.rest done.items_then done.exchanged above (divided_above table cell under.under under.rest under.divided)))
    joins (omega (arith, opened.some)) shows ranged
    (exchanged_of place out into ((under.under ++ under.middle) ++ (under.rest ++ [])) ((under.under ++ under.middle) ++ (done.items_then ++ [])) items (under.under ++ (under.middle ++ done.items_then))
    (under.items_are ∙ parted under.under under.middle under.rest) (parted under.under under.middle done.items_then)
    (exchanged_among place out into (under.under ++ under.middle) under.rest [] done.items_then ends tt done.exchanged))
  where
    parted : (a b c : List Item) → a ++ (b ++ c) ≡ (a ++ b) ++ (c ++ [])
    parted a b c = sym (append_assoc a b c) ∙ ap (λ (l : List Item). (a ++ b) ++ l) (sym (append-nil c))

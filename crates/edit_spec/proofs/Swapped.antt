-- An entry of an index's interior page goes: the last entry under its left child, which was taken out there, takes its place.
use Rattle.std.proofs.Common.{◌≡◌, ℕ, ◌+◌, ◌≤◌, false, List, [], ◌∷◌, ◌++◌, refl, sym, subst, ap, ◌∙◌, arith, Some, append_assoc, append-nil}
use Rattle.node_spec.specs.Cells.{NodeCell}
use Rattle.node_spec.specs.Nodes.{Node}
use Rattle.tree_spec.specs.Layout.{times, Item, chains}
use Rattle.tree_spec.specs.Shown.{Shown}
use Rattle.tree_spec.specs.Trees.{IsItem, AreUnder}
use Rattle.edit_spec.specs.Nodes.{ShowTogether}
use Rattle.edit_spec.specs.Joins.{Joins}
use Rattle.edit_spec.specs.Places.{somewhere, past_all}
use Rattle.edit_spec.specs.Edits.{IsSubtree, lefts, LeadInRange, EditedPages, Exchanges, IsEdited, IsReplaced, StandOnce, KeepAlike}
use Rattle.edit_spec.proofs.Lists.{counts_same, three_counts, none_among}
use Rattle.edit_spec.proofs.Orders.{ends_somewhere, begins_somewhere, none_behind}
use Rattle.edit_spec.proofs.Local.{child_moves}
use Rattle.edit_spec.proofs.Under.{child_some, under_joined}
use Rattle.edit_spec.proofs.Joins.{replaced_joined}
use Rattle.edit_spec.proofs.Neighbours.{child_head, Opened, open_child, beside}

-- a list whose last item went, and that item before what follows
put_last : (x u before after rest : List Item) (item : Item) → u ≡ before ++ ((item ∷ []) ++ after) → x ≡ before ++ ([] ++ after) → after ≡ [] → x ++ (item ∷ rest) ≡ u ++ rest
put_last x u before after rest item u_is x_is none =
    ap (λ (l : List Item). l ++ (item ∷ rest)) (x_is ∙ (ap (λ (l : List Item). before ++ l) none ∙ append-nil before))
    ∙ (sym (append_assoc before (item ∷ []) rest) ∙ ap (λ (l : List Item). l ++ rest) (sym (u_is ∙ ap (λ (l : List Item). before ++ (item ∷ l)) none)))

-- the entry that went, where the last one under it took its place
swapped_exchange : (items under rest x : List Item) (entry final : Item) → items ≡ under ++ ((entry ∷ []) ++ rest) → Exchanges past_all (final ∷ []) [] under x
    → Exchanges somewhere (entry ∷ []) [] items (x ++ ((final ∷ []) ++ rest))
swapped_exchange items under rest x entry final items_are is = record {
  before = under;
  after = rest;
  items_are = items_are;
  then_are = put_last x under is.before is.after rest final is.items_are is.then_are (none_behind is.after is.begins);
  ends = ends_somewhere under;
  begins = begins_somewhere rest;
}

-- the pages of that
swapped_counts : (own mine entry rest fresh mine_then lost final whole : ℕ) → own ≡ mine + (entry + rest) → mine + fresh ≡ mine_then + (lost + final) → whole ≡ mine_then + (final + rest)
    → own + fresh ≡ whole + (lost + entry)
swapped_counts own mine entry rest fresh mine_then lost final whole a b c = omega (arith, a, b, c)

-- The left child still has a cell.
pub replaced_swapped : (usable last last_mid : ℕ) (shown mid : Shown) (height right : ℕ) (old cell : NodeCell) (news : List NodeCell) (pages : EditedPages) (own : List ℕ) (items : List Item)
    (entry final : Item) → last ≤ last_mid
    → (under : AreUnder false usable last shown (IsSubtree false usable last shown height) (old ∷ []) right own items) → under.middle ≡ entry ∷ []
    → IsReplaced false usable last_mid mid height news old.left past_all (final ∷ []) [] pages under.under_own under.under → cell.left ≡ old.left → IsItem usable last_mid mid cell final
    → StandOnce own pages.fresh → KeepAlike shown mid own pages.put
    → IsReplaced false usable last_mid mid height (news ++ (cell ∷ [])) right somewhere (entry ∷ []) [] pages own items
replaced_swapped usable last last_mid shown mid height right old cell news pages own items entry final more under entry_is done left_is holds once alike =
    let counted : (n : ℕ) → times own n ≡ times under.under_own n + (times (chains (entry ∷ [])) n + times under.rest_own n) = λ n.
    three_counts own under.under_own (chains (entry ∷ [])) under.rest_own n (under.own_is ∙ ap (λ (l : List Item). under.under_own ++ (chains l ++ under.rest_own)) entry_is) in
    let rest_then = child_moves false usable last last_mid shown mid height right under.rest_own under.rest more
    (beside shown mid pages own under.under_own under.rest_own once done.moved.within (λ n. omega (arith, counted n)) alike) under.others in
    record {
      own_then = done.own_then ++ (chains (final ∷ []) ++ under.rest_own);
      items_then = done.items_then ++ ((final ∷ []) ++ under.rest);
      grown = under_joined false usable last_mid mid (IsSubtree false usable last_mid mid height) (child_some false usable last_mid mid height) news [] cell right done.own_then under.rest_own
          done.items_then (final ∷ []) under.rest
          (subst (λ (r : ℕ). AreUnder false usable last_mid mid (IsSubtree false usable last_mid mid height) news r done.own_then done.items_then) (sym left_is) done.grown)
          (final, refl, holds) tt rest_then;
      exchanged = swapped_exchange items under.under under.rest done.items_then entry final (under.items_are ∙ ap (λ (l : List Item). under.under ++ (l ++ under.rest)) entry_is) done.exchanged;
      moved = record {
        counts = λ n. swapped_counts (times own n) (times under.under_own n) (times (chains (entry ∷ [])) n) (times under.rest_own n) (times pages.fresh n) (times done.own_then n) (times pages.lost n)
            (times (chains (final ∷ [])) n) (times (done.own_then ++ (chains (final ∷ []) ++ under.rest_own)) n) (counted n) (done.moved.counts n)
            (three_counts (done.own_then ++ (chains (final ∷ []) ++ under.rest_own)) done.own_then (chains (final ∷ [])) under.rest_own n refl);
        within = λ n there. omega (arith, counted n, done.moved.within n there);
        held = λ n there. omega (arith, counted n, there);
        apart = λ n there. none_among pages.put under.under_own n done.moved.within (omega (arith, counted n, there, once n));
      };
    }

-- It has none, and was joined with its neighbour under the cell that took the place.
pub swapped_joined : (usable last last_mid last_then : ℕ) (shown mid then : Shown) (height right : ℕ) (old cell : NodeCell) (left two whole : Node) (news : List NodeCell) (pages : EditedPages)
    (own : List ℕ) (items : List Item) (entry final : Item) → last ≤ last_mid → last_mid ≤ last_then
    → (under : AreUnder false usable last shown (IsSubtree false usable last shown height) (old ∷ []) right own items) → under.middle ≡ entry ∷ []
    → IsEdited false usable last_mid mid height old.left left [] past_all (final ∷ []) [] pages under.under_own under.under → IsItem usable last_mid mid cell final
    → StandOnce own pages.fresh → KeepAlike shown mid own pages.put → KeepAlike mid then (own ++ pages.fresh) (old.left ∷ (right ∷ []))
    → mid.node right ≡ Some two → Joins left cell two whole → ShowTogether then.node news right whole → LeadInRange last_then news
    → IsReplaced false usable last_then then height news right somewhere (entry ∷ []) []
    (record { fresh = pages.fresh ++ lefts news; lost = pages.lost ++ (old.left ∷ []); put = old.left ∷ (right ∷ pages.put) }) own items
swapped_joined usable last last_mid last_then shown mid then height right old cell left two whole news pages own items entry final more more_then under entry_is done holds once first second two_holds joins shows ranged =
    let counted : (n : ℕ) → times own n ≡ times under.under_own n + (times (chains (entry ∷ [])) n + times under.rest_own n) = λ n.
    three_counts own under.under_own (chains (entry ∷ [])) under.rest_own n (under.own_is ∙ ap (λ (l : List Item). under.under_own ++ (chains l ++ under.rest_own)) entry_is) in
    let rest_sub : IsSubtree false usable last shown height right under.rest_own under.rest = under.others in
    let right_then = child_moves false usable last last_mid shown mid height right under.rest_own under.rest more
    (beside shown mid pages own under.under_own under.rest_own once done.moved.within (λ n. omega (arith, counted n)) first) rest_sub in
    let opened : Opened false usable last_mid mid height right two under.rest_own under.rest = open_child false usable last_mid mid height right two under.rest_own under.rest two_holds right_then in
    replaced_joined false usable last_mid last_then mid then height old.left right left two whole cell news somewhere (entry ∷ []) [] pages own items done.below opened.below done.items_then (final ∷ []) under.rest
    more_then rest_sub.least (omega (arith, rest_sub.most, more, more_then))
    (omega (arith, child_head false usable last shown height old.left under.under_own under.under under.sub, counted old.left))
    (omega (arith, child_head false usable last shown height right under.rest_own under.rest rest_sub, counted right))
    (record {
      counts = λ n. swapped_counts (times own n) (times under.under_own n) (times (chains (entry ∷ [])) n) (times under.rest_own n) (times pages.fresh n) (times (old.left ∷ done.below) n) (times pages.lost n)
          (times (chains (final ∷ [])) n) (times ((old.left ∷ done.below) ++ (chains (final ∷ []) ++ (right ∷ opened.below))) n) (counted n) (done.moved.counts n)
          (rw (counts_same under.rest_own (right ∷ opened.below) n opened.own_is)
          (three_counts ((old.left ∷ done.below) ++ (chains (final ∷ []) ++ (right ∷ opened.below))) (old.left ∷ done.below) (chains (final ∷ [])) (right ∷ opened.below) n refl));
      within = λ n there. omega (arith, counted n, done.moved.within n there);
      held = λ n there. omega (arith, counted n, there);
      apart = λ n there. none_among pages.put under.under_own n done.moved.within (omega (arith, counted n, there, once n));
    })
    once second done.content opened.content (final, refl, holds) tt joins (omega (arith, opened.some)) shows ranged
    (swapped_exchange items under.under under.rest done.items_then entry final (under.items_are ∙ ap (λ (l : List Item). under.under ++ (l ++ under.rest)) entry_is) done.exchanged)

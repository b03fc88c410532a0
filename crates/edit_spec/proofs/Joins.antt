-- A child that has no cell left is joined with a neighbour: the left one of the two goes.
use Rattle.std.proofs.Common.{◌≡◌, ℕ, ℤ, zero, suc, ◌+◌, ◌≤◌, ◌<ℤ◌, ◌≤ℤ◌, Bool, true, false, List, [], ◌∷◌, ◌++◌, length, refl, sym, subst, ap, ap₂, ◌∙◌, arith, length-append}
use Rattle.std.proofs.lemmas.Int.{ints}
use Rattle.std.specs.Prelude.{◌&&◌}
use Rattle.node_spec.specs.Kinds.{is_leaf, is_table}
use Rattle.node_spec.specs.Cells.{NodeCell}
use Rattle.node_spec.specs.Nodes.{Node}
use Rattle.tree_spec.specs.Layout.{times, Each, Item, chains}
use Rattle.tree_spec.specs.Shown.{Shown, IsAlike}
use Rattle.tree_spec.specs.Trees.{IsItem, IsOwn, AreItems, AreDivided, AreUnder, Content}
use Rattle.tree_spec.proofs.Lists.{times-append, chains-append}
use Rattle.edit_spec.specs.Nodes.{ByLeafOfTable, ShowTogether}
use Rattle.edit_spec.specs.Joins.{Joins, JoinsRows, JoinsBetween}
use Rattle.edit_spec.specs.Places.{Gap, AreAbove, AreAtMost}
use Rattle.edit_spec.specs.Edits.{IsSubtree, lefts, LeadInRange, EditedPages, MovesPages, Exchanges, IsReplaced, StandOnce, KeepAlike}
use Rattle.edit_spec.proofs.Lists.{cons_count, three_counts, the_page, one_of_two}
use Rattle.edit_spec.proofs.Local.{AllAlike, item_moves, own_moves, content_moves}
use Rattle.edit_spec.proofs.Under.{child_some, under_joined}
use Rattle.edit_spec.proofs.Leaves.{join_items}
use Rattle.edit_spec.proofs.Grown.{Grown, content_grown, of_rows, of_entries, of_inner, divided_says}

same_view : (shown : Shown) (own : List ℕ) → AllAlike shown shown own
same_view shown own n there = record { node = refl; link = λ later. refl }

upto_below : (low middle high : ℤ) → low ≤ℤ middle → middle <ℤ high → low <ℤ high
upto_below low middle high p q = omega (arith, ints)

-- items up to a key have keys below those above it
all_apart : (key : ℤ) (x y : List Item) → AreAtMost true key x → AreAbove true key y → Each (λ (item : Item). AreAbove true item.key y) x
all_apart key [] y up_to above = tt
all_apart key (item ∷ x) y up_to above = (each_above y above, all_apart key x y up_to.1 above)
  where
    each_above : (items : List Item) → AreAbove true key items → AreAbove true item.key items
    each_above [] all = tt
    each_above (other ∷ items) all = (upto_below item.key key other.key up_to.0 all.0, each_above items all.1)

each_index : (x y : List Item) → Each (λ (item : Item). AreAbove false item.key y) x
each_index [] y = tt
each_index (item ∷ x) y = (tt, each_index x y)

chains_joined : (a b : List ℕ) (x middle y : List Item) → a ≡ chains x → b ≡ chains y → a ++ (chains middle ++ b) ≡ chains (x ++ (middle ++ y))
chains_joined a b x middle y one two =
    ap₂ (λ (k l : List ℕ). k ++ (chains middle ++ l)) one two ∙ (ap (λ (l : List ℕ). chains x ++ l) (sym (chains-append middle y)) ∙ sym (chains-append x (middle ++ y)))

-- Two neighbours joined hold what both held, and what the cell between them lists itself. Either may be without a cell.
pub content_joined : (table : Bool) (usable last : ℕ) (shown : Shown) (height : ℕ) (left right whole : Node) (cell : NodeCell) (a b : List ℕ) (x middle y : List Item)
    → Joins left cell right whole → Content table usable last shown height left a x → Content table usable last shown height right b y → IsOwn table usable last shown cell middle
    → AreDivided table cell x y → Content table usable last shown height whole (a ++ (chains middle ++ b)) (x ++ (middle ++ y))
content_joined true usable last shown zero left right whole cell a b x middle y joins one two own_is divided =
    let j : JoinsRows left right whole = of_rows (is_leaf right.kind) (is_table right.kind) (JoinsRows left right whole) (JoinsBetween left cell right whole) two.leaf two.table_is joins in
    record {
      leaf = ap is_leaf j.kind ∙ two.leaf;
      table_is = ap is_table j.kind ∙ two.table_is;
      items_are = subst (λ (l : List NodeCell). AreItems true usable last shown l (x ++ (middle ++ y))) (sym j.cells)
          (subst (λ (m : List Item). AreItems true usable last shown (left.cells ++ right.cells) (x ++ (m ++ y))) (sym own_is)
          (join_items true usable last shown left.cells right.cells x y one.items_are two.items_are (all_apart cell.rowid x y divided.0 divided.1)));
      below_is = chains_joined a b x middle y one.below_is two.below_is;
    }
content_joined false usable last shown zero left right whole cell a b x middle y joins one two own_is divided =
    let j : JoinsBetween left cell right whole = of_entries (is_leaf right.kind) (is_table right.kind) (JoinsRows left right whole) (JoinsBetween left cell right whole) two.table_is joins in
    let holds : IsItem usable last shown j.down own_is.0 = item_moves usable last last shown shown cell j.down own_is.0 (omega arith) (same_view shown own_is.0.chain) j.says own_is.2 in
    record {
      leaf = ap is_leaf j.kind ∙ two.leaf;
      table_is = ap is_table j.kind ∙ two.table_is;
      items_are = subst (λ (l : List NodeCell). AreItems false usable last shown l (x ++ (middle ++ y))) (sym j.cells)
          (subst (λ (m : List Item). AreItems false usable last shown (left.cells ++ (j.down ∷ right.cells)) (x ++ (m ++ y))) (sym own_is.1)
          (join_items false usable last shown left.cells (j.down ∷ right.cells) x (own_is.0 ∷ y) one.items_are (holds, tt, two.items_are) (each_index x (own_is.0 ∷ y))));
      below_is = chains_joined a b x middle y one.below_is two.below_is;
    }
content_joined table usable last shown (suc height) left right whole cell a b x middle y joins one two own_is divided =
    let j : JoinsBetween left cell right whole = of_inner (is_leaf right.kind) (is_table right.kind) (JoinsRows left right whole) (JoinsBetween left cell right whole) two.inner joins in
    record {
      inner = ap is_leaf j.kind ∙ two.inner;
      table_is = ap is_table j.kind ∙ two.table_is;
      under = subst (λ (l : List NodeCell). AreUnder table usable last shown (IsSubtree table usable last shown height) l whole.right (a ++ (chains middle ++ b)) (x ++ (middle ++ y))) (sym j.cells)
          (subst (λ (r : ℕ). AreUnder table usable last shown (IsSubtree table usable last shown height) (left.cells ++ (j.down ∷ right.cells)) r (a ++ (chains middle ++ b)) (x ++ (middle ++ y))) (sym j.right_is)
          (under_joined table usable last shown (IsSubtree table usable last shown height) (child_some table usable last shown height) left.cells right.cells j.down right.right a b x middle y
          (subst (λ (r : ℕ). AreUnder table usable last shown (IsSubtree table usable last shown height) left.cells r a x) (sym j.leads) one.under)
          (own_moves table usable last last shown shown cell j.down middle (omega arith) (same_view shown (chains middle)) j.says own_is)
          (divided_says table cell j.down x y j.says.rowid divided) two.under));
    }

-- what is joined has a cell, if one of the two has
pub joins_some : (left right whole : Node) (cell : NodeCell) → Joins left cell right whole → 1 ≤ length left.cells + length right.cells → 1 ≤ length whole.cells
joins_some left right whole cell joins some = by_kind (is_leaf right.kind && is_table right.kind) joins
  where
    by_kind : (rows : Bool) → ByLeafOfTable rows (JoinsRows left right whole) (JoinsBetween left cell right whole) → 1 ≤ length whole.cells
    by_kind true j = subst (λ (l : List NodeCell). 1 ≤ length l) (sym j.cells) (omega (arith, some, length-append left.cells right.cells))
    by_kind false j = subst (λ (l : List NodeCell). 1 ≤ length l) (sym j.cells) (omega (arith, length-append left.cells (j.down ∷ right.cells)))

-- Two neighbours, one of which was edited, were joined in the right one, which may have new siblings; the left one is lost.
pub replaced_joined : (table : Bool) (usable last last_then : ℕ) (mid then : Shown) (height left_page right_page : ℕ) (left right whole : Node) (cell : NodeCell) (news : List NodeCell)
    (place : Gap) (out into : List Item) (pages : EditedPages) (own : List ℕ) (items : List Item) (a b : List ℕ) (x middle y : List Item) → last ≤ last_then → 2 ≤ right_page
    → right_page ≤ last_then → 1 ≤ times own left_page → 1 ≤ times own right_page → MovesPages pages own ((left_page ∷ a) ++ (chains middle ++ (right_page ∷ b))) out
    → StandOnce own pages.fresh → KeepAlike mid then (own ++ pages.fresh) (left_page ∷ (right_page ∷ []))
    → Content table usable last mid height left a x → Content table usable last mid height right b y → IsOwn table usable last mid cell middle → AreDivided table cell x y
    → Joins left cell right whole → 1 ≤ length left.cells + length right.cells → ShowTogether then.node news right_page whole → LeadInRange last_then news
    → Exchanges place out into items (x ++ (middle ++ y))
    → IsReplaced table usable last_then then height news right_page place out into
    (record { fresh = pages.fresh ++ lefts news; lost = pages.lost ++ (left_page ∷ []); put = left_page ∷ (right_page ∷ pages.put) }) own items
replaced_joined table usable last last_then mid then height left_page right_page left right whole cell news place out into pages own items a b x middle y more least most left_own right_own moved once alike
    one two own_is divided joins some shows ranged exchanged =
    let total : (n : ℕ) → times own n + times pages.fresh n
    ≡ ((times (left_page ∷ []) n + times a n) + (times (chains middle) n + (times (right_page ∷ []) n + times b n))) + (times pages.lost n + times (chains out) n) = λ n.
    omega (arith, moved.counts n, three_counts ((left_page ∷ a) ++ (chains middle ++ (right_page ∷ b))) (left_page ∷ a) (chains middle) (right_page ∷ b) n refl, cons_count left_page a n, cons_count right_page b n) in
    let pair : (n : ℕ) → times (left_page ∷ (right_page ∷ [])) n ≡ times (left_page ∷ []) n + times (right_page ∷ []) n = λ n. cons_count left_page (right_page ∷ []) n in
    let same : (n : ℕ) → 1 ≤ times a n + (times (chains middle) n + times b n) → IsAlike mid then n = λ n there.
    alike n (omega (arith, times-append own pages.fresh n, total n, there)) (omega (arith, pair n, total n, once n, there)) in
    let content = content_joined table usable last_then then height left right whole cell a b x middle y joins
    (content_moves table usable last last_then mid then height left a x more (λ n there. same n (omega (arith, there))) one)
    (content_moves table usable last last_then mid then height right b y more (λ n there. same n (omega (arith, there))) two)
    (own_moves table usable last last_then mid then cell cell middle more (λ n there. same n (omega (arith, there))) (record { rowid = refl; payload = refl; local = refl; overflow = refl }) own_is) divided in
    let grown : Grown table usable last_then then height news right_page (a ++ (chains middle ++ b)) (x ++ (middle ++ y)) =
    content_grown table usable last_then then height news right_page whole (a ++ (chains middle ++ b)) (x ++ (middle ++ y)) least most ranged (joins_some left right whole cell joins some) shows content in
    let grown_is : (n : ℕ) → times grown.own n ≡ times (lefts news) n + times (right_page ∷ (a ++ (chains middle ++ b))) n = λ n.
    omega (arith, grown.counts n, times-append (lefts news) (right_page ∷ (a ++ (chains middle ++ b))) n) in
    record {
      own_then = grown.own;
      items_then = x ++ (middle ++ y);
      grown = grown.grown;
      exchanged = exchanged;
      moved = record {
        counts = λ n. join_counts (times own n) (times pages.fresh n) (times (left_page ∷ []) n) (times a n) (times (chains middle) n) (times (right_page ∷ []) n) (times b n) (times pages.lost n)
            (times (chains out) n) (times (lefts news) n) (times grown.own n) (times (right_page ∷ (a ++ (chains middle ++ b))) n) (times (a ++ (chains middle ++ b)) n)
            (times (pages.fresh ++ lefts news) n) (times (pages.lost ++ (left_page ∷ [])) n) (total n) (grown_is n)
            (cons_count right_page (a ++ (chains middle ++ b)) n) (three_counts (a ++ (chains middle ++ b)) a (chains middle) b n refl) (times-append pages.fresh (lefts news) n)
            (times-append pages.lost (left_page ∷ []) n);
        within = λ n there. one_of_two (times (left_page ∷ []) n) (times (right_page ∷ pages.put) n) (omega (arith, there, cons_count left_page (right_page ∷ pages.put) n))
            (λ here. subst (λ (k : ℕ). 1 ≤ times own k) (the_page left_page n here) left_own)
            (λ later. one_of_two (times (right_page ∷ []) n) (times pages.put n) (omega (arith, later, cons_count right_page pages.put n))
            (λ here. subst (λ (k : ℕ). 1 ≤ times own k) (the_page right_page n here) right_own) (λ here. moved.within n here));
        held = moved.held;
        apart = λ n there. omega (arith, cons_count left_page (right_page ∷ pages.put) n, cons_count right_page pages.put n, moved.apart n there, total n, once n, there);
      };
    }
  where
    join_counts : (own fresh left a middle right b lost chain sides then whole below both gone : ℕ) → own + fresh ≡ ((left + a) + (middle + (right + b))) + (lost + chain) → then ≡ sides + whole
        → whole ≡ right + below → below ≡ a + (middle + b) → both ≡ fresh + sides → gone ≡ lost + left → own + both ≡ then + (gone + chain)
    join_counts own fresh left a middle right b lost chain sides then whole below both gone p q r s t u = omega (arith, p, q, r, s, t, u)

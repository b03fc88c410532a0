-- An edit of a child, as the page above has it: whole levels put together.
use Rattle.std.proofs.Common.{◌≡◌, ℕ, zero, suc, ◌+◌, ◌≤◌, Bool, false, List, [], ◌∷◌, ◌++◌, length, sym, subst, ap, ◌∙◌, arith, Some}
use Rattle.node_spec.specs.Cells.{NodeCell}
use Rattle.node_spec.specs.Nodes.{Node}
use Rattle.tree_spec.specs.Layout.{times, Item}
use Rattle.tree_spec.specs.Shown.{Shown, IsAlike}
use Rattle.tree_spec.specs.Trees.{IsItem, AreItems, AreUnder, Content}
use Rattle.tree_spec.proofs.Lists.{times-append, Among}
use Rattle.edit_spec.specs.Nodes.{ShowTogether, node_of_cells}
use Rattle.edit_spec.specs.Joins.{Joins}
use Rattle.edit_spec.specs.Places.{Gap, somewhere, past_all, EndsIn, BeginsIn, MayStandBetween, first_child}
use Rattle.edit_spec.specs.Edits.{IsSubtree, lefts, LeadInRange, EditedPages, IsEdited, StandOnce, KeepAlike}
use Rattle.edit_spec.proofs.Lists.{cons_count, counts_same, three_counts, page_there, none_among}
use Rattle.edit_spec.proofs.Orders.{upto_none, above_none, none_between, ends_somewhere, begins_somewhere}
use Rattle.edit_spec.proofs.Runs.{Run, run_of}
use Rattle.edit_spec.proofs.Levels.{replaced_whole, edited_up}
use Rattle.edit_spec.proofs.Leaves.{ItemsCut, cut_items}
use Rattle.edit_spec.proofs.Neighbours.{replaced_left, replaced_right}
use Rattle.edit_spec.proofs.Swapped.{replaced_swapped, swapped_joined}
use Rattle.edit_spec.proofs.Opening.{OpenedTree, keep_part, keep_on, keep_none, once_part, same_whole}

-- the run of an opened tree's cells
pub open_run : (table : Bool) (usable last : ℕ) (shown : Shown) (height page : ℕ) (node : Node) (own : List ℕ) (items : List Item) (before run after : List NodeCell)
    → (opened : OpenedTree table usable last shown (suc height) page node own items) → node.cells ≡ before ++ (run ++ after)
    → Run table usable last shown height before run after node.right opened.below items
open_run table usable last shown height page node own items before run after opened is =
    run_of table usable last shown height before run after node.right opened.below items
    (subst (λ (l : List NodeCell). AreUnder table usable last shown (IsSubtree table usable last shown height) l node.right opened.below items) is opened.content.under)

-- the run's pages are the page's
pub run_less : (table : Bool) (usable last : ℕ) (shown : Shown) (height page : ℕ) (before run after : List NodeCell) (right : ℕ) (own below : List ℕ) (items : List Item) → own ≡ page ∷ below
    → (part : Run table usable last shown height before run after right below items) → (n : ℕ) → times part.mine_own n ≤ times own n
run_less table usable last shown height page before run after right own below items own_is part n =
    omega (arith, counts_same own (page ∷ below) n own_is, cons_count page below n, three_counts below part.left_own part.mine_own part.right_own n part.own_is)

among_less : (few own : List ℕ) → ((n : ℕ) → times few n ≤ times own n) → Among few own
among_less few own less n there = omega (arith, less n, there)

once_less : (own fresh : List ℕ) (between : List NodeCell) → StandOnce own (fresh ++ lefts between) → StandOnce own fresh
once_less own fresh between once n = omega (arith, once n, times-append fresh (lefts between) n)

keep_more : (mid joined : Shown) (own few fresh put : List ℕ) → ((n : ℕ) → times few n ≤ times own n) → KeepAlike mid joined (own ++ fresh) put → KeepAlike mid joined (few ++ fresh) put
keep_more mid joined own few fresh put less keep n there none = keep n (omega (arith, there, less n, times-append few fresh n, times-append own fresh n)) none

-- An insert or a delete at a child that has a cell then: the page takes the child's new siblings.
pub edited_through : (table : Bool) (usable last last_mid last_then : ℕ) (shown mid then : Shown) (height page : ℕ) (node whole : Node) (before after child_news news : List NodeCell) (place : Gap)
    (out into : List Item) (pages : EditedPages) (own : List ℕ) (items : List Item) → last ≤ last_mid → last_mid ≤ last_then
    → (opened : OpenedTree table usable last shown (suc height) page node own items)
    → (part : Run table usable last shown height before [] after node.right opened.below items)
    → IsEdited table usable last_mid mid height (first_child after node.right) whole child_news place out into pages part.mine_own part.mine → 1 ≤ length whole.cells
    → EndsIn place.Before part.left → BeginsIn place.Behind part.behind → MayStandBetween table before after into
    → StandOnce own pages.fresh → KeepAlike shown mid own pages.put → KeepAlike mid then (opened.below ++ pages.fresh) (page ∷ [])
    → ShowTogether then.node news page (node_of_cells node (before ++ (child_news ++ after))) → LeadInRange last_then news
    → IsEdited table usable last_then then (suc height) page (node_of_cells node (before ++ (child_news ++ after))) news place out into
    (record { fresh = pages.fresh ++ lefts news; lost = pages.lost; put = page ∷ pages.put }) own items
edited_through table usable last last_mid last_then shown mid then height page node whole before after child_news news place out into pages own items more more_then opened part done some ends begins fits once
    first second shows ranged =
    let child : IsSubtree table usable last shown height (first_child after node.right) part.mine_own part.mine = part.under in
    edited_up table usable last last_mid last_then shown mid then height page node before [] after child_news news place out into pages own opened.below items more more_then opened.own_is
    opened.content.inner opened.content.table_is part
    (replaced_whole table usable last_mid mid height (first_child after node.right) whole child_news place out into pages part.mine_own part.mine child.least (omega (arith, child.most, more)) some done)
    ends begins fits once first second shows ranged

-- A delete at the left one of two children, which has no cell then, and was joined with the right one.
pub edited_left : (table : Bool) (usable last last_mid last_join last_then : ℕ) (shown mid joined then : Shown) (height page : ℕ) (node : Node) (before after : List NodeCell) (cell : NodeCell)
    (left two whole : Node) (between news : List NodeCell) (out : List Item) (pages : EditedPages) (own : List ℕ) (items : List Item) → last ≤ last_mid → last_mid ≤ last_join → last_join ≤ last_then
    → (opened : OpenedTree table usable last shown (suc height) page node own items)
    → (part : Run table usable last shown height before (cell ∷ []) after node.right opened.below items)
    → IsEdited table usable last_mid mid height cell.left left [] somewhere out [] pages part.under.under_own part.under.under
    → StandOnce own (pages.fresh ++ lefts between) → KeepAlike shown mid own pages.put → KeepAlike mid joined (own ++ pages.fresh) (cell.left ∷ (first_child after node.right ∷ []))
    → KeepAlike joined then (opened.below ++ (pages.fresh ++ lefts between)) (page ∷ [])
    → mid.node (first_child after node.right) ≡ Some two → Joins left cell two whole → ShowTogether joined.node between (first_child after node.right) whole → LeadInRange last_join between
    → ShowTogether then.node news page (node_of_cells node (before ++ (between ++ after))) → LeadInRange last_then news
    → IsEdited table usable last_then then (suc height) page (node_of_cells node (before ++ (between ++ after))) news somewhere out []
    (record {
      fresh = (pages.fresh ++ lefts between) ++ lefts news;
      lost = pages.lost ++ (cell.left ∷ []);
      put = page ∷ (cell.left ∷ (first_child after node.right ∷ pages.put));
    }) own items
edited_left table usable last last_mid last_join last_then shown mid joined then height page node before after cell left two whole between news out pages own items more more_join more_then opened part done once
    first second third holds joins together in_range shows ranged =
    let less = run_less table usable last shown height page before (cell ∷ []) after node.right own opened.below items opened.own_is part in
    let once_first : StandOnce own pages.fresh = once_less own pages.fresh between once in
    edited_up table usable last last_join last_then shown joined then height page node before (cell ∷ []) after between news somewhere out []
    (record { fresh = pages.fresh ++ lefts between; lost = pages.lost ++ (cell.left ∷ []); put = cell.left ∷ (first_child after node.right ∷ pages.put) })
    own opened.below items (omega (arith, more, more_join)) more_then opened.own_is opened.content.inner opened.content.table_is part
    (replaced_left table usable last last_mid last_join shown mid joined height (first_child after node.right) cell left two whole between somewhere out [] pages part.mine_own part.mine more more_join
    part.under done (upto_none table cell.rowid) (begins_somewhere (part.under.middle ++ part.under.rest)) (once_part own part.mine_own pages.fresh less once_first)
    (keep_part shown mid own part.mine_own pages.put (among_less part.mine_own own less) first)
    (keep_more mid joined own part.mine_own pages.fresh (cell.left ∷ (first_child after node.right ∷ [])) less second) holds joins together in_range)
    (ends_somewhere part.left) (begins_somewhere part.behind) (none_between table before after) once
    (keep_on shown mid joined own pages.fresh pages.put (cell.left ∷ (first_child after node.right ∷ [])) first second) third shows ranged

-- And at the right one. A place at the end of the list serves here too.
pub edited_right : (table : Bool) (usable last last_mid last_join last_then : ℕ) (shown mid joined then : Shown) (height page : ℕ) (node : Node) (before after : List NodeCell) (cell : NodeCell)
    (one left whole : Node) (between news : List NodeCell) (place : Gap) (out : List Item) (pages : EditedPages) (own : List ℕ) (items : List Item) → last ≤ last_mid → last_mid ≤ last_join
    → last_join ≤ last_then → (opened : OpenedTree table usable last shown (suc height) page node own items)
    → (part : Run table usable last shown height before (cell ∷ []) after node.right opened.below items)
    → IsEdited table usable last_mid mid height (first_child after node.right) left [] place out [] pages part.under.rest_own part.under.rest
    → ((list : List Item) → EndsIn place.Before list) → BeginsIn place.Behind part.behind
    → StandOnce own (pages.fresh ++ lefts between) → KeepAlike shown mid own pages.put → KeepAlike mid joined (own ++ pages.fresh) (cell.left ∷ (first_child after node.right ∷ []))
    → KeepAlike joined then (opened.below ++ (pages.fresh ++ lefts between)) (page ∷ [])
    → mid.node cell.left ≡ Some one → Joins one cell left whole → ShowTogether joined.node between (first_child after node.right) whole → LeadInRange last_join between
    → ShowTogether then.node news page (node_of_cells node (before ++ (between ++ after))) → LeadInRange last_then news
    → IsEdited table usable last_then then (suc height) page (node_of_cells node (before ++ (between ++ after))) news place out []
    (record {
      fresh = (pages.fresh ++ lefts between) ++ lefts news;
      lost = pages.lost ++ (cell.left ∷ []);
      put = page ∷ (cell.left ∷ (first_child after node.right ∷ pages.put));
    }) own items
edited_right table usable last last_mid last_join last_then shown mid joined then height page node before after cell one left whole between news place out pages own items more more_join more_then opened part done
    ends begins once first second third holds joins together in_range shows ranged =
    let less = run_less table usable last shown height page before (cell ∷ []) after node.right own opened.below items opened.own_is part in
    let once_first : StandOnce own pages.fresh = once_less own pages.fresh between once in
    edited_up table usable last last_join last_then shown joined then height page node before (cell ∷ []) after between news place out []
    (record { fresh = pages.fresh ++ lefts between; lost = pages.lost ++ (cell.left ∷ []); put = cell.left ∷ (first_child after node.right ∷ pages.put) })
    own opened.below items (omega (arith, more, more_join)) more_then opened.own_is opened.content.inner opened.content.table_is part
    (replaced_right table usable last last_mid last_join shown mid joined height (first_child after node.right) cell one left whole between place out [] pages part.mine_own part.mine more more_join
    part.under done (above_none table cell.rowid) (ends (part.under.under ++ part.under.middle)) (once_part own part.mine_own pages.fresh less once_first)
    (keep_part shown mid own part.mine_own pages.put (among_less part.mine_own own less) first)
    (keep_more mid joined own part.mine_own pages.fresh (cell.left ∷ (first_child after node.right ∷ [])) less second) holds joins together in_range)
    (ends part.left) begins (none_between table before after) once
    (keep_on shown mid joined own pages.fresh pages.put (cell.left ∷ (first_child after node.right ∷ [])) first second) third shows ranged

-- A delete of an entry of an interior page of an index, whose left child has a cell then.
pub edited_swapped : (usable last last_mid last_then : ℕ) (shown mid then : Shown) (height page : ℕ) (node whole : Node) (before after : List NodeCell) (old cell : NodeCell) (child_news news : List NodeCell)
    (pages : EditedPages) (own : List ℕ) (items : List Item) (entry final : Item) → last ≤ last_mid → last_mid ≤ last_then
    → (opened : OpenedTree false usable last shown (suc height) page node own items)
    → (part : Run false usable last shown height before (old ∷ []) after node.right opened.below items) → part.under.middle ≡ entry ∷ []
    → IsEdited false usable last_mid mid height old.left whole child_news past_all (final ∷ []) [] pages part.under.under_own part.under.under → 1 ≤ length whole.cells
    → cell.left ≡ old.left → IsItem usable last_mid mid cell final
    → StandOnce own pages.fresh → KeepAlike shown mid own pages.put → KeepAlike mid then (opened.below ++ pages.fresh) (page ∷ [])
    → ShowTogether then.node news page (node_of_cells node (before ++ ((child_news ++ (cell ∷ [])) ++ after))) → LeadInRange last_then news
    → IsEdited false usable last_then then (suc height) page (node_of_cells node (before ++ ((child_news ++ (cell ∷ [])) ++ after))) news somewhere (entry ∷ []) []
    (record { fresh = pages.fresh ++ lefts news; lost = pages.lost; put = page ∷ pages.put }) own items
edited_swapped usable last last_mid last_then shown mid then height page node whole before after old cell child_news news pages own items entry final more more_then opened part entry_is done some left_is holds
    once first second shows ranged =
    let less = run_less false usable last shown height page before (old ∷ []) after node.right own opened.below items opened.own_is part in
    edited_up false usable last last_mid last_then shown mid then height page node before (old ∷ []) after (child_news ++ (cell ∷ [])) news somewhere (entry ∷ []) [] pages own opened.below items
    more more_then opened.own_is opened.content.inner opened.content.table_is part
    (replaced_swapped usable last last_mid shown mid height (first_child after node.right) old cell child_news pages part.mine_own part.mine entry final more part.under entry_is
    (replaced_whole false usable last_mid mid height old.left whole child_news past_all (final ∷ []) [] pages part.under.under_own part.under.under part.under.sub.least
    (omega (arith, part.under.sub.most, more)) some done)
    left_is holds (once_part own part.mine_own pages.fresh less once) (keep_part shown mid own part.mine_own pages.put (among_less part.mine_own own less) first))
    (ends_somewhere part.left) (begins_somewhere part.behind) (none_between false before after) once first second shows ranged

-- And one whose left child has none then, and was joined with its neighbour under the cell that took the entry's place.
pub edited_swapped_left : (usable last last_mid last_join last_then : ℕ) (shown mid joined then : Shown) (height page : ℕ) (node : Node) (before after : List NodeCell) (old cell : NodeCell)
    (left two whole : Node) (between news : List NodeCell) (pages : EditedPages) (own : List ℕ) (items : List Item) (entry final : Item) → last ≤ last_mid → last_mid ≤ last_join → last_join ≤ last_then
    → (opened : OpenedTree false usable last shown (suc height) page node own items)
    → (part : Run false usable last shown height before (old ∷ []) after node.right opened.below items) → part.under.middle ≡ entry ∷ []
    → IsEdited false usable last_mid mid height old.left left [] past_all (final ∷ []) [] pages part.under.under_own part.under.under → IsItem usable last_mid mid cell final
    → StandOnce own (pages.fresh ++ lefts between) → KeepAlike shown mid own pages.put → KeepAlike mid joined (own ++ pages.fresh) (old.left ∷ (first_child after node.right ∷ []))
    → KeepAlike joined then (opened.below ++ (pages.fresh ++ lefts between)) (page ∷ [])
    → mid.node (first_child after node.right) ≡ Some two → Joins left cell two whole → ShowTogether joined.node between (first_child after node.right) whole → LeadInRange last_join between
    → ShowTogether then.node news page (node_of_cells node (before ++ (between ++ after))) → LeadInRange last_then news
    → IsEdited false usable last_then then (suc height) page (node_of_cells node (before ++ (between ++ after))) news somewhere (entry ∷ []) []
    (record {
      fresh = (pages.fresh ++ lefts between) ++ lefts news;
      lost = pages.lost ++ (old.left ∷ []);
      put = page ∷ (old.left ∷ (first_child after node.right ∷ pages.put));
    }) own items
edited_swapped_left usable last last_mid last_join last_then shown mid joined then height page node before after old cell left two whole between news pages own items entry final more more_join more_then opened part
    entry_is done item_is once first second third holds joins together in_range shows ranged =
    let less = run_less false usable last shown height page before (old ∷ []) after node.right own opened.below items opened.own_is part in
    let once_first : StandOnce own pages.fresh = once_less own pages.fresh between once in
    edited_up false usable last last_join last_then shown joined then height page node before (old ∷ []) after between news somewhere (entry ∷ []) []
    (record { fresh = pages.fresh ++ lefts between; lost = pages.lost ++ (old.left ∷ []); put = old.left ∷ (first_child after node.right ∷ pages.put) })
    own opened.below items (omega (arith, more, more_join)) more_then opened.own_is opened.content.inner opened.content.table_is part
    (swapped_joined usable last last_mid last_join shown mid joined height (first_child after node.right) old cell left two whole between pages part.mine_own part.mine entry final more more_join
    part.under entry_is done item_is (once_part own part.mine_own pages.fresh less once_first)
    (keep_part shown mid own part.mine_own pages.put (among_less part.mine_own own less) first)
    (keep_more mid joined own part.mine_own pages.fresh (old.left ∷ (first_child after node.right ∷ [])) less second) holds joins together in_range)
    (ends_somewhere part.left) (begins_somewhere part.behind) (none_between false before after) once
    (keep_on shown mid joined own pages.fresh pages.put (old.left ∷ (first_child after node.right ∷ [])) first second) third shows ranged

-- the items of an opened leaf, divided with its cells
pub open_leaf : (table : Bool) (usable last : ℕ) (shown : Shown) (page : ℕ) (node : Node) (own : List ℕ) (items : List Item) (before after : List NodeCell)
    → OpenedTree table usable last shown zero page node own items → node.cells ≡ before ++ after → ItemsCut table usable last shown before after items
open_leaf table usable last shown page node own items before after opened is =
    cut_items table usable last shown before after items (subst (λ (l : List NodeCell). AreItems table usable last shown l items) is opened.content.items_are)

-- A page shows the same while its children were edited.
pub page_kept : (table : Bool) (usable last : ℕ) (shown mid : Shown) (height page : ℕ) (before run after : List NodeCell) (right : ℕ) (own below : List ℕ) (items : List Item) (pages : EditedPages)
    → own ≡ page ∷ below → (part : Run table usable last shown height before run after right below items) → StandOnce own pages.fresh
    → ((n : ℕ) → 1 ≤ times pages.put n → 1 ≤ times part.mine_own n) → KeepAlike shown mid own pages.put → IsAlike shown mid page
page_kept table usable last shown mid height page before run after right own below items pages own_is part once within keep =
    let counted : times own page ≡ times (page ∷ []) page + times below page = counts_same own (page ∷ below) page own_is ∙ cons_count page below page in
    keep page (omega (arith, counted, page_there page))
    (none_among pages.put part.mine_own page within
    (omega (arith, once page, counted, page_there page, three_counts below part.left_own part.mine_own part.right_own page part.own_is)))

-- An insert or a delete at a child that has a cell then, and no new siblings: the page above stays as it is, and no page above is put.
pub edited_still : (table : Bool) (usable last last_mid : ℕ) (shown mid : Shown) (height page : ℕ) (node whole : Node) (before after : List NodeCell) (place : Gap)
    (out into : List Item) (pages : EditedPages) (own : List ℕ) (items : List Item) → last ≤ last_mid → shown.node page ≡ Some node → node.cells ≡ before ++ after
    → (opened : OpenedTree table usable last shown (suc height) page node own items)
    → (part : Run table usable last shown height before [] after node.right opened.below items)
    → IsEdited table usable last_mid mid height (first_child after node.right) whole [] place out into pages part.mine_own part.mine → 1 ≤ length whole.cells
    → EndsIn place.Before part.left → BeginsIn place.Behind part.behind → MayStandBetween table before after into
    → StandOnce own pages.fresh → KeepAlike shown mid own pages.put
    → IsEdited table usable last_mid mid (suc height) page node [] place out into pages own items
edited_still table usable last last_mid shown mid height page node whole before after place out into pages own items more holds cells_are opened part done some ends begins fits once first =
    let kept : IsAlike shown mid page = page_kept table usable last shown mid height page before [] after node.right own opened.below items pages opened.own_is part once done.moved.within first in
    let same : node_of_cells node (before ++ after) ≡ node = same_whole node (before ++ after) cells_are in
    let shows : mid.node page ≡ Some node = kept.node ∙ holds in
    let through = edited_through table usable last last_mid last_mid shown mid mid height page node whole before after [] [] place out into pages own items more (omega arith) opened part done some ends begins fits
    once first (keep_none mid (opened.below ++ pages.fresh) (page ∷ [])) (shows ∙ ap Some (sym same)) tt in
    record {
      below = through.below;
      items_then = through.items_then;
      shows = shows;
      ranged = tt;
      content = subst (λ (n : Node). Content table usable last_mid mid (suc height) n through.below through.items_then) same through.content;
      exchanged = through.exchanged;
      moved = record {
        counts = λ n. omega (arith, through.moved.counts n, times-append pages.fresh [] n);
        within = λ n there. through.moved.within n (omega (arith, there, cons_count page pages.put n));
        held = through.moved.held;
        apart = λ n there. omega (arith, through.moved.apart n there, cons_count page pages.put n);
      };
    }

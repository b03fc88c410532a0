-- One level of a tree: a child that has a cell is grown, and the page above takes what its children became.
use Rattle.std.proofs.Common.{◌≡◌, ℕ, suc, ◌+◌, ◌≤◌, Bool, false, List, [], ◌∷◌, ◌++◌, length, refl, subst, ◌∙◌, arith}
use Rattle.node_spec.specs.Kinds.{is_leaf, is_table}
use Rattle.node_spec.specs.Cells.{NodeCell}
use Rattle.node_spec.specs.Nodes.{Node}
use Rattle.tree_spec.specs.Layout.{times, Item, chains}
use Rattle.tree_spec.specs.Shown.{Shown, IsAlike}
use Rattle.tree_spec.proofs.Lists.{times-append}
use Rattle.edit_spec.specs.Nodes.{ShowTogether, node_of_cells}
use Rattle.edit_spec.specs.Places.{Gap, EndsIn, BeginsIn, MayStandBetween, first_child}
use Rattle.edit_spec.specs.Edits.{lefts, LeadInRange, EditedPages, MovesPages, IsEdited, IsReplaced, StandOnce, KeepAlike}
use Rattle.edit_spec.proofs.Lists.{cons_count, counts_same, three_counts, one_of_two, none_among}
use Rattle.edit_spec.proofs.Orders.{between_exchanged, exchanged_among, exchanged_of}
use Rattle.edit_spec.proofs.Local.{AllAlike, grown_moves}
use Rattle.edit_spec.proofs.Runs.{Run}
use Rattle.edit_spec.proofs.Grown.{content_grown}

-- views in a row
pub alike_on : (one two three : Shown) (page : ℕ) → IsAlike one two page → IsAlike two three page → IsAlike one three page
alike_on one two three page first second = record { node = second.node ∙ first.node; link = λ later. second.link later ∙ first.link later }

-- A page with a cell, and its new siblings, stand in the child's place.
pub replaced_whole : (table : Bool) (usable last : ℕ) (shown : Shown) (height page : ℕ) (whole : Node) (news : List NodeCell) (place : Gap) (out into : List Item) (pages : EditedPages)
    (own : List ℕ) (items : List Item) → 2 ≤ page → page ≤ last → 1 ≤ length whole.cells → IsEdited table usable last shown height page whole news place out into pages own items
    → IsReplaced table usable last shown height news page place out into pages own items
replaced_whole table usable last shown height page whole news place out into pages own items least most some done =
    let grown = content_grown table usable last shown height news page whole done.below done.items_then least most done.ranged some done.shows done.content in
    record {
      own_then = grown.own;
      items_then = done.items_then;
      grown = grown.grown;
      exchanged = done.exchanged;
      moved = record {
        counts = λ n. omega (arith, done.moved.counts n, grown.counts n);
        within = done.moved.within;
        held = done.moved.held;
        apart = done.moved.apart;
      };
    }

up_counts : (own page below left mine right fresh mine_then gone sides below_then whole both all : ℕ) → own ≡ page + below → below ≡ left + (mine + right) → mine + fresh ≡ mine_then + gone
    → below_then ≡ left + (mine_then + right) → both ≡ fresh + sides → whole ≡ page + below_then → all ≡ sides + whole → own + both ≡ all + gone
up_counts own page below left mine right fresh mine_then gone sides below_then whole both all a b c d e f g = omega (arith, a, b, c, d, e, f, g)

-- what a page has beside the run in which the edit was, in the view after it
beside_alike : (shown mid then : Shown) (page : ℕ) (pages : EditedPages) (below left mine right : List ℕ) → below ≡ left ++ (mine ++ right) → StandOnce (page ∷ below) pages.fresh
    → ((n : ℕ) → 1 ≤ times pages.put n → 1 ≤ times mine n) → KeepAlike shown mid (page ∷ below) pages.put → KeepAlike mid then (below ++ pages.fresh) (page ∷ []) → AllAlike shown then (left ++ right)
beside_alike shown mid then page pages below left mine right is once within first second n there =
    let counted = three_counts below left mine right n is in
    let here : 1 ≤ times left n + times right n = omega (arith, there, times-append left right n) in
    let few : times (page ∷ []) n + (times left n + (times mine n + times right n)) ≤ 1 = omega (arith, once n, cons_count page below n, counted) in
    let none : times pages.put n ≡ 0 = none_among pages.put mine n within (omega (arith, few, here)) in
    alike_on shown mid then n (first n (omega (arith, cons_count page below n, counted, here)) none)
    (second n (omega (arith, times-append below pages.fresh n, counted, here)) (omega (arith, few, here)))

-- what stands in the run then, in the view after the page was put
inside_alike : (mid then : Shown) (page : ℕ) (pages : EditedPages) (out : List Item) (below left mine right mine_then : List ℕ) → below ≡ left ++ (mine ++ right)
    → StandOnce (page ∷ below) pages.fresh → MovesPages pages mine mine_then out → KeepAlike mid then (below ++ pages.fresh) (page ∷ []) → AllAlike mid then mine_then
inside_alike mid then page pages out below left mine right mine_then is once moved second n there =
    let counted = three_counts below left mine right n is in
    let here : 1 ≤ times mine n + times pages.fresh n = omega (arith, there, moved.counts n) in
    second n (omega (arith, times-append below pages.fresh n, counted, here)) (omega (arith, once n, cons_count page below n, counted, here))

-- the pages of the whole, by those of the run
moves_up : (page : ℕ) (news : List NodeCell) (pages : EditedPages) (out : List Item) (own below left mine right mine_then : List ℕ) → own ≡ page ∷ below → below ≡ left ++ (mine ++ right)
    → StandOnce own pages.fresh → MovesPages pages mine mine_then out
    → MovesPages (record { fresh = pages.fresh ++ lefts news; lost = pages.lost; put = page ∷ pages.put }) own (lefts news ++ (page ∷ (left ++ (mine_then ++ right)))) out
moves_up page news pages out own below left mine right mine_then own_is is once moved = record {
  counts = λ n. up_counts (times own n) (times (page ∷ []) n) (times below n) (times left n) (times mine n) (times right n) (times pages.fresh n) (times mine_then n)
      (times pages.lost n + times (chains out) n) (times (lefts news) n) (times (left ++ (mine_then ++ right)) n) (times (page ∷ (left ++ (mine_then ++ right))) n) (times (pages.fresh ++ lefts news) n)
      (times (lefts news ++ (page ∷ (left ++ (mine_then ++ right)))) n) (whole n) (three_counts below left mine right n is) (moved.counts n)
      (three_counts (left ++ (mine_then ++ right)) left mine_then right n refl) (times-append pages.fresh (lefts news) n) (cons_count page (left ++ (mine_then ++ right)) n)
      (times-append (lefts news) (page ∷ (left ++ (mine_then ++ right))) n);
  within = λ n there. one_of_two (times (page ∷ []) n) (times pages.put n) (omega (arith, there, cons_count page pages.put n)) (λ here. omega (arith, whole n, here))
      (λ here. omega (arith, whole n, three_counts below left mine right n is, moved.within n here));
  held = λ n there. omega (arith, whole n, three_counts below left mine right n is, moved.held n there);
  apart = λ n there. omega (arith, cons_count page pages.put n, moved.apart n there, once n, whole n, three_counts below left mine right n is, moved.held n there);
}
  where
    whole : (n : ℕ) → times own n ≡ times (page ∷ []) n + times below n
    whole n = counts_same own (page ∷ below) n own_is ∙ cons_count page below n

-- One level of an insert or a delete: of a page's cells a run, with the child behind it, became other cells with that child; the page took them and was put, maybe with new
-- siblings. In the state between only pages of the run were put, and after it only the page.
pub edited_up : (table : Bool) (usable last last_mid last_then : ℕ) (shown mid then : Shown) (height page : ℕ) (node : Node) (before run after child_news news : List NodeCell) (place : Gap)
    (out into : List Item) (pages : EditedPages) (own below : List ℕ) (items : List Item) → last ≤ last_mid → last_mid ≤ last_then → own ≡ page ∷ below → is_leaf node.kind ≡ false
    → is_table node.kind ≡ table → (part : Run table usable last shown height before run after node.right below items)
    → IsReplaced table usable last_mid mid height child_news (first_child after node.right) place out into pages part.mine_own part.mine
    → EndsIn place.Before part.left → BeginsIn place.Behind part.behind → MayStandBetween table before after into
    → StandOnce own pages.fresh → KeepAlike shown mid own pages.put → KeepAlike mid then (below ++ pages.fresh) (page ∷ [])
    → ShowTogether then.node news page (node_of_cells node (before ++ (child_news ++ after))) → LeadInRange last_then news
    → IsEdited table usable last_then then (suc height) page (node_of_cells node (before ++ (child_news ++ after))) news place out into
    (record { fresh = pages.fresh ++ lefts news; lost = pages.lost; put = page ∷ pages.put }) own items
edited_up table usable last last_mid last_then shown mid then height page node before run after child_news news place out into pages own below items more more_then own_is inner table_is part done
    ends begins fits once first second shows ranged =
    let once_here : StandOnce (page ∷ below) pages.fresh = subst (λ (l : List ℕ). StandOnce l pages.fresh) own_is once in
    let first_here : KeepAlike shown mid (page ∷ below) pages.put = subst (λ (l : List ℕ). KeepAlike shown mid l pages.put) own_is first in
    let beside : AllAlike shown then (part.left_own ++ part.right_own) =
    beside_alike shown mid then page pages below part.left_own part.mine_own part.right_own part.own_is once_here done.moved.within first_here second in
    let inside : AllAlike mid then done.own_then =
    inside_alike mid then page pages out below part.left_own part.mine_own part.right_own done.own_then part.own_is once_here done.moved second in
    let grown = grown_moves table usable last_mid last_then mid then height child_news (first_child after node.right) done.own_then done.items_then more_then inside done.grown in
    let under = part.again last_then then (omega (arith, more, more_then)) beside child_news done.own_then done.items_then grown
    (between_exchanged table before after place out into part.mine done.items_then done.exchanged fits part.between) in
    record {
      below = part.left_own ++ (done.own_then ++ part.right_own);
      items_then = part.left ++ (done.items_then ++ part.behind);
      shows = shows;
      ranged = ranged;
      content = record { inner = inner; table_is = table_is; under = under };
      exchanged = exchanged_of place out into (part.left ++ (part.mine ++ part.behind)) (part.left ++ (done.items_then ++ part.behind)) items (part.left ++ (done.items_then ++ part.behind))
          part.items_are refl (exchanged_among place out into part.left part.mine part.behind done.items_then ends begins done.exchanged);
      moved = moves_up page news pages out own below part.left_own part.mine_own part.right_own done.own_then own_is part.own_is once done.moved;
    }

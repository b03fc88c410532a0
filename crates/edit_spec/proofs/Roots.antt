-- The root after an edit: as it is, raised over new siblings, or in the place of its only child. And what stays of other trees.
use Rattle.std.proofs.Common.{◌≡◌, ℕ, zero, suc, ◌+◌, ◌≤◌, Bool, true, List, [], ◌∷◌, ◌++◌, length, refl, sym, subst, ◌∙◌, arith, inl, inr, Some}
use Rattle.std.specs.Prelude.{◌⊎◌}
use Rattle.node_spec.specs.Cells.{NodeCell}
use Rattle.node_spec.specs.Nodes.{Node}
use Rattle.tree_spec.specs.Layout.{times, Item, chains}
use Rattle.tree_spec.specs.Shown.{Shown, IsAlike}
use Rattle.tree_spec.specs.Trees.{AreUnder, IsTree, root_least}
use Rattle.tree_spec.proofs.Lists.{times-append}
use Rattle.tree_spec.proofs.Local.{tree_local}
use Rattle.tree_spec.proofs.Rising.{tree_rises}
use Rattle.edit_spec.specs.Nodes.{ShowTogether}
use Rattle.edit_spec.specs.Places.{Gap, place_of_key, TakesItem}
use Rattle.edit_spec.specs.Edits.{IsSubtree, lefts, LeadInRange, EditedPages, MovesPages, IsEdited, IsEditedTree, IsRaised, StandOnce, KeepAlike}
use Rattle.edit_spec.proofs.Lists.{cons_count, counts_same, page_there, the_page, one_of_two, none_among}
use Rattle.edit_spec.proofs.Local.{AllAlike, content_moves}
use Rattle.edit_spec.proofs.Orders.{takes_key}
use Rattle.edit_spec.proofs.Grown.{Grown, content_grown}

-- A root that was edited and has no new siblings roots a tree, if it has a cell, or is a leaf, or page 1.
pub tree_edited : (table : Bool) (usable last : ℕ) (shown : Shown) (height root : ℕ) (whole : Node) (place : Gap) (out into : List Item) (pages : EditedPages) (own : List ℕ) (items : List Item)
    → (root ≡ 1) ⊎ (root_least height ≤ length whole.cells) → IsEdited table usable last shown height root whole [] place out into pages own items
    → IsEditedTree table usable last shown height root place out into pages own items
tree_edited table usable last shown height root whole place out into pages own items enough done = record {
  own_then = root ∷ done.below;
  items_then = done.items_then;
  tree = record { node = whole; holds = done.shows; enough = enough; below = done.below; content = done.content; own_is = refl };
  exchanged = done.exchanged;
  moved = done.moved;
}

-- the pages that were in use, those that a root and its siblings lead to among them
used_count : (root : ℕ) (news : List NodeCell) (below : List ℕ) (n : ℕ) → times (lefts news ++ (root ∷ below)) n ≡ times (lefts news) n + (times (root ∷ []) n + times below n)
used_count root news below n = omega (arith, times-append (lefts news) (root ∷ below) n, cons_count root below n)

-- siblings that show the same, with the page's node at another page
shows_moved : (shown then : Shown) (news : List NodeCell) (page child : ℕ) (whole : Node) → AllAlike shown then (lefts news) → then.node child ≡ shown.node page
    → ShowTogether shown.node news page whole → ShowTogether then.node news child whole
shows_moved shown then [] page child whole same copied shows = copied ∙ shows
shows_moved shown then (new ∷ news) page child whole same copied shows = record {
  left = shows.left;
  rest = shows.rest;
  holds = (same new.left (omega (arith, page_there new.left, cons_count new.left (lefts news) new.left))).node ∙ shows.holds;
  divides = shows.divides;
  others = shows_moved shown then news page child shows.rest (λ n there. same n (omega (arith, there))) copied shows.others;
}

raised_counts : (own fresh sides root below gone child whole all both : ℕ) → own + fresh ≡ (sides + (root + below)) + gone → whole ≡ sides + (child + below) → all ≡ root + whole
    → both ≡ fresh + child → own + both ≡ all + gone
raised_counts own fresh sides root below gone child whole all both a b c d = omega (arith, a, b, c, d)

-- A root that was edited and has new siblings, and was raised: its tree has one level more.
pub raised : (table : Bool) (usable last last_then : ℕ) (shown then : Shown) (height root child : ℕ) (whole : Node) (news : List NodeCell) (place : Gap) (out into : List Item) (pages : EditedPages)
    (own : List ℕ) (items : List Item) → last ≤ last_then → 1 ≤ length news → 1 ≤ length whole.cells → 2 ≤ child → child ≤ last_then → 1 ≤ times own root
    → IsEdited table usable last shown height root whole news place out into pages own items → IsRaised table shown then root child news
    → StandOnce own (pages.fresh ++ (child ∷ [])) → KeepAlike shown then (own ++ pages.fresh) (root ∷ [])
    → IsEditedTree table usable last_then then (suc height) root place out into (record { fresh = pages.fresh ++ (child ∷ []); lost = pages.lost; put = root ∷ pages.put }) own items
raised table usable last last_then shown then height root child whole news place out into pages own items more has_news some least most mine done is once alike =
    let total : (n : ℕ) → times own n + times pages.fresh n ≡ (times (lefts news) n + (times (root ∷ []) n + times done.below n)) + (times pages.lost n + times (chains out) n) = λ n.
    omega (arith, done.moved.counts n, used_count root news done.below n) in
    let few : (n : ℕ) → times own n + (times pages.fresh n + times (child ∷ []) n) ≤ 1 = λ n. omega (arith, once n, times-append pages.fresh (child ∷ []) n) in
    let same : (n : ℕ) → 1 ≤ times (lefts news) n + times done.below n → IsAlike shown then n = λ n there.
    alike n (omega (arith, times-append own pages.fresh n, total n, there)) (omega (arith, total n, few n, there)) in
    let grown : Grown table usable last_then then height news child done.below done.items_then =
    content_grown table usable last_then then height news child whole done.below done.items_then least most (in_range news done.ranged) some
    (shows_moved shown then news root child whole (λ n there. same n (omega (arith, there))) is.copied done.shows)
    (content_moves table usable last last_then shown then height whole done.below done.items_then more (λ n there. same n (omega (arith, there))) done.content) in
    let grown_is : (n : ℕ) → times grown.own n ≡ times (lefts news) n + (times (child ∷ []) n + times done.below n) = λ n. omega (arith, grown.counts n, used_count child news done.below n) in
    record {
      own_then = root ∷ grown.own;
      items_then = done.items_then;
      tree = record {
        node = is.node;
        holds = is.holds;
        enough = inr (subst (λ (l : List NodeCell). 1 ≤ length l) (sym is.cells) has_news);
        below = grown.own;
        content = record {
          inner = is.inner;
          table_is = is.table_is;
          under = subst (λ (l : List NodeCell). AreUnder table usable last_then then (IsSubtree table usable last_then then height) l is.node.right grown.own done.items_then) (sym is.cells)
              (subst (λ (r : ℕ). AreUnder table usable last_then then (IsSubtree table usable last_then then height) news r grown.own done.items_then) (sym is.right) grown.grown);
        };
        own_is = refl;
      };
      exchanged = done.exchanged;
      moved = record {
        counts = λ n. raised_counts (times own n) (times pages.fresh n) (times (lefts news) n) (times (root ∷ []) n) (times done.below n) (times pages.lost n + times (chains out) n)
            (times (child ∷ []) n) (times grown.own n) (times (root ∷ grown.own) n) (times (pages.fresh ++ (child ∷ [])) n) (total n)
            (grown_is n) (cons_count root grown.own n) (times-append pages.fresh (child ∷ []) n);
        within = λ n there. one_of_two (times (root ∷ []) n) (times pages.put n) (omega (arith, there, cons_count root pages.put n))
            (λ here. subst (λ (k : ℕ). 1 ≤ times own k) (the_page root n here) mine) (λ here. done.moved.within n here);
        held = done.moved.held;
        apart = λ n there. omega (arith, cons_count root pages.put n, done.moved.apart n there, total n, few n, there);
      };
    }
  where
    in_range : (cells : List NodeCell) → LeadInRange last cells → LeadInRange last_then cells
    in_range [] ranged = tt
    in_range (cell ∷ cells) ranged = ((ranged.0.0, omega (arith, ranged.0.1, more)), in_range cells ranged.1)

-- A root without a cell takes over what its only child shows, and the child is lost: its tree has one level less.
pub lowered : (table : Bool) (usable last last_then : ℕ) (shown then : Shown) (height root : ℕ) (whole : Node) (place : Gap) (out into : List Item) (pages : EditedPages)
    (own : List ℕ) (items : List Item) → last ≤ last_then → whole.cells ≡ [] → 1 ≤ times own root
    → IsEdited table usable last shown (suc height) root whole [] place out into pages own items → then.node root ≡ shown.node whole.right
    → StandOnce own pages.fresh → KeepAlike shown then (own ++ pages.fresh) (root ∷ [])
    → IsEditedTree table usable last_then then height root place out into (record { fresh = pages.fresh; lost = pages.lost ++ (whole.right ∷ []); put = root ∷ pages.put }) own items
lowered table usable last last_then shown then height root whole place out into pages own items more none mine done copied once alike =
    let child : IsSubtree table usable last shown height whole.right done.below done.items_then =
    subst (λ (l : List NodeCell). AreUnder table usable last shown (IsSubtree table usable last shown height) l whole.right done.below done.items_then) none done.content.under in
    let total : (n : ℕ) → times own n + times pages.fresh n ≡ (times (root ∷ []) n + (times (whole.right ∷ []) n + times child.holds.below n)) + (times pages.lost n + times (chains out) n) = λ n.
    omega (arith, done.moved.counts n, cons_count root done.below n, counts_same done.below (whole.right ∷ child.holds.below) n child.holds.own_is, cons_count whole.right child.holds.below n) in
    record {
      own_then = root ∷ child.holds.below;
      items_then = done.items_then;
      tree = record {
        node = child.holds.node;
        holds = copied ∙ child.holds.holds;
        enough = has_cell height child.holds.enough child.least;
        below = child.holds.below;
        content = content_moves table usable last last_then shown then height child.holds.node child.holds.below done.items_then more
            (λ n there. alike n (omega (arith, times-append own pages.fresh n, total n, there)) (omega (arith, total n, once n, there))) child.holds.content;
        own_is = refl;
      };
      exchanged = done.exchanged;
      moved = record {
        counts = λ n. omega (arith, total n, cons_count root child.holds.below n, times-append pages.lost (whole.right ∷ []) n);
        within = λ n there. one_of_two (times (root ∷ []) n) (times pages.put n) (omega (arith, there, cons_count root pages.put n))
            (λ here. subst (λ (k : ℕ). 1 ≤ times own k) (the_page root n here) mine) (λ here. done.moved.within n here);
        held = done.moved.held;
        apart = λ n there. omega (arith, cons_count root pages.put n, done.moved.apart n there, total n, once n, there);
      };
    }
  where
    has_cell : (height : ℕ) {page count : ℕ} → (page ≡ 1) ⊎ (1 ≤ count) → 2 ≤ page → (root ≡ 1) ⊎ (root_least height ≤ count)
    has_cell height (inl first) least = absurd (omega (arith, first, least))
    has_cell zero (inr many) least = inr (omega arith)
    has_cell (suc height) (inr many) least = inr many

-- Page 1 without a cell takes over its only child, which was edited and may have no cell left either.
pub taken_over : (table : Bool) (usable last last_then : ℕ) (shown then : Shown) (height root child : ℕ) (whole : Node) (place : Gap) (out into : List Item) (pages : EditedPages)
    (own under : List ℕ) (items : List Item) → last ≤ last_then → own ≡ root ∷ under → (root ≡ 1) ⊎ (root_least height ≤ length whole.cells)
    → IsEdited table usable last shown height child whole [] place out into pages under items → then.node root ≡ Some whole
    → StandOnce own pages.fresh → KeepAlike shown then (own ++ pages.fresh) (root ∷ [])
    → IsEditedTree table usable last_then then height root place out into (record { fresh = pages.fresh; lost = pages.lost ++ (child ∷ []); put = root ∷ pages.put }) own items
taken_over table usable last last_then shown then height root child whole place out into pages own under items more own_is enough done holds once alike =
    let mine : (n : ℕ) → times own n ≡ times (root ∷ []) n + times under n = λ n. counts_same own (root ∷ under) n own_is ∙ cons_count root under n in
    let total : (n : ℕ) → times own n + times pages.fresh n ≡ (times (root ∷ []) n + (times (child ∷ []) n + times done.below n)) + (times pages.lost n + times (chains out) n) = λ n.
    omega (arith, done.moved.counts n, mine n, cons_count child done.below n) in
    record {
      own_then = root ∷ done.below;
      items_then = done.items_then;
      tree = record {
        node = whole;
        holds = holds;
        enough = enough;
        below = done.below;
        content = content_moves table usable last last_then shown then height whole done.below done.items_then more
            (λ n there. alike n (omega (arith, times-append own pages.fresh n, total n, there)) (omega (arith, total n, once n, there))) done.content;
        own_is = refl;
      };
      exchanged = done.exchanged;
      moved = record {
        counts = λ n. omega (arith, total n, cons_count root done.below n, times-append pages.lost (child ∷ []) n);
        within = λ n there. one_of_two (times (root ∷ []) n) (times pages.put n) (omega (arith, there, cons_count root pages.put n))
            (λ here. omega (arith, mine n, here)) (λ here. omega (arith, mine n, done.moved.within n here));
        held = λ n there. omega (arith, mine n, done.moved.held n there);
        apart = λ n there. omega (arith, cons_count root pages.put n, done.moved.apart n there, total n, once n, there);
      };
    }

-- Another tree, none of whose pages is the edited one's or was taken, stays as it is, and apart from what the edited one is then.
pub others_stay : (table : Bool) (usable last last_then : ℕ) (shown then : Shown) (height root : ℕ) (own : List ℕ) (items : List Item) (pages : EditedPages) (edited edited_then : List ℕ)
    (out : List Item) → last ≤ last_then → MovesPages pages edited edited_then out → StandOnce (edited ++ own) pages.fresh → KeepAlike shown then own pages.put
    → IsTree table usable last shown height root own items → IsTree table usable last_then then height root own items × StandOnce edited_then own
others_stay table usable last last_then shown then height root own items pages edited edited_then out more moved once alike tree = (
  tree_local table usable last last_then shown then height root own items more
      (λ n there. alike n there (none_among pages.put edited n moved.within (omega (arith, once n, times-append edited own n, there)))) tree,
  λ n. omega (arith, once n, times-append edited own n, moved.counts n),
)

-- No page is lost: what a tree had or took it has then, or it is told as lost, or is of the chain of an item that went.
pub nothing_lost : (pages : EditedPages) (own own_then : List ℕ) (out : List Item) → MovesPages pages own own_then out → (n : ℕ) → 1 ≤ times own n + times pages.fresh n
    → (1 ≤ times own_then n) ⊎ ((1 ≤ times pages.lost n) ⊎ (1 ≤ times (chains out) n))
nothing_lost pages own own_then out moved n there =
    one_of_two (times own_then n) (times pages.lost n + times (chains out) n) (omega (arith, there, moved.counts n)) (λ here. inl here)
    (λ gone. one_of_two (times pages.lost n) (times (chains out) n) gone (λ here. inr (inl here)) (λ here. inr (inr here)))

-- and the pages that it has then, the lost ones and those of such a chain stand once each, together
pub once_then : (pages : EditedPages) (own own_then : List ℕ) (out : List Item) → MovesPages pages own own_then out → StandOnce own pages.fresh → StandOnce own_then (pages.lost ++ chains out)
once_then pages own own_then out moved once n = omega (arith, once n, moved.counts n, times-append pages.lost (chains out) n)

-- So in a table an item that was put in stands in its key's place.
pub table_takes : (usable last : ℕ) (shown : Shown) (height root : ℕ) (place : Gap) (item : Item) (pages : EditedPages) (own : List ℕ) (items : List Item)
    → (done : IsEditedTree true usable last shown height root place [] (item ∷ []) pages own items) → TakesItem (place_of_key item.key) items item done.items_then
table_takes usable last shown height root place item pages own items done =
    takes_key place items item done.items_then done.exchanged (tree_rises usable last shown height root done.own_then done.items_then done.tree)

-- A run of cells, with the first child behind it, taken out of a page as one: whatever stands there then, the rest of the page stays.
use Rattle.std.proofs.Common.{◌≡◌, ℕ, ◌+◌, ◌≤◌, Bool, List, [], ◌∷◌, ◌++◌, refl, sym, subst, ap, ◌∙◌, arith, append_assoc, append-nil}
use Rattle.node_spec.specs.Cells.{NodeCell}
use Rattle.tree_spec.specs.Layout.{times, Item, chains}
use Rattle.tree_spec.specs.Shown.{Shown}
use Rattle.tree_spec.specs.Trees.{IsOwn, AreUnder}
use Rattle.tree_spec.proofs.Lists.{times-append}
use Rattle.edit_spec.specs.Places.{AreAbove, MayStandBetween, first_child}
use Rattle.edit_spec.specs.Edits.{IsSubtree}
use Rattle.edit_spec.proofs.Lists.{moved}
use Rattle.edit_spec.proofs.Orders.{above-append, above_first, above_last, divided_upto, divided_above, divides}
use Rattle.edit_spec.proofs.Local.{AllAlike, says_itself, own_moves, child_moves, grown_moves}
use Rattle.edit_spec.proofs.Under.{child_some, under_joined, cut_under}

-- Items begin with what the first of some cells lists itself, if there is one.
abbrev pub BeginWithOwn : (table : Bool) (usable last : ℕ) → Shown → List NodeCell → List Item → Type 0
BeginWithOwn table usable last shown [] items = items ≡ []
BeginWithOwn table usable last shown (cell ∷ cells) items = (own : List Item) × (more : List Item) × (items ≡ own ++ more) × IsOwn table usable last shown cell own

-- They end with what the last one does.
abbrev pub EndWithOwn : (table : Bool) (usable last : ℕ) → Shown → List NodeCell → List Item → Type 0
EndWithOwn table usable last shown [] items = items ≡ []
EndWithOwn table usable last shown (cell ∷ []) items = (more : List Item) × (own : List Item) × (items ≡ more ++ own) × IsOwn table usable last shown cell own
EndWithOwn table usable last shown (cell ∷ (next ∷ cells)) items =
    (front : List Item) × (rest : List Item) × (items ≡ front ++ rest) × EndWithOwn table usable last shown (next ∷ cells) rest

end_more : (table : Bool) (usable last : ℕ) (shown : Shown) (cell : NodeCell) (cells : List NodeCell) (under middle items : List Item) → IsOwn table usable last shown cell middle
    → EndWithOwn table usable last shown cells items → EndWithOwn table usable last shown (cell ∷ cells) (under ++ (middle ++ items))
end_more table usable last shown cell [] under middle items own_is none =
    (under, middle, ap (λ (l : List Item). under ++ (middle ++ l)) none ∙ ap (λ (l : List Item). under ++ l) (append-nil middle), own_is)
end_more table usable last shown cell (next ∷ cells) under middle items own_is ends = (under ++ middle, items, sym (append_assoc under middle items), ends)

-- What the last of the cells before a place lists itself.
pub end_last : (table : Bool) (usable last : ℕ) (shown : Shown) (front : List NodeCell) (cell : NodeCell) (items : List Item) → EndWithOwn table usable last shown (front ++ (cell ∷ [])) items
    → (more : List Item) × (own : List Item) × (items ≡ more ++ own) × IsOwn table usable last shown cell own
end_last table usable last shown [] cell items ends = ends
end_last table usable last shown (first ∷ []) cell items ends =
    let later = ends.3 in
    (ends.0 ++ later.0, later.1, ends.2 ∙ (ap (λ (l : List Item). ends.0 ++ l) later.2 ∙ sym (append_assoc ends.0 later.0 later.1)), later.3)
end_last table usable last shown (first ∷ (next ∷ front)) cell items ends =
    let later = end_last table usable last shown (next ∷ front) cell ends.1 ends.3 in
    (ends.0 ++ later.0, later.1, ends.2 ∙ (ap (λ (l : List Item). ends.0 ++ l) later.2 ∙ sym (append_assoc ends.0 later.0 later.1)), later.3)

-- A page's cells are these before a run, the run, and these after it: what the run and the first child behind it lead to stands in the middle. In any view that shows
-- the rest alike, other cells with other subtrees may stand there, if in a table their keys may.
pub record Run (table : Bool) (usable last : ℕ) (shown : Shown) (height : ℕ) (before run after : List NodeCell) (right : ℕ) (own : List ℕ) (items : List Item) : Type 0 where
  pub left_own : List ℕ
  pub mine_own : List ℕ
  pub right_own : List ℕ
  pub left : List Item
  pub mine : List Item
  pub behind : List Item
  pub own_is : own ≡ left_own ++ (mine_own ++ right_own)
  pub items_are : items ≡ left ++ (mine ++ behind)
  pub under : AreUnder table usable last shown (IsSubtree table usable last shown height) run (first_child after right) mine_own mine
  pub between : MayStandBetween table before after mine
  pub left_ends : EndWithOwn table usable last shown before left
  pub behind_begins : BeginWithOwn table usable last shown after behind
  pub again : (last_then : ℕ) (shown_then : Shown) → last ≤ last_then → AllAlike shown shown_then (left_own ++ right_own)
      → (news : List NodeCell) (own_then : List ℕ) (items_then : List Item)
      → AreUnder table usable last_then shown_then (IsSubtree table usable last_then shown_then height) news (first_child after right) own_then items_then
      → MayStandBetween table before after items_then
      → AreUnder table usable last_then shown_then (IsSubtree table usable last_then shown_then height) (before ++ (news ++ after)) right
      (left_own ++ (own_then ++ right_own)) (left ++ (items_then ++ behind))

pub run_of : (table : Bool) (usable last : ℕ) (shown : Shown) (height : ℕ) (before run after : List NodeCell) (right : ℕ) (own : List ℕ) (items : List Item)
    → AreUnder table usable last shown (IsSubtree table usable last shown height) (before ++ (run ++ after)) right own items
    → Run table usable last shown height before run after right own items
run_of table usable last shown height [] run [] right own items under = record {
  left_own = [];
  mine_own = own;
  right_own = [];
  left = [];
  mine = items;
  behind = [];
  own_is = sym (append-nil own);
  items_are = sym (append-nil items);
  under = subst (λ (l : List NodeCell). AreUnder table usable last shown (IsSubtree table usable last shown height) l right own items) (append-nil run) under;
  between = record { above = tt; up_to = tt };
  left_ends = refl;
  behind_begins = refl;
  again = λ last_then shown_then more alike news own_then items_then grown fits.
      subst (λ (l : List NodeCell). AreUnder table usable last_then shown_then (IsSubtree table usable last_then shown_then height) l right (own_then ++ []) (items_then ++ [])) (sym (append-nil news))
      (subst (λ (o : List ℕ). AreUnder table usable last_then shown_then (IsSubtree table usable last_then shown_then height) news right o (items_then ++ [])) (sym (append-nil own_then))
      (subst (λ (l : List Item). AreUnder table usable last_then shown_then (IsSubtree table usable last_then shown_then height) news right own_then l) (sym (append-nil items_then)) grown));
}
run_of table usable last shown height [] run (cell ∷ cells) right own items under =
    let cut = cut_under table usable last shown (IsSubtree table usable last shown height) (child_some table usable last shown height) run cells cell right own items under in
    record {
      left_own = [];
      mine_own = cut.left_own;
      right_own = chains cut.middle ++ cut.rest_own;
      left = [];
      mine = cut.left_items;
      behind = cut.middle ++ cut.rest_items;
      own_is = cut.own_is;
      items_are = cut.items_are;
      under = cut.left_under;
      between = record { above = tt; up_to = divided_upto table cell cut.left_items cut.rest_items cut.divided };
      left_ends = refl;
      behind_begins = (cut.middle, cut.rest_items, refl, cut.middle_is);
      again = λ last_then shown_then more alike news own_then items_then grown fits.
          under_joined table usable last_then shown_then (IsSubtree table usable last_then shown_then height) (child_some table usable last_then shown_then height)
          news cells cell right own_then cut.rest_own items_then cut.middle cut.rest_items grown
          (own_moves table usable last last_then shown shown_then cell cell cut.middle more (λ n there. alike n (omega (arith, there, times-append (chains cut.middle) cut.rest_own n)))
          (says_itself cell) cut.middle_is)
          (divides table cell items_then cut.rest_items fits.up_to (divided_above table cell cut.left_items cut.rest_items cut.divided))
          (grown_moves table usable last last_then shown shown_then height cells right cut.rest_own cut.rest_items more
          (λ n there. alike n (omega (arith, there, times-append (chains cut.middle) cut.rest_own n))) cut.rest_under);
    }
run_of table usable last shown height (cell ∷ before) run after right own items under =
    let later = run_of table usable last shown height before run after right under.rest_own under.rest under.others in
    let above : AreAbove table cell.rowid (later.left ++ (later.mine ++ later.behind)) =
    subst (AreAbove table cell.rowid) later.items_are (divided_above table cell under.under under.rest under.divided) in
    let inner : AreAbove table cell.rowid (later.mine ++ later.behind) = above_last table cell.rowid later.left (later.mine ++ later.behind) above in
    record {
      left_own = under.under_own ++ (chains under.middle ++ later.left_own);
      mine_own = later.mine_own;
      right_own = later.right_own;
      left = under.under ++ (under.middle ++ later.left);
      mine = later.mine;
      behind = later.behind;
      own_is = under.own_is ∙ moved under.under_own (chains under.middle) under.rest_own later.left_own (later.mine_own ++ later.right_own) later.own_is;
      items_are = under.items_are ∙ moved under.under under.middle under.rest later.left (later.mine ++ later.behind) later.items_are;
      under = later.under;
      between = record { above = (above_first table cell.rowid later.mine later.behind inner, later.between.above); up_to = later.between.up_to };
      left_ends = end_more table usable last shown cell before under.under under.middle later.left under.middle_is later.left_ends;
      behind_begins = later.behind_begins;
      again = λ last_then shown_then more alike news own_then items_then grown fits.
          let here : (n : ℕ) → times ((under.under_own ++ (chains under.middle ++ later.left_own)) ++ later.right_own) n
          ≡ times under.under_own n + (times (chains under.middle) n + times (later.left_own ++ later.right_own) n) = λ n.
          omega (
            arith,
            times-append (under.under_own ++ (chains under.middle ++ later.left_own)) later.right_own n,
            times-append under.under_own (chains under.middle ++ later.left_own) n,
            times-append (chains under.middle) later.left_own n,
            times-append later.left_own later.right_own n,
          ) in
          record {
            under_own = under.under_own;
            rest_own = later.left_own ++ (own_then ++ later.right_own);
            under = under.under;
            middle = under.middle;
            rest = later.left ++ (items_then ++ later.behind);
            own_is = sym (moved under.under_own (chains under.middle) (later.left_own ++ (own_then ++ later.right_own)) later.left_own (own_then ++ later.right_own) refl);
            items_are = sym (moved under.under under.middle (later.left ++ (items_then ++ later.behind)) later.left (items_then ++ later.behind) refl);
            sub = child_moves table usable last last_then shown shown_then height cell.left under.under_own under.under more (λ n there. alike n (omega (arith, here n, there))) under.sub;
            middle_is = own_moves table usable last last_then shown shown_then cell cell under.middle more (λ n there. alike n (omega (arith, here n, there))) (says_itself cell) under.middle_is;
            divided = divides table cell under.under (later.left ++ (items_then ++ later.behind)) (divided_upto table cell under.under under.rest under.divided)
                (above-append table cell.rowid later.left (items_then ++ later.behind) (above_first table cell.rowid later.left (later.mine ++ later.behind) above)
                (above-append table cell.rowid items_then later.behind fits.above.0 (above_last table cell.rowid later.mine later.behind inner)));
            others = later.again last_then shown_then more (λ n there. alike n (omega (arith, here n, there))) news own_then items_then grown
                (record { above = fits.above.1; up_to = fits.up_to });
          };
    }

-- Pages that stand in others no more often than there.
use Rattle.std.proofs.Common.{◌≡◌, ℕ, zero, suc, ◌≤◌, Bool, true, false, List, [], ◌∷◌, ◌++◌, length, inl, inr, refl, subst, sym, ◌∙◌, arith}
use Rattle.std.proofs.lemmas.Bool.{cases_lt}
use Rattle.node_spec.specs.Cells.{NodeCell}
use Rattle.node_spec.specs.Kinds.{is_leaf}
use Rattle.node_spec.specs.Nodes.{Node}
use Rattle.tree_spec.specs.Shown.{Shown}
use Rattle.tree_spec.specs.Layout.{Item, times, chains}
use Rattle.tree_spec.specs.Trees.{AreItems, AreUnder, IsChild, Content}
use Rattle.tree_spec.proofs.Lists.{times-append}
use Rattle.tree_scan.specs.Coming.{LeftItems, LeftUnder, LeftFrom, Rests}
use Rattle.tree_scan.specs.Reads.{NoOftener, StandIn, TakesPages, ReadsOf}

pub within_same : (own : List ℕ) → NoOftener own own
within_same own page = omega arith

pub within_none : (own : List ℕ) → NoOftener [] own
within_none own page = omega arith

pub within_is : (few own : List ℕ) → own ≡ few → NoOftener few own
within_is few own is = subst (NoOftener few) (sym is) (within_same few)

-- what was read first, and then
pub within_then : (first list still middle own : List ℕ) → NoOftener (first ++ middle) own → NoOftener (list ++ still) middle → NoOftener ((first ++ list) ++ still) own
within_then first list still middle own one two page =
    omega (arith, one page, two page, times-append first middle page, times-append list still page, times-append (first ++ list) still page, times-append first list page)

-- what is read, and what is still to be read
pub within_first : (list still own : List ℕ) → NoOftener (list ++ still) own → NoOftener list own
within_first list still own within page = omega (arith, within page, times-append list still page)

pub within_last : (list still own : List ℕ) → NoOftener (list ++ still) own → NoOftener still own
within_last list still own within page = omega (arith, within page, times-append list still page)

pub within_on : (first middle list own : List ℕ) → NoOftener (first ++ middle) own → NoOftener list middle → NoOftener (first ++ list) own
within_on first middle list own one two page = omega (arith, one page, two page, times-append first middle page, times-append first list page)

pub within_join : (few middle own : List ℕ) → NoOftener few middle → NoOftener middle own → NoOftener few own
within_join few middle own one two page = omega (arith, one page, two page)

-- with more behind both, or before one
pub within_more : (few own rest : List ℕ) → NoOftener few own → NoOftener (few ++ rest) (own ++ rest)
within_more few own rest within page = omega (arith, within page, times-append few rest page, times-append own rest page)

pub within_front : (few own rest : List ℕ) → NoOftener few own → NoOftener few (own ++ rest)
within_front few own rest within page = omega (arith, within page, times-append own rest page)

pub within_past : (few front own : List ℕ) → NoOftener few own → NoOftener few (front ++ own)
within_past few front own within page = omega (arith, within page, times-append front own page)

pub within_page : (page : ℕ) (few own : List ℕ) (n : ℕ) → times few n ≤ times own n → times (page ∷ few) n ≤ times (page ∷ own) n
within_page page few own n within = omega (arith, within)

-- the same where entries may be compared besides
pub takes_same : (looks : Bool) (own : List ℕ) → TakesPages looks own [] own
takes_same false own = within_same own
takes_same true own = (λ page here. absurd (omega (arith, here)), within_same own)

pub takes_exactly : (looks : Bool) (own list still : List ℕ) → NoOftener (list ++ still) own → TakesPages looks own list still
takes_exactly false own list still within = within
takes_exactly true own list still within = (
  λ page here. omega (arith, within page, here, times-append list still page),
  λ page. omega (arith, within page, times-append list still page),
)

pub reads_exactly : (looks : Bool) (own list : List ℕ) → NoOftener list own → ReadsOf looks own list
reads_exactly false own list within = within
reads_exactly true own list within = λ page here. omega (arith, within page, here)

stand_both : (a b own : List ℕ) → StandIn a own → StandIn b own → StandIn (a ++ b) own
stand_both a b own one two = λ page here. elim (cases_lt 0 (times a page)) [
  | inl some ↦ one page (omega (arith, some))
  | inr none ↦ two page (omega (arith, none, here, times-append a b page))
]

stand_join : (few middle own : List ℕ) → StandIn few middle → NoOftener middle own → StandIn few own
stand_join few middle own one two = λ page here. omega (arith, one page here, two page)

stand_page : (page : ℕ) (list below behind : List ℕ) → StandIn list below → StandIn (page ∷ list) (page ∷ (below ++ behind))
stand_page page list below behind looked = λ n here. elim (cases_lt 0 (times list n)) [
  | inl some ↦ omega (arith, looked n (omega (arith, some)), times-append below behind n)
  | inr none ↦ omega (arith, none, here)
]

pub takes_then : (looks : Bool) (first list still middle own : List ℕ) → TakesPages looks own first middle → TakesPages looks middle list still
    → TakesPages looks own (first ++ list) still
takes_then false first list still middle own one two = within_then first list still middle own one two
takes_then true first list still middle own one two =
    (stand_both first list own one.0 (stand_join list middle own two.0 one.1), within_join still middle own two.1 one.1)

pub takes_on : (looks : Bool) (first middle list own : List ℕ) → TakesPages looks own first middle → ReadsOf looks middle list → ReadsOf looks own (first ++ list)
takes_on false first middle list own one two = within_on first middle list own one two
takes_on true first middle list own one two = stand_both first list own one.0 (stand_join list middle own two one.1)

pub takes_last : (looks : Bool) (own list still : List ℕ) → TakesPages looks own list still → NoOftener still own
takes_last false own list still takes = within_last list still own takes
takes_last true own list still takes = takes.1

-- a page, and pages of what it leads to
pub takes_page : (looks : Bool) (page : ℕ) (list few below behind own : List ℕ) → own ≡ page ∷ (below ++ behind) → NoOftener few below → (looks ≡ false → list ≡ [])
    → (looks ≡ true → StandIn list below) → TakesPages looks own (page ∷ list) (few ++ behind)
takes_page false page list few below behind own is within none looked =
    subst (λ (l : List ℕ). NoOftener ((page ∷ l) ++ (few ++ behind)) own) (sym (none refl))
    (subst (NoOftener (page ∷ (few ++ behind))) (sym is) (λ n. within_page page (few ++ behind) (below ++ behind) n (within_more few below behind within n)))
takes_page true page list few below behind own is within none looked =
    subst (λ (o : List ℕ). StandIn (page ∷ list) o × NoOftener (few ++ behind) o) (sym is) (
      stand_page page list below behind (looked refl),
      λ n. omega (arith, within n, times-append few behind n, times-append below behind n),
    )

pub reads_page : (looks : Bool) (page : ℕ) (list below behind own : List ℕ) → own ≡ page ∷ (below ++ behind) → (looks ≡ false → list ≡ [])
    → (looks ≡ true → StandIn list below) → ReadsOf looks own (page ∷ list)
reads_page false page list below behind own is none looked =
    subst (λ (l : List ℕ). NoOftener (page ∷ l) own) (sym (none refl))
    (subst (NoOftener (page ∷ [])) (sym is) (λ n. within_page page [] (below ++ behind) n (within_none (below ++ behind) n)))
reads_page true page list below behind own is none looked =
    subst (StandIn (page ∷ list)) (sym is) (stand_page page list below behind (looked refl))

-- what is left of a node from a place on
pub record FromPlace (Left : List ℕ → List Item → Type 0) (own : List ℕ) : Type 0 where
  pub left_own : List ℕ
  pub left_items : List Item
  pub left : Left left_own left_items
  pub within : NoOftener left_own own

from_cell : (table : Bool) (usable last : ℕ) (shown : Shown) (place : ℕ) (cells : List NodeCell) (items : List Item) → place ≤ length cells → AreItems table usable last shown cells items
    → FromPlace (λ o i. LeftItems table usable last shown place cells i × (o ≡ chains i)) (chains items)
from_cell table usable last shown zero cells items inside are =
    record { left_own = chains items; left_items = items; left = (are, refl); within = within_same (chains items) }
from_cell table usable last shown (suc place) [] items inside are = absurd (omega (arith, inside))
from_cell table usable last shown (suc place) (cell ∷ cells) [] inside never = absurd never
from_cell table usable last shown (suc place) (cell ∷ cells) (item ∷ items) inside are =
    let found = from_cell table usable last shown place cells items (omega (arith, inside)) are.2 in
    record {
      left_own = found.left_own;
      left_items = found.left_items;
      left = found.left;
      within = within_past found.left_own item.chain (chains items) found.within;
    }

from_child : (table : Bool) (usable last : ℕ) (shown : Shown) (IsSub : ℕ → List ℕ → List Item → Type 0) (place : ℕ) (cells : List NodeCell) (right : ℕ) (own : List ℕ) (items : List Item)
    → place ≤ length cells → AreUnder table usable last shown IsSub cells right own items → FromPlace (LeftUnder table usable last shown IsSub place cells right) own
from_child table usable last shown IsSub zero cells right own items inside under = record { left_own = own; left_items = items; left = under; within = within_same own }
from_child table usable last shown IsSub (suc place) [] right own items inside under = absurd (omega (arith, inside))
from_child table usable last shown IsSub (suc place) (cell ∷ cells) right own items inside under =
    let found = from_child table usable last shown IsSub place cells right under.rest_own under.rest (omega (arith, inside)) under.others in
    record {
      left_own = found.left_own;
      left_items = found.left_items;
      left = found.left;
      within = subst (NoOftener found.left_own) (sym under.own_is)
          (within_past found.left_own under.under_own (chains under.middle ++ under.rest_own) (within_past found.left_own (chains under.middle) under.rest_own found.within));
    }

pub from_place : (table : Bool) (usable last : ℕ) (shown : Shown) (height : ℕ) (node : Node) (place : ℕ) (at_cell : Bool) (below : List ℕ) (items : List Item)
    → at_cell ≡ is_leaf node.kind → place ≤ length node.cells → Content table usable last shown height node below items
    → FromPlace (Rests table usable last shown height node place at_cell) below
from_place table usable last shown zero node place at_cell below items is inside content =
    let found = from_cell table usable last shown place node.cells items inside content.items_are in
    record {
      left_own = found.left_own;
      left_items = found.left_items;
      left = (content.leaf, found.left.0, found.left.1);
      within = subst (NoOftener found.left_own) (sym content.below_is) found.within;
    }
from_place table usable last shown (suc height) node place at_cell below items is inside content =
    let IsSub : ℕ → List ℕ → List Item → Type 0 = IsChild last shown (Content table usable last shown height) in
    let found = from_child table usable last shown IsSub place node.cells node.right below items inside content.under in
    record {
      left_own = found.left_own;
      left_items = found.left_items;
      left = (
        content.inner,
        subst (λ (b : Bool). LeftFrom b table usable last shown IsSub place node.cells node.right found.left_own found.left_items) (sym (is ∙ content.inner)) found.left,
      );
      within = found.within;
    }

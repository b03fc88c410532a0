-- A node that a page shows together with new siblings: each of them is a child.
use Rattle.std.proofs.Common.{◌≡◌, ℕ, ℤ, zero, suc, ◌+◌, ◌≤◌, ◌<ℤ◌, ◌≤ℤ◌, Bool, true, false, List, [], ◌∷◌, ◌++◌, length, refl, sym, subst, ap, ◌∙◌, arith, inr, append-nil}
use Rattle.std.proofs.lemmas.Int.{ints}
use Rattle.std.specs.Prelude.{◌&&◌, slice_index_or}
use Rattle.node_spec.specs.Kinds.{is_leaf, is_table}
use Rattle.node_spec.specs.Cells.{NodeCell}
use Rattle.node_spec.specs.Nodes.{Node, no_cell}
use Rattle.tree_spec.specs.Layout.{times, Each, Item, chains}
use Rattle.tree_spec.specs.Shown.{Shown}
use Rattle.tree_spec.specs.Trees.{IsItem, IsOwn, AreItems, AreDivided, AreUnder, Content}
use Rattle.tree_spec.proofs.Lists.{times-append, chains-append}
use Rattle.edit_spec.specs.Nodes.{Divides, DividesRows, DividesBetween, ByLeafOfTable, ShowTogether, SaysSame}
use Rattle.edit_spec.specs.Edits.{IsSubtree, IsGrown, lefts, LeadInRange}
use Rattle.edit_spec.proofs.Lists.{each_first, each_weaker, three_counts}
use Rattle.edit_spec.proofs.Local.{item_moves, own_moves}
use Rattle.edit_spec.proofs.Under.{child_some, cut_under}

-- What a node holds is divided at a cell of the page above.
pub record CutContent (table : Bool) (usable last : ℕ) (shown : Shown) (height : ℕ) (cell : NodeCell) (left rest : Node) (below : List ℕ) (items : List Item) : Type 0 where
  pub left_below : List ℕ
  pub rest_below : List ℕ
  pub left_items : List Item
  pub middle : List Item
  pub rest_items : List Item
  pub below_is : below ≡ left_below ++ (chains middle ++ rest_below)
  pub items_are : items ≡ left_items ++ (middle ++ rest_items)
  pub left_content : Content table usable last shown height left left_below left_items
  pub rest_content : Content table usable last shown height rest rest_below rest_items
  pub middle_is : IsOwn table usable last shown cell middle
  pub divided : AreDivided table cell left_items rest_items
  pub left_some : 1 ≤ length left.cells
  pub rest_some : 1 ≤ length rest.cells

key_below : (low middle high : ℤ) → low ≡ middle → middle <ℤ high → low <ℤ high
key_below low middle high p q = subst (λ (k : ℤ). k <ℤ high) (sym p) q

key_upto : (key other : ℤ) → key ≡ other → key ≤ℤ other
key_upto key other p = omega (arith, ints, p)

below_upto : (key middle high : ℤ) → key <ℤ middle → middle ≤ℤ high → key ≤ℤ high
below_upto key middle high p q = omega (arith, ints)

-- rows divided behind one of them
cut_rows : (usable last : ℕ) (shown : Shown) (left rest : List NodeCell) (items : List Item) (k : ℕ) → k + 1 ≡ length left → AreItems true usable last shown (left ++ rest) items
    → (a : List Item) × (b : List Item) × (items ≡ a ++ b) × AreItems true usable last shown left a × AreItems true usable last shown rest b
    × Each (λ (item : Item). item.key ≤ℤ (slice_index_or left k no_cell).rowid) a × Each (λ (item : Item). (slice_index_or left k no_cell).rowid <ℤ item.key) b
cut_rows usable last shown [] rest items k is are = absurd (omega (arith, is))
cut_rows usable last shown (cell ∷ cells) rest [] k is never = absurd never
cut_rows usable last shown (cell ∷ []) rest (item ∷ items) zero is are = (
  item ∷ [],
  items,
  refl,
  (are.0, tt, tt),
  are.2,
  (key_upto item.key cell.rowid are.0.key, tt),
  each_weaker (λ (other : Item). item.key <ℤ other.key) (λ (other : Item). cell.rowid <ℤ other.key) items (λ other above. key_below cell.rowid item.key other.key (sym are.0.key) above) are.1,
)
cut_rows usable last shown (cell ∷ []) rest (item ∷ items) (suc k) is are = absurd (omega (arith, is))
cut_rows usable last shown (cell ∷ (next ∷ cells)) rest (item ∷ items) zero is are = absurd (omega (arith, is))
cut_rows usable last shown (cell ∷ (next ∷ cells)) rest (item ∷ items) (suc k) is are =
    let later = cut_rows usable last shown (next ∷ cells) rest items k (omega (arith, is)) are.2 in
    let behind : Each (λ (other : Item). item.key <ℤ other.key) (later.0 ++ later.1) = subst (Each (λ (other : Item). item.key <ℤ other.key)) later.2 are.1 in
    let first = each_first (λ (other : Item). item.key <ℤ other.key) later.0 later.1 behind in
    (item ∷ later.0, later.1, ap (λ (l : List Item). item ∷ l) later.2, (are.0, first, later.3), later.4, (lower later.0 first later.3 later.5, later.5), later.6)
  where
    lower : (a : List Item) → Each (λ (other : Item). item.key <ℤ other.key) a → AreItems true usable last shown (next ∷ cells) a
        → Each (λ (other : Item). other.key ≤ℤ (slice_index_or (next ∷ cells) k no_cell).rowid) a → item.key ≤ℤ (slice_index_or (next ∷ cells) k no_cell).rowid
    lower [] first never below = absurd never
    lower (other ∷ others) first here below = below_upto item.key other.key (slice_index_or (next ∷ cells) k no_cell).rowid first.0 below.0

-- entries divided at one of them
cut_entries : (usable last : ℕ) (shown : Shown) (left rest : List NodeCell) (between : NodeCell) (items : List Item) → AreItems false usable last shown (left ++ (between ∷ rest)) items
    → (a : List Item) × (item : Item) × (b : List Item) × (items ≡ a ++ (item ∷ b)) × AreItems false usable last shown left a × IsItem usable last shown between item
    × AreItems false usable last shown rest b
cut_entries usable last shown [] rest between [] never = absurd never
cut_entries usable last shown [] rest between (item ∷ items) are = ([], item, items, refl, tt, are.0, are.2)
cut_entries usable last shown (cell ∷ cells) rest between [] never = absurd never
cut_entries usable last shown (cell ∷ cells) rest between (item ∷ items) are =
    let later = cut_entries usable last shown cells rest between items are.2 in
    (item ∷ later.0, later.1, later.2, ap (λ (l : List Item). item ∷ l) later.3, (are.0, tt, later.4), later.5, later.6)

-- of a leaf of a table, and of any other page
pub of_rows : (leaf table : Bool) (OfRows OfOthers : Type 0) → leaf ≡ true → table ≡ true → ByLeafOfTable (leaf && table) OfRows OfOthers → OfRows
of_rows true true OfRows OfOthers p q is = is
of_rows true false OfRows OfOthers p q is = absurd (cc q)
of_rows false table OfRows OfOthers p q is = absurd (cc p)

pub of_entries : (leaf table : Bool) (OfRows OfOthers : Type 0) → table ≡ false → ByLeafOfTable (leaf && table) OfRows OfOthers → OfOthers
of_entries true true OfRows OfOthers q is = absurd (cc q)
of_entries true false OfRows OfOthers q is = is
of_entries false table OfRows OfOthers q is = is

pub of_inner : (leaf table : Bool) (OfRows OfOthers : Type 0) → leaf ≡ false → ByLeafOfTable (leaf && table) OfRows OfOthers → OfOthers
of_inner true table OfRows OfOthers p is = absurd (cc p)
of_inner false table OfRows OfOthers p is = is

-- what a cell divides, a cell of the same key does
pub divided_says : (table : Bool) (one two : NodeCell) (under behind : List Item) → two.rowid ≡ one.rowid → AreDivided table one under behind → AreDivided table two under behind
divided_says true one two under behind is divided = (
  subst (λ (key : ℤ). Each (λ (item : Item). item.key ≤ℤ key) under) (sym is) divided.0,
  subst (λ (key : ℤ). Each (λ (item : Item). key <ℤ item.key) behind) (sym is) divided.1,
)
divided_says false one two under behind is divided = tt

-- a divided node holds what its parts do
pub cut_content : (table : Bool) (usable last : ℕ) (shown : Shown) (height : ℕ) (cell : NodeCell) (whole left rest : Node) (below : List ℕ) (items : List Item)
    → Divides whole cell left rest → Content table usable last shown height whole below items → CutContent table usable last shown height cell left rest below items
cut_content true usable last shown zero cell whole left rest below items divides content =
    let d : DividesRows whole cell left rest = of_rows (is_leaf whole.kind) (is_table whole.kind) (DividesRows whole cell left rest) (DividesBetween whole cell left rest)
    content.leaf content.table_is divides in
    let cut = cut_rows usable last shown left.cells rest.cells items d.last d.last_is (subst (λ (l : List NodeCell). AreItems true usable last shown l items) d.cells content.items_are) in
    record {
      left_below = chains cut.0;
      rest_below = chains cut.1;
      left_items = cut.0;
      middle = [];
      rest_items = cut.1;
      below_is = content.below_is ∙ (ap chains cut.2 ∙ chains-append cut.0 cut.1);
      items_are = cut.2;
      left_content = record { leaf = ap is_leaf d.left_kind ∙ content.leaf; table_is = ap is_table d.left_kind ∙ content.table_is; items_are = cut.3; below_is = refl };
      rest_content = record { leaf = ap is_leaf d.rest_kind ∙ content.leaf; table_is = ap is_table d.rest_kind ∙ content.table_is; items_are = cut.4; below_is = refl };
      middle_is = refl;
      divided = (
        subst (λ (key : ℤ). Each (λ (item : Item). item.key ≤ℤ key) cut.0) (sym d.rowid) cut.5,
        subst (λ (key : ℤ). Each (λ (item : Item). key <ℤ item.key) cut.1) (sym d.rowid) cut.6,
      );
      left_some = d.left_some;
      rest_some = d.rest_some;
    }
cut_content false usable last shown zero cell whole left rest below items divides content =
    let d : DividesBetween whole cell left rest = of_entries (is_leaf whole.kind) (is_table whole.kind) (DividesRows whole cell left rest) (DividesBetween whole cell left rest)
    content.table_is divides in
    let cut = cut_entries usable last shown left.cells rest.cells d.between items (subst (λ (l : List NodeCell). AreItems false usable last shown l items) d.cells content.items_are) in
    record {
      left_below = chains cut.0;
      rest_below = chains cut.2;
      left_items = cut.0;
      middle = cut.1 ∷ [];
      rest_items = cut.2;
      below_is = content.below_is ∙ (ap chains cut.3 ∙ (chains-append cut.0 (cut.1 ∷ cut.2) ∙ ap (λ (l : List ℕ). chains cut.0 ++ l) (ap (λ (l : List ℕ). l ++ chains cut.2) (sym (append-nil cut.1.chain)))));
      items_are = cut.3;
      left_content = record { leaf = ap is_leaf d.left_kind ∙ content.leaf; table_is = ap is_table d.left_kind ∙ content.table_is; items_are = cut.4; below_is = refl };
      rest_content = record { leaf = ap is_leaf d.rest_kind ∙ content.leaf; table_is = ap is_table d.rest_kind ∙ content.table_is; items_are = cut.6; below_is = refl };
      middle_is = (cut.1, refl, item_says usable last shown d.between cell cut.1 d.up_is cut.5);
      divided = tt;
      left_some = d.left_some;
      rest_some = d.rest_some;
    }
  where
    item_says : (usable last : ℕ) (shown : Shown) (one two : NodeCell) (item : Item) → SaysSame one two → IsItem usable last shown one item → IsItem usable last shown two item
    item_says usable last shown one two item says is =
        item_moves usable last last shown shown one two item (omega arith) (λ n there. record { node = refl; link = λ later. refl }) says is
cut_content table usable last shown (suc height) cell whole left rest below items divides content =
    let d : DividesBetween whole cell left rest = of_inner (is_leaf whole.kind) (is_table whole.kind) (DividesRows whole cell left rest) (DividesBetween whole cell left rest)
    content.inner divides in
    let cut = cut_under table usable last shown (IsSubtree table usable last shown height) (child_some table usable last shown height) left.cells rest.cells d.between whole.right below items
    (subst (λ (l : List NodeCell). AreUnder table usable last shown (IsSubtree table usable last shown height) l whole.right below items) d.cells content.under) in
    record {
      left_below = cut.left_own;
      rest_below = cut.rest_own;
      left_items = cut.left_items;
      middle = cut.middle;
      rest_items = cut.rest_items;
      below_is = cut.own_is;
      items_are = cut.items_are;
      left_content = record {
        inner = ap is_leaf d.left_kind ∙ content.inner;
        table_is = ap is_table d.left_kind ∙ content.table_is;
        under = subst (λ (r : ℕ). AreUnder table usable last shown (IsSubtree table usable last shown height) left.cells r cut.left_own cut.left_items) (sym d.left_right) cut.left_under;
      };
      rest_content = record {
        inner = ap is_leaf d.rest_kind ∙ content.inner;
        table_is = ap is_table d.rest_kind ∙ content.table_is;
        under = subst (λ (r : ℕ). AreUnder table usable last shown (IsSubtree table usable last shown height) rest.cells r cut.rest_own cut.rest_items) (sym d.rest_right) cut.rest_under;
      };
      middle_is = own_moves table usable last last shown shown d.between cell cut.middle (omega arith) (λ n there. record { node = refl; link = λ later. refl }) d.up_is cut.middle_is;
      divided = divided_says table d.between cell cut.left_items cut.rest_items (d.up_is.rowid) cut.divided;
      left_some = d.left_some;
      rest_some = d.rest_some;
    }

-- what an edit makes of a page, with the pages that it has then
pub record Grown (table : Bool) (usable last : ℕ) (shown : Shown) (height : ℕ) (news : List NodeCell) (page : ℕ) (below : List ℕ) (items : List Item) : Type 0 where
  pub own : List ℕ
  pub grown : IsGrown table usable last shown height news page own items
  pub counts : (n : ℕ) → times own n ≡ times (lefts news ++ (page ∷ below)) n

-- A page that has a cell at least, in its siblings or itself, is grown by them.
pub content_grown : (table : Bool) (usable last : ℕ) (shown : Shown) (height : ℕ) (news : List NodeCell) (page : ℕ) (whole : Node) (below : List ℕ) (items : List Item)
    → 2 ≤ page → page ≤ last → LeadInRange last news → 1 ≤ length whole.cells → ShowTogether shown.node news page whole
    → Content table usable last shown height whole below items → Grown table usable last shown height news page below items
content_grown table usable last shown height [] page whole below items least most ranged some shows content = record {
  own = page ∷ below;
  grown = record {
    least = least;
    most = most;
    holds = record { node = whole; holds = shows; enough = inr some; below = below; content = content; own_is = refl };
  };
  counts = λ n. refl;
}
content_grown table usable last shown height (new ∷ news) page whole below items least most ranged some shows content =
    let cut = cut_content table usable last shown height new whole shows.left shows.rest below items shows.divides content in
    let later = content_grown table usable last shown height news page shows.rest cut.rest_below cut.rest_items least most ranged.1 cut.rest_some shows.others cut.rest_content in
    record {
      own = (new.left ∷ cut.left_below) ++ (chains cut.middle ++ later.own);
      grown = record {
        under_own = new.left ∷ cut.left_below;
        rest_own = later.own;
        under = cut.left_items;
        middle = cut.middle;
        rest = cut.rest_items;
        own_is = refl;
        items_are = cut.items_are;
        sub = record {
          least = ranged.0.0;
          most = ranged.0.1;
          holds = record { node = shows.left; holds = shows.holds; enough = inr cut.left_some; below = cut.left_below; content = cut.left_content; own_is = refl };
        };
        middle_is = cut.middle_is;
        divided = cut.divided;
        others = later.grown;
      };
      counts = λ n. omega (
        arith,
        later.counts n,
        three_counts below cut.left_below (chains cut.middle) cut.rest_below n cut.below_is,
        times-append cut.left_below (chains cut.middle ++ later.own) n,
        times-append (chains cut.middle) later.own n,
        times-append (lefts news) (page ∷ cut.rest_below) n,
        times-append (lefts news) (page ∷ below) n,
      );
    }

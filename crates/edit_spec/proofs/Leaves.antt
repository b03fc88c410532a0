-- A leaf that takes a cell, and one that loses a cell.
use Rattle.std.proofs.Common.{◌≡◌, ℕ, zero, ◌+◌, ◌≤◌, Bool, true, false, List, [], ◌∷◌, ◌++◌, refl, sym, subst, ap, ◌∙◌, arith, append-nil}
use Rattle.node_spec.specs.Cells.{NodeCell}
use Rattle.node_spec.specs.Nodes.{Node}
use Rattle.tree_spec.specs.Layout.{times, Each, Item, chains}
use Rattle.tree_spec.specs.Shown.{Shown}
use Rattle.tree_spec.specs.Trees.{IsItem, AreItems, OfLeaf}
use Rattle.tree_spec.proofs.Lists.{times-append, chains-append}
use Rattle.edit_spec.specs.Nodes.{ShowTogether, node_of_cells}
use Rattle.edit_spec.specs.Places.{Gap, EndsIn, BeginsIn, AreAbove, IsLower, IsLowerThanFirst}
use Rattle.edit_spec.specs.Edits.{lefts, LeadInRange, IsEdited, StandOnce, KeepAlike}
use Rattle.edit_spec.proofs.Lists.{cons_count, counts_same}
use Rattle.edit_spec.proofs.Orders.{above-append, above_first, above_last, above_lower, behind_above, above_behind}
use Rattle.edit_spec.proofs.Local.{AllAlike, items_move}

-- A leaf's items, divided with its cells: in a table each of the first has a key below all of the others.
pub record ItemsCut (table : Bool) (usable last : ℕ) (shown : Shown) (before after : List NodeCell) (items : List Item) : Type 0 where
  pub left : List Item
  pub behind : List Item
  pub items_are : items ≡ left ++ behind
  pub left_are : AreItems table usable last shown before left
  pub behind_are : AreItems table usable last shown after behind
  pub ordered : Each (λ (item : Item). AreAbove table item.key behind) left

pub cut_items : (table : Bool) (usable last : ℕ) (shown : Shown) (before after : List NodeCell) (items : List Item) → AreItems table usable last shown (before ++ after) items
    → ItemsCut table usable last shown before after items
cut_items table usable last shown [] after items are = record { left = []; behind = items; items_are = refl; left_are = tt; behind_are = are; ordered = tt }
cut_items table usable last shown (cell ∷ before) after [] never = absurd never
cut_items table usable last shown (cell ∷ before) after (item ∷ items) are =
    let later = cut_items table usable last shown before after items are.2 in
    let above : AreAbove table item.key (later.left ++ later.behind) = subst (AreAbove table item.key) later.items_are (behind_above table item items are.1) in
    record {
      left = item ∷ later.left;
      behind = later.behind;
      items_are = ap (λ (l : List Item). item ∷ l) later.items_are;
      left_are = (are.0, above_behind table item later.left (above_first table item.key later.left later.behind above), later.left_are);
      behind_are = later.behind_are;
      ordered = (above_last table item.key later.left later.behind above, later.ordered);
    }

pub join_items : (table : Bool) (usable last : ℕ) (shown : Shown) (a b : List NodeCell) (x y : List Item) → AreItems table usable last shown a x → AreItems table usable last shown b y
    → Each (λ (item : Item). AreAbove table item.key y) x → AreItems table usable last shown (a ++ b) (x ++ y)
join_items table usable last shown [] b [] y one two ordered = two
join_items table usable last shown [] b (item ∷ x) y never two ordered = absurd never
join_items table usable last shown (cell ∷ a) b [] y never two ordered = absurd never
join_items table usable last shown (cell ∷ a) b (item ∷ x) y one two ordered = (
  one.0,
  above_behind table item (x ++ y) (above-append table item.key x y (behind_above table item x one.1) ordered.0),
  join_items table usable last shown a b x y one.2 two ordered.1,
)

lower_key : (table : Bool) (usable last : ℕ) (shown : Shown) (cells : List NodeCell) (items : List Item) (item : Item) → AreItems table usable last shown cells items
    → Each (λ (cell : NodeCell). IsLower table cell.rowid item.key) cells → Each (λ (other : Item). IsLower table other.key item.key) items
lower_key table usable last shown [] [] item are lower = tt
lower_key table usable last shown [] (other ∷ items) item never lower = absurd never
lower_key table usable last shown (cell ∷ cells) [] item never lower = absurd never
lower_key table usable last shown (cell ∷ cells) (other ∷ items) item are lower =
    (subst (λ key. IsLower table key item.key) (sym are.0.key) lower.0, lower_key table usable last shown cells items item are.2 lower.1)

first_key : (table : Bool) (usable last : ℕ) (shown : Shown) (cells : List NodeCell) (items : List Item) (item : Item) → AreItems table usable last shown cells items
    → IsLowerThanFirst table item.key cells → AreAbove table item.key items
first_key true usable last shown [] [] item are lower = tt
first_key true usable last shown [] (other ∷ items) item never lower = absurd never
first_key true usable last shown (cell ∷ cells) [] item never lower = absurd never
first_key true usable last shown (cell ∷ cells) (other ∷ items) item are lower =
    let here : IsLower true item.key other.key = subst (λ key. IsLower true item.key key) (sym are.0.key) lower in
    (here, above_lower true item.key other.key items here are.1)
first_key false usable last shown cells items item are lower = tt

above_each : (table : Bool) (left behind : List Item) (item : Item) → Each (λ (other : Item). IsLower table other.key item.key) left → Each (λ (other : Item). AreAbove table other.key behind) left
    → Each (λ (other : Item). AreAbove table other.key (item ∷ behind)) left
above_each true [] behind item lower ordered = tt
above_each true (other ∷ left) behind item lower ordered = ((lower.0, ordered.0), above_each true left behind item lower.1 ordered.1)
above_each false [] behind item lower ordered = tt
above_each false (other ∷ left) behind item lower ordered = (tt, above_each false left behind item lower.1 ordered.1)

above_rest : (table : Bool) (left behind : List Item) (item : Item) → Each (λ (other : Item). AreAbove table other.key (item ∷ behind)) left
    → Each (λ (other : Item). AreAbove table other.key behind) left
above_rest table [] behind item ordered = tt
above_rest true (other ∷ left) behind item ordered = (ordered.0.1, above_rest true left behind item ordered.1)
above_rest false (other ∷ left) behind item ordered = (tt, above_rest false left behind item ordered.1)

-- own pages of a leaf that weren't its own page
leaf_alike : (shown then : Shown) (page : ℕ) (fresh own : List ℕ) (items : List Item) → ((n : ℕ) → times own n ≡ times (page ∷ []) n + times (chains items) n) → StandOnce own fresh
    → KeepAlike shown then own (page ∷ []) → AllAlike shown then (chains items)
leaf_alike shown then page fresh own items counted once alike n there = alike n (omega (arith, counted n, there)) (omega (arith, counted n, there, once n))

-- A leaf takes a cell between these before it and these behind it, maybe with new siblings. The item's chain was made for it.
pub leaf_takes : (table : Bool) (usable last last_then : ℕ) (shown then : Shown) (page : ℕ) (node : Node) (before after news : List NodeCell) (cell : NodeCell) (place : Gap) (item : Item)
    (own below : List ℕ) (items : List Item) → last ≤ last_then → own ≡ page ∷ below → OfLeaf table usable last shown node below items
    → (cut : ItemsCut table usable last shown before after items) → EndsIn place.Before cut.left → BeginsIn place.Behind cut.behind
    → Each (λ (other : NodeCell). IsLower table other.rowid item.key) before → IsLowerThanFirst table item.key after → IsItem usable last_then then cell item
    → StandOnce own (item.chain ++ lefts news) → KeepAlike shown then own (page ∷ []) → ShowTogether then.node news page (node_of_cells node (before ++ (cell ∷ after))) → LeadInRange last_then news
    → IsEdited table usable last_then then zero page (node_of_cells node (before ++ (cell ∷ after))) news place [] (item ∷ [])
    (record { fresh = item.chain ++ lefts news; lost = []; put = page ∷ [] }) own items
leaf_takes table usable last last_then shown then page node before after news cell place item own below items more own_is leaf cut ends begins lower lower_first holds once alike shows ranged =
    let counted : (n : ℕ) → times own n ≡ times (page ∷ []) n + times (chains items) n = λ n.
    counts_same own (page ∷ below) n own_is ∙ (cons_count page below n ∙ ap (λ (k : ℕ). times (page ∷ []) n + k) (counts_same below (chains items) n leaf.below_is)) in
    let parted : (n : ℕ) → times (chains items) n ≡ times (chains cut.left) n + times (chains cut.behind) n = λ n.
    counts_same (chains items) (chains cut.left ++ chains cut.behind) n (ap chains cut.items_are ∙ chains-append cut.left cut.behind) ∙ times-append (chains cut.left) (chains cut.behind) n in
    let same = leaf_alike shown then page (item.chain ++ lefts news) own items counted once alike in
    let left_then = items_move table usable last last_then shown then before cut.left more (λ n there. same n (omega (arith, parted n, there))) cut.left_are in
    let behind_then = items_move table usable last last_then shown then after cut.behind more (λ n there. same n (omega (arith, parted n, there))) cut.behind_are in
    let total : (n : ℕ) → times (chains (cut.left ++ (item ∷ cut.behind))) n ≡ times (chains cut.left) n + (times item.chain n + times (chains cut.behind) n) = λ n.
    omega (
      arith,
      counts_same (chains (cut.left ++ (item ∷ cut.behind))) (chains cut.left ++ (item.chain ++ chains cut.behind)) n (chains-append cut.left (item ∷ cut.behind)),
      times-append (chains cut.left) (item.chain ++ chains cut.behind) n,
      times-append item.chain (chains cut.behind) n,
    ) in
    record {
      below = chains (cut.left ++ (item ∷ cut.behind));
      items_then = cut.left ++ (item ∷ cut.behind);
      shows = shows;
      ranged = ranged;
      content = record {
        leaf = leaf.leaf;
        table_is = leaf.table_is;
        items_are = join_items table usable last_then then before (cell ∷ after) cut.left (item ∷ cut.behind) left_then
            (holds, above_behind table item cut.behind (first_key table usable last shown after cut.behind item cut.behind_are lower_first), behind_then)
            (above_each table cut.left cut.behind item (lower_key table usable last shown before cut.left item cut.left_are lower) cut.ordered);
        below_is = refl;
      };
      exchanged = record { before = cut.left; after = cut.behind; items_are = cut.items_are; then_are = refl; ends = ends; begins = begins };
      moved = record {
        counts = λ n. omega (
          arith,
          counted n,
          parted n,
          total n,
          times-append item.chain (lefts news) n,
          times-append (lefts news) (page ∷ chains (cut.left ++ (item ∷ cut.behind))) n,
          cons_count page (chains (cut.left ++ (item ∷ cut.behind))) n,
        );
        within = λ n there. omega (arith, counted n, there);
        held = λ n there. absurd (omega (arith, there));
        apart = λ n there. absurd (omega (arith, there));
      };
    }

-- A leaf loses a cell between these before it and these behind it, and keeps its page, maybe without a cell.
pub leaf_loses : (table : Bool) (usable last last_then : ℕ) (shown then : Shown) (page : ℕ) (node : Node) (before after : List NodeCell) (cell : NodeCell) (place : Gap) (item : Item)
    (behind : List Item) (own below : List ℕ) (items : List Item) → last ≤ last_then → own ≡ page ∷ below → OfLeaf table usable last shown node below items
    → (cut : ItemsCut table usable last shown before (cell ∷ after) items) → cut.behind ≡ item ∷ behind → EndsIn place.Before cut.left → BeginsIn place.Behind behind
    → StandOnce own [] → KeepAlike shown then own (page ∷ []) → ShowTogether then.node [] page (node_of_cells node (before ++ after))
    → IsEdited table usable last_then then zero page (node_of_cells node (before ++ after)) [] place (item ∷ []) []
    (record { fresh = []; lost = []; put = page ∷ [] }) own items
leaf_loses table usable last last_then shown then page node before after cell place item behind own below items more own_is leaf cut is ends begins once alike shows =
    let counted : (n : ℕ) → times own n ≡ times (page ∷ []) n + times (chains items) n = λ n.
    counts_same own (page ∷ below) n own_is ∙ (cons_count page below n ∙ ap (λ (k : ℕ). times (page ∷ []) n + k) (counts_same below (chains items) n leaf.below_is)) in
    let items_are : items ≡ cut.left ++ (item ∷ behind) = cut.items_are ∙ ap (λ (l : List Item). cut.left ++ l) is in
    let parted : (n : ℕ) → times (chains items) n ≡ times (chains cut.left) n + (times item.chain n + times (chains behind) n) = λ n.
    omega (
      arith,
      counts_same (chains items) (chains cut.left ++ (item.chain ++ chains behind)) n (ap chains items_are ∙ chains-append cut.left (item ∷ behind)),
      times-append (chains cut.left) (item.chain ++ chains behind) n,
      times-append item.chain (chains behind) n,
    ) in
    let chain_is : (n : ℕ) → times (chains (item ∷ [])) n ≡ times item.chain n = λ n. counts_same (item.chain ++ []) item.chain n (append-nil item.chain) in
    let same = leaf_alike shown then page [] own items counted once alike in
    let both : AreItems table usable last shown (cell ∷ after) (item ∷ behind) = subst (AreItems table usable last shown (cell ∷ after)) is cut.behind_are in
    let left_then = items_move table usable last last_then shown then before cut.left more (λ n there. same n (omega (arith, parted n, there))) cut.left_are in
    let behind_then = items_move table usable last last_then shown then after behind more (λ n there. same n (omega (arith, parted n, there))) both.2 in
    let total : (n : ℕ) → times (chains (cut.left ++ behind)) n ≡ times (chains cut.left) n + times (chains behind) n = λ n.
    counts_same (chains (cut.left ++ behind)) (chains cut.left ++ chains behind) n (chains-append cut.left behind) ∙ times-append (chains cut.left) (chains behind) n in
    record {
      below = chains (cut.left ++ behind);
      items_then = cut.left ++ behind;
      shows = shows;
      ranged = tt;
      content = record {
        leaf = leaf.leaf;
        table_is = leaf.table_is;
        items_are = join_items table usable last_then then before after cut.left behind left_then behind_then
            (above_rest table cut.left behind item (subst (λ (l : List Item). Each (λ (other : Item). AreAbove table other.key l) cut.left) is cut.ordered));
        below_is = refl;
      };
      exchanged = record { before = cut.left; after = behind; items_are = items_are; then_are = refl; ends = ends; begins = begins };
      moved = record {
        counts = λ n. omega (arith, counted n, parted n, total n, chain_is n, cons_count page (chains (cut.left ++ behind)) n);
        within = λ n there. omega (arith, counted n, there);
        held = λ n there. omega (arith, counted n, parted n, chain_is n, there);
        apart = λ n there. omega (arith, counted n, parted n, chain_is n, there, once n);
      };
    }

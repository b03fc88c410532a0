-- An edit of one tree keeps the trees of a database, whose other trees are as before; so does one that gives up a whole tree, for the roots that are left.
use Rattle.std.proofs.Common.{◌≡◌, ℕ, zero, suc, ◌+◌, ◌^◌, ◌≤◌, Bool, true, List, [], ◌∷◌, ◌++◌, refl, sym, subst, ap, ◌∙◌, arith, append_assoc, inl, inr}
use Rattle.std.proofs.lemmas.Bool.{cases_eq, ne_eqb}
use Rattle.page_spec.specs.View.{View}
use Rattle.page_face.specs.declared.pages_tells.PagesTells.{Ghosts}
use Rattle.tree_spec.specs.Layout.{times, Item}
use Rattle.tree_spec.specs.Shown.{Shown}
use Rattle.tree_spec.specs.Trees.{IsTree}
use Rattle.tree_spec.proofs.Lists.{times-append}
use Rattle.tree_spec.proofs.Local.{tree_local}
use Rattle.tree_spec.proofs.Once.{tree_once}
use Rattle.overflow.specs.Following.{shown_over}
use Rattle.overflow.specs.Editing.{AreInUse}
use Rattle.edit_spec.proofs.Heights.{tree_low}
use Rattle.tree_edit.specs.Editing.{PageLists}
use Rattle.tree_keys.specs.Standing.{Stands}
use Rattle.sound_spec.specs.Sound.{IsRooted, AreRooted, HasTrees, IsSoundTrees}
use Rattle.sound_spec.proofs.Within.{AreInRange, of_each, tree_range}
use Rattle.sound_spec.proofs.Once.{kind_once}
use Rattle.sound_spec.proofs.Local.{AreAlike, rooted_local}
use Rattle.sound_spec.proofs.Apart.{SplitAt, split_at}
use Rattle.sound_edits.specs.Standing.{TreesStand, ChangesPages}
use Rattle.sound_edits.proofs.Others.{some_or_none, others_alike, in_use_then, others_of}

-- trees before others
pub rooted_both : (usable last : ℕ) (shown : Shown) (front back own others : List ℕ) → AreRooted usable last shown front own → AreRooted usable last shown back others
    → AreRooted usable last shown (front ++ back) (own ++ others)
rooted_both usable last shown [] back own others none more = subst (λ (l : List ℕ). AreRooted usable last shown back (l ++ others)) (sym none) more
rooted_both usable last shown (root ∷ front) back own others (first, rest, own_is, one, are) more = (
  first,
  rest ++ others,
  ap (λ (l : List ℕ). l ++ others) own_is ∙ append_assoc first rest others,
  one,
  rooted_both usable last shown front back rest others are more,
)

-- a root's tree is the one that is known to stand there
same_own : (usable last : ℕ) (shown : Shown) (table : Bool) (height root : ℕ) (own this : List ℕ) (items : List Item) → IsTree table usable last shown height root own items
    → IsRooted usable last shown root this → this ≡ own
same_own usable last shown table height root own this items tree is =
    let kind = kind_once is.table table usable last shown is.height height root this own is.items items is.tree tree in
    (tree_once table usable last shown is.height height root this own is.items items
    (subst (λ (kind : Bool). IsTree kind usable last shown is.height root this is.items) kind is.tree) tree).own_is

-- lists in three parts, counted
three : (first before own behind : List ℕ) (n : ℕ) → times (first ++ (before ++ (own ++ behind))) n ≡ times (first ++ (before ++ behind)) n + times own n
three first before own behind n = omega (
  arith,
  times-append first (before ++ (own ++ behind)) n,
  times-append before (own ++ behind) n,
  times-append own behind n,
  times-append first (before ++ behind) n,
  times-append before behind n,
)

-- a tree's pages are no less than 1
within_of : {last : ℕ} (root : ℕ) (below : List ℕ) → 1 ≤ root → root ≤ last → AreInRange last below → (n : ℕ) → 1 ≤ times (root ∷ below) n → (1 ≤ n) × (n ≤ last)
within_of {last} root below least most range n there = elim (cases_eq root n) [
  | inl same ↦ (omega (arith, same, least), omega (arith, same, most))
  | inr apart ↦
      let behind = rw (ne_eqb root n apart) at there in
      let found = of_each (λ m. (2 ≤ m) × (m ≤ last)) below n range (omega (arith, behind)) in
      (omega (arith, found.0), found.1)
]

-- The trees of a database, one of which stands at a root, apart from those before it and behind it.
module _ {P : Type 0} (pages : Ghosts P) (lists : PageLists) (own own_then : List ℕ) (old new : P) (world : View) (is : ChangesPages pages lists own own_then old new world) where
  abbrev shown_old : Shown
  shown_old = shown_over pages old world

  abbrev shown_new : Shown
  shown_new = shown_over pages new world

  once_then : (list : List ℕ) → AreInUse pages new world list → (n : ℕ) → times list n ≤ 1
  once_then list used n = elim (some_or_none (times list n)) [
    | inl none ↦ omega (arith, none)
    | inr some ↦ (used n some).0
  ]

  -- a tree that stands then is low
  low_then : (table : Bool) (height root : ℕ) (items : List Item) → 1 ≤ root → root ≤ pages.last_page new → Stands pages new world table height root own_then items → height ≤ 40
  low_then table height root items least most now =
      let (below, own_is, range) = tree_range table (pages.usable new) (pages.last_page new) shown_new height root own_then items now.tree in
      let within : (n : ℕ) → 1 ≤ times own_then n → (1 ≤ n) × (n ≤ pages.last_page new) = λ n there. within_of root below least most range n (subst (λ (l : List ℕ). 1 ≤ times l n) own_is there) in
      let low = tree_low table (pages.usable new) (pages.last_page new) shown_new height root own_then items now.tree within (once_then own_then now.used) is.most in
      omega (arith, low)

  rooted_then : (root : ℕ) (table : Bool) (height : ℕ) (items : List Item) → 2 ≤ root → root ≤ pages.last_page new → Stands pages new world table height root own_then items
      → IsRooted (pages.usable old) (pages.last_page new) shown_new root own_then
  rooted_then root table height items least most now = record {
    least = least;
    most = most;
    table = table;
    height = height;
    low = low_then table height root items (omega (arith, least)) most now;
    items = items;
    tree = subst (λ (u : ℕ). IsTree table u (pages.last_page new) shown_new height root own_then items) is.usable now.tree;
  }

  trees_then : (roots used : List ℕ) (rows : List Item) → 1 ≤ pages.last_page old → pages.neat new world → AreInUse pages new world used
      → HasTrees (pages.usable old) (pages.last_page new) shown_new roots used rows → TreesStand pages new world roots used rows
  trees_then roots used rows some neat in_use trees = record {
    some = omega (arith, some, is.last);
    neat = neat;
    trees = subst (λ (u : ℕ). IsSoundTrees u (pages.last_page new) shown_new roots used rows) (sym is.usable) (record { trees = trees; once = once_then used in_use });
    in_use = in_use;
  }

  -- A tree other than page 1's was edited.
  pub root_edited : (front : List ℕ) (root : ℕ) (back used : List ℕ) (rows : List Item) (table : Bool) (height height_then : ℕ) (items items_then : List Item)
      → TreesStand pages old world (front ++ root ∷ back) used rows → Stands pages old world table height root own items → Stands pages new world table height_then root own_then items_then
      → (used_then : List ℕ) × TreesStand pages new world (front ++ root ∷ back) used_then rows × ((n : ℕ) → times used_then n + times own n ≡ times used n + times own_then n)
  root_edited front root back used rows table height height_then items items_then s was now =
      let u = pages.usable old in
      let t = s.trees.trees in
      let split = split_at u (pages.last_page old) shown_old front root back t.others t.rooted in
      let this : split.this ≡ own = same_own u (pages.last_page old) shown_old table height root own split.this items was.tree split.root_is in
      let used_is : used ≡ t.first ++ (split.before ++ (own ++ split.behind)) =
      t.used_is ∙ ap (λ (l : List ℕ). t.first ++ l) (split.own_is ∙ ap (λ (l : List ℕ). split.before ++ (l ++ split.behind)) this) in
      let others : List ℕ = t.first ++ (split.before ++ split.behind) in
      let used_then : List ℕ = t.first ++ (split.before ++ (own_then ++ split.behind)) in
      let sum : (n : ℕ) → times used n ≡ times others n + times own n = λ n. ap (λ (l : List ℕ). times l n) used_is ∙ three t.first split.before own split.behind n in
      let are = others_of pages old world (front ++ root ∷ back) used own others rows s sum in
      let alike = others_alike pages lists own own_then old new world is others are in
      let in_use = in_use_then pages lists own own_then old new world is others used_then are now.used (λ n. omega (arith, sum n, s.trees.once n))
      (λ n. three t.first split.before own_then split.behind n) in
      let rooted : AreRooted u (pages.last_page new) shown_new (front ++ root ∷ back) (split.before ++ (own_then ++ split.behind)) =
      rooted_both u (pages.last_page new) shown_new front (root ∷ back) split.before (own_then ++ split.behind)
      (rooted_local u (pages.last_page old) (pages.last_page new) shown_old shown_new front split.before is.last
      (λ n there. alike n (omega (arith, there, times-append t.first (split.before ++ split.behind) n, times-append split.before split.behind n))) split.front_are) (
        own_then,
        split.behind,
        refl,
        rooted_then root table height_then items_then split.root_is.least (omega (arith, split.root_is.most, is.last)) now,
        rooted_local u (pages.last_page old) (pages.last_page new) shown_old shown_new back split.behind is.last
            (λ n there. alike n (omega (arith, there, times-append t.first (split.before ++ split.behind) n, times-append split.before split.behind n))) split.back_are,
      ) in
      let schema = tree_local true u (pages.last_page old) (pages.last_page new) shown_old shown_new t.height 1 t.first rows is.last
      (λ n there. alike n (omega (arith, there, times-append t.first (split.before ++ split.behind) n))) t.schema in (
        used_then,
        trees_then (front ++ root ∷ back) used_then rows s.some now.neat in_use (record {
          height = t.height;
          low = t.low;
          first = t.first;
          others = split.before ++ (own_then ++ split.behind);
          schema = schema;
          rooted = rooted;
          used_is = refl;
        }),
        λ n. omega (arith, sum n, three t.first split.before own_then split.behind n),
      )

  -- Page 1's tree was edited: it lists other rows.
  pub first_edited : (roots used : List ℕ) (rows : List Item) (height height_then : ℕ) (items items_then : List Item)
      → TreesStand pages old world roots used rows → Stands pages old world true height 1 own items → Stands pages new world true height_then 1 own_then items_then
      → (used_then : List ℕ) × TreesStand pages new world roots used_then items_then × ((n : ℕ) → times used_then n + times own n ≡ times used n + times own_then n)
  first_edited roots used rows height height_then items items_then s was now =
      let u = pages.usable old in
      let t = s.trees.trees in
      let this : t.first ≡ own = (tree_once true u (pages.last_page old) shown_old t.height height 1 t.first own rows items t.schema was.tree).own_is in
      let used_then : List ℕ = own_then ++ t.others in
      let sum : (n : ℕ) → times used n ≡ times t.others n + times own n =
      λ n. omega (arith, ap (λ (l : List ℕ). times l n) (t.used_is ∙ ap (λ (l : List ℕ). l ++ t.others) this), times-append own t.others n) in
      let sum_then : (n : ℕ) → times used_then n ≡ times t.others n + times own_then n = λ n. omega (arith, times-append own_then t.others n) in
      let are = others_of pages old world roots used own t.others rows s sum in
      let alike = others_alike pages lists own own_then old new world is t.others are in
      let in_use = in_use_then pages lists own own_then old new world is t.others used_then are now.used (λ n. omega (arith, sum n, s.trees.once n)) sum_then in
      let most : 1 ≤ pages.last_page new = omega (arith, s.some, is.last) in (
        used_then,
        trees_then roots used_then items_then s.some now.neat in_use (record {
          height = height_then;
          low = low_then true height_then 1 items_then (omega arith) most now;
          first = own_then;
          others = t.others;
          schema = subst (λ (u : ℕ). IsTree true u (pages.last_page new) shown_new height_then 1 own_then items_then) is.usable now.tree;
          rooted = rooted_local u (pages.last_page old) (pages.last_page new) shown_old shown_new roots t.others is.last alike t.rooted;
          used_is = refl;
        }),
        λ n. omega (arith, sum n, sum_then n),
      )

-- A whole tree was given up, other than page 1's: the other roots have their trees.
pub root_dropped : {P : Type 0} (pages : Ghosts P) (lists : PageLists) (own : List ℕ) (old new : P) (world : View) → ChangesPages pages lists own [] old new world
    → (front : List ℕ) (root : ℕ) (back used : List ℕ) (rows : List Item) (table : Bool) (height : ℕ) (items : List Item)
    → TreesStand pages old world (front ++ root ∷ back) used rows → Stands pages old world table height root own items
    → (used_then : List ℕ) × TreesStand pages new world (front ++ back) used_then rows × ((n : ℕ) → times used_then n + times own n ≡ times used n)
root_dropped pages lists own old new world is front root back used rows table height items s was =
    let u = pages.usable old in
    let shown_old : Shown = shown_over pages old world in
    let shown_new : Shown = shown_over pages new world in
    let t = s.trees.trees in
    let split = split_at u (pages.last_page old) shown_old front root back t.others t.rooted in
    let this : split.this ≡ own = same_own u (pages.last_page old) shown_old table height root own split.this items was.tree split.root_is in
    let used_is : used ≡ t.first ++ (split.before ++ (own ++ split.behind)) =
    t.used_is ∙ ap (λ (l : List ℕ). t.first ++ l) (split.own_is ∙ ap (λ (l : List ℕ). split.before ++ (l ++ split.behind)) this) in
    let others : List ℕ = t.first ++ (split.before ++ split.behind) in
    let sum : (n : ℕ) → times used n ≡ times others n + times own n = λ n. ap (λ (l : List ℕ). times l n) used_is ∙ three t.first split.before own split.behind n in
    let are = others_of pages old world (front ++ root ∷ back) used own others rows s sum in
    let alike = others_alike pages lists own [] old new world is others are in
    let in_use = in_use_then pages lists own [] old new world is others others are (λ n there. absurd (omega (arith, there))) (λ n. omega (arith, sum n, s.trees.once n)) (λ n. omega arith) in
    let rooted : AreRooted u (pages.last_page new) shown_new (front ++ back) (split.before ++ split.behind) =
    rooted_both u (pages.last_page new) shown_new front back split.before split.behind
    (rooted_local u (pages.last_page old) (pages.last_page new) shown_old shown_new front split.before is.last
    (λ n there. alike n (omega (arith, there, times-append t.first (split.before ++ split.behind) n, times-append split.before split.behind n))) split.front_are)
    (rooted_local u (pages.last_page old) (pages.last_page new) shown_old shown_new back split.behind is.last
    (λ n there. alike n (omega (arith, there, times-append t.first (split.before ++ split.behind) n, times-append split.before split.behind n))) split.back_are) in
    let schema = tree_local true u (pages.last_page old) (pages.last_page new) shown_old shown_new t.height 1 t.first rows is.last
    (λ n there. alike n (omega (arith, there, times-append t.first (split.before ++ split.behind) n))) t.schema in (
      others,
      trees_then pages lists own [] old new world is (front ++ back) others rows s.some is.edits.neat in_use (record {
        height = t.height;
        low = t.low;
        first = t.first;
        others = split.before ++ split.behind;
        schema = schema;
        rooted = rooted;
        used_is = refl;
      }),
      λ n. omega (arith, sum n),
    )

-- A tree of some height has many pages, so that no database has a high one.
use Rattle.std.proofs.Common.{◌≡◌, ℕ, zero, suc, ◌+◌, ◌^◌, ◌<◌, ◌≤◌, Bool, List, [], ◌∷◌, ◌++◌, length, refl, sym, subst, arith, inl, inr, length-append, eq-eqb}
use Rattle.std.proofs.lemmas.Bool.{cases_eq, cases_lt, ne_eqb}
use Rattle.std.proofs.Math.Nat.{pow-succ', pow-le-pow_right}
use Rattle.node_spec.specs.Cells.{NodeCell}
use Rattle.tree_spec.specs.Layout.{times, Item, chains}
use Rattle.tree_spec.specs.Shown.{Shown}
use Rattle.tree_spec.specs.Trees.{AreUnder, IsTree}
use Rattle.tree_spec.proofs.Lists.{head_there, tail_there}
use Rattle.tree_spec.proofs.Renamed.{AreWithin}
use Rattle.edit_spec.specs.Edits.{IsSubtree}
use Rattle.edit_spec.proofs.Local.{Subtrees}

abbrev AreWide : (width : ℕ) → Subtrees → Type 0
AreWide width IsSub = (page : ℕ) (own : List ℕ) (items : List Item) → IsSub page own items → width ≤ length own

under_wide : (table : Bool) (usable last : ℕ) (shown : Shown) (IsSub : Subtrees) (width : ℕ) → AreWide width IsSub → (cells : List NodeCell) (right : ℕ) (own : List ℕ) (items : List Item)
    → AreUnder table usable last shown IsSub cells right own items → width ≤ length own
under_wide table usable last shown IsSub width wide [] right own items under = wide right own items under
under_wide table usable last shown IsSub width wide (cell ∷ cells) right own items under =
    subst (λ (l : List ℕ). width ≤ length l) (sym under.own_is)
    (omega (arith, length-append under.under_own (chains under.middle ++ under.rest_own), wide cell.left under.under_own under.under under.sub))

two_wide : (table : Bool) (usable last : ℕ) (shown : Shown) (IsSub : Subtrees) (width : ℕ) → AreWide width IsSub → (cells : List NodeCell) (right : ℕ) (own : List ℕ) (items : List Item)
    → 1 ≤ length cells → AreUnder table usable last shown IsSub cells right own items → width + width ≤ length own
two_wide table usable last shown IsSub width wide [] right own items some under = absurd (omega (arith, some))
two_wide table usable last shown IsSub width wide (cell ∷ cells) right own items some under =
    subst (λ (l : List ℕ). width + width ≤ length l) (sym under.own_is)
    (omega (
      arith,
      length-append under.under_own (chains under.middle ++ under.rest_own),
      length-append (chains under.middle) under.rest_own,
      wide cell.left under.under_own under.under under.sub,
      under_wide table usable last shown IsSub width wide cells right under.rest_own under.rest under.others,
    ))

-- how many pages a child with so many levels under it has at least
abbrev pub width_of : (height : ℕ) → ℕ
width_of zero = 1
width_of (suc height) = width_of height + width_of height

-- Below a root each interior page has a cell, so a child has at least twice the pages of one a level lower.
pub child_wide : (table : Bool) (usable last : ℕ) (shown : Shown) (height : ℕ) → AreWide (width_of height) (IsSubtree table usable last shown height)
child_wide table usable last shown zero page own items child = subst (λ (l : List ℕ). 1 ≤ length l) (sym child.holds.own_is) (omega arith)
child_wide table usable last shown (suc height) page own items child =
    elim child.holds.enough [
      | inl first ↦ absurd (omega (arith, first, child.least))
      | inr some ↦
          (let both : width_of height + width_of height ≤ length child.holds.below =
          two_wide table usable last shown (IsSubtree table usable last shown height) (width_of height) (child_wide table usable last shown height)
          child.holds.node.cells child.holds.node.right child.holds.below items some child.holds.content.under in
          subst (λ (l : List ℕ). width_of height + width_of height ≤ length l) (sym child.holds.own_is) (omega (arith, both)))
    ]

-- A root, page 1 too, has one level more than its children.
pub root_wide : (table : Bool) (usable last : ℕ) (shown : Shown) (height root : ℕ) (own : List ℕ) (items : List Item) → IsTree table usable last shown (suc height) root own items
    → width_of height ≤ length own
root_wide table usable last shown height root own items tree =
    let some : width_of height ≤ length tree.below =
    under_wide table usable last shown (IsSubtree table usable last shown height) (width_of height) (child_wide table usable last shown height) tree.node.cells tree.node.right tree.below items tree.content.under in
    subst (λ (l : List ℕ). width_of height ≤ length l) (sym tree.own_is) (omega (arith, some))

-- how many of a list are pages up to the last one
abbrev counted : (last : ℕ) → List ℕ → ℕ
counted zero own = 0
counted (suc last) own = times own (suc last) + counted last own

counted_once : (last : ℕ) (own : List ℕ) → ((n : ℕ) → times own n ≤ 1) → counted last own ≤ last
counted_once zero own once = omega arith
counted_once (suc last) own once = omega (arith, once (suc last), counted_once last own once)

counted_past : (last page : ℕ) (own : List ℕ) → last < page → counted last (page ∷ own) ≡ counted last own
counted_past zero page own past = refl
counted_past (suc last) page own past = rw (ne_eqb page (suc last) (λ e. omega (arith, e, past))) (omega (arith, counted_past last page own (omega (arith, past))))

counted_more : (last page : ℕ) (own : List ℕ) → 1 ≤ page → page ≤ last → counted last (page ∷ own) ≡ counted last own + 1
counted_more zero page own some most = absurd (omega (arith, some, most))
counted_more (suc last) page own some most = elim (cases_eq page (suc last)) [
  | inl same ↦ rw (eq-eqb page (suc last) same) (omega (arith, counted_past last page own (omega (arith, same))))
  | inr other ↦ rw (ne_eqb page (suc last) other) (omega (arith, counted_more last page own some (omega (arith, most, other))))
]

counted_all : (last : ℕ) (own : List ℕ) → AreWithin last own → counted last own ≡ length own
counted_all last [] within = none last
  where
    none : (last : ℕ) → counted last [] ≡ 0
    none zero = refl
    none (suc last) = omega (arith, none last)
counted_all last (page ∷ own) within =
    let here = within page (head_there page own (page ∷ own) refl) in
    omega (arith, counted_more last page own here.0 here.1, counted_all last own (λ n there. within n (tail_there page own (page ∷ own) refl n there)))

-- Pages that stand once each are no more than there are.
pub few_pages : (last : ℕ) (own : List ℕ) → AreWithin last own → ((n : ℕ) → times own n ≤ 1) → length own ≤ last
few_pages last own within once = omega (arith, counted_all last own within, counted_once last own once)

width_power : (height : ℕ) → width_of height ≡ 2 ^ height
width_power zero = refl
width_power (suc height) = omega (arith, pow-succ' 2 height, width_power height)

-- A tree whose pages stand once each, in a database of at most 2 ^ 21 pages, has at most 22 levels below its root.
pub tree_low : (table : Bool) (usable last : ℕ) (shown : Shown) (height root : ℕ) (own : List ℕ) (items : List Item) → IsTree table usable last shown height root own items → AreWithin last own
    → ((n : ℕ) → times own n ≤ 1) → last ≤ 2 ^ 21 → height ≤ 22
tree_low table usable last shown zero root own items tree within once few = omega arith
tree_low table usable last shown (suc height) root own items tree within once few = elim (cases_lt 21 height) [
  | inl high ↦
      (let wide : 2 ^ height ≤ last =
      omega (arith, width_power height, root_wide table usable last shown height root own items tree, few_pages last own within once) in
      let more : 2 ^ 22 ≤ 2 ^ height = pow-le-pow_right {n = 2} (omega arith) {i = 22} {j = height} (omega (arith, high)) in
      absurd (omega (arith, wide, more, few)))
  | inr low ↦ omega (arith, low)
]

-- The order of a leaf's items, by that of its cells.
use Rattle.std.proofs.Common.{◌≡◌, ℕ, Bool, true, false, List, [], ◌∷◌, Option, None, Some, sym, subst, arith}
use Rattle.std.specs.Prelude.{ℤ, ◌<ℤ◌, ◌≤ℤ◌}
use Rattle.std.proofs.lemmas.Int.{ints}
use Rattle.node_spec.specs.Cells.{NodeCell}
use Rattle.tree_spec.specs.Layout.{Each, Item}
use Rattle.tree_spec.specs.Shown.{Shown}
use Rattle.tree_spec.specs.Trees.{AreItems}
use Rattle.check_spec.specs.declared.spot.Spot.{Spot}
use Rattle.check_spec.specs.Forms.{IsAbove, IsAtMost, AreInOrder}
use Rattle.check_spec.specs.Walk.{Database, Past, rowid_places}
use Rattle.check_spec.proofs.Told.{AddsPages, adds_end, none_both, OfTable, KeyFits, SayAll}
use Rattle.check_spec.proofs.Payloads.{AreHeld}

pub each_as : {X : Type 0} (P Q : X → Type 0) (xs : List X) → ((x : X) → P x → Q x) → Each P xs → Each Q xs
each_as P Q [] weaker all = tt
each_as P Q (x ∷ xs) weaker all = (weaker x all.0, each_as P Q xs weaker all.1)

less_less : (low middle high : ℤ) → low <ℤ middle → middle <ℤ high → low <ℤ high
less_less low middle high p q = omega (arith, ints)

most_most : (low middle high : ℤ) → low ≤ℤ middle → middle ≤ℤ high → low ≤ℤ high
most_most low middle high p q = omega (arith, ints)

-- what is above a rowid is above what that one is above
pub above_above : (before : Option ℤ) (middle high : ℤ) → IsAbove before middle → middle <ℤ high → IsAbove before high
above_above None middle high one two = tt
above_above (Some low) middle high one two = less_less low middle high one two

pub most_under : (bound : Option ℤ) (low middle : ℤ) → low ≤ℤ middle → IsAtMost bound middle → IsAtMost bound low
most_under None low middle one two = tt
most_under (Some high) low middle one two = most_most low middle high one two

rising : (usable last : ℕ) (shown : Shown) (before bound : Option ℤ) (cells : List NodeCell) (items : List Item) → AreHeld usable last shown cells items
    → AreInOrder before bound cells → AreItems true usable last shown cells items × Each (KeyFits before bound) items
rising usable last shown before bound [] [] are order = (tt, tt)
rising usable last shown before bound [] (item ∷ items) are order = absurd are
rising usable last shown before bound (cell ∷ cells) [] are order = absurd are
rising usable last shown before bound (cell ∷ cells) (item ∷ items) are order =
    let rest = rising usable last shown (Some cell.rowid) bound cells items are.1 order.2 in
    let key = are.0.key in (
      (
        are.0,
        each_as (KeyFits (Some cell.rowid) bound) (λ (other : Item). item.key <ℤ other.key) items
            (λ other fits. subst (λ (k : ℤ). k <ℤ other.key) (sym key) fits.0) rest.1,
        rest.0,
      ),
      (
        (subst (λ (k : ℤ). IsAbove before k) (sym key) order.0, subst (λ (k : ℤ). IsAtMost bound k) (sym key) order.1),
        each_as (KeyFits (Some cell.rowid) bound) (KeyFits before bound) items
            (λ other fits. (above_above before cell.rowid other.key order.0 fits.0, fits.1)) rest.1,
      ),
    )

any_order : (usable last : ℕ) (shown : Shown) (cells : List NodeCell) (items : List Item) → AreHeld usable last shown cells items → AreItems false usable last shown cells items
any_order usable last shown [] [] are = tt
any_order usable last shown [] (item ∷ items) are = absurd are
any_order usable last shown (cell ∷ cells) [] are = absurd are
any_order usable last shown (cell ∷ cells) (item ∷ items) are = (are.0, tt, any_order usable last shown cells items are.1)

-- So the items are a leaf's.
pub held_items : (table : Bool) (usable last : ℕ) (shown : Shown) (before bound : Option ℤ) (cells : List NodeCell) (items : List Item) → AreHeld usable last shown cells items
    → OfTable table (AreInOrder before bound cells) → AreItems table usable last shown cells items × OfTable table (Each (KeyFits before bound) items)
held_items true usable last shown before bound cells items are order = rising usable last shown before bound cells items are order
held_items false usable last shown before bound cells items are order = (any_order usable last shown cells items are, tt)

-- the place of a page's rowids says their order
pub rowids_say : (db : Database) (table : Bool) (spot : Spot) (page : ℕ) (cells : List NodeCell) (before after : Past) (named : List ℕ)
    → SayAll db (rowid_places table spot page cells) before after named → OfTable table (AreInOrder spot.before spot.bound cells) × AddsPages before after [] × (named ≡ [])
rowids_say db true spot page cells before after named (mid, first, behind, here, more, is) =
    (here.0, adds_end before mid after [] here.1 more.0, none_both named first behind is here.2 more.1)
rowids_say db false spot page cells before after named said = (tt, said.0, said.1)

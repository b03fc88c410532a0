-- Two parts of a walk, one behind the other, and the rowids of a page.
use Rattle.std.proofs.Common.{◌≡◌, ℕ, Bool, true, false, List, [], ◌∷◌, ◌++◌, refl, sym, subst, ◌∙◌, append-nil}
use Rattle.node_spec.specs.Cells.{NodeCell}
use Rattle.page_face.specs.declared.pages_tells.PagesTells.{Ghosts}
use Rattle.page_face.specs.Pages.{ReadsAtMost}
use Rattle.page_face.proofs.PageLaws.{reading_same, reading_join}
use Rattle.check_spec.specs.declared.fault.CheckFault.{CheckFault}
use Rattle.check_spec.specs.declared.fault.CheckFault.TheVariants as fault
use Rattle.check_spec.specs.declared.spot.Spot.{Spot}
use Rattle.check_spec.specs.Forms.{AreInOrder, BreaksOrder}
use Rattle.check_spec.specs.Walk.{Place, rowid_places}
use Rattle.tree_check.specs.declared.walk.Walk.{Walk}
use Rattle.tree_check.specs.Walking.{SuitsPages, WalksTo, HasVisited, BarsVisit}
use Rattle.tree_check.proofs.Reaching.{begins, walks_on, walks_then, walks_inside, bars_on, stops_at}

-- some places and then others
pub both_visited : {P : Type 0} (pages : Ghosts P) (old mid new : P) (before walk later : Walk) (xs ys : List Place) → SuitsPages pages old before
    → ReadsAtMost pages old mid → ReadsAtMost pages mid new → HasVisited pages old before xs mid walk → HasVisited pages mid walk ys new later
    → HasVisited pages old before (xs ++ ys) new later
both_visited pages old mid new before walk later xs ys suits one two first second = record {
  walks = walks_then pages old mid new before walk later (xs ++ ys) ys [] one two
      (walks_on pages old old mid before before walk (xs ++ ys) xs ys (reading_same pages old suits.ready (pages.follows_itself old)) one
      (begins pages old before (xs ++ ys)) first.walks)
      second.walks;
  suits = second.suits;
}

-- the first of them weren't
pub first_bars : {P : Type 0} (pages : Ghosts P) (old new : P) (before : Walk) (xs ys : List Place) (why : CheckFault) → SuitsPages pages old before
    → ReadsAtMost pages old new → BarsVisit pages old new before xs why → BarsVisit pages old new before (xs ++ ys) why
first_bars pages old new before xs ys why suits reading bars =
    bars_on pages old old new before before (xs ++ ys) xs ys why (reading_same pages old suits.ready (pages.follows_itself old)) reading
    (begins pages old before (xs ++ ys)) bars

-- they were, and the others weren't
pub second_bars : {P : Type 0} (pages : Ghosts P) (old mid new : P) (before walk : Walk) (xs ys : List Place) (why : CheckFault) → SuitsPages pages old before
    → ReadsAtMost pages old mid → ReadsAtMost pages mid new → HasVisited pages old before xs mid walk → BarsVisit pages mid new walk ys why
    → BarsVisit pages old new before (xs ++ ys) why
second_bars pages old mid new before walk xs ys why suits one two first bars =
    bars_on pages old mid new before walk (xs ++ ys) ys [] why one two
    (subst (λ (l : List Place). WalksTo pages old mid before walk (xs ++ ys) l) (sym (append-nil ys))
    (walks_on pages old old mid before before walk (xs ++ ys) xs ys (reading_same pages old suits.ready (pages.follows_itself old)) one
    (begins pages old before (xs ++ ys)) first.walks))
    bars

pub memory_bars : {P : Type 0} (pages : Ghosts P) (old new : P) (before : Walk) (all : List Place) (why : CheckFault) → why ≡ fault.Memory → BarsVisit pages old new before all why
memory_bars pages old new before all why is = subst (λ (w : CheckFault). BarsVisit pages old new before all w) (sym is) tt

-- rowids in order
pub rowids_visited : {P : Type 0} (pages : Ghosts P) (at : P) (walk : Walk) (table : Bool) (spot : Spot) (page : ℕ) (cells : List NodeCell) → SuitsPages pages at walk
    → (table ≡ true → AreInOrder spot.before spot.bound cells) → HasVisited pages at walk (rowid_places table spot page cells) at walk
rowids_visited pages at walk false spot page cells suits order = record { walks = begins pages at walk []; suits = suits }
rowids_visited pages at walk true spot page cells suits order = record {
  walks = walks_inside pages at at at walk walk walk (Place.AtRowids spot page cells ∷ []) (Place.AtRowids spot page cells) [] [] (λ world told. told)
      (sym (append-nil walk.roots.items)) (begins pages at walk (Place.AtRowids spot page cells ∷ []))
      (λ world told mid keeps. (mid, (order refl, refl), keeps));
  suits = suits;
}

-- and rowids that aren't
pub rowids_bars : {P : Type 0} (pages : Ghosts P) (at : P) (walk : Walk) (table : Bool) (spot : Spot) (page k : ℕ) (cells : List NodeCell) (why : CheckFault)
    → why ≡ fault.Order page k → table ≡ true → BreaksOrder spot.before spot.bound cells k → BarsVisit pages at at walk (rowid_places table spot page cells) why
rowids_bars pages at walk false spot page k cells why is never breaks = cc
rowids_bars pages at walk true spot page k cells why is table breaks =
    let all : List Place = Place.AtRowids spot page cells ∷ [] in
    subst (λ (w : CheckFault). BarsVisit pages at at walk all w) (sym is)
    (stops_at pages at at at walk walk all (Place.AtRowids spot page cells) [] (fault.Order page k) (λ world told. told)
    (begins pages at walk all) (λ world told mid keeps. (k, breaks, refl)))

-- nothing was read yet
pub none_read : {P : Type 0} (pages : Ghosts P) (at : P) (walk : Walk) → SuitsPages pages at walk → ReadsAtMost pages at at
none_read pages at walk suits = reading_same pages at suits.ready (pages.follows_itself at)

pub read_both : {P : Type 0} (pages : Ghosts P) (old mid new : P) → ReadsAtMost pages old mid → ReadsAtMost pages mid new → ReadsAtMost pages old new
read_both pages old mid new one two = reading_join pages old mid new one two pages.follows_on

-- the walk's sizes stay
pub last_since : {P : Type 0} (pages : Ghosts P) (old now : P) (before walk : Walk) → SuitsPages pages old before → ReadsAtMost pages old now → SuitsPages pages now walk
    → walk.last ≡ before.last
last_since pages old now before walk suits reading now_suits = now_suits.last ∙ reading.last ∙ sym suits.last

pub usable_since : {P : Type 0} (pages : Ghosts P) (old now : P) (before walk : Walk) → SuitsPages pages old before → ReadsAtMost pages old now → SuitsPages pages now walk
    → walk.usable ≡ before.usable
usable_since pages old now before walk suits reading now_suits = now_suits.usable ∙ reading.edits.usable ∙ sym suits.usable

pub size_since : {P : Type 0} (pages : Ghosts P) (old now : P) (before walk : Walk) → SuitsPages pages old before → ReadsAtMost pages old now → SuitsPages pages now walk
    → walk.page_size ≡ before.page_size
size_since pages old now before walk suits reading now_suits = now_suits.page_size ∙ reading.edits.page_size ∙ sym suits.page_size

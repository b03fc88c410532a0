-- A tree whose root is met, read and visited, from buffers of which the first has the root's bytes.
use Rattle.std.proofs.Common.{◌≡◌, ℕ, List, take, subst, ap}
use Rattle.page_spec.specs.View.{View}
use Rattle.page_face.specs.declared.pages_tells.PagesTells.{Ghosts}
use Rattle.page_face.specs.Pages.{ReadsAtMost}
use Rattle.page_face.proofs.PageLaws.{reading_same}
use Rattle.check_spec.specs.declared.fault.CheckFault.{CheckFault}
use Rattle.check_spec.specs.declared.spot.Spot.{Spot}
use Rattle.tree_check.specs.declared.walk.Walk.{Walk}
use Rattle.tree_check.specs.Walking.{SuitsPages, HasMet, HasVisited, BarsVisit}
use Rattle.tree_check.specs.Visiting.{node_place, HasEntered, HasVisitedNode, BarsEntered}
use Rattle.tree_check.proofs.Entered.{entered, entered_visits, entered_bars}

pub tree_visits : {P : Type 0} (pages : Ghosts P) (old mid new : P) (before met walk : Walk) (spot other : Spot) (page : ℕ) (bufs : List ℕ) → other ≡ spot
    → ReadsAtMost pages old mid → ReadsAtMost pages mid new → HasEntered pages old before page (take before.page_size bufs) mid met
    → HasVisitedNode pages mid met other page (take met.page_size bufs) new walk → HasVisited pages old before (node_place spot page) new walk
tree_visits pages old mid new before met walk spot other page bufs same one two here visited =
    let size : met.page_size ≡ before.page_size = ap (λ (w : Walk). w.page_size) here.met.same in
    entered_visits pages old mid new before met walk spot page (take before.page_size bufs) one two here
    (subst (λ (n : ℕ). HasVisitedNode pages mid met spot page (take n bufs) new walk) size
    (subst (λ (s : Spot). HasVisitedNode pages mid met s page (take met.page_size bufs) new walk) same visited))

pub tree_bars : {P : Type 0} (pages : Ghosts P) (old mid new : P) (before met : Walk) (spot other : Spot) (page : ℕ) (bufs : List ℕ) (why : CheckFault) → other ≡ spot
    → ReadsAtMost pages old mid → ReadsAtMost pages mid new → HasEntered pages old before page (take before.page_size bufs) mid met
    → BarsEntered pages mid new met other page (take met.page_size bufs) why → BarsVisit pages old new before (node_place spot page) why
tree_bars pages old mid new before met spot other page bufs why same one two here bars =
    let size : met.page_size ≡ before.page_size = ap (λ (w : Walk). w.page_size) here.met.same in
    entered_bars pages old mid new before met spot page (take before.page_size bufs) why one two here
    (subst (λ (n : ℕ). BarsEntered pages mid new met spot page (take n bufs) why) size
    (subst (λ (s : Spot). BarsEntered pages mid new met s page (take met.page_size bufs) why) same bars))

-- page 1 is met, whose bytes were read before
first_entered : {P : Type 0} (pages : Ghosts P) (old : P) (before met : Walk) (bufs : List ℕ) → SuitsPages pages old before → HasMet before 1 met
    → ((world : View) → pages.tells old world → take before.page_size bufs ≡ pages.over old world 1) → HasEntered pages old before 1 (take before.page_size bufs) old met
first_entered pages old before met bufs suits is bytes =
    entered pages old old before met 1 (take before.page_size bufs) (reading_same pages old suits.ready (pages.follows_itself old)) suits is bytes

pub first_visits_tree : {P : Type 0} (pages : Ghosts P) (old new : P) (before met walk : Walk) (spot other : Spot) (bufs : List ℕ) → other ≡ spot → SuitsPages pages old before
    → HasMet before 1 met → ((world : View) → pages.tells old world → take before.page_size bufs ≡ pages.over old world 1) → ReadsAtMost pages old new
    → HasVisitedNode pages old met other 1 (take met.page_size bufs) new walk → HasVisited pages old before (node_place spot 1) new walk
first_visits_tree pages old new before met walk spot other bufs same suits is bytes reading visited =
    tree_visits pages old old new before met walk spot other 1 bufs same (reading_same pages old suits.ready (pages.follows_itself old)) reading
    (first_entered pages old before met bufs suits is bytes) visited

pub first_bars_tree : {P : Type 0} (pages : Ghosts P) (old new : P) (before met : Walk) (spot other : Spot) (bufs : List ℕ) (why : CheckFault) → other ≡ spot
    → SuitsPages pages old before → HasMet before 1 met → ((world : View) → pages.tells old world → take before.page_size bufs ≡ pages.over old world 1)
    → ReadsAtMost pages old new → BarsEntered pages old new met other 1 (take met.page_size bufs) why → BarsVisit pages old new before (node_place spot 1) why
first_bars_tree pages old new before met spot other bufs why same suits is bytes reading bars =
    tree_bars pages old old new before met spot other 1 bufs why same (reading_same pages old suits.ready (pages.follows_itself old)) reading
    (first_entered pages old before met bufs suits is bytes) bars

-- A page of a tree: met, read, and visited with all that is under it.
use Rattle.std.proofs.Common.{◌≡◌, ℕ, ◌==◌, Bool, List, [], ◌∷◌, ◌++◌, Some, None, refl, sym, subst, ap, ◌∙◌, inl, inr}
use Rattle.page_spec.specs.View.{View}
use Rattle.node_spec.specs.declared.kinds.Kind.{Kind}
use Rattle.node_spec.specs.Kinds.{is_leaf}
use Rattle.node_spec.specs.Cells.{NodeCell}
use Rattle.node_spec.specs.Nodes.{Node, node_of}
use Rattle.tree_spec.specs.Layout.{times, Each}
use Rattle.page_form.specs.declared.page.Page.{Page}
use Rattle.page_face.specs.declared.pages_tells.PagesTells.{Ghosts}
use Rattle.page_face.specs.Pages.{ReadsAtMost}
use Rattle.check_spec.specs.declared.fault.CheckFault.{CheckFault}
use Rattle.check_spec.specs.declared.fault.CheckFault.TheVariants as fault
use Rattle.check_spec.specs.declared.spot.Spot.{Spot}
use Rattle.check_spec.specs.Forms.{node_fault}
use Rattle.check_spec.specs.Walk.{Database, Place, Past, Onward, IsInOrder, Meets, with_met, leaves_at, leaves_then, leads_to, node_places}
use Rattle.check_spec.proofs.CellsFit.{CellFits}
use Rattle.check_spec.proofs.NodeParts.{NodeFits, node_parts}
use Rattle.tree_check.specs.Checking.{database_over}
use Rattle.tree_check.specs.declared.walk.Walk.{Walk}
use Rattle.tree_check.specs.Met.{ShowMet}
use Rattle.tree_check.specs.Noded.{HasNode, BarsNode}
use Rattle.tree_check.specs.Walking.{KeepsPast, HasMet, SuitsPages, ComesTo, HasVisited, MeetsOver, BarsVisit}
use Rattle.tree_check.specs.Visiting.{node_place, HasEntered, BarsEnter, HasVisitedNode, MeetsEntered, BarsEntered, CellNames, ShowsNode}
use Rattle.tree_check.proofs.Reaching.{same_database, rose_since, outside_bars, reaches_itself, reaches_inside}
use Rattle.tree_check.proofs.Linking.{suits_met}

-- a page was met and read
pub entered : {P : Type 0} (pages : Ghosts P) (old new : P) (before walk : Walk) (page : ℕ) (buf : List ℕ) → ReadsAtMost pages old new → SuitsPages pages old before
    → HasMet before page walk → ((world : View) → pages.tells new world → buf ≡ pages.over old world page) → HasEntered pages old before page buf new walk
entered pages old new before walk page buf reading suits met bytes = record {
  met = met;
  bytes = bytes;
  suits = suits_met pages old new before walk page reading suits met;
}

-- A page that couldn't be met or read wasn't visited.
pub enter_bars : {P : Type 0} (pages : Ghosts P) (old new : P) (before : Walk) (spot : Spot) (page : ℕ) (why : CheckFault)
    → BarsEnter pages old new before page why → BarsVisit pages old new before (node_place spot page) why
enter_bars pages old new before spot page why (inl met) =
    subst (λ (w : CheckFault). BarsVisit pages old new before (node_place spot page) w) (sym met.told)
    (λ world told past keeps. Meets.meets_here past (node_place spot page) (Place.AtNode spot page) [] refl (inl (met.was past keeps, refl)))
enter_bars pages old new before spot page why (inr outside) = outside_bars pages old new before (node_place spot page) why outside

-- A page that was met, read and then visited was visited.
pub entered_visits : {P : Type 0} (pages : Ghosts P) (old mid new : P) (before met walk : Walk) (spot : Spot) (page : ℕ) (buf : List ℕ)
    → ReadsAtMost pages old mid → ReadsAtMost pages mid new → HasEntered pages old before page buf mid met → HasVisitedNode pages mid met spot page buf new walk
    → HasVisited pages old before (node_place spot page) new walk
entered_visits pages old mid new before met walk spot page buf one two entered visited = record {
  walks = λ world told past keeps.
      let told_mid = two.edits.narrows world told in
      let bytes : buf ≡ pages.over mid world page = entered.bytes world told_mid ∙ sym ((one.each world told_mid).each page) in
      let come = visited.walks world told bytes past (entered.met.was_not past keeps) (entered.met.is_now past keeps) in
      subst (λ (db : Database). ComesTo db walk before.roots.items past (node_place spot page) []) (same_database pages old mid world one told_mid)
      (subst (λ (l : List ℕ). ComesTo (database_over pages mid world) walk l past (node_place spot page) [])
      (ap (λ (w : Walk). w.roots.items) entered.met.same) come);
  suits = visited.suits;
}

entered_meets : {P : Type 0} (pages : Ghosts P) (old mid new : P) (before met : Walk) (spot : Spot) (page : ℕ) (buf : List ℕ) (why : CheckFault)
    → ReadsAtMost pages old mid → ReadsAtMost pages mid new → HasEntered pages old before page buf mid met → MeetsEntered pages mid new met spot page buf why
    → MeetsOver pages old new before (node_place spot page) why
entered_meets pages old mid new before met spot page buf why one two entered meets = λ world told past keeps.
    let told_mid = two.edits.narrows world told in
    let bytes : buf ≡ pages.over mid world page = entered.bytes world told_mid ∙ sym ((one.each world told_mid).each page) in
    subst (λ (db : Database). Meets db why past (node_place spot page)) (same_database pages old mid world one told_mid)
    (meets world told bytes past (entered.met.was_not past keeps) (entered.met.is_now past keeps))

-- A page that was met and read, and then couldn't be visited, wasn't visited.
pub entered_bars : {P : Type 0} (pages : Ghosts P) (old mid new : P) (before met : Walk) (spot : Spot) (page : ℕ) (buf : List ℕ) (why : CheckFault)
    → ReadsAtMost pages old mid → ReadsAtMost pages mid new → HasEntered pages old before page buf mid met → BarsEntered pages mid new met spot page buf why
    → BarsVisit pages old new before (node_place spot page) why
entered_bars pages old mid new before met spot page buf (fault.Page number at) one two entered bars =
    entered_meets pages old mid new before met spot page buf (fault.Page number at) one two entered bars
entered_bars pages old mid new before met spot page buf (fault.Schema rowid) one two entered bars =
    entered_meets pages old mid new before met spot page buf (fault.Schema rowid) one two entered bars
entered_bars pages old mid new before met spot page buf (fault.Order number cell) one two entered bars =
    entered_meets pages old mid new before met spot page buf (fault.Order number cell) one two entered bars
entered_bars pages old mid new before met spot page buf (fault.Twice number) one two entered bars =
    entered_meets pages old mid new before met spot page buf (fault.Twice number) one two entered bars
entered_bars pages old mid new before met spot page buf (fault.Lost number) one two entered bars = absurd bars
entered_bars pages old mid new before met spot page buf fault.Disk one two entered bars = rose_since _ _ _ one.edits.faults bars
entered_bars pages old mid new before met spot page buf fault.Memory one two entered bars = tt

-- A page that breaks its form, or that may not stand where it does.
pub node_bars : {P : Type 0} (pages : Ghosts P) (old : P) (before : Walk) (spot : Spot) (page : ℕ) (buf : List ℕ) (why : CheckFault) → SuitsPages pages old before
    → BarsNode before spot page buf why → BarsEntered pages old old before spot page buf why
node_bars pages old before spot page buf (fault.Page number at) suits bars = λ world told bytes past was_not keeps.
    subst (λ (n : ℕ). Meets (database_over pages old world) (fault.Page n at) past (node_place spot page)) (sym bars.0)
    (Meets.meets_here past (node_place spot page) (Place.AtNode spot page) [] refl
    (inr (
      at,
      was_not,
      subst (λ (n : ℕ). node_fault n (pages.last_page old) spot.table (leaves_at spot.level past) spot.level page (pages.over old world page) ≡ Some at) suits.usable
          (subst (λ (n : ℕ). node_fault before.usable n spot.table (leaves_at spot.level past) spot.level page (pages.over old world page) ≡ Some at) suits.last
          (subst (λ (l : List ℕ). node_fault before.usable before.last spot.table (leaves_at spot.level past) spot.level page l ≡ Some at) bytes
          (bars.1 past keeps.leaves))),
      refl,
    )))
node_bars pages old before spot page buf (fault.Schema rowid) suits bars = absurd bars
node_bars pages old before spot page buf (fault.Order number cell) suits bars = absurd bars
node_bars pages old before spot page buf (fault.Twice number) suits bars = absurd bars
node_bars pages old before spot page buf (fault.Lost number) suits bars = absurd bars
node_bars pages old before spot page buf fault.Disk suits bars = absurd bars
node_bars pages old before spot page buf fault.Memory suits bars = tt

-- where a page in order leads
abbrev pub node_onward : Spot → ℕ → Past → Node → Onward
node_onward spot page past told =
    leads_to (record { met = past.met ++ page ∷ []; leaves = leaves_then (is_leaf told.kind) spot.level past }) (node_places (is_leaf told.kind) spot page told)

node_order : {P : Type 0} (pages : Ghosts P) (old : P) (before walk : Walk) (spot : Spot) (page : ℕ) (buf : List ℕ) (read : Page) (world : View) (past : Past)
    → SuitsPages pages old before → (node : HasNode before spot page buf read walk) → buf ≡ pages.over old world page → times past.met page ≡ 0
    → KeepsPast before (with_met past page) → IsInOrder (database_over pages old world) past (Place.AtNode spot page) (node_onward spot page past node.told)
node_order pages old before walk spot page buf read world past suits node bytes was_not keeps = (
  node.told,
  was_not,
  subst (λ (n : ℕ). node_fault n (pages.last_page old) spot.table (leaves_at spot.level past) spot.level page (pages.over old world page) ≡ None) suits.usable
      (subst (λ (n : ℕ). node_fault before.usable n spot.table (leaves_at spot.level past) spot.level page (pages.over old world page) ≡ None) suits.last
      (subst (λ (l : List ℕ). node_fault before.usable before.last spot.table (leaves_at spot.level past) spot.level page l ≡ None) bytes
      (node.fits past keeps.leaves))),
  subst (λ (n : ℕ). node_of n (page == 1) (pages.over old world page) ≡ Some node.told) suits.usable
      (subst (λ (l : List ℕ). node_of before.usable (page == 1) l ≡ Some node.told) bytes node.tells.shown),
  refl,
)

node_keeps : (before walk : Walk) (spot : Spot) (page : ℕ) (buf : List ℕ) (read : Page) (past : Past) (node : HasNode before spot page buf read walk)
    → KeepsPast before (with_met past page) → KeepsPast walk (node_onward spot page past node.told).now
node_keeps before walk spot page buf read past node keeps = record {
  marks = subst (λ (w : Walk). ShowMet w.marks.bits.items w.last (past.met ++ page ∷ [])) (sym node.same) keeps.marks;
  leaves = node.leaves past keeps.leaves;
}

-- A page in order, and all that it leads to was visited.
pub node_visits : {P : Type 0} (pages : Ghosts P) (old new : P) (before walk later : Walk) (spot : Spot) (page : ℕ) (buf : List ℕ) (read : Page)
    → SuitsPages pages old before → (node : HasNode before spot page buf read walk) → HasVisited pages old walk (node_places (is_leaf node.told.kind) spot page node.told) new later
    → HasVisitedNode pages old before spot page buf new later
node_visits pages old new before walk later spot page buf read suits node visited = record {
  walks = λ world told bytes past was_not keeps.
      let db = database_over pages old world in
      let order = node_order pages old before walk spot page buf read world past suits node bytes was_not keeps in
      let on = node_onward spot page past node.told in
      let come = visited.walks world told on.now (node_keeps before walk spot page buf read past node keeps) in
      let inside = reaches_inside db past past (node_place spot page) (Place.AtNode spot page) on [] (reaches_itself db past (node_place spot page)) order in
      record {
        mid = come.mid;
        named = come.named;
        reaches = record {
          visits = λ done more visits. inside.visits done (come.named ++ more) (come.reaches.visits done more visits);
          meets = λ why meets. inside.meets why (come.reaches.meets why meets);
        };
        keeps = come.keeps;
        roots_are = come.roots_are ∙ ap (λ (w : Walk). w.roots.items ++ come.named) node.same;
      };
  suits = visited.suits;
}

node_meets : {P : Type 0} (pages : Ghosts P) (old new : P) (before walk : Walk) (spot : Spot) (page : ℕ) (buf : List ℕ) (read : Page) (why : CheckFault)
    → SuitsPages pages old before → (node : HasNode before spot page buf read walk)
    → MeetsOver pages old new walk (node_places (is_leaf node.told.kind) spot page node.told) why → MeetsEntered pages old new before spot page buf why
node_meets pages old new before walk spot page buf read why suits node meets = λ world told bytes past was_not keeps.
    let on = node_onward spot page past node.told in
    Meets.meets_inside past (node_place spot page) (Place.AtNode spot page) [] on refl
    (node_order pages old before walk spot page buf read world past suits node bytes was_not keeps)
    (meets world told on.now (node_keeps before walk spot page buf read past node keeps))

-- A page in order, and what it leads to couldn't be visited.
pub node_bars_inside : {P : Type 0} (pages : Ghosts P) (old new : P) (before walk : Walk) (spot : Spot) (page : ℕ) (buf : List ℕ) (read : Page) (why : CheckFault)
    → SuitsPages pages old before → (node : HasNode before spot page buf read walk)
    → BarsVisit pages old new walk (node_places (is_leaf node.told.kind) spot page node.told) why → BarsEntered pages old new before spot page buf why
node_bars_inside pages old new before walk spot page buf read (fault.Page number at) suits node bars =
    node_meets pages old new before walk spot page buf read (fault.Page number at) suits node bars
node_bars_inside pages old new before walk spot page buf read (fault.Schema rowid) suits node bars =
    node_meets pages old new before walk spot page buf read (fault.Schema rowid) suits node bars
node_bars_inside pages old new before walk spot page buf read (fault.Order number cell) suits node bars =
    node_meets pages old new before walk spot page buf read (fault.Order number cell) suits node bars
node_bars_inside pages old new before walk spot page buf read (fault.Twice number) suits node bars =
    node_meets pages old new before walk spot page buf read (fault.Twice number) suits node bars
node_bars_inside pages old new before walk spot page buf read (fault.Lost number) suits node bars = absurd bars
node_bars_inside pages old new before walk spot page buf read fault.Disk suits node bars = bars
node_bars_inside pages old new before walk spot page buf read fault.Memory suits node bars = tt

-- the sizes still suit where a page was looked at
pub node_suits : {P : Type 0} (pages : Ghosts P) (old : P) (before walk : Walk) (spot : Spot) (page : ℕ) (buf : List ℕ) (read : Page) → SuitsPages pages old before
    → HasNode before spot page buf read walk → SuitsPages pages old walk
node_suits pages old before walk spot page buf read suits node =
    subst (λ (w : Walk). SuitsPages pages old w) (sym node.same) (record {
      ready = suits.ready;
      page_size = suits.page_size;
      usable = suits.usable;
      last = suits.last;
      least = suits.least;
      fits = suits.fits;
      most = suits.most;
      room = suits.room;
      roots = suits.roots;
    })

-- what a page in order says of itself
pub node_is : (before walk : Walk) (spot : Spot) (page : ℕ) (buf : List ℕ) (read : Page) (node : HasNode before spot page buf read walk)
    → NodeFits before.usable before.last spot.table (leaves_at spot.level (record { met = []; leaves = before.leaves })) spot.level page node.told
node_is before walk spot page buf read node =
    let past : Past = record { met = []; leaves = before.leaves } in
    node_parts before.usable before.last spot.table (leaves_at spot.level past) spot.level page buf node.told (node.fits past refl) node.tells.shown

each_names : (last : ℕ) (leaf : Bool) (cells : List NodeCell) → Each (CellFits last leaf) cells → Each (CellNames last leaf) cells
each_names last leaf [] fit = tt
each_names last leaf (cell ∷ cells) fit = (record { child = fit.0.child; chain = record { some = fit.0.chain; none = fit.0.none } }, each_names last leaf cells fit.1)

pub node_shows : (before walk : Walk) (spot : Spot) (page : ℕ) (buf : List ℕ) (read : Page) (node : HasNode before spot page buf read walk)
    → ShowsNode walk.usable walk.last (page == 1) buf read node.told
node_shows before walk spot page buf read node =
    let fits = node_is before walk spot page buf read node in
    subst (λ (w : Walk). ShowsNode w.usable w.last (page == 1) buf read node.told) (sym node.same) (record {
      tells = node.tells;
      cells = each_names before.last (is_leaf node.told.kind) node.told.cells fits.cells;
      right = fits.right;
    })

-- the same where the page was found to be a leaf, or not
told_leaf : (before walk : Walk) (spot : Spot) (page : ℕ) (buf : List ℕ) (read : Page) (leaf : Bool) (node : HasNode before spot page buf read walk) → is_leaf read.kind ≡ leaf
    → is_leaf node.told.kind ≡ leaf
told_leaf before walk spot page buf read leaf node is = ap (λ (kind : Kind). is_leaf kind) (sym node.tells.kind) ∙ is

pub node_visits_as : {P : Type 0} (pages : Ghosts P) (old new : P) (before walk later : Walk) (spot : Spot) (page : ℕ) (buf : List ℕ) (read : Page) (leaf : Bool)
    → SuitsPages pages old before → (node : HasNode before spot page buf read walk) → is_leaf read.kind ≡ leaf
    → HasVisited pages old walk (node_places leaf spot page node.told) new later → HasVisitedNode pages old before spot page buf new later
node_visits_as pages old new before walk later spot page buf read leaf suits node is visited =
    node_visits pages old new before walk later spot page buf read suits node
    (subst (λ (b : Bool). HasVisited pages old walk (node_places b spot page node.told) new later) (sym (told_leaf before walk spot page buf read leaf node is)) visited)

pub node_bars_as : {P : Type 0} (pages : Ghosts P) (old new : P) (before walk : Walk) (spot : Spot) (page : ℕ) (buf : List ℕ) (read : Page) (leaf : Bool) (why : CheckFault)
    → SuitsPages pages old before → (node : HasNode before spot page buf read walk) → is_leaf read.kind ≡ leaf
    → BarsVisit pages old new walk (node_places leaf spot page node.told) why → BarsEntered pages old new before spot page buf why
node_bars_as pages old new before walk spot page buf read leaf why suits node is bars =
    node_bars_inside pages old new before walk spot page buf read why suits node
    (subst (λ (b : Bool). BarsVisit pages old new walk (node_places b spot page node.told) why) (sym (told_leaf before walk spot page buf read leaf node is)) bars)

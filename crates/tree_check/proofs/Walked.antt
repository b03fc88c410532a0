-- The whole walk: page 1's part and then the trees of the roots that its rows name.
use Rattle.std.proofs.Common.{◌≡◌, ℕ, zero, suc, ◌+◌, ◌<◌, ◌≤◌, min, true, false, List, [], ◌∷◌, ◌++◌, length, drop, slice_index, refl, sym, subst, ap, ◌∙◌, arith, inl, inr}
use Rattle.std.proofs.lemmas.List.{drop_all, drop_more}
use Rattle.page_spec.specs.Header.{fields_of}
use Rattle.page_spec.specs.View.{View}
use Rattle.tree_spec.specs.Layout.{Each}
use Rattle.page_face.specs.declared.pages_tells.PagesTells.{Ghosts}
use Rattle.page_face.specs.Pages.{ReadsAtMost}
use Rattle.page_face.proofs.PageLaws.{reading_same, reading_join}
use Rattle.check_spec.specs.declared.fault.CheckFault.{CheckFault}
use Rattle.check_spec.specs.declared.fault.CheckFault.TheVariants as fault
use Rattle.check_spec.specs.declared.fault.Count.{Count}
use Rattle.check_spec.specs.Walk.{Database, Place, Past, no_past, root_spot, root_places, Visits, Meets, WalksAll, IsLost}
use Rattle.check_spec.proofs.SoundWalk.{walk_sound}
use Rattle.tree_check.specs.declared.walk.Walk.{Walk}
use Rattle.tree_check.specs.Met.{is_met}
use Rattle.tree_check.specs.Walking.{SuitsPages, KeepsPast, ComesTo, WalksTo, HasVisited, MeetsOver, BarsVisit}
use Rattle.tree_check.specs.Begun.{IsFresh, HasFirst}
use Rattle.tree_check.specs.Checking.{database_over, IsCounted, BarsCheck}
use Rattle.tree_check.proofs.Beginning.{fresh_keeps}
use Rattle.tree_check.proofs.Front.{at_header}
use Rattle.tree_check.proofs.Naming.{names_none, roots_plain, trees_met, trees_of_roots}
use Rattle.tree_check.proofs.Reaching.{begins, visits_of, walks_on, bars_on, same_database, rose_since}
use Rattle.tree_check.proofs.Trunks.{most_met}

-- The trees of the roots before this place were visited.
pub record RootsMet {P : Type 0} (pages : Ghosts P) (old now : P) (before : Walk) (roots : List ℕ) (k : ℕ) (walk : Walk) : Type 0 where
  pub reading : ReadsAtMost pages old now
  pub walks : WalksTo pages old now before walk (root_places roots) (root_places (drop k roots))
  pub suits : SuitsPages pages now walk

pub no_root : {P : Type 0} (pages : Ghosts P) (old : P) (before : Walk) (roots : List ℕ) → SuitsPages pages old before → RootsMet pages old old before roots 0 before
no_root pages old before roots suits = record {
  reading = reading_same pages old suits.ready (pages.follows_itself old);
  walks = begins pages old before (root_places roots);
  suits = suits;
}

next_root : (roots : List ℕ) (k : ℕ) → k < length roots → root_places (drop k roots) ≡ Place.AtNode root_spot (slice_index roots k) ∷ root_places (drop (k + 1) roots)
next_root roots k less = ap (λ (l : List ℕ). root_places l) (drop_more roots k 0 less)

next_walks : {P : Type 0} (pages : Ghosts P) (old now : P) (before walk : Walk) (roots : List ℕ) (k root : ℕ) → k < length roots → root ≡ slice_index roots k
    → RootsMet pages old now before roots k walk
    → WalksTo pages old now before walk (root_places roots) (Place.AtNode root_spot root ∷ root_places (drop (k + 1) roots))
next_walks pages old now before walk roots k root less is so_far =
    subst (λ (l : List Place). WalksTo pages old now before walk (root_places roots) l)
    (next_root roots k less ∙ ap (λ (n : ℕ). Place.AtNode root_spot n ∷ root_places (drop (k + 1) roots)) (sym is)) so_far.walks

-- one tree more
pub root_more : {P : Type 0} (pages : Ghosts P) (old now new : P) (before walk later : Walk) (roots : List ℕ) (k root : ℕ) → k < length roots → root ≡ slice_index roots k
    → RootsMet pages old now before roots k walk → ReadsAtMost pages now new → HasVisited pages now walk (Place.AtNode root_spot root ∷ []) new later
    → RootsMet pages old new before roots (k + 1) later
root_more pages old now new before walk later roots k root less is so_far reading visited = record {
  reading = reading_join pages old now new so_far.reading reading (pages.follows_on);
  walks = walks_on pages old now new before walk later (root_places roots) (Place.AtNode root_spot root ∷ []) (root_places (drop (k + 1) roots)) so_far.reading reading
      (next_walks pages old now before walk roots k root less is so_far) visited.walks;
  suits = visited.suits;
}

pub root_bars : {P : Type 0} (pages : Ghosts P) (old now new : P) (before walk : Walk) (roots : List ℕ) (k root : ℕ) (why : CheckFault) → k < length roots → root ≡ slice_index roots k
    → RootsMet pages old now before roots k walk → ReadsAtMost pages now new → BarsVisit pages now new walk (Place.AtNode root_spot root ∷ []) why
    → BarsVisit pages old new before (root_places roots) why
root_bars pages old now new before walk roots k root why less is so_far reading bars =
    bars_on pages old now new before walk (root_places roots) (Place.AtNode root_spot root ∷ []) (root_places (drop (k + 1) roots)) why so_far.reading reading
    (next_walks pages old now before walk roots k root less is so_far) bars

pub roots_visited : {P : Type 0} (pages : Ghosts P) (old now : P) (before walk : Walk) (roots : List ℕ) (k : ℕ) → length roots ≤ k → RootsMet pages old now before roots k walk
    → HasVisited pages old before (root_places roots) now walk
roots_visited pages old now before walk roots k all so_far = record {
  walks = subst (λ (l : List ℕ). WalksTo pages old now before walk (root_places roots) (root_places l)) (drop_all k roots all) so_far.walks;
  suits = so_far.suits;
}

-- each root among those that were named is in range
pub root_inside : (last : ℕ) (roots : List ℕ) (k : ℕ) → k < length roots → Each (λ (root : ℕ). (2 ≤ root) × (root ≤ last)) roots
    → (2 ≤ slice_index roots k) × (slice_index roots k ≤ last)
root_inside last [] k less each = absurd (omega (arith, less))
root_inside last (root ∷ roots) zero less each = each.0
root_inside last (root ∷ roots) (suc k) less each = root_inside last roots k (omega (arith, less)) each.1

-- the walk without the roots, which were taken out
pub taken_suits : {P : Type 0} (pages : Ghosts P) (at : P) (walk later : Walk) → later ≡ record walk { roots = later.roots } → later.roots.items ≡ []
    → SuitsPages pages at walk → SuitsPages pages at later
taken_suits pages at walk later same none suits =
    let roots : Each (λ (root : ℕ). (2 ≤ root) × (root ≤ walk.last)) later.roots.items =
    subst (λ (l : List ℕ). Each (λ (root : ℕ). (2 ≤ root) × (root ≤ walk.last)) l) (sym none) tt in
    subst (λ (w : Walk). SuitsPages pages at w) (sym same) (record {
      ready = suits.ready;
      page_size = suits.page_size;
      usable = suits.usable;
      last = suits.last;
      least = suits.least;
      fits = suits.fits;
      most = suits.most;
      room = suits.room;
      roots = roots;
    })

taken_keeps : (walk later : Walk) (past : Past) → later ≡ record walk { roots = later.roots } → KeepsPast walk past → KeepsPast later past
taken_keeps walk later past same keeps =
    subst (λ (w : Walk). KeepsPast w past) (sym same) (record { marks = keeps.marks; leaves = keeps.leaves })

-- All of a database was walked, with these roots, and the walk keeps what was met.
pub record WholeWalk (db : Database) (roots : List ℕ) (walk : Walk) : Type 0 where
  pub first : Past
  pub done : Past
  pub schema : Visits db no_past at_header first roots
  pub trees : Visits db first (root_places roots) done []
  pub keeps : KeepsPast walk done

-- what page 1's part says over one world
first_visits : {P : Type 0} (pages : Ghosts P) (old mid : P) (before walk : Walk) (page_size usable last free : ℕ) (world : View) → IsFresh page_size usable last before
    → HasFirst pages old before free mid walk → pages.tells mid world
    → (first : Past) × Visits (database_over pages old world) no_past at_header first walk.roots.items × KeepsPast walk first
first_visits pages old mid before walk page_size usable last free world fresh part told =
    let come = part.walks world told no_past (fresh_keeps page_size usable last before fresh) in
    let named : walk.roots.items ≡ come.named = come.roots_are ∙ ap (λ (l : List ℕ). l ++ come.named) fresh.roots in (
      come.mid,
      subst (λ (l : List ℕ). Visits (database_over pages old world) no_past at_header come.mid l) (sym named)
          (visits_of (database_over pages old world) no_past come.mid at_header come.named come.reaches),
      come.keeps,
    )

pub whole_walk : {P : Type 0} (pages : Ghosts P) (old mid new : P) (before walk taken later : Walk) (page_size usable last free : ℕ) (world : View)
    → IsFresh page_size usable last before → ReadsAtMost pages old mid → ReadsAtMost pages mid new → HasFirst pages old before free mid walk
    → taken ≡ record walk { roots = taken.roots } → HasVisited pages mid taken (root_places walk.roots.items) new later → pages.tells new world
    → WholeWalk (database_over pages old world) walk.roots.items later
whole_walk pages old mid new before walk taken later page_size usable last free world fresh one two part same visited told =
    let told_mid = two.edits.narrows world told in
    let db = database_over pages old world in
    let first = first_visits pages old mid before walk page_size usable last free world fresh part told_mid in
    let come = subst (λ (d : Database). ComesTo d later taken.roots.items first.0 (root_places walk.roots.items) []) (same_database pages old mid world one told_mid)
    (visited.walks world told first.0 (taken_keeps walk taken first.0 same first.2)) in
    let trees = visits_of db first.0 come.mid (root_places walk.roots.items) come.named come.reaches in
    record {
      first = first.0;
      done = come.mid;
      schema = first.1;
      trees = subst (λ (l : List ℕ). Visits db first.0 (root_places walk.roots.items) come.mid l)
          (names_none db first.0 (root_places walk.roots.items) come.mid come.named trees (roots_plain walk.roots.items)) trees;
      keeps = come.keeps;
    }

-- each tree has a page of its own
few_trees : (db : Database) (roots : List ℕ) (walk : Walk) → WholeWalk db roots walk → length roots + 1 ≤ walk.last
few_trees db roots walk whole =
    let first = trees_met db no_past at_header whole.first roots whole.schema in
    let then_met = trees_met db whole.first (root_places roots) whole.done [] whole.trees in
    omega (arith, first, then_met, trees_of_roots roots, whole.keeps.marks.counted, most_met walk.marks.bits.items walk.last)

walks_all : (db : Database) (roots : List ℕ) (walk : Walk) → (whole : WholeWalk db roots walk) → WalksAll db roots whole.done.met
walks_all db roots walk whole = record {
  first = whole.first;
  done = whole.done;
  schema = whole.schema;
  trees = whole.trees;
  met_is = refl;
}

-- no page is lost
walk_counted : (db : Database) (roots : List ℕ) (walk : Walk) (count : Count) → WholeWalk db roots walk → walk.last ≡ db.last
    → ((page : ℕ) → 2 ≤ page → page ≤ walk.last → is_met walk.marks.bits.items page ≡ true)
    → count.pages ≡ walk.last → count.trees ≡ min (length roots + 1) walk.last → count.free ≡ (fields_of (db.view 1)).free_pages → IsCounted db count
walk_counted db roots walk count whole last none pages_are trees_are free_are =
    let sound = walk_sound db roots whole.done.met (walks_all db roots walk whole)
    (λ page least most. let inside : page ≤ walk.last = omega (arith, most, last) in whole.keeps.marks.set page inside (none page least inside)) in
    record {
      roots = roots;
      used = sound.used;
      free = sound.free;
      rows = sound.rows;
      sound = sound.sound;
      pages_are = pages_are ∙ last;
      trees_are = omega (arith, trees_are, few_trees db roots walk whole);
      free_are = free_are ∙ sym sound.free_are;
    }

-- a page is lost
walk_lost : (db : Database) (roots : List ℕ) (walk : Walk) (lost : ℕ) → WholeWalk db roots walk → walk.last ≡ db.last → 2 ≤ lost → lost ≤ walk.last
    → is_met walk.marks.bits.items lost ≡ false → ((page : ℕ) → 2 ≤ page → page < lost → is_met walk.marks.bits.items page ≡ true) → IsLost db lost
walk_lost db roots walk lost whole last least most unset others = record {
  roots = roots;
  met = whole.done.met;
  walk = walks_all db roots walk whole;
  least = least;
  most = omega (arith, most, last);
  never = whole.keeps.marks.unset lost most unset;
  others = λ page low high. whole.keeps.marks.set page (omega (arith, high, most)) (others page low high);
}

-- The whole walk went through.
pub record AllMet {P : Type 0} (pages : Ghosts P) (old new : P) (roots : List ℕ) (free : ℕ) (walk : Walk) : Type 0 where
  pub whole : (world : View) → pages.tells new world → WholeWalk (database_over pages old world) roots walk
  pub last : walk.last ≡ pages.last_page old
  pub counts : (world : View) → pages.tells new world → free ≡ (fields_of (pages.over old world 1)).free_pages

pub all_met : {P : Type 0} (pages : Ghosts P) (old mid new : P) (before walk taken later : Walk) (page_size usable last free : ℕ)
    → IsFresh page_size usable last before → ReadsAtMost pages old mid → ReadsAtMost pages mid new → HasFirst pages old before free mid walk
    → taken ≡ record walk { roots = taken.roots } → HasVisited pages mid taken (root_places walk.roots.items) new later → AllMet pages old new walk.roots.items free later
all_met pages old mid new before walk taken later page_size usable last free fresh one two part same visited = record {
  whole = λ world told. whole_walk pages old mid new before walk taken later page_size usable last free world fresh one two part same visited told;
  last = visited.suits.last ∙ two.last ∙ one.last;
  counts = λ world told. part.counts world (two.edits.narrows world told);
}

pub all_counted : {P : Type 0} (pages : Ghosts P) (old new : P) (roots : List ℕ) (free : ℕ) (walk : Walk) (count : Count) → AllMet pages old new roots free walk
    → ((page : ℕ) → 2 ≤ page → page ≤ walk.last → is_met walk.marks.bits.items page ≡ true)
    → count.pages ≡ walk.last → count.trees ≡ min (length roots + 1) walk.last → count.free ≡ free
    → (world : View) → pages.tells new world → IsCounted (database_over pages old world) count
all_counted pages old new roots free walk count all none pages_are trees_are free_are world told =
    walk_counted (database_over pages old world) roots walk count (all.whole world told) all.last none pages_are trees_are (free_are ∙ all.counts world told)

pub all_lost : {P : Type 0} (pages : Ghosts P) (old new : P) (roots : List ℕ) (free : ℕ) (walk : Walk) (lost : ℕ) → AllMet pages old new roots free walk
    → (2 ≤ lost) × (lost ≤ walk.last) × (is_met walk.marks.bits.items lost ≡ false) × ((page : ℕ) → 2 ≤ page → page < lost → is_met walk.marks.bits.items page ≡ true)
    → (world : View) → pages.tells new world → IsLost (database_over pages old world) lost
all_lost pages old new roots free walk lost all is world told =
    walk_lost (database_over pages old world) roots walk lost (all.whole world told) all.last is.0 is.1 is.2 is.3

-- a fault in page 1's part
pub first_part_bars : {P : Type 0} (pages : Ghosts P) (old new : P) (before : Walk) (page_size usable last : ℕ) (why : CheckFault) → IsFresh page_size usable last before
    → BarsVisit pages old new before at_header why → BarsCheck pages old new why
first_part_bars pages old new before page_size usable last (fault.Page page at) fresh bars =
    λ world told. inl (bars world told no_past (fresh_keeps page_size usable last before fresh))
first_part_bars pages old new before page_size usable last (fault.Schema rowid) fresh bars =
    λ world told. inl (bars world told no_past (fresh_keeps page_size usable last before fresh))
first_part_bars pages old new before page_size usable last (fault.Order page cell) fresh bars =
    λ world told. inl (bars world told no_past (fresh_keeps page_size usable last before fresh))
first_part_bars pages old new before page_size usable last (fault.Twice page) fresh bars =
    λ world told. inl (bars world told no_past (fresh_keeps page_size usable last before fresh))
first_part_bars pages old new before page_size usable last (fault.Lost page) fresh bars = absurd bars
first_part_bars pages old new before page_size usable last fault.Disk fresh bars = bars
first_part_bars pages old new before page_size usable last fault.Memory fresh bars = tt

-- a fault in the trees of the roots
meets_roots : {P : Type 0} (pages : Ghosts P) (old mid new : P) (before walk taken : Walk) (page_size usable last free : ℕ) (why : CheckFault)
    → IsFresh page_size usable last before → ReadsAtMost pages old mid → ReadsAtMost pages mid new → HasFirst pages old before free mid walk
    → taken ≡ record walk { roots = taken.roots } → MeetsOver pages mid new taken (root_places walk.roots.items) why → (world : View) → pages.tells new world
    → (roots : List ℕ) × (first : Past) × Visits (database_over pages old world) no_past at_header first roots × Meets (database_over pages old world) why first (root_places roots)
meets_roots pages old mid new before walk taken page_size usable last free why fresh one two part same bars world told =
    let told_mid = two.edits.narrows world told in
    let first = first_visits pages old mid before walk page_size usable last free world fresh part told_mid in (
      walk.roots.items,
      first.0,
      first.1,
      subst (λ (d : Database). Meets d why first.0 (root_places walk.roots.items)) (same_database pages old mid world one told_mid)
          (bars world told first.0 (taken_keeps walk taken first.0 same first.2)),
    )

pub roots_bars : {P : Type 0} (pages : Ghosts P) (old mid new : P) (before walk taken : Walk) (page_size usable last free : ℕ) (why : CheckFault)
    → IsFresh page_size usable last before → ReadsAtMost pages old mid → ReadsAtMost pages mid new → HasFirst pages old before free mid walk
    → taken ≡ record walk { roots = taken.roots } → BarsVisit pages mid new taken (root_places walk.roots.items) why → BarsCheck pages old new why
roots_bars pages old mid new before walk taken page_size usable last free (fault.Page page at) fresh one two part same bars =
    λ world told. inr (meets_roots pages old mid new before walk taken page_size usable last free (fault.Page page at) fresh one two part same bars world told)
roots_bars pages old mid new before walk taken page_size usable last free (fault.Schema rowid) fresh one two part same bars =
    λ world told. inr (meets_roots pages old mid new before walk taken page_size usable last free (fault.Schema rowid) fresh one two part same bars world told)
roots_bars pages old mid new before walk taken page_size usable last free (fault.Order page cell) fresh one two part same bars =
    λ world told. inr (meets_roots pages old mid new before walk taken page_size usable last free (fault.Order page cell) fresh one two part same bars world told)
roots_bars pages old mid new before walk taken page_size usable last free (fault.Twice page) fresh one two part same bars =
    λ world told. inr (meets_roots pages old mid new before walk taken page_size usable last free (fault.Twice page) fresh one two part same bars world told)
roots_bars pages old mid new before walk taken page_size usable last free (fault.Lost page) fresh one two part same bars = absurd bars
roots_bars pages old mid new before walk taken page_size usable last free fault.Disk fresh one two part same bars = rose_since _ _ _ one.edits.faults bars
roots_bars pages old mid new before walk taken page_size usable last free fault.Memory fresh one two part same bars = tt

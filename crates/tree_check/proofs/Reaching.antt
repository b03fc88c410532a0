-- Visiting places one after another: first some and then those behind them, or what a place leads to.
use Rattle.std.proofs.Common.{◌≡◌, ℕ, ◌<◌, ◌≤◌, ◌⊎◌, List, [], ◌∷◌, ◌++◌, refl, sym, subst, ap, ◌∙◌, arith, append_assoc, append-nil, inl, inr}
use Rattle.disk_face.specs.Faults.{Rose, last_count}
use Rattle.page_spec.specs.View.{View}
use Rattle.page_face.specs.declared.pages_tells.PagesTells.{Ghosts}
use Rattle.page_face.specs.Pages.{ReadsAtMost}
use Rattle.check_spec.specs.declared.fault.CheckFault.{CheckFault}
use Rattle.check_spec.specs.declared.fault.CheckFault.TheVariants as fault
use Rattle.check_spec.specs.Walk.{Database, Place, Past, Onward, IsInOrder, IsFaulty, Visits, Meets}
use Rattle.tree_check.specs.Checking.{database_over}
use Rattle.tree_check.specs.declared.walk.Walk.{Walk}
use Rattle.tree_check.specs.Walking.{KeepsPast, Reaches, ComesTo, WalksTo, MeetsOver, BarsVisit, ComesFromOutside}

-- some places are visited, and then others behind them
pub visits_join : (db : Database) (past mid done : Past) (xs ys : List Place) (some others : List ℕ) → Visits db past xs mid some → Visits db mid ys done others
    → Visits db past (xs ++ ys) done (some ++ others)
visits_join db past mid done xs ys some others (Visits.rests _ _ _ _ none is no_name) second =
    subst (λ (l : List Place). Visits db past (l ++ ys) done (some ++ others)) (sym none)
    (subst (λ (n : List ℕ). Visits db past ys done (n ++ others)) (sym no_name)
    (subst (λ (p : Past). Visits db p ys done others) is second))
visits_join db past mid done xs ys some others (Visits.visits _ _ _ _ place behind on between inside more are names order under rest) second =
    Visits.visits past (xs ++ ys) done (some ++ others) place (behind ++ ys) on between inside (more ++ others)
    (ap (λ (l : List Place). l ++ ys) are)
    (ap (λ (l : List ℕ). l ++ others) names ∙ append_assoc on.named (inside ++ more) others ∙ ap (λ (l : List ℕ). on.named ++ l) (append_assoc inside more others))
    order under (visits_join db between mid done behind ys more others rest second)

-- a fault that is met at some places is met where others stand behind them
pub meets_first : (db : Database) (why : CheckFault) (past : Past) (xs ys : List Place) → Meets db why past xs → Meets db why past (xs ++ ys)
meets_first db why past xs ys (Meets.meets_here _ _ place behind are faulty) =
    Meets.meets_here past (xs ++ ys) place (behind ++ ys) (ap (λ (l : List Place). l ++ ys) are) faulty
meets_first db why past xs ys (Meets.meets_inside _ _ place behind on are order inside) =
    Meets.meets_inside past (xs ++ ys) place (behind ++ ys) on (ap (λ (l : List Place). l ++ ys) are) order inside
meets_first db why past xs ys (Meets.meets_behind _ _ place behind on mid named are order under rest) =
    Meets.meets_behind past (xs ++ ys) place (behind ++ ys) on mid named (ap (λ (l : List Place). l ++ ys) are) order under (meets_first db why mid behind ys rest)

-- and so is one that is met behind places that were visited
pub meets_then : (db : Database) (why : CheckFault) (past mid : Past) (xs ys : List Place) (some : List ℕ) → Visits db past xs mid some → Meets db why mid ys
    → Meets db why past (xs ++ ys)
meets_then db why past mid xs ys some (Visits.rests _ _ _ _ none is no_name) second =
    subst (λ (l : List Place). Meets db why past (l ++ ys)) (sym none) (subst (λ (p : Past). Meets db why p ys) is second)
meets_then db why past mid xs ys some (Visits.visits _ _ _ _ place behind on between inside more are names order under rest) second =
    Meets.meets_behind past (xs ++ ys) place (behind ++ ys) on between inside (ap (λ (l : List Place). l ++ ys) are) order under
    (meets_then db why between mid behind ys more rest second)

-- nothing was visited yet
pub reaches_itself : (db : Database) (past : Past) (all : List Place) → Reaches db past all past all []
reaches_itself db past all = record { visits = λ done more visits. visits; meets = λ why meets. meets }

-- some of what was left was visited
pub reaches_on : (db : Database) (past mid later : Past) (all xs ys : List Place) (named some : List ℕ) → Reaches db past all mid (xs ++ ys) named
    → Visits db mid xs later some → Reaches db past all later ys (named ++ some)
reaches_on db past mid later all xs ys named some reaches visited = record {
  visits = λ done more visits. subst (λ (l : List ℕ). Visits db past all done l) (sym (append_assoc named some more))
      (reaches.visits done (some ++ more) (visits_join db mid later done xs ys some more visited visits));
  meets = λ why meets. reaches.meets why (meets_then db why mid later xs ys some visited meets);
}

-- a place was in order, and what it leads to is left
pub reaches_inside : (db : Database) (past mid : Past) (all : List Place) (place : Place) (on : Onward) (named : List ℕ) → Reaches db past all mid (place ∷ []) named
    → IsInOrder db mid place on → Reaches db past all on.now on.next (named ++ on.named)
reaches_inside db past mid all place on named reaches order = record {
  visits = λ done more visits. subst (λ (l : List ℕ). Visits db past all done l) (sym (append_assoc named on.named more))
      (reaches.visits done (on.named ++ more)
      (Visits.visits mid (place ∷ []) done (on.named ++ more) place [] on done more [] refl (ap (λ (l : List ℕ). on.named ++ l) (sym (append-nil more))) order visits
      (Visits.rests done [] done [] refl refl refl)));
  meets = λ why meets. reaches.meets why (Meets.meets_inside mid (place ∷ []) place [] on refl order meets);
}

-- nothing is left
pub visits_of : (db : Database) (past mid : Past) (all : List Place) (named : List ℕ) → Reaches db past all mid [] named → Visits db past all mid named
visits_of db past mid all named reaches =
    subst (λ (l : List ℕ). Visits db past all mid l) (append-nil named) (reaches.visits mid [] (Visits.rests mid [] mid [] refl refl refl))

pub comes_on : (db : Database) (walk later : Walk) (roots : List ℕ) (past : Past) (all xs ys : List Place) → ComesTo db walk roots past all (xs ++ ys)
    → ((mid : Past) → KeepsPast walk mid → ComesTo db later walk.roots.items mid xs []) → ComesTo db later roots past all ys
comes_on db walk later roots past all xs ys first second =
    let next = second first.mid first.keeps in
    record {
      mid = next.mid;
      named = first.named ++ next.named;
      reaches = reaches_on db past first.mid next.mid all xs ys first.named next.named first.reaches (visits_of db first.mid next.mid xs next.named next.reaches);
      keeps = next.keeps;
      roots_are = next.roots_are ∙ ap (λ (l : List ℕ). l ++ next.named) first.roots_are ∙ append_assoc roots first.named next.named;
    }

-- pages that were only read since are the same database
pub same_database : {P : Type 0} (pages : Ghosts P) (old now : P) (world : View) → ReadsAtMost pages old now → pages.tells now world
    → database_over pages now world ≡ database_over pages old world
same_database pages old now world reading told = λ i. record {
  page_size = reading.edits.page_size i;
  usable = reading.edits.usable i;
  last = reading.last i;
  view = λ page. (reading.each world told).each page i;
}

-- the walk begins
pub begins : {P : Type 0} (pages : Ghosts P) (old : P) (walk : Walk) (all : List Place) → WalksTo pages old old walk walk all all
begins pages old walk all = λ world told past keeps. record {
  mid = past;
  named = [];
  reaches = reaches_itself (database_over pages old world) past all;
  keeps = keeps;
  roots_are = sym (append-nil walk.roots.items);
}

-- The walk goes on by a call that visits some of what is left.
pub walks_on : {P : Type 0} (pages : Ghosts P) (old now new : P) (before walk later : Walk) (all xs ys : List Place) → ReadsAtMost pages old now → ReadsAtMost pages now new
    → WalksTo pages old now before walk all (xs ++ ys) → WalksTo pages now new walk later xs [] → WalksTo pages old new before later all ys
walks_on pages old now new before walk later all xs ys one two first second = λ world told past keeps.
    let then_told = two.edits.narrows world told in
    comes_on (database_over pages old world) walk later before.roots.items past all xs ys (first world then_told past keeps)
    (subst (λ (db : Database). (mid : Past) → KeepsPast walk mid → ComesTo db later walk.roots.items mid xs [])
    (same_database pages old now world one then_told) (second world told))

-- Or by a place that leads on.
pub walks_inside : {P : Type 0} (pages : Ghosts P) (old now new : P) (before walk later : Walk) (all : List Place) (place : Place) (next : List Place) (more : List ℕ)
    → ((world : View) → pages.tells new world → pages.tells now world)
    → later.roots.items ≡ walk.roots.items ++ more
    → WalksTo pages old now before walk all (place ∷ [])
    → ((world : View) → pages.tells new world → (mid : Past) → KeepsPast walk mid
    → (after : Past) × IsInOrder (database_over pages old world) mid place (record { now = after; next = next; named = more }) × KeepsPast later after)
    → WalksTo pages old new before later all next
walks_inside pages old now new before walk later all place next more narrows roots first second = λ world told past keeps.
    let come = first world (narrows world told) past keeps in
    let step = second world told come.mid come.keeps in
    let on : Onward = record { now = step.0; next = next; named = more } in
    record {
      mid = step.0;
      named = come.named ++ more;
      reaches = reaches_inside (database_over pages old world) past come.mid all place on come.named come.reaches step.1;
      keeps = step.2;
      roots_are = roots ∙ ap (λ (l : List ℕ). l ++ more) come.roots_are ∙ append_assoc before.roots.items come.named more;
    }

pub rose_since : (first before after : ℕ) → first ≤ before → Rose before after → Rose first after
rose_since first before after least rose = record { later = omega (arith, least, rose.later); counted = by_count rose.counted }
  where
    by_count : (before < after) ⊎ (after ≡ last_count) → (first < after) ⊎ (after ≡ last_count)
    by_count (inl more) = inl (omega (arith, least, more))
    by_count (inr last) = inr last

-- a fault that a call meets among what is left
pub meets_over : {P : Type 0} (pages : Ghosts P) (old now new : P) (before walk : Walk) (all xs ys : List Place) (why : CheckFault) → ReadsAtMost pages old now
    → ((world : View) → pages.tells new world → pages.tells now world) → WalksTo pages old now before walk all (xs ++ ys) → MeetsOver pages now new walk xs why
    → MeetsOver pages old new before all why
meets_over pages old now new before walk all xs ys why one narrows first second = λ world told past keeps.
    let then_told = narrows world told in
    let come = first world then_told past keeps in
    come.reaches.meets why (meets_first (database_over pages old world) why come.mid xs ys
    (subst (λ (db : Database). Meets db why come.mid xs) (same_database pages old now world one then_told) (second world told come.mid come.keeps)))

-- A call that couldn't visit some of what is left.
pub bars_on : {P : Type 0} (pages : Ghosts P) (old now new : P) (before walk : Walk) (all xs ys : List Place) (why : CheckFault) → ReadsAtMost pages old now
    → ReadsAtMost pages now new → WalksTo pages old now before walk all (xs ++ ys) → BarsVisit pages now new walk xs why → BarsVisit pages old new before all why
bars_on pages old now new before walk all xs ys (fault.Page page at) one two first second =
    meets_over pages old now new before walk all xs ys (fault.Page page at) one two.edits.narrows first second
bars_on pages old now new before walk all xs ys (fault.Schema rowid) one two first second =
    meets_over pages old now new before walk all xs ys (fault.Schema rowid) one two.edits.narrows first second
bars_on pages old now new before walk all xs ys (fault.Order page cell) one two first second =
    meets_over pages old now new before walk all xs ys (fault.Order page cell) one two.edits.narrows first second
bars_on pages old now new before walk all xs ys (fault.Twice page) one two first second =
    meets_over pages old now new before walk all xs ys (fault.Twice page) one two.edits.narrows first second
bars_on pages old now new before walk all xs ys (fault.Lost page) one two first second = absurd second
bars_on pages old now new before walk all xs ys fault.Disk one two first second = rose_since _ _ _ one.edits.faults second
bars_on pages old now new before walk all xs ys fault.Memory one two first second = tt

-- A fault at the next place.
pub stops_at : {P : Type 0} (pages : Ghosts P) (old now new : P) (before walk : Walk) (all : List Place) (place : Place) (others : List Place) (why : CheckFault)
    → ((world : View) → pages.tells new world → pages.tells now world) → WalksTo pages old now before walk all (place ∷ others)
    → ((world : View) → pages.tells new world → (mid : Past) → KeepsPast walk mid → IsFaulty (database_over pages old world) mid place why)
    → MeetsOver pages old new before all why
stops_at pages old now new before walk all place others why narrows first second = λ world told past keeps.
    let come = first world (narrows world told) past keeps in
    come.reaches.meets why (Meets.meets_here come.mid (place ∷ others) place others refl (second world told come.mid come.keeps))

-- A fault from outside.
pub outside_bars : {P : Type 0} (pages : Ghosts P) (old new : P) (before : Walk) (all : List Place) (why : CheckFault)
    → ComesFromOutside (pages.faults old) (pages.faults new) why → BarsVisit pages old new before all why
outside_bars pages old new before all (fault.Page page at) never = absurd never
outside_bars pages old new before all (fault.Schema rowid) never = absurd never
outside_bars pages old new before all (fault.Order page cell) never = absurd never
outside_bars pages old new before all (fault.Twice page) never = absurd never
outside_bars pages old new before all (fault.Lost page) never = absurd never
outside_bars pages old new before all fault.Disk rose = rose
outside_bars pages old new before all fault.Memory is = tt

pub outside_since : (first before after : ℕ) (why : CheckFault) → first ≤ before → ComesFromOutside before after why → ComesFromOutside first after why
outside_since first before after (fault.Page page at) least never = absurd never
outside_since first before after (fault.Schema rowid) least never = absurd never
outside_since first before after (fault.Order page cell) least never = absurd never
outside_since first before after (fault.Twice page) least never = absurd never
outside_since first before after (fault.Lost page) least never = absurd never
outside_since first before after fault.Disk least rose = rose_since first before after least rose
outside_since first before after fault.Memory least is = tt

-- The walk goes on by a call that leaves something else to be visited.
pub walks_then : {P : Type 0} (pages : Ghosts P) (old now new : P) (before walk later : Walk) (all rest others : List Place) → ReadsAtMost pages old now → ReadsAtMost pages now new
    → WalksTo pages old now before walk all rest → WalksTo pages now new walk later rest others → WalksTo pages old new before later all others
walks_then pages old now new before walk later all rest others one two first second = λ world told past keeps.
    let then_told = two.edits.narrows world told in
    let come = first world then_told past keeps in
    let on = subst (λ (db : Database). ComesTo db later walk.roots.items come.mid rest others) (same_database pages old now world one then_told)
    (second world told come.mid come.keeps) in
    record {
      mid = on.mid;
      named = come.named ++ on.named;
      reaches = record {
        visits = λ done more visits. subst (λ (l : List ℕ). Visits (database_over pages old world) past all done l) (sym (append_assoc come.named on.named more))
            (come.reaches.visits done (on.named ++ more) (on.reaches.visits done more visits));
        meets = λ why meets. come.reaches.meets why (on.reaches.meets why meets);
      };
      keeps = on.keeps;
      roots_are = on.roots_are ∙ ap (λ (l : List ℕ). l ++ on.named) come.roots_are ∙ append_assoc before.roots.items come.named on.named;
    }

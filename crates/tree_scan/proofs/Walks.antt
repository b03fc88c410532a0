-- Walks along a path, and what they read.
use Rattle.std.proofs.Common.{◌≡◌, ℕ, Bool, true, false, List, [], ◌∷◌, ◌++◌, Err, inl, inr, refl, sym, subst, ap, ◌∙◌, append_assoc, append-nil}
use Rattle.std.specs.Prelude.{◌⊎◌}
use Rattle.page_spec.specs.View.{View}
use Rattle.engine_spec.specs.declared.commits.FetchFault.{FetchFault}
use Rattle.engine_spec.specs.declared.commits.FetchFault.TheVariants as fault
use Rattle.page_face.specs.declared.pages_tells.PagesTells.{Ghosts}
use Rattle.node_spec.specs.Cells.{NodeCell}
use Rattle.tree_spec.specs.Shown.{Shown}
use Rattle.overflow.specs.Following.{shown_over}
use Rattle.tree_read.specs.Payloads.{AreOfChain, BreaksPayload, EndsWithRow}
use Rattle.tree_read.proofs.Payloads.{of_chain}
use Rattle.tree_scan.specs.declared.bounds.Bounds.{Bounds}
use Rattle.tree_scan.specs.declared.level.Level.{Level}
use Rattle.tree_scan.specs.Bounded.{of_table}
use Rattle.tree_scan.specs.Coming.{gone_below}
use Rattle.tree_scan.specs.Placing.{HasLevel}
use Rattle.tree_scan.specs.Scanning.{NamesNext}
use Rattle.tree_scan.specs.Walking.{IsEntered, IsStep, Stop, all_lists, AreSteps, IsWalk, AreOfNext, EndsWalk, IsFirstWalk, WalksOn}

pub walk_none : (usable last : ℕ) (shown : Shown) (seek : Bool) (bounds : Bounds) (levels : List Level) → IsWalk usable last shown seek bounds levels [] levels
walk_none usable last shown seek bounds levels = record { stops = []; steps = refl; list_is = refl }

pub walk_one : (usable last : ℕ) (shown : Shown) (seek : Bool) (bounds : Bounds) (levels : List Level) (list : List ℕ) (levels_then : List Level)
    → IsStep usable last shown seek bounds levels list levels_then → IsWalk usable last shown seek bounds levels list levels_then
walk_one usable last shown seek bounds levels list levels_then step = record {
  stops = (record { levels = levels_then; list = list }) ∷ [];
  steps = (step, refl);
  list_is = sym (append-nil list);
}

steps_join : (usable last : ℕ) (shown : Shown) (seek : Bool) (bounds : Bounds) (a : List Level) (one : List Stop) (b : List Level) (two : List Stop) (c : List Level)
    → AreSteps usable last shown seek bounds a one b → AreSteps usable last shown seek bounds b two c → AreSteps usable last shown seek bounds a (one ++ two) c
steps_join usable last shown seek bounds a [] b two c first second = subst (λ (l : List Level). AreSteps usable last shown seek bounds l two c) first second
steps_join usable last shown seek bounds a (stop ∷ stops) b two c first second =
    (first.0, steps_join usable last shown seek bounds stop.levels stops b two c first.1 second)

lists_join : (one two : List Stop) → all_lists (one ++ two) ≡ all_lists one ++ all_lists two
lists_join [] two = refl
lists_join (stop ∷ stops) two = ap (λ (l : List ℕ). stop.list ++ l) (lists_join stops two) ∙ sym (append_assoc stop.list (all_lists stops) (all_lists two))

pub walk_join : (usable last : ℕ) (shown : Shown) (seek : Bool) (bounds : Bounds) (a : List Level) (one : List ℕ) (b : List Level) (two : List ℕ) (c : List Level)
    → IsWalk usable last shown seek bounds a one b → IsWalk usable last shown seek bounds b two c → IsWalk usable last shown seek bounds a (one ++ two) c
walk_join usable last shown seek bounds a one b two c first second = record {
  stops = first.stops ++ second.stops;
  steps = steps_join usable last shown seek bounds a first.stops b second.stops c first.steps second.steps;
  list_is = ap (λ (l : List ℕ). l ++ two) first.list_is ∙ ap (λ (l : List ℕ). all_lists first.stops ++ l) second.list_is ∙ sym (lists_join first.stops second.stops);
}

-- a level that was read is entered
pub entered : {P : Type 0} (pages : Ghosts P) (old new : P) (seek : Bool) (bounds : Bounds) (page depth : ℕ) (level : Level) → (has : HasLevel pages old seek bounds page depth level new)
    → (world : View) → pages.tells new world → IsEntered (pages.usable old) (pages.last_page old) (shown_over pages old world) seek bounds level has.list
entered pages old new seek bounds page depth level has world told = record {
  node = has.node;
  holds = ap (λ (p : ℕ). (shown_over pages old world).node p) has.page_is ∙ has.shown world told;
  placed = has.placed world told;
  none = has.none;
  are = has.are world told;
}

pub walk_down : {P : Type 0} (pages : Ghosts P) (old new : P) (seek : Bool) (bounds : Bounds) (levels levels_then above : List Level) (top child : Level) (page depth : ℕ)
    → levels ≡ above ++ top ∷ [] → (has : HasLevel pages old seek bounds page depth child new) → levels_then ≡ above ++ gone_below (of_table bounds) top ∷ child ∷ []
    → (world : View) → pages.tells new world → NamesNext (shown_over pages old world) levels top page
    → IsWalk (pages.usable old) (pages.last_page old) (shown_over pages old world) seek bounds levels (page ∷ has.list) levels_then
walk_down pages old new seek bounds levels levels_then above top child page depth are has are_then world told names =
    walk_one (pages.usable old) (pages.last_page old) (shown_over pages old world) seek bounds levels (page ∷ has.list) levels_then
    (IsStep.Down above top child has.list are (subst (λ (p : ℕ). NamesNext (shown_over pages old world) levels top p) (sym has.page_is) names)
    (entered pages old new seek bounds page depth child has world told) are_then (ap (λ (p : ℕ). p ∷ has.list) (sym has.page_is)))

-- From the root.
pub first_walk : {P : Type 0} (pages : Ghosts P) (old new : P) (bounds : Bounds) (root : ℕ) (level : Level) (levels : List Level) → (has : HasLevel pages old true bounds root 0 level new)
    → levels ≡ level ∷ [] → (world : View) → pages.tells new world
    → IsFirstWalk (pages.usable old) (pages.last_page old) (shown_over pages old world) bounds root (root ∷ has.list) levels
first_walk pages old new bounds root level levels has are world told =
    subst (IsFirstWalk (pages.usable old) (pages.last_page old) (shown_over pages old world) bounds root (root ∷ has.list)) (sym are) (record {
      level = level;
      compared = has.list;
      below = [];
      root_is = has.page_is;
      entered = entered pages old new true bounds root 0 level has world told;
      walk = walk_none (pages.usable old) (pages.last_page old) (shown_over pages old world) true bounds (level ∷ []);
      list_is = sym (append-nil (root ∷ has.list));
    })

pub first_walk_on : (usable last : ℕ) (shown : Shown) (bounds : Bounds) (root : ℕ) (list : List ℕ) (levels : List Level) (more : List ℕ) (levels_then : List Level)
    → IsFirstWalk usable last shown bounds root list levels → IsWalk usable last shown true bounds levels more levels_then
    → IsFirstWalk usable last shown bounds root (list ++ more) levels_then
first_walk_on usable last shown bounds root list levels more levels_then first walk = record {
  level = first.level;
  compared = first.compared;
  below = first.below ++ more;
  root_is = first.root_is;
  entered = first.entered;
  walk = walk_join usable last shown true bounds (first.level ∷ []) first.below levels more levels_then first.walk walk;
  list_is = ap (λ (l : List ℕ). l ++ more) first.list_is ∙ append_assoc (root ∷ first.compared) first.below more;
}

-- At a cell.

-- the pages that were read of a chain are its
pub chain_of : (usable last : ℕ) (shown : Shown) (cell : NodeCell) (below : ℕ) (chain : List ℕ) (why : FetchFault) → EndsWithRow usable last shown cell below chain (Err why)
    → AreOfChain usable last shown cell chain
chain_of usable last shown cell below chain fault.Disk ends = ends
chain_of usable last shown cell below chain (fault.Corrupt page) (BreaksPayload.TooLarge none same large) = subst (AreOfChain usable last shown cell) (sym none) tt
chain_of usable last shown cell below chain (fault.Corrupt page) (BreaksPayload.BreaksOff next left followed same some outside) =
    of_chain usable last shown cell chain next left followed
chain_of usable last shown cell below chain (fault.Corrupt page) (BreaksPayload.NoRecord next followed same none) = of_chain usable last shown cell chain next 0 followed
chain_of usable last shown cell below chain (fault.Size count) ends = absurd ends
chain_of usable last shown cell below chain fault.Memory ends = ends

pub walks_on : (usable last : ℕ) (shown : Shown) (bounds : Bounds) (levels : List Level) (walked : List ℕ) (levels_then : List Level) (rest : List ℕ)
    → IsWalk usable last shown false bounds levels walked levels_then → (rest ≡ []) ⊎ AreOfNext usable last shown levels_then rest
    → WalksOn usable last shown bounds levels (walked ++ rest)
walks_on usable last shown bounds levels walked levels_then rest walk ends = record {
  levels_then = levels_then;
  walked = walked;
  rest = rest;
  walk = walk;
  ends = elim ends [ inl none ↦ EndsWalk.AtEnd none | inr some ↦ EndsWalk.AtCell some ];
  list_is = refl;
}

-- A walk over a whole database that goes through, and after which no page is lost, shows a sound database.
use Rattle.std.proofs.Common.{◌≡◌, ℕ, ◌≤◌, List, [], ◌∷◌, ◌++◌, length, refl, sym, subst, ap, ◌∙◌, append_assoc, arith}
use Rattle.std.proofs.lemmas.List.{append-nil}
use Rattle.page_spec.specs.Header.{fields_of}
use Rattle.tree_spec.specs.Layout.{times, Item}
use Rattle.tree_spec.proofs.Lists.{times-append}
use Rattle.sound_spec.specs.Schema.{NameRoots}
use Rattle.sound_spec.specs.Sound.{IsSound}
use Rattle.check_spec.specs.Walk.{Database, Place, Past, no_past, root_places, WalksAll}
use Rattle.check_spec.proofs.Visited.{more_join, visits_meet}
use Rattle.check_spec.proofs.Told.{HasFirstPart, SayAll}
use Rattle.check_spec.proofs.Roots.{named_range, roots_say}
use Rattle.check_spec.proofs.Said.{visits_say}

-- The database is sound with these roots, and its freelist has as many pages as the header counts.
pub record WalkedSound (db : Database) (roots : List ℕ) : Type 0 where
  pub used : List ℕ
  pub free : List ℕ
  pub rows : List Item
  pub sound : IsSound db.page_size db.usable db.last db.view roots used free rows
  pub free_are : length free ≡ (fields_of (db.view 1)).free_pages

-- page 1's part, whose roots are those that were named
front_says : (db : Database) (first : Past) (roots : List ℕ) → SayAll db (Place.AtHeader ∷ []) no_past first roots → HasFirstPart db first roots
front_says db first roots (mid, named, behind, here, more, is) =
    let same : roots ≡ named = is ∙ ap (λ (l : List ℕ). named ++ l) more.1 ∙ append-nil named in
    let front = here refl in
    record {
      counts = front.counts;
      free = front.free;
      freelist = front.freelist;
      height = front.height;
      low = front.low;
      own = front.own;
      rows = front.rows;
      tree = front.tree;
      met_is = more.0.met_is ∙ append-nil mid.met ∙ front.met_is;
      names = subst (λ (l : List ℕ). NameRoots db.last front.rows l) (sym same) front.names;
    }

-- each page was met once at most
met_once : (db : Database) (roots met : List ℕ) → WalksAll db roots met → (page : ℕ) → times met page ≤ 1
met_once db roots met walk page =
    let schema = visits_meet db no_past (Place.AtHeader ∷ []) walk.first roots walk.schema in
    let trees = visits_meet db walk.first (root_places roots) walk.done [] walk.trees in
    let all = more_join no_past.met walk.first.met walk.done.met schema trees in
    subst (λ (l : List ℕ). times l page ≤ 1) (sym walk.met_is) (all.once (λ other. omega arith) page)

pub walk_sound : (db : Database) (roots met : List ℕ) → WalksAll db roots met → ((page : ℕ) → 2 ≤ page → page ≤ db.last → 1 ≤ times met page) → WalkedSound db roots
walk_sound db roots met walk none_lost =
    let front = front_says db walk.first roots (visits_say db no_past (Place.AtHeader ∷ []) walk.first roots walk.schema) in
    let trees = roots_say db roots walk.first walk.done [] (named_range db.last front.rows roots front.names)
    (visits_say db walk.first (root_places roots) walk.done [] walk.trees) in
    let all : met ≡ front.free ++ (front.own ++ trees.own) =
    walk.met_is ∙ trees.met_is ∙ ap (λ (l : List ℕ). l ++ trees.own) front.met_is ∙ append_assoc front.free front.own trees.own in
    record {
      used = front.own ++ trees.own;
      free = front.free;
      rows = front.rows;
      sound = record {
        header = front.counts;
        freelist = front.freelist;
        trees = record {
          height = front.height;
          low = front.low;
          first = front.own;
          others = trees.own;
          schema = front.tree;
          rooted = trees.rooted;
          used_is = refl;
        };
        named = front.names;
        placed = λ page least most.
            let once = met_once db roots met walk page in
            let some = none_lost page least most in
            let sum = ap (λ (l : List ℕ). times l page) all ∙ times-append front.free (front.own ++ trees.own) page in
            omega (arith, once, some, sum);
      };
      free_are = sym front.freelist.counted;
    }

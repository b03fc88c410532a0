use Rattle.std.proofs.Common.{◌≡◌, ℕ, List, [], ◌∷◌, ◌++◌, Ok, Err, sym, subst}
use Rattle.page_face.proofs.PageLaws.{reading_join, reading_same}
use Rattle.tree_spec.specs.Shown.{Shown}
use Rattle.tree_scan.specs.declared.level.Level.{Level}
use Rattle.tree_scan.specs.Bounded.{of_table}
use Rattle.tree_scan.specs.Scanning.{IsBarred, BreaksDown}
use Rattle.tree_scan.proofs.Shows.{walked_join, walked_still, keeps_join, sought_join, barred_before}
use Rattle.tree_scan.proofs.path.go_down.Goals as goal

pub downs-init : goal.downs-init
downs-init g c = record {
  reading = reading_same g.P.PagesTells c.args.pages.now c.requires.ready (g.P.PagesTells.follows_itself c.args.pages.now);
  levels = c.requires.levels;
  coming = λ is world told bound height own items comes. (own, comes);
  sought = λ is world told bound height items sought. sought;
  walked = walked_still c.args.seek c.args.bounds.now g.P.PagesTells c.args.pages.now c.args.levels.now.items;
  left = λ is first. first;
  inner = c.requires.left;
}

pub enter-requires-clause-inner : goal.enter-requires-clause-inner
enter-requires-clause-inner g c =
    let found = c.is_at_cell.ensures.child c.if-is_at_cell.false in
    (found.0, (found.1.0, (found.1.1.0, (found.1.1.1, c.downs.invariant.inner found.0 found.1.0 found.1.1.0 found.1.1.1))))

pub downs-preserved : goal.downs-preserved
downs-preserved g c =
    let p = g.P.PagesTells in
    let before = c.downs.invariant in
    let t = of_table c.args.bounds.now in
    record {
      reading = reading_join p c.args.pages.now c.downs.pages c.enter.new.pages before.reading c.in-Ok.ensures.reading (p.follows_on);
      levels = c.in-Ok.ensures.levels;
      coming = λ is. keeps_join t p c.args.pages.now c.downs.pages c.enter.new.pages c.args.levels.now.items c.downs.levels.items c.enter.new.levels.items before.reading c.in-Ok.ensures.reading
          (before.coming is) (c.in-Ok.ensures.coming is);
      sought = λ is. sought_join p c.args.pages.now c.downs.pages c.enter.new.pages c.args.bounds.now c.args.levels.now.items c.downs.levels.items c.enter.new.levels.items before.reading
          c.in-Ok.ensures.reading (before.sought is) (c.in-Ok.ensures.sought is);
      walked = walked_join {T = Unit {0}} {U = Unit {0}} c.args.seek c.args.bounds.now p c.args.pages.now c.downs.pages c.enter.new.pages c.args.levels.now.items
          c.downs.levels.items c.enter.new.levels.items tt (Ok tt) before.reading c.in-Ok.ensures.reading before.walked c.in-Ok.ensures.walked;
      left = λ is first. c.in-Ok.ensures.left is;
      inner = c.in-Ok.ensures.inner;
    }

pub returns-in-Err-clause-coming : goal.returns-in-Err-clause-coming
returns-in-Err-clause-coming g c = λ is.
    keeps_join (of_table c.args.bounds.now) g.P.PagesTells c.args.pages.now c.downs.pages c.enter.new.pages c.args.levels.now.items c.downs.levels.items c.enter.new.levels.items
    c.downs.invariant.reading c.in-Err.ensures.reading (c.downs.invariant.coming is) (c.in-Err.ensures.coming is)

pub returns-in-Err-clause-sought : goal.returns-in-Err-clause-sought
returns-in-Err-clause-sought g c = λ is.
    sought_join g.P.PagesTells c.args.pages.now c.downs.pages c.enter.new.pages c.args.bounds.now c.args.levels.now.items c.downs.levels.items c.enter.new.levels.items
    c.downs.invariant.reading c.in-Err.ensures.reading (c.downs.invariant.sought is) (c.in-Err.ensures.sought is)

pub returns-in-Err-clause-left : goal.returns-in-Err-clause-left
returns-in-Err-clause-left g c = λ is first above top are. c.downs.invariant.left is first above top (subst (λ (l : List Level). l ≡ above ++ top ∷ []) c.in-Err.ensures.kept are)

pub returns-in-Err-clause-walked : goal.returns-in-Err-clause-walked
returns-in-Err-clause-walked g c =
    walked_join {T = Unit {0}} {U = Unit {0}} c.args.seek c.args.bounds.now g.P.PagesTells c.args.pages.now c.downs.pages c.enter.new.pages
    c.args.levels.now.items c.downs.levels.items c.enter.new.levels.items tt (Err c.in-Err.why) c.downs.invariant.reading c.in-Err.ensures.reading c.downs.invariant.walked
    c.in-Err.ensures.walked

pub returns-in-Err-clause-barred : goal.returns-in-Err-clause-barred
returns-in-Err-clause-barred g c =
    let p = g.P.PagesTells in
    let old = c.args.pages.now in
    subst (λ (l : List Level). IsBarred p old c.enter.new.pages (λ (s : Shown). BreaksDown (p.usable old) (p.last_page old) s c.args.seek c.args.bounds.now l) c.in-Err.why)
    (sym c.in-Err.ensures.kept)
    (barred_before p old c.downs.pages c.enter.new.pages (λ (u n : ℕ) (s : Shown). BreaksDown u n s c.args.seek c.args.bounds.now c.downs.levels.items) c.in-Err.why
    c.downs.invariant.reading c.in-Err.ensures.reading c.in-Err.ensures.barred)

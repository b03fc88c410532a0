use Rattle.std.proofs.Common.{◌<◌, ◌≤◌, length, refl, ◌∙◌, arith}
use Rattle.tree_check.proofs.Walked.{no_root, root_more, root_bars, roots_visited}
use Rattle.tree_check.proofs.check.check_roots.Goals as goal

pub roots-init : goal.roots-init
roots-init g c = record { so_far = no_root g.P.PagesTells c.args.pages.now c.args.walk.now c.args.roots.now c.requires.suits; room = refl }

pub roots-preserved : goal.roots-preserved
roots-preserved g c =
    let less : c.roots.k < length c.args.roots.now = omega (arith, c.roots-test.true) in
    record {
      so_far = root_more g.P.PagesTells c.args.pages.now c.roots.pages c.visit_root.new.pages c.args.walk.now c.roots.walk c.visit_root.new.walk c.args.roots.now c.roots.k _ less refl
          c.roots.invariant.so_far c.in-Ok.ensures.reading c.in-Ok.ensures.visited;
      room = c.in-Ok.ensures.room ∙ c.roots.invariant.room;
    }

pub returns-in-Err-clause-cause : goal.returns-in-Err-clause-cause
returns-in-Err-clause-cause g c =
    let less : c.roots.k < length c.args.roots.now = omega (arith, c.roots-test.true) in
    root_bars g.P.PagesTells c.args.pages.now c.roots.pages c.visit_root.new.pages c.args.walk.now c.roots.walk c.args.roots.now c.roots.k _ c.in-Err.why less refl
    c.roots.invariant.so_far c.in-Err.ensures.reading c.in-Err.ensures.cause

pub returns-clause-visited : goal.returns-clause-visited
returns-clause-visited g c =
    let all : length c.args.roots.now ≤ c.roots.k = omega (arith, c.roots-test.false) in
    roots_visited g.P.PagesTells c.args.pages.now c.roots.pages c.args.walk.now c.roots.walk c.args.roots.now c.roots.k all c.roots.invariant.so_far

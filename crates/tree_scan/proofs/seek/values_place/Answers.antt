use Rattle.std.proofs.Common.{◌+◌, ◌-◌, ◌/◌, ◌<◌, Bool, true, false, Ok, Err, ◌∙◌, subst, arith, length}
use Rattle.page_face.proofs.PageLaws.{reading_join, reading_same}
use Rattle.node_spec.specs.Nodes.{cell_at}
use Rattle.tree_read.proofs.Descents.{page_again}
use Rattle.tree_scan.specs.Placing.{HasTested}
use Rattle.tree_scan.proofs.Places.{none_yet, one_test, goes_up, goes_down, place_fails, place_between}
use Rattle.tree_scan.proofs.seek.values_place.Goals as goal

pub halves-init : goal.halves-init
halves-init g c = record {
  reading = reading_same g.P.PagesTells c.args.pages.now c.requires.ready (g.P.PagesTells.follows_itself _);
  order = omega arith;
  so_far = λ shown read. none_yet g.P.PagesTells c.args.pages.now shown c.args.values.now c.len-high.result (c.len-high.ensures ∙ read.tells.count);
}

pub is_under-requires-clause-cell : goal.is_under-requires-clause-cell
is_under-requires-clause-cell g c =
    let before = c.halves.invariant in
    let shown = c.requires.page.0 in
    (shown, (page_again _ _ _ _ _ before.reading.edits.usable c.requires.page.1, omega (arith, c.halves-test.true, (before.so_far shown c.requires.page.1).most)))

pub halves-preserved-in-Ok-true : goal.halves-preserved-in-Ok-true
halves-preserved-in-Ok-true g c =
    let p = g.P.PagesTells in
    let before = c.halves.invariant in
    let middle = c.halves.low + (c.halves.high - c.halves.low) / 2 in
    let level = c.args.level.now in
    record {
      reading = reading_join p c.args.pages.now c.halves.pages c.is_under.new.pages before.reading c.in-Ok-true.ensures.reading (p.follows_on);
      order = omega (arith, c.halves-test.true);
      so_far = λ shown read.
          let so_far = before.so_far shown read in
          let inside : middle < length shown.cells = omega (arith, c.halves-test.true, so_far.most) in
          let test = subst (λ (o : Bool). HasTested p c.halves.pages (cell_at shown middle) level.page c.args.values.now (Ok o) c.is_under.new.pages) c.in-Ok-true.field-0-test
          (c.in-Ok-true.ensures.tested shown (page_again _ _ _ _ _ before.reading.edits.usable read)) in
          goes_up p c.args.pages.now c.halves.pages c.is_under.new.pages shown level.page c.args.values.now c.halves.low c.halves.high middle inside c.in-Ok-true.ensures.reading so_far
          (one_test p c.args.pages.now c.halves.pages c.is_under.new.pages shown middle level.page c.args.values.now (Ok true) so_far.list inside before.reading
          c.in-Ok-true.ensures.reading so_far.read test);
    }

pub halves-preserved : goal.halves-preserved
halves-preserved g c =
    let p = g.P.PagesTells in
    let before = c.halves.invariant in
    let middle = c.halves.low + (c.halves.high - c.halves.low) / 2 in
    let level = c.args.level.now in
    record {
      reading = reading_join p c.args.pages.now c.halves.pages c.is_under.new.pages before.reading c.in-Ok-false.ensures.reading (p.follows_on);
      order = omega (arith, c.halves-test.true);
      so_far = λ shown read.
          let so_far = before.so_far shown read in
          let inside : middle < length shown.cells = omega (arith, c.halves-test.true, so_far.most) in
          let test = subst (λ (o : Bool). HasTested p c.halves.pages (cell_at shown middle) level.page c.args.values.now (Ok o) c.is_under.new.pages) c.in-Ok-false.field-0-test
          (c.in-Ok-false.ensures.tested shown (page_again _ _ _ _ _ before.reading.edits.usable read)) in
          goes_down p c.args.pages.now c.halves.pages c.is_under.new.pages shown level.page c.args.values.now c.halves.low c.halves.high middle inside c.in-Ok-false.ensures.reading so_far
          (one_test p c.args.pages.now c.halves.pages c.is_under.new.pages shown middle level.page c.args.values.now (Ok false) so_far.list inside before.reading
          c.in-Ok-false.ensures.reading so_far.read test);
    }

pub returns-in-Err-clause-placed : goal.returns-in-Err-clause-placed
returns-in-Err-clause-placed g c = λ bound shown read.
    let p = g.P.PagesTells in
    let before = c.halves.invariant in
    let so_far = before.so_far shown read in
    let middle = c.halves.low + (c.halves.high - c.halves.low) / 2 in
    let level = c.args.level.now in
    let inside : middle < length shown.cells = omega (arith, c.halves-test.true, so_far.most) in
    place_fails p c.args.pages.now c.halves.pages c.is_under.new.pages shown level.page c.args.values.now bound c.halves.low c.halves.high middle c.in-Err.why inside
    c.in-Err.ensures.reading so_far
    (one_test p c.args.pages.now c.halves.pages c.is_under.new.pages shown middle level.page c.args.values.now (Err c.in-Err.why) so_far.list inside before.reading
    c.in-Err.ensures.reading so_far.read (c.in-Err.ensures.tested shown (page_again _ _ _ _ _ before.reading.edits.usable read)))

pub returns-in-Err-clause-reading : goal.returns-in-Err-clause-reading
returns-in-Err-clause-reading g c =
    reading_join g.P.PagesTells c.args.pages.now c.halves.pages c.is_under.new.pages c.halves.invariant.reading c.in-Err.ensures.reading (g.P.PagesTells.follows_on)

pub returns-clause-placed : goal.returns-clause-placed
returns-clause-placed g c = λ bound shown read.
    place_between g.P.PagesTells c.args.pages.now c.halves.pages shown c.args.level.now.page c.args.values.now bound c.halves.low c.halves.high c.halves.invariant.order
    (omega (arith, c.halves-test.false)) (c.halves.invariant.so_far shown read)

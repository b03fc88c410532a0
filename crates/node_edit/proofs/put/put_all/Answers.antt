use Rattle.std.proofs.Common.{◌≡◌, ◌+◌, Some, ap, subst, ◌∙◌, arith}
use Rattle.node_spec.specs.Nodes.{Node, node_of}
use Rattle.edit_spec.specs.Nodes.{node_taking}
use Rattle.node_edit.specs.Runs.{part_of}
use Rattle.node_edit.proofs.Rows.{put_one, took_one, spells_size, outside_join}
use Rattle.node_edit.proofs.put.put_all.Goals as goal

pub put_cell-requires : goal.put_cell-requires
put_cell-requires c =
    let room = c.requires.room in
    let now = c.loop-i.invariant.0 room.cells room.node room.is_run room.within room.shown in
    let one = put_one c.loop-i.bytes room c.loop-i.i (omega (arith, c.loop-i.auto.i)) (omega (arith, c.loop-i-test.true)) now in
    record { shown = (node_taking room.node c.args.at (part_of room.cells c.args.from c.loop-i.i), now, one.0, rw room.kind (c.text_of.ensures room.cells room.is_run).one) }

pub unreachable-requires : goal.unreachable-requires
unreachable-requires c =
    let room = c.requires.room in
    let now = c.loop-i.invariant.0 room.cells room.node room.is_run room.within room.shown in
    let one = put_one c.loop-i.bytes room c.loop-i.i (omega (arith, c.loop-i.auto.i)) (omega (arith, c.loop-i-test.true)) now in
    let refused = c.in_default.ensures.refused in
    let free = refused.2 _ now in
    let size = spells_size (c.text_of.ensures room.cells room.is_run) in
    omega (arith, one.1, refused.0, refused.1, free, size)

pub loop-i-preserved : goal.loop-i-preserved
loop-i-preserved c = (
  λ cells node is within shown.
      let room = c.requires.room in
      let was = room.shown in
      let same : room.node ≡ node = cc (was, shown) in
      subst (λ (n : Node). node_of c.args.run.u c.args.first c.put_cell.new.bytes ≡ Some (node_taking n c.args.at (part_of cells c.args.from (c.loop-i.i + 1)))) same
      (c.in-Ok.ensures.put _ (c.loop-i.invariant.0 cells room.node is within room.shown)
      ∙ ap Some (took_one c.args.run cells room.node c.loop-i.i (omega (arith, c.loop-i.auto.i)) (omega (arith, c.loop-i-test.true)) room.place room.kind (c.text_of.ensures cells is))),
  outside_join c.loop-i.invariant.1 c.put_cell.ensures.rest,
)

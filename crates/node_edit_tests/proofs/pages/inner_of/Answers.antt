use Rattle.std.proofs.Common.{arith}
use Rattle.page_edit.specs.Forms.{empty_node}
use Rattle.node_edit_tests.proofs.Rooms.{front_most}
use Rattle.node_edit_tests.proofs.pages.inner_of.Goals as goal

pub start_inner-requires-clause-room : goal.start_inner-requires-clause-room
start_inner-requires-clause-room c =
    let room = c.put_cells.ensures.room c.if-not-put_cells.false (empty_node c.args.kind c.args.right) c.start_page.ensures.shows in
    omega (arith, room, front_most c.args.kind)

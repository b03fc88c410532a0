use Rattle.node_spec.specs.Nodes.{cell_at}
use Rattle.page_tests.proofs.vectors.sum_page.Goals as goal

pub local_bytes-requires : goal.local_bytes-requires
local_bytes-requires c =
    let node = c.requires.0 in
    let read = c.requires.1 in
    record { told = (c.args.u, (cell_at node c.loop-k.k, rw read.tells.kind (c.read_cell-cell.ensures node read))) }

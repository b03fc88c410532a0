use Rattle.node_spec.specs.Nodes.{cell_at}
use Rattle.page_form.specs.Reading.{IsReadPage}
use Rattle.edit_tests.proofs.pages.check_cell.Goals as goal

pub local_bytes-requires : goal.local_bytes-requires
local_bytes-requires g c =
    let node = c.requires.0 in
    let tells = c.requires.1 in
    let read : IsReadPage c.args.shape.usable c.args.bytes.now c.args.page.now node = record { first = c.args.shape.first; tells = tells } in
    record { told = (c.args.shape.usable, (cell_at node c.args.k, rw tells.kind (c.read_cell-told.ensures node read))) }

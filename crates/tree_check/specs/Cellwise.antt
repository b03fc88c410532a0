-- The numbers that a page's cells name, cell by cell.
use Rattle.std.specs.Prelude.{ℕ, ◌+◌, ◌*◌, Bool, List, Option}
use Rattle.page_spec.specs.Bytes.{u16_at}
use Rattle.node_spec.specs.Kinds.{pointers_at}
use Rattle.node_spec.specs.Nodes.{Node, cell_at}
use Rattle.check_spec.specs.Forms.{cell_numbers_fault}

-- the fault of the cell at a place, if it has one
abbrev pub fault_of_cell : (last : ℕ) (first : Bool) → List ℕ → Node → ℕ → Option ℕ
fault_of_cell last first page node k =
    cell_numbers_fault last node.kind (u16_at page (pointers_at first node.kind + 2 * k)) (cell_at node k)

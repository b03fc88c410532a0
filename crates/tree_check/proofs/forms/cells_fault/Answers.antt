use Rattle.std.proofs.Common.{◌<◌, Some, None, length, sym, ◌∙◌, arith}
use Rattle.std.proofs.lemmas.Grind.{get_or_default_zero}
use Rattle.node_spec.specs.Nodes.{cell_at}
use Rattle.node_spec.proofs.FaultLaws.{none_first, first_some, first_more}
use Rattle.tree_check.specs.Cellwise.{fault_of_cell}
use Rattle.tree_check.proofs.Numbers.{cell_told, cell_fault_is}
use Rattle.tree_check.proofs.forms.cells_fault.Goals as goal

pub loop-k-init : goal.loop-k-init
loop-k-init c = λ told tells. none_first 0 (fault_of_cell c.args.last c.args.first c.args.bytes.now told) (λ i l. absurd (omega (arith, l)))

pub cell_numbers_fault-requires : goal.cell_numbers_fault-requires
cell_numbers_fault-requires c =
    let cell = c.read_cell-cell.ensures c.requires.read.0 (record { first = c.args.first; tells = c.requires.read.1 }) in
    record { small = (omega (arith, c.from-start.ensures), omega (arith, cell.inside, c.requires.usable)) }

pub returns-in-Some : goal.returns-in-Some
returns-in-Some c = λ told tells.
    let less : c.loop-k.k < length told.cells = omega (arith, c.loop-k-test.true, c.len-k-end.ensures, tells.count) in
    let cell = cell_told c.args.usable c.args.first c.args.bytes.now c.args.node.now told c.read_cell-cell.result c.loop-k.k tells
    (c.read_cell-cell.ensures told (record { first = c.args.first; tells = tells })) in
    sym (first_some (length told.cells) (fault_of_cell c.args.last c.args.first c.args.bytes.now told) c.loop-k.k c.in-Some.at less (c.loop-k.invariant told tells)
    (sym (cell_fault_is c.args.usable c.args.last c.args.first c.args.bytes.now c.args.node.now told c.loop-k.k c.from-start.result (Some c.in-Some.at) tells less
    (c.from-start.ensures ∙ c.index.ensures ∙ get_or_default_zero c.args.node.now.cells.items c.loop-k.k c.index.result.now (omega (arith, less, tells.count)))
    (c.in-Some.ensures c.args.usable c.args.bytes.now (cell_at told c.loop-k.k) cell))))

pub loop-k-preserved : goal.loop-k-preserved
loop-k-preserved c = λ told tells.
    let less : c.loop-k.k < length told.cells = omega (arith, c.loop-k-test.true, c.len-k-end.ensures, tells.count) in
    let cell = cell_told c.args.usable c.args.first c.args.bytes.now c.args.node.now told c.read_cell-cell.result c.loop-k.k tells
    (c.read_cell-cell.ensures told (record { first = c.args.first; tells = tells })) in
    first_more c.loop-k.k (fault_of_cell c.args.last c.args.first c.args.bytes.now told) (c.loop-k.invariant told tells)
    (sym (cell_fault_is c.args.usable c.args.last c.args.first c.args.bytes.now c.args.node.now told c.loop-k.k c.from-start.result None tells less
    (c.from-start.ensures ∙ c.index.ensures ∙ get_or_default_zero c.args.node.now.cells.items c.loop-k.k c.index.result.now (omega (arith, less, tells.count)))
    (c.in_default.ensures c.args.usable c.args.bytes.now (cell_at told c.loop-k.k) cell)))

use Rattle.std.proofs.Common.{◌≡◌, ◌<◌, length, ◌∙◌, get_or, sym, subst, arith}
use Rattle.std.proofs.lemmas.Grind.{get_or_default_zero}
use Rattle.page_form.specs.Reading.{CellStands}
use Rattle.page_form.proofs.CellReads.{cell_here}
use Rattle.page_form.proofs.cells.read_cell.Goals as goal

pub cell_from-requires : goal.cell_from-requires
cell_from-requires c =
    let read = c.requires.read in
    let h = cell_here c.args.u c.args.bytes.now c.args.page.now read.0 c.args.k read.1 read.2 in
    let start : get_or c.args.page.now.cells.items c.args.k 0 ≡ c.from.result =
    sym (get_or_default_zero c.args.page.now.cells.items c.args.k c.index.result.now (omega (arith, read.1.tells.count))) ∙ sym c.index.ensures ∙ sym c.from.ensures in
    record { stands = (h.text, subst (λ n. CellStands c.args.u c.args.page.now.kind c.args.bytes.now h.text n) start h.stands) }

pub returns : goal.returns
returns c = λ node is.
    let read = c.requires.read in
    let less : c.args.k < length node.cells = omega (arith, read.1.tells.count, is.tells.count) in
    let h = cell_here c.args.u c.args.bytes.now c.args.page.now node c.args.k is less in
    let start : get_or c.args.page.now.cells.items c.args.k 0 ≡ c.from.result =
    sym (get_or_default_zero c.args.page.now.cells.items c.args.k c.index.result.now (omega (arith, is.tells.count))) ∙ sym c.index.ensures ∙ sym c.from.ensures in
    let told = c.cell_from.ensures h.text (subst (λ n. CellStands c.args.u c.args.page.now.kind c.args.bytes.now h.text n) start h.stands) in
    rw (sym h.is, h.kind) at told

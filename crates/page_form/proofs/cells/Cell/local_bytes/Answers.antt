use Rattle.std.proofs.Common.{arith}
use Rattle.page_form.proofs.CellReads.{local_here}
use Rattle.page_form.proofs.cells.Cell.local_bytes.Goals as goal

pub slice_bounds-read_keys-count : goal.slice_bounds-read_keys-count
slice_bounds-read_keys-count c =
    let t = c.requires.told in
    let h = local_here t.0 c.args.kind c.args.bytes.now c.args.self.now t.1.0 c.left_size.result t.1.1 c.left_size.ensures.size in
    h.left_fits

pub unreachable-requires : goal.unreachable-requires
unreachable-requires c =
    let t = c.requires.told in
    let h = local_here t.0 c.args.kind c.args.bytes.now c.args.self.now t.1.0 c.left_size.result t.1.1 c.left_size.ensures.size in
    omega (arith, h.keys_fit, c.in_default.ensures)

pub overflow_add-result : goal.overflow_add-result
overflow_add-result c =
    let t = c.requires.told in
    let h = local_here t.0 c.args.kind c.args.bytes.now c.args.self.now t.1.0 c.left_size.result t.1.1 c.left_size.ensures.size in
    omega (arith, h.local_fits c.in-Some.keys.size c.in-Some.ensures.2, h.ends)

pub slice_bounds-result-end : goal.slice_bounds-result-end
slice_bounds-result-end c =
    let t = c.requires.told in
    let h = local_here t.0 c.args.kind c.args.bytes.now c.args.self.now t.1.0 c.left_size.result t.1.1 c.left_size.ensures.size in
    let fits = h.local_fits c.in-Some.keys.size c.in-Some.ensures.2 in
    let ends = h.ends in
    omega arith

pub returns : goal.returns
returns c = λ usable cell t.
    (local_here usable c.args.kind c.args.bytes.now c.args.self.now cell c.left_size.result t c.left_size.ensures.size).local_is c.in-Some.keys.size c.in-Some.ensures.2

pub overflow_add-end : goal.overflow_add-end
overflow_add-end c =
    let t = c.requires.told in
    let h = local_here t.0 c.args.kind c.args.bytes.now c.args.self.now t.1.0 c.left_size.result t.1.1 c.left_size.ensures.size in
    omega (arith, h.ends)

pub slice_bounds-read_keys-start : goal.slice_bounds-read_keys-start
slice_bounds-read_keys-start c =
    let t = c.requires.told in
    let h = local_here t.0 c.args.kind c.args.bytes.now c.args.self.now t.1.0 c.left_size.result t.1.1 c.left_size.ensures.size in
    h.left_fits

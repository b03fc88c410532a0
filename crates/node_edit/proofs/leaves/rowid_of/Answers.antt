use Rattle.std.proofs.Common.{◌≤◌, length, take, ap, ap₂, sym, subst, ◌∙◌, arith, length-drop}
use Rattle.std.proofs.lemmas.List.{length-take-le}
use Rattle.page_spec.specs.Varint.{varint_size}
use Rattle.node_edit.proofs.UpKeys.{rowid_fits, rest_whole}
use Rattle.node_edit.proofs.leaves.rowid_of.Goals as goal

pub varint_len-requires : goal.varint_len-requires
varint_len-requires c = let f = rowid_fits c.requires.0 c.args.text.now c.requires.1 in omega (arith, f)

pub slice_bounds-behind-count : goal.slice_bounds-behind-count
slice_bounds-behind-count c = let f = rowid_fits c.requires.0 c.args.text.now c.requires.1 in omega (arith, f, c.varint_len.ensures)

pub slice_bounds-behind-start : goal.slice_bounds-behind-start
slice_bounds-behind-start c = let f = rowid_fits c.requires.0 c.args.text.now c.requires.1 in omega (arith, f, c.varint_len.ensures)

pub varint_len-requires-2 : goal.varint_len-requires-2
varint_len-requires-2 c =
    let f = rowid_fits c.requires.0 c.args.text.now c.requires.1 in
    let is = rest_whole c.args.text.now (varint_size c.args.text.now) c.varint_len.result c.varint_len.ensures in
    subst (λ xs. varint_size xs ≤ length xs) (sym is) (omega (arith, f, length-drop (varint_size c.args.text.now) c.args.text.now))

pub slice_bounds-result-end : goal.slice_bounds-result-end
slice_bounds-result-end c =
    let f = rowid_fits c.requires.0 c.args.text.now c.requires.1 in
    let is = rest_whole c.args.text.now (varint_size c.args.text.now) c.varint_len.result c.varint_len.ensures in
    let size = c.varint_len-2.ensures ∙ ap varint_size is in
    sym (length-take-le c.varint_len-2.result _ (omega (arith, size, f, ap (λ xs. length xs) is, length-drop (varint_size c.args.text.now) c.args.text.now)))

pub returns : goal.returns
returns c =
    let is = rest_whole c.args.text.now (varint_size c.args.text.now) c.varint_len.result c.varint_len.ensures in
    ap₂ (λ n xs. take n xs) (c.varint_len-2.ensures ∙ ap varint_size is) is

use Rattle.std.proofs.Common.{rules, ◌≡◌, ◌≤◌, ◌<◌, ◌^◌, ◌++◌, take, length, sym, subst, append_assoc}
use Rattle.std.proofs.lemmas.List.{length-take-le}
use Rattle.node_edit.specs.Payloads.{keys_text}
use Rattle.node_edit.proofs.PayloadLaws.{leaf_put, local_within}
use Rattle.node_edit.proofs.payloads.leaf_cell.Goals as goal

pub slice_bounds-extend_from_slice-end : goal.slice_bounds-extend_from_slice-end
slice_bounds-extend_from_slice-end c =
    sym (length-take-le c.local_size-local.result c.args.payload.now
    (subst (λ n. n ≤ length c.args.payload.now) (sym c.local_size-local.ensures.value) (local_within c.is_some-table.result c.args.u (length c.args.payload.now))))

pub returns : goal.returns
returns c =
    let fits : length c.args.payload.now < 2 ^ 64 = search rules in
    let end = c.in_ok-put_end.ensures in
    let keys = keys_text (length c.args.payload.now) c.args.rowid in
    let front = take c.local_size-local.result c.args.payload.now in
    let all : c.from_vec.result ≡ keys ++ (front ++ end.0) =
    rw (c.from_vec.ensures, end.2, c.in_ok-extend_from_slice.ensures.items, c.in_ok-put_keys.ensures.put, c.in_ok-text.ensures.items) (append_assoc keys front end.0) in
    leaf_put c.args.u c.args.rowid c.args.payload.now c.from_vec.result end.0 c.args.first c.local_size-local.result c.is_some-table.result c.spills.result
    c.is_some-table.ensures c.local_size-local.ensures.value c.spills.ensures fits c.in_ok-put_keys.ensures.fits end.1 all

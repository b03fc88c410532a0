use Rattle.std.proofs.Common.{length, ap, sym, subst, ◌∙◌, arith}
use Rattle.node_spec.specs.declared.kinds.Kind.{Kind}
use Rattle.node_edit.specs.Runs.{spelled_by, weight_of, IsRun}
use Rattle.node_edit.proofs.Rows.{room_for, part_whole, length_spelled, took_all, node_fits}
use Rattle.node_edit.proofs.put.put_cells.Goals as goal

pub listed-run-requires-clause-usable : goal.listed-run-requires-clause-usable
listed-run-requires-clause-usable c = let f = node_fits {page = c.args.bytes.now} c.requires.shown.1 in (f.least, f.most)

pub put_all-requires : goal.put_all-requires
put_all-requires c =
    let r = c.requires.shown in
    let e = c.listed-run.ensures in
    let h = c.head_of.ensures.head r.0 r.1 in
    let f = node_fits {page = c.args.bytes.now} r.1 in
    let cells = spelled_by r.0.kind c.args.u c.args.news.now in
    let len = length_spelled r.0.kind c.args.u c.args.news.now in
    let whole = ap weight_of (part_whole cells (length c.args.news.now) (sym len)) in
    let fits = c.has_room.ensures.fits c.if-not-has_room.false r.0 r.1 in
    record {
      room = room_for cells r.0 e.usable (sym h.kind ∙ sym e.kind) (subst (λ (k : Kind). IsRun c.listed-run.result (spelled_by k c.args.u c.args.news.now)) h.kind e.run)
          (omega arith) (omega (arith, len)) r.1 r.2 (omega (arith, whole, fits, f.fits));
    }

pub returns-clause-put : goal.returns-clause-put
returns-clause-put c = λ taken node shown.
    let e = c.listed-run.ensures in
    let h = c.head_of.ensures.head node shown in
    let cells = spelled_by node.kind c.args.u c.args.news.now in
    let len = length_spelled node.kind c.args.u c.args.news.now in
    took_all c.args.first c.args.bytes.now c.put_all.new.bytes c.args.at cells node e.usable (subst (λ (k : Kind). IsRun c.listed-run.result (spelled_by k c.args.u c.args.news.now)) h.kind e.run) (sym len) shown c.put_all.ensures.put

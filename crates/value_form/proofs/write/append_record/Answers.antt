use Rattle.std.proofs.Common.{arith, List, ℕ, ◌++◌, ◌∙◌, ap}
use Rattle.page_spec.specs.Varint.{shortest_varint}
use Rattle.value_form.proofs.WrittenLaws.{record_appended, record_reads_back}
use Rattle.value_form.proofs.write.append_record.Goals as goal

pub returns-clause-ok : goal.returns-clause-ok
returns-clause-ok c =
    let sizes = c.in_ok-sizes in
    record_appended c.put_bodies.result c.args.row.now c.values-values.result.now sizes.sizes.header c.args.to.now.items c.put_varint.new.to.items c.put_types.new.to.items
    c.put_bodies.new.to.items c.values-values.ensures sizes.ensures.header
    (c.in_ok-put_varint.ensures.ok ∙ ap (λ (bytes : List ℕ). bytes ++ shortest_varint sizes.sizes.header) c.in_ok-reserve.ensures.items) c.in_ok-put_types.ensures.ok c.put_bodies.ensures.ok

pub returns-clause-reads_back : goal.returns-clause-reads_back
returns-clause-reads_back c =
    let sizes = c.in_ok-sizes in
    record_reads_back _ c.put_bodies.result c.args.row.now c.values-values.result.now sizes.sizes.header c.values-values.ensures sizes.ensures.header
    (omega (arith, sizes.ensures.fits)) sizes.ensures.writable c.put_bodies.ensures.ok

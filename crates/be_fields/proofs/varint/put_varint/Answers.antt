use Rattle.std.proofs.Common.{arith, [], ◌∷◌}
use Rattle.page_spec.specs.Varint.{shortest_varint}
use Rattle.page_spec.proofs.VarintLaws.{shortest_varint_is, shortest_varint_begins}
use Rattle.be_fields.proofs.Steps.{written_is, appended}
use Rattle.be_fields.proofs.varint.put_varint.Goals as goal

pub returns-clause-ok : goal.returns-clause-ok
returns-clause-ok c =
    let written = written_is c.args.n c.shortest_size-last.result c.last_values-values.result (0 ∷ 0 ∷ 0 ∷ 0 ∷ 0 ∷ 0 ∷ 0 ∷ 0 ∷ 0 ∷ []) c.put_groups.new.to
    c.shortest_size-last.ensures.value (omega arith) (omega arith) c.last_values-values.ensures.value c.put_groups.ensures in
    appended c.extend_from_slice.result c.extend_from_slice.new.self.items c.args.to.now.items (shortest_varint c.args.n)
    (rw written at c.extend_from_slice.ensures.items)

pub returns-clause-shortest : goal.returns-clause-shortest
returns-clause-shortest c = shortest_varint_is c.args.n (omega arith)

pub returns-clause-reads_back : goal.returns-clause-reads_back
returns-clause-reads_back c = shortest_varint_begins c.args.n (omega arith)

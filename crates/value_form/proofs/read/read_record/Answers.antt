use Rattle.value_form.proofs.ReadingLaws.{only_row, only_fault}
use Rattle.value_form.proofs.read.read_record.Goals as goal

pub returns-clause-each_row : goal.returns-clause-each_row
returns-clause-each_row c = λ row is. only_row c.args.bytes.now row c.read_header.result c.read_header.ensures.read c.read_header.ensures.refused is

pub returns-clause-each_fault : goal.returns-clause-each_fault
returns-clause-each_fault c = λ fault is. only_fault c.args.bytes.now fault c.read_header.result c.read_header.ensures.read c.read_header.ensures.refused is

use Rattle.std.proofs.Common.{List, ℕ, Ok, Err, subst}
use Rattle.value_form.specs.declared.value.Value.{Value}
use Rattle.value_form.specs.Record.{IsRecord, IsOrMemory}
use Rattle.tree_read.proofs.Payloads.{no_row}
use Rattle.tree_read.proofs.row.row_of.Goals as goal

pub returns-clause-row : goal.returns-clause-row
returns-clause-row g c = λ node told.
    no_row g.P.PagesTells c.args.pages.now c.read_rest.new.pages node c.args.page _ c.in-Err-read_record.why c.record_fault.result
    (c.in-Ok.ensures.payload node told)
    (subst (λ (b : List ℕ). (row : List Value) → IsRecord b row → IsOrMemory (Err c.in-Err-read_record.why) (Ok row)) c.as_slice.ensures.value
    c.in-Err-read_record.ensures.each_row) c.record_fault.ensures

use Rattle.std.proofs.Common.{List, sym, subst}
use Rattle.value_form.specs.declared.value.Value.{Value}
use Rattle.value_form.specs.Record.{IsRecord}
use Rattle.tree_check.proofs.RowsTold.{row_tells, refused_tells}
use Rattle.tree_check.proofs.row.root_in.Goals as goal

pub returns-in-Ok-clause-root : goal.returns-in-Ok-clause-root
returns-in-Ok-clause-root c =
    row_tells c.args.last c.args.payload.now c.values.result.now c.root_of.result
    (subst (λ (row : List Value). IsRecord c.args.payload.now row) (sym c.values.ensures) c.in-Ok.ensures.read) c.root_of.ensures

pub returns-in-Err-clause-root : goal.returns-in-Err-clause-root
returns-in-Err-clause-root c = refused_tells c.args.last c.args.payload.now c.in-Err.why c.refused.result c.in-Err.ensures.refused c.refused.ensures.none

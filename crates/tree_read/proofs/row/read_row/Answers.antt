use Rattle.tree_read.proofs.Payloads.{row_no_memory}
use Rattle.tree_read.proofs.row.read_row.Goals as goal

pub returns-in-Err-clause-row : goal.returns-in-Err-clause-row
returns-in-Err-clause-row g c = λ node told. row_no_memory g.P.PagesTells c.args.pages.now node c.args.page c.in-Err.why c.in-Err.ensures.cause

use Rattle.tree_edit.proofs.Joined.{left_bars, right_bars}
use Rattle.tree_edit.proofs.joining.fetch_beside.Goals as goal

pub returns-in-Err-clause-cause : goal.returns-in-Err-clause-cause
returns-in-Err-clause-cause g c = left_bars g.P.PagesTells c.args.pages.now c.fetch_head.new.pages c.args.table c.args.left c.args.right c.in-Err.why c.in-Err.ensures.cause

pub returns-in-Err-fetch_head-clause-cause : goal.returns-in-Err-fetch_head-clause-cause
returns-in-Err-fetch_head-clause-cause g c =
    right_bars g.P.PagesTells c.args.pages.now c.fetch_head.new.pages c.fetch_head-2.new.pages c.args.table c.args.left c.args.right c.in-Err-fetch_head.why
    c.fetch_head.ensures.reading c.fetch_head-2.ensures.reading c.in-Err-fetch_head.ensures.cause

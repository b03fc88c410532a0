use Rattle.std.proofs.Common.{◌∙◌, sym}
use Rattle.store.proofs.Checked.{new_tables}
use Rattle.store.proofs.tables.judge_tables.Goals as goal

pub returns-then-is_new-clause-map : goal.returns-then-is_new-clause-map
returns-then-is_new-clause-map g c = new_tables c.args.seen.now c.requires.whole (sym c.is_new.ensures ∙ c.if-is_new.true)

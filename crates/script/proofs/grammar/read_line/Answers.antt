use Rattle.std.proofs.Common.{◌∙◌}
use Rattle.script.proofs.Agreement.{spells_from, none_spells, line_of-pages}
use Rattle.script.proofs.grammar.read_line.Goals as goal

pub returns-clause-spelled : goal.returns-clause-spelled
returns-clause-spelled c = spells_from c.args.form c.args.bytes.now c.page_line.result (c.page_line.ensures ∙ line_of-pages c.args.form c.args.bytes.now)

pub returns-clause-refused : goal.returns-clause-refused
returns-clause-refused c = none_spells c.args.form c.args.bytes.now c.page_line.result (c.page_line.ensures ∙ line_of-pages c.args.form c.args.bytes.now)

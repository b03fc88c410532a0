use Rattle.std.proofs.Common.{refl}
use Rattle.node_edit.proofs.Rows.{list_is}
use Rattle.node_edit.proofs.run.listed.Goals as goal

pub returns-clause-run : goal.returns-clause-run
returns-clause-run c = list_is _ c.requires.usable.0 c.requires.usable.1 c.requires.news refl refl refl refl

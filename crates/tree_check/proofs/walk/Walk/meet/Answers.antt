use Rattle.std.proofs.Common.{refl, sym, ◌∙◌}
use Rattle.tree_check.proofs.Meeting.{has_met}
use Rattle.tree_check.proofs.walk.Walk.meet.Goals as goal

pub returns-clause-met : goal.returns-clause-met
returns-clause-met c =
    has_met c.args.self.now c.args.page (record c.args.self.now { marks = c.add.new.self }) c.requires.page.0 c.requires.page.1 c.requires.room refl c.add.ensures.room
    (sym c.has.ensures ∙ c.if-has.false) c.add.ensures.met c.add.ensures.others

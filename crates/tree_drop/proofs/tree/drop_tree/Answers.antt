use Rattle.std.proofs.lemmas.Result.{on_ok_weaker, IfErr-weaker}
use Rattle.tree_drop.proofs.Parts.{drops_tree, bars_tree}
use Rattle.tree_drop.proofs.tree.drop_tree.Goals as goal

pub returns-clause-dropped : goal.returns-clause-dropped
returns-clause-dropped g c =
    on_ok_weaker c.drop_with.result
    (λ drops table. drops_tree g.P.PagesTells c.args.pages.now c.drop_with.new.pages table c.args.root (c.is_outside.ensures.inside c.if-is_outside.false).0 (drops table))
    c.drop_with.ensures.dropped

pub returns-clause-refused : goal.returns-clause-refused
returns-clause-refused g c =
    IfErr-weaker c.drop_with.result _ _
    (λ why bars table. bars_tree g.P.PagesTells c.args.pages.now c.drop_with.new.pages table c.args.root why (c.is_outside.ensures.inside c.if-is_outside.false).0 (bars table))
    c.drop_with.ensures.refused

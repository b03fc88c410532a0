use Rattle.std.proofs.Common.{◌∙◌, ap, [], ◌∷◌, ◌++◌}
use Rattle.store.proofs.commits.Commits.push.Goals as goal
use Rattle.store.specs.Commits.{CommitList, commits_of}
use Rattle.store.proofs.Zipped.{one_more}

pub returns : goal.returns
returns c = (λ i. commits_of (c.push_reserved.ensures.items i) (c.push_reserved-2.ensures.items i))
    ∙ one_more c.self.inside.entries.items c.self.inside.wrote.items c.args.entry c.args.wrote c.self.invariant
    ∙ ap (λ (list : CommitList). list.commits ++ (record { entry = c.args.entry; wrote = c.args.wrote.pages; tail = c.args.wrote.tail }) ∷ []) c.self.view_is

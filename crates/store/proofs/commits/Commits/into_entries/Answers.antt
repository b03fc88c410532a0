use Rattle.std.proofs.Common.{◌∙◌, ap, map}
use Rattle.store.proofs.commits.Commits.into_entries.Goals as goal
use Rattle.engine_spec.specs.declared.commits.Commit.{Commit}
use Rattle.store.specs.Commits.{CommitList}
use Rattle.store.proofs.Zipped.{entries_are}

pub returns : goal.returns
returns c = entries_are c.self.inside.entries.items c.self.inside.wrote.items c.self.invariant
    ∙ ap (λ (list : CommitList). map (λ (commit : Commit). commit.entry) list.commits) c.self.view_is

use Rattle.std.proofs.Common.{◌∙◌, sym, ap, length, arith}
use Rattle.store.proofs.commits.Commits.len.Goals as goal
use Rattle.store.specs.Commits.{CommitList}
use Rattle.store.proofs.Zipped.{count}

pub returns : goal.returns
returns c = record { count = c.len.ensures ∙ c.self.inside.entries.ok.0 ∙ sym (count c.self.inside.entries.items c.self.inside.wrote.items c.self.invariant) ∙ ap (λ (list : CommitList). length list.commits) c.self.view_is; few = search (c.self.inside.entries.ok, c.len.ensures, arith) }

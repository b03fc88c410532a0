use Rattle.std.proofs.Common.{ap, subst}
use Rattle.wal_index.specs.Frames.{FindsNext}
use Rattle.wal_index.proofs.log.LogIndex.next_page.Goals as goal

pub returns : goal.returns
returns c = subst (λ pages. FindsNext pages c.args.after c.find_next.result) (ap (λ log. log.pages) c.self.view_is) c.find_next.ensures

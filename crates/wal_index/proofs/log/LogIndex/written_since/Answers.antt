use Rattle.std.proofs.Common.{ap, subst, sym}
use Rattle.wal_index.specs.Commits.{FirstAbove}
use Rattle.wal_index.specs.Index.{FirstWriter, by_tail}
use Rattle.wal_index.proofs.Writers.{tail_writer}
use Rattle.wal_index.proofs.log.LogIndex.written_since.Goals as goal

pub returns-then-not-whole : goal.returns-then-not-whole
returns-then-not-whole c =
    subst (λ page. FirstWriter (by_tail page c.args.whole) c.args.self.now c.args.n page c.tail_after.result) (sym c.if-page-eq1.true)
    (subst (λ whole. FirstWriter (by_tail 1 whole) c.args.self.now c.args.n 1 c.tail_after.result) (sym c.if-not-whole.true)
    (tail_writer c.args.self.now c.args.n 1 c.tail_after.result
    (subst (λ tails. FirstAbove tails c.args.n c.tail_after.result) (ap (λ log. log.tails) c.self.view_is) c.tail_after.ensures)))

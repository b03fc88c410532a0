use Rattle.std.proofs.Common.{ℕ, ◌≤◌, false, None, subst}
use Rattle.wal_index.specs.Frames.{IsFirstFrame, FindsFirst}
use Rattle.wal_index.specs.Index.{IndexedLog, HasWritten, FirstWriter}
use Rattle.wal_index.proofs.Writers.{none_writes, first_writes}
use Rattle.wal_index.specs.declared.log.LogIndex.TheInside
use Rattle.wal_index.proofs.log.LogIndex.writer_after.Goals as goal

-- the log as its parts show it
abbrev shown : (log : TheInside.Inside) → IndexedLog
shown log = record {
  pages = log.frames.pages;
  numbers = log.commits.numbers;
  ends = log.commits.ends;
  tails = log.commits.tails;
  room = log.frames.room;
  seals = log.commits.room;
}

pub returns-in-Some : goal.returns-in-Some
returns-in-Some c = let end = c.end_of-end.ensures.end in
    subst (λ log. FirstWriter false log c.args.n c.args.page c.commit_of.result) c.self.view_is
    (first_writes (shown c.self.inside) c.args.n c.args.page end.0 c.in-Some.frame c.commit_of.result c.end_of-end.ensures.commits end.1
    (subst (λ after. IsFirstFrame c.self.inside.frames.pages c.args.page after c.in-Some.frame) end.2 c.in-Some.ensures) c.commit_of.ensures)

pub returns-in-None : goal.returns-in-None
returns-in-None c = let end = c.end_of-end.ensures.end in
    subst (λ log. (other : ℕ) → HasWritten log c.args.page other → other ≤ c.args.n) c.self.view_is
    (none_writes (shown c.self.inside) c.args.n c.args.page end.0 c.end_of-end.ensures.commits end.1
    (subst (λ after. FindsFirst c.self.inside.frames.pages c.args.page after None) end.2 c.in-None.ensures))

use Rattle.std.proofs.Common.{sym, subst, inl, inr}
use Rattle.wal_index.specs.Frames.{FindsNext}
use Rattle.wal_index.specs.Index.{log_in}
use Rattle.wal_index.proofs.index.WalIndex.next_page.Goals as goal

pub returns-then-log-eq1 : goal.returns-then-log-eq1
returns-then-log-eq1 c = subst (λ log. FindsNext (log_in c.args.self.now log).pages c.args.after c.next_page.result) (sym c.if-log-eq1.true)
    (subst (λ index. FindsNext index.log1.pages c.args.after c.next_page.result) c.self.view_is c.next_page.ensures)

pub returns-else-log-eq1 : goal.returns-else-log-eq1
returns-else-log-eq1 c = elim c.requires.log [
  | inl is ↦ absurd (c.if-log-eq1.false is)
  | inr is ↦ subst (λ log. FindsNext (log_in c.args.self.now log).pages c.args.after c.next_page-else-log-eq1.result) (sym is)
      (subst (λ index. FindsNext index.log2.pages c.args.after c.next_page-else-log-eq1.result) c.self.view_is c.next_page-else-log-eq1.ensures)
]

use Rattle.std.proofs.Common.{ℕ, sym, subst}
use Rattle.std.specs.Prelude.{Contains}
use Rattle.page_spec.specs.PageMap.{page_sizes}
use Rattle.recover.proofs.SeenFiles.{is_legal}
use Rattle.recover.proofs.recovered.RecoveredPages.page_size.Goals as goal

pub returns-clause-legal : goal.returns-clause-legal
returns-clause-legal g c = subst (λ (n : ℕ). Contains page_sizes n) (sym c.page_size.ensures) (is_legal c.args.self.now.seen.now.page_size c.requires.whole.page_size)

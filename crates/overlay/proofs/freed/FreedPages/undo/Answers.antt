use Rattle.std.proofs.Common.{◌∙◌, ℕ, List, sym, subst, ap}
use Rattle.overlay.specs.Places.{RisesFrom}
use Rattle.overlay.specs.FreedPages.{taken_back}
use Rattle.overlay.specs.Runs.{items_in}
use Rattle.overlay.proofs.FreedLaws.{rises_without, taken_last}
use Rattle.overlay.proofs.freed.FreedPages.undo.Goals as goal

pub loop-page-preserved : goal.loop-page-preserved
loop-page-preserved c =
    let all = items_in c.loop-page.self-inside.all in
    let rest = c.pop.new.self.items in (
      ap (λ (set : List ℕ). taken_back set rest) c.take_out.ensures
          ∙ (sym (taken_last all rest c.in-Some.page)
          ∙ (ap (λ (pages : List ℕ). taken_back all pages) (sym c.in-Some.ensures.items) ∙ c.loop-page.invariant.0)),
      subst (RisesFrom 0) (sym c.take_out.ensures) (rises_without 0 all c.in-Some.page c.loop-page.invariant.1),
    )

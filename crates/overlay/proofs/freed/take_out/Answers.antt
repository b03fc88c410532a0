use Rattle.std.proofs.Common.{◌∙◌, ℕ, List, Ok, Err, sym, subst}
use Rattle.overlay.specs.Places.{IsPlace}
use Rattle.overlay.specs.Runs.{items_in}
use Rattle.overlay.proofs.FreedLaws.{without_there, without_none}
use Rattle.overlay.proofs.freed.take_out.Goals as goal

pub returns-in-Ok : goal.returns-in-Ok
returns-in-Ok c =
    c.remove.ensures
    ∙ without_there 0 (items_in c.args.pages.now) c.args.page c.in-Ok.at c.requires
    (subst (λ (all : List ℕ). IsPlace all c.args.page (Ok c.in-Ok.at)) c.as_slice.ensures c.in-Ok.ensures)

pub returns-in_default : goal.returns-in_default
returns-in_default c =
    sym (without_none (items_in c.args.pages.now) c.args.page c.in_default.field-0
    (subst (λ (all : List ℕ). IsPlace all c.args.page (Err c.in_default.field-0)) c.as_slice.ensures c.in_default.ensures))

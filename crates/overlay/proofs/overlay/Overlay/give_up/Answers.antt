use Rattle.std.proofs.Common.{◌≤◌, ◌+◌, length, sym, subst}
use Rattle.engine_spec.specs.PageSet.{with_page}
use Rattle.overlay.specs.FreedPages.{TwoSets}
use Rattle.overlay.specs.Overlay.{OverlayState, last_page}
use Rattle.overlay.specs.Parts.{AreParts}
use Rattle.overlay.proofs.PartsLaws.{after, parts_freed}
use Rattle.overlay.proofs.overlay.Overlay.give_up.Goals as goal

pub invariant_of-self : goal.invariant_of-self
invariant_of-self g c =
    let o = c.self.inside in
    let within : c.args.page ≤ o.base + length o.fresh.now =
    subst (λ (v : OverlayState). c.args.page ≤ last_page v.change) (sym c.self.view_is) c.requires.1 in
    after (λ (freed : TwoSets). AreParts o.mode o.base o.changed o.fresh freed o.tail o.mark o.made o.reads) c.add.result c.add.new.self
    (record o.freed { now = with_page o.freed.now c.args.page }) o.freed c.add.ensures.ok c.add.ensures.err
    (parts_freed o.mode o.base o.changed o.fresh o.freed o.tail o.mark o.made o.reads c.self.invariant c.args.page c.requires.0 within) c.self.invariant

use Rattle.std.proofs.Common.{◌≤◌, sym, subst, arith}
use Rattle.overlay.specs.Images.{TwoImages, image_put_since}
use Rattle.overlay.specs.Overlay.{OverlayState}
use Rattle.overlay.specs.Parts.{AreParts}
use Rattle.overlay.proofs.PartsLaws.{after, parts_changed}
use Rattle.overlay.proofs.overlay.Overlay.put_first.Goals as goal

pub invariant_of-self : goal.invariant_of-self
invariant_of-self g c =
    let o = c.self.inside in
    let some : 1 ≤ o.base = subst (λ (v : OverlayState). 1 ≤ v.change.base) (sym c.self.view_is) c.requires in
    after (λ (changed : TwoImages). AreParts o.mode o.base changed o.fresh o.freed o.tail o.mark o.made o.reads) c.put.result c.put.new.self
    (image_put_since o.changed 1 c.in_ok-copy.copy) o.changed c.put.ensures.ok c.put.ensures.err
    (parts_changed o.mode o.base o.changed o.fresh o.freed o.tail o.mark o.made o.reads c.self.invariant 1 c.in_ok-copy.copy o.tail
    (omega arith) some) c.self.invariant

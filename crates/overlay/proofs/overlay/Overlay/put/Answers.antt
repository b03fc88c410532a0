use Rattle.std.proofs.Common.{◌≡◌, ◌∙◌, ℕ, ◌≤◌, ◌+◌, length, sym, subst, ap}
use Rattle.overlay.specs.Images.{TwoImages, image_put_since}
use Rattle.overlay.specs.Overlay.{OverlayState, last_page}
use Rattle.overlay.specs.Parts.{AreParts}
use Rattle.overlay.proofs.PartsLaws.{after, parts_changed, parts_fresh, count_fresh}
use Rattle.overlay.proofs.overlay.Overlay.put.Goals as goal

pub invariant_of-self : goal.invariant_of-self
invariant_of-self g c =
    let o = c.self.inside in
    let within : c.args.page ≤ o.base + length o.fresh.now =
    subst (λ (v : OverlayState). c.args.page ≤ last_page v.change) (sym c.self.view_is) c.requires.1 in
    after (λ (fresh : TwoImages). AreParts o.mode o.base o.changed fresh o.freed o.tail o.mark o.made o.reads) c.put.result c.put.new.self
    (image_put_since o.fresh c.args.page c.in_ok-copy.copy) o.fresh c.put.ensures.ok c.put.ensures.err
    (parts_fresh o.mode o.base o.changed o.fresh o.freed o.tail o.mark o.made o.reads c.self.invariant c.args.page c.in_ok-copy.copy
    c.if-page-self.true within) c.self.invariant

pub invariant_of-self-2 : goal.invariant_of-self-2
invariant_of-self-2 g c =
    let o = c.self.inside in
    subst (λ (changed : TwoImages). AreParts o.mode o.base changed o.fresh o.freed c.if-self.self o.mark o.made o.reads) (sym c.in_ok-put.ensures.ok)
    (parts_changed o.mode o.base o.changed o.fresh o.freed o.tail o.mark o.made o.reads c.self.invariant c.args.page c.in_ok-copy.copy c.if-self.self
    c.requires.0 c.if-page-self.false)

pub returns-then-page-self-clause-last : goal.returns-then-page-self-clause-last
returns-then-page-self-clause-last g c =
    let o = c.self.inside in
    let within : c.args.page ≤ o.base + length o.fresh.now =
    subst (λ (v : OverlayState). c.args.page ≤ last_page v.change) (sym c.self.view_is) c.requires.1 in
    let last : o.base + length o.fresh.now ≡ last_page c.args.self.now.change = ap (λ (v : OverlayState). last_page v.change) c.self.view_is in
    after (λ (fresh : TwoImages). o.base + length fresh.now ≡ last_page c.args.self.now.change) c.put.result c.put.new.self
    (image_put_since o.fresh c.args.page c.in_ok-copy.copy) o.fresh c.put.ensures.ok c.put.ensures.err
    (ap (λ (n : ℕ). o.base + n)
    (count_fresh o.mode o.base o.changed o.fresh o.freed o.tail o.mark o.made o.reads c.self.invariant c.args.page c.in_ok-copy.copy c.if-page-self.true within)
    ∙ last) last

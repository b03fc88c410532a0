use Rattle.std.proofs.Common.{◌≡◌, ◌∙◌, ◌+◌, ◌<◌, ◌^◌, length, sym, subst, ap, arith}
use Rattle.overlay.specs.Overlay.{OverlayState, last_page}
use Rattle.overlay.proofs.PartsLaws.{parts_made}
use Rattle.overlay.proofs.overlay.Overlay.add_page.Goals as goal

pub invariant_of-self-2 : goal.invariant_of-self-2
invariant_of-self-2 g c =
    let o = c.self.inside in
    let last : c.last-page.result ≡ o.base + length o.fresh.now =
    c.last-page.ensures.value ∙ ap (λ (v : OverlayState). last_page v.change) (sym c.self.view_is) in
    let few : o.base + length o.fresh.now + 1 < 2 ^ 32 =
    subst (λ (v : OverlayState). last_page v.change + 1 < 2 ^ 32) (sym c.self.view_is) c.requires in
    parts_made o.mode o.base o.changed o.fresh o.freed o.tail o.mark o.made o.reads c.self.invariant c.put.new.self c.last-page.result c.args.size
    c.in_ok-zeros.zeros last c.in_ok-zeros.ensures c.in_ok-put.ensures.ok few

pub returns-clause-last : goal.returns-clause-last
returns-clause-last g c =
    let o = c.self.inside in
    let last : c.last-page.result ≡ o.base + length o.fresh.now =
    c.last-page.ensures.value ∙ ap (λ (v : OverlayState). last_page v.change) (sym c.self.view_is) in
    let few : o.base + length o.fresh.now + 1 < 2 ^ 32 =
    subst (λ (v : OverlayState). last_page v.change + 1 < 2 ^ 32) (sym c.self.view_is) c.requires in
    let parts = parts_made o.mode o.base o.changed o.fresh o.freed o.tail o.mark o.made o.reads c.self.invariant c.put.new.self c.last-page.result
    c.args.size c.in_ok-zeros.zeros last c.in_ok-zeros.ensures c.in_ok-put.ensures.ok few in
    let then = parts.count in
    let before = c.self.invariant.count in
    omega arith

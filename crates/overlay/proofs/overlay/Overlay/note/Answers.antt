use Rattle.std.proofs.Common.{ℕ, List}
use Rattle.engine_spec.specs.PageSet.{with_page}
use Rattle.overlay.specs.Parts.{AreParts}
use Rattle.overlay.proofs.PartsLaws.{after, parts_read}
use Rattle.overlay.proofs.overlay.Overlay.note.Goals as goal

pub invariant_of-self : goal.invariant_of-self
invariant_of-self g c =
    let o = c.self.inside in
    after (λ (reads : List ℕ). AreParts o.mode o.base o.changed o.fresh o.freed o.tail o.mark o.made reads) c.add.result c.add.new.self
    (with_page o.reads c.args.page) o.reads c.add.ensures.ok c.add.ensures.err
    (parts_read o.mode o.base o.changed o.fresh o.freed o.tail o.mark o.made o.reads c.self.invariant c.args.page) c.self.invariant

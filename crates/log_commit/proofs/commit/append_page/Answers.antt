use Rattle.std.proofs.Common.{◌≡◌, ◌<◌, ◌∙◌, List, ℕ, ◌-◌, get_or, length, sym, ap, subst}
use Rattle.std.specs.Prelude.{is_ok}
use Rattle.engine_spec.specs.declared.commits.PageImage.{PageImage}
use Rattle.log_pair.specs.Pair.{current_header}
use Rattle.log_pair.specs.Appending.{AppendsFrame}
use Rattle.log_commit.specs.Appended.{AppendsImage}
use Rattle.log_commit.proofs.Order.{image_at, holds_at}
use Rattle.log_commit.proofs.commit.append_page.Goals as goal

pub append-requires-else-index-eq0-clause-page : goal.append-requires-else-index-eq0-clause-page
append-requires-else-index-eq0-clause-page g c =
    (holds_at (λ image. (0 < image.page) × (length image.bytes ≡ (current_header c.args.pair.now).page_size)) c.args.pages.now c.args.index c.index-pages-pages.result
    c.if-index-eq0.false c.requires.index c.requires.order c.requires.pages).0

pub append-requires-else-index-eq0-clause-bytes : goal.append-requires-else-index-eq0-clause-bytes
append-requires-else-index-eq0-clause-bytes g c =
    ap (λ (bytes : List ℕ). length bytes) c.bytes.ensures
    ∙ (holds_at (λ image. (0 < image.page) × (length image.bytes ≡ (current_header c.args.pair.now).page_size)) c.args.pages.now c.args.index c.index-pages-pages.result
    c.if-index-eq0.false c.requires.index c.requires.order c.requires.pages).1

pub returns-else-index-eq0-clause-appends : goal.returns-else-index-eq0-clause-appends
returns-else-index-eq0-clause-appends g c =
    let image : PageImage = get_or c.args.pages.now.changed.now (get_or c.args.pages.now.order.now (c.args.index - 1) 0) c.index-pages-pages.result in
    let old = g.D.DiskTells.told c.args.disk.now in
    let new = g.D.DiskTells.told c.append-else-index-eq0.new.disk in
    let e = c.append-else-index-eq0.ensures in
    subst (λ (p : PageImage). AppendsImage (is_ok c.append-else-index-eq0.result) c.args.pair.now c.append-else-index-eq0.new.self p c.args.size old new)
    (sym (image_at c.args.pages.now c.args.index c.index-pages-pages.result c.if-index-eq0.false c.requires.index c.requires.order)) (
      e.appends.0,
      subst (λ (bytes : List ℕ). AppendsFrame (is_ok c.append-else-index-eq0.result) c.args.pair.now c.append-else-index-eq0.new.self image.page c.args.size bytes old new e.appends.0)
          c.bytes.ensures e.appends.1,
    )

use Rattle.std.proofs.Common.{◌≡◌, ◌∙◌, ◌<◌, ℕ, List, ap, subst, sym, length}
use Rattle.std.specs.Prelude.{All}
use Rattle.store.proofs.store.Store.write_frames.Goals as goal
use Rattle.engine_spec.specs.declared.commits.PageImage.{PageImage}
use Rattle.laying.specs.Order.{in_order}
use Rattle.laying.proofs.Orders.{all_in_order}
use Rattle.log_pair.specs.Pair.{IsPair, current_header}
use Rattle.store_spec.proofs.Writing.{pair_more, pair_appended}
use Rattle.store.specs.declared.store.Store.{Store}
use Rattle.store.proofs.Fitting.{legal_on}

pub write_commit-requires-clause-pages : goal.write_commit-requires-clause-pages
write_commit-requires-clause-pages g c =
    subst (λ (order : List ℕ). All (λ image. (0 < image.page) × (length image.bytes ≡ (current_header c.args.self.now.pair).page_size)) (in_order c.args.changed.now order)) (sym c.as_slice-2.ensures.value)
    (all_in_order (λ (image : PageImage). (0 < image.page) × (length image.bytes ≡ (current_header c.args.self.now.pair).page_size)) c.args.changed.now c.args.plan.now.order.items
    (λ k d within. (let has = c.requires.images k d within in (has.0, has.1 ∙ sym c.requires.whole.page_size))) c.requires.plan.order.places)

pub returns-in-Ok-clause-legal : goal.returns-in-Ok-clause-legal
returns-in-Ok-clause-legal g c =
    legal_on c.args.self.now.pair c.write_commit.new.pair c.requires.whole.pair (pair_more c.args.self.now.pair c.write_commit.new.pair _ c.in-Ok.ensures.writes.1.becomes).0 c.write_commit.ensures.fits

pub returns-in-Err-clause-legal : goal.returns-in-Err-clause-legal
returns-in-Err-clause-legal g c =
    subst IsPair (sym (ap (λ (store : Store g.row.D.Denot g.row.W.Denot g.row.M.Denot). store.pair) c.halt.ensures.same))
    (legal_on c.args.self.now.pair c.write_commit.new.pair c.requires.whole.pair (pair_appended c.args.self.now.pair c.write_commit.new.pair c.in-Err.ensures.writes.1.becomes).0 c.write_commit.ensures.fits)

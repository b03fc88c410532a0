use Rattle.std.proofs.Common.{◌∙◌, ◌++◌, [], ◌∷◌, ℕ, List, ap}
use Rattle.store.proofs.store.Store.halt.Goals as goal
use Rattle.laying.specs.Order.{in_order, page_numbers}
use Rattle.store.specs.Committing.{bytes_of}
use Rattle.store.proofs.Images.{kept_back}

pub returns-clause-images : goal.returns-clause-images
returns-clause-images g c =
    let numbers : List ℕ = page_numbers (in_order c.args.changed.now c.args.order.now) in
    let bytes : List ℕ = bytes_of (in_order c.args.changed.now c.args.order.now) in
    kept_back c.args.self.now.buf.items c.args.changed.now c.args.order.now c.args.self.now.page_size c.keep_pages.new.spare.pages c.keep_pages.new.spare.bytes c.requires.first c.requires.places c.requires.whole
    (c.keep_pages.ensures.pages ∙ ap (λ (pages : List ℕ). pages ++ numbers) (c.push.ensures.pages ∙ ap (λ (pages : List ℕ). pages ++ 1 ∷ []) c.requires.none))
    (c.keep_pages.ensures.bytes ∙ ap (λ (list : List ℕ). list ++ bytes) (c.push.ensures.bytes ∙ (λ i. c.requires.empty i ++ c.as_slice.ensures.value i)))

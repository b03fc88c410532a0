use Rattle.std.proofs.Common.{arith, ◌≡◌, ℕ, ◌-◌, ◌<◌, List, [], ◌∷◌, ◌++◌, length, length-append, insert, refl, sym, subst, ap, ◌∙◌}
use Rattle.wal_index.specs.Order.{AreOrdered, IsRank, part_start}
use Rattle.wal_index.proofs.Adding.{added_is, ordered_more}
use Rattle.wal_index.proofs.frames.LogFrames.add.Goals as goal

-- the fields with a frame more are in order
orders : (pages order seen_pages seen_order more ordered : List ℕ) (page place start entry : ℕ) → AreOrdered pages order
    → seen_pages ≡ pages → seen_order ≡ order → place ≡ length pages → start ≡ part_start place
    → IsRank seen_pages seen_order start place page place entry → more ≡ pages ++ page ∷ [] → ordered ≡ insert order entry (place - start) → AreOrdered more ordered
orders pages order seen_pages seen_order more ordered page place start entry before is_pages is_order is_place is_start ranks is_more is_ordered =
    subst (λ pages. AreOrdered pages ordered) (sym is_more) (subst (λ order. AreOrdered (pages ++ page ∷ []) order) (sym is_ordered)
    (subst (λ far. AreOrdered (pages ++ page ∷ []) (insert order entry (far - start))) (sym is_place)
    (ordered_more (added_is pages order page start entry before (is_start ∙ ap part_start is_place)
    (subst (λ far. IsRank pages order start far page far entry) is_place
    (subst (λ order. IsRank pages order start place page place entry) is_order (subst (λ pages. IsRank pages seen_order start place page place entry) is_pages ranks)))))))

pub invariant_of-self : goal.invariant_of-self
invariant_of-self c = (
  orders c.self.inside.pages.items c.self.inside.order.items c.deref.result.now c.deref-2.result.now c.push_reserved.new.self.items c.insert_reserved.new.items.items
      c.args.page c.len-place.result _ c.rank-entry.result c.self.invariant.0 c.deref.ensures.value c.deref-2.ensures.value
      (c.len-place.ensures ∙ c.self.inside.pages.ok.0) refl c.rank-entry.ensures c.push_reserved.ensures.items c.insert_reserved.ensures.items,
  subst (λ pages. length pages < 4294967296) (sym c.push_reserved.ensures.items)
      (omega (arith, length-append c.self.inside.pages.items (c.args.page ∷ []), ap (λ frames. length frames.pages) c.self.view_is, c.requires.fits)),
)

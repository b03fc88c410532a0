-- What a commit takes before its first write, and what it writes.
use Rattle.std.specs.Prelude.{◌≡◌, ℕ, ◌*◌, ◌≤◌, List, ◌∷◌, length}
use Rattle.engine_spec.specs.declared.commits.PageImage.{PageImage}
use Rattle.laying.specs.Order.{IsOrder, in_order, page_numbers}
use Rattle.store.specs.declared.plan.Plan.{Plan}
use Rattle.store.specs.declared.store.Store.{Store}

-- the order is one of these images, and the numbers are page 1's and theirs
pub record IsPlanOf (changed : List PageImage) (plan : Plan) : Type 0 where
  pub order : IsOrder changed plan.order.items
  pub wrote : plan.wrote ≡ 1 ∷ page_numbers (in_order changed plan.order.items)
  pub fewer : length plan.order.items ≤ length changed

-- there is room for a commit of so many pages, in the index, in the history, and for its pages where a write of it fails
pub record HasPlanRoom {D W M : Type 0} (store : Store D W M) (count : ℕ) : Type 0 where
  pub log1 : count ≤ store.index.log1.room
  pub log2 : count ≤ store.index.log2.room
  pub seals1 : 1 ≤ store.index.log1.seals
  pub seals2 : 1 ≤ store.index.log2.seals
  pub commits : 1 ≤ store.commits.room
  pub pages : count ≤ store.spare.page_room
  pub bytes : count * store.page_size ≤ store.spare.byte_room

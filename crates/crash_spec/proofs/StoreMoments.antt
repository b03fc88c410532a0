-- What a crash leaves of a store at each moment of a call.
use Rattle.std.proofs.Common.{inl, inr, Option, sym, ◌∙◌}
use Rattle.disk_face.specs.Files.{Files}
use Rattle.disk_face.specs.Steps.{History}
use Rattle.disk_face.specs.Image.{MayLeave}
use Rattle.crash_spec.specs.Opening.{Opening, Since}
use Rattle.crash_spec.specs.Store.{StoreView, Holds, Leaves, KeepsStore}
use Rattle.crash_spec.proofs.Passing.{passes_still, passes_join}
use Rattle.crash_spec.proofs.StoreImages.{store_images}

-- where the files hold a store, a crash leaves its newest map, or the one on its way
pub holds_images : (opening : Opening) (view : StoreView) (told : History) → Holds opening view told → (image : Files) → MayLeave opening.before told image → Leaves opening view told image
holds_images opening view told h image left chance =
    elim (store_images opening told view.current view.header view.older view.frames view.pending view.other view.size h.on h.sized h.sized_later image left chance) [
      | inl old ↦ inl (old ∙ sym h.is)
      | inr (some, new) ↦ inr (some, new ∙ sym (h.is_later some))
    ]

-- a call that makes no step, and two calls
pub keeps_still : (opening : Opening) (view : StoreView) (told : Option History) → Since opening.start (Holds opening view) told → KeepsStore opening view told told
keeps_still opening view told h = passes_still opening (Leaves opening view) (Holds opening view) (holds_images opening view) told h

pub keeps_join : (opening : Opening) (view : StoreView) (old mid new : Option History) → KeepsStore opening view old mid → KeepsStore opening view mid new → KeepsStore opening view old new
keeps_join opening view old mid new one two = passes_join opening (Leaves opening view) (Holds opening view) (Holds opening view) old mid new one two

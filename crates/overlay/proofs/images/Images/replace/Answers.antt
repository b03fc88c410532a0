use Rattle.std.proofs.Common.{◌≡◌, ◌∙◌, ℕ, List, set, Ok, Err, Option, None, sym, subst, ap, is_some, true, false}
use Rattle.engine_spec.specs.declared.commits.PageImage.{PageImage}
use Rattle.engine_spec.specs.Change.{image_of}
use Rattle.overlay.specs.Places.{image_numbers, IsPlace}
use Rattle.overlay.specs.Images.{TwoImages, merged, image_put_since}
use Rattle.overlay.specs.Runs.{items_in, room_in}
use Rattle.overlay.proofs.ImageLaws.{of_page}
use Rattle.overlay.proofs.Searching.{put_there, image_none}
use Rattle.overlay.proofs.LayerLaws.{layers_set, merged_set}
use Rattle.overlay.proofs.images.Images.replace.Goals as goal

pub unreachable-requires : goal.unreachable-requires
unreachable-requires c =
    let none = image_none c.self.inside.since.items c.args.page c.in-Err.field-0
    (subst (λ (all : List PageImage). IsPlace (image_numbers all) c.args.page (Err c.in-Err.field-0)) c.as_slice.ensures.value c.in-Err.ensures) in
    no_none (image_of c.self.inside.since.items c.args.page) none
    (subst (λ (v : TwoImages). is_some (image_of v.since c.args.page) ≡ true) (sym c.self.view_is) c.requires.there)
  where
    no_none : (held : Option (List ℕ)) → held ≡ None → is_some held ≡ true → ⊥
    no_none held none some = let e : false ≡ true = sym (ap is_some none) ∙ some in cc

pub invariant_of-self : goal.invariant_of-self
invariant_of-self c =
    layers_set (items_in c.self.inside.kept) c.self.inside.since.items (room_in c.self.inside.kept) c.args.page c.in-Ok.at c.args.bytes
    c.self.invariant c.requires.page
    (subst (λ (all : List PageImage). IsPlace (image_numbers all) c.args.page (Ok c.in-Ok.at)) c.as_slice.ensures.value c.in-Ok.ensures)

pub returns : goal.returns
returns c =
    let below = items_in c.self.inside.kept in
    let above = c.self.inside.since.items in
    let place = subst (λ (all : List PageImage). IsPlace (image_numbers all) c.args.page (Ok c.in-Ok.at)) c.as_slice.ensures.value c.in-Ok.ensures in
    let put = merged_set below above (room_in c.self.inside.kept) c.args.page c.in-Ok.at c.args.bytes c.self.invariant c.requires.page place in
    let put_at = put_there 0 above c.args.page c.in-Ok.at c.args.bytes c.self.invariant.since place in
    subst (λ (v : TwoImages). ◌≡◌ {A = TwoImages}
    (record {
      now = merged below (set above c.in-Ok.at (of_page c.args.page c.args.bytes));
      marked = below;
      since = set above c.in-Ok.at (of_page c.args.page c.args.bytes);
    })
    (image_put_since v c.args.page c.args.bytes)) c.self.view_is (λ i. record { now = put i; marked = below; since = put_at i })

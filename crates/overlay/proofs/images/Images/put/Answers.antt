use Rattle.std.proofs.Common.{◌≡◌, ◌∙◌, ◌+◌, ◌≤◌, List, length, set, Ok, Err, sym, subst, ap, arith}
use Rattle.std.specs.List.{insert}
use Rattle.engine_spec.specs.declared.commits.PageImage.{PageImage}
use Rattle.overlay.specs.Places.{image_numbers, IsPlace}
use Rattle.overlay.specs.Images.{TwoImages, with_put, merged, image_put_since}
use Rattle.overlay.specs.Layers.{AreLayers}
use Rattle.overlay.specs.Runs.{items_in, room_in}
use Rattle.overlay.proofs.ImageLaws.{of_page}
use Rattle.overlay.proofs.Searching.{put_there, put_new}
use Rattle.overlay.proofs.LayerLaws.{layers_set, merged_set, layers_insert, merged_insert}
use Rattle.overlay.proofs.images.Images.put.Goals as goal

pub invariant_of-self : goal.invariant_of-self
invariant_of-self c =
    layers_set (items_in c.self.inside.kept) c.self.inside.since.items (room_in c.self.inside.kept) c.args.page c.in-Ok.at c.args.bytes
    c.self.invariant c.requires
    (subst (λ (all : List PageImage). IsPlace (image_numbers all) c.args.page (Ok c.in-Ok.at)) c.as_slice.ensures.value c.in-Ok.ensures)

pub returns-in-Ok-clause-ok : goal.returns-in-Ok-clause-ok
returns-in-Ok-clause-ok c =
    let below = items_in c.self.inside.kept in
    let above = c.self.inside.since.items in
    let place = subst (λ (all : List PageImage). IsPlace (image_numbers all) c.args.page (Ok c.in-Ok.at)) c.as_slice.ensures.value c.in-Ok.ensures in
    let put = merged_set below above (room_in c.self.inside.kept) c.args.page c.in-Ok.at c.args.bytes c.self.invariant c.requires place in
    let put_at = put_there 0 above c.args.page c.in-Ok.at c.args.bytes c.self.invariant.since place in
    subst (λ (v : TwoImages). ◌≡◌ {A = TwoImages}
    (record {
      now = merged below (set above c.in-Ok.at (of_page c.args.page c.args.bytes));
      marked = below;
      since = set above c.in-Ok.at (of_page c.args.page c.args.bytes);
    })
    (image_put_since v c.args.page c.args.bytes)) c.self.view_is (λ i. record { now = put i; marked = below; since = put_at i })

pub invariant_of-self-in-Err : goal.invariant_of-self-in-Err
invariant_of-self-in-Err c =
    let below = items_in c.self.inside.kept in
    let above = c.self.inside.since.items in
    let more = room_in c.reserve.new.self in
    let place = subst (λ (all : List PageImage). IsPlace (image_numbers all) c.args.page (Err c.in-Err.at)) c.as_slice.ensures.value c.in-Err.ensures in
    let pushed : c.insert.new.self.items ≡ insert above c.in-Err.at (of_page c.args.page c.args.bytes) = c.in_ok-insert-in-Err.ensures.items in
    let fits : length above + 1 ≤ more = omega (arith, c.in_ok-reserve-in-Err.ensures.room, c.len.ensures, c.self.inside.since.ok.0) in
    subst (λ (all : List PageImage). AreLayers all c.insert.new.self.items more) (sym c.reserve.ensures.items)
    (subst (λ (all : List PageImage). AreLayers below all more) (sym pushed)
    (layers_insert below above (room_in c.self.inside.kept) c.args.page c.in-Err.at c.args.bytes c.self.invariant c.requires more fits place))

pub returns-in_ok-insert-in-Err-clause-ok : goal.returns-in_ok-insert-in-Err-clause-ok
returns-in_ok-insert-in-Err-clause-ok c =
    let below = items_in c.self.inside.kept in
    let above = c.self.inside.since.items in
    let after = items_in c.reserve.new.self in
    let place = subst (λ (all : List PageImage). IsPlace (image_numbers all) c.args.page (Err c.in-Err.at)) c.as_slice.ensures.value c.in-Err.ensures in
    let pushed : c.insert.new.self.items ≡ insert above c.in-Err.at (of_page c.args.page c.args.bytes) = c.in_ok-insert-in-Err.ensures.items in
    let same : after ≡ below = c.reserve.ensures.items in
    let put : merged after c.insert.new.self.items ≡ with_put (merged below above) c.args.page c.args.bytes =
    ap (λ (all : List PageImage). merged all c.insert.new.self.items) same
    ∙ (ap (λ (all : List PageImage). merged below all) pushed
    ∙ merged_insert below above (room_in c.self.inside.kept) c.args.page c.in-Err.at c.args.bytes c.self.invariant c.requires place) in
    let more = pushed ∙ put_new above c.args.page c.in-Err.at c.args.bytes place in
    subst (λ (v : TwoImages). ◌≡◌ {A = TwoImages} (record { now = merged after c.insert.new.self.items; marked = after; since = c.insert.new.self.items })
    (image_put_since v c.args.page c.args.bytes)) c.self.view_is (λ i. record { now = put i; marked = same i; since = more i })

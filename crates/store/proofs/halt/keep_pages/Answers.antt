use Rattle.std.proofs.Common.{◌≡◌, ◌∙◌, ◌<◌, ◌++◌, ℕ, List, ap, subst, sym, length, get_or, arith}
use Rattle.std.proofs.lemmas.List.{get_or_default}
use Rattle.store.proofs.halt.keep_pages.Goals as goal
use Rattle.engine_spec.specs.declared.commits.PageImage.{PageImage}
use Rattle.laying.specs.Order.{no_image}
use Rattle.store.proofs.Images.{numbers_more, bytes_more, less_room}

pub kept-preserved : goal.kept-preserved
kept-preserved c =
    let less : c.kept.next < length c.args.order.now = c.kept-test.true in
    let inside : get_or c.args.order.now c.kept.next 0 < length c.args.changed.now = c.requires.places c.kept.next 0 less in
    let image_is : get_or c.args.changed.now (get_or c.args.order.now c.kept.next 0) no_image ≡ c.index-changed-order.result =
    get_or_default c.args.changed.now (get_or c.args.order.now c.kept.next 0) no_image c.index-changed-order.result inside ∙ sym c.index-changed-order.is in
    let long : length c.index-changed-order.result.bytes ≡ c.args.size =
    subst (λ (image : PageImage). length image.bytes ≡ c.args.size) image_is (c.requires.whole (get_or c.args.order.now c.kept.next 0) no_image inside) in
    record {
      within = omega (arith, less);
      pages = numbers_more c.args.changed.now c.args.order.now c.kept.next c.index-changed-order.result c.args.spare.now.pages c.kept.spare.pages c.push.new.self.pages less image_is
          c.kept.invariant.pages c.push.ensures.pages;
      bytes = bytes_more c.args.changed.now c.args.order.now c.kept.next c.index-changed-order.result c.args.spare.now.bytes c.kept.spare.bytes c.push.new.self.bytes less image_is
          c.kept.invariant.bytes (c.push.ensures.bytes ∙ ap (λ (bytes : List ℕ). c.kept.spare.bytes ++ bytes) c.bytes.ensures);
      page_room = omega (arith, less, c.kept.invariant.page_room, c.push.ensures.page_room);
      byte_room = less_room (length c.args.order.now) c.kept.next c.args.size c.kept.spare.byte_room c.push.new.self.byte_room c.bytes.result.now less
          (ap (λ (bytes : List ℕ). length bytes) c.bytes.ensures ∙ long) c.kept.invariant.byte_room c.push.ensures.byte_room;
    }

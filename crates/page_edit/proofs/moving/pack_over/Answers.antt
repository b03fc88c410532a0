use Rattle.std.proofs.Common.{◌≡◌, [], length, sum_by, ◌∙◌, ap, sym, arith}
use Rattle.std.proofs.lemmas.List.Sums.{sum_by-take-le}
use Rattle.node_spec.specs.Layout.{size_of}
use Rattle.page_edit.specs.Packing.{packed}
use Rattle.page_edit.proofs.Lists.{taken-texts_of}
use Rattle.page_edit.proofs.Packs.{has_alike, packed_page, texts_of-packed, moved_content, moved_count, packed_keeps}
use Rattle.page_edit.proofs.moving.pack_over.Goals as goal

pub move_cells-end-requires-clause-holds : goal.move_cells-end-requires-clause-holds
move_cells-end-requires-clause-holds c =
    let h = c.requires.holds.1 in (
      c.requires.holds.0,
      record {
        content = h.content;
        pieces = h.pieces;
        has = has_alike h.has (omega (arith, c.copy_front.ensures.size, c.requires.spare)) c.copy_front.ensures.front;
        texts_are = h.texts_are;
      },
    )

pub set_packed-requires-clause-end : goal.set_packed-requires-clause-end
set_packed-requires-clause-end c =
    let h = c.requires.holds.1 in
    let has = has_alike h.has (omega (arith, c.copy_front.ensures.size, c.requires.spare)) c.copy_front.ensures.front in
    let m = c.move_cells-end.ensures.moved h.content h.pieces has in
    (omega (arith, m.down_to, h.has.fits, h.has.head, h.has.room, sum_by-take-le size_of h.pieces (length h.pieces)), omega (arith, m.down_to, h.has.most))

pub returns-clause-shows : goal.returns-clause-shows
returns-clause-shows c = λ texts h.
    let has = has_alike h.has (omega (arith, c.copy_front.ensures.size, c.requires.spare)) c.copy_front.ensures.front in
    let m = c.move_cells-end.ensures.moved h.content h.pieces has in
    let e = c.set_packed.ensures in
    record {
      pieces = packed c.args.form.u h.pieces;
      blocks = [];
      is_page = packed_page c.args.form.u c.args.form.at c.args.form.pointers h.content c.args.form.kind c.args.bytes.now c.move_cells-end.new.bytes c.set_packed.new.bytes h.pieces c.move_cells-end.result
          h.has m e.start e.blocks e.fragments e.count e.flag e.others;
      texts_are = texts_of-packed c.args.form.u h.pieces ∙ h.texts_are;
    }

pub returns-clause-content : goal.returns-clause-content
returns-clause-content c = λ texts h.
    let has = has_alike h.has (omega (arith, c.copy_front.ensures.size, c.requires.spare)) c.copy_front.ensures.front in
    let m = c.move_cells-end.ensures.moved h.content h.pieces has in
    let all : sum_by length texts ≡ sum_by size_of h.pieces = ap (sum_by length) (sym h.texts_are) ∙ taken-texts_of h.pieces in
    omega (arith, c.set_packed.ensures.start, moved_content m, all)

pub returns-clause-count : goal.returns-clause-count
returns-clause-count c =
    let h = c.requires.holds.1 in
    let has = has_alike h.has (omega (arith, c.copy_front.ensures.size, c.requires.spare)) c.copy_front.ensures.front in
    c.set_packed.ensures.count ∙ moved_count h.has (c.move_cells-end.ensures.moved h.content h.pieces has)

pub returns-clause-rest : goal.returns-clause-rest
returns-clause-rest c =
    let h = c.requires.holds.1 in
    let has = has_alike h.has (omega (arith, c.copy_front.ensures.size, c.requires.spare)) c.copy_front.ensures.front in
    packed_keeps c.args.form c.args.bytes.now c.move_cells-end.new.bytes c.set_packed.new.bytes h.has (c.move_cells-end.ensures.moved h.content h.pieces has) c.set_packed.ensures.others

use Rattle.std.proofs.Common.{◌≡◌, ◌-◌, insert, length, ◌∙◌, ap, arith, subst}
use Rattle.page_edit.specs.Forms.{AddsPointer}
use Rattle.page_edit.proofs.Lists.{texts_of-insert}
use Rattle.page_edit.proofs.Puts.{put_is_page}
use Rattle.page_edit.proofs.gap.put_in_gap.Goals as goal

pub returns-clause-shows : goal.returns-clause-shows
returns-clause-shows c = λ of shown.
    let p = shown.is_page in
    let form = c.args.form in
    let count : c.from.result ≡ length shown.pieces = omega (arith, c.from.ensures, c.get_u16-count.ensures, p.holds.count) in
    let start = c.content_start.result - length c.args.cell.now in
    let adds = subst (λ n. AddsPointer c.lay_cell.new.bytes c.add_pointer.new.bytes form.pointers n c.args.k start) count c.add_pointer.ensures in
    record {
      pieces = insert shown.pieces c.args.k (record { start = start; bytes = c.args.cell.now });
      blocks = shown.blocks;
      is_page = put_is_page form.u form.at form.pointers c.args.k start form.kind c.args.cell.now c.args.bytes.now c.lay_cell.new.bytes c.add_pointer.new.bytes c.set_head.new.bytes
          shown.pieces shown.blocks p (omega (arith, p.holds.count)) c.requires.some c.requires.whole (omega (arith, c.content_start.ensures.start)) (omega (arith, c.content_start.ensures.start, p.holds.count))
          c.lay_cell.ensures.same c.lay_cell.ensures.others adds
          (omega (arith, c.set_head.ensures.count)) (c.set_head.ensures.start) c.set_head.ensures.others;
      texts_are = texts_of-insert shown.pieces c.args.k _ ∙ ap (λ xs. insert xs c.args.k c.args.cell.now) shown.texts_are;
    }

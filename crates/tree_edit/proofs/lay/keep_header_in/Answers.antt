use Rattle.std.proofs.Common.{◌∙◌, ap, sym}
use Rattle.page_spec.specs.View.{freelist_fields}
use Rattle.tree_edit.proofs.Edits.{read_one}
use Rattle.tree_edit.proofs.Storing.{head_fields}
use Rattle.tree_edit.proofs.lay.keep_header_in.Goals as goal

pub returns-clause-leaves : goal.returns-clause-leaves
returns-clause-leaves g c = λ world told first.
    head_fields c.keep_head.new.bytes c.fetch.new.buf c.keep_head.ensures.head
    ∙ ap freelist_fields (c.in-Ok.ensures.page_is world told ∙ sym ((c.fetch.ensures.reading.each world told).each 1))

pub returns-clause-read : goal.returns-clause-read
returns-clause-read g c = read_one g.P.PagesTells c.args.pages.now c.fetch.new.self 1 c.in-Ok.ensures.read

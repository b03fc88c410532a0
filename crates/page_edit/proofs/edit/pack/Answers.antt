use Rattle.std.proofs.Common.{subst}
use Rattle.page_edit.specs.Forms.{IsPacked}
use Rattle.page_edit.proofs.Shown.{shown_texts, edited, keeps_outside, holds_texts}
use Rattle.page_edit.proofs.edit.pack.Goals as goal

pub pack_cells-requires : goal.pack_cells-requires
pack_cells-requires c =
    let s = shown_texts (c.form_of-form.ensures.form c.requires.shown.0 c.requires.shown.1) c.requires.shown.1 in
    record { holds = (s.texts, holds_texts s.has) }

pub returns-clause-same : goal.returns-clause-same
returns-clause-same c = λ node shown.
    let f = c.form_of-form.ensures.form node shown in
    let s = shown_texts f shown in
    edited s.texts node.cells f shown c.pack_cells.ensures.rest (c.pack_cells.ensures.shows s.texts (holds_texts s.has)) s.cells_are

pub returns-clause-packed : goal.returns-clause-packed
returns-clause-packed c =
    let f = c.form_of-form.ensures.form c.requires.shown.0 c.requires.shown.1 in
    subst (λ at. IsPacked at c.pack_cells.new.bytes) f.at c.pack_cells.ensures.packed

pub returns-clause-rest : goal.returns-clause-rest
returns-clause-rest c = keeps_outside (c.form_of-form.ensures.form c.requires.shown.0 c.requires.shown.1) c.pack_cells.ensures.rest

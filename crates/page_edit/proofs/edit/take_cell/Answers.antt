use Rattle.std.proofs.Common.{subst, arith}
use Rattle.page_edit.specs.Forms.{IsPacked}
use Rattle.page_edit.proofs.Shown.{shown_texts, take_shows, keeps_outside}
use Rattle.page_edit.proofs.edit.take_cell.Goals as goal

pub take_out-requires-clause-shown : goal.take_out-requires-clause-shown
take_out-requires-clause-shown c =
    let s = shown_texts (c.form_of-form.ensures.form c.requires.shown.0 c.requires.shown.1) c.requires.shown.1 in
    (s.texts, s.has)

pub take_out-requires-clause-place : goal.take_out-requires-clause-place
take_out-requires-clause-place c =
    let s = shown_texts (c.form_of-form.ensures.form c.requires.shown.0 c.requires.shown.1) c.requires.shown.1 in
    omega (arith, s.count, c.requires.shown.2)

pub returns-clause-taken : goal.returns-clause-taken
returns-clause-taken c = λ node shown.
    take_shows c.args.k (c.form_of-form.ensures.form node shown) shown c.take_out.ensures.rest c.take_out.ensures.shows

pub returns-clause-packed : goal.returns-clause-packed
returns-clause-packed c =
    let f = c.form_of-form.ensures.form c.requires.shown.0 c.requires.shown.1 in
    subst (λ at. IsPacked at c.take_out.new.bytes) f.at c.take_out.ensures.packed

pub returns-clause-rest : goal.returns-clause-rest
returns-clause-rest c = keeps_outside (c.form_of-form.ensures.form c.requires.shown.0 c.requires.shown.1) c.take_out.ensures.rest

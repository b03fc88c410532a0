use Rattle.std.proofs.Common.{◌≡◌, ℕ, List, ◌+◌, ◌≤◌, max, length, ap, ◌∙◌, arith}
use Rattle.node_spec.proofs.CellLaws.{length-padded}
use Rattle.page_edit.proofs.Shown.{puts_text, put_shows, keeps_outside, on_ok, if_err, free_shown, long_cell}
use Rattle.page_edit.proofs.edit.put_cell.Goals as goal

pub put_whole-requires-clause-shown : goal.put_whole-requires-clause-shown
put_whole-requires-clause-shown c =
    let r = c.requires.shown in
    let p = puts_text c.args.k c.args.cell.now c.filled_up.result (c.form_of-form.ensures.form r.0 r.1) r.1 r.2 r.3 c.filled_up.ensures in
    (p.texts, p.has)

pub put_whole-requires-clause-place : goal.put_whole-requires-clause-place
put_whole-requires-clause-place c =
    let r = c.requires.shown in
    (puts_text c.args.k c.args.cell.now c.filled_up.result (c.form_of-form.ensures.form r.0 r.1) r.1 r.2 r.3 c.filled_up.ensures).place

pub put_whole-requires-clause-whole : goal.put_whole-requires-clause-whole
put_whole-requires-clause-whole c =
    let r = c.requires.shown in
    (puts_text c.args.k c.args.cell.now c.filled_up.result (c.form_of-form.ensures.form r.0 r.1) r.1 r.2 r.3 c.filled_up.ensures).whole

pub put_whole-requires-else-cell-lt-LEAST_CELL-clause-shown : goal.put_whole-requires-else-cell-lt-LEAST_CELL-clause-shown
put_whole-requires-else-cell-lt-LEAST_CELL-clause-shown c =
    let r = c.requires.shown in
    let p = puts_text c.args.k c.args.cell.now c.args.cell.now (c.form_of-form.ensures.form r.0 r.1) r.1 r.2 r.3 (long_cell c.args.cell.now (omega arith)) in
    (p.texts, p.has)

pub put_whole-requires-else-cell-lt-LEAST_CELL-clause-place : goal.put_whole-requires-else-cell-lt-LEAST_CELL-clause-place
put_whole-requires-else-cell-lt-LEAST_CELL-clause-place c =
    let r = c.requires.shown in
    (puts_text c.args.k c.args.cell.now c.args.cell.now (c.form_of-form.ensures.form r.0 r.1) r.1 r.2 r.3 (long_cell c.args.cell.now (omega arith))).place

pub put_whole-requires-else-cell-lt-LEAST_CELL-clause-whole : goal.put_whole-requires-else-cell-lt-LEAST_CELL-clause-whole
put_whole-requires-else-cell-lt-LEAST_CELL-clause-whole c =
    let r = c.requires.shown in
    (puts_text c.args.k c.args.cell.now c.args.cell.now (c.form_of-form.ensures.form r.0 r.1) r.1 r.2 r.3 (long_cell c.args.cell.now (omega arith))).whole

pub returns-then-cell-lt-LEAST_CELL-clause-put : goal.returns-then-cell-lt-LEAST_CELL-clause-put
returns-then-cell-lt-LEAST_CELL-clause-put c =
    let r = c.requires.shown in
    on_ok c.put_whole.result (λ puts node shown.
    put_shows c.args.k c.args.cell.now c.filled_up.result (c.form_of-form.ensures.form node shown) shown c.put_whole.ensures.rest r.0 r.1 r.3 c.filled_up.ensures puts) c.put_whole.ensures.put

pub returns-then-cell-lt-LEAST_CELL-clause-room : goal.returns-then-cell-lt-LEAST_CELL-clause-room
returns-then-cell-lt-LEAST_CELL-clause-room c =
    let size : length c.filled_up.result ≡ max 4 (length c.args.cell.now) = ap (λ (xs : List ℕ). length xs) c.filled_up.ensures ∙ length-padded c.args.cell.now in
    on_ok c.put_whole.result (λ says node shown.
    free_shown (c.form_of-form.ensures.form node shown) shown (λ free. max 4 (length c.args.cell.now) + 2 ≤ free)
    (λ texts has. omega (arith, says texts has, size))) c.put_whole.ensures.room

pub returns-then-cell-lt-LEAST_CELL-clause-refused : goal.returns-then-cell-lt-LEAST_CELL-clause-refused
returns-then-cell-lt-LEAST_CELL-clause-refused c =
    let size : length c.filled_up.result ≡ max 4 (length c.args.cell.now) = ap (λ (xs : List ℕ). length xs) c.filled_up.ensures ∙ length-padded c.args.cell.now in
    if_err c.put_whole.result (λ why says. (
      omega (arith, says.0, size),
      says.1,
      λ node shown. free_shown (c.form_of-form.ensures.form node shown) shown (λ free. why.free ≡ free) says.2,
    )) c.put_whole.ensures.refused

pub returns-then-cell-lt-LEAST_CELL-clause-rest : goal.returns-then-cell-lt-LEAST_CELL-clause-rest
returns-then-cell-lt-LEAST_CELL-clause-rest c = keeps_outside (c.form_of-form.ensures.form c.requires.shown.0 c.requires.shown.1) c.put_whole.ensures.rest

pub returns-else-cell-lt-LEAST_CELL-clause-put : goal.returns-else-cell-lt-LEAST_CELL-clause-put
returns-else-cell-lt-LEAST_CELL-clause-put c =
    let r = c.requires.shown in
    on_ok c.put_whole-else-cell-lt-LEAST_CELL.result (λ puts node shown.
    put_shows c.args.k c.args.cell.now c.args.cell.now (c.form_of-form.ensures.form node shown) shown c.put_whole-else-cell-lt-LEAST_CELL.ensures.rest r.0 r.1 r.3 (long_cell c.args.cell.now (omega arith)) puts) c.put_whole-else-cell-lt-LEAST_CELL.ensures.put

pub returns-else-cell-lt-LEAST_CELL-clause-room : goal.returns-else-cell-lt-LEAST_CELL-clause-room
returns-else-cell-lt-LEAST_CELL-clause-room c =
    let size : length c.args.cell.now ≡ max 4 (length c.args.cell.now) = ap (λ (xs : List ℕ). length xs) (long_cell c.args.cell.now (omega arith)) ∙ length-padded c.args.cell.now in
    on_ok c.put_whole-else-cell-lt-LEAST_CELL.result (λ says node shown.
    free_shown (c.form_of-form.ensures.form node shown) shown (λ free. max 4 (length c.args.cell.now) + 2 ≤ free)
    (λ texts has. omega (arith, says texts has, size))) c.put_whole-else-cell-lt-LEAST_CELL.ensures.room

pub returns-else-cell-lt-LEAST_CELL-clause-refused : goal.returns-else-cell-lt-LEAST_CELL-clause-refused
returns-else-cell-lt-LEAST_CELL-clause-refused c =
    let size : length c.args.cell.now ≡ max 4 (length c.args.cell.now) = ap (λ (xs : List ℕ). length xs) (long_cell c.args.cell.now (omega arith)) ∙ length-padded c.args.cell.now in
    if_err c.put_whole-else-cell-lt-LEAST_CELL.result (λ why says. (
      omega (arith, says.0, size),
      says.1,
      λ node shown. free_shown (c.form_of-form.ensures.form node shown) shown (λ free. why.free ≡ free) says.2,
    )) c.put_whole-else-cell-lt-LEAST_CELL.ensures.refused

pub returns-else-cell-lt-LEAST_CELL-clause-rest : goal.returns-else-cell-lt-LEAST_CELL-clause-rest
returns-else-cell-lt-LEAST_CELL-clause-rest c = keeps_outside (c.form_of-form.ensures.form c.requires.shown.0 c.requires.shown.1) c.put_whole-else-cell-lt-LEAST_CELL.ensures.rest

use Rattle.std.proofs.Common.{ℤ, Ok, Err, Some, None, subst, ◌∙◌, arith, w64, to_z, of_z}
use Rattle.std.proofs.lemmas.Int.{to_z-of_z, ints}
use Rattle.tree_read.specs.Looking.{HasLooked}
use Rattle.tree_read.proofs.Descents.{lacks_row, looked_row, looked_fault, barred_row, cell_again, page_again}
use Rattle.tree_read.proofs.find.look_with.Goals as goal

pub returns-in_default-clause-looked : goal.returns-in_default-clause-looked
returns-in_default-clause-looked g c =
    let p = g.P.PagesTells in
    let done = c.in-Ok.ensures.leaf in
    subst (λ (z : ℤ). HasLooked p c.args.pages.now c.args.root z (Ok None) c.descend.new.pages) (to_z-of_z w64 c.args.rowid (omega (arith, ints, c.ranges.rowid.sfits)))
    (lacks_row p c.args.pages.now c.descend.new.pages c.args.root (to_z w64 (of_z w64 c.args.rowid)) c.descend.new.buf c.in-Ok.leaf done
    (c.in_default.ensures done.node (page_again _ _ _ _ _ (c.usable_of-usable.ensures.value ∙ c.in-Ok.ensures.reading.edits.usable) done.tells)))

pub read_row-requires-clause-cell : goal.read_row-requires-clause-cell
read_row-requires-clause-cell g c =
    let done = c.in-Ok.ensures.leaf in
    let found = c.in-Some.ensures done.node (page_again _ _ _ _ _ (c.usable_of-usable.ensures.value ∙ c.in-Ok.ensures.reading.edits.usable) done.tells) in
    (found.0, cell_again _ _ _ _ _ _ _ c.usable_of-usable.ensures.value done.tells.tells.kind found.1.0)

pub returns-in-Ok-read_row-clause-looked : goal.returns-in-Ok-read_row-clause-looked
returns-in-Ok-read_row-clause-looked g c =
    let p = g.P.PagesTells in
    let done = c.in-Ok.ensures.leaf in
    let found = c.in-Some.ensures done.node (page_again _ _ _ _ _ (c.usable_of-usable.ensures.value ∙ c.in-Ok.ensures.reading.edits.usable) done.tells) in
    subst (λ (z : ℤ). HasLooked p c.args.pages.now c.args.root z (Ok (Some c.in-Ok-read_row.row)) c.read_row.new.pages) (to_z-of_z w64 c.args.rowid (omega (arith, ints, c.ranges.rowid.sfits)))
    (looked_row p c.args.pages.now c.descend.new.pages c.read_row.new.pages c.args.root (to_z w64 (of_z w64 c.args.rowid)) c.descend.new.buf c.in-Ok.leaf found.0 c.in-Ok-read_row.row
    c.in-Ok.ensures.reading c.in-Ok-read_row.ensures.reading done found.1.1
    (c.in-Ok-read_row.ensures.row found.0 (cell_again _ _ _ _ _ _ _ c.usable_of-usable.ensures.value done.tells.tells.kind found.1.0)))

pub returns-clause-looked : goal.returns-clause-looked
returns-clause-looked g c =
    let p = g.P.PagesTells in
    let done = c.in-Ok.ensures.leaf in
    let found = c.in-Some.ensures done.node (page_again _ _ _ _ _ (c.usable_of-usable.ensures.value ∙ c.in-Ok.ensures.reading.edits.usable) done.tells) in
    subst (λ (z : ℤ). HasLooked p c.args.pages.now c.args.root z (Err c.in-Err-read_row.why) c.read_row.new.pages) (to_z-of_z w64 c.args.rowid (omega (arith, ints, c.ranges.rowid.sfits)))
    (looked_fault p c.args.pages.now c.descend.new.pages c.read_row.new.pages c.args.root (to_z w64 (of_z w64 c.args.rowid)) c.descend.new.buf c.in-Ok.leaf found.0 c.in-Err-read_row.why
    c.in-Ok.ensures.reading c.in-Err-read_row.ensures.reading done found.1.1
    (c.in-Err-read_row.ensures.row found.0 (cell_again _ _ _ _ _ _ _ c.usable_of-usable.ensures.value done.tells.tells.kind found.1.0)))

pub returns-in-Err-clause-looked : goal.returns-in-Err-clause-looked
returns-in-Err-clause-looked g c =
    subst (λ (z : ℤ). HasLooked g.P.PagesTells c.args.pages.now c.args.root z (Err c.in-Err.why) c.descend.new.pages) (to_z-of_z w64 c.args.rowid (omega (arith, ints, c.ranges.rowid.sfits)))
    (barred_row g.P.PagesTells c.args.pages.now c.descend.new.pages c.args.root (to_z w64 (of_z w64 c.args.rowid)) c.in-Err.why c.in-Err.ensures.barred)

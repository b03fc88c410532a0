use Rattle.std.proofs.Common.{ℕ, ℤ, List, Option, Ok, Err}
use Rattle.tree_spec.specs.Shown.{Shown}
use Rattle.value_form.specs.declared.value.Value.{Value}
use Rattle.tree_scan.specs.Scanning.{BreaksStart, BreaksOn, BreaksNext}
use Rattle.tree_scan.proofs.Cursors.{stays_join, gives_join, barred_as}
use Rattle.tree_scan.proofs.Reading.{reads_join, reads_starting}
use Rattle.tree_scan.proofs.Shows.{barred_before}
use Rattle.tree_scan.proofs.Soundness.{fails_join}
use Rattle.tree_scan.proofs.cursor.Cursor.next.Goals as goal

pub returns-in-Err-clause-barred : goal.returns-in-Err-clause-barred
returns-in-Err-clause-barred g c =
    let p = g.P.PagesTells in
    let old = c.args.pages.now in
    let new = c.begin.new.self in
    barred_as p old c.begin.new.pages (λ (s : Shown). BreaksStart (p.usable old) (p.last_page old) s new.bounds new.root new.levels.items)
    (λ (s : Shown). BreaksNext (p.usable old) (p.last_page old) s new) c.in-Err.why (λ shown page breaks. BreaksNext.AtStart c.in-Err.ensures.not_begun breaks) c.in-Err.ensures.barred

pub returns-in-Ok-go_on-clause-gives : goal.returns-in-Ok-go_on-clause-gives
returns-in-Ok-go_on-clause-gives g c = gives_join g.P.PagesTells c.args.pages.now c.begin.new.pages c.go_on.new.pages c.args.self.now c.begin.new.self c.go_on.new.self _
    c.in-Ok.ensures.reading c.in-Ok-go_on.ensures.reading c.in-Ok.ensures.stays c.in-Ok-go_on.ensures.gives

pub returns-in-Ok-go_on-clause-reads : goal.returns-in-Ok-go_on-clause-reads
returns-in-Ok-go_on-clause-reads g c = reads_join {U = Option (ℤ × List Value)} g.P.PagesTells c.args.pages.now c.begin.new.pages c.go_on.new.pages c.args.self.now
    c.begin.new.self c.go_on.new.self (Ok _) c.in-Ok.ensures.reading c.in-Ok-go_on.ensures.reading c.in-Ok.ensures.begun c.in-Ok.ensures.same.0 c.in-Ok.ensures.reads c.in-Ok-go_on.ensures.reads

pub returns-in-Err-go_on-clause-stays : goal.returns-in-Err-go_on-clause-stays
returns-in-Err-go_on-clause-stays g c = stays_join g.P.PagesTells c.args.pages.now c.begin.new.pages c.go_on.new.pages c.args.self.now c.begin.new.self c.go_on.new.self
    c.in-Ok.ensures.reading c.in-Err-go_on.ensures.reading c.in-Ok.ensures.stays c.in-Err-go_on.ensures.stays

pub returns-in-Err-go_on-clause-barred : goal.returns-in-Err-go_on-clause-barred
returns-in-Err-go_on-clause-barred g c =
    let p = g.P.PagesTells in
    let old = c.args.pages.now in
    let new = c.go_on.new.self in
    barred_as p old c.go_on.new.pages (λ (s : Shown). BreaksOn (p.usable old) (p.last_page old) s new.bounds new.levels.items)
    (λ (s : Shown). BreaksNext (p.usable old) (p.last_page old) s new) c.in-Err-go_on.why
    (λ shown page breaks. BreaksNext.Behind c.in-Err-go_on.ensures.begun breaks)
    (barred_before p old c.begin.new.pages c.go_on.new.pages (λ (u n : ℕ) (s : Shown). BreaksOn u n s new.bounds new.levels.items) c.in-Err-go_on.why
    c.in-Ok.ensures.reading c.in-Err-go_on.ensures.reading c.in-Err-go_on.ensures.barred)

pub returns-in-Err-go_on-clause-sound : goal.returns-in-Err-go_on-clause-sound
returns-in-Err-go_on-clause-sound g c = fails_join g.P.PagesTells c.args.pages.now c.begin.new.pages c.go_on.new.pages c.args.self.now c.begin.new.self c.in-Err-go_on.why
    c.in-Ok.ensures.reading c.in-Err-go_on.ensures.reading c.in-Ok.ensures.begun c.in-Ok.ensures.same.0 c.in-Ok.ensures.same.1 c.in-Ok.ensures.stays c.in-Err-go_on.ensures.sound

pub returns-in-Err-go_on-clause-reads : goal.returns-in-Err-go_on-clause-reads
returns-in-Err-go_on-clause-reads g c = reads_join {U = Option (ℤ × List Value)} g.P.PagesTells c.args.pages.now c.begin.new.pages c.go_on.new.pages c.args.self.now
    c.begin.new.self c.go_on.new.self (Err c.in-Err-go_on.why) c.in-Ok.ensures.reading c.in-Err-go_on.ensures.reading c.in-Ok.ensures.begun c.in-Ok.ensures.same.0 c.in-Ok.ensures.reads
    c.in-Err-go_on.ensures.reads

pub returns-in-Err-clause-reads : goal.returns-in-Err-clause-reads
returns-in-Err-clause-reads g c = reads_starting g.P.PagesTells c.args.pages.now c.begin.new.pages c.args.self.now c.begin.new.self c.in-Err.why c.in-Err.ensures.reads

use Rattle.std.proofs.Common.{ℕ, ℤ, ◌<◌, ◌≤◌, false, List, length, Option, Ok, Err, refl, sym, subst, arith}
use Rattle.page_face.proofs.PageLaws.{reading_same}
use Rattle.tree_spec.specs.Shown.{Shown}
use Rattle.std.specs.Prelude.{MatchOption, vec_len}
use Rattle.value_form.specs.declared.value.Value.{Value}
use Rattle.tree_scan.specs.Bounded.{of_table}
use Rattle.tree_scan.specs.Reads.{HasTaken}
use Rattle.tree_scan.specs.Scanning.{AreLevels, KeepsComing, TakesNext, BreaksOn, BreaksDown, BreaksNextRow}
use Rattle.tree_scan.proofs.Shows.{walked_join, keeps_join, barred_before, levels_later, not_all}
use Rattle.tree_scan.proofs.Lasts.{cut_last}
use Rattle.tree_scan.proofs.Cursors.{walked_up, keeps_up, levels_left, stays_by, gives_none, gives_some, barred_as, stepped_levels}
use Rattle.tree_scan.proofs.Reading.{reads_walked, reads_none, reads_some, reads_fault}
use Rattle.tree_scan.proofs.Soundness.{down_on, fails_on}
use Rattle.tree_scan.proofs.cursor.Cursor.go_on.Goals as goal

pub go_down-requires-clause-levels : goal.go_down-requires-clause-levels
go_down-requires-clause-levels g c =
    let passed = c.go_up.ensures.passed in
    levels_left (of_table c.args.self.now.bounds) g.P.PagesTells c.args.pages.now c.args.self.now.levels.items c.go_up.new.levels.items passed.0 passed.1.0 c.requires.fits

pub returns-in-Err-clause-stays : goal.returns-in-Err-clause-stays
returns-in-Err-clause-stays g c =
    let p = g.P.PagesTells in
    let old = c.args.pages.now in
    let now = c.go_down.new.pages in
    let t = of_table c.args.self.now.bounds in
    let still = reading_same p old c.requires.ready (p.follows_itself old) in
    let passed = c.go_up.ensures.passed in
    let up = keeps_up t p old c.args.self.now.levels.items c.go_up.new.levels.items passed.0 still passed.1.0 c.requires.fits.0 passed.1.1 in
    let keeps : KeepsComing t p old c.args.self.now.levels.items c.go_down.new.levels.items now =
    keeps_join t p old old now c.args.self.now.levels.items c.go_up.new.levels.items c.go_down.new.levels.items still c.in-Err.ensures.reading up (c.in-Err.ensures.coming refl) in
    stays_by p old now c.args.self.now _ c.requires.begun c.requires.begun refl keeps

pub returns-in-Err-clause-barred : goal.returns-in-Err-clause-barred
returns-in-Err-clause-barred g c =
    let p = g.P.PagesTells in
    let old = c.args.pages.now in
    let bounds = c.args.self.now.bounds in
    let levels = c.go_down.new.levels.items in
    barred_as p old c.go_down.new.pages (λ (s : Shown). BreaksDown (p.usable old) (p.last_page old) s false bounds levels)
    (λ (s : Shown). BreaksOn (p.usable old) (p.last_page old) s bounds levels) c.in-Err.why
    (λ shown page breaks. down_on (p.usable old) (p.last_page old) shown bounds levels page breaks) c.in-Err.ensures.barred

pub returns-in-Err-clause-sound : goal.returns-in-Err-clause-sound
returns-in-Err-clause-sound g c =
    let p = g.P.PagesTells in
    let old = c.args.pages.now in
    let now = c.go_down.new.pages in
    let t = of_table c.args.self.now.bounds in
    let still = reading_same p old c.requires.ready (p.follows_itself old) in
    let passed = c.go_up.ensures.passed in
    let up = keeps_up t p old c.args.self.now.levels.items c.go_up.new.levels.items passed.0 still passed.1.0 c.requires.fits.0 passed.1.1 in
    let keeps : KeepsComing t p old c.args.self.now.levels.items c.go_down.new.levels.items now =
    keeps_join t p old old now c.args.self.now.levels.items c.go_up.new.levels.items c.go_down.new.levels.items still c.in-Err.ensures.reading up (c.in-Err.ensures.coming refl) in
    fails_on p old now c.args.self.now c.go_down.new.levels.items c.in-Err.why c.requires.begun keeps (returns-in-Err-clause-barred g c)

pub returns-in-Err-clause-reads : goal.returns-in-Err-clause-reads
returns-in-Err-clause-reads g c =
    let p = g.P.PagesTells in
    let old = c.args.pages.now in
    let now = c.go_down.new.pages in
    let t = of_table c.args.self.now.bounds in
    let still = reading_same p old c.requires.ready (p.follows_itself old) in
    let passed = c.go_up.ensures.passed in
    let up = walked_up c.args.self.now.bounds p old c.args.self.now.levels.items c.go_up.new.levels.items passed.0 still passed.1.0 c.requires.fits.0 passed.1.1 in
    let walked = walked_join {T = Unit {0}} {U = Unit {0}} false c.args.self.now.bounds p old old now c.args.self.now.levels.items c.go_up.new.levels.items c.go_down.new.levels.items tt (Err c.in-Err.why) still
    c.in-Err.ensures.reading up c.in-Err.ensures.walked in
    reads_walked {T = Option (ℤ × List Value)} p old now c.args.self.now _ c.in-Err.why c.requires.begun c.requires.begun refl walked

pub returns-in-Ok-None-clause-gives : goal.returns-in-Ok-None-clause-gives
returns-in-Ok-None-clause-gives g c =
    let p = g.P.PagesTells in
    let old = c.args.pages.now in
    let now = c.go_down.new.pages in
    let t = of_table c.args.self.now.bounds in
    let still = reading_same p old c.requires.ready (p.follows_itself old) in
    let passed = c.go_up.ensures.passed in
    let up = keeps_up t p old c.args.self.now.levels.items c.go_up.new.levels.items passed.0 still passed.1.0 c.requires.fits.0 passed.1.1 in
    let keeps : KeepsComing t p old c.args.self.now.levels.items c.go_down.new.levels.items now =
    keeps_join t p old old now c.args.self.now.levels.items c.go_up.new.levels.items c.go_down.new.levels.items still c.in-Ok.ensures.reading up (c.in-Ok.ensures.coming refl) in
    gives_none p old now c.row_at.new.pages c.args.self.now _ c.go_down.new.levels.items c.requires.begun c.requires.begun c.clear.ensures.items c.in-Ok.ensures.reading
    c.in-Ok-None.ensures.reading keeps
    (subst (λ (f : Option (ℤ × List Value)). TakesNext p now c.args.self.now.bounds c.go_down.new.levels.items f c.row_at.new.pages) c.in-Ok-None.field-0-is c.in-Ok-None.ensures.takes)

pub returns-in-Ok-None-clause-fits : goal.returns-in-Ok-None-clause-fits
returns-in-Ok-None-clause-fits g c = subst (AreLevels (of_table c.args.self.now.bounds) g.P.PagesTells c.row_at.new.pages) (sym c.clear.ensures.items) (tt, omega arith)

pub returns-in-Ok-None-clause-reads : goal.returns-in-Ok-None-clause-reads
returns-in-Ok-None-clause-reads g c =
    let p = g.P.PagesTells in
    let old = c.args.pages.now in
    let now = c.go_down.new.pages in
    let t = of_table c.args.self.now.bounds in
    let still = reading_same p old c.requires.ready (p.follows_itself old) in
    let passed = c.go_up.ensures.passed in
    let up = walked_up c.args.self.now.bounds p old c.args.self.now.levels.items c.go_up.new.levels.items passed.0 still passed.1.0 c.requires.fits.0 passed.1.1 in
    let walked = walked_join {T = Unit {0}} {U = Unit {0}} false c.args.self.now.bounds p old old now c.args.self.now.levels.items c.go_up.new.levels.items c.go_down.new.levels.items tt (Ok tt) still
    c.in-Ok.ensures.reading up c.in-Ok.ensures.walked in
    reads_none p old now c.row_at.new.pages c.args.self.now _ c.go_down.new.levels.items c.requires.begun c.requires.begun c.clear.ensures.items c.in-Ok.ensures.reading
    c.in-Ok-None.ensures.reading walked
    (subst (λ (f : Option (ℤ × List Value)). HasTaken t p now c.go_down.new.levels.items (Ok f) c.row_at.new.pages) c.in-Ok-None.field-0-is c.in-Ok-None.ensures.taken)

pub returns-in-Ok-Some-clause-gives : goal.returns-in-Ok-Some-clause-gives
returns-in-Ok-Some-clause-gives g c =
    let p = g.P.PagesTells in
    let old = c.args.pages.now in
    let now = c.go_down.new.pages in
    let t = of_table c.args.self.now.bounds in
    let still = reading_same p old c.requires.ready (p.follows_itself old) in
    let passed = c.go_up.ensures.passed in
    let up = keeps_up t p old c.args.self.now.levels.items c.go_up.new.levels.items passed.0 still passed.1.0 c.requires.fits.0 passed.1.1 in
    let keeps : KeepsComing t p old c.args.self.now.levels.items c.go_down.new.levels.items now =
    keeps_join t p old old now c.args.self.now.levels.items c.go_up.new.levels.items c.go_down.new.levels.items still c.in-Ok.ensures.reading up (c.in-Ok.ensures.coming refl) in
    gives_some p old now c.row_at.new.pages c.args.self.now _ c.go_down.new.levels.items c.in-Ok-Some.row c.requires.begun c.requires.begun refl c.in-Ok.ensures.reading
    c.in-Ok-Some.ensures.reading keeps c.step_on.ensures
    (subst (λ (f : Option (ℤ × List Value)). TakesNext p now c.args.self.now.bounds c.go_down.new.levels.items f c.row_at.new.pages) c.in-Ok-Some.field-0-is c.in-Ok-Some.ensures.takes)

pub returns-in-Ok-Some-clause-reads : goal.returns-in-Ok-Some-clause-reads
returns-in-Ok-Some-clause-reads g c =
    let p = g.P.PagesTells in
    let old = c.args.pages.now in
    let now = c.go_down.new.pages in
    let t = of_table c.args.self.now.bounds in
    let still = reading_same p old c.requires.ready (p.follows_itself old) in
    let passed = c.go_up.ensures.passed in
    let up = walked_up c.args.self.now.bounds p old c.args.self.now.levels.items c.go_up.new.levels.items passed.0 still passed.1.0 c.requires.fits.0 passed.1.1 in
    let walked = walked_join {T = Unit {0}} {U = Unit {0}} false c.args.self.now.bounds p old old now c.args.self.now.levels.items c.go_up.new.levels.items c.go_down.new.levels.items tt (Ok tt) still
    c.in-Ok.ensures.reading up c.in-Ok.ensures.walked in
    reads_some p old now c.row_at.new.pages c.args.self.now _ c.go_down.new.levels.items c.in-Ok-Some.row c.requires.begun c.requires.begun refl c.in-Ok.ensures.reading
    c.in-Ok-Some.ensures.reading c.step_on.ensures walked
    (subst (λ (f : Option (ℤ × List Value)). HasTaken t p now c.go_down.new.levels.items (Ok f) c.row_at.new.pages) c.in-Ok-Some.field-0-is c.in-Ok-Some.ensures.taken)

pub step_on-requires : goal.step_on-requires
step_on-requires g c =
    let levels = c.go_down.new.levels.items in
    let there : 1 ≤ length levels = subst (λ (f : Option (ℤ × List Value)). MatchOption f (Unit {0}) (λ _. 1 ≤ length levels)) c.in-Ok-Some.field-0-is c.in-Ok-Some.ensures.there in
    let cut = cut_last levels there in
    let inside : cut.top.place < vec_len cut.top.node.cells = not_all cut.top.at_cell (vec_len cut.top.node.cells) cut.top.place
    (c.in-Ok.ensures.cell cut.above cut.top cut.is) (c.in-Ok.ensures.left refl c.go_up.ensures.left cut.above cut.top cut.is) in
    (cut.above, (cut.top, (cut.is, omega (arith, inside, cut.top.node.cells.small, cut.top.node.cells.ok.1))))

pub returns-in-Ok-Some-clause-fits : goal.returns-in-Ok-Some-clause-fits
returns-in-Ok-Some-clause-fits g c =
    let p = g.P.PagesTells in
    let t = of_table c.args.self.now.bounds in
    let levels = c.go_down.new.levels.items in
    let there : 1 ≤ length levels = subst (λ (f : Option (ℤ × List Value)). MatchOption f (Unit {0}) (λ _. 1 ≤ length levels)) c.in-Ok-Some.field-0-is c.in-Ok-Some.ensures.there in
    let cut = cut_last levels there in
    let inside : cut.top.place < vec_len cut.top.node.cells = not_all cut.top.at_cell (vec_len cut.top.node.cells) cut.top.place
    (c.in-Ok.ensures.cell cut.above cut.top cut.is) (c.in-Ok.ensures.left refl c.go_up.ensures.left cut.above cut.top cut.is) in
    levels_later t p c.go_down.new.pages c.row_at.new.pages c.step_on.new.levels.items c.in-Ok-Some.ensures.reading
    (stepped_levels t p c.go_down.new.pages levels c.step_on.new.levels.items cut.above cut.top c.in-Ok.ensures.levels cut.is inside (c.step_on.ensures cut.above cut.top cut.is))

pub returns-in-Err-row_at-clause-stays : goal.returns-in-Err-row_at-clause-stays
returns-in-Err-row_at-clause-stays g c =
    let p = g.P.PagesTells in
    let old = c.args.pages.now in
    let now = c.go_down.new.pages in
    let t = of_table c.args.self.now.bounds in
    let still = reading_same p old c.requires.ready (p.follows_itself old) in
    let passed = c.go_up.ensures.passed in
    let up = keeps_up t p old c.args.self.now.levels.items c.go_up.new.levels.items passed.0 still passed.1.0 c.requires.fits.0 passed.1.1 in
    let keeps : KeepsComing t p old c.args.self.now.levels.items c.go_down.new.levels.items now =
    keeps_join t p old old now c.args.self.now.levels.items c.go_up.new.levels.items c.go_down.new.levels.items still c.in-Ok.ensures.reading up (c.in-Ok.ensures.coming refl) in
    stays_by p old c.row_at.new.pages c.args.self.now _ c.requires.begun c.requires.begun refl
    (λ world told. keeps world (c.in-Err-row_at.ensures.reading.edits.narrows world told))

pub returns-in-Err-row_at-clause-fits : goal.returns-in-Err-row_at-clause-fits
returns-in-Err-row_at-clause-fits g c =
    levels_later (of_table c.args.self.now.bounds) g.P.PagesTells c.go_down.new.pages c.row_at.new.pages c.go_down.new.levels.items c.in-Err-row_at.ensures.reading c.in-Ok.ensures.levels

pub returns-in-Err-row_at-clause-barred : goal.returns-in-Err-row_at-clause-barred
returns-in-Err-row_at-clause-barred g c =
    let p = g.P.PagesTells in
    let old = c.args.pages.now in
    let bounds = c.args.self.now.bounds in
    let levels = c.go_down.new.levels.items in
    barred_as p old c.row_at.new.pages (λ (s : Shown). BreaksNextRow (p.usable old) (p.last_page old) s bounds levels)
    (λ (s : Shown). BreaksOn (p.usable old) (p.last_page old) s bounds levels) c.in-Err-row_at.why (λ shown page breaks. BreaksOn.AtRow breaks)
    (barred_before p old c.go_down.new.pages c.row_at.new.pages (λ (u n : ℕ) (s : Shown). BreaksNextRow u n s bounds levels) c.in-Err-row_at.why
    c.in-Ok.ensures.reading c.in-Err-row_at.ensures.reading c.in-Err-row_at.ensures.barred)

pub returns-in-Err-row_at-clause-sound : goal.returns-in-Err-row_at-clause-sound
returns-in-Err-row_at-clause-sound g c =
    let p = g.P.PagesTells in
    let old = c.args.pages.now in
    let now = c.go_down.new.pages in
    let t = of_table c.args.self.now.bounds in
    let still = reading_same p old c.requires.ready (p.follows_itself old) in
    let passed = c.go_up.ensures.passed in
    let up = keeps_up t p old c.args.self.now.levels.items c.go_up.new.levels.items passed.0 still passed.1.0 c.requires.fits.0 passed.1.1 in
    let keeps : KeepsComing t p old c.args.self.now.levels.items c.go_down.new.levels.items now =
    keeps_join t p old old now c.args.self.now.levels.items c.go_up.new.levels.items c.go_down.new.levels.items still c.in-Ok.ensures.reading up (c.in-Ok.ensures.coming refl) in
    fails_on p old c.row_at.new.pages c.args.self.now c.go_down.new.levels.items c.in-Err-row_at.why c.requires.begun
    (λ world told. keeps world (c.in-Err-row_at.ensures.reading.edits.narrows world told)) (returns-in-Err-row_at-clause-barred g c)

pub returns-in-Err-row_at-clause-reads : goal.returns-in-Err-row_at-clause-reads
returns-in-Err-row_at-clause-reads g c =
    let p = g.P.PagesTells in
    let old = c.args.pages.now in
    let now = c.go_down.new.pages in
    let t = of_table c.args.self.now.bounds in
    let still = reading_same p old c.requires.ready (p.follows_itself old) in
    let passed = c.go_up.ensures.passed in
    let up = walked_up c.args.self.now.bounds p old c.args.self.now.levels.items c.go_up.new.levels.items passed.0 still passed.1.0 c.requires.fits.0 passed.1.1 in
    let walked = walked_join {T = Unit {0}} {U = Unit {0}} false c.args.self.now.bounds p old old now c.args.self.now.levels.items c.go_up.new.levels.items c.go_down.new.levels.items tt (Ok tt) still
    c.in-Ok.ensures.reading up c.in-Ok.ensures.walked in
    reads_fault p old now c.row_at.new.pages c.args.self.now _ c.in-Err-row_at.why c.requires.begun c.requires.begun refl c.in-Ok.ensures.reading c.in-Err-row_at.ensures.reading walked
    c.in-Err-row_at.ensures.taken

use Rattle.std.proofs.Common.{◌≡◌, ℕ, true, List, [], ◌∷◌, ◌++◌, Ok, Err, refl, sym, subst, ap, ◌∙◌, arith}
use Rattle.tree_spec.specs.Shown.{Shown}
use Rattle.tree_scan.specs.declared.level.Level.{Level}
use Rattle.tree_scan.specs.Bounded.{of_table}
use Rattle.tree_scan.specs.Scanning.{AreLevels, BreaksDown, BreaksStart}
use Rattle.tree_scan.proofs.Shows.{barred_before, fresh_level, level_read}
use Rattle.tree_scan.proofs.Cursors.{starts_at, barred_as}
use Rattle.tree_scan.proofs.Reading.{started_root, started_level, started_way}
use Rattle.tree_scan.proofs.Soundness.{root_barred, root_fails, way_fails}
use Rattle.tree_scan.proofs.path.first_path.Goals as goal

pub returns-in-Err-clause-started : goal.returns-in-Err-clause-started
returns-in-Err-clause-started g c =
    let bars = c.in-Err.ensures.barred in
    started_root {T = Unit {0}} g.P.PagesTells c.args.pages.now c.read_level.new.pages c.args.bounds.now c.args.root _ c.in-Err.why bars.list bars.read bars.are

pub returns-in-Err-clause-barred : goal.returns-in-Err-clause-barred
returns-in-Err-clause-barred g c =
    root_barred g.P.PagesTells c.args.pages.now c.read_level.new.pages c.args.bounds.now c.args.root _ c.in-Err.why c.in-Err.ensures.barred

pub returns-in-Err-clause-sound : goal.returns-in-Err-clause-sound
returns-in-Err-clause-sound g c = root_fails g.P.PagesTells c.args.pages.now c.read_level.new.pages c.args.bounds.now c.args.root c.in-Err.why c.in-Err.ensures.barred

pub returns-in-Err-push-clause-started : goal.returns-in-Err-push-clause-started
returns-in-Err-push-clause-started g c =
    let has = c.in-Ok.ensures.level in
    started_root {T = Unit {0}} g.P.PagesTells c.args.pages.now c.read_level.new.pages c.args.bounds.now c.args.root _ _ (c.args.root ∷ has.list) has.read
    (level_read g.P.PagesTells c.args.pages.now c.read_level.new.pages true c.args.bounds.now c.args.root 0 c.in-Ok.level has)

pub go_down-requires-clause-levels : goal.go_down-requires-clause-levels
go_down-requires-clause-levels g c =
    let are : c.push.new.self.items ≡ c.in-Ok.level ∷ [] = c.in-Ok-push.ensures.items ∙ ap (λ (l : List Level). l ++ c.in-Ok.level ∷ []) c.requires.none in
    subst (AreLevels (of_table c.args.bounds.now) g.P.PagesTells c.read_level.new.pages) (sym are) (
      (fresh_level g.P.PagesTells c.args.pages.now c.read_level.new.pages true c.args.bounds.now c.in-Ok.level c.args.root 0 c.in-Ok.ensures.reading c.in-Ok.ensures.level, tt),
      omega arith,
    )

pub returns-in-Ok-go_down-clause-starts : goal.returns-in-Ok-go_down-clause-starts
returns-in-Ok-go_down-clause-starts g c =
    let are : c.push.new.self.items ≡ c.in-Ok.level ∷ [] = c.in-Ok-push.ensures.items ∙ ap (λ (l : List Level). l ++ c.in-Ok.level ∷ []) c.requires.none in
    starts_at g.P.PagesTells c.args.pages.now c.read_level.new.pages c.go_down.new.pages c.args.bounds.now c.args.root c.in-Ok.level c.push.new.self.items c.go_down.new.levels.items
    c.in-Ok.ensures.reading c.in-Ok-go_down.ensures.reading c.in-Ok.ensures.level are (c.in-Ok-go_down.ensures.sought refl) c.in-Ok-go_down.ensures.cell

pub returns-in-Ok-go_down-clause-started : goal.returns-in-Ok-go_down-clause-started
returns-in-Ok-go_down-clause-started g c =
    let p = g.P.PagesTells in
    let bounds = c.args.bounds.now in
    let are : c.push.new.self.items ≡ c.in-Ok.level ∷ [] = c.in-Ok-push.ensures.items ∙ ap (λ (l : List Level). l ++ c.in-Ok.level ∷ []) c.requires.none in
    started_way {T = Unit {0}} {U = Unit {0}} bounds p c.args.pages.now c.read_level.new.pages c.go_down.new.pages c.args.root c.push.new.self.items
    c.go_down.new.levels.items tt (Ok tt) c.in-Ok.ensures.reading c.in-Ok-go_down.ensures.reading
    (started_level {T = Unit {0}} p c.args.pages.now c.read_level.new.pages bounds c.args.root c.in-Ok.level c.push.new.self.items tt c.in-Ok.ensures.level are) c.in-Ok-go_down.ensures.walked

pub returns-in-Err-go_down-clause-started : goal.returns-in-Err-go_down-clause-started
returns-in-Err-go_down-clause-started g c =
    let p = g.P.PagesTells in
    let bounds = c.args.bounds.now in
    let are : c.push.new.self.items ≡ c.in-Ok.level ∷ [] = c.in-Ok-push.ensures.items ∙ ap (λ (l : List Level). l ++ c.in-Ok.level ∷ []) c.requires.none in
    started_way {T = Unit {0}} {U = Unit {0}} bounds p c.args.pages.now c.read_level.new.pages c.go_down.new.pages c.args.root c.push.new.self.items
    c.go_down.new.levels.items tt (Err c.in-Err-go_down.why) c.in-Ok.ensures.reading c.in-Err-go_down.ensures.reading
    (started_level {T = Unit {0}} p c.args.pages.now c.read_level.new.pages bounds c.args.root c.in-Ok.level c.push.new.self.items tt c.in-Ok.ensures.level are) c.in-Err-go_down.ensures.walked

pub returns-in-Err-go_down-clause-barred : goal.returns-in-Err-go_down-clause-barred
returns-in-Err-go_down-clause-barred g c =
    let p = g.P.PagesTells in
    let old = c.args.pages.now in
    let bounds = c.args.bounds.now in
    let levels = c.go_down.new.levels.items in
    barred_as p old c.go_down.new.pages (λ (s : Shown). BreaksDown (p.usable old) (p.last_page old) s true bounds levels)
    (λ (s : Shown). BreaksStart (p.usable old) (p.last_page old) s bounds c.args.root levels) c.in-Err-go_down.why (λ shown page breaks. BreaksStart.BelowRoot breaks)
    (barred_before p old c.read_level.new.pages c.go_down.new.pages (λ (u n : ℕ) (s : Shown). BreaksDown u n s true bounds levels) c.in-Err-go_down.why
    c.in-Ok.ensures.reading c.in-Err-go_down.ensures.reading c.in-Err-go_down.ensures.barred)

pub returns-in-Err-go_down-clause-sound : goal.returns-in-Err-go_down-clause-sound
returns-in-Err-go_down-clause-sound g c =
    let p = g.P.PagesTells in
    let bounds = c.args.bounds.now in
    let are : c.push.new.self.items ≡ c.in-Ok.level ∷ [] = c.in-Ok-push.ensures.items ∙ ap (λ (l : List Level). l ++ c.in-Ok.level ∷ []) c.requires.none in
    way_fails p c.args.pages.now c.read_level.new.pages c.go_down.new.pages bounds c.args.root c.in-Ok.level c.push.new.self.items c.go_down.new.levels.items c.in-Err-go_down.why
    c.in-Ok.ensures.reading c.in-Err-go_down.ensures.reading c.in-Ok.ensures.level are
    (started_level {T = Unit {0}} p c.args.pages.now c.read_level.new.pages bounds c.args.root c.in-Ok.level c.push.new.self.items tt c.in-Ok.ensures.level are)
    c.in-Err-go_down.ensures.walked (c.in-Err-go_down.ensures.sought refl) c.in-Err-go_down.ensures.barred

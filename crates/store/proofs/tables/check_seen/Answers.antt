use Rattle.std.proofs.Common.{rules, ℕ, sym, subst}
use Rattle.std.specs.Prelude.{IfSome}
use Rattle.disk_face.specs.Steps.{reads}
use Rattle.tree_check.specs.Checking.{IsCounted}
use Rattle.store.specs.Opening.{database_in}
use Rattle.store.proofs.Checked.{counted, shown, cant_hold, refuses_check}
use Rattle.store.proofs.tables.check_seen.Goals as goal

pub returns-then-may_hold-clause-counted : goal.returns-then-may_hold-clause-counted
returns-then-may_hold-clause-counted g c =
    subst (λ (n : ℕ). IfSome (g.D.DiskTells.told c.args.disk.now) (λ told. IsCounted (database_in (reads told)) (record { pages = n; trees = c.in-Ok.count.trees; free = c.in-Ok.count.free }))) (sym c.pages.ensures)
    (counted g.D.DiskTells c.args.disk.now _ c.args.seen.now c.requires.looked c.check_all-checked.ensures.reading.edits.follows.stays c.in-Ok.count (λ world view. c.in-Ok.ensures.sound world view))

pub returns-else-may_hold-clause-refused : goal.returns-else-may_hold-clause-refused
returns-else-may_hold-clause-refused g c = (
  tt,
  cant_hold g.D.DiskTells c.args.disk.now _ c.args.seen.now c.requires.looked c.check_all-checked.ensures.reading.edits.follows.stays c.in-Ok.count (λ world view. c.in-Ok.ensures.sound world view)
      (c.may_hold.ensures.not c.if-may_hold.false),
  search rules,
)

pub returns-in-Err-clause-refused : goal.returns-in-Err-clause-refused
returns-in-Err-clause-refused g c =
    refuses_check c.check_all-checked.ensures.reading (g.D.DiskTells.told c.args.disk.now) c.in-Err.why c.of_check.ensures c.in-Err.ensures.cause (search rules) (c.check_all-checked.ensures.reading.edits.follows.counts.none c.if-pages.false).1
    (λ why each. shown g.D.DiskTells c.args.disk.now _ c.args.seen.now c.requires.looked c.check_all-checked.ensures.reading.edits.follows.stays why each)

use Rattle.std.proofs.Common.{[], Bool, true, subst, arith}
use Rattle.tree_edit.proofs.Edits.{edits_give}
use Rattle.node_spec.specs.Cells.{cell_in}
use Rattle.tree_edit.specs.Roots.{inner_kind}
use Rattle.tree_edit.specs.Joining.{JoinsOrLacks}
use Rattle.tree_edit.proofs.Joined.{joined_given, outside_bars}
use Rattle.tree_edit.proofs.joining.join_pages.Goals as goal

pub returns-then-not-joined-clause-joined : goal.returns-then-not-joined-clause-joined
returns-then-not-joined-clause-joined g c =
    subst (λ (b : Bool). JoinsOrLacks g.P.PagesTells c.args.pages.now c.args.left c.args.right [] (cell_in (inner_kind c.args.table) (g.P.PagesTells.usable c.args.pages.now) c.args.cell.now) c.join_left.new.pages b)
    c.if-not-joined.true c.in-Ok.ensures.joined

pub returns-in-Ok-give_up-clause-joined : goal.returns-in-Ok-give_up-clause-joined
returns-in-Ok-give_up-clause-joined g c = λ world told neat used_left used_right.
    let p = g.P.PagesTells in
    let old = c.args.pages.now in
    let mid = c.join_left.new.pages in
    let new = c.give_up.new.self in
    let up = c.in-Ok-give_up.ensures in
    let joins : JoinsOrLacks p old c.args.left c.args.right [] (cell_in (inner_kind c.args.table) (p.usable old) c.args.cell.now) mid true =
    subst (λ (b : Bool). JoinsOrLacks p old c.args.left c.args.right [] (cell_in (inner_kind c.args.table) (p.usable old) c.args.cell.now) mid b) c.if-not-joined.false c.in-Ok.ensures.joined in
    joined_given p old mid new world c.args.left c.args.right (cell_in (inner_kind c.args.table) (p.usable old) c.args.cell.now)
    (joins world (up.edits.narrows world told) neat used_left used_right) up.edits.usable (omega (arith, c.requires.right.0)) c.requires.apart used_left used_right
    (λ neat_mid used_mid. edits_give p c.args.left mid new world (up.given world told) used_mid neat_mid (up.changed world told neat_mid) (up.read world told neat_mid))

pub returns-in-Err-give_up-clause-cause : goal.returns-in-Err-give_up-clause-cause
returns-in-Err-give_up-clause-cause g c =
    outside_bars g.P.PagesTells c.args.pages.now c.give_up.new.self c.args.table c.args.left c.args.right _ c.in-Err-give_up.why c.in-Ok.ensures.edits.faults c.in-Err-give_up.ensures.cause

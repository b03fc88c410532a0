use Rattle.std.proofs.Common.{sym, subst, arith}
use Rattle.node_edit.specs.Runs.{Lies}
use Rattle.node_edit.proofs.Rows.{lies_within, lies_spells}
use Rattle.node_edit.proofs.run.text_at.Goals as goal

pub unreachable-requires : goal.unreachable-requires
unreachable-requires c =
    let l = c.requires.lies.1 in
    let here = subst (λ n. Lies c.args.kind c.args.u c.args.bytes.now n c.requires.lies.0) (sym c.get_u16-start.ensures) l in
    let none = c.in_default.ensures in
    omega (arith, (lies_within here).0, none)

pub returns : goal.returns
returns c = λ cell l.
    let here = subst (λ n. Lies c.args.kind c.args.u c.args.bytes.now n cell) (sym c.get_u16-start.ensures) l in
    lies_spells here c.from-start.result c.in-Some.len c.from-start.ensures c.in-Some.ensures.0

use Rattle.std.proofs.Common.{[], arith}
use Rattle.node_edit.proofs.Weights.{weight_alone}
use Rattle.node_edit.proofs.put.put_one.Goals as goal

pub put_cell-requires : goal.put_cell-requires
put_cell-requires c =
    let r = c.requires.shown in
    record { shown = (r.0, r.1, r.2, rw c.text_in-text.ensures (r.3 0 [] (omega (arith, c.requires.one)))) }

pub returns-in-Ok-clause-room : goal.returns-in-Ok-clause-room
returns-in-Ok-clause-room c = λ done node shown.
    let weight = weight_alone node.kind c.args.u c.args.news.now c.text_in-text.result.now c.requires.one c.text_in-text.ensures in
    omega (arith, weight, c.in-Ok.ensures.room node shown)

pub returns-in-Err-clause-lacks : goal.returns-in-Err-clause-lacks
returns-in-Err-clause-lacks c = λ done node shown.
    let weight = weight_alone node.kind c.args.u c.args.news.now c.text_in-text.result.now c.requires.one c.text_in-text.ensures in
    let why = c.in-Err.ensures.refused in
    omega (arith, weight, why.0, why.1, why.2 node shown)

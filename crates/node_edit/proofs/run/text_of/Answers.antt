use Rattle.std.proofs.Common.{◌-◌, ◌<◌, length, [], sym, subst, arith}
use Rattle.node_edit.specs.Runs.{Spells, cell_of}
use Rattle.node_edit.proofs.Rows.{row_length, row_front, row_news, row_back}
use Rattle.node_edit.proofs.run.text_of.Goals as goal

pub text_at-requires-clause-lies : goal.text_at-requires-clause-lies
text_at-requires-clause-lies c =
    let is = c.requires.run.1 in
    let less : c.args.k < length is.front = omega (arith, is.front_lie.count, c.if-k-front.true) in
    (cell_of is.front c.args.k, is.front_lie.each c.args.k less)

pub returns-then-k-front : goal.returns-then-k-front
returns-then-k-front c = λ cells is.
    let less : c.args.k < length is.front = omega (arith, is.front_lie.count, c.if-k-front.true) in
    subst (λ cell. Spells c.args.run.kind c.args.run.u c.text_at.result.now cell) (sym (row_front c.args.run cells is c.args.k less))
    (c.text_at.ensures (cell_of is.front c.args.k) (is.front_lie.each c.args.k less))

pub returns-then-behind-run : goal.returns-then-behind-run
returns-then-behind-run c = λ cells is.
    let front = is.front_lie.count in
    let j = c.args.k - (c.args.run.front.to - c.args.run.front.from) in
    let here = row_news c.args.run cells is c.args.k j (omega (arith, front, c.if-k-front.false)) c.if-behind-run.true in
    rw c.text_in.ensures (record {
      one = is.news_are j [] c.if-behind-run.true;
      is = sym here;
    })

pub text_at-requires-2-clause-lies : goal.text_at-requires-2-clause-lies
text_at-requires-2-clause-lies c =
    let is = c.requires.run.1 in
    let j = c.args.k - (c.args.run.front.to - c.args.run.front.from) - length c.args.run.news.now in
    let all = row_length c.args.run c.requires.run.0 is in
    let less : j < length is.back = omega (arith, all, is.front_lie.count, c.requires.run.2, c.if-k-front.false, c.if-behind-run.false) in
    (cell_of is.back j, is.back_lie.each j less)

pub returns : goal.returns
returns c = λ cells is.
    let j = c.args.k - (c.args.run.front.to - c.args.run.front.from) - length c.args.run.news.now in
    let first = c.requires.run.1 in
    let all = row_length c.args.run c.requires.run.0 first in
    let less : j < length is.back = omega (arith, all, first.front_lie.count, first.back_lie.count, is.back_lie.count, c.requires.run.2, c.if-k-front.false, c.if-behind-run.false) in
    let here = row_back c.args.run cells is c.args.k j (omega (arith, is.front_lie.count, c.if-k-front.false, c.if-behind-run.false)) in
    subst (λ cell. Spells c.args.run.kind c.args.run.u c.text_at-2.result.now cell) (sym here)
    (c.text_at-2.ensures (cell_of is.back j) (is.back_lie.each j less))

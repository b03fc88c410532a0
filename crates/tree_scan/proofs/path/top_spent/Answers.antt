use Rattle.std.proofs.Common.{◌≡◌, [], ◌-◌, ◌∙◌, sym, arith, length, subst}
use Rattle.tree_scan.specs.Coming.{IsSpent}
use Rattle.tree_scan.proofs.Lasts.{cut_last, at_last, count_last}
use Rattle.tree_scan.proofs.path.top_spent.Goals as goal

pub returns-clause-spent : goal.returns-clause-spent
returns-clause-spent c = λ is.
    let cut = cut_last c.args.levels.now.items (omega (arith, c.if-count-eq0.false, c.len-count.ensures)) in
    let at : c.len-count.result - 1 ≡ length cut.above = omega (arith, count_last c.args.levels.now.items cut.above cut.top cut.is, c.len-count.ensures) in
    let same : c.index.result.now ≡ cut.top = c.index.ensures ∙ at_last c.args.levels.now.items cut.above cut.top _ [] (c.len-count.result - 1) cut.is at in
    (cut.above, (cut.top, (cut.is, subst IsSpent same (c.is_spent.ensures.spent is))))

pub returns-clause-some : goal.returns-clause-some
returns-clause-some c = λ is above top are spent.
    let at : c.len-count.result - 1 ≡ length above = omega (arith, count_last c.args.levels.now.items above top are, c.len-count.ensures) in
    let same : c.index.result.now ≡ top = c.index.ensures ∙ at_last c.args.levels.now.items above top _ [] (c.len-count.result - 1) are at in
    c.is_spent.ensures.some is (subst IsSpent (sym same) spent)

pub returns-then-count-eq0-clause-some : goal.returns-then-count-eq0-clause-some
returns-then-count-eq0-clause-some c = λ is above top are spent. omega (arith, count_last c.args.levels.now.items above top are, c.if-count-eq0.true, c.len-count.ensures)

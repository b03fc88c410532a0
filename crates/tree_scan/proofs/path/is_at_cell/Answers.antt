use Rattle.std.proofs.Common.{◌≡◌, [], ◌-◌, ◌∙◌, arith, length, subst, true, false}
use Rattle.tree_scan.specs.declared.level.Level.{Level}
use Rattle.tree_scan.proofs.Lasts.{cut_last, at_last, count_last}
use Rattle.tree_scan.proofs.path.is_at_cell.Goals as goal

pub returns-clause-child : goal.returns-clause-child
returns-clause-child c = λ is.
    let cut = cut_last c.args.levels.now.items (omega (arith, c.if-count-eq0.false, c.len-count.ensures)) in
    let at : c.len-count.result - 1 ≡ length cut.above = omega (arith, count_last c.args.levels.now.items cut.above cut.top cut.is, c.len-count.ensures) in
    let same : c.index.result.now ≡ cut.top = c.index.ensures ∙ at_last c.args.levels.now.items cut.above cut.top _ [] (c.len-count.result - 1) cut.is at in
    (cut.above, (cut.top, (cut.is, subst (λ (l : Level). l.at_cell ≡ false) same is)))

pub returns-clause-cell : goal.returns-clause-cell
returns-clause-cell c = λ is above top are.
    let at : c.len-count.result - 1 ≡ length above = omega (arith, count_last c.args.levels.now.items above top are, c.len-count.ensures) in
    let same : c.index.result.now ≡ top = c.index.ensures ∙ at_last c.args.levels.now.items above top _ [] (c.len-count.result - 1) are at in
    subst (λ (l : Level). l.at_cell ≡ true) same is

pub returns-then-count-eq0-clause-cell : goal.returns-then-count-eq0-clause-cell
returns-then-count-eq0-clause-cell c = λ is above top are. absurd (omega (arith, count_last c.args.levels.now.items above top are, c.if-count-eq0.true, c.len-count.ensures))

use Rattle.std.specs.Prelude.{◌⊎◌}
use Rattle.std.proofs.Common.{ℕ, ◌<◌, subst, arith}
use Rattle.std.proofs.lemmas.Result.{on_ok_weaker}
use Rattle.tree_drop.proofs.Parts.{drops_none, drops_chain, chain_refused, bars_begin}
use Rattle.tree_drop.proofs.cells.free_payload.Goals as goal

pub returns-then-left-eq0-clause-dropped : goal.returns-then-left-eq0-clause-dropped
returns-then-left-eq0-clause-dropped g c = λ told says.
    drops_none g.P.PagesTells c.args.pages.now c.args.cell.now told c.saturating_sub-left.result says c.saturating_sub-left.ensures (omega (arith, c.if-left-eq0.true))

pub returns-clause-dropped : goal.returns-clause-dropped
returns-clause-dropped g c =
    on_ok_weaker c.free_chain_with.result
    (λ freed told says.
    drops_chain g.P.PagesTells c.args.pages.now c.free_chain_with.new.pages c.args.cell.now told c.saturating_sub-left.result says c.saturating_sub-left.ensures
    (omega (arith, c.if-left-eq0.false)) freed)
    c.free_chain_with.ensures.freed

pub returns-clause-refused : goal.returns-clause-refused
returns-clause-refused g c =
    chain_refused g.P.PagesTells c.args.pages.now c.free_chain_with.new.pages c.args.cell.now c.saturating_sub-left.result c.free_chain_with.result c.saturating_sub-left.ensures
    c.free_chain_with.ensures.followed c.free_chain_with.ensures.sound

pub returns-then-is_outside-clause-refused : goal.returns-then-is_outside-clause-refused
returns-then-is_outside-clause-refused g c = λ told says.
    bars_begin g.P.PagesTells c.args.pages.now c.args.pages.now c.args.cell.now told c.saturating_sub-left.result c.args.page says c.saturating_sub-left.ensures
    (omega (arith, c.if-left-eq0.false)) (subst (λ (n : ℕ). (c.args.cell.now.overflow < 2) ⊎ (n < c.args.cell.now.overflow)) c.last.ensures (c.is_outside.ensures.outside c.if-is_outside.true))

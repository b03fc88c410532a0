use Rattle.std.proofs.Common.{◌∙◌, arith}
use Rattle.tree_check.proofs.Paying.{content_read, local_fits, on_ok_three}
use Rattle.tree_check.proofs.tree.visit_content.Goals as goal

pub returns-clause-content : goal.returns-clause-content
returns-clause-content g c =
    on_ok_three c.visit_chain.result
    (λ visited gathered grown told shows.
    content_read g.P.PagesTells c.args.pages.now c.visit_chain.new.pages c.args.walk.now c.begin_payload.new.walk c.visit_chain.new.walk c.args.keep told c.args.cell.now.overflow
    c.saturating_sub-left.result c.in-Ok.ensures.same (λ kept. c.in-Ok.ensures.kept kept ∙ c.local_bytes.ensures shows.usable told shows.tells)
    (local_fits shows.usable c.args.kind c.args.bytes.now c.args.cell.now told shows.tells) shows.tells.overflow
    (omega (arith, c.saturating_sub-left.ensures, shows.tells.payload, shows.tells.local)) visited gathered grown)
    c.visit_chain.ensures.visited c.visit_chain.ensures.gathered c.visit_chain.ensures.grown

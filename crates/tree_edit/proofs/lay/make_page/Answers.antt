use Rattle.std.proofs.Common.{◌≡◌, ◌∙◌, arith, subst, sym, Some}
use Rattle.std.specs.Prelude.{Bool}
use Rattle.std.proofs.lemmas.Bool.{ne_eqb}
use Rattle.node_spec.specs.Nodes.{node_of}
use Rattle.tree_edit.proofs.Storing.{made_put, put_shows, made_barred, outside_barred}
use Rattle.tree_edit.proofs.lay.make_page.Goals as goal

pub returns-in-Ok-put-clause-made : goal.returns-in-Ok-put-clause-made
returns-in-Ok-put-clause-made g c = λ world told neat.
    made_put g.P.PagesTells c.in-Ok.page c.args.bytes.now c.args.pages.now c.fresh.new.self c.put.new.self world c.in-Ok.ensures c.in-Ok-put.ensures told neat

pub returns-in-Ok-put-clause-shows : goal.returns-in-Ok-put-clause-shows
returns-in-Ok-put-clause-shows g c = λ world told node shown.
    put_shows g.P.PagesTells c.in-Ok.page c.args.bytes.now c.fresh.new.self c.put.new.self world (g.P.PagesTells.usable c.args.pages.now) node c.in-Ok-put.ensures told
    (c.in-Ok-put.ensures.edits.usable ∙ c.in-Ok.ensures.edits.usable)
    (subst (λ (b : Bool). node_of (g.P.PagesTells.usable c.args.pages.now) b c.args.bytes.now ≡ Some node) (sym (ne_eqb c.in-Ok.page 1 (λ first. omega (arith, first, c.in-Ok.ensures.made.above)))) shown)

pub returns-in-Err-clause-stopped : goal.returns-in-Err-clause-stopped
returns-in-Err-clause-stopped g c = made_barred g.P.PagesTells c.args.pages.now c.fresh.new.self c.in-Err.why c.in-Err.ensures

pub returns-in-Err-put-clause-stopped : goal.returns-in-Err-put-clause-stopped
returns-in-Err-put-clause-stopped g c =
    outside_barred g.P.PagesTells c.args.pages.now c.put.new.self _ c.in-Err-put.why c.in-Ok.ensures.edits.faults c.in-Err-put.ensures.cause

use Rattle.std.proofs.Common.{arith}
use Rattle.tree_check.proofs.Front.{list_met_from, list_bars_from, front_goes, front_miscounts}
use Rattle.tree_check.proofs.check.check_list.Goals as goal

pub returns-in-Err-visit_free-clause-cause : goal.returns-in-Err-visit_free-clause-cause
returns-in-Err-visit_free-clause-cause g c =
    list_bars_from g.P.PagesTells c.args.pages.now c.check_header.new.pages c.visit_free.new.pages c.args.walk.now c.get_u32.result c.check_header.new.buf c.in-Err-visit_free.why
    c.get_u32.ensures c.in-Ok.ensures.reading c.in-Err-visit_free.ensures.reading c.in-Ok.ensures.header c.in-Err-visit_free.ensures.cause

pub returns-then-free-get_u32-clause-front : goal.returns-then-free-get_u32-clause-front
returns-then-free-get_u32-clause-front g c =
    front_goes g.P.PagesTells c.args.pages.now c.visit_free.new.pages c.args.walk.now c.visit_free.new.walk c.in-Ok-visit_free.free c.check_header.new.buf
    (list_met_from g.P.PagesTells c.args.pages.now c.check_header.new.pages c.visit_free.new.pages c.args.walk.now c.visit_free.new.walk c.in-Ok-visit_free.free c.get_u32.result
    c.check_header.new.buf c.get_u32.ensures c.requires.suits c.requires.fresh c.in-Ok.ensures.reading c.in-Ok-visit_free.ensures.reading c.in-Ok.ensures.header
    c.in-Ok-visit_free.ensures.visited c.in-Ok-visit_free.ensures.counted)
    (omega (arith, c.if-free-get_u32.true, c.get_u32-in-Ok-visit_free.ensures))

pub returns-else-free-get_u32-clause-cause : goal.returns-else-free-get_u32-clause-cause
returns-else-free-get_u32-clause-cause g c =
    front_miscounts g.P.PagesTells c.args.pages.now c.visit_free.new.pages c.args.walk.now c.visit_free.new.walk c.in-Ok-visit_free.free c.check_header.new.buf
    (list_met_from g.P.PagesTells c.args.pages.now c.check_header.new.pages c.visit_free.new.pages c.args.walk.now c.visit_free.new.walk c.in-Ok-visit_free.free c.get_u32.result
    c.check_header.new.buf c.get_u32.ensures c.requires.suits c.requires.fresh c.in-Ok.ensures.reading c.in-Ok-visit_free.ensures.reading c.in-Ok.ensures.header
    c.in-Ok-visit_free.ensures.visited c.in-Ok-visit_free.ensures.counted)
    (λ same. omega (arith, same, c.if-free-get_u32.false, c.get_u32-in-Ok-visit_free.ensures))

use Rattle.std.proofs.Common.{◌≡◌, Some, None, sym, subst}
use Rattle.check_spec.specs.Forms.{trunk_fault}
use Rattle.tree_check.specs.declared.walk.Walk.{Walk}
use Rattle.tree_check.proofs.Trunks.{trunk_twice, trunk_broken, trunk_bars, trunk_goes}
use Rattle.tree_check.proofs.free.visit_trunk.Goals as goal

pub returns-in-Err-clause-cause : goal.returns-in-Err-clause-cause
returns-in-Err-clause-cause g c = trunk_twice g.P.PagesTells c.args.pages.now c.args.walk.now c.args.page c.in-Err.why c.in-Err.ensures.twice

pub returns-in-Some-clause-cause : goal.returns-in-Some-clause-cause
returns-in-Some-clause-cause g c =
    trunk_broken g.P.PagesTells c.args.pages.now c.read.new.pages c.args.walk.now c.meet.new.self c.args.page c.in-Some.at c.read.new.buf
    c.in-Ok-read.ensures.reading c.requires.suits c.in-Ok.ensures.met c.in-Ok-read.ensures.bytes
    (subst (λ (w : Walk). trunk_fault w.usable w.last c.read.new.buf ≡ Some c.in-Some.at) c.in-Ok.ensures.met.same (sym c.in-Some.ensures))

pub returns-in-Ok-visit_leaves-clause-trunk : goal.returns-in-Ok-visit_leaves-clause-trunk
returns-in-Ok-visit_leaves-clause-trunk g c =
    trunk_goes g.P.PagesTells c.args.pages.now c.read.new.pages c.args.walk.now c.meet.new.self c.visit_leaves.new.walk c.args.page c.in-Ok-visit_leaves.leaves c.read.new.buf
    c.in-Ok-read.ensures.reading c.requires.suits c.in-Ok.ensures.met c.in-Ok-read.ensures.bytes
    (subst (λ (w : Walk). trunk_fault w.usable w.last c.read.new.buf ≡ None) c.in-Ok.ensures.met.same (sym c.in_default.ensures))
    c.in-Ok-visit_leaves.ensures.leaves

pub returns-in-Err-visit_leaves-clause-cause : goal.returns-in-Err-visit_leaves-clause-cause
returns-in-Err-visit_leaves-clause-cause g c =
    trunk_bars g.P.PagesTells c.args.pages.now c.read.new.pages c.args.walk.now c.meet.new.self c.args.page c.read.new.buf c.in-Err-visit_leaves.why
    c.in-Ok-read.ensures.reading c.requires.suits c.in-Ok.ensures.met c.in-Ok-read.ensures.bytes
    (subst (λ (w : Walk). trunk_fault w.usable w.last c.read.new.buf ≡ None) c.in-Ok.ensures.met.same (sym c.in_default.ensures))
    c.in-Err-visit_leaves.ensures.cause

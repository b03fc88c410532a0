use Rattle.std.proofs.Common.{◌≡◌, Some, None, sym, subst, arith}
use Rattle.check_spec.specs.Forms.{link_fault}
use Rattle.tree_check.specs.declared.walk.Walk.{Walk}
use Rattle.tree_check.proofs.Linking.{link_twice, link_broken, link_goes}
use Rattle.tree_check.proofs.chain.visit_link.Goals as goal

pub returns-in-Err-clause-cause : goal.returns-in-Err-clause-cause
returns-in-Err-clause-cause g c = link_twice g.P.PagesTells c.args.pages.now c.args.walk.now c.args.page c.args.left c.in-Err.why c.in-Err.ensures.twice

pub returns-in-Some-clause-cause : goal.returns-in-Some-clause-cause
returns-in-Some-clause-cause g c =
    link_broken g.P.PagesTells c.args.pages.now c.read.new.pages c.args.walk.now c.meet.new.self c.args.page c.args.left c.in-Some.at c.read.new.buf
    c.in-Ok-read.ensures.reading c.requires.suits c.in-Ok.ensures.met c.in-Ok-read.ensures.bytes
    (subst (λ (w : Walk). link_fault w.usable w.last c.args.left c.read.new.buf ≡ Some c.in-Some.at) c.in-Ok.ensures.met.same (sym c.in-Some.ensures))

pub returns-in-None-clause-link : goal.returns-in-None-clause-link
returns-in-None-clause-link g c =
    link_goes g.P.PagesTells c.args.pages.now c.read.new.pages c.args.walk.now c.meet.new.self c.args.page c.args.left c.read.new.buf
    c.in-Ok-read.ensures.reading c.requires.suits c.in-Ok.ensures.met c.in-Ok-read.ensures.bytes
    (subst (λ (w : Walk). link_fault w.usable w.last c.args.left c.read.new.buf ≡ None) c.in-Ok.ensures.met.same (sym c.in-None.ensures))
    (omega (arith, c.requires.suits.usable, c.requires.suits.fits, c.requires.suits.page_size, c.requires.room, c.in-Ok-read.ensures.room))

use Rattle.std.proofs.Common.{◌≡◌, ℕ, true, false, sym, subst, ◌∙◌, arith}
use Rattle.check_spec.specs.Forms.{is_inside_or_none}
use Rattle.tree_check.proofs.Front.{no_first, header_broken, trunk_outside, header_goes}
use Rattle.tree_check.proofs.check.check_header.Goals as goal

pub returns-then-walk-eq0-clause-cause : goal.returns-then-walk-eq0-clause-cause
returns-then-walk-eq0-clause-cause g c = no_first g.P.PagesTells c.args.pages.now c.args.walk.now c.requires.suits (omega (arith, c.if-walk-eq0.true))

pub returns-then-not-counts_pages-clause-cause : goal.returns-then-not-counts_pages-clause-cause
returns-then-not-counts_pages-clause-cause g c =
    header_broken g.P.PagesTells c.args.pages.now c.read.new.pages c.args.walk.now c.read.new.buf c.in-Ok.ensures.reading c.requires.suits c.in-Ok.ensures.bytes
    (c.counts_pages.ensures.others c.if-not-counts_pages.true)

pub returns-then-not-is_inside_or_none-clause-cause : goal.returns-then-not-is_inside_or_none-clause-cause
returns-then-not-is_inside_or_none-clause-cause g c =
    trunk_outside g.P.PagesTells c.args.pages.now c.read.new.pages c.args.walk.now c.read.new.buf c.in-Ok.ensures.reading c.requires.suits c.in-Ok.ensures.bytes
    (c.counts_pages.ensures.counts c.if-not-counts_pages.false)
    (subst (λ (n : ℕ). is_inside_or_none c.args.walk.now.last n ≡ false) c.get_u32.ensures (sym c.is_inside_or_none.ensures ∙ c.if-not-is_inside_or_none.true))

pub returns-clause-header : goal.returns-clause-header
returns-clause-header g c =
    header_goes g.P.PagesTells c.args.pages.now c.read.new.pages c.args.walk.now c.read.new.buf c.in-Ok.ensures.reading c.requires.suits c.in-Ok.ensures.bytes
    (c.counts_pages.ensures.counts c.if-not-counts_pages.false)
    (subst (λ (n : ℕ). is_inside_or_none c.args.walk.now.last n ≡ true) c.get_u32.ensures (sym c.is_inside_or_none.ensures ∙ c.if-not-is_inside_or_none.false))

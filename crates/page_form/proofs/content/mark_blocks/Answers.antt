use Rattle.std.proofs.Common.{◌∙◌, sym, subst, arith}
use Rattle.node_spec.proofs.Decode.{block_fits}
use Rattle.page_form.proofs.Chains.{Walking, walk_begins, walk_ends, walk_breaks, walk_goes_on}
use Rattle.page_form.proofs.content.mark_blocks.Goals as goal

pub loop-at-init : goal.loop-at-init
loop-at-init c = record {
  at_fits = omega (arith, c.from-at.ensures, c.ranges.first.fits);
  walking = subst (λ n. Walking c.args.u c.args.content c.args.bytes.now c.args.first 0 n 0 c.args.marks.now c.args.marks.now) (sym c.from-at.ensures)
      (walk_begins c.args.u c.args.content c.args.bytes.now c.args.first c.args.marks.now);
}

pub returns-then-not-is_block : goal.returns-then-not-is_block
returns-then-not-is_block c = walk_breaks c.loop-at.invariant.walking c.loop-at-test.true (sym c.is_block.ensures ∙ c.if-not-is_block.true)

pub get_u16-requires : goal.get_u16-requires
get_u16-requires c =
    let fits = block_fits c.args.u c.args.content c.args.bytes.now c.loop-at.before c.loop-at.at (sym c.is_block.ensures ∙ c.if-not-is_block.false) in
    omega (arith, fits.2, c.requires.usable)

pub mark-requires : goal.mark-requires
mark-requires c =
    let fits = block_fits c.args.u c.args.content c.args.bytes.now c.loop-at.before c.loop-at.at (sym c.is_block.ensures ∙ c.if-not-is_block.false) in
    omega (arith, fits.4, c.requires.marks, c.get_u16.ensures, c.from-size.ensures)

pub get_u16-requires-in-loop-at : goal.get_u16-requires-in-loop-at
get_u16-requires-in-loop-at c =
    let fits = block_fits c.args.u c.args.content c.args.bytes.now c.loop-at.before c.loop-at.at (sym c.is_block.ensures ∙ c.if-not-is_block.false) in
    omega (arith, fits.2, c.requires.usable)

pub loop-at-smaller : goal.loop-at-smaller
loop-at-smaller c =
    let fits = block_fits c.args.u c.args.content c.args.bytes.now c.loop-at.before c.loop-at.at (sym c.is_block.ensures ∙ c.if-not-is_block.false) in
    omega (arith, fits.0, fits.2)

pub loop-at-preserved : goal.loop-at-preserved
loop-at-preserved c = record {
  at_fits = omega (arith, c.from-at-in-loop-at.ensures, c.get_u16-in-loop-at.type_inv);
  walking =
      walk_goes_on c.loop-at.invariant.walking c.loop-at-test.true (sym c.is_block.ensures ∙ c.if-not-is_block.false) (omega (arith, c.requires.usable))
      c.from-size.result c.from-at-in-loop-at.result c.mark.new.marks (c.from-size.ensures ∙ c.get_u16.ensures) (omega (arith, c.from-size.ensures, c.get_u16.type_inv))
      (c.from-at-in-loop-at.ensures ∙ c.get_u16-in-loop-at.ensures) c.mark.ensures.inside c.mark.ensures.outside;
}

pub returns : goal.returns
returns c = walk_ends c.loop-at.invariant.walking c.loop-at-test.false

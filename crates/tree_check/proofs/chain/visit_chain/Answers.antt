use Rattle.std.proofs.Common.{◌≡◌, ℕ, ◌+◌, ◌-◌, ◌++◌, length, take, drop, refl, ap, ◌∙◌, arith}
use Rattle.tree_check.specs.declared.walk.Walk.{Walk}
use Rattle.tree_check.proofs.Chaining.{no_link, chain_more, chain_bars, chain_grown, chain_visited, chain_gathers}
use Rattle.tree_check.proofs.chain.visit_chain.Goals as goal

pub links-init : goal.links-init
links-init g c = record {
  so_far = no_link g.P.PagesTells c.args.pages.now c.args.walk.now c.args.first c.args.size c.args.keep c.requires.suits c.requires.first;
  room = refl;
  grown = λ kept. refl;
}

pub returns-in-Err-clause-cause : goal.returns-in-Err-clause-cause
returns-in-Err-clause-cause g c =
    chain_bars g.P.PagesTells c.args.pages.now c.links.pages c.visit_link.new.pages c.args.walk.now c.links.walk c.args.first c.args.size c.links.next c.links.left c.args.keep
    c.in-Err.why c.links-test.true c.links.invariant.so_far c.in-Err.ensures.reading c.in-Err.ensures.cause

pub returns-clause-visited : goal.returns-clause-visited
returns-clause-visited g c =
    chain_visited g.P.PagesTells c.args.pages.now c.links.pages c.args.walk.now c.links.walk c.args.first c.args.size c.links.next c.links.left c.args.keep
    (omega (arith, c.links-test.false)) c.links.invariant.so_far

pub returns-clause-gathered : goal.returns-clause-gathered
returns-clause-gathered g c =
    chain_gathers g.P.PagesTells c.args.pages.now c.links.pages c.args.walk.now c.links.walk c.args.first c.args.size c.links.next c.links.left c.args.keep
    (omega (arith, c.links-test.false)) c.links.invariant.so_far

pub links-preserved : goal.links-preserved
links-preserved g c =
    let so_far = c.links.invariant.so_far in
    let link = c.in-Ok.ensures.link in
    let later : Walk = record c.visit_link.new.walk { payload = c.gather.new.to } in
    record {
      so_far = chain_more g.P.PagesTells c.args.pages.now c.links.pages c.visit_link.new.pages c.args.walk.now c.links.walk c.visit_link.new.walk later c.args.first c.args.size
          c.links.next c.links.left c.get_u32-next.result (c.links.left - c.min-count.result) c.min-count.result c.args.keep c.visit_link.new.buf
          c.links-test.true so_far c.in-Ok.ensures.reading link refl
          (λ kept. c.in-Ok-gather.ensures.ok kept
          ∙ ap (λ (n : ℕ). c.visit_link.new.walk.payload.items ++ take n (drop 4 c.visit_link.new.buf))
          (let e : (4 + c.min-count.result) - 4 ≡ c.min-count.result = omega arith in e))
          c.get_u32-next.ensures
          (omega (arith, c.min-count.ensures, link.suits.usable, c.in-Ok.ensures.reading.edits.usable, so_far.suits.usable)) refl;
      room = c.in-Ok.ensures.room ∙ c.links.invariant.room;
      grown = λ kept.
          chain_grown c.links.walk.payload.items c.visit_link.new.walk.payload.items c.gather.new.to.items c.visit_link.new.buf c.links.left c.min-count.result
          (length c.args.walk.now.payload.items + c.args.size) (λ i. (link.payload i).items)
          (c.in-Ok-gather.ensures.ok kept) (omega (arith, c.min-count.ensures, link.long, so_far.suits.usable, so_far.suits.least))
          (omega (arith, c.min-count.ensures)) (c.links.invariant.grown kept);
    }

pub returns-clause-grown : goal.returns-clause-grown
returns-clause-grown g c = λ kept. omega (arith, c.links-test.false, c.links.invariant.grown kept)

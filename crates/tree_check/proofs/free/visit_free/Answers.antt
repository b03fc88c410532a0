use Rattle.std.proofs.Common.{◌≡◌, ℕ, ◌+◌, sym, subst, ◌∙◌, arith}
use Rattle.tree_check.specs.Met.{met_up_to}
use Rattle.tree_check.proofs.Trunks.{FreeMet, trunk_more, free_bars, free_visited, most_met}
use Rattle.tree_check.proofs.free.visit_free.Goals as goal

pub overflow_add-count : goal.overflow_add-count
overflow_add-count g c =
    let trunk = c.in-Ok.ensures.trunk in
    let so_far = c.trunks.invariant.so_far in
    let one : met_up_to c.visit_trunk.new.walk.marks.bits.items c.args.walk.now.last ≡ met_up_to c.trunks.walk.marks.bits.items c.args.walk.now.last + c.in-Ok.more =
    subst (λ (n : ℕ). met_up_to c.visit_trunk.new.walk.marks.bits.items n ≡ met_up_to c.trunks.walk.marks.bits.items n + c.in-Ok.more) so_far.last trunk.counted in
    omega (arith, one, so_far.counted, most_met c.visit_trunk.new.walk.marks.bits.items c.args.walk.now.last, trunk.last, so_far.last, c.in-Ok.ensures.small)

pub returns-in-Err-clause-cause : goal.returns-in-Err-clause-cause
returns-in-Err-clause-cause g c =
    free_bars g.P.PagesTells c.args.pages.now c.trunks.pages c.visit_trunk.new.pages c.args.walk.now c.trunks.walk c.args.first c.trunks.next c.trunks.count c.in-Err.why
    c.trunks-test.true c.trunks.invariant.so_far c.in-Err.ensures.reading c.in-Err.ensures.cause

pub trunks-smaller : goal.trunks-smaller
trunks-smaller g c =
    let trunk = c.in-Ok.ensures.trunk in
    let so_far = c.trunks.invariant.so_far in
    let one : met_up_to c.visit_trunk.new.walk.marks.bits.items c.args.walk.now.last ≡ met_up_to c.trunks.walk.marks.bits.items c.args.walk.now.last + c.in-Ok.more =
    subst (λ (n : ℕ). met_up_to c.visit_trunk.new.walk.marks.bits.items n ≡ met_up_to c.trunks.walk.marks.bits.items n + c.in-Ok.more) so_far.last trunk.counted in
    omega (arith, one, trunk.some, most_met c.visit_trunk.new.walk.marks.bits.items c.args.walk.now.last)

pub trunks-preserved : goal.trunks-preserved
trunks-preserved g c = record {
  so_far = subst (λ (n : ℕ). FreeMet g.P.PagesTells c.args.pages.now c.visit_trunk.new.pages c.args.walk.now c.args.first n (c.trunks.count + c.in-Ok.more) c.visit_trunk.new.walk)
      (sym c.get_u32-next.ensures)
      (trunk_more g.P.PagesTells c.args.pages.now c.trunks.pages c.visit_trunk.new.pages c.args.walk.now c.trunks.walk c.visit_trunk.new.walk c.args.first c.trunks.next c.trunks.count
      c.in-Ok.more c.visit_trunk.new.buf c.trunks-test.true c.trunks.invariant.so_far c.in-Ok.ensures.reading c.in-Ok.ensures.trunk);
  room = c.in-Ok.ensures.room ∙ c.trunks.invariant.room;
}

pub returns-clause-visited : goal.returns-clause-visited
returns-clause-visited g c =
    free_visited g.P.PagesTells c.args.pages.now c.trunks.pages c.args.walk.now c.trunks.walk c.args.first c.trunks.next c.trunks.count
    (λ some. omega (arith, some, c.trunks-test.false)) c.trunks.invariant.so_far

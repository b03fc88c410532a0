use Rattle.std.proofs.Common.{◌-◌, ◌+◌, ◌++◌, ◌∷◌, [], ℕ, List, false, refl, sym, ap, subst, ◌∙◌, arith, inl, append-nil, append_assoc}
use Rattle.page_spec.specs.Bytes.{u32_at}
use Rattle.page_face.proofs.PageLaws.{reading_join, reading_same}
use Rattle.tree_spec.specs.Freelist.{numbers_at, trunk_in, IsTrunk}
use Rattle.tree_spec.proofs.Freelists.{length-numbers_at}
use Rattle.freelist.specs.Walking.{IsOut, IsBroken, IsBrokenOver}
use Rattle.freelist.proofs.Walked.{of_equal, nothing_yet, fetched, one_more, outside_bars, stops, stops_at, broken_over}
use Rattle.freelist.proofs.walks.follow.Goals as goal

pub trunks-init : goal.trunks-init
trunks-init g c = record {
  reading = reading_same g.P.PagesTells c.args.pages.now c.requires.ready (g.P.PagesTells.follows_itself _);
  room = c.requires.room;
  grown = ([], sym (append-nil c.args.to.now.items));
  so_far = ([], nothing_yet g.P.PagesTells c.args.pages.now c.args.first c.args.count c.args.to.now.items);
}

pub returns-then-is_outside-clause-walked : goal.returns-then-is_outside-clause-walked
returns-then-is_outside-clause-walked g c =
    let before = c.trunks.invariant in
    stops g.P.PagesTells c.args.pages.now c.trunks.pages c.trunks.pages c.args.first c.args.count before.so_far.0 c.trunks.met c.trunks.next c.trunks.left
    c.args.to.now.items c.trunks.to.items c.trunks.to.items _ (λ world told. told) refl before.so_far.1 (
      before.so_far.1.met_is,
      inl (c.trunks-test.true, subst (λ (n : ℕ). IsOut n c.trunks.next) c.last-last.ensures (c.is_outside.ensures.outside c.if-is_outside.true)),
    )

pub returns-in-Err-clause-walked : goal.returns-in-Err-clause-walked
returns-in-Err-clause-walked g c =
    let before = c.trunks.invariant in
    let failed = c.in-Err.ensures in
    stops g.P.PagesTells c.args.pages.now c.trunks.pages c.fetch.new.self c.args.first c.args.count before.so_far.0 c.trunks.met c.trunks.next c.trunks.left
    c.args.to.now.items c.trunks.to.items c.trunks.to.items c.in-Err.why (λ world told. failed.reading.edits.narrows world told) failed.unread before.so_far.1
    (outside_bars _ _ (g.P.PagesTells.faults c.trunks.pages) _ _ _ _ false (IsBrokenOver g.P.PagesTells c.args.pages.now c.trunks.left c.trunks.next c.fetch.new.self) c.in-Err.why before.reading.edits.faults failed.cause)

pub returns-then-not-goes_on-clause-walked : goal.returns-then-not-goes_on-clause-walked
returns-then-not-goes_on-clause-walked g c =
    let before = c.trunks.invariant in
    let p = g.P.PagesTells in
    let old = c.args.pages.now in
    let here = fetched p old c.trunks.pages c.fetch.new.self c.args.first c.args.count before.so_far.0 c.trunks.met c.trunks.next c.trunks.left
    c.args.to.now.items c.trunks.to.items c.fetch.new.buf before.reading c.in-Ok.ensures before.so_far.1 in
    stops_at p old c.trunks.pages c.fetch.new.self c.args.first c.args.count before.so_far.0 c.trunks.met c.trunks.next c.trunks.left
    c.args.to.now.items c.trunks.to.items c.trunks.to.items c.fetch.new.buf _ (λ world told. c.in-Ok.ensures.reading.edits.narrows world told) here before.so_far.1
    c.trunks-test.true (c.is_outside.ensures.inside c.if-is_outside.false).0
    (omega (arith, (c.is_outside.ensures.inside c.if-is_outside.false).1, c.last-last.ensures)) (
      refl,
      broken_over p old c.fetch.new.self before.so_far.0 c.trunks.left c.trunks.next c.fetch.new.buf here
          (of_equal (λ u l. IsBroken u l c.trunks.left (trunk_in c.fetch.new.buf)) c.usable-usable.result c.last-last.result (p.usable old) (p.last_page old)
          c.usable-usable.ensures.value c.last-last.ensures (c.goes_on.ensures.broken c.if-not-goes_on.true)),
    )

pub append_trunk-requires : goal.append_trunk-requires
append_trunk-requires g c =
    let whole = c.goes_on.ensures.whole c.if-not-goes_on.false in
    omega (
      arith,
      whole.0.room,
      length-numbers_at c.fetch.new.buf 8 (u32_at c.fetch.new.buf 4),
      c.get_u32-leaves.ensures,
      c.fetch.auto.buf,
      c.trunks.invariant.room,
      c.usable-usable.ensures.bounds.0,
      c.usable-usable.ensures.bounds.1,
      c.usable-usable.ensures.value,
    )

pub returns-in-Err-append_trunk-clause-walked : goal.returns-in-Err-append_trunk-clause-walked
returns-in-Err-append_trunk-clause-walked g c =
    let before = c.trunks.invariant in
    let p = g.P.PagesTells in
    let old = c.args.pages.now in
    stops_at p old c.trunks.pages c.fetch.new.self c.args.first c.args.count before.so_far.0 c.trunks.met c.trunks.next c.trunks.left
    c.args.to.now.items c.trunks.to.items c.append_trunk.new.to.items c.fetch.new.buf c.in-Err-append_trunk.why (λ world told. c.in-Ok.ensures.reading.edits.narrows world told)
    (fetched p old c.trunks.pages c.fetch.new.self c.args.first c.args.count before.so_far.0 c.trunks.met c.trunks.next c.trunks.left
    c.args.to.now.items c.trunks.to.items c.fetch.new.buf before.reading c.in-Ok.ensures before.so_far.1) before.so_far.1
    c.trunks-test.true (c.is_outside.ensures.inside c.if-is_outside.false).0
    (omega (arith, (c.is_outside.ensures.inside c.if-is_outside.false).1, c.last-last.ensures))
    (rw (c.in-Err-append_trunk.ensures.cause) tt)

pub returns-in-Err-append_trunk-clause-grown : goal.returns-in-Err-append_trunk-clause-grown
returns-in-Err-append_trunk-clause-grown g c =
    let before = c.trunks.invariant.grown in
    let more = c.append_trunk.ensures.grown in
    (before.0 ++ more.0, more.1 ∙ ap (λ (l : List ℕ). l ++ more.0) before.1 ∙ append_assoc c.args.to.now.items before.0 more.0)

pub trunks-preserved : goal.trunks-preserved
trunks-preserved g c =
    let before = c.trunks.invariant in
    let p = g.P.PagesTells in
    let old = c.args.pages.now in
    let whole = c.goes_on.ensures.whole c.if-not-goes_on.false in
    let grown = before.grown in
    let more = c.append_trunk.ensures.grown in
    record {
      reading = reading_join p old c.trunks.pages c.fetch.new.self before.reading c.in-Ok.ensures.reading (g.P.PagesTells.follows_on);
      room = c.fetch.auto.buf ∙ before.room;
      grown = (grown.0 ++ more.0, more.1 ∙ ap (λ (l : List ℕ). l ++ more.0) grown.1 ∙ append_assoc c.args.to.now.items grown.0 more.0);
      so_far = (
        before.so_far.0 ++ c.trunks.next ∷ [],
        one_more p old c.trunks.pages c.fetch.new.self c.args.first c.args.count before.so_far.0 c.trunks.met c.trunks.next c.trunks.left c.get_u32-next.result
            (c.trunks.left - (c.get_u32-leaves.result + 1)) c.args.to.now.items c.trunks.to.items c.append_trunk.new.to.items c.fetch.new.buf
            (λ world told. c.in-Ok.ensures.reading.edits.narrows world told)
            (c.is_outside.ensures.inside c.if-is_outside.false).0
            (omega (arith, (c.is_outside.ensures.inside c.if-is_outside.false).1, c.last-last.ensures))
            (of_equal (λ u l. IsTrunk u l (trunk_in c.fetch.new.buf)) c.usable-usable.result c.last-last.result (p.usable old) (p.last_page old)
            c.usable-usable.ensures.value c.last-last.ensures whole.0)
            whole.1 (ap (λ (n : ℕ). c.trunks.left - (n + 1)) c.get_u32-leaves.ensures) c.get_u32-next.ensures
            (c.in-Ok-append_trunk.ensures.ok ∙ ap (λ (n : ℕ). c.trunks.to.items ++ c.trunks.next ∷ numbers_at c.fetch.new.buf 8 n) c.get_u32-leaves.ensures)
            (fetched p old c.trunks.pages c.fetch.new.self c.args.first c.args.count before.so_far.0 c.trunks.met c.trunks.next c.trunks.left
            c.args.to.now.items c.trunks.to.items c.fetch.new.buf before.reading c.in-Ok.ensures before.so_far.1)
            before.so_far.1,
      );
    }

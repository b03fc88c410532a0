use Rattle.std.proofs.Common.{[], ◌∷◌, ◌++◌, ◌∙◌, arith}
use Rattle.overflow.proofs.Freed.{freed_none, freed_more, fetch_fails, give_fails}
use Rattle.overflow.proofs.free.free_pages.Goals as goal

pub links-init : goal.links-init
links-init g c = record {
  room = c.requires.room;
  so_far = ([], freed_none g.P.PagesTells c.args.pages.now c.args.first c.args.size c.requires.ready (g.P.PagesTells.follows_itself _));
}

pub returns-in-Err-clause-followed : goal.returns-in-Err-clause-followed
returns-in-Err-clause-followed g c =
    let before = c.links.invariant in
    fetch_fails g.P.PagesTells c.args.pages.now c.links.pages c.fetch.new.self c.args.first c.args.size before.so_far.0 c.links.met c.links.next c.links.left
    c.fetch.new.buf c.in-Err.why (g.P.PagesTells.follows_on) c.in-Err.ensures before.so_far.1

pub returns-in-Err-give_up-clause-followed : goal.returns-in-Err-give_up-clause-followed
returns-in-Err-give_up-clause-followed g c =
    let before = c.links.invariant in
    give_fails g.P.PagesTells c.args.pages.now c.links.pages c.fetch.new.self c.give_up.new.self c.args.first c.args.size before.so_far.0 c.links.met c.links.next c.links.left
    c.fetch.new.buf c.in-Err-give_up.why (g.P.PagesTells.follows_on) (omega (arith, c.links-test.true)) c.in-Ok.ensures c.in-Err-give_up.ensures before.so_far.1

pub links-preserved : goal.links-preserved
links-preserved g c =
    let before = c.links.invariant in
    record {
      room = c.fetch.auto.buf ∙ before.room;
      so_far = (
        before.so_far.0 ++ c.links.next ∷ [],
        freed_more g.P.PagesTells c.args.pages.now c.links.pages c.fetch.new.self c.give_up.new.self c.args.first c.args.size before.so_far.0 c.links.met c.links.next c.links.left
            c.get_u32-next.result c.saturating_sub-left.result c.fetch.new.buf (g.P.PagesTells.follows_on)
            (omega (arith, c.links-test.true)) (omega (arith, c.if-next-lt2.false)) (omega (arith, c.if-next-last.false, c.last-last.ensures))
            c.in-Ok.ensures c.in-Ok-give_up.ensures c.get_u32-next.ensures (omega (arith, c.saturating_sub-left.ensures, c.usable-most.ensures.value)) before.so_far.1,
      );
    }

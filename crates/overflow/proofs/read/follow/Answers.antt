use Rattle.std.proofs.Common.{◌++◌, ◌∷◌, [], ◌-◌, ℕ, List, refl, ap, sym, ◌∙◌, arith, inl, inr, min, take, drop, append_assoc, append-nil}
use Rattle.page_face.proofs.PageLaws.{reading_join, reading_same}
use Rattle.overflow.proofs.Chains.{cut_back}
use Rattle.overflow.proofs.Links.{nothing_yet, one_more, still, outside_bars, stops, ends}
use Rattle.overflow.proofs.read.follow.Goals.{then-next-lt2-via-then-next-lt2, then-next-lt2-via-else-next-lt2+then-next-last}
use Rattle.overflow.proofs.read.follow.Goals as goal

pub links-init : goal.links-init
links-init g c = record {
  reading = reading_same g.P.PagesTells c.args.pages.now c.requires.ready (g.P.PagesTells.follows_itself _);
  room = c.requires.room;
  count = refl;
  grown = ([], sym (append-nil c.args.to.now.items));
  so_far = ([], nothing_yet g.P.PagesTells c.args.pages.now c.args.first c.args.size c.args.to.now.items);
}

pub returns-then-next-lt2-clause-followed : goal.returns-then-next-lt2-clause-followed
returns-then-next-lt2-clause-followed g c =
    let before = c.links.invariant in
    stops g.P.PagesTells c.args.pages.now c.links.pages c.args.first c.args.size before.so_far.0 _ c.links.next c.links.left c.args.to.now.items _ _ _ before.so_far.1 (
      before.so_far.1.met_is,
      omega (arith, c.links-test.true),
      elim c.then-next-lt2.branch [
        | then-next-lt2-via-then-next-lt2 w ↦ inl w.if-next-lt2.true
        | then-next-lt2-via-else-next-lt2+then-next-last w ↦ inr (omega (arith, w.if-next-last.true, c.last-last.ensures))
      ],
    )

pub returns-then-next-lt2-clause-kept : goal.returns-then-next-lt2-clause-kept
returns-then-next-lt2-clause-kept g c = cut_back _ _ c.links.invariant.grown.0 _ c.links.invariant.grown.1 refl

pub fetch-requires-clause-ready : goal.fetch-requires-clause-ready
fetch-requires-clause-ready g c = c.links.invariant.reading.edits.ready

pub fetch-requires-clause-page : goal.fetch-requires-clause-page
fetch-requires-clause-page g c = (
  omega (arith, c.if-next-lt2.false),
  omega (arith, c.if-next-last.false, c.last-last.ensures, c.links.invariant.reading.last),
)

pub fetch-requires-clause-room : goal.fetch-requires-clause-room
fetch-requires-clause-room g c = c.links.invariant.room ∙ sym c.links.invariant.reading.edits.page_size

pub returns-in-Err-clause-followed : goal.returns-in-Err-clause-followed
returns-in-Err-clause-followed g c =
    let before = c.links.invariant in
    let failed = c.in-Err.ensures in
    stops g.P.PagesTells c.args.pages.now c.fetch.new.self c.args.first c.args.size before.so_far.0 _ c.links.next c.links.left c.args.to.now.items c.links.to.items _ c.in-Err.why
    (still g.P.PagesTells c.args.pages.now c.links.pages c.fetch.new.self _ _ _ _ _ _ _ _ failed.reading failed.unread before.so_far.1)
    (outside_bars _ _ (g.P.PagesTells.faults c.links.pages) _ _ _ _ c.in-Err.why before.reading.edits.faults failed.cause)

pub returns-in-Err-clause-kept : goal.returns-in-Err-clause-kept
returns-in-Err-clause-kept g c = cut_back _ _ c.links.invariant.grown.0 _ c.links.invariant.grown.1 refl

pub returns-in-Err-clause-reading : goal.returns-in-Err-clause-reading
returns-in-Err-clause-reading g c =
    reading_join g.P.PagesTells c.args.pages.now c.links.pages c.fetch.new.self c.links.invariant.reading c.in-Err.ensures.reading (g.P.PagesTells.follows_on)

pub get_u32-next-requires : goal.get_u32-next-requires
get_u32-next-requires g c = omega (arith, c.fetch.auto.buf, c.links.invariant.room, c.usable-most.ensures.bounds.0, c.usable-most.ensures.bounds.1, c.usable-most.ensures.value)

pub links-preserved : goal.links-preserved
links-preserved g c =
    let before = c.links.invariant in
    let p = g.P.PagesTells in
    let read = c.in-Ok.ensures in
    let piece = take c.least-count.result (drop 4 c.fetch.new.buf) in
    record {
      reading = reading_join p c.args.pages.now c.links.pages c.fetch.new.self before.reading read.reading (g.P.PagesTells.follows_on);
      room = c.fetch.auto.buf ∙ before.room;
      count = omega (arith, c.in-Ok-append_content.ensures.count, before.count, c.least-count.ensures);
      grown = (before.grown.0 ++ piece, c.in-Ok-append_content.ensures.ok ∙ ap (λ (l : List ℕ). l ++ piece) before.grown.1 ∙ append_assoc c.args.to.now.items before.grown.0 piece);
      so_far = (
        before.so_far.0 ++ c.links.next ∷ [],
        one_more p c.args.pages.now c.links.pages c.fetch.new.self c.args.first c.args.size before.so_far.0 _ c.links.next c.links.left c.least-count.result
            c.get_u32-next.result (c.links.left - c.least-count.result) c.args.to.now.items c.links.to.items _ c.fetch.new.buf
            (omega (arith, c.links-test.true)) (omega (arith, c.if-next-lt2.false)) (omega (arith, c.if-next-last.false, c.last-last.ensures))
            before.reading read.reading read.read read.page_is c.get_u32-next.ensures
            (c.least-count.ensures ∙ ap (λ (u : ℕ). min c.links.left (u - 4)) c.usable-most.ensures.value) refl c.in-Ok-append_content.ensures.ok before.so_far.1,
      );
    }

pub returns-in-Err-append_content-clause-followed : goal.returns-in-Err-append_content-clause-followed
returns-in-Err-append_content-clause-followed g c =
    let before = c.links.invariant in
    let p = g.P.PagesTells in
    let read = c.in-Ok.ensures in
    let piece = take c.least-count.result (drop 4 c.fetch.new.buf) in
    stops p c.args.pages.now c.fetch.new.self c.args.first c.args.size (before.so_far.0 ++ c.links.next ∷ []) c.links.next c.get_u32-next.result
    (c.links.left - c.least-count.result) c.args.to.now.items (c.links.to.items ++ piece) _ c.in-Err-append_content.why
    (one_more p c.args.pages.now c.links.pages c.fetch.new.self c.args.first c.args.size before.so_far.0 _ c.links.next c.links.left c.least-count.result
    c.get_u32-next.result (c.links.left - c.least-count.result) c.args.to.now.items c.links.to.items _ c.fetch.new.buf
    (omega (arith, c.links-test.true)) (omega (arith, c.if-next-lt2.false)) (omega (arith, c.if-next-last.false, c.last-last.ensures))
    before.reading read.reading read.read read.page_is c.get_u32-next.ensures
    (c.least-count.ensures ∙ ap (λ (u : ℕ). min c.links.left (u - 4)) c.usable-most.ensures.value) refl refl before.so_far.1)
    (rw (c.in-Err-append_content.ensures.cause) tt)

pub returns-in-Err-append_content-clause-kept : goal.returns-in-Err-append_content-clause-kept
returns-in-Err-append_content-clause-kept g c =
    cut_back _ _ c.links.invariant.grown.0 _ (c.in-Err-append_content.ensures.err ∙ c.links.invariant.grown.1) refl

pub returns-in-Err-append_content-clause-reading : goal.returns-in-Err-append_content-clause-reading
returns-in-Err-append_content-clause-reading g c =
    reading_join g.P.PagesTells c.args.pages.now c.links.pages c.fetch.new.self c.links.invariant.reading c.in-Ok.ensures.reading (g.P.PagesTells.follows_on)

pub returns-clause-followed : goal.returns-clause-followed
returns-clause-followed g c =
    let before = c.links.invariant in
    ends g.P.PagesTells c.args.pages.now c.links.pages c.args.first c.args.size before.so_far.0 _ c.links.next c.links.left c.args.to.now.items c.links.to.items
    (omega (arith, c.links-test.false)) before.so_far.1

pub returns-clause-kept : goal.returns-clause-kept
returns-clause-kept g c = cut_back _ _ c.links.invariant.grown.0 _ c.links.invariant.grown.1 refl

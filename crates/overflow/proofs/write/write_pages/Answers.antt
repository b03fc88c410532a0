use Rattle.std.proofs.Common.{ℕ, ◌≡◌, ◌-◌, List, [], ◌∷◌, ◌++◌, length, drop, min, sym, ap, ◌∙◌, arith, append-nil}
use Rattle.std.proofs.lemmas.List.{take-append-drop}
use Rattle.overflow.proofs.Written.{put_none, made_more, put_more, put_all, fresh_bars, put_bars, next_there, held_more}
use Rattle.overflow.proofs.write.write_pages.Goals as goal

pub returns-in-Err-clause-written : goal.returns-in-Err-clause-written
returns-in-Err-clause-written g c =
    let p = g.P.PagesTells in
    let old = c.args.pages.now in
    let bytes = c.args.bytes.now in
    fresh_bars p old old c.fresh.new.self bytes 0 [] [] 0 bytes c.in-Err.why (p.follows_on) c.in-Err.ensures
    (put_none p old bytes 0 c.requires.ready (p.follows_itself _))

pub pages-init : goal.pages-init
pages-init g c =
    let p = g.P.PagesTells in
    let old = c.args.pages.now in
    let bytes = c.args.bytes.now in
    record {
      some = c.requires.some;
      room = c.requires.room;
      so_far = (
        [],
        made_more p old old c.fresh.new.self bytes c.in-Ok.first [] [] c.in-Ok.first bytes c.in-Ok.first (p.follows_on) c.in-Ok.ensures
            (put_none p old bytes c.in-Ok.first c.requires.ready (p.follows_itself _)),
      );
    }

pub fresh-requires-in-pages : goal.fresh-requires-in-pages
fresh-requires-in-pages g c = let before = c.pages.invariant in before.so_far.1.edits.ready

pub returns-in-Err-fresh-clause-written : goal.returns-in-Err-fresh-clause-written
returns-in-Err-fresh-clause-written g c =
    let p = g.P.PagesTells in
    let before = c.pages.invariant in
    let done = before.so_far.0 in
    fresh_bars p c.args.pages.now c.pages.pages c.fresh-in-pages.new.self c.args.bytes.now c.in-Ok.first (done ++ c.pages.page ∷ []) done c.pages.page c.pages.rest.now
    c.in-Err-fresh.why (p.follows_on) c.in-Err-fresh.ensures before.so_far.1

pub put_link-requires-clause-page : goal.put_link-requires-clause-page
put_link-requires-clause-page g c =
    let p = g.P.PagesTells in
    let before = c.pages.invariant in
    let done = before.so_far.0 in
    let page = c.pages.page in
    let made = done ++ page ∷ [] in
    let next = c.in-Ok-fresh.next in
    next_there p c.args.pages.now c.fresh-in-pages.new.self c.args.bytes.now c.in-Ok.first (made ++ next ∷ []) done page c.pages.rest.now (λ n. held_more made next n)
    (made_more p c.args.pages.now c.pages.pages c.fresh-in-pages.new.self c.args.bytes.now c.in-Ok.first made done page c.pages.rest.now next (p.follows_on) c.in-Ok-fresh.ensures before.so_far.1)

pub put_link-requires-clause-room : goal.put_link-requires-clause-room
put_link-requires-clause-room g c =
    let before = c.pages.invariant in
    let call = c.in-Ok-fresh.ensures in
    before.room ∙ sym (call.edits.page_size ∙ before.so_far.1.edits.page_size)

pub returns-in-Err-put_link-clause-written : goal.returns-in-Err-put_link-clause-written
returns-in-Err-put_link-clause-written g c =
    let p = g.P.PagesTells in
    let before = c.pages.invariant in
    let done = before.so_far.0 in
    let page = c.pages.page in
    let made = done ++ page ∷ [] in
    let next = c.in-Ok-fresh.next in
    put_bars p c.args.pages.now c.fresh-in-pages.new.self c.put_link.new.pages c.args.bytes.now c.in-Ok.first (made ++ next ∷ []) done page c.pages.rest.now page c.put_link.new.buf
    c.in-Err-put_link.why (p.follows_on) c.in-Err-put_link.ensures.put
    (made_more p c.args.pages.now c.pages.pages c.fresh-in-pages.new.self c.args.bytes.now c.in-Ok.first made done page c.pages.rest.now next (p.follows_on) c.in-Ok-fresh.ensures before.so_far.1)

pub pages-preserved : goal.pages-preserved
pages-preserved g c =
    let p = g.P.PagesTells in
    let before = c.pages.invariant in
    let done = before.so_far.0 in
    let page = c.pages.page in
    let made = done ++ page ∷ [] in
    let next = c.in-Ok-fresh.next in
    let rest = c.pages.rest.now in
    let most = c.usable-most.result - 4 in
    let piece = c.split_at.result.0.now in
    let behind = c.split_at.result.1.now in
    let size : length piece ≡ min (length rest) (p.usable c.args.pages.now - 4) =
    omega (arith, c.split_at.ensures.front_len, c.pages-test.true, c.usable-most.ensures.value) in
    let parts : rest ≡ piece ++ behind =
    sym (take-append-drop most rest) ∙ ap (λ (l : List ℕ). l ++ drop most rest) (sym c.split_at.ensures.front) ∙ ap (λ (l : List ℕ). piece ++ l) (sym c.split_at.ensures.back) in
    record {
      some = omega (arith, c.split_at.ensures.back_len, c.pages-test.true);
      room = c.in-Ok-put_link.ensures.room ∙ before.room;
      so_far = (
        made,
        put_more p c.args.pages.now c.fresh-in-pages.new.self c.put_link.new.pages c.args.bytes.now c.in-Ok.first (made ++ next ∷ []) done page rest next piece behind c.put_link.new.buf
            (p.follows_on) (λ n. held_more made next n) before.some c.in-Ok-put_link.ensures.next c.in-Ok-put_link.ensures.piece size parts c.in-Ok-put_link.ensures.put
            (made_more p c.args.pages.now c.pages.pages c.fresh-in-pages.new.self c.args.bytes.now c.in-Ok.first made done page rest next (p.follows_on) c.in-Ok-fresh.ensures before.so_far.1),
      );
    }

pub put_link-requires-2-clause-ready : goal.put_link-requires-2-clause-ready
put_link-requires-2-clause-ready g c = let before = c.pages.invariant in before.so_far.1.edits.ready

pub put_link-requires-2-clause-page : goal.put_link-requires-2-clause-page
put_link-requires-2-clause-page g c =
    let before = c.pages.invariant in
    let done = before.so_far.0 in
    next_there g.P.PagesTells c.args.pages.now c.pages.pages c.args.bytes.now c.in-Ok.first (done ++ c.pages.page ∷ []) done c.pages.page c.pages.rest.now (λ n. omega arith) before.so_far.1

pub put_link-requires-2-clause-room : goal.put_link-requires-2-clause-room
put_link-requires-2-clause-room g c = let before = c.pages.invariant in before.room ∙ sym before.so_far.1.edits.page_size

pub returns-in-Ok-put_link-2-clause-written : goal.returns-in-Ok-put_link-2-clause-written
returns-in-Ok-put_link-2-clause-written g c =
    let p = g.P.PagesTells in
    let before = c.pages.invariant in
    let done = before.so_far.0 in
    let made = done ++ c.pages.page ∷ [] in
    let rest = c.pages.rest.now in
    let size : length rest ≡ min (length rest) (p.usable c.args.pages.now - 4) = omega (arith, c.pages-test.false, c.usable-most.ensures.value) in
    put_all p c.args.pages.now c.put_link-2.new.pages c.args.bytes.now c.in-Ok.first made
    (put_more p c.args.pages.now c.pages.pages c.put_link-2.new.pages c.args.bytes.now c.in-Ok.first made done c.pages.page rest 0 rest [] c.put_link-2.new.buf
    (p.follows_on) (λ n. omega arith) before.some c.in-Ok-put_link-2.ensures.next c.in-Ok-put_link-2.ensures.piece size (sym (append-nil rest)) c.in-Ok-put_link-2.ensures.put before.so_far.1)

pub returns-in-Err-put_link-2-clause-written : goal.returns-in-Err-put_link-2-clause-written
returns-in-Err-put_link-2-clause-written g c =
    let p = g.P.PagesTells in
    let before = c.pages.invariant in
    let done = before.so_far.0 in
    put_bars p c.args.pages.now c.pages.pages c.put_link-2.new.pages c.args.bytes.now c.in-Ok.first (done ++ c.pages.page ∷ []) done c.pages.page c.pages.rest.now c.pages.page c.put_link-2.new.buf
    c.in-Err-put_link-2.why (p.follows_on) c.in-Err-put_link-2.ensures.put before.so_far.1

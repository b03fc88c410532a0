use Rattle.std.proofs.Common.{refl, inl, inr, arith}
use Rattle.page_face.proofs.PageLaws.{reading_same}
use Rattle.freelist.proofs.Changed.{begins_well}
use Rattle.freelist.proofs.PutIn.{begins_empty, gives_leaf, gives_trunk, is_full}
use Rattle.freelist.proofs.gives.give_one.Goals as goal

pub returns-in-Ok-clause-given : goal.returns-in-Ok-clause-given
returns-in-Ok-clause-given g c =
    let p = g.P.PagesTells in
    let old = c.args.pages.now in
    gives_trunk p old old c.start_trunk.new.pages c.args.free.now c.start_trunk.new.free c.args.page c.start_trunk.new.buf (p.follows_on)
    (reading_same p old c.requires.ready (p.follows_itself _)) (begins_empty p old c.start_trunk.new.pages c.args.free.now (omega (arith, c.if-free-eq0.true)) (omega (arith, c.if-free-gt0.false)))
    (inl (omega (arith, c.if-free-eq0.true))) (inl refl) c.in-Ok.ensures.new_trunk c.in-Ok.ensures.put c.in-Ok.ensures.trunk.0 c.in-Ok.ensures.trunk.1

pub returns-in-Ok-start_trunk-clause-given : goal.returns-in-Ok-start_trunk-clause-given
returns-in-Ok-start_trunk-clause-given g c =
    let p = g.P.PagesTells in
    let old = c.args.pages.now in
    let mid = c.read_first.new.pages in
    let new = c.start_trunk-then-leaves-most.new.pages in
    let first = c.in-Ok-read_first.ensures.first in
    let put = c.in-Ok-start_trunk.ensures.put in
    gives_trunk p old mid new c.args.free.now c.start_trunk-then-leaves-most.new.free c.args.page c.start_trunk-then-leaves-most.new.buf (p.follows_on)
    c.in-Ok-read_first.ensures.reading
    (begins_well p old mid new c.args.free.now c.in-Ok-read_first.leaves c.read_first.new.buf (λ world told. put.edits.narrows world told) first)
    (inr (is_full p old mid new c.args.free.now c.in-Ok-read_first.leaves c.read_first.new.buf first (λ world told. put.edits.narrows world told)
    (omega (arith, c.if-leaves-most.true, c.most_put-most.ensures, c.usable.ensures.value))))
    (inr (omega (arith, first.fewer), first.read)) c.in-Ok-start_trunk.ensures.new_trunk put c.in-Ok-start_trunk.ensures.trunk.0 c.in-Ok-start_trunk.ensures.trunk.1

pub returns-clause-given : goal.returns-clause-given
returns-clause-given g c =
    let p = g.P.PagesTells in
    let old = c.args.pages.now in
    gives_leaf p old c.read_first.new.pages c.put.new.self c.args.free.now _ c.args.page c.in-Ok-read_first.leaves c.read_first.new.buf c.put_u32.new.to c.put_u32-2.new.to
    (p.follows_on) c.in-Ok-read_first.ensures.reading c.in-Ok-read_first.ensures.first
    (omega (arith, c.if-leaves-most.false, c.most_put-most.ensures, c.usable.ensures.value))
    c.put_u32.ensures.value c.put_u32.ensures.others c.put_u32-2.ensures.value c.put_u32-2.ensures.others c.in-Ok-put.ensures refl refl

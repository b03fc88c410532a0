use Rattle.std.proofs.Common.{◌<◌, ◌-◌, ℕ, refl, subst, inl, inr, arith}
use Rattle.tree_spec.specs.Freelist.{numbers_at}
use Rattle.freelist.specs.Walking.{IsOut, ListsTooMany}
use Rattle.freelist.specs.Changing.{BreaksTaking}
use Rattle.freelist.proofs.Changed.{bars_wider, bars_first, last_leaf, takes_not, takes_leaf}
use Rattle.freelist.proofs.takes.take_one.Goals as goal

pub returns-in-Err-clause-taken : goal.returns-in-Err-clause-taken
returns-in-Err-clause-taken g c =
    let p = g.P.PagesTells in
    let old = c.args.pages.now in
    let free = c.args.free.now in
    takes_not p old c.read_first.new.pages free free c.in-Err.why refl (omega (arith, c.if-free-eq0.false)) c.in-Err.ensures.reading c.in-Err.ensures.read
    (bars_wider p old free (ListsTooMany (p.usable old) free.count) (BreaksTaking (p.last_page old) free.count (p.usable old)) c.read_first.new.pages c.in-Err.why
    (λ trunk many. inl many) c.in-Err.ensures.cause)

pub get_u32-next-requires : goal.get_u32-next-requires
get_u32-next-requires g c = let first = c.in-Ok.ensures.first in omega (arith, first.within)

pub get_u32-page-requires : goal.get_u32-page-requires
get_u32-page-requires g c = let first = c.in-Ok.ensures.first in omega (arith, first.within, c.if-leaves-eq0.false)

pub put_u32-requires : goal.put_u32-requires
put_u32-requires g c = let first = c.in-Ok.ensures.first in omega (arith, first.within)

pub returns-then-is_outside-clause-taken : goal.returns-then-is_outside-clause-taken
returns-then-is_outside-clause-taken g c =
    let p = g.P.PagesTells in
    let old = c.args.pages.now in
    let free = c.args.free.now in
    let first = c.in-Ok.ensures.first in
    let buf = c.read_first.new.buf in
    let some : 0 < c.in-Ok.leaves = omega (arith, c.if-leaves-eq0.false) in
    takes_not p old c.read_first.new.pages free free _ refl (omega (arith, first.fewer)) c.in-Ok.ensures.reading c.in-Ok.ensures.read
    (bars_first p old free (BreaksTaking (p.last_page old) free.count (p.usable old)) c.read_first.new.pages buf (omega (arith, first.fewer)) first.shows
    (inr (inl (
      numbers_at buf 8 (c.in-Ok.leaves - 1),
      c.get_u32-page.result,
      last_leaf buf c.in-Ok.leaves c.get_u32-page.result first.leaves_are some c.get_u32-page.ensures,
      subst (λ (n : ℕ). IsOut n c.get_u32-page.result) c.last-last.ensures (c.is_outside.ensures.outside c.if-is_outside.true),
    ))))

pub returns-clause-taken : goal.returns-clause-taken
returns-clause-taken g c =
    let p = g.P.PagesTells in
    let old = c.args.pages.now in
    let first = c.in-Ok.ensures.first in
    let inside = c.is_outside.ensures.inside c.if-is_outside.false in
    takes_leaf p old c.read_first.new.pages c.put.new.self c.args.free.now _ c.in-Ok.leaves c.get_u32-page.result c.read_first.new.buf c.put_u32.new.to (p.follows_on)
    c.in-Ok.ensures.reading first (omega (arith, c.if-leaves-eq0.false)) c.get_u32-page.ensures inside.0 (omega (arith, inside.1, c.last-last.ensures))
    c.put_u32.ensures.value c.put_u32.ensures.others c.in-Ok-put.ensures refl refl

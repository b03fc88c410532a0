use Rattle.std.proofs.Common.{◌≡◌, ◌∙◌, ℕ, ◌<◌, ◌≤◌, List, refl, sym, subst, ap, inl, arith}
use Rattle.page_spec.specs.Bytes.{u32_at}
use Rattle.page_face.proofs.PageLaws.{free_same}
use Rattle.freelist.specs.declared.free.Free.{Free}
use Rattle.overlay.specs.Overlay.{OverlayState, over_change, first_in_overlay}
use Rattle.overlay.specs.FreeNumbers.{trunk_field, count_field}
use Rattle.overlay.specs.BehindLaws.{was_read_itself, still_itself}
use Rattle.overlay.specs.Named.{IsNamedIn}
use Rattle.overlay.proofs.SamePages.{editing_same}
use Rattle.overlay.proofs.FirstPut.{own_first, since_first}
use Rattle.overlay.proofs.Readied.{made_after}
use Rattle.overlay.proofs.TakesFree.{trunk_range}
use Rattle.overlay.proofs.making.take_page.Goals as goal

pub returns-then-is_outside : goal.returns-then-is_outside
returns-then-is_outside g c =
    let live = c.args.live.now in
    let told = g.E.EngineTells in
    let old = live.overlay.now in
    let usable = (told.state live.engine.now).usable in
    let some : 1 ≤ old.change.base = subst (λ (n : ℕ). 1 ≤ n) c.requires.ready.base (told.bounds live.engine.now live.pin.now c.requires.ready.hold).1 in
    record {
      made = tt;
      barred = record {
        cause = (omega arith, omega (arith, some));
        exact = λ world may neat.
            let shows = c.requires.shows world may in
            let range = trunk_range usable old.change world c.requires.plain (subst (λ (l : List ℕ). 0 < u32_at l count_field) shows c.requires.some) neat in
            let is : c.get_u32.result ≡ u32_at (over_change old.change world 1) trunk_field =
            c.get_u32.ensures ∙ ap (λ (l : List ℕ). u32_at l trunk_field) (c.deref.ensures.value ∙ shows) in
            c.is_outside.ensures.outside c.if-is_outside.true (omega (arith, is, range.0), omega (arith, is, range.1, c.last.ensures.value));
        last = refl;
        each = λ world may. record { each = λ number. refl; list = free_same _ live world };
      };
      changed = λ world may neat number has. inl has;
      read = λ world may neat number there. inl there;
      edits = editing_same _ live c.requires.ready (refl, was_read_itself told live.engine.now, still_itself live.overlay.now);
    }

pub take_named-requires-clause-named : goal.take_named-requires-clause-named
take_named-requires-clause-named g c =
    let live = c.args.live.now in
    let old = live.overlay.now in
    let first = c.args.first.items in
    let free : Free = record { trunk = c.get_u32.result; count = c.get_u32-2.result } in
    let put : c.put_first.new.live.overlay.now ≡ first_in_overlay old first =
    c.in-Ok.ensures.put ∙ ap (λ (l : List ℕ). first_in_overlay old l) c.deref-3.ensures.value in
    let count_is : u32_at first count_field ≡ c.get_u32-2.result =
    ap (λ (l : List ℕ). u32_at l count_field) (sym c.deref-2.ensures.value) ∙ sym c.get_u32-2.ensures in
    let inside = c.is_outside.ensures.inside c.if-is_outside.false in
    subst (λ (o : OverlayState). IsNamedIn o first free) (sym put) (record {
      base = c.put_first.ensures.base;
      own = own_first old first c.put_first.ensures.base;
      since = since_first old first;
      trunk = ap (λ (l : List ℕ). u32_at l trunk_field) (sym c.deref.ensures.value) ∙ sym c.get_u32.ensures;
      count = count_is;
      some = subst (λ (n : ℕ). 0 < n) count_is c.requires.some;
      low = inside.0;
      high = omega (arith, inside.1, c.last.ensures.value);
    })

pub returns : goal.returns
returns g c = made_after _ c.args.live.now c.put_first.new.live c.take_named.new.live c.take_named.result c.put_first.ensures.ready c.take_named.ensures

use Rattle.std.proofs.Common.{◌≡◌, ◌∙◌, refl, sym, subst, ap, arith}
use Rattle.overlay.specs.Overlay.{OverlayState, has_own_image, over_change, last_page, with_own}
use Rattle.overlay.specs.Live.{IsOfPin}
use Rattle.overlay.specs.Behind.{IsStill}
use Rattle.overlay.specs.BehindLaws.{was_read_itself, still_itself}
use Rattle.overlay.proofs.Writing.{over_put, has_put, has_still, still_put, of_pin_put}
use Rattle.overlay.proofs.Listing.{KeepsFreeOver, same_over}
use Rattle.overlay.proofs.FreeOver.{keeps_put}
use Rattle.overlay.proofs.live.LivePutPages.put.Goals as goal

pub returns-in-Ok : goal.returns-in-Ok
returns-in-Ok g c =
    let live = c.args.self.now in
    let told = g.E.EngineTells in
    let old = live.overlay.now in
    let page = c.args.page in
    let bytes = c.args.bytes.now in
    let usable = (told.state live.engine.now).usable in
    let is = c.in-Ok.ensures.ok in
    let reads : c.put.new.self.reads ≡ old.reads = ap (λ (o : OverlayState). o.reads) is in
    let last : last_page (with_own old.change page bytes) ≡ last_page old.change =
    sym (ap (λ (o : OverlayState). last_page o.change) is) ∙ c.put.ensures.last in
    record {
      put = λ world may. record {
        each = λ number. ap (λ (o : OverlayState). over_change o.change world number) is ∙ over_put old.change page bytes world number;
        list = λ used neat fields.
            let kept = subst (λ (o : OverlayState). KeepsFreeOver usable usable old.change o.change world) (sym is)
            (keeps_put usable old.change page bytes world last used neat fields) in
            record { stay = kept.stay; none_more = kept.none_more; neat = kept.neat; spare = kept.spare; no_more_spare = kept.no_more_spare };
      };
      has = λ number. ap (λ (o : OverlayState). has_own_image o.change number) is ∙ has_put old.change page bytes number;
      refused = tt;
      cause = tt;
      tells = λ world. (rw reads (λ may. may), rw reads (λ may. may));
      last = c.put.ensures.last;
      reads = reads;
      edits = record {
        narrows = λ world. rw reads (λ may. may);
        last = (let same = c.put.ensures.last in omega arith);
        has = λ number has. ap (λ (o : OverlayState). has_own_image o.change number) is ∙ has_still old.change page bytes number has;
        reads = λ number there. rw reads there;
        ready = subst (λ (o : OverlayState). IsOfPin told live.engine.now live.pin.now o) (sym is)
            (of_pin_put told live.engine.now live.pin.now old c.requires.ready page bytes c.requires.whole);
        page_size = refl;
        usable = refl;
        faults = omega arith;
        loans = refl;
        follows = (refl, was_read_itself told live.engine.now, subst (IsStill old) (sym is) (still_put old page bytes));
      };
    }

pub returns-in-Err : goal.returns-in-Err
returns-in-Err g c =
    let live = c.args.self.now in
    let told = g.E.EngineTells in
    let old = live.overlay.now in
    let usable = (told.state live.engine.now).usable in
    let is = c.in-Err.ensures.err in
    let reads : c.put.new.self.reads ≡ old.reads = ap (λ (o : OverlayState). o.reads) is in
    let last : last_page c.put.new.self.change ≡ last_page old.change = ap (λ (o : OverlayState). last_page o.change) is in
    record {
      put = tt;
      has = tt;
      refused = record {
        each = λ world may. let kept = same_over usable usable old.change c.put.new.self.change world refl (ap (λ (o : OverlayState). o.change) is) in record {
          each = λ number. ap (λ (o : OverlayState). over_change o.change world number) is;
          list = record { stay = kept.stay; none_more = kept.none_more; neat = kept.neat; spare = kept.spare; no_more_spare = kept.no_more_spare };
        };
        last = last;
        has = λ number. ap (λ (o : OverlayState). has_own_image o.change number) is;
        edits = record {
          narrows = λ world. rw reads (λ may. may);
          last = omega (arith, last);
          has = λ number has. ap (λ (o : OverlayState). has_own_image o.change number) is ∙ has;
          reads = λ number there. rw reads there;
          ready = subst (λ (o : OverlayState). IsOfPin told live.engine.now live.pin.now o) (sym is) c.requires.ready;
          page_size = refl;
          usable = refl;
          faults = omega arith;
          loans = refl;
          follows = (refl, was_read_itself told live.engine.now, subst (IsStill old) (sym is) (still_itself old));
        };
      };
      cause = tt;
      tells = λ world. (rw reads (λ may. may), rw reads (λ may. may));
      last = last;
      reads = reads;
      edits = record {
        narrows = λ world. rw reads (λ may. may);
        last = omega (arith, last);
        has = λ number has. ap (λ (o : OverlayState). has_own_image o.change number) is ∙ has;
        reads = λ number there. rw reads there;
        ready = subst (λ (o : OverlayState). IsOfPin told live.engine.now live.pin.now o) (sym is) c.requires.ready;
        page_size = refl;
        usable = refl;
        faults = omega arith;
        loans = refl;
        follows = (refl, was_read_itself told live.engine.now, subst (IsStill old) (sym is) (still_itself old));
      };
    }

use Rattle.std.proofs.Common.{◌≡◌, ◌∙◌, ℕ, List, refl, sym, subst, ap, inl, arith}
use Rattle.std.specs.Prelude.{Contains}
use Rattle.overlay.specs.Overlay.{OverlayState, has_own_image, over_change, last_page}
use Rattle.overlay.specs.FreeNumbers.{IsFreeOver, IsNeatOver, SparesOver}
use Rattle.overlay.specs.Live.{IsOfPin}
use Rattle.overlay.specs.Behind.{IsStill}
use Rattle.overlay.specs.BehindLaws.{was_read_itself, still_itself}
use Rattle.overlay.proofs.Writing.{of_pin_freed}
use Rattle.overlay.proofs.Listing.{same_over}
use Rattle.overlay.proofs.FreeOver.{given_free, given_stay, given_none_more, given_neat}
use Rattle.overlay.proofs.live.LiveEditPages.give_up.Goals as goal

pub returns-in-Ok : goal.returns-in-Ok
returns-in-Ok g c =
    let live = c.args.self.now in
    let told = g.E.EngineTells in
    let old = live.overlay.now in
    let usable = (told.state live.engine.now).usable in
    let page = c.args.page in
    let is = c.in-Ok.ensures.ok in
    let reads : c.give_up.new.self.reads ≡ old.reads = ap (λ (o : OverlayState). o.reads) is in
    let last : last_page c.give_up.new.self.change ≡ last_page old.change = ap (λ (o : OverlayState). last_page o.change) is in
    record {
      given = λ world may. record {
        given = subst (λ (o : OverlayState). IsFreeOver usable o.change world page) (sym is) (given_free usable old.change page world);
        stay = λ number free. subst (λ (o : OverlayState). IsFreeOver usable o.change world number) (sym is)
            (given_stay usable old.change page world number free);
        none_more = λ number apart free. given_none_more usable old.change page world number apart
            (subst (λ (o : OverlayState). IsFreeOver usable o.change world number) is free);
        each = λ number apart unfree. ap (λ (o : OverlayState). over_change o.change world number) is;
        neat = λ used neat. subst (λ (o : OverlayState). IsNeatOver usable o.change world) (sym is)
            (given_neat usable old.change page world used neat);
        no_more_spare = λ spare. subst (λ (o : OverlayState). SparesOver o.change world) is spare;
      };
      refused = tt;
      cause = tt;
      last = last;
      changed = λ world may neat number has. inl (sym (ap (λ (o : OverlayState). has_own_image o.change number) is) ∙ has);
      read = λ world may neat number there. inl (subst (λ (set : List ℕ). Contains set number) reads there);
      edits = record {
        narrows = λ world. rw reads (λ may. may);
        last = omega (arith, last);
        has = λ number has. ap (λ (o : OverlayState). has_own_image o.change number) is ∙ has;
        reads = λ number there. rw reads there;
        ready = subst (λ (o : OverlayState). IsOfPin told live.engine.now live.pin.now o) (sym is)
            (of_pin_freed told live.engine.now live.pin.now old c.requires.ready page);
        page_size = refl;
        usable = refl;
        faults = omega arith;
        loans = refl;
        follows = (
          refl,
          was_read_itself told live.engine.now,
          subst (IsStill old) (sym is) (record { snap = refl; mode = refl; base = refl; marked = refl; since = λ number there. there; wrote = refl }),
        );
      };
    }

pub returns-in-Err : goal.returns-in-Err
returns-in-Err g c =
    let live = c.args.self.now in
    let told = g.E.EngineTells in
    let old = live.overlay.now in
    let usable = (told.state live.engine.now).usable in
    let is = c.in-Err.ensures.err in
    let reads : c.give_up.new.self.reads ≡ old.reads = ap (λ (o : OverlayState). o.reads) is in
    let last : last_page c.give_up.new.self.change ≡ last_page old.change = ap (λ (o : OverlayState). last_page o.change) is in
    record {
      given = tt;
      refused = λ world may. let kept = same_over usable usable old.change c.give_up.new.self.change world refl (ap (λ (o : OverlayState). o.change) is) in record {
        each = λ number. ap (λ (o : OverlayState). over_change o.change world number) is;
        list = record { stay = kept.stay; none_more = kept.none_more; neat = kept.neat; spare = kept.spare; no_more_spare = kept.no_more_spare };
      };
      cause = tt;
      last = last;
      changed = λ world may neat number has. inl (sym (ap (λ (o : OverlayState). has_own_image o.change number) is) ∙ has);
      read = λ world may neat number there. inl (subst (λ (set : List ℕ). Contains set number) reads there);
      edits = record {
        narrows = λ world. rw reads (λ may. may);
        last = omega (arith, last);
        has = λ number has. ap (λ (o : OverlayState). has_own_image o.change number) is ∙ has;
        reads = λ number there. rw reads there;
        ready = subst (λ (o : OverlayState). IsOfPin told live.engine.now live.pin.now o) (sym is) c.requires.ready;
        page_size = refl;
        usable = refl;
        faults = omega arith;
        loans = refl;
        follows = (refl, was_read_itself told live.engine.now, subst (IsStill old) (sym is) (still_itself old));
      };
    }

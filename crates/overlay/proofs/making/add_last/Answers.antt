use Rattle.std.proofs.Common.{◌≡◌, ◌∙◌, ℕ, ◌+◌, ◌*◌, ◌<◌, ◌≤◌, List, refl, sym, subst, ap, inl, inr, arith}
use Rattle.std.specs.Prelude.{Contains}
use Rattle.page_spec.specs.Header.{database_limit}
use Rattle.page_spec.specs.View.{but_freelist}
use Rattle.page_face.proofs.PageLaws.{free_same}
use Rattle.overlay.specs.Overlay.{OverlayState, has_own_image, over_change, last_page, with_new}
use Rattle.overlay.specs.FreeNumbers.{greatest_page, IsFreeOver, IsNeatOver, SparesOver}
use Rattle.overlay.specs.Live.{MayBeRead, IsOfPin}
use Rattle.overlay.specs.Behind.{IsStill}
use Rattle.overlay.specs.BehindLaws.{was_read_itself, still_itself}
use Rattle.overlay.proofs.SamePages.{editing_same}
use Rattle.overlay.proofs.Writing.{over_made, has_made, has_before, free_made, unfree_made, of_pin_new}
use Rattle.overlay.proofs.Listing.{same_over}
use Rattle.overlay.proofs.FreeOver.{made_listed, made_taken}
use Rattle.overlay.proofs.making.add_last.Goals as goal

pub returns-then-is_over : goal.returns-then-is_over
returns-then-is_over g c =
    let live = c.args.live.now in
    let told = g.E.EngineTells in
    let pages : c.from-pages.result + 1 ≡ last_page live.overlay.now.change + 1 = omega (arith, c.from-pages.ensures, c.last.ensures.value) in
    let over = subst (λ (size : ℕ). database_limit < (c.from-pages.result + 1) * size) c.page_size-size.ensures (c.is_over.ensures.over c.if-is_over.true) in
    record {
      made = tt;
      barred = record {
        cause = (pages, over);
        exact = λ world may neat spare. c.requires.none world may spare;
        last = refl;
        each = λ world may. record { each = λ number. refl; list = free_same _ live world };
      };
      changed = λ world may neat number has. inl has;
      read = λ world may neat number there. inl there;
      edits = editing_same _ live c.requires.ready (refl, was_read_itself told live.engine.now, still_itself live.overlay.now);
    }

pub returns-in-Ok : goal.returns-in-Ok
returns-in-Ok g c =
    let live = c.args.live.now in
    let told = g.E.EngineTells in
    let old = live.overlay.now in
    let usable = (told.state live.engine.now).usable in
    let size = c.page_size-size.result in
    let page = c.in-Ok.page in
    let is = c.in-Ok.ensures.ok in
    let page_is : page ≡ last_page old.change + 1 = c.in-Ok.ensures.page in
    let last : last_page (with_new old.change size) ≡ last_page old.change + 1 =
    sym (ap (λ (o : OverlayState). last_page o.change) is) ∙ (c.in-Ok.ensures.last ∙ page_is) in
    let reads : c.add_page.new.self.reads ≡ old.reads = ap (λ (o : OverlayState). o.reads) is in
    let some : 1 ≤ old.change.base = subst (λ (n : ℕ). 1 ≤ n) c.requires.ready.base (told.bounds live.engine.now live.pin.now c.requires.ready.hold).1 in
    let few : page ≤ greatest_page = omega (arith, page_is, c.from-pages.ensures, c.last.ensures.value, c.is_over.ensures.few c.if-is_over.false) in
    let fits : page * (told.state live.engine.now).page_size ≤ database_limit =
    subst (λ (n : ℕ). n * (told.state live.engine.now).page_size ≤ database_limit) (omega (arith, page_is, c.from-pages.ensures, c.last.ensures.value))
    (subst (λ (n : ℕ). (c.from-pages.result + 1) * n ≤ database_limit) c.page_size-size.ensures (c.is_over.ensures.within c.if-is_over.false)) in
    let order = c.last.ensures.kept.change in
    record {
      made = record {
        above = omega (arith, page_is, some);
        last = c.in-Ok.ensures.last ∙ omega (arith, page_is);
        fits = λ past. (page_is, fits);
        taken = λ world may neat.
            let may_then : MayBeRead (told.map_at live.engine.now live.pin.now) old.reads world =
            subst (λ (set : List ℕ). MayBeRead (told.map_at live.engine.now live.pin.now) set world) reads may in
            let same = made_listed usable old.change size world some neat in
            record {
              was_free = inl (inl (omega (arith, page_is), few));
              taken = λ free. made_taken usable old.change size world last order
                  (subst (λ (n : ℕ). IsFreeOver usable (with_new old.change size) world n) page_is
                  (subst (λ (o : OverlayState). IsFreeOver usable o.change world page) is free));
              stay = λ number apart free. subst (λ (o : OverlayState). IsFreeOver usable o.change world number) (sym is)
                  (elim free [
                    | inl own ↦ inl (free_made old.change size last number (λ e. apart (e ∙ sym page_is)) own)
                    | inr listed ↦ inr (same.stay number listed)
                  ]);
              none_more = λ number free. elim (subst (λ (o : OverlayState). IsFreeOver usable o.change world number) is free) [
                | inl own ↦ inl (unfree_made old.change size last number own)
                | inr listed ↦ inr (same.none_more number listed)
              ];
              each = λ number above unfree. ap (λ (o : OverlayState). over_change o.change world number) is
                  ∙ over_made old.change size world number (λ e. unfree (inl (inl (omega (arith, e), omega (arith, e, page_is, few)))));
              first = ap but_freelist (ap (λ (o : OverlayState). over_change o.change world 1) is ∙ over_made old.change size world 1 (λ e. omega (arith, e, some)));
              neat = subst (λ (o : OverlayState). IsNeatOver usable o.change world) (sym is) same.neat;
              spared = λ spare. absurd (c.requires.none world may_then spare);
              grown = λ none. page_is;
              no_more_spare = λ spare. same.no_more_spare (subst (λ (o : OverlayState). SparesOver o.change world) is spare);
            };
      };
      barred = tt;
      changed = λ world may neat number has. elim (has_before old.change size last number (sym (ap (λ (o : OverlayState). has_own_image o.change number) is) ∙ has)) [
        | inl was ↦ inl was
        | inr same ↦ inr (inl (inl (inl (omega (arith, same), omega (arith, same, page_is, few)))))
      ];
      read = λ world may neat number there. inl (subst (λ (set : List ℕ). Contains set number) reads there);
      edits = record {
        narrows = λ world. rw reads (λ may. may);
        last = omega (arith, c.in-Ok.ensures.last, page_is);
        has = λ number has. ap (λ (o : OverlayState). has_own_image o.change number) is ∙ has_made old.change size number has;
        reads = λ number there. rw reads there;
        ready = subst (λ (o : OverlayState). IsOfPin told live.engine.now live.pin.now o) (sym is)
            (subst (λ (n : ℕ). IsOfPin told live.engine.now live.pin.now (record old { change = with_new old.change n })) (sym c.page_size-size.ensures)
            (of_pin_new told live.engine.now live.pin.now old c.requires.ready));
        page_size = refl;
        usable = refl;
        faults = omega arith;
        loans = refl;
        follows = (
          refl,
          was_read_itself told live.engine.now,
          subst (IsStill old) (sym is) (record { snap = refl; mode = refl; base = refl; marked = refl; since = λ number there. there; wrote = refl }),
        );
      };
    }

pub returns-in-Err : goal.returns-in-Err
returns-in-Err g c =
    let live = c.args.live.now in
    let told = g.E.EngineTells in
    let old = live.overlay.now in
    let usable = (told.state live.engine.now).usable in
    let is = c.in-Err.ensures.err in
    let reads : c.add_page.new.self.reads ≡ old.reads = ap (λ (o : OverlayState). o.reads) is in
    let last : last_page c.add_page.new.self.change ≡ last_page old.change = ap (λ (o : OverlayState). last_page o.change) is in
    record {
      made = tt;
      barred = record {
        cause = tt;
        exact = λ world may neat. tt;
        last = last;
        each = λ world may. let kept = same_over usable usable old.change c.add_page.new.self.change world refl (ap (λ (o : OverlayState). o.change) is) in record {
          each = λ number. ap (λ (o : OverlayState). over_change o.change world number) is;
          list = record { stay = kept.stay; none_more = kept.none_more; neat = kept.neat; spare = kept.spare; no_more_spare = kept.no_more_spare };
        };
      };
      changed = λ world may neat number has. inl (sym (ap (λ (o : OverlayState). has_own_image o.change number) is) ∙ has);
      read = λ world may neat number there. inl (subst (λ (set : List ℕ). Contains set number) reads there);
      edits = record {
        narrows = λ world. rw reads (λ may. may);
        last = omega (arith, last);
        has = λ number has. ap (λ (o : OverlayState). has_own_image o.change number) is ∙ has;
        reads = λ number there. rw reads there;
        ready = subst (λ (o : OverlayState). IsOfPin told live.engine.now live.pin.now o) (sym is) c.requires.ready;
        page_size = refl;
        usable = refl;
        faults = omega arith;
        loans = refl;
        follows = (refl, was_read_itself told live.engine.now, subst (IsStill old) (sym is) (still_itself old));
      };
    }

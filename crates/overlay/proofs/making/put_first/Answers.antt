use Rattle.std.proofs.Common.{◌≡◌, ◌∙◌, ℕ, ◌<◌, ◌≤◌, List, refl, sym, subst, ap, inl, inr, arith}
use Rattle.std.specs.Prelude.{Contains}
use Rattle.page_spec.specs.Bytes.{u32_at}
use Rattle.page_spec.specs.View.{View}
use Rattle.engine_spec.specs.declared.commits.Mode.{Mode}
use Rattle.overlay.specs.Overlay.{OverlayState, has_own_image, over_change, last_page, first_in_overlay}
use Rattle.overlay.specs.FreeNumbers.{count_field, HasListed}
use Rattle.overlay.specs.Live.{MayBeRead, IsOfPin}
use Rattle.overlay.specs.Behind.{IsStill}
use Rattle.overlay.specs.BehindLaws.{was_read_itself, still_itself}
use Rattle.overlay.proofs.Writing.{over_first, has_first, first_keeps, still_first, of_pin_first}
use Rattle.overlay.proofs.Listing.{same_over}
use Rattle.overlay.proofs.TakesFree.{keeps_over}
use Rattle.overlay.proofs.FirstPut.{same_first}
use Rattle.overlay.proofs.making.put_first.Goals as goal

pub put_first-requires : goal.put_first-requires
put_first-requires g c =
    let live = c.args.live.now in
    subst (λ (n : ℕ). 1 ≤ n) c.requires.ready.base (g.E.EngineTells.bounds live.engine.now live.pin.now c.requires.ready.hold).1

pub returns-in-Ok-clause-base : goal.returns-in-Ok-clause-base
returns-in-Ok-clause-base g c =
    let live = c.args.live.now in
    subst (λ (n : ℕ). 1 ≤ n) c.requires.ready.base (g.E.EngineTells.bounds live.engine.now live.pin.now c.requires.ready.hold).1

pub returns-in-Err-clause-base : goal.returns-in-Err-clause-base
returns-in-Err-clause-base g c =
    let live = c.args.live.now in
    subst (λ (n : ℕ). 1 ≤ n) c.requires.ready.base (g.E.EngineTells.bounds live.engine.now live.pin.now c.requires.ready.hold).1

pub returns-in-Ok-clause-ready : goal.returns-in-Ok-clause-ready
returns-in-Ok-clause-ready g c =
    let live = c.args.live.now in
    let told = g.E.EngineTells in
    let old = live.overlay.now in
    let first = c.args.first.now in
    let new = c.put_first.new.self in
    let usable = (told.state live.engine.now).usable in
    let is : new ≡ first_in_overlay old first = c.in-Ok.ensures.ok in
    let some : 1 ≤ old.change.base = subst (λ (n : ℕ). 1 ≤ n) c.requires.ready.base (told.bounds live.engine.now live.pin.now c.requires.ready.hold).1 in
    let reads : new.reads ≡ old.reads = ap (λ (o : OverlayState). o.reads) is in
    let last : last_page new.change ≡ last_page old.change = ap (λ (o : OverlayState). last_page o.change) is in
    let shows : (world : View) → MayBeRead (told.map_at live.engine.now live.pin.now) new.reads world → first ≡ over_change old.change world 1 =
    λ world may. c.requires.shows world (subst (λ (set : List ℕ). MayBeRead (told.map_at live.engine.now live.pin.now) set world) reads may) in
    let each : (world : View) → MayBeRead (told.map_at live.engine.now live.pin.now) new.reads world
    → (number : ℕ) → over_change new.change world number ≡ over_change old.change world number = λ world may number.
    ap (λ (o : OverlayState). over_change o.change world number) is
    ∙ (over_first old first world number some ∙ same_first (over_change old.change world) first number (shows world may)) in
    record {
      each = λ world may.
          let kept = keeps_over usable usable old.change new.change world refl (ap (λ (o : OverlayState). o.change.mode) is)
          (ap (λ (o : OverlayState). o.change.base) is) last (ap (λ (o : OverlayState). o.change.freed) is) (each world may) in
          record {
            each = each world may;
            list = record { stay = kept.stay; none_more = kept.none_more; neat = kept.neat; spare = kept.spare; no_more_spare = kept.no_more_spare };
          };
      last = last;
      has = λ world may neat number has. elim (has_first old first number (sym (ap (λ (o : OverlayState). has_own_image o.change number) is) ∙ has)) [
        | inl was ↦ inl was
        | inr same ↦
            inr (inr (
              subst (λ (m : Mode). HasListed m (over_change old.change world)) (sym c.requires.plain)
                  (subst (λ (l : List ℕ). 0 < u32_at l count_field) (shows world may) c.requires.some),
              same,
            ))
      ];
      read = λ number there. subst (λ (set : List ℕ). Contains set number) reads there;
      edits = record {
        narrows = λ world. rw reads (λ may. may);
        last = omega (arith, last);
        has = λ number has. ap (λ (o : OverlayState). has_own_image o.change number) is ∙ first_keeps old first number has;
        reads = λ number there. rw reads there;
        ready = subst (λ (o : OverlayState). IsOfPin told live.engine.now live.pin.now o) (sym is)
            (of_pin_first told live.engine.now live.pin.now old c.requires.ready first c.requires.whole);
        page_size = refl;
        usable = refl;
        faults = omega arith;
        loans = refl;
        follows = (refl, was_read_itself told live.engine.now, subst (IsStill old) (sym is) (still_first old first));
      };
    }

pub returns-in-Err-clause-ready : goal.returns-in-Err-clause-ready
returns-in-Err-clause-ready g c =
    let live = c.args.live.now in
    let told = g.E.EngineTells in
    let old = live.overlay.now in
    let new = c.put_first.new.self in
    let usable = (told.state live.engine.now).usable in
    let is : new ≡ old = c.in-Err.ensures.err in
    let reads : new.reads ≡ old.reads = ap (λ (o : OverlayState). o.reads) is in
    let last : last_page new.change ≡ last_page old.change = ap (λ (o : OverlayState). last_page o.change) is in
    record {
      each = λ world may. let kept = same_over usable usable old.change new.change world refl (ap (λ (o : OverlayState). o.change) is) in record {
        each = λ number. ap (λ (o : OverlayState). over_change o.change world number) is;
        list = record { stay = kept.stay; none_more = kept.none_more; neat = kept.neat; spare = kept.spare; no_more_spare = kept.no_more_spare };
      };
      last = last;
      has = λ world may neat number has. inl (sym (ap (λ (o : OverlayState). has_own_image o.change number) is) ∙ has);
      read = λ number there. subst (λ (set : List ℕ). Contains set number) reads there;
      edits = record {
        narrows = λ world. rw reads (λ may. may);
        last = omega (arith, last);
        has = λ number has. ap (λ (o : OverlayState). has_own_image o.change number) is ∙ has;
        reads = λ number there. rw reads there;
        ready = subst (λ (o : OverlayState). IsOfPin told live.engine.now live.pin.now o) (sym is) c.requires.ready;
        page_size = refl;
        usable = refl;
        faults = omega arith;
        loans = refl;
        follows = (refl, was_read_itself told live.engine.now, subst (IsStill old) (sym is) (still_itself old));
      };
    }

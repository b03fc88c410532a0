use Rattle.std.proofs.Common.{◌≡◌, ℕ, List, ◌∷◌, refl, sym, subst, ap, arith, ◌∙◌}
use Rattle.engine_spec.specs.Change.{Change}
use Rattle.overlay.specs.Overlay.{OverlayState, has_own_image, over_change, last_page}
use Rattle.overlay.specs.Live.{IsOfPin}
use Rattle.overlay.specs.Behind.{IsStill}
use Rattle.overlay.specs.BehindLaws.{still_noted}
use Rattle.overlay.proofs.Reading.{read_page_size, read_usable, read_faults, of_pin_read, of_pin_noted}
use Rattle.overlay.proofs.own.OwnPagesPages.fetch.Goals as goal

pub returns : goal.returns
returns g c =
    let live = c.args.self.now in
    let told = g.E.EngineTells in
    let old = live.overlay.now in
    let engine_then = c.fetch_own.new.engine in
    let overlay_then = c.fetch_own.new.overlay in
    let own = c.fetch_own.ensures in
    let read = own.behind in
    let change : overlay_then.change ≡ old.change = ap (λ (o : OverlayState). o.change) own.same in
    let last : last_page overlay_then.change ≡ last_page old.change = ap last_page change in
    record {
      page_is = own.page_is;
      read = own.read;
      unread = own.unread;
      cause = own.cause;
      reading = record {
        each = λ world may. record {
          each = λ number. ap (λ (now : Change). over_change now world number) change;
          list = record { stay = λ number never. never; none_more = λ number never. never; neat = λ neat. neat; spare = λ never. never; no_more_spare = λ never. never };
        };
        last = last;
        has = λ number. ap (λ (now : Change). has_own_image now number) change;
        edits = record {
          narrows = own.narrows;
          last = omega (arith, last);
          has = λ number has. ap (λ (now : Change). has_own_image now number) change ∙ has;
          reads = own.kept;
          ready = subst (IsOfPin told engine_then live.pin.now) (sym own.same)
              (of_pin_noted told engine_then live.pin.now old overlay_then.reads
              (of_pin_read told live.engine.now engine_then live.pin.now old read c.requires.ready));
          page_size = read_page_size told live.engine.now engine_then read;
          usable = read_usable told live.engine.now engine_then read;
          faults = read_faults told live.engine.now engine_then read;
          loans = ap (λ (names : List ℕ). live.overlay.ghost_name ∷ live.engine.ghost_name ∷ names) read.stays.loans;
          follows = (refl, read, subst (IsStill old) (sym own.same) (still_noted old overlay_then.reads), ap (λ (now : Change). now.freed) change);
        };
      };
    }

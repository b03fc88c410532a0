use Rattle.std.proofs.Common.{◌≡◌, ◌∙◌, ℕ, ◌-◌, List, refl, sym, ap, get_or, Ok}
use Rattle.page_spec.specs.PageMap.{PageMap}
use Rattle.engine_spec.specs.Events.{Fetches}
use Rattle.engine_spec.proofs.Here.{during_here}
use Rattle.page_face.proofs.EngineCalls.{stays_same}
use Rattle.memory_engine.specs.Plain.{PlainState, state_of}
use Rattle.memory_engine.proofs.PlainPins.{fetched}
use Rattle.memory_engine.specs.contracts.plain.PlainEngineTells.TheImpl.{ghosts}
use Rattle.memory_engine.proofs.plain.PlainEngine.fetch.Goals as goal

pub returns : goal.returns
returns g c =
    let pages = c.index-pages.result.now in
    let element = c.index-as_slice-page.result in
    let same : c.copy_from_slice.new.self ≡ element = c.copy_from_slice.ensures.after ∙ c.bytes.ensures in
    record {
      page_is = fetched c.args.self.now c.args.pin.now pages c.args.page c.copy_from_slice.new.self c.requires.live
          c.requires.page.0 c.requires.page.1
          (c.index-pages.ensures ∙ ap (λ (s : PlainState). get_or s.maps c.args.pin.now.n c.index-pages.result.now) c.self.view_is)
          (same ∙ c.index-as_slice-page.is ∙ ap (λ (p : PageMap). get_or p (c.args.page - 1) element) c.as_slice.ensures
          ∙ ap (λ (d : List ℕ). get_or pages (c.args.page - 1) d) (sym same));
      event = during_here (state_of c.args.self.now) (λ mid. Fetches mid (Ok tt) (state_of c.args.self.now)) refl;
      stays = stays_same (ghosts g.row.M g.M.Means g.M.Means-dict) c.args.self.now;
      runs = λ first runs. runs;
    }

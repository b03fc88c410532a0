use Rattle.std.proofs.Common.{◌≡◌, ◌∙◌, ℕ, ◌≤◌, List, refl, sym, subst, ap}
use Rattle.engine_spec.specs.PageSet.{with_page}
use Rattle.engine_spec.proofs.PageSets.{with_keeps}
use Rattle.overlay.specs.Overlay.{OverlayState}
use Rattle.overlay.specs.BehindLaws.{was_read_itself}
use Rattle.overlay.proofs.Reading.{own_whole, own_none, over_own, over_none, read_is, may_before, fetched_read}
use Rattle.overlay.proofs.own.fetch_own.Goals as goal

pub copy_from_slice-requires : goal.copy_from_slice-requires
copy_from_slice-requires g c =
    c.requires.room ∙ sym (own_whole c.args.overlay.now.change _ c.args.page c.in-Some.bytes.now c.requires.ready.whole c.in-Some.ensures.bytes)

pub fetch-requires-clause-page : goal.fetch-requires-clause-page
fetch-requires-clause-page g c = (
  c.requires.page.0,
  subst (λ (size : ℕ). c.args.page ≤ size) (sym c.requires.ready.base)
      (own_none c.args.overlay.now.change c.args.page c.in_default.ensures.kept.change c.requires.page.1 c.in_default.ensures.bytes),
)

pub returns-in-Some : goal.returns-in-Some
returns-in-Some g c =
    let old = c.args.overlay.now in
    let found = c.in-Some.ensures.bytes in
    record {
      page_is = λ world told. c.copy_from_slice.ensures.after ∙ over_own old.change world c.args.page c.in-Some.bytes.now found;
      read = rw found refl;
      unread = tt;
      cause = tt;
      same = refl;
      kept = λ number there. there;
      narrows = λ world may. may;
      behind = was_read_itself g.E.EngineTells c.args.engine.now;
    }

pub returns-in-Ok-note : goal.returns-in-Ok-note
returns-in-Ok-note g c =
    let told = g.E.EngineTells in
    let old = c.args.overlay.now in
    let none = c.in_default.ensures.bytes in
    let is = c.in-Ok-note.ensures.ok in
    let read = fetched_read told c.args.engine.now c.fetch.new.self c.args.pin.now c.args.page c.fetch.result c.fetch.new.buf c.fetch.ensures in
    let map = read.stays.pins.maps c.args.pin.now c.requires.ready.hold in
    let reads : c.note.new.self.reads ≡ with_page old.reads c.args.page = ap (λ (o : OverlayState). o.reads) is in
    record {
      page_is = λ world may.
          read_is _ _ old.reads c.note.new.self.reads c.args.page c.fetch.new.buf world map reads c.in-Ok.ensures.page_is may
          ∙ over_none old.change world c.args.page none;
      read = rw none reads;
      unread = tt;
      cause = tt;
      same = is ∙ ap (λ (set : List ℕ). record old { reads = set }) (sym reads);
      kept = λ number there. rw reads (with_keeps old.reads c.args.page number there);
      narrows = λ world may. may_before _ _ old.reads c.note.new.self.reads c.args.page world map reads may;
      behind = read;
    }

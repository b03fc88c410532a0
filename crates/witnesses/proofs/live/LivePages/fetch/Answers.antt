use Rattle.std.proofs.Common.{◌≡◌, ◌∙◌, ℕ, List, Option, None, Result, refl, sym, subst, ap, arith}
use Rattle.std.specs.Prelude.{slice_get, IfSome, OnOk}
use Rattle.page_spec.specs.PageMap.{PageMap, page_at}
use Rattle.engine_spec.specs.declared.pins.Pin.{Pin}
use Rattle.engine_spec.specs.declared.commits.FetchFault.{FetchFault}
use Rattle.engine_spec.specs.PageSet.{with_page}
use Rattle.engine_spec.specs.State.{EngineState}
use Rattle.engine_spec.proofs.PageSets.{with_keeps}
use Rattle.page_face.specs.Pins.{KeepsPins}
use Rattle.memory_engine.specs.Plain.{PlainState, PlainLive}
use Rattle.memory_engine.specs.PlainLaws.{plain_tells}
use Rattle.witnesses.specs.Live.{put_at, AgreesOn}
use Rattle.witnesses.proofs.Fetched.{read_page, told_before, told_same, ready_on}
use Rattle.witnesses.proofs.live.LivePages.fetch.Goals as goal

pub returns-in-Ok-add : goal.returns-in-Ok-add
returns-in-Ok-add g c =
    let live = c.args.self.now in
    let plain = live.plain in
    let new = c.fetch.new.self in
    let ready = c.requires.ready in
    let keeps = c.fetch.ensures.stays.pins in
    let pins : KeepsPins PlainLive (λ (p : PlainState) (q : Pin). slice_get p.maps q.n) plain new =
    record { hold = keeps.hold; maps = keeps.maps } in
    let same = told_same plain new c.fetch.result c.in-Ok.is c.fetch.ensures.event in
    let found : slice_get new.maps live.pin.n ≡ slice_get plain.maps live.pin.n = keeps.maps live.pin ready.live in
    let none : put_at live.puts c.args.page ≡ None = ap (λ (puts : List (Option (List ℕ))). put_at puts c.args.page) (sym c.as_slice.ensures) ∙ c.in_default.ensures in
    let reads = c.in-Ok-add.ensures.ok in
    let page_is : IfSome (slice_get plain.maps live.pin.n) (λ pages. c.fetch.new.buf ≡ page_at pages c.args.page) =
    subst (λ (r : Result Unit FetchFault). OnOk r (IfSome (slice_get plain.maps live.pin.n) (λ pages. c.fetch.new.buf ≡ page_at pages c.args.page)))
    c.in-Ok.is c.fetch.ensures.page_is in
    record {
      page_is = λ world told.
          rw none
          (read_page (slice_get plain.maps live.pin.n) live.reads c.args.page c.fetch.new.buf world
          (plain_tells plain live.pin ready.live refl) page_is
          (subst (λ (map : Option PageMap). AgreesOn map (with_page live.reads c.args.page) world) found
          (subst (λ (rs : List ℕ). AgreesOn (slice_get new.maps live.pin.n) rs world) reads told)));
      read = rw none reads;
      unread = tt;
      cause = tt;
      reading = record {
        each = λ world told. record {
          each = λ number. refl;
          list = record {
            stay = λ number free. free;
            none_more = λ number free. free;
            neat = λ neat. neat;
            spare = λ spare. spare;
            no_more_spare = λ spare. spare;
          };
        };
        last = refl;
        has = λ number. refl;
        edits = record {
          narrows = λ world told.
              told_before (slice_get plain.maps live.pin.n) live.reads c.args.page world
              (subst (λ (map : Option PageMap). AgreesOn map (with_page live.reads c.args.page) world) found
              (subst (λ (rs : List ℕ). AgreesOn (slice_get new.maps live.pin.n) rs world) reads told));
          last = omega arith;
          has = λ number has. has;
          reads = λ number there. rw reads (with_keeps live.reads c.args.page number there);
          ready = ready_on plain new live.pin live.puts pins same ready;
          page_size = ap (λ (state : EngineState). state.page_size) same;
          usable = ap (λ (state : EngineState). state.usable) same;
          faults = omega arith;
          loans = refl;
          follows = refl;
        };
      };
    }

pub returns-in-Err-add : goal.returns-in-Err-add
returns-in-Err-add g c =
    let live = c.args.self.now in
    let plain = live.plain in
    let new = c.fetch.new.self in
    let ready = c.requires.ready in
    let keeps = c.fetch.ensures.stays.pins in
    let pins : KeepsPins PlainLive (λ (p : PlainState) (q : Pin). slice_get p.maps q.n) plain new =
    record { hold = keeps.hold; maps = keeps.maps } in
    let same = told_same plain new c.fetch.result c.in-Ok.is c.fetch.ensures.event in
    let found : slice_get new.maps live.pin.n ≡ slice_get plain.maps live.pin.n = keeps.maps live.pin ready.live in
    let reads = c.in-Err-add.ensures.err in
    record {
      page_is = tt;
      read = tt;
      unread = reads;
      cause = tt;
      reading = record {
        each = λ world told. record {
          each = λ number. refl;
          list = record {
            stay = λ number free. free;
            none_more = λ number free. free;
            neat = λ neat. neat;
            spare = λ spare. spare;
            no_more_spare = λ spare. spare;
          };
        };
        last = refl;
        has = λ number. refl;
        edits = record {
          narrows = λ world told.
              subst (λ (map : Option PageMap). AgreesOn map live.reads world) found
              (subst (λ (rs : List ℕ). AgreesOn (slice_get new.maps live.pin.n) rs world) reads told);
          last = omega arith;
          has = λ number has. has;
          reads = λ number there. rw reads there;
          ready = ready_on plain new live.pin live.puts pins same ready;
          page_size = ap (λ (state : EngineState). state.page_size) same;
          usable = ap (λ (state : EngineState). state.usable) same;
          faults = omega arith;
          loans = refl;
          follows = refl;
        };
      };
    }

use Rattle.std.proofs.Common.{◌≡◌, ◌∙◌, ◌<◌, length, refl, ap, subst, arith, get_or}
use Rattle.std.proofs.lemmas.Option.{slice_get-get_or}
use Rattle.engine_spec.proofs.Here.{later_same}
use Rattle.memory_engine.specs.Plain.{PlainState, IsPlain, state_of, newest_of}
use Rattle.memory_engine.proofs.PlainPins.{adds_pin, newest_is}
use Rattle.memory_engine.proofs.plain.PlainEngine.begin.Goals as goal

pub returns : goal.returns
returns g c =
    let plain = c.args.self.now in
    let whole : IsPlain plain = subst IsPlain c.self.view_is c.self.invariant in
    let n : c.len-n.result ≡ length plain.history =
    omega (arith, c.len-n.ensures, c.self.inside.history.ok.0, ap (λ (s : PlainState). length s.history) c.self.view_is) in
    let newest : c.index.result.now ≡ newest_of plain =
    newest_is plain c.len-n.result c.index.result.now whole n
    (c.index.ensures ∙ ap (λ (s : PlainState). get_or s.maps c.len-n.result c.index.result.now) c.self.view_is) in
    let size : c.len.result ≡ length (newest_of plain) = c.len.ensures ∙ ap length newest in
    let count : length plain.history < length plain.maps = omega (arith, whole.count) in
    let pins = adds_pin plain _ n size in
    record {
      event = (
        state_of plain,
        later_same (state_of plain),
        (
          state_of plain,
          record { n = n; size = size; lock = refl; generation = refl; mark = refl; after_is = refl },
          later_same (state_of plain),
          rw n (slice_get-get_or plain.maps (length plain.history) _ count),
        ),
      );
      pins = record { added = pins.added; maps = pins.maps };
      runs = λ first runs. runs;
      opened = λ opening opened. opened;
      loans = refl;
    }

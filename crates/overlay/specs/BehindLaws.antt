-- What calls leave of what stands behind a transaction's pages is left of it where nothing happens, and over two calls.
use Rattle.std.specs.Prelude.{◌≡◌, ℕ, ◌++◌, List, Option, None, Some, is_some, Result, Ok, Err}
use Rattle.std.proofs.Common.{refl, sym, subst, ap, ◌∙◌, arith, append_assoc}
use Rattle.disk_face.specs.Steps.{History}
use Rattle.crash_spec.specs.Opening.{grown}
use Rattle.engine_spec.specs.declared.commits.FetchFault.{FetchFault}
use Rattle.engine_spec.specs.State.{Stop, EngineState, During, KeepsStop, GoesOn}
use Rattle.engine_spec.specs.Events.{Fetches}
use Rattle.engine_spec.proofs.Here.{during_here}
use Rattle.page_face.specs.declared.engine_tells.EngineTells.{Ghosts}
use Rattle.page_face.proofs.EngineCalls.{stays_same, stays_join}
use Rattle.overlay.specs.Overlay.{OverlayState}
use Rattle.overlay.specs.Behind.{CountsAtMost, WasRead, IsStill}

-- a place that is there stays, over two times
stop_on : (a b c : Option Stop) → KeepsStop a b → KeepsStop b c → KeepsStop a c
stop_on None b c one two = tt
stop_on (Some stop) b c one two = subst (λ (s : Option Stop). KeepsStop s c) one two

-- a disk goes on over two times
disk_on : (a b c : Option History) → GoesOn a b → GoesOn b c → GoesOn a c
disk_on None b c one two = subst (λ (d : Option History). GoesOn d c) one two
disk_on (Some a) b c (more, one) two =
    let rest : GoesOn (Some (grown more a)) c = subst (λ (d : Option History). GoesOn d c) one two in
    let twice : grown rest.0 (grown more a) ≡ grown (rest.0 ++ more) a = λ i. record { first = a.first; steps = sym (append_assoc rest.0 more a.steps) i } in
    (rest.0 ++ more, rest.1 ∙ ap Some twice)

-- others came twice, and the count of faults may have risen both times
during_on : (a b c : EngineState) → During a (λ mid. CountsAtMost mid b) → During b (λ mid. CountsAtMost mid c) → During a (λ mid. CountsAtMost mid c)
during_on a b c (mid, later, only) (mid_then, later_then, only_then) =
    let begins : b.always_begins ≡ a.always_begins = ap (λ (s : EngineState). s.always_begins) only.1 ∙ later.always_begins in
    let alone : b.alone ≡ a.alone = ap (λ (s : EngineState). s.alone) only.1 ∙ later.alone in (
      record mid_then { faults = a.faults },
      record {
        more = later.more ++ later_then.more;
        grown = later_then.grown
            ∙ (ap (λ (s : EngineState). s.history ++ later_then.more) only.1
            ∙ (ap (λ h. h ++ later_then.more) later.grown ∙ append_assoc a.history later.more later_then.more));
        own = later_then.own ∙ (ap (λ (s : EngineState). s.own) only.1 ∙ later.own);
        told = later_then.told ∙ (ap (λ (s : EngineState). is_some s.newest) only.1 ∙ later.told);
        size = (let same : b.size ≡ mid.size = ap (λ (s : EngineState). s.size) only.1 in omega (arith, later.size, later_then.size));
        stopped = stop_on a.stopped mid.stopped mid_then.stopped later.stopped
            (subst (λ (s : Option Stop). KeepsStop s mid_then.stopped) (ap (λ (s : EngineState). s.stopped) only.1) later_then.stopped);
        faults = omega arith;
        page_size = later_then.page_size ∙ (ap (λ (s : EngineState). s.page_size) only.1 ∙ later.page_size);
        usable = later_then.usable ∙ (ap (λ (s : EngineState). s.usable) only.1 ∙ later.usable);
        always_begins = later_then.always_begins ∙ begins;
        alone = later_then.alone ∙ alone;
        keeps_logs = later_then.keeps_logs ∙ (ap (λ (s : EngineState). is_some s.logs) only.1 ∙ later.keeps_logs);
        logs = λ always. later_then.logs (begins ∙ always) ∙ (ap (λ (s : EngineState). s.logs) only.1 ∙ later.logs always);
        readers = λ always. later_then.readers (begins ∙ always) ∙ (ap (λ (s : EngineState). s.readers) only.1 ∙ later.readers always);
        disk = disk_on a.disk mid.disk mid_then.disk later.disk
            (subst (λ (d : Option History). GoesOn d mid_then.disk) (ap (λ (s : EngineState). s.disk) only.1) later_then.disk);
        nobody = λ none. ap (λ (s : EngineState). record s { faults = a.faults })
            (later_then.nobody (alone ∙ none) ∙ (only.1 ∙ ap (λ (s : EngineState). record s { faults = b.faults }) (later.nobody none)));
      },
      (
        omega (arith, later.faults, only.0, later_then.faults, only_then.0),
        only_then.1,
      ),
    )

-- an engine that stays as it is
pub was_read_itself : {E M : Type 0} (told : Ghosts E M) (engine : E) → WasRead told engine engine
was_read_itself told engine = record {
  stays = stays_same told engine;
  runs = λ first stands. stands;
  state = during_here (told.state engine) (λ mid. CountsAtMost mid (told.state engine)) (omega arith, refl);
}

-- two calls in a row
pub was_read_on : {E M : Type 0} (told : Ghosts E M) (old mid new : E) → WasRead told old mid → WasRead told mid new → WasRead told old new
was_read_on told old mid new one two = record {
  stays = stays_join told old mid new one.stays two.stays;
  runs = λ first stands. two.runs first (one.runs first stands);
  state = during_on (told.state old) (told.state mid) (told.state new) one.state two.state;
}

-- a transaction that stays as it is
pub still_itself : (overlay : OverlayState) → IsStill overlay overlay
still_itself overlay = record { snap = refl; mode = refl; base = refl; marked = refl; since = λ page there. there; wrote = refl }

-- and one that read some pages
pub still_noted : (overlay : OverlayState) (reads : List ℕ) → IsStill overlay (record overlay { reads = reads })
still_noted overlay reads = record { snap = refl; mode = refl; base = refl; marked = refl; since = λ page there. there; wrote = refl }

pub still_on : (old mid new : OverlayState) → IsStill old mid → IsStill mid new → IsStill old new
still_on old mid new one two = record {
  snap = two.snap ∙ one.snap;
  mode = two.mode ∙ one.mode;
  base = two.base ∙ one.base;
  marked = two.marked ∙ one.marked;
  since = λ page there. two.since page (one.since page there);
  wrote = two.wrote ∙ one.wrote;
}

-- a page was fetched, or the disk failed
pub fetch_counts : (before after : EngineState) (result : Result Unit FetchFault) → Fetches before result after → CountsAtMost before after
fetch_counts before after (Ok done) same = subst (CountsAtMost before) (sym same) (omega arith, refl)
fetch_counts before after (Err why) fails = (let rose = fails.1.0 in rose.later, fails.1.1)

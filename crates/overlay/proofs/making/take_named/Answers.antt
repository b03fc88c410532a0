use Rattle.std.proofs.Common.{◌∙◌, ℕ, ◌<◌, List, ◌∷◌, refl, sym, subst, ap, inl, inr, arith}
use Rattle.page_spec.specs.Bytes.{u32_at}
use Rattle.page_spec.specs.View.{View}
use Rattle.overlay.specs.FreeNumbers.{trunk_field, count_field, IsFreeOver, IsNeatOver, SparesOver}
use Rattle.overlay.proofs.Reading.{over_own, read_page_size, read_usable, read_faults}
use Rattle.overlay.proofs.Readied.{outside_neat}
use Rattle.overlay.proofs.TakesFree.{takes_over, trunk_over, named_over, keeps_over}
use Rattle.overlay.proofs.making.take_named.Goals as goal

pub returns-in-Ok : goal.returns-in-Ok
returns-in-Ok g c =
    let live = c.args.live.now in
    let told = g.E.EngineTells in
    let old = live.overlay.now in
    let new = c.take_own.new.own.overlay.now in
    let engine_then = c.take_own.new.own.engine.now in
    let usable = (told.state live.engine.now).usable in
    let usable_then = (told.state engine_then).usable in
    let trunk = c.args.free.trunk in
    let first = c.args.first.items in
    let named = c.requires.named in
    let page = c.in-Ok.page in
    let took = c.in-Ok.ensures.taken in
    let leaves = took.leaves in
    let sizes = read_usable told live.engine.now engine_then leaves.behind in
    let trunk_free : (world : View) → IsNeatOver usable old.change world → IsFreeOver usable old.change world trunk = λ world neat.
    let shows = over_own old.change world 1 first named.own in
    subst (λ (n : ℕ). IsFreeOver usable old.change world n) (ap (λ (b : List ℕ). u32_at b trunk_field) (sym shows) ∙ named.trunk)
    (trunk_over usable old.change world c.requires.plain
    (subst (λ (b : List ℕ). 0 < u32_at b count_field) shows (omega (arith, named.count, named.some))) neat) in
    record {
      made = record {
        above = omega (arith, took.range.0);
        last = leaves.last ∙ omega (arith, took.range.1);
        fits = λ past. absurd (omega (arith, past, took.range.1));
        taken = λ world may neat.
            let named_taken = took.taken world may in
            let free = takes_over usable usable_then trunk page old.change new.change world sizes c.requires.plain leaves.still.mode leaves.still.base
            leaves.last leaves.freed took.range.1 named_taken neat in
            record {
              was_free = free.was_free;
              taken = free.taken;
              stay = free.stay;
              none_more = free.none_more;
              each = λ number above unfree. named_taken.each number above
                  (λ same. unfree (subst (λ (n : ℕ). IsFreeOver usable old.change world n) (sym same) (trunk_free world neat)));
              first = named_taken.first;
              neat = free.neat;
              spared = λ spare. took.range.1;
              grown = λ none. absurd (none free.spare);
              no_more_spare = λ spare. free.spare;
            };
      };
      barred = tt;
      changed = λ world may neat number has. elim (took.changed number has) [
        | inl was ↦ inl was
        | inr same ↦ inr (inl (subst (λ (n : ℕ). IsFreeOver usable old.change world n) (sym same) (trunk_free world neat)))
      ];
      read = λ world may neat number there. elim (took.read number there) [
        | inl was ↦ inl was
        | inr same ↦ inr (subst (λ (n : ℕ). IsFreeOver usable old.change world n) (sym same) (trunk_free world neat))
      ];
      edits = record {
        narrows = leaves.narrows;
        last = omega (arith, leaves.last);
        has = leaves.has;
        reads = leaves.reads;
        ready = leaves.ready;
        page_size = read_page_size told live.engine.now engine_then leaves.behind;
        usable = sizes;
        faults = read_faults told live.engine.now engine_then leaves.behind;
        loans = ap (λ (names : List ℕ). live.overlay.ghost_name ∷ live.engine.ghost_name ∷ names) leaves.behind.stays.loans;
        follows = (refl, leaves.behind, leaves.still);
      };
    }

pub returns-in-Err : goal.returns-in-Err
returns-in-Err g c =
    let live = c.args.live.now in
    let told = g.E.EngineTells in
    let old = live.overlay.now in
    let new = c.take_own.new.own.overlay.now in
    let engine_then = c.take_own.new.own.engine.now in
    let usable = (told.state live.engine.now).usable in
    let usable_then = (told.state engine_then).usable in
    let trunk = c.args.free.trunk in
    let first = c.args.first.items in
    let named = c.requires.named in
    let took = c.in-Err.ensures.taken in
    let leaves = took.leaves in
    let sizes = read_usable told live.engine.now engine_then leaves.behind in
    let trunk_free : (world : View) → IsNeatOver usable old.change world → IsFreeOver usable old.change world trunk = λ world neat.
    let shows = over_own old.change world 1 first named.own in
    subst (λ (n : ℕ). IsFreeOver usable old.change world n) (ap (λ (b : List ℕ). u32_at b trunk_field) (sym shows) ∙ named.trunk)
    (trunk_over usable old.change world c.requires.plain
    (subst (λ (b : List ℕ). 0 < u32_at b count_field) shows (omega (arith, named.count, named.some))) neat) in
    record {
      made = tt;
      barred = record {
        cause = took.cause;
        exact = λ world may neat.
            let list = named_over usable old.change world c.requires.plain neat in
            outside_neat (SparesOver old.change world) (told.state live.engine.now).faults (told.state engine_then).faults c.in-Err.why
            (took.exact world may list.0 list.1);
        last = leaves.last;
        each = λ world may.
            let kept = keeps_over usable usable_then old.change new.change world sizes leaves.still.mode leaves.still.base leaves.last leaves.freed
            (took.back world may) in
            record {
              each = took.back world may;
              list = record { stay = kept.stay; none_more = kept.none_more; neat = kept.neat; spare = kept.spare; no_more_spare = kept.no_more_spare };
            };
      };
      changed = λ world may neat number has. elim (took.changed number has) [
        | inl was ↦ inl was
        | inr same ↦ inr (inl (subst (λ (n : ℕ). IsFreeOver usable old.change world n) (sym same) (trunk_free world neat)))
      ];
      read = λ world may neat number there. elim (took.read number there) [
        | inl was ↦ inl was
        | inr same ↦ inr (subst (λ (n : ℕ). IsFreeOver usable old.change world n) (sym same) (trunk_free world neat))
      ];
      edits = record {
        narrows = leaves.narrows;
        last = omega (arith, leaves.last);
        has = leaves.has;
        reads = leaves.reads;
        ready = leaves.ready;
        page_size = read_page_size told live.engine.now engine_then leaves.behind;
        usable = sizes;
        faults = read_faults told live.engine.now engine_then leaves.behind;
        loans = ap (λ (names : List ℕ). live.overlay.ghost_name ∷ live.engine.ghost_name ∷ names) leaves.behind.stays.loans;
        follows = (refl, leaves.behind, leaves.still);
      };
    }

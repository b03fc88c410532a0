-- What a step of a checkpoint asks of a store, and what it tells of its logs.
use Rattle.std.proofs.Common.{◌≡◌, ◌∙◌, ℕ, zero, suc, ◌+◌, ◌-◌, ◌*◌, ◌≤◌, List, sym, ap, subst, arith, Contains, Option, Some, None, Result, Ok, Err}
use Rattle.std.specs.Prelude.{IfOk}
use Rattle.std.proofs.Math.Nat.{mul-le-mul_right}
use Rattle.std.proofs.lemmas.List.Elements.{All-contains}
use Rattle.disk_face.specs.declared.Failed.{Failed}
use Rattle.disk_face.specs.declared.disk.File.TheVariants.{Main}
use Rattle.disk_face.specs.Steps.{History}
use Rattle.disk_face.specs.Told.{IsInside}
use Rattle.engine_spec.specs.declared.commits.Commit.{Commit}
use Rattle.engine_spec.specs.declared.pins.Ckpt.{Ckpt}
use Rattle.engine_spec.specs.declared.pins.Ckpt.TheVariants.{Copied, Finished, Idle, Held}
use Rattle.engine_spec.specs.declared.pins.Readers.{Readers}
use Rattle.engine_spec.specs.TwoLogs.{TwoLogs, Steps}
use Rattle.checkpoint.specs.Steps.{pages_behind}
use Rattle.wal_index.specs.Frames.{IsNextPage}
use Rattle.wal_index.specs.Index.{log_in}
use Rattle.wal_rules.specs.declared.state.LogState.{LogState}
use Rattle.wal_rules.specs.Rules.{logs_with}
use Rattle.log_pair.specs.Pair.{other_number}
use Rattle.store_spec.specs.Store.{StoreData, two_logs}
use Rattle.store_spec.specs.Standing.{IsWholeStore, IsReadable}
use Rattle.store_spec.specs.Steps.{stepped}
use Rattle.store_spec.proofs.Pinning.{state_is}
use Rattle.store_spec.proofs.Taken.{pages_are, counted_log, other_which}

-- Main reaches to each page of the map
product : (page size bytes : ℕ) → 1 ≤ page → page ≤ size → (page - 1) * bytes + bytes ≤ size * bytes
product zero size bytes least most = absurd (omega arith)
product (suc k) size bytes least most =
    let one : suc k - 1 ≡ k = omega arith in
    subst (λ (m : ℕ). m * bytes + bytes ≤ size * bytes) (sym one) (subst (λ (n : ℕ). n ≤ size * bytes) (one_more k bytes) (mul-le-mul_right bytes most))
  where
    one_more : (k bytes : ℕ) → suc k * bytes ≡ k * bytes + bytes
    one_more k bytes = grind arith

pub page_inside : (kept : StoreData) (told : Option History) → IsReadable kept told → (page : ℕ) → 1 ≤ page → page ≤ kept.size → IsInside told Main ((page - 1) * kept.page_size) kept.page_size
page_inside kept None readable page least most = tt
page_inside kept (Some told) readable page least most = let main = readable.main in let within = product page kept.size kept.page_size least most in omega arith

pub next_reached : (kept : StoreData) (told : Option History) → IsWholeStore kept → IsReadable kept told → (page : ℕ) → IsNextPage (pages_behind kept.index kept.state) kept.state.copied page
    → IsInside told Main ((page - 1) * kept.page_size) 0
next_reached kept told whole readable page next = less told (page_inside kept told readable page in_map.0 in_map.1)
  where
    in_map : (1 ≤ page) × (page ≤ kept.size)
    in_map = All-contains (λ (p : ℕ). (1 ≤ p) × (p ≤ kept.size)) (log_in kept.index (other_number kept.pair.current)).pages page
        (counted_log kept whole (other_number kept.pair.current) (other_which kept whole)).pages (subst (λ (pages : List ℕ). Contains pages page) (pages_are kept whole) next.there)

    less : (told : Option History) → IsInside told Main ((page - 1) * kept.page_size) kept.page_size → IsInside told Main ((page - 1) * kept.page_size) 0
    less None inside = tt
    less (Some told) inside = omega (arith, inside)

-- a step leaves which log is current
current_stays : (before after : TwoLogs) (readers : Readers) (history : List Commit) (answer : Ckpt) → Steps before readers history answer after → after.current ≡ before.current
current_stays before after readers history Idle steps = ap (λ (logs : TwoLogs). logs.current) steps.1
current_stays before after readers history (Held count) steps = ap (λ (logs : TwoLogs). logs.current) steps.3
current_stays before after readers history (Copied page) steps = ap (λ (logs : TwoLogs). logs.current) steps.3
current_stays before after readers history Finished steps = ap (λ (logs : TwoLogs). logs.current) steps.3

pub steps_told : (kept : StoreData) (readers : Readers) (state : LogState) (result : Result Ckpt Failed) → IsWholeStore kept
    → IfOk result (λ answer. Steps (logs_with kept.state (two_logs kept)) readers kept.history answer (logs_with state (two_logs kept)))
    → IfOk result (λ answer. Steps (two_logs kept) readers kept.history answer (two_logs (stepped kept state)))
steps_told kept readers state (Err why) whole steps = tt
steps_told kept readers state (Ok answer) whole steps =
    let current : state.current ≡ kept.pair.current = current_stays (logs_with kept.state (two_logs kept)) (logs_with state (two_logs kept)) readers kept.history answer steps ∙ whole.current in
    let after : logs_with state (two_logs kept) ≡ two_logs (stepped kept state) = λ i. record {
      current = current i;
      generation = (two_logs kept).generation;
      since = (two_logs kept).since;
      other_since = (two_logs kept).other_since;
      done = state.done;
      copied = state.copied;
      limit = kept.limit;
    } in
    subst (λ (logs : TwoLogs). Steps logs readers kept.history answer (two_logs (stepped kept state))) (state_is kept whole)
    (subst (λ (logs : TwoLogs). Steps (logs_with kept.state (two_logs kept)) readers kept.history answer logs) after steps)

-- The run for which a store stands goes on where the change of a commit is good for it.
use Rattle.std.proofs.Common.{◌≡◌, ◌∙◌, ℕ, ◌*◌, ◌≤◌, true, List, [], ◌∷◌, ◌++◌, length, append-nil, sym, ap, subst, arith, Option, Some, None, Contains}
use Rattle.std.specs.Prelude.{IfSome}
use Rattle.std.proofs.lemmas.Grind.{flat_map-append}
use Rattle.disk_face.specs.Steps.{History, reads}
use Rattle.page_spec.specs.Header.{database_limit}
use Rattle.page_spec.specs.PageMap.{PageMap, page_size_of}
use Rattle.engine_spec.specs.declared.commits.Commit.{Commit}
use Rattle.engine_spec.specs.declared.commits.Mode.TheVariants.{Plain}
use Rattle.engine_spec.specs.declared.commits.PageImage.{PageImage}
use Rattle.engine_spec.specs.declared.pins.Pin.{Pin}
use Rattle.engine_spec.specs.declared.pins.Readers.{Readers}
use Rattle.engine_spec.specs.Change.{laid}
use Rattle.engine_spec.specs.Good.{Good, HasSizes}
use Rattle.engine_spec.specs.History.{NoConflict, statements_of}
use Rattle.engine_spec.specs.Written.{Submitted, commit_of}
use Rattle.engine_spec.proofs.Laying.{page_at-length}
use Rattle.wal_index.specs.Index.{Indexed}
use Rattle.log_pair.specs.Pair.{PairView, current_file, current_header}
use Rattle.log_commit.specs.Commit.{IsCommitStep}
use Rattle.store_spec.specs.Store.{StoreData, newest_in, newest_told, pin_told}
use Rattle.store_spec.specs.Pins.{PinHolds}
use Rattle.store_spec.specs.Standing.{IsLiveStore, StandsFrom, IsOpenedAt}
use Rattle.store_spec.specs.Steps.{HasIndexed, committed}
use Rattle.store_spec.proofs.EngineLaws.{bounds, held}
use Rattle.store_spec.proofs.Committed.{still_told}
use Rattle.store_spec.proofs.Committing.{IsCommitting, read_committed}
use Rattle.store_spec.proofs.CommitRuns.{runs_committed}

-- what the commits with one more said
statements_more : (commits : List Commit) (asked : Submitted) (pages : List ℕ) → statements_of (commits ++ commit_of asked pages ∷ []) ≡ statements_of commits ++ asked.said
statements_more commits asked pages =
    flat_map-append (λ (c : Commit). c.entry.statements) commits (commit_of asked pages ∷ []) ∙ ap (λ (texts : List (List ℕ)). statements_of commits ++ texts) (append-nil asked.said)

module _ (sound : PageMap → Type 0) (leads : PageMap → List (List ℕ) → PageMap → Type 0) (first : PageMap)
    (joins : (before between after : PageMap) (some others : List (List ℕ)) → leads before some between → leads between others after → leads before (some ++ others) after) where
  pub runs_laid : (kept : StoreData) (images : List PageImage) (pair : PairView) (index : Indexed) (asked : Submitted) (commit : Commit) (readers : Readers) (pins : List Pin) (pin : Pin) (old new : Option History)
      → IsCommitting kept true images pair asked commit old new → HasIndexed kept commit index → IsLiveStore old kept readers pins → Contains pins pin → asked.snap ≡ pin.n
      → NoConflict asked.change.mode asked.reads asked.snap kept.history → (asked.change.mode ≡ Plain → Contains asked.reads 1) → kept.size * kept.page_size ≤ database_limit
      → IfSome (pin_told kept old pin) (λ snapshot. Good sound leads snapshot asked.reads asked.change asked.said)
      → StandsFrom sound leads first old kept readers → StandsFrom sound leads first new (committed kept pair index commit) readers
  runs_laid kept images pair index asked commit readers pins pin old new c indexed live there snap free reads_first few good stands =
      runs_committed sound leads first kept images pair index asked commit readers pins old new c indexed live
      (subst (λ (one : Commit). one.entry.snap ≤ length kept.history) (sym c.is) (let within = (bounds old kept pin holds).0 in omega (arith, snap, within)))
      (laid_on old c live.opened stands.newest live.sizes holds good) stands
    where
      holds : PinHolds old kept pin
      holds = held old kept readers pins pin live there

      laid_on : (old : Option History) (c : IsCommitting kept true images pair asked commit old new) → IsOpenedAt live.opening kept old
          → IfSome old (λ told. sound (newest_in kept.pair (reads told)) × leads first (statements_of kept.history) (newest_in kept.pair (reads told)))
          → IfSome (newest_told kept old) (λ pages. HasSizes pages kept.size kept.page_size) → PinHolds old kept pin
          → IfSome (pin_told kept old pin) (λ snapshot. Good sound leads snapshot asked.reads asked.change asked.said)
          → IfSome new (λ told. sound (newest_in pair (reads told)) × leads first (statements_of (kept.history ++ commit ∷ [])) (newest_in pair (reads told)))
      laid_on None c opened newest sizes holds good =
          subst (λ (t : Option History). IfSome t (λ told. sound (newest_in pair (reads told)) × leads first (statements_of (kept.history ++ commit ∷ [])) (newest_in pair (reads told)))) (sym c.has.steps) tt
      laid_on (Some told) c opened newest sizes holds good =
          still_told (IsCommitStep (current_file kept.pair) (current_header kept.pair)) told
          (λ (t : Option History). IfSome t (λ told. sound (newest_in pair (reads told)) × leads first (statements_of (kept.history ++ commit ∷ [])) (newest_in pair (reads told)))) new c.has.steps
          (λ later is.
          subst (λ (map : PageMap). sound map × leads first (statements_of (kept.history ++ commit ∷ [])) map) (sym (read_committed live.opening kept images pair index asked commit told later new c indexed opened is).1) (
            goes.0,
            subst (λ (texts : List (List ℕ)). leads first texts (laid (newest_in kept.pair (reads told)) asked.change))
                (sym (ap (λ (one : Commit). statements_of (kept.history ++ one ∷ [])) c.is ∙ statements_more kept.history asked commit.wrote))
                (joins first (newest_in kept.pair (reads told)) (laid (newest_in kept.pair (reads told)) asked.change) (statements_of kept.history) asked.said newest.1 goes.1),
          ))
        where
          page_size : page_size_of (newest_in kept.pair (reads told)) ≡ kept.page_size
          page_size = page_at-length (newest_in kept.pair (reads told)) kept.page_size 1 sizes.each (omega arith) (let some = live.whole.some in omega (arith, sizes.count))

          small : length (newest_in kept.pair (reads told)) * page_size_of (newest_in kept.pair (reads told)) ≤ database_limit
          small = rw (page_size, sizes.count) few

          goes : sound (laid (newest_in kept.pair (reads told)) asked.change) × leads (newest_in kept.pair (reads told)) asked.said (laid (newest_in kept.pair (reads told)) asked.change)
          goes = good (newest_in kept.pair (reads told)) newest.0 small
              (holds.agrees asked.change.mode asked.reads (subst (λ (n : ℕ). NoConflict asked.change.mode asked.reads n kept.history) snap free) reads_first)

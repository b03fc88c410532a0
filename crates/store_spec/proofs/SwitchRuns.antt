-- A store that has gone over to its other log, or failed in that, stands for the runs for which it stood.
use Rattle.std.proofs.Common.{◌≡◌, ◌∙◌, ℕ, true, false, List, [], take, sym, ap, subst, arith, Option, Some, None}
use Rattle.std.specs.Prelude.{IfSome}
use Rattle.std.proofs.lemmas.List.{take_all}
use Rattle.disk_face.specs.Files.{Files}
use Rattle.disk_face.specs.Steps.{History, reads}
use Rattle.page_spec.specs.PageMap.{PageMap}
use Rattle.log_spec.specs.Checksum.{Sum}
use Rattle.log_spec.specs.LogHeader.{LogFields}
use Rattle.log_spec.specs.Accept.{Frame}
use Rattle.crash_spec.specs.Recovered.{overlaid}
use Rattle.engine_spec.specs.declared.commits.Commit.{Commit}
use Rattle.engine_spec.specs.declared.pins.Pin.{Pin}
use Rattle.engine_spec.specs.declared.pins.Readers.{Readers}
use Rattle.engine_spec.specs.History.{statements_of}
use Rattle.wal_index.specs.Index.{Indexed}
use Rattle.log_pair.specs.Pair.{PairView, switched_pair}
use Rattle.log_pair.specs.Switch.{next_header}
use Rattle.store_spec.specs.Store.{StoreData, KeptStop, current_read, other_read, newest_in, map_over, map_below, since_of, other_since_of}
use Rattle.store_spec.specs.Pins.{IsFront, IsOlderFront, mark_at}
use Rattle.store_spec.specs.Steps.{HasCleared, HasSwitched, gone_over, stopped}
use Rattle.store_spec.specs.Standing.{IsWholeStore, IsLiveStore, StandsFrom}
use Rattle.store_spec.proofs.Named.{AllName}
use Rattle.store_spec.proofs.Switching.{IsAllowed}
use Rattle.store_spec.proofs.Switched.{FrontAlone, BothTold, switch_keeps, newest_alone, newest_over, new_none}
use Rattle.store_spec.proofs.SwitchIndex.{since_over}
use Rattle.store_spec.proofs.SwitchMaps.{front_below, over_alone, below_alone}
use Rattle.store_spec.proofs.SwitchOpened.{IsReady, files_ready}
use Rattle.store_spec.proofs.SwitchPins.{newer_front, same_mark}

-- with no frames of the current log each of its fronts is the newest map
over_none : (pair : PairView) (header : LogFields) (mark : ℕ) (files : Files) → map_over (switched_pair pair header) mark files ≡ newest_in (switched_pair pair header) files
over_none pair header mark files =
    ap (λ (frames : List Frame). overlaid files.main (other_read (switched_pair pair header) files) frames)
    (ap (take mark) (new_none pair header files) ∙ take_all mark [] (omega arith) ∙ sym (new_none pair header files))

module _ (sound : PageMap → Type 0) (leads : PageMap → List (List ℕ) → PageMap → Type 0) (first : PageMap) (kept : StoreData) (readers : Readers) where
  -- what holds of a map after so many commits
  abbrev IsReached : List Commit → PageMap → Type 0
  IsReached commits pages = sound pages × leads first (statements_of commits) pages

  module _ (whole : IsWholeStore kept) (allowed : IsAllowed kept readers) (salt2 : ℕ) (sum : Sum) (index : Indexed) (cleared : HasCleared kept index) where
    abbrev header : LogFields
    header = next_header kept.pair salt2 sum

    abbrev over : PairView
    over = switched_pair kept.pair header

    newest : (old new : Option History) → BothTold (FrontAlone kept.pair) old new → IfSome old (λ told. IsReady kept (reads told)) → StandsFrom sound leads first old kept readers
        → IfSome new (λ told. IsReached kept.history (newest_in over (reads told)))
    newest None None alone ready stands = tt
    newest None (Some later) alone ready stands = absurd alone
    newest (Some told) None alone ready stands = absurd alone
    newest (Some told) (Some later) alone ready stands =
        subst (IsReached kept.history)
        (sym (newest_over kept.pair header whole.pair.which kept.page_size (reads told) (reads later) alone ready.first ready.copied ready.sized)) stands.newest

    all_taken : (n : ℕ) → IsFront (gone_over kept over index) n → take n kept.history ≡ kept.history
    all_taken n front = take_all n kept.history (let least = front.least in omega (arith, since_over kept readers whole allowed salt2 sum index cleared))

    fronts : (new : Option History) → IfSome new (λ told. IsReached kept.history (newest_in over (reads told)))
        → IfSome new (λ told. (n : ℕ) → IsFront (gone_over kept over index) n
        → IsReached (take n kept.history) (map_over over (mark_at kept.history (since_of (gone_over kept over index)) n) (reads told)))
    fronts None newest = tt
    fronts (Some later) newest = λ n front.
        subst (λ (commits : List Commit). IsReached commits (map_over over (mark_at kept.history (since_of (gone_over kept over index)) n) (reads later))) (sym (all_taken n front))
        (subst (IsReached kept.history) (sym (over_none kept.pair header (mark_at kept.history (since_of (gone_over kept over index)) n) (reads later))) newest)

    older : (old new : Option History) → BothTold (FrontAlone kept.pair) old new → IfSome old (λ told. IsReady kept (reads told))
        → IfSome old (λ told. AllName kept.page_size (current_read kept.pair (reads told))) → StandsFrom sound leads first old kept readers
        → IfSome new (λ told. (n : ℕ) → IsOlderFront (gone_over kept over index) n
        → IsReached (take n kept.history) (map_below over (mark_at kept.history (other_since_of (gone_over kept over index)) n) (reads told)))
    older None None alone ready named stands = tt
    older None (Some later) alone ready named stands = absurd alone
    older (Some told) None alone ready named stands = absurd alone
    older (Some told) (Some later) alone ready named stands = λ n older.
        let front = newer_front kept readers whole allowed salt2 sum index cleared n older in
        subst (IsReached (take n kept.history))
        (sym (ap (λ (mark : ℕ). map_below over mark (reads later)) (same_mark kept readers whole allowed salt2 sum index cleared n)
        ∙ front_below kept readers whole allowed (reads told) ready named header (reads later) n alone front)) (stands.fronts n front)

    -- The fronts of the current log are those of the other one, and the new current log has none but the newest.
    pub stands_over : (old new : Option History) → BothTold (FrontAlone kept.pair) old new → IfSome old (λ told. IsReady kept (reads told))
        → IfSome old (λ told. AllName kept.page_size (current_read kept.pair (reads told))) → StandsFrom sound leads first old kept readers
        → StandsFrom sound leads first new (gone_over kept over index) readers
    stands_over old new alone ready named stands = record {
      snaps = stands.snaps;
      newest = newest old new alone ready stands;
      fronts = fronts new (newest old new alone ready stands);
      older = λ some. older old new alone ready named stands;
    }

  -- Where the switch failed all maps stay.
  pub stands_torn : (stop : KeptStop) (old new : Option History) → BothTold (FrontAlone kept.pair) old new → StandsFrom sound leads first old kept readers
      → StandsFrom sound leads first new (stopped kept kept.pair stop) readers
  stands_torn stop None None alone stands = record { snaps = stands.snaps; newest = tt; fronts = tt; older = λ some. tt }
  stands_torn stop None (Some later) alone stands = absurd alone
  stands_torn stop (Some told) None alone stands = absurd alone
  stands_torn stop (Some told) (Some later) alone stands = record {
    snaps = stands.snaps;
    newest = subst (IsReached kept.history) (sym (newest_alone kept.pair (reads told) (reads later) alone)) stands.newest;
    fronts = λ n front.
        subst (IsReached (take n kept.history)) (sym (over_alone kept.pair (reads told) (reads later) alone (mark_at kept.history (since_of kept) n)))
        (stands.fronts n (record { least = front.least; most = front.most; held = front.held }));
    older = λ some n front.
        subst (IsReached (take n kept.history)) (sym (below_alone kept.pair (reads told) (reads later) alone (mark_at kept.history (other_since_of kept) n)))
        (stands.older some n (record { least = front.least; most = front.most; held = front.held }));
  }

  module _ (pins : List Pin) (salt2 : ℕ) (old new : Option History) (live : IsLiveStore old kept readers pins) (none : kept.stop ≡ None) (allowed : IsAllowed kept readers)
      (stands : StandsFrom sound leads first old kept readers) where
    -- By what the switch was answered.
    pub runs_over : (pair : PairView) (index : Indexed) → HasCleared kept index → HasSwitched kept true pair salt2 old new
        → IfSome old (λ told. AllName kept.page_size (current_read kept.pair (reads told))) → StandsFrom sound leads first new (gone_over kept pair index) readers
    runs_over pair index cleared has named =
        subst (λ (p : PairView). StandsFrom sound leads first new (gone_over kept p index) readers) (sym has.switches.becomes)
        (stands_over live.whole allowed salt2 has.sum index cleared old new (switch_keeps true kept.pair has.bytes old new has.switches.is.whole has.switches.steps)
        (files_ready kept readers none live.whole allowed live.opening old live.opened) named stands)

    pub runs_torn : (pair : PairView) (stop : KeptStop) → HasSwitched kept false pair salt2 old new → StandsFrom sound leads first new (stopped kept pair stop) readers
    runs_torn pair stop has =
        subst (λ (p : PairView). StandsFrom sound leads first new (stopped kept p stop) readers) (sym has.switches.becomes)
        (stands_torn stop old new (switch_keeps false kept.pair has.bytes old new has.switches.is.whole has.switches.steps) stands)

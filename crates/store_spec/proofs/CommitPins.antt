-- Pins of a store, once frames were added to its current log and its history grew, or a log write failed.
use Rattle.std.proofs.Common.{◌≡◌, ◌∙◌, ℕ, ◌+◌, ◌<◌, ◌≤◌, ◌==◌, false, List, [], ◌∷◌, ◌++◌, length, take, drop, length-append, refl, sym, ap, subst, inl, inr, arith, Some, Contains}
use Rattle.std.specs.Prelude.{◌⊎◌}
use Rattle.std.specs.List.{list_any}
use Rattle.std.proofs.lemmas.Bool.{or_parts, both_ways}
use Rattle.std.proofs.lemmas.Grind.{flat_map-append}
use Rattle.std.proofs.lemmas.List.{drop-append-le, take-append-le, take-append-drop, length-take-le}
use Rattle.std.proofs.lemmas.List.Folds.{list_any-append}
use Rattle.disk_face.specs.Files.{Files}
use Rattle.disk_face.specs.Steps.{History, reads}
use Rattle.page_spec.specs.PageMap.{PageMap}
use Rattle.log_spec.specs.Accept.{Frame}
use Rattle.log_spec.specs.LogHeader.{LogFields}
use Rattle.crash_spec.specs.Recovered.{overlaid}
use Rattle.engine_spec.specs.declared.commits.Commit.{Commit}
use Rattle.engine_spec.specs.declared.commits.Mode.{Mode}
use Rattle.engine_spec.specs.declared.commits.Mode.TheVariants.{Plain, Concurrent}
use Rattle.engine_spec.specs.declared.pins.Pin.{Pin}
use Rattle.engine_spec.specs.Change.{laid}
use Rattle.engine_spec.specs.Good.{HasSizes, MayLayOn}
use Rattle.engine_spec.specs.History.{counts, is_written, NoConflict}
use Rattle.engine_spec.specs.TwoLogs.{frames_of}
use Rattle.engine_spec.specs.Written.{Submitted, commit_of}
use Rattle.engine_spec.proofs.Laying.{IsWhole, CoversChange, agree_laid, agree_trans, any_there}
use Rattle.log_pair.specs.Pair.{PairView, other_number, current_header}
use Rattle.store_spec.specs.Store.{StoreData, current_read, other_read, newest_in, map_over, map_below, pin_map_in, since_of, other_since_of}
use Rattle.store_spec.specs.Pins.{PinHolds, IsOfCurrent, IsOfOther, mark_at, part_of, full_of}
use Rattle.store_spec.specs.Standing.{IsWholeStore}
use Rattle.store_spec.proofs.Commits.{one_longer}
use Rattle.store_spec.proofs.Runs.{current_count, of_current, of_other}
use Rattle.store_spec.proofs.Writing.{IsPairOf, current_header_of}
pub use Rattle.store_spec.specs.Steady.{HasBegun}

-- a part of a history has no more frames than all of it
pub mark_within : (history : List Commit) (since n : ℕ) → since ≤ n → n ≤ length history → mark_at history since n ≤ length (frames_of (drop since history))
mark_within history since n from within =
    let split : drop since history ≡ drop since (take n history) ++ drop n history =
    ap (drop since) (sym (take-append-drop n history)) ∙ drop-append-le since (take n history) (drop n history) (omega (arith, length-take-le n history within)) in
    let all : length (frames_of (drop since history)) ≡ length (frames_of (drop since (take n history))) + length (frames_of (drop n history)) =
    ap (λ (commits : List Commit). length (frames_of commits)) split
    ∙ ap length (flat_map-append (λ (c : Commit). c.wrote) (drop since (take n history)) (drop n history))
    ∙ length-append (frames_of (drop since (take n history))) (frames_of (drop n history)) in
    omega (arith, all)

-- What is read of a store's files once some frames more are read of its current log.
pub record HasRead (old new : PairView) (more : List Frame) (before after : Files) : Type 0 where
  pub current : current_read new after ≡ current_read old before ++ more
  pub other : other_read new after ≡ other_read old before
  pub main : after.main ≡ before.main

module _ (kept : StoreData) (pair : PairView) (more : List Frame) (before after : Files) (whole : IsWholeStore kept) (same : IsPairOf kept.pair pair) (has : HasRead kept.pair pair more before after) where
  -- fronts of both logs are as they were
  pub front_stays : (n : ℕ) → since_of kept ≤ n → n ≤ length kept.history
      → map_over pair (mark_at kept.history (since_of kept) n) after ≡ map_over kept.pair (mark_at kept.history (since_of kept) n) before
  front_stays n from within =
      let taken : take (mark_at kept.history (since_of kept) n) (current_read pair after) ≡ take (mark_at kept.history (since_of kept) n) (current_read kept.pair before) =
      ap (take (mark_at kept.history (since_of kept) n)) has.current
      ∙ take-append-le (mark_at kept.history (since_of kept) n) (current_read kept.pair before) more
      (omega (arith, mark_within kept.history (since_of kept) n from within, current_count kept before whole)) in
      λ i. overlaid (has.main i) (has.other i) (taken i)

  pub below_stays : (mark : ℕ) → map_below pair mark after ≡ map_below kept.pair mark before
  below_stays mark = λ i. overlaid (has.main i) [] (take mark (has.other i))

  pub pin_stays : (pin : Pin) → IsOfCurrent kept pin ⊎ IsOfOther kept pin → pin_map_in pair pin after ≡ pin_map_in kept.pair pin before
  pin_stays pin (inl of) =
      of_current pair pin after (of.generation ∙ sym (ap (λ (h : LogFields). h.generation) (current_header_of kept.pair pair same)))
      ∙ ap (λ (n : ℕ). map_over pair n after) of.mark ∙ front_stays pin.n of.front.least of.front.most ∙ ap (λ (n : ℕ). map_over kept.pair n before) (sym of.mark)
      ∙ sym (of_current kept.pair pin before of.generation)
  pin_stays pin (inr of) =
      of_other pair pin after (of.generation ∙ sym (ap (λ (h : LogFields). h.generation) (current_header_of kept.pair pair same)))
      ∙ below_stays pin.mark ∙ sym (of_other kept.pair pin before of.generation)

-- Another store, with the same commits before both logs, whose history has gone on.
pub record GoesOnFrom (kept later : StoreData) (commits : List Commit) : Type 0 where
  pub pair : IsPairOf kept.pair later.pair
  pub history : later.history ≡ kept.history ++ commits
  pub since : since_of later ≡ since_of kept
  pub other_since : other_since_of later ≡ other_since_of kept
  pub page_size : later.page_size ≡ kept.page_size

module _ (kept later : StoreData) (commits : List Commit) (goes : GoesOnFrom kept later commits) where
  -- a mark among the old commits is where it was
  pub mark_stays : (n : ℕ) → n ≤ length kept.history → mark_at later.history (since_of later) n ≡ mark_at kept.history (since_of kept) n
  mark_stays n within =
      (λ i. mark_at (goes.history i) (goes.since i) n)
      ∙ ap (λ (cs : List Commit). length (frames_of (drop (since_of kept) cs))) (take-append-le n kept.history commits within)

  pub other_mark_stays : (n : ℕ) → n ≤ length kept.history → mark_at later.history (other_since_of later) n ≡ mark_at kept.history (other_since_of kept) n
  other_mark_stays n within =
      (λ i. mark_at (goes.history i) (goes.other_since i) n)
      ∙ ap (λ (cs : List Commit). length (frames_of (drop (other_since_of kept) cs))) (take-append-le n kept.history commits within)

  generation_is : (current_header later.pair).generation ≡ (current_header kept.pair).generation
  generation_is = ap (λ (h : LogFields). h.generation) (current_header_of kept.pair later.pair goes.pair)

  pub long : length later.history ≡ length kept.history + length commits
  long = ap length goes.history ∙ length-append kept.history commits

  held_on : (n : ℕ) → (commits ≡ []) ⊎ HasBegun kept → since_of kept ≤ n → (since_of kept < n) ⊎ (since_of kept ≡ 0) ⊎ (n ≡ length kept.history)
      → (since_of later < n) ⊎ (since_of later ≡ 0) ⊎ (n ≡ length later.history)
  held_on n begun from (inl less) = inl (omega (arith, goes.since, less))
  held_on n begun from (inr (inl none)) = inr (inl (goes.since ∙ none))
  held_on n (inl nothing) from (inr (inr last)) = inr (inr (omega (arith, last, long, ap length nothing)))
  held_on n (inr (inl less)) from (inr (inr last)) = inl (omega (arith, goes.since, less, last))
  held_on n (inr (inr none)) from (inr (inr last)) = inr (inl (goes.since ∙ none))

  pub place_on : (pin : Pin) → (IsOfCurrent kept pin → (commits ≡ []) ⊎ HasBegun kept) → IsWholeStore kept → IsOfCurrent kept pin ⊎ IsOfOther kept pin → IsOfCurrent later pin ⊎ IsOfOther later pin
  place_on pin begun whole (inl of) = inl (record {
    generation = of.generation ∙ sym generation_is;
    front = record {
      least = omega (arith, goes.since, of.front.least);
      most = omega (arith, of.front.most, long);
      held = held_on pin.n (begun of) of.front.least of.front.held;
    };
    mark = of.mark ∙ sym (mark_stays pin.n of.front.most);
    lock = subst (λ (log : ℕ). (pin.lock ≡ part_of log) ⊎ (pin.lock ≡ full_of log)) (sym goes.pair.current) of.lock;
  })
  place_on pin begun whole (inr of) = inr (record {
    generation = of.generation ∙ sym generation_is;
    front = record {
      least = omega (arith, goes.other_since, of.front.least);
      most = omega (arith, of.front.most, goes.since);
      held = subst (λ (n : ℕ). (n < pin.n) ⊎ (n ≡ 0)) (sym goes.other_since) of.front.held;
    };
    mark = of.mark ∙ sym (other_mark_stays pin.n (let most = of.front.most in omega arith));
    lock = subst (λ (log : ℕ). pin.lock ≡ part_of (other_number log)) (sym goes.pair.current) of.lock;
  })

-- where nothing that was read counts as written in a longer history, it doesn't in the shorter one, nor in its last commit
none_written : (mode : Mode) (q : ℕ) (commits : List Commit) (commit : Commit) → is_written mode q (commits ++ commit ∷ []) ≡ false
    → (is_written mode q commits ≡ false) × (counts mode q commit ≡ false)
none_written mode q commits commit none =
    let parts = or_parts (is_written mode q commits) (is_written mode q (commit ∷ [])) (sym (list_any-append (counts mode q) commits (commit ∷ [])) ∙ none) in
    (parts.0, (or_parts (counts mode q commit) false parts.1).0)

pub no_conflict_before : (mode : Mode) (numbers : List ℕ) (n : ℕ) (history : List Commit) (commit : Commit) → n ≤ length history → NoConflict mode numbers n (history ++ commit ∷ [])
    → (q : ℕ) → Contains numbers q → (is_written mode q (drop n history) ≡ false) × (counts mode q commit ≡ false)
no_conflict_before mode numbers n history commit within none q there =
    none_written mode q (drop n history) commit (subst (λ (cs : List Commit). is_written mode q cs ≡ false) (drop-append-le n history (commit ∷ []) within) (none q there))

-- what may be laid on the newest map may be laid on the one that a commit makes of it, where no page that was read was written
pub may_lay_on : (mode : Mode) (snapshot newest : PageMap) (numbers : List ℕ) (asked : Submitted) (wrote : List ℕ) (size page_size : ℕ) → 100 ≤ page_size → IsWhole size page_size asked.change
    → 1 ≤ size → HasSizes newest size page_size → CoversChange asked.change wrote → Contains wrote 1 → (mode ≡ Plain → Contains numbers 1)
    → ((q : ℕ) → Contains numbers q → counts mode q (commit_of asked wrote) ≡ false) → MayLayOn mode snapshot numbers newest → MayLayOn mode snapshot numbers (laid newest asked.change)
may_lay_on Plain snapshot newest numbers asked wrote size page_size legal whole some sizes covers first reads none may =
    absurd (both_ways (list_any (λ p. p == 1) wrote) (none 1 (reads refl)) (any_there wrote 1 first))
may_lay_on Concurrent snapshot newest numbers asked wrote size page_size legal whole some sizes covers first reads none may =
    agree_trans snapshot newest (laid newest asked.change) numbers may
    (agree_laid newest asked wrote Concurrent size page_size numbers legal whole (omega (arith, sizes.count)) (omega (arith, sizes.count, some)) sizes.each covers none)

-- A pin holds on, by what it was told then and the newest map.
pub pin_holds_on : (kept later : StoreData) (commits : List Commit) (told new : History) (pin : Pin) → GoesOnFrom kept later commits → IsWholeStore kept
    → (IsOfCurrent kept pin → (commits ≡ []) ⊎ HasBegun kept) → pin_map_in later.pair pin (reads new) ≡ pin_map_in kept.pair pin (reads told)
    → ((mode : Mode) (numbers : List ℕ) → NoConflict mode numbers pin.n later.history → (mode ≡ Plain → Contains numbers 1)
    → MayLayOn mode (pin_map_in kept.pair pin (reads told)) numbers (newest_in later.pair (reads new)))
    → PinHolds (Some told) kept pin → PinHolds (Some new) later pin
pin_holds_on kept later commits told new pin goes whole begun same agrees holds = record {
  place = place_on kept later commits goes pin begun whole holds.place;
  some = holds.some;
  sizes = subst (λ (pages : PageMap). HasSizes pages pin.size later.page_size) (sym same) (subst (HasSizes (pin_map_in kept.pair pin (reads told)) pin.size) (sym goes.page_size) holds.sizes);
  agrees = λ mode numbers none first.
      subst (λ (pages : PageMap). MayLayOn mode pages numbers (newest_in later.pair (reads new))) (sym same) (agrees mode numbers none first);
}

-- a store whose current log has got a commit has begun
pub begun_after : (kept later : StoreData) (commit : Commit) → GoesOnFrom kept later (commit ∷ []) → HasBegun later
begun_after kept later commit goes =
    inl (omega (arith, goes.since, ap length goes.history, one_longer kept.history commit))

-- where the current generation has risen, no pin that held is of the current log
pub none_current : (kept later : StoreData) (pin : Pin) → (current_header later.pair).generation ≡ (current_header kept.pair).generation + 1
    → IsOfCurrent kept pin ⊎ IsOfOther kept pin → IsOfCurrent later pin → ⊥
none_current kept later pin rises (inl old) new = let one = old.generation in let two = new.generation in omega arith
none_current kept later pin rises (inr old) new = let one = old.generation in let two = new.generation in omega arith

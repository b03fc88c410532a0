-- What a store tells, as an engine's laws ask it.
use Rattle.std.proofs.Common.{◌≡◌, ◌∙◌, ℕ, zero, suc, ◌+◌, ◌<◌, ◌≤◌, List, [], ◌∷◌, length, refl, sym, ap, subst, inl, inr, arith, Contains, Option, Some, None, IsSome}
use Rattle.std.specs.Prelude.{IfSome, MatchOption, ◌⊎◌, ◌≢◌}
use Rattle.std.specs.Option.{option_map}
use Rattle.std.proofs.lemmas.List.Elements.{All-contains}
use Rattle.disk_face.specs.declared.disk.File.TheVariants.{Main}
use Rattle.disk_face.specs.Files.{Files}
use Rattle.disk_face.specs.Steps.{History, reads}
use Rattle.disk_face.specs.Image.{MayLeave}
use Rattle.page_spec.specs.PageMap.{PageMap}
use Rattle.log_spec.specs.Accept.{Frame, last_size}
use Rattle.crash_spec.specs.Opening.{Opening, rebased}
use Rattle.crash_spec.specs.Known.{IsWithoutChance}
use Rattle.crash_spec.specs.Logs.{HaveOwnLogs}
use Rattle.crash_spec.specs.Recovered.{recovered, NamesPages, NamesItsPages}
use Rattle.crash_spec.proofs.KnownFronts.{own_logs}
use Rattle.crash_spec.proofs.NamedPages.{names_own}
use Rattle.crash_spec.proofs.Rebased.{rebased_reads}
use Rattle.crash_spec.proofs.StoreMoments.{holds_images}
use Rattle.engine_spec.specs.declared.pins.Pin.{Pin}
use Rattle.engine_spec.specs.declared.pins.Readers.{Readers}
use Rattle.engine_spec.specs.Good.{HasSizes}
use Rattle.engine_spec.specs.Leaves.{RecoversNow, may_recover, kept_map}
use Rattle.engine_spec.specs.State.{Stop}
use Rattle.engine_spec.specs.TwoLogs.{AreLogs, TwoLogs}
use Rattle.engine_spec.specs.Written.{numbers_from}
use Rattle.engine_spec.proofs.Conflicts.{contains_cases}
use Rattle.log_commit.specs.Commit.{map_under}
use Rattle.store_spec.specs.Store.{StoreData, KeptStop, newest_in, newest_told, pin_told, store_state, two_logs, view_of}
use Rattle.store_spec.specs.Pins.{PinHolds}
use Rattle.store_spec.specs.Standing.{IsWholeStore, IsLiveStore, IsRunning, StandsOn, IsOpenedAt}
use Rattle.store_spec.proofs.OwnFronts.{NamesOwn, own_of, newest_named, newest_names, either_named, either_names}

-- what holds of what is there
pub of_some : {A : Type 0} (x : Option A) (y : A) (P : A → Type 0) → IfSome x P → x ≡ Some y → P y
of_some x y P each is = subst (λ z. IfSome z P) is each

-- a pin of a list of pins that hold
pub held : (told : Option History) (kept : StoreData) (readers : Readers) (pins : List Pin) (pin : Pin) → IsLiveStore told kept readers pins → Contains pins pin → PinHolds told kept pin
held told kept readers pins pin live there = All-contains (PinHolds told kept) pins pin live.hold there

pub pinned_sizes : (told : Option History) (kept : StoreData) (pin : Pin) (pages : PageMap) → PinHolds told kept pin → pin_told kept told pin ≡ Some pages → HasSizes pages pin.size kept.page_size
pinned_sizes None kept pin pages holds is = absurd (let e = is in cc)
pinned_sizes (Some told) kept pin pages holds is = subst (λ (map : PageMap). HasSizes map pin.size kept.page_size) (some_is is) holds.sizes
  where
    some_is : {A : Type 0} {x y : A} → Some x ≡ Some y → x ≡ y
    some_is e = cc

pub pin_is_told : (told : Option History) (kept : StoreData) (pin : Pin) → IsSome (newest_told kept told) → IsSome (pin_told kept told pin)
pin_is_told None kept pin some = some
pin_is_told (Some told) kept pin some = refl

pub bounds : (told : Option History) (kept : StoreData) (pin : Pin) → PinHolds told kept pin → (pin.n ≤ length kept.history) × (1 ≤ pin.size)
bounds told kept pin holds = (
  elim holds.place [
    | inl current ↦ current.front.most
    | inr other ↦ (let most = other.front.most in omega arith)
  ],
  holds.some,
)

pub own_there : (from count number : ℕ) → Contains (numbers_from from count) number → (from ≤ number) × (number < from + count)
own_there from zero number there = absurd (let low = there.1 in omega arith)
own_there from (suc count) number there = elim (contains_cases from number (numbers_from (from + 1) count) there) [
  | inl is ↦ (omega arith, omega arith)
  | inr later ↦ (let rest = own_there (from + 1) count number later in (omega (arith, rest.0), omega (arith, rest.1)))
]

pub own_in : (count number : ℕ) → Contains (numbers_from 1 count) number → (1 ≤ number) × (number ≤ count)
own_in count number there = let own = own_there 1 count number there in (own.0, omega (arith, own.1))

-- the maps that a crash may leave, by what the files hold
abbrev pub stop_in : StoreData → Files → KeptStop → Stop
stop_in kept files stop = record { log = stop.log; at = stop.at; map = Some (map_under (newest_in kept.pair files) stop.images stop.size) }

abbrev pub maps_in : StoreData → Files → List PageMap
maps_in kept files = newest_in kept.pair files ∷ kept_map (option_map (stop_in kept files) kept.stop)

one_of : (stop : Option KeptStop) (pending : List Frame) (kept : StoreData) (files : Files) (map later got : PageMap)
    → MatchOption stop (pending ≡ []) (λ stop. later ≡ map_under (newest_in kept.pair files) stop.images stop.size)
    → (got ≡ map) ⊎ ((last_size pending ≢ 0) × (got ≡ later)) → Contains (map ∷ kept_map (option_map (stop_in kept files) stop)) got
one_of stop pending kept files map later got is (inl same) = (0, omega arith, sym same)
one_of None pending kept files map later got is (inr (some, same)) = absurd (some (ap last_size is))
one_of (Some stop) pending kept files map later got is (inr (some, same)) = (1, omega arith, sym (same ∙ is))

none_pending : (stop : Option KeptStop) (opening : Opening) (kept : StoreData) (pending : List Frame) (later : PageMap) (told : History)
    → MatchOption stop (IsRunning opening kept pending told) (λ stop. later ≡ map_under (newest_in kept.pair (reads told)) stop.images stop.size)
    → MatchOption stop (pending ≡ []) (λ stop. later ≡ map_under (newest_in kept.pair (reads told)) stop.images stop.size)
none_pending None opening kept pending later told running = running.none
none_pending (Some stop) opening kept pending later told is = is

-- what a crash leaves now: the newest map, or the one that a commit would have made whose log write failed; no log of it bars the next opening; and the
-- map names its pages
pub leaves_now : (opening : Opening) (kept : StoreData) (told : History) → StandsOn opening kept told → (image : Files) → MayLeave opening.before told image
    → IsWithoutChance opening told image → Contains (maps_in kept (reads told)) (recovered image) × HaveOwnLogs image × NamesItsPages image
leaves_now opening kept told (inl on) image left chance =
    let leaves = holds_images opening (view_of kept (reads told) on.pending on.later) told on.holds image left chance in (
      one_of kept.stop on.pending kept (reads told) (newest_in kept.pair (reads told)) on.later (recovered image)
          (none_pending kept.stop opening kept on.pending on.later told on.running) leaves,
      own_logs opening told kept.page_size image (own_of opening kept told (inl on)) chance (either_named opening kept told on (recovered image) leaves),
      names_own (length image.main) kept.page_size (recovered image) (either_named opening kept told on (recovered image) leaves)
          (either_names opening kept told on (recovered image) leaves (length image.main) (let shorter = (left Main).no_longer in omega (arith, shorter))),
    )
leaves_now opening kept told (inr torn) image left chance =
    let same = newest (torn.torn.leaves image left chance) in
    let own : NamesOwn kept.page_size (recovered image) =
    subst (λ (pages : PageMap). NamesOwn kept.page_size pages) (sym same) (newest_named opening kept told (inr torn)) in (
      (0, omega arith, sym same),
      own_logs opening told kept.page_size image torn.own chance own,
      names_own (length image.main) kept.page_size (recovered image) own
          (subst (λ (pages : PageMap). NamesPages (length image.main) kept.page_size pages) (sym same)
          (newest_names opening kept told (inr torn) (length image.main) (let shorter = (left Main).no_longer in omega (arith, shorter)))),
    )
  where
    newest : (recovered image ≡ newest_in kept.pair (reads told)) ⊎ ((last_size [] ≢ 0) × (recovered image ≡ newest_in kept.pair (reads told)))
        → recovered image ≡ newest_in kept.pair (reads told)
    newest (inl same) = same
    newest (inr (some, same)) = same

pub recovers : (told : Option History) (faults : ℕ) (kept : StoreData) (readers : Readers) (opening : Opening) → IsOpenedAt opening kept told
    → RecoversNow opening (may_recover (store_state told faults kept readers)) told
recovers None faults kept readers opening opened = tt
recovers (Some told) faults kept readers opening (since, is, stands) = (
  since,
  is,
  λ image left chance.
      let leaves = leaves_now opening kept (rebased opening.start since) stands image left chance in (
        subst (λ (files : Files). Contains (maps_in kept files) (recovered image)) (sym (ap reads is ∙ rebased_reads opening.start since)) leaves.0,
        leaves.1,
        leaves.2,
      ),
)

-- the logs stand for the history
pub are_logs : (kept : StoreData) (logs : TwoLogs) → IsWholeStore kept → Some (two_logs kept) ≡ Some logs → AreLogs logs kept.history
are_logs kept logs whole is = subst (λ (l : TwoLogs). AreLogs l kept.history) (some_is is) whole.index.are
  where
    some_is : {A : Type 0} {x y : A} → Some x ≡ Some y → x ≡ y
    some_is e = cc

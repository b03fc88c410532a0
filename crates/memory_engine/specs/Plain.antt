-- The engine in memory: its page maps, one for each commit and the first, and its history.
use Rattle.std.specs.Prelude.{◌≡◌, ℕ, ◌+◌, ◌-◌, ◌^◌, ◌<◌, ◌≤◌, true, false, if◌then◌else◌, nat_lt, List, [], ◌∷◌, ◌++◌, length, take, Contains, Some, None, Result, Ok, Err, All, slice_get, slice_index}
use Rattle.std.specs.List.{slice_index_or}
use Rattle.page_spec.specs.PageMap.{PageMap, Agree, page_sizes}
use Rattle.engine_spec.specs.declared.pins.Pin.{Pin}
use Rattle.engine_spec.specs.declared.pins.Readers.{Readers}
use Rattle.engine_spec.specs.declared.commits.Commit.{Commit}
use Rattle.engine_spec.specs.declared.commits.CommitFault.{CommitFault}
use Rattle.engine_spec.specs.declared.commits.Receipt.{Receipt}
use Rattle.engine_spec.specs.declared.commits.Receipt.TheVariants.{At}
use Rattle.engine_spec.specs.declared.commits.Who.{Who}
use Rattle.engine_spec.specs.declared.commits.CommitFault.TheVariants as fault
use Rattle.engine_spec.specs.declared.commits.Mode.TheVariants as mode
use Rattle.engine_spec.specs.History.{counts, statements_of, SnapsBefore, IsConflict, NoConflict}
use Rattle.engine_spec.specs.Good.{HasSizes}
use Rattle.engine_spec.specs.Change.{laid}
use Rattle.engine_spec.specs.State.{EngineState}
use Rattle.engine_spec.specs.Written.{Submitted, commit_of, written, numbers_from}
use Rattle.engine_spec.specs.Events.{Fits, IsOver, pages_after, frames_after}
use Rattle.page_face.specs.declared.prepared.Prepared.{Prepared}
use Rattle.page_face.specs.Prepared.{change_in, submitted, IsHandedBack}

-- what the engine holds: the page size and the bytes of a page in use, the maps, first the one at the start and then the one after
-- each commit, and the commits
pub record PlainState : Type 0 where
  pub page_size : ℕ
  pub usable : ℕ
  pub maps : List PageMap
  pub history : List Commit

-- how many bytes of a page are in use, by the first page: all but the reserved ones, which its byte 20 counts, or all where that
-- leaves too few
abbrev pub usable_by : List ℕ → ℕ
usable_by first =
    if nat_lt (length first - slice_index first 20) 480 then length first else length first - slice_index first 20

-- the newest map
abbrev pub newest_of : PlainState → PageMap
newest_of plain = slice_index_or plain.maps (length plain.history) []

-- no reader is counted by an engine that keeps no logs
abbrev pub no_readers : Readers
no_readers = record { part1 = 0; part1_full2 = 0; part2 = 0; part2_full1 = 0 }

-- what the engine tells of itself: each commit is its own, a transaction may always begin on it, nobody else commits to it, it never
-- stops, it has no faults, and it keeps no logs and no disk
abbrev pub state_of : PlainState → EngineState
state_of plain = record {
  history = plain.history;
  own = numbers_from 1 (length plain.history);
  newest = Some (newest_of plain);
  size = length (newest_of plain);
  stopped = None;
  faults = 0;
  page_size = plain.page_size;
  usable = plain.usable;
  always_begins = true;
  alone = true;
  logs = None;
  readers = no_readers;
  disk = None;
}

-- A commit leads from one map to the next: the two agree on all pages that it doesn't count as having written, for a concurrent
-- transaction, and for a plain one it wrote page 1.
pub record LeadsOn (old : PageMap) (commit : Commit) (new : PageMap) : Type 0 where
  pub agrees : (numbers : List ℕ) → ((q : ℕ) → Contains numbers q → counts mode.Concurrent q commit ≡ false) → Agree old new numbers
  pub first_page : counts mode.Plain 1 commit ≡ true

-- The engine is whole: its sizes are legal, there is one map more than commits, all have whole pages, and each commit leads from
-- one map to the next.
pub record IsPlain (plain : PlainState) : Type 0 where
  pub legal : Contains page_sizes plain.page_size
  pub usable_least : 480 ≤ plain.usable
  pub usable_most : plain.usable ≤ plain.page_size
  pub count : length plain.maps ≡ length plain.history + 1
  pub few : All (λ pages. (1 ≤ length pages) × (length pages < 2 ^ 32)) plain.maps
  pub whole : All (λ pages. HasSizes pages (length pages) plain.page_size) plain.maps
  pub chain : (k : ℕ) (old new : PageMap) (commit : Commit) → slice_get plain.maps k ≡ Some old
      → slice_get plain.history k ≡ Some commit → slice_get plain.maps (k + 1) ≡ Some new → LeadsOn old commit new

-- The pin is of one of the maps.
pub record IsOfMap (plain : PlainState) (pin : Pin) : Type 0 where
  pub n : pin.n ≤ length plain.history
  pub size : pin.size ≡ length (slice_index_or plain.maps pin.n [])

-- The engine stands for a run from the first map: each of its maps is sound, and the statements of the commits before it lead to
-- it from the first.
pub record PlainRuns (sound : PageMap → Type 0) (leads : PageMap → List (List ℕ) → PageMap → Type 0) (first : PageMap)
    (plain : PlainState) : Type 0 where
  pub whole : IsPlain plain
  pub snaps : SnapsBefore 0 plain.history
  pub each : (n : ℕ) (pages : PageMap) → slice_get plain.maps n ≡ Some pages
      → sound pages × leads first (statements_of (take n plain.history)) pages

-- the engine is whole, and these pins are of its maps
abbrev pub PlainLive : PlainState → List Pin → Type 0
PlainLive plain pins = IsPlain plain × All (IsOfMap plain) pins

-- the engine after one more commit
abbrev pub committed_state : PlainState → Submitted → PlainState
committed_state plain asked = record plain {
  maps = plain.maps ++ laid (newest_of plain) asked.change ∷ [];
  history = plain.history ++ commit_of asked (written asked.change) ∷ [];
}

-- The transaction may be laid over the newest map: it changes pages that are there, each whole, and makes none.
pub record MayAdd {M : Type 0} (plain : PlainState) (prepared : Prepared M) : Type 0 where
  pub whole : IsPlain plain
  pub snap : prepared.snap ≤ length plain.history
  pub in_range : All (λ image. (1 ≤ image.page) × (image.page ≤ length (newest_of plain))) prepared.changed
  pub images : All (λ image. length image.bytes ≡ plain.page_size) prepared.changed
  pub fresh : prepared.fresh ≡ []
  pub freed : prepared.freed ≡ []

-- What bars a transaction that wrote: a page that it read was written since, or a limit is passed.
abbrev pub Bars : {M : Type 0} → PlainState → Prepared M → CommitFault → Type 0
Bars plain prepared (fault.BusySnapshot page number) =
    IsConflict prepared.mode prepared.reads prepared.snap plain.history page number
Bars plain prepared (fault.SizeLimit pages frames) =
    NoConflict prepared.mode prepared.reads prepared.snap plain.history × IsOver (state_of plain) (change_in prepared)
    × (pages ≡ pages_after (state_of plain) (change_in prepared)) × (frames ≡ frames_after (state_of plain) (change_in prepared))
Bars plain prepared (fault.Stopped log at) = ⊥
Bars plain prepared fault.Memory = ⊥
Bars plain prepared fault.Disk = ⊥
Bars plain prepared (fault.Corrupt page) = ⊥

-- nothing does
pub record IsFree {M : Type 0} (plain : PlainState) (prepared : Prepared M) : Type 0 where
  pub free : NoConflict prepared.mode prepared.reads prepared.snap plain.history
  pub fits : Fits (state_of plain) (change_in prepared)

-- What adding a commit answers: its number, and the engine with it; or want of memory, with the transaction handed back and the
-- engine as it was.
abbrev pub Adds : {M : Type 0} → PlainState → Prepared M → Who → Result Receipt (CommitFault × Prepared M) → PlainState → Type 0
Adds plain prepared who (Ok receipt) new =
    (receipt ≡ At (length plain.history + 1)) × (new ≡ committed_state plain (submitted prepared who))
Adds plain prepared who (Err refusal) new = (refusal.0 ≡ fault.Memory) × IsHandedBack prepared refusal × (new ≡ plain)

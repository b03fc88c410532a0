-- What an engine that keeps logs tells once a commit is laid, how many frames that takes, and what a crash leaves meanwhile.
use Rattle.std.proofs.Common.{◌≡◌, ◌∙◌, ℕ, ◌<◌, ◌≤◌, true, false, ltb, List, [], ◌∷◌, ◌++◌, length, refl, sym, ap, subst, inl, inr, arith}
use Rattle.std.specs.Prelude.{Option, Some, None, Contains}
use Rattle.std.specs.Option.{option_map}
use Rattle.std.proofs.lemmas.Bool.{lt-ltb, le-ltb}
use Rattle.std.proofs.lemmas.List.Elements.{All-cons, All-contains, All-nil, Contains-append_left, Contains-append_right, Contains-append_cases}
use Rattle.disk_face.specs.Steps.{History}
use Rattle.page_spec.specs.PageMap.{PageMap, page_size_of}
use Rattle.crash_spec.specs.Opening.{Opening}
use Rattle.engine_spec.specs.declared.commits.Commit.{Commit}
use Rattle.engine_spec.specs.declared.commits.Mode.TheVariants.{Concurrent}
use Rattle.engine_spec.specs.declared.pins.Readers.{Readers}
use Rattle.engine_spec.specs.Change.{Change, laid}
use Rattle.engine_spec.specs.Events.{IsOver, StopsAt, frames_after, frames_now, logs_to_write, map_after}
use Rattle.engine_spec.specs.History.{IsConflict, NoConflict, conflict}
use Rattle.engine_spec.specs.Leaves.{AtEach, if_told, may_recover}
use Rattle.engine_spec.specs.State.{EngineState, Stop}
use Rattle.engine_spec.specs.TwoLogs.{TwoLogs, IsStopPlace, current_frames, frame_limit, to_write}
use Rattle.engine_spec.proofs.Conflicts.{conflict_is, conflict_none}
use Rattle.page_lines.specs.Logged.{LoggedWorld, frames_with, logs_written, may_leave}
use Rattle.page_lines.specs.World.{PageTransaction, newest_map}
use Rattle.acts.specs.Logged.{TellsLogged}
use Rattle.acts.specs.Standing.{TellsMaps, IsTransaction}
use Rattle.acts.specs.declared.seats.Transaction.{Transaction}
use Rattle.page_lines.proofs.LoggedMoments.{AreAmong, at_wider}
use Rattle.acts.proofs.LoggedStanding.{leaves_is}
use Rattle.acts.proofs.Telling.{pages_fit}

-- where no write of a log failed, the engine tells of the world's maps
pub as_maps : (seen : EngineState) (logged : LoggedWorld) → TellsLogged seen logged → seen.stopped ≡ None
    → TellsMaps seen logged.world.maps logged.world.history
as_maps seen logged tells running = record {
  history_is = tells.history_is;
  newest = tells.newest;
  store = tells.store;
  size = tells.size;
  page_size = tells.page_size;
  running = running;
  count = tells.count;
}

-- an engine that tells of the world's maps, and of its logs besides
pub as_logged : (seen : EngineState) (logged : LoggedWorld) → TellsMaps seen logged.world.maps logged.world.history
    → seen.logs ≡ Some logged.logs → seen.readers ≡ logged.readers → seen.stopped ≡ logged.stopped → TellsLogged seen logged
as_logged seen logged tells logs readers stopped = record {
  history_is = tells.history_is;
  newest = tells.newest;
  store = tells.store;
  size = tells.size;
  page_size = tells.page_size;
  count = tells.count;
  logs = logs;
  readers = readers;
  stopped = stopped;
}

-- the engine writes to the logs to which the world does
pub written_is : (seen : EngineState) (logged : LoggedWorld) → TellsLogged seen logged → logs_to_write seen ≡ Some (logs_written logged)
written_is seen logged tells =
    ap (option_map (λ (logs : TwoLogs). to_write logs seen.readers seen.history)) tells.logs
    ∙ ap (λ (readers : Readers). Some (to_write logged.logs readers seen.history)) tells.readers
    ∙ ap (λ (history : List Commit). Some (to_write logged.logs logged.readers history)) tells.history_is

-- the frames that the log could come to have are those of the world
frames_are : (seen : EngineState) (logged : LoggedWorld) (transaction : PageTransaction) (change : Change) → TellsLogged seen logged
    → change.changed ≡ transaction.changed → change.fresh ≡ [] → change.freed ≡ [] → frames_after seen change ≡ frames_with logged transaction
frames_are seen logged transaction change tells changed fresh freed =
    let now : frames_now (logs_to_write seen) seen.history ≡ length (current_frames (logs_written logged) logged.world.history) =
    ap (λ (logs : Option TwoLogs). frames_now logs seen.history) (written_is seen logged tells)
    ∙ ap (λ (history : List Commit). length (current_frames (logs_written logged) history)) tells.history_is in
    omega (arith, now, ap length changed, ap length fresh, ap length freed)

-- a change that fits the engine fits the world
pub fits_world : (seen : EngineState) (logged : LoggedWorld) (transaction : PageTransaction) (change : Change) → TellsLogged seen logged
    → change.changed ≡ transaction.changed → change.fresh ≡ [] → change.freed ≡ [] → frames_after seen change ≤ frame_limit
    → ltb frame_limit (frames_with logged transaction) ≡ false
fits_world seen logged transaction change tells changed fresh freed fits =
    le-ltb frame_limit (frames_with logged transaction)
    (subst (λ (frames : ℕ). frames ≤ frame_limit) (frames_are seen logged transaction change tells changed fresh freed) fits)

-- and one that passes a limit of the engine passes the world's: its 16 pages are few, so it is the frames that are too many
pub over_world : (seen : EngineState) (logged : LoggedWorld) (transaction : PageTransaction) (change : Change) → TellsLogged seen logged
    → seen.stopped ≡ None → change.changed ≡ transaction.changed → change.fresh ≡ [] → change.freed ≡ [] → IsOver seen change
    → ltb frame_limit (frames_with logged transaction) ≡ true
over_world seen logged transaction change tells running changed fresh freed (inl pages) =
    absurd (pages_fit seen logged.world.maps logged.world.history change (as_maps seen logged tells running) fresh pages)
over_world seen logged transaction change tells running changed fresh freed (inr frames) =
    lt-ltb frame_limit (frames_with logged transaction)
    (subst (λ (many : ℕ). frame_limit < many) (frames_are seen logged transaction change tells changed fresh freed) frames)

-- the conflict of a transaction in the world is that in the engine
conflict_same : (held : Transaction) (transaction : PageTransaction) (one other : List Commit) → IsTransaction held transaction → other ≡ one
    → conflict Concurrent transaction.reads transaction.snap one ≡ conflict Concurrent held.reads held.pin.n other
conflict_same held transaction one other same is =
    ap (λ (reads : List ℕ). conflict Concurrent reads transaction.snap one) same.reads
    ∙ ap (λ (n : ℕ). conflict Concurrent held.reads n one) same.snap
    ∙ ap (conflict Concurrent held.reads held.pin.n) (sym is)

-- no later commit bars the transaction in the engine: none does in the world
pub free_world : (held : Transaction) (transaction : PageTransaction) (one other : List Commit) → IsTransaction held transaction → other ≡ one
    → NoConflict Concurrent held.reads held.pin.n other → conflict Concurrent transaction.reads transaction.snap one ≡ None
free_world held transaction one other same is none =
    conflict_same held transaction one other same is ∙ conflict_none Concurrent held.reads held.pin.n other none

-- one does in the engine: it does in the world
pub barred_world : (held : Transaction) (transaction : PageTransaction) (one other : List Commit) (page number : ℕ)
    → IsTransaction held transaction → other ≡ one → IsConflict Concurrent held.reads held.pin.n other page number
    → conflict Concurrent transaction.reads transaction.snap one ≡ Some (page, number)
barred_world held transaction one other page number same is found =
    conflict_same held transaction one other same is ∙ conflict_is Concurrent held.reads held.pin.n other page number found

-- the map that the commit would make, where the engine tells of the world
pub map_is : (seen : EngineState) (logged : LoggedWorld) (change : Change) → TellsLogged seen logged
    → map_after seen change ≡ Some (laid (newest_map logged.world) change)
map_is seen logged change tells = ap (option_map (λ (pages : PageMap). laid pages change)) tells.newest

-- these maps and one that is among others are among these and the others
behind : (front maps : List PageMap) (made : PageMap) → Contains maps made → AreAmong (front ++ made ∷ []) (front ++ maps)
behind front maps made there pages one = elim (Contains-append_cases front (made ∷ []) pages one) [
  | inl first ↦ Contains-append_left front maps pages first
  | inr last ↦
      Contains-append_right front maps pages
      (All-contains (Contains maps) (made ∷ []) pages (All-cons (Contains maps) made [] there (All-nil (Contains maps))) last)
]

-- Where at each moment of a commit a crash leaves the map before it or the one that it would make, it leaves what the world before or
-- after may leave, if the world after may leave that map.
pub moments_laid : (opened : Opening → Type 0) (seen : EngineState) (logged next : LoggedWorld) (change : Change) (new : Option History)
    → TellsLogged seen logged → Contains (may_leave next) (laid (newest_map logged.world) change)
    → AtEach opened (may_recover seen ++ if_told (map_after seen change)) seen.disk new
    → AtEach opened (may_leave logged ++ may_leave next) seen.disk new
moments_laid opened seen logged next change new tells there at =
    let made : PageMap = laid (newest_map logged.world) change in
    let maps : may_recover seen ++ if_told (map_after seen change) ≡ may_leave logged ++ made ∷ [] =
    ap (λ (maps : List PageMap). maps ++ if_told (map_after seen change)) (leaves_is seen logged tells)
    ∙ ap (λ (map : Option PageMap). may_leave logged ++ if_told map) (map_is seen logged change tells) in
    at_wider opened (may_leave logged ++ made ∷ []) (may_leave logged ++ may_leave next)
    (behind (may_leave logged) (may_leave next) made there) seen.disk new (subst (λ (maps : List PageMap). AtEach opened maps seen.disk new) maps at)

-- the place of the first write that failed, and the logs after it, where the engine tells of the world
pub stop_place : (seen : EngineState) (logged : LoggedWorld) (stop : Stop) (after : Option TwoLogs) → TellsLogged seen logged
    → StopsAt seen stop after → (logs : TwoLogs) × (after ≡ Some logs)
    × IsStopPlace (page_size_of (newest_map logged.world)) logged.logs logged.readers logged.world.history stop.log stop.at logs
stop_place seen logged stop after tells place =
    of_logs after (subst (λ (logs : Option TwoLogs). StopsAt (record seen { logs = logs }) stop after) tells.logs place)
  where
    of_logs : (after : Option TwoLogs) → StopsAt (record seen { logs = Some logged.logs }) stop after → (logs : TwoLogs) × (after ≡ Some logs)
        × IsStopPlace (page_size_of (newest_map logged.world)) logged.logs logged.readers logged.world.history stop.log stop.at logs
    of_logs None place = absurd place
    of_logs (Some logs) place = (
      logs,
      refl,
      subst (λ (size : ℕ). IsStopPlace size logged.logs logged.readers logged.world.history stop.log stop.at logs) tells.page_size
          (subst (λ (readers : Readers). IsStopPlace seen.page_size logged.logs readers logged.world.history stop.log stop.at logs) tells.readers
          (subst (λ (history : List Commit). IsStopPlace seen.page_size logged.logs seen.readers history stop.log stop.at logs) tells.history_is place)),
    )

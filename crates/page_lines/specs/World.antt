-- The run of page lines over whole page maps: the world as it stands, and what one act does to it and is answered.
use Rattle.std.specs.Prelude.{ℕ, ◌+◌, Bool, true, false, ◌==◌, if◌then◌else◌, List, [], ◌∷◌, ◌++◌, length, map, slice_index, replicate, Option, Some, None, unwrap_or}
use Rattle.std.specs.List.{slice_index_or}
use Rattle.page_spec.specs.PageMap.{PageMap, page_at, page_size_of}
use Rattle.engine_spec.specs.declared.commits.PageImage.{PageImage}
use Rattle.engine_spec.specs.declared.commits.Mode.TheVariants.{Concurrent}
use Rattle.engine_spec.specs.declared.commits.Receipt.TheVariants.{At, ReadOnly}
use Rattle.engine_spec.specs.declared.pins.Ckpt.TheVariants as checkpoint
use Rattle.page_lines.specs.declared.lines.Act.{Act}
use Rattle.page_lines.specs.declared.lines.Act.TheVariants as act
use Rattle.page_lines.specs.declared.lines.Told.{Told}
use Rattle.page_lines.specs.declared.lines.Told.TheVariants as told
use Rattle.page_lines.specs.PageLines.{with_image, read_text, write_text}
use Rattle.engine_spec.specs.Change.{image_of}
use Rattle.engine_spec.specs.Change.{Change, laid}
use Rattle.engine_spec.specs.PageSet.{with_page, with_pages}
use Rattle.engine_spec.specs.History.{conflict}
use Rattle.engine_spec.specs.declared.commits.Commit.{Commit}
use Rattle.disk_face.specs.Faults.{one_more}
use Rattle.engine_spec.specs.TwoLogs.{told_logs}
use Rattle.engine_spec.specs.Written.{Submitted, commit_of}

-- A transaction of page lines: its snapshot, the pages that it read there, the pages that it wrote, newest last, the texts of its
-- accepted reads and writes, and whether one was a write.
pub record PageTransaction : Type 0 where
  pub snap : ℕ
  pub reads : List ℕ
  pub changed : List PageImage
  pub said : List (List ℕ)
  pub wrote : Bool

-- A session is out of a transaction, in one, or in one whose COMMIT was refused because of a later commit.
pub data SessionState : Type 0 where
  Out : SessionState
  Open : PageTransaction → SessionState
  Refused : PageTransaction → SessionState

-- The world: the page maps, first the one at the start and then the one after each commit, the commits, how each session stands, and
-- how many transactions it has begun.
pub record World : Type 0 where
  pub maps : List PageMap
  pub history : List Commit
  pub sessions : ℕ → SessionState
  pub begun : ℕ → ℕ

-- what an act is answered, and the world after it
pub record Outcome : Type 0 where
  pub told : Told
  pub world : World

-- a function with another value at one number
abbrev pub changed_at : {A : Type 0} → (ℕ → A) → ℕ → A → ℕ → A
changed_at f number value other = if other == number then value else f other

-- the map with this number
abbrev pub map_number : World → ℕ → PageMap
map_number world number = slice_index_or world.maps number []

-- the newest map
abbrev pub newest_map : World → PageMap
newest_map world = map_number world (length world.history)

-- an answer that changes nothing
abbrev pub same : World → Told → Outcome
same world told = record { told = told; world = world }

-- an answer that changes how a session stands
abbrev pub moved : World → ℕ → SessionState → Told → Outcome
moved world session state told = record {
  told = told;
  world = record world { sessions = changed_at world.sessions session state };
}

-- BEGIN, out of a transaction
abbrev pub begin : World → ℕ → Outcome
begin world session = record {
  told = told.Ok;
  world = record world {
    sessions = changed_at world.sessions session (Open (record {
      snap = length world.history;
      reads = [];
      changed = [];
      said = [];
      wrote = false;
    }));
    begun = changed_at world.begun session (one_more (world.begun session));
  };
}

-- the bytes that a transaction sees of a page: its own where it wrote the page, else those of its snapshot
abbrev pub shown : World → PageTransaction → ℕ → List ℕ
shown world transaction page = unwrap_or (image_of transaction.changed page) (page_at (map_number world transaction.snap) page)

-- the pages that a transaction has read once it has looked at this one: a page that it wrote itself isn't read
abbrev pub reads_with : PageTransaction → ℕ → List ℕ
reads_with transaction page = reads_unless (image_of transaction.changed page) transaction.reads page
  where
    reads_unless : Option (List ℕ) → List ℕ → ℕ → List ℕ
    reads_unless None reads page = with_page reads page
    reads_unless (Some bytes) reads page = reads

-- READ p, in a transaction: the first byte of the page
abbrev pub read : World → ℕ → PageTransaction → ℕ → Outcome
read world session transaction page = let byte = told.Byte (slice_index (shown world transaction page) 0) in
    moved world session (Open (record transaction {
      reads = reads_with transaction page;
      said = transaction.said ++ read_text page ∷ [];
    })) byte

-- WRITE p b, in a transaction: every byte of the page is set
abbrev pub write : World → ℕ → PageTransaction → ℕ → ℕ → Outcome
write world session transaction page byte =
    moved world session (Open (record transaction {
      changed = with_image transaction.changed page (replicate (page_size_of (newest_map world)) byte);
      said = transaction.said ++ write_text page byte ∷ [];
      wrote = true;
    })) told.Ok

-- the change of a transaction of page lines: it makes and frees no page, and leaves page 1
abbrev pub change_of : World → PageTransaction → Change
change_of world transaction = record {
  mode = Concurrent;
  base = length (map_number world transaction.snap);
  changed = transaction.changed;
  fresh = [];
  freed = [];
  tail = false;
}

-- what a transaction of page lines hands in
abbrev pub handed_in : World → ℕ → PageTransaction → Submitted
handed_in world session transaction = record {
  snap = transaction.snap;
  reads = transaction.reads;
  change = change_of world transaction;
  said = transaction.said;
  wrote = transaction.wrote;
  session = session;
  ordinal = world.begun session;
}

-- the pages that a commit of page lines writes, in rising order: page 1, whose header fields every commit sets, and the changed pages
abbrev pub pages_written : List PageImage → List ℕ
pages_written images = with_pages (1 ∷ []) (map (λ image. image.page) images)

-- the commit that a transaction of page lines becomes
abbrev pub commit_in : World → ℕ → PageTransaction → Commit
commit_in world session transaction = commit_of (handed_in world session transaction) (pages_written transaction.changed)

-- COMMIT that nothing bars: one commit and one map more
abbrev pub committed : World → ℕ → PageTransaction → Outcome
committed world session transaction = record {
  told = told.Done (At (length world.history + 1));
  world = record world {
    maps = world.maps ++ laid (newest_map world) (change_of world transaction) ∷ [];
    history = world.history ++ commit_in world session transaction ∷ [];
    sessions = changed_at world.sessions session Out;
  };
}

-- COMMIT of a transaction that wrote, refused exactly where a page that it read was written since
abbrev pub decided : World → ℕ → PageTransaction → Option (ℕ × ℕ) → Outcome
decided world session transaction None = committed world session transaction
decided world session transaction (Some found) = moved world session (Refused transaction) (told.Busy found.0 found.1)

-- COMMIT, in a transaction
abbrev pub commit : World → ℕ → PageTransaction → Outcome
commit world session transaction =
    if transaction.wrote
    then decided world session transaction (conflict Concurrent transaction.reads transaction.snap world.history)
    else moved world session Out (told.Done (ReadOnly transaction.snap))

abbrev pub begin_step : World → ℕ → SessionState → Outcome
begin_step world session Out = begin world session
begin_step world session (Open transaction) = same world told.InTransaction
begin_step world session (Refused transaction) = same world told.MustRollBack

-- What is asked of a transaction, by how its session stands: only one that is open does it.
abbrev pub in_transaction : World → (PageTransaction → Outcome) → SessionState → Outcome
in_transaction world asked Out = same world told.NoTransaction
in_transaction world asked (Open transaction) = asked transaction
in_transaction world asked (Refused transaction) = same world told.MustRollBack

abbrev pub read_step : World → ℕ → ℕ → SessionState → Outcome
read_step world session page state = in_transaction world (λ transaction. read world session transaction page) state

abbrev pub write_step : World → ℕ → ℕ → ℕ → SessionState → Outcome
write_step world session page byte state = in_transaction world (λ transaction. write world session transaction page byte) state

abbrev pub commit_step : World → ℕ → SessionState → Outcome
commit_step world session state = in_transaction world (λ transaction. commit world session transaction) state

abbrev pub rollback_step : World → ℕ → SessionState → Outcome
rollback_step world session Out = same world told.NoTransaction
rollback_step world session (Open transaction) = moved world session Out told.Ok
rollback_step world session (Refused transaction) = moved world session Out told.Ok

-- One act over maps in memory, where there are no logs: a checkpoint is idle, and log 1 has no frames.
abbrev pub step : World → Act → Outcome
step world (act.Begin session) = begin_step world session (world.sessions session)
step world (act.Read session page) = read_step world session page (world.sessions session)
step world (act.Write session page byte) = write_step world session page byte (world.sessions session)
step world (act.Commit session) = commit_step world session (world.sessions session)
step world (act.Rollback session) = rollback_step world session (world.sessions session)
step world act.Copy = same world (told.Ckpt checkpoint.Idle)
step world act.Step = same world (told.Ckpt checkpoint.Idle)
step world act.Logs = same world (told.Logs (told_logs None world.history))

-- what a list of acts is answered
abbrev pub answers_to : World → List Act → List Told
answers_to world [] = []
answers_to world (act ∷ acts) = (step world act).told ∷ answers_to (step world act).world acts

-- the world after a list of acts
abbrev pub world_after : World → List Act → World
world_after world [] = world
world_after world (act ∷ acts) = world_after (step world act).world acts

-- the world in which nothing has happened yet, over this map
abbrev pub world_over : PageMap → World
world_over pages = record {
  maps = pages ∷ [];
  history = [];
  sessions = λ session. Out;
  begun = λ session. 0;
}

-- the map of a page store in memory: 16 pages of 4096 zeros
unfoldable pub zeros : PageMap
zeros = replicate 16 (replicate 4096 0)

-- the world at the start of a run in memory
abbrev pub start : World
start = world_over zeros

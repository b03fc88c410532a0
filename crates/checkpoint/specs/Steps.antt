-- What one step of a checkpoint does to the state of the logs and to the disk.
use Rattle.std.specs.Prelude.{◌≡◌, ◌⊎◌, ℕ, ◌+◌, ◌-◌, ◌*◌, ◌<◌, ◌≤◌, ◌==◌, Bool, true, false, if◌then◌else◌, List, length, Contains, Option}
use Rattle.disk_face.specs.declared.disk.File.TheVariants.{Main}
use Rattle.disk_face.specs.declared.step.Piece.{Piece}
use Rattle.disk_face.specs.declared.step.Step.TheVariants.{Wrote, Synced}
use Rattle.disk_face.specs.Steps.{History, after}
use Rattle.disk_face.specs.Told.{Refuses, IsRead}
use Rattle.log_spec.specs.Accept.{Frame}
use Rattle.log_spec.specs.Frames.{frame_head_size, frame_place}
use Rattle.engine_spec.specs.declared.pins.Ckpt.{Ckpt}
use Rattle.engine_spec.specs.declared.pins.Ckpt.TheVariants.{Copied, Finished, Idle, Held}
use Rattle.engine_spec.specs.declared.pins.Readers.{Readers}
use Rattle.wal_frames.specs.Found.{log_file}
use Rattle.wal_index.specs.Index.{Indexed, log_in}
use Rattle.wal_index.specs.Frames.{IsLastFrame, IsNextPage}
use Rattle.wal_rules.specs.declared.state.LogState.{LogState}
use Rattle.log_pair.specs.Pair.{PairView, LogView, log_of}
use Rattle.log_pair.specs.Appending.{HasFrames, IsPageOf}

-- the number of the log that isn't current
abbrev pub log_behind : LogState → ℕ
log_behind state = 3 - state.current

-- the pages of its frames, by the index
abbrev pub pages_behind : Indexed → LogState → List ℕ
pages_behind index state = (log_in index (log_behind state)).pages

-- and what the pair has of it
abbrev pub view_behind : PairView → LogState → LogView
view_behind pair state = log_of pair (log_behind state)

-- how many readers hold what a copy would change: a front of that log over the database
abbrev pub readers_behind : LogState → Readers → ℕ
readers_behind state readers = if state.current == 1 then readers.part2 else readers.part1

-- bytes for a page of the database, where pages have this size
abbrev pub page_piece : ℕ → ℕ → List ℕ → Piece
page_piece page size bytes = record { file = Main; at = (page - 1) * size; bytes = bytes }

-- A page of the database was written; or nothing was, or a write of that page was refused.
abbrev pub WritesPage : Bool → ℕ → ℕ → List ℕ → Option History → Option History → Type 0
WritesPage true page size bytes old new = new ≡ after (Wrote (page_piece page size bytes)) old
WritesPage false page size bytes old new =
    (new ≡ old) ⊎ ((tried : List ℕ) × (length tried ≡ size) × Refuses (page_piece page size tried) old new)

-- The page of its last frame in the log was written to the database.
pub record CopiesPage (log : ℕ) (view : LogView) (pages : List ℕ) (page : ℕ) (bytes : List ℕ) (old new : Option History) : Type 0 where
  pub frame : ℕ
  pub last : IsLastFrame pages page (length pages) frame
  pub read : IsRead old (log_file log) (frame_place view.header (frame - 1) + frame_head_size) bytes
  pub copied : (frames : List Frame) → frame ≤ length frames → HasFrames old (log_file log) view.header frames → IsPageOf old frames frame bytes
  pub written : new ≡ after (Wrote (page_piece page (length bytes) bytes)) old

-- One step, by its answer. Idle and Held change nothing.
abbrev pub DoesStep : PairView → List ℕ → LogState → Readers → Ckpt → LogState → List ℕ → Option History → Option History → Type 0
DoesStep pair pages state readers Idle new bytes old told = (state.done ≡ true) × (new ≡ state) × (told ≡ old)
DoesStep pair pages state readers (Held count) new bytes old told =
    (state.done ≡ false) × (count ≡ readers_behind state readers) × (0 < count) × (new ≡ state) × (told ≡ old)
DoesStep pair pages state readers (Copied page) new bytes old told =
    (state.done ≡ false) × (readers_behind state readers ≡ 0) × IsNextPage pages state.copied page × (new ≡ record state { copied = page })
    × CopiesPage (log_behind state) (view_behind pair state) pages page bytes old told
DoesStep pair pages state readers Finished new bytes old told =
    (state.done ≡ false) × (readers_behind state readers ≡ 0) × ((page : ℕ) → Contains pages page → page ≤ state.copied)
    × (new ≡ record state { done = true }) × (told ≡ after (Synced Main) old)

-- What a step that failed may have left: all as it was, or the next page of the database with a write that was refused.
abbrev pub FailsIn : List ℕ → LogState → ℕ → Option History → Option History → Type 0
FailsIn pages state size old new =
    (new ≡ old) ⊎ ((page : ℕ) × IsNextPage pages state.copied page × (tried : List ℕ) × (length tried ≡ size)
    × Refuses (page_piece page size tried) old new)

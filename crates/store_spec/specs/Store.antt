-- What a store keeps in memory, the maps that stand on its disk, and what it tells.
use Rattle.std.specs.Prelude.{ℕ, zero, suc, ◌-◌, ◌==◌, if◌then◌else◌, true, List, [], ◌∷◌, length, take, drop, Option, Some}
use Rattle.std.specs.Option.{option_map}
use Rattle.disk_face.specs.Files.{Files, content}
use Rattle.disk_face.specs.Steps.{History, reads}
use Rattle.page_spec.specs.PageMap.{PageMap}
use Rattle.log_spec.specs.LogHeader.{header_size}
use Rattle.log_spec.specs.Accept.{Frame}
use Rattle.log_spec.specs.Frames.{frame_size}
use Rattle.crash_spec.specs.Recovered.{overlaid}
use Rattle.crash_spec.specs.Store.{StoreView}
use Rattle.engine_spec.specs.declared.commits.Commit.{Commit}
use Rattle.engine_spec.specs.declared.commits.PageImage.{PageImage}
use Rattle.engine_spec.specs.declared.pins.Pin.{Pin}
use Rattle.engine_spec.specs.declared.pins.Readers.{Readers}
use Rattle.engine_spec.specs.State.{EngineState, Stop}
use Rattle.engine_spec.specs.TwoLogs.{TwoLogs}
use Rattle.engine_spec.specs.Written.{numbers_from}
use Rattle.wal_frames.specs.Found.{log_file}
use Rattle.wal_index.specs.Index.{Indexed, log_in}
use Rattle.wal_rules.specs.declared.state.LogState.{LogState}
use Rattle.log_pair.specs.Pair.{PairView, log_of, other_number, current_file, current_header}
use Rattle.log_commit.specs.Commit.{map_under}

-- Where a write or sync of a log failed: the log, the offset in it in bytes, the pages of the commit, and the size in pages that it would have made.
pub record KeptStop : Type 0 where
  pub log : ℕ
  pub at : ℕ
  pub images : List PageImage
  pub size : ℕ

-- What a store keeps: the page size and how much of a page is in use, in bytes; the newest map's count of pages; how many frames a log takes
-- before the next commit may go over to the other; both logs, their index, and how they stand; the history; and where a log write failed.
pub record StoreData : Type 0 where
  pub page_size : ℕ
  pub usable : ℕ
  pub size : ℕ
  pub limit : ℕ
  pub pair : PairView
  pub index : Indexed
  pub state : LogState
  pub history : List Commit
  pub stop : Option KeptStop

-- so many frames at the front of some bytes, each of this many bytes
abbrev pub frames_in : (size count : ℕ) → List ℕ → List Frame
frames_in size zero bytes = []
frames_in size (suc count) bytes = take size bytes ∷ frames_in size count (drop size bytes)

-- the frames of a log, as the pair counts them and the files have them
abbrev pub frames_read : PairView → ℕ → Files → List Frame
frames_read pair log files = frames_in (frame_size (log_of pair log).header) (log_of pair log).frames (drop header_size (content files (log_file log)))

abbrev pub current_read : PairView → Files → List Frame
current_read pair files = frames_read pair pair.current files

abbrev pub other_read : PairView → Files → List Frame
other_read pair files = frames_read pair (other_number pair.current) files

-- the newest map: the current log over the other one over Main
abbrev pub newest_in : PairView → Files → PageMap
newest_in pair files = overlaid files.main (other_read pair files) (current_read pair files)

-- so many frames of the current log over the other one over Main
abbrev pub map_over : PairView → (mark : ℕ) → Files → PageMap
map_over pair mark files = overlaid files.main (other_read pair files) (take mark (current_read pair files))

-- so many frames of the other log over Main
abbrev pub map_below : PairView → (mark : ℕ) → Files → PageMap
map_below pair mark files = overlaid files.main [] (take mark (other_read pair files))

-- the map of a pin: it was taken when the current log was current, or when the other one was
abbrev pub pin_map_in : PairView → Pin → Files → PageMap
pin_map_in pair pin files = if pin.generation == (current_header pair).generation then map_over pair pin.mark files else map_below pair pin.mark files

-- the store's files, with these frames on their way and the map that they would make
abbrev pub view_of : StoreData → Files → (pending : List Frame) → (later : PageMap) → StoreView
view_of kept files pending later = record {
  current = current_file kept.pair;
  header = current_header kept.pair;
  older = (log_of kept.pair (other_number kept.pair.current)).header;
  frames = current_read kept.pair files;
  pending = pending;
  other = other_read kept.pair files;
  size = kept.page_size;
  map = newest_in kept.pair files;
  later = later;
}

-- The two logs by the commits that each holds. The index has the number of each of these, and the current log has the newest.
abbrev pub since_of : StoreData → ℕ
since_of kept = length kept.history - length (log_in kept.index kept.pair.current).numbers

abbrev pub other_since_of : StoreData → ℕ
other_since_of kept = since_of kept - length (log_in kept.index (other_number kept.pair.current)).numbers

abbrev pub two_logs : StoreData → TwoLogs
two_logs kept = record {
  current = kept.pair.current;
  generation = (current_header kept.pair).generation;
  since = since_of kept;
  other_since = other_since_of kept;
  done = kept.state.done;
  copied = kept.state.copied;
  limit = kept.limit;
}

-- the newest map and that of a pin, where the disk tells its bytes
abbrev pub newest_told : StoreData → Option History → Option PageMap
newest_told kept told = option_map (λ told. newest_in kept.pair (reads told)) told

abbrev pub pin_told : StoreData → Option History → Pin → Option PageMap
pin_told kept told pin = option_map (λ told. pin_map_in kept.pair pin (reads told)) told

-- the place of a failed log write, with the map that its commit would have made
abbrev pub stop_map : StoreData → KeptStop → Option History → Option PageMap
stop_map kept stop told = option_map (λ told. map_under (newest_in kept.pair (reads told)) stop.images stop.size) told

abbrev pub stop_told : StoreData → Option History → KeptStop → Stop
stop_told kept told stop = record { log = stop.log; at = stop.at; map = stop_map kept stop told }

-- what a store tells, with its disk's past and count of faults, and the readers beside it
abbrev pub store_state : Option History → (faults : ℕ) → StoreData → Readers → EngineState
store_state told faults kept readers = record {
  history = kept.history;
  own = numbers_from 1 (length kept.history);
  newest = newest_told kept told;
  size = kept.size;
  stopped = option_map (stop_told kept told) kept.stop;
  faults = faults;
  page_size = kept.page_size;
  usable = kept.usable;
  always_begins = true;
  alone = true;
  logs = Some (two_logs kept);
  readers = readers;
  disk = told;
}

-- What holds of a store between its calls.
use Rattle.std.specs.Prelude.{◌≡◌, ◌≢◌, ◌⊎◌, ℕ, ◌+◌, ◌*◌, ◌<◌, ◌≤◌, true, List, [], length, take, All, Contains, Option, Some, None, IfSome, IsSome, MatchOption}
use Rattle.disk_face.specs.declared.disk.File.TheVariants.{Main, Log1, Log2}
use Rattle.disk_face.specs.Files.{Files}
use Rattle.disk_face.specs.Steps.{History, reads}
use Rattle.disk_face.specs.Told.{IsInside}
use Rattle.page_spec.specs.Header.{database_limit}
use Rattle.page_spec.specs.PageMap.{PageMap, page_sizes}
use Rattle.log_spec.specs.Accept.{Frame, page_numbers, last_size}
use Rattle.log_spec.specs.Frames.{frame_place}
use Rattle.crash_spec.specs.Opening.{Opening, Since}
use Rattle.crash_spec.specs.Known.{known_pieces}
use Rattle.crash_spec.specs.Logs.{IsWhole, IsOwnAt}
use Rattle.crash_spec.specs.Recovered.{page_after_frames, main_page, NamesPages}
use Rattle.crash_spec.specs.Store.{Holds, named_size}
use Rattle.engine_spec.specs.declared.pins.Pin.{Pin}
use Rattle.engine_spec.specs.declared.pins.Readers.{Readers}
use Rattle.engine_spec.specs.Good.{HasSizes}
use Rattle.engine_spec.specs.History.{statements_of, SnapsBefore}
use Rattle.engine_spec.specs.TwoLogs.{holders}
use Rattle.log_pair.specs.Pair.{IsPair, log_of, other_number, current_file, current_header}
use Rattle.log_pair.specs.Switch.{MayBeTorn, other_file}
use Rattle.log_pair.specs.Appending.{LogStands, HasFrames}
use Rattle.wal_index.specs.Index.{log_in}
use Rattle.wal_rules.specs.Indexing.{IsIndexOf}
use Rattle.log_commit.specs.Commit.{map_under}
use Rattle.log_commit.specs.Fronts.{HasFront}
use Rattle.store_spec.specs.Store.{StoreData, current_read, other_read, newest_in, map_over, map_below, view_of, two_logs, newest_told, since_of, other_since_of}
use Rattle.store_spec.specs.Pins.{PinHolds, AreCounted, IsFront, IsOlderFront, mark_at}

-- a log's index and its frames are as many, and each is of a page of the map
pub record IsCountedLog (kept : StoreData) (log : ℕ) : Type 0 where
  pub counted : length (log_in kept.index log).pages ≡ (log_of kept.pair log).frames
  pub pages : All (λ page. (1 ≤ page) × (page ≤ kept.size)) (log_in kept.index log).pages

-- What a store keeps in memory fits together, whatever its disk tells.
pub record IsWholeStore (kept : StoreData) : Type 0 where
  pub legal : Contains page_sizes kept.page_size
  pub usable : (480 ≤ kept.usable) × (kept.usable ≤ kept.page_size)
  pub some : 1 ≤ kept.size
  pub fits : kept.size * kept.page_size ≤ database_limit
  pub limit : 1 ≤ kept.limit
  pub pair : IsPair kept.pair
  pub page_size : (current_header kept.pair).page_size ≡ kept.page_size
  pub rising : (log_of kept.pair (other_number kept.pair.current)).header.generation + 1 ≡ (current_header kept.pair).generation
  pub current : kept.state.current ≡ kept.pair.current
  pub index : IsIndexOf kept.index (two_logs kept) kept.history
  pub log1 : IsCountedLog kept 1
  pub log2 : IsCountedLog kept 2
  pub sealed : kept.stop ≡ None → kept.pair.appended ≡ 0

-- the files reach as far as the store reads
pub record IsReadable (kept : StoreData) (told : Option History) : Type 0 where
  pub log1 : IsInside told Log1 (frame_place kept.pair.one.header kept.pair.one.frames) 0
  pub log2 : IsInside told Log2 (frame_place kept.pair.two.header kept.pair.two.frames) 0
  pub main : IsInside told Main (kept.size * kept.page_size) 0

-- Pages of Main up to the one that was copied last are as the other log has them; all are where that log is done.
abbrev pub AreCopied : StoreData → Files → Type 0
AreCopied kept files = (number : ℕ) → 1 ≤ number → (number ≤ kept.state.copied) ⊎ (kept.state.done ≡ true)
    → page_after_frames (other_read kept.pair files) number (main_page kept.page_size files.main number) ≡ main_page kept.page_size files.main number

-- Both logs have their frames, whose pages are those of the index.
pub record AreThereBoth (kept : StoreData) (told : History) : Type 0 where
  pub current : HasFrames (Some told) (current_file kept.pair) (current_header kept.pair) (current_read kept.pair (reads told))
  pub other : HasFrames (Some told) (other_file kept.pair) (log_of kept.pair (other_number kept.pair.current)).header (other_read kept.pair (reads told))
  pub current_pages : page_numbers (current_read kept.pair (reads told)) ≡ (log_in kept.index kept.pair.current).pages
  pub other_pages : page_numbers (other_read kept.pair (reads told)) ≡ (log_in kept.index (other_number kept.pair.current)).pages
  pub copied : AreCopied kept (reads told)

-- What is known of the front of each log: its header is for pages of the store's size, and headers were begun there at most so many times.
pub record AreFronts (opening : Opening) (kept : StoreData) (told : History) : Type 0 where
  pub most1 : ℕ
  pub most2 : ℕ
  pub few : (most1 ≤ (current_header kept.pair).generation) × (most2 ≤ (current_header kept.pair).generation)
  pub sizes : (kept.pair.one.header.page_size ≡ kept.page_size) × (kept.pair.two.header.page_size ≡ kept.page_size)
  pub log1 : HasFront opening told Log1 kept.pair.one.header.salt1 most1
  pub log2 : HasFront opening told Log2 kept.pair.two.header.salt1 most2

-- nothing is on its way, and the current log is on the medium
pub record IsRunning (opening : Opening) (kept : StoreData) (pending : List Frame) (told : History) : Type 0 where
  pub none : pending ≡ []
  pub stands : LogStands opening kept.pair (current_read kept.pair (reads told)) [] told
  pub whole : IsWhole opening told (current_file kept.pair)

-- Since an opening the files hold the store. Where a log write failed, these frames may be on their way, and make the map that is kept. The
-- newest map's page 1 names its pages, or Main's length does; that of the map on its way names them itself.
pub record IsStoreOn (opening : Opening) (kept : StoreData) (told : History) : Type 0 where
  pub pending : List Frame
  pub later : PageMap
  pub there : AreThereBoth kept told
  pub holds : Holds opening (view_of kept (reads told) pending later) told
  pub running : MatchOption kept.stop (IsRunning opening kept pending told) (λ stop. later ≡ map_under (newest_in kept.pair (reads told)) stop.images stop.size)
  pub other_whole : IsWhole opening told (other_file kept.pair)
  pub main_whole : kept.state.done ≡ true → IsWhole opening told Main
  pub fronts : AreFronts opening kept told
  pub names : NamesPages (length (reads told).main) kept.page_size (newest_in kept.pair (reads told))
  pub later_names : last_size pending ≢ 0 → (long : ℕ) → NamesPages long kept.page_size later

-- Or the header failed with which a commit would have begun the other log anew: nothing is written any more, and whatever a crash leaves
-- recovers to the newest map, which names the store's page size and its pages; and each signed header that is known at a log's front is
-- ours and has that size.
pub record IsTornOn (opening : Opening) (kept : StoreData) (told : History) : Type 0 where
  pub there : AreThereBoth kept told
  pub torn : MayBeTorn opening (view_of kept (reads told) [] (newest_in kept.pair (reads told))) told
  pub some_size : 100 ≤ kept.page_size
  pub sized : named_size (reads told).main (other_read kept.pair (reads told)) (current_read kept.pair (reads told)) ≡ kept.page_size
  pub own : All (IsOwnAt kept.page_size) (known_pieces opening told)
  pub names : NamesPages (length (reads told).main) kept.page_size (newest_in kept.pair (reads told))
  pub stopped : IsSome kept.stop
  pub done : kept.state.done ≡ true

abbrev pub StandsOn : Opening → StoreData → History → Type 0
StandsOn opening kept told = IsStoreOn opening kept told ⊎ IsTornOn opening kept told

-- the openings since which the disk holds what the store holds
abbrev pub IsOpenedAt : Opening → StoreData → Option History → Type 0
IsOpenedAt opening kept told = Since opening.start (StandsOn opening kept) told

-- The store is whole, and these pins hold in it.
pub record IsLiveStore (told : Option History) (kept : StoreData) (readers : Readers) (pins : List Pin) : Type 0 where
  pub whole : IsWholeStore kept
  pub readable : IsReadable kept told
  pub sizes : IfSome (newest_told kept told) (λ pages. HasSizes pages kept.size kept.page_size)
  pub hold : All (PinHolds told kept) pins
  pub counted : AreCounted readers pins
  pub opening : Opening
  pub opened : IsOpenedAt opening kept told

-- A store stands for a run from the first map: each map that it still has is sound, and the statements of the history up to it lead to it. The
-- maps on the other log are there as long as readers hold them: where none does, a step of a checkpoint may write over what lies below.
pub record StandsFrom (sound : PageMap → Type 0) (leads : PageMap → List (List ℕ) → PageMap → Type 0) (first : PageMap)
    (told : Option History) (kept : StoreData) (readers : Readers) : Type 0 where
  pub snaps : SnapsBefore 0 kept.history
  pub newest : IfSome told (λ told. sound (newest_in kept.pair (reads told)) × leads first (statements_of kept.history) (newest_in kept.pair (reads told)))
  pub fronts : IfSome told (λ told. (n : ℕ) → IsFront kept n → sound (map_over kept.pair (mark_at kept.history (since_of kept) n) (reads told))
      × leads first (statements_of (take n kept.history)) (map_over kept.pair (mark_at kept.history (since_of kept) n) (reads told)))
  pub older : 0 < holders (two_logs kept) readers → IfSome told (λ told. (n : ℕ) → IsOlderFront kept n → sound (map_below kept.pair (mark_at kept.history (other_since_of kept) n) (reads told))
      × leads first (statements_of (take n kept.history)) (map_below kept.pair (mark_at kept.history (other_since_of kept) n) (reads told)))

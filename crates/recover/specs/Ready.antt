-- The files are ready for a store.
use Rattle.std.specs.Prelude.{◌≡◌, ◌⊎◌, ◌+◌, ◌<◌, ◌^◌, ℕ, true, false, if◌then◌else◌, [], length, take, Result, Ok, Err}
use Rattle.disk_face.specs.Files.{Files}
use Rattle.disk_face.specs.Steps.{History, reads}
use Rattle.page_spec.specs.Header.{fields_of, page_size_in}
use Rattle.page_spec.specs.PageMap.{PageMap}
use Rattle.wal_frames.specs.declared.header.LogHeader.{LogHeader}
use Rattle.wal_frames.specs.declared.header.Front.TheVariants.{Ours}
use Rattle.wal_frames.specs.Front.{IsLegalFront}
use Rattle.log_pair.specs.Pair.{PairView, new_pair}
use Rattle.log_pair.specs.Appending.{LogStands}
use Rattle.opening_spec.specs.Found.{OpeningView, FoundLog}
use Rattle.opening_spec.specs.States.{IsSettled, LeavesEither, LeftAtStart, all_synced}
use Rattle.recover.specs.NewPages.{new_pages, migrated}
use Rattle.recover.specs.Seeing.{SeenView, one_in, two_in, founds}
use Rattle.recover.specs.declared.setup.StoreKind.{StoreKind}

-- what an opening goes by, with the map with which the store begins
abbrev pub store_view : OpeningView → PageMap → OpeningView
store_view view later = record { opening = view.opening; size = view.size; long = view.long; map = later; own = true }

-- Both logs have the headers of the pair and no frames, all is on the medium, and Main is the map with which the store begins, whose page 1
-- names the page size.
pub record IsReady (view : OpeningView) (later : PageMap) (pair : PairView) (told : History) : Type 0 where
  pub settled : IsSettled (store_view view later) pair.one.header pair.two.header told
  pub sized : page_size_in (fields_of (take 100 (reads told).main)) ≡ view.size
  pub stands : LogStands view.opening pair [] [] told

-- where a pair was answered
abbrev pub ReadyWith : {E : Type 0} → Result PairView E → OpeningView → PageMap → History → Type 0
ReadyWith (Ok pair) view later told = IsReady view later pair told
ReadyWith (Err fault) view later told = Unit {0}

-- What a crash leaves during an opening recovers to the map before, or to the one with which the store begins; or a log that isn't empty
-- wasn't synced yet, and the crash leaves what it might have left at the start.
abbrev pub LeavesSettling : OpeningView → PageMap → History → Files → Type 0
LeavesSettling view later told image = LeavesEither view later told image ⊎ ((all_synced told ≡ false) × LeftAtStart view told image)

-- The pair of two new headers, legal ones, without frames, of which log 1 is the current one and the newer. Their first salts are of 32 bits.
pub record IsNewPair (page_size : ℕ) (pair : PairView) : Type 0 where
  pub one : LogHeader
  pub two : LogHeader
  pub is : pair ≡ new_pair 1 one two
  pub size_one : one.page_size ≡ page_size
  pub size_two : two.page_size ≡ page_size
  pub newer : one.generation ≡ two.generation + 1
  pub legal : IsLegalFront 1 (Ours one) × IsLegalFront 2 (Ours two)
  pub salts : (one.salt1 < 2 ^ 32) × (two.salt1 < 2 ^ 32)

-- the map with which the store begins: the pages of a new database, the recovered map with this program's versions, or that map itself
abbrev pub first_map : StoreKind → SeenView → (page_size : ℕ) → PageMap → PageMap
first_map kind seen page_size map = if seen.is_new then new_pages kind page_size else (if seen.is_ours then map else migrated map)

-- What an opening goes by is what was seen of these files: in log 1 and log 2 what is found there, the page size, and Main's length. Where
-- the opening makes a commit of its own, log 2 has no frame.
pub record IsViewOf (seen : SeenView) (files : Files) (view : OpeningView) (one two : FoundLog) : Type 0 where
  pub has_one : one ≡ one_in files
  pub has_two : two ≡ two_in files
  pub size : view.size ≡ seen.page_size
  pub long : view.long ≡ length files.main
  pub bare : founds seen ≡ true → two.frames ≡ []
  pub own : seen.is_new ≡ false → seen.is_ours ≡ true → view.own ≡ true

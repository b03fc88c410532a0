-- Where a page of a pin's map stands, and what was read there.
use Rattle.std.specs.Prelude.{◌≡◌, ◌⊎◌, ℕ, ◌-◌, ◌*◌, ◌≤◌, ◌==◌, Bool, true, false, if◌then◌else◌, List, [], length, take, Option, Some, None, IfSome}
use Rattle.disk_face.specs.declared.disk.File.TheVariants.{Main}
use Rattle.disk_face.specs.Files.{Files}
use Rattle.disk_face.specs.Steps.{History, reads}
use Rattle.disk_face.specs.Told.{IsRead}
use Rattle.log_spec.specs.Accept.{Frame}
use Rattle.crash_spec.specs.Store.{named_size}
use Rattle.engine_spec.specs.declared.pins.Pin.{Pin}
use Rattle.wal_frames.specs.Found.{log_file}
use Rattle.wal_index.specs.Index.{log_in}
use Rattle.wal_index.specs.Frames.{IsLastFrame, FindsLast}
use Rattle.log_pair.specs.Pair.{log_of, other_number, current_header}
use Rattle.log_pair.specs.Appending.{HasFrames, IsPageOf}
use Rattle.store_spec.specs.Store.{StoreData, current_read, other_read}

-- the pages of the frames of the current log, and of the other one, by the index
abbrev pub current_pages : StoreData → List ℕ
current_pages kept = (log_in kept.index kept.pair.current).pages

abbrev pub other_pages : StoreData → List ℕ
other_pages kept = (log_in kept.index (other_number kept.pair.current)).pages

-- The last frame of a page in the other log up to a mark: the number of that log, and of the frame. None where Main has the page.
abbrev pub FindsBelow : StoreData → (mark page : ℕ) → Option (ℕ × ℕ) → Type 0
FindsBelow kept mark page None = FindsLast (other_pages kept) page mark None
FindsBelow kept mark page (Some (log, frame)) = (log ≡ other_number kept.pair.current) × IsLastFrame (other_pages kept) page mark frame

-- The last one in the current log up to a mark, or, where none is of the page there, the last one of the other log.
abbrev pub FindsOver : StoreData → (mark page : ℕ) → Option (ℕ × ℕ) → Type 0
FindsOver kept mark page None = FindsLast (current_pages kept) page mark None × FindsLast (other_pages kept) page (length (other_pages kept)) None
FindsOver kept mark page (Some (log, frame)) =
    ((log ≡ kept.pair.current) × IsLastFrame (current_pages kept) page mark frame)
    ⊎ (FindsLast (current_pages kept) page mark None × (log ≡ other_number kept.pair.current) × IsLastFrame (other_pages kept) page (length (other_pages kept)) frame)

-- A pin reads the log that was current when it was taken, which may still be it, up to its mark, and what lies below.
abbrev pub FindsIn : StoreData → (mark page : ℕ) → Option (ℕ × ℕ) → (of_current : Bool) → Type 0
FindsIn kept mark page found true = FindsOver kept mark page found
FindsIn kept mark page found false = FindsBelow kept mark page found

abbrev pub FindsPage : StoreData → Pin → (page : ℕ) → Option (ℕ × ℕ) → Type 0
FindsPage kept pin page found = FindsIn kept pin.mark page found (pin.generation == (current_header kept.pair).generation)

-- These bytes were read there: the page of that frame, or a page of Main.
abbrev pub IsFetched : Option History → StoreData → (page : ℕ) → Option (ℕ × ℕ) → List ℕ → Type 0
IsFetched told kept page None bytes = IsRead told Main ((page - 1) * kept.page_size) bytes × (length bytes ≡ kept.page_size)
IsFetched told kept page (Some (log, frame)) bytes =
    (frames : List Frame) → frame ≤ length frames → HasFrames told (log_file log) (log_of kept.pair log).header frames → IsPageOf told frames frame bytes

-- the page size that a pin's map names in its page 1, and that it is the store's
abbrev pub named_by_pin : StoreData → Pin → Files → ℕ
named_by_pin kept pin files =
    if pin.generation == (current_header kept.pair).generation
    then named_size files.main (other_read kept.pair files) (take pin.mark (current_read kept.pair files))
    else named_size files.main [] (take pin.mark (other_read kept.pair files))

abbrev pub PinIsNamed : Option History → StoreData → Pin → Type 0
PinIsNamed told kept pin = IfSome told (λ told. named_by_pin kept pin (reads told) ≡ kept.page_size)

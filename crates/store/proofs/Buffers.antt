-- The store's buffer, where a page was read into it or laid in it.
use Rattle.std.proofs.Common.{◌≡◌, ◌∙◌, ℕ, List, ◌++◌, ◌*◌, length, take, drop, sym, subst, arith, Option, Some, None, Result, Ok, Err}
use Rattle.std.specs.Prelude.{IfSome, OnOk}
use Rattle.std.proofs.lemmas.List.{take_at}
use Rattle.disk_face.specs.declared.Failed.{Failed}
use Rattle.disk_face.specs.declared.disk.File.TheVariants.{Main}
use Rattle.disk_face.specs.Steps.{History}
use Rattle.disk_face.specs.Told.{IsInside}
use Rattle.page_spec.specs.PageMap.{PageMap, page_at}
use Rattle.engine_spec.specs.declared.pins.Pin.{Pin}
use Rattle.engine_spec.specs.declared.pins.Readers.{Readers}
use Rattle.engine_spec.specs.Change.{Change, laid}
use Rattle.engine_spec.specs.Good.{HasSizes}
use Rattle.store_spec.specs.Store.{StoreData, newest_told}
use Rattle.store_spec.specs.Standing.{IsLiveStore}
use Rattle.store_spec.specs.Named.{AreNamed}
use Rattle.store_spec.specs.Reading.{FindsOver, current_pages}
use Rattle.store_spec.proofs.FetchLaws.{fetched_newest, over_reached, main_reached}
use Rattle.store_spec.proofs.Taken.{size_of_log}
use Rattle.store.specs.Fetching.{IsPlaceInside, IsReadAt}
use Rattle.store.proofs.Fetched.{read_is}

-- a list whose front was written, all of it
pub written_back : (old new : List ℕ) (len : ℕ) → len ≡ length old → length new ≡ length old → take len (new ++ drop (length new) old) ≡ new
written_back old new len is same =
    take_at new (drop (length new) old) len (same ∙ sym is)

pub newest_inside : (told : Option History) (kept : StoreData) (readers : Readers) (pins : List Pin) (size : ℕ) (found : Option (ℕ × ℕ)) → IsLiveStore told kept readers pins
    → size ≡ kept.page_size → FindsOver kept (length (current_pages kept)) 1 found → IsPlaceInside told kept.pair size 1 found
newest_inside told kept readers pins size None live same finds =
    subst (λ (n : ℕ). IsInside told Main (0 * n) n) (sym same) (main_reached told kept 1 live.readable (omega arith) live.whole.some)
newest_inside told kept readers pins size (Some (log, frame)) live same finds =
    let reached = over_reached told kept (length (current_pages kept)) 1 log frame live.whole live.readable finds in
    (reached.0, reached.1.0, reached.1.1, same ∙ sym (size_of_log kept live.whole log), reached.2)

pub newest_read : (result : Result Unit Failed) (told : Option History) (kept : StoreData) (readers : Readers) (pins : List Pin) (found : Option (ℕ × ℕ)) (bytes : List ℕ)
    → IsLiveStore told kept readers pins → AreNamed told kept readers → FindsOver kept (length (current_pages kept)) 1 found → length bytes ≡ kept.page_size
    → OnOk result (IsReadAt told kept.pair 1 found bytes) → OnOk result (IfSome (newest_told kept told) (λ pages. bytes ≡ page_at pages 1))
newest_read (Err why) told kept readers pins found bytes live named finds long read = tt
newest_read (Ok done) told kept readers pins found bytes live named finds long read =
    fetched_newest told kept readers pins 1 found bytes live named (omega arith) live.whole.some finds (read_is told kept 1 found bytes long read)

pub laid_over_newest : (newest : Option PageMap) (size page_size : ℕ) (change : Change) (old new : List ℕ) → IfSome newest (λ pages. HasSizes pages size page_size)
    → IfSome newest (λ pages. old ≡ page_at pages 1) → ((pages : PageMap) → length pages ≡ size → page_at pages 1 ≡ old → new ≡ page_at (laid pages change) 1)
    → IfSome newest (λ pages. new ≡ page_at (laid pages change) 1)
laid_over_newest None size page_size change old new sizes read laid = tt
laid_over_newest (Some pages) size page_size change old new sizes read laid = laid pages sizes.count (sym read)

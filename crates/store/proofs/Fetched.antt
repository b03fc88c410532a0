-- Where a page stands, in what the store keeps, and for its pair of logs.
use Rattle.std.proofs.Common.{◌≡◌, ◌∙◌, ℕ, ◌-◌, ◌*◌, ◌≤◌, List, length, sym, subst, Option, Some, None, Contains}
use Rattle.std.specs.Prelude.{IfSome}
use Rattle.disk_face.specs.declared.disk.File.TheVariants.{Main}
use Rattle.disk_face.specs.Steps.{History}
use Rattle.disk_face.specs.Told.{IsInside, IsRead}
use Rattle.page_spec.specs.PageMap.{page_at}
use Rattle.engine_spec.specs.declared.pins.Pin.{Pin}
use Rattle.engine_spec.specs.declared.pins.Readers.{Readers}
use Rattle.store_spec.specs.Store.{StoreData, pin_told}
use Rattle.store_spec.specs.Standing.{IsLiveStore}
use Rattle.store_spec.specs.Named.{AreNamed}
use Rattle.store_spec.specs.Reading.{FindsPage, IsFetched, PinIsNamed}
use Rattle.store_spec.proofs.EngineLaws.{held}
use Rattle.store_spec.proofs.FetchLaws.{fetched, pin_named, found_reached, pin_reached}
use Rattle.store_spec.proofs.Taken.{size_of_log}
use Rattle.store.specs.Fetching.{IsPlaceInside, IsReadAt}

pub inside : (told : Option History) (kept : StoreData) (readers : Readers) (pins : List Pin) (pin : Pin) (page size : ℕ) (found : Option (ℕ × ℕ)) → IsLiveStore told kept readers pins
    → Contains pins pin → 1 ≤ page → page ≤ pin.size → size ≡ kept.page_size → FindsPage kept pin page found → IsPlaceInside told kept.pair size page found
inside told kept readers pins pin page size None live there from within same finds =
    subst (λ (n : ℕ). IsInside told Main ((page - 1) * n) n) (sym same) (pin_reached told kept readers pins pin page live (held told kept readers pins pin live there) from within)
inside told kept readers pins pin page size (Some (log, frame)) live there from within same finds =
    let reached = found_reached told kept pin page log frame live.whole live.readable finds in
    (reached.0, reached.1.0, reached.1.1, same ∙ sym (size_of_log kept live.whole log), reached.2)

pub read_is : (told : Option History) (kept : StoreData) (page : ℕ) (found : Option (ℕ × ℕ)) (bytes : List ℕ) → length bytes ≡ kept.page_size → IsReadAt told kept.pair page found bytes
    → IsFetched told kept page found bytes
read_is told kept page None bytes long read = (subst (λ (n : ℕ). IsRead told Main ((page - 1) * n) bytes) long read, long)
read_is told kept page (Some (log, frame)) bytes long read = read

is_named : (told : Option History) (kept : StoreData) (readers : Readers) (pins : List Pin) (pin : Pin) → IsLiveStore told kept readers pins → AreNamed told kept readers → Contains pins pin
    → PinIsNamed told kept pin
is_named told kept readers pins pin live named there =
    subst (PinIsNamed told kept) there.2 (pin_named told kept readers pins there.0 pin live named there.1)

pub page_read : (told : Option History) (kept : StoreData) (readers : Readers) (pins : List Pin) (pin : Pin) (page : ℕ) (found : Option (ℕ × ℕ)) (bytes : List ℕ) → IsLiveStore told kept readers pins
    → AreNamed told kept readers → Contains pins pin → 1 ≤ page → page ≤ pin.size → FindsPage kept pin page found → length bytes ≡ kept.page_size → IsReadAt told kept.pair page found bytes
    → IfSome (pin_told kept told pin) (λ pages. bytes ≡ page_at pages page)
page_read told kept readers pins pin page found bytes live named there from within finds long read =
    fetched told kept readers pins pin page found bytes live (held told kept readers pins pin live there) (is_named told kept readers pins pin live named there) from within finds
    (read_is told kept page found bytes long read)

-- What was seen of a database of tables, and what a check of it says.
use Rattle.std.proofs.Common.{◌≡◌, inl, inr, ℕ, ◌+◌, ◌-◌, ◌*◌, ◌≤◌, Bool, true, false, if◌then◌else◌, length, Option, None, Some, refl, sym, ◌∙◌, ap, subst, arith}
use Rattle.std.specs.Prelude.{IfSome, max}
use Rattle.disk_face.specs.Files.{Files}
use Rattle.disk_face.specs.Stays.{OnlyReads}
use Rattle.disk_face.specs.Steps.{History, reads}
use Rattle.disk_face.specs.declared.tells.DiskTells.{Ghosts}
use Rattle.page_spec.specs.Header.{database_limit, fields_of, pages_in}
use Rattle.page_spec.specs.PageMap.{page_at}
use Rattle.page_spec.specs.View.{View, view_of}
use Rattle.crash_spec.specs.Recovered.{recovered}
use Rattle.check_spec.specs.Walk.{Database}
use Rattle.check_spec.specs.declared.fault.CheckFault.{CheckFault}
use Rattle.check_spec.specs.declared.fault.CheckFault.TheVariants as fault
use Rattle.check_spec.specs.declared.fault.Count.{Count}
use Rattle.page_face.specs.declared.pages_tells.PagesTells.{Ghosts as Pages}
use Rattle.page_face.specs.Pages.{ReadsAtMost}
use Rattle.tree_check.specs.Checking.{BarsCheck, IsCounted, IsShown, database_over}
use Rattle.recover.specs.AsLooked.{IsAsLooked, IsViewOfRecovered}
use Rattle.recover.specs.Seeing.{SeenView, IsSeen, IsWholeSeen, size_in, first_in, map_found, is_new_in}
use Rattle.recover.proofs.SeenFiles.{legal_size}
use Rattle.recover.proofs.RecoveredPages.{recovered_found, told_view}
use Rattle.recover.proofs.SeenPages.{size_is, count_is}
use Rattle.store.specs.declared.open_fault.OpenFault.{OpenFault}
use Rattle.store.specs.Opening.{HasTables, IsUnsound, MayHold, MayHoldSeen, RefusesTables, database_in, named_in, of_check}

-- the pages of what was seen, over a view
abbrev pub checked : SeenView → View → Database
checked seen world = record { page_size = seen.page_size; usable = seen.usable; last = length seen.places; view = world }

module _ (new_size : ℕ) (files : Files) (seen : SeenView) (s : IsSeen new_size files seen) (old : seen.is_new ≡ false) where
  usable_is : seen.usable ≡ size_in files - (fields_of (first_in files)).reserved
  usable_is = omega (arith, s.usable ∙ ap (λ (new : Bool). seen.usable + (if new then 0 else (fields_of (first_in files)).reserved)) old, size_is new_size files seen s old)

  -- the pages that are checked are those of these files
  pub database_is : checked seen (view_of (recovered files)) ≡ database_in files
  database_is = λ i. record {
    page_size = size_is new_size files seen s old i;
    usable = usable_is i;
    last = count_is new_size files seen s old i;
    view = λ number. page_at (recovered_found files i) number;
  }

  named_is : seen.named ≡ named_in files
  named_is = s.named old ∙ ap (λ (n : ℕ). pages_in (first_in files) (max (length files.main) (length (map_found files) * n))) (size_is new_size files seen s old)

  -- what was seen can be held where Main can hold the map
  pub seen_holds : MayHold files → MayHoldSeen seen
  seen_holds h = record {
    some = s.some_page old;
    named = named_is ∙ h.named ∙ sym (count_is new_size files seen s old);
    fits = subst (λ (n : ℕ). length seen.places * n ≤ database_limit) (sym (size_is new_size files seen s old))
        (subst (λ (n : ℕ). n * size_in files ≤ database_limit) (sym (count_is new_size files seen s old)) h.fits);
  }

  -- the count of pages is that of the map
  pub recounted : (count : Count) → IsCounted (database_in files) count → IsCounted (database_in files) (record { pages = length seen.places; trees = count.trees; free = count.free })
  recounted count c = record {
    roots = c.roots;
    used = c.used;
    free = c.free;
    rows = c.rows;
    sound = c.sound;
    pages_are = count_is new_size files seen s old;
    trees_are = c.trees_are;
    free_are = c.free_are;
  }

-- What a check says of each view that is told, where the disk was only read, it says of the database in its files.
module _ {D : Type 0} (tells : Ghosts D) (disk new : D) (seen : SeenView) (looked : IsAsLooked tells disk seen) (stays : OnlyReads tells disk new) where
  by_told : (P : Option History → Type 0) → P None → ((told : History) → tells.told disk ≡ Some told → IsSeen looked.new_size (reads told) seen → P (Some told)) → P (tells.told disk)
  by_told P none some = by (tells.told disk) refl looked.seen_is
    where
      by : (told : Option History) → tells.told disk ≡ told → IfSome told (λ told. IsSeen looked.new_size (reads told) seen) → P told
      by None is s = none
      by (Some told) is s = some told is s

  over_files : (P : Database → Type 0) (told : History) → tells.told disk ≡ Some told → IsSeen looked.new_size (reads told) seen
      → ((world : View) → IsViewOfRecovered (tells.told new) world → P (checked seen world)) → P (database_in (reads told))
  over_files P told is s each =
      subst P (database_is looked.new_size (reads told) seen s looked.old)
      (each (view_of (recovered (reads told))) (subst (λ (o : Option History). IsViewOfRecovered o (view_of (recovered (reads told)))) (sym (stays.told ∙ is)) (told_view told)))

  pub counted : (count : Count) → ((world : View) → IsViewOfRecovered (tells.told new) world → IsCounted (checked seen world) count)
      → IfSome (tells.told disk) (λ told. IsCounted (database_in (reads told)) (record { pages = length seen.places; trees = count.trees; free = count.free }))
  counted count each =
      by_told (λ told. IfSome told (λ told. IsCounted (database_in (reads told)) (record { pages = length seen.places; trees = count.trees; free = count.free }))) tt
      (λ told is s. recounted looked.new_size (reads told) seen s looked.old count (over_files (λ db. IsCounted db count) told is s each))

  -- where the check shows a fault, and where it shows none but Main can't hold the map
  pub shown : (why : CheckFault) → ((world : View) → IsViewOfRecovered (tells.told new) world → IsShown (checked seen world) why)
      → IfSome (tells.told disk) (λ told. (is_new_in (reads told) ≡ false) × IsUnsound (reads told) why)
  shown why each =
      by_told (λ told. IfSome told (λ told. (is_new_in (reads told) ≡ false) × IsUnsound (reads told) why)) tt
      (λ told is s. (sym s.new ∙ looked.old, inl (over_files (λ db. IsShown db why) told is s each)))

  pub cant_hold : (count : Count) → ((world : View) → IsViewOfRecovered (tells.told new) world → IsCounted (checked seen world) count) → (MayHoldSeen seen → ⊥)
      → IfSome (tells.told disk) (λ told. (is_new_in (reads told) ≡ false) × IsUnsound (reads told) (fault.Page 1 28))
  cant_hold count each barred =
      by_told (λ told. IfSome told (λ told. (is_new_in (reads told) ≡ false) × IsUnsound (reads told) (fault.Page 1 28))) tt
      (λ told is s. (
        sym s.new ∙ looked.old,
        inr (count, over_files (λ db. IsCounted db count) told is s each, λ holds. barred (seen_holds looked.new_size (reads told) seen s looked.old holds), refl),
      ))

-- Why a check didn't go through is why tables are refused, where the disk has counted what stands behind the pages.
pub refuses_check : {P : Type 0} {pages : Pages P} {old new : P} {after : ℕ} {result : OpenFault} → ReadsAtMost pages old new → (told : Option History) → (why : CheckFault) → result ≡ of_check why
    → BarsCheck pages old new why → after ≡ pages.faults new → pages.faults new ≡ pages.faults old
    → ((why : CheckFault) → ((world : View) → pages.tells new world → IsShown (database_over pages old world) why) → IfSome told (λ told. (is_new_in (reads told) ≡ false) × IsUnsound (reads told) why))
    → RefusesTables (pages.faults old) after told result
refuses_check {P} {pages} {old} {new} {after} {result} reading told why is bars same none each =
    subst (λ (r : OpenFault). RefusesTables (pages.faults old) after told r) (sym is) (subst (λ (n : ℕ). RefusesTables (pages.faults old) n told (of_check why)) (sym same) (by why bars))
  where
    by : (why : CheckFault) → BarsCheck pages old new why → RefusesTables (pages.faults old) (pages.faults new) told (of_check why)
    by (fault.Page page at) bars = (tt, each (fault.Page page at) bars, none)
    by (fault.Schema rowid) bars = (tt, each (fault.Schema rowid) bars, none)
    by (fault.Order page cell) bars = (tt, each (fault.Order page cell) bars, none)
    by (fault.Twice page) bars = (tt, each (fault.Twice page) bars, none)
    by (fault.Lost page) bars = (tt, each (fault.Lost page) bars, none)
    by fault.Disk bars = bars
    by fault.Memory bars = none

-- a new database of tables is a map of one page
pub new_tables : (seen : SeenView) → IsWholeSeen seen → seen.is_new ≡ true → HasTables seen 1
new_tables seen whole is = record {
  counts = ap (λ (new : Bool). if new then 1 else length seen.places) is;
  named = λ old. absurd (let e : true ≡ false = sym is ∙ old in cc);
  some = omega arith;
  fits = (let fits = legal_size seen.page_size whole.page_size in omega (arith, fits.1));
}

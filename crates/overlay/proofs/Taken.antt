-- A page taken out of the freelist of a transaction, through its own pages, and page 1 set to name the list without it.
use Rattle.std.proofs.Common.{◌≡◌, ◌≢◌, ◌∙◌, ℕ, ◌+◌, ◌≤◌, Bool, true, false, List, length, take, drop, take_at, ◌∷◌, ◌++◌, Ok, Err, Some, Option, refl, sym, subst, ap, arith, inl, inr, ne_eqb}
use Rattle.std.specs.Prelude.{◌||◌, ◌⊎◌, if◌then◌else◌, Contains, Result, IfSome, MatchOption}
use Rattle.std.proofs.lemmas.Bool.{cases_eq}
use Rattle.page_spec.specs.Bytes.{u32_at, DiffersOnlyWithin}
use Rattle.page_spec.specs.View.{View, view_with, but_freelist}
use Rattle.engine_spec.specs.declared.pins.Pin.{Pin}
use Rattle.engine_spec.specs.declared.commits.FetchFault.{FetchFault}
use Rattle.engine_spec.specs.declared.commits.FetchFault.TheVariants as fault
use Rattle.engine_spec.specs.PageSet.{with_page}
use Rattle.engine_spec.proofs.PageSets.{with_cases}
use Rattle.page_face.specs.declared.pages_tells.PagesTells as seen
use Rattle.page_face.specs.declared.engine_tells.EngineTells.{Ghosts}
use Rattle.page_face.specs.Pages.{Editing, IsFromOutside, BarsFresh}
use Rattle.freelist.specs.declared.free.Free.{Free}
use Rattle.freelist.specs.Changing.{BreaksTaking, BarsChange, IsAsBefore, HasTakenOut, HasTaken, LeavesFreelist}
use Rattle.freelist.proofs.Changed.{others_same, leaves_list, sound_take}
use Rattle.tree_spec.specs.Freelist.{Trunk, IsFreelist}
use Rattle.tree_spec.proofs.Freelists.{freelist_range, freelist_local}
use Rattle.overlay.specs.Overlay.{OverlayState, first_in_overlay}
use Rattle.overlay.specs.FreeNumbers.{trunk_field, count_field}
use Rattle.overlay.specs.BehindLaws.{still_on}
use Rattle.overlay.specs.Own.{TakesNamed, ChangesOwn}
use Rattle.overlay.proofs.Fields.{but_same}
use Rattle.overlay.proofs.FreeOver.{of_times, other_than, here_with}
use Rattle.overlay.proofs.Writing.{first_keeps, still_first, of_pin_first}

-- bytes that were written in place of all of a vector's
pub written_back : (items new : List ℕ) (len : ℕ) → length new ≡ len → take len (new ++ drop (length new) items) ≡ new
written_back items new len long = take_at new (drop (length new) items) len long

-- the pages other than the first trunk are as before
taken_each : {P : Type 0} (pages : seen.Ghosts P) (old new : P) (free free_then : Free) (page : ℕ) → HasTakenOut pages old free page new free_then
    → (world : View) → pages.tells new world → (number : ℕ) → number ≢ free.trunk → pages.over new world number ≡ pages.over old world number
taken_each pages old new free free_then page out world told number apart = elim out.taken [
  | inl leaf ↦ others_same (pages.over old world) (pages.over new world) free.trunk leaf.change.bytes (leaf.change.put world told).each number apart
  | inr trunk ↦ (trunk.reading.each world told).each number
]

-- what is changed more is the first trunk
taken_has : {P : Type 0} (pages : seen.Ghosts P) (old new : P) (free free_then : Free) (page : ℕ) → HasTakenOut pages old free page new free_then
    → (number : ℕ) → pages.has new number ≡ true → (pages.has old number ≡ true) ⊎ (number ≡ free.trunk)
taken_has pages old new free free_then page out number has = elim (cases_eq number free.trunk) [
  | inl same ↦ inr same
  | inr apart ↦ elim out.taken [
    | inl leaf ↦
        inl (or_false (pages.has old number)
        ∙ (sym (ap (λ (b : Bool). pages.has old number || b) (ne_eqb number free.trunk apart)) ∙ (sym (leaf.change.has number) ∙ has)))
    | inr trunk ↦ inl (sym (trunk.reading.has number) ∙ has)
  ]
]
  where
    or_false : (b : Bool) → b ≡ (b || false)
    or_false true = refl
    or_false false = refl

-- and so is what was read more
taken_read : {P : Type 0} (pages : seen.Ghosts P) (old new : P) (free free_then : Free) (result : Result (Option ℕ) FetchFault)
    → HasTaken pages old free result new free_then
    → (number : ℕ) → Contains (pages.reads new) number → Contains (pages.reads old) number ⊎ (number ≡ free.trunk)
taken_read pages old new free free_then result has number there = elim has.read [
  | inl same ↦ inl (subst (λ (set : List ℕ). Contains set number) same there)
  | inr (some, read) ↦ by_has (pages.has old free.trunk) (subst (λ (set : List ℕ). Contains set number) read there)
]
  where
    by_has : (b : Bool) → Contains (if b then pages.reads old else with_page (pages.reads old) free.trunk) number
        → Contains (pages.reads old) number ⊎ (number ≡ free.trunk)
    by_has true there = inl there
    by_has false there = elim (with_cases (pages.reads old) free.trunk number there) [ inl same ↦ inr same | inr before ↦ inl before ]

-- a fault names a page that is there
taking_bars : {P : Type 0} (pages : seen.Ghosts P) (old new : P) (free : Free) (Breaks : Trunk → Type 0) (size : ℕ) (why : FetchFault)
    → 1 ≤ free.trunk → free.trunk ≤ pages.last_page old → BarsChange pages old free Breaks new why
    → BarsFresh (pages.last_page old) size (pages.faults old) (pages.faults new) why
taking_bars pages old new free Breaks size fault.Disk low high bars = bars
taking_bars pages old new free Breaks size (fault.Corrupt page) low high bars = (omega (arith, low, bars.0), omega (arith, high, bars.0))
taking_bars pages old new free Breaks size (fault.Size count) low high never = absurd never
taking_bars pages old new free Breaks size fault.Memory low high bars = tt

-- What a call that took a page says, said of what the pages tell alone.
pub record TookOne {P : Type 0} (pages : seen.Ghosts P) (old new : P) (free free_then : Free) (page : ℕ) : Type 0 where
  pub range : (2 ≤ page) × (page ≤ pages.last_page old)
  pub count : free.count ≡ free_then.count + 1
  pub list : (world : View) → pages.tells new world → (bound : ℕ) (list : List ℕ)
      → IsFreelist (pages.usable old) bound (pages.over old world) free.trunk free.count list
      → (front back : List ℕ) × (list ≡ front ++ page ∷ back)
      × IsFreelist (pages.usable old) bound (pages.over new world) free_then.trunk free_then.count (front ++ back)
  pub each : (world : View) → pages.tells new world → (number : ℕ) → number ≢ free.trunk → pages.over new world number ≡ pages.over old world number
  pub has : (number : ℕ) → pages.has new number ≡ true → (pages.has old number ≡ true) ⊎ (number ≡ free.trunk)
  pub read : (number : ℕ) → Contains (pages.reads new) number → Contains (pages.reads old) number ⊎ (number ≡ free.trunk)
  pub last : pages.last_page new ≡ pages.last_page old
  pub edits : Editing pages old new

pub took_one : {P : Type 0} {pages : seen.Ghosts P} {old new : P} {free free_then : Free} {found : Option ℕ} (page : ℕ) → found ≡ Some page
    → HasTaken pages old free (Ok found) new free_then → TookOne pages old new free free_then page
took_one {pages = pages} {old = old} {new = new} {free = free} {free_then = free_then} {found = found} page is took =
    let out : HasTakenOut pages old free page new free_then =
    subst (λ (f : Option ℕ). MatchOption f (IsAsBefore pages old free new free_then) (λ page. HasTakenOut pages old free page new free_then)) is took.taken in
    record {
      range = out.range;
      count = out.count;
      list = subst (λ (f : Option ℕ). IfSome f (λ page. LeavesFreelist pages old free page new free_then)) is
          (leaves_list pages old free (Ok found) new free_then took);
      each = taken_each pages old new free free_then page out;
      has = taken_has pages old new free free_then page out;
      read = taken_read pages old new free free_then (Ok found) took;
      last = took.last;
      edits = took.edits;
    }

-- and what one says that took none
pub record TookNone {P : Type 0} (pages : seen.Ghosts P) (old new : P) (free : Free) (why : FetchFault) : Type 0 where
  pub cause : (size : ℕ) → 1 ≤ free.trunk → free.trunk ≤ pages.last_page old
      → BarsFresh (pages.last_page old) size (pages.faults old) (pages.faults new) why
  pub sound : (world : View) → pages.tells new world → (list : List ℕ)
      → IsFreelist (pages.usable old) (pages.last_page old) (pages.over old world) free.trunk free.count list
      → IsFromOutside (pages.faults old) (pages.faults new) why
  pub each : (world : View) → pages.tells new world → (number : ℕ) → pages.over new world number ≡ pages.over old world number
  pub has : (number : ℕ) → pages.has new number ≡ pages.has old number
  pub read : (number : ℕ) → Contains (pages.reads new) number → Contains (pages.reads old) number ⊎ (number ≡ free.trunk)
  pub last : pages.last_page new ≡ pages.last_page old
  pub edits : Editing pages old new

pub took_none : {P : Type 0} {pages : seen.Ghosts P} {old new : P} {free free_then : Free} {why : FetchFault}
    → HasTaken pages old free (Err why) new free_then → TookNone pages old new free why
took_none {pages = pages} {old = old} {new = new} {free = free} {free_then = free_then} {why = why} took =
    record {
      cause = λ size low high.
          taking_bars pages old new free (BreaksTaking (pages.last_page old) free.count (pages.usable old)) size why low high took.refused.1;
      sound = λ world told list is. sound_take pages old free (Err why) new free_then took
          (record { world = world; told = told; list = list; is_list = is });
      each = λ world told. (took.refused.0.reading.each world told).each;
      has = took.refused.0.reading.has;
      read = taken_read pages old new free free_then (Err why) took;
      last = took.last;
      edits = took.edits;
    }

-- Page 1 is set to name the list without the page that was taken.
pub names_taken : (usable trunk page : ℕ) (view mid view_then : View) (first bytes : List ℕ) (free free_then : Free) → free.trunk ≡ trunk
    → view 1 ≡ first → ((n : ℕ) → view_then n ≡ view_with mid 1 bytes n) → u32_at first trunk_field ≡ free.trunk → u32_at first count_field ≡ free.count
    → u32_at bytes trunk_field ≡ free_then.trunk → u32_at bytes count_field ≡ free_then.count → DiffersOnlyWithin first bytes 32 40
    → free.count ≡ free_then.count + 1 → ((n : ℕ) → n ≢ free.trunk → mid n ≡ view n)
    → ((bound : ℕ) (list : List ℕ) → IsFreelist usable bound view free.trunk free.count list
    → (front back : List ℕ) × (list ≡ front ++ page ∷ back) × IsFreelist usable bound mid free_then.trunk free_then.count (front ++ back))
    → TakesNamed usable trunk page view view_then
names_taken usable trunk page view mid view_then first bytes free free_then trunk_is own put named counted named_then counted_then differs less others taken =
    let first_then : view_then 1 ≡ bytes = put 1 ∙ here_with mid 1 bytes in
    record {
      list = λ bound list is.
          let found = taken bound list
          (subst (λ (n : ℕ). IsFreelist usable bound view n free.count list) (ap (λ (b : List ℕ). u32_at b trunk_field) own ∙ named)
          (subst (λ (n : ℕ). IsFreelist usable bound view (u32_at (view 1) trunk_field) n list) (ap (λ (b : List ℕ). u32_at b count_field) own ∙ counted) is)) in
          let rest = found.0 ++ found.1 in
          let moved = freelist_local usable bound bound mid view_then free_then.trunk free_then.count rest (omega arith)
          (λ n there. put n ∙ other_than mid 1 bytes n (λ e.
          let range = of_times (λ (m : ℕ). (2 ≤ m) × (m ≤ bound)) rest n (freelist_range usable bound mid free_then.trunk free_then.count rest found.3) there in
          omega (arith, e, range.0))) found.3 in (
            found.0,
            found.1,
            found.2,
            subst (λ (n : ℕ). IsFreelist usable bound view_then n (u32_at (view_then 1) count_field) rest)
                (sym (ap (λ (b : List ℕ). u32_at b trunk_field) first_then ∙ named_then))
                (subst (λ (n : ℕ). IsFreelist usable bound view_then free_then.trunk n rest)
                (sym (ap (λ (b : List ℕ). u32_at b count_field) first_then ∙ counted_then)) moved),
          );
      each = λ number above apart.
          put number ∙ (other_than mid 1 bytes number (λ e. omega (arith, e, above)) ∙ others number (λ e. apart (e ∙ trunk_is)));
      first = ap but_freelist first_then ∙ (but_same first bytes differs ∙ ap but_freelist (sym own));
      count = ap (λ (b : List ℕ). u32_at b count_field) own ∙ (counted ∙ (less
          ∙ ap (λ (n : ℕ). n + 1) (sym (ap (λ (b : List ℕ). u32_at b count_field) first_then ∙ counted_then))));
    }

module _ {E M : Type 0} (told : Ghosts E M) (engine engine_then : E) (pin : Pin) (overlay mid : OverlayState) where
  -- page 1 is put again after that
  pub changes_first : (bytes : List ℕ) → length bytes ≡ (told.state engine_then).page_size → ChangesOwn told engine pin overlay engine_then mid
      → ChangesOwn told engine pin overlay engine_then (first_in_overlay mid bytes)
  changes_first bytes whole leaves = record {
    last = leaves.last;
    freed = leaves.freed;
    has = λ number has. first_keeps mid bytes number (leaves.has number has);
    reads = leaves.reads;
    narrows = leaves.narrows;
    ready = of_pin_first told engine_then pin mid leaves.ready bytes whole;
    still = still_on overlay mid (first_in_overlay mid bytes) leaves.still (still_first mid bytes);
    behind = leaves.behind;
  }

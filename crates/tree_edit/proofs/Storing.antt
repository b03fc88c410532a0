-- A page that is stored, and one that is made, by the calls on pages that do it.
use Rattle.std.proofs.Common.{◌≡◌, ℕ, ◌<◌, ◌≤◌, List, [], ◌∷◌, Ok, Err, Some, refl, sym, subst, ap, ◌∙◌, arith, inl, inr, eq-eqb, take, drop}
use Rattle.std.proofs.lemmas.List.{drop-take, take-take}
use Rattle.std.specs.Prelude.{◌⊎◌, ◌==◌, Contains}
use Rattle.disk_face.specs.Faults.{last_count}
use Rattle.page_spec.specs.View.{View, freelist_fields}
use Rattle.engine_spec.specs.declared.commits.FetchFault.{FetchFault}
use Rattle.engine_spec.specs.declared.commits.FetchFault.TheVariants as fault
use Rattle.node_spec.specs.Nodes.{Node, node_of}
use Rattle.page_face.specs.declared.pages_tells.PagesTells.{Ghosts}
use Rattle.page_face.specs.Pages.{Editing, ReadsAtMost, LeavesFields, IsFromOutside, BarsFresh, BarsNeat}
use Rattle.page_face.specs.PageCalls.{HasPut, HasMade}
use Rattle.tree_spec.specs.Layout.{times}
use Rattle.overflow.specs.Following.{shown_over}
use Rattle.overflow.specs.Writing.{BarsWriting}
use Rattle.tree_edit.specs.Editing.{lists_joined, EditsPages, reading, putting, making, storing}
use Rattle.tree_edit.proofs.Edits.{edits_join, edits_told, edits_read, edits_put, edits_take, still_used, the_page}

-- a fault since an earlier moment
pub fault_since : (first before after : ℕ) (why : FetchFault) → first ≤ before → IsFromOutside before after why → IsFromOutside first after why
fault_since first before after fault.Disk least rose = record { later = omega (arith, least, rose.later); counted = by_count rose.counted }
  where
    by_count : (before < after) ⊎ (after ≡ last_count) → (first < after) ⊎ (after ≡ last_count)
    by_count (inl more) = inl (omega (arith, least, more))
    by_count (inr last) = inr last
fault_since first before after (fault.Corrupt page) least never = absurd never
fault_since first before after (fault.Size pages) least never = absurd never
fault_since first before after fault.Memory least is = tt

-- the first 100 bytes have the freelist fields
pub head_fields : (a b : List ℕ) → take 100 a ≡ take 100 b → freelist_fields a ≡ freelist_fields b
head_fields a b same = fields a ∙ (ap (λ (l : List ℕ). take 8 (drop 32 l)) same ∙ sym (fields b))
  where
    fields : (l : List ℕ) → freelist_fields l ≡ take 8 (drop 32 (take 100 l))
    fields l = sym (ap (λ (m : List ℕ). take 8 m) (drop-take 32 68 l) ∙ take-take 8 68 (drop 32 l) (omega arith))

-- the page that was put has the bytes
pub put_bytes : {P : Type 0} (pages : Ghosts P) (page : ℕ) (bytes : List ℕ) (old new : P) (world : View) → HasPut pages old page bytes (Ok tt) new → pages.tells new world
    → pages.over new world page ≡ bytes
put_bytes pages page bytes old new world put told = (put.put world told).each page ∙ rw (eq-eqb page page refl) refl

pub put_shows : {P : Type 0} (pages : Ghosts P) (page : ℕ) (bytes : List ℕ) (old new : P) (world : View) (usable : ℕ) (node : Node) → HasPut pages old page bytes (Ok tt) new
    → pages.tells new world → pages.usable new ≡ usable → node_of usable (page == 1) bytes ≡ Some node → (shown_over pages new world).node page ≡ Some node
put_shows pages page bytes old new world usable node put told same shown =
    rw (same) (ap (node_of usable (page == 1)) (put_bytes pages page bytes old new world put told) ∙ shown)

-- a page was read at most, and then put
pub stored : {P : Type 0} (pages : Ghosts P) (page : ℕ) (bytes : List ℕ) (old mid new : P) (world : View) → ReadsAtMost pages old mid
    → ((n : ℕ) → Contains (pages.reads mid) n → Contains (pages.reads old) n ⊎ (1 ≤ times (page ∷ []) n)) → HasPut pages mid page bytes (Ok tt) new
    → ((world : View) → pages.tells mid world → LeavesFields page (pages.over mid world 1) bytes) → pages.tells new world → pages.neat old world
    → (pages.free old world page → ⊥) → EditsPages pages (storing page []) old new world
stored pages page bytes old mid new world reads few put leaves told neat used =
    let told_mid = (put.tells world).0 told in
    let one = edits_read pages (page ∷ []) old mid world reads told_mid neat few in
    let two = edits_put pages page bytes mid new world (put.put world told) (still_used pages (reading (page ∷ [])) old mid world one page used refl) one.neat (leaves world told_mid) put.has put.reads in
    edits_join pages (reading (page ∷ [])) (putting (page ∷ [])) old mid new world one two

-- a page was made, and then put
pub made_put : {P : Type 0} (pages : Ghosts P) (page : ℕ) (bytes : List ℕ) (old mid new : P) (world : View) → HasMade pages old (Ok page) mid → HasPut pages mid page bytes (Ok tt) new
    → pages.tells new world → pages.neat old world → EditsPages pages (making (page ∷ [])) old new world
made_put pages page bytes old mid new world made put told neat =
    let told_mid = (put.tells world).0 told in
    let takes = made.made.taken world told_mid neat in
    let one = edits_take pages page old mid world takes (made.changed world told_mid neat) (made.read world told_mid neat) in
    let two = edits_put pages page bytes mid new world (put.put world told) takes.taken one.neat (λ first. absurd (omega (arith, first, made.made.above))) put.has put.reads in
    edits_told pages (lists_joined (making (page ∷ [])) (putting (page ∷ []))) (making (page ∷ [])) old new world (λ n. refl) (λ n. refl) (λ uses. uses)
    (λ n there. inr (omega arith, subst (λ (k : ℕ). pages.free old world k) (the_page page n there) takes.was_free)) (λ n there. absurd (omega (arith, there)))
    (edits_join pages (making (page ∷ [])) (putting (page ∷ [])) old mid new world one two)

-- why no page was made
pub made_barred : {P : Type 0} (pages : Ghosts P) (old new : P) (why : FetchFault) → HasMade pages old (Err why) new → BarsWriting pages old why new
made_barred pages old new why made = record {
  cause = subst (λ (last : ℕ). BarsFresh last (pages.page_size old) (pages.faults old) (pages.faults new) why) (sym made.barred.last) made.barred.cause;
  exact = λ world told neat. less (pages.spare old world) (pages.spare new world) why (made.barred.each world told).list.no_more_spare (made.barred.exact world told neat);
}
  where
    less : (spare spare_then : Type 0) (why : FetchFault) → (spare_then → spare) → BarsNeat spare why → BarsNeat spare_then why
    less spare spare_then fault.Disk on bars = tt
    less spare spare_then (fault.Corrupt page) on bars = bars
    less spare spare_then (fault.Size count) on bars = λ is. bars (on is)
    less spare spare_then fault.Memory on bars = tt

-- a fault from outside bars what was to be made and put
pub outside_barred : {P : Type 0} (pages : Ghosts P) (old new : P) (before : ℕ) (why : FetchFault) → pages.faults old ≤ before → IsFromOutside before (pages.faults new) why
    → BarsWriting pages old why new
outside_barred pages old new before fault.Disk least rose = record { cause = fault_since (pages.faults old) before (pages.faults new) fault.Disk least rose; exact = λ world told neat. tt }
outside_barred pages old new before (fault.Corrupt page) least never = absurd never
outside_barred pages old new before (fault.Size count) least never = absurd never
outside_barred pages old new before fault.Memory least is = record { cause = tt; exact = λ world told neat. tt }

-- what bars since a later moment, bars since an earlier one, where the freelist was left in order
pub barred_since : {P : Type 0} (pages : Ghosts P) (old mid new : P) (why : FetchFault) → Editing pages old mid
    → ((world : View) → pages.tells new world → pages.neat old world → pages.neat mid world) → BarsWriting pages mid why new → BarsWriting pages old why new
barred_since pages old mid new why edits neat_mid bars = record {
  cause = since (pages.faults old) (pages.faults mid) (pages.faults new) (pages.last_page new) (pages.page_size mid) (pages.page_size old) why edits.faults edits.page_size bars.cause;
  exact = λ world told neat. bars.exact world told (neat_mid world told neat);
}
  where
    since : (first before after last size_now size : ℕ) (why : FetchFault) → first ≤ before → size_now ≡ size
        → BarsFresh last size_now before after why → BarsFresh last size first after why
    since first before after last size_now size fault.Disk least same bars = fault_since first before after fault.Disk least bars
    since first before after last size_now size (fault.Corrupt page) least same bars = bars
    since first before after last size_now size (fault.Size count) least same bars = subst (λ (s : ℕ). BarsFresh last s first after (fault.Size count)) same bars
    since first before after last size_now size fault.Memory least same bars = tt

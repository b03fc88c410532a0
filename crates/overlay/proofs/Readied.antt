-- A page that is made after the pages were made ready for it.
use Rattle.std.proofs.Common.{◌≡◌, ◌∙◌, ℕ, ◌+◌, ◌*◌, ◌<◌, ◌≤◌, Bool, List, Ok, Err, sym, subst, ap, inl, inr, true, false}
use Rattle.std.specs.Prelude.{if◌then◌else◌, max, Result, IfOk, IfErr, Contains}
use Rattle.page_spec.specs.Header.{database_limit}
use Rattle.page_spec.specs.View.{View, but_freelist}
use Rattle.engine_spec.specs.declared.commits.FetchFault.{FetchFault}
use Rattle.engine_spec.specs.declared.commits.FetchFault.TheVariants as fault
use Rattle.engine_spec.specs.PageSet.{with_page}
use Rattle.engine_spec.proofs.PageSets.{with_cases}
use Rattle.page_face.specs.declared.pages_tells.PagesTells.{Ghosts}
use Rattle.page_face.specs.Pages.{KeepsPages, TakesPage, ReadsAtMost, BarsFresh, BarsNeat, IsFromOutside}
use Rattle.page_face.specs.PageCalls.{HasRead, GivesOut, IsBarred, HasMade}
use Rattle.page_face.proofs.PageLaws.{pages_join, editing_join, reading_same}
use Rattle.freelist.proofs.Changed.{outside_since}
use Rattle.overlay.specs.Making.{ReadiesPages}

-- pages of which more were read at most
pub readies_read : {P : Type 0} (pages : Ghosts P) (old new : P) → ReadsAtMost pages old new
    → ((number : ℕ) → Contains (pages.reads new) number → Contains (pages.reads old) number) → ReadiesPages pages old new
readies_read pages old new reading read = record {
  each = reading.each;
  last = reading.last;
  has = λ world told neat number has. inl (sym (reading.has number) ∙ has);
  read = read;
  edits = reading.edits;
}

-- a page that is taken then
takes_after : {P : Type 0} (pages : Ghosts P) (old mid new : P) (page : ℕ) (world : View) → pages.last_page mid ≡ pages.last_page old
    → KeepsPages pages old mid world → TakesPage pages mid page new world → TakesPage pages old page new world
takes_after pages old mid new page world last kept took = record {
  was_free = kept.list.none_more page took.was_free;
  taken = took.taken;
  stay = λ number apart free. took.stay number apart (kept.list.stay number free);
  none_more = λ number free. kept.list.none_more number (took.none_more number free);
  each = λ number above unfree. took.each number above (λ free. unfree (kept.list.none_more number free)) ∙ kept.each number;
  first = took.first ∙ ap but_freelist (kept.each 1);
  neat = took.neat;
  spared = λ spare. subst (λ (n : ℕ). page ≤ n) last (took.spared (kept.list.spare spare));
  grown = λ none. took.grown (λ spare. none (kept.list.no_more_spare spare)) ∙ ap (λ (n : ℕ). n + 1) last;
  no_more_spare = λ spare. kept.list.no_more_spare (took.no_more_spare spare);
}

-- a fault then
bars_since : (last last_then size size_then first before after : ℕ) (why : FetchFault) → last_then ≡ last → size_then ≡ size → first ≤ before
    → BarsFresh last_then size_then before after why → BarsFresh last size first after why
bars_since last last_then size size_then first before after fault.Disk same sizes least bars = outside_since first before after fault.Disk least bars
bars_since last last_then size size_then first before after (fault.Corrupt page) same sizes least bars = (bars.0, subst (λ (n : ℕ). page ≤ n) same bars.1)
bars_since last last_then size size_then first before after (fault.Size count) same sizes least bars =
    (bars.0 ∙ ap (λ (n : ℕ). n + 1) same, subst (λ (n : ℕ). database_limit < count * n) sizes bars.1)
bars_since last last_then size size_then first before after fault.Memory same sizes least bars = tt

neat_since : (spare spare_then : Type 0) (why : FetchFault) → (spare → spare_then) → BarsNeat spare_then why → BarsNeat spare why
neat_since spare spare_then fault.Disk on bars = tt
neat_since spare spare_then (fault.Corrupt page) on bars = bars
neat_since spare spare_then (fault.Size count) on bars = λ there. bars (on there)
neat_since spare spare_then fault.Memory on bars = tt

-- a page that is made then is made
pub made_after : {P : Type 0} (pages : Ghosts P) (old mid new : P) (result : Result ℕ FetchFault) → ReadiesPages pages old mid
    → HasMade pages mid result new → HasMade pages old result new
made_after {P} pages old mid new result one two = record {
  made = gives result two.made;
  barred = bars result two.barred;
  changed = λ world told neat number has.
      let kept = one.each world (two.edits.narrows world told) in
      elim (two.changed world told (kept.list.neat neat) number has) [
        | inl was ↦ one.has world (two.edits.narrows world told) neat number was
        | inr (inl free) ↦ inr (inl (kept.list.none_more number free))
        | inr (inr (spare, is)) ↦ inr (inr (kept.list.no_more_spare spare, is))
      ];
  read = λ world told neat number there.
      let kept = one.each world (two.edits.narrows world told) in
      elim (two.read world told (kept.list.neat neat) number there) [
        | inl was ↦ inl (one.read number was)
        | inr free ↦ inr (kept.list.none_more number free)
      ];
  edits = editing_join pages old mid new one.edits two.edits pages.follows_on;
}
  where
    gives : (r : Result ℕ FetchFault) → IfOk r (λ page. GivesOut pages mid page new) → IfOk r (λ page. GivesOut pages old page new)
    gives (Err why) out = tt
    gives (Ok page) out = record {
      above = out.above;
      last = out.last ∙ ap (λ (n : ℕ). max n page) one.last;
      fits = λ past.
          let fits = out.fits (subst (λ (n : ℕ). n < page) (sym one.last) past) in (
            fits.0 ∙ ap (λ (n : ℕ). n + 1) one.last,
            subst (λ (size : ℕ). page * size ≤ database_limit) one.edits.page_size fits.1,
          );
      taken = λ world told neat.
          let kept = one.each world (two.edits.narrows world told) in
          takes_after pages old mid new page world one.last kept (out.taken world told (kept.list.neat neat));
    }

    bars : (r : Result ℕ FetchFault) → IfErr r (λ why. IsBarred pages mid why new) → IfErr r (λ why. IsBarred pages old why new)
    bars (Ok page) bar = tt
    bars (Err why) bar = record {
      cause = bars_since (pages.last_page old) (pages.last_page mid) (pages.page_size old) (pages.page_size mid) (pages.faults old) (pages.faults mid)
          (pages.faults new) why one.last one.edits.page_size one.edits.faults bar.cause;
      exact = λ world told neat.
          let kept = one.each world (two.edits.narrows world told) in
          neat_since (pages.spare old world) (pages.spare mid world) why kept.list.spare (bar.exact world told (kept.list.neat neat));
      last = bar.last ∙ one.last;
      each = λ world told. pages_join pages old mid new world (one.each world (two.edits.narrows world told)) (bar.each world told);
    }

-- a fault from outside bars none that is neat
pub outside_neat : (spare : Type 0) (before after : ℕ) (why : FetchFault) → IsFromOutside before after why → BarsNeat spare why
outside_neat spare before after fault.Disk rose = tt
outside_neat spare before after (fault.Corrupt page) never = absurd never
outside_neat spare before after (fault.Size count) never = absurd never
outside_neat spare before after fault.Memory is = tt

-- pages that were made ready, where a fault from outside ends the call
pub barred_outside : {P : Type 0} (pages : Ghosts P) (old new : P) (why : FetchFault) → IsFromOutside (pages.faults old) (pages.faults new) why
    → ReadiesPages pages old new → HasMade pages old (Err why) new
barred_outside pages old new why cause one = record {
  made = tt;
  barred = record {
    cause = bars why cause;
    exact = λ world told neat. outside_neat (pages.spare old world) (pages.faults old) (pages.faults new) why cause;
    last = one.last;
    each = one.each;
  };
  changed = one.has;
  read = λ world told neat number there. inl (one.read number there);
  edits = one.edits;
}
  where
    bars : (w : FetchFault) → IsFromOutside (pages.faults old) (pages.faults new) w
        → BarsFresh (pages.last_page old) (pages.page_size old) (pages.faults old) (pages.faults new) w
    bars fault.Disk rose = rose
    bars (fault.Corrupt page) never = absurd never
    bars (fault.Size count) never = absurd never
    bars fault.Memory is = tt

-- page 1 was fetched, which was read before
pub readies_fetched : {P : Type 0} {pages : Ghosts P} {old new : P} {done : Unit} {bytes : List ℕ} → HasRead pages old 1 (Ok done) bytes new → Contains (pages.reads old) 1
    → ReadiesPages pages old new
readies_fetched {pages = pages} {old = old} {new = new} fetched was =
    readies_read pages old new fetched.reading (λ number there.
    by_has (pages.has old 1) number (subst (λ (set : List ℕ). Contains set number) fetched.read there))
  where
    by_has : (has : Bool) (number : ℕ) → Contains (if has then pages.reads old else with_page (pages.reads old) 1) number → Contains (pages.reads old) number
    by_has true number there = there
    by_has false number there = elim (with_cases (pages.reads old) 1 number there) [
      | inl same ↦ subst (λ (n : ℕ). Contains (pages.reads old) n) (sym same) was
      | inr before ↦ before
    ]

-- and where it wasn't
pub readies_unread : {P : Type 0} {pages : Ghosts P} {old new : P} {bytes : List ℕ} {why : FetchFault} → HasRead pages old 1 (Err why) bytes new
    → ReadiesPages pages old new
readies_unread {pages = pages} {old = old} {new = new} fetched =
    readies_read pages old new fetched.reading (λ number there. subst (λ (set : List ℕ). Contains set number) fetched.unread there)

-- nothing was done
pub readies_same : {P : Type 0} (pages : Ghosts P) (at : P) → pages.ready at → ReadiesPages pages at at
readies_same pages at ready = readies_read pages at at (reading_same pages at ready (pages.follows_itself at)) (λ number there. there)

-- Pages that are given up one after another.
use Rattle.std.proofs.Common.{◌≡◌, ℕ, ◌≤◌, List, [], ◌∷◌, ◌++◌, Bool, true, false, refl, sym, subst, ◌∙◌, arith, inl, inr, cond}
use Rattle.std.proofs.lemmas.Bool.{cases_eq, cases_lt}
use Rattle.std.specs.Prelude.{◌⊎◌, Contains}
use Rattle.page_spec.specs.View.{View}
use Rattle.engine_spec.specs.PageSet.{with_page}
use Rattle.engine_spec.proofs.PageSets.{with_cases}
use Rattle.page_face.specs.declared.pages_tells.PagesTells.{Ghosts}
use Rattle.page_face.specs.Pages.{KeepsPages, GivesUp, IsGivenAt, IsReadAt, pages_read}
use Rattle.tree_spec.specs.Layout.{times}
use Rattle.tree_spec.proofs.Lists.{times-append}
use Rattle.overflow.specs.Editing.{AreInUse, GivesPages, TouchesOnly}
use Rattle.overflow.proofs.Making.{end_here, end_apart}

pub gives_none : {P : Type 0} (pages : Ghosts P) (at : P) (world : View) → GivesPages pages [] at at world
gives_none pages at world = record {
  given = λ number there. absurd (omega (arith, there));
  stay = λ number free. free;
  none_more = λ number none free. free;
  each = λ number none used. refl;
  neat = λ used neat. neat;
  no_more_spare = λ spare. spare;
}

-- pages were only read since
pub gives_kept : {P : Type 0} (pages : Ghosts P) (gone : List ℕ) (old now then : P) (world : View) → GivesPages pages gone old now world
    → KeepsPages pages now then world → GivesPages pages gone old then world
gives_kept pages gone old now then world gives kept = record {
  given = λ number there. kept.list.stay number (gives.given number there);
  stay = λ number free. kept.list.stay number (gives.stay number free);
  none_more = λ number none free. gives.none_more number none (kept.list.none_more number free);
  each = λ number none used. kept.each number ∙ gives.each number none used;
  neat = λ used neat. kept.list.neat (gives.neat used neat);
  no_more_spare = λ spare. gives.no_more_spare (kept.list.no_more_spare spare);
}

-- of pages in use, each once, the last one is none of the others
pub front_in_use : {P : Type 0} (pages : Ghosts P) (at : P) (world : View) (gone : List ℕ) (page : ℕ) → AreInUse pages at world (gone ++ page ∷ [])
    → AreInUse pages at world gone
front_in_use pages at world gone page used number there =
    let count = times-append gone (page ∷ []) number in
    let found = used number (omega (arith, count, there)) in
    (omega (arith, count, found.0), found.1)

pub last_in_use : {P : Type 0} (pages : Ghosts P) (at : P) (world : View) (gone : List ℕ) (page : ℕ) → AreInUse pages at world (gone ++ page ∷ [])
    → (times gone page ≡ 0) × (pages.free at world page → ⊥)
last_in_use pages at world gone page used =
    let count = end_here gone page page refl in
    let found = used page (omega (arith, count)) in
    (omega (arith, count, found.0), found.1)

-- one page more was given up
pub gives_more : {P : Type 0} (pages : Ghosts P) (gone : List ℕ) (old now then : P) (page : ℕ) (world : View) → GivesPages pages gone old now world
    → GivesUp pages now page then world → GivesPages pages (gone ++ page ∷ []) old then world
gives_more pages gone old now then page world gives up = record {
  given = λ number there. elim (cases_eq page number) [
    | inl same ↦ subst (λ (n : ℕ). pages.free then world n) same up.given
    | inr apart ↦ up.stay number (gives.given number (omega (arith, end_apart gone page number apart, there)))
  ];
  stay = λ number free. up.stay number (gives.stay number free);
  none_more = λ number none free. elim (cases_eq page number) [
    | inl same ↦ absurd (omega (arith, end_here gone page number same, none))
    | inr apart ↦ gives.none_more number (omega (arith, end_apart gone page number apart, none)) (up.none_more number (λ same. apart (sym same)) free)
  ];
  each = λ number none used. elim (cases_eq page number) [
    | inl same ↦ absurd (omega (arith, end_here gone page number same, none))
    | inr apart ↦
        (let less : times gone number ≡ 0 = omega (arith, end_apart gone page number apart, none) in
        up.each number (λ same. apart (sym same)) (λ free. used (gives.none_more number less free)) ∙ gives.each number less used)
  ];
  neat = λ used neat.
      let last = last_in_use pages old world gone page used in
      up.neat (λ free. last.1 (gives.none_more page last.0 free)) (gives.neat (front_in_use pages old world gone page used) neat);
  no_more_spare = λ spare. gives.no_more_spare (up.no_more_spare spare);
}

pub touches_none : {P : Type 0} (pages : Ghosts P) (at : P) (world : View) → TouchesOnly pages [] at at world
touches_none pages at world = record { changed = λ number there. inl there; read = λ number there. inl there }

-- a page was fetched
pub touches_fetched : {P : Type 0} (pages : Ghosts P) (gone : List ℕ) (old now then : P) (page : ℕ) (world : View) → TouchesOnly pages gone old now world
    → ((number : ℕ) → pages.has then number ≡ pages.has now number) → pages.reads then ≡ pages_read pages now page
    → TouchesOnly pages (gone ++ page ∷ []) old then world
touches_fetched pages gone old now then page world touches has reads = record {
  changed = λ number there. elim (touches.changed number (sym (has number) ∙ there)) [
    | inl before ↦ inl before
    | inr (inl here) ↦ inr (inl (omega (arith, times-append gone (page ∷ []) number, here)))
    | inr (inr free) ↦ inr (inr free)
  ];
  read = λ number there. elim (fetched_cases (pages.has now page) number (subst (λ (l : List ℕ). Contains l number) reads there)) [
    | inl same ↦ inr (inl (omega (arith, end_here gone page number (sym same))))
    | inr before ↦
        elim (touches.read number before) [
          | inl earlier ↦ inl earlier
          | inr (inl here) ↦ inr (inl (omega (arith, times-append gone (page ∷ []) number, here)))
          | inr (inr free) ↦ inr (inr free)
        ]
  ];
}
  where
    fetched_cases : (had : Bool) (number : ℕ) → Contains (cond had (pages.reads now) (with_page (pages.reads now) page)) number
        → (number ≡ page) ⊎ Contains (pages.reads now) number
    fetched_cases true number there = inr there
    fetched_cases false number there = with_cases (pages.reads now) page number there

-- none was
pub touches_kept : {P : Type 0} (pages : Ghosts P) (gone : List ℕ) (old now then : P) (world : View) → TouchesOnly pages gone old now world
    → ((number : ℕ) → pages.has then number ≡ pages.has now number) → pages.reads then ≡ pages.reads now → TouchesOnly pages gone old then world
touches_kept pages gone old now then world touches has reads = record {
  changed = λ number there. touches.changed number (sym (has number) ∙ there);
  read = λ number there. touches.read number (subst (λ (l : List ℕ). Contains l number) reads there);
}

-- the page that was fetched last was given up, or giving it up failed
pub touches_more : {P : Type 0} (pages : Ghosts P) (gone : List ℕ) (old now then : P) (page : ℕ) (world : View) → GivesPages pages gone old now world
    → TouchesOnly pages (gone ++ page ∷ []) old now world
    → ((number : ℕ) → pages.has then number ≡ true → IsGivenAt pages now world page number)
    → ((number : ℕ) → Contains (pages.reads then) number → IsReadAt pages now world number)
    → TouchesOnly pages (gone ++ page ∷ []) old then world
touches_more pages gone old now then page world gives touches changed read = record {
  changed = λ number there. elim (changed number there) [
    | inl before ↦ touches.changed number before
    | inr (inl same) ↦ inr (inl (omega (arith, end_here gone page number (sym same))))
    | inr (inr free) ↦ inr (or_free number free)
  ];
  read = λ number there. elim (read number there) [
    | inl before ↦ touches.read number before
    | inr free ↦ inr (or_free number free)
  ];
}
  where
    or_free : (number : ℕ) → pages.free now world number → (1 ≤ times (gone ++ page ∷ []) number) ⊎ pages.free old world number
    or_free number free = elim (cases_lt 0 (times gone number)) [
      | inl here ↦ inl (omega (arith, times-append gone (page ∷ []) number, here))
      | inr none ↦ inr (gives.none_more number (omega (arith, none)) free)
    ]

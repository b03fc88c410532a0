-- Pages that are made one after another, and put.
use Rattle.std.proofs.Common.{◌≡◌, ℕ, ◌+◌, ◌<◌, ◌≤◌, List, [], ◌∷◌, ◌++◌, Bool, true, false, refl, sym, subst, ap, ◌∙◌, arith, inl, inr, eq-eqb}
use Rattle.std.proofs.lemmas.Bool.{cases_eq, cases_lt, ne_eqb}
use Rattle.std.specs.Prelude.{◌⊎◌, ◌==◌, ◌||◌, Contains}
use Rattle.page_spec.specs.View.{View, but_freelist}
use Rattle.page_face.specs.declared.pages_tells.PagesTells.{Ghosts}
use Rattle.page_face.specs.Pages.{KeepsFree, KeepsPages, TakesPage, PutsPage, IsMadeAt, IsReadAt}
use Rattle.tree_spec.specs.Layout.{times}
use Rattle.tree_spec.proofs.Lists.{times-append}
use Rattle.overflow.specs.Editing.{MakesPages}

-- how often a page stands in a list with it alone
pub one_here : (page number : ℕ) → page ≡ number → times (page ∷ []) number ≡ 1
one_here page number same = rw (eq-eqb page number same) refl

pub one_apart : (page number : ℕ) → (page ≡ number → ⊥) → times (page ∷ []) number ≡ 0
one_apart page number apart = rw (ne_eqb page number apart) refl

-- and in one with it at the end
pub end_here : (pages : List ℕ) (page number : ℕ) → page ≡ number → times (pages ++ page ∷ []) number ≡ times pages number + 1
end_here pages page number same = omega (arith, times-append pages (page ∷ []) number, one_here page number same)

pub end_apart : (pages : List ℕ) (page number : ℕ) → (page ≡ number → ⊥) → times (pages ++ page ∷ []) number ≡ times pages number
end_apart pages page number apart = omega (arith, times-append pages (page ∷ []) number, one_apart page number apart)

-- nothing was made
pub makes_none : {P : Type 0} (pages : Ghosts P) (at : P) (world : View) → pages.neat at world → MakesPages pages [] at at world
makes_none pages at world neat = record {
  once = λ number. omega arith;
  were_free = λ number there. absurd (omega (arith, there));
  taken = λ number there. absurd (omega (arith, there));
  stay = λ number none free. free;
  none_more = λ number free. free;
  each = λ number above used. refl;
  first = refl;
  neat = neat;
  no_more_spare = λ spare. spare;
  changed = λ number there. inl there;
  read = λ number there. inl there;
}

-- what was changed and read since pages were made, said of what was before
made_at : {P : Type 0} (pages : Ghosts P) (made : List ℕ) (old now : P) (world : View) → MakesPages pages made old now world
    → (number : ℕ) → IsMadeAt pages now world number → IsMadeAt pages old world number
made_at pages made old now world makes number at = elim at [
  | inl before ↦ makes.changed number before
  | inr (inl free) ↦ inr (inl (makes.none_more number free))
  | inr (inr spared) ↦ inr (inr (makes.no_more_spare spared.0, spared.1))
]

read_at : {P : Type 0} (pages : Ghosts P) (made : List ℕ) (old now : P) (world : View) → MakesPages pages made old now world
    → (number : ℕ) → IsReadAt pages now world number → IsReadAt pages old world number
read_at pages made old now world makes number at = elim at [
  | inl before ↦ makes.read number before
  | inr free ↦ inr (makes.none_more number free)
]

-- a page that is taken was none of those that were made
pub taken_apart : {P : Type 0} (pages : Ghosts P) (made : List ℕ) (old now : P) (world : View) (page : ℕ) → MakesPages pages made old now world
    → pages.free now world page → times made page ≡ 0
taken_apart pages made old now world page makes free = elim (cases_lt 0 (times made page)) [
  | inl there ↦ absurd (makes.taken page (omega (arith, there)) free)
  | inr none ↦ omega (arith, none)
]

-- one page more was made
pub takes_more : {P : Type 0} (pages : Ghosts P) (made : List ℕ) (old now then : P) (page : ℕ) (world : View) → MakesPages pages made old now world
    → TakesPage pages now page then world → ((number : ℕ) → pages.has then number ≡ true → IsMadeAt pages now world number)
    → ((number : ℕ) → Contains (pages.reads then) number → IsReadAt pages now world number)
    → MakesPages pages (made ++ page ∷ []) old then world
takes_more pages made old now then page world makes takes changed read =
    let apart : times made page ≡ 0 = taken_apart pages made old now world page makes takes.was_free in
    record {
      once = λ number. elim (cases_eq page number) [
        | inl same ↦
            (let none : times made number ≡ 0 = subst (λ (n : ℕ). times made n ≡ 0) same apart in
            omega (arith, end_here made page number same, none))
        | inr other ↦ omega (arith, end_apart made page number other, makes.once number)
      ];
      were_free = λ number there. elim (cases_eq page number) [
        | inl same ↦ makes.none_more number (subst (λ (n : ℕ). pages.free now world n) same takes.was_free)
        | inr other ↦ makes.were_free number (omega (arith, end_apart made page number other, there))
      ];
      taken = λ number there free. elim (cases_eq page number) [
        | inl same ↦ takes.taken (subst (λ (n : ℕ). pages.free then world n) (sym same) free)
        | inr other ↦ makes.taken number (omega (arith, end_apart made page number other, there)) (takes.none_more number free)
      ];
      stay = λ number none free. elim (cases_eq page number) [
        | inl same ↦ absurd (omega (arith, end_here made page number same, none))
        | inr other ↦ takes.stay number (λ same. other (sym same)) (makes.stay number (omega (arith, end_apart made page number other, none)) free)
      ];
      none_more = λ number free. makes.none_more number (takes.none_more number free);
      each = λ number above used. takes.each number above (λ free. used (makes.none_more number free)) ∙ makes.each number above used;
      first = takes.first ∙ makes.first;
      neat = takes.neat;
      no_more_spare = λ spare. makes.no_more_spare (takes.no_more_spare spare);
      changed = λ number there. made_at pages made old now world makes number (changed number there);
      read = λ number there. read_at pages made old now world makes number (read number there);
    }

-- none was, and all pages are as before
pub makes_kept : {P : Type 0} (pages : Ghosts P) (made : List ℕ) (old now then : P) (world : View) → MakesPages pages made old now world
    → KeepsPages pages now then world → ((number : ℕ) → pages.has then number ≡ true → IsMadeAt pages now world number)
    → ((number : ℕ) → Contains (pages.reads then) number → IsReadAt pages now world number) → MakesPages pages made old then world
makes_kept pages made old now then world makes kept changed read = record {
  once = makes.once;
  were_free = makes.were_free;
  taken = λ number there free. makes.taken number there (kept.list.none_more number free);
  stay = λ number none free. kept.list.stay number (makes.stay number none free);
  none_more = λ number free. makes.none_more number (kept.list.none_more number free);
  each = λ number above used. kept.each number ∙ makes.each number above used;
  first = ap but_freelist (kept.each 1) ∙ makes.first;
  neat = kept.list.neat makes.neat;
  no_more_spare = λ spare. makes.no_more_spare (kept.list.no_more_spare spare);
  changed = λ number there. made_at pages made old now world makes number (changed number there);
  read = λ number there. read_at pages made old now world makes number (read number there);
}

or_cases : (a b : Bool) → (a || b) ≡ true → (a ≡ true) ⊎ (b ≡ true)
or_cases true b is = inl refl
or_cases false b is = inr is

pub same_by : (a b : ℕ) → (a == b) ≡ true → a ≡ b
same_by a b is = elim (cases_eq a b) [
  | inl same ↦ same
  | inr apart ↦ absurd (let e : false ≡ true = sym (ne_eqb a b apart) ∙ is in cc)
]

-- one of those that were made was put
pub puts_made : {P : Type 0} (pages : Ghosts P) (made : List ℕ) (old now then : P) (page : ℕ) (bytes : List ℕ) (world : View) → MakesPages pages made old now world
    → 1 < page → 1 ≤ times made page → PutsPage pages now page bytes then world
    → ((number : ℕ) → pages.has then number ≡ (pages.has now number || (number == page))) → pages.reads then ≡ pages.reads now
    → MakesPages pages made old then world
puts_made pages made old now then page bytes world makes above_1 there puts has reads =
    let list : KeepsFree pages now then world = puts.list (makes.taken page there) makes.neat (λ is. absurd (omega (arith, above_1, is))) in
    let other : (number : ℕ) → (number ≡ page → ⊥) → pages.over then world number ≡ pages.over now world number =
    λ number apart. puts.each number ∙ rw (ne_eqb number page apart) refl in
    record {
      once = makes.once;
      were_free = makes.were_free;
      taken = λ number made_here free. makes.taken number made_here (list.none_more number free);
      stay = λ number none free. list.stay number (makes.stay number none free);
      none_more = λ number free. makes.none_more number (list.none_more number free);
      each = λ number above used.
          other number (λ same. used (subst (λ (n : ℕ). pages.free old world n) (sym same) (makes.were_free page there))) ∙ makes.each number above used;
      first = ap but_freelist (other 1 (λ same. omega (arith, above_1, same))) ∙ makes.first;
      neat = list.neat makes.neat;
      no_more_spare = λ spare. makes.no_more_spare (list.no_more_spare spare);
      changed = λ number changed. elim (or_cases (pages.has now number) (number == page) (sym (has number) ∙ changed)) [
        | inl before ↦ makes.changed number before
        | inr same ↦ inr (inl (subst (λ (n : ℕ). pages.free old world n) (sym (same_by number page same)) (makes.were_free page there)))
      ];
      read = λ number read. makes.read number (subst (λ (l : List ℕ). Contains l number) reads read);
    }

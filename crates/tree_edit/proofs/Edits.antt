-- Calls on pages in a row, and each call by what it says of itself.
use Rattle.std.proofs.Common.{◌≡◌, ℕ, ◌+◌, ◌≤◌, List, [], ◌∷◌, ◌++◌, length, Bool, true, false, cond, refl, sym, subst, ap, ◌∙◌, arith, inl, inr, eq-eqb, length-append}
use Rattle.std.proofs.lemmas.Bool.{cases_eq, cases_lt, ne_eqb}
use Rattle.std.specs.Prelude.{◌⊎◌, ◌==◌, ◌||◌, Contains}
use Rattle.page_spec.specs.View.{View, but_freelist}
use Rattle.engine_spec.specs.PageSet.{with_page}
use Rattle.engine_spec.proofs.PageSets.{with_cases}
use Rattle.node_spec.specs.Nodes.{node_of}
use Rattle.node_spec.proofs.NodeLaws.{freelist_aside}
use Rattle.page_face.specs.declared.pages_tells.PagesTells.{Ghosts}
use Rattle.page_face.specs.Pages.{KeepsFree, ReadsAtMost, LeavesFields, PutsPage, TakesPage, GivesUp, IsMadeAt, IsGivenAt, IsReadAt, pages_read}
use Rattle.tree_spec.specs.Layout.{times}
use Rattle.tree_spec.specs.Shown.{IsAlike, link_in}
use Rattle.tree_spec.proofs.Lists.{times-append}
use Rattle.overflow.specs.Following.{shown_over}
use Rattle.overflow.specs.Editing.{MakesPages, AreInUse, GivesPages, TouchesOnly}
use Rattle.overflow.proofs.Making.{same_by}
use Rattle.edit_spec.specs.Edits.{KeepAlike}
use Rattle.tree_edit.specs.Editing.{PageLists, lists_joined, UsesFreelist, IsFreeBy, kept, taken, given, EditsPages, reading, putting, making, giving}

-- a number over two calls
free_join : {A B C : Type 0} (m g m_then g_then m_all g_all : ℕ) → m_all ≡ m + m_then → g_all ≡ g + g_then → IsFreeBy A B m g → IsFreeBy B C m_then g_then → IsFreeBy A C m_all g_all
free_join m g m_then g_then m_all g_all p q (kept e on back) (kept f on_then back_then) = kept (omega (arith, p, q, e, f)) (λ a. on_then (on a)) (λ c. back (back_then c))
free_join m g m_then g_then m_all g_all p q (kept e on back) (taken f was not) = taken (omega (arith, p, q, e, f)) (back was) not
free_join m g m_then g_then m_all g_all p q (kept e on back) (given f not is) = given (omega (arith, p, q, e, f)) (λ a. not (on a)) is
free_join m g m_then g_then m_all g_all p q (taken e was not) (kept f on back) = taken (omega (arith, p, q, e, f)) was (λ c. not (back c))
free_join m g m_then g_then m_all g_all p q (taken e was not) (taken f was_then not_then) = absurd (not was_then)
free_join m g m_then g_then m_all g_all p q (taken e was not) (given f not_then is) = kept (omega (arith, p, q, e, f)) (λ a. is) (λ c. was)
free_join m g m_then g_then m_all g_all p q (given e not is) (kept f on back) = given (omega (arith, p, q, e, f)) not (on is)
free_join m g m_then g_then m_all g_all p q (given e not is) (taken f was not_then) = kept (omega (arith, p, q, e, f)) (λ a. absurd (not a)) (λ c. absurd (not_then c))
free_join m g m_then g_then m_all g_all p q (given e not is) (given f not_then is_then) = absurd (not_then is)

-- a page in use that wasn't given up is in use then
used_then : {A B : Type 0} (m g : ℕ) → g ≡ 0 → (A → ⊥) → IsFreeBy A B m g → B → ⊥
used_then m g none used (kept e on back) b = used (back b)
used_then m g none used (taken e was not) b = not b
used_then m g none used (given e not is) b = omega (arith, e, none)

-- a page that is free then was free, or was given up
free_or_gone : {A B : Type 0} (m g : ℕ) → IsFreeBy A B m g → B → (1 ≤ g) ⊎ A
free_or_gone m g (kept e on back) b = inr (back b)
free_or_gone m g (taken e was not) b = absurd (not b)
free_or_gone m g (given e not is) b = inl (omega (arith, e))

pub still_used : {P : Type 0} (pages : Ghosts P) (lists : PageLists) (old new : P) (world : View) → EditsPages pages lists old new world → (number : ℕ)
    → (pages.free old world number → ⊥) → times lists.gone number ≡ 0 → pages.free new world number → ⊥
still_used pages lists old new world edits number used none = used_then (times lists.made number) (times lists.gone number) none used (edits.free number)

uses_first : (one two : PageLists) → UsesFreelist one → UsesFreelist (lists_joined one two)
uses_first one two uses = omega (arith, uses, length-append one.made two.made, length-append one.gone two.gone)

uses_last : (one two : PageLists) → UsesFreelist two → UsesFreelist (lists_joined one two)
uses_last one two uses = omega (arith, uses, length-append one.made two.made, length-append one.gone two.gone)

-- calls in a row
pub edits_join : {P : Type 0} (pages : Ghosts P) (one two : PageLists) (old mid new : P) (world : View) → EditsPages pages one old mid world
    → EditsPages pages two mid new world → EditsPages pages (lists_joined one two) old new world
edits_join pages one two old mid new world first last = record {
  free = λ n. free_join (times one.made n) (times one.gone n) (times two.made n) (times two.gone n) (times (one.made ++ two.made) n) (times (one.gone ++ two.gone) n)
      (times-append one.made two.made n) (times-append one.gone two.gone n) (first.free n) (last.free n);
  same = λ n used put gone.
      let none : times one.gone n ≡ 0 = omega (arith, gone, times-append one.gone two.gone n) in
      let before = first.same n used (omega (arith, put, times-append one.put two.put n)) none in
      let after = last.same n (still_used pages one old mid world first n used none) (omega (arith, put, times-append one.put two.put n)) (omega (arith, gone, times-append one.gone two.gone n)) in
      record { whole = λ past. after.whole past ∙ before.whole past; first = λ is. after.first is ∙ before.first is };
  neat = last.neat;
  no_more_spare = λ spare. first.no_more_spare (last.no_more_spare spare);
  changed = λ n there. elim (last.changed n there) [
    | inl before ↦
        elim (first.changed n before) [
          | inl earlier ↦ inl earlier
          | inr (inl put) ↦ inr (inl (omega (arith, put, times-append one.put two.put n)))
          | inr (inr (inl gone)) ↦ inr (inr (inl (omega (arith, gone, times-append one.gone two.gone n))))
          | inr (inr (inr free)) ↦ inr (inr (inr (uses_first one two free.0, free.1)))
        ]
    | inr (inl put) ↦ inr (inl (omega (arith, put, times-append one.put two.put n)))
    | inr (inr (inl gone)) ↦ inr (inr (inl (omega (arith, gone, times-append one.gone two.gone n))))
    | inr (inr (inr (uses, inl free))) ↦
        elim (free_or_gone (times one.made n) (times one.gone n) (first.free n) free) [
          | inl gone ↦ inr (inr (inl (omega (arith, gone, times-append one.gone two.gone n))))
          | inr before ↦ inr (inr (inr (uses_last one two uses, inl before)))
        ]
    | inr (inr (inr (uses, inr spared))) ↦ inr (inr (inr (uses_last one two uses, inr (first.no_more_spare spared.0, spared.1))))
  ];
  read = λ n there. elim (last.read n there) [
    | inl before ↦
        elim (first.read n before) [
          | inl earlier ↦ inl earlier
          | inr (inl read) ↦ inr (inl (omega (arith, read, times-append one.read two.read n)))
          | inr (inr (inl gone)) ↦ inr (inr (inl (omega (arith, gone, times-append one.gone two.gone n))))
          | inr (inr (inr free)) ↦ inr (inr (inr (uses_first one two free.0, free.1)))
        ]
    | inr (inl read) ↦ inr (inl (omega (arith, read, times-append one.read two.read n)))
    | inr (inr (inl gone)) ↦ inr (inr (inl (omega (arith, gone, times-append one.gone two.gone n))))
    | inr (inr (inr (uses, free))) ↦
        elim (free_or_gone (times one.made n) (times one.gone n) (first.free n) free) [
          | inl gone ↦ inr (inr (inl (omega (arith, gone, times-append one.gone two.gone n))))
          | inr before ↦ inr (inr (inr (uses_last one two uses, before)))
        ]
  ];
}

-- The same calls told by other lists: of pages that were free, what was read and put needn't be told where the freelist is used.
pub edits_told : {P : Type 0} (pages : Ghosts P) (lists told : PageLists) (old new : P) (world : View) → ((n : ℕ) → times told.made n ≡ times lists.made n)
    → ((n : ℕ) → times told.gone n ≡ times lists.gone n) → (UsesFreelist lists → UsesFreelist told)
    → ((n : ℕ) → 1 ≤ times lists.put n → (1 ≤ times told.put n) ⊎ (UsesFreelist told × pages.free old world n))
    → ((n : ℕ) → 1 ≤ times lists.read n → (1 ≤ times told.read n) ⊎ (UsesFreelist told × pages.free old world n))
    → EditsPages pages lists old new world → EditsPages pages told old new world
edits_told pages lists told old new world made gone uses put read edits = record {
  free = λ n. rw (made n, gone n) (edits.free n);
  same = λ n used no_put no_gone. elim (cases_lt 0 (times lists.put n)) [
    | inl there ↦
        elim (put n (omega (arith, there))) [ inl here ↦ absurd (omega (arith, here, no_put)) | inr free ↦ absurd (used free.1) ]
    | inr none ↦ edits.same n used (omega (arith, none)) (omega (arith, gone n, no_gone))
  ];
  neat = edits.neat;
  no_more_spare = edits.no_more_spare;
  changed = λ n there. elim (edits.changed n there) [
    | inl before ↦ inl before
    | inr (inl here) ↦ elim (put n here) [ inl listed ↦ inr (inl listed) | inr free ↦ inr (inr (inr (free.0, inl free.1))) ]
    | inr (inr (inl here)) ↦ inr (inr (inl (omega (arith, gone n, here))))
    | inr (inr (inr free)) ↦ inr (inr (inr (uses free.0, free.1)))
  ];
  read = λ n there. elim (edits.read n there) [
    | inl before ↦ inl before
    | inr (inl here) ↦ elim (read n here) [ inl listed ↦ inr (inl listed) | inr free ↦ inr (inr (inr free)) ]
    | inr (inr (inl here)) ↦ inr (inr (inl (omega (arith, gone n, here))))
    | inr (inr (inr free)) ↦ inr (inr (inr (uses free.0, free.1)))
  ];
}

-- pages that were read at most
pub edits_read : {P : Type 0} (pages : Ghosts P) (list : List ℕ) (old new : P) (world : View) → ReadsAtMost pages old new → pages.tells new world
    → pages.neat old world → ((n : ℕ) → Contains (pages.reads new) n → Contains (pages.reads old) n ⊎ (1 ≤ times list n)) → EditsPages pages (reading list) old new world
edits_read pages list old new world reads told neat few =
    let keeps = reads.each world told in
    record {
      free = λ n. kept refl (keeps.list.stay n) (keeps.list.none_more n);
      same = λ n used put gone. record { whole = λ past. keeps.each n; first = λ is. ap but_freelist (keeps.each n) };
      neat = keeps.list.neat neat;
      no_more_spare = keeps.list.no_more_spare;
      changed = λ n there. inl (sym (reads.has n) ∙ there);
      read = λ n there. elim (few n there) [ inl before ↦ inl before | inr listed ↦ inr (inl listed) ];
    }

pub page_there : (page number : ℕ) → page ≡ number → 1 ≤ times (page ∷ []) number
page_there page number same = rw (eq-eqb page number same) (omega arith)

pub page_apart : (page number : ℕ) → (page ≡ number → ⊥) → times (page ∷ []) number ≡ 0
page_apart page number apart = rw (ne_eqb page number apart) refl

pub the_page : (page number : ℕ) → 1 ≤ times (page ∷ []) number → page ≡ number
the_page page number there = elim (cases_eq page number) [ inl same ↦ same | inr apart ↦ absurd (omega (arith, there, page_apart page number apart)) ]

-- a page more was read, or none
pub read_one : {P : Type 0} (pages : Ghosts P) (old new : P) (page : ℕ) → pages.reads new ≡ pages_read pages old page → (n : ℕ) → Contains (pages.reads new) n
    → Contains (pages.reads old) n ⊎ (1 ≤ times (page ∷ []) n)
read_one pages old new page is n there = by_case (pages.has old page) (subst (λ (l : List ℕ). Contains l n) is there)
  where
    by_case : (had : Bool) → Contains (cond had (pages.reads old) (with_page (pages.reads old) page)) n → Contains (pages.reads old) n ⊎ (1 ≤ times (page ∷ []) n)
    by_case true here = inl here
    by_case false here = elim (with_cases (pages.reads old) page n here) [ inl same ↦ inr (page_there page n (sym same)) | inr before ↦ inl before ]

-- a page was put
pub edits_put : {P : Type 0} (pages : Ghosts P) (page : ℕ) (bytes : List ℕ) (old new : P) (world : View) → PutsPage pages old page bytes new world
    → (pages.free old world page → ⊥) → pages.neat old world → LeavesFields page (pages.over old world 1) bytes
    → ((n : ℕ) → pages.has new n ≡ (pages.has old n || (n == page))) → pages.reads new ≡ pages.reads old → EditsPages pages (putting (page ∷ [])) old new world
edits_put pages page bytes old new world puts used neat leaves has reads =
    let list : KeepsFree pages old new world = puts.list used neat leaves in
    let other : (n : ℕ) → times (page ∷ []) n ≡ 0 → pages.over new world n ≡ pages.over old world n =
    λ n none. puts.each n ∙ rw (ne_eqb n page (λ same. omega (arith, page_there page n (sym same), none))) refl in
    record {
      free = λ n. kept refl (list.stay n) (list.none_more n);
      same = λ n in_use put gone. record { whole = λ past. other n put; first = λ is. ap but_freelist (other n put) };
      neat = list.neat neat;
      no_more_spare = list.no_more_spare;
      changed = λ n there. elim (or_cases (pages.has old n) (n == page) (sym (has n) ∙ there)) [
        | inl before ↦ inl before
        | inr same ↦ inr (inl (page_there page n (sym (same_by n page same))))
      ];
      read = λ n there. inl (subst (λ (l : List ℕ). Contains l n) reads there);
    }
  where
    or_cases : (a b : Bool) → (a || b) ≡ true → (a ≡ true) ⊎ (b ≡ true)
    or_cases true b is = inl refl
    or_cases false b is = inr is

one_count : (page number : ℕ) → page ≡ number → times (page ∷ []) number ≡ 1
one_count page number same = rw (eq-eqb page number same) refl

-- a page was made
pub edits_take : {P : Type 0} (pages : Ghosts P) (page : ℕ) (old new : P) (world : View) → TakesPage pages old page new world
    → ((n : ℕ) → pages.has new n ≡ true → IsMadeAt pages old world n) → ((n : ℕ) → Contains (pages.reads new) n → IsReadAt pages old world n)
    → EditsPages pages (making (page ∷ [])) old new world
edits_take pages page old new world takes changed read = record {
  free = λ n. elim (cases_eq page n) [
    | inl same ↦ taken (one_count page n same) (subst (λ (k : ℕ). pages.free old world k) same takes.was_free) (λ free. takes.taken (subst (λ (k : ℕ). pages.free new world k) (sym same) free))
    | inr apart ↦ kept (page_apart page n apart) (takes.stay n (λ same. apart (sym same))) (takes.none_more n)
  ];
  same = λ n used put gone. record {
    whole = λ past. takes.each n past used;
    first = λ is. subst (λ (k : ℕ). but_freelist (pages.over new world k) ≡ but_freelist (pages.over old world k)) (sym is) takes.first;
  };
  neat = takes.neat;
  no_more_spare = takes.no_more_spare;
  changed = λ n there. elim (changed n there) [
    | inl before ↦ inl before
    | inr free ↦ inr (inr (inr (omega arith, free)))
  ];
  read = λ n there. elim (read n there) [ inl before ↦ inl before | inr free ↦ inr (inr (inr (omega arith, free))) ];
}

-- a page was given up
pub edits_give : {P : Type 0} (pages : Ghosts P) (page : ℕ) (old new : P) (world : View) → GivesUp pages old page new world → (pages.free old world page → ⊥)
    → pages.neat old world → ((n : ℕ) → pages.has new n ≡ true → IsGivenAt pages old world page n) → ((n : ℕ) → Contains (pages.reads new) n → IsReadAt pages old world n)
    → EditsPages pages (giving (page ∷ [])) old new world
edits_give pages page old new world gives used neat changed read = record {
  free = λ n. elim (cases_eq page n) [
    | inl same ↦ given (one_count page n same) (λ free. used (subst (λ (k : ℕ). pages.free old world k) (sym same) free)) (subst (λ (k : ℕ). pages.free new world k) same gives.given)
    | inr apart ↦ kept (sym (page_apart page n apart)) (gives.stay n) (gives.none_more n (λ same. apart (sym same)))
  ];
  same = λ n in_use put gone.
      let each = gives.each n (λ same. omega (arith, page_there page n (sym same), gone)) in_use in
      record { whole = λ past. each; first = λ is. ap but_freelist each };
  neat = gives.neat used neat;
  no_more_spare = gives.no_more_spare;
  changed = λ n there. elim (changed n there) [
    | inl before ↦ inl before
    | inr (inl same) ↦ inr (inr (inl (page_there page n (sym same))))
    | inr (inr free) ↦ inr (inr (inr (omega arith, inl free)))
  ];
  read = λ n there. elim (read n there) [ inl before ↦ inl before | inr free ↦ inr (inr (inr (omega arith, free))) ];
}

-- pages were made one after another, at least one
pub edits_makes : {P : Type 0} (pages : Ghosts P) (made : List ℕ) (old new : P) (world : View) → 1 ≤ length made → MakesPages pages made old new world
    → EditsPages pages (making made) old new world
edits_makes pages made old new world some makes = record {
  free = λ n. elim (cases_lt 0 (times made n)) [
    | inl there ↦ taken (omega (arith, there, makes.once n)) (makes.were_free n (omega (arith, there))) (makes.taken n (omega (arith, there)))
    | inr none ↦ kept (omega (arith, none)) (makes.stay n (omega (arith, none))) (makes.none_more n)
  ];
  same = λ n used put gone. record {
    whole = λ past. makes.each n past used;
    first = λ is. subst (λ (k : ℕ). but_freelist (pages.over new world k) ≡ but_freelist (pages.over old world k)) (sym is) makes.first;
  };
  neat = makes.neat;
  no_more_spare = makes.no_more_spare;
  changed = λ n there. elim (makes.changed n there) [ inl before ↦ inl before | inr free ↦ inr (inr (inr (omega (arith, some), free))) ];
  read = λ n there. elim (makes.read n there) [ inl before ↦ inl before | inr free ↦ inr (inr (inr (omega (arith, some), free))) ];
}

-- pages in use were given up one after another, at least one
pub edits_gives : {P : Type 0} (pages : Ghosts P) (gone : List ℕ) (old new : P) (world : View) → 1 ≤ length gone → AreInUse pages old world gone → pages.neat old world
    → GivesPages pages gone old new world → TouchesOnly pages gone old new world → EditsPages pages (giving gone) old new world
edits_gives pages gone old new world some used neat gives touches = record {
  free = λ n. elim (cases_lt 0 (times gone n)) [
    | inl there ↦ given (omega (arith, there, (used n (omega (arith, there))).0)) (used n (omega (arith, there))).1 (gives.given n (omega (arith, there)))
    | inr none ↦ kept (omega (arith, none)) (gives.stay n) (gives.none_more n (omega (arith, none)))
  ];
  same = λ n in_use put none.
      let each = gives.each n none in_use in
      record { whole = λ past. each; first = λ is. ap but_freelist each };
  neat = gives.neat used neat;
  no_more_spare = gives.no_more_spare;
  changed = λ n there. elim (touches.changed n there) [
    | inl before ↦ inl before
    | inr (inl here) ↦ inr (inr (inl here))
    | inr (inr free) ↦ inr (inr (inr (omega (arith, some), inl free)))
  ];
  read = λ n there. elim (touches.read n there) [
    | inl before ↦ inl before
    | inr (inl here) ↦ inr (inr (inl here))
    | inr (inr free) ↦ inr (inr (inr (omega (arith, some), free)))
  ];
}

-- A page that is in use, and wasn't put or given up, shows the same.
pub alike : {P : Type 0} (pages : Ghosts P) (lists : PageLists) (old new : P) (world : View) → EditsPages pages lists old new world → pages.usable new ≡ pages.usable old
    → (n : ℕ) → 1 ≤ n → (pages.free old world n → ⊥) → times lists.put n ≡ 0 → times lists.gone n ≡ 0 → IsAlike (shown_over pages old world) (shown_over pages new world) n
alike pages lists old new world edits usable n some used put gone =
    let same = edits.same n used put gone in
    let u = pages.usable old in
    record {
      node = elim (cases_eq n 1) [
        | inl is ↦
            rw (usable, eq-eqb n 1 is) (freelist_aside u (pages.over new world n) (pages.over old world n) (same.first is))
        | inr apart ↦ rw usable (ap (node_of u (n == 1)) (same.whole (omega (arith, some, apart))))
      ];
      link = λ later. rw usable (ap (link_in u) (same.whole (omega (arith, later))));
    }

-- pages of trees: each is a page, is in use, and isn't given up
abbrev pub AreKept : {P : Type 0} → Ghosts P → PageLists → P → View → List ℕ → Type 0
AreKept pages lists old world own = (n : ℕ) → 1 ≤ times own n → (1 ≤ n) × (pages.free old world n → ⊥) × (times lists.gone n ≡ 0)

pub keeps_alike : {P : Type 0} (pages : Ghosts P) (lists : PageLists) (old new : P) (world : View) (own : List ℕ) → EditsPages pages lists old new world
    → pages.usable new ≡ pages.usable old → AreKept pages lists old world own → KeepAlike (shown_over pages old world) (shown_over pages new world) own lists.put
keeps_alike pages lists old new world own edits usable are n there put =
    let found = are n there in
    alike pages lists old new world edits usable n found.0 found.1 put found.2

-- nothing was done
pub edits_none : {P : Type 0} (pages : Ghosts P) (at : P) (world : View) → pages.neat at world → EditsPages pages (giving []) at at world
edits_none pages at world neat = record {
  free = λ n. kept refl (λ free. free) (λ free. free);
  same = λ n used put gone. record { whole = λ past. refl; first = λ is. refl };
  neat = neat;
  no_more_spare = λ spare. spare;
  changed = λ n there. inl there;
  read = λ n there. inl there;
}

-- a page that is free after calls that gave up none was free before
pub was_free : {P : Type 0} (pages : Ghosts P) (lists : PageLists) (old new : P) (world : View) → EditsPages pages lists old new world → (number : ℕ)
    → times lists.gone number ≡ 0 → pages.free new world number → pages.free old world number
was_free pages lists old new world edits number none free = elim (free_or_gone (times lists.made number) (times lists.gone number) (edits.free number) free) [
  | inl gone ↦ absurd (omega (arith, gone, none))
  | inr before ↦ before
]

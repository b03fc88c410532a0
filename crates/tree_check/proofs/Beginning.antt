-- A walk that begins: it met no page, and its sizes are those of the pages.
use Rattle.std.proofs.Common.{rules, ◌≡◌, ℕ, zero, suc, ◌+◌, ◌*◌, ◌/◌, ◌^◌, ◌<◌, ◌≤◌, false, List, [], length, Contains, refl, sym, subst, ◌∙◌, arith}
use Rattle.std.proofs.lemmas.Bool.{true≢false}
use Rattle.std.proofs.lemmas.List.Elements.{All-contains, All-from_recursion}
use Rattle.page_spec.specs.Header.{page_sizes}
use Rattle.page_face.specs.declared.pages_tells.PagesTells.{Ghosts}
use Rattle.page_face.specs.Pages.{ReadsAtMost}
use Rattle.tree_spec.specs.Layout.{Each}
use Rattle.check_spec.specs.Walk.{no_past}
use Rattle.tree_check.specs.declared.walk.Walk.{Walk}
use Rattle.tree_check.specs.Met.{is_met, met_up_to, ShowMet}
use Rattle.tree_check.specs.Walking.{SuitsPages, KeepsPast}
use Rattle.tree_check.specs.Begun.{IsFresh}

none_up_to : (bits : List ℕ) (n last : ℕ) → n ≤ last → ((page : ℕ) → page ≤ last → is_met bits page ≡ false) → met_up_to bits n ≡ 0
none_up_to bits zero last most none = refl
none_up_to bits (suc n) last most none =
    let below = none_up_to bits n last (omega (arith, most)) none in rw (none (suc n) most) (omega (arith, below))

-- no page was met
pub fresh_none : (page_size usable last : ℕ) (walk : Walk) → IsFresh page_size usable last walk → met_up_to walk.marks.bits.items last ≡ 0
fresh_none page_size usable last walk fresh = none_up_to walk.marks.bits.items last last (omega arith) fresh.none

pub fresh_keeps : (page_size usable last : ℕ) (walk : Walk) → IsFresh page_size usable last walk → KeepsPast walk no_past
fresh_keeps page_size usable last walk fresh = record {
  marks = subst (λ (n : ℕ). ShowMet walk.marks.bits.items n []) (sym fresh.last) (record {
    set = λ page inside is. absurd (true≢false (sym is ∙ fresh.none page inside));
    unset = λ page inside is. refl;
    counted = fresh_none page_size usable last walk fresh;
  });
  leaves = fresh.leaves;
}

-- each legal page size is at most 65536 bytes
greatest_size : (size : ℕ) → Contains page_sizes size → size ≤ 65536
greatest_size size there = All-contains (λ (n : ℕ). n ≤ 65536) page_sizes size (All-from_recursion (λ (n : ℕ). n ≤ 65536) page_sizes (search rules)) there

pub size_fits : (size : ℕ) → Contains page_sizes size → 42 * size < 2 ^ 64
size_fits size there = omega (arith, greatest_size size there)

-- a walk that begins with what the pages say
pub fresh_suits : {P : Type 0} (pages : Ghosts P) (at : P) (page_size usable last : ℕ) (walk : Walk) → IsFresh page_size usable last walk → pages.ready at
    → page_size ≡ pages.page_size at → Contains page_sizes page_size → usable ≡ pages.usable at → (480 ≤ usable) × (usable ≤ pages.page_size at) → last ≡ pages.last_page at
    → SuitsPages pages at walk
fresh_suits pages at page_size usable last walk fresh ready size_is legal usable_is bounds last_is = record {
  ready = ready;
  page_size = fresh.page_size ∙ size_is;
  usable = fresh.usable ∙ usable_is;
  last = fresh.last ∙ last_is;
  least = omega (arith, fresh.usable, bounds.0);
  fits = omega (arith, fresh.usable, fresh.page_size, size_is, bounds.1);
  most = omega (arith, fresh.page_size, greatest_size page_size legal);
  room = subst (λ (n : ℕ). length walk.marks.bits.items ≡ n / 8 + 1) (sym fresh.last) fresh.room;
  roots = subst (λ (l : List ℕ). Each (λ (root : ℕ). (2 ≤ root) × (root ≤ walk.last)) l) (sym fresh.roots) tt;
}

-- the same, said of itself
pub fresh_itself : (page_size usable last : ℕ) (walk : Walk) → IsFresh page_size usable last walk → IsFresh walk.page_size walk.usable walk.last walk
fresh_itself page_size usable last walk fresh = record {
  page_size = refl;
  usable = refl;
  last = refl;
  room = subst (λ (n : ℕ). length walk.marks.bits.items ≡ n / 8 + 1) (sym fresh.last) fresh.room;
  none = subst (λ (n : ℕ). (page : ℕ) → page ≤ n → is_met walk.marks.bits.items page ≡ false) (sym fresh.last) fresh.none;
  leaves = fresh.leaves;
  roots = fresh.roots;
}

-- pages that were only read since suit
pub suits_read : {P : Type 0} (pages : Ghosts P) (old new : P) (walk : Walk) → ReadsAtMost pages old new → SuitsPages pages old walk → SuitsPages pages new walk
suits_read pages old new walk reading suits = record {
  ready = reading.edits.ready;
  page_size = suits.page_size ∙ sym reading.edits.page_size;
  usable = suits.usable ∙ sym reading.edits.usable;
  last = suits.last ∙ sym reading.last;
  least = suits.least;
  fits = suits.fits;
  most = suits.most;
  room = suits.room;
  roots = suits.roots;
}

-- the last page stays
pub last_stays : {P : Type 0} (pages : Ghosts P) (old new : P) (before walk : Walk) → ReadsAtMost pages old new → SuitsPages pages old before → SuitsPages pages new walk
    → walk.last ≡ before.last
last_stays pages old new before walk reading one two = two.last ∙ reading.last ∙ sym one.last

-- and so does a page's size
pub page_size_stays : {P : Type 0} (pages : Ghosts P) (old new : P) (before walk : Walk) → ReadsAtMost pages old new → SuitsPages pages old before → SuitsPages pages new walk
    → walk.page_size ≡ before.page_size
page_size_stays pages old new before walk reading one two = two.page_size ∙ reading.edits.page_size ∙ sym one.page_size

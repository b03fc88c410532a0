-- What is said after pages were read, said since before.
use Rattle.std.proofs.Common.{◌≡◌, ℕ, ◌+◌, ◌≤◌, List, [], ◌∷◌, ◌++◌, subst, ap, arith, inl, inr}
use Rattle.std.specs.Prelude.{◌⊎◌, Contains}
use Rattle.std.proofs.lemmas.Bool.{cases_lt}
use Rattle.page_spec.specs.View.{View}
use Rattle.page_face.specs.declared.pages_tells.PagesTells.{Ghosts}
use Rattle.page_face.specs.Pages.{ReadsAtMost}
use Rattle.tree_spec.specs.Layout.{times, Item}
use Rattle.tree_spec.proofs.Lists.{times-append}
use Rattle.overflow.specs.Following.{shown_over}
use Rattle.overflow.specs.Editing.{AreInUse}
use Rattle.edit_spec.specs.Edits.{IsEdited, StandOnce}
use Rattle.edit_spec.proofs.Lists.{one_of_two}
use Rattle.tree_edit.specs.Editing.{PageLists, EditsPages, IsFreeBy, kept, taken, given, reading}
use Rattle.tree_edit.proofs.Edits.{edits_join, edits_read}
use Rattle.tree_keys.specs.Keys.{Sought, is_row, gap_of}
use Rattle.tree_keys.specs.Spots.{IsPath, IsOfPath}
use Rattle.tree_keys.proofs.Since.{path_since}
use Rattle.tree_insert.specs.Inserting.{inserting, cells_up, PutsUnder}

-- pages were read before the key was put in
pub puts_since : {P : Type 0} (pages : Ghosts P) (old mid new : P) (sought : Sought) (payload : List ℕ) (level page height : ℕ) (own : List ℕ) (items : List Item) (texts : List (List ℕ)) (world : View)
    (list : List ℕ) → ReadsAtMost pages old mid → pages.tells mid world → pages.neat old world
    → ((n : ℕ) → Contains (pages.reads mid) n → Contains (pages.reads old) n ⊎ (1 ≤ times list n))
    → ((path : List ℕ) → IsPath sought (pages.usable old) (pages.last_page old) (shown_over pages old world) level page path → (n : ℕ) → 1 ≤ times list n
    → IsOfPath sought (pages.usable old) (pages.last_page old) (shown_over pages old world) path n)
    → PutsUnder pages mid sought payload level page height own items texts new world → PutsUnder pages old sought payload level page height own items texts new world
puts_since pages old mid new sought payload level page height own items texts world list only told neat few along puts =
    let on = path_since pages old mid only world told sought level page puts.path puts.read puts.put puts.on_path in
    record {
      item = puts.item;
      is_put = puts.is_put;
      whole = puts.whole;
      path = puts.path;
      read = list ++ puts.read;
      put = puts.put;
      made = puts.made;
      edited = subst (λ (u : ℕ). IsEdited (is_row sought) u (pages.last_page new) (shown_over pages new world) height page puts.whole (cells_up sought u texts) (gap_of sought) [] (puts.item ∷ [])
          (record { fresh = puts.made; lost = []; put = puts.put }) own items) only.edits.usable puts.edited;
      some = puts.some;
      on_path = record {
        is_path = on.is_path;
        reads = λ n there. one_of_two (times list n) (times puts.read n) (omega (arith, there, times-append list puts.read n))
            (λ here. along puts.path on.is_path n here) (λ here. on.reads n here);
        puts = on.puts;
      };
      edits = edits_join pages (reading list) (inserting puts.read puts.put puts.made) old mid new world (edits_read pages list old mid world only told neat few) puts.edits;
    }

-- Pages that were made stand once, and are none of those that were in use.
pub once_made : {P : Type 0} (pages : Ghosts P) (lists : PageLists) (old new : P) (world : View) (own : List ℕ) → EditsPages pages lists old new world → lists.gone ≡ []
    → AreInUse pages old world own → StandOnce own lists.made
once_made pages lists old new world own edits none used n =
    let zero_gone : times lists.gone n ≡ 0 = ap (λ (l : List ℕ). times l n) none in
    elim (cases_lt 0 (times own n)) [
      | inl there ↦ (let here = used n (omega (arith, there)) in in_use (times own n) (times lists.made n) (times lists.gone n) zero_gone here.0 here.1 (edits.free n))
      | inr nothing ↦ aside (times own n) (times lists.made n) (times lists.gone n) zero_gone (omega (arith, nothing)) (edits.free n)
    ]
  where
    in_use : {A B : Type 0} (many made gone : ℕ) → gone ≡ 0 → many ≤ 1 → (A → ⊥) → IsFreeBy A B made gone → many + made ≤ 1
    in_use many made gone is few not (kept e on back) = omega (arith, e, is, few)
    in_use many made gone is few not (taken e was not_then) = absurd (not was)
    in_use many made gone is few not (given e not_before now) = absurd (omega (arith, e, is))

    aside : {A B : Type 0} (many made gone : ℕ) → gone ≡ 0 → many ≤ 0 → IsFreeBy A B made gone → many + made ≤ 1
    aside many made gone is few (kept e on back) = omega (arith, e, is, few)
    aside many made gone is few (taken e was not_then) = omega (arith, e, is, few)
    aside many made gone is few (given e not_before now) = absurd (omega (arith, e, is))

-- A page that was made was free and isn't any more.
pub made_free : {P : Type 0} (pages : Ghosts P) (lists : PageLists) (old new : P) (world : View) → EditsPages pages lists old new world → lists.gone ≡ [] → (n : ℕ) → 1 ≤ times lists.made n
    → pages.free old world n × (pages.free new world n → ⊥)
made_free pages lists old new world edits none n there = by_free (times lists.made n) (times lists.gone n) (ap (λ (l : List ℕ). times l n) none) there (edits.free n)
  where
    by_free : {A B : Type 0} (made gone : ℕ) → gone ≡ 0 → 1 ≤ made → IsFreeBy A B made gone → A × (B → ⊥)
    by_free made gone is some (kept e on back) = absurd (omega (arith, e, is, some))
    by_free made gone is some (taken e was not_then) = (was, not_then)
    by_free made gone is some (given e not_before now) = absurd (omega (arith, e, is))

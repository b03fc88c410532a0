-- What was counted of a database before an opening's writes holds of the one with which a store of tables begins.
use Rattle.std.proofs.Common.{◌≡◌, ℕ, zero, suc, ◌-◌, ◌≤◌, Bool, true, false, List, [], ◌∷◌, length, refl, sym, subst, arith}
use Rattle.disk_face.specs.Files.{Files}
use Rattle.page_spec.specs.Header.{fields_of, is_page_size}
use Rattle.page_spec.specs.PageMap.{PageMap, page_at}
use Rattle.page_spec.specs.View.{view_of}
use Rattle.tree_spec.specs.Layout.{Item}
use Rattle.sound_spec.specs.Sound.{IsSound}
use Rattle.sound_spec.proofs.Versions.{versions_sound}
use Rattle.crash_spec.specs.Recovered.{recovered}
use Rattle.recover.specs.NewPages.{new_pages, migrated, with_versions}
use Rattle.recover.specs.Seeing.{is_new_in, is_ours_in, first_in, size_in, map_found}
use Rattle.recover.specs.declared.setup.StoreKind.TheVariants.{Tables}
use Rattle.recover.proofs.RecoveredPages.{recovered_found}
use Rattle.sound_begins.specs.Begun.{tables_by, database_by, database_begun}
use Rattle.sound_begins.proofs.NewTables.{new_sound}

-- maps with the same pages behind page 1
page_behind : (one two : List ℕ) (rest : PageMap) (n : ℕ) → 2 ≤ n → page_at (one ∷ rest) n ≡ page_at (two ∷ rest) n
page_behind one two rest zero low = absurd (omega (arith, low))
page_behind one two rest (suc zero) low = absurd (omega (arith, low))
page_behind one two rest (suc (suc n)) low = refl

-- A sound map is sound with this program's versions too.
pub migrated_sound : (page_size usable : ℕ) (pages : PageMap) (roots used free : List ℕ) (rows : List Item)
    → IsSound page_size usable (length pages) (view_of pages) roots used free rows
    → IsSound page_size usable (length (migrated pages)) (view_of (migrated pages)) roots used free rows
migrated_sound page_size usable [] roots used free rows is = is
migrated_sound page_size usable (page ∷ rest) roots used free rows is =
    versions_sound page_size usable (suc (length rest)) (view_of (page ∷ rest)) (view_of (with_versions page ∷ rest)) roots used free rows refl
    (page_behind (with_versions page) page rest) is

module _ (new_size : ℕ) (files : Files) (roots used free : List ℕ) (rows : List Item)
    (is : IsSound (size_in files) (size_in files - (fields_of (first_in files)).reserved) (length (map_found files)) (view_of (map_found files)) roots used free rows) where
  -- so a database that is there is as sound as a store begins with it,
  recovered_sound : IsSound (size_in files) (size_in files - (fields_of (first_in files)).reserved) (length (recovered files)) (view_of (recovered files)) roots used free rows
  recovered_sound =
      subst (λ (pages : PageMap). IsSound (size_in files) (size_in files - (fields_of (first_in files)).reserved) (length pages) (view_of pages) roots used free rows)
      (sym (recovered_found files)) is

  pub old_sound : (ours : Bool) → IsSound (size_in files) (size_in files - (fields_of (first_in files)).reserved) (length (tables_by false ours new_size files))
      (view_of (tables_by false ours new_size files)) roots used free rows
  old_sound true = recovered_sound
  old_sound false = migrated_sound (size_in files) (size_in files - (fields_of (first_in files)).reserved) (recovered files) roots used free rows recovered_sound

-- and a new one is sound.
pub begun_new : (new_size : ℕ) (files : Files) (ours : Bool) → is_page_size new_size ≡ true
    → IsSound new_size (new_size - 0) (length (tables_by true ours new_size files)) (view_of (tables_by true ours new_size files)) [] (1 ∷ []) [] []
unfolding new_pages
begun_new new_size files ours legal =
    let whole : new_size ≡ new_size - 0 = omega arith in
    subst (λ (n : ℕ). IsSound new_size n 1 (view_of (new_pages Tables new_size)) [] (1 ∷ []) [] []) whole (new_sound new_size legal)

-- Both in one: what is sound of a database that is there, or the lists of a new one, stand for the database that a store begins with.
pub begun_sound : (new_size : ℕ) (files : Files) (roots used free : List ℕ) (rows : List Item)
    → (is_new_in files ≡ false
    → IsSound (size_in files) (size_in files - (fields_of (first_in files)).reserved) (length (map_found files)) (view_of (map_found files)) roots used free rows)
    → (is_new_in files ≡ true → (is_page_size new_size ≡ true) × (roots ≡ []) × (used ≡ 1 ∷ []) × (free ≡ []) × (rows ≡ []))
    → IsSound (database_begun new_size files).page_size (database_begun new_size files).usable (database_begun new_size files).last (database_begun new_size files).view roots used free rows
begun_sound new_size files roots used free rows old new = by (is_new_in files) refl
  where
    by : (b : Bool) → is_new_in files ≡ b
        → IsSound (database_by b (is_ours_in files) new_size files).page_size (database_by b (is_ours_in files) new_size files).usable
        (database_by b (is_ours_in files) new_size files).last (database_by b (is_ours_in files) new_size files).view roots used free rows
    by true is = let (legal, no_roots, one, none, empty) = new is in rw (no_roots, one, none, empty) (begun_new new_size files (is_ours_in files) legal)
    by false is = old_sound new_size files roots used free rows (old is) (is_ours_in files)

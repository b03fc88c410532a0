-- What was counted of a database before an opening's writes counts the one with which a store of tables begins.
use Rattle.std.proofs.Common.{◌≡◌, ℕ, ◌-◌, Bool, true, false, [], ◌∷◌, length, refl, sym, subst, ap, ◌∙◌}
use Rattle.disk_face.specs.Files.{Files}
use Rattle.page_spec.specs.Header.{fields_of, is_page_size}
use Rattle.page_spec.specs.PageMap.{PageMap}
use Rattle.page_spec.specs.View.{view_of}
use Rattle.check_spec.specs.Walk.{Database}
use Rattle.check_spec.specs.declared.fault.Count.{Count}
use Rattle.crash_spec.specs.Recovered.{recovered}
use Rattle.recover.specs.NewPages.{migrated}
use Rattle.recover.specs.Seeing.{is_new_in, is_ours_in, first_in, size_in, map_found}
use Rattle.recover.specs.declared.setup.StoreKind.TheVariants.{Tables}
use Rattle.recover.proofs.NewPages.{new_length}
use Rattle.recover.proofs.RecoveredPages.{recovered_found}
use Rattle.tree_check.specs.Checking.{IsCounted}
use Rattle.sound_begins.specs.Begun.{tables_by, database_by, database_begun}
use Rattle.sound_begins.proofs.Begins.{begun_new, old_sound}

migrated_long : (pages : PageMap) → length (migrated pages) ≡ length pages
migrated_long [] = refl
migrated_long (page ∷ rest) = refl

old_long : (new_size : ℕ) (files : Files) (ours : Bool) → length (tables_by false ours new_size files) ≡ length (map_found files)
old_long new_size files true = ap (λ (pages : PageMap). length pages) (recovered_found files)
old_long new_size files false = migrated_long (recovered files) ∙ ap (λ (pages : PageMap). length pages) (recovered_found files)

pub begun_counts : (new_size : ℕ) (files : Files) (count : Count) → is_page_size new_size ≡ true
    → (is_new_in files ≡ true → count ≡ record { pages = 1; trees = 1; free = 0 })
    → (is_new_in files ≡ false → IsCounted (record {
      page_size = size_in files;
      usable = size_in files - (fields_of (first_in files)).reserved;
      last = length (map_found files);
      view = view_of (map_found files);
    }) count)
    → IsCounted (database_begun new_size files) count
begun_counts new_size files count legal new old = by (is_new_in files) refl
  where
    by : (b : Bool) → is_new_in files ≡ b → IsCounted (database_by b (is_ours_in files) new_size files) count
    by true is =
        subst (λ (c : Count). IsCounted (database_by true (is_ours_in files) new_size files) c) (sym (new is)) (record {
          roots = [];
          used = 1 ∷ [];
          free = [];
          rows = [];
          sound = begun_new new_size files (is_ours_in files) legal;
          pages_are = sym (new_length Tables new_size);
          trees_are = refl;
          free_are = refl;
        })
    by false is =
        let c = old is in
        record {
          roots = c.roots;
          used = c.used;
          free = c.free;
          rows = c.rows;
          sound = old_sound new_size files c.roots c.used c.free c.rows c.sound (is_ours_in files);
          pages_are = c.pages_are ∙ sym (old_long new_size files (is_ours_in files));
          trees_are = c.trees_are;
          free_are = c.free_are;
        }

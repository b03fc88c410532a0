-- The database with which a store of tables begins on files: a new one, the recovered one, or that with this program's versions.
use Rattle.std.specs.Prelude.{ℕ, ◌-◌, Bool, if◌then◌else◌, length}
use Rattle.disk_face.specs.Files.{Files}
use Rattle.page_spec.specs.Header.{fields_of}
use Rattle.page_spec.specs.PageMap.{PageMap}
use Rattle.page_spec.specs.View.{view_of}
use Rattle.crash_spec.specs.Recovered.{recovered}
use Rattle.check_spec.specs.Walk.{Database}
use Rattle.recover.specs.NewPages.{new_pages, migrated}
use Rattle.recover.specs.Seeing.{is_new_in, is_ours_in, first_in, size_in}
use Rattle.recover.specs.declared.setup.StoreKind.TheVariants.{Tables}

-- its pages, by whether it is new and whether its versions are this program's
abbrev pub tables_by : (new ours : Bool) → (new_size : ℕ) → Files → PageMap
tables_by new ours new_size files = if new then new_pages Tables new_size else (if ours then recovered files else migrated (recovered files))

-- and as it is looked at: a new one has this page size and no reserved bytes
abbrev pub database_by : (new ours : Bool) → (new_size : ℕ) → Files → Database
database_by new ours new_size files = record {
  page_size = if new then new_size else size_in files;
  usable = (if new then new_size else size_in files) - (if new then 0 else (fields_of (first_in files)).reserved);
  last = length (tables_by new ours new_size files);
  view = view_of (tables_by new ours new_size files);
}

abbrev pub database_begun : (new_size : ℕ) → Files → Database
database_begun new_size files = database_by (is_new_in files) (is_ours_in files) new_size files

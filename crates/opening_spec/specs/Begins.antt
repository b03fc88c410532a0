-- What an opening finds as it begins.
use Rattle.std.specs.Prelude.{◌≡◌, ◌⊎◌, ℕ, ◌≤◌, ◌%◌, ◌^◌, ◌==◌, ◌&&◌, Bool, if◌then◌else◌, List, [], length}
use Rattle.disk_face.specs.declared.disk.File.{File}
use Rattle.disk_face.specs.declared.disk.File.TheVariants.{Log1, Log2}
use Rattle.disk_face.specs.Files.{Files, content}
use Rattle.disk_face.specs.Steps.{History, reads}
use Rattle.page_spec.specs.Header.{fields_of}
use Rattle.log_spec.specs.LogHeader.{log_fields}
use Rattle.log_spec.specs.Frames.{accepted_frames, is_ours}
use Rattle.crash_spec.specs.Marks.{number_of}
use Rattle.crash_spec.specs.Opening.{opening_at, rebased}
use Rattle.crash_spec.specs.Logs.{NoneForeign}
use Rattle.crash_spec.specs.Recovered.{first_bytes}
use Rattle.crash_spec.specs.Store.{MainIsSure}
use Rattle.opening_spec.specs.Found.{FoundLog, OpeningView, older_in, newer_in, map_in, IsEmpty, size_named, pages_held}

-- the last first salt of a log, 0 where it has no header of ours
abbrev pub salt_in : ℕ → List ℕ → ℕ
salt_in log bytes = if is_ours log bytes then (log_fields bytes).salt1 % 2 ^ 32 else 0

-- a log as an opening finds it
abbrev pub found_in : File → Files → FoundLog
found_in log files = record {
  frames = accepted_frames (number_of log) (content files log);
  salt = salt_in (number_of log) (content files log);
  most = 0;
}

-- page 1 of the map that these frames make has this program's versions, those of two logs
abbrev pub has_own : Files → FoundLog → FoundLog → Bool
has_own files one two =
    (fields_of (first_bytes files.main (older_in files one two) (newer_in files one two))).write_version == 3
    && (fields_of (first_bytes files.main (older_in files one two) (newer_in files one two))).read_version == 3

-- what an opening goes by that begins where a disk tells this, with this page size
abbrev pub view_at : ℕ → History → OpeningView
view_at size told = record {
  opening = opening_at told;
  size = size;
  long = length (reads told).main;
  map = map_in (reads told) (found_in Log1 (reads told)) (found_in Log2 (reads told));
  own = has_own (reads told) (found_in Log1 (reads told)) (found_in Log2 (reads told));
}

-- The premise on Main: what is unsure of it lies in pages that the logs hold. The page size is the one that page 1 names, or nothing is
-- there yet; and no log has a header that isn't ours.
pub record MayOpen (size : ℕ) (told : History) : Type 0 where
  pub main : MainIsSure (opening_at told) (rebased told []) size (pages_held (found_in Log1 (reads told)) (found_in Log2 (reads told)))
  pub fits :
      IsEmpty (found_in Log1 (reads told)) (found_in Log2 (reads told)) (reads told)
      ⊎ ((100 ≤ size) × (size_named (reads told) (found_in Log1 (reads told)) (found_in Log2 (reads told)) ≡ size))
  pub fronts : NoneForeign (reads told)

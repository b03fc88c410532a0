-- What a crash leaves of a disk in memory: bytes of the caller's choice wherever a crash may leave any.
use Rattle.std.specs.Prelude.{ℕ, ◌+◌, Bool, cond, ◌&&◌, nat_le, nat_lt, List, [], ◌∷◌, length, drop, map, count_by, slice_index_or}
use Rattle.std.specs.List.{list_any, range_with_len}
use Rattle.disk_face.specs.declared.disk.File.{File}
use Rattle.disk_face.specs.declared.disk.File.TheVariants.{Main, Log1, Log2}
use Rattle.disk_face.specs.Files.{content}
use Rattle.disk_face.specs.Steps.{History, reads}
use Rattle.disk_face.specs.Image.{Range, same_file, unsure}

-- whether the range has this place of the file
abbrev pub has_place : File → ℕ → Range → Bool
has_place file place range = same_file range.file file && nat_le range.from place && nat_lt place (range.from + range.count)

-- for each of the file's first places, whether one of the ranges has it
abbrev pub places : List Range → File → ℕ → List Bool
places ranges file count = map (λ place. list_any (has_place file place) ranges) (range_with_len 0 count)

-- The bytes, but at the marked places those that were picked, in turn, as long as there are any.
abbrev pub picked : List Bool → List ℕ → List ℕ → List ℕ
picked [] bytes pick = bytes
picked (mark ∷ marks) [] pick = []
picked (mark ∷ marks) (byte ∷ bytes) pick = cond mark (slice_index_or pick 0 byte) byte ∷ picked marks bytes (cond mark (drop 1 pick) pick)

-- what is left of those that were picked after so many marked places
abbrev pub unpicked : List Bool → List ℕ → List ℕ
unpicked marks pick = drop (count_by (λ mark. mark) marks) pick

-- the places of a file that a crash may leave with any bytes
abbrev pub marks_of : History → File → List Bool
marks_of told file = places (unsure [] told.steps) file (length (content (reads told) file))

-- The files after a crash, in the order of main file, first log, second log. All that they hold is on the medium.
abbrev pub crashed : History → List ℕ → History
crashed told pick =
    let after_main : List ℕ = unpicked (marks_of told Main) pick in
    let after_log1 : List ℕ = unpicked (marks_of told Log1) after_main in
    record {
      first = record {
        main = picked (marks_of told Main) (reads told).main pick;
        log1 = picked (marks_of told Log1) (reads told).log1 after_main;
        log2 = picked (marks_of told Log2) (reads told).log2 after_log1;
      };
      steps = [];
    }

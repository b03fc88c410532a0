-- A log that reads as the pair's: it stands, since an opening that is chosen now.
use Rattle.std.proofs.Common.{◌≡◌, ◌≢◌, ℕ, ◌≤◌, ◌<◌, ◌==◌, Bool, true, false, if◌then◌else◌, List, [], ◌++◌, length, take, drop, refl, sym, subst, arith, Some}
use Rattle.std.specs.List.{concat}
use Rattle.std.proofs.lemmas.List.Folds.{concat-append}
use Rattle.disk_face.specs.declared.disk.File.TheVariants.{Log1, Log2}
use Rattle.disk_face.specs.declared.step.Piece.{Piece}
use Rattle.disk_face.specs.Files.{content}
use Rattle.disk_face.specs.Steps.{History, reads}
use Rattle.log_spec.specs.LogHeader.{LogFields, log_fields, header_size, IsOurs}
use Rattle.log_spec.specs.Accept.{Frame, AreThere, AreValidFrames, sum_of_frames, last_size}
use Rattle.log_spec.specs.Frames.{end_of}
use Rattle.log_spec.proofs.PlaceLaws.{end-append}
use Rattle.crash_spec.specs.Marks.{IsLog, number_of}
use Rattle.crash_spec.specs.Opening.{Opening, Since}
use Rattle.crash_spec.specs.Logs.{IsFresh}
use Rattle.log_pair.specs.Pair.{PairView, log_of, current_file, current_header}
use Rattle.log_pair.specs.Appending.{LogStands}
use Rattle.log_pair.proofs.Reading.{front_of_row}

-- The log begins with the pair's header, and goes on with its frames and those that were appended, of which only the last may end a
-- commit. No known piece behind its frames has the header's salts but the appended ones.
pub record LogReads (known : List Piece) (pair : PairView) (frames pending : List Frame) (bytes : List ℕ) : Type 0 where
  pub ours : IsOurs (number_of (current_file pair)) bytes
  pub header : log_fields bytes ≡ current_header pair
  pub there : AreThere bytes (frames ++ pending)
  pub long : end_of (frames ++ pending) ≤ length bytes
  pub valid : AreValidFrames (current_header pair) (current_header pair).sum frames
  pub next_valid : AreValidFrames (current_header pair) (sum_of_frames (current_header pair) (current_header pair).sum frames) pending
  pub committed : frames ≢ [] → last_size frames ≢ 0
  pub one_commit : (n : ℕ) → n < length pending → last_size (take n pending) ≡ 0
  pub fresh : IsFresh known (current_file pair) (current_header pair) (end_of frames) pending
  pub counted : length frames ≡ (log_of pair pair.current).frames
  pub appended : length pending ≡ pair.appended
  pub summed : pair.sum ≡ sum_of_frames (current_header pair) (current_header pair).sum (frames ++ pending)

-- the opening at which a disk told this, nothing was unsure, and these pieces were known
abbrev pub opened_now : History → List Piece → Opening
opened_now told known = record { start = told; before = []; pieces = known }

is_log : (first : Bool) → IsLog (if first then Log1 else Log2)
is_log true = tt
is_log false = tt

front_there : (frames pending : List Frame) (bytes : List ℕ) → AreThere bytes (frames ++ pending) → AreThere bytes frames
front_there frames pending bytes there =
    front_of_row (concat frames) (concat pending) (drop header_size bytes)
    (subst (λ (xs : List ℕ). take (length xs) (drop header_size bytes) ≡ xs) (concat-append frames pending) there)

pub stands_read : (known : List Piece) (pair : PairView) (frames pending : List Frame) (told : History) → LogReads known pair frames pending (content (reads told) (current_file pair))
    → Since told (LogStands (opened_now told known) pair frames pending) (Some told)
stands_read known pair frames pending told is = (
  [],
  refl,
  record {
    on = record {
      is_log = is_log (pair.current == 1);
      ours = is.ours;
      same_header = is.header;
      committed = record {
        there = front_there frames pending (content (reads told) (current_file pair)) is.there;
        valid = subst (λ (h : LogFields). AreValidFrames h h.sum frames) (sym is.header) is.valid;
        committed = is.committed;
      };
      long = let all = is.long in omega (arith, end-append frames pending);
      sure = λ place near k range less. absurd (omega arith);
      valid = is.next_valid;
      one_commit = is.one_commit;
      fresh = is.fresh;
    };
    there = is.there;
    long = is.long;
    counted = is.counted;
    appended = is.appended;
    summed = is.summed;
  },
)

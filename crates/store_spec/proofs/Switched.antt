-- What the files hold after a switch, done or failed, and which map.
use Rattle.std.proofs.Common.{◌≡◌, ◌∙◌, ℕ, ◌+◌, ◌≤◌, ◌==◌, Bool, true, false, if◌then◌else◌, List, [], ◌++◌, length, drop, refl, sym, ap, subst, inl, inr, arith, Contains, Option, Some, None}
use Rattle.std.specs.Prelude.{◌⊎◌}
use Rattle.std.proofs.lemmas.Slice.{drop-append-drop}
use Rattle.disk_face.specs.declared.disk.File.TheVariants.{Main, Log1, Log2}
use Rattle.disk_face.specs.Files.{Files, content, put, overwritten}
use Rattle.disk_face.specs.Image.{same_file}
use Rattle.disk_face.specs.Steps.{History, reads}
use Rattle.disk_face.proofs.Contents.{content-put, content-put-other, length-overwritten}
use Rattle.log_spec.specs.LogHeader.{LogFields, header_size}
use Rattle.log_spec.specs.Accept.{Frame, page_numbers}
use Rattle.log_spec.specs.Frames.{frame_size}
use Rattle.crash_spec.specs.Recovered.{overlaid}
use Rattle.crash_spec.specs.Store.{IsCopied, named_size}
use Rattle.crash_spec.proofs.Switching.{copied_away, empty_either}
use Rattle.wal_frames.specs.Found.{log_file}
use Rattle.log_pair.specs.Pair.{PairView, LogView, log_of, other_number, current_file, current_header, switched_pair}
use Rattle.log_pair.specs.Switch.{WritesAndSyncs, front_piece, other_file}
use Rattle.store_spec.specs.Store.{frames_in, frames_read, current_read, other_read, newest_in}

-- Of the files the front of the other log alone has changed, and that log is no shorter.
pub record FrontAlone (pair : PairView) (one other : Files) : Type 0 where
  pub main : other.main ≡ one.main
  pub current : content other (current_file pair) ≡ content one (current_file pair)
  pub behind : drop header_size (content other (other_file pair)) ≡ drop header_size (content one (other_file pair))
  pub no_shorter : length (content one (other_file pair)) ≤ length (content other (other_file pair))

-- this holds of what reads gave and give, or nothing is told
abbrev pub BothTold : (Files → Files → Type 0) → Option History → Option History → Type 0
BothTold P None None = Unit {0}
BothTold P (Some old) (Some new) = P (reads old) (reads new)
BothTold P None (Some new) = ⊥
BothTold P (Some old) None = ⊥

pub other_apart : (pair : PairView) → (same_file (other_file pair) (current_file pair) ≡ false) × (same_file (other_file pair) Main ≡ false)
other_apart pair = by (pair.current == 1)
  where
    by : (first : Bool) → (same_file (log_file (if first then 2 else 1)) (if first then Log1 else Log2) ≡ false) × (same_file (log_file (if first then 2 else 1)) Main ≡ false)
    by true = (refl, refl)
    by false = (refl, refl)

pub same_front : (pair : PairView) (files : Files) → FrontAlone pair files files
same_front pair files = record { main = refl; current = refl; behind = refl; no_shorter = omega arith }

pub put_front : (pair : PairView) (left : List ℕ) (files : Files) → length left ≤ header_size → FrontAlone pair files (put (other_file pair) 0 left files)
put_front pair left files few =
    let is = content-put (other_file pair) 0 left files in
    record {
      main = content-put-other (other_file pair) Main 0 left files (other_apart pair).1;
      current = content-put-other (other_file pair) (current_file pair) 0 left files (other_apart pair).0;
      behind = ap (drop header_size) is ∙ behind (content files (other_file pair));
      no_shorter = omega (arith, ap (λ (bytes : List ℕ). length bytes) is, length-overwritten 0 left (content files (other_file pair)) (omega arith));
    }
  where
    none : (n : ℕ) → 0 + n ≡ n
    none n = omega arith

    behind : (bytes : List ℕ) → drop header_size (overwritten 0 left bytes) ≡ drop header_size bytes
    behind bytes = ap (λ (n : ℕ). drop header_size (left ++ drop n bytes)) (none (length left)) ∙ drop-append-drop (length left) bytes left header_size few refl

-- both answers of a switch leave all but that front
pub switch_keeps : (ok : Bool) (pair : PairView) (bytes : List ℕ) (old new : Option History) → length bytes ≡ header_size → WritesAndSyncs ok (front_piece (other_file pair) bytes) old new
    → BothTold (FrontAlone pair) old new
switch_keeps true pair bytes None new whole steps = subst (BothTold (FrontAlone pair) None) (sym steps) tt
switch_keeps true pair bytes (Some told) new whole steps = subst (BothTold (FrontAlone pair) (Some told)) (sym steps) (put_front pair bytes (reads told) (omega arith))
switch_keeps false pair bytes None new whole (inl (inl same)) = subst (BothTold (FrontAlone pair) None) (sym same) tt
switch_keeps false pair bytes None new whole (inl (inr (left, few, is))) = subst (BothTold (FrontAlone pair) None) (sym is) tt
switch_keeps false pair bytes None new whole (inr is) = subst (BothTold (FrontAlone pair) None) (sym is) tt
switch_keeps false pair bytes (Some told) new whole (inl (inl same)) = subst (BothTold (FrontAlone pair) (Some told)) (sym same) (same_front pair (reads told))
switch_keeps false pair bytes (Some told) new whole (inl (inr (left, few, is))) = subst (BothTold (FrontAlone pair) (Some told)) (sym is) (put_front pair left (reads told) (omega arith))
switch_keeps false pair bytes (Some told) new whole (inr is) = subst (BothTold (FrontAlone pair) (Some told)) (sym is) (put_front pair bytes (reads told) (omega arith))

-- the frames of both logs, and the newest map, with another front of the other log
module _ (pair : PairView) (one other : Files) (alone : FrontAlone pair one other) where
  pub current_alone : current_read pair other ≡ current_read pair one
  current_alone = ap (λ (bytes : List ℕ). frames_in (frame_size (log_of pair pair.current).header) (log_of pair pair.current).frames (drop header_size bytes)) alone.current

  pub other_alone : other_read pair other ≡ other_read pair one
  other_alone = ap (λ (bytes : List ℕ). frames_in (frame_size (log_of pair (other_number pair.current)).header) (log_of pair (other_number pair.current)).frames bytes) alone.behind

  pub newest_alone : newest_in pair other ≡ newest_in pair one
  newest_alone =
      ap (λ (main : List ℕ). overlaid main (other_read pair other) (current_read pair other)) alone.main
      ∙ ap (λ (frames : List Frame). overlaid one.main frames (current_read pair other)) other_alone
      ∙ ap (λ (frames : List Frame). overlaid one.main (other_read pair one) frames) current_alone

-- the other of the other log is the log
pub other_of_other : (log : ℕ) → (log ≡ 1) ⊎ (log ≡ 2) → other_number (other_number log) ≡ log
other_of_other log (inl is) = rw is refl
other_of_other log (inr is) = rw is refl

-- the logs of a pair that has gone over
module _ (pair : PairView) (header : LogFields) where
  abbrev new_view : LogView
  new_view = record { header = header; frames = 0 }

  pub new_log_is : log_of (switched_pair pair header) (other_number pair.current) ≡ new_view
  new_log_is = by (pair.current == 1)
    where
      by : (first : Bool) → (if (if first then 2 else 1) == 1 then (if (if first then 2 else 1) == 1 then new_view else pair.one) else (if (if first then 2 else 1) == 1 then pair.two else new_view)) ≡ new_view
      by true = refl
      by false = refl

  pub old_log_is : log_of (switched_pair pair header) pair.current ≡ log_of pair pair.current
  old_log_is = by (pair.current == 1)
    where
      by : (first : Bool) → (if first then (if (if first then 2 else 1) == 1 then new_view else pair.one) else (if (if first then 2 else 1) == 1 then pair.two else new_view)) ≡ (if first then pair.one else pair.two)
      by true = refl
      by false = refl

  pub new_header_is : current_header (switched_pair pair header) ≡ header
  new_header_is = ap (λ (log : LogView). log.header) new_log_is

  pub new_none : (files : Files) → current_read (switched_pair pair header) files ≡ []
  new_none files = ap (λ (log : LogView). frames_in (frame_size log.header) log.frames (drop header_size (content files (log_file (other_number pair.current))))) new_log_is

  module _ (which : (pair.current ≡ 1) ⊎ (pair.current ≡ 2)) where
    pub back_log_is : log_of (switched_pair pair header) (other_number (other_number pair.current)) ≡ log_of pair pair.current
    back_log_is = ap (log_of (switched_pair pair header)) (other_of_other pair.current which) ∙ old_log_is

    pub back_file_is : log_file (other_number (other_number pair.current)) ≡ current_file pair
    back_file_is = ap log_file (other_of_other pair.current which)

    pub old_all : (files : Files) → other_read (switched_pair pair header) files ≡ current_read pair files
    old_all files =
        ap (λ (log : ℕ). frames_read (switched_pair pair header) log files) (other_of_other pair.current which)
        ∙ ap (λ (log : LogView). frames_in (frame_size log.header) log.frames (drop header_size (content files (current_file pair)))) old_log_is

    -- the newest map is the same
    pub newest_over : (size : ℕ) (one other : Files) → FrontAlone pair one other → Contains (page_numbers (current_read pair one)) 1 → IsCopied size one.main (other_read pair one)
        → named_size one.main (other_read pair one) (current_read pair one) ≡ size → newest_in (switched_pair pair header) other ≡ newest_in pair one
    newest_over size one other alone first copied sized =
        ap (λ (frames : List Frame). overlaid other.main (other_read (switched_pair pair header) other) frames) (new_none other)
        ∙ ap (λ (frames : List Frame). overlaid other.main frames []) (old_all other ∙ current_alone pair one other alone)
        ∙ ap (λ (main : List ℕ). overlaid main (current_read pair one) []) alone.main
        ∙ empty_either one.main (current_read pair one)
        ∙ copied_away size one.main (other_read pair one) (current_read pair one) first copied sized

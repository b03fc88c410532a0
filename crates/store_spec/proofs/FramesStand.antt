-- The frames that are read of a log that stands on a disk.
use Rattle.std.proofs.Common.{◌≡◌, ◌∙◌, ℕ, ◌+◌, ◌≤◌, ◌==◌, Bool, true, false, if◌then◌else◌, List, [], ◌∷◌, ◌++◌, length, take, drop, refl, sym, ap, subst, arith, length-append, Some}
use Rattle.std.specs.List.{concat}
use Rattle.std.proofs.lemmas.List.{drop-take, take_at, drop_at, take-take}
use Rattle.disk_face.specs.declared.disk.File.{File}
use Rattle.disk_face.specs.declared.disk.File.TheVariants.{Log1, Log2}
use Rattle.disk_face.specs.Files.{Files, content}
use Rattle.disk_face.specs.Steps.{History, reads}
use Rattle.log_spec.specs.Checksum.{Sum}
use Rattle.log_spec.specs.LogHeader.{LogFields, header_size}
use Rattle.log_spec.specs.Accept.{Frame, AreThere, AreValidFrames, sum_after}
use Rattle.log_spec.specs.Frames.{frame_size, frame_place, end_of}
use Rattle.log_spec.proofs.PlaceLaws.{end_is_place}
use Rattle.crash_spec.specs.Logs.{IsOnDisk}
use Rattle.crash_spec.specs.Opening.{Opening, Since, rebased}
use Rattle.crash_spec.proofs.Rebased.{rebased_reads}
use Rattle.crash_spec.specs.Marks.{other_of}
use Rattle.crash_spec.specs.Recovered.{overlaid}
use Rattle.crash_spec.specs.Store.{StoreView, Holds}
use Rattle.wal_frames.specs.Found.{log_file}
use Rattle.log_pair.specs.Pair.{PairView, log_of, other_number, current_file, current_header}
use Rattle.log_pair.specs.Switch.{other_file}
use Rattle.log_pair.specs.Appending.{HasFrames}
use Rattle.store_spec.specs.Store.{StoreData, frames_in, frames_read, current_read, other_read, newest_in, view_of}

-- what holds of the files since an opening holds of those that the disk tells
pub at_told : (start : History) (Q : History → Type 0) (P : Files → Type 0) (told : History) → ((t : History) → Q t → P (reads t)) → Since start Q (Some told) → P (reads told)
at_told start Q P told law (since, is, holds) = subst P (sym (ap reads is ∙ rebased_reads start since)) (law (rebased start since) holds)

-- and the history since then reads as the disk
pub since_told : (start : History) (Q : History → Type 0) (told : History) → Since start Q (Some told) → Since start (λ t. Q t × (reads t ≡ reads told)) (Some told)
since_told start Q told (since, is, holds) = (since, is, (holds, sym (ap reads is ∙ rebased_reads start since)))

-- a row that begins with two lists, one behind the other
front_of : (first rest row : List ℕ) → take (length (first ++ rest)) row ≡ first ++ rest → take (length first) row ≡ first
front_of first rest row is =
    sym (take-take (length first) (length (first ++ rest)) row (omega (arith, length-append first rest)))
    ∙ ap (λ (xs : List ℕ). take (length first) xs) is ∙ take_at first rest (length first) refl

rest_of : (first rest row : List ℕ) → take (length (first ++ rest)) row ≡ first ++ rest → take (length rest) (drop (length first) row) ≡ rest
rest_of first rest row is =
    sym (drop-take (length first) (length rest) row) ∙ ap (λ (n : ℕ). drop (length first) (take n row)) (sym (length-append first rest))
    ∙ ap (λ (xs : List ℕ). drop (length first) xs) is ∙ drop_at first rest (length first) refl

-- valid frames at the front of some bytes are those that are read there
pub frames_stand : (header : LogFields) (sum : Sum) (frames : List Frame) (bytes : List ℕ) → AreValidFrames header sum frames → take (length (concat frames)) bytes ≡ concat frames
    → frames_in (frame_size header) (length frames) bytes ≡ frames
frames_stand header sum [] bytes valid there = refl
frames_stand header sum (frame ∷ rest) bytes (valid, others) there =
    let first : take (frame_size header) bytes ≡ frame = ap (λ (n : ℕ). take n bytes) (sym valid.whole) ∙ front_of frame (concat rest) bytes there in
    let more : frames_in (frame_size header) (length rest) (drop (frame_size header) bytes) ≡ rest =
    frames_stand header (sum_after header sum frame) rest (drop (frame_size header) bytes) others
    (subst (λ (n : ℕ). take (length (concat rest)) (drop n bytes) ≡ concat rest) valid.whole (rest_of frame (concat rest) bytes there)) in
    λ i. first i ∷ more i

-- the file of the other log by both its names
pub other_file_is : (log : ℕ) → other_of (log_file log) ≡ log_file (other_number log)
other_file_is log = by (log == 1)
  where
    by : (first : Bool) → other_of (if first then Log1 else Log2) ≡ log_file (if first then 2 else 1)
    by true = refl
    by false = refl

-- a log that is on the disk with as many frames as the pair counts
module _ (opening : Opening) (told : History) (file : File) (header : LogFields) (frames pending : List Frame) (pair : PairView) (log : ℕ)
    (on : IsOnDisk opening told file header frames pending) (is_file : file ≡ log_file log) (is_header : header ≡ (log_of pair log).header) (count : length frames ≡ (log_of pair log).frames) where
  log_valid : AreValidFrames (log_of pair log).header (log_of pair log).header.sum frames
  log_valid = subst (λ (h : LogFields). AreValidFrames h h.sum frames) (on.same_header ∙ is_header) on.committed.valid

  log_there : AreThere (content (reads told) (log_file log)) frames
  log_there = subst (λ (f : File). AreThere (content (reads told) f) frames) is_file on.committed.there

  pub log_is_read : frames_read pair log (reads told) ≡ frames
  log_is_read =
      ap (λ (n : ℕ). frames_in (frame_size (log_of pair log).header) n (drop header_size (content (reads told) (log_file log)))) (sym count)
      ∙ frames_stand (log_of pair log).header (log_of pair log).header.sum frames (drop header_size (content (reads told) (log_file log))) log_valid log_there

  pub log_has : HasFrames (Some told) (log_file log) (log_of pair log).header (frames_read pair log (reads told))
  log_has = subst (λ (fs : List Frame). HasFrames (Some told) (log_file log) (log_of pair log).header fs) (sym log_is_read) (log_valid, log_there)

  -- and its file reaches so far
  pub log_reach : frame_place (log_of pair log).header (log_of pair log).frames + 0 ≤ length (content (reads told) (log_file log))
  log_reach =
      let place : end_of frames ≡ frame_place (log_of pair log).header (log_of pair log).frames =
      end_is_place (log_of pair log).header (log_of pair log).header.sum frames log_valid ∙ ap (frame_place (log_of pair log).header) count in
      let long : end_of frames ≤ length (content (reads told) (log_file log)) = subst (λ (f : File). end_of frames ≤ length (content (reads told) f)) is_file on.long in
      omega (arith, place, long)

-- The view is one of the store's logs.
pub record IsViewOf (kept : StoreData) (view : StoreView) : Type 0 where
  pub current : view.current ≡ current_file kept.pair
  pub header : view.header ≡ current_header kept.pair
  pub older : view.older ≡ (log_of kept.pair (other_number kept.pair.current)).header
  pub count : length view.frames ≡ (log_of kept.pair kept.pair.current).frames
  pub other_count : length view.other ≡ (log_of kept.pair (other_number kept.pair.current)).frames
  pub size : view.size ≡ kept.page_size

-- what is read of a store that holds
module _ (opening : Opening) (kept : StoreData) (view : StoreView) (told : History) (of : IsViewOf kept view) (holds : Holds opening view told) where
  other_at : other_of view.current ≡ other_file kept.pair
  other_at = ap other_of of.current ∙ other_file_is kept.pair.current

  pub current_is : current_read kept.pair (reads told) ≡ view.frames
  current_is = log_is_read opening told view.current view.header view.frames view.pending kept.pair kept.pair.current holds.on.newest of.current of.header of.count

  pub current_has : HasFrames (Some told) (current_file kept.pair) (current_header kept.pair) (current_read kept.pair (reads told))
  current_has = log_has opening told view.current view.header view.frames view.pending kept.pair kept.pair.current holds.on.newest of.current of.header of.count

  pub current_reach : frame_place (current_header kept.pair) (log_of kept.pair kept.pair.current).frames + 0 ≤ length (content (reads told) (current_file kept.pair))
  current_reach = log_reach opening told view.current view.header view.frames view.pending kept.pair kept.pair.current holds.on.newest of.current of.header of.count

  pub other_reach : frame_place (log_of kept.pair (other_number kept.pair.current)).header (log_of kept.pair (other_number kept.pair.current)).frames + 0 ≤ length (content (reads told) (other_file kept.pair))
  other_reach = log_reach opening told (other_of view.current) view.older view.other [] kept.pair (other_number kept.pair.current) holds.on.oldest other_at of.older of.other_count

  pub other_is_read : other_read kept.pair (reads told) ≡ view.other
  other_is_read = log_is_read opening told (other_of view.current) view.older view.other [] kept.pair (other_number kept.pair.current) holds.on.oldest other_at of.older of.other_count

  pub other_has : HasFrames (Some told) (other_file kept.pair) (log_of kept.pair (other_number kept.pair.current)).header (other_read kept.pair (reads told))
  other_has = log_has opening told (other_of view.current) view.older view.other [] kept.pair (other_number kept.pair.current) holds.on.oldest other_at of.older of.other_count

  pub newest_is : newest_in kept.pair (reads told) ≡ view.map
  newest_is = (λ i. overlaid (reads told).main (other_is_read i) (current_is i)) ∙ sym holds.is

  view_is : view_of kept (reads told) view.pending view.later ≡ view
  view_is = λ i. record {
    current = sym of.current i;
    header = sym of.header i;
    older = sym of.older i;
    frames = current_is i;
    pending = view.pending;
    other = other_is_read i;
    size = sym of.size i;
    map = newest_is i;
    later = view.later;
  }

  pub holds_view : Holds opening (view_of kept (reads told) view.pending view.later) told
  holds_view = subst (λ (v : StoreView). Holds opening v told) (sym view_is) holds

-- A store on a disk goes over to its other log.
use Rattle.std.proofs.Common.{◌≡◌, ◌*◌, inl, inr, ℕ, ◌+◌, ◌≤◌, ◌<◌, ◌==◌, Bool, true, false, if◌then◌else◌, List, [], length, take, refl, sym, ◌∙◌, ap, subst, arith, Option, Some, None}
use Rattle.std.specs.Prelude.{Contains}
use Rattle.disk_face.specs.declared.disk.File.{File}
use Rattle.disk_face.specs.declared.disk.File.TheVariants.{Main, Log1, Log2}
use Rattle.disk_face.specs.declared.step.Piece.{Piece}
use Rattle.disk_face.specs.declared.step.Step.{Step}
use Rattle.disk_face.specs.declared.step.Step.TheVariants.{Wrote, Refused, Synced}
use Rattle.disk_face.specs.Files.{Files, content}
use Rattle.disk_face.specs.Steps.{History, reads, further, after}
use Rattle.disk_face.specs.Image.{MayLeave}
use Rattle.page_spec.specs.Header.{fields_of, page_size_in}
use Rattle.log_spec.specs.LogHeader.{LogFields, log_fields}
use Rattle.log_spec.specs.Accept.{Frame, page_numbers}
use Rattle.log_spec.specs.Checksum.{Sum}
use Rattle.log_spec.specs.Written.{IsHeaderOf}
use Rattle.crash_spec.specs.Marks.{other_of}
use Rattle.crash_spec.specs.Opening.{Opening, Since}
use Rattle.crash_spec.specs.Passes.{Passes, ByAnswer}
use Rattle.crash_spec.specs.Logs.{IsOnDisk}
use Rattle.crash_spec.specs.Recovered.{page_after_frames}
use Rattle.crash_spec.specs.Store.{StoreView, HoldsStore, Holds, Leaves, named_size}
use Rattle.crash_spec.proofs.Elsewhere.{on_elsewhere, whole_elsewhere, content_elsewhere}
use Rattle.crash_spec.proofs.Overlaid.{held_or_not}
use Rattle.crash_spec.proofs.Passing.{passes_step, passes_refused, passes_join}
use Rattle.crash_spec.proofs.StoreMoments.{holds_images}
use Rattle.crash_spec.proofs.StoreSteps.{log_apart, apart_back}
use Rattle.crash_spec.proofs.Switching.{WritesFront, front_written, front_refused, switch_images}
use Rattle.crash_spec.proofs.Switched.{switched, switched_map}
use Rattle.wal_frames.specs.Found.{log_file}
use Rattle.log_pair.specs.Pair.{PairView, LogView, log_of, next_place, other_number, current_file, switched_pair}
use Rattle.log_pair.specs.Appending.{LogStands, IsReached}
use Rattle.log_pair.proofs.Standing.{stands_sealed}
use Rattle.disk_face.proofs.Contents.{content-put, length-overwritten}
use Rattle.log_spec.specs.Frames.{frame_place, frame_size}
use Rattle.log_spec.specs.Accept.{sum_of_frames}
use Rattle.log_spec.specs.LogHeader.{header_size}
use Rattle.log_pair.specs.Switch.{next_header, other_file, front_piece, WritesAndSyncs, switched_view, MayGoOver, MayBeTorn, Switches}

-- where page 1 is among the newer frames, it names the page size, whatever lies below
named_by_newer : (main : List ℕ) (other frames : List Frame) (size : ℕ) → Contains (page_numbers frames) 1 → named_size main other frames ≡ size → named_size main frames [] ≡ size
named_by_newer main other frames size first sized =
    elim (held_or_not frames 1) [
      | inl held ↦ ap (λ (bytes : List ℕ). page_size_in (fields_of bytes)) (held (take 100 main) (page_after_frames other 1 (take 100 main))) ∙ sized
      | inr (none, leaves) ↦ absurd (none first)
    ]

module _ (opening : Opening) (view : StoreView) (bytes : List ℕ) (sealed : view.pending ≡ []) (rising : view.header.generation < (log_fields bytes).generation) where
  abbrev Before : History → Type 0
  Before told = MayGoOver opening view bytes told

  abbrev After : History → Type 0
  After told = Holds opening (switched_view view (log_fields bytes)) told

  abbrev Torn : History → Type 0
  Torn told = MayBeTorn opening view told

  abbrev piece : Piece
  piece = front_piece (other_of view.current) bytes

  -- the header was written, and isn't synced
  record HeaderWritten (told : History) : Type 0 where
    before : History
    may : Before before
    is : told ≡ further (Wrote piece) before

  abbrev LeavesMap : History → Files → Type 0
  LeavesMap told image = Leaves opening view told image

  quiet : (told : History) → Before told → HoldsStore opening view.current view.header view.older view.frames [] view.other view.size view.map view.later told
  quiet told may = subst (λ (pending : List Frame). HoldsStore opening view.current view.header view.older view.frames pending view.other view.size view.map view.later told) sealed may.0

  before_images : (told : History) → Before told → (image : Files) → MayLeave opening.before told image → LeavesMap told image
  before_images told may = holds_images opening view told may.0

  torn_images : (told : History) → Torn told → (image : Files) → MayLeave opening.before told image → LeavesMap told image
  torn_images told torn = torn.leaves

  after_images : (told : History) → After told → (image : Files) → MayLeave opening.before told image → LeavesMap told image
  after_images told holds image left chance =
      elim (holds_images opening (switched_view view (log_fields bytes)) told holds image left chance) [
        | inl same ↦ inl same
        | inr (some, same) ↦ absurd (some refl)
      ]

  -- a step that writes to the front of the other log, or is refused there
  front_torn : (told : History) (left : List ℕ) (step : Step) → WritesFront opening told (other_of view.current) bytes left step → Before told → Torn (further step told)
  front_torn told left step writes may =
      let holds = quiet told may in
      let newest = holds.on.newest in
      let elsewhere = writes.elsewhere Main (log_apart (other_of view.current) holds.on.oldest.is_log).1 in
      record {
        newest = on_elsewhere opening told view.current view.header view.frames [] step newest (writes.elsewhere view.current (apart_back view.current newest.is_log));
        main = whole_elsewhere opening Main step told elsewhere may.1.main;
        leaves = λ image leaves chance.
            inl (switch_images opening told view.current view.header view.older view.frames view.other view.size bytes left step holds.on may.1 holds.sized writes image leaves chance ∙ sym holds.is);
      }

  still_torn : (told : History) → Before told → Torn told
  still_torn told may = record { newest = (quiet told may).on.newest; main = may.1.main; leaves = before_images told may }

  writes_torn : (told : History) → Before told → Torn (further (Wrote piece) told)
  writes_torn told may = front_torn told bytes (Wrote piece) (front_written opening told (other_of view.current) bytes may.1.long) may

  written_images : (told : History) → HeaderWritten told → (image : Files) → MayLeave opening.before told image → LeavesMap told image
  written_images told written = subst (λ (t : History). (image : Files) → MayLeave opening.before t image → LeavesMap t image) (sym written.is) (writes_torn written.before written.may).leaves

  syncs : (told : History) → Before told → After (further (Synced (other_of view.current)) (further (Wrote piece) told))
  syncs told may =
      let holds = quiet told may in
      let main_same = content_elsewhere Main (Wrote piece) told (log_apart (other_of view.current) holds.on.oldest.is_log).1 in
      record {
        on = switched opening told view.current view.header view.older view.frames view.other view.size bytes holds.on may.1 rising;
        sized = subst (λ (main : List ℕ). named_size main view.frames [] ≡ view.size) (sym main_same) (named_by_newer (reads told).main view.other view.frames view.size may.1.page_1 holds.sized);
        sized_later = λ some. absurd (some refl);
        is = holds.is ∙ sym (switched_map opening told view.current view.header view.older view.frames view.other view.size bytes holds.on may.1 rising holds.sized);
        is_later = λ some. absurd (some refl);
      }

  syncs_written : (told : History) → HeaderWritten told → After (further (Synced (other_of view.current)) told)
  syncs_written told written =
      subst (λ (t : History). After (further (Synced (other_of view.current)) t)) (sym written.is) (syncs written.before written.may)

  pub passes : (ok : Bool) (old new : Option History) → WritesAndSyncs ok piece old new → Since opening.start Before old → Passes opening LeavesMap (ByAnswer ok After Torn) old new
  passes true old new steps h =
      let first = passes_step opening LeavesMap Before HeaderWritten (Wrote piece) before_images written_images old (λ since is may. record { before = _; may = may; is = refl }) h in
      let second = passes_step opening LeavesMap HeaderWritten After (Synced (other_of view.current)) written_images after_images (after (Wrote piece) old) (λ since is written. syncs_written _ written) first.holds in
      subst (λ (told : Option History). Passes opening LeavesMap After old told) (sym steps)
      (passes_join opening LeavesMap HeaderWritten After old (after (Wrote piece) old) (after (Synced (other_of view.current)) (after (Wrote piece) old)) first second)
  passes false old new (inl refused) h =
      passes_refused opening LeavesMap Before Torn piece before_images torn_images old new still_torn
      (λ left within since is may. front_torn _ left (Refused piece left) (front_refused opening _ (other_of view.current) bytes left may.1.long within) may) h refused
  passes false old new (inr written) h =
      subst (λ (told : Option History). Passes opening LeavesMap Torn old told) (sym written)
      (passes_step opening LeavesMap Before Torn (Wrote piece) before_images torn_images old (λ since is may. writes_torn _ may) h)

-- the other log's file, by its number and by the current one
other_is : (pair : PairView) → other_of (current_file pair) ≡ other_file pair
other_is pair = by (pair.current == 1)
  where
    by : (first : Bool) → other_of (if first then Log1 else Log2) ≡ log_file (if first then 2 else 1)
    by true = refl
    by false = refl

-- how a pair goes over to its other log
pub switches : (ok : Bool) (pair later : PairView) (salt2 : ℕ) (old new : Option History) (bytes : List ℕ) (sum : Sum) → IsHeaderOf (other_number pair.current) (next_header pair salt2 sum) bytes
    → WritesAndSyncs ok (front_piece (other_file pair) bytes) old new → later ≡ (if ok then switched_pair pair (next_header pair salt2 sum) else pair)
    → Switches ok pair later salt2 old new bytes sum
switches ok pair later salt2 old new bytes sum is steps becomes = record {
  is = is;
  steps = steps;
  becomes = becomes;
  moments = λ opening view store h.
      let rising : view.header.generation < (log_fields bytes).generation =
      omega (arith, ap (λ (header : LogFields). header.generation) store.header, ap (λ (header : LogFields). header.generation) is.told) in
      let file : other_of view.current ≡ other_file pair = ap other_of store.current ∙ other_is pair in
      subst (λ (header : LogFields). Passes opening (Leaves opening view) (ByAnswer ok (Holds opening (switched_view view header)) (MayBeTorn opening view)) old new) is.told
      (passes opening view bytes store.sealed rising ok old new (subst (λ (f : File). WritesAndSyncs ok (front_piece f bytes) old new) (sym file) steps) h);
}

-- the new log has its header and no frames
switched_log : (pair : PairView) (header : LogFields) → log_of (switched_pair pair header) (other_number pair.current) ≡ record { header = header; frames = 0 }
switched_log pair header = by (pair.current == 1)
  where
    new : LogView
    new = record { header = header; frames = 0 }

    by : (first : Bool) → (if (if first then 2 else 1) == 1 then (if (if first then 2 else 1) == 1 then new else pair.one) else (if (if first then 2 else 1) == 1 then pair.two else new)) ≡ new
    by true = refl
    by false = refl

switched_place : (pair : PairView) (header : LogFields) → pair.appended ≡ 0 → next_place (switched_pair pair header) ≡ header_size
switched_place pair header none =
    ap (λ (log : LogView). frame_place log.header (log.frames + pair.appended)) (switched_log pair header)
    ∙ ap (λ (n : ℕ). frame_place header (0 + n)) none ∙ nothing (frame_size header)
  where
    nothing : (size : ℕ) → header_size + (0 + 0) * size ≡ header_size
    nothing size = omega arith

-- and stands as soon as it is on the disk
pub switched_stands : (opening : Opening) (pair : PairView) (header : LogFields) (told : History) → pair.appended ≡ 0 → IsOnDisk opening told (other_file pair) header [] []
    → LogStands opening (switched_pair pair header) [] [] told
switched_stands opening pair header told none on =
    let same = sym (switched_log pair header) in
    stands_sealed opening (switched_pair pair header) [] told
    (subst (λ (log : LogView). IsOnDisk opening told (other_file pair) log.header [] []) same on)
    (ap (λ (log : LogView). log.frames) same) none (subst (λ (log : LogView). header.sum ≡ sum_of_frames log.header log.header.sum []) same refl)

-- the new log's file reaches the place of its first frame
pub switch_reached : (pair later : PairView) (header : LogFields) (bytes : List ℕ) (old new : Option History) → length bytes ≡ header_size → pair.appended ≡ 0
    → WritesAndSyncs true (front_piece (other_file pair) bytes) old new → later ≡ switched_pair pair header → IsReached new later
switch_reached pair later header bytes None new long none steps becomes = rw steps tt
switch_reached pair later header bytes (Some told) new long none steps becomes =
    subst (λ (t : Option History). IsReached t later) (sym steps)
    (subst (λ (p : PairView). IsReached (Some (further (Synced (other_file pair)) written)) p) (sym becomes)
    (subst (λ (place : ℕ). place + 0 ≤ length (content (reads written) (other_file pair))) (sym (switched_place pair header none))
    (omega (arith, ap (λ (xs : List ℕ). length xs) (content-put (other_file pair) 0 bytes (reads told)), length-overwritten 0 bytes (content (reads told) (other_file pair)) (omega arith), long))))
  where
    written : History
    written = further (Wrote (front_piece (other_file pair) bytes)) told

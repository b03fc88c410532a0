-- A log that stands on a disk gets a frame more, and is sealed.
use Rattle.std.proofs.Common.{◌≡◌, ◌≢◌, inl, inr, ℕ, ◌≤◌, ◌+◌, ◌==◌, Bool, true, false, if◌then◌else◌, List, [], ◌∷◌, ◌++◌, length, refl, sym, ◌∙◌, ap, subst, arith, length-append, append_assoc, append-nil, Option, Some, None}
use Rattle.std.proofs.lemmas.Grind.{fold-append}
use Rattle.std.proofs.lemmas.Bool.Decides.{nat_tests}
use Rattle.disk_face.specs.declared.disk.File.{File}
use Rattle.disk_face.specs.declared.step.Piece.{Piece}
use Rattle.disk_face.specs.declared.step.Step.TheVariants.{Wrote, Refused, Synced}
use Rattle.disk_face.specs.Files.{Files, content, overwritten}
use Rattle.disk_face.specs.Steps.{History, reads, further}
use Rattle.disk_face.specs.Image.{MayLeave}
use Rattle.disk_face.proofs.Contents.{content-put, length-overwritten, overwritten-reads}
use Rattle.disk_face.proofs.Images.{reads_may_stay}
use Rattle.log_spec.specs.Checksum.{Sum}
use Rattle.log_spec.specs.LogHeader.{LogFields}
use Rattle.log_spec.specs.Accept.{Frame, AreValidFrames, IsValidFrame, AreThere, AreCommitted, sum_after, sum_of_frames, last_size}
use Rattle.log_spec.specs.Frames.{end_of, frame_place, accepted_frames}
use Rattle.log_spec.proofs.AcceptedIs.{accepted_is}
use Rattle.log_spec.proofs.HeaderLaws.{there_front}
use Rattle.log_spec.proofs.PlaceLaws.{end-push, end_is_place}
use Rattle.log_spec.proofs.ScanLaws.{there_push}
use Rattle.crash_spec.specs.Marks.{number_of}
use Rattle.crash_spec.specs.Opening.{Opening, Since}
use Rattle.crash_spec.specs.Passes.{Passes, ByAnswer}
use Rattle.crash_spec.specs.Logs.{IsOnDisk, LeavesFrames}
use Rattle.crash_spec.proofs.LogImages.{image_frames, last_of_both}
use Rattle.crash_spec.proofs.LogSteps.{on_more, on_written, on_refused, on_synced}
use Rattle.crash_spec.proofs.Overwritten.{overwritten-front}
use Rattle.crash_spec.proofs.Passing.{passes_still, passes_step, passes_refused}
use Rattle.log_pair.specs.Pair.{PairView, log_of, current_file, current_header, written_frames, next_place, next_piece, with_frame, sealed_pair}
use Rattle.log_pair.specs.Appending.{LogStands, IsUnderWay, Accepts, WritesPiece, SyncsFile, AppendsFrame, AppendsTo, SealsFrames, SealsIn, IsReached}
use Rattle.log_spec.specs.Written.{IsFrameOf}

-- frames that are valid, one list behind the other
valid_both : (header : LogFields) (sum : Sum) (frames more : List Frame) → AreValidFrames header sum frames → AreValidFrames header (sum_of_frames header sum frames) more
    → AreValidFrames header sum (frames ++ more)
valid_both header sum [] more v w = w
valid_both header sum (frame ∷ rest) more (v, vs) w = (v, valid_both header (sum_after header sum frame) rest more vs w)

pub since_weaker : (start : History) (P Q : History → Type 0) → ((told : History) → P told → Q told) → (told : Option History) → Since start P told → Since start Q told
since_weaker start P Q weaker None h = tt
since_weaker start P Q weaker (Some told) (since, is, h) = (since, is, weaker _ h)

ends_commit : (frames pending : List Frame) → last_size pending ≢ 0 → last_size (frames ++ pending) ≢ 0
ends_commit frames [] some = absurd (some refl)
ends_commit frames (frame ∷ more) some = λ none. some (sym (last_of_both frames frame more) ∙ none)

module _ (opening : Opening) (pair : PairView) (frames pending : List Frame) (told : History) (stands : LogStands opening pair frames pending told) where
  pub valid_all : AreValidFrames (current_header pair) (current_header pair).sum (frames ++ pending)
  valid_all =
      let on = stands.on in
      valid_both (current_header pair) (current_header pair).sum frames pending (subst (λ (h : LogFields). AreValidFrames h h.sum frames) on.same_header on.committed.valid) on.valid

  -- the next place is the one behind all frames
  pub place_is : next_place pair ≡ end_of (frames ++ pending)
  place_is =
      ap (λ (n : ℕ). frame_place (current_header pair) n) (omega (arith, length-append frames pending, stands.counted, stands.appended))
      ∙ sym (end_is_place (current_header pair) (current_header pair).sum (frames ++ pending) valid_all)

  pub stands_images : (image : Files) → MayLeave opening.before told image → LeavesFrames opening (current_file pair) frames pending told image
  stands_images = image_frames opening told (current_file pair) (current_header pair) frames pending stands.on

  -- where the pending frames end a commit, all of them are committed as the log reads
  pub all_committed : last_size pending ≢ 0 → AreCommitted (content (reads told) (current_file pair)) (frames ++ pending)
  all_committed ends = record {
    there = stands.there;
    valid = subst (λ (h : LogFields). AreValidFrames h h.sum (frames ++ pending)) (sym stands.on.same_header) valid_all;
    committed = λ some. ends_commit frames pending ends;
  }

  pub stands_accepts : Accepts opening (current_file pair) frames pending told
  stands_accepts chance = by (last_size pending == 0) refl
    where
      accepted : List Frame
      accepted = accepted_frames (number_of (current_file pair)) (content (reads told) (current_file pair))

      by : (unended : Bool) → (last_size pending == 0) ≡ unended → accepted ≡ (if unended then frames else frames ++ pending)
      by true none =
          elim (stands_images (reads told) (reads_may_stay opening.before told) chance) [
            | inl same ↦ same
            | inr (some, same) ↦ absurd (some (grind (arith, nat_tests)))
          ]
      by false some =
          let ends : last_size pending ≢ 0 = λ is. grind (arith, nat_tests) in
          elim (stands_images (reads told) (reads_may_stay opening.before told) chance) [
            | inl same ↦
                let longest = (accepted_is (number_of (current_file pair)) (content (reads told) (current_file pair))).longest (frames ++ pending) stands.on.ours (all_committed ends) in
                absurd (ends (ap last_size (none pending (omega (arith, length-append frames pending, ap (λ (fs : List Frame). length fs) same)))))
            | inr (more, same) ↦ same
          ]
        where
          none : (fs : List Frame) → length fs ≡ 0 → fs ≡ []
          none [] is = refl
          none (f ∷ fs) is = absurd (omega arith)

-- one frame more
module _ (opening : Opening) (pair : PairView) (frames pending : List Frame) (frame : Frame) (valid : IsValidFrame (current_header pair) pair.sum frame) (open_end : last_size pending ≡ 0) where
  abbrev Before : History → Type 0
  Before told = LogStands opening pair frames pending told

  abbrev Standing : History → Type 0
  Standing told = LogStands opening (with_frame pair frame) frames (pending ++ frame ∷ []) told

  abbrev Pending : History → Type 0
  Pending told = IsUnderWay opening pair frames (pending ++ frame ∷ []) told

  abbrev LeavesSome : History → Files → Type 0
  LeavesSome told image = LeavesFrames opening (current_file pair) frames (pending ++ frame ∷ []) told image

  next_valid : (told : History) → Before told → IsValidFrame (current_header pair) (sum_of_frames (current_header pair) (current_header pair).sum (frames ++ pending)) frame
  next_valid told stands = subst (λ (s : Sum). IsValidFrame (current_header pair) s frame) stands.summed valid

  still_pending : (told : History) → Before told → Pending told
  still_pending told stands = on_more opening told (current_file pair) (current_header pair) frames pending frame stands.on (next_valid told stands) open_end stands.long

  pending_images : (told : History) → Pending told → (image : Files) → MayLeave opening.before told image → LeavesSome told image
  pending_images told on = image_frames opening told (current_file pair) (current_header pair) frames (pending ++ frame ∷ []) on

  before_images : (told : History) → Before told → (image : Files) → MayLeave opening.before told image → LeavesSome told image
  before_images told stands = pending_images told (still_pending told stands)

  standing_images : (told : History) → Standing told → (image : Files) → MayLeave opening.before told image → LeavesSome told image
  standing_images told stands = pending_images told stands.on

  at_place : (told : History) → Before told → (record { file = current_file pair; at = end_of (frames ++ pending); bytes = frame }) ≡ next_piece pair frame
  at_place told stands = ap (λ (n : ℕ). at n) (sym (place_is opening pair frames pending told stands))
    where
      at : ℕ → Piece
      at n = record { file = current_file pair; at = n; bytes = frame }

  writes : (told : History) → Before told → Standing (further (Wrote (next_piece pair frame)) told)
  writes told stands =
      let log : File = current_file pair in
      let old : List ℕ = content (reads told) log in
      let all : List Frame = frames ++ pending in
      let place = place_is opening pair frames pending told stands in
      let new_is : content (reads (further (Wrote (next_piece pair frame)) told)) log ≡ overwritten (end_of all) frame old =
      content-put log (next_place pair) frame (reads told) ∙ ap (λ (at : ℕ). overwritten at frame old) place in
      let joined : all ++ frame ∷ [] ≡ frames ++ (pending ++ frame ∷ []) = append_assoc frames pending (frame ∷ []) in
      let long = stands.long in
      let first : AreThere (overwritten (end_of all) frame old) all =
      there_front old (overwritten (end_of all) frame old) all (sym (overwritten-front (end_of all) (end_of all) frame old (omega arith) long)) stands.there in
      let there : AreThere (overwritten (end_of all) frame old) (all ++ frame ∷ []) = there_push (overwritten (end_of all) frame old) all frame first (overwritten-reads (end_of all) frame old long) in
      let longer : end_of (all ++ frame ∷ []) ≤ length (overwritten (end_of all) frame old) = omega (arith, end-push all frame, length-overwritten (end_of all) frame old long) in
      record {
        on = subst (λ (p : Piece). Pending (further (Wrote p) told)) (at_place told stands)
            (on_written opening told log (current_header pair) frames pending frame stands.on (next_valid told stands) open_end long);
        there = rw new_is (subst (λ (fs : List Frame). AreThere (overwritten (end_of all) frame old) fs) joined there);
        long = rw new_is (subst (λ (fs : List Frame). end_of fs ≤ length (overwritten (end_of all) frame old)) joined longer);
        counted = stands.counted;
        appended = length-append pending (frame ∷ []) ∙ omega (arith, stands.appended);
        summed =
            ap (λ (s : Sum). sum_after (current_header pair) s frame) stands.summed ∙ sym (fold-append (sum_after (current_header pair)) (current_header pair).sum all (frame ∷ []))
            ∙ ap (λ (fs : List Frame). sum_of_frames (current_header pair) (current_header pair).sum fs) joined;
      }

  refuses : (left : List ℕ) (told : History) → Before told → Pending (further (Refused (next_piece pair frame) left) told)
  refuses left told stands =
      subst (λ (p : Piece). Pending (further (Refused p left) told)) (at_place told stands)
      (on_refused opening told (current_file pair) (current_header pair) frames pending frame stands.on (next_valid told stands) open_end stands.long left)

  pub append_passes : (ok : Bool) (old new : Option History) → WritesPiece ok (next_piece pair frame) old new → Since opening.start Before old
      → Passes opening LeavesSome (ByAnswer ok Standing Pending) old new
  append_passes true old new step h =
      subst (λ (told : Option History). Passes opening LeavesSome Standing old told) (sym step)
      (passes_step opening LeavesSome Before Standing (Wrote (next_piece pair frame)) before_images standing_images old (λ since is stands. writes _ stands) h)
  append_passes false old new step h =
      passes_refused opening LeavesSome Before Pending (next_piece pair frame) before_images pending_images old new still_pending (λ left within since is stands. refuses left _ stands) h step

-- how a frame is appended
pub appends : (ok : Bool) (pair later : PairView) (page size : ℕ) (bytes : List ℕ) (old new : Option History) (frame : Frame) → IsFrameOf (current_header pair) pair.sum page size bytes frame
    → WritesPiece ok (next_piece pair frame) old new → later ≡ (if ok then with_frame pair frame else pair) → AppendsFrame ok pair later page size bytes old new frame
appends true pair later page size bytes old new frame is step becomes =
    let passes : (opening : Opening) (frames pending : List Frame) → AppendsTo true pair (with_frame pair frame) frame old new opening frames pending =
    λ opening frames pending open_end h. append_passes opening pair frames pending frame is.valid open_end true old new step h in
    record {
      is = is;
      step = step;
      becomes = becomes;
      moments = λ opening frames pending. subst (λ (p : PairView). AppendsTo true pair p frame old new opening frames pending) (sym becomes) (passes opening frames pending);
      accepted = λ ok opening frames pending open_end h.
          since_weaker opening.start (LogStands opening (with_frame pair frame) frames (pending ++ frame ∷ [])) (Accepts opening (current_file pair) frames (pending ++ frame ∷ []))
          (λ told stands. stands_accepts opening (with_frame pair frame) frames (pending ++ frame ∷ []) told stands) new (passes opening frames pending open_end h).holds;
    }
appends false pair later page size bytes old new frame is step becomes = record {
  is = is;
  step = step;
  becomes = becomes;
  moments = λ opening frames pending open_end h. append_passes opening pair frames pending frame is.valid open_end false old new step h;
  accepted = λ ok. cc;
}

-- sealing
sealed_header : (pair : PairView) → current_header (sealed_pair pair) ≡ current_header pair
sealed_header pair = by (pair.current == 1)
  where
    by : (first : Bool) → (if first then (if first then (record { header = current_header pair; frames = written_frames pair }) else pair.one) else (if first then pair.two else (record { header = current_header pair; frames = written_frames pair }))).header ≡ current_header pair
    by true = refl
    by false = refl

sealed_frames : (pair : PairView) → (log_of (sealed_pair pair) pair.current).frames ≡ written_frames pair
sealed_frames pair = by (pair.current == 1)
  where
    by : (first : Bool) → (if first then (if first then (record { header = current_header pair; frames = written_frames pair }) else pair.one) else (if first then pair.two else (record { header = current_header pair; frames = written_frames pair }))).frames ≡ written_frames pair
    by true = refl
    by false = refl

sealed_place : (pair : PairView) → next_place (sealed_pair pair) ≡ next_place pair
sealed_place pair =
    ap (λ (header : LogFields). frame_place header (written_frames (sealed_pair pair))) (sealed_header pair)
    ∙ ap (λ (n : ℕ). frame_place (current_header pair) n) (omega (arith, sealed_frames pair))

-- a log on the disk with as many frames as the pair counts, and nothing appended, stands
pub stands_sealed : (opening : Opening) (pair : PairView) (frames : List Frame) (told : History) → IsOnDisk opening told (current_file pair) (current_header pair) frames []
    → length frames ≡ (log_of pair pair.current).frames → pair.appended ≡ 0 → pair.sum ≡ sum_of_frames (current_header pair) (current_header pair).sum frames → LogStands opening pair frames [] told
stands_sealed opening pair frames told on counted none summed =
    let all : frames ++ [] ≡ frames = append-nil frames in
    record {
      on = on;
      there = rw all on.committed.there;
      long = rw all on.long;
      counted = counted;
      appended = sym none;
      summed = rw all summed;
    }

module _ (opening : Opening) (pair : PairView) (frames pending : List Frame) (ends : last_size pending ≢ 0) where
  abbrev Open : History → Type 0
  Open told = LogStands opening pair frames pending told

  abbrev Sealed : History → Type 0
  Sealed told = LogStands opening (sealed_pair pair) (frames ++ pending) [] told

  abbrev LeavesBoth : History → Files → Type 0
  LeavesBoth told image = LeavesFrames opening (current_file pair) frames pending told image

  open_images : (told : History) → Open told → (image : Files) → MayLeave opening.before told image → LeavesBoth told image
  open_images told stands = stands_images opening pair frames pending told stands

  sealed_images : (told : History) → Sealed told → (image : Files) → MayLeave opening.before told image → LeavesBoth told image
  sealed_images told stands image left chance =
      elim (stands_images opening (sealed_pair pair) (frames ++ pending) [] told stands image left chance) [
        | inl same ↦ inr (ends, same)
        | inr (some, same) ↦ absurd (some refl)
      ]

  syncs : (told : History) → Open told → Sealed (further (Synced (current_file pair)) told)
  syncs told stands =
      let all : frames ++ pending ++ [] ≡ frames ++ pending = append-nil (frames ++ pending) in
      let same = sym (sealed_header pair) in
      record {
        on = subst (λ (h : LogFields). IsOnDisk opening (further (Synced (current_file pair)) told) (current_file pair) h (frames ++ pending) []) same
            (on_synced opening told (current_file pair) (current_header pair) frames pending stands.on (all_committed opening pair frames pending told stands ends) stands.long);
        there = rw all stands.there;
        long = rw all stands.long;
        counted = length-append frames pending ∙ omega (arith, stands.counted, stands.appended) ∙ sym (sealed_frames pair);
        appended = refl;
        summed = subst (λ (h : LogFields). pair.sum ≡ sum_of_frames h h.sum (frames ++ pending ++ [])) same (rw all stands.summed);
      }

  pub seal_passes : (ok : Bool) (old new : Option History) → SyncsFile ok (current_file pair) old new → Since opening.start Open old → Passes opening LeavesBoth (ByAnswer ok Sealed Open) old new
  seal_passes true old new step h =
      subst (λ (told : Option History). Passes opening LeavesBoth Sealed old told) (sym step)
      (passes_step opening LeavesBoth Open Sealed (Synced (current_file pair)) open_images sealed_images old (λ since is stands. syncs _ stands) h)
  seal_passes false old new step h =
      subst (λ (told : Option History). Passes opening LeavesBoth Open old told) (sym step) (passes_still opening LeavesBoth Open open_images old h)

-- how the appended frames are sealed
pub seals : (ok : Bool) (pair later : PairView) (old new : Option History) → SyncsFile ok (current_file pair) old new → later ≡ (if ok then sealed_pair pair else pair) → SealsFrames ok pair later old new
seals true pair later old new step becomes =
    let passes : (opening : Opening) (frames pending : List Frame) → SealsIn true pair (sealed_pair pair) old new opening frames pending =
    λ opening frames pending ends h. seal_passes opening pair frames pending ends true old new step h in
    record {
      step = step;
      becomes = becomes;
      moments = λ opening frames pending. subst (λ (p : PairView). SealsIn true pair p old new opening frames pending) (sym becomes) (passes opening frames pending);
      accepted = λ ok opening frames pending ends h.
          since_weaker opening.start (LogStands opening (sealed_pair pair) (frames ++ pending) []) (Accepts opening (current_file pair) (frames ++ pending) [])
          (λ told stands. stands_accepts opening (sealed_pair pair) (frames ++ pending) [] told stands) new (passes opening frames pending ends h).holds;
    }
seals false pair later old new step becomes = record {
  step = step;
  becomes = becomes;
  moments = λ opening frames pending. subst (λ (p : PairView). SealsIn false pair p old new opening frames pending) (sym becomes) (λ ends h. seal_passes opening pair frames pending ends false old new step h);
  accepted = λ ok. cc;
}

-- the log's file goes on to reach the next place
pub seal_reached : (ok : Bool) (pair later : PairView) (old new : Option History) → SyncsFile ok (current_file pair) old new → later ≡ (if ok then sealed_pair pair else pair)
    → IsReached old pair → IsReached new later
seal_reached false pair later old new step becomes reached = rw (step, becomes) reached
seal_reached true pair later None new step becomes reached = rw step tt
seal_reached true pair later (Some told) new step becomes reached =
    rw (step, becomes) (subst (λ (place : ℕ). place + 0 ≤ length (content (reads told) (current_file pair))) (sym (sealed_place pair)) reached)

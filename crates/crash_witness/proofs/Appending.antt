-- A frame is written behind a log's frames, and synced.
use Rattle.std.proofs.Common.{Result, Ok, Err, OnOk, OnErr, is_ok, ◌≡◌, ◌≢◌, ℕ, ◌≤◌, List, [], ◌∷◌, ◌++◌, length, take, drop, inl, inr, refl, sym, ◌∙◌, ap, subst, arith, append-nil, Option, Some, None}
use Rattle.std.proofs.lemmas.Grind.{fold-append}
use Rattle.disk_face.specs.declared.disk.File.{File}
use Rattle.disk_face.specs.declared.step.Piece.{Piece}
use Rattle.disk_face.specs.declared.step.Step.TheVariants.{Wrote, Refused, Synced}
use Rattle.disk_face.specs.Files.{Files, content, overwritten}
use Rattle.disk_face.specs.Steps.{History, reads, further, after}
use Rattle.disk_face.specs.Told.{Refuses}
use Rattle.disk_face.specs.Image.{MayLeave}
use Rattle.disk_face.proofs.Contents.{content-put, overwritten-reads, length-overwritten}
use Rattle.log_spec.specs.LogHeader.{LogFields}
use Rattle.log_spec.specs.Accept.{Frame, IsValidFrame, last_size, commit_size, sum_of_frames, AreValidFrames}
use Rattle.log_spec.specs.Frames.{end_of}
use Rattle.log_spec.proofs.AcceptLaws.{valid_push}
use Rattle.log_spec.proofs.PlaceLaws.{end-push}
use Rattle.log_spec.proofs.ScanLaws.{there_push}
use Rattle.crash_spec.specs.Opening.{Opening, Since}
use Rattle.crash_spec.specs.Passes.{Passes, ByAnswer}
use Rattle.crash_spec.specs.Logs.{LeavesFrames}
use Rattle.crash_spec.proofs.LogImages.{image_frames}
use Rattle.crash_spec.proofs.LogSteps.{on_more, on_written, on_refused, on_synced}
use Rattle.crash_spec.proofs.Passing.{passes_still, passes_step, passes_refused, passes_join}
use Rattle.crash_witness.specs.Append.{MayAppend, IsPending, IsWritten, IsAppended}

-- the size after one frame more is that of this frame
last-push : (frames : List Frame) (frame : Frame) → last_size (frames ++ frame ∷ []) ≡ commit_size frame
last-push frames frame = fold-append (λ (size : ℕ) (f : Frame). commit_size f) 0 frames (frame ∷ [])

module _ (opening : Opening) (log : File) (header : LogFields) (frames : List Frame) (at : ℕ) (frame : Frame) where
  abbrev May : History → Type 0
  May told = MayAppend opening log header frames at frame told

  abbrev Pending : History → Type 0
  Pending told = IsPending opening log header frames frame told

  abbrev Written : History → Type 0
  Written told = IsWritten opening log header frames frame told

  abbrev Appended : History → Type 0
  Appended told = IsAppended opening log header frames frame told

  abbrev LeavesSome : History → Files → Type 0
  LeavesSome told image = LeavesFrames opening log frames (frame ∷ []) told image

  abbrev piece : Piece
  piece = record { file = log; at = at; bytes = frame }

  valid_of : (told : History) → May told → IsValidFrame header (sum_of_frames header header.sum (frames ++ [])) frame
  valid_of told may = subst (λ (fs : List Frame). IsValidFrame header (sum_of_frames header header.sum fs) frame) (sym (append-nil frames)) may.valid

  place_of : (told : History) → May told → end_of (frames ++ []) ≡ at
  place_of told may = ap end_of (append-nil frames) ∙ sym may.place

  reached_of : (told : History) → May told → end_of (frames ++ []) ≤ length (content (reads told) log)
  reached_of told may = let long = may.on.long in omega (arith, ap end_of (append-nil frames))

  -- whatever is on its way, a crash leaves the old frames or all of them
  pending_images : (told : History) → Pending told → (image : Files) → MayLeave opening.before told image → LeavesSome told image
  pending_images told on image left = image_frames opening told log header frames (frame ∷ []) on image left

  may_images : (told : History) → May told → (image : Files) → MayLeave opening.before told image → LeavesSome told image
  may_images told may = pending_images told (on_more opening told log header frames [] frame may.on (valid_of told may) refl (reached_of told may))

  written_images : (told : History) → Written told → (image : Files) → MayLeave opening.before told image → LeavesSome told image
  written_images told is = pending_images told is.on

  appended_images : commit_size frame ≢ 0 → (told : History) → Appended told → (image : Files) → MayLeave opening.before told image → LeavesSome told image
  appended_images ends told on image left chance =
      elim (image_frames opening told log header (frames ++ frame ∷ []) [] on image left chance) [ inl all ↦ inr (ends, all) | inr (some, same) ↦ absurd (some refl) ]

  at_place : (told : History) → May told → (record { file = log; at = end_of (frames ++ []); bytes = frame }) ≡ piece
  at_place told may = ap (λ (n : ℕ). go n) (place_of told may)
    where
      go : ℕ → Piece
      go n = record { file = log; at = n; bytes = frame }

  -- the write
  writes : (told : History) → May told → Written (further (Wrote piece) told)
  writes told may =
      let old : List ℕ = content (reads told) log in
      let new : List ℕ = content (reads (further (Wrote piece) told)) log in
      let long = may.on.long in
      let inside : at ≤ length old = omega (arith, may.place) in
      let is : new ≡ overwritten at frame old = content-put log at frame (reads told) in
      let on : Pending (further (Wrote piece) told) = subst (λ (p : Piece). Pending (further (Wrote p) told)) (at_place told may)
      (on_written opening told log header frames [] frame may.on (valid_of told may) refl (reached_of told may)) in
      let there : take (length frame) (drop (end_of frames) new) ≡ frame =
      ap (λ (xs : List ℕ). take (length frame) (drop (end_of frames) xs)) is ∙ ap (λ (n : ℕ). take (length frame) (drop n (overwritten at frame old))) (sym may.place) ∙ overwritten-reads at frame old inside in
      record {
        on = on;
        committed = record {
          there = there_push new frames frame on.committed.there there;
          valid = subst (λ (h : LogFields). AreValidFrames h h.sum (frames ++ frame ∷ [])) (sym on.same_header)
              (valid_push header header.sum frames frame (subst (λ (h : LogFields). AreValidFrames h h.sum frames) on.same_header on.committed.valid) may.valid);
          committed = λ some none. may.ends (sym (last-push frames frame) ∙ none);
        };
        long = omega (arith, end-push frames frame, ap (λ (xs : List ℕ). length xs) is, length-overwritten at frame old inside, may.place);
      }

  refuses : (left : List ℕ) (told : History) → May told → Pending (further (Refused piece left) told)
  refuses left told may =
      subst (λ (p : Piece). Pending (further (Refused p left) told)) (at_place told may)
      (on_refused opening told log header frames [] frame may.on (valid_of told may) refl (reached_of told may) left)

  still_pending : (told : History) → May told → Pending told
  still_pending told may = on_more opening told log header frames [] frame may.on (valid_of told may) refl (reached_of told may)

  -- the sync
  syncs : (told : History) → Written told → Appended (further (Synced log) told)
  syncs told is = on_synced opening told log header frames (frame ∷ []) is.on is.committed is.long

  since_weaker : (P Q : History → Type 0) → ((told : History) → P told → Q told) → (told : Option History) → Since opening.start P told → Since opening.start Q told
  since_weaker P Q weaker None h = tt
  since_weaker P Q weaker (Some told) (since, is, h) = (since, is, weaker _ h)

  -- the sync, by its answer
  sync_passes : {T E : Type 0} → commit_size frame ≢ 0 → (result : Result T E) (mid new : Option History) → OnOk result (new ≡ after (Synced log) mid) → OnErr result (new ≡ mid)
      → Since opening.start Written mid → Passes opening LeavesSome (ByAnswer (is_ok result) Appended Pending) mid new
  sync_passes ends (Ok value) mid new done refused h =
      subst (λ (told : Option History). Passes opening LeavesSome Appended mid told) (sym done)
      (passes_step opening LeavesSome Written Appended (Synced log) written_images (appended_images ends) mid (λ since is written. syncs _ written) h)
  sync_passes ends (Err fault) mid new done refused h =
      subst (λ (told : Option History). Passes opening LeavesSome Pending mid told) (sym refused)
      (passes_still opening LeavesSome Pending pending_images mid (since_weaker Written Pending (λ told is. is.on) mid h))

  -- the write that was done, and the sync after it
  pub done : {T E : Type 0} (result : Result T E) (old mid new : Option History) → mid ≡ after (Wrote piece) old → OnOk result (new ≡ after (Synced log) mid) → OnErr result (new ≡ mid)
      → Since opening.start May old → Passes opening LeavesSome (ByAnswer (is_ok result) Appended Pending) old new
  done (Ok value) None mid new written synced refused h = rw (synced, written) (record { each_moment = tt; holds = tt })
  done (Err fault) None mid new written synced refused h = rw (refused, written) (record { each_moment = tt; holds = tt })
  done result (Some told) mid new written synced refused (since, is, may) =
      let first : Passes opening LeavesSome Written (Some told) mid = subst (λ (told' : Option History). Passes opening LeavesSome Written (Some told) told') (sym written)
      (passes_step opening LeavesSome May Written (Wrote piece) may_images written_images (Some told) (λ since is may. writes _ may) (since, is, may)) in
      passes_join opening LeavesSome Written (ByAnswer (is_ok result) Appended Pending) (Some told) mid new first (sync_passes may.ends result mid new synced refused first.holds)

  -- the write that was refused
  pub not_written : (old new : Option History) → Refuses piece old new → Since opening.start May old → Passes opening LeavesSome Pending old new
  not_written old new refused h =
      passes_refused opening LeavesSome May Pending piece may_images pending_images old new (λ told may. still_pending told may) (λ left within since is may. refuses left _ may) h refused

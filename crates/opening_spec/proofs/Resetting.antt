-- A log's new header is written and synced.
use Rattle.std.proofs.Common.{◌≡◌, ◌⊎◌, ℕ, ◌≤◌, inl, inr, List, length, refl, sym, ◌∙◌, ap, subst, Option, Some, None}
use Rattle.std.specs.Prelude.{IfSome}
use Rattle.disk_face.specs.declared.disk.File.{File}
use Rattle.disk_face.specs.declared.disk.File.TheVariants.{Log2}
use Rattle.disk_face.specs.declared.step.Piece.{Piece}
use Rattle.disk_face.specs.declared.step.Step.TheVariants.{Wrote, Refused, Synced}
use Rattle.disk_face.specs.Files.{Files}
use Rattle.disk_face.specs.Steps.{History, after, further}
use Rattle.disk_face.specs.Told.{Refuses}
use Rattle.disk_face.specs.Image.{MayLeave}
use Rattle.log_spec.specs.LogHeader.{LogFields, log_fields}
use Rattle.crash_spec.specs.Marks.{other_of}
use Rattle.crash_spec.specs.Opening.{Since}
use Rattle.crash_spec.specs.Passes.{Passes}
use Rattle.crash_spec.proofs.Passing.{passes_step, passes_refused, passes_join, passes_weaker}
use Rattle.crash_spec.proofs.Switching.{front_written, front_refused}
use Rattle.opening_spec.specs.Found.{OpeningView, FoundLog, IsNextHeader, found_log, one_after, two_after}
use Rattle.opening_spec.specs.States.{IsResetting, HasReset, IsReset, MayBeOurs, LeavesMap}
use Rattle.opening_spec.proofs.Reset.{reset_images, reset_ready, reset_written, other_ready, written_images}

module _ (view : OpeningView) (log : File) (one two : FoundLog) (beside : Option LogFields) (bytes : List ℕ) (next : IsNextHeader log (found_log log one two) bytes)
    (owns : log ≡ Log2 → MayBeOurs view) where
  abbrev piece : Piece
  piece = record { file = log; at = 0; bytes = bytes }

  abbrev Before : History → Type 0
  Before told = IsResetting view log one two beside told

  -- the header was written
  abbrev Sent : History → Type 0
  Sent later = (told : History) × IsResetting view log one two beside told × (later ≡ further (Wrote piece) told)

  -- or it was refused, and has left something or not
  abbrev Tried : History → Type 0
  Tried later = IsResetting view log one two beside later ⊎ ((told : History) × (left : List ℕ) × (length left ≤ length bytes) × IsResetting view log one two beside told × (later ≡ further (Refused piece left) told))

  abbrev Done : History → Type 0
  Done told = HasReset view log (log_fields bytes) one two beside told

  before_gives : (told : History) → Before told → (image : Files) → MayLeave view.opening.before told image → LeavesMap view told image
  before_gives told b image left = written_images view one two told b.written image left

  sent_gives : (later : History) → Sent later → (image : Files) → MayLeave view.opening.before later image → LeavesMap view later image
  sent_gives later (told, b, is) =
      subst (λ (later : History). (image : Files) → MayLeave view.opening.before later image → LeavesMap view later image) (sym is)
      (reset_images view one two told b.written log bytes next b.may owns (Wrote piece) bytes (front_written view.opening told log bytes next.long))

  tried_gives : (later : History) → Tried later → (image : Files) → MayLeave view.opening.before later image → LeavesMap view later image
  tried_gives later (inl b) = before_gives later b
  tried_gives later (inr (told, left, few, b, is)) =
      subst (λ (later : History). (image : Files) → MayLeave view.opening.before later image → LeavesMap view later image) (sym is)
      (reset_images view one two told b.written log bytes next b.may owns (Refused piece left) left (front_refused view.opening told log bytes left next.long few))

  done_gives : (told : History) → Done told → (image : Files) → MayLeave view.opening.before told image → LeavesMap view told image
  done_gives told d image left = written_images view (one_after log one) (two_after log two) told d.written image left

  beside_ready : (beside : Option LogFields) (told : History) (b : IsResetting view log one two beside told) → IfSome beside (λ header. IsReset view (other_of log) header told)
      → IfSome beside (λ header. IsReset view (other_of log) header (further (Synced log) (further (Wrote piece) told)))
  beside_ready None told b other = tt
  beside_ready (Some header) told b other = other_ready view one two told b.written log bytes next b.may owns header other

  done_is : (later : History) → Sent later → Done (further (Synced log) later)
  done_is later (told, b, is) =
      subst (λ (later : History). HasReset view log (log_fields bytes) one two beside (further (Synced log) later)) (sym is) (record {
        written = reset_written view one two told b.written log bytes next b.may owns;
        ready = reset_ready view one two told b.written log bytes next b.may owns;
        other = beside_ready beside told b b.other;
      })

  -- the header was written and synced
  pub header_done : (old mid new : Option History) → Since view.opening.start (IsResetting view log one two beside) old → mid ≡ after (Wrote piece) old → new ≡ after (Synced log) mid
      → Passes view.opening (LeavesMap view) (HasReset view log (log_fields bytes) one two beside) old new
  header_done old mid new h is then =
      let first = passes_step view.opening (LeavesMap view) Before Sent (Wrote piece) before_gives sent_gives old (λ since grew b. (_, b, refl)) h in
      let second = passes_step view.opening (LeavesMap view) Sent Done (Synced log) sent_gives done_gives (after (Wrote piece) old) (λ since grew sent. done_is _ sent) first.holds in
      subst (λ told. Passes view.opening (LeavesMap view) Done old told) (sym (then ∙ ap (after (Synced log)) is))
      (passes_join view.opening (LeavesMap view) Sent Done old (after (Wrote piece) old) (after (Synced log) (after (Wrote piece) old)) first second)

  -- it was written, and the sync failed
  pub header_unsynced : (old mid new : Option History) → Since view.opening.start (IsResetting view log one two beside) old → mid ≡ after (Wrote piece) old → new ≡ mid
      → Passes view.opening (LeavesMap view) (λ told. Unit {0}) old new
  header_unsynced old mid new h is then =
      let first = passes_step view.opening (LeavesMap view) Before Sent (Wrote piece) before_gives sent_gives old (λ since grew b. (_, b, refl)) h in
      subst (λ told. Passes view.opening (LeavesMap view) (λ t. Unit {0}) old told) (sym (then ∙ is))
      (passes_weaker view.opening (LeavesMap view) (LeavesMap view) Sent (λ t. Unit {0}) (λ told image leaves. leaves) (λ told sent. tt) old (after (Wrote piece) old) first)

  -- the write was refused
  pub header_refused : (old new : Option History) → Since view.opening.start (IsResetting view log one two beside) old → Refuses piece old new
      → Passes view.opening (LeavesMap view) (λ told. Unit {0}) old new
  header_refused old new h refused =
      passes_weaker view.opening (LeavesMap view) (LeavesMap view) Tried (λ t. Unit {0}) (λ told image leaves. leaves) (λ told tried. tt) old new
      (passes_refused view.opening (LeavesMap view) Before Tried piece before_gives tried_gives old new (λ told b. inl b)
      (λ left within since grew b. inr (_, left, within, b, refl)) h refused)

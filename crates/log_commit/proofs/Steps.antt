-- The steps of a commit, from call to call.
use Rattle.std.proofs.Common.{◌≡◌, ◌∙◌, ℕ, ◌+◌, ◌*◌, ◌≤◌, Bool, true, false, List, [], ◌∷◌, ◌++◌, refl, sym, ap, subst, arith, inl, inr, Option, Some, None}
use Rattle.std.specs.Prelude.{Result, Ok, Err, is_ok, OnOk}
use Rattle.std.proofs.lemmas.List.{append_assoc}
use Rattle.std.proofs.lemmas.List.Elements.{All-nil, All-cons, All-append}
use Rattle.disk_face.specs.declared.disk.File.{File}
use Rattle.disk_face.specs.declared.step.Step.{Step}
use Rattle.disk_face.specs.declared.step.Step.TheVariants.{Wrote, Refused, Synced}
use Rattle.disk_face.specs.Steps.{History, after}
use Rattle.log_spec.specs.LogHeader.{LogFields, header_size}
use Rattle.crash_spec.specs.Logs.{HasSalts}
use Rattle.crash_spec.specs.Opening.{grown}
use Rattle.engine_spec.specs.declared.commits.PageImage.{PageImage}
use Rattle.log_pair.specs.Pair.{PairView, current_file, current_header, next_piece}
use Rattle.log_pair.specs.Appending.{WritesPiece, SyncsFile, SealsFrames}
use Rattle.log_commit.specs.GoesBy.{GoesBy}
use Rattle.log_commit.specs.Commit.{IsCommitStep, with_appended}
use Rattle.log_commit.specs.Appended.{AppendsImage}

-- by none
pub goes_none : (P : Step → Type 0) (old : Option History) → GoesBy P old old
goes_none P None = refl
goes_none P (Some old) = ([], All-nil P, refl)

pub goes_still : (P : Step → Type 0) (old new : Option History) → new ≡ old → GoesBy P old new
goes_still P old new is = subst (GoesBy P old) (sym is) (goes_none P old)

-- by one
pub goes_one : (P : Step → Type 0) (step : Step) (old new : Option History) → P step → new ≡ after step old → GoesBy P old new
goes_one P step None new so is = is
goes_one P step (Some old) new so is = (step ∷ [], All-cons P step [] so (All-nil P), is)

-- by some and then by others
pub goes_both : (P : Step → Type 0) (old mid new : Option History) → GoesBy P old mid → GoesBy P mid new → GoesBy P old new
goes_both P None mid new one two = go mid new one two
  where
    go : (mid new : Option History) → mid ≡ None → GoesBy P mid new → new ≡ None
    go None new is two = two
    go (Some told) new is two = absurd cc
goes_both P (Some old) mid new (few, all, is) two =
    let second : GoesBy P (Some (grown few old)) new = subst (λ (told : Option History). GoesBy P told new) is two in (
      second.0 ++ few,
      All-append P second.0 few second.1 all,
      second.2 ∙ ap (λ (steps : List Step). Some (record { first = old.first; steps = steps })) (sym (append_assoc second.0 few old.steps)),
    )

-- the next frame stands behind the header
behind : (count size : ℕ) → header_size ≤ header_size + count * size
behind count size = by (count * size)
  where
    by : (n : ℕ) → header_size ≤ header_size + n
    by n = omega arith

-- an append of one page
pub goes_appended : (ok : Bool) (pair later : PairView) (image : PageImage) (size : ℕ) (old new : Option History) → AppendsImage ok pair later image size old new
    → GoesBy (IsCommitStep (current_file pair) (current_header pair)) old new
goes_appended ok pair later image size old new (frame, appends) = by ok appends.step
  where
    far : header_size ≤ (next_piece pair frame).at
    far = behind _ _

    salts : HasSalts (current_header pair) frame
    salts = (appends.is.valid.same_salt1, appends.is.valid.same_salt2)

    by : (ok : Bool) → WritesPiece ok (next_piece pair frame) old new → GoesBy (IsCommitStep (current_file pair) (current_header pair)) old new
    by true wrote = goes_one (IsCommitStep (current_file pair) (current_header pair)) (Wrote (next_piece pair frame)) old new (refl, far, salts) wrote
    by false (inl same) = goes_still (IsCommitStep (current_file pair) (current_header pair)) old new same
    by false (inr (left, within, is)) =
        goes_one (IsCommitStep (current_file pair) (current_header pair)) (Refused (next_piece pair frame) left) old new (refl, far, salts, within) is

-- the same after others, of a pair to which their frames were appended
pub goes_more : (ok : Bool) (pair mid_pair later : PairView) (image : PageImage) (size : ℕ) (old mid new : Option History) → mid_pair ≡ with_appended pair mid_pair
    → GoesBy (IsCommitStep (current_file pair) (current_header pair)) old mid → AppendsImage ok mid_pair later image size mid new
    → GoesBy (IsCommitStep (current_file pair) (current_header pair)) old new
goes_more ok pair mid_pair later image size old mid new same goes appends =
    let header : current_header mid_pair ≡ current_header pair = ap (λ (p : PairView). current_header p) same in
    let file : current_file mid_pair ≡ current_file pair = ap (λ (p : PairView). current_file p) same in
    goes_both (IsCommitStep (current_file pair) (current_header pair)) old mid new goes
    (subst (λ (f : File). GoesBy (IsCommitStep f (current_header pair)) mid new) file
    (subst (λ (h : LogFields). GoesBy (IsCommitStep (current_file mid_pair) h) mid new) header (goes_appended ok mid_pair later image size mid new appends)))

-- a sync
pub goes_synced : (ok : Bool) (file : File) (header : LogFields) (old new : Option History) → SyncsFile ok file old new → GoesBy (IsCommitStep file header) old new
goes_synced true file header old new is = goes_one (IsCommitStep file header) (Synced file) old new refl is
goes_synced false file header old new is = goes_still (IsCommitStep file header) old new is

-- and the seal of all of them
pub goes_sealed : (ok : Bool) (pair later sealed : PairView) (old mid new : Option History) → later ≡ with_appended pair later
    → GoesBy (IsCommitStep (current_file pair) (current_header pair)) old mid → SealsFrames ok later sealed mid new
    → GoesBy (IsCommitStep (current_file pair) (current_header pair)) old new
goes_sealed ok pair later sealed old mid new same goes seals =
    let file : current_file later ≡ current_file pair = ap (λ (p : PairView). current_file p) same in
    goes_both (IsCommitStep (current_file pair) (current_header pair)) old mid new goes
    (goes_synced ok (current_file pair) (current_header pair) mid new (subst (λ (f : File). SyncsFile ok f mid new) file seals.step))

-- a commit that was done ends with that sync
pub ends_synced : {T E : Type 0} (result : Result T E) (pair later sealed : PairView) (old mid new : Option History) → later ≡ with_appended pair later
    → GoesBy (IsCommitStep (current_file pair) (current_header pair)) old mid → SealsFrames (is_ok result) later sealed mid new
    → OnOk result ((near : Option History) × (new ≡ after (Synced (current_file pair)) near) × GoesBy (IsCommitStep (current_file pair) (current_header pair)) old near)
ends_synced (Ok done) pair later sealed old mid new same goes seals =
    (mid, subst (λ (f : File). SyncsFile true f mid new) (ap (λ (p : PairView). current_file p) same) seals.step, goes)
ends_synced (Err failed) pair later sealed old mid new same goes seals = tt

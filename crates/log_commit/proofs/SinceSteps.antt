-- What holds since an opening, by the steps that a disk has gone on by.
use Rattle.std.proofs.Common.{◌≡◌, ◌∙◌, false, List, [], ◌∷◌, ◌++◌, refl, sym, ap, subst, Option, Some, None}
use Rattle.std.specs.Prelude.{All}
use Rattle.std.proofs.lemmas.List.{append_assoc}
use Rattle.std.proofs.lemmas.List.Elements.{All-head, All-tail, All-weaker}
use Rattle.disk_face.specs.declared.disk.File.{File}
use Rattle.disk_face.specs.declared.step.Step.{Step}
use Rattle.disk_face.specs.declared.step.Step.TheVariants.{Wrote, Refused, Synced}
use Rattle.disk_face.specs.Files.{content}
use Rattle.disk_face.specs.Image.{same_file}
use Rattle.disk_face.specs.Steps.{History, reads, after, further}
use Rattle.log_spec.specs.LogHeader.{LogFields}
use Rattle.crash_spec.specs.Elsewhere.{IsElsewhere}
use Rattle.crash_spec.specs.Logs.{IsWhole}
use Rattle.crash_spec.specs.Opening.{Opening, Since, grown, rebased}
use Rattle.crash_spec.proofs.Elsewhere.{content_elsewhere, whole_elsewhere, whole_synced}
use Rattle.crash_spec.proofs.Since.{since_is_one, since_step}
use Rattle.log_commit.specs.GoesBy.{GoesBy}
use Rattle.log_commit.specs.Commit.{IsCommitStep}

-- what any such steps lead to, from what held before them
pub since_goes : (start : History) (P Q : History → Type 0) (S : Step → Type 0) (old new : Option History) → GoesBy S old new
    → ((told : History) (more : List Step) → All S more → P told → Q (grown more told)) → Since start P old → Since start Q new
since_goes start P Q S None new is law h = subst (Since start Q) (sym is) tt
since_goes start P Q S (Some old) new (more, all, is) law (since, grew, holds) =
    subst (Since start Q) (sym is) (
      more ++ since,
      ap (grown more) grew ∙ ap (λ (steps : List Step). record { first = start.first; steps = steps }) (sym (append_assoc more since start.steps)),
      law (rebased start since) more all holds,
    )

-- what one step leads to
pub since_after : (start : History) (P Q : History → Type 0) (step : Step) (old new : Option History) → new ≡ after step old
    → ((told : History) → P told → Q (further step told)) → Since start P old → Since start Q new
since_after start P Q step None new is law h = subst (Since start Q) (sym is) tt
since_after start P Q step (Some old) new is law (since, grew, holds) =
    subst (Since start Q) (sym is) (step ∷ since, since_step start since step old grew, law (rebased start since) holds)

-- two facts of one moment
pub since_both : (start : History) (P Q : History → Type 0) (told : Option History) → Since start P told → Since start Q told → Since start (λ told. P told × Q told) told
since_both start P Q None one two = tt
since_both start P Q (Some told) (since, is, p) (steps, same, q) =
    (since, is, (p, subst (λ (xs : List Step). Q (rebased start xs)) (since_is_one start steps since (sym same ∙ is)) q))

-- a step of a commit to one log is elsewhere to any other file
pub commit_elsewhere : (file other : File) (header : LogFields) (step : Step) → same_file file other ≡ false → IsCommitStep file header step → IsElsewhere other step
commit_elsewhere file other header (Wrote piece) apart (is, far, salts) = ap (λ (f : File). same_file f other) is ∙ apart
commit_elsewhere file other header (Refused piece left) apart (is, far, salts, within) = ap (λ (f : File). same_file f other) is ∙ apart
commit_elsewhere file other header (Synced synced) apart is = tt

pub commits_elsewhere : (file other : File) (header : LogFields) (more : List Step) → same_file file other ≡ false → All (IsCommitStep file header) more
    → All (IsElsewhere other) more
commits_elsewhere file other header more apart all =
    All-weaker (IsCommitStep file header) (IsElsewhere other) (λ step is. commit_elsewhere file other header step apart is) more all

-- a file to which such steps write nothing holds what it held
pub content_goes : (file : File) (told : History) (more : List Step) → All (IsElsewhere file) more → content (reads (grown more told)) file ≡ content (reads told) file
content_goes file told [] apart = refl
content_goes file told (step ∷ more) apart =
    content_elsewhere file step (grown more told) (All-head (IsElsewhere file) step more apart)
    ∙ content_goes file told more (All-tail (IsElsewhere file) step more apart)

-- and of one of which all is on the medium all goes on to be on the medium
pub whole_goes : (opening : Opening) (file : File) (told : History) (more : List Step) → All (IsElsewhere file) more → IsWhole opening told file
    → IsWhole opening (grown more told) file
whole_goes opening file told [] apart whole = whole
whole_goes opening file told (step ∷ more) apart whole =
    whole_elsewhere opening file step (grown more told) (All-head (IsElsewhere file) step more apart)
    (whole_goes opening file told more (All-tail (IsElsewhere file) step more apart) whole)

-- after steps that end by a sync of a file all of it is on the medium
pub whole_since : (opening : Opening) (P : History → Type 0) (S : Step → Type 0) (file : File) (old mid new : Option History) → new ≡ after (Synced file) mid
    → GoesBy S old mid → Since opening.start P old → Since opening.start (λ told. IsWhole opening told file) new
whole_since opening P S file old mid new is goes h =
    since_after opening.start (λ told. Unit {0}) (λ told. IsWhole opening told file) (Synced file) mid new is (λ told any. whole_synced opening file told)
    (since_goes opening.start P (λ told. Unit {0}) S old mid goes (λ told more all holds. tt) h)

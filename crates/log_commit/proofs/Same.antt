-- What the calls on one file leave of the others.
use Rattle.std.proofs.Common.{◌≡◌, ◌∙◌, ℕ, ap, Bool, true, false, refl, sym, subst, inl, inr, Option, Some, None}
use Rattle.disk_face.specs.declared.disk.File.{File}
use Rattle.disk_face.specs.declared.step.Piece.{Piece}
use Rattle.disk_face.specs.declared.step.Step.{Step}
use Rattle.disk_face.specs.declared.step.Step.TheVariants.{Wrote, Refused, Synced}
use Rattle.disk_face.specs.Steps.{History, after, further}
use Rattle.disk_face.specs.Image.{same_file}
use Rattle.crash_spec.specs.Elsewhere.{IsElsewhere}
use Rattle.crash_spec.proofs.Elsewhere.{content_elsewhere}
use Rattle.engine_spec.specs.declared.commits.PageImage.{PageImage}
use Rattle.log_pair.specs.Pair.{PairView, current_file, next_piece}
use Rattle.log_pair.specs.Appending.{WritesPiece, SyncsFile, SealsFrames}
use Rattle.log_commit.specs.Commit.{SameElsewhere, with_appended}
use Rattle.log_commit.specs.Appended.{AppendsImage}

pub same_refl : (file : File) (old : Option History) → SameElsewhere file old old
same_refl file None = refl
same_refl file (Some old) = (old, refl, λ other apart. refl)

same_is : (file : File) (old new : Option History) → new ≡ old → SameElsewhere file old new
same_is file old new is = subst (SameElsewhere file old) (sym is) (same_refl file old)

same_step : (file : File) (step : Step) (old new : Option History) → new ≡ after step old
    → ((other : File) → same_file file other ≡ false → IsElsewhere other step) → SameElsewhere file old new
same_step file step None new is apart = is
same_step file step (Some old) new is apart = (further step old, is, λ other differ. content_elsewhere other step old (apart other differ))

-- a write of a piece, by its answer
pub same_written : (ok : Bool) (piece : Piece) (old new : Option History) → WritesPiece ok piece old new → SameElsewhere piece.file old new
same_written true piece old new wrote = same_step piece.file (Wrote piece) old new wrote (λ other differ. differ)
same_written false piece old new (inl same) = same_is piece.file old new same
same_written false piece old new (inr (left, within, same)) = same_step piece.file (Refused piece left) old new same (λ other differ. differ)

-- a sync
pub same_synced : (ok : Bool) (file synced : File) (old new : Option History) → SyncsFile ok synced old new → SameElsewhere file old new
same_synced true file synced old new is = same_step file (Synced synced) old new is (λ other differ. tt)
same_synced false file synced old new is = same_is file old new is

-- two calls
pub same_join : (file : File) (old mid new : Option History) → SameElsewhere file old mid → SameElsewhere file mid new → SameElsewhere file old new
same_join file None mid new one two = go mid new one two
  where
    go : (mid new : Option History) → mid ≡ None → SameElsewhere file mid new → new ≡ None
    go None new is two = two
    go (Some told) new is two = absurd cc
same_join file (Some old) mid new one two =
    let second = subst (λ (told : Option History). SameElsewhere file told new) one.1 two in
    (second.0, second.1, λ other apart. second.2 other apart ∙ one.2 other apart)

-- one more append, after others
pub same_more : (ok : Bool) (pair mid_pair later : PairView) (image : PageImage) (size : ℕ) (old mid new : Option History) → mid_pair ≡ with_appended pair mid_pair
    → SameElsewhere (current_file pair) old mid → AppendsImage ok mid_pair later image size mid new → SameElsewhere (current_file pair) old new
same_more ok pair mid_pair later image size old mid new is same (frame, appends) =
    same_join (current_file pair) old mid new same
    (subst (λ (f : File). SameElsewhere f mid new) (ap (λ (p : PairView). current_file p) is) (same_written ok (next_piece mid_pair frame) mid new appends.step))

-- and the seal of all of them
pub same_sealed : (ok : Bool) (pair later sealed : PairView) (old mid new : Option History) → later ≡ with_appended pair later
    → SameElsewhere (current_file pair) old mid → SealsFrames ok later sealed mid new → SameElsewhere (current_file pair) old new
same_sealed ok pair later sealed old mid new is same seals =
    same_join (current_file pair) old mid new same (same_synced ok (current_file pair) (current_file later) mid new seals.step)

-- What the logs hold was written to Main: a log may get its new header.
use Rattle.std.proofs.Common.{◌≡◌, ◌+◌, ◌∙◌, inl, inr, List, length, Option, Some, None, refl}
use Rattle.disk_face.specs.Files.{Files}
use Rattle.std.specs.Prelude.{IfSome}
use Rattle.disk_face.specs.declared.disk.File.{File}
use Rattle.disk_face.specs.Steps.{History, reads}
use Rattle.crash_spec.specs.Passes.{Passes}
use Rattle.opening_spec.specs.Found.{OpeningView, FoundLog, IsFirst, newer_in}
use Rattle.opening_spec.specs.States.{IsLaidDown, IsResetting, LeavesMap}
use Rattle.opening_spec.proofs.Settling.{begins_resetting}
use Rattle.recover.specs.declared.place.Place.{Place}
use Rattle.recover.specs.Places.{AreSeen, OnlyMain}

-- which log is first goes by the logs alone
pub first_still : (log : File) (one two : FoundLog) (old new : Option History) → OnlyMain old new → IfSome old (λ told. IsFirst (reads told) log one two) → IfSome new (λ told. IsFirst (reads told) log one two)
first_still log one two None None only is = tt
first_still log one two None (Some new) only is = absurd only
first_still log one two (Some old) None only is = absurd only
first_still log one two (Some old) (Some new) (is1, is2, longer) is = record {
  is_log = is.is_log;
  below = elim is.below [
    | inl none ↦ inl none
    | inr newer ↦ inr (newer ∙ same_newer (reads old) (reads new) is1 is2)
  ];
}
  where
    same_newer : (old new : Files) → new.log1 ≡ old.log1 → new.log2 ≡ old.log2 → newer_in old one two ≡ newer_in new one two
    same_newer old new is1 is2 = rw (is1, is2) refl

pub laid_resetting : (view : OpeningView) (one two : FoundLog) (first : File) (places : List Place) (old new : Option History) → IfSome old (λ told. AreSeen view one two places (reads told))
    → IfSome old (λ told. IsFirst (reads told) first one two) → OnlyMain old new
    → Passes view.opening (LeavesMap view) (IsLaidDown view one two (length view.map + 1)) old new → Passes view.opening (LeavesMap view) (IsResetting view first one two None) old new
laid_resetting view one two first places None None seen is only passes = record { each_moment = tt; holds = tt }
laid_resetting view one two first places None (Some new) seen is only passes = absurd only
laid_resetting view one two first places (Some old) None seen is only passes = absurd only
laid_resetting view one two first places (Some old) (Some new) seen is only passes = record {
  each_moment = passes.each_moment;
  holds = begins_resetting view first one two (Some new) seen.some seen.names (first_still first one two (Some old) (Some new) only is) passes.holds;
}

-- A disk's steps, and what reads give after them. Lists of steps have the newest first.
use Rattle.std.specs.Prelude.{List, [], ◌∷◌, Option, Some, None}
use Rattle.disk_face.specs.declared.step.Step.{Step}
use Rattle.disk_face.specs.declared.step.Step.TheVariants.{Wrote, Refused, Synced}
use Rattle.disk_face.specs.Files.{Files, put}

-- what a disk held at first, and its steps since then
pub record History : Type 0 where
  pub first : Files
  pub steps : List Step

-- what reads give: a write that was refused has left in its range what it has left there
abbrev pub now : Files → List Step → Files
now first [] = first
now first (Wrote piece ∷ steps) = put piece.file piece.at piece.bytes (now first steps)
now first (Refused piece left ∷ steps) = put piece.file piece.at left (now first steps)
now first (Synced file ∷ steps) = now first steps

-- what reads give, for a disk that tells
abbrev pub reads : History → Files
reads told = now told.first told.steps

-- one step more
abbrev pub further : Step → History → History
further step told = record { first = told.first; steps = step ∷ told.steps }

-- one step more, for a disk that tells
abbrev pub after : Step → Option History → Option History
after step None = None
after step (Some told) = Some (further step told)

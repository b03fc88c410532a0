-- What entering a commit into the index does.
use Rattle.std.specs.Prelude.{◌≡◌, ℕ, ◌+◌, ◌<◌, ◌≤◌, Bool, if◌then◌else◌, List, [], ◌∷◌, ◌++◌, length, slice_index}
use Rattle.wal_index.specs.Index.{Indexed, IndexedLog, log_in, SameOther}

-- the commits of a log end inside its frames
abbrev pub EndWithin : IndexedLog → Type 0
EndWithin log = (place : ℕ) → place < length log.ends → slice_index log.ends place ≤ length log.pages

-- a log has these pages more in its last frames, and nothing else changed but its room
pub record HasAdded (old : IndexedLog) (pages : List ℕ) (new : IndexedLog) : Type 0 where
  pub frames : new.pages ≡ old.pages ++ pages
  pub numbers : new.numbers ≡ old.numbers
  pub ends : new.ends ≡ old.ends
  pub tails : new.tails ≡ old.tails
  pub room : old.room ≤ new.room + length pages
  pub seals : old.seals ≤ new.seals

-- A log has one commit more, with these pages and this number; the other log stays.
pub record HasEntered (old : Indexed) (log : ℕ) (pages : List ℕ) (number : ℕ) (tail : Bool) (new : Indexed) : Type 0 where
  pub frames : (log_in new log).pages ≡ (log_in old log).pages ++ pages
  pub numbers : (log_in new log).numbers ≡ (log_in old log).numbers ++ number ∷ []
  pub ends : (log_in new log).ends ≡ (log_in old log).ends ++ length ((log_in old log).pages ++ pages) ∷ []
  pub tails : (log_in new log).tails ≡ (if tail then (log_in old log).tails ++ number ∷ [] else (log_in old log).tails)
  pub other : SameOther old log new

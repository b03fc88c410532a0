-- What the index of two logs holds, and what its calls do.
use Rattle.std.specs.Prelude.{◌≡◌, ℕ, ◌+◌, ◌<◌, ◌≤◌, ◌==◌, ◌&&◌, ◌⊎◌, not, Bool, true, false, if◌then◌else◌, List, [], ◌∷◌, ◌++◌, length, slice_index, Option, MatchOption, Contains}
use Rattle.wal_index.specs.Frames.{IsFrameOf}
use Rattle.wal_index.specs.Commits.{HasFrame}

-- One log: the page of each of its frames; its commits by number, with how many frames the log has up to the last one of each, and the numbers of
-- those that changed page 1 from byte 100 on; and how many frames and commits more it has room for. Frames behind the last commit are of one that is
-- under way.
pub record IndexedLog : Type 0 where
  pub pages : List ℕ
  pub numbers : List ℕ
  pub ends : List ℕ
  pub tails : List ℕ
  pub room : ℕ
  pub seals : ℕ

-- Both logs, and the one to which the last frame was added.
pub record Indexed : Type 0 where
  pub log1 : IndexedLog
  pub log2 : IndexedLog
  pub last : ℕ

-- the log with this number
abbrev pub log_in : Indexed → ℕ → IndexedLog
log_in index log = if log == 1 then index.log1 else index.log2

-- the other log stays
abbrev pub SameOther : Indexed → ℕ → Indexed → Type 0
SameOther old log new = OtherStays (log == 1) old new
  where
    OtherStays : Bool → Indexed → Indexed → Type 0
    OtherStays true old new = new.log2 ≡ old.log2
    OtherStays false old new = new.log1 ≡ old.log1

-- a log has one frame more, and room for one fewer at most
pub record AddsFrame (old : IndexedLog) (page : ℕ) (new : IndexedLog) : Type 0 where
  pub pages : new.pages ≡ old.pages ++ page ∷ []
  pub numbers : new.numbers ≡ old.numbers
  pub ends : new.ends ≡ old.ends
  pub tails : new.tails ≡ old.tails
  pub room : old.room ≤ new.room + 1
  pub seals : old.seals ≤ new.seals

-- the frames of a log that weren't of a commit are the next one
pub record Seals (old : IndexedLog) (number : ℕ) (tail : Bool) (new : IndexedLog) : Type 0 where
  pub pages : new.pages ≡ old.pages
  pub numbers : new.numbers ≡ old.numbers ++ number ∷ []
  pub ends : new.ends ≡ old.ends ++ length old.pages ∷ []
  pub tails : new.tails ≡ (if tail then old.tails ++ number ∷ [] else old.tails)
  pub room : old.room ≤ new.room

-- the log has room for so many frames and a commit, and holds what it held
pub record HasRoom (old : IndexedLog) (frames : ℕ) (new : IndexedLog) : Type 0 where
  pub room : frames ≤ new.room
  pub seals : 1 ≤ new.seals

pub record SameLog (old new : IndexedLog) : Type 0 where
  pub pages : new.pages ≡ old.pages
  pub numbers : new.numbers ≡ old.numbers
  pub ends : new.ends ≡ old.ends
  pub tails : new.tails ≡ old.tails
  pub room : old.room ≤ new.room
  pub seals : old.seals ≤ new.seals

-- the log has no frames and no commits, and all its room
pub record IsCleared (old new : IndexedLog) : Type 0 where
  pub pages : new.pages ≡ []
  pub numbers : new.numbers ≡ []
  pub ends : new.ends ≡ []
  pub tails : new.tails ≡ []
  pub room : old.room ≤ new.room
  pub seals : old.seals ≤ new.seals

-- a commit of the log, above a number
abbrev pub IsAbove : List ℕ → ℕ → Type 0
IsAbove numbers number = (place : ℕ) → place < length numbers → slice_index numbers place < number

-- the frames behind the last commit begin here
abbrev pub HasOpenFrames : IndexedLog → Type 0
HasOpenFrames log = (place : ℕ) → place < length log.ends → slice_index log.ends place < length log.pages

-- A commit of the log counts as having written a page: one of its frames is of the page. Of page 1, unless it counts as a whole, a commit has to have
-- changed it from byte 100 on.
abbrev pub by_tail : ℕ → Bool → Bool
by_tail page whole = (page == 1) && not whole

pub record HasWritten (log : IndexedLog) (page number : ℕ) : Type 0 where
  pub frame : ℕ
  pub is : IsFrameOf log.pages page frame
  pub has : HasFrame log.numbers log.ends frame number

abbrev pub Wrote : Bool → IndexedLog → ℕ → ℕ → Type 0
Wrote true log page number = Contains log.tails number
Wrote false log page number = HasWritten log page number

-- the first commit of a log above a number that counts as having written the page
pub record IsFirstWriter (tail : Bool) (log : IndexedLog) (n page number : ℕ) : Type 0 where
  pub wrote : Wrote tail log page number
  pub above : n < number
  pub first : (other : ℕ) → Wrote tail log page other → n < other → number ≤ other

abbrev pub FirstWriter : Bool → IndexedLog → ℕ → ℕ → Option ℕ → Type 0
FirstWriter tail log n page found = MatchOption found ((other : ℕ) → Wrote tail log page other → other ≤ n) (IsFirstWriter tail log n page)

-- the first commit of both logs
pub record IsFirstWriterOfBoth (tail : Bool) (index : Indexed) (n page number : ℕ) : Type 0 where
  pub wrote : Wrote tail index.log1 page number ⊎ Wrote tail index.log2 page number
  pub above : n < number
  pub first1 : (other : ℕ) → Wrote tail index.log1 page other → n < other → number ≤ other
  pub first2 : (other : ℕ) → Wrote tail index.log2 page other → n < other → number ≤ other

abbrev pub FirstWriterOfBoth : Bool → Indexed → ℕ → ℕ → Option ℕ → Type 0
FirstWriterOfBoth tail index n page found = MatchOption found
    ((other : ℕ) → Wrote tail index.log1 page other ⊎ Wrote tail index.log2 page other → other ≤ n) (IsFirstWriterOfBoth tail index n page)

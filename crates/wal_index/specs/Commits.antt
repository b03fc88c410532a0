-- The commits of a log, whose frames stand behind one another.
use Rattle.std.specs.Prelude.{◌≡◌, ℕ, zero, suc, ◌<◌, ◌≤◌, List, length, slice_index, Option, MatchOption, Contains}

-- The commits of a log as callers see them: their numbers, in order; for each how many frames the log has up to its last one; the numbers of those
-- that changed page 1 from byte 100 on; and how many commits more it has room for.
pub record CommitList : Type 0 where
  pub numbers : List ℕ
  pub ends : List ℕ
  pub tails : List ℕ
  pub room : ℕ

-- how many frames stand before the first of the commit at this place
abbrev pub start_of : List ℕ → ℕ → ℕ
start_of ends zero = 0
start_of ends (suc place) = slice_index ends place

-- the commit with this number has the frame
pub record HasFrame (numbers ends : List ℕ) (frame number : ℕ) : Type 0 where
  pub place : ℕ
  pub there : place < length numbers
  pub number_is : slice_index numbers place ≡ number
  pub from : start_of ends place < frame
  pub to : frame ≤ slice_index ends place

-- Numbers and ends rise, and each commit has an end.
pub record AreCommits (numbers ends tails : List ℕ) : Type 0 where
  pub count : length ends ≡ length numbers
  pub numbers_rise : (one other : ℕ) → one < other → other < length numbers → slice_index numbers one < slice_index numbers other
  pub ends_rise : (one other : ℕ) → one < other → other < length ends → slice_index ends one < slice_index ends other
  pub some_frame : (place : ℕ) → place < length ends → 0 < slice_index ends place
  pub tails_among : (place : ℕ) → place < length tails → Contains numbers (slice_index tails place)
  pub tails_rise : (one other : ℕ) → one < other → other < length tails → slice_index tails one < slice_index tails other

-- how many of some rising numbers are at most this one: those below the answer
pub record IsCountUpTo (numbers : List ℕ) (most count : ℕ) : Type 0 where
  pub few : count ≤ length numbers
  pub below : (place : ℕ) → place < count → slice_index numbers place ≤ most
  pub above : (place : ℕ) → count ≤ place → place < length numbers → most < slice_index numbers place

-- the least of some numbers above this one
pub record IsFirstAbove (numbers : List ℕ) (n number : ℕ) : Type 0 where
  pub there : Contains numbers number
  pub above : n < number
  pub first : (other : ℕ) → Contains numbers other → n < other → number ≤ other

abbrev pub FirstAbove : List ℕ → ℕ → Option ℕ → Type 0
FirstAbove numbers n found = MatchOption found ((other : ℕ) → Contains numbers other → other ≤ n) (IsFirstAbove numbers n)

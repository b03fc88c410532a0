-- What the frames of a log are of. Frames are numbered from 1.
use Rattle.std.specs.Prelude.{◌≡◌, ℕ, ◌-◌, ◌<◌, ◌≤◌, List, length, slice_index, Option, MatchOption, Contains}

-- the frame with this number is of the page
pub record IsFrameOf (pages : List ℕ) (page frame : ℕ) : Type 0 where
  pub counted : 1 ≤ frame
  pub there : frame ≤ length pages
  pub page_is : slice_index pages (frame - 1) ≡ page

-- the last frame of the page with a number of at most the mark
pub record IsLastFrame (pages : List ℕ) (page mark frame : ℕ) : Type 0 where
  pub is : IsFrameOf pages page frame
  pub marked : frame ≤ mark
  pub last : (other : ℕ) → other ≤ mark → IsFrameOf pages page other → other ≤ frame

-- such a frame, or none where no frame up to the mark is of the page
abbrev pub FindsLast : List ℕ → ℕ → ℕ → Option ℕ → Type 0
FindsLast pages page mark found = MatchOption found ((other : ℕ) → other ≤ mark → IsFrameOf pages page other → ⊥) (IsLastFrame pages page mark)

-- the first frame of the page with a number above this one
pub record IsFirstFrame (pages : List ℕ) (page after frame : ℕ) : Type 0 where
  pub is : IsFrameOf pages page frame
  pub later : after < frame
  pub first : (other : ℕ) → after < other → IsFrameOf pages page other → frame ≤ other

abbrev pub FindsFirst : List ℕ → ℕ → ℕ → Option ℕ → Type 0
FindsFirst pages page after found = MatchOption found ((other : ℕ) → after < other → IsFrameOf pages page other → ⊥) (IsFirstFrame pages page after)

-- the least page above this one that a frame is of
pub record IsNextPage (pages : List ℕ) (after page : ℕ) : Type 0 where
  pub there : Contains pages page
  pub above : after < page
  pub least : (other : ℕ) → Contains pages other → after < other → page ≤ other

abbrev pub FindsNext : List ℕ → ℕ → Option ℕ → Type 0
FindsNext pages after found = MatchOption found ((other : ℕ) → Contains pages other → other ≤ after) (IsNextPage pages after)

-- a list of frames as callers see it: the page of each frame, and how many frames more it has room for
pub record FrameList : Type 0 where
  pub pages : List ℕ
  pub room : ℕ

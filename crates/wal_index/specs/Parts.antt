-- What is found in one part of a log's frames. Places are counted from 0 over the whole log.
use Rattle.std.specs.Prelude.{◌≡◌, ℕ, ◌+◌, ◌<◌, ◌≤◌, min, List, length, slice_index, Option, None, Some, MatchOption}

-- the place is one of the part that starts here, and a frame of the page stands there
pub record StandsIn (pages : List ℕ) (start page place : ℕ) : Type 0 where
  pub from : start ≤ place
  pub to : place < start + 4096
  pub there : place < length pages
  pub page_is : slice_index pages place ≡ page

-- the last place of the page in the part, below a limit
pub record IsLastIn (pages : List ℕ) (start page limit place : ℕ) : Type 0 where
  pub stands : StandsIn pages start page place
  pub below : place < limit
  pub last : (other : ℕ) → StandsIn pages start page other → other < limit → other ≤ place

abbrev pub LastIn : List ℕ → ℕ → ℕ → ℕ → Option ℕ → Type 0
LastIn pages start page limit found = MatchOption found ((other : ℕ) → StandsIn pages start page other → other < limit → ⊥) (IsLastIn pages start page limit)

-- the first place of the page in the part, from this one on
pub record IsFirstIn (pages : List ℕ) (start page from place : ℕ) : Type 0 where
  pub stands : StandsIn pages start page place
  pub later : from ≤ place
  pub first : (other : ℕ) → StandsIn pages start page other → from ≤ other → place ≤ other

abbrev pub FirstIn : List ℕ → ℕ → ℕ → ℕ → Option ℕ → Type 0
FirstIn pages start page from found = MatchOption found ((other : ℕ) → StandsIn pages start page other → from ≤ other → ⊥) (IsFirstIn pages start page from)

-- the least page in the part above this one
pub record IsNextIn (pages : List ℕ) (start after page : ℕ) : Type 0 where
  pub place : ℕ
  pub stands : StandsIn pages start page place
  pub above : after < page
  pub least : (other at : ℕ) → StandsIn pages start other at → after < other → page ≤ other

abbrev pub NextIn : List ℕ → ℕ → ℕ → Option ℕ → Type 0
NextIn pages start after found = MatchOption found ((other at : ℕ) → StandsIn pages start other at → other ≤ after) (IsNextIn pages start after)

-- the lesser of two pages, where there are two
abbrev pub lesser_of : Option ℕ → Option ℕ → Option ℕ
lesser_of None other = other
lesser_of (Some page) None = Some page
lesser_of (Some page) (Some next) = Some (min page next)

-- the least page above this one that stands below a place, where there is one
pub record IsLeastBelow (pages : List ℕ) (below after page : ℕ) : Type 0 where
  pub place : ℕ
  pub inside : place < below
  pub there : place < length pages
  pub page_is : slice_index pages place ≡ page
  pub above : after < page
  pub least : (other : ℕ) → other < below → other < length pages → after < slice_index pages other → page ≤ slice_index pages other

abbrev pub LeastBelow : List ℕ → ℕ → ℕ → Option ℕ → Type 0
LeastBelow pages below after found = MatchOption found ((other : ℕ) → other < below → other < length pages → slice_index pages other ≤ after) (IsLeastBelow pages below after)

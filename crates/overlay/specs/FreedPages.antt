-- Sets of pages that were given up, as they are and as they were at a mark.
use Rattle.std.specs.Prelude.{ℕ, ◌==◌, if◌then◌else◌, List, [], ◌∷◌}

-- the set without this page
abbrev pub without_page : List ℕ → ℕ → List ℕ
without_page [] page = []
without_page (first ∷ pages) page = if page == first then pages else first ∷ without_page pages page

-- the set with the pages taken out that were added one after another
abbrev pub taken_back : List ℕ → List ℕ → List ℕ
taken_back set [] = set
taken_back set (page ∷ pages) = without_page (taken_back set pages) page

-- a set of pages as it is, and as it was at a mark
pub record TwoSets : Type 0 where
  pub now : List ℕ
  pub marked : List ℕ

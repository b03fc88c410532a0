-- What a transaction hands in to be committed, the commit that it becomes, and the pages that this writes.
use Rattle.std.specs.Prelude.{◌≡◌, ◌↔◌, ℕ, zero, suc, ◌+◌, Bool, List, [], ◌∷◌, ◌++◌, length, map, Contains, Option, IfSome}
use Rattle.std.specs.List.Sorted.{IsStrictlyIncreasing}
use Rattle.page_spec.specs.PageMap.{PageMap}
use Rattle.engine_spec.specs.declared.commits.Commit.{Commit}
use Rattle.engine_spec.specs.Change.{Change, new_pages}
use Rattle.engine_spec.specs.PageSet.{with_pages}

-- What a transaction hands in: its snapshot, the pages that it read, its change, the texts of its accepted statements, whether it
-- wrote, and whose it is.
pub record Submitted : Type 0 where
  pub snap : ℕ
  pub reads : List ℕ
  pub change : Change
  pub said : List (List ℕ)
  pub wrote : Bool
  pub session : ℕ
  pub ordinal : ℕ

-- the commit that the transaction becomes, which wrote these pages
abbrev pub commit_of : Submitted → List ℕ → Commit
commit_of asked pages = record {
  entry = record { session = asked.session; ordinal = asked.ordinal; snap = asked.snap; statements = asked.said };
  wrote = pages;
  tail = asked.change.tail;
}

-- the pages that a commit writes that makes and frees no page: page 1 and the changed ones, in rising order
abbrev pub written : Change → List ℕ
written change = with_pages (1 ∷ []) (map (λ image. image.page) change.changed)

-- so many numbers, from this one on
abbrev pub numbers_from : ℕ → ℕ → List ℕ
numbers_from number zero = []
numbers_from number (suc count) = number ∷ numbers_from (number + 1) count

-- The trunks of the freelist that laying the change on a map changes or makes. No page is freed yet, so there are none; what freeing
-- writes joins here.
abbrev pub trunks : PageMap → Change → List ℕ
trunks pages change = []

-- page 1, whose header fields every commit sets, the changed pages, the new ones, which follow the last page, and some trunks
abbrev pub pages_with : ℕ → Change → List ℕ → List ℕ
pages_with size change trunk_pages =
    1 ∷ (map (λ image. image.page) change.changed ++ (numbers_from (size + 1) (length (new_pages change)) ++ trunk_pages))

-- The pages that a commit of this change writes on a map of so many pages, in rising order: page 1, the changed pages, the new ones,
-- and the trunks that the map decides. A commit that makes and frees no page writes no trunk of its own.
pub record Writes (newest : Option PageMap) (size : ℕ) (change : Change) (pages : List ℕ) : Type 0 where
  pub rising : IsStrictlyIncreasing pages
  pub trunk_pages : List ℕ
  pub are_trunks : IfSome newest (λ map. trunk_pages ≡ trunks map change)
  pub none : change.fresh ≡ [] → change.freed ≡ [] → trunk_pages ≡ []
  pub same : (page : ℕ) → Contains pages page ↔ Contains (pages_with size change trunk_pages) page

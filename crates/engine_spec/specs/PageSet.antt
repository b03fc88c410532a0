-- Sets of page numbers, as lists in rising order.
use Rattle.std.specs.Prelude.{◌≢◌, ℕ, ◌<◌, ◌==◌, if◌then◌else◌, nat_lt, List, [], ◌∷◌, length, slice_index}

-- the set with this page in it
abbrev pub with_page : List ℕ → ℕ → List ℕ
with_page [] page = page ∷ []
with_page (first ∷ pages) page =
    if page == first then first ∷ pages else (if nat_lt page first then page ∷ first ∷ pages else first ∷ with_page pages page)

-- the set with each of these pages in it
abbrev pub with_pages : List ℕ → List ℕ → List ℕ
with_pages set [] = set
with_pages set (page ∷ pages) = with_pages (with_page set page) pages

-- no number stands twice
abbrev pub AreDifferent : List ℕ → Type 0
AreDifferent numbers = (i j : ℕ) → i < j → j < length numbers → slice_index numbers i ≢ slice_index numbers j

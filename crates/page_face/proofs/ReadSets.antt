-- What a search of a set of pages finds.
use Rattle.std.proofs.Common.{◌≡◌, ◌∙◌, ℕ, ◌<◌, zero, suc, List, [], ◌∷◌, length, get_or, eqb, false, Result, Ok, Err, refl, sym, subst, inl, inr, arith}
use Rattle.std.specs.Prelude.{is_ok}
use Rattle.std.proofs.lemmas.Bool.{ne_eqb, cases_lt}
use Rattle.std.proofs.lemmas.List.{get_or_default}
use Rattle.std.specs.List.{insert, list_any}
use Rattle.std.specs.List.Sorted.{IsStrictlyIncreasing, IsBinarySearchResult}
use Rattle.std.specs.Ordering.{nat_cmp}
use Rattle.std.proofs.lemmas.List.Sorted.{searched}
use Rattle.engine_spec.specs.PageSet.{with_page}
use Rattle.engine_spec.proofs.PageSets.{rises_far, with_rises, with_there, with_new}
use Rattle.engine_spec.proofs.Laying.{any_there}

-- a page that is found is in the set already
pub found : (pages : List ℕ) (page at : ℕ) → IsStrictlyIncreasing pages
    → IsBinarySearchResult (λ y. nat_cmp y page) pages (Ok at) → at < length pages → pages ≡ with_page pages page
found pages page at rises answer within =
    let there = searched pages page (Ok at) answer (rises_far pages rises) in
    sym (with_there pages page at rises within there.1)

-- a page that isn't found goes where the search says
pub missed : (pages : List ℕ) (page at : ℕ) → IsStrictlyIncreasing pages
    → IsBinarySearchResult (λ y. nat_cmp y page) pages (Err at) → insert pages at page ≡ with_page pages page
missed pages page at rises answer =
    let place = searched pages page (Err at) answer (rises_far pages rises) in
    sym (with_new pages page at place.0 place.1 place.2)

-- and the set rises with it
pub missed_rises : (pages : List ℕ) (page at : ℕ) → IsStrictlyIncreasing pages
    → IsBinarySearchResult (λ y. nat_cmp y page) pages (Err at) → IsStrictlyIncreasing (insert pages at page)
missed_rises pages page at rises answer =
    subst IsStrictlyIncreasing (sym (missed pages page at rises answer)) (with_rises pages page rises)

-- a list hasn't what none of its elements is
any_absent : (xs : List ℕ) (q : ℕ) → ((k : ℕ) → k < length xs → get_or xs k 0 ≡ q → ⊥) → list_any (λ p. eqb p q) xs ≡ false
any_absent [] q apart = refl
any_absent (x ∷ xs) q apart =
    rw (ne_eqb x q (apart zero (omega arith))) (any_absent xs q (λ k within. apart (suc k) (omega arith)))

-- whether a search finds a page is whether the set has it
pub searched_has : (pages : List ℕ) (page : ℕ) (answer : Result ℕ ℕ) → IsStrictlyIncreasing pages
    → IsBinarySearchResult (λ y. nat_cmp y page) pages answer → is_ok answer ≡ list_any (λ p. eqb p page) pages
searched_has pages page (Ok at) rises answer =
    let there = searched pages page (Ok at) answer (rises_far pages rises) in
    sym (any_there pages page (at, there.0, get_or_default pages at page 0 there.0 ∙ there.1))
searched_has pages page (Err at) rises answer =
    let place = searched pages page (Err at) answer (rises_far pages rises) in
    sym (any_absent pages page (λ k within same. elim (cases_lt k at) [
      | inl before ↦ (let below = place.1 k before in omega arith)
      | inr behind ↦ (let above = place.2 k behind within in omega arith)
    ]))

-- What the pages in memory of the tests rest on.
use Rattle.std.proofs.Common.{◌≡◌, ℕ, ◌≤◌, List, [], ◌∷◌, ◌++◌, length, Result, Ok, Err, zero, suc, refl, sym, subst, inl, inr, arith}
use Rattle.std.specs.Prelude.{All, Contains, OnOk, OnErr, ◌⊎◌}
use Rattle.std.proofs.lemmas.List.{get_or_append_left}
use Rattle.std.proofs.lemmas.List.Elements.{All-contains_itself, All-weaker, All-contains}
use Rattle.page_spec.specs.PageMap.{PageMap, page_at}
use Rattle.engine_spec.specs.PageSet.{with_page}
use Rattle.engine_spec.proofs.PageSets.{with_cases}

-- a bound on a set's pages holds with one page more that meets it
pub bounded_with : (pages : List ℕ) (page n : ℕ) → page ≤ n → All (λ p. p ≤ n) pages → All (λ p. p ≤ n) (with_page pages page)
bounded_with pages page n low all =
    All-weaker (Contains (with_page pages page)) (λ (p : ℕ). p ≤ n)
    (λ p there. bound p (with_cases pages page p there)) (with_page pages page) (All-contains_itself (with_page pages page))
  where
    bound : (p : ℕ) → (p ≡ page) ⊎ Contains pages p → p ≤ n
    bound p (inl same) = omega arith
    bound p (inr there) = All-contains (λ (q : ℕ). q ≤ n) pages p all there

-- whether or not that page came in
pub bounded_after : {E : Type 0} (result : Result (Unit {0}) E) (old new : List ℕ) (page n : ℕ)
    → OnOk result (new ≡ with_page old page) → OnErr result (new ≡ old) → page ≤ n → All (λ p. p ≤ n) old → All (λ p. p ≤ n) new
bounded_after (Ok done) old new page n ok err low all = subst (All (λ (p : ℕ). p ≤ n)) (sym ok) (bounded_with old page n low all)
bounded_after (Err why) old new page n ok err low all = subst (All (λ (p : ℕ). p ≤ n)) (sym err) all

-- a page of a map with one more at its end
pub page_at-push : (pages : PageMap) (more : List ℕ) (number : ℕ) → number ≤ length pages
    → page_at (pages ++ more ∷ []) number ≡ page_at pages number
page_at-push pages more zero within = refl
page_at-push pages more (suc k) within = get_or_append_left pages (more ∷ []) [] k (omega arith)

-- A set of pages, built up page by page, is what a commit writes.
use Rattle.std.proofs.Common.{◌≡◌, ◌∙◌, ℕ, ◌+◌, List, [], ◌∷◌, ◌++◌, length, map, refl, sym, subst, ap, inl, inr, arith, append-nil, Contains, Option, Some, None}
use Rattle.std.specs.Prelude.{IfSome, ◌⊎◌}
use Rattle.std.specs.List.Sorted.{IsStrictlyIncreasing}
use Rattle.page_spec.specs.PageMap.{PageMap}
use Rattle.engine_spec.specs.declared.commits.PageImage.{PageImage}
use Rattle.engine_spec.specs.Change.{Change}
use Rattle.engine_spec.specs.PageSet.{with_page, with_pages}
use Rattle.engine_spec.proofs.PageSets.{with_rises, with_has, with_keeps, with_cases}
use Rattle.engine_spec.proofs.Conflicts.{contains_cases, contains_more}
use Rattle.engine_spec.specs.Written.{Writes, written, numbers_from, trunks}

pub pages_rise : (set pages : List ℕ) → IsStrictlyIncreasing set → IsStrictlyIncreasing (with_pages set pages)
pages_rise set [] rises = rises
pages_rise set (page ∷ pages) rises = pages_rise (with_page set page) pages (with_rises set page rises)

pub pages_keep : (set pages : List ℕ) (q : ℕ) → Contains set q → Contains (with_pages set pages) q
pages_keep set [] q there = there
pages_keep set (page ∷ pages) q there = pages_keep (with_page set page) pages q (with_keeps set page q there)

pub pages_have : (set pages : List ℕ) (q : ℕ) → Contains pages q → Contains (with_pages set pages) q
pages_have set [] q there = absurd (let low = there.1 in omega arith)
pages_have set (page ∷ pages) q there = elim (contains_cases page q pages there) [
  | inl same ↦ pages_keep (with_page set page) pages q (subst (Contains (with_page set page)) same (with_has set page))
  | inr later ↦ pages_have (with_page set page) pages q later
]

pub pages_cases : (set pages : List ℕ) (q : ℕ) → Contains (with_pages set pages) q → Contains set q ⊎ Contains pages q
pages_cases set [] q there = inl there
pages_cases set (page ∷ pages) q there = elim (pages_cases (with_page set page) pages q there) [
  | inl here ↦ elim (with_cases set page q here) [ inl same ↦ inr (0, omega arith, sym same) | inr old ↦ inl old ]
  | inr later ↦ inr (contains_more page q pages later)
]

-- page 1 and the changed pages, where no page is made
pub writes_changed : (newest : Option PageMap) (size : ℕ) (change : Change) → change.fresh ≡ []
    → Writes newest size change (written change)
writes_changed newest size change none =
    let changed = map (λ (image : PageImage). image.page) change.changed in
    let all : changed ++ (numbers_from (size + 1) (length change.fresh) ++ []) ≡ changed =
    ap (λ (fresh : List PageImage). changed ++ (numbers_from (size + 1) (length fresh) ++ [])) none ∙ append-nil changed in
    record {
      rising = pages_rise (1 ∷ []) changed (λ k within. absurd (omega arith));
      trunk_pages = [];
      are_trunks = none_told newest;
      none = λ no_fresh no_freed. refl;
      same = λ page. (
        λ there. subst (λ pages. Contains (1 ∷ pages) page) (sym all)
            (elim (pages_cases (1 ∷ []) changed page there) [
              | inl one ↦ elim (contains_cases 1 page [] one) [
                | inl same ↦ (0, omega arith, same)
                | inr nothing ↦ absurd (let low = nothing.1 in omega arith)
              ]
              | inr later ↦ contains_more 1 page changed later
            ]),
        λ there. elim (contains_cases 1 page changed (subst (λ pages. Contains (1 ∷ pages) page) all there)) [
          | inl same ↦ pages_keep (1 ∷ []) changed page (0, omega arith, same)
          | inr later ↦ pages_have (1 ∷ []) changed page later
        ],
      );
    }
  where
    none_told : (newest : Option PageMap) → IfSome newest (λ map. [] ≡ trunks map change)
    none_told None = tt
    none_told (Some pages) = refl

-- The least page of some above a page, and the greatest of them all.
use Rattle.std.proofs.Common.{◌≡◌, ◌∙◌, ℕ, zero, suc, ◌<◌, ◌≤◌, max, List, [], ◌∷◌, refl, sym, ap, subst, inl, inr, arith, Option, Some, None}
use Rattle.std.specs.Prelude.{◌⊎◌, Contains}
use Rattle.std.proofs.lemmas.Bool.{cases_lt, lt-ltb, le-ltb}
use Rattle.page_lines.specs.Logged.{or_lesser, least_above, greatest}

-- what is in a list is its first element or in the rest
there_cases : (page : ℕ) (pages : List ℕ) (q : ℕ) → Contains (page ∷ pages) q → (q ≡ page) ⊎ Contains pages q
there_cases page pages q (zero, within, is) = inl (sym is)
there_cases page pages q (suc k, within, is) = inr (k, omega arith, is)

first_there : (page : ℕ) (pages : List ℕ) → Contains (page ∷ pages) page
first_there page pages = (zero, omega arith, refl)

rest_there : (page : ℕ) (pages : List ℕ) (q : ℕ) → Contains pages q → Contains (page ∷ pages) q
rest_there page pages q (k, within, is) = (suc k, omega arith, is)

-- The page is the least of these above the other one.
pub record IsLeast (low : ℕ) (pages : List ℕ) (page : ℕ) : Type 0 where
  pub there : Contains pages page
  pub above : low < page
  pub least : (q : ℕ) → Contains pages q → low < q → page ≤ q

-- what is found: the least, or none where none is above
abbrev pub Finds : ℕ → List ℕ → Option ℕ → Type 0
Finds low pages None = (q : ℕ) → Contains pages q → q ≤ low
Finds low pages (Some page) = IsLeast low pages page

-- with one page more, which isn't above
finds_beside : (low page : ℕ) (pages : List ℕ) (found : Option ℕ) → page ≤ low → Finds low pages found → Finds low (page ∷ pages) found
finds_beside low page pages None under none = λ q there. elim (there_cases page pages q there) [ inl is ↦ omega arith | inr rest ↦ none q rest ]
finds_beside low page pages (Some other) under finds = record {
  there = rest_there page pages other finds.there;
  above = finds.above;
  least = λ q there above. elim (there_cases page pages q there) [
    | inl is ↦ absurd (omega arith)
    | inr rest ↦ finds.least q rest above
  ];
}

-- with one page more, which is above
finds_with : (low page : ℕ) (pages : List ℕ) (found : Option ℕ) → low < page → Finds low pages found
    → IsLeast low (page ∷ pages) (or_lesser page found)
finds_with low page pages None above none = record {
  there = first_there page pages;
  above = above;
  least = λ q there over. elim (there_cases page pages q there) [
    | inl is ↦ omega arith
    | inr rest ↦ (let under = none q rest in absurd (omega arith))
  ];
}
finds_with low page pages (Some other) above finds = elim (cases_lt other page) [
  | inl less ↦
      rw (lt-ltb other page less) (record {
        there = rest_there page pages other finds.there;
        above = finds.above;
        least = λ q there over. elim (there_cases page pages q there) [
          | inl is ↦ omega arith
          | inr rest ↦ finds.least q rest over
        ];
      })
  | inr same ↦
      rw (le-ltb other page same) (record {
        there = first_there page pages;
        above = above;
        least = λ q there over. elim (there_cases page pages q there) [
          | inl is ↦ omega arith
          | inr rest ↦ (let more = finds.least q rest over in omega arith)
        ];
      })
]

-- the function finds it
finds : (low : ℕ) (pages : List ℕ) → Finds low pages (least_above low pages)
finds low [] = λ q (k, within, is). absurd (omega arith)
finds low (page ∷ pages) = elim (cases_lt low page) [
  | inl above ↦ rw (lt-ltb low page above) (finds_with low page pages (least_above low pages) above (finds low pages))
  | inr under ↦ rw (le-ltb low page under) (finds_beside low page pages (least_above low pages) under (finds low pages))
]

-- and there is one alone
pub least_is : (low : ℕ) (pages : List ℕ) (page : ℕ) → IsLeast low pages page → least_above low pages ≡ Some page
least_is low pages page is = one_alone (least_above low pages) (finds low pages)
  where
    one_alone : (found : Option ℕ) → Finds low pages found → found ≡ Some page
    one_alone None none = (let above = is.above in let under = none page is.there in absurd (omega arith))
    one_alone (Some other) found =
        (let less = found.least page is.there is.above in let more = is.least other found.there found.above in ap Some (omega arith))

pub none_above : (low : ℕ) (pages : List ℕ) → ((q : ℕ) → Contains pages q → q ≤ low) → least_above low pages ≡ None
none_above low pages none = nothing (least_above low pages) (finds low pages)
  where
    nothing : (found : Option ℕ) → Finds low pages found → found ≡ None
    nothing None still = refl
    nothing (Some other) found =
        (let above = found.above in let under = none other found.there in absurd (omega arith))

-- The page is the greatest of these and the other one.
pub record IsGreatest (low : ℕ) (pages : List ℕ) (page : ℕ) : Type 0 where
  pub least : low ≤ page
  pub all : (q : ℕ) → Contains pages q → q ≤ page
  pub one_of : (page ≡ low) ⊎ Contains pages page

max_low : (low other : ℕ) → other ≤ low → max low other ≡ low
max_low low other under = grind arith

max_other : (low other : ℕ) → low ≤ other → max low other ≡ other
max_other low other over = grind arith

-- the function gives it
pub greatest_is : (low : ℕ) (pages : List ℕ) (page : ℕ) → IsGreatest low pages page → greatest low pages ≡ page
greatest_is low [] page is = elim (is.one_of) [ inl same ↦ sym same | inr (k, within, there) ↦ absurd (omega arith) ]
greatest_is low (other ∷ pages) page is =
    let within : other ≤ page = is.all other (first_there other pages) in
    let least : low ≤ page = is.least in
    greatest_is (max low other) pages page (record {
      least = elim (cases_lt low other) [
        | inl more ↦ subst (λ (n : ℕ). n ≤ page) (sym (max_other low other (omega arith))) within
        | inr less ↦ subst (λ (n : ℕ). n ≤ page) (sym (max_low low other less)) least
      ];
      all = λ q there. is.all q (rest_there other pages q there);
      one_of = elim (is.one_of) [
        | inl same ↦ inl (same ∙ sym (max_low low other (omega arith)))
        | inr there ↦ elim (there_cases other pages page there) [
          | inl first ↦ inl (first ∙ sym (max_other low other (omega arith)))
          | inr rest ↦ inr rest
        ]
      ];
    })

-- there is a greatest one
is_greatest : (low : ℕ) (pages : List ℕ) → IsGreatest low pages (greatest low pages)
is_greatest low [] = record { least = omega arith; all = λ q (k, within, is). absurd (omega arith); one_of = inl refl }
is_greatest low (other ∷ pages) =
    let rest : IsGreatest (max low other) pages (greatest (max low other) pages) = is_greatest (max low other) pages in
    let over : max low other ≤ greatest (max low other) pages = rest.least in
    elim (cases_lt low other) [
      | inl more ↦
          (let which : max low other ≡ other = max_other low other (omega arith) in
          record {
            least = omega (arith, over, which);
            all = λ q there. elim (there_cases other pages q there) [ inl is ↦ omega (arith, over, which, is) | inr inside ↦ rest.all q inside ];
            one_of = elim (rest.one_of) [
              | inl same ↦ inr (subst (Contains (other ∷ pages)) (sym (same ∙ which)) (first_there other pages))
              | inr inside ↦ inr (rest_there other pages _ inside)
            ];
          })
      | inr less ↦
          (let which : max low other ≡ low = max_low low other less in
          record {
            least = omega (arith, over, which);
            all = λ q there. elim (there_cases other pages q there) [ inl is ↦ omega (arith, over, which, is) | inr inside ↦ rest.all q inside ];
            one_of = elim (rest.one_of) [ inl same ↦ inl (same ∙ which) | inr inside ↦ inr (rest_there other pages _ inside) ];
          })
    ]

-- from one of the pages on, it is the same one
pub greatest_from : (low page : ℕ) (pages : List ℕ) → Contains pages page → low ≤ page → greatest page pages ≡ greatest low pages
greatest_from low page pages there over =
    let is = is_greatest low pages in
    let within : page ≤ greatest low pages = is.all page there in
    greatest_is page pages (greatest low pages) (record {
      least = within;
      all = is.all;
      one_of = elim (is.one_of) [ inl same ↦ inl (omega (arith, same)) | inr inside ↦ inr inside ];
    })

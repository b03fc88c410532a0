-- What the pages of a new database tell.
use Rattle.std.proofs.Common.{◌≡◌, ◌⊎◌, ℕ, ◌+◌, ◌-◌, ◌*◌, ◌/◌, ◌%◌, ◌^◌, ◌≤◌, Bool, true, false, ◌||◌, inl, inr, List, ◌++◌, length, length-append, refl, sym, ◌∙◌, ap, subst, arith}
use Rattle.std.specs.Prelude.{nat_eq, replicate}
use Rattle.std.proofs.lemmas.Bool.Decides.{nat_tests}
use Rattle.std.proofs.lemmas.List.{length-replicate}
use Rattle.page_spec.specs.Bytes.{u16_at, u32_at}
use Rattle.page_spec.specs.Header.{fields_of, page_size_in, pages_in, spelled_page_size, is_page_size}
use Rattle.page_spec.specs.PageMap.{page_at}
use Rattle.recover.specs.declared.setup.StoreKind.{StoreKind}
use Rattle.recover.specs.declared.setup.StoreKind.TheVariants.{Pages, Tables}
use Rattle.recover.specs.NewPages.{new_count, new_front, new_first_page, new_pages, first_then_zeros}
use Rattle.recover.specs.Founding.{MakesMap}
use Rattle.recover.proofs.FirstPages.{makes_new}

pub one_of : (a b : Bool) → (a || b) ≡ true → (a ≡ true) ⊎ (b ≡ true)
one_of true b is = inl refl
one_of false b is = inr is

same : (m n : ℕ) → nat_eq m n ≡ true → n ≡ m
same m n is = grind (arith, nat_tests)

abbrev Spells : ℕ → Type 0
Spells size = spelled_page_size (size / 256 % 256 * 2 ^ 8 + size / 65536 % 256) ≡ size

pub spells : (size : ℕ) → is_page_size size ≡ true → Spells size
unfolding is_page_size spelled_page_size
spells size is = elim (one_of (nat_eq size 512) _ is) [
  | inl at ↦ subst Spells (same size 512 at) refl
  | inr is ↦ elim (one_of (nat_eq size 1024) _ is) [
    | inl at ↦ subst Spells (same size 1024 at) refl
    | inr is ↦ elim (one_of (nat_eq size 2048) _ is) [
      | inl at ↦ subst Spells (same size 2048 at) refl
      | inr is ↦ elim (one_of (nat_eq size 4096) _ is) [
        | inl at ↦ subst Spells (same size 4096 at) refl
        | inr is ↦ elim (one_of (nat_eq size 8192) _ is) [
          | inl at ↦ subst Spells (same size 8192 at) refl
          | inr is ↦ elim (one_of (nat_eq size 16384) _ is) [
            | inl at ↦ subst Spells (same size 16384 at) refl
            | inr is ↦ elim (one_of (nat_eq size 32768) _ is) [
              | inl at ↦ subst Spells (same size 32768 at) refl
              | inr is ↦ elim (one_of (nat_eq size 65536) _ is) [
                | inl at ↦ subst Spells (same size 65536 at) refl
                | inr is ↦ cc
              ]
            ]
          ]
        ]
      ]
    ]
  ]
]

pub first_sized : (kind : StoreKind) (size : ℕ) → is_page_size size ≡ true → page_size_in (fields_of (new_first_page kind size)) ≡ size
unfolding fields_of new_first_page u16_at
first_sized Pages size is = spells size is
first_sized Tables size is = spells size is

pub first_counts : (kind : StoreKind) (size long : ℕ) → pages_in (new_first_page kind size) long ≡ new_count kind
unfolding fields_of new_first_page pages_in u32_at
first_counts Pages size long = refl
first_counts Tables size long = refl

-- page 1 of a new database has as many bytes as a page
pub first_long : (kind : StoreKind) (size : ℕ) → 108 ≤ size → length (new_first_page kind size) ≡ size
unfolding new_first_page
first_long kind size big = by kind
  where
    all : 108 + (size - 108) ≡ size
    all = omega arith

    by : (kind : StoreKind) → length (new_front kind size ++ replicate (size - 108) 0) ≡ size
    by Pages = length-append (new_front Pages size) (replicate (size - 108) 0) ∙ ap (λ (n : ℕ). 108 + n) (length-replicate (size - 108) 0) ∙ all
    by Tables = length-append (new_front Tables size) (replicate (size - 108) 0) ∙ ap (λ (n : ℕ). 108 + n) (length-replicate (size - 108) 0) ∙ all

pub new_length : (kind : StoreKind) (size : ℕ) → length (new_pages kind size) ≡ new_count kind
unfolding new_pages
new_length Pages size = refl
new_length Tables size = refl

first_page_is : (kind : StoreKind) (size : ℕ) → page_at (new_pages kind size) 1 ≡ new_first_page kind size
unfolding new_pages
first_page_is Pages size = refl
first_page_is Tables size = refl

pub new_names : (kind : StoreKind) (size long : ℕ) → pages_in (page_at (new_pages kind size) 1) long ≡ length (new_pages kind size)
new_names kind size long = ap (λ (bytes : List ℕ). pages_in bytes long) (first_page_is kind size) ∙ first_counts kind size long ∙ sym (new_length kind size)

pub new_some : (kind : StoreKind) → 1 ≤ new_count kind
new_some Pages = omega arith
new_some Tables = omega arith

pub makes_pages : (main : List ℕ) (kind : StoreKind) (size : ℕ) → is_page_size size ≡ true → MakesMap main size (new_pages kind size) (first_then_zeros (new_first_page kind size)) (new_count kind) (new_count kind)
unfolding new_pages
makes_pages main kind size is = makes_new main size (first_then_zeros (new_first_page kind size)) (new_count kind) (new_some kind) (first_sized kind size is)

-- The trees of a sound database are apart from one another and from the freelist.
use Rattle.std.proofs.Common.{◌≡◌, ℕ, zero, suc, ◌≤◌, true, List, [], ◌∷◌, ◌++◌, refl, sym, subst, ap, ◌∙◌, arith, append_assoc, inl, inr}
use Rattle.std.proofs.lemmas.Bool.{cases_eq, ne_eqb}
use Rattle.std.specs.Prelude.{◌⊎◌}
use Rattle.page_spec.specs.View.{View}
use Rattle.page_spec.specs.Header.{fields_of}
use Rattle.tree_spec.specs.Layout.{times, Item}
use Rattle.tree_spec.specs.Shown.{Shown, shown_by}
use Rattle.tree_spec.proofs.Lists.{times-append, each-append}
use Rattle.tree_spec.proofs.Freelists.{freelist_range}
use Rattle.sound_spec.specs.Sound.{IsRooted, AreRooted, HasTrees, IsSoundTrees, IsSound}
use Rattle.sound_spec.proofs.Within.{AreInRange, of_each, tree_range}

-- One root among others: its tree's pages stand together, between those of the trees before it and behind it.
pub record SplitAt (usable last : ℕ) (shown : Shown) (front : List ℕ) (root : ℕ) (back own : List ℕ) : Type 0 where
  pub before : List ℕ
  pub this : List ℕ
  pub behind : List ℕ
  pub own_is : own ≡ before ++ (this ++ behind)
  pub front_are : AreRooted usable last shown front before
  pub root_is : IsRooted usable last shown root this
  pub back_are : AreRooted usable last shown back behind

pub split_at : (usable last : ℕ) (shown : Shown) (front : List ℕ) (root : ℕ) (back own : List ℕ)
    → AreRooted usable last shown (front ++ root ∷ back) own → SplitAt usable last shown front root back own
split_at usable last shown [] root back own (first, others, own_is, one, more) =
    record { before = []; this = first; behind = others; own_is = own_is; front_are = refl; root_is = one; back_are = more }
split_at usable last shown (other ∷ front) root back own (first, others, own_is, one, more) =
    let rest = split_at usable last shown front root back others more in
    record {
      before = first ++ rest.before;
      this = rest.this;
      behind = rest.behind;
      own_is = own_is ∙ ap (λ (l : List ℕ). first ++ l) rest.own_is ∙ sym (append_assoc first rest.before (rest.this ++ rest.behind));
      front_are = (first, rest.before, refl, one, rest.front_are);
      root_is = rest.root_is;
      back_are = rest.back_are;
    }

rooted_range : (usable last : ℕ) (shown : Shown) (roots own : List ℕ) → AreRooted usable last shown roots own → AreInRange last own
rooted_range usable last shown [] own is = subst (λ (l : List ℕ). AreInRange last l) (sym is) tt
rooted_range usable last shown (root ∷ roots) own (first, others, own_is, one, more) =
    let (below, first_is, range) = tree_range one.table usable last shown one.height root first one.items one.tree in
    subst (λ (l : List ℕ). AreInRange last l) (sym own_is)
    (each-append (λ (page : ℕ). (2 ≤ page) × (page ≤ last)) first others
    (subst (λ (l : List ℕ). AreInRange last l) (sym first_is) ((one.least, one.most), range))
    (rooted_range usable last shown roots others more))

-- a page that isn't in range stands in no list of pages that are
none_outside : (last : ℕ) (pages : List ℕ) → AreInRange last pages → times pages 1 ≡ 0
none_outside last [] range = refl
none_outside last (page ∷ pages) range = rw (ne_eqb page 1 (λ is. omega (arith, is, range.0.0))) (omega (arith, none_outside last pages range.1))

-- The pages in use: page 1, once, and others in range.
pub used_range : (usable last : ℕ) (shown : Shown) (roots used : List ℕ) (rows : List Item) → HasTrees usable last shown roots used rows
    → (others : List ℕ) × (used ≡ 1 ∷ others) × AreInRange last others
used_range usable last shown roots used rows is =
    let (below, first_is, range) = tree_range true usable last shown is.height 1 is.first rows is.schema in (
      below ++ is.others,
      is.used_is ∙ ap (λ (l : List ℕ). l ++ is.others) first_is,
      each-append (λ (page : ℕ). (2 ≤ page) × (page ≤ last)) below is.others range (rooted_range usable last shown roots is.others is.rooted),
    )

pub first_once : (usable last : ℕ) (shown : Shown) (roots used : List ℕ) (rows : List Item) → HasTrees usable last shown roots used rows → times used 1 ≡ 1
first_once usable last shown roots used rows is =
    let (others, used_is, range) = used_range usable last shown roots used rows is in
    subst (λ (l : List ℕ). times l 1 ≡ 1) (sym used_is) (omega (arith, none_outside last others range))

some_or_none : (n : ℕ) → (n ≡ 0) ⊎ (1 ≤ n)
some_or_none zero = inl refl
some_or_none (suc n) = inr (omega arith)

-- the free pages are in range
free_range : (page_size usable last : ℕ) (view : View) (roots used free : List ℕ) (rows : List Item) → IsSound page_size usable last view roots used free rows
    → AreInRange last free
free_range page_size usable last view roots used free rows is =
    freelist_range usable last view (fields_of (view 1)).first_trunk (fields_of (view 1)).free_pages free is.freelist

-- A page that is used isn't free.
pub used_not_free : (page_size usable last : ℕ) (view : View) (roots used free : List ℕ) (rows : List Item) → IsSound page_size usable last view roots used free rows
    → (page : ℕ) → 1 ≤ times used page → times free page ≡ 0
used_not_free page_size usable last view roots used free rows is page there =
    elim (some_or_none (times free page)) [
      | inl none ↦ none
      | inr some ↦
          let range = of_each (λ n. (2 ≤ n) × (n ≤ last)) free page (free_range page_size usable last view roots used free rows is) some in
          omega (arith, there, is.placed page range.0 range.1)
    ]

-- The trees of a sound database are what calls on trees speak of.
pub sound_trees : (page_size usable last : ℕ) (view : View) (roots used free : List ℕ) (rows : List Item) → IsSound page_size usable last view roots used free rows
    → IsSoundTrees usable last (shown_by usable view) roots used rows
sound_trees page_size usable last view roots used free rows is = record {
  trees = is.trees;
  once = λ page. elim (some_or_none (times used page)) [
    | inl none ↦ omega (arith, none)
    | inr some ↦
        let (others, used_is, range) = used_range usable last (shown_by usable view) roots used rows is.trees in
        elim (cases_eq page 1) [
          | inl one ↦
              subst (λ (n : ℕ). times used n ≤ 1) (sym one) (omega (arith, first_once usable last (shown_by usable view) roots used rows is.trees))
          | inr apart ↦
              let there : 1 ≤ times others page =
              let all : 1 ≤ times (1 ∷ others) page = subst (λ (l : List ℕ). 1 ≤ times l page) used_is some in
              let rest = rw (ne_eqb 1 page (λ same. apart (sym same))) at all in omega (arith, rest) in
              let within = of_each (λ n. (2 ≤ n) × (n ≤ last)) others page range there in
              omega (arith, is.placed page within.0 within.1)
        ]
  ];
}

-- Two trees have no page together.
pub trees_apart : (usable last : ℕ) (shown : Shown) (roots used : List ℕ) (rows : List Item) → IsSoundTrees usable last shown roots used rows
    → (front : List ℕ) (root : ℕ) (back : List ℕ) → roots ≡ front ++ root ∷ back
    → (own : List ℕ) × IsRooted usable last shown root own × (before behind : List ℕ) × (used ≡ before ++ (own ++ behind))
    × ((page : ℕ) → 1 ≤ times own page → (times before page ≡ 0) × (times behind page ≡ 0))
trees_apart usable last shown roots used rows is front root back are =
    let split = split_at usable last shown front root back is.trees.others (subst (λ (l : List ℕ). AreRooted usable last shown l is.trees.others) are is.trees.rooted) in
    let all : used ≡ (is.trees.first ++ split.before) ++ (split.this ++ split.behind) =
    is.trees.used_is ∙ ap (λ (l : List ℕ). is.trees.first ++ l) split.own_is ∙ sym (append_assoc is.trees.first split.before (split.this ++ split.behind)) in (
      split.this,
      split.root_is,
      is.trees.first ++ split.before,
      split.behind,
      all,
      λ page there.
          let most : times ((is.trees.first ++ split.before) ++ (split.this ++ split.behind)) page ≤ 1 = subst (λ (l : List ℕ). times l page ≤ 1) all (is.once page) in
          let front_sum = times-append (is.trees.first ++ split.before) (split.this ++ split.behind) page in
          let back_sum = times-append split.this split.behind page in
          (omega (arith, most, front_sum, back_sum, there), omega (arith, most, front_sum, back_sum, there)),
    )

-- A page that a commit doesn't write is as it was in the current map.
use Rattle.std.proofs.Common.{◌≡◌, ◌≢◌, ℕ, ◌+◌, Bool, true, false, List, [], ◌∷◌, ◌++◌, refl, sym, ap, ◌∙◌, arith, inl, inr, eq-eqb}
use Rattle.std.specs.Prelude.{◌==◌, if◌then◌else◌}
use Rattle.std.proofs.lemmas.Bool.{cases_eq, ne_eqb}
use Rattle.page_spec.specs.PageMap.{PageMap, page_size_of}
use Rattle.page_spec.specs.View.{View, view_of, view_with}
use Rattle.engine_spec.specs.declared.commits.Mode.{Mode}
use Rattle.engine_spec.specs.declared.commits.PageImage.{PageImage}
use Rattle.engine_spec.specs.Change.{Change, laid_page}
use Rattle.tree_spec.specs.Layout.{times}
use Rattle.tree_spec.proofs.Lists.{times-append}
use Rattle.relocate_spec.specs.Numbers.{numbers_of}
use Rattle.relocate_spec.specs.Joining.{Joining, free_in, has_room, with_leaf, with_trunk, page_joined, pages_joined}
use Rattle.relocate_spec.specs.Whole.{usable_of, put_over, pages_put, cleared, cleared_by, freed_by, placed_on, joined_on, view_laid, written_on}

-- a page that isn't in a list isn't its first one, nor in the rest
apart : (page : ℕ) (pages : List ℕ) (n : ℕ) → times (page ∷ pages) n ≡ 0 → (page ≢ n) × (times pages n ≡ 0)
apart page pages n none = elim (cases_eq page n) [
  | inl same ↦ absurd (omega (arith, none, ap (λ (b : Bool). (if b then 1 else 0) + times pages n) (eq-eqb page n same)))
  | inr other ↦ (other, omega (arith, none, ap (λ (b : Bool). (if b then 1 else 0) + times pages n) (ne_eqb page n other)))
]

-- a view with another page changed
other_page : (view : View) (page : ℕ) (bytes : List ℕ) (n : ℕ) → page ≢ n → view_with view page bytes n ≡ view n
other_page view page bytes n other = ap (λ (b : Bool). if b then bytes else view n) (ne_eqb n page (λ e. other (sym e)))

put_keeps : (mode : Mode) (tail : Bool) (view : View) (images : List PageImage) (n : ℕ) → times (numbers_of images) n ≡ 0
    → put_over mode tail view images n ≡ view n
put_keeps mode tail view [] n none = refl
put_keeps mode tail view (image ∷ images) n none =
    let one = apart image.page (numbers_of images) n none in
    put_keeps mode tail (view_with view image.page (laid_page mode tail image.page (view image.page) image.bytes)) images n one.1
    ∙ other_page view image.page (laid_page mode tail image.page (view image.page) image.bytes) n one.0

clearing_keeps : (size : ℕ) (view : View) (pages : List ℕ) (n : ℕ) → times pages n ≡ 0 → cleared size view pages n ≡ view n
clearing_keeps size view [] n none = refl
clearing_keeps size view (page ∷ pages) n none =
    let one = apart page pages n none in
    clearing_keeps size (view_with view page _) pages n one.1 ∙ other_page view page _ n one.0

-- a page that isn't among the trunks that were changed or made is as before, and wasn't among them before
abbrev Keeps : (free free_then : Joining) → ℕ → Type 0
Keeps free free_then n = times free_then.trunks n ≡ 0 → (free_then.view n ≡ free.view n) × (times free.trunks n ≡ 0)

keeps_further : (free mid free_then : Joining) (n : ℕ) → Keeps free mid n → Keeps mid free_then n → Keeps free free_then n
keeps_further free mid free_then n first second none =
    let later = second none in
    let earlier = first later.1 in
    (later.0 ∙ earlier.0, earlier.1)

joining_keeps : (size usable : ℕ) (free : Joining) (page n : ℕ) → Keeps free (page_joined size usable free page) n
joining_keeps size usable free page n = by_room (has_room usable free)
  where
    by_room : (room : Bool) → Keeps free (if room then with_leaf free page else with_trunk size free page) n
    by_room true = λ none. let one = apart free.trunk free.trunks n none in (other_page free.view free.trunk _ n one.0, one.1)
    by_room false = λ none. let one = apart page free.trunks n none in (other_page free.view page _ n one.0, one.1)

joinings_keep : (size usable : ℕ) (free : Joining) (pages : List ℕ) (n : ℕ) → Keeps free (pages_joined size usable free pages) n
joinings_keep size usable free [] n = λ none. (refl, none)
joinings_keep size usable free (page ∷ pages) n =
    keeps_further free (page_joined size usable free page) (pages_joined size usable (page_joined size usable free page) pages) n
    (joining_keeps size usable free page n) (joinings_keep size usable (page_joined size usable free page) pages n)

-- A page that isn't among those that the commit writes is as in the current map.
pub unwritten_after : (pages : PageMap) (change : Change) (n : ℕ) → times (written_on pages change) n ≡ 0 → view_laid pages change n ≡ view_of pages n
unwritten_after pages change n none =
    let put = numbers_of (pages_put pages change) in
    let zeros = cleared_by change.mode change.base change.freed in
    let joined = joined_on pages change in
    let over = put_over change.mode change.tail (view_of pages) (pages_put pages change) in
    let one = apart 1 (put ++ (zeros ++ joined.trunks)) n none in
    let sums = times-append put (zeros ++ joined.trunks) n in
    let rest = times-append zeros joined.trunks n in
    let none_put : times put n ≡ 0 = omega (arith, one.1, sums) in
    let none_cleared : times zeros n ≡ 0 = omega (arith, one.1, sums, rest) in
    let none_joined : times joined.trunks n ≡ 0 = omega (arith, one.1, sums, rest) in
    let kept = joinings_keep (page_size_of pages) (usable_of pages) (free_in (placed_on pages change)) (freed_by change.mode change.base change.freed) n none_joined in
    other_page joined.view 1 _ n one.0
    ∙ kept.0
    ∙ clearing_keeps (page_size_of pages) over zeros n none_cleared
    ∙ put_keeps change.mode change.tail (view_of pages) (pages_put pages change) n none_put

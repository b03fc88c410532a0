-- The pages that a commit is handed, one by one.
use Rattle.std.proofs.Common.{◌≡◌, ◌≢◌, ◌∙◌, ℕ, zero, suc, ◌+◌, ◌-◌, ◌<◌, ◌≤◌, List, [], ◌∷◌, ◌++◌, length, take, get_or, map, refl, sym, ap, subst, arith, take_all}
use Rattle.std.specs.Prelude.{All}
use Rattle.std.proofs.lemmas.List.{take_more, get_or_default, length-take-le}
use Rattle.std.proofs.lemmas.List.Elements.{All-nil, All-cons, All-head, All-tail}
use Rattle.engine_spec.specs.declared.commits.PageImage.{PageImage}
use Rattle.log_commit.specs.Commit.{no_image, in_order}
use Rattle.log_commit.specs.Pages.{images_of}
use Rattle.log_commit.specs.declared.commit.CommitPages.{CommitPages}

-- one image for each place
pub length_in_order : (changed : List PageImage) (order : List ℕ) → length (in_order changed order) ≡ length order
length_in_order changed [] = refl
length_in_order changed (place ∷ order) = ap suc (length_in_order changed order)

-- what holds of all the images holds of those that an order names
pub all_in_order : (P : PageImage → Type 0) (changed : List PageImage) (order : List ℕ) → All (λ place. place < length changed) order → All P changed → All P (in_order changed order)
all_in_order P changed [] within all = All-nil P
all_in_order P changed (place ∷ order) within all =
    All-cons P (get_or changed place no_image) (in_order changed order)
    (all place no_image (All-head (λ place. place < length changed) place order within))
    (all_in_order P changed order (All-tail (λ place. place < length changed) place order within) all)

-- they are those that the places are mapped to
pub in_order_is : (changed : List PageImage) (order : List ℕ) → in_order changed order ≡ map (λ place. get_or changed place no_image) order
in_order_is changed [] = refl
in_order_is changed (place ∷ order) = ap (λ (images : List PageImage). get_or changed place no_image ∷ images) (in_order_is changed order)

-- the image at a place of the order
pub at_place : (changed : List PageImage) (order : List ℕ) (i : ℕ) → i < length order → get_or (in_order changed order) i no_image ≡ get_or changed (get_or order i 0) no_image
at_place changed [] i less = absurd (omega arith)
at_place changed (place ∷ order) zero less = refl
at_place changed (place ∷ order) (suc i) less = at_place changed order i (omega arith)

-- one behind page 1
later_at : (first : PageImage) (images : List PageImage) (index : ℕ) → index ≢ 0 → get_or (first ∷ images) index no_image ≡ get_or images (index - 1) no_image
later_at first images zero some = absurd (some refl)
later_at first images (suc i) some = ap (λ (n : ℕ). get_or images n no_image) (omega arith)

pub image_at : (pages : CommitPages) (index : ℕ) (any : PageImage) → index ≢ 0 → index ≤ length pages.order.now
    → All (λ place. place < length pages.changed.now) pages.order.now
    → get_or (images_of pages) index no_image ≡ get_or pages.changed.now (get_or pages.order.now (index - 1) 0) any
image_at pages index any some within order =
    let less : index - 1 < length pages.order.now = omega (arith, some) in
    later_at (record { page = 1; bytes = pages.first.now }) (in_order pages.changed.now pages.order.now) index some
    ∙ at_place pages.changed.now pages.order.now (index - 1) less
    ∙ get_or_default pages.changed.now (get_or pages.order.now (index - 1) 0) no_image any (order (index - 1) 0 less)

-- page 1 is the first
pub first_at : (pages : CommitPages) (index : ℕ) → index ≡ 0 → get_or (images_of pages) index no_image ≡ (record { page = 1; bytes = pages.first.now })
first_at pages index is = ap (λ (i : ℕ). get_or (images_of pages) i no_image) is

-- what holds of a page behind page 1 that is written
pub holds_at : (P : PageImage → Type 0) (pages : CommitPages) (index : ℕ) (any : PageImage) → index ≢ 0 → index ≤ length pages.order.now
    → All (λ place. place < length pages.changed.now) pages.order.now → All P (in_order pages.changed.now pages.order.now)
    → P (get_or pages.changed.now (get_or pages.order.now (index - 1) 0) any)
holds_at P pages index any some within order all =
    let less : index - 1 < length (in_order pages.changed.now pages.order.now) = omega (arith, some, length_in_order pages.changed.now pages.order.now) in
    subst P
    (sym (later_at (record { page = 1; bytes = pages.first.now }) (in_order pages.changed.now pages.order.now) index some) ∙ image_at pages index any some within order)
    (all (index - 1) no_image less)

-- all of them but the last, and that one
pub all_images : (pages : CommitPages) → images_of pages ≡ take (length pages.order.now) (images_of pages) ++ get_or (images_of pages) (length pages.order.now) no_image ∷ []
all_images pages =
    let long : length (images_of pages) ≡ length pages.order.now + 1 = omega (arith, length_in_order pages.changed.now pages.order.now) in
    sym (take_all (length pages.order.now + 1) (images_of pages) (omega (arith, long)))
    ∙ take_more (images_of pages) (length pages.order.now) no_image (omega (arith, long))

-- one more of them
pub one_image : (pages : CommitPages) (index : ℕ) → index < length pages.order.now
    → take (index + 1) (images_of pages) ≡ take index (images_of pages) ++ get_or (images_of pages) index no_image ∷ []
one_image pages index less = take_more (images_of pages) index no_image (omega (arith, length_in_order pages.changed.now pages.order.now))

pub length_front : (pages : CommitPages) → length (take (length pages.order.now) (images_of pages)) ≡ length pages.order.now
length_front pages = length-take-le (length pages.order.now) (images_of pages) (omega (arith, length_in_order pages.changed.now pages.order.now))

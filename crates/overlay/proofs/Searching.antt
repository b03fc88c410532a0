-- From what a binary search of images finds to the image that is there, and to the images with one put.
use Rattle.std.proofs.Common.{◌≡◌, ◌∙◌, ℕ, ◌<◌, ◌≤◌, zero, suc, List, [], ◌∷◌, length, set, get_or, Some, None, Result, Ok, Err, refl, sym, subst, ap, arith}
use Rattle.std.specs.List.{insert}
use Rattle.std.specs.List.Sorted.{IsBinarySearchResult}
use Rattle.std.specs.Ordering.{nat_cmp, ordering_index}
use Rattle.std.specs.declared.cmp.Ordering.TheVariants.{Less, Equal, Greater}
use Rattle.std.proofs.Math.ListN.{get_or-map}
use Rattle.std.proofs.lemmas.List.{length-map}
use Rattle.std.proofs.lemmas.List.Sorted.{searched}
use Rattle.engine_spec.specs.declared.commits.PageImage.{PageImage}
use Rattle.engine_spec.specs.Change.{image_of}
use Rattle.overlay.specs.Places.{image_numbers, RisesFrom, IsPlace}
use Rattle.overlay.specs.Images.{with_put}
use Rattle.overlay.proofs.ImageLaws.{of_page, put_same, put_before, put_after, image_at, image_past}

-- numbers that rise from one are above it
pub above_low : (low : ℕ) (pages : List ℕ) (j : ℕ) → RisesFrom low pages → j < length pages → low < get_or pages j 0
above_low low [] j rises within = absurd (omega arith)
above_low low (page ∷ pages) zero rises within = rises.0
above_low low (page ∷ pages) (suc j) rises within =
    let above = rises.0 in
    let more = above_low page pages j rises.1 (omega arith) in
    omega arith

-- numbers that rise don't fall
pub rises_far : (low : ℕ) (pages : List ℕ) → RisesFrom low pages → (i j : ℕ) → i ≤ j → j < length pages → get_or pages i 0 ≤ get_or pages j 0
rises_far low [] rises i j before within = absurd (omega arith)
rises_far low (page ∷ pages) rises zero zero before within = omega arith
rises_far low (page ∷ pages) rises zero (suc j) before within =
    let above = above_low page pages j rises.1 (omega arith) in
    omega arith
rises_far low (page ∷ pages) rises (suc i) zero before within = absurd (omega arith)
rises_far low (page ∷ pages) rises (suc i) (suc j) before within = rises_far page pages rises.1 i j (omega arith) (omega arith)

-- a search of the images by their pages is a search of their pages
over_pages : (images : List PageImage) (page : ℕ) (answer : Result ℕ ℕ)
    → IsBinarySearchResult (λ (image : PageImage). nat_cmp image.page page) images answer
    → IsBinarySearchResult (λ y. nat_cmp y page) (image_numbers images) answer
over_pages images page (Ok at) found =
    λ d. subst (λ (n : ℕ). nat_cmp n page ≡ Equal) (sym (get_or-map (λ (image : PageImage). image.page) images at (of_page d [])))
    (found (of_page d []))
over_pages images page (Err at) found =
    λ rises. let point = found (λ i j d before within.
    subst (λ (n : ℕ). ordering_index (nat_cmp n page) ≤ ordering_index (nat_cmp (get_or images j d).page page))
    (get_or-map (λ (image : PageImage). image.page) images i d)
    (subst (λ (n : ℕ). ordering_index (nat_cmp (get_or (image_numbers images) i d.page) page) ≤ ordering_index (nat_cmp n page))
    (get_or-map (λ (image : PageImage). image.page) images j d)
    (rises i j d.page before (omega (arith, within, length-map images (λ (image : PageImage). image.page)))))) in (
      λ k d least within. subst (λ (n : ℕ). nat_cmp n page ≡ Less) (sym (get_or-map (λ (image : PageImage). image.page) images k (of_page d [])))
          (point.0 k (of_page d []) least within),
      λ k d least within. subst (λ (n : ℕ). nat_cmp n page ≡ Greater) (sym (get_or-map (λ (image : PageImage). image.page) images k (of_page d [])))
          (point.1 k (of_page d []) least (omega (arith, within, length-map images (λ (image : PageImage). image.page)))),
    )

-- so it finds the page's place
pub is_place : (images : List PageImage) (page : ℕ) (answer : Result ℕ ℕ) → RisesFrom 0 (image_numbers images)
    → IsBinarySearchResult (λ (image : PageImage). nat_cmp image.page page) images answer → IsPlace (image_numbers images) page answer
is_place images page (Ok at) rises found =
    searched (image_numbers images) page (Ok at) (over_pages images page (Ok at) found) (rises_far 0 (image_numbers images) rises)
is_place images page (Err at) rises found =
    searched (image_numbers images) page (Err at) (over_pages images page (Err at) found) (rises_far 0 (image_numbers images) rises)

-- an image at its place is the page's
pub image_there : (low : ℕ) (images : List PageImage) (page at : ℕ) (default : PageImage) → RisesFrom low (image_numbers images)
    → IsPlace (image_numbers images) page (Ok at) → image_of images page ≡ Some (get_or images at default).bytes
image_there low [] page at default rises place = absurd (let within = place.0 in omega arith)
image_there low (image ∷ images) page zero default rises place = image_at image images page place.1
image_there low (image ∷ images) page (suc at) default rises place =
    let within = place.0 in
    let above = above_low image.page (image_numbers images) at rises.1 (omega arith) in
    let same = place.1 in
    image_past image images page (λ e. omega arith) ∙ image_there image.page images page at default rises.1 (omega arith, same)

-- a page that has no place among them isn't there
pub image_none : (images : List PageImage) (page at : ℕ) → IsPlace (image_numbers images) page (Err at) → image_of images page ≡ None
image_none [] page at place = refl
image_none (image ∷ images) page zero place =
    let above = place.2 zero (omega arith) (omega arith) in
    image_past image images page (λ e. omega arith)
    ∙ image_none images page zero (omega arith, λ k within. absurd (omega arith), λ k least within. place.2 (suc k) (omega arith) (omega arith))
image_none (image ∷ images) page (suc at) place =
    let below = place.1 zero (omega arith) in
    let within = place.0 in
    image_past image images page (λ e. omega arith)
    ∙ image_none images page at
    (omega arith, λ k before. place.1 (suc k) (omega arith), λ k least inside. place.2 (suc k) (omega arith) (omega arith))

-- putting an image of a page that is there is setting it at its place
pub put_there : (low : ℕ) (images : List PageImage) (page at : ℕ) (bytes : List ℕ) → RisesFrom low (image_numbers images)
    → IsPlace (image_numbers images) page (Ok at) → set images at (of_page page bytes) ≡ with_put images page bytes
put_there low [] page at bytes rises place = absurd (let within = place.0 in omega arith)
put_there low (image ∷ images) page zero bytes rises place = sym (put_same image images page bytes (sym place.1))
put_there low (image ∷ images) page (suc at) bytes rises place =
    let within = place.0 in
    let above = above_low image.page (image_numbers images) at rises.1 (omega arith) in
    let same = place.1 in
    ap (λ (rest : List PageImage). image ∷ rest) (put_there image.page images page at bytes rises.1 (omega arith, same))
    ∙ sym (put_after image images page bytes (omega arith))

-- and of one that isn't, inserting it there
pub put_new : (images : List PageImage) (page at : ℕ) (bytes : List ℕ) → IsPlace (image_numbers images) page (Err at)
    → insert images at (of_page page bytes) ≡ with_put images page bytes
put_new [] page zero bytes place = refl
put_new [] page (suc at) bytes place = absurd (let within = place.0 in omega arith)
put_new (image ∷ images) page zero bytes place = sym (put_before image images page bytes (place.2 zero (omega arith) (omega arith)))
put_new (image ∷ images) page (suc at) bytes place =
    let within = place.0 in
    ap (λ (rest : List PageImage). image ∷ rest)
    (put_new images page at bytes
    (omega arith, λ k before. place.1 (suc k) (omega arith), λ k least inside. place.2 (suc k) (omega arith) (omega arith)))
    ∙ sym (put_after image images page bytes (place.1 zero (omega arith)))

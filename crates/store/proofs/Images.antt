-- Images in an order, one more at a time, and their bytes one behind the other.
use Rattle.std.proofs.Common.{◌≡◌, ◌∙◌, ℕ, zero, suc, ◌+◌, ◌-◌, ◌*◌, ◌≤◌, ◌<◌, List, [], ◌∷◌, ◌++◌, length, map, take, drop, refl, sym, ap, subst, arith, get_or, append_assoc, add-one, append-nil}
use Rattle.std.specs.Prelude.{All}
use Rattle.std.specs.List.{concat}
use Rattle.std.proofs.lemmas.List.{map-append, take_at, drop_at}
use Rattle.std.proofs.lemmas.List.Folds.{concat-append}
use Rattle.std.proofs.lemmas.List.Elements.{All-head, All-tail, All-cons}
use Rattle.engine_spec.specs.declared.commits.PageImage.{PageImage}
use Rattle.laying.specs.Order.{no_image, in_order, images_of, page_numbers}
use Rattle.laying.proofs.Orders.{all_in_order}
use Rattle.store.specs.Halts.{images_in}
use Rattle.store.specs.Committing.{bytes_of}

ordered_more : (images : List PageImage) (order : List ℕ) (k : ℕ) → k < length order
    → in_order images (take (suc k) order) ≡ in_order images (take k order) ++ get_or images (get_or order k 0) no_image ∷ []
ordered_more images [] k less = absurd (omega arith)
ordered_more images (place ∷ order) zero less = refl
ordered_more images (place ∷ order) (suc k) less = ap (λ (rest : List PageImage). get_or images place no_image ∷ rest) (ordered_more images order k (omega arith))

-- the numbers and the bytes of images with one more
pub numbers_more : (images : List PageImage) (order : List ℕ) (k : ℕ) (image : PageImage) (before pages later : List ℕ) → k < length order → get_or images (get_or order k 0) no_image ≡ image
    → pages ≡ before ++ page_numbers (in_order images (take k order)) → later ≡ pages ++ image.page ∷ []
    → later ≡ before ++ page_numbers (in_order images (take (k + 1) order))
numbers_more images order k image before pages later less is has more =
    more ∙ ap (λ (list : List ℕ). list ++ image.page ∷ []) has
    ∙ append_assoc before (page_numbers (in_order images (take k order))) (image.page ∷ [])
    ∙ ap (λ (list : List ℕ). before ++ list)
    (sym (map-append (λ (one : PageImage). one.page) (in_order images (take k order)) (image ∷ []))
    ∙ ap (λ (one : PageImage). page_numbers (in_order images (take k order) ++ one ∷ [])) (sym is)
    ∙ ap (λ (list : List PageImage). page_numbers list) (sym (ordered_more images order k less))
    ∙ ap (λ (n : ℕ). page_numbers (in_order images (take n order))) (sym (add-one k)))

bytes_one : (images : List PageImage) (image : PageImage) → bytes_of (images ++ image ∷ []) ≡ bytes_of images ++ image.bytes
bytes_one images image =
    ap concat (map-append (λ (one : PageImage). one.bytes) images (image ∷ []))
    ∙ concat-append (map (λ (one : PageImage). one.bytes) images) (image.bytes ∷ [])
    ∙ ap (λ (list : List ℕ). bytes_of images ++ list) (append-nil image.bytes)

pub bytes_more : (images : List PageImage) (order : List ℕ) (k : ℕ) (image : PageImage) (before bytes later : List ℕ) → k < length order → get_or images (get_or order k 0) no_image ≡ image
    → bytes ≡ before ++ bytes_of (in_order images (take k order)) → later ≡ bytes ++ image.bytes
    → later ≡ before ++ bytes_of (in_order images (take (k + 1) order))
bytes_more images order k image before bytes later less is has more =
    more ∙ ap (λ (list : List ℕ). list ++ image.bytes) has
    ∙ append_assoc before (bytes_of (in_order images (take k order))) image.bytes
    ∙ ap (λ (list : List ℕ). before ++ list)
    (sym (bytes_one (in_order images (take k order)) image)
    ∙ ap (λ (one : PageImage). bytes_of (in_order images (take k order) ++ one ∷ [])) (sym is)
    ∙ ap (λ (list : List PageImage). bytes_of list) (sym (ordered_more images order k less))
    ∙ ap (λ (n : ℕ). bytes_of (in_order images (take n order))) (sym (add-one k)))

-- the room that is left
pub less_room : (count k size room later : ℕ) (bytes : List ℕ) → k < count → length bytes ≡ size → (count - k) * size ≤ room → room ≤ later + length bytes → (count - (k + 1)) * size ≤ later
less_room count k size room later bytes less long enough used =
    fewer (count - (k + 1)) (count - k) size room later (omega arith) enough (subst (λ (n : ℕ). room ≤ later + n) long used)
  where
    fewer : (left all size room later : ℕ) → all ≡ left + 1 → all * size ≤ room → room ≤ later + size → left * size ≤ later
    fewer left all size room later is enough used = let one : all * size ≡ left * size + size = ap (λ (n : ℕ). n * size) is ∙ step left size in omega arith
      where
        step : (left size : ℕ) → (left + 1) * size ≡ left * size + size
        step left size = grind arith

-- images are cut out of their bytes, each of so many
pub images_back : (images : List PageImage) (size : ℕ) → All (λ image. length image.bytes ≡ size) images → images_in size (page_numbers images) (bytes_of images) ≡ images
images_back [] size whole = refl
images_back (image ∷ images) size whole =
    let long = All-head (λ (one : PageImage). length one.bytes ≡ size) image images whole in
    let front : take size (image.bytes ++ bytes_of images) ≡ image.bytes = take_at image.bytes (bytes_of images) size long in
    let rest : images_in size (page_numbers images) (drop size (image.bytes ++ bytes_of images)) ≡ images =
    ap (λ (list : List ℕ). images_in size (page_numbers images) list) (drop_at image.bytes (bytes_of images) size long)
    ∙ images_back images size (All-tail (λ (one : PageImage). length one.bytes ≡ size) image images whole) in
    λ i. (record { page = image.page; bytes = front i }) ∷ rest i

-- what is kept of a commit's pages is its images
pub kept_back : (first : List ℕ) (changed : List PageImage) (order : List ℕ) (size : ℕ) (pages bytes : List ℕ) → length first ≡ size → All (λ place. place < length changed) order
    → All (λ image. length image.bytes ≡ size) changed → pages ≡ 1 ∷ page_numbers (in_order changed order) → bytes ≡ first ++ bytes_of (in_order changed order)
    → images_in size pages bytes ≡ images_of first changed order
kept_back first changed order size pages bytes long places whole pages_are bytes_are =
    (λ i. images_in size (pages_are i) (bytes_are i))
    ∙ images_back (images_of first changed order) size
    (All-cons (λ (image : PageImage). length image.bytes ≡ size) (record { page = 1; bytes = first }) (in_order changed order) long
    (all_in_order (λ (image : PageImage). length image.bytes ≡ size) changed order whole places))

-- A plain transaction's pages are laid as they are: no number and no pointer changes.
use Rattle.std.proofs.Common.{◌≡◌, ℕ, List, [], ◌∷◌, ◌++◌, Bool, length, refl, ap, ap₂, ◌∙◌, eq-eqb}
use Rattle.std.specs.Prelude.{◌==◌, if◌then◌else◌}
use Rattle.page_spec.specs.Bytes.{u32_at}
use Rattle.page_spec.specs.PageMap.{PageMap}
use Rattle.engine_spec.specs.declared.commits.Mode.{Mode}
use Rattle.engine_spec.specs.declared.commits.Mode.TheVariants.{Plain}
use Rattle.engine_spec.specs.declared.commits.PageImage.{PageImage}
use Rattle.engine_spec.specs.Change.{Change}
use Rattle.relocate_spec.specs.Numbers.{new_number, numbers_of}
use Rattle.relocate_spec.specs.Pointers.{pointer_places}
use Rattle.relocate_spec.specs.Renumbered.{with_number, number_renumbered, renumbered_at, page_renumbered, image_renumbered, renumbered}
use Rattle.relocate_spec.specs.Whole.{usable_of, laid_new, given_by, names, pages_put}
use Rattle.relocate_spec.proofs.Numbers.{all_keep}

-- where every page keeps its number, no byte changes
bytes_keep : (name : ℕ → ℕ) (places : List ℕ) (bytes : List ℕ) → ((n : ℕ) → name n ≡ n) → renumbered_at name places bytes ≡ bytes
bytes_keep name [] bytes keeps = refl
bytes_keep name (at ∷ places) bytes keeps =
    bytes_keep name places (number_renumbered name at bytes) keeps
    ∙ ap (λ (b : Bool). if b then bytes else with_number bytes at (name (u32_at bytes at))) (eq-eqb (name (u32_at bytes at)) (u32_at bytes at) (keeps (u32_at bytes at)))

image_keeps : (name : ℕ → ℕ) (usable : ℕ) (image : PageImage) → ((n : ℕ) → name n ≡ n) → image_renumbered name usable image ≡ image
image_keeps name usable image keeps =
    let bytes = bytes_keep name (pointer_places usable (image.page == 1) image.bytes) image.bytes keeps in
    λ i. record { page = keeps image.page i; bytes = bytes i }

pub images_keep : (name : ℕ → ℕ) (usable : ℕ) (images : List PageImage) → ((n : ℕ) → name n ≡ n) → renumbered name usable images ≡ images
images_keep name usable [] keeps = refl
images_keep name usable (image ∷ images) keeps = ap₂ ◌∷◌ (image_keeps name usable image keeps) (images_keep name usable images keeps)

-- every page keeps its number in a plain transaction's commit
pub plain_names : (pages : PageMap) (change : Change) → change.mode ≡ Plain → (page : ℕ) → names pages change page ≡ page
plain_names pages change plain page =
    ap (λ (mode : Mode). new_number (numbers_of (laid_new change)) (given_by mode (length pages) (numbers_of (laid_new change))) page) plain
    ∙ all_keep (numbers_of (laid_new change)) page

-- and its pages are put over the map as they are
pub plain_laid : (pages : PageMap) (change : Change) → change.mode ≡ Plain → pages_put pages change ≡ change.changed ++ laid_new change
plain_laid pages change plain = ap₂ ◌++◌
    (images_keep (names pages change) (usable_of pages) change.changed (plain_names pages change plain))
    (images_keep (names pages change) (usable_of pages) (laid_new change) (plain_names pages change plain))

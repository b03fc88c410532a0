-- What putting an image above a mark does to both layers.
use Rattle.std.proofs.Common.{◌≡◌, ◌∙◌, ℕ, ◌+◌, ◌<◌, ◌≤◌, List, [], ◌∷◌, ◌++◌, length, set, Ok, Err, refl, sym, subst, ap, arith, length-set, length-append}
use Rattle.std.specs.List.{insert}
use Rattle.std.proofs.lemmas.List.Edits.{length-insert}
use Rattle.std.proofs.lemmas.List.{length-map}
use Rattle.engine_spec.specs.declared.commits.PageImage.{PageImage}
use Rattle.overlay.specs.Places.{image_numbers, RisesFrom, IsPlace}
use Rattle.overlay.specs.Images.{with_put, merged}
use Rattle.overlay.specs.Layers.{AreLayers}
use Rattle.overlay.proofs.ImageLaws.{of_page, rises_put, merged_put}
use Rattle.overlay.proofs.Searching.{put_there, put_new}

module _ (below above : List PageImage) (room page at : ℕ) (bytes : List ℕ) (layers : AreLayers below above room) (some : 0 < page) where
  -- an image set above
  pub layers_set : IsPlace (image_numbers above) page (Ok at) → AreLayers below (set above at (of_page page bytes)) room
  layers_set place = record {
    kept = layers.kept;
    since = subst (λ (all : List PageImage). RisesFrom 0 (image_numbers all)) (sym (put_there 0 above page at bytes layers.since place))
        (rises_put 0 above page bytes layers.since some);
    fits = (let fits = layers.fits in omega (arith, length-set above at (of_page page bytes)));
  }

  pub merged_set : IsPlace (image_numbers above) page (Ok at) → merged below (set above at (of_page page bytes)) ≡ with_put (merged below above) page bytes
  merged_set place =
      ap (λ (all : List PageImage). merged below all) (put_there 0 above page at bytes layers.since place)
      ∙ merged_put below above page bytes layers.kept layers.since some

  -- an image inserted above
  pub layers_insert : (more : ℕ) → length above + 1 ≤ more → IsPlace (image_numbers above) page (Err at)
      → AreLayers below (insert above at (of_page page bytes)) more
  layers_insert more fits place = record {
    kept = layers.kept;
    since = subst (λ (all : List PageImage). RisesFrom 0 (image_numbers all)) (sym (put_new above page at bytes place))
        (rises_put 0 above page bytes layers.since some);
    fits = (let within : at ≤ length above = omega (arith, place.0, length-map above (λ (image : PageImage). image.page)) in
        omega (arith, length-insert above at (of_page page bytes) within));
  }

  pub merged_insert : IsPlace (image_numbers above) page (Err at) → merged below (insert above at (of_page page bytes)) ≡ with_put (merged below above) page bytes
  merged_insert place =
      ap (λ (all : List PageImage). merged below all) (put_new above page at bytes place)
      ∙ merged_put below above page bytes layers.kept layers.since some

-- layers with as much room
pub layers_room : (below above : List PageImage) (room more : ℕ) → room ≤ more → AreLayers below above room → AreLayers below above more
layers_room below above room more fits layers = record { kept = layers.kept; since = layers.since; fits = (let before = layers.fits in omega arith) }

-- the pages rise without the last one
rises_front : (low : ℕ) (pages : List ℕ) (last : ℕ) → RisesFrom low (pages ++ last ∷ []) → RisesFrom low pages
rises_front low [] last rises = tt
rises_front low (page ∷ pages) last rises = (rises.0, rises_front page pages last rises.1)

-- the last of them is above
last_above : (low : ℕ) (pages : List ℕ) (last : ℕ) → RisesFrom low (pages ++ last ∷ []) → low < last
last_above low [] last rises = rises.0
last_above low (page ∷ pages) last rises = (let more = last_above page pages last rises.1 in let first = rises.0 in omega arith)

-- the numbers of images with one more
pages_more : (images : List PageImage) (image : PageImage) → image_numbers (images ++ image ∷ []) ≡ image_numbers images ++ image.page ∷ []
pages_more [] image = refl
pages_more (first ∷ images) image = ap (λ (rest : List ℕ). first.page ∷ rest) (pages_more images image)

-- the last image above goes below
pub layers_last : (below above : List PageImage) (room more : ℕ) (image : PageImage) → AreLayers below (above ++ image ∷ []) room
    → room ≤ more + 1 → AreLayers (with_put below image.page image.bytes) above more
layers_last below above room more image layers fits =
    let rises = subst (RisesFrom 0) (pages_more above image) layers.since in
    record {
      kept = rises_put 0 below image.page image.bytes layers.kept (last_above 0 (image_numbers above) image.page rises);
      since = rises_front 0 (image_numbers above) image.page rises;
      fits = (let before = layers.fits in omega (arith, length-append above (image ∷ [])));
    }

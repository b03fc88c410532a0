-- Images that fit, one by one.
use Rattle.std.proofs.Common.{◌≡◌, ◌∙◌, ◌≤◌, ◌<◌, List, [], ◌∷◌, ◌++◌, length, sym, arith, All, length-append}
use Rattle.std.specs.Prelude.{◌≢◌}
use Rattle.std.proofs.lemmas.List.{get_or-map, length-map}
use Rattle.std.proofs.lemmas.List.Elements.{All-nil, All-cons, All-append}
use Rattle.std.proofs.lemmas.List.Quantifiers.{all_pairs_push}
use Rattle.engine_spec.specs.declared.commits.PageImage.{PageImage}
use Rattle.engine_spec.specs.PageSet.{AreDifferent}
use Rattle.laying.specs.Order.{no_image, page_numbers}
use Rattle.laying_tests.specs.Fit.{AreFit}

pub none_fit : AreFit []
none_fit = record {
  few = omega arith;
  least = All-nil (λ (image : PageImage). 1 ≤ image.page);
  whole = All-nil (λ (image : PageImage). length image.bytes ≡ 512);
  different = λ i j d before within. absurd (omega arith);
}

pub one_more : (images : List PageImage) (image : PageImage) → AreFit images → length images < 100 → 1 ≤ image.page
    → length image.bytes ≡ 512 → All (λ one. one.page ≢ image.page) images → AreFit (images ++ image ∷ [])
one_more images image fit few low whole new = record {
  few = omega (arith, length-append images (image ∷ []));
  least = All-append (λ (image : PageImage). 1 ≤ image.page) images (image ∷ []) fit.least
      (All-cons (λ (image : PageImage). 1 ≤ image.page) image [] low (All-nil (λ (image : PageImage). 1 ≤ image.page)));
  whole = All-append (λ (image : PageImage). length image.bytes ≡ 512) images (image ∷ []) fit.whole
      (All-cons (λ (image : PageImage). length image.bytes ≡ 512) image [] whole (All-nil (λ (image : PageImage). length image.bytes ≡ 512)));
  different = all_pairs_push (λ one other. one.page ≢ other.page) images image fit.different (λ k d within. new k d within);
}

pub are_different : (images : List PageImage) → AreFit images → AreDifferent (page_numbers images)
are_different images fit i j before within same =
    let inside : j < length images = omega (arith, length-map images (λ (image : PageImage). image.page)) in
    fit.different i j no_image before inside
    (sym (get_or-map (λ (image : PageImage). image.page) images i no_image 0 (omega arith)) ∙ same
    ∙ get_or-map (λ (image : PageImage). image.page) images j no_image 0 inside)

-- A change stays in order.
use Rattle.std.proofs.Common.{◌≡◌, ◌∙◌, ℕ, suc, ◌+◌, ◌<◌, ◌≤◌, ◌^◌, Bool, List, [], ◌∷◌, ◌++◌, length, replicate, refl, sym, subst, ap, inl, inr, arith, length-append}
use Rattle.std.specs.Prelude.{All, ◌⊎◌}
use Rattle.std.proofs.lemmas.Bool.{cases_order}
use Rattle.std.proofs.lemmas.List.Elements.{All-nil, All-weaker, All-contains, All-contains_itself}
use Rattle.std.specs.Prelude.{Contains}
use Rattle.engine_spec.specs.declared.commits.Mode.{Mode}
use Rattle.engine_spec.specs.declared.commits.PageImage.{PageImage}
use Rattle.engine_spec.specs.Change.{Change}
use Rattle.engine_spec.specs.PageSet.{with_page}
use Rattle.engine_spec.proofs.PageSets.{with_cases}
use Rattle.overlay.specs.Places.{image_numbers, AreNumbered}
use Rattle.overlay.specs.Images.{with_put}
use Rattle.overlay.specs.Overlay.{no_change, last_page, with_new, with_freed_page, IsChangeInOrder}
use Rattle.overlay.proofs.ImageLaws.{of_page, put_same, put_after, rises_put, all_put}
use Rattle.overlay.proofs.FreedLaws.{rises_with}

-- nothing was changed
pub nothing_in_order : (mode : Mode) (base : ℕ) → base < 2 ^ 32 → IsChangeInOrder (no_change mode base)
nothing_in_order mode base few = record {
  changed = tt;
  within = All-nil (λ (image : PageImage). image.page ≤ base);
  fresh = tt;
  freed = tt;
  there = All-nil (λ (page : ℕ). page ≤ last_page (no_change mode base));
  few = omega arith;
}

-- an image of a page that is there put among images that are numbered
numbered_put : (base : ℕ) (images : List PageImage) (page : ℕ) (bytes : List ℕ) → AreNumbered base (image_numbers images) → base < page
    → page ≤ base + length images
    → AreNumbered base (image_numbers (with_put images page bytes)) × (length (with_put images page bytes) ≡ length images)
numbered_put base [] page bytes numbered past within = absurd (omega arith)
numbered_put base (image ∷ images) page bytes numbered past within =
    let first = numbered.0 in
    elim (cases_order page image.page) [
      | inl same ↦ rw (put_same image images page bytes same) ((same ∙ first, numbered.1), refl)
      | inr (inl below) ↦ absurd (omega arith)
      | inr (inr above) ↦
          (let rest = numbered_put (base + 1) images page bytes numbered.1 (omega arith) (omega arith) in
          rw (put_after image images page bytes above) ((first, rest.0), ap suc rest.1))
    ]

-- an image of the page behind the last one follows them
pub put_last : (base : ℕ) (images : List PageImage) (bytes : List ℕ) → AreNumbered base (image_numbers images)
    → with_put images (base + length images + 1) bytes ≡ images ++ of_page (base + length images + 1) bytes ∷ []
put_last base [] bytes numbered = refl
put_last base (image ∷ images) bytes numbered =
    let first = numbered.0 in
    let same : base + 1 + length images + 1 ≡ base + length (image ∷ images) + 1 = omega arith in
    put_after image images (base + length (image ∷ images) + 1) bytes (omega arith)
    ∙ subst (λ (n : ℕ). image ∷ with_put images n bytes ≡ image ∷ (images ++ of_page n bytes ∷ [])) same
    (ap (λ (rest : List PageImage). image ∷ rest) (put_last (base + 1) images bytes numbered.1))

-- with which they are numbered
numbered_more : (base : ℕ) (images : List PageImage) (bytes : List ℕ) → AreNumbered base (image_numbers images)
    → AreNumbered base (image_numbers (images ++ of_page (base + length images + 1) bytes ∷ []))
numbered_more base [] bytes numbered = (omega arith, tt)
numbered_more base (image ∷ images) bytes numbered =
    let same : base + 1 + length images + 1 ≡ base + length (image ∷ images) + 1 = omega arith in (
      numbered.0,
      subst (λ (n : ℕ). AreNumbered (base + 1) (image_numbers (images ++ of_page n bytes ∷ []))) same (numbered_more (base + 1) images bytes numbered.1),
    )

-- a page of the snapshot is put
pub changed_in_order : (change : Change) (page : ℕ) (bytes : List ℕ) (tail : Bool) → 1 ≤ page → page ≤ change.base → IsChangeInOrder change
    → IsChangeInOrder (record change { changed = with_put change.changed page bytes; tail = tail })
changed_in_order change page bytes tail some within order = record {
  changed = rises_put 0 change.changed page bytes order.changed some;
  within = all_put (λ (image : PageImage). image.page ≤ change.base) change.changed page bytes order.within within;
  fresh = order.fresh;
  freed = order.freed;
  there = order.there;
  few = order.few;
}

-- a new page is put
pub fresh_in_order : (change : Change) (page : ℕ) (bytes : List ℕ) → change.base < page → page ≤ last_page change → IsChangeInOrder change
    → IsChangeInOrder (record change { fresh = with_put change.fresh page bytes }) × (length (with_put change.fresh page bytes) ≡ length change.fresh)
fresh_in_order change page bytes past within order =
    let put = numbered_put change.base change.fresh page bytes order.fresh past within in
    let count = put.1 in (
      record {
        changed = order.changed;
        within = order.within;
        fresh = put.0;
        freed = order.freed;
        there = subst (λ (n : ℕ). All (λ freed. freed ≤ change.base + n) change.freed) (sym count) order.there;
        few = (let few = order.few in omega arith);
      },
      count,
    )

-- a page is made
pub new_in_order : (change : Change) (size : ℕ) → last_page change + 1 < 2 ^ 32 → IsChangeInOrder change
    → IsChangeInOrder (with_new change size) × (length (with_new change size).fresh ≡ length change.fresh + 1)
new_in_order change size few order =
    let last = put_last change.base change.fresh (replicate size 0) order.fresh in
    let more : length (with_new change size).fresh ≡ length change.fresh + 1 =
    ap length last ∙ length-append change.fresh (of_page (last_page change + 1) (replicate size 0) ∷ []) in (
      record {
        changed = order.changed;
        within = order.within;
        fresh = subst (λ (images : List PageImage). AreNumbered change.base (image_numbers images)) (sym last)
            (numbered_more change.base change.fresh (replicate size 0) order.fresh);
        freed = order.freed;
        there = All-weaker (λ (page : ℕ). page ≤ last_page change) (λ (page : ℕ). page ≤ last_page (with_new change size))
            (λ page low. omega (arith, low, more)) change.freed order.there;
        few = omega (arith, few, more);
      },
      more,
    )

-- a page is given up
pub freed_in_order : (change : Change) (page : ℕ) → 2 ≤ page → page ≤ last_page change → IsChangeInOrder change → IsChangeInOrder (with_freed_page change page)
freed_in_order change page some within order = record {
  changed = order.changed;
  within = order.within;
  fresh = order.fresh;
  freed = rises_with 1 change.freed page order.freed some;
  there = All-weaker (Contains (with_page change.freed page)) (λ (p : ℕ). p ≤ last_page change)
      (λ p there. bound p (with_cases change.freed page p there)) (with_page change.freed page) (All-contains_itself (with_page change.freed page));
  few = order.few;
}
  where
    bound : (p : ℕ) → (p ≡ page) ⊎ Contains change.freed p → p ≤ last_page change
    bound p (inl same) = omega (arith, same, within)
    bound p (inr there) = All-contains (λ (q : ℕ). q ≤ last_page change) change.freed p order.there there

-- The pages that a commit of page lines writes: page 1 and the changed ones, in rising order. So does each engine's commit.
use Rattle.std.proofs.Common.{◌≡◌, ℕ, ◌+◌, ◌<◌, ◌≤◌, List, [], ◌∷◌, length, map, get_or, suc, refl, sym, subst, ap, ◌∙◌, inl, inr, arith, Contains, Option, Some}
use Rattle.std.proofs.lemmas.Option.{slice_get-get_or, get_or_from_slice_get}
use Rattle.std.specs.List.Sorted.{IsStrictlyIncreasing}
use Rattle.page_spec.specs.PageMap.{PageMap}
use Rattle.engine_spec.specs.declared.commits.PageImage.{PageImage}
use Rattle.engine_spec.specs.Change.{Change}
use Rattle.engine_spec.specs.Written.{Writes, pages_with}
use Rattle.engine_spec.proofs.PageSets.{rises_far}
use Rattle.engine_spec.proofs.Conflicts.{contains_cases, contains_more}
use Rattle.engine_spec.proofs.WrittenSets.{pages_keep, pages_have, writes_changed}
use Rattle.page_lines.specs.World.{pages_written}

-- page 1 and each changed page are written
pub written_covers : (images : List PageImage) (page : ℕ) → Contains (1 ∷ map (λ image. image.page) images) page
    → Contains (pages_written images) page
written_covers images page there =
    let changed = map (λ (image : PageImage). image.page) images in
    elim (contains_cases 1 page changed there) [
      | inl same ↦ pages_keep (1 ∷ []) changed page (0, omega arith, same)
      | inr later ↦ pages_have (1 ∷ []) changed page later
    ]

-- where a number stands, whatever is read past the end
read_at : (numbers : List ℕ) (n k : ℕ) → k < length numbers → get_or numbers k n ≡ n → get_or numbers k 0 ≡ n
read_at numbers n k within is = get_or_from_slice_get numbers k n 0 (slice_get-get_or numbers k n within ∙ ap Some is)

-- the first number of a rising list is the least
least : (first : ℕ) (numbers : List ℕ) (n : ℕ) → IsStrictlyIncreasing (first ∷ numbers) → Contains (first ∷ numbers) n → first ≤ n
least first numbers n rises (k, within, is) =
    let far : first ≤ get_or (first ∷ numbers) k 0 = rises_far (first ∷ numbers) rises 0 k (omega arith) within in
    let here : get_or (first ∷ numbers) k 0 ≡ n = read_at (first ∷ numbers) n k within is in
    omega (arith, far, here)

-- what follows it is above
above : (first : ℕ) (numbers : List ℕ) (n : ℕ) → IsStrictlyIncreasing (first ∷ numbers) → Contains numbers n → first < n
above first numbers n rises (k, within, is) =
    let next : first < get_or numbers 0 0 = rises 0 (omega (arith, within)) in
    let far : get_or numbers 0 0 ≤ get_or numbers k 0 = rises_far (first ∷ numbers) rises 1 (suc k) (omega arith) (omega (arith, within)) in
    let here : get_or numbers k 0 ≡ n = read_at numbers n k within is in
    omega (arith, next, far, here)

rest_rises : (first : ℕ) (numbers : List ℕ) → IsStrictlyIncreasing (first ∷ numbers) → IsStrictlyIncreasing numbers
rest_rises first numbers rises = λ k within.
    let next : suc k + 1 ≡ suc (k + 1) = omega arith in
    subst (λ (m : ℕ). get_or numbers k 0 < get_or (first ∷ numbers) m 0) next (rises (suc k) (omega (arith, within)))

-- rising lists of the same numbers are the same
pub same_set : (some others : List ℕ) → IsStrictlyIncreasing some → IsStrictlyIncreasing others
    → ((n : ℕ) → Contains some n → Contains others n) → ((n : ℕ) → Contains others n → Contains some n) → some ≡ others
same_set [] [] rise rise' to from = refl
same_set [] (other ∷ others) rise rise' to from = absurd (let there = from other (0, omega arith, refl) in omega (arith, there.1))
same_set (one ∷ some) [] rise rise' to from = absurd (let there = to one (0, omega arith, refl) in omega (arith, there.1))
same_set (one ∷ some) (other ∷ others) rise rise' to from =
    let low = least other others one rise' (to one (0, omega arith, refl)) in
    let high = least one some other rise (from other (0, omega arith, refl)) in
    let same : one ≡ other = omega (arith, low, high) in
    let onward : (n : ℕ) → Contains some n → Contains others n =
    λ n there. elim (contains_cases other n others (to n (contains_more one n some there))) [
      | inl here ↦ absurd (let more = above one some n rise there in omega (arith, more, here, same))
      | inr later ↦ later
    ] in
    let back : (n : ℕ) → Contains others n → Contains some n =
    λ n there. elim (contains_cases one n some (from n (contains_more other n others there))) [
      | inl here ↦ absurd (let more = above other others n rise' there in omega (arith, more, here, same))
      | inr later ↦ later
    ] in
    ap (λ n. n ∷ some) same
    ∙ ap (λ numbers. other ∷ numbers) (same_set some others (rest_rises one some rise) (rest_rises other others rise') onward back)

-- an engine's commit of page lines, which makes and frees no page, writes these pages
pub writes_is : (newest : Option PageMap) (size : ℕ) (change : Change) (pages : List ℕ) → change.fresh ≡ [] → change.freed ≡ []
    → Writes newest size change pages → pages ≡ pages_written change.changed
writes_is newest size change pages no_fresh no_freed writes =
    let ours = writes_changed newest size change no_fresh in
    let trunks : writes.trunk_pages ≡ ours.trunk_pages = writes.none no_fresh no_freed ∙ sym (ours.none no_fresh no_freed) in
    same_set pages (pages_written change.changed) writes.rising ours.rising
    (λ n there. (ours.same n).1 (subst (λ (trunk : List ℕ). Contains (pages_with size change trunk) n) trunks ((writes.same n).0 there)))
    (λ n there. (writes.same n).1 (subst (λ (trunk : List ℕ). Contains (pages_with size change trunk) n) (sym trunks) ((ours.same n).0 there)))

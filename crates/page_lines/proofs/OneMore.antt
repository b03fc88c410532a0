-- The places of a list, and of one with an element more.
use Rattle.std.proofs.Common.{◌≡◌, ℕ, ◌<◌, List, [], ◌∷◌, ◌++◌, length, get_or, Some, sym, ap, ◌∙◌, inl, inr, arith, length-append}
use Rattle.std.specs.Prelude.{slice_get}
use Rattle.std.proofs.lemmas.Option.{slice_get-get_or, get_or_from_slice_get, slice_get_cases, slice_get_within}
use Rattle.std.proofs.lemmas.List.{get_or_append_left}
use Rattle.std.proofs.Math.Seq.{get_or-append_seam}

-- what stands inside a list is found
pub found_at : {X : Type 0} (xs : List X) (k : ℕ) → k < length xs → (x : X) × (slice_get xs k ≡ Some x)
found_at xs k within =
    elim ((slice_get_cases xs k).1) [ inl here ↦ (here.0, here.2) | inr past ↦ absurd (let bound = past.0 in omega arith) ]

-- an element of a list with one more that is not the last
pub front_of : {X : Type 0} (xs : List X) (x : X) (k : ℕ) (y : X) → k < length xs → slice_get (xs ++ x ∷ []) k ≡ Some y
    → slice_get xs k ≡ Some y
front_of xs x k y within found =
    slice_get-get_or xs k y within
    ∙ ap Some (sym (get_or_append_left xs (x ∷ []) y k within) ∙ get_or_from_slice_get (xs ++ x ∷ []) k y y found)

-- and the last
pub last_of : {X : Type 0} (xs : List X) (x : X) (k : ℕ) (y : X) → k ≡ length xs → slice_get (xs ++ x ∷ []) k ≡ Some y → y ≡ x
last_of xs x k y last found =
    sym (get_or_from_slice_get (xs ++ x ∷ []) k y y found)
    ∙ (ap (λ (m : ℕ). get_or (xs ++ x ∷ []) m y) last ∙ get_or-append_seam xs x [] y)

-- the first of a list with one more stays the first
pub first_stays : {X : Type 0} (xs : List X) (x first : X) → slice_get xs 0 ≡ Some first → slice_get (xs ++ x ∷ []) 0 ≡ Some first
first_stays xs x first found =
    let within : 0 < length xs = slice_get_within xs 0 first found in
    slice_get-get_or (xs ++ x ∷ []) 0 first (omega (arith, length-append xs (x ∷ [])))
    ∙ ap Some (get_or_append_left xs (x ∷ []) first 0 within ∙ get_or_from_slice_get xs 0 first first found)

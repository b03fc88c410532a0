-- The last of a list.
use Rattle.std.proofs.Common.{◌≡◌, ℕ, suc, ◌+◌, ◌≤◌, List, [], ◌∷◌, ◌++◌, length, refl, sym, ap, ◌∙◌, arith}
use Rattle.std.specs.Prelude.{slice_index_or, slice_set}
use Rattle.std.proofs.Math.Seq.{set-append_seam, get_or-append_seam}
use Rattle.std.proofs.lemmas.List.{length-append}

pub record Cut {X : Type 0} (list : List X) : Type 0 where
  pub above : List X
  pub top : X
  pub is : list ≡ above ++ top ∷ []

pub cut_last : {X : Type 0} (list : List X) → 1 ≤ length list → Cut list
cut_last [] some = absurd (omega (arith, some))
cut_last (x ∷ []) some = record { above = []; top = x; is = refl }
cut_last (x ∷ (y ∷ ys)) some =
    let rest = cut_last (y ∷ ys) (omega arith) in
    record { above = x ∷ rest.above; top = rest.top; is = ap (λ l. x ∷ l) rest.is }

pub at_last : {X : Type 0} (list above : List X) (top d : X) (rest : List X) (i : ℕ) → list ≡ above ++ top ∷ rest → i ≡ length above → slice_index_or list i d ≡ top
at_last list above top d rest i is place =
    ap (λ l. slice_index_or l i d) is ∙ ap (λ n. slice_index_or (above ++ top ∷ rest) n d) place ∙ get_or-append_seam above top rest d

pub put_last : {X : Type 0} (list above : List X) (top x : X) (rest : List X) (i : ℕ) → list ≡ above ++ top ∷ rest → i ≡ length above
    → slice_set list i x ≡ above ++ x ∷ rest
put_last list above top x rest i is place =
    ap (λ l. slice_set l i x) is ∙ ap (λ n. slice_set (above ++ top ∷ rest) n x) place ∙ set-append_seam above top rest x

pub count_last : {X : Type 0} (list above : List X) (top : X) → list ≡ above ++ top ∷ [] → length list ≡ suc (length above)
count_last list above top is = omega (arith, ap length is, length-append above (top ∷ []))

pub plus_one : (n : ℕ) → n + 1 ≡ suc n
plus_one n = omega arith

-- a list ends in one way
pub same_last : {X : Type 0} (above other : List X) (top last : X) → above ++ top ∷ [] ≡ other ++ last ∷ [] → top ≡ last
same_last above other top last is =
    let count : length above ≡ length other = omega (arith, count_last (above ++ top ∷ []) other last is, length-append above (top ∷ [])) in
    sym (at_last (above ++ top ∷ []) above top top [] (length above) refl refl) ∙ at_last (above ++ top ∷ []) other last top [] (length above) is count

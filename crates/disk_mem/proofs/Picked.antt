-- What a crash leaves of one file.
use Rattle.std.proofs.Common.{◌≡◌, ℕ, zero, suc, ◌+◌, ◌<◌, Bool, false, cond, List, [], ◌∷◌, length, drop, refl, ◌∙◌, ap, add-one, drop-cons, slice_index_or}
use Rattle.std.proofs.Math.ListN.{get_or}
use Rattle.disk_mem.specs.Crash.{picked}

pub length-picked : (marks : List Bool) (bytes pick : List ℕ) → length (picked marks bytes pick) ≡ length bytes
length-picked [] bytes pick = refl
length-picked (mark ∷ marks) [] pick = refl
length-picked (mark ∷ marks) (byte ∷ bytes) pick = ap suc (length-picked marks bytes (cond mark (drop 1 pick) pick))

-- a byte without a mark stands
pub picked_stands : (marks : List Bool) (bytes pick : List ℕ) (place : ℕ) → get_or marks place false ≡ false → get_or (picked marks bytes pick) place 0 ≡ get_or bytes place 0
picked_stands [] bytes pick place h = refl
picked_stands (mark ∷ marks) [] pick place h = refl
picked_stands (mark ∷ marks) (byte ∷ bytes) pick zero h = ap (λ b. cond b (get_or pick 0 byte) byte) h
picked_stands (mark ∷ marks) (byte ∷ bytes) pick (suc place) h = picked_stands marks bytes (cond mark (drop 1 pick) pick) place h

first_and_rest : {X : Type 0} (xs : List X) (place : ℕ) (d : X) → place < length xs → drop place xs ≡ get_or xs place d ∷ drop (place + 1) xs
first_and_rest xs place d h = rw (add-one, drop-cons xs place d)

-- one place more of a loop over the places
pub picked_step : (marks : List Bool) (bytes pick : List ℕ) (place : ℕ) → place < length bytes → place < length marks
    → picked (drop place marks) (drop place bytes) pick
    ≡ cond (get_or marks place false) (slice_index_or pick 0 (get_or bytes place 0)) (get_or bytes place 0)
    ∷ picked (drop (place + 1) marks) (drop (place + 1) bytes) (cond (get_or marks place false) (drop 1 pick) pick)
picked_step marks bytes pick place in_bytes in_marks =
    ap (λ ms. picked ms (drop place bytes) pick) (first_and_rest marks place false in_marks)
    ∙ ap (λ bs. picked (get_or marks place false ∷ drop (place + 1) marks) bs pick) (first_and_rest bytes place 0 in_bytes)

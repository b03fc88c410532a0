-- Pieces of a page: which bytes they have, and what they become where the page changes.
use Rattle.std.proofs.Common.{◌≡◌, ℕ, suc, ◌+◌, ◌<◌, ◌≤◌, List, [], ◌∷◌, length, get_or, All, refl, ◌∙◌, inl, inr, arith, ◌⊎◌}
use Rattle.std.proofs.lemmas.List.Sums.{sum_by-cons}
use Rattle.std.proofs.lemmas.Bool.Decides.{nat_tests}
use Rattle.node_spec.specs.Layout.{Piece, nowhere, hit, cover, Stands}

-- pieces are equal by their parts
pub same_piece : (a b : Piece) → a.start ≡ b.start → a.bytes ≡ b.bytes → a ≡ b
same_piece a b start bytes = λ i. record { start = start i; bytes = bytes i }

-- a piece that a write leaves
pub stands-kept : {old new : List ℕ} {from to : ℕ} {piece : Piece} → Stands old from to piece
    → ((j : ℕ) → from ≤ j → get_or new j 0 ≡ get_or old j 0) → (low : ℕ) → low ≤ from → Stands new low to piece
stands-kept s kept low below = record {
  low = omega (arith, s.low);
  high = s.high;
  some = s.some;
  same = λ k h. kept _ (omega (arith, s.low)) ∙ s.same k h;
}

-- a byte is in a piece once at most, and not at all outside it
pub hit_most : (k : ℕ) (piece : Piece) → hit k piece ≤ 1
unfolding hit
hit_most k piece = grind (arith, nat_tests)

pub hit_none : (k : ℕ) (piece : Piece) → (k < piece.start) ⊎ (piece.start + length piece.bytes ≤ k) → hit k piece ≡ 0
unfolding hit
hit_none k piece (inl h) = grind (arith, nat_tests)
hit_none k piece (inr h) = grind (arith, nat_tests)

pub hit_here : (k : ℕ) (piece : Piece) → piece.start ≤ k → k < piece.start + length piece.bytes → hit k piece ≡ 1
unfolding hit
hit_here k piece low high = grind (arith, nat_tests)

-- pieces that all lie in bounds have no byte outside
pub cover_none : (page : List ℕ) (from to : ℕ) (pieces : List Piece) → All (Stands page from to) pieces
    → (k : ℕ) → (k < from) ⊎ (to ≤ k) → cover pieces k ≡ 0
cover_none page from to [] all k out = refl
cover_none page from to (piece ∷ pieces) all k out =
    let s : Stands page from to piece = all 0 piece (omega arith) in
    let rest = cover_none page from to pieces (λ i d h. all (suc i) d (omega arith)) k out in
    let here : hit k piece ≡ 0 = hit_none k piece (elim out [
      | inl h ↦ inl (omega (arith, s.low))
      | inr h ↦ inr (omega (arith, s.high))
    ]) in
    omega (arith, sum_by-cons (hit k) piece pieces, here, rest)

hit_falls : (k : ℕ) (piece : Piece) → (piece.start ≡ k + 1 → ⊥) → hit (k + 1) piece ≤ hit k piece
unfolding hit
hit_falls k piece other = grind (arith, nat_tests)

-- Where no piece starts at a byte, no more pieces have it than have the one before it. So the least byte that is in two pieces is
-- where the later of the two starts.
pub cover_falls : (pieces : List Piece) (k : ℕ) → ((i : ℕ) → i < length pieces → (get_or pieces i nowhere).start ≡ k + 1 → ⊥)
    → cover pieces (k + 1) ≤ cover pieces k
cover_falls [] k none = omega arith
cover_falls (p ∷ ps) k none =
    let here = hit_falls k p (none 0 (omega arith)) in
    let rest = cover_falls ps k (λ i l. none (suc i) (omega arith)) in
    omega (arith, sum_by-cons (hit (k + 1)) p ps, sum_by-cons (hit k) p ps, here, rest)

-- Pieces put into a sink one after another.
use Rattle.std.proofs.Common.{◌≡◌, ℕ, ◌+◌, ◌-◌, ◌≤◌, List, ◌++◌, length, take, drop, Option, Some, None, sym, ap, ◌∙◌, subst, arith, append_assoc, length-drop}
use Rattle.std.proofs.Math.Seq.{take-add}
use Rattle.std.proofs.lemmas.List.{take_all}
use Rattle.disk_face.specs.Sink.{Puts}

pub Puts-more : (a b c : Option (List ℕ)) (xs ys : List ℕ) → Puts a xs b → Puts b ys c → Puts a (xs ++ ys) c
Puts-more None None None xs ys p q = tt
Puts-more None None (Some c) xs ys p q = q
Puts-more None (Some b) c xs ys p q = absurd p
Puts-more (Some a) None c xs ys p q = absurd p
Puts-more (Some a) (Some b) None xs ys p q = q
Puts-more (Some a) (Some b) (Some c) xs ys p q = q ∙ (ap (λ x. x ++ ys) p ∙ append_assoc a xs ys)

-- what is left of a piece
pub left_of : (piece : List ℕ) (n : ℕ) → take (length piece - n) (drop n piece) ≡ drop n piece
left_of piece n = take_all (length piece - n) (drop n piece) (omega (arith, length-drop n piece))

pub left_of-fits : (piece : List ℕ) (n count : ℕ) → n ≤ length piece → count ≤ length (take (length piece - n) (drop n piece)) → n + count ≤ length piece
left_of-fits piece n count some within = omega (arith, ap length (left_of piece n), length-drop n piece)

-- a further part of what is left of a piece was put
pub Puts-front : (a b c : Option (List ℕ)) (piece : List ℕ) (n count : ℕ) → Puts a (take n piece) b → Puts b (take count (take (length piece - n) (drop n piece))) c → Puts a (take (n + count) piece) c
Puts-front a b c piece n count p q =
    subst (λ x. Puts a x c) (sym (take-add n count piece))
    (Puts-more a b c (take n piece) (take count (drop n piece)) p (subst (λ x. Puts b (take count x) c) (left_of piece n) q))

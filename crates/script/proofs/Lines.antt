-- The lines of a script are its bytes, cut after each LF.
use Rattle.std.proofs.Common.{◌≡◌, ℕ, ◌+◌, ◌-◌, ◌≤◌, eqb, List, [], ◌∷◌, ◌++◌, length, length-take, refl, sym, ◌∙◌, ap, arith, inl, inr, ne_eqb}
use Rattle.std.specs.List.{concat}
use Rattle.std.proofs.lemmas.Bool.Decides.{nat_tests}
use Rattle.script.specs.Raw.{HasNoEnd, before_lines, raw_lines, ends_with_byte, but_last, text_of_raw}
use Rattle.script.proofs.Fronts.{tested}

pub concat-before_lines : (byte : ℕ) (lines : List (List ℕ)) → concat (before_lines byte lines) ≡ byte ∷ concat lines
concat-before_lines byte [] = refl
concat-before_lines byte (line ∷ lines) = refl

pub length-but_last : (bytes : List ℕ) → length bytes ≤ length (but_last bytes) + 1
length-but_last bytes = omega (arith, length-take (length bytes - 1) bytes)

-- joined end to end, the lines are the script
pub concat-raw_lines : (script : List ℕ) → concat (raw_lines script) ≡ script
unfolding raw_lines
concat-raw_lines [] = refl
concat-raw_lines (byte ∷ bytes) =
    elim (tested (eqb byte 10)) [
      | inl w ↦
          let end : byte ≡ 10 = grind (arith, nat_tests) in
          rw w (ap (λ x. 10 ∷ x) (concat-raw_lines bytes) ∙ ap (λ x. x ∷ bytes) (sym end))
      | inr w ↦ rw w (concat-before_lines byte (raw_lines bytes) ∙ ap (λ x. byte ∷ x) (concat-raw_lines bytes))
    ]

-- the first line is what stands up to the first LF
pub raw_lines-cons : (line rest : List ℕ) → HasNoEnd line → raw_lines (line ++ (10 ∷ rest)) ≡ (line ++ (10 ∷ [])) ∷ raw_lines rest
unfolding raw_lines
raw_lines-cons [] rest h = refl
raw_lines-cons (byte ∷ line) rest h = rw (ne_eqb byte 10 h.0) (ap (before_lines byte) (raw_lines-cons line rest h.1))

-- what stands after the last LF is a line too
pub raw_lines-last : (byte : ℕ) (line : List ℕ) → HasNoEnd (byte ∷ line) → raw_lines (byte ∷ line) ≡ (byte ∷ line) ∷ []
unfolding raw_lines
raw_lines-last byte [] h = rw (ne_eqb byte 10 h.0) refl
raw_lines-last byte (next ∷ line) h = rw (ne_eqb byte 10 h.0) (ap (before_lines byte) (raw_lines-last next line h.1))

-- a byte before the first line is the front of the first line
pub before_lines-front : (byte : ℕ) (lines : List (List ℕ)) → (more : List ℕ) × (others : List (List ℕ)) × (before_lines byte lines ≡ (byte ∷ more) ∷ others)
before_lines-front byte [] = ([], [], refl)
before_lines-front byte (line ∷ lines) = (line, lines, refl)

-- what has no LF is the front of the first line
pub raw_lines-front : (byte : ℕ) (front rest : List ℕ) → HasNoEnd (byte ∷ front) → (more : List ℕ) × (lines : List (List ℕ)) × (raw_lines (byte ∷ (front ++ rest)) ≡ (byte ∷ (front ++ more)) ∷ lines)
unfolding raw_lines
raw_lines-front byte [] rest h =
    let first = before_lines-front byte (raw_lines rest) in
    (first.0, first.1, rw (ne_eqb byte 10 h.0) first.2)
raw_lines-front byte (next ∷ front) rest h =
    let first = raw_lines-front next front rest h.1 in
    (first.0, first.1, rw (ne_eqb byte 10 h.0) (ap (before_lines byte) first.2))

-- the end of a line has at most two bytes
pub length-text_of_raw : (raw : List ℕ) → length raw ≤ length (text_of_raw raw) + 2
length-text_of_raw raw =
    let once = length-but_last raw in
    let twice = length-but_last (but_last raw) in
    elim (tested (ends_with_byte raw 10)) [
      | inl lf ↦ elim (tested (ends_with_byte (but_last raw) 13)) [
        | inl cr ↦ rw (lf, cr) (omega arith)
        | inr cr ↦ rw (lf, cr) (omega arith)
      ]
      | inr lf ↦ rw lf (omega arith)
    ]

-- A word's meaning stands in the part of the table that has its letter.
use Rattle.std.proofs.Common.{◌≡◌, ℕ, ◌<◌, ◌≤◌, Bool, true, false, ◌&&◌, if◌then◌else◌, List, [], ◌∷◌, ◌++◌, ◌⊎◌, inl, inr, refl, sym, ◌∙◌, ap, arith}
use Rattle.std.specs.Prelude.{◌==◌, nat_le}
use Rattle.std.specs.Char.{to_ascii_uppercase}
use Rattle.std.proofs.lemmas.Bool.{eqb-true, leb-true}
use Rattle.sql_lexemes.specs.declared.words.Meaning.{Meaning}
use Rattle.sql_lexemes.specs.declared.words.Meaning.TheVariants as m
use Rattle.sql_lexemes.specs.declared.lexeme.Word.TheVariants as w
use Rattle.sql_lexemes.specs.Words.{same_word, first_letter, look_up, a_to_c, d_to_i, j_to_n, o_to_r, s_to_z, meaning_of}

abbrev Table : Type 0
Table = List (List ℕ × Meaning)

abbrev other : Meaning
other = m.Word w.Other

-- a spelling begins with one of these letters
abbrev begins : ℕ → ℕ → List ℕ → Bool
begins low high [] = false
begins low high (letter ∷ spelling) = nat_le low letter && nat_le letter high

-- each spelling does
abbrev all_begin : ℕ → ℕ → Table → Bool
all_begin low high [] = true
all_begin low high (entry ∷ entries) = begins low high entry.0 && all_begin low high entries

both : (a b : Bool) → (a && b) ≡ true → (a ≡ true) × (b ≡ true)
both true b h = (refl, h)
both false b h = cc

abbrev Outside : ℕ → ℕ → ℕ → Type 0
Outside low high letter = (letter < low) ⊎ (high < letter)

far : (low high letter wanted : ℕ) → Outside low high letter → low ≤ wanted → wanted ≤ high → letter ≡ wanted → ⊥
far low high letter wanted (inl h) above below same = omega (arith, h, above, same)
far low high letter wanted (inr h) above below same = omega (arith, h, below, same)

module _ (byte : ℕ) (word : List ℕ) (low high : ℕ) (outside : Outside low high (to_ascii_uppercase byte)) where
  other_word : (spelling : List ℕ) → begins low high spelling ≡ true → same_word (byte ∷ word) spelling ≡ false
  unfolding same_word
  other_word [] h = refl
  other_word (letter ∷ spelling) h = by_cases (to_ascii_uppercase byte == letter) refl
    where
      by_cases : (b : Bool) → (to_ascii_uppercase byte == letter) ≡ b → ((to_ascii_uppercase byte == letter) && same_word word spelling) ≡ false
      by_cases false is = ap (λ b. b && same_word word spelling) is
      by_cases true is =
          let range = both (nat_le low letter) (nat_le letter high) h in
          absurd (far low high (to_ascii_uppercase byte) letter outside (leb-true low letter range.0) (leb-true letter high range.1) (eqb-true (to_ascii_uppercase byte) letter is))

  -- a part of other letters is passed over
  passed : (entries more : Table) → all_begin low high entries ≡ true → look_up (entries ++ more) (byte ∷ word) ≡ look_up more (byte ∷ word)
  passed [] more h = refl
  passed (entry ∷ entries) more h =
      let parts = both (begins low high entry.0) (all_begin low high entries) h in
      ap (λ b. if b then entry.1 else look_up (entries ++ more) (byte ∷ word)) (other_word entry.0 parts.0) ∙ passed entries more parts.1

  nowhere : (entries : Table) → all_begin low high entries ≡ true → look_up entries (byte ∷ word) ≡ other
  nowhere [] h = refl
  nowhere (entry ∷ entries) h =
      let parts = both (begins low high entry.0) (all_begin low high entries) h in
      ap (λ b. if b then entry.1 else look_up entries (byte ∷ word)) (other_word entry.0 parts.0) ∙ nowhere entries parts.1

  -- and nothing is found behind
  enough : (entries more : Table) → all_begin low high more ≡ true → look_up (entries ++ more) (byte ∷ word) ≡ look_up entries (byte ∷ word)
  enough [] more h = nowhere more h
  enough (entry ∷ entries) more h = ap (λ m. if same_word (byte ∷ word) entry.0 then entry.1 else m) (enough entries more h)

pub in_a_to_c : (word : List ℕ) → first_letter word ≤ 67 → look_up a_to_c word ≡ meaning_of word
unfolding meaning_of same_word
in_a_to_c [] below = refl
in_a_to_c (byte ∷ word) below = sym (enough byte word 68 90 (inl (omega (arith, below))) a_to_c (d_to_i ++ (j_to_n ++ (o_to_r ++ s_to_z))) refl)

pub in_d_to_i : (word : List ℕ) → 67 < first_letter word → first_letter word ≤ 73 → look_up d_to_i word ≡ meaning_of word
unfolding meaning_of
in_d_to_i [] above below = absurd (omega (arith, above))
in_d_to_i (byte ∷ word) above below =
    sym (passed byte word 65 67 (inr above) a_to_c (d_to_i ++ (j_to_n ++ (o_to_r ++ s_to_z))) refl
    ∙ enough byte word 74 90 (inl (omega (arith, below))) d_to_i (j_to_n ++ (o_to_r ++ s_to_z)) refl)

pub in_j_to_n : (word : List ℕ) → 73 < first_letter word → first_letter word ≤ 78 → look_up j_to_n word ≡ meaning_of word
unfolding meaning_of
in_j_to_n [] above below = absurd (omega (arith, above))
in_j_to_n (byte ∷ word) above below =
    sym (passed byte word 65 73 (inr above) a_to_c (d_to_i ++ (j_to_n ++ (o_to_r ++ s_to_z))) refl
    ∙ (passed byte word 65 73 (inr above) d_to_i (j_to_n ++ (o_to_r ++ s_to_z)) refl
    ∙ enough byte word 79 90 (inl (omega (arith, below))) j_to_n (o_to_r ++ s_to_z) refl))

pub in_o_to_r : (word : List ℕ) → 78 < first_letter word → first_letter word ≤ 82 → look_up o_to_r word ≡ meaning_of word
unfolding meaning_of
in_o_to_r [] above below = absurd (omega (arith, above))
in_o_to_r (byte ∷ word) above below =
    sym (passed byte word 65 78 (inr above) a_to_c (d_to_i ++ (j_to_n ++ (o_to_r ++ s_to_z))) refl
    ∙ (passed byte word 65 78 (inr above) d_to_i (j_to_n ++ (o_to_r ++ s_to_z)) refl
    ∙ (passed byte word 65 78 (inr above) j_to_n (o_to_r ++ s_to_z) refl
    ∙ enough byte word 83 90 (inl (omega (arith, below))) o_to_r s_to_z refl)))

pub in_s_to_z : (word : List ℕ) → 82 < first_letter word → look_up s_to_z word ≡ meaning_of word
unfolding meaning_of
in_s_to_z [] above = absurd (omega (arith, above))
in_s_to_z (byte ∷ word) above =
    sym (passed byte word 65 82 (inr above) a_to_c (d_to_i ++ (j_to_n ++ (o_to_r ++ s_to_z))) refl
    ∙ (passed byte word 65 82 (inr above) d_to_i (j_to_n ++ (o_to_r ++ s_to_z)) refl
    ∙ (passed byte word 65 82 (inr above) j_to_n (o_to_r ++ s_to_z) refl ∙ passed byte word 65 82 (inr above) o_to_r s_to_z refl)))

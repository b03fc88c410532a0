-- The one theorem on all grammars, from lexemes to the text and its places.
use Rattle.std.proofs.Common.{◌≡◌, ℕ, ◌+◌, ◌-◌, Bool, true, false, List, [], ◌++◌, length, get_or, Result, Ok, Err, IfOk, IfErr, refl, sym, ◌∙◌, ap, subst, arith}
use Rattle.std.proofs.lemmas.List.{length-append}
use Rattle.grammars.specs.Grammar.{Grammar, Derives}
use Rattle.grammars.specs.Exact.{GoesWrong, read_all}
use Rattle.grammars.specs.Lookahead.{Decides, Ends}
use Rattle.grammars.proofs.Exact.{all_sound, all_complete, all_wrong}
use Rattle.grammars.proofs.OnePlace.{one_place, derived_nowhere}
use Rattle.sql_lexemes.specs.declared.lexeme.Lexeme.{Lexeme}
use Rattle.sql_lexemes.specs.Lexemes.{lexemes_of, places_of}
use Rattle.sql_parse.specs.declared.text.ParseFault.{ParseFault}
use Rattle.sql_parse.specs.declared.text.ParseFault.TheVariants as fault
use Rattle.sql_parse.specs.Text.{begins_float, place_behind, GoesWrongAt, IsFault, IsRead, IsRefused, fault_of, fault_at, Follows}

front_length : (front rest : List Lexeme) → length (front ++ rest) - length rest ≡ length front
front_length front rest = omega (arith, length-append front rest)

module _ {A : Type 0} (g : Grammar Lexeme A) (text : List ℕ) where
  -- where the last lexemes from the place on are told, so is the fault there
  fault_there : (rest : List Lexeme) (at : ℕ) (float : Bool) → GoesWrong g (lexemes_of text) rest → GoesWrongAt g text at float
      → fault_at text (places_of text) (lexemes_of text) rest ≡ fault_of float at
  fault_there rest at float wrong (front, last, is, begun, stuck, at_is, float_is) =
      let same : rest ≡ last = one_place g (lexemes_of text) rest last wrong (front, is, begun, stuck) in
      let place : get_or (places_of text) (length (lexemes_of text) - length last) (length text) ≡ at =
      ap (λ n. get_or (places_of text) n (length text)) (ap (λ all. length all - length last) is ∙ front_length front last) ∙ sym at_is in
      ap (fault_at text (places_of text) (lexemes_of text)) same ∙ (λ i. fault_of (float_is i) (place i))

  -- A text goes wrong at one place alone, and what stands there is a number with a point or exponent, or it is not.
  pub one_fault : (one two : ℕ) (float other : Bool) → GoesWrongAt g text one float → GoesWrongAt g text two other → (one ≡ two) × (float ≡ other)
  one_fault one two float other (front, rest, is, begun, stuck, one_is, float_is) (front', rest', is', begun', stuck', two_is, other_is) =
      let same : rest ≡ rest' = one_place g (lexemes_of text) rest rest' (front, is, begun, stuck) (front', is', begun', stuck') in
      let fronts : length front ≡ length front' =
      sym (front_length front rest) ∙ (ap (λ all. length all - length rest) (sym is ∙ is') ∙ (ap (λ r. length (front' ++ rest') - length r) same ∙ front_length front' rest')) in
      (one_is ∙ (ap (λ n. get_or (places_of text) n (length text)) fronts ∙ sym two_is), sym float_is ∙ (ap begins_float same ∙ other_is))

  -- a text with a value goes wrong nowhere
  pub no_fault : (s : A) (at : ℕ) (float : Bool) → Derives g (lexemes_of text) s → GoesWrongAt g text at float → ⊥
  no_fault s at float derived (front, rest, is, begun, stuck, _, _) = derived_nowhere g (lexemes_of text) rest s derived (front, is, begun, stuck)

module _ {A : Type 0} (g : Grammar Lexeme A) (d : Decides g (λ _. false)) (e : Ends g) (text : List ℕ) where
  is_fault : (float : Bool) (at : ℕ) → GoesWrongAt g text at float → IsFault g text (fault_of float at)
  is_fault true at h = h
  is_fault false at h = h

  wrong_at : (rest : List Lexeme) → GoesWrong g (lexemes_of text) rest → IsFault g text (fault_at text (places_of text) (lexemes_of text) rest)
  wrong_at rest (front, is, begun, stuck) =
      is_fault (begins_float rest) _ (
        front,
        rest,
        is,
        begun,
        stuck,
        ap (λ n. get_or (places_of text) n (length text)) (ap (λ all. length all - length rest) is ∙ front_length front rest),
        refl,
      )

  not_wrong : (rest : List Lexeme) (s : A) → read_all g (lexemes_of text) ≡ Err rest → Derives g (lexemes_of text) s → ⊥
  not_wrong rest s h is = ok_err s rest (sym (all_complete g d (lexemes_of text) s is) ∙ h)
    where
      ok_err : (s : A) (rest : List Lexeme) → Ok s ≡ Err rest → ⊥
      ok_err s rest h = cc

  same_ok : (r : Result A (List Lexeme)) (s v : A) → r ≡ Ok s → r ≡ Ok v → v ≡ s
  same_ok r s v h k = cc

  module _ (lexemes : List Lexeme) (places : List ℕ) (is_lexemes : lexemes ≡ lexemes_of text) (is_places : places ≡ places_of text) (answer : Result A ParseFault)
      (h : Follows answer text places lexemes (read_all g lexemes)) where
    moved : Follows answer text (places_of text) (lexemes_of text) (read_all g (lexemes_of text))
    moved =
        subst (λ ps. Follows answer text ps (lexemes_of text) (read_all g (lexemes_of text))) is_places
        (subst (λ ls. Follows answer text places ls (read_all g ls)) is_lexemes h)

    pub text_derived : IfOk answer (λ s. Derives g (lexemes_of text) s)
    text_derived = from_read answer moved
      where
        from_read : (r : Result A ParseFault) → Follows r text (places_of text) (lexemes_of text) (read_all g (lexemes_of text)) → IfOk r (λ s. Derives g (lexemes_of text) s)
        from_read (Ok s) k = all_sound g d e (lexemes_of text) s k
        from_read (Err f) k = tt

    pub text_only : (s : A) → Derives g (lexemes_of text) s → IsRead s answer
    text_only s derived = from_read answer moved
      where
        from_read : (r : Result A ParseFault) → Follows r text (places_of text) (lexemes_of text) (read_all g (lexemes_of text)) → IsRead s r
        from_read (Ok v) k = same_ok (read_all g (lexemes_of text)) s v (all_complete g d (lexemes_of text) s derived) k
        from_read (Err fault.Memory) k = tt
        from_read (Err (fault.Syntax at)) (rest, is, same) = not_wrong rest s is derived
        from_read (Err (fault.Float at)) (rest, is, same) = not_wrong rest s is derived

    pub text_fault : IfErr answer (λ f. IsFault g text f)
    text_fault = from_read answer moved
      where
        from_read : (r : Result A ParseFault) → Follows r text (places_of text) (lexemes_of text) (read_all g (lexemes_of text)) → IfErr r (λ f. IsFault g text f)
        from_read (Ok v) k = tt
        from_read (Err fault.Memory) k = tt
        from_read (Err (fault.Syntax at)) (rest, is, same) = subst (IsFault g text) (sym same) (wrong_at rest (all_wrong g d e (lexemes_of text) rest is))
        from_read (Err (fault.Float at)) (rest, is, same) = subst (IsFault g text) (sym same) (wrong_at rest (all_wrong g d e (lexemes_of text) rest is))

    pub text_refused : (at : ℕ) (float : Bool) → GoesWrongAt g text at float → IsRefused (fault_of float at) answer
    text_refused at float there = from_read answer moved
      where
        from_read : (r : Result A ParseFault) → Follows r text (places_of text) (lexemes_of text) (read_all g (lexemes_of text)) → IsRefused (fault_of float at) r
        from_read (Ok v) k = no_fault g text v at float (all_sound g d e (lexemes_of text) v k) there
        from_read (Err fault.Memory) k = tt
        from_read (Err (fault.Syntax at')) (rest, is, same) = same ∙ fault_there g text rest at float (all_wrong g d e (lexemes_of text) rest is) there
        from_read (Err (fault.Float at')) (rest, is, same) = same ∙ fault_there g text rest at float (all_wrong g d e (lexemes_of text) rest is) there

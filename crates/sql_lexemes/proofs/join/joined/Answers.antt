-- One token more, which lies inside the text, as the one behind it does.
use Rattle.std.proofs.Common.{◌≡◌, ℕ, List, [], ◌∷◌, ◌++◌, Option, Some, None, sym, ◌∙◌, ap, subst, append_assoc}
use Rattle.std.specs.Prelude.{All}
use Rattle.std.specs.Option.{ForSome}
use Rattle.std.proofs.lemmas.List.Elements.{All-head, All-rest}
use Rattle.sql_text.specs.declared.token.Token.{Token}
use Rattle.sql_text.specs.Cut.{IsWithin}
use Rattle.sql_lexemes.specs.declared.lexeme.Lexeme.{Lexeme}
use Rattle.sql_lexemes.specs.Lexemes.{lexeme_of, first_of, lexemes_from, places_from}
use Rattle.sql_lexemes.proofs.join.joined.Goals as goal

some_same : {A : Type 0} (a b : A) → Some a ≡ Some b → a ≡ b
some_same a b e = cc

none_some : {A : Type 0} (a : A) → None ≡ Some a → ⊥
none_some a e = cc

first_within : (text : List ℕ) (ts : List Token) → All (IsWithin text) ts → ForSome (first_of ts) (IsWithin text)
first_within text [] h = λ t e. absurd (none_some t e)
first_within text (u ∷ ts) h = λ t e. subst (IsWithin text) (some_same u t e) (All-head (IsWithin text) u ts h)

pub lexeme-requires-clause-next : goal.lexeme-requires-clause-next
lexeme-requires-clause-next c =
    let text = c.args.text.now in
    let rest = c.in-Some.rest.now in
    let within : All (IsWithin text) rest =
    All-rest (IsWithin text) c.in-Some.token.now rest c.loop-token.left.now c.in-Some.ensures.cases.0 c.loop-token.invariant.within in
    subst (λ o. ForSome o (IsWithin text)) (sym c.first_of.ensures) (first_within text rest within)

module _ {A : Type 0} (all out : List A) (x : A) (rest : List A) where
  -- one more at the end
  moved : (from : List A) (new : List A) → all ≡ out ++ from → from ≡ x ∷ rest → new ≡ out ++ x ∷ [] → all ≡ new ++ rest
  moved from new is split pushed = is ∙ (ap (λ f. out ++ f) split ∙ (sym (append_assoc out (x ∷ []) rest) ∙ ap (λ o. o ++ rest) (sym pushed)))

lexemes_more : (text : List ℕ) (left : List Token) (t : Token) (rest : List Token) (bad : Option ℕ) (next : Option Token) (x : Lexeme) → left ≡ t ∷ rest → next ≡ first_of rest
    → x ≡ lexeme_of text t next → lexemes_from text left bad ≡ x ∷ lexemes_from text rest bad
unfolding lexemes_from
lexemes_more text left t rest bad next x is first gives =
    ap (λ ts. lexemes_from text ts bad) is ∙ ap (λ x. x ∷ lexemes_from text rest bad) (ap (lexeme_of text t) (sym first) ∙ sym gives)

places_more : (left : List Token) (t : Token) (rest : List Token) (bad : Option ℕ) → left ≡ t ∷ rest → places_from left bad ≡ t.start ∷ places_from rest bad
unfolding places_from
places_more left t rest bad is = ap (λ ts. places_from ts bad) is

pub loop-token-preserved : goal.loop-token-preserved
loop-token-preserved c =
    let text = c.args.text.now in
    let rest = c.in-Some.rest.now in
    let left = c.loop-token.left.now in
    let t = c.in-Some.token.now in
    let is = c.in-Some.ensures.cases.0 in record {
      lexemes = moved (lexemes_from text c.args.tokens.now c.args.bad) c.loop-token.lexemes.items c.in_ok-lexeme.field-0 (lexemes_from text rest c.args.bad)
          (lexemes_from text left c.args.bad) c.push.new.self.items c.loop-token.invariant.lexemes
          (lexemes_more text left t rest c.args.bad c.first_of.result c.in_ok-lexeme.field-0 is c.first_of.ensures c.in_ok-lexeme.ensures)
          c.in_ok-push.ensures.items;
      places = moved (places_from c.args.tokens.now c.args.bad) c.loop-token.places.items t.start (places_from rest c.args.bad) (places_from left c.args.bad)
          c.push-in-Some.new.self.items c.loop-token.invariant.places (places_more left t rest c.args.bad is) c.in_ok-push-2.ensures.items;
      within = All-rest (IsWithin text) t rest left is c.loop-token.invariant.within;
    }

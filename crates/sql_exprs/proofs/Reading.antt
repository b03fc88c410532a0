-- How reading goes on the rungs, as the code goes.
use Rattle.std.proofs.Common.{◌≡◌, ℕ, zero, suc, ◌+◌, ◌<◌, ◌==◌, Bool, true, false, List, Some, None, Ok, refl, sym, ◌∙◌, ap, subst, arith, add-one}
use Rattle.grammars.specs.Grammar.{Grammar}
use Rattle.grammars.specs.Reading.{read, pick, next, and_then}
use Rattle.grammars.proofs.Sound.{many_step}
use Rattle.sql_lexemes.specs.declared.lexeme.Lexeme.{Lexeme}
use Rattle.sql_grammar.specs.declared.expr.Link.{Link}
use Rattle.sql_grammar.specs.declared.expr.Deep.{Deep}
use Rattle.sql_grammar.specs.declared.expr.Place.{Place}
use Rattle.sql_grammar.specs.Expr.{quiet, within, nothing, less, term, signed, negation, may_link, linked, links, binary, either, rung_over, rung, ladder}
use Rattle.sql_exprs.specs.declared.lexeme.ParseError.{ParseError}
use Rattle.sql_exprs.specs.declared.lexeme.ParseError.TheVariants as error
use Rattle.sql_exprs.specs.Gives.{Fails}
use Rattle.sql_grammar.proofs.Ladder.{ladder_ends, links_ends}

pub links_step : (room less_room : ℕ) (p : Place) (n : ℕ) (first : Deep) (ts : List Lexeme) → read (links room (ladder less_room) p n first) ts
    ≡ pick (next (may_link room (n + 1) first) ts) (Ok (first, ts))
    (λ l. and_then (read (linked n (ladder less_room (within p) n) first l.0) l.1) (λ v. read (links room (ladder less_room) p n v)))
unfolding links
links_step room less_room p n first ts =
    many_step (quiet n) (may_link room (n + 1)) (linked n (ladder less_room (within p) n)) first (links_ends room (ladder less_room) (ladder_ends less_room) p n first) ts

pub term_at_zero : (room : ℕ) (p : Place) (level : ℕ) (ts : List Lexeme) → room ≡ 0 → level ≡ 0 → read (ladder room p level) ts ≡ read (term p nothing) ts
unfolding ladder rung
term_at_zero zero p zero ts r l = refl
term_at_zero zero p (suc level) ts r l = absurd (omega (arith, l))
term_at_zero (suc room) p level ts r l = absurd (omega (arith, r))

either_same : (b : Bool) (g : Grammar Lexeme Deep) (ts : List Lexeme) → read (either b g g) ts ≡ read g ts
either_same true g ts = refl
either_same false g ts = refl

shallow_rung : (p : Place) (n : ℕ) (ts : List Lexeme) → read (rung 0 nothing p (suc n)) ts ≡ read (signed p nothing (term p nothing)) ts
unfolding rung
shallow_rung p zero ts = refl
shallow_rung p (suc n) ts = over_shallow (suc n) (rung 0 nothing p (suc n)) ts (zero_suc n) ∙ shallow_rung p n ts
  where
    over_shallow : (n : ℕ) (g : Grammar Lexeme Deep) (ts : List Lexeme) → (n == 0) ≡ false → read (rung_over 0 p nothing n g) ts ≡ read g ts
    over_shallow n g ts z = ap (λ b. read (either b (signed p nothing g) (either (n == 5) g g)) ts) z ∙ either_same (n == 5) g ts

    zero_suc : (n : ℕ) → (suc n == 0) ≡ false
    zero_suc n = grind arith

pub signed_at_zero : (room : ℕ) (p : Place) (level : ℕ) (ts : List Lexeme) → room ≡ 0 → 0 < level → read (ladder room p level) ts ≡ read (signed p nothing (term p nothing)) ts
unfolding ladder rung
signed_at_zero zero p zero ts r l = absurd (omega (arith, l))
signed_at_zero zero p (suc level) ts r l = shallow_rung p level ts
signed_at_zero (suc room) p level ts r l = absurd (omega (arith, r))

-- ---- with depth left

-- a level of depth more than r
module _ (room r : ℕ) (is : room ≡ r + 1) (p : Place) (ts : List Lexeme) where
  pub term_at : (level : ℕ) → level ≡ 0 → read (ladder room p level) ts ≡ read (term p (less (ladder r))) ts
  unfolding ladder rung
  term_at level l = subst (λ n. read (ladder room p n) ts ≡ read (term p (less (ladder r))) ts) (sym l)
      (subst (λ m. read (ladder m p 0) ts ≡ read (term p (less (ladder r))) ts) (sym (is ∙ add-one r)) refl)

  pub signed_at : (level : ℕ) → level ≡ 1 → read (ladder room p level) ts ≡ read (signed p (less (ladder r)) (term p (less (ladder r)))) ts
  unfolding ladder rung
  signed_at level l = subst (λ n. read (ladder room p n) ts ≡ read (signed p (less (ladder r)) (term p (less (ladder r)))) ts) (sym l)
      (subst (λ m. read (ladder m p 1) ts ≡ read (signed p (less (ladder r)) (term p (less (ladder r)))) ts) (sym (is ∙ add-one r)) refl)

  pub negation_at : (level : ℕ) → level ≡ 6 → read (ladder room p level) ts ≡ read (negation p (less (ladder r)) (ladder (r + 1) p 5)) ts
  unfolding ladder rung
  negation_at level l = subst (λ n. read (ladder room p n) ts ≡ read (negation p (less (ladder r)) (ladder (r + 1) p 5)) ts) (sym l)
      (subst (λ m. read (ladder m p 6) ts ≡ read (negation p (less (ladder r)) (ladder (r + 1) p 5)) ts) (sym is)
      (subst (λ m. read (ladder m p 6) ts ≡ read (negation p (less (ladder r)) (ladder m p 5)) ts) (sym (add-one r)) refl))

  pub binary_at : (level n : ℕ) → level ≡ n + 1 → (n ≡ 0 → ⊥) → (n ≡ 5 → ⊥)
      → read (ladder room p level) ts ≡ read (binary (r + 1) p (less (ladder r)) n (ladder (r + 1) p n)) ts
  unfolding ladder rung
  binary_at level n l z f =
      subst (λ k. read (ladder room p k) ts ≡ read (binary (r + 1) p (less (ladder r)) n (ladder (r + 1) p n)) ts) (sym (l ∙ add-one n))
      (subst (λ m. read (ladder m p (suc n)) ts ≡ read (binary (r + 1) p (less (ladder r)) n (ladder (r + 1) p n)) ts) (sym is)
      (subst (λ m. read (ladder m p (suc n)) ts ≡ read (binary m p (less (ladder r)) n (ladder m p n)) ts) (sym (add-one r))
      (over_binary (n == 0) (n == 5) (signed p (less (ladder r)) (ladder (suc r) p n)) (negation p (less (ladder r)) (ladder (suc r) p n))
      (binary (suc r) p (less (ladder r)) n (ladder (suc r) p n)) (no_eq n 0 z) (no_eq n 5 f))))
    where
      no_eq : (a b : ℕ) → (a ≡ b → ⊥) → (a == b) ≡ false
      no_eq a b h = grind arith

      over_binary : (z f : Bool) (g h k : Grammar Lexeme Deep) → z ≡ false → f ≡ false → read (either z g (either f h k)) ts ≡ read k ts
      over_binary z f g h k is_z is_f = ap (λ z. read (either z g (either f h k)) ts) is_z ∙ ap (λ f. read (either f h k) ts) is_f

-- ---- rounds

module _ (room less_room : ℕ) (p : Place) (n : ℕ) (first : Deep) (ts : List Lexeme) where
  pub links_over : next (may_link room (n + 1) first) ts ≡ None → read (links room (ladder less_room) p n first) ts ≡ Ok (first, ts)
  links_over none = links_step room less_room p n first ts
      ∙ ap (λ o. pick o (Ok (first, ts)) (λ l. and_then (read (linked n (ladder less_room (within p) n) first l.0) l.1) (λ v. read (links room (ladder less_room) p n v)))) none

  pub links_round : (l : Link) (more : List Lexeme) → next (may_link room (n + 1) first) ts ≡ Some (l, more)
      → read (links room (ladder less_room) p n first) ts ≡ and_then (read (linked n (ladder less_room (within p) n) first l) more) (λ v. read (links room (ladder less_room) p n v))
  links_round l more some = links_step room less_room p n first ts
      ∙ ap (λ o. pick o (Ok (first, ts)) (λ l. and_then (read (linked n (ladder less_room (within p) n) first l.0) l.1) (λ v. read (links room (ladder less_room) p n v)))) some

  pub links_fault : (l : Link) (more : List Lexeme) (e : ParseError) → next (may_link room (n + 1) first) ts ≡ Some (l, more)
      → Fails e (read (linked n (ladder less_room (within p) n) first l) more) → Fails e (read (links room (ladder less_room) p n first) ts)
  links_fault l more error.Memory some h = tt
  links_fault l more (error.At rest) some h = links_round l more some ∙ ap (λ r. and_then r (λ v. read (links room (ladder less_room) p n v))) h

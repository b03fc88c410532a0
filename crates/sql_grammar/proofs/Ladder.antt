-- Expressions: each that has begun can be ended, and one token decides.
use Rattle.std.proofs.Common.{◌≡◌, ℕ, zero, suc, ◌+◌, Bool, true, false, ◌||◌, ◌&&◌, ◌==◌, nat_lt, List, [], Option, Some, None, is_some, is_none, refl, sym, ◌∙◌, ap, subst, arith, add-one, if◌then◌else◌, ◌⊎◌, inl, inr}
use Rattle.std.proofs.lemmas.Bool.{false≢true}
use Rattle.grammars.specs.Grammar.{Grammar}
use Rattle.grammars.specs.Lookahead.{starts, Decides, Ends}
use Rattle.grammars.proofs.Wider.{decides_less}
use Rattle.sql_lexemes.specs.declared.lexeme.Symbol.{Symbol}
use Rattle.sql_lexemes.specs.declared.lexeme.Symbol.TheVariants as sign
use Rattle.sql_lexemes.specs.declared.lexeme.Function.{Function}
use Rattle.sql_lexemes.specs.declared.lexeme.Function.TheVariants as function
use Rattle.sql_lexemes.specs.declared.lexeme.Lexeme.{Lexeme}
use Rattle.sql_lexemes.specs.declared.lexeme.Lexeme.TheVariants as lexeme
use Rattle.sql_grammar.specs.declared.expr.Link.{Link}
use Rattle.sql_grammar.specs.declared.expr.Link.TheVariants as link
use Rattle.sql_grammar.specs.declared.expr.Place.{Place}
use Rattle.sql_grammar.specs.declared.expr.Place.TheVariants as place
use Rattle.sql_grammar.specs.declared.expr.Deep.{Deep}
use Rattle.sql_grammar.specs.Lexemes.{same_symbol, is, name_of, column_of, least_of}
use Rattle.sql_grammar.specs.Expr.{operation, on_rung, beyond, quiet, within, aggregate_of, count_all_of, leaf_of, Ladder, nothing, less, column, argument, count_all, aggregated, term, signed, negation, may_link, null_test, linked, links, binary, either, rung_over, rung, ladder, value}
use Rattle.sql_grammar.proofs.Tests.{or_cases, neither, and_left, and_right, and_both, none_of, takes_itself, some_name, some_column, apart, at_symbol}

-- ---- each can be ended

column_ends : (name : List ℕ) → Ends (column name)
unfolding column
column_ends name = ((λ _. (some_name, λ _. tt)), tt)

null_ends : (left : Deep) → Ends (null_test left)
unfolding null_test
null_ends left = ((λ _. (takes_itself sign.Null, λ _. tt)), (takes_itself sign.Null, λ _. tt))

abbrev pub AreEnding : Ladder → Type 0
AreEnding below = (p : Place) (n : ℕ) → Ends (below p n)

linked_ends : (n : ℕ) (operand : Grammar Lexeme Deep) → Ends operand → (left : Deep) (l : Link) → Ends (linked n operand left l)
linked_ends n operand e left link.Is = null_ends left
linked_ends n operand e left (link.Two op) = (e, λ _. tt)

pub links_ends : (room : ℕ) (below : Ladder) → AreEnding below → (p : Place) (n : ℕ) (first : Deep) → Ends (links room below p n first)
unfolding links
links_ends room below e p n first = λ left l. linked_ends n (below (within p) n) (e (within p) n) left l

argument_ends : (below : Ladder) → AreEnding below → (f : Function) → Ends (argument below f)
unfolding argument
argument_ends below e f = (e place.Plain 8, λ inner. (takes_itself sign.Close, λ _. tt))

count_all_ends : Ends count_all
unfolding count_all
count_all_ends = (takes_itself sign.Close, λ _. tt)

aggregated_ends : (below : Ladder) → AreEnding below → (f : Function) → Ends (aggregated below f)
aggregated_ends below e function.Count = ((λ _. count_all_ends), argument_ends below e function.Count)
aggregated_ends below e function.Sum = argument_ends below e function.Sum
aggregated_ends below e function.Min = argument_ends below e function.Min
aggregated_ends below e function.Max = argument_ends below e function.Max

-- ---- a ladder over nothing, and one over a ladder

term_ends : (p : Place) → Ends (term p nothing)
term_ends p = (
  (λ _. tt),
  ((λ _. (takes_itself sign.Open, λ _. (takes_itself sign.Star, λ _. count_all_ends))), (some_column, λ name. column_ends name)),
)

either_ends : (b : Bool) (g h : Grammar Lexeme Deep) → Ends g → Ends h → Ends (either b g h)
either_ends true g h e f = e
either_ends false g h e f = f

shallow_ends : (p : Place) (n : ℕ) → Ends (rung 0 nothing p n)
unfolding rung
shallow_ends p zero = term_ends p
shallow_ends p (suc n) =
    let e = shallow_ends p n in
    let tighter = rung 0 nothing p n in
    either_ends (n == 0) (signed p nothing tighter) (either (n == 5) (negation p nothing tighter) (binary 0 p nothing n tighter))
    ((λ _. ((lexeme.Least, tt, refl), λ _. tt)), e)
    (either_ends (n == 5) (negation p nothing tighter) (binary 0 p nothing n tighter) e e)

deep_ends : (room : ℕ) (below : Ladder) → AreEnding below → (p : Place) (n : ℕ) → Ends (rung room (less below) p n)
unfolding rung
deep_ends room below e p zero = (
  (λ _. tt),
  (
    (λ f. (takes_itself sign.Open, λ _. aggregated_ends below e f)),
    ((λ name. column_ends name), (takes_itself sign.Open, λ _. (e (within p) 8, λ _. (takes_itself sign.Close, λ _. tt)))),
  ),
)
deep_ends room below e p (suc n) =
    let tighter = rung room (less below) p n in
    let t = deep_ends room below e p n in
    either_ends (n == 0) (signed p (less below) tighter) (either (n == 5) (negation p (less below) tighter) (binary room p (less below) n tighter))
    ((λ _. ((λ _. tt), (e (within p) 1, λ _. tt))), ((λ _. (e (within p) 1, λ _. tt)), t))
    (either_ends (n == 5) (negation p (less below) tighter) (binary room p (less below) n tighter)
    ((λ _. (e (within p) 6, λ _. tt)), t) (t, λ first. links_ends room below e p n first))

pub ladder_ends : (room : ℕ) (p : Place) (n : ℕ) → Ends (ladder room p n)
unfolding ladder
ladder_ends zero p n = shallow_ends p n
ladder_ends (suc room) p n = deep_ends (suc room) (ladder room) (λ p n. ladder_ends room p n) p n

-- ---- one token decides

quiet_dot : (n : ℕ) (t : Lexeme) → quiet n t ≡ true → is sign.Dot t ≡ None
quiet_dot n t h = none_of (is sign.Dot t) (and_right (beyond n (operation t)) (is_none (is sign.Dot t)) h)

beyond_less : (n : ℕ) (o : Option (ℕ × Link)) → beyond (n + 1) o ≡ true → beyond n o ≡ true
beyond_less n None h = refl
beyond_less n (Some p) h = grind arith

quiet_less : (n : ℕ) (t : Lexeme) → quiet (n + 1) t ≡ true → quiet n t ≡ true
quiet_less n t h =
    and_both (beyond n (operation t)) (is_none (is sign.Dot t))
    (beyond_less n (operation t) (and_left (beyond (n + 1) (operation t)) (is_none (is sign.Dot t)) h))
    (and_right (beyond (n + 1) (operation t)) (is_none (is sign.Dot t)) h)

beyond_off : (n : ℕ) (o : Option (ℕ × Link)) → beyond n o ≡ true → on_rung n o ≡ None
beyond_off n None h = refl
beyond_off n (Some p) h = grind arith

on_beyond : (n : ℕ) (o : Option (ℕ × Link)) (l : Link) → on_rung (n + 1) o ≡ Some l → beyond n o ≡ true
on_beyond n None l h = refl
on_beyond n (Some p) l h = grind arith

-- an operator is no dot
no_dot : (n : ℕ) (t : Lexeme) (l : Link) → on_rung n (operation t) ≡ Some l → is_none (is sign.Dot t) ≡ true
unfolding same_symbol
no_dot n (lexeme.Symbol sign.Dot) l h = cc
no_dot n (lexeme.Symbol _) l h = refl
no_dot n _ l h = refl

stops : (room n : ℕ) (left : Deep) (t : Lexeme) → quiet n t ≡ true → may_link room n left t ≡ None
stops room n left t h =
    depth_none (nat_lt left.depth room) (on_rung n (operation t)) (beyond_off n (operation t) (and_left (beyond n (operation t)) (is_none (is sign.Dot t)) h))
  where
    depth_none : (b : Bool) (o : Option Link) → o ≡ None → (if b then o else None) ≡ None
    depth_none true o e = e
    depth_none false o e = refl

takes_quiet : (room n : ℕ) (left : Deep) (t : Lexeme) (l : Link) → may_link room (n + 1) left t ≡ Some l → quiet n t ≡ true
takes_quiet room n left t l h =
    let found = depth_some (nat_lt left.depth room) (on_rung (n + 1) (operation t)) h in
    and_both (beyond n (operation t)) (is_none (is sign.Dot t)) (on_beyond n (operation t) l found) (no_dot (n + 1) t l found)
  where
    depth_some : (b : Bool) (o : Option Link) → (if b then o else None) ≡ Some l → o ≡ Some l
    depth_some true o e = e
    depth_some false o e = cc

column_decides : (name : List ℕ) (n : ℕ) → Decides (column name) (quiet n)
unfolding column
column_decides name n = ((λ _ _. tt), tt, λ t k. quiet_dot n t k)

-- what begins with NOT or NULL
null_decides : (left : Deep) (K : Lexeme → Bool) → Decides (null_test left) K
unfolding null_test same_symbol
null_decides left K = ((λ _ _. tt), (λ _. tt), λ t k. apart sign.Null (is sign.Not) refl t k)

-- what the levels above need of the ladder below
pub record IsSound (below : Ladder) : Type 0 where
  decides : (p : Place) (n : ℕ) → Decides (below p n) (quiet n)
  not_least : (p : Place) (n : ℕ) (K : Lexeme → Bool) → starts (below p n) K lexeme.Least ≡ false
  not_star : (p : Place) (n : ℕ) (K : Lexeme → Bool) → starts (below p n) K (lexeme.Symbol sign.Star) ≡ false

linked_decides : (n : ℕ) (operand : Grammar Lexeme Deep) → Decides operand (quiet n) → (left : Deep) (l : Link) → Decides (linked n operand left l) (quiet n)
linked_decides n operand d left link.Is = null_decides left (quiet n)
linked_decides n operand d left (link.Two op) = (d, (λ _. tt), λ _ t k. k)

links_decides : (room : ℕ) (below : Ladder) → IsSound below → (p : Place) (n : ℕ) (first : Deep) → Decides (links room below p n first) (quiet (n + 1))
unfolding links
links_decides room below d p n first = (
  (λ left l. linked_decides n (below (within p) n) (d.decides (within p) n) left l),
  (λ left t k. stops room (n + 1) left t k),
  (λ t k. quiet_less n t k),
  λ left t l takes. takes_quiet room n left t l takes,
)

links_start : (room : ℕ) (below : Ladder) (p : Place) (n : ℕ) (first : Deep) (t : Lexeme) → starts (links room below p n first) (quiet (n + 1)) t ≡ true → quiet n t ≡ true
unfolding links
links_start room below p n first t k =
    elim (or_cases (is_some (may_link room (n + 1) first t)) (quiet (n + 1) t) k) [
      | inl h ↦ taken (may_link room (n + 1) first t) refl h
      | inr h ↦ quiet_less n t h
    ]
  where
    taken : (o : Option Link) → may_link room (n + 1) first t ≡ o → is_some o ≡ true → quiet n t ≡ true
    taken None is h = absurd (false≢true h)
    taken (Some l) is h = takes_quiet room n first t l is

-- ---- the levels

-- what the bracket of an aggregate closes on
close_quiet : (t : Lexeme) → is_some (is sign.Close t) ≡ true → quiet 8 t ≡ true
unfolding same_symbol
close_quiet t k = at_symbol sign.Close (quiet 8) refl t k

shallow_leaf : (p : Place) (t : Lexeme) → (is_some (count_all_of p t) || is_some (column_of t)) ≡ true → leaf_of p t ≡ None
shallow_leaf p (lexeme.Name found spelling) k = refl
shallow_leaf p (lexeme.Aggregate function spelling) k = refl
shallow_leaf p (lexeme.Symbol _) k = absurd (false≢true k)
shallow_leaf p _ k = absurd (false≢true k)

shallow_count : (p : Place) (t : Lexeme) → is_some (column_of t) ≡ true → count_all_of p t ≡ None
shallow_count p (lexeme.Aggregate function spelling) k = absurd (false≢true k)
shallow_count p _ k = refl

count_all_decides : (K : Lexeme → Bool) → Decides count_all K
unfolding count_all
count_all_decides K = λ _. tt

shallow_term_decides : (p : Place) → Decides (term p nothing) (quiet 0)
shallow_term_decides p = (
  (λ _. tt),
  ((λ _ _ _. count_all_decides (quiet 0)), (λ name. column_decides name 0), λ t k. shallow_count p t k),
  λ t k. shallow_leaf p t k,
)

open_name : (t : Lexeme) → is_some (is sign.Open t) ≡ true → column_of t ≡ None
open_name (lexeme.Name found spelling) k = absurd (false≢true k)
open_name _ k = refl

deep_leaf : (p : Place) (t : Lexeme) → (is_some (aggregate_of p t) || (is_some (column_of t) || is_some (is sign.Open t))) ≡ true → leaf_of p t ≡ None
unfolding same_symbol
deep_leaf p (lexeme.Name found spelling) k = refl
deep_leaf p (lexeme.Aggregate function spelling) k = refl
deep_leaf p (lexeme.Symbol sign.Null) k = absurd (false≢true k)
deep_leaf p (lexeme.Symbol _) k = refl
deep_leaf p _ k = absurd (false≢true k)

deep_aggregate : (p : Place) (t : Lexeme) → (is_some (column_of t) || is_some (is sign.Open t)) ≡ true → aggregate_of p t ≡ None
deep_aggregate p (lexeme.Aggregate function spelling) k = absurd (false≢true k)
deep_aggregate p _ k = refl

argument_decides : (below : Ladder) → IsSound below → (f : Function) (K : Lexeme → Bool) → Decides (argument below f) K
unfolding argument
argument_decides below d f K = (d.decides place.Plain 8, (λ _ _. tt), λ _ t k. close_quiet t k)

-- no argument begins with a star
star_only : (g : Grammar Lexeme Deep) (K : Lexeme → Bool) → starts g K (lexeme.Symbol sign.Star) ≡ false → (t : Lexeme) → starts g K t ≡ true → is sign.Star t ≡ None
unfolding same_symbol
star_only g K h (lexeme.Symbol sign.Star) k = absurd (false≢true (sym h ∙ k))
star_only g K h (lexeme.Symbol _) k = refl
star_only g K h _ k = refl

counted_start : (below : Ladder) → IsSound below → (K : Lexeme → Bool) (t : Lexeme) → starts (argument below function.Count) K t ≡ true → is sign.Star t ≡ None
unfolding argument
counted_start below d K t k = star_only (below place.Plain 8) (quiet 8) (d.not_star place.Plain 8 (quiet 8)) t k

aggregated_decides : (below : Ladder) → IsSound below → (f : Function) (K : Lexeme → Bool) → Decides (aggregated below f) K
aggregated_decides below d function.Count K = ((λ _. count_all_decides K), argument_decides below d function.Count K, λ t k. counted_start below d K t k)
aggregated_decides below d function.Sum K = argument_decides below d function.Sum K
aggregated_decides below d function.Min K = argument_decides below d function.Min K
aggregated_decides below d function.Max K = argument_decides below d function.Max K

deep_term_decides : (below : Ladder) → IsSound below → (p : Place) → Decides (term p (less below)) (quiet 0)
deep_term_decides below d p = (
  (λ _. tt),
  (
    (λ f _. aggregated_decides below d f (quiet 0)),
    ((λ name. column_decides name 0), (λ _. (d.decides (within p) 8, (λ _ _. tt), λ _ t k. close_quiet t k)), λ t k. open_name t k),
    λ t k. deep_aggregate p t k,
  ),
  λ t k. deep_leaf p t k,
)

-- no term begins with a sign
shallow_sign : (p : Place) (t : Lexeme) → starts (term p nothing) (quiet 0) t ≡ true → is sign.Minus t ≡ None
unfolding same_symbol
shallow_sign p (lexeme.Symbol sign.Minus) k = absurd (false≢true k)
shallow_sign p (lexeme.Symbol _) k = refl
shallow_sign p _ k = refl

deep_minus : (below : Ladder) (p : Place) (t : Lexeme) → (is_some (is sign.Plus t) || starts (term p (less below)) (quiet 0) t) ≡ true → is sign.Minus t ≡ None
unfolding same_symbol
deep_minus below p (lexeme.Symbol sign.Minus) k = absurd (false≢true k)
deep_minus below p (lexeme.Symbol _) k = refl
deep_minus below p _ k = refl

deep_plus : (below : Ladder) (p : Place) (t : Lexeme) → starts (term p (less below)) (quiet 0) t ≡ true → is sign.Plus t ≡ None
unfolding same_symbol
deep_plus below p (lexeme.Symbol sign.Plus) k = absurd (false≢true k)
deep_plus below p (lexeme.Symbol _) k = refl
deep_plus below p _ k = refl

either_decides : (b : Bool) (g h : Grammar Lexeme Deep) (K : Lexeme → Bool) → Decides g K → Decides h K → Decides (either b g h) K
either_decides true g h K d e = d
either_decides false g h K d e = e

-- like the above, but where each is wanted in one case alone
either_when : (b : Bool) (g h : Grammar Lexeme Deep) (K : Lexeme → Bool) → (b ≡ true → Decides g K) → Decides h K → Decides (either b g h) K
either_when true g h K d e = d refl
either_when false g h K d e = e

either_start : (b : Bool) (g h : Grammar Lexeme Deep) (K : Lexeme → Bool) (t : Lexeme) → starts g K t ≡ false → starts h K t ≡ false → starts (either b g h) K t ≡ false
either_start true g h K t d e = d
either_start false g h K t d e = e

-- a lexeme that begins no expression
record NeverFirst (x : Lexeme) : Type 1 where
  shallow : (p : Place) → starts (term p nothing) (quiet 0) x ≡ false
  deep : (below : Ladder) (p : Place) → starts (term p (less below)) (quiet 0) x ≡ false
  minus : is_some (is sign.Minus x) ≡ false
  plus : is_some (is sign.Plus x) ≡ false
  not : is_some (is sign.Not x) ≡ false

shallow_never : (x : Lexeme) → NeverFirst x → (p : Place) (n : ℕ) (K : Lexeme → Bool) → starts (rung 0 nothing p n) K x ≡ false
unfolding rung
shallow_never x never p zero K = never.shallow p
shallow_never x never p (suc n) K =
    let tighter = rung 0 nothing p n in
    let t = shallow_never x never p n K in
    either_start (n == 0) (signed p nothing tighter) (either (n == 5) (negation p nothing tighter) (binary 0 p nothing n tighter)) K x
    (neither (is_some (is sign.Minus x)) (starts tighter K x) never.minus t)
    (either_start (n == 5) (negation p nothing tighter) (binary 0 p nothing n tighter) K x t t)

deep_never : (x : Lexeme) → NeverFirst x → (room : ℕ) (below : Ladder) (p : Place) (n : ℕ) (K : Lexeme → Bool) → starts (rung room (less below) p n) K x ≡ false
unfolding rung
deep_never x never room below p zero K = never.deep below p
deep_never x never room below p (suc n) K =
    let tighter = rung room (less below) p n in
    let t = deep_never x never room below p n K in
    either_start (n == 0) (signed p (less below) tighter) (either (n == 5) (negation p (less below) tighter) (binary room p (less below) n tighter)) K x
    (neither (is_some (is sign.Minus x)) (is_some (is sign.Plus x) || starts tighter K x) never.minus (neither (is_some (is sign.Plus x)) (starts tighter K x) never.plus t))
    (either_start (n == 5) (negation p (less below) tighter) (binary room p (less below) n tighter) K x
    (neither (is_some (is sign.Not x)) (starts tighter K x) never.not t) (deep_never x never room below p n (quiet n)))

least_never : NeverFirst lexeme.Least
unfolding same_symbol
least_never = record { shallow = λ p. refl; deep = λ below p. refl; minus = refl; plus = refl; not = refl }

star_never : NeverFirst (lexeme.Symbol sign.Star)
unfolding same_symbol
star_never = record { shallow = λ p. refl; deep = λ below p. refl; minus = refl; plus = refl; not = refl }

not_least : (g : Grammar Lexeme Deep) (K : Lexeme → Bool) → starts g K lexeme.Least ≡ false → (t : Lexeme) → starts g K t ≡ true → least_of t ≡ None
not_least g K h lexeme.Least k = absurd (false≢true (sym h ∙ k))
not_least g K h _ k = refl

eqb_zero : (n : ℕ) → (n == 0) ≡ true → n ≡ 0
eqb_zero n h = grind arith

eqb_five : (n : ℕ) → (n == 5) ≡ true → n ≡ 5
eqb_five n h = grind arith

one_more : (g : Grammar Lexeme Deep) (n : ℕ) → Decides g (quiet (n + 1)) → Decides g (quiet (suc n))
one_more g n d = subst (λ m. Decides g (quiet m)) (add-one n) d

next_rung : (g : Grammar Lexeme Deep) (n : ℕ) → Decides g (quiet n) → Decides g (quiet (n + 1))
next_rung g n d = decides_less g (quiet (n + 1)) (quiet n) (quiet_less n) d

shallow_signed : (p : Place) (n : ℕ) → n ≡ 0 → Decides (signed p nothing (rung 0 nothing p n)) (quiet (n + 1))
unfolding rung
shallow_signed p n z =
    subst (λ n. Decides (signed p nothing (rung 0 nothing p n)) (quiet (n + 1))) (sym z)
    ((λ _ _. tt), next_rung (term p nothing) 0 (shallow_term_decides p), λ t k. shallow_sign p t k)

shallow_decides : (p : Place) (n : ℕ) → Decides (rung 0 nothing p n) (quiet n)
unfolding rung
shallow_decides p zero = shallow_term_decides p
shallow_decides p (suc n) =
    let tighter = rung 0 nothing p n in
    let t = next_rung tighter n (shallow_decides p n) in
    one_more (rung_over 0 p nothing n tighter) n
    (either_when (n == 0) (signed p nothing tighter) (either (n == 5) (negation p nothing tighter) (binary 0 p nothing n tighter)) (quiet (n + 1))
    (λ z. shallow_signed p n (eqb_zero n z))
    (either_decides (n == 5) (negation p nothing tighter) (binary 0 p nothing n tighter) (quiet (n + 1)) t t))

signed_decides : (below : Ladder) → IsSound below → (p : Place) → Decides (signed p (less below) (term p (less below))) (quiet 1)
signed_decides below d p = (
  (λ _. ((λ _. tt), (d.decides (within p) 1, (λ _. tt), λ _ t k. k), not_least (below (within p) 1) (quiet 1) (d.not_least (within p) 1 (quiet 1)))),
  ((λ _. (d.decides (within p) 1, (λ _. tt), λ _ t k. k)), decides_less (term p (less below)) (quiet 1) (quiet 0) (quiet_less 0) (deep_term_decides below d p), λ t k. deep_plus below p t k),
  λ t k. deep_minus below p t k,
)

deep_not : (room : ℕ) (below : Ladder) (p : Place) (K : Lexeme → Bool) (t : Lexeme) → starts (rung room (less below) p 5) K t ≡ true → is sign.Not t ≡ None
unfolding rung same_symbol
deep_not room below p K (lexeme.Symbol sign.Not) k = absurd (false≢true k)
deep_not room below p K (lexeme.Symbol _) k = refl
deep_not room below p K _ k = refl

deep_signed : (room : ℕ) (below : Ladder) → IsSound below → (p : Place) (n : ℕ) → n ≡ 0 → Decides (signed p (less below) (rung room (less below) p n)) (quiet (n + 1))
unfolding rung
deep_signed room below d p n z =
    subst (λ n. Decides (signed p (less below) (rung room (less below) p n)) (quiet (n + 1))) (sym z) (signed_decides below d p)

deep_negation : (room : ℕ) (below : Ladder) → IsSound below → (p : Place) (n : ℕ) → n ≡ 5 → Decides (rung room (less below) p n) (quiet n)
    → Decides (negation p (less below) (rung room (less below) p n)) (quiet (n + 1))
deep_negation room below d p n z =
    subst (λ n. Decides (rung room (less below) p n) (quiet n) → Decides (negation p (less below) (rung room (less below) p n)) (quiet (n + 1))) (sym z)
    (λ t. ((λ _. (d.decides (within p) 6, (λ _. tt), λ _ t k. k)), next_rung (rung room (less below) p 5) 5 t, λ t k. deep_not room below p (quiet 6) t k))

deep_decides : (room : ℕ) (below : Ladder) → IsSound below → (p : Place) (n : ℕ) → Decides (rung room (less below) p n) (quiet n)
unfolding rung
deep_decides room below d p zero = deep_term_decides below d p
deep_decides room below d p (suc n) =
    let tighter = rung room (less below) p n in
    let t = deep_decides room below d p n in
    one_more (rung_over room p (less below) n tighter) n
    (either_when (n == 0) (signed p (less below) tighter) (either (n == 5) (negation p (less below) tighter) (binary room p (less below) n tighter)) (quiet (n + 1))
    (λ z. deep_signed room below d p n (eqb_zero n z))
    (either_when (n == 5) (negation p (less below) tighter) (binary room p (less below) n tighter) (quiet (n + 1))
    (λ z. deep_negation room below d p n (eqb_five n z) t)
    (t, (λ first. links_decides room below d p n first), λ first u k. links_start room below p n first u k)))

ladder_sound : (room : ℕ) → IsSound (ladder room)
unfolding ladder
ladder_sound zero =
    record { decides = shallow_decides; not_least = shallow_never lexeme.Least least_never; not_star = shallow_never (lexeme.Symbol sign.Star) star_never }
ladder_sound (suc room) = record {
  decides = deep_decides (suc room) (ladder room) (ladder_sound room);
  not_least = deep_never lexeme.Least least_never (suc room) (ladder room);
  not_star = deep_never (lexeme.Symbol sign.Star) star_never (suc room) (ladder room);
}

pub ladder_decides : (room : ℕ) (p : Place) (n : ℕ) → Decides (ladder room p n) (quiet n)
ladder_decides room p n = (ladder_sound room).decides p n

-- ---- without its depth

pub value_ends : (p : Place) → Ends (value p)
unfolding value
value_ends p = (ladder_ends 100 p 8, λ _. tt)

pub value_decides : (p : Place) (K : Lexeme → Bool) → ((t : Lexeme) → K t ≡ true → quiet 8 t ≡ true) → Decides (value p) K
unfolding value
value_decides p K h = (ladder_decides 100 p 8, (λ _. tt), λ _ t k. h t k)

-- no expression begins with a star
pub value_star : (p : Place) (K : Lexeme → Bool) (t : Lexeme) → starts (value p) K t ≡ true → is sign.Star t ≡ None
unfolding value
value_star p K t k = star_only (ladder 100 p 8) (quiet 8) ((ladder_sound 100).not_star p 8 (quiet 8)) t k

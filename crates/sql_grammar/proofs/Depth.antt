-- The room of the ladder is exactly a bound on depth: what it derives is no deeper, and what a ladder with more room derives no
-- deeper, it derives too.
use Rattle.std.proofs.Common.{◌≡◌, ◌≤◌, ◌<◌, ℕ, zero, suc, ◌+◌, Bool, true, false, ◌==◌, nat_lt, max, List, [], ◌∷◌, ◌++◌, Option, Some, None, refl, sym, ◌∙◌, ap, subst, arith, if◌then◌else◌, ◌⊎◌, inl, inr}
use Rattle.std.proofs.lemmas.Bool.{false≢true}
use Rattle.std.proofs.lemmas.List.{append-nil}
use Rattle.grammars.specs.Grammar.{Grammar, Derives, Rounds, over, round}
use Rattle.sql_lexemes.specs.declared.lexeme.Symbol.TheVariants as sign
use Rattle.sql_lexemes.specs.declared.lexeme.Function.{Function}
use Rattle.sql_lexemes.specs.declared.lexeme.Function.TheVariants as function
use Rattle.sql_lexemes.specs.declared.lexeme.Lexeme.{Lexeme}
use Rattle.sql_grammar.specs.declared.expr.Op.{Op}
use Rattle.sql_grammar.specs.declared.expr.Expr.{Expr}
use Rattle.sql_grammar.specs.declared.expr.Link.{Link}
use Rattle.sql_grammar.specs.declared.expr.Link.TheVariants as link
use Rattle.sql_grammar.specs.declared.expr.Place.{Place}
use Rattle.sql_grammar.specs.declared.expr.Place.TheVariants as place
use Rattle.sql_grammar.specs.declared.expr.Deep.{Deep}
use Rattle.sql_grammar.specs.Lexemes.{is}
use Rattle.sql_grammar.specs.Expr.{counts, aggregate_of, operation, on_rung, within, leaf, one, two, bracketed, aggregate, Ladder, nothing, less, column, argument, count_all, aggregated, term, signed, negation, may_link, null_test, linked, links, binary, either, rung_over, rung, ladder}

-- ---- no deeper than the room

module _ (v w : Deep) (same : v ≡ w) where
  same_depth : v.depth ≡ w.depth
  same_depth = ap (λ d. d.depth) same

column_depth : (name : List ℕ) (ts : List Lexeme) (v : Deep) → Derives (column name) ts v → v.depth ≡ 0
unfolding column
column_depth name ts v (inl (t, _, rest, is, takes, (t2, second, rest2, is2, takes2, (none, same)))) = same_depth v _ same
column_depth name ts v (inr (none, same)) = same_depth v _ same

count_all_depth : (ts : List Lexeme) (v : Deep) → Derives count_all ts v → v.depth ≡ 0
unfolding count_all
count_all_depth ts v (t, _, rest, is, takes, (none, same)) = same_depth v _ same

shallow_depth : (p : Place) (ts : List Lexeme) (v : Deep) → Derives (term p nothing) ts v → v.depth ≡ 0
shallow_depth p ts v (inl (t, expr, rest, is, takes, (none, same))) = same_depth v _ same
shallow_depth p ts v (inr (inl (t, _, rest, is, takes, (t2, _, rest2, is2, takes2, (t3, _, rest3, is3, takes3, d))))) = count_all_depth rest3 v d
shallow_depth p ts v (inr (inr (t, name, rest, is, takes, d))) = column_depth name rest v d

either_depth : (b : Bool) (g h : Grammar Lexeme Deep) (ts : List Lexeme) (v : Deep) (r : ℕ) → (Derives g ts v → v.depth ≤ r) → (Derives h ts v → v.depth ≤ r)
    → Derives (either b g h) ts v → v.depth ≤ r
either_depth true g h ts v r f k d = f d
either_depth false g h ts v r f k d = k d

least_depth : (p : Place) (tighter : Grammar Lexeme Deep) (ts : List Lexeme) (v : Deep) → (Derives tighter ts v → v.depth ≤ 0) → Derives (signed p nothing tighter) ts v → v.depth ≤ 0
least_depth p tighter ts v h (inl (t, _, rest, is, takes, (t2, _, rest2, is2, takes2, (none, same)))) = omega (arith, same_depth v _ same)
least_depth p tighter ts v h (inr d) = h d

shallow_rungs : (p : Place) (n : ℕ) (ts : List Lexeme) (v : Deep) → Derives (rung 0 nothing p n) ts v → v.depth ≤ 0
unfolding rung
shallow_rungs p zero ts v d = omega (arith, shallow_depth p ts v d)
shallow_rungs p (suc n) ts v d =
    let tighter = rung 0 nothing p n in
    either_depth (n == 0) (signed p nothing tighter) (either (n == 5) (negation p nothing tighter) (binary 0 p nothing n tighter)) ts v 0
    (least_depth p tighter ts v (shallow_rungs p n ts v))
    (either_depth (n == 5) (negation p nothing tighter) (binary 0 p nothing n tighter) ts v 0 (shallow_rungs p n ts v) (shallow_rungs p n ts v)) d

-- a ladder whose values are no deeper
abbrev AreWithin : Ladder → ℕ → Type 0
AreWithin below r = (p : Place) (n : ℕ) (ts : List Lexeme) (v : Deep) → Derives (below p n) ts v → v.depth ≤ r

link_room : (b : Bool) (o : Option Link) (l : Link) → (if b then o else None) ≡ Some l → b ≡ true
link_room true o l h = refl
link_room false o l h = cc

is_less : (a b : ℕ) → nat_lt a b ≡ true → a < b
is_less a b h = grind arith

module _ (below : Ladder) (r : ℕ) (h : AreWithin below r) where
  argument_depth : (f : Function) (ts : List Lexeme) (v : Deep) → Derives (argument below f) ts v → v.depth ≤ suc r
  unfolding argument
  argument_depth f ts v (inner, front, rest, is, d, (t, _, rest2, is2, takes, (none, same))) =
      omega (arith, same_depth v _ same, h place.Plain 8 front inner d)

  aggregated_depth : (f : Function) (ts : List Lexeme) (v : Deep) → Derives (aggregated below f) ts v → v.depth ≤ suc r
  aggregated_depth function.Count ts v (inl (t, _, rest, is, takes, d)) = omega (arith, count_all_depth rest v d)
  aggregated_depth function.Count ts v (inr d) = argument_depth function.Count ts v d
  aggregated_depth function.Sum ts v d = argument_depth function.Sum ts v d
  aggregated_depth function.Min ts v d = argument_depth function.Min ts v d
  aggregated_depth function.Max ts v d = argument_depth function.Max ts v d

  term_depth : (p : Place) (ts : List Lexeme) (v : Deep) → Derives (term p (less below)) ts v → v.depth ≤ suc r
  term_depth p ts v (inl (t, expr, rest, is, takes, (none, same))) = omega (arith, same_depth v _ same)
  term_depth p ts v (inr (inl (t, f, rest, is, takes, (t2, _, rest2, is2, takes2, d)))) = aggregated_depth f rest2 v d
  term_depth p ts v (inr (inr (inl (t, name, rest, is, takes, d)))) = omega (arith, column_depth name rest v d)
  term_depth p ts v (inr (inr (inr (t, _, rest, is, takes, (inner, front, back, is2, d, (t3, _, rest3, is3, takes3, (none, same))))))) =
      omega (arith, same_depth v _ same, h (within p) 8 front inner d)

  signed_depth : (p : Place) (tighter : Grammar Lexeme Deep) (ts : List Lexeme) (v : Deep) → (Derives tighter ts v → v.depth ≤ suc r) → Derives (signed p (less below) tighter) ts v → v.depth ≤ suc r
  signed_depth p tighter ts v k (inl (t, _, rest, is, takes, inl (t2, _, rest2, is2, takes2, (none, same)))) = omega (arith, same_depth v _ same)
  signed_depth p tighter ts v k (inl (t, _, rest, is, takes, inr (inner, front, back, is2, d, (none, same)))) =
      omega (arith, same_depth v _ same, h (within p) 1 front inner d)
  signed_depth p tighter ts v k (inr (inl (t, _, rest, is, takes, (inner, front, back, is2, d, (none, same))))) =
      omega (arith, same_depth v _ same, h (within p) 1 front inner d)
  signed_depth p tighter ts v k (inr (inr d)) = k d

  negation_depth : (p : Place) (tighter : Grammar Lexeme Deep) (ts : List Lexeme) (v : Deep) → (Derives tighter ts v → v.depth ≤ suc r) → Derives (negation p (less below) tighter) ts v → v.depth ≤ suc r
  negation_depth p tighter ts v k (inl (t, _, rest, is, takes, (inner, front, back, is2, d, (none, same)))) =
      omega (arith, same_depth v _ same, h (within p) 6 front inner d)
  negation_depth p tighter ts v k (inr d) = k d

  linked_depth : (p : Place) (n : ℕ) (left : Deep) (l : Link) (ts : List Lexeme) (v : Deep) → left.depth < suc r → Derives (linked n (below p n) left l) ts v → v.depth ≤ suc r
  unfolding null_test
  linked_depth p n left link.Is ts v room (inl (t, _, rest, is, takes, (t2, _, rest2, is2, takes2, (none, same)))) = omega (arith, room, same_depth v _ same)
  linked_depth p n left link.Is ts v room (inr (t, _, rest, is, takes, (none, same))) = omega (arith, room, same_depth v _ same)
  linked_depth p n left (link.Two op) ts v room (right, front, back, is, d, (none, same)) = omega (arith, room, same_depth v _ same, h p n front right d)

  rounds_depth : (p : Place) (n : ℕ) (last first : Deep) (ts : List Lexeme) → first.depth ≤ suc r
      → Rounds (may_link (suc r) (n + 1)) (λ s l. Derives (linked n (below p n) s l)) last first ts → last.depth ≤ suc r
  rounds_depth p n last first ts k (over _ _ none same) = subst (λ d. d.depth ≤ suc r) same k
  rounds_depth p n last first ts k (round _ next t l front rest _ is takes d more) =
      rounds_depth p n last next rest
      (linked_depth p n first l front next (is_less first.depth (suc r) (link_room (nat_lt first.depth (suc r)) (on_rung (n + 1) (operation t)) l takes)) d) more

  binary_depth : (p : Place) (n : ℕ) (tighter : Grammar Lexeme Deep) (ts : List Lexeme) (v : Deep)
      → ((ts : List Lexeme) (v : Deep) → Derives tighter ts v → v.depth ≤ suc r) → Derives (binary (suc r) p (less below) n tighter) ts v → v.depth ≤ suc r
  unfolding links
  binary_depth p n tighter ts v k (first, front, rest, is, d, more) = rounds_depth (within p) n v first rest (k front first d) more

  rungs_depth : (p : Place) (n : ℕ) (ts : List Lexeme) (v : Deep) → Derives (rung (suc r) (less below) p n) ts v → v.depth ≤ suc r
  unfolding rung
  rungs_depth p zero ts v d = term_depth p ts v d
  rungs_depth p (suc n) ts v d =
      let tighter = rung (suc r) (less below) p n in
      either_depth (n == 0) (signed p (less below) tighter) (either (n == 5) (negation p (less below) tighter) (binary (suc r) p (less below) n tighter)) ts v (suc r)
      (signed_depth p tighter ts v (rungs_depth p n ts v))
      (either_depth (n == 5) (negation p (less below) tighter) (binary (suc r) p (less below) n tighter) ts v (suc r)
      (negation_depth p tighter ts v (rungs_depth p n ts v)) (binary_depth p n tighter ts v (rungs_depth p n))) d

-- what the ladder derives is no deeper than its room
pub within_room : (room : ℕ) → AreWithin (ladder room) room
unfolding ladder
within_room zero p n ts v d = shallow_rungs p n ts v d
within_room (suc room) p n ts v d = rungs_depth (ladder room) room (within_room room) p n ts v d

-- ---- all that are no deeper

either_map : (b : Bool) (g h k m : Grammar Lexeme Deep) (ts : List Lexeme) (v : Deep) → (Derives g ts v → Derives k ts v) → (Derives h ts v → Derives m ts v)
    → Derives (either b g h) ts v → Derives (either b k m) ts v
either_map true g h k m ts v f e d = f d
either_map false g h k m ts v f e d = e d

counts_one : (o : Option Function) (b : Unit {0}) → counts o ≡ Some b → o ≡ Some function.Count
counts_one None b h = cc
counts_one (Some function.Count) b h = refl
counts_one (Some function.Sum) b h = cc
counts_one (Some function.Min) b h = cc
counts_one (Some function.Max) b h = cc

-- one operand is a chain of them
alone : (room : ℕ) (p : Place) (below : Ladder) (n : ℕ) (tighter : Grammar Lexeme Deep) (ts : List Lexeme) (v : Deep) → Derives tighter ts v → Derives (binary room p (less below) n tighter) ts v
unfolding links
alone room p below n tighter ts v d = (v, ts, [], sym (append-nil ts), d, over v [] refl refl)

shallow_term_deep : (below : Ladder) (p : Place) (ts : List Lexeme) (v : Deep) → Derives (term p nothing) ts v → Derives (term p (less below)) ts v
shallow_term_deep below p ts v (inl d) = inl d
shallow_term_deep below p ts v (inr (inl (t, b, rest, is, takes, (t2, b2, rest2, is2, takes2, (t3, b3, rest3, is3, takes3, d))))) =
    inr (inl (t, function.Count, rest, is, counts_one (aggregate_of p t) b takes, (t2, b2, rest2, is2, takes2, inl (t3, b3, rest3, is3, takes3, d))))
shallow_term_deep below p ts v (inr (inr d)) = inr (inr (inl d))

shallow_signed_deep : (below : Ladder) (p : Place) (g h : Grammar Lexeme Deep) (ts : List Lexeme) (v : Deep) → (Derives g ts v → Derives h ts v) → Derives (signed p nothing g) ts v → Derives (signed p (less below) h) ts v
shallow_signed_deep below p g h ts v k (inl (t, b, rest, is, takes, d)) = inl (t, b, rest, is, takes, inl d)
shallow_signed_deep below p g h ts v k (inr d) = inr (inr (k d))

shallow_deep : (room : ℕ) (below : Ladder) (p : Place) (n : ℕ) (ts : List Lexeme) (v : Deep) → Derives (rung 0 nothing p n) ts v → Derives (rung room (less below) p n) ts v
unfolding rung
shallow_deep room below p zero ts v d = shallow_term_deep below p ts v d
shallow_deep room below p (suc n) ts v d =
    let low = rung 0 nothing p n in
    let high = rung room (less below) p n in
    either_map (n == 0) (signed p nothing low) (either (n == 5) (negation p nothing low) (binary 0 p nothing n low))
    (signed p (less below) high) (either (n == 5) (negation p (less below) high) (binary room p (less below) n high)) ts v
    (shallow_signed_deep below p low high ts v (shallow_deep room below p n ts v))
    (either_map (n == 5) (negation p nothing low) (binary 0 p nothing n low) (negation p (less below) high) (binary room p (less below) n high) ts v
    (λ d. inr (shallow_deep room below p n ts v d)) (λ d. alone room p below n high ts v (shallow_deep room below p n ts v d))) d

-- a link makes an operand deeper
linked_grows : (below : Ladder) (p : Place) (n : ℕ) (left : Deep) (l : Link) (ts : List Lexeme) (v : Deep) → Derives (linked n (below p n) left l) ts v → left.depth < v.depth
unfolding null_test
linked_grows below p n left link.Is ts v (inl (t, _, rest, is, takes, (t2, _, rest2, is2, takes2, (none, same)))) = omega (arith, same_depth v _ same)
linked_grows below p n left link.Is ts v (inr (t, _, rest, is, takes, (none, same))) = omega (arith, same_depth v _ same)
linked_grows below p n left (link.Two op) ts v (right, front, back, is, d, (none, same)) = omega (arith, same_depth v _ same)

rounds_grow : (room : ℕ) (below : Ladder) (p : Place) (n : ℕ) (last first : Deep) (ts : List Lexeme)
    → Rounds (may_link room (n + 1)) (λ s l. Derives (linked n (below p n) s l)) last first ts → first.depth ≤ last.depth
rounds_grow room below p n last first ts (over _ _ none same) = subst (λ d. first.depth ≤ d.depth) same (omega arith)
rounds_grow room below p n last first ts (round _ next t l front rest _ is takes d more) =
    omega (arith, linked_grows below p n first l front next d, rounds_grow room below p n last next rest more)

-- ---- without depth

no_depth : (a b : ℕ) → a ≡ b + 1 → a ≤ 0 → ⊥
no_depth a b h k = omega (arith, h, k)

aggregated_shallow : (below : Ladder) (f : Function) (ts : List Lexeme) (v : Deep) → Derives (aggregated below f) ts v → v.depth ≤ 0
    → (f ≡ function.Count) × ((t : Lexeme) × (b : Unit {0}) × (rest : List Lexeme) × (ts ≡ t ∷ rest) × (is sign.Star t ≡ Some b) × Derives count_all rest v)
unfolding argument
aggregated_shallow below function.Count ts v (inl d) k = (refl, d)
aggregated_shallow below function.Count ts v (inr (inner, front, rest, is, d, (t, _, rest2, is2, takes, (none, same)))) k = absurd (no_depth v.depth inner.depth (same_depth v _ same) k)
aggregated_shallow below function.Sum ts v (inner, front, rest, is, d, (t, _, rest2, is2, takes, (none, same))) k = absurd (no_depth v.depth inner.depth (same_depth v _ same) k)
aggregated_shallow below function.Min ts v (inner, front, rest, is, d, (t, _, rest2, is2, takes, (none, same))) k = absurd (no_depth v.depth inner.depth (same_depth v _ same) k)
aggregated_shallow below function.Max ts v (inner, front, rest, is, d, (t, _, rest2, is2, takes, (none, same))) k = absurd (no_depth v.depth inner.depth (same_depth v _ same) k)

deep_term_shallow : (below : Ladder) (p : Place) (ts : List Lexeme) (v : Deep) → Derives (term p (less below)) ts v → v.depth ≤ 0 → Derives (term p nothing) ts v
deep_term_shallow below p ts v (inl d) k = inl d
deep_term_shallow below p ts v (inr (inl (t, f, rest, is, takes, (t2, b2, rest2, is2, takes2, d)))) k =
    let found = aggregated_shallow below f rest2 v d k in
    inr (inl (t, tt, rest, is, ap counts (takes ∙ ap Some found.0), (t2, b2, rest2, is2, takes2, found.1)))
deep_term_shallow below p ts v (inr (inr (inl d))) k = inr (inr d)
deep_term_shallow below p ts v (inr (inr (inr (t, _, rest, is, takes, (inner, front, back, is2, d, (t3, _, rest3, is3, takes3, (none, same))))))) k =
    absurd (no_depth v.depth inner.depth (same_depth v _ same) k)

deep_signed_shallow : (below : Ladder) (p : Place) (g h : Grammar Lexeme Deep) (ts : List Lexeme) (v : Deep) → v.depth ≤ 0 → (Derives g ts v → Derives h ts v) → Derives (signed p (less below) g) ts v → Derives (signed p nothing h) ts v
deep_signed_shallow below p g h ts v k f (inl (t, b, rest, is, takes, inl d)) = inl (t, b, rest, is, takes, d)
deep_signed_shallow below p g h ts v k f (inl (t, _, rest, is, takes, inr (inner, front, back, is2, d, (none, same)))) = absurd (no_depth v.depth inner.depth (same_depth v _ same) k)
deep_signed_shallow below p g h ts v k f (inr (inl (t, _, rest, is, takes, (inner, front, back, is2, d, (none, same))))) = absurd (no_depth v.depth inner.depth (same_depth v _ same) k)
deep_signed_shallow below p g h ts v k f (inr (inr d)) = inr (f d)

deep_not_shallow : (below : Ladder) (p : Place) (g h : Grammar Lexeme Deep) (ts : List Lexeme) (v : Deep) → v.depth ≤ 0 → (Derives g ts v → Derives h ts v) → Derives (negation p (less below) g) ts v → Derives h ts v
deep_not_shallow below p g h ts v k f (inl (t, _, rest, is, takes, (inner, front, back, is2, d, (none, same)))) = absurd (no_depth v.depth inner.depth (same_depth v _ same) k)
deep_not_shallow below p g h ts v k f (inr d) = f d

no_link : (a b c : ℕ) → a < b → b ≤ c → c ≤ 0 → ⊥
no_link a b c h k m = omega (arith, h, k, m)

deep_links_shallow : (room : ℕ) (below : Ladder) (p : Place) (n : ℕ) (g h : Grammar Lexeme Deep) (ts : List Lexeme) (v : Deep) → v.depth ≤ 0
    → ((ts : List Lexeme) (v : Deep) → Derives g ts v → v.depth ≤ 0 → Derives h ts v) → Derives (binary room p (less below) n g) ts v → Derives h ts v
unfolding links
deep_links_shallow room below p n g h ts v k f (first, front, rest, is, d, over _ _ none same) =
    subst (λ x. Derives h x v) (sym (is ∙ (ap (λ r. front ++ r) none ∙ append-nil front))) (subst (λ w. Derives h front w) same (f front first d (subst (λ w. w.depth ≤ 0) (sym same) k)))
deep_links_shallow room below p n g h ts v k f (first, front, rest, is, d, round _ next t l front2 rest2 _ is2 takes dl more) =
    absurd (no_link first.depth next.depth v.depth (linked_grows below (within p) n first l front2 next dl) (rounds_grow room below (within p) n v next rest2 more) k)

deep_shallow : (room : ℕ) (below : Ladder) (p : Place) (n : ℕ) (ts : List Lexeme) (v : Deep) → Derives (rung room (less below) p n) ts v → v.depth ≤ 0 → Derives (rung 0 nothing p n) ts v
unfolding rung
deep_shallow room below p zero ts v d k = deep_term_shallow below p ts v d k
deep_shallow room below p (suc n) ts v d k =
    let low = rung 0 nothing p n in
    let high = rung room (less below) p n in
    either_map (n == 0) (signed p (less below) high) (either (n == 5) (negation p (less below) high) (binary room p (less below) n high))
    (signed p nothing low) (either (n == 5) (negation p nothing low) (binary 0 p nothing n low)) ts v
    (deep_signed_shallow below p high low ts v k (λ d. deep_shallow room below p n ts v d k))
    (either_map (n == 5) (negation p (less below) high) (binary room p (less below) n high) (negation p nothing low) (binary 0 p nothing n low) ts v
    (deep_not_shallow below p high low ts v k (λ d. deep_shallow room below p n ts v d k)) (deep_links_shallow room below p n high low ts v k (deep_shallow room below p n))) d

-- ---- with depth

-- what the one ladder derives no deeper than that, the other one derives
abbrev Narrows : Ladder → Ladder → ℕ → Type 0
Narrows one other r = (p : Place) (n : ℕ) (ts : List Lexeme) (v : Deep) → Derives (one p n) ts v → v.depth ≤ r → Derives (other p n) ts v

less_holds : (a b : ℕ) → a < b → nat_lt a b ≡ true
less_holds a b h = grind arith

link_kept : (b c : Bool) (o : Option Link) (l : Link) → c ≡ true → (if b then o else None) ≡ Some l → (if c then o else None) ≡ Some l
link_kept true true o l h k = k
link_kept true false o l h k = absurd (false≢true h)
link_kept false c o l h k = absurd (none_some l k)
  where
    none_some : (l : Link) → None ≡ Some l → ⊥
    none_some l h = cc

module _ (room : ℕ) (one other : Ladder) (r : ℕ) (h : Narrows one other r) where
  argument_narrow : (f : Function) (ts : List Lexeme) (v : Deep) → Derives (argument one f) ts v → v.depth ≤ suc r → Derives (argument other f) ts v
  unfolding argument
  argument_narrow f ts v (inner, front, rest, is, d, (t, b, rest2, is2, takes, (none, same))) k =
      (inner, front, rest, is, h place.Plain 8 front inner d (omega (arith, same_depth v _ same, k)), (t, b, rest2, is2, takes, (none, same)))

  aggregated_narrow : (f : Function) (ts : List Lexeme) (v : Deep) → Derives (aggregated one f) ts v → v.depth ≤ suc r → Derives (aggregated other f) ts v
  aggregated_narrow function.Count ts v (inl d) k = inl d
  aggregated_narrow function.Count ts v (inr d) k = inr (argument_narrow function.Count ts v d k)
  aggregated_narrow function.Sum ts v d k = argument_narrow function.Sum ts v d k
  aggregated_narrow function.Min ts v d k = argument_narrow function.Min ts v d k
  aggregated_narrow function.Max ts v d k = argument_narrow function.Max ts v d k

  term_narrow : (p : Place) (ts : List Lexeme) (v : Deep) → Derives (term p (less one)) ts v → v.depth ≤ suc r → Derives (term p (less other)) ts v
  term_narrow p ts v (inl d) k = inl d
  term_narrow p ts v (inr (inl (t, f, rest, is, takes, (t2, b2, rest2, is2, takes2, d)))) k =
      inr (inl (t, f, rest, is, takes, (t2, b2, rest2, is2, takes2, aggregated_narrow f rest2 v d k)))
  term_narrow p ts v (inr (inr (inl d))) k = inr (inr (inl d))
  term_narrow p ts v (inr (inr (inr (t, b, rest, is, takes, (inner, front, back, is2, d, (t3, b3, rest3, is3, takes3, (none, same))))))) k =
      inr (inr (inr (t, b, rest, is, takes, (inner, front, back, is2, h (within p) 8 front inner d (omega (arith, same_depth v _ same, k)), (t3, b3, rest3, is3, takes3, (none, same))))))

  signed_narrow : (p : Place) (g k : Grammar Lexeme Deep) (ts : List Lexeme) (v : Deep) → v.depth ≤ suc r → (Derives g ts v → Derives k ts v) → Derives (signed p (less one) g) ts v → Derives (signed p (less other) k) ts v
  signed_narrow p g k ts v m f (inl (t, b, rest, is, takes, inl d)) = inl (t, b, rest, is, takes, inl d)
  signed_narrow p g k ts v m f (inl (t, b, rest, is, takes, inr (inner, front, back, is2, d, (none, same)))) =
      inl (t, b, rest, is, takes, inr (inner, front, back, is2, h (within p) 1 front inner d (omega (arith, same_depth v _ same, m)), (none, same)))
  signed_narrow p g k ts v m f (inr (inl (t, b, rest, is, takes, (inner, front, back, is2, d, (none, same))))) =
      inr (inl (t, b, rest, is, takes, (inner, front, back, is2, h (within p) 1 front inner d (omega (arith, same_depth v _ same, m)), (none, same))))
  signed_narrow p g k ts v m f (inr (inr d)) = inr (inr (f d))

  negation_narrow : (p : Place) (g k : Grammar Lexeme Deep) (ts : List Lexeme) (v : Deep) → v.depth ≤ suc r → (Derives g ts v → Derives k ts v) → Derives (negation p (less one) g) ts v → Derives (negation p (less other) k) ts v
  negation_narrow p g k ts v m f (inl (t, b, rest, is, takes, (inner, front, back, is2, d, (none, same)))) =
      inl (t, b, rest, is, takes, (inner, front, back, is2, h (within p) 6 front inner d (omega (arith, same_depth v _ same, m)), (none, same)))
  negation_narrow p g k ts v m f (inr d) = inr (f d)

  linked_narrow : (p : Place) (n : ℕ) (left : Deep) (l : Link) (ts : List Lexeme) (v : Deep) → v.depth ≤ suc r → Derives (linked n (one p n) left l) ts v → Derives (linked n (other p n) left l) ts v
  linked_narrow p n left link.Is ts v m d = d
  linked_narrow p n left (link.Two op) ts v m (right, front, back, is, d, (none, same)) =
      (right, front, back, is, h p n front right d (omega (arith, same_depth v _ same, m)), (none, same))

  rounds_narrow : (p : Place) (n : ℕ) (last first : Deep) (ts : List Lexeme) → last.depth ≤ suc r
      → Rounds (may_link (suc room) (n + 1)) (λ s l. Derives (linked n (one p n) s l)) last first ts
      → Rounds (may_link (suc r) (n + 1)) (λ s l. Derives (linked n (other p n) s l)) last first ts
  rounds_narrow p n last first ts m (over _ _ none same) = over first ts none same
  rounds_narrow p n last first ts m (round _ next t l front rest _ is takes d more) =
      let deeper : first.depth < next.depth = linked_grows one p n first l front next d in
      let on : next.depth ≤ last.depth = rounds_grow (suc room) one p n last next rest more in
      round first next t l front rest ts is
      (link_kept (nat_lt first.depth (suc room)) (nat_lt first.depth (suc r)) (on_rung (n + 1) (operation t)) l (less_holds first.depth (suc r) (omega (arith, deeper, on, m))) takes)
      (linked_narrow p n first l front next (omega (arith, on, m)) d) (rounds_narrow p n last next rest m more)

  binary_narrow : (p : Place) (n : ℕ) (g k : Grammar Lexeme Deep) (ts : List Lexeme) (v : Deep) → v.depth ≤ suc r
      → ((ts : List Lexeme) (v : Deep) → Derives g ts v → v.depth ≤ suc r → Derives k ts v) → Derives (binary (suc room) p (less one) n g) ts v → Derives (binary (suc r) p (less other) n k) ts v
  unfolding links
  binary_narrow p n g k ts v m f (first, front, rest, is, d, more) =
      (first, front, rest, is, f front first d (omega (arith, rounds_grow (suc room) one (within p) n v first rest more, m)), rounds_narrow (within p) n v first rest m more)

  rungs_narrow : (p : Place) (n : ℕ) (ts : List Lexeme) (v : Deep) → Derives (rung (suc room) (less one) p n) ts v → v.depth ≤ suc r → Derives (rung (suc r) (less other) p n) ts v
  unfolding rung
  rungs_narrow p zero ts v d m = term_narrow p ts v d m
  rungs_narrow p (suc n) ts v d m =
      let high = rung (suc room) (less one) p n in
      let low = rung (suc r) (less other) p n in
      either_map (n == 0) (signed p (less one) high) (either (n == 5) (negation p (less one) high) (binary (suc room) p (less one) n high))
      (signed p (less other) low) (either (n == 5) (negation p (less other) low) (binary (suc r) p (less other) n low)) ts v
      (signed_narrow p high low ts v m (λ d. rungs_narrow p n ts v d m))
      (either_map (n == 5) (negation p (less one) high) (binary (suc room) p (less one) n high) (negation p (less other) low) (binary (suc r) p (less other) n low) ts v
      (negation_narrow p high low ts v m (λ d. rungs_narrow p n ts v d m)) (binary_narrow p n high low ts v m (rungs_narrow p n))) d

-- what any ladder derives no deeper than a room, the ladder of that room derives
pub all_within_room : (more room : ℕ) → Narrows (ladder more) (ladder room) room
unfolding ladder
all_within_room zero zero p n ts v d k = d
all_within_room zero (suc room) p n ts v d k = shallow_deep (suc room) (ladder room) p n ts v d
all_within_room (suc more) zero p n ts v d k = deep_shallow (suc more) (ladder more) p n ts v d k
all_within_room (suc more) (suc room) p n ts v d k = rungs_narrow more (ladder more) (ladder room) room (all_within_room more room) p n ts v d k

-- The grammar of expressions: a ladder of levels, by depth.
use Rattle.std.specs.Prelude.{ℕ, ℤ, negsuc, zero, suc, ◌+◌, ◌-◌, ◌^◌, ◌==◌, ◌&&◌, Bool, true, false, not, nat_lt, max, if◌then◌else◌, List, Option, Some, None, is_none}
use Rattle.grammars.specs.Grammar.{Grammar, give, must, may, part, many}
use Rattle.sql_lexemes.specs.declared.lexeme.Symbol.{Symbol}
use Rattle.sql_lexemes.specs.declared.lexeme.Symbol.TheVariants as sign
use Rattle.sql_lexemes.specs.declared.lexeme.Function.{Function}
use Rattle.sql_lexemes.specs.declared.lexeme.Function.TheVariants as function
use Rattle.sql_lexemes.specs.declared.lexeme.Lexeme.{Lexeme}
use Rattle.sql_lexemes.specs.declared.lexeme.Lexeme.TheVariants as lexeme
use Rattle.sql_grammar.specs.declared.expr.Op.{Op}
use Rattle.sql_grammar.specs.declared.expr.Op.TheVariants as op
use Rattle.sql_grammar.specs.declared.expr.Link.{Link}
use Rattle.sql_grammar.specs.declared.expr.Link.TheVariants as link
use Rattle.sql_grammar.specs.declared.expr.Place.{Place}
use Rattle.sql_grammar.specs.declared.expr.Place.TheVariants as place
use Rattle.sql_grammar.specs.declared.expr.Expr.{Expr}
use Rattle.sql_grammar.specs.declared.expr.Expr.TheVariants as e
use Rattle.sql_grammar.specs.declared.expr.Deep.{Deep}
use Rattle.sql_grammar.specs.Lexemes.{is, name_of, column_of, least_of}

-- The levels, from the tightest: 0 terms, 1 signs, 2 products, 3 sums, 4 comparisons, 5 equality, 6 NOT, 7 AND, 8 OR.
abbrev pub infix_of : Symbol → Option (ℕ × Link)
infix_of sign.Or = Some (8, link.Two op.Or)
infix_of sign.And = Some (7, link.Two op.And)
infix_of sign.Equal = Some (5, link.Two op.Equal)
infix_of sign.Unequal = Some (5, link.Two op.Unequal)
infix_of sign.Is = Some (5, link.Is)
infix_of sign.Less = Some (4, link.Two op.Less)
infix_of sign.AtMost = Some (4, link.Two op.AtMost)
infix_of sign.More = Some (4, link.Two op.More)
infix_of sign.AtLeast = Some (4, link.Two op.AtLeast)
infix_of sign.Plus = Some (3, link.Two op.Add)
infix_of sign.Minus = Some (3, link.Two op.Sub)
infix_of sign.Star = Some (2, link.Two op.Mul)
infix_of sign.Slash = Some (2, link.Two op.Div)
infix_of sign.Percent = Some (2, link.Two op.Rem)
infix_of _ = None

-- the level of an operator behind an operand, and what it is
abbrev pub operation : Lexeme → Option (ℕ × Link)
operation (lexeme.Symbol symbol) = infix_of symbol
operation _ = None

abbrev pub on_rung : ℕ → Option (ℕ × Link) → Option Link
on_rung n None = None
on_rung n (Some p) = if p.0 == n then Some p.1 else None

abbrev pub beyond : ℕ → Option (ℕ × Link) → Bool
beyond n None = true
beyond n (Some p) = nat_lt n p.0

-- no operator of the levels up to n and no dot, so it may follow an expression of level n
abbrev pub quiet : ℕ → Lexeme → Bool
quiet n t = beyond n (operation t) && is_none (is sign.Dot t)

-- ---- values, with their depths

abbrev pub leaf : Expr → Deep
leaf expr = record { expr = expr; depth = 0 }

abbrev pub one : Op → Deep → Deep
one op inner = record { expr = e.One op inner.expr; depth = inner.depth + 1 }

abbrev pub two : Op → Deep → Deep → Deep
two op left right = record { expr = e.Two op left.expr right.expr; depth = max left.depth right.depth + 1 }

abbrev pub bracketed : Deep → Deep
bracketed inner = record { expr = inner.expr; depth = inner.depth + 1 }

abbrev pub aggregate : Function → Deep → Deep
aggregate function inner = record { expr = e.Aggregate function inner.expr; depth = inner.depth + 1 }

abbrev pub least : Deep
least = leaf (e.Int (negsuc (2 ^ 63 - 1)))

-- ---- places

-- an expression may begin with an integer that stands alone
abbrev pub takes_alone : Place → Bool
takes_alone place.Sorted = false
takes_alone _ = true

-- behind the first token of an expression
abbrev pub within : Place → Place
within place.Sorted = place.Listed
within other = other

abbrev pub takes_aggregates : Place → Bool
takes_aggregates place.Plain = false
takes_aggregates _ = true

-- the aggregate that the lexeme begins, where one may stand
abbrev pub aggregate_of : Place → Lexeme → Option Function
aggregate_of place (lexeme.Aggregate function spelling) = if takes_aggregates place then Some function else None
aggregate_of place _ = None

abbrev pub counts : Option Function → Option (Unit {0})
counts (Some function.Count) = Some tt
counts _ = None

-- COUNT, where an aggregate may stand
abbrev pub count_all_of : Place → Lexeme → Option (Unit {0})
count_all_of place t = counts (aggregate_of place t)

abbrev pub leaf_of : Place → Lexeme → Option Expr
leaf_of place (lexeme.Symbol sign.Null) = Some e.Null
leaf_of place (lexeme.Int n alone) = if alone && not (takes_alone place) then None else Some (e.Int n)
leaf_of place (lexeme.Text text) = Some (e.Text text)
leaf_of place (lexeme.Blob bytes) = Some (e.Blob bytes)
leaf_of place _ = None

-- ---- the levels. `below` is the ladder with one level of depth less, where there is one.

abbrev pub Ladder : Type 1
Ladder = Place → ℕ → Grammar Lexeme Deep

pub data Below : Type 1 where
  nothing : Below
  less : Ladder → Below

-- behind a name: another name behind a dot, or nothing
unfoldable pub column : List ℕ → Grammar Lexeme Deep
column name =
    may (is sign.Dot) (λ _. must name_of (λ second. give (leaf (e.Column (Some name) second))))
    (give (leaf (e.Column None name)))

-- behind the bracket of an aggregate
unfoldable pub argument : Ladder → Function → Grammar Lexeme Deep
argument below function = part (quiet 8) (below place.Plain 8) (λ inner. must (is sign.Close) (λ _. give (aggregate function inner)))

-- behind COUNT(*
unfoldable pub count_all : Grammar Lexeme Deep
count_all = must (is sign.Close) (λ _. give (leaf e.CountAll))

abbrev pub aggregated : Ladder → Function → Grammar Lexeme Deep
aggregated below function.Count = may (is sign.Star) (λ _. count_all) (argument below function.Count)
aggregated below function = argument below function

abbrev pub term : Place → Below → Grammar Lexeme Deep
term place nothing =
    may (leaf_of place) (λ expr. give (leaf expr))
    (may (count_all_of place) (λ _. must (is sign.Open) (λ _. must (is sign.Star) (λ _. count_all)))
    (must column_of column))
term place (less below) =
    may (leaf_of place) (λ expr. give (leaf expr))
    (may (aggregate_of place) (λ function. must (is sign.Open) (λ _. aggregated below function))
    (may column_of column
    (must (is sign.Open) (λ _. part (quiet 8) (below (within place) 8) (λ inner. must (is sign.Close) (λ _. give (bracketed inner)))))))

abbrev pub signed : Place → Below → Grammar Lexeme Deep → Grammar Lexeme Deep
signed place nothing tighter = may (is sign.Minus) (λ _. must least_of (λ _. give least)) tighter
signed place (less below) tighter =
    may (is sign.Minus) (λ _. may least_of (λ _. give least) (part (quiet 1) (below (within place) 1) (λ inner. give (one op.Minus inner))))
    (may (is sign.Plus) (λ _. part (quiet 1) (below (within place) 1) (λ inner. give (one op.Plus inner))) tighter)

abbrev pub negation : Place → Below → Grammar Lexeme Deep → Grammar Lexeme Deep
negation place nothing tighter = tighter
negation place (less below) tighter =
    may (is sign.Not) (λ _. part (quiet 6) (below (within place) 6) (λ inner. give (one op.Not inner))) tighter

-- what may stand behind an operand, while there is depth left for one more operator
abbrev pub may_link : ℕ → ℕ → Deep → Lexeme → Option Link
may_link room n left t = if nat_lt left.depth room then on_rung n (operation t) else None

-- behind IS: [NOT] NULL
unfoldable pub null_test : Deep → Grammar Lexeme Deep
null_test left =
    may (is sign.Not) (λ _. must (is sign.Null) (λ _. give (one op.IsNotNull left)))
    (must (is sign.Null) (λ _. give (one op.IsNull left)))

abbrev pub linked : ℕ → Grammar Lexeme Deep → Deep → Link → Grammar Lexeme Deep
linked n operand left link.Is = null_test left
linked n operand left (link.Two op) = part (quiet n) operand (λ right. give (two op left right))

-- behind the first operand: operators of the level n + 1, from the left
unfoldable pub links : ℕ → Ladder → Place → ℕ → Deep → Grammar Lexeme Deep
links room below place n first = many (quiet n) (may_link room (n + 1)) (linked n (below (within place) n)) first

abbrev pub binary : ℕ → Place → Below → ℕ → Grammar Lexeme Deep → Grammar Lexeme Deep
binary room place nothing n tighter = tighter
binary room place (less below) n tighter = part (quiet n) tighter (links room below place n)

abbrev pub either : Bool → Grammar Lexeme Deep → Grammar Lexeme Deep → Grammar Lexeme Deep
either true yes_so other = yes_so
either false yes_so other = other

-- the level n + 1 over the level n
abbrev pub rung_over : ℕ → Place → Below → ℕ → Grammar Lexeme Deep → Grammar Lexeme Deep
rung_over room place below n tighter =
    either (n == 0) (signed place below tighter) (either (n == 5) (negation place below tighter) (binary room place below n tighter))

unfoldable pub rung : ℕ → Below → Ladder
rung room below place zero = term place below
rung room below place (suc n) = rung_over room place below n (rung room below place n)

-- expressions of a level whose depth is at most the first number
unfoldable pub ladder : ℕ → Ladder
ladder zero = rung 0 nothing
ladder (suc room) = rung (suc room) (less (ladder room))

-- an expression at this place, without its depth
unfoldable pub value : Place → Grammar Lexeme Expr
value place = part (quiet 8) (ladder 100 place 8) (λ deep. give deep.expr)

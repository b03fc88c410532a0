-- What the words mean that stand in no quotes.
use Rattle.std.specs.Prelude.{ℕ, Bool, true, false, ◌&&◌, ◌==◌, if◌then◌else◌, List, [], ◌∷◌, ◌++◌, codes}
use Rattle.std.specs.Char.{to_ascii_uppercase}
use Rattle.sql_lexemes.specs.declared.words.Meaning.{Meaning}
use Rattle.sql_lexemes.specs.declared.words.Meaning.TheVariants as m
use Rattle.sql_lexemes.specs.declared.lexeme.Symbol.TheVariants as s
use Rattle.sql_lexemes.specs.declared.lexeme.Word.TheVariants as w
use Rattle.sql_lexemes.specs.declared.lexeme.Function.TheVariants as f

-- the word is spelled so, in letters of either case
unfoldable pub same_word : List ℕ → List ℕ → Bool
same_word [] [] = true
same_word (byte ∷ word) (letter ∷ spelling) = (to_ascii_uppercase byte == letter) && same_word word spelling
same_word _ _ = false

-- the meaning beside the first spelling that the word has; a word of none of them is a name like any other
abbrev pub look_up : List (List ℕ × Meaning) → List ℕ → Meaning
look_up [] word = m.Word w.Other
look_up (entry ∷ entries) word = if same_word word entry.0 then entry.1 else look_up entries word

-- The words that mean something, in the order of the alphabet: symbols are no names unless they stand in quotes, the others may be names.
abbrev pub a_to_c : List (List ℕ × Meaning)
a_to_c =
    (codes "AND", m.Symbol s.And) ∷
    (codes "AS", m.Symbol s.As) ∷
    (codes "ASC", m.Word w.Asc) ∷
    (codes "AUTOINCREMENT", m.Word w.Autoincrement) ∷
    (codes "BEGIN", m.Word w.Begin) ∷
    (codes "BLOB", m.Word w.Blob) ∷
    (codes "BY", m.Word w.By) ∷
    (codes "CHECK", m.Symbol s.Check) ∷
    (codes "COLLATE", m.Symbol s.Collate) ∷
    (codes "COMMIT", m.Word w.Commit) ∷
    (codes "CONCURRENT", m.Word w.Concurrent) ∷
    (codes "CONSTRAINT", m.Symbol s.Constraint) ∷
    (codes "COUNT", m.Function f.Count) ∷
    (codes "CREATE", m.Symbol s.Create) ∷
    (codes "CROSS", m.Word w.Cross) ∷
    []

abbrev pub d_to_i : List (List ℕ × Meaning)
d_to_i =
    (codes "DEFAULT", m.Symbol s.Default) ∷
    (codes "DEFERRED", m.Word w.Deferred) ∷
    (codes "DELETE", m.Symbol s.Delete) ∷
    (codes "DESC", m.Word w.Desc) ∷
    (codes "DROP", m.Symbol s.Drop) ∷
    (codes "END", m.Word w.End) ∷
    (codes "FROM", m.Symbol s.From) ∷
    (codes "FULL", m.Word w.Full) ∷
    (codes "GROUP", m.Symbol s.Group) ∷
    (codes "INDEX", m.Symbol s.Index) ∷
    (codes "INNER", m.Word w.Inner) ∷
    (codes "INSERT", m.Symbol s.Insert) ∷
    (codes "INTEGER", m.Word w.Integer) ∷
    (codes "INTO", m.Symbol s.Into) ∷
    (codes "IS", m.Symbol s.Is) ∷
    []

abbrev pub j_to_n : List (List ℕ × Meaning)
j_to_n =
    (codes "JOIN", m.Symbol s.Join) ∷
    (codes "KEY", m.Word w.Key) ∷
    (codes "LEFT", m.Word w.Left) ∷
    (codes "LIMIT", m.Symbol s.Limit) ∷
    (codes "MAX", m.Function f.Max) ∷
    (codes "MIN", m.Function f.Min) ∷
    (codes "NATURAL", m.Word w.Natural) ∷
    (codes "NOT", m.Symbol s.Not) ∷
    (codes "NULL", m.Symbol s.Null) ∷
    []

abbrev pub o_to_r : List (List ℕ × Meaning)
o_to_r =
    (codes "OFFSET", m.Word w.Offset) ∷
    (codes "ON", m.Symbol s.On) ∷
    (codes "OR", m.Symbol s.Or) ∷
    (codes "ORDER", m.Symbol s.Order) ∷
    (codes "OUTER", m.Word w.Outer) ∷
    (codes "PRIMARY", m.Symbol s.Primary) ∷
    (codes "REFERENCES", m.Symbol s.References) ∷
    (codes "RIGHT", m.Word w.Right) ∷
    (codes "ROLLBACK", m.Word w.Rollback) ∷
    []

abbrev pub s_to_z : List (List ℕ × Meaning)
s_to_z =
    (codes "SELECT", m.Symbol s.Select) ∷
    (codes "SET", m.Symbol s.Set) ∷
    (codes "SUM", m.Function f.Sum) ∷
    (codes "TABLE", m.Symbol s.Table) ∷
    (codes "TEXT", m.Word w.Text) ∷
    (codes "TRANSACTION", m.Word w.Transaction) ∷
    (codes "UNIQUE", m.Symbol s.Unique) ∷
    (codes "UPDATE", m.Symbol s.Update) ∷
    (codes "VALUES", m.Symbol s.Values) ∷
    (codes "WHERE", m.Symbol s.Where) ∷
    []

unfoldable pub meaning_of : List ℕ → Meaning
meaning_of = look_up (a_to_c ++ (d_to_i ++ (j_to_n ++ (o_to_r ++ s_to_z))))

-- the first letter, as a capital; 0 where there is none
abbrev pub first_letter : List ℕ → ℕ
first_letter [] = 0
first_letter (byte ∷ word) = to_ascii_uppercase byte

-- the signs
abbrev pub signs : List (List ℕ × Meaning)
signs =
    (codes ",", m.Symbol s.Comma) ∷
    (codes "(", m.Symbol s.Open) ∷
    (codes ")", m.Symbol s.Close) ∷
    (codes "=", m.Symbol s.Equal) ∷
    (codes "*", m.Symbol s.Star) ∷
    (codes ".", m.Symbol s.Dot) ∷
    (codes ";", m.Symbol s.Semicolon) ∷
    (codes "<", m.Symbol s.Less) ∷
    (codes ">", m.Symbol s.More) ∷
    (codes "+", m.Symbol s.Plus) ∷
    (codes "-", m.Symbol s.Minus) ∷
    (codes "/", m.Symbol s.Slash) ∷
    (codes "%", m.Symbol s.Percent) ∷
    (codes "<=", m.Symbol s.AtMost) ∷
    (codes ">=", m.Symbol s.AtLeast) ∷
    (codes "<>", m.Symbol s.Unequal) ∷
    (codes "!=", m.Symbol s.Unequal) ∷
    (codes "==", m.Symbol s.Equal) ∷
    []

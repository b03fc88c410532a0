-- What a line says, as a function of its text. The grammar is `Spells`, and `read_line` promises that the two agree.
use Rattle.std.specs.Prelude.{ℕ, ◌+◌, ◌-◌, ◌*◌, Bool, not, ◌&&◌, List, [], ◌∷◌, Option, Some, None, length, take, drop, codes, is_some, if◌then◌else◌, ◌==◌, nat_le, nat_lt, bytes_eq, option_map, option_and_then}
use Rattle.std.specs.Char.{is_ascii_digit}
use Rattle.std.specs.List.{list_any}
use Rattle.std.specs.Str.{is_utf8}
use Rattle.script.specs.declared.grammar.Act2.{Act2}
use Rattle.script.specs.declared.grammar.Act2.TheVariants.{Begin, Read, Write, Commit, Rollback}
use Rattle.script.specs.declared.grammar.Form.{Form}
use Rattle.script.specs.declared.grammar.Form.TheVariants.{Pages}
use Rattle.script.specs.declared.grammar.Line.{Line}
use Rattle.script.specs.declared.grammar.Line.TheVariants.{Empty, Page, Copy, Step, Logs}

-- what follows this front, where the text begins so
unfoldable pub rest_after : List ℕ → List ℕ → Option (List ℕ)
rest_after front text = if bytes_eq (take (length front) text) front then Some (drop (length front) text) else None

-- the number followed by the digits at the front, up to 255, and what follows the last of them
unfoldable pub digits_after : ℕ → List ℕ → Option (ℕ × List ℕ)
digits_after number [] = Some (number, [])
digits_after number (byte ∷ rest) = if is_ascii_digit byte
    then (if nat_lt 255 (number * 10 + (byte - 48)) then None else digits_after (number * 10 + (byte - 48)) rest)
    else Some (number, byte ∷ rest)

-- the number at the front, up to 255 and without a leading zero, and what follows its last digit
unfoldable pub number_at : List ℕ → Option (ℕ × List ℕ)
number_at [] = None
number_at (byte ∷ rest) = if is_ascii_digit byte
    then (if byte == 48 then Some (0, rest) else digits_after (byte - 48) rest)
    else None

-- no byte is left
abbrev pub is_empty : List ℕ → Bool
is_empty text = length text == 0

abbrev pub is_page : ℕ → Bool
is_page number = nat_le 2 number && nat_le number 16

-- what follows `READ `
unfoldable pub read_of : ℕ → List ℕ → Option Act2
read_of session words = option_and_then
    (λ page. if is_empty page.1 && is_page page.0 then Some (Read session page.0) else None)
    (number_at words)

-- what follows the blank after a page's number in `WRITE `
unfoldable pub written_of : ℕ → ℕ → List ℕ → Option Act2
written_of session page words = option_and_then
    (λ byte. if is_empty byte.1 && is_page page then Some (Write session page byte.0) else None)
    (number_at words)

-- what follows `WRITE `
unfoldable pub write_of : ℕ → List ℕ → Option Act2
write_of session words = option_and_then
    (λ page. option_and_then (λ rest. written_of session page.0 rest) (rest_after (codes " ") page.1))
    (number_at words)

-- what follows a session's number, colon and blank
unfoldable pub act_by : ℕ → List ℕ → Option Act2
act_by session words = if bytes_eq words (codes "BEGIN") then Some (Begin session)
    else if bytes_eq words (codes "COMMIT") then Some (Commit session)
    else if bytes_eq words (codes "ROLLBACK") then Some (Rollback session)
    else if is_some (rest_after (codes "READ ") words) then option_and_then (read_of session) (rest_after (codes "READ ") words)
    else option_and_then (write_of session) (rest_after (codes "WRITE ") words)

-- what follows `0: `
unfoldable pub log_line_of : List ℕ → Option Line
log_line_of words = if bytes_eq words (codes "CHECKPOINT") then Some Copy
    else if bytes_eq words (codes "STEP") then Some Step
    else if bytes_eq words (codes "LOGS") then Some Logs
    else None

-- what follows the number and its colon and blank
unfoldable pub line_words : ℕ → List ℕ → Option Line
line_words number words = if number == 0 then log_line_of words
    else if nat_le number 15 then option_map Page (act_by number words)
    else None

-- a line that begins with a number
unfoldable pub numbered_line_of : List ℕ → Option Line
numbered_line_of text = option_and_then
    (λ found. option_and_then (line_words found.0) (rest_after (codes ": ") found.1))
    (number_at text)

-- UTF-8 without a zero byte
unfoldable pub is_text : List ℕ → Bool
is_text text = not (list_any (λ byte. byte == 0) text) && is_utf8 text

-- what a line of acts on pages says
unfoldable pub page_line_of : List ℕ → Option Line
page_line_of [] = Some Empty
page_line_of (byte ∷ rest) = if byte == 35
    then (if is_text (byte ∷ rest) then Some Empty else None)
    else numbered_line_of (byte ∷ rest)

-- what a line says in scripts of this form
abbrev pub line_of : Form → List ℕ → Option Line
line_of Pages text = page_line_of text

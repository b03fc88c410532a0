-- The grammar of a script's lines: how each line is spelled.
use Rattle.std.specs.Prelude.{◌≡◌, ℕ, ◌≤◌, ◌⊎◌, List, [], ◌++◌, Some, slice_get, Contains, codes, decimal, IsUtf8}
use Rattle.script.specs.declared.grammar.Act2.{Act2}
use Rattle.script.specs.declared.grammar.Act2.TheVariants.{Begin, Read, Write, Commit, Rollback}
use Rattle.script.specs.declared.grammar.Form.{Form}
use Rattle.script.specs.declared.grammar.Form.TheVariants.{Pages}
use Rattle.script.specs.declared.grammar.Line.{Line}
use Rattle.script.specs.declared.grammar.Line.TheVariants.{Empty, Page, Copy, Step, Logs}

-- the number of a session
abbrev pub IsSession : ℕ → Type 0
IsSession number = (1 ≤ number) × (number ≤ 15)

-- the number of a page that a line may name
abbrev pub IsPage : ℕ → Type 0
IsPage number = (2 ≤ number) × (number ≤ 16)

-- the numbers of an act are in their ranges
abbrev pub HasLegalNumbers : Act2 → Type 0
HasLegalNumbers (Begin session) = IsSession session
HasLegalNumbers (Read session page) = IsSession session × IsPage page
HasLegalNumbers (Write session page byte) = IsSession session × IsPage page × (byte ≤ 255)
HasLegalNumbers (Commit session) = IsSession session
HasLegalNumbers (Rollback session) = IsSession session

-- The one spelling of an act. Numbers are decimal, without a leading zero.
abbrev pub spelling_of : Act2 → List ℕ
spelling_of (Begin session) = decimal session ++ codes ": BEGIN"
spelling_of (Read session page) = decimal session ++ (codes ": READ " ++ decimal page)
spelling_of (Write session page byte) = decimal session ++ (codes ": WRITE " ++ (decimal page ++ (codes " " ++ decimal byte)))
spelling_of (Commit session) = decimal session ++ codes ": COMMIT"
spelling_of (Rollback session) = decimal session ++ codes ": ROLLBACK"

-- a comment begins with `#`, and is UTF-8 without a zero byte
pub record IsComment (text : List ℕ) : Type 0 where
  pub sign : slice_get text 0 ≡ Some 35
  pub utf8 : IsUtf8 text
  pub no_zero : ¬ Contains text 0

-- in scripts of this form this text is a line that says so
abbrev pub Spells : Form → Line → List ℕ → Type 0
Spells Pages Empty text = (text ≡ []) ⊎ IsComment text
Spells Pages (Page act) text = HasLegalNumbers act × (text ≡ spelling_of act)
Spells Pages Copy text = text ≡ codes "0: CHECKPOINT"
Spells Pages Step text = text ≡ codes "0: STEP"
Spells Pages Logs text = text ≡ codes "0: LOGS"

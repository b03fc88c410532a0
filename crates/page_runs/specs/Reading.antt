-- A script that is read line by line through a buffer.
use Rattle.std.specs.Prelude.{◌≡◌, ℕ, ◌+◌, ◌-◌, ◌<◌, ◌≤◌, true, false, List, [], ◌∷◌, ◌++◌, length, take, slice_index, Option, Some, None, option_map, if◌then◌else◌}
use Rattle.script.specs.Raw.{HasNoEnd, raw_lines, is_within, line_limit}
use Rattle.page_runs.specs.declared.lines.Next.{Next}
use Rattle.page_runs.specs.declared.lines.Next.TheVariants as next

-- A reader: the line that it gave last, the bytes that it holds after it, and how many bytes of the script it gave.
pub record Reading : Type 0 where
  pub line : List ℕ
  pub pending : List ℕ
  pub passed : ℕ

-- how many bytes a reader can hold: more than a line within the limit has
abbrev pub buffer_limit : ℕ
buffer_limit = line_limit + 3

-- what is left of the script: what the reader holds, and then what the source has
abbrev pub script_left : Reading → Option (List ℕ) → Option (List ℕ)
script_left reader left = option_map (λ bytes. reader.pending ++ bytes) left

-- a fact about what was left of a script and what is left now, where the source tells it
abbrev pub WhereTold : Option (List ℕ) → Option (List ℕ) → (List ℕ → List ℕ → Type 0) → Type 0
WhereTold (Some before) (Some after) P = P before after
WhereTold None None P = Unit {0}
WhereTold (Some before) None P = ⊥
WhereTold None (Some after) P = ⊥

-- so many bytes are the first line, with its LF
pub record IsEnd (bytes : List ℕ) (count : ℕ) : Type 0 where
  pub some : 0 < count
  pub within : count ≤ length bytes
  pub text : HasNoEnd (take (count - 1) bytes)
  pub last : slice_index bytes (count - 1) ≡ 10

-- what a line is, where so many bytes stand before it
abbrev pub given : ℕ → List ℕ → Next
given passed raw = if is_within passed raw then next.Line else next.Refused

-- What comes next of what is left of a script. Line: its first line, within the limits, and the other lines are left.
-- End: nothing is left. Refused: its first line isn't within the limits.
abbrev pub Advances : Next → Reading → Reading → List ℕ → List ℕ → Type 0
Advances next.Line old new before after =
    (raw_lines before ≡ new.line ∷ raw_lines after) × (is_within old.passed new.line ≡ true) × (new.passed ≡ old.passed + length new.line)
Advances next.End old new before after = (before ≡ []) × (after ≡ [])
Advances next.Refused old new before after =
    (line : List ℕ) × (lines : List (List ℕ)) × (raw_lines before ≡ line ∷ lines) × (is_within old.passed line ≡ false)

-- What a script of acts on pages does: which of its lines are run, what is written, and with which status it ends.
use Rattle.std.specs.Prelude.{◌≡◌, ℕ, ◌+◌, ◌≤◌, ◌⊎◌, Bool, true, false, if◌then◌else◌, List, [], ◌∷◌, ◌++◌, length, take, Option, Some, None, is_some, IfSome, codes, decimal}
use Rattle.std.specs.List.{filter_map, concat, flat_map}
use Rattle.disk_face.specs.Sink.{Puts}
use Rattle.disk_face.specs.Faults.{Rose}
use Rattle.disk_face.specs.declared.source.Source as sources
use Rattle.disk_face.specs.declared.sink.Sink as sinks
use Rattle.page_lines.specs.declared.lines.Act.{Act}
use Rattle.page_lines.specs.declared.lines.Act.TheVariants as act
use Rattle.page_lines.specs.Reply.{reply_text, session_of}
use Rattle.page_lines.specs.declared.lines.Told.{Told}
use Rattle.page_lines.specs.Exchanges.{Exchange, exchanged}
use Rattle.page_runs.specs.declared.status.Status.{Status}
use Rattle.page_runs.specs.declared.status.Status.TheVariants as status
use Rattle.page_runs.specs.Status.{Blames}
use Rattle.script.specs.declared.grammar.Act2.{Act2}
use Rattle.script.specs.declared.grammar.Act2.TheVariants as page
use Rattle.script.specs.declared.grammar.Form.TheVariants.{Pages}
use Rattle.script.specs.declared.grammar.Line.{Line}
use Rattle.script.specs.declared.grammar.Line.TheVariants as line
use Rattle.script.specs.Reading.{line_of}
use Rattle.script.specs.Raw.{HasNoEnd, raw_lines, text_of_raw, is_within}

-- the act of a session's line
abbrev pub page_act : Act2 → Act
page_act (page.Begin session) = act.Begin session
page_act (page.Read session number) = act.Read session number
page_act (page.Write session number byte) = act.Write session number byte
page_act (page.Commit session) = act.Commit session
page_act (page.Rollback session) = act.Rollback session

-- the act that a line asks for; an empty line or a comment asks for none
abbrev pub act_in : Line → Option Act
act_in line.Empty = None
act_in (line.Page said) = Some (page_act said)
act_in line.Copy = Some act.Copy
act_in line.Step = Some act.Step
act_in line.Logs = Some act.Logs

-- the acts that a line asks for, none or one
abbrev pub acts_in : Line → List Act
acts_in line = filter_map act_in (line ∷ [])

-- the reply of an exchange
abbrev pub reply_of : Exchange → List ℕ
reply_of one = reply_text (session_of one.act) one.told

-- the replies to acts that were answered so, one after another
abbrev pub replies : List Act → List Told → List ℕ
replies acts answers = flat_map reply_of (exchanged acts answers)

-- what a line says that begins behind so many bytes of the script; none where it is past a limit or not in the grammar
abbrev pub line_in : ℕ → List ℕ → Option Line
line_in passed raw = if is_within passed raw then line_of Pages (text_of_raw raw) else None

-- a line before others, if it is taken
abbrev pub line_before : Option Line → List Line → List Line
line_before None lines = []
line_before (Some line) lines = line ∷ lines

-- the lines that are run: those before the first that is refused
abbrev pub lines_run : ℕ → List (List ℕ) → List Line
lines_run passed [] = []
lines_run passed (raw ∷ raws) = line_before (line_in passed raw) (lines_run (passed + length raw) raws)

-- whether one of the lines is refused
abbrev pub is_refused : ℕ → List (List ℕ) → Bool
is_refused passed [] = false
is_refused passed (raw ∷ raws) = if is_some (line_in passed raw) then is_refused (passed + length raw) raws else true

-- the last line of a run that refused its line of this number
abbrev pub refused_text : ℕ → List ℕ
refused_text number = codes "script refused at line " ++ (decimal number ++ 10 ∷ [])

-- the lines of a script that are run
abbrev pub lines_of : List ℕ → List Line
lines_of script = lines_run 0 (raw_lines script)

-- the acts of its first lines
abbrev pub acts_first : List ℕ → ℕ → List Act
acts_first script count = filter_map act_in (take count (lines_of script))

-- the acts of a script that are run
abbrev pub acts_run : List ℕ → List Act
acts_run script = filter_map act_in (lines_of script)

-- how a run over the whole script ends: refused where one of its lines is
abbrev pub status_of : List ℕ → Status
status_of script = if is_refused 0 (raw_lines script) then status.ScriptRefused else status.Done

-- the line that says that the words were refused
abbrev pub words_refused : List ℕ
words_refused = codes "words refused" ++ 10 ∷ []

-- the line that says that the source failed
abbrev pub source_failed : List ℕ
source_failed = codes "source failed" ++ 10 ∷ []

-- The source failed after so many lines of the script, all of which were run. What it gave of the script is these lines, and then
-- a piece that doesn't end a line.
pub record IsCut (script : List ℕ) (count : ℕ) (left : Option (List ℕ)) : Type 0 where
  pub run : count ≤ length (lines_of script)
  pub piece : List ℕ
  pub unended : HasNoEnd piece
  pub given : IfSome left (λ bytes. script ≡ concat (take count (raw_lines script)) ++ (piece ++ bytes))

-- a front of this text was written
abbrev pub PutsFront : Option (List ℕ) → List ℕ → Option (List ℕ) → Type 0
PutsFront before text after = (count : ℕ) × Puts before (take count text) after

-- The first lines of a script were run, as many as the count says, and their acts were answered so. What that writes was written: the
-- replies, and behind them the last line, if there is one.
pub record Wrote (Answered : List Act → List Told → Type 0) (script : List ℕ) (count : ℕ) (last : List ℕ) (before after : Option (List ℕ)) : Type 0 where
  pub within : count ≤ length (lines_of script)
  pub answers : List Told
  pub answered : Answered (acts_first script count) answers
  pub puts : Puts before (replies (acts_first script count) answers ++ last) after

-- The same, and a front of it was written.
pub record WroteFront (Answered : List Act → List Told → Type 0) (script : List ℕ) (count : ℕ) (last : List ℕ) (before after : Option (List ℕ)) : Type 0 where
  pub within : count ≤ length (lines_of script)
  pub answers : List Told
  pub answered : Answered (acts_first script count) answers
  pub puts : PutsFront before (replies (acts_first script count) answers ++ last) after

-- what may stand behind the replies to the first lines: nothing, or, behind all that are run, the line that names the next one, which is refused
abbrev pub IsLast : List ℕ → ℕ → List ℕ → Type 0
IsLast script count last = (last ≡ [])
    ⊎ ((count ≡ length (lines_of script)) × (status_of script ≡ status.ScriptRefused) × (last ≡ refused_text (1 + count)))

-- or that the source failed there
abbrev pub IsLastOrCut : List ℕ → ℕ → Option (List ℕ) → List ℕ → Type 0
IsLastOrCut script count left last = IsLast script count last ⊎ (IsCut script count left × (last ≡ source_failed))

-- What a run over this script that ended so left of the script, and what it wrote; `Answered` says of acts that they were answered so.
-- Done: no line is refused, nothing is left, and all replies were written. ScriptRefused: a line is refused, and the replies before it and
-- the last line were written. SourceFailed: the replies to the lines that the source gave whole were written, and the last line.
-- SinkFailed: a front of what is written without faults of the sink. NoMemory: a front of what is written with memory enough. The other
-- statuses are of no run.
abbrev pub Ran : (List Act → List Told → Type 0) → List ℕ → Status → Option (List ℕ) → Option (List ℕ) → Option (List ℕ) → Type 0
Ran Answered script status.Done left before after = (status_of script ≡ status.Done) × (left ≡ Some [])
    × Wrote Answered script (length (lines_of script)) [] before after
Ran Answered script status.ScriptRefused left before after = (status_of script ≡ status.ScriptRefused)
    × Wrote Answered script (length (lines_of script)) (refused_text (1 + length (lines_of script))) before after
Ran Answered script status.SourceFailed left before after =
    (count : ℕ) × IsCut script count left × Wrote Answered script count source_failed before after
Ran Answered script status.SinkFailed left before after =
    (count : ℕ) × (last : List ℕ) × IsLastOrCut script count left last × WroteFront Answered script count last before after
Ran Answered script status.NoMemory left before after =
    (count : ℕ) × (last : List ℕ) × IsLast script count last × WroteFront Answered script count last before after
Ran Answered script other left before after = ⊥

-- a status that a run may end with
abbrev pub IsOfRun : Status → Type 0
IsOfRun status.Done = Unit {0}
IsOfRun status.ScriptRefused = Unit {0}
IsOfRun status.SourceFailed = Unit {0}
IsOfRun status.SinkFailed = Unit {0}
IsOfRun status.NoMemory = Unit {0}
IsOfRun other = ⊥

-- A run of what a source gives ended so: what each status says of the script, where the source tells it, and of what was written; and
-- which faults it tells of.
pub record RunEnds {S K : Type 0} (source : sources.Ghosts S) (sink : sinks.Ghosts K) (Answered : List Act → List Told → Type 0)
    (ended : Status) (src : S) (out : K) (src' : S) (out' : K) : Type 0 where
  pub of_run : IsOfRun ended
  pub script : IfSome (source.left src) (λ script. Ran Answered script ended (source.left src') (sink.written out) (sink.written out'))
  pub faults : Blames ended (source.faults src) (source.faults src') (sink.faults out) (sink.faults out')

-- A last line was written, so that the run ends as it says; or the sink failed at it.
abbrev pub SaysLast : {K : Type 0} → sinks.Ghosts K → List ℕ → Status → Status → K → K → Type 0
SaysLast sink line saying ended out out' =
    ((ended ≡ saying) × Puts (sink.written out) line (sink.written out') × (sink.faults out' ≡ sink.faults out))
    ⊎ ((ended ≡ status.SinkFailed) × PutsFront (sink.written out) line (sink.written out') × Rose (sink.faults out) (sink.faults out'))

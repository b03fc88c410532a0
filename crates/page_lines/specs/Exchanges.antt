-- A run of page lines as it is seen from outside: its acts, each with what it was answered. Which answers belong to which transaction
-- follows from these alone.
use Rattle.std.specs.Prelude.{ℕ, ◌+◌, Bool, true, false, ◌==◌, if◌then◌else◌, List, [], ◌∷◌, ◌++◌, Option, Some, None, take, reverse}
use Rattle.engine_spec.specs.declared.commits.Receipt.TheVariants.{At}
use Rattle.page_lines.specs.declared.lines.Act.{Act}
use Rattle.page_lines.specs.declared.lines.Act.TheVariants as act
use Rattle.page_lines.specs.declared.lines.Told.{Told}
use Rattle.page_lines.specs.declared.lines.Told.TheVariants as told
use Rattle.page_lines.specs.PageLines.{Statement, ReadPage, WritePage}
use Rattle.page_lines.specs.World.{World, step}

-- an act and what it was answered
pub record Exchange : Type 0 where
  pub act : Act
  pub told : Told

-- the exchanges of a run over whole maps
abbrev pub exchanges : World → List Act → List Exchange
exchanges world [] = []
exchanges world (asked ∷ acts) = record { act = asked; told = (step world asked).told } ∷ exchanges (step world asked).world acts

-- acts, each with what it was answered
abbrev pub exchanged : List Act → List Told → List Exchange
exchanged [] answers = []
exchanged (asked ∷ acts) [] = []
exchanged (asked ∷ acts) (answer ∷ answers) = record { act = asked; told = answer } ∷ exchanged acts answers

-- the past of a run at the moment before the exchange with this index, newest first
abbrev pub past_of : List Exchange → ℕ → List Exchange
past_of run moment = reverse (take moment run)

-- a COMMIT that became a commit
abbrev pub is_commit : Told → Bool
is_commit (told.Done (At number)) = true
is_commit answer = false

-- how many commits there were
abbrev pub commits_in : List Exchange → ℕ
commits_in [] = 0
commits_in (one ∷ run) = if is_commit one.told then commits_in run + 1 else commits_in run

-- a BEGIN of this session that was answered ok
abbrev pub is_begin : ℕ → Act → Told → Bool
is_begin session (act.Begin other) told.Ok = other == session
is_begin session asked answer = false

-- the snapshot of a session's transaction: how many commits there were at its last BEGIN
abbrev pub snapshot_of : ℕ → List Exchange → ℕ
snapshot_of session [] = 0
snapshot_of session (one ∷ past) = if is_begin session one.act one.told then commits_in past else snapshot_of session past

-- a statement and what it was told
pub record AcceptedStatement : Type 0 where
  pub statement : Statement
  pub told : Told

-- the READ or WRITE of this session that was accepted here, if one was
abbrev pub accepted : ℕ → Act → Told → Option AcceptedStatement
accepted session (act.Read other page) (told.Byte byte) =
    if other == session then Some (record { statement = ReadPage page; told = told.Byte byte }) else None
accepted session (act.Write other page byte) told.Ok =
    if other == session then Some (record { statement = WritePage page byte; told = told.Ok }) else None
accepted session asked answer = None

-- one more at the end, if there is one
abbrev pub with_last : List AcceptedStatement → Option AcceptedStatement → List AcceptedStatement
with_last done None = done
with_last done (Some one) = done ++ one ∷ []

-- what a session's transaction did: the reads and writes that were accepted since its last BEGIN, in their order, each with its answer
abbrev pub transaction_of : ℕ → List Exchange → List AcceptedStatement
transaction_of session [] = []
transaction_of session (one ∷ past) = if is_begin session one.act one.told then []
    else with_last (transaction_of session past) (accepted session one.act one.told)

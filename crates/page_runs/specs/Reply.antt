-- How a line is answered, and why one was not.
use Rattle.std.specs.Prelude.{◌≡◌, ◌⊎◌, ℕ, List, Option, Result, Ok, Err}
use Rattle.disk_face.specs.Faults.{Rose}
use Rattle.disk_face.specs.Sink.{Puts}
use Rattle.page_face.specs.declared.engine_tells.EngineTells.{Ghosts}
use Rattle.page_lines.specs.declared.lines.Act.{Act}
use Rattle.page_lines.specs.declared.lines.Told.{Told}
use Rattle.page_lines.specs.Reply.{reply_text, session_of}
use Rattle.page_runs.specs.declared.pages.Unanswered.{Unanswered}
use Rattle.page_runs.specs.declared.pages.Unanswered.TheVariants as why
use Rattle.page_runs.specs.Outcome.{replies, PutsFront}
use Rattle.page_runs.specs.Sessions.{Seated, IsAnswered, AreAnswered, Rests}

-- an act was answered, and all of the reply was written
abbrev pub AnswersAct : {E M : Type 0} → Ghosts E M → Seated E → Act → Seated E → Option (List ℕ) → Option (List ℕ) → Type 0
AnswersAct engine old act new before after =
    (told : Told) × IsAnswered engine old act told new × Puts before (reply_text (session_of act) told) after

-- so were these acts
abbrev pub AnswersActs : {E M : Type 0} → Ghosts E M → Seated E → List Act → Seated E → Option (List ℕ) → Option (List ℕ) → Type 0
AnswersActs engine old acts new before after =
    (answers : List Told) × AreAnswered engine old acts answers new × Puts before (replies acts answers) after

-- Or they were not answered: nothing happened and nothing was written; or they were, and a front of the replies was written.
abbrev pub LeavesActs : {E M : Type 0} → Ghosts E M → Seated E → List Act → Seated E → Option (List ℕ) → Option (List ℕ) → Type 0
LeavesActs engine old acts new before after = (Rests engine old new × (after ≡ before))
    ⊎ ((answers : List Told) × AreAnswered engine old acts answers new × PutsFront before (replies acts answers) after)

-- a fault of the sink was counted exactly where it is why a line was not answered
abbrev pub CountsReply : {T : Type 0} → Result T Unanswered → ℕ → ℕ → Type 0
CountsReply (Ok done) before after = after ≡ before
CountsReply (Err why.Sink) before after = Rose before after
CountsReply (Err why.Memory) before after = after ≡ before

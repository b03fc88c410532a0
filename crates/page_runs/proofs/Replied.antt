-- How an act is answered and its reply written, as the acts of a line.
use Rattle.std.proofs.Common.{◌≡◌, ◌∙◌, ℕ, List, [], ◌∷◌, ◌++◌, Option, Some, refl, sym, ap, subst, inl, inr}
use Rattle.std.specs.Prelude.{Result, Ok, Err, OnOk, OnErr}
use Rattle.std.specs.List.{cons_option}
use Rattle.std.proofs.lemmas.List.{append-nil}
use Rattle.disk_face.specs.Sink.{Puts}
use Rattle.page_face.specs.declared.engine_tells.EngineTells.{Ghosts}
use Rattle.page_lines.specs.declared.lines.Act.{Act}
use Rattle.page_lines.specs.declared.lines.Told.{Told}
use Rattle.page_lines.specs.Reply.{reply_text, session_of}
use Rattle.script.specs.declared.grammar.Line.{Line}
use Rattle.page_runs.specs.Outcome.{act_in, acts_in, replies, PutsFront}
use Rattle.page_runs.specs.Reply.{AnswersAct, AnswersActs, LeavesActs}
use Rattle.page_runs.specs.Sessions.{Seated, IsAnswered, AreAnswered}
use Rattle.page_runs.proofs.Fronts.{Puts-nothing}

-- one act as a list of one
pub answered_one : {E M : Type 0} (told : Ghosts E M) (old new : Seated E) (act : Act) (answer : Told) → IsAnswered told old act answer new
    → AreAnswered told old (act ∷ []) (answer ∷ []) new
answered_one told old new act answer one = (new, one, refl)

-- its reply is all that is written
reply_alone : (act : Act) (answer : Told) → replies (act ∷ []) (answer ∷ []) ≡ reply_text (session_of act) answer
reply_alone act answer = append-nil (reply_text (session_of act) answer)

-- an act that was answered, a front of whose reply was written
pub leaves_one : {E M : Type 0} (told : Ghosts E M) (old new : Seated E) (act : Act) (answer : Told) (text : List ℕ) (before after : Option (List ℕ))
    → IsAnswered told old act answer new → text ≡ reply_text (session_of act) answer → PutsFront before text after → LeavesActs told old (act ∷ []) new before after
leaves_one told old new act answer text before after one is front =
    inr (answer ∷ [], answered_one told old new act answer one, subst (λ all. PutsFront before all after) (is ∙ sym (reply_alone act answer)) front)

-- or nothing of it
pub leaves_unsaid : {E M : Type 0} (told : Ghosts E M) (old new : Seated E) (act : Act) (answer : Told) (before : Option (List ℕ))
    → IsAnswered told old act answer new → LeavesActs told old (act ∷ []) new before before
leaves_unsaid told old new act answer before one =
    inr (answer ∷ [], answered_one told old new act answer one, (0, Puts-nothing before))

-- the act of a line that was answered
pub answers_line : {E M T : Type 0} (told : Ghosts E M) (old new : Seated E) (line : Line) (act : Act) (before after : Option (List ℕ)) {F : Type 0}
    (result : Result T F) → Some act ≡ act_in line → OnOk result (AnswersAct told old act new before after)
    → OnOk result (AnswersActs told old (acts_in line) new before after)
answers_line told old new line act before after (Ok done) is (answer, one, puts) =
    subst (λ (acts : List Act). AnswersActs told old acts new before after) (ap (λ (found : Option Act). cons_option found []) is)
    (answer ∷ [], answered_one told old new act answer one, subst (λ all. Puts before all after) (sym (reply_alone act answer)) puts)
answers_line told old new line act before after (Err why) is none = none

pub leaves_line : {E M T : Type 0} (told : Ghosts E M) (old new : Seated E) (line : Line) (act : Act) (before after : Option (List ℕ)) {F : Type 0}
    (result : Result T F) → Some act ≡ act_in line → OnErr result (LeavesActs told old (act ∷ []) new before after)
    → OnErr result (LeavesActs told old (acts_in line) new before after)
leaves_line told old new line act before after result is left =
    subst (λ (acts : List Act). OnErr result (LeavesActs told old acts new before after)) (ap (λ (found : Option Act). cons_option found []) is) left

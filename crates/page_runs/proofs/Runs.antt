-- A run over an engine: the exits of its loop, said of the engine.
use Rattle.std.proofs.Common.{◌≡◌, ℕ, ◌+◌, List, [], ◌∷◌, ◌++◌, length, Option, Some, None, IfSome, sym, subst, inl, inr, ◌⊎◌}
use Rattle.std.proofs.lemmas.Option.{IfSome_then}
use Rattle.disk_face.specs.Sink.{Puts}
use Rattle.page_face.specs.declared.engine_tells.EngineTells.{Ghosts}
use Rattle.page_face.specs.Calls.{KeepsOpenings}
use Rattle.page_lines.specs.declared.lines.Act.{Act}
use Rattle.page_lines.specs.declared.lines.Told.{Told}
use Rattle.script.specs.declared.grammar.Form.TheVariants.{Pages}
use Rattle.script.specs.declared.grammar.Line.{Line}
use Rattle.script.specs.Reading.{line_of}
use Rattle.script.specs.Raw.{HasNoEnd, text_of_raw}
use Rattle.page_runs.specs.declared.status.Status.{Status}
use Rattle.page_runs.specs.declared.status.Status.TheVariants as ended
use Rattle.page_runs.specs.declared.lines.Next.TheVariants as next
use Rattle.page_runs.specs.Reading.{Reading, script_left, WhereTold, Advances}
use Rattle.page_runs.specs.Outcome.{acts_in, source_failed, PutsFront, IsLast, WroteFront, Ran}
use Rattle.page_runs.specs.Reply.{AnswersActs, LeavesActs}
use Rattle.page_runs.specs.Sessions.{Seated, AnsweredOver, Rests}
use Rattle.page_runs.proofs.Leading.{LeadsTo, leads_more, answered_long, answered_over, rests_here}
use Rattle.page_runs.proofs.Standing.{Standing, standing_as}
use Rattle.page_runs.proofs.Exits.{SaidRefused, Unfinished, at_end, past_limit, not_in_grammar, cut_there, front_there, goes_on}

-- where a run over the first engine stands
abbrev pub StandsIn : {E M : Type 0} → Ghosts E M → E → Seated E → Option (List ℕ) → ℕ → ℕ → Option (List ℕ) → Option (List ℕ) → Option (List ℕ) → Type 0
StandsIn told first now from number passed left before written =
    IfSome from (λ script. Standing (LeadsTo told first now) script number passed left before written)

-- it stands there as a run over the engine
pub as_run : {E M : Type 0} (told : Ghosts E M) (first : E) (now : Seated E) (from : Option (List ℕ)) (number passed : ℕ) (left before written : Option (List ℕ))
    → StandsIn told first now from number passed left before written
    → IfSome from (λ script. Standing (AnsweredOver told first now.engine) script number passed left before written)
as_run told first now from number passed left before written stands =
    IfSome_then from stands (λ script s. standing_as (LeadsTo told first now) (AnsweredOver told first now.engine) script number passed left before written
    (λ acts answers leads. answered_over told first now now acts answers leads (rests_here told now)) s)

-- the next line was not answered
pub unanswered : {E M : Type 0} (told : Ghosts E M) (first : E) (old new : Seated E) (said : Line) (mid now : Option (List ℕ)) → KeepsOpenings told first old.engine
    → LeavesActs told old (acts_in said) new mid now → (acts : List Act) (answers : List Told) → LeadsTo told first old acts answers
    → Unfinished (AnsweredOver told first new.engine) acts answers said mid now
unanswered told first old new said mid now keeps (inl nothing) acts answers leads =
    inl (answered_over told first old new acts answers leads nothing.0, nothing.1)
unanswered told first old new said mid now keeps (inr (more, answered, front)) acts answers leads =
    inr (
      more,
      answered_long told old new (acts_in said) more answered,
      answered_over told first new new (acts ++ acts_in said) (answers ++ more)
          (leads_more told first old new acts answers (acts_in said) more keeps leads answered) (rests_here told new),
      front,
    )

-- so ends a run whose next line was not answered
pub ends_unanswered : {E M : Type 0} (told : Ghosts E M) (first : E) (old new : Seated E) (from left left' before mid now : Option (List ℕ)) (number : ℕ)
    (reader reader' : Reading) (given text : List ℕ) (said : Line) (P : List ℕ → Type 0) → KeepsOpenings told first old.engine
    → StandsIn told first old from number reader.passed (script_left reader left) before mid
    → WhereTold (script_left reader left) (script_left reader' left') (Advances next.Line reader reader') → given ≡ reader'.line → text ≡ text_of_raw given
    → Some said ≡ line_of Pages text → LeavesActs told old (acts_in said) new mid now
    → ((script : List ℕ) (count : ℕ) → WroteFront (AnsweredOver told first new.engine) script count [] before now → P script) → IfSome from P
ends_unanswered told first old new from left left' before mid now number reader reader' given text said P keeps stands onward same cut meaning leaves result =
    front_there (LeadsTo told first old) (AnsweredOver told first new.engine) from left left' before mid now number reader reader' given text said P stands onward same
    cut meaning (unanswered told first old new said mid now keeps leaves) result

-- and so a run goes on whose next line was answered
pub runs_on : {E M : Type 0} (told : Ghosts E M) (first : E) (old new : Seated E) (from left left' before mid now : Option (List ℕ)) (number : ℕ)
    (reader reader' : Reading) (given text : List ℕ) (said : Line) → KeepsOpenings told first old.engine
    → StandsIn told first old from number reader.passed (script_left reader left) before mid
    → WhereTold (script_left reader left) (script_left reader' left') (Advances next.Line reader reader') → given ≡ reader'.line → text ≡ text_of_raw given
    → Some said ≡ line_of Pages text → AnswersActs told old (acts_in said) new mid now
    → StandsIn told first new from (number + 1) reader'.passed (script_left reader' left') before now
runs_on told first old new from left left' before mid now number reader reader' given text said keeps stands onward same cut meaning (more, answered, puts) =
    goes_on (LeadsTo told first old) (LeadsTo told first new) from left left' before mid now number reader reader' given text said more stands onward same cut meaning
    (answered_long told old new (acts_in said) more answered)
    (λ acts answers leads. leads_more told first old new acts answers (acts_in said) more keeps leads answered) puts

-- Acts over an engine one after another: from sessions that haven't acted to those that have answered some acts.
use Rattle.std.proofs.Common.{◌≡◌, ◌∙◌, ℕ, Bool, true, false, cond, ◌&&◌, is_some, List, [], ◌∷◌, ◌++◌, length, refl, sym, ap, subst, arith, append_assoc, length-append}
use Rattle.std.specs.Prelude.{Option}
use Rattle.std.proofs.lemmas.List.{append-nil}
use Rattle.page_spec.specs.PageMap.{PageMap}
use Rattle.crash_spec.specs.Opening.{Opening}
use Rattle.engine_spec.specs.declared.pins.Lock.{Lock}
use Rattle.engine_spec.specs.declared.pins.Pin.{Pin}
use Rattle.engine_spec.specs.State.{EngineState}
use Rattle.engine_spec.specs.TwoLogs.{change_readers, one_fewer}
use Rattle.engine_spec.specs.Events.{with_readers}
use Rattle.page_face.specs.declared.engine_tells.EngineTells.{Ghosts}
use Rattle.page_face.specs.Calls.{KeepsOpenings}
use Rattle.page_lines.specs.declared.lines.Act.{Act}
use Rattle.page_lines.specs.declared.lines.Told.{Told}
use Rattle.acts.specs.declared.seats.Seat.{Seat}
use Rattle.acts.specs.Pagers.{EndsAll, Plays, pins_of}
use Rattle.acts.proofs.Growth.{acts_under}
use Rattle.page_runs.specs.Sessions.{Seated, IsAnswered, AreAnswered, Rests, AnsweredOver}

-- Over the first engine, without sessions, these acts were answered so and led to these sessions: whatever run goes on from them, all of it
-- is a run over the first.
abbrev pub LeadsTo : {E M : Type 0} → Ghosts E M → E → Seated E → List Act → List Told → Type 0
LeadsTo told first now acts answers = (rest : List Act) (more : List Told) (last : EngineState)
    → Plays (told.opened first) (told.state now.engine) (told.map_at now.engine) now.seats rest more last
    → Plays (told.opened first) (told.state first) (told.map_at first) [] (acts ++ rest) (answers ++ more) last

-- no act leads from the first sessions to themselves
pub leads_none : {E M : Type 0} (told : Ghosts E M) (now : Seated E) → now.seats ≡ [] → LeadsTo told now.engine now [] []
leads_none told now none = λ rest more last plays.
    subst (λ (seats : List Seat). Plays (told.opened now.engine) (told.state now.engine) (told.map_at now.engine) seats rest more last) none plays

-- one act more
leads_one : {E M : Type 0} (told : Ghosts E M) (first : E) (old new : Seated E) (acts : List Act) (answers : List Told) (act : Act) (answer : Told)
    → KeepsOpenings told first old.engine → LeadsTo told first old acts answers → IsAnswered told old act answer new
    → LeadsTo told first new (acts ++ act ∷ []) (answers ++ answer ∷ [])
leads_one told first old new acts answers act answer keeps leads one = λ rest more last plays.
    subst (λ (all : List Act). Plays (told.opened first) (told.state first) (told.map_at first) [] all ((answers ++ answer ∷ []) ++ more) last)
    (sym (append_assoc acts (act ∷ []) rest))
    (subst (λ (all : List Told). Plays (told.opened first) (told.state first) (told.map_at first) [] (acts ++ act ∷ rest) all last)
    (sym (append_assoc answers (answer ∷ []) more))
    (leads (act ∷ rest) (answer ∷ more) last (
      told.state new.engine,
      told.map_at new.engine,
      new.seats,
      acts_under (told.opened first) (told.opened old.engine) (told.state old.engine) (told.state new.engine) (told.map_at old.engine)
          (told.map_at new.engine) old.seats act answer new.seats keeps one.acts,
      one.maps,
      λ opening is. told.recovers new.engine opening (one.opened opening (keeps opening is)),
      plays,
    )))

-- and several
pub leads_more : {E M : Type 0} (told : Ghosts E M) (first : E) (old new : Seated E) (acts : List Act) (answers : List Told) (more : List Act)
    (told_more : List Told) → KeepsOpenings told first old.engine → LeadsTo told first old acts answers → AreAnswered told old more told_more new
    → LeadsTo told first new (acts ++ more) (answers ++ told_more)
leads_more told first old new acts answers [] [] keeps leads same =
    subst (λ (all : List Act). LeadsTo told first new all (answers ++ [])) (sym (append-nil acts))
    (subst (λ (all : List Told). LeadsTo told first new acts all) (sym (append-nil answers))
    (subst (λ (now : Seated _). LeadsTo told first now acts answers) (sym same) leads))
leads_more told first old new acts answers [] (answer ∷ told_more) keeps leads never = absurd never
leads_more told first old new acts answers (act ∷ more) [] keeps leads never = absurd never
leads_more told first old new acts answers (act ∷ more) (answer ∷ told_more) keeps leads (mid, one, others) =
    subst (λ (all : List Act). LeadsTo told first new all (answers ++ answer ∷ told_more)) (append_assoc acts (act ∷ []) more)
    (subst (λ (all : List Told). LeadsTo told first new ((acts ++ act ∷ []) ++ more) all) (append_assoc answers (answer ∷ []) told_more)
    (leads_more told first mid new (acts ++ act ∷ []) (answers ++ answer ∷ []) more told_more (λ opening is. one.opened opening (keeps opening is))
    (leads_one told first old mid acts answers act answer keeps leads one) others))

-- as many answers as acts
pub answered_long : {E M : Type 0} (told : Ghosts E M) (old new : Seated E) (acts : List Act) (answers : List Told)
    → AreAnswered told old acts answers new → length acts ≡ length answers
answered_long told old new [] [] same = refl
answered_long told old new [] (answer ∷ answers) never = absurd never
answered_long told old new (act ∷ acts) [] never = absurd never
answered_long told old new (act ∷ acts) (answer ∷ answers) (mid, one, others) = omega (arith, answered_long told mid new acts answers others)

-- counting a reader leaves the count of faults and the disk
readers_leave : (old : EngineState) (change : ℕ → ℕ) (lock : Lock) → ((with_readers change lock old).faults ≡ old.faults) × ((with_readers change lock old).disk ≡ old.disk)
readers_leave old change lock = by_test (old.always_begins && is_some old.logs)
  where
    by_test : (test : Bool) → ((cond test (record old { readers = change_readers change old.readers lock }) old).faults ≡ old.faults)
        × ((cond test (record old { readers = change_readers change old.readers lock }) old).disk ≡ old.disk)
    by_test true = (refl, refl)
    by_test false = (refl, refl)

-- what is left once these pins were given back
pub record GivenBack (pins : List Pin) (old : EngineState) : Type 0 where
  pub last : EngineState
  pub ends : EndsAll pins old last
  pub faults : last.faults ≡ old.faults
  pub disk : last.disk ≡ old.disk

given_back : (pins : List Pin) (old : EngineState) → GivenBack pins old
given_back [] old = record { last = old; ends = refl; faults = refl; disk = refl }
given_back (pin ∷ pins) old =
    let mid : EngineState = with_readers one_fewer pin.lock old in
    let others : GivenBack pins mid = given_back pins mid in
    let leaves = readers_leave old one_fewer pin.lock in
    record {
      last = others.last;
      ends = (mid, refl, others.ends);
      faults = others.faults ∙ leaves.0;
      disk = others.disk ∙ leaves.1;
    }

-- so all acts are a run
pub answered_over : {E M : Type 0} (told : Ghosts E M) (first : E) (now later : Seated E) (acts : List Act) (answers : List Told)
    → LeadsTo told first now acts answers → Rests told now later → AnsweredOver told first later.engine acts answers
answered_over told first now later acts answers leads rests =
    let back = given_back (pins_of now.seats) (told.state now.engine) in
    record {
      last = back.last;
      plays = subst (λ (all : List Act). Plays (told.opened first) (told.state first) (told.map_at first) [] all answers back.last) (append-nil acts)
          (subst (λ (all : List Told). Plays (told.opened first) (told.state first) (told.map_at first) [] (acts ++ []) all back.last) (append-nil answers)
          (leads [] [] back.last back.ends));
      faults = back.faults ∙ ap (λ (seen : EngineState). seen.faults) (sym rests.state);
      disk = back.disk ∙ ap (λ (seen : EngineState). seen.disk) (sym rests.state);
    }

-- nothing happened
pub rests_here : {E M : Type 0} (told : Ghosts E M) (now : Seated E) → Rests told now now
rests_here told now = record { state = refl; seats = refl }

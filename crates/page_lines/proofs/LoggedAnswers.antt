-- Runs over a store that keeps two logs: one after another they are a run, their counts of faults don't fall, and where no fault was
-- counted their answers are a function of the acts.
use Rattle.std.proofs.Common.{◌≡◌, ℕ, ◌≤◌, List, [], ◌∷◌, ◌++◌, refl, subst, ap, ◌∙◌, inl, inr, arith}
use Rattle.disk_face.specs.Faults.{Rose}
use Rattle.crash_spec.specs.Opening.{Opening}
use Rattle.page_lines.specs.declared.lines.Act.{Act}
use Rattle.page_lines.specs.declared.lines.Told.{Told}
use Rattle.page_lines.specs.Logged.{LoggedWorld, LoggedOutcome, logged_step, DiskPast, LineAnswers, Lines, logged_answers}
use Rattle.page_lines.proofs.Rises.{rose_first, rose_then}

-- a line's count of faults doesn't fall
answers_faults : (before : LoggedWorld) (faults : ℕ) (asked : Act) (answer : Told) (after : LoggedWorld) (faults_then : ℕ)
    → LineAnswers before faults asked answer after faults_then → faults ≤ faults_then
answers_faults before faults asked answer after faults_then (inl (is, same)) = omega (arith, same)
answers_faults before faults asked answer after faults_then (inr (is, fails, rose)) = rose.later

-- nor does a run's
pub lines_faults : (opened : Opening → Type 0) (before : LoggedWorld) (disk disk_then : DiskPast) (acts : List Act) (answers : List Told)
    (after : LoggedWorld) → Lines opened before disk acts answers after disk_then → disk.faults ≤ disk_then.faults
lines_faults opened before disk disk_then [] [] after lines = omega (arith, ap (λ (it : DiskPast). it.faults) lines.1)
lines_faults opened before disk disk_then (asked ∷ acts) (answer ∷ answers) after (mid, disk_mid, line, rest) =
    let one = answers_faults before disk.faults asked answer mid disk_mid.faults line.answers in
    let others = lines_faults opened mid disk_mid disk_then acts answers after rest in
    omega (arith, one, others)
lines_faults opened before disk disk_then [] (answer ∷ answers) after never = absurd never
lines_faults opened before disk disk_then (asked ∷ acts) [] after never = absurd never

-- a line that counts no fault is answered as its step says
answered_so : (before : LoggedWorld) (faults : ℕ) (asked : Act) (answer : Told) (after : LoggedWorld) (faults_then : ℕ)
    → LineAnswers before faults asked answer after faults_then → (Rose faults faults_then → ⊥)
    → record { told = answer; after = after } ≡ logged_step before asked
answered_so before faults asked answer after faults_then (inl (is, same)) quiet = is
answered_so before faults asked answer after faults_then (inr (is, fails, rose)) quiet = absurd (quiet rose)

-- a run that counts no fault is answered as its acts say
pub logged_functional : (opened : Opening → Type 0) (before : LoggedWorld) (disk disk_then : DiskPast) (acts : List Act) (answers : List Told)
    (after : LoggedWorld) → Lines opened before disk acts answers after disk_then → (Rose disk.faults disk_then.faults → ⊥)
    → answers ≡ logged_answers before acts
logged_functional opened before disk disk_then [] [] after lines quiet = refl
logged_functional opened before disk disk_then (asked ∷ acts) (answer ∷ answers) after (mid, disk_mid, line, rest) quiet =
    let later = lines_faults opened mid disk_mid disk_then acts answers after rest in
    let sooner = answers_faults before disk.faults asked answer mid disk_mid.faults line.answers in
    let here = answered_so before disk.faults asked answer mid disk_mid.faults line.answers
    (λ rose. quiet (rose_first disk.faults disk_mid.faults disk_then.faults later rose)) in
    let others = logged_functional opened mid disk_mid disk_then acts answers after rest
    (λ rose. quiet (rose_then disk.faults disk_mid.faults disk_then.faults sooner rose)) in
    ap (λ (all : List Told). answer ∷ all) others
    ∙ ap (λ (outcome : LoggedOutcome). outcome.told ∷ logged_answers outcome.after acts) here
logged_functional opened before disk disk_then [] (answer ∷ answers) after never quiet = absurd never
logged_functional opened before disk disk_then (asked ∷ acts) [] after never quiet = absurd never

-- a run and then another is a run of both
pub lines_append : (opened : Opening → Type 0) (before mid after : LoggedWorld) (disk disk_mid disk_then : DiskPast) (acts more : List Act)
    (answers answers_more : List Told) → Lines opened before disk acts answers mid disk_mid
    → Lines opened mid disk_mid more answers_more after disk_then
    → Lines opened before disk (acts ++ more) (answers ++ answers_more) after disk_then
lines_append opened before mid after disk disk_mid disk_then [] more [] answers_more lines others =
    subst (λ (now : LoggedWorld). Lines opened now disk more answers_more after disk_then) lines.0
    (subst (λ (past : DiskPast). Lines opened mid past more answers_more after disk_then) lines.1 others)
lines_append opened before mid after disk disk_mid disk_then (asked ∷ acts) more (answer ∷ answers) answers_more
    (one, disk_one, line, rest) others =
    (one, disk_one, line, lines_append opened one mid after disk_one disk_mid disk_then acts more answers answers_more rest others)
lines_append opened before mid after disk disk_mid disk_then [] more (answer ∷ answers) answers_more never others = absurd never
lines_append opened before mid after disk disk_mid disk_then (asked ∷ acts) more [] answers_more never others = absurd never

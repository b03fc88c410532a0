-- What bars a commit.
use Rattle.std.specs.Prelude.{◌≡◌, ℕ, List, Option, MatchOption, None, Some}
use Rattle.engine_spec.specs.declared.commits.Commit.{Commit}
use Rattle.engine_spec.specs.declared.commits.CommitFault.{CommitFault}
use Rattle.engine_spec.specs.declared.commits.CommitFault.TheVariants as fault
use Rattle.engine_spec.specs.declared.commits.Mode.{Mode}
use Rattle.engine_spec.specs.Events.{IsOver, pages_after, frames_after}
use Rattle.engine_spec.specs.History.{IsConflict, NoConflict}
use Rattle.engine_spec.specs.State.{Stop, EngineState}
use Rattle.engine_spec.specs.Written.{Submitted}
use Rattle.wal_rules.specs.declared.conflict.Conflict.{Conflict}

-- the conflict that is found, or there is none
abbrev pub FindsFor : Mode → List ℕ → ℕ → List Commit → Option Conflict → Type 0
FindsFor mode reads n history found = MatchOption found (NoConflict mode reads n history) (λ conflict. IsConflict mode reads n history conflict.page conflict.commit)

-- The transaction is barred by an earlier fault, by a later commit, or by a limit, in this order; by nothing else.
abbrev pub Bars : EngineState → Submitted → CommitFault → Type 0
Bars state asked (fault.Stopped log at) = (stop : Stop) × (state.stopped ≡ Some stop) × (stop.log ≡ log) × (stop.at ≡ at)
Bars state asked (fault.BusySnapshot page number) = (state.stopped ≡ None) × IsConflict asked.change.mode asked.reads asked.snap state.history page number
Bars state asked (fault.SizeLimit pages frames) =
    (state.stopped ≡ None) × NoConflict asked.change.mode asked.reads asked.snap state.history × IsOver state asked.change
    × (pages ≡ pages_after state asked.change) × (frames ≡ frames_after state asked.change)
Bars state asked fault.Memory = ⊥
Bars state asked fault.Disk = ⊥
Bars state asked (fault.Corrupt page) = ⊥

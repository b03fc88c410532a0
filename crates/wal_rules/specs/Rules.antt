-- What the rules of two logs answer.
use Rattle.std.specs.Prelude.{◌≡◌, ℕ, ◌<◌, Bool, if◌then◌else◌, List, Result, Ok, Err, Option, MatchOption}
use Rattle.engine_spec.specs.TwoLogs.{TwoLogs}
use Rattle.engine_spec.specs.History.{IsConflict, NoConflict}
use Rattle.engine_spec.specs.declared.commits.Commit.{Commit}
use Rattle.engine_spec.specs.declared.commits.Mode.{Mode}
use Rattle.engine_spec.specs.declared.commits.Mode.TheVariants.{Plain, Concurrent}
use Rattle.wal_rules.specs.declared.state.LogState.{LogState}
use Rattle.wal_rules.specs.declared.conflict.Conflict.{Conflict}

-- two logs of which this is the state, and all else is as told
abbrev pub logs_with : LogState → TwoLogs → TwoLogs
logs_with state rest = record rest { current = state.current; done = state.done; copied = state.copied }

-- the same, with this limit and this generation of the current log
abbrev pub logs_within : LogState → ℕ → ℕ → TwoLogs → TwoLogs
logs_within state limit generation rest = record (logs_with state rest) { limit = limit; generation = generation }

-- whether a page may be copied where so many readers hold what a copy would change
abbrev pub MayCopy : ℕ → Result Unit ℕ → Type 0
MayCopy count (Ok done) = count ≡ 0
MayCopy count (Err held) = (held ≡ count) × (0 < held)

-- the mode of a transaction to which page 1 counts as a whole, and of one to which it doesn't
abbrev pub mode_of : Bool → Mode
mode_of whole = if whole then Plain else Concurrent

-- the conflict that is found, or there is none
abbrev pub Finds : Bool → List ℕ → ℕ → List Commit → Option Conflict → Type 0
Finds whole reads n history found = MatchOption found (NoConflict (mode_of whole) reads n history)
    (λ conflict. IsConflict (mode_of whole) reads n history conflict.page conflict.commit)

-- a conflict as its page and its commit
abbrev pub pair_of : Conflict → ℕ × ℕ
pair_of conflict = (conflict.page, conflict.commit)

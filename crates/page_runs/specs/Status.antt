-- How a run ends: the number of each status, and which faults it tells of.
use Rattle.std.specs.Prelude.{◌≡◌, ℕ, ◌⊎◌}
use Rattle.disk_face.specs.Faults.{Rose}
use Rattle.page_runs.specs.declared.status.Status.{Status}
use Rattle.page_runs.specs.declared.status.Status.TheVariants as status

-- the number that the program ends with
abbrev pub code_of : Status → ℕ
code_of status.Done = 0
code_of status.ScriptRefused = 1
code_of status.WordsRefused = 2
code_of status.SourceFailed = 3
code_of status.SinkFailed = 4
code_of status.DiskFailed = 5
code_of status.DatabaseRefused = 6
code_of status.NoMemory = 7

-- the program ended with the number of a status of which this holds
abbrev pub EndsWith : ℕ → (Status → Type 0) → Type 0
EndsWith number P = (ended : Status) × (number ≡ code_of ended) × P ended

-- Which faults a status tells of, by the counts of the source before and after and then those of the sink: the source failed and
-- nothing else did, or the sink failed, maybe after the source, or no fault was counted, so that none was swallowed or renamed.
abbrev pub Blames : Status → ℕ → ℕ → ℕ → ℕ → Type 0
Blames status.SourceFailed source source' sink sink' = Rose source source' × (sink' ≡ sink)
Blames status.SinkFailed source source' sink sink' = ((source' ≡ source) ⊎ Rose source source') × Rose sink sink'
Blames other source source' sink sink' = (source' ≡ source) × (sink' ≡ sink)

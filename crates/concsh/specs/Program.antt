-- What the program does, by what its words ask for.
use Rattle.std.specs.Prelude.{◌≡◌, ◌≢◌, ℕ, ◌⊎◌, List, Option, Some, None, IfSome}
use Rattle.disk_face.specs.declared.tells.DiskTells as disks
use Rattle.disk_face.specs.declared.source.Source as sources
use Rattle.disk_face.specs.declared.sink.Sink as sinks
use Rattle.page_runs.specs.declared.status.Status.{Status}
use Rattle.page_runs.specs.declared.status.Status.TheVariants as status
use Rattle.page_runs.specs.InMemory.{IsAnsweredInMemory}
use Rattle.page_runs.specs.Outcome.{RunEnds, status_of}
use Rattle.page_runs.specs.Status.{code_of}
use Rattle.disk_runs.specs.OnDisk.{RunsOnDisk}
use Rattle.disk_checks.specs.Checks.{ChecksOnDisk}
use Rattle.words.specs.Words.{Asked, PagesAsked, page_lines, check_database}

-- a run of page lines: on the files of this path, or on pages in memory
abbrev pub RunsPages : {D S K : Type 0} → disks.Ghosts D → sources.Ghosts S → sinks.Ghosts K → (path : Option (List ℕ)) (page_size limit : ℕ) → Status
    → D → S → K → D → S → K → Type 0
RunsPages disk source sink None page_size limit ended d src out d' src' out' = RunEnds source sink IsAnsweredInMemory ended src out src' out'
RunsPages disk source sink (Some path) page_size limit ended d src out d' src' out' =
    RunsOnDisk disk source sink path page_size limit ended d src out d' src' out'

-- What is asked for was done, and ended so. A check takes nothing of the source.
abbrev pub Runs : {D S K : Type 0} → disks.Ghosts D → sources.Ghosts S → sinks.Ghosts K → Asked → Status → D → S → K → D → S → K → Type 0
Runs disk source sink (page_lines asked) ended d src out d' src' out' =
    RunsPages disk source sink asked.path asked.page_size asked.limit ended d src out d' src' out'
Runs disk source sink (check_database path) ended d src out d' src' out' = ChecksOnDisk disk sink path ended d out d' out' × (src' ≡ src)

-- the path of the database that is asked for
abbrev pub path_asked : Asked → Option (List ℕ)
path_asked (page_lines asked) = asked.path
path_asked (check_database path) = Some path

-- the words name a database
abbrev pub NameFiles : Option Asked → Type 0
NameFiles None = ⊥
NameFiles (Some asked) = path_asked asked ≢ None

-- A run in which nothing outside failed ends as its script does, or for want of memory; on a database's files it may also be refused.
abbrev pub EndsAsItsScript : PagesAsked → (script : List ℕ) → (number : ℕ) → Type 0
EndsAsItsScript asked script number = (number ≡ code_of (status_of script)) ⊎ ((number ≡ code_of status.NoMemory)
    ⊎ ((asked.path ≢ None) × (number ≡ code_of status.DatabaseRefused)))

-- and a check ends well, or for want of memory, or the database is refused
abbrev pub EndsAsACheck : (number : ℕ) → Type 0
EndsAsACheck number = (number ≡ code_of status.Done) ⊎ ((number ≡ code_of status.NoMemory) ⊎ (number ≡ code_of status.DatabaseRefused))

-- Where nothing outside failed, what is asked for ends so: page lines by the script, where the source tells it.
abbrev pub EndsByItself : Asked → (left : Option (List ℕ)) → (number : ℕ) → Type 0
EndsByItself (page_lines asked) left number = IfSome left (λ script. EndsAsItsScript asked script number)
EndsByItself (check_database path) left number = EndsAsACheck number

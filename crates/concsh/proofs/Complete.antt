-- A run in which nothing outside failed ends as its script does, or for want of memory, or because the database was refused; and a check ends well, or so.
use Rattle.std.proofs.Common.{◌≡◌, ◌≢◌, ◌∙◌, ℕ, List, Option, Some, None, IfSome, refl, sym, ap, subst, inl, inr, ◌⊎◌}
use Rattle.std.proofs.lemmas.Option.{IfSome_then, none-some}
use Rattle.disk_face.specs.Faults.{Rose}
use Rattle.disk_face.specs.declared.tells.DiskTells as disks
use Rattle.disk_face.specs.declared.source.Source as sources
use Rattle.disk_face.specs.declared.sink.Sink as sinks
use Rattle.page_runs.specs.declared.status.Status.{Status}
use Rattle.page_runs.specs.declared.status.Status.TheVariants as status
use Rattle.page_lines.specs.declared.lines.Act.{Act}
use Rattle.page_lines.specs.declared.lines.Told.{Told}
use Rattle.page_runs.specs.InMemory.{IsAnsweredInMemory}
use Rattle.page_runs.specs.Outcome.{RunEnds, status_of}
use Rattle.page_runs.specs.Status.{code_of}
use Rattle.page_runs.proofs.Complete.{ends_as_script}
use Rattle.recover.specs.declared.setup.StoreKind.{StoreKind}
use Rattle.store.specs.declared.open_fault.OpenFault.{OpenFault}
use Rattle.store.specs.declared.open_fault.OpenFault.TheVariants as refusal
use Rattle.store.specs.Opening.{RefusesOpen}
use Rattle.disk_runs.specs.OnDisk.{RunsOpened, SaysReason, SaysWhy, Unopened}
use Rattle.disk_checks.specs.Checks.{ChecksOnDisk, ChecksOpened, page_size_checked}
use Rattle.words.specs.Words.{Asked, PagesAsked, page_lines, check_database}
use Rattle.concsh.specs.Program.{EndsAsACheck, EndsAsItsScript, EndsByItself, Runs, RunsPages}

-- something holds of each script that may be told
of_each : (left : Option (List ℕ)) (Holds : List ℕ → Type 0) → ((script : List ℕ) → Holds script) → IfSome left Holds
of_each None Holds all = tt
of_each (Some script) Holds all = all script

-- the status of a run whose script ended it
ends_so : (asked : PagesAsked) (script : List ℕ) (number : ℕ) → (number ≡ code_of (status_of script)) ⊎ (number ≡ 7) → EndsAsItsScript asked script number
ends_so asked script number (inl is) = inl is
ends_so asked script number (inr is) = inr (inl is)

-- the database was refused, or memory ran out
abbrev IsTurnedAway : (number : ℕ) → Type 0
IsTurnedAway number = (number ≡ code_of status.DatabaseRefused) ⊎ (number ≡ code_of status.NoMemory)

-- which is how a run on files may end, and a check
run_turned_away : (asked : PagesAsked) (script : List ℕ) (number : ℕ) → asked.path ≢ None → IsTurnedAway number → EndsAsItsScript asked script number
run_turned_away asked script number on_files (inl is) = inr (inr (on_files, is))
run_turned_away asked script number on_files (inr is) = inr (inl is)

check_turned_away : (number : ℕ) → IsTurnedAway number → EndsAsACheck number
check_turned_away number (inl is) = inr (inr is)
check_turned_away number (inr is) = inr (inl is)

module _ {K : Type 0} (sink : sinks.Ghosts K) (it : Status) (out out' : K) (no_sink : ¬ Rose (sink.faults out) (sink.faults out')) where
  -- a refusal was told, or there was no memory to tell it
  reason_ends : (why : OpenFault) → SaysReason sink why it out out' → IsTurnedAway (code_of it)
  reason_ends why (inl (inl (is, puts, same))) = inl (ap code_of is)
  reason_ends why (inl (inr (is, puts, rose))) = absurd (no_sink rose)
  reason_ends why (inr (is, same)) = inr (ap code_of is)

  why_ends : (why : OpenFault) → (why ≡ refusal.Disk → ⊥) → SaysWhy sink why it out out' → IsTurnedAway (code_of it)
  why_ends (refusal.Look why) no_disk says = reason_ends (refusal.Look why) says
  why_ends (refusal.NotPages pages byte) no_disk says = reason_ends (refusal.NotPages pages byte) says
  why_ends (refusal.Check why) no_disk says = reason_ends (refusal.Check why) says
  why_ends refusal.Disk no_disk says = absurd (no_disk refl)
  why_ends refusal.Memory no_disk says = inr (ap code_of says.0)

module _ {D K : Type 0} (disk : disks.Ghosts D) (sink : sinks.Ghosts K) (it : Status) (d : D) (out : K) (d' : D) (out' : K)
    (no_disk : ¬ Rose (disk.faults d) (disk.faults d')) (no_sink : ¬ Rose (sink.faults out) (sink.faults out')) where
  -- a refusal that is the disk's comes with a risen count
  unopened_ends : (kind : StoreKind) (new_size : ℕ) → Unopened disk sink kind new_size it d out d' out' → IsTurnedAway (code_of it)
  unopened_ends kind new_size u = why_ends sink it out out' no_sink u.why
      (λ is. no_disk (subst (RefusesOpen kind (disk.faults d) (disk.faults d') (disk.told d) (disk.told d') (disk.journal_answer d)) is u.refused)) u.says

  -- a check of files that are named
  counted_ends : (new_size : ℕ) → ChecksOpened disk sink new_size it d out d' out' → EndsAsACheck (code_of it)
  counted_ends new_size (inl u) = check_turned_away (code_of it) (unopened_ends _ new_size u)
  counted_ends new_size (inr tells) = elim tells.says [
    | inl (inl (is, puts, same)) ↦ inl (ap code_of is)
    | inl (inr (is, puts, rose)) ↦ absurd (no_sink rose)
    | inr (is, same) ↦ inr (inl (ap code_of is))
  ]

module _ {D S K : Type 0} (disk : disks.Ghosts D) (source : sources.Ghosts S) (sink : sinks.Ghosts K) (asked : PagesAsked) (it : Status) (d : D) (src : S) (out : K) (d' : D) (src' : S) (out' : K)
    (no_disk : ¬ Rose (disk.faults d) (disk.faults d')) (no_source : ¬ Rose (source.faults src) (source.faults src')) (no_sink : ¬ Rose (sink.faults out) (sink.faults out')) where
  -- a run of lines ends as its script does
  lines_end : (Answered : List Act → List Told → Type 0) → RunEnds source sink Answered it src out src' out' → IfSome (source.left src) (λ script. EndsAsItsScript asked script (code_of it))
  lines_end Answered run = IfSome_then (source.left src) (ends_as_script source sink Answered it src src' out out' run no_source no_sink)
      (λ script ends. ends_so asked script (code_of it) ends)

  opened_ends : (asked.path ≢ None) → (new_size limit : ℕ) → RunsOpened disk source sink new_size limit it d src out d' src' out'
      → IfSome (source.left src) (λ script. EndsAsItsScript asked script (code_of it))
  opened_ends on_files new_size limit (inl nothing) = of_each (source.left src) (λ script. EndsAsItsScript asked script (code_of it))
      (λ script. run_turned_away asked script (code_of it) on_files (unopened_ends disk sink it d out d' out' no_disk no_sink _ new_size nothing.unopened))
  opened_ends on_files new_size limit (inr run) = lines_end _ run.run

-- and so does what is asked for
pub runs_end : {D S K : Type 0} (disk : disks.Ghosts D) (source : sources.Ghosts S) (sink : sinks.Ghosts K) (asked : Asked) (it : Status) (d : D) (src : S) (out : K) (d' : D) (src' : S) (out' : K)
    → Runs disk source sink asked it d src out d' src' out' → ¬ Rose (disk.faults d) (disk.faults d') → ¬ Rose (source.faults src) (source.faults src')
    → ¬ Rose (sink.faults out) (sink.faults out') → EndsByItself asked (source.left src) (code_of it)
runs_end disk source sink (page_lines asked) it d src out d' src' out' runs no_disk no_source no_sink = pages_end asked.path refl runs
  where
    pages_end : (path : Option (List ℕ)) → asked.path ≡ path → RunsPages disk source sink path asked.page_size asked.limit it d src out d' src' out'
        → IfSome (source.left src) (λ script. EndsAsItsScript asked script (code_of it))
    pages_end None is run = lines_end disk source sink asked it d src out d' src' out' no_disk no_source no_sink IsAnsweredInMemory run
    pages_end (Some path) is (inl (unnamed, untaken)) = absurd (no_disk unnamed.rose)
    pages_end (Some path) is (inr named) =
        opened_ends disk source sink asked it named.attached src out d' src' out'
        (λ rose. no_disk (subst (λ (count : ℕ). Rose count (disk.faults d')) named.faults rose)) no_source no_sink
        (λ none. none-some path (sym none ∙ is)) asked.page_size asked.limit named.runs
runs_end disk source sink (check_database path) it d src out d' src' out' (checks, untaken) no_disk no_source no_sink = check_end checks
  where
    check_end : ChecksOnDisk disk sink path it d out d' out' → EndsAsACheck (code_of it)
    check_end (inl unnamed) = absurd (no_disk unnamed.rose)
    check_end (inr named) = counted_ends disk sink it named.attached out d' out'
        (λ rose. no_disk (subst (λ (count : ℕ). Rose count (disk.faults d')) named.faults rose)) no_sink page_size_checked named.checks

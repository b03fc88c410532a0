-- A run in which neither the source nor the sink failed ends as its script says, or for want of memory.
use Rattle.std.proofs.Common.{◌≡◌, ℕ, List, Option, Some, None, IfSome, refl, sym, ap, inl, inr, ◌⊎◌}
use Rattle.std.proofs.lemmas.Option.{IfSome_then}
use Rattle.disk_face.specs.Faults.{Rose}
use Rattle.disk_face.specs.declared.source.Source as sources
use Rattle.disk_face.specs.declared.sink.Sink as sinks
use Rattle.page_runs.specs.declared.status.Status.{Status}
use Rattle.page_runs.specs.declared.status.Status.TheVariants as ended
use Rattle.page_runs.specs.Status.{code_of}
use Rattle.page_lines.specs.declared.lines.Act.{Act}
use Rattle.page_lines.specs.declared.lines.Told.{Told}
use Rattle.page_runs.specs.Outcome.{RunEnds, status_of}

-- of any memory at all
any_script : (left : Option (List ℕ)) (P : List ℕ → Type 0) → ((script : List ℕ) → P script) → IfSome left P
any_script None P all = tt
any_script (Some script) P all = all script

pub ends_as_script : {S K : Type 0} (source : sources.Ghosts S) (sink : sinks.Ghosts K) (Answered : List Act → List Told → Type 0) (it : Status) (src src' : S) (out out' : K) → RunEnds source sink Answered it src out src' out'
    → ¬ Rose (source.faults src) (source.faults src') → ¬ Rose (sink.faults out) (sink.faults out')
    → IfSome (source.left src) (λ script. (code_of it ≡ code_of (status_of script)) ⊎ (code_of it ≡ 7))
ends_as_script source sink Answered ended.Done src src' out out' ran no_source no_sink = IfSome_then (source.left src) ran.script (λ script h. inl (ap code_of (sym h.0)))
ends_as_script source sink Answered ended.ScriptRefused src src' out out' ran no_source no_sink = IfSome_then (source.left src) ran.script (λ script h. inl (ap code_of (sym h.0)))
ends_as_script source sink Answered ended.WordsRefused src src' out out' ran no_source no_sink = absurd ran.of_run
ends_as_script source sink Answered ended.DiskFailed src src' out out' ran no_source no_sink = absurd ran.of_run
ends_as_script source sink Answered ended.DatabaseRefused src src' out out' ran no_source no_sink = absurd ran.of_run
ends_as_script source sink Answered ended.SourceFailed src src' out out' ran no_source no_sink = absurd (no_source ran.faults.0)
ends_as_script source sink Answered ended.SinkFailed src src' out out' ran no_source no_sink = absurd (no_sink ran.faults.1)
ends_as_script source sink Answered ended.NoMemory src src' out out' ran no_source no_sink = any_script (source.left src) _ (λ script. inr refl)

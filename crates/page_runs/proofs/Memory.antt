-- Runs over the engine in memory are answered as runs over whole page maps are.
use Rattle.std.proofs.Common.{◌≡◌, ◌∙◌, ℕ, List, [], ◌∷◌, length, take, Option, Some, refl, sym, ap, inl, subst}
use Rattle.std.proofs.lemmas.List.Elements.{All-nil, All-take}
use Rattle.std.proofs.lemmas.Option.{IfSome_then}
use Rattle.disk_face.specs.declared.source.Source as sources
use Rattle.disk_face.specs.declared.sink.Sink as sinks
use Rattle.page_spec.specs.PageMap.{PageMap, page_size_of}
use Rattle.crash_spec.specs.Opening.{Opening}
use Rattle.engine_spec.specs.declared.pins.Pin.{Pin}
use Rattle.engine_spec.specs.State.{EngineState}
use Rattle.page_lines.specs.declared.lines.Act.{Act}
use Rattle.page_lines.specs.declared.lines.Told.{Told}
use Rattle.page_lines.specs.Exchanges.{exchanged}
use Rattle.page_lines.specs.PageLines.{IsPageStore}
use Rattle.page_lines.specs.Range.{IsInRange, AreInRange}
use Rattle.page_lines.specs.Serial.{IsSerial}
use Rattle.page_lines.specs.World.{zeros, start, world_over, answers_to}
use Rattle.page_lines.proofs.SerialLaw.{zeros_are_store}
use Rattle.page_lines.proofs.SerialRuns.{serial_from_start, legal_from_start}
use Rattle.page_lines.proofs.WorldRuns.{exchanged_are}
use Rattle.acts.specs.Pagers.{Plays}
use Rattle.acts.specs.Playing.{RestsAt}
use Rattle.acts.proofs.Answered.{rests_answered, rests_over}
use Rattle.acts.proofs.Telling.{never_rose}
use Rattle.memory_engine.specs.Plain.{PlainState, newest_of, state_of}
use Rattle.page_runs.specs.declared.status.Status.{Status}
use Rattle.page_runs.specs.declared.status.Status.TheVariants as ended
use Rattle.page_runs.specs.InMemory.{IsAnsweredInMemory}
use Rattle.page_runs.specs.Outcome.{acts_first, Wrote, WroteFront, Ran, RunEnds}
use Rattle.page_runs.proofs.Serial.{first_in_range}

-- a new engine in memory rests at the world over its pages
pub plain_rests : (plain : PlainState) (pages : PageMap) → plain.maps ≡ pages ∷ [] → plain.history ≡ []
    → plain.page_size ≡ page_size_of pages → IsPageStore pages → RestsAt (state_of plain) (world_over pages)
plain_rests plain pages maps history page_size store =
    let newest : newest_of plain ≡ pages = rw (maps, history) refl in
    rests_over (state_of plain) pages pages history (ap Some newest) (ap length newest ∙ store.count) page_size refl store store
    (λ page low high. refl)

-- the answers of the run over whole maps are those of a serial run
answered_in_memory : (acts : List Act) (answers : List Told) → AreInRange acts → answers ≡ answers_to start acts → IsAnsweredInMemory acts answers
answered_in_memory acts answers range answered = record {
  as_whole_maps = answered;
  serial = subst (IsSerial zeros) (sym (ap (exchanged acts) answered ∙ exchanged_are start acts)) (serial_from_start acts range);
  legal = λ count. legal_from_start (take count acts) (All-take IsInRange count acts range);
}

-- nothing was run yet
pub nothing_in_memory : IsAnsweredInMemory [] []
nothing_in_memory = answered_in_memory [] [] (All-nil IsInRange) refl

-- a run over the engine of a new store
pub plays_in_memory : (opened : Opening → Type 0) (plain after : PlainState) (maps : Pin → Option PageMap) (acts : List Act) (answers : List Told) (last : EngineState)
    → plain.maps ≡ zeros ∷ [] → plain.history ≡ [] → plain.page_size ≡ page_size_of zeros → AreInRange acts
    → Plays opened (state_of plain) maps [] acts answers last → last.faults ≡ (state_of after).faults → IsAnsweredInMemory acts answers
plays_in_memory opened plain after maps acts answers last first none size range plays faults =
    answered_in_memory acts answers range
    (rests_answered opened (state_of plain) maps acts answers last start refl range (plain_rests plain zeros first none size zeros_are_store.store)
    (never_rose (state_of plain).faults last.faults refl faults) (inl refl) plays)

-- What was written of a run is so with what follows from the answers to acts in range.
wrote_as : (Answered Other : List Act → List Told → Type 0) (script : List ℕ) (count : ℕ) (last : List ℕ) (before after : Option (List ℕ))
    → ((acts : List Act) (answers : List Told) → AreInRange acts → Answered acts answers → Other acts answers)
    → Wrote Answered script count last before after → Wrote Other script count last before after
wrote_as Answered Other script count last before after follows wrote = record {
  within = wrote.within;
  answers = wrote.answers;
  answered = follows (acts_first script count) wrote.answers (first_in_range script count) wrote.answered;
  puts = wrote.puts;
}

front_as : (Answered Other : List Act → List Told → Type 0) (script : List ℕ) (count : ℕ) (last : List ℕ) (before after : Option (List ℕ))
    → ((acts : List Act) (answers : List Told) → AreInRange acts → Answered acts answers → Other acts answers)
    → WroteFront Answered script count last before after → WroteFront Other script count last before after
front_as Answered Other script count last before after follows wrote = record {
  within = wrote.within;
  answers = wrote.answers;
  answered = follows (acts_first script count) wrote.answers (first_in_range script count) wrote.answered;
  puts = wrote.puts;
}

ran_as : (Answered Other : List Act → List Told → Type 0) (script : List ℕ) (status : Status) (left before after : Option (List ℕ))
    → ((acts : List Act) (answers : List Told) → AreInRange acts → Answered acts answers → Other acts answers)
    → Ran Answered script status left before after → Ran Other script status left before after
ran_as Answered Other script ended.Done left before after follows (done, empty, wrote) =
    (done, empty, wrote_as Answered Other script _ _ before after follows wrote)
ran_as Answered Other script ended.ScriptRefused left before after follows (refused, wrote) =
    (refused, wrote_as Answered Other script _ _ before after follows wrote)
ran_as Answered Other script ended.WordsRefused left before after follows never = never
ran_as Answered Other script ended.SourceFailed left before after follows (count, cut, wrote) =
    (count, cut, wrote_as Answered Other script count _ before after follows wrote)
ran_as Answered Other script ended.SinkFailed left before after follows (count, last, is, wrote) =
    (count, last, is, front_as Answered Other script count last before after follows wrote)
ran_as Answered Other script ended.DiskFailed left before after follows never = never
ran_as Answered Other script ended.DatabaseRefused left before after follows never = never
ran_as Answered Other script ended.NoMemory left before after follows (count, last, is, wrote) =
    (count, last, is, front_as Answered Other script count last before after follows wrote)

-- A run ends so with what follows from the answers to acts in range.
pub ends_as : {S K : Type 0} (source : sources.Ghosts S) (sink : sinks.Ghosts K) (Answered Other : List Act → List Told → Type 0) (status : Status) (src : S) (out : K)
    (src' : S) (out' : K) → ((acts : List Act) (answers : List Told) → AreInRange acts → Answered acts answers → Other acts answers)
    → RunEnds source sink Answered status src out src' out' → RunEnds source sink Other status src out src' out'
ends_as source sink Answered Other status src out src' out' follows ends = record {
  of_run = ends.of_run;
  script = IfSome_then (source.left src) ends.script (λ script ran.
      ran_as Answered Other script status (source.left src') (sink.written out) (sink.written out') follows ran);
  faults = ends.faults;
}

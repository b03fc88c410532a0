-- How a run ends, from where it stands in its script.
use Rattle.std.proofs.Common.{◌≡◌, ℕ, ◌+◌, ◌≤◌, true, false, cond, List, [], ◌∷◌, ◌++◌, length, length-append, take, Option, Some, None, IfSome, refl, sym, ap, ◌∙◌, subst, arith, inl, inr, ◌⊎◌}
use Rattle.std.specs.List.{filter_map, cons_option, concat}
use Rattle.std.proofs.lemmas.List.{take_at, take_all, append-nil}
use Rattle.std.proofs.lemmas.List.Folds.{concat-append}
use Rattle.std.proofs.lemmas.Option.{IfSome_then}
use Rattle.disk_face.specs.Faults.{Rose}
use Rattle.disk_face.specs.Sink.{Puts}
use Rattle.disk_face.specs.declared.source.Source as sources
use Rattle.disk_face.specs.declared.sink.Sink as sinks
use Rattle.page_lines.specs.declared.lines.Act.{Act}
use Rattle.page_lines.specs.declared.lines.Told.{Told}
use Rattle.script.specs.declared.grammar.Form.TheVariants.{Pages}
use Rattle.script.specs.declared.grammar.Line.{Line}
use Rattle.script.specs.Reading.{line_of}
use Rattle.script.specs.Raw.{HasNoEnd, raw_lines, is_within, text_of_raw}
use Rattle.script.proofs.Lines.{concat-raw_lines}
use Rattle.page_runs.specs.declared.status.Status.{Status}
use Rattle.page_runs.specs.declared.status.Status.TheVariants as ended
use Rattle.page_runs.specs.declared.lines.Next.{Next}
use Rattle.page_runs.specs.declared.lines.Next.TheVariants as next
use Rattle.page_runs.specs.Reading.{Reading, script_left, WhereTold, Advances}
use Rattle.page_runs.specs.Outcome.{act_in, acts_in, replies, line_in, lines_run, lines_of, acts_first, status_of, is_refused, refused_text, source_failed, PutsFront, IsCut, IsOfRun, Wrote, WroteFront, Ran, RunEnds, SaysLast}
use Rattle.page_runs.specs.Status.{code_of, Blames}
use Rattle.page_runs.proofs.Written.{Puts-more}
use Rattle.page_runs.proofs.Fronts.{PutsFront-after, PutsFront-text, Puts-nothing}
use Rattle.page_runs.proofs.Standing.{Standing, Standing-start, Standing-more, acts-more, replies-append, told_then, left_after, nothing_left, lines-stop, refused-stop, lines-more}

-- a run that has begun
pub started : (Answered : List Act → List Told → Type 0) (left before : Option (List ℕ)) (lines : Reading) → lines.pending ≡ [] → lines.passed ≡ 0 → Answered [] []
    → IfSome left (λ script. Standing Answered script 1 lines.passed (script_left lines left) before before)
started Answered None before lines none zero first = tt
started Answered (Some script) before lines none zero first =
    subst (λ p. Standing Answered script 1 p (script_left lines (Some script)) before before) (sym zero)
    (Standing-start Answered script (script_left lines (Some script)) before (ap (λ x. Some (x ++ script)) none) first)

no_lines : raw_lines [] ≡ []
unfolding raw_lines
no_lines = refl

-- the acts of the lines that were run are those of the script's first lines
first_acts : (script : List ℕ) (ran more : List Line) → lines_of script ≡ ran ++ more → acts_first script (length ran) ≡ filter_map act_in ran
first_acts script ran more is = ap (filter_map act_in) (ap (take (length ran)) is ∙ take_at ran more (length ran) refl)

-- and they are as many as there are, or fewer
within_lines : (script : List ℕ) (ran more : List Line) → lines_of script ≡ ran ++ more → length ran ≤ length (lines_of script)
within_lines script ran more is = omega (arith, ap length is, length-append ran more)

-- what was written of a run
wrote : (Answered : List Act → List Told → Type 0) (script last : List ℕ) (number passed : ℕ) (left before mid now : Option (List ℕ))
    (s : Standing Answered script number passed left before mid) → Puts mid last now → Wrote Answered script (length s.ran) last before now
wrote Answered script last number passed left before mid now s said =
    let acts = sym (first_acts script s.ran (lines_run passed (raw_lines s.rest)) s.lines) in
    record {
      within = within_lines script s.ran (lines_run passed (raw_lines s.rest)) s.lines;
      answers = s.answers;
      answered = subst (λ all. Answered all s.answers) acts s.answered;
      puts = subst (λ all. Puts before (replies all s.answers ++ last) now) acts
          (Puts-more before mid now (replies (filter_map act_in s.ran) s.answers) last s.written said);
    }

-- or a front of it
wrote_front : (Answered : List Act → List Told → Type 0) (script last : List ℕ) (number passed : ℕ) (left before mid now : Option (List ℕ))
    (s : Standing Answered script number passed left before mid) → PutsFront mid last now → WroteFront Answered script (length s.ran) last before now
wrote_front Answered script last number passed left before mid now s said =
    let acts = sym (first_acts script s.ran (lines_run passed (raw_lines s.rest)) s.lines) in
    let all = replies (filter_map act_in s.ran) s.answers in
    record {
      within = within_lines script s.ran (lines_run passed (raw_lines s.rest)) s.lines;
      answers = s.answers;
      answered = subst (λ all. Answered all s.answers) acts s.answered;
      puts = subst (λ all. PutsFront before (replies all s.answers ++ last) now) acts
          (PutsFront-after before mid now all last [] (all ++ last) s.written said (append-nil (all ++ last)));
    }

-- the script is at its end
pub at_end : (Answered : List Act → List Told → Type 0) (from left left' before now : Option (List ℕ)) (number : ℕ) (old new : Reading)
    → IfSome from (λ script. Standing Answered script number old.passed (script_left old left) before now)
    → WhereTold (script_left old left) (script_left new left') (Advances next.End old new) → IfSome from (λ script. Ran Answered script ended.Done left' before now)
at_end Answered None left left' before now number old new s onward = tt
at_end Answered (Some script) left left' before now number old new s onward =
    let later = told_then (script_left old left) (script_left new left') s.rest (Advances next.End old new) s.told onward in
    let raws = raw_lines script in
    let none : raw_lines s.rest ≡ [] = ap raw_lines later.2.0 ∙ no_lines in
    let all : lines_run 0 raws ≡ s.ran = s.lines ∙ (ap (λ x. s.ran ++ lines_run old.passed x) none ∙ append-nil s.ran) in
    let taken : is_refused 0 raws ≡ false = s.refused ∙ ap (is_refused old.passed) none in (
      ap (λ b. cond b ended.ScriptRefused ended.Done) taken,
      nothing_left new.pending left' (later.1 ∙ ap Some later.2.1),
      subst (λ n. Wrote Answered script n [] before now) (ap length (sym all))
          (wrote Answered script [] number old.passed (script_left old left) before now now s (Puts-nothing now)),
    )

-- the last line of a run that refused this line was written, or a front of it
abbrev pub SaidRefused : ℕ → Status → Option (List ℕ) → Option (List ℕ) → Type 0
SaidRefused number status mid now =
    ((status ≡ ended.ScriptRefused) × Puts mid (refused_text number) now)
    ⊎ (((status ≡ ended.SinkFailed) ⊎ (status ≡ ended.NoMemory)) × PutsFront mid (refused_text number) now)

-- the next line is refused
refused_there : (Answered : List Act → List Told → Type 0) (script : List ℕ) (number passed : ℕ) (status : Status) (left left' before mid now : Option (List ℕ))
    (raw : List ℕ) (raws : List (List ℕ)) (s : Standing Answered script number passed left before mid) → raw_lines s.rest ≡ raw ∷ raws → line_in passed raw ≡ None
    → SaidRefused number status mid now → Ran Answered script status left' before now
refused_there Answered script number passed status left left' before mid now raw raws s first none said =
    let all : lines_of script ≡ s.ran =
    s.lines ∙ (ap (λ x. s.ran ++ x) (ap (lines_run passed) first ∙ lines-stop passed raw raws none) ∙ append-nil s.ran) in
    let stops : status_of script ≡ ended.ScriptRefused =
    ap (λ b. cond b ended.ScriptRefused ended.Done) (s.refused ∙ (ap (is_refused passed) first ∙ refused-stop passed raw raws none)) in
    let count : length s.ran ≡ length (lines_of script) = ap length (sym all) in
    let last : refused_text number ≡ refused_text (1 + length s.ran) = ap refused_text s.count in
    elim said [
      | inl one ↦ subst (λ n. Ran Answered script n left' before now) (sym one.0) (
        stops,
        subst (λ n. Wrote Answered script n (refused_text (1 + n)) before now) count
            (wrote Answered script (refused_text (1 + length s.ran)) number passed left before mid now s (subst (λ text. Puts mid text now) last one.1)),
      )
      | inr other ↦
          let front : WroteFront Answered script (length s.ran) (refused_text number) before now =
          wrote_front Answered script (refused_text number) number passed left before mid now s other.1 in
          elim other.0 [
            | inl four ↦ subst (λ n. Ran Answered script n left' before now) (sym four)
                (length s.ran, refused_text number, inl (inr (count, stops, last)), front)
            | inr seven ↦ subst (λ n. Ran Answered script n left' before now) (sym seven)
                (length s.ran, refused_text number, inr (count, stops, last), front)
          ]
    ]

-- a line past a limit
pub past_limit : (Answered : List Act → List Told → Type 0) (from left left' before mid now : Option (List ℕ)) (number : ℕ) (status : Status) (old new : Reading)
    → IfSome from (λ script. Standing Answered script number old.passed (script_left old left) before mid)
    → WhereTold (script_left old left) (script_left new left') (Advances next.Refused old new) → SaidRefused number status mid now
    → IfSome from (λ script. Ran Answered script status left' before now)
past_limit Answered None left left' before mid now number status old new s onward said = tt
past_limit Answered (Some script) left left' before mid now number status old new s onward said =
    let later = told_then (script_left old left) (script_left new left') s.rest (Advances next.Refused old new) s.told onward in
    let first = later.2 in
    refused_there Answered script number old.passed status (script_left old left) left' before mid now first.0 first.1 s first.2
    (ap (λ b. cond b (line_of Pages (text_of_raw first.0)) None) first.3) said

-- what a line within the limits says
read_as : (passed : ℕ) (raw given text : List ℕ) (said : Option Line) → given ≡ raw → text ≡ text_of_raw given → said ≡ line_of Pages text → is_within passed raw ≡ true → line_in passed raw ≡ said
read_as passed raw given text said same cut meaning within =
    ap (λ b. cond b (line_of Pages (text_of_raw raw)) None) within ∙ sym (meaning ∙ ap (line_of Pages) (cut ∙ ap text_of_raw same))

-- a line that isn't in the grammar
pub not_in_grammar : (Answered : List Act → List Told → Type 0) (from left left' before mid now : Option (List ℕ)) (number : ℕ) (status : Status) (old new : Reading)
    (given text : List ℕ) → IfSome from (λ script. Standing Answered script number old.passed (script_left old left) before mid)
    → WhereTold (script_left old left) (script_left new left') (Advances next.Line old new) → given ≡ new.line → text ≡ text_of_raw given → None ≡ line_of Pages text
    → SaidRefused number status mid now → IfSome from (λ script. Ran Answered script status left' before now)
not_in_grammar Answered None left left' before mid now number status old new given text s onward same cut meaning said = tt
not_in_grammar Answered (Some script) left left' before mid now number status old new given text s onward same cut meaning said =
    let later = told_then (script_left old left) (script_left new left') s.rest (Advances next.Line old new) s.told onward in
    refused_there Answered script number old.passed status (script_left old left) left' before mid now new.line (raw_lines later.0) s later.2.0
    (read_as old.passed new.line given text None same cut meaning later.2.1) said

-- the script, from the lines that were run and what is left
script_cut : (Answered : List Act → List Told → Type 0) (script : List ℕ) (number passed : ℕ) (left before now : Option (List ℕ))
    (s : Standing Answered script number passed left before now) → script ≡ concat (take (length s.ran) (raw_lines script)) ++ s.rest
script_cut Answered script number passed left before now s =
    let first : take (length s.ran) (raw_lines script) ≡ s.raws = ap (take (length s.ran)) s.cut ∙ take_at s.raws (raw_lines s.rest) (length s.ran) s.same in
    sym (concat-raw_lines script)
    ∙ (ap concat s.cut
    ∙ (concat-append s.raws (raw_lines s.rest)
    ∙ (ap (λ x. concat s.raws ++ x) (concat-raw_lines s.rest) ∙ ap (λ x. concat x ++ s.rest) (sym first))))

-- the source failed
pub cut_there : (Answered : List Act → List Told → Type 0) (from left left' before mid now : Option (List ℕ)) (number : ℕ) (status : Status) (old new : Reading)
    → IfSome from (λ script. Standing Answered script number old.passed (script_left old left) before mid) → script_left new left' ≡ script_left old left
    → HasNoEnd new.pending
    → ((status ≡ ended.SourceFailed) × Puts mid source_failed now) ⊎ ((status ≡ ended.SinkFailed) × PutsFront mid source_failed now)
    → IfSome from (λ script. Ran Answered script status left' before now)
cut_there Answered None left left' before mid now number status old new s same unended said = tt
cut_there Answered (Some script) left left' before mid now number status old new s same unended said =
    let count = length s.ran in
    let more = lines_run old.passed (raw_lines s.rest) in
    let cut : IsCut script count left' = record {
      run = within_lines script s.ran more s.lines;
      piece = new.pending;
      unended = unended;
      given = IfSome_then left' (left_after new.pending left' s.rest (same ∙ s.told))
          (λ bytes e. script_cut Answered script number old.passed (script_left old left) before mid s ∙ ap (λ x. concat (take count (raw_lines script)) ++ x) e);
    } in
    elim said [
      | inl three ↦ subst (λ n. Ran Answered script n left' before now) (sym three.0)
          (count, cut, wrote Answered script source_failed number old.passed (script_left old left) before mid now s three.1)
      | inr four ↦ subst (λ n. Ran Answered script n left' before now) (sym four.0)
          (count, source_failed, inr (cut, refl), wrote_front Answered script source_failed number old.passed (script_left old left) before mid now s four.1)
    ]

-- The next line was not answered: nothing happened, or its act was answered, and a front of the reply was written.
abbrev pub Unfinished : (List Act → List Told → Type 0) → List Act → List Told → Line → Option (List ℕ) → Option (List ℕ) → Type 0
Unfinished Then acts answers said mid now = (Then acts answers × (now ≡ mid))
    ⊎ ((more : List Told) × (length (acts_in said) ≡ length more) × Then (acts ++ acts_in said) (answers ++ more) × PutsFront mid (replies (acts_in said) more) now)

-- what was written of a run whose last line wasn't answered
unfinished_front : (Answered Then : List Act → List Told → Type 0) (script : List ℕ) (number passed : ℕ) (left before mid now : Option (List ℕ)) (raw rest' : List ℕ)
    (said : Line) (s : Standing Answered script number passed left before mid) → raw_lines s.rest ≡ raw ∷ raw_lines rest' → line_in passed raw ≡ Some said
    → Unfinished Then (filter_map act_in s.ran) s.answers said mid now → (count : ℕ) × WroteFront Then script count [] before now
unfinished_front Answered Then script number passed left before mid now raw rest' said s first taken (inl nothing) =
    let acts = sym (first_acts script s.ran (lines_run passed (raw_lines s.rest)) s.lines) in
    let all = replies (filter_map act_in s.ran) s.answers in (
      length s.ran,
      record {
        within = within_lines script s.ran (lines_run passed (raw_lines s.rest)) s.lines;
        answers = s.answers;
        answered = subst (λ these. Then these s.answers) acts nothing.0;
        puts = subst (λ these. PutsFront before (replies these s.answers ++ []) now) acts
            (subst (λ then. PutsFront before (all ++ []) then) (sym nothing.1) (PutsFront-text before mid all [] (all ++ []) s.written refl));
      },
    )
unfinished_front Answered Then script number passed left before mid now raw rest' said s first taken (inr (more, long, then, front)) =
    let ran = s.ran ++ said ∷ [] in
    let onward = lines_run (passed + length raw) (raw_lines rest') in
    let lines : lines_of script ≡ ran ++ onward = lines-more Answered script number passed left before mid raw rest' said s first taken in
    let acts : filter_map act_in s.ran ++ acts_in said ≡ acts_first script (length ran) = sym (first_acts script ran onward lines ∙ acts-more s.ran said) in
    let done = replies (filter_map act_in s.ran) s.answers in
    let all : (done ++ replies (acts_in said) more) ++ [] ≡ replies (filter_map act_in s.ran ++ acts_in said) (s.answers ++ more) ++ [] =
    ap (λ text. text ++ []) (sym (replies-append (filter_map act_in s.ran) (acts_in said) s.answers more s.long)) in (
      length ran,
      record {
        within = within_lines script ran onward lines;
        answers = s.answers ++ more;
        answered = subst (λ these. Then these (s.answers ++ more)) acts then;
        puts = subst (λ these. PutsFront before (replies these (s.answers ++ more) ++ []) now) acts
            (PutsFront-after before mid now done (replies (acts_in said) more) [] _ s.written front all);
      },
    )

-- how a run ends whose next line was not answered
pub front_there : (Answered Then : List Act → List Told → Type 0) (from left left' before mid now : Option (List ℕ)) (number : ℕ) (old new : Reading) (given text : List ℕ)
    (said : Line) (P : List ℕ → Type 0) → IfSome from (λ script. Standing Answered script number old.passed (script_left old left) before mid)
    → WhereTold (script_left old left) (script_left new left') (Advances next.Line old new) → given ≡ new.line → text ≡ text_of_raw given → Some said ≡ line_of Pages text
    → ((acts : List Act) (answers : List Told) → Answered acts answers → Unfinished Then acts answers said mid now)
    → ((script : List ℕ) (count : ℕ) → WroteFront Then script count [] before now → P script) → IfSome from P
front_there Answered Then None left left' before mid now number old new given text said P s onward same cut meaning left_so result = tt
front_there Answered Then (Some script) left left' before mid now number old new given text said P s onward same cut meaning left_so result =
    let later = told_then (script_left old left) (script_left new left') s.rest (Advances next.Line old new) s.told onward in
    let taken : line_in old.passed new.line ≡ Some said = read_as old.passed new.line given text (Some said) same cut meaning later.2.1 in
    let front = unfinished_front Answered Then script number old.passed (script_left old left) before mid now new.line later.0 said s later.2.0 taken
    (left_so (filter_map act_in s.ran) s.answers s.answered) in
    result script front.0 front.1

-- the next line was run
pub goes_on : (Answered Then : List Act → List Told → Type 0) (from left left' before mid now : Option (List ℕ)) (number : ℕ) (old new : Reading) (given text : List ℕ)
    (said : Line) (told : List Told) → IfSome from (λ script. Standing Answered script number old.passed (script_left old left) before mid)
    → WhereTold (script_left old left) (script_left new left') (Advances next.Line old new) → given ≡ new.line → text ≡ text_of_raw given → Some said ≡ line_of Pages text
    → length (acts_in said) ≡ length told
    → ((acts : List Act) (answers : List Told) → Answered acts answers → Then (acts ++ acts_in said) (answers ++ told)) → Puts mid (replies (acts_in said) told) now
    → IfSome from (λ script. Standing Then script (number + 1) new.passed (script_left new left') before now)
goes_on Answered Then None left left' before mid now number old new given text said told s onward same cut meaning long then puts = tt
goes_on Answered Then (Some script) left left' before mid now number old new given text said told s onward same cut meaning long then puts =
    let later = told_then (script_left old left) (script_left new left') s.rest (Advances next.Line old new) s.told onward in
    let taken : line_in old.passed new.line ≡ Some said = read_as old.passed new.line given text (Some said) same cut meaning later.2.1 in
    Standing-more Answered Then script number old.passed new.passed (script_left old left) (script_left new left') before mid now new.line later.0 said told s later.1
    later.2.0 later.2.2 taken long (then (filter_map act_in s.ran) s.answers s.answered) puts

-- nothing was written yet, which is a front of what any run writes
pub nothing_yet : (Answered : List Act → List Told → Type 0) (left left' a : Option (List ℕ)) → Answered [] []
    → IfSome left (λ script. Ran Answered script ended.NoMemory left' a a)
nothing_yet Answered None left' a none = tt
nothing_yet Answered (Some script) left' a none = (
  0,
  [],
  inl refl,
  record {
    within = omega arith;
    answers = [];
    answered = none;
    puts = (0, Puts-nothing a);
  },
)

-- what comes next of a script, by what it is
pub as_next : (now it : Next) → now ≡ it → (a b : Option (List ℕ)) (old new : Reading) → WhereTold a b (Advances now old new) → WhereTold a b (Advances it old new)
as_next now it e a b old new h = subst (λ n. WhereTold a b (Advances n old new)) e h

-- a last line that refuses a line of the script
abbrev pub SaysRefused : {K : Type 0} → sinks.Ghosts K → ℕ → Status → K → K → Type 0
SaysRefused sink number status out out' =
    SaysLast sink (refused_text number) ended.ScriptRefused status out out' ⊎ ((status ≡ ended.NoMemory) × (out' ≡ out))

pub said_refused : {K : Type 0} (sink : sinks.Ghosts K) (number : ℕ) (status : Status) (out out' : K) → SaysRefused sink number status out out' → SaidRefused number status (sink.written out) (sink.written out')
said_refused sink number status out out' (inl (inl one)) = inl (one.0, one.1)
said_refused sink number status out out' (inl (inr four)) = inr (inl four.0, four.1)
said_refused sink number status out out' (inr seven) =
    inr (inr seven.0, (0, subst (λ k. Puts (sink.written out) [] (sink.written k)) (sym seven.1) (Puts-nothing (sink.written out))))

pub said_cut : {K : Type 0} (sink : sinks.Ghosts K) (status : Status) (out out' : K) → SaysLast sink source_failed ended.SourceFailed status out out' → ((status ≡ ended.SourceFailed) × Puts (sink.written out) source_failed (sink.written out')) ⊎ ((status ≡ ended.SinkFailed) × PutsFront (sink.written out) source_failed (sink.written out'))
said_cut sink status out out' (inl three) = inl (three.0, three.1)
said_cut sink status out out' (inr four) = inr (four.0, four.1)

-- how a run ends whose line was refused
pub ends_refused : {S K : Type 0} (source : sources.Ghosts S) (sink : sinks.Ghosts K) (Answered : List Act → List Told → Type 0) (number : ℕ) (status : Status) (src src' : S) (out mid out' : K) → source.faults src' ≡ source.faults src → sink.faults mid ≡ sink.faults out → SaysRefused sink number status mid out' → IfSome (source.left src) (λ script. Ran Answered script status (source.left src') (sink.written out) (sink.written out')) → RunEnds source sink Answered status src out src' out'
ends_refused source sink Answered number status src src' out mid out' same none (inl (inl one)) ran = record {
  of_run = subst IsOfRun (sym one.0) tt;
  script = ran;
  faults = subst (λ n. Blames n (source.faults src) (source.faults src') (sink.faults out) (sink.faults out')) (sym one.0) (same, one.2 ∙ none);
}
ends_refused source sink Answered number status src src' out mid out' same none (inl (inr four)) ran = record {
  of_run = subst IsOfRun (sym four.0) tt;
  script = ran;
  faults = subst (λ n. Blames n (source.faults src) (source.faults src') (sink.faults out) (sink.faults out')) (sym four.0)
      (inl same, subst (λ n. Rose n (sink.faults out')) none four.2);
}
ends_refused source sink Answered number status src src' out mid out' same none (inr seven) ran = record {
  of_run = subst IsOfRun (sym seven.0) tt;
  script = ran;
  faults = subst (λ n. Blames n (source.faults src) (source.faults src') (sink.faults out) (sink.faults out')) (sym seven.0)
      (same, ap sink.faults seven.1 ∙ none);
}

-- how a run ends whose source failed
pub ends_cut : {S K : Type 0} (source : sources.Ghosts S) (sink : sinks.Ghosts K) (Answered : List Act → List Told → Type 0) (status : Status) (src src' : S) (out mid out' : K) → Rose (source.faults src) (source.faults src') → sink.faults mid ≡ sink.faults out → SaysLast sink source_failed ended.SourceFailed status mid out' → IfSome (source.left src) (λ script. Ran Answered script status (source.left src') (sink.written out) (sink.written out')) → RunEnds source sink Answered status src out src' out'
ends_cut source sink Answered status src src' out mid out' rose none (inl three) ran = record {
  of_run = subst IsOfRun (sym three.0) tt;
  script = ran;
  faults = subst (λ n. Blames n (source.faults src) (source.faults src') (sink.faults out) (sink.faults out')) (sym three.0) (rose, three.2 ∙ none);
}
ends_cut source sink Answered status src src' out mid out' rose none (inr four) ran = record {
  of_run = subst IsOfRun (sym four.0) tt;
  script = ran;
  faults = subst (λ n. Blames n (source.faults src) (source.faults src') (sink.faults out) (sink.faults out')) (sym four.0)
      (inr rose, subst (λ n. Rose n (sink.faults out')) none four.2);
}

-- The acts of a script are in range.
use Rattle.std.proofs.Common.{◌≡◌, ◌∙◌, ℕ, ◌+◌, true, false, Bool, cond, List, [], ◌∷◌, ◌++◌, length, take, drop, Option, Some, None, IfSome, refl, sym, ap, subst}
use Rattle.std.specs.List.{filter_map, cons_option}
use Rattle.std.proofs.lemmas.List.{take_at, take-append-drop}
use Rattle.std.proofs.lemmas.List.Elements.{All-cons, All-nil, All-take, filter_map-append}
use Rattle.std.proofs.lemmas.Option.{none-some}
use Rattle.page_lines.specs.declared.lines.Act.{Act}
use Rattle.page_lines.specs.Range.{IsInRange, AreInRange}
use Rattle.script.specs.declared.grammar.Act2.TheVariants as page
use Rattle.script.specs.declared.grammar.Form.TheVariants.{Pages}
use Rattle.script.specs.declared.grammar.Line.{Line}
use Rattle.script.specs.declared.grammar.Line.TheVariants as line
use Rattle.script.specs.Line.{Spells}
use Rattle.script.specs.Reading.{line_of}
use Rattle.script.specs.Raw.{raw_lines, is_within, text_of_raw}
use Rattle.script.proofs.Agreement.{line_of-found}
use Rattle.page_runs.specs.Outcome.{act_in, line_in, line_before, lines_run, lines_of, acts_first}

-- the act of a line that is in the grammar
pub spelled_in_range : (said : Line) (text : List ℕ) → Spells Pages said text → IfSome (act_in said) IsInRange
spelled_in_range line.Empty text spelled = tt
spelled_in_range (line.Page (page.Begin session)) text spelled = tt
spelled_in_range (line.Page (page.Read session number)) text spelled = spelled.0.1
spelled_in_range (line.Page (page.Write session number byte)) text spelled = spelled.0.1
spelled_in_range (line.Page (page.Commit session)) text spelled = tt
spelled_in_range (line.Page (page.Rollback session)) text spelled = tt
spelled_in_range line.Copy text spelled = tt
spelled_in_range line.Step text spelled = tt
spelled_in_range line.Logs text spelled = tt

pub tested_some : {A : Type 0} (test : Bool) (o : Option A) (x : A) → cond test o None ≡ Some x → o ≡ Some x
tested_some true o x e = e
tested_some false o x e = absurd (none-some x e)

pub act_before : (o : Option Act) (acts : List Act) → IfSome o IsInRange → AreInRange acts → AreInRange (cons_option o acts)
act_before None acts first others = others
act_before (Some asked) acts first others = All-cons IsInRange asked acts first others

pub acts_before : (o : Option Line) (lines : List Line) → ((said : Line) → o ≡ Some said → IfSome (act_in said) IsInRange) → AreInRange (filter_map act_in lines) → AreInRange (filter_map act_in (line_before o lines))
acts_before None lines first others = All-nil IsInRange
acts_before (Some said) lines first others = act_before (act_in said) (filter_map act_in lines) (first said refl) others

pub lines_in_range : (passed : ℕ) (raws : List (List ℕ)) → AreInRange (filter_map act_in (lines_run passed raws))
lines_in_range passed [] = All-nil IsInRange
lines_in_range passed (raw ∷ raws) =
    acts_before (line_in passed raw) (lines_run (passed + length raw) raws)
    (λ said e. spelled_in_range said (text_of_raw raw) (line_of-found Pages (text_of_raw raw) said (tested_some (is_within passed raw) (line_of Pages (text_of_raw raw)) said e)))
    (lines_in_range (passed + length raw) raws)

-- the acts of its first lines are in range too
pub first_in_range : (script : List ℕ) (count : ℕ) → AreInRange (acts_first script count)
first_in_range script count = some_in_range (lines_of script) (lines_in_range 0 (raw_lines script))
  where
    some_in_range : (lines : List Line) → AreInRange (filter_map act_in lines) → AreInRange (filter_map act_in (take count lines))
    some_in_range lines all =
        let some = filter_map act_in (take count lines) in
        let whole : filter_map act_in lines ≡ some ++ filter_map act_in (drop count lines) =
        ap (filter_map act_in) (sym (take-append-drop count lines)) ∙ filter_map-append act_in (take count lines) (drop count lines) in
        subst (λ (acts : List Act). AreInRange acts) (ap (take (length some)) whole ∙ take_at some (filter_map act_in (drop count lines)) (length some) refl)
        (All-take IsInRange (length some) (filter_map act_in lines) all)

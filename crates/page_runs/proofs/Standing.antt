-- Where a run stands in its script.
use Rattle.std.proofs.Common.{◌≡◌, ℕ, ◌+◌, true, cond, List, [], ◌∷◌, ◌++◌, length, length-append, Option, Some, None, IfSome, option_map, is_some, refl, sym, ap, ◌∙◌, subst, arith, append_assoc}
use Rattle.std.specs.List.{filter_map}
use Rattle.std.proofs.lemmas.List.Elements.{filter_map-append}
use Rattle.std.proofs.lemmas.Option.{same_Some}
use Rattle.disk_face.specs.Sink.{Puts}
use Rattle.page_lines.specs.declared.lines.Act.{Act}
use Rattle.page_lines.specs.declared.lines.Told.{Told}
use Rattle.script.specs.declared.grammar.Line.{Line}
use Rattle.script.specs.Raw.{raw_lines}
use Rattle.page_runs.specs.Reading.{WhereTold}
use Rattle.page_runs.specs.Outcome.{act_in, acts_in, reply_of, replies, line_in, line_before, lines_run, is_refused}
use Rattle.page_runs.proofs.Written.{Puts-more}
use Rattle.page_runs.proofs.Fronts.{Puts-nothing}

-- So many lines of the script were run and answered so, and the rest of it is left.
pub record Standing (Answered : List Act → List Told → Type 0) (script : List ℕ) (number passed : ℕ) (left before now : Option (List ℕ)) : Type 0 where
  pub ran : List Line
  pub raws : List (List ℕ)
  pub rest : List ℕ
  pub told : left ≡ Some rest
  pub count : number ≡ 1 + length ran
  pub same : length raws ≡ length ran
  pub cut : raw_lines script ≡ raws ++ raw_lines rest
  pub lines : lines_run 0 (raw_lines script) ≡ ran ++ lines_run passed (raw_lines rest)
  pub refused : is_refused 0 (raw_lines script) ≡ is_refused passed (raw_lines rest)
  pub answers : List Told
  pub long : length (filter_map act_in ran) ≡ length answers
  pub answered : Answered (filter_map act_in ran) answers
  pub written : Puts before (replies (filter_map act_in ran) answers) now

-- a run that has begun
pub Standing-start : (Answered : List Act → List Told → Type 0) (script : List ℕ) (left before : Option (List ℕ)) → left ≡ Some script → Answered [] []
    → Standing Answered script 1 0 left before before
Standing-start Answered script left before told none = record {
  ran = [];
  raws = [];
  rest = script;
  told = told;
  count = refl;
  same = refl;
  cut = refl;
  lines = refl;
  refused = refl;
  answers = [];
  long = refl;
  answered = none;
  written = Puts-nothing before;
}

-- the same with what follows from the answers
pub standing_as : (Answered Other : List Act → List Told → Type 0) (script : List ℕ) (number passed : ℕ) (left before now : Option (List ℕ))
    → ((acts : List Act) (answers : List Told) → Answered acts answers → Other acts answers)
    → Standing Answered script number passed left before now → Standing Other script number passed left before now
standing_as Answered Other script number passed left before now follows s = record {
  ran = s.ran;
  raws = s.raws;
  rest = s.rest;
  told = s.told;
  count = s.count;
  same = s.same;
  cut = s.cut;
  lines = s.lines;
  refused = s.refused;
  answers = s.answers;
  long = s.long;
  answered = follows (filter_map act_in s.ran) s.answers s.answered;
  written = s.written;
}

-- what is left, where the source tells it
pub told_now : (now : Option (List ℕ)) (rest : List ℕ) (P : List ℕ → List ℕ → Type 0) → WhereTold (Some rest) now P → (later : List ℕ) × (now ≡ Some later) × P rest later
told_now None rest P h = absurd h
told_now (Some later) rest P h = (later, refl, h)

pub told_then : (old now : Option (List ℕ)) (rest : List ℕ) (P : List ℕ → List ℕ → Type 0) → old ≡ Some rest → WhereTold old now P → (later : List ℕ) × (now ≡ Some later) × P rest later
told_then old now rest P e h = told_now now rest P (subst (λ o. WhereTold o now P) e h)

-- what a source has left, from what is left of the script
pub left_after : (held : List ℕ) (left : Option (List ℕ)) (rest : List ℕ) → option_map (λ bytes. held ++ bytes) left ≡ Some rest → IfSome left (λ bytes. rest ≡ held ++ bytes)
left_after held None rest e = tt
left_after held (Some bytes) rest e = sym (same_Some (held ++ bytes) rest e)

no_bytes : (held bytes : List ℕ) → held ++ bytes ≡ [] → bytes ≡ []
no_bytes [] bytes e = e
no_bytes (byte ∷ held) bytes e = absurd (omega (arith, ap length e))

pub nothing_left : (held : List ℕ) (left : Option (List ℕ)) → option_map (λ bytes. held ++ bytes) left ≡ Some [] → left ≡ Some []
nothing_left held None e = e
nothing_left held (Some bytes) e = ap Some (no_bytes held bytes (same_Some (held ++ bytes) [] e))

-- replies to acts one after another
pub replies-append : (acts more : List Act) (answers told : List Told) → length acts ≡ length answers
    → replies (acts ++ more) (answers ++ told) ≡ replies acts answers ++ replies more told
replies-append [] more [] told same = refl
replies-append [] more (answer ∷ answers) told same = absurd (omega (arith, same))
replies-append (act ∷ acts) more [] told same = absurd (omega (arith, same))
replies-append (act ∷ acts) more (answer ∷ answers) told same =
    let reply = reply_of (record { act = act; told = answer }) in
    ap (λ x. reply ++ x) (replies-append acts more answers told (omega (arith, same)))
    ∙ sym (append_assoc reply (replies acts answers) (replies more told))

-- the acts of lines that are run, with one line more
pub acts-more : (ran : List Line) (line : Line) → filter_map act_in (ran ++ line ∷ []) ≡ filter_map act_in ran ++ acts_in line
acts-more ran line = filter_map-append act_in ran (line ∷ [])

-- the next line is taken
pub lines-next : (passed : ℕ) (raw : List ℕ) (raws : List (List ℕ)) (line : Line) → line_in passed raw ≡ Some line → lines_run passed (raw ∷ raws) ≡ line ∷ lines_run (passed + length raw) raws
lines-next passed raw raws line e = ap (λ o. line_before o (lines_run (passed + length raw) raws)) e

pub refused-next : (passed : ℕ) (raw : List ℕ) (raws : List (List ℕ)) (line : Line) → line_in passed raw ≡ Some line → is_refused passed (raw ∷ raws) ≡ is_refused (passed + length raw) raws
refused-next passed raw raws line e = ap (λ o. cond (is_some o) (is_refused (passed + length raw) raws) true) e

-- the next line is refused
pub lines-stop : (passed : ℕ) (raw : List ℕ) (raws : List (List ℕ)) → line_in passed raw ≡ None → lines_run passed (raw ∷ raws) ≡ []
lines-stop passed raw raws e = ap (λ o. line_before o (lines_run (passed + length raw) raws)) e

pub refused-stop : (passed : ℕ) (raw : List ℕ) (raws : List (List ℕ)) → line_in passed raw ≡ None → is_refused passed (raw ∷ raws) ≡ true
refused-stop passed raw raws e = ap (λ o. cond (is_some o) (is_refused (passed + length raw) raws) true) e

-- the lines of a script, where the next of them is taken
pub lines-more : (Answered : List Act → List Told → Type 0) (script : List ℕ) (number passed : ℕ) (left before now : Option (List ℕ)) (raw rest' : List ℕ)
    (line : Line) (s : Standing Answered script number passed left before now) → raw_lines s.rest ≡ raw ∷ raw_lines rest' → line_in passed raw ≡ Some line
    → lines_run 0 (raw_lines script) ≡ (s.ran ++ line ∷ []) ++ lines_run (passed + length raw) (raw_lines rest')
lines-more Answered script number passed left before now raw rest' line s first taken =
    s.lines ∙ (ap (λ x. s.ran ++ x) (ap (lines_run passed) first ∙ lines-next passed raw (raw_lines rest') line taken)
    ∙ sym (append_assoc s.ran (line ∷ []) (lines_run (passed + length raw) (raw_lines rest'))))

-- one line more was run
pub Standing-more : (Answered Then : List Act → List Told → Type 0) (script : List ℕ) (number passed passed' : ℕ) (left left' before now now' : Option (List ℕ))
    (raw rest' : List ℕ) (line : Line) (told : List Told) (s : Standing Answered script number passed left before now) → left' ≡ Some rest'
    → raw_lines s.rest ≡ raw ∷ raw_lines rest' → passed' ≡ passed + length raw → line_in passed raw ≡ Some line → length (acts_in line) ≡ length told
    → Then (filter_map act_in s.ran ++ acts_in line) (s.answers ++ told) → Puts now (replies (acts_in line) told) now'
    → Standing Then script (number + 1) passed' left' before now'
Standing-more Answered Then script number passed passed' left left' before now now' raw rest' line told s left_is first size taken long then written = record {
  ran = s.ran ++ line ∷ [];
  raws = s.raws ++ raw ∷ [];
  rest = rest';
  told = left_is;
  count = omega (arith, s.count, length-append s.ran (line ∷ []));
  same = omega (arith, s.same, length-append s.ran (line ∷ []), length-append s.raws (raw ∷ []));
  cut = s.cut ∙ (ap (λ x. s.raws ++ x) first ∙ sym (append_assoc s.raws (raw ∷ []) (raw_lines rest')));
  lines = lines-more Answered script number passed left before now raw rest' line s first taken
      ∙ ap (λ p. (s.ran ++ line ∷ []) ++ lines_run p (raw_lines rest')) (sym size);
  refused = s.refused ∙ (ap (is_refused passed) first ∙ (refused-next passed raw (raw_lines rest') line taken ∙ ap (λ p. is_refused p (raw_lines rest')) (sym size)));
  answers = s.answers ++ told;
  long = ap length (acts-more s.ran line) ∙ omega (arith, length-append (filter_map act_in s.ran) (acts_in line), length-append s.answers told, s.long, long);
  answered = subst (λ acts. Then acts (s.answers ++ told)) (sym (acts-more s.ran line)) then;
  written = subst (λ acts. Puts before (replies acts (s.answers ++ told)) now') (sym (acts-more s.ran line))
      (subst (λ x. Puts before x now') (sym (replies-append (filter_map act_in s.ran) (acts_in line) s.answers told s.long))
      (Puts-more before now now' (replies (filter_map act_in s.ran) s.answers) (replies (acts_in line) told) s.written written));
}

-- What comes next of a script, from what a reader holds.
use Rattle.std.proofs.Common.{◌≡◌, ℕ, ◌+◌, ◌-◌, ◌<◌, ◌≤◌, zero, suc, false, cond, leb, List, [], ◌∷◌, ◌++◌, length, length-append, length-take, take, drop, get_or, Option, Some, None, option_map, refl, sym, ap, ◌∙◌, subst, arith, append_assoc, inl, inr, ◌&&◌}
use Rattle.std.proofs.lemmas.Bool.{lt-leb}
use Rattle.std.proofs.lemmas.List.{append-nil, take-append-drop, take_all, take_more, drop_all}
use Rattle.std.proofs.lemmas.Option.{same_Some}
use Rattle.std.proofs.Math.Seq.{drop-cons}
use Rattle.disk_face.specs.Source.{Takes}
use Rattle.script.specs.Raw.{HasNoEnd, raw_lines, text_of_raw, is_within, line_limit, script_limit}
use Rattle.script.proofs.Fronts.{tested}
use Rattle.script.proofs.Lines.{raw_lines-cons, raw_lines-last, raw_lines-front, length-text_of_raw}
use Rattle.page_runs.specs.Reading.{Reading, buffer_limit, script_left, WhereTold, IsEnd, given, Advances}
use Rattle.page_runs.specs.declared.lines.Next.TheVariants as next

-- bytes that were taken stand behind those that were held
pub script_left-refilled : (held new : Reading) (before after : Option (List ℕ)) (room : ℕ) → take (length held.pending) new.pending ≡ held.pending → Takes before room (drop (length held.pending) new.pending) after → script_left new after ≡ script_left held before
script_left-refilled held new None None room kept taken = refl
script_left-refilled held new None (Some after) room kept taken = absurd taken
script_left-refilled held new (Some before) None room kept taken = absurd taken
script_left-refilled held new (Some before) (Some after) room kept taken =
    let n = length held.pending in
    ap Some (ap (λ x. x ++ after) (sym (take-append-drop n new.pending)) ∙ (append_assoc (take n new.pending) (drop n new.pending) after ∙ (ap (λ x. x ++ (drop n new.pending ++ after)) kept ∙ ap (λ x. held.pending ++ x) (sym taken.0))))

-- bytes that end at an LF, as a text, the LF and the rest
pub parts_at_end : (bytes : List ℕ) (count : ℕ) → IsEnd bytes count → bytes ≡ take (count - 1) bytes ++ (10 ∷ drop count bytes)
parts_at_end bytes zero end = absurd (omega (arith, end.some))
parts_at_end bytes (suc k) end =
    let place : suc k - 1 ≡ k = omega arith in
    let inside : k < length bytes = omega (arith, end.within) in
    let last : get_or bytes k 0 ≡ 10 = ap (λ i. get_or bytes i 0) (sym place) ∙ end.last in
    subst (λ i. bytes ≡ take i bytes ++ (10 ∷ drop (suc k) bytes)) (sym place)
    (sym (take-append-drop k bytes) ∙ (ap (λ x. take k bytes ++ x) (drop-cons bytes k 0 inside) ∙ ap (λ x. take k bytes ++ (x ∷ drop (suc k) bytes)) last))

pub line_at_end : (bytes : List ℕ) (count : ℕ) → IsEnd bytes count → take count bytes ≡ take (count - 1) bytes ++ (10 ∷ [])
line_at_end bytes zero end = absurd (omega (arith, end.some))
line_at_end bytes (suc k) end =
    let place : suc k - 1 ≡ k = omega arith in
    let inside : k < length bytes = omega (arith, end.within) in
    let last : get_or bytes k 0 ≡ 10 = ap (λ i. get_or bytes i 0) (sym place) ∙ end.last in
    let next : suc k ≡ k + 1 = omega arith in
    subst (λ i. take (suc k) bytes ≡ take i bytes ++ (10 ∷ [])) (sym place)
    (ap (λ i. take i bytes) next ∙ (take_more bytes k 0 inside ∙ ap (λ x. take k bytes ++ (x ∷ [])) last))

-- the first line of what is left, and the lines after it
pub raw_lines-at_end : (bytes rest : List ℕ) (count : ℕ) → IsEnd bytes count → raw_lines (bytes ++ rest) ≡ take count bytes ∷ raw_lines (drop count bytes ++ rest)
raw_lines-at_end bytes rest count end =
    let text = take (count - 1) bytes in
    ap (λ x. raw_lines (x ++ rest)) (parts_at_end bytes count end)
    ∙ (ap raw_lines (append_assoc text (10 ∷ drop count bytes) rest)
    ∙ (raw_lines-cons text (drop count bytes ++ rest) end.text
    ∙ ap (λ x. x ∷ raw_lines (drop count bytes ++ rest)) (sym (line_at_end bytes count end))))

-- bytes without LF are one line
pub one_line : (bytes : List ℕ) → 0 < length bytes → HasNoEnd bytes → raw_lines bytes ≡ bytes ∷ []
one_line [] some none = absurd (omega arith)
one_line (byte ∷ bytes) some none = raw_lines-last byte bytes none

-- what a line that is given is, by the test of its limits
pub Advances-given : (old new : Reading) (before after raw : List ℕ) → raw_lines before ≡ raw ∷ raw_lines after → new.line ≡ raw → new.passed ≡ cond (is_within old.passed raw) (old.passed + length raw) old.passed → Advances (given old.passed raw) old new before after
Advances-given old new before after raw first line passed =
    elim (tested (is_within old.passed raw)) [
      | inl fits ↦ rw fits (
        first ∙ ap (λ x. x ∷ raw_lines after) (sym line),
        ap (is_within old.passed) line ∙ fits,
        passed ∙ (ap (λ b. cond b (old.passed + length raw) old.passed) fits ∙ ap (λ x. old.passed + length x) (sym line)),
      )
      | inr long ↦ rw long (raw, raw_lines after, first, long)
    ]

-- the same of a reader that holds the first line, where the source tells what it has
pub told-given : (old held new : Reading) (start now : Option (List ℕ)) (count : ℕ) → script_left held now ≡ start → held.passed ≡ old.passed → IsEnd held.pending count → new.line ≡ take count held.pending → new.pending ≡ drop count held.pending → new.passed ≡ cond (is_within held.passed (take count held.pending)) (held.passed + count) held.passed → WhereTold start (script_left new now) (Advances (given held.passed (take count held.pending)) old new)
told-given old held new start None count left same end line pending passed = subst (λ s. WhereTold s None (Advances (given held.passed (take count held.pending)) old new)) left tt
told-given old held new start (Some rest) count left same end line pending passed =
    let raw = take count held.pending in
    let size : count ≡ length raw = omega (arith, length-take count held.pending, end.within) in
    subst (λ s. WhereTold s (Some (new.pending ++ rest)) (Advances (given held.passed raw) old new)) left
    (subst (λ p. Advances (given p raw) old new (held.pending ++ rest) (new.pending ++ rest)) (sym same)
    (Advances-given old new (held.pending ++ rest) (new.pending ++ rest) raw
    (raw_lines-at_end held.pending rest count end ∙ ap (λ x. raw ∷ raw_lines (x ++ rest)) (sym pending))
    line
    (passed ∙ (ap (λ p. cond (is_within p raw) (p + count) p) same ∙ ap (λ n. cond (is_within old.passed raw) (old.passed + n) old.passed) size))))

-- a line of which so much is held without an end is too long
pub too_long : (passed : ℕ) (raw : List ℕ) → buffer_limit ≤ length raw → is_within passed raw ≡ false
too_long passed raw long =
    let over : leb (length (text_of_raw raw)) line_limit ≡ false = lt-leb (length (text_of_raw raw)) line_limit (omega (arith, length-text_of_raw raw)) in
    ap (λ b. b && leb (passed + length raw) script_limit) over

pub Advances-full : (old new : Reading) (bytes rest after : List ℕ) → length bytes ≡ buffer_limit → HasNoEnd bytes → Advances next.Refused old new (bytes ++ rest) after
Advances-full old new [] rest after full none = absurd (omega (arith, full))
Advances-full old new (byte ∷ bytes) rest after full none =
    let first = raw_lines-front byte bytes rest none in
    (byte ∷ (bytes ++ first.0), first.1, first.2, too_long old.passed (byte ∷ (bytes ++ first.0)) (omega (arith, full, length-append bytes first.0)))

pub told-full : (old held : Reading) (start now : Option (List ℕ)) → script_left held now ≡ start → length held.pending ≡ buffer_limit → HasNoEnd held.pending → WhereTold start (script_left held now) (Advances next.Refused old held)
told-full old held start None left full none = subst (λ s. WhereTold s None (Advances next.Refused old held)) left tt
told-full old held start (Some rest) left full none =
    subst (λ s. WhereTold s (Some (held.pending ++ rest)) (Advances next.Refused old held)) left
    (Advances-full old held held.pending rest (held.pending ++ rest) full none)

-- at the end of the source, what is held is the last line
pub told-last : (old held new : Reading) (start now : Option (List ℕ)) (count : ℕ) → script_left held now ≡ start → now ≡ option_map (λ x. []) now → held.passed ≡ old.passed → count ≡ length held.pending → 0 < count → HasNoEnd held.pending → new.line ≡ take count held.pending → new.pending ≡ drop count held.pending → new.passed ≡ cond (is_within held.passed (take count held.pending)) (held.passed + count) held.passed → WhereTold start (script_left new now) (Advances (given held.passed (take count held.pending)) old new)
unfolding raw_lines
told-last old held new start None count left ended same whole some none line pending passed = subst (λ s. WhereTold s None (Advances (given held.passed (take count held.pending)) old new)) left tt
told-last old held new start (Some rest) count left ended same whole some none line pending passed =
    let raw = take count held.pending in
    let all : raw ≡ held.pending = take_all count held.pending (omega (arith, whole)) in
    let no_rest : rest ≡ [] = same_Some rest [] ended in
    let no_more : new.pending ≡ [] = pending ∙ drop_all count held.pending (omega (arith, whole)) in
    let size : count ≡ length raw = omega (arith, length-take count held.pending, whole) in
    subst (λ s. WhereTold s (Some (new.pending ++ rest)) (Advances (given held.passed raw) old new)) left
    (subst (λ p. Advances (given p raw) old new (held.pending ++ rest) (new.pending ++ rest)) (sym same)
    (Advances-given old new (held.pending ++ rest) (new.pending ++ rest) raw
    (ap (λ x. raw_lines (held.pending ++ x)) no_rest
    ∙ (ap raw_lines (append-nil held.pending)
    ∙ (one_line held.pending (omega (arith, whole)) none
    ∙ (ap (λ x. x ∷ []) (sym all)
    ∙ sym (ap (λ x. raw ∷ raw_lines (x ++ rest)) no_more ∙ ap (λ x. raw ∷ raw_lines x) no_rest)))))
    line
    (passed ∙ (ap (λ p. cond (is_within p raw) (p + count) p) same ∙ ap (λ n. cond (is_within old.passed raw) (old.passed + n) old.passed) size))))

-- a source that gave nothing into a buffer with room has nothing left
pub ended : (before after : Option (List ℕ)) (room : ℕ) (taken : List ℕ) → 0 < room → taken ≡ [] → Takes before room taken after → after ≡ option_map (λ x. []) after
ended None None room taken some none h = refl
ended None (Some after) room taken some none h = absurd h
ended (Some before) None room taken some none h = absurd h
ended (Some before) (Some after) room taken some none h =
    ap Some (sym (ap (λ x. x ++ after) none) ∙ (sym h.0 ∙ h.1 some none))

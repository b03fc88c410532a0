-- What a line says by its function is what the grammar says.
use Rattle.std.proofs.Common.{◌≡◌, ℕ, ◌≤◌, Bool, true, false, not, ◌&&◌, cond, eqb, leb, List, [], ◌∷◌, ◌++◌, get_or, Option, Some, None, option_map, option_and_then, is_some, refl, sym, ◌∙◌, ap, subst, arith, decimal, codes, bytes_eq, inl, inr, IsUtf8, Contains, Result, Ok, Err, is_ok, MatchResult, IfSome, IfNone}
use Rattle.std.specs.List.{list_any}
use Rattle.std.specs.Str.{is_utf8}
use Rattle.std.proofs.lemmas.Bool.{false≢true, eq-eqb}
use Rattle.std.proofs.lemmas.Bool.Decides.{nat_tests}
use Rattle.std.proofs.lemmas.Fmt.{decimal_digit}
use Rattle.std.proofs.lemmas.List.{append-nil}
use Rattle.std.proofs.lemmas.List.Folds.{Any-from_list_any, list_any_at}
use Rattle.std.proofs.lemmas.Option.{cond_some, none-some, same_Some}
use Rattle.std.proofs.lemmas.Slice.Eq.{bytes_eq-Decides}
use Rattle.std.proofs.lemmas.Str.{is_utf8-from_IsUtf8, IsUtf8-from_is_utf8}
use Rattle.script.specs.declared.grammar.Act2.{Act2}
use Rattle.script.specs.declared.grammar.Act2.TheVariants.{Begin, Read, Write, Commit, Rollback}
use Rattle.script.specs.declared.grammar.Form.{Form}
use Rattle.script.specs.declared.grammar.Form.TheVariants.{Pages}
use Rattle.script.specs.declared.grammar.Line.{Line}
use Rattle.script.specs.declared.grammar.Line.TheVariants.{Empty, Page, Copy, Step, Logs}
use Rattle.script.specs.Line.{IsSession, IsPage, HasLegalNumbers, spelling_of, IsComment, Spells}
use Rattle.script.specs.Reading.{rest_after, number_at, is_empty, is_page, read_of, written_of, write_of, act_by, log_line_of, line_words, numbered_line_of, is_text, page_line_of, line_of}
use Rattle.script.proofs.Fronts.{chosen, tested, rest_after-found, rest_after-again, number_at-found, number_at-again}

-- the test that `from_utf8` answered Ok is the test for UTF-8
pub is_ok-is_utf8 : {A B : Type 0} (bytes : List ℕ) (r : Result A B) (S : A → Type 0) (F : B → Type 0) → MatchResult r (λ s. S s × IsUtf8 bytes) (λ e. ¬ (IsUtf8 bytes) × F e) → is_ok r ≡ is_utf8 bytes
is_ok-is_utf8 bytes (Ok s) S F h = sym (is_utf8-from_IsUtf8 bytes h.1)
is_ok-is_utf8 bytes (Err e) S F h =
    elim (tested (is_utf8 bytes)) [
      | inl w ↦ absurd (h.0 (IsUtf8-from_is_utf8 bytes w))
      | inr w ↦ sym w
    ]

-- no byte is left
pub is_empty-nil : (text : List ℕ) → is_empty text ≡ true → text ≡ []
is_empty-nil [] e = refl
is_empty-nil (byte ∷ text) e = absurd (grind (arith, nat_tests))

-- a page's number
pub is_page-from : (number : ℕ) → is_page number ≡ true → IsPage number
is_page-from number e = grind (arith, nat_tests)

pub is_page-IsPage : (number : ℕ) → IsPage number → is_page number ≡ true
is_page-IsPage number h = grind (arith, nat_tests)

-- an option that went on, and then gave this
pub went_on : {A B : Type 0} (f : A → Option B) (o : Option A) (y : B) → option_and_then f o ≡ Some y → (x : A) × (o ≡ Some x) × (f x ≡ Some y)
went_on f None y e = absurd (none-some y e)
went_on f (Some x) y e = (x, refl, e)

-- a test with nothing else
pub passed : {A : Type 0} (a b : Bool) (x y : A) → cond (a && b) (Some x) None ≡ Some y → (a ≡ true) × (b ≡ true) × (x ≡ y)
passed true true x y e = (refl, refl, same_Some x y e)
passed true false x y e = absurd (none-some y e)
passed false b x y e = absurd (none-some y e)

-- the act that these words of the session's line spell
pub record IsActOf (session : ℕ) (words : List ℕ) (act : Act2) : Type 0 where
  pub in_range : HasLegalNumbers act
  pub spelled : decimal session ++ (codes ": " ++ words) ≡ spelling_of act

pub read_of-found : (session : ℕ) (words : List ℕ) (act : Act2) → IsSession session → read_of session words ≡ Some act → IsActOf session (codes "READ " ++ words) act
unfolding read_of
read_of-found session words act right e =
    let found = went_on (λ (page : ℕ × List ℕ). cond (is_empty page.1 && is_page page.0) (Some (Read session page.0)) None) (number_at words) act e in
    let page = found.0.0 in
    let rest = found.0.1 in
    let parts = passed (is_empty rest) (is_page page) (Read session page) act found.2 in
    let at = number_at-found words page rest found.1 in
    let none_left = is_empty-nil rest parts.0 in
    let all : words ≡ decimal page = at.spelled ∙ (ap (λ x. decimal page ++ x) none_left ∙ append-nil (decimal page)) in
    subst (λ a. IsActOf session (codes "READ " ++ words) a) parts.2 (record {
      in_range = (right, is_page-from page parts.1);
      spelled = ap (λ x. decimal session ++ (codes ": READ " ++ x)) all;
    })

pub written_of-found : (session page : ℕ) (words : List ℕ) (act : Act2) → IsSession session → written_of session page words ≡ Some act → IsActOf session (codes "WRITE " ++ (decimal page ++ (codes " " ++ words))) act
unfolding written_of
written_of-found session page words act right e =
    let found = went_on (λ (byte : ℕ × List ℕ). cond (is_empty byte.1 && is_page page) (Some (Write session page byte.0)) None) (number_at words) act e in
    let byte = found.0.0 in
    let rest = found.0.1 in
    let parts = passed (is_empty rest) (is_page page) (Write session page byte) act found.2 in
    let at = number_at-found words byte rest found.1 in
    let none_left = is_empty-nil rest parts.0 in
    let all : words ≡ decimal byte = at.spelled ∙ (ap (λ x. decimal byte ++ x) none_left ∙ append-nil (decimal byte)) in
    subst (λ a. IsActOf session (codes "WRITE " ++ (decimal page ++ (codes " " ++ words))) a) parts.2 (record {
      in_range = (right, is_page-from page parts.1, at.small);
      spelled = ap (λ x. decimal session ++ (codes ": WRITE " ++ (decimal page ++ (codes " " ++ x)))) all;
    })

pub write_of-found : (session : ℕ) (words : List ℕ) (act : Act2) → IsSession session → write_of session words ≡ Some act → IsActOf session (codes "WRITE " ++ words) act
unfolding write_of
write_of-found session words act right e =
    let found = went_on (λ (page : ℕ × List ℕ). option_and_then (λ rest. written_of session page.0 rest) (rest_after (codes " ") page.1)) (number_at words) act e in
    let page = found.0.0 in
    let blank = went_on (λ rest. written_of session page rest) (rest_after (codes " ") found.0.1) act found.2 in
    let at = number_at-found words page found.0.1 found.1 in
    let after = rest_after-found (codes " ") found.0.1 blank.0 blank.1 in
    let all : words ≡ decimal page ++ (codes " " ++ blank.0) = at.spelled ∙ ap (λ x. decimal page ++ x) after in
    subst (λ x. IsActOf session (codes "WRITE " ++ x) act) (sym all) (written_of-found session page blank.0 act right blank.2)

-- the word is this one
pub same_word : (words name : List ℕ) → bytes_eq words name ≡ true → words ≡ name
same_word words name e = (bytes_eq-Decides words name).0 e

-- an option with a value
pub had : {A : Type 0} (o : Option A) → is_some o ≡ true → (x : A) × (o ≡ Some x)
had None e = absurd (false≢true e)
had (Some x) e = (x, refl)

-- the first word that the text is
pub word_or : {A P : Type 0} (words name : List ℕ) (x y : A) (others : Option A) → cond (bytes_eq words name) (Some x) others ≡ Some y → (words ≡ name → x ≡ y → P) → (others ≡ Some y → P) → P
word_or words name x y others e hit miss =
    elim (chosen (bytes_eq words name) (Some x) others (Some y) e) [
      | inl w ↦ hit (same_word words name w.0) (same_Some x y w.1)
      | inr w ↦ miss w.1
    ]

-- an act that is one word
pub one_word : (session : ℕ) (words name : List ℕ) (act given : Act2) → HasLegalNumbers act → spelling_of act ≡ decimal session ++ (codes ": " ++ name) → words ≡ name → act ≡ given → IsActOf session words given
one_word session words name act given right spelled word same = subst (λ a. IsActOf session words a) same (record { in_range = right; spelled = ap (λ x. decimal session ++ (codes ": " ++ x)) word ∙ sym spelled })

pub longer_act-found : (session : ℕ) (words : List ℕ) (act : Act2) → IsSession session → cond (is_some (rest_after (codes "READ ") words)) (option_and_then (read_of session) (rest_after (codes "READ ") words)) (option_and_then (write_of session) (rest_after (codes "WRITE ") words)) ≡ Some act → IsActOf session words act
longer_act-found session words act right e =
    elim (chosen (is_some (rest_after (codes "READ ") words)) (option_and_then (read_of session) (rest_after (codes "READ ") words)) (option_and_then (write_of session) (rest_after (codes "WRITE ") words)) (Some act) e) [
      | inl w ↦
          let rest = went_on (read_of session) (rest_after (codes "READ ") words) act w.1 in
          subst (λ x. IsActOf session x act) (sym (rest_after-found (codes "READ ") words rest.0 rest.1)) (read_of-found session rest.0 act right rest.2)
      | inr w ↦
          let rest = went_on (write_of session) (rest_after (codes "WRITE ") words) act w.1 in
          subst (λ x. IsActOf session x act) (sym (rest_after-found (codes "WRITE ") words rest.0 rest.1)) (write_of-found session rest.0 act right rest.2)
    ]

pub act_of-found : (session : ℕ) (words : List ℕ) (act : Act2) → IsSession session → act_by session words ≡ Some act → IsActOf session words act
unfolding act_by
act_of-found session words act right e =
    word_or words (codes "BEGIN") (Begin session) act _ e
    (one_word session words (codes "BEGIN") (Begin session) act right refl)
    (λ e. word_or words (codes "COMMIT") (Commit session) act _ e
    (one_word session words (codes "COMMIT") (Commit session) act right refl)
    (λ e. word_or words (codes "ROLLBACK") (Rollback session) act _ e
    (one_word session words (codes "ROLLBACK") (Rollback session) act right refl)
    (longer_act-found session words act right)))

-- a line of session 0 that is one word
pub one_log_word : (words name : List ℕ) (line given : Line) → Spells Pages line (codes "0: " ++ name) → words ≡ name → line ≡ given → Spells Pages given (codes "0: " ++ words)
one_log_word words name line given spelled word same = subst (λ l. Spells Pages l (codes "0: " ++ words)) same (subst (λ x. Spells Pages line (codes "0: " ++ x)) (sym word) spelled)

pub log_line_of-found : (words : List ℕ) (line : Line) → log_line_of words ≡ Some line → Spells Pages line (decimal 0 ++ (codes ": " ++ words))
unfolding log_line_of
log_line_of-found words line e =
    subst (λ x. Spells Pages line (x ++ (codes ": " ++ words))) (sym (decimal_digit 0 (omega arith))) (
    word_or words (codes "CHECKPOINT") Copy line _ e
    (one_log_word words (codes "CHECKPOINT") Copy line refl)
    (λ e. word_or words (codes "STEP") Step line _ e
    (one_log_word words (codes "STEP") Step line refl)
    (λ e. word_or words (codes "LOGS") Logs line _ e
    (one_log_word words (codes "LOGS") Logs line refl)
    (λ e. absurd (none-some line e)))))

-- an option that was mapped, and then gave this
pub was_mapped : {A B : Type 0} (f : A → B) (o : Option A) (y : B) → option_map f o ≡ Some y → (x : A) × (o ≡ Some x) × (f x ≡ y)
was_mapped f None y e = absurd (none-some y e)
was_mapped f (Some x) y e = (x, refl, same_Some (f x) y e)

pub words_of-found : (number : ℕ) (words : List ℕ) (line : Line) → line_words number words ≡ Some line → Spells Pages line (decimal number ++ (codes ": " ++ words))
unfolding line_words
words_of-found number words line e =
    elim (chosen (eqb number 0) (log_line_of words) (cond (leb number 15) (option_map Page (act_by number words)) None) (Some line) e) [
      | inl w ↦
          let zero_is : number ≡ 0 = grind (arith, nat_tests) in
          subst (λ n. Spells Pages line (decimal n ++ (codes ": " ++ words))) (sym zero_is) (log_line_of-found words line w.1)
      | inr w ↦ elim (chosen (leb number 15) (option_map Page (act_by number words)) None (Some line) w.1) [
        | inl v ↦
            let right : IsSession number = (grind (arith, nat_tests), grind (arith, nat_tests)) in
            let found = was_mapped Page (act_by number words) line v.1 in
            let act = act_of-found number words found.0 right found.1 in
            subst (λ l. Spells Pages l (decimal number ++ (codes ": " ++ words))) found.2 (act.in_range, act.spelled)
        | inr v ↦ absurd (none-some line v.1)
      ]
    ]

pub numbered_line_of-found : (text : List ℕ) (line : Line) → numbered_line_of text ≡ Some line → Spells Pages line text
unfolding numbered_line_of
numbered_line_of-found text line e =
    let found = went_on (λ (found : ℕ × List ℕ). option_and_then (line_words found.0) (rest_after (codes ": ") found.1)) (number_at text) line e in
    let number = found.0.0 in
    let after = went_on (line_words number) (rest_after (codes ": ") found.0.1) line found.2 in
    let all : text ≡ decimal number ++ (codes ": " ++ after.0) =
    (number_at-found text number found.0.1 found.1).spelled ∙ ap (λ x. decimal number ++ x) (rest_after-found (codes ": ") found.0.1 after.0 after.1) in
    subst (λ x. Spells Pages line x) (sym all) (words_of-found number after.0 line after.2)

-- a byte is among these exactly where the test for it says so
pub no_zero-list_any : (text : List ℕ) → not (list_any (λ byte. eqb byte 0) text) ≡ true → ¬ Contains text 0
no_zero-list_any text e h =
    false≢true (ap not (sym (list_any_at (λ byte. eqb byte 0) text h.0 0 h.1 (eq-eqb _ 0 h.2))) ∙ e)

pub list_any-no_zero : (text : List ℕ) → ¬ Contains text 0 → not (list_any (λ byte. eqb byte 0) text) ≡ true
list_any-no_zero text h =
    elim (tested (list_any (λ byte. eqb byte 0) text)) [
      | inl w ↦
          let some = Any-from_list_any (λ byte. eqb byte 0) text w in
          let zero_is : some.1 ≡ 0 = grind (arith, nat_tests, some.4) in
          absurd (h (some.0, some.2, subst (λ x. get_or text some.0 x ≡ x) zero_is some.3))
      | inr w ↦ rw w refl
    ]

-- both tests passed
pub both : (a b : Bool) → (a && b) ≡ true → (a ≡ true) × (b ≡ true)
both true b e = (refl, e)
both false b e = absurd (false≢true e)

pub is_text-found : (text : List ℕ) → is_text text ≡ true → IsUtf8 text × (¬ Contains text 0)
unfolding is_text
is_text-found text e =
    let parts = both (not (list_any (λ byte. eqb byte 0) text)) (is_utf8 text) e in
    (IsUtf8-from_is_utf8 text parts.1, no_zero-list_any text parts.0)

pub is_text-again : (text : List ℕ) → IsUtf8 text → ¬ Contains text 0 → is_text text ≡ true
unfolding is_text
is_text-again text utf8 no_zero = rw (list_any-no_zero text no_zero, is_utf8-from_IsUtf8 text utf8) refl

pub page_line_of-found : (text : List ℕ) (line : Line) → page_line_of text ≡ Some line → Spells Pages line text
unfolding page_line_of
page_line_of-found [] line e = subst (λ l. Spells Pages l []) (same_Some Empty line e) (inl refl)
page_line_of-found (byte ∷ rest) line e =
    elim (chosen (eqb byte 35) (cond (is_text (byte ∷ rest)) (Some Empty) None) (numbered_line_of (byte ∷ rest)) (Some line) e) [
      | inl w ↦
          let parts = cond_some (is_text (byte ∷ rest)) Empty line w.1 in
          let comment = is_text-found (byte ∷ rest) parts.0 in
          let sign : byte ≡ 35 = grind (arith, nat_tests) in
          subst (λ l. Spells Pages l (byte ∷ rest)) parts.1 (inr (record { sign = ap Some sign; utf8 = comment.0; no_zero = comment.1 }))
      | inr w ↦ numbered_line_of-found (byte ∷ rest) line w.1
    ]

pub act_of-read : (session : ℕ) (rest : List ℕ) → act_by session (codes "READ " ++ rest) ≡ read_of session rest
unfolding act_by
act_of-read session rest = ap (λ o. cond (is_some o) (option_and_then (read_of session) o) (option_and_then (write_of session) (rest_after (codes "WRITE ") (codes "READ " ++ rest)))) (rest_after-again (codes "READ ") rest)

pub not_read : (rest : List ℕ) → rest_after (codes "READ ") (codes "WRITE " ++ rest) ≡ None
unfolding rest_after
not_read rest = refl

pub act_of-write : (session : ℕ) (rest : List ℕ) → act_by session (codes "WRITE " ++ rest) ≡ write_of session rest
unfolding act_by
act_of-write session rest =
    ap (λ o. cond (is_some o) (option_and_then (read_of session) o) (option_and_then (write_of session) (rest_after (codes "WRITE ") (codes "WRITE " ++ rest)))) (not_read rest)
    ∙ ap (λ o. option_and_then (write_of session) o) (rest_after-again (codes "WRITE ") rest)

-- a number that ends the line
pub number_at-last : (number : ℕ) → number ≤ 255 → number_at (decimal number) ≡ Some (number, [])
number_at-last number small = ap number_at (sym (append-nil (decimal number))) ∙ number_at-again number [] small tt

pub read_of-again : (session page : ℕ) → IsPage page → read_of session (decimal page) ≡ Some (Read session page)
unfolding read_of
read_of-again session page right =
    ap (λ o. option_and_then (λ (page : ℕ × List ℕ). cond (is_empty page.1 && is_page page.0) (Some (Read session page.0)) None) o) (number_at-last page (omega (arith, right.1)))
    ∙ ap (λ b. cond b (Some (Read session page)) None) (is_page-IsPage page right)

pub written_of-again : (session page byte : ℕ) → IsPage page → byte ≤ 255 → written_of session page (decimal byte) ≡ Some (Write session page byte)
unfolding written_of
written_of-again session page byte right small =
    ap (λ o. option_and_then (λ (byte : ℕ × List ℕ). cond (is_empty byte.1 && is_page page) (Some (Write session page byte.0)) None) o) (number_at-last byte small)
    ∙ ap (λ b. cond b (Some (Write session page byte)) None) (is_page-IsPage page right)

pub write_of-again : (session page byte : ℕ) → IsPage page → byte ≤ 255 → write_of session (decimal page ++ (codes " " ++ decimal byte)) ≡ Some (Write session page byte)
unfolding write_of
write_of-again session page byte right small =
    ap (λ o. option_and_then (λ (page : ℕ × List ℕ). option_and_then (λ rest. written_of session page.0 rest) (rest_after (codes " ") page.1)) o) (number_at-again page (codes " " ++ decimal byte) (omega (arith, right.1)) refl)
    ∙ ap (λ o. option_and_then (λ rest. written_of session page rest) o) (rest_after-again (codes " ") (decimal byte))
    ∙ written_of-again session page byte right small

-- a line that begins with a number
pub numbered_line_of-again : (number : ℕ) (words : List ℕ) → number ≤ 255 → numbered_line_of (decimal number ++ (codes ": " ++ words)) ≡ line_words number words
unfolding numbered_line_of
numbered_line_of-again number words small =
    ap (λ o. option_and_then (λ (found : ℕ × List ℕ). option_and_then (line_words found.0) (rest_after (codes ": ") found.1)) o) (number_at-again number (codes ": " ++ words) small refl)
    ∙ ap (λ o. option_and_then (line_words number) o) (rest_after-again (codes ": ") words)

pub words_of-session : (session : ℕ) (words : List ℕ) → IsSession session → line_words session words ≡ option_map Page (act_by session words)
unfolding line_words
words_of-session session words right =
    let some : eqb session 0 ≡ false = grind (arith, nat_tests) in
    let few : leb session 15 ≡ true = grind (arith, nat_tests) in
    rw (some, few) refl

pub words_of-zero : (words : List ℕ) → line_words 0 words ≡ log_line_of words
unfolding line_words
words_of-zero words = refl

-- no comment begins with a number
pub page_line_of-numbered : (text : List ℕ) (line : Line) → numbered_line_of text ≡ Some line → page_line_of text ≡ Some line
unfolding page_line_of numbered_line_of number_at
page_line_of-numbered [] line e = absurd (none-some line e)
page_line_of-numbered (byte ∷ rest) line e =
    elim (tested (eqb byte 35)) [
      | inl w ↦
          let sign : byte ≡ 35 = grind (arith, nat_tests) in
          absurd (none-some line (subst (λ x. numbered_line_of (x ∷ rest) ≡ Some line) sign e))
      | inr w ↦ rw w e
    ]

-- a line of a session that says this
pub session_line : (session : ℕ) (words text : List ℕ) (act : Act2) → IsSession session → act_by session words ≡ Some act → text ≡ decimal session ++ (codes ": " ++ words) → page_line_of text ≡ Some (Page act)
session_line session words text act right says spelled =
    subst (λ x. page_line_of x ≡ Some (Page act)) (sym spelled) (
    page_line_of-numbered (decimal session ++ (codes ": " ++ words)) (Page act) (
    numbered_line_of-again session words (omega (arith, right.1))
    ∙ words_of-session session words right
    ∙ ap (λ o. option_map Page o) says))

-- a line of session 0 that says this
pub log_line : (words text : List ℕ) (line : Line) → log_line_of words ≡ Some line → text ≡ codes "0: " ++ words → page_line_of text ≡ Some line
log_line words text line says spelled =
    subst (λ x. page_line_of x ≡ Some line) (sym spelled) (
    page_line_of-numbered (codes "0: " ++ words) line (
    subst (λ x. numbered_line_of (x ++ (codes ": " ++ words)) ≡ line_words 0 words) (decimal_digit 0 (omega arith)) (numbered_line_of-again 0 words (omega arith))
    ∙ words_of-zero words
    ∙ says))

pub comment-again : (text : List ℕ) → IsComment text → page_line_of text ≡ Some Empty
unfolding page_line_of
comment-again [] h = absurd (none-some 35 h.sign)
comment-again (byte ∷ rest) h =
    let sign : byte ≡ 35 = same_Some byte 35 h.sign in
    let starts : eqb byte 35 ≡ true = grind (arith, nat_tests) in
    rw (starts, is_text-again (byte ∷ rest) h.utf8 h.no_zero) refl

pub page_act-again : (act : Act2) (text : List ℕ) → HasLegalNumbers act → text ≡ spelling_of act → page_line_of text ≡ Some (Page act)
unfolding act_by
page_act-again (Begin session) text right spelled = session_line session (codes "BEGIN") text (Begin session) right refl spelled
page_act-again (Read session page) text right spelled =
    session_line session (codes "READ " ++ decimal page) text (Read session page) right.0 (act_of-read session (decimal page) ∙ read_of-again session page right.1) spelled
page_act-again (Write session page byte) text right spelled =
    session_line session (codes "WRITE " ++ (decimal page ++ (codes " " ++ decimal byte))) text (Write session page byte) right.0 (act_of-write session (decimal page ++ (codes " " ++ decimal byte)) ∙ write_of-again session page byte right.1 right.2) spelled
page_act-again (Commit session) text right spelled = session_line session (codes "COMMIT") text (Commit session) right refl spelled
page_act-again (Rollback session) text right spelled = session_line session (codes "ROLLBACK") text (Rollback session) right refl spelled

pub page_line_of-again : (line : Line) (text : List ℕ) → Spells Pages line text → page_line_of text ≡ Some line
unfolding page_line_of log_line_of
page_line_of-again Empty text h = elim h [ inl empty ↦ subst (λ x. page_line_of x ≡ Some Empty) (sym empty) refl | inr comment ↦ comment-again text comment ]
page_line_of-again (Page act) text h = page_act-again act text h.0 h.1
page_line_of-again Copy text h = log_line (codes "CHECKPOINT") text Copy refl h
page_line_of-again Step text h = log_line (codes "STEP") text Step refl h
page_line_of-again Logs text h = log_line (codes "LOGS") text Logs refl h

-- a line says this exactly where the grammar spells it so
pub line_of-found : (form : Form) (text : List ℕ) (line : Line) → line_of form text ≡ Some line → Spells form line text
line_of-found Pages text line e = page_line_of-found text line e

pub line_of-again : (form : Form) (text : List ℕ) (line : Line) → Spells form line text → line_of form text ≡ Some line
line_of-again Pages text line h = page_line_of-again line text h

-- what an answer that is the function's says in the grammar's words
pub spells_from : (form : Form) (text : List ℕ) (answer : Option Line) → answer ≡ line_of form text → IfSome answer (λ line. Spells form line text)
spells_from form text None e = tt
spells_from form text (Some line) e = line_of-found form text line (sym e)

pub none_spells : (form : Form) (text : List ℕ) (answer : Option Line) → answer ≡ line_of form text → IfNone answer ((line : Line) → Spells form line text → ⊥)
none_spells form text None e = λ line h. none-some line (e ∙ line_of-again form text line h)
none_spells form text (Some line) e = tt

pub line_of-pages : (form : Form) (text : List ℕ) → page_line_of text ≡ line_of form text
line_of-pages Pages text = refl

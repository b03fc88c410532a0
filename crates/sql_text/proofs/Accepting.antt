-- What the states accept is a token: from each state on, the bytes that make a token of a kind.
use Rattle.std.proofs.Common.{◌≡◌, ℕ, zero, suc, ◌+◌, ◌*◌, ◌≤◌, Bool, true, false, ◌||◌, ◌&&◌, if◌then◌else◌, ◌⊎◌, inl, inr, List, [], ◌∷◌, ◌++◌, length, take, drop, Option, Some, None, refl, sym, ◌∙◌, ap, subst, arith, ⊎_elim}
use Rattle.std.specs.Prelude.{◌==◌}
use Rattle.std.specs.List.{list_all}
use Rattle.std.proofs.lemmas.Bool.{eqb-true}
use Rattle.sql_text.specs.declared.state.State.{State}
use Rattle.sql_text.specs.declared.state.State.TheVariants as s
use Rattle.sql_text.specs.declared.token.TokenKind.{TokenKind}
use Rattle.sql_text.specs.declared.token.TokenKind.TheVariants as k
use Rattle.sql_text.specs.Token as t
use Rattle.sql_text.specs.Token.{begins, doubled, IsToken, IsTokenOf, IsLongest}
use Rattle.sql_text.specs.Scan.{start, step, kind, is_quoted, goes_into_quotes, pick, when, else_when, ended, token_of}

-- ---- small laws

pub some_same : {A : Type 0} (a b : A) → Some a ≡ Some b → a ≡ b
some_same a b e = cc

pub none_some : {A : Type 0} (a : A) → None ≡ Some a → ⊥
none_some a e = cc

pub nil_cons : {A : Type 0} (a : A) (xs : List A) → [] ≡ a ∷ xs → ⊥
nil_cons a xs e = cc

pub heads : {A : Type 0} (a b : A) (xs ys : List A) → a ∷ xs ≡ b ∷ ys → a ≡ b
heads a b xs ys e = cc

pub tails : {A : Type 0} (a b : A) (xs ys : List A) → a ∷ xs ≡ b ∷ ys → xs ≡ ys
tails a b xs ys e = cc

both_true : (a b : Bool) → a ≡ true → b ≡ true → (a && b) ≡ true
both_true true b is h = h
both_true false b is h = cc

pub parts : (a b : Bool) → (a && b) ≡ true → (a ≡ true) × (b ≡ true)
parts true b h = (refl, h)
parts false b h = cc

-- what a step that goes on tells
taken : (b : Bool) (to after : State) → when b to ≡ Some after → (b ≡ true) × (to ≡ after)
taken true to after e = (refl, some_same to after e)
taken false to after e = absurd (none_some after e)

either_taken : (b : Bool) (to : State) (other : Option State) (after : State) → else_when b to other ≡ Some after
    → ((b ≡ true) × (to ≡ after)) ⊎ ((b ≡ false) × (other ≡ Some after))
either_taken true to other after e = inl (refl, some_same to after e)
either_taken false to other after e = inr (refl, e)

-- ---- what each state accepts: the bytes that make a token of this kind, before the others

-- what stands behind a quote: nothing more, or a second one
abbrev pub Behind : ℕ → List ℕ → Type 0
Behind quote bytes = (bytes ≡ []) ⊎ ((after : List ℕ) × (bytes ≡ quote ∷ after) × t.Closes quote after)

abbrev pub Accepts : State → TokenKind → List ℕ → List ℕ → Type 0
Accepts s.Start found bytes rest = IsToken found bytes rest
Accepts s.Word found bytes rest = (found ≡ k.Word) × (list_all t.is_word bytes ≡ true)
Accepts s.X found bytes rest =
    ((found ≡ k.Word) × (list_all t.is_word bytes ≡ true) × (begins 39 (bytes ++ rest) ≡ false))
    ⊎ ((found ≡ k.Blob) × ((after : List ℕ) × (bytes ≡ 39 ∷ after) × ((pairs : ℕ) × t.EndsBlob (2 * pairs) after)))
Accepts s.Quoted found bytes rest = (found ≡ k.Quoted) × t.Closes 34 bytes × (begins 34 rest ≡ false)
Accepts s.QuotedEnd found bytes rest = (found ≡ k.Quoted) × Behind 34 bytes × (begins 34 rest ≡ false)
Accepts s.Text found bytes rest = (found ≡ k.Text) × t.Closes 39 bytes × (begins 39 rest ≡ false)
Accepts s.TextEnd found bytes rest = (found ≡ k.Text) × Behind 39 bytes × (begins 39 rest ≡ false)
Accepts s.Hex found bytes rest = (found ≡ k.Blob) × ((pairs : ℕ) × t.EndsBlob (2 * pairs) bytes)
Accepts s.OddHex found bytes rest = (found ≡ k.Blob) × ((pairs : ℕ) × t.EndsBlob (2 * pairs + 1) bytes)
Accepts s.BlobEnd found bytes rest = (found ≡ k.Blob) × (bytes ≡ [])
Accepts s.Digits found bytes rest = (found ≡ k.Number) × ((digits : List ℕ) × (more : List ℕ) × (bytes ≡ digits ++ more) × t.AreDigits digits × t.AfterDigits more)
Accepts s.Point found bytes rest =
    ((found ≡ k.Sign) × (bytes ≡ []))
    ⊎ ((found ≡ k.Number) × ((digits : List ℕ) × (exponent : List ℕ) × (bytes ≡ digits ++ exponent) × t.SomeDigits digits × t.MaybeExponent exponent))
Accepts s.Fraction found bytes rest = (found ≡ k.Number) × t.AfterPoint bytes
Accepts s.Exponent found bytes rest = (found ≡ k.Number) × t.SignedDigits bytes
Accepts s.ExponentSign found bytes rest = (found ≡ k.Number) × t.SomeDigits bytes
Accepts s.ExponentDigits found bytes rest = (found ≡ k.Number) × t.AreDigits bytes
Accepts s.Equal found bytes rest = (found ≡ k.Sign) × ((bytes ≡ []) ⊎ (bytes ≡ 61 ∷ []))
Accepts s.Less found bytes rest = (found ≡ k.Sign) × ((bytes ≡ []) ⊎ ((bytes ≡ 61 ∷ []) ⊎ (bytes ≡ 62 ∷ [])))
Accepts s.More found bytes rest = (found ≡ k.Sign) × ((bytes ≡ []) ⊎ (bytes ≡ 61 ∷ []))
Accepts s.Bang found bytes rest = (found ≡ k.Sign) × (bytes ≡ 61 ∷ [])
Accepts s.Sign found bytes rest = (found ≡ k.Sign) × (bytes ≡ [])

pub or_true : (a b : Bool) → (a || b) ≡ true → (a ≡ true) ⊎ (b ≡ true)
or_true true b h = inl refl
or_true false b h = inr h

snoc_not_nil : (xs : List ℕ) (a : ℕ) → [] ≡ xs ++ a ∷ [] → ⊥
snoc_not_nil [] a e = nil_cons a [] e
snoc_not_nil (x ∷ xs) a e = nil_cons x (xs ++ a ∷ []) e

first_not_nil : (digits more : List ℕ) → t.SomeDigits digits → [] ≡ digits ++ more → ⊥
first_not_nil digits more (d, ds, is, one, all) e = nil_cons d (ds ++ more) (subst (λ x. [] ≡ x ++ more) is e)

-- ---- where nothing is left

ended_kind : (st : State) (rest : List ℕ) (found : TokenKind) → ended st rest ≡ Some found → kind st ≡ Some found
ended_kind st [] found e = e
ended_kind st (b ∷ bs) found e = by_quotes (goes_into_quotes (step st b)) (kind st) found e
  where
    by_quotes : (c : Bool) (o : Option TokenKind) (found : TokenKind) → (if c then None else o) ≡ Some found → o ≡ Some found
    by_quotes true o found e = absurd (none_some found e)
    by_quotes false o found e = e

ends_as : (st : State) (rest : List ℕ) (found : TokenKind) (one : TokenKind) → kind st ≡ Some one → ended st rest ≡ Some found → found ≡ one
ends_as st rest found one is e = some_same found one (sym (ended_kind st rest found e) ∙ is)

never : (st : State) (rest : List ℕ) (found : TokenKind) → kind st ≡ None → ended st rest ≡ Some found → ⊥
never st rest found is e = none_some found (sym is ∙ ended_kind st rest found e)

not_opened : (c : Bool) (o : Option State) (one found : TokenKind) → (if goes_into_quotes (else_when c s.Hex o) then None else Some one) ≡ Some found → c ≡ false
not_opened true o one found e = absurd (none_some found e)
not_opened false o one found e = refl

not_doubled : (inside : State) → is_quoted inside ≡ true → (c : Bool) (one found : TokenKind) → (if goes_into_quotes (when c inside) then None else Some one) ≡ Some found → c ≡ false
not_doubled inside quoted true one found e = absurd (none_some found (sym (ap (λ c. if c then None else Some one) quoted) ∙ e))
not_doubled inside quoted false one found e = refl

x_ends : (rest : List ℕ) (found : TokenKind) → ended s.X rest ≡ Some found → begins 39 rest ≡ false
x_ends [] found e = refl
x_ends (b ∷ bs) found e = not_opened (b == 39) (when (t.is_word b) s.Word) k.Word found e

quoted_ends : (rest : List ℕ) (found : TokenKind) → ended s.QuotedEnd rest ≡ Some found → begins 34 rest ≡ false
quoted_ends [] found e = refl
quoted_ends (b ∷ bs) found e = not_doubled s.Quoted refl (b == 34) k.Quoted found e

text_ends : (rest : List ℕ) (found : TokenKind) → ended s.TextEnd rest ≡ Some found → begins 39 rest ≡ false
text_ends [] found e = refl
text_ends (b ∷ bs) found e = not_doubled s.Text refl (b == 39) k.Text found e

nil_sound : (st : State) (found : TokenKind) (rest : List ℕ) → ended st rest ≡ Some found → Accepts st found [] rest
nil_sound s.Start found rest e = absurd (never s.Start rest found refl e)
nil_sound s.Word found rest e = (ends_as s.Word rest found k.Word refl e, refl)
nil_sound s.X found rest e = inl (ends_as s.X rest found k.Word refl e, refl, x_ends rest found e)
nil_sound s.Quoted found rest e = absurd (never s.Quoted rest found refl e)
nil_sound s.QuotedEnd found rest e = (ends_as s.QuotedEnd rest found k.Quoted refl e, inl refl, quoted_ends rest found e)
nil_sound s.Text found rest e = absurd (never s.Text rest found refl e)
nil_sound s.TextEnd found rest e = (ends_as s.TextEnd rest found k.Text refl e, inl refl, text_ends rest found e)
nil_sound s.Hex found rest e = absurd (never s.Hex rest found refl e)
nil_sound s.OddHex found rest e = absurd (never s.OddHex rest found refl e)
nil_sound s.BlobEnd found rest e = (ends_as s.BlobEnd rest found k.Blob refl e, refl)
nil_sound s.Digits found rest e = (ends_as s.Digits rest found k.Number refl e, ([], [], refl, refl, inr (inl refl)))
nil_sound s.Point found rest e = inl (ends_as s.Point rest found k.Sign refl e, refl)
nil_sound s.Fraction found rest e = (ends_as s.Fraction rest found k.Number refl e, ([], [], refl, refl, inl refl))
nil_sound s.Exponent found rest e = absurd (never s.Exponent rest found refl e)
nil_sound s.ExponentSign found rest e = absurd (never s.ExponentSign rest found refl e)
nil_sound s.ExponentDigits found rest e = (ends_as s.ExponentDigits rest found k.Number refl e, refl)
nil_sound s.Equal found rest e = (ends_as s.Equal rest found k.Sign refl e, inl refl)
nil_sound s.Less found rest e = (ends_as s.Less rest found k.Sign refl e, inl refl)
nil_sound s.More found rest e = (ends_as s.More rest found k.Sign refl e, inl refl)
nil_sound s.Bang found rest e = absurd (never s.Bang rest found refl e)
nil_sound s.Sign found rest e = (ends_as s.Sign rest found k.Sign refl e, refl)

plain_when : (c : Bool) (to : State) → is_quoted to ≡ false → goes_into_quotes (when c to) ≡ false
plain_when true to plain = plain
plain_when false to plain = refl

plain_else : (c : Bool) (to : State) (o : Option State) → is_quoted to ≡ false → goes_into_quotes o ≡ false → goes_into_quotes (else_when c to o) ≡ false
plain_else true to o plain other = plain
plain_else false to o plain other = other

ended_plain : (st : State) (one found : TokenKind) → kind st ≡ Some one → ((b : ℕ) → goes_into_quotes (step st b) ≡ false) → found ≡ one → (rest : List ℕ) → ended st rest ≡ Some found
ended_plain st one found is plain same [] = is ∙ ap Some (sym same)
ended_plain st one found is plain same (b ∷ bs) = ap (λ c. if c then None else kind st) (plain b) ∙ (is ∙ ap Some (sym same))

x_ended : (found : TokenKind) (rest : List ℕ) → found ≡ k.Word → begins 39 rest ≡ false → ended s.X rest ≡ Some found
x_ended found [] same none = ap Some (sym same)
x_ended found (b ∷ bs) same none =
    ap (λ c. if goes_into_quotes (else_when c s.Hex (when (t.is_word b) s.Word)) then None else Some k.Word) none
    ∙ (ap (λ c. if c then None else Some k.Word) (plain_when (t.is_word b) s.Word refl) ∙ ap Some (sym same))

quoted_ended : (found : TokenKind) (rest : List ℕ) → found ≡ k.Quoted → begins 34 rest ≡ false → ended s.QuotedEnd rest ≡ Some found
quoted_ended found [] same none = ap Some (sym same)
quoted_ended found (b ∷ bs) same none = ap (λ c. if goes_into_quotes (when c s.Quoted) then None else Some k.Quoted) none ∙ ap Some (sym same)

text_ended : (found : TokenKind) (rest : List ℕ) → found ≡ k.Text → begins 39 rest ≡ false → ended s.TextEnd rest ≡ Some found
text_ended found [] same none = ap Some (sym same)
text_ended found (b ∷ bs) same none = ap (λ c. if goes_into_quotes (when c s.Text) then None else Some k.Text) none ∙ ap Some (sym same)

-- the empty list is no token
pub nothing : (found : TokenKind) (rest : List ℕ) → IsToken found [] rest → ⊥
nothing k.Word rest ((first, others, is, letter, all), none) = nil_cons first others is
nothing k.Quoted rest ((after, is, closes), none) = nil_cons 34 after is
nothing k.Number rest (inl (digits, more, is, some, after)) = first_not_nil digits more some is
nothing k.Number rest (inr (digits, exponent, is, some, maybe)) = nil_cons 46 (digits ++ exponent) is
nothing k.Text rest ((after, is, closes), none) = nil_cons 39 after is
nothing k.Blob rest (x, after, is, one, ends) = nil_cons x (39 ∷ after) is
nothing k.Sign rest (inl (byte, is, one)) = nil_cons byte [] is
nothing k.Sign rest (inr (first, second, is, pair)) = nil_cons first (second ∷ []) is

pub nil_complete : (st : State) (found : TokenKind) (rest : List ℕ) → Accepts st found [] rest → ended st rest ≡ Some found
nil_complete s.Start found rest h = absurd (nothing found rest h)
nil_complete s.Word found rest (e, all) = ended_plain s.Word k.Word found refl (λ b. plain_when (t.is_word b) s.Word refl) e rest
nil_complete s.X found rest (inl (e, all, none)) = x_ended found rest e none
nil_complete s.X found rest (inr (e, (after, is, ends))) = absurd (nil_cons 39 after is)
nil_complete s.Quoted found rest (e, (inner, is), none) = absurd (snoc_not_nil (doubled 34 inner) 34 is)
nil_complete s.QuotedEnd found rest (e, inl is, none) = quoted_ended found rest e none
nil_complete s.QuotedEnd found rest (e, inr (after, is, closes), none) = absurd (nil_cons 34 after is)
nil_complete s.Text found rest (e, (inner, is), none) = absurd (snoc_not_nil (doubled 39 inner) 39 is)
nil_complete s.TextEnd found rest (e, inl is, none) = text_ended found rest e none
nil_complete s.TextEnd found rest (e, inr (after, is, closes), none) = absurd (nil_cons 39 after is)
nil_complete s.Hex found rest (e, (pairs, (digits, is, all, long))) = absurd (snoc_not_nil digits 39 is)
nil_complete s.OddHex found rest (e, (pairs, (digits, is, all, long))) = absurd (snoc_not_nil digits 39 is)
nil_complete s.BlobEnd found rest (e, is) = ended_plain s.BlobEnd k.Blob found refl (λ b. refl) e rest
nil_complete s.Digits found rest (e, h) =
    ended_plain s.Digits k.Number found refl (λ b. plain_else (t.is_digit b) s.Digits (else_when (b == 46) s.Fraction (when (t.is_exponent b) s.Exponent)) refl
    (plain_else (b == 46) s.Fraction (when (t.is_exponent b) s.Exponent) refl (plain_when (t.is_exponent b) s.Exponent refl))) e rest
nil_complete s.Point found rest (inl (e, is)) = ended_plain s.Point k.Sign found refl (λ b. plain_when (t.is_digit b) s.Fraction refl) e rest
nil_complete s.Point found rest (inr (e, (digits, exponent, is, some, maybe))) = absurd (first_not_nil digits exponent some is)
nil_complete s.Fraction found rest (e, h) =
    ended_plain s.Fraction k.Number found refl
    (λ b. plain_else (t.is_digit b) s.Fraction (when (t.is_exponent b) s.Exponent) refl (plain_when (t.is_exponent b) s.Exponent refl)) e rest
nil_complete s.Exponent found rest (e, inl (d, ds, is, one, all)) = absurd (nil_cons d ds is)
nil_complete s.Exponent found rest (e, inr (sign, ds, is, one, some)) = absurd (nil_cons sign ds is)
nil_complete s.ExponentSign found rest (e, (d, ds, is, one, all)) = absurd (nil_cons d ds is)
nil_complete s.ExponentDigits found rest (e, all) = ended_plain s.ExponentDigits k.Number found refl (λ b. plain_when (t.is_digit b) s.ExponentDigits refl) e rest
nil_complete s.Equal found rest (e, h) = ended_plain s.Equal k.Sign found refl (λ b. plain_when (b == 61) s.Sign refl) e rest
nil_complete s.Less found rest (e, h) = ended_plain s.Less k.Sign found refl (λ b. plain_when (b == 61 || b == 62) s.Sign refl) e rest
nil_complete s.More found rest (e, h) = ended_plain s.More k.Sign found refl (λ b. plain_when (b == 61) s.Sign refl) e rest
nil_complete s.Bang found rest (e, is) = absurd (nil_cons 61 [] is)
nil_complete s.Sign found rest (e, is) = ended_plain s.Sign k.Sign found refl (λ b. refl) e rest

-- ---- one byte more

is_byte : (b n : ℕ) (f g : List ℕ) → (b == n) ≡ true → f ≡ g → b ∷ f ≡ n ∷ g
is_byte b n f g same is = let first : b ≡ n = eqb-true b n same in λ i. first i ∷ is i

closes_now : (quote b : ℕ) (f : List ℕ) → (b == quote) ≡ true → Behind quote f → t.Closes quote (b ∷ f)
unfolding doubled
closes_now quote b f same (inl is) = ([], is_byte b quote f [] same is)
closes_now quote b f same (inr (after, is, (inner, closes))) =
    (b ∷ inner, λ i. b ∷ ((is ∙ (ap (λ x. quote ∷ x) closes ∙ ap (λ c. (if c then quote ∷ doubled quote inner else doubled quote inner) ++ quote ∷ []) (sym same))) i))

closes_later : (quote b : ℕ) (f : List ℕ) → (b == quote) ≡ false → t.Closes quote f → t.Closes quote (b ∷ f)
unfolding doubled
closes_later quote b f other (inner, closes) =
    (b ∷ inner, λ i. b ∷ ((closes ∙ ap (λ c. (if c then quote ∷ doubled quote inner else doubled quote inner) ++ quote ∷ []) (sym other)) i))

ends_more : (count b : ℕ) (f : List ℕ) → t.is_hex b ≡ true → t.EndsBlob count f → t.EndsBlob (count + 1) (b ∷ f)
ends_more count b f hex (digits, is, all, long) =
    (b ∷ digits, ap (λ x. b ∷ x) is, both_true (t.is_hex b) (list_all t.is_hex digits) hex all, omega (arith, long))

digits_more : (b : ℕ) (digits : List ℕ) → t.is_digit b ≡ true → t.AreDigits digits → t.AreDigits (b ∷ digits)
digits_more b digits one all = both_true (t.is_digit b) (list_all t.is_digit digits) one all

point_more : (b : ℕ) (f : List ℕ) → t.is_digit b ≡ true → t.AfterPoint f → t.AfterPoint (b ∷ f)
point_more b f one (digits, exponent, is, all, maybe) = (b ∷ digits, exponent, ap (λ x. b ∷ x) is, digits_more b digits one all, maybe)

exponent_more : (b : ℕ) (f : List ℕ) → t.is_exponent b ≡ true → t.SignedDigits f → t.MaybeExponent (b ∷ f)
exponent_more b f one signed = inr (b, f, refl, one, signed)

x_letter : (b : ℕ) → t.is_x b ≡ true → t.is_letter b ≡ true
x_letter b is =
    ⊎_elim (λ e. subst (λ n. t.is_letter n ≡ true) (sym (eqb-true b 120 e)) refl) (λ e. subst (λ n. t.is_letter n ≡ true) (sym (eqb-true b 88 e)) refl)
    (or_true (b == 120) (b == 88) is)

abbrev pub one_sign : ℕ → Bool
one_sign byte = t.is_sign byte || (byte == 46 || (byte == 61 || (byte == 60 || byte == 62)))

sign_alone : (b : ℕ) (f : List ℕ) → one_sign b ≡ true → f ≡ [] → t.IsSign (b ∷ f)
sign_alone b f one is = inl (b, ap (λ x. b ∷ x) is, one)

sign_at : (b n : ℕ) (f : List ℕ) → (b == n) ≡ true → one_sign n ≡ true → f ≡ [] → t.IsSign (b ∷ f)
sign_at b n f same one is = sign_alone b f (subst (λ n. one_sign n ≡ true) (sym (eqb-true b n same)) one) is

pair_at : (b n second : ℕ) (f : List ℕ) → (b == n) ≡ true → t.is_pair n second ≡ true → f ≡ second ∷ [] → t.IsSign (b ∷ f)
pair_at b n second f same pair is = inr (b, second, ap (λ x. b ∷ x) is, subst (λ n. t.is_pair n second ≡ true) (sym (eqb-true b n same)) pair)

module _ (b : ℕ) (after : State) (found : TokenKind) (f r : List ℕ) where
  abbrev At : State → Type 0
  At st = Accepts st found f r

  moved : (st : State) → st ≡ after → At after → At st
  moved st same h = subst At (sym same) h

  word_sound : (c : (t.is_word b ≡ true) × (s.Word ≡ after)) → At after → Accepts s.Word found (b ∷ f) r
  word_sound c h = let w = moved s.Word c.1 h in (w.0, both_true (t.is_word b) (list_all t.is_word f) c.0 w.1)

  x_sound : ((b == 39) ≡ true) × (s.Hex ≡ after) ⊎ ((b == 39) ≡ false) × (when (t.is_word b) s.Word ≡ Some after) → At after → Accepts s.X found (b ∷ f) r
  x_sound (inl (same, to)) h = let w = moved s.Hex to h in inr (w.0, (f, is_byte b 39 f f same refl, w.1))
  x_sound (inr (other, e)) h = let w = word_sound (taken (t.is_word b) s.Word after e) h in inl (w.0, w.1, other)

  hex_sound : ((b == 39) ≡ true) × (s.BlobEnd ≡ after) ⊎ ((b == 39) ≡ false) × (when (t.is_hex b) s.OddHex ≡ Some after) → At after → Accepts s.Hex found (b ∷ f) r
  hex_sound (inl (same, to)) h = let w = moved s.BlobEnd to h in (w.0, (0, ([], is_byte b 39 f [] same w.1, refl, refl)))
  hex_sound (inr (other, e)) h = odd (taken (t.is_hex b) s.OddHex after e)
    where
      twice : (pairs : ℕ) → t.EndsBlob (2 * pairs + 1 + 1) (b ∷ f) → (pairs : ℕ) × t.EndsBlob (2 * pairs) (b ∷ f)
      twice pairs ends = let even : 2 * pairs + 1 + 1 ≡ 2 * (pairs + 1) = omega arith in (pairs + 1, subst (λ n. t.EndsBlob n (b ∷ f)) even ends)

      odd : (t.is_hex b ≡ true) × (s.OddHex ≡ after) → Accepts s.Hex found (b ∷ f) r
      odd c = let w = moved s.OddHex c.1 h in (w.0, twice w.1.0 (ends_more (2 * w.1.0 + 1) b f c.0 w.1.1))

  odd_sound : (t.is_hex b ≡ true) × (s.Hex ≡ after) → At after → Accepts s.OddHex found (b ∷ f) r
  odd_sound c h = let w = moved s.Hex c.1 h in (w.0, (w.1.0, ends_more (2 * w.1.0) b f c.0 w.1.1))

  digits_sound : (t.is_digit b ≡ true) × (s.Digits ≡ after)
      ⊎ (t.is_digit b ≡ false) × (else_when (b == 46) s.Fraction (when (t.is_exponent b) s.Exponent) ≡ Some after) → At after → Accepts s.Digits found (b ∷ f) r
  digits_sound (inl (one, to)) h =
      let w = moved s.Digits to h in (w.0, (b ∷ w.1.0, w.1.1, ap (λ x. b ∷ x) w.1.2, digits_more b w.1.0 one w.1.3, w.1.4))
  digits_sound (inr (other, e)) h = later (either_taken (b == 46) s.Fraction (when (t.is_exponent b) s.Exponent) after e)
    where
      later : ((b == 46) ≡ true) × (s.Fraction ≡ after) ⊎ ((b == 46) ≡ false) × (when (t.is_exponent b) s.Exponent ≡ Some after) → Accepts s.Digits found (b ∷ f) r
      later (inl (same, to)) = let w = moved s.Fraction to h in (w.0, ([], b ∷ f, refl, refl, inl (f, is_byte b 46 f f same refl, w.1)))
      later (inr (other, e)) =
          let c = taken (t.is_exponent b) s.Exponent after e in
          let w = moved s.Exponent c.1 h in (w.0, ([], b ∷ f, refl, refl, inr (exponent_more b f c.0 w.1)))

  point_sound : (t.is_digit b ≡ true) × (s.Fraction ≡ after) → At after → Accepts s.Point found (b ∷ f) r
  point_sound c h =
      let w = moved s.Fraction c.1 h in inr (w.0, (b ∷ w.1.0, w.1.1, ap (λ x. b ∷ x) w.1.2, (b, w.1.0, refl, c.0, w.1.3), w.1.4))

  fraction_sound : (t.is_digit b ≡ true) × (s.Fraction ≡ after) ⊎ (t.is_digit b ≡ false) × (when (t.is_exponent b) s.Exponent ≡ Some after) → At after
      → Accepts s.Fraction found (b ∷ f) r
  fraction_sound (inl (one, to)) h = let w = moved s.Fraction to h in (w.0, point_more b f one w.1)
  fraction_sound (inr (other, e)) h =
      let c = taken (t.is_exponent b) s.Exponent after e in
      let w = moved s.Exponent c.1 h in (w.0, ([], b ∷ f, refl, refl, exponent_more b f c.0 w.1))

  exponent_sound : (t.is_digit b ≡ true) × (s.ExponentDigits ≡ after) ⊎ (t.is_digit b ≡ false) × (when (t.is_plus_or_minus b) s.ExponentSign ≡ Some after) → At after
      → Accepts s.Exponent found (b ∷ f) r
  exponent_sound (inl (one, to)) h = let w = moved s.ExponentDigits to h in (w.0, inl (b, f, refl, one, w.1))
  exponent_sound (inr (other, e)) h =
      let c = taken (t.is_plus_or_minus b) s.ExponentSign after e in
      let w = moved s.ExponentSign c.1 h in (w.0, inr (b, f, refl, c.0, w.1))

  less_sound : ((b == 61 || b == 62) ≡ true) × (s.Sign ≡ after) → At after → Accepts s.Less found (b ∷ f) r
  less_sound c h =
      let w = moved s.Sign c.1 h in
      (w.0, inr (⊎_elim (λ same. inl (is_byte b 61 f [] same w.1)) (λ same. inr (is_byte b 62 f [] same w.1)) (or_true (b == 61) (b == 62) c.0)))

  quoted_sound : ((b == 34) ≡ true) × (s.QuotedEnd ≡ after) ⊎ ((b == 34) ≡ false) × (Some s.Quoted ≡ Some after) → At after → Accepts s.Quoted found (b ∷ f) r
  quoted_sound (inl (same, to)) h = let w = moved s.QuotedEnd to h in (w.0, closes_now 34 b f same w.1, w.2)
  quoted_sound (inr (other, e)) h = let w = moved s.Quoted (some_same s.Quoted after e) h in (w.0, closes_later 34 b f other w.1, w.2)

  text_sound : ((b == 39) ≡ true) × (s.TextEnd ≡ after) ⊎ ((b == 39) ≡ false) × (Some s.Text ≡ Some after) → At after → Accepts s.Text found (b ∷ f) r
  text_sound (inl (same, to)) h = let w = moved s.TextEnd to h in (w.0, closes_now 39 b f same w.1, w.2)
  text_sound (inr (other, e)) h = let w = moved s.Text (some_same s.Text after e) h in (w.0, closes_later 39 b f other w.1, w.2)

  -- ---- from the front of a token

  is_found : (one : TokenKind) → found ≡ one → IsToken one (b ∷ f) r → IsToken found (b ∷ f) r
  is_found one same h = subst (λ found. IsToken found (b ∷ f) r) (sym same) h

  starts_x : (t.is_x b ≡ true) → At s.X → IsToken found (b ∷ f) r
  starts_x is (inl (e, all, none)) =
      is_found k.Word e ((b, f, refl, x_letter b is, all), ap (λ c. c && begins 39 (f ++ r)) is ∙ none)
  starts_x is (inr (e, (after, more, ends))) = is_found k.Blob e (b, after, ap (λ x. b ∷ x) more, is, ends)

  starts_word : (t.is_x b ≡ false) → (t.is_letter b ≡ true) → At s.Word → IsToken found (b ∷ f) r
  starts_word other is (e, all) = is_found k.Word e ((b, f, refl, is, all), ap (λ c. c && begins 39 (f ++ r)) other)

  starts_digits : (t.is_digit b ≡ true) → At s.Digits → IsToken found (b ∷ f) r
  starts_digits is (e, (digits, more, split, all, after)) =
      is_found k.Number e (inl (b ∷ digits, more, ap (λ x. b ∷ x) split, (b, digits, refl, is, all), after))

  starts_quoted : (b == 34) ≡ true → At s.Quoted → IsToken found (b ∷ f) r
  starts_quoted same (e, closes, none) = is_found k.Quoted e ((f, is_byte b 34 f f same refl, closes), none)

  starts_text : (b == 39) ≡ true → At s.Text → IsToken found (b ∷ f) r
  starts_text same (e, closes, none) = is_found k.Text e ((f, is_byte b 39 f f same refl, closes), none)

  starts_point : (b == 46) ≡ true → At s.Point → IsToken found (b ∷ f) r
  starts_point same (inl (e, is)) = is_found k.Sign e (sign_at b 46 f same refl is)
  starts_point same (inr (e, (digits, exponent, split, some, maybe))) =
      is_found k.Number e (inr (digits, exponent, is_byte b 46 f (digits ++ exponent) same split, some, maybe))

  starts_equal : (b == 61) ≡ true → At s.Equal → IsToken found (b ∷ f) r
  starts_equal same (e, inl is) = is_found k.Sign e (sign_at b 61 f same refl is)
  starts_equal same (e, inr is) = is_found k.Sign e (pair_at b 61 61 f same refl is)

  starts_less : (b == 60) ≡ true → At s.Less → IsToken found (b ∷ f) r
  starts_less same (e, inl is) = is_found k.Sign e (sign_at b 60 f same refl is)
  starts_less same (e, inr (inl is)) = is_found k.Sign e (pair_at b 60 61 f same refl is)
  starts_less same (e, inr (inr is)) = is_found k.Sign e (pair_at b 60 62 f same refl is)

  starts_more : (b == 62) ≡ true → At s.More → IsToken found (b ∷ f) r
  starts_more same (e, inl is) = is_found k.Sign e (sign_at b 62 f same refl is)
  starts_more same (e, inr is) = is_found k.Sign e (pair_at b 62 61 f same refl is)

  starts_bang : (b == 33) ≡ true → At s.Bang → IsToken found (b ∷ f) r
  starts_bang same (e, is) = is_found k.Sign e (pair_at b 33 61 f same refl is)

  starts_sign : (t.is_sign b ≡ true) → At s.Sign → IsToken found (b ∷ f) r
  starts_sign one (e, is) =
      is_found k.Sign e (sign_alone b f (ap (λ c. c || (b == 46 || (b == 61 || (b == 60 || b == 62)))) one) is)

  -- one test of the table of first bytes, and then the others
  test : (c : Bool) (to : State) (other : Option State) → ((c ≡ true) → At to → IsToken found (b ∷ f) r)
      → ((c ≡ false) → other ≡ Some after → IsToken found (b ∷ f) r) → else_when c to other ≡ Some after → At after → IsToken found (b ∷ f) r
  test c to other here later e h = ⊎_elim (λ w. here w.0 (moved to w.1 h)) (λ w. later w.0 w.1) (either_taken c to other after e)

  start_sound : start b ≡ Some after → At after → IsToken found (b ∷ f) r
  start_sound e h =
      test (t.is_x b) s.X rest1 starts_x
      (λ no_x e. test (t.is_letter b) s.Word rest2 (starts_word no_x)
      (λ _ e. test (t.is_digit b) s.Digits rest3 starts_digits
      (λ _ e. test (b == 34) s.Quoted rest4 starts_quoted
      (λ _ e. test (b == 39) s.Text rest5 starts_text
      (λ _ e. test (b == 46) s.Point rest6 starts_point
      (λ _ e. test (b == 61) s.Equal rest7 starts_equal
      (λ _ e. test (b == 60) s.Less rest8 starts_less
      (λ _ e. test (b == 62) s.More rest9 starts_more
      (λ _ e. test (b == 33) s.Bang rest10 starts_bang
      (λ _ e. test (t.is_sign b) s.Sign None starts_sign (λ _ e. absurd (none_some after e)) e h) e h) e h) e h) e h) e h) e h) e h) e h) e h) e h
    where
      rest10 : Option State
      rest10 = when (t.is_sign b) s.Sign

      rest9 : Option State
      rest9 = else_when (b == 33) s.Bang rest10

      rest8 : Option State
      rest8 = else_when (b == 62) s.More rest9

      rest7 : Option State
      rest7 = else_when (b == 60) s.Less rest8

      rest6 : Option State
      rest6 = else_when (b == 61) s.Equal rest7

      rest5 : Option State
      rest5 = else_when (b == 46) s.Point rest6

      rest4 : Option State
      rest4 = else_when (b == 39) s.Text rest5

      rest3 : Option State
      rest3 = else_when (b == 34) s.Quoted rest4

      rest2 : Option State
      rest2 = else_when (t.is_digit b) s.Digits rest3

      rest1 : Option State
      rest1 = else_when (t.is_letter b) s.Word rest2

cons_sound : (st : State) (b : ℕ) (after : State) (found : TokenKind) (f r : List ℕ) → step st b ≡ Some after → Accepts after found f r → Accepts st found (b ∷ f) r
cons_sound s.Start b after found f r e h = start_sound b after found f r e h
cons_sound s.Word b after found f r e h = word_sound b after found f r (taken (t.is_word b) s.Word after e) h
cons_sound s.X b after found f r e h = x_sound b after found f r (either_taken (b == 39) s.Hex (when (t.is_word b) s.Word) after e) h
cons_sound s.Quoted b after found f r e h = quoted_sound b after found f r (either_taken (b == 34) s.QuotedEnd (Some s.Quoted) after e) h
cons_sound s.QuotedEnd b after found f r e h =
    let c = taken (b == 34) s.Quoted after e in
    let w = moved b after found f r s.Quoted c.1 h in (w.0, inr (f, is_byte b 34 f f c.0 refl, w.1), w.2)
cons_sound s.Text b after found f r e h = text_sound b after found f r (either_taken (b == 39) s.TextEnd (Some s.Text) after e) h
cons_sound s.TextEnd b after found f r e h =
    let c = taken (b == 39) s.Text after e in
    let w = moved b after found f r s.Text c.1 h in (w.0, inr (f, is_byte b 39 f f c.0 refl, w.1), w.2)
cons_sound s.Hex b after found f r e h = hex_sound b after found f r (either_taken (b == 39) s.BlobEnd (when (t.is_hex b) s.OddHex) after e) h
cons_sound s.OddHex b after found f r e h = odd_sound b after found f r (taken (t.is_hex b) s.Hex after e) h
cons_sound s.BlobEnd b after found f r e h = absurd (none_some after e)
cons_sound s.Digits b after found f r e h =
    digits_sound b after found f r (either_taken (t.is_digit b) s.Digits (else_when (b == 46) s.Fraction (when (t.is_exponent b) s.Exponent)) after e) h
cons_sound s.Point b after found f r e h = point_sound b after found f r (taken (t.is_digit b) s.Fraction after e) h
cons_sound s.Fraction b after found f r e h = fraction_sound b after found f r (either_taken (t.is_digit b) s.Fraction (when (t.is_exponent b) s.Exponent) after e) h
cons_sound s.Exponent b after found f r e h =
    exponent_sound b after found f r (either_taken (t.is_digit b) s.ExponentDigits (when (t.is_plus_or_minus b) s.ExponentSign) after e) h
cons_sound s.ExponentSign b after found f r e h =
    let c = taken (t.is_digit b) s.ExponentDigits after e in
    let w = moved b after found f r s.ExponentDigits c.1 h in (w.0, (b, f, refl, c.0, w.1))
cons_sound s.ExponentDigits b after found f r e h =
    let c = taken (t.is_digit b) s.ExponentDigits after e in
    let w = moved b after found f r s.ExponentDigits c.1 h in (w.0, digits_more b f c.0 w.1)
cons_sound s.Equal b after found f r e h =
    let c = taken (b == 61) s.Sign after e in
    let w = moved b after found f r s.Sign c.1 h in (w.0, inr (is_byte b 61 f [] c.0 w.1))
cons_sound s.Less b after found f r e h = less_sound b after found f r (taken (b == 61 || b == 62) s.Sign after e) h
cons_sound s.More b after found f r e h =
    let c = taken (b == 61) s.Sign after e in
    let w = moved b after found f r s.Sign c.1 h in (w.0, inr (is_byte b 61 f [] c.0 w.1))
cons_sound s.Bang b after found f r e h =
    let c = taken (b == 61) s.Sign after e in
    let w = moved b after found f r s.Sign c.1 h in (w.0, is_byte b 61 f [] c.0 w.1)
cons_sound s.Sign b after found f r e h = absurd (none_some after e)

sound_step : (n : ℕ) (st : State) (b : ℕ) (bs : List ℕ) (found : TokenKind)
    → ((after : State) → token_of after bs n ≡ Some found → (n ≤ length bs) × Accepts after found (take n bs) (drop n bs))
    → (o : Option State) → step st b ≡ o → pick o None (λ after. token_of after bs n) ≡ Some found
    → (suc n ≤ length (b ∷ bs)) × Accepts st found (b ∷ take n bs) (drop n bs)
sound_step n st b bs found again None is e = absurd (none_some found e)
sound_step n st b bs found again (Some after) is e =
    let h = again after e in (omega (arith, h.0), cons_sound st b after found (take n bs) (drop n bs) is h.1)

-- what the states accept is a token
pub sound : (n : ℕ) (st : State) (bytes : List ℕ) (found : TokenKind) → token_of st bytes n ≡ Some found
    → (n ≤ length bytes) × Accepts st found (take n bytes) (drop n bytes)
unfolding token_of
sound zero st [] found e = (omega arith, nil_sound st found [] e)
sound zero st (b ∷ bs) found e = (omega arith, nil_sound st found (b ∷ bs) e)
sound (suc n) st [] found e = absurd (none_some found e)
sound (suc n) st (b ∷ bs) found e = sound_step n st b bs found (λ after. sound n after bs found) (step st b) refl e

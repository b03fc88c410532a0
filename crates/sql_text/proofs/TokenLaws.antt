-- A token is accepted by the states; so what they find is the longest token, and no other is.
use Rattle.std.proofs.Common.{◌≡◌, ℕ, zero, suc, ◌+◌, ◌-◌, ◌*◌, ◌<◌, ◌≤◌, Bool, true, false, ◌||◌, ◌&&◌, if◌then◌else◌, ◌⊎◌, inl, inr, List, [], ◌∷◌, ◌++◌, length, take, drop, Option, Some, None, refl, sym, ◌∙◌, ap, subst, arith, ⊎_elim}
use Rattle.std.specs.Prelude.{◌==◌, nat_le}
use Rattle.std.specs.List.{list_all}
use Rattle.std.proofs.lemmas.List.{take-append-drop, length-take-le}
use Rattle.std.proofs.str.Laws.{order}
use Rattle.std.proofs.lemmas.Bool.{eqb-true, eq-eqb, leb-true, false≢true}
use Rattle.sql_text.specs.declared.state.State.{State}
use Rattle.sql_text.specs.declared.state.State.TheVariants as s
use Rattle.sql_text.specs.declared.token.TokenKind.{TokenKind}
use Rattle.sql_text.specs.declared.token.TokenKind.TheVariants as k
use Rattle.sql_text.specs.Token as t
use Rattle.sql_text.specs.Token.{begins, doubled, IsToken, IsTokenOf, IsLongest}
use Rattle.sql_text.specs.Scan.{start, step, pick, when, else_when, token_of, longest}
use Rattle.sql_text.proofs.Longest.{IsLast, scan_last}
use Rattle.sql_text.proofs.Accepting.{some_same, nil_cons, heads, tails, parts, or_true, Behind, Accepts, nothing, nil_complete, one_sign, sound}

-- ---- one byte less

Goes : State → TokenKind → ℕ → List ℕ → List ℕ → Type 0
Goes st found b f r = (after : State) × (step st b ≡ Some after) × Accepts after found f r

is_same : (b n : ℕ) → b ≡ n → (b == n) ≡ true
is_same b n same = eq-eqb b n same

-- behind an open quote: a quote, or another byte
closes_split : (quote b : ℕ) (f : List ℕ) → t.Closes quote (b ∷ f) → ((b == quote) ≡ true) × Behind quote f ⊎ ((b == quote) ≡ false) × t.Closes quote f
unfolding doubled
closes_split quote b f ([], is) = inl (is_same b quote (heads b quote f [] is), inl (tails b quote f [] is))
closes_split quote b f (a ∷ inner, is) =
    let first : b ≡ a = heads b a f ((if a == quote then quote ∷ doubled quote inner else doubled quote inner) ++ quote ∷ []) is in
    let rest : f ≡ (if a == quote then quote ∷ doubled quote inner else doubled quote inner) ++ quote ∷ [] =
    tails b a f ((if a == quote then quote ∷ doubled quote inner else doubled quote inner) ++ quote ∷ []) is in
    by_quote quote b a f inner first (a == quote) refl rest
  where
    by_quote : (quote b a : ℕ) (f inner : List ℕ) → b ≡ a → (c : Bool) → (a == quote) ≡ c → f ≡ (if c then quote ∷ doubled quote inner else doubled quote inner) ++ quote ∷ []
        → ((b == quote) ≡ true) × Behind quote f ⊎ ((b == quote) ≡ false) × t.Closes quote f
    by_quote quote b a f inner first true is rest = inl (ap (λ x. x == quote) first ∙ is, inr (doubled quote inner ++ quote ∷ [], rest, (inner, refl)))
    by_quote quote b a f inner first false is rest = inr (ap (λ x. x == quote) first ∙ is, (inner, rest))

hex_not_quote : (b : ℕ) → t.is_hex b ≡ true → (b == 39) ≡ false
hex_not_quote b hex = by_cases (b == 39) refl
  where
    by_cases : (c : Bool) → (b == 39) ≡ c → (b == 39) ≡ false
    by_cases false is = is
    by_cases true is =
        let no : false ≡ true = subst (λ n. t.is_hex n ≡ true) (eqb-true b 39 is) hex in absurd (false≢true no)

exponent_step : (st : State) (b : ℕ) → step st 101 ≡ Some s.Exponent → step st 69 ≡ Some s.Exponent → t.is_exponent b ≡ true → step st b ≡ Some s.Exponent
exponent_step st b small large is =
    ⊎_elim (λ same. ap (step st) (eqb-true b 101 same) ∙ small) (λ same. ap (step st) (eqb-true b 69 same) ∙ large) (or_true (b == 101) (b == 69) is)

sign_step : (b : ℕ) → t.is_plus_or_minus b ≡ true → step s.Exponent b ≡ Some s.ExponentSign
sign_step b is =
    ⊎_elim (λ same. ap (step s.Exponent) (eqb-true b 43 same)) (λ same. ap (step s.Exponent) (eqb-true b 45 same)) (or_true (b == 43) (b == 45) is)

module _ (found : TokenKind) (b : ℕ) (f r : List ℕ) where
  word_goes : (found ≡ k.Word) → (list_all t.is_word (b ∷ f) ≡ true) → Goes s.Word found b f r
  unfolding Goes
  word_goes e all = let p = parts (t.is_word b) (list_all t.is_word f) all in (s.Word, ap (λ c. when c s.Word) p.0, (e, p.1))

  x_goes : Accepts s.X found (b ∷ f) r → Goes s.X found b f r
  unfolding Goes
  x_goes (inl (e, all, none)) =
      let p = parts (t.is_word b) (list_all t.is_word f) all in
      (s.Word, ap (λ c. else_when c s.Hex (when (t.is_word b) s.Word)) none ∙ ap (λ c. when c s.Word) p.0, (e, p.1))
  x_goes (inr (e, (after, is, (pairs, ends)))) =
      (s.Hex, ap (step s.X) (heads b 39 f after is), (e, (pairs, subst (t.EndsBlob (2 * pairs)) (sym (tails b 39 f after is)) ends)))

  quoted_goes : Accepts s.Quoted found (b ∷ f) r → Goes s.Quoted found b f r
  unfolding Goes
  quoted_goes (e, closes, none) =
      ⊎_elim (λ w. (s.QuotedEnd, ap (λ c. else_when c s.QuotedEnd (Some s.Quoted)) w.0, (e, w.1, none)))
      (λ w. (s.Quoted, ap (λ c. else_when c s.QuotedEnd (Some s.Quoted)) w.0, (e, w.1, none))) (closes_split 34 b f closes)

  text_goes : Accepts s.Text found (b ∷ f) r → Goes s.Text found b f r
  unfolding Goes
  text_goes (e, closes, none) =
      ⊎_elim (λ w. (s.TextEnd, ap (λ c. else_when c s.TextEnd (Some s.Text)) w.0, (e, w.1, none)))
      (λ w. (s.Text, ap (λ c. else_when c s.TextEnd (Some s.Text)) w.0, (e, w.1, none))) (closes_split 39 b f closes)

  quoted_end_goes : Accepts s.QuotedEnd found (b ∷ f) r → Goes s.QuotedEnd found b f r
  unfolding Goes
  quoted_end_goes (e, inl is, none) = absurd (nil_cons b f (sym is))
  quoted_end_goes (e, inr (after, is, closes), none) =
      (s.Quoted, ap (step s.QuotedEnd) (heads b 34 f after is), (e, subst (t.Closes 34) (sym (tails b 34 f after is)) closes, none))

  text_end_goes : Accepts s.TextEnd found (b ∷ f) r → Goes s.TextEnd found b f r
  unfolding Goes
  text_end_goes (e, inl is, none) = absurd (nil_cons b f (sym is))
  text_end_goes (e, inr (after, is, closes), none) =
      (s.Text, ap (step s.TextEnd) (heads b 39 f after is), (e, subst (t.Closes 39) (sym (tails b 39 f after is)) closes, none))

  hex_goes : Accepts s.Hex found (b ∷ f) r → Goes s.Hex found b f r
  unfolding Goes
  hex_goes (e, (pairs, ([], is, all, long))) = (s.BlobEnd, ap (step s.Hex) (heads b 39 f [] is), (e, tails b 39 f [] is))
  hex_goes (e, (pairs, (d ∷ ds, is, all, long))) =
      let p = parts (t.is_hex d) (list_all t.is_hex ds) all in
      let first : b ≡ d = heads b d f (ds ++ 39 ∷ []) is in
      let hex : t.is_hex b ≡ true = ap t.is_hex first ∙ p.0 in
      let count : length ds ≡ 2 * (pairs - 1) + 1 = omega (arith, long) in (
        s.OddHex,
        ap (λ c. else_when c s.BlobEnd (when (t.is_hex b) s.OddHex)) (hex_not_quote b hex) ∙ ap (λ c. when c s.OddHex) hex,
        (e, (pairs - 1, (ds, tails b d f (ds ++ 39 ∷ []) is, p.1, count))),
      )

  odd_goes : Accepts s.OddHex found (b ∷ f) r → Goes s.OddHex found b f r
  unfolding Goes
  odd_goes (e, (pairs, ([], is, all, long))) = absurd (omega (arith, long))
  odd_goes (e, (pairs, (d ∷ ds, is, all, long))) =
      let p = parts (t.is_hex d) (list_all t.is_hex ds) all in
      let first : b ≡ d = heads b d f (ds ++ 39 ∷ []) is in
      let hex : t.is_hex b ≡ true = ap t.is_hex first ∙ p.0 in
      let count : length ds ≡ 2 * pairs = omega (arith, long) in
      (s.Hex, ap (λ c. when c s.Hex) hex, (e, (pairs, (ds, tails b d f (ds ++ 39 ∷ []) is, p.1, count))))

  maybe_goes : (st : State) → step st 101 ≡ Some s.Exponent → step st 69 ≡ Some s.Exponent → (found ≡ k.Number) → (more : List ℕ) → b ∷ f ≡ more → t.MaybeExponent more
      → Goes st found b f r
  unfolding Goes
  maybe_goes st small large e more is (inl none) = absurd (nil_cons b f (sym (is ∙ none)))
  maybe_goes st small large e more is (inr (x, power, split, one, signed)) =
      let first : b ≡ x = heads b x f power (is ∙ split) in
      (s.Exponent, exponent_step st b small large (ap t.is_exponent first ∙ one), (e, subst t.SignedDigits (sym (tails b x f power (is ∙ split))) signed))

  after_goes : (found ≡ k.Number) → (more : List ℕ) → b ∷ f ≡ more → t.AfterDigits more → Goes s.Digits found b f r
  unfolding Goes
  after_goes e more is (inl (rest, split, point)) =
      (s.Fraction, ap (step s.Digits) (heads b 46 f rest (is ∙ split)), (e, subst t.AfterPoint (sym (tails b 46 f rest (is ∙ split))) point))
  after_goes e more is (inr maybe) = maybe_goes s.Digits refl refl e more is maybe

  digits_goes : Accepts s.Digits found (b ∷ f) r → Goes s.Digits found b f r
  unfolding Goes
  digits_goes (e, ([], more, is, all, after)) = after_goes e more is after
  digits_goes (e, (d ∷ ds, more, is, all, after)) =
      let p = parts (t.is_digit d) (list_all t.is_digit ds) all in
      let first : b ≡ d = heads b d f (ds ++ more) is in (
        s.Digits,
        ap (λ c. else_when c s.Digits (else_when (b == 46) s.Fraction (when (t.is_exponent b) s.Exponent))) (ap t.is_digit first ∙ p.0),
        (e, (ds, more, tails b d f (ds ++ more) is, p.1, after)),
      )

  fraction_goes : Accepts s.Fraction found (b ∷ f) r → Goes s.Fraction found b f r
  unfolding Goes
  fraction_goes (e, ([], exponent, is, all, maybe)) = maybe_goes s.Fraction refl refl e exponent is maybe
  fraction_goes (e, (d ∷ ds, exponent, is, all, maybe)) =
      let p = parts (t.is_digit d) (list_all t.is_digit ds) all in
      let first : b ≡ d = heads b d f (ds ++ exponent) is in (
        s.Fraction,
        ap (λ c. else_when c s.Fraction (when (t.is_exponent b) s.Exponent)) (ap t.is_digit first ∙ p.0),
        (e, (ds, exponent, tails b d f (ds ++ exponent) is, p.1, maybe)),
      )

  point_goes : Accepts s.Point found (b ∷ f) r → Goes s.Point found b f r
  unfolding Goes
  point_goes (inl (e, is)) = absurd (nil_cons b f (sym is))
  point_goes (inr (e, (digits, exponent, is, (d, ds, split, one, all), maybe))) =
      let whole : b ∷ f ≡ d ∷ (ds ++ exponent) = is ∙ ap (λ x. x ++ exponent) split in (
        s.Fraction,
        ap (λ c. when c s.Fraction) (ap t.is_digit (heads b d f (ds ++ exponent) whole) ∙ one),
        (e, (ds, exponent, tails b d f (ds ++ exponent) whole, all, maybe)),
      )

  exponent_goes : Accepts s.Exponent found (b ∷ f) r → Goes s.Exponent found b f r
  unfolding Goes
  exponent_goes (e, inl (d, ds, is, one, all)) = (
    s.ExponentDigits,
    ap (λ c. else_when c s.ExponentDigits (when (t.is_plus_or_minus b) s.ExponentSign)) (ap t.is_digit (heads b d f ds is) ∙ one),
    (e, subst t.AreDigits (sym (tails b d f ds is)) all),
  )
  exponent_goes (e, inr (sign, ds, is, one, some)) =
      (s.ExponentSign, sign_step b (ap t.is_plus_or_minus (heads b sign f ds is) ∙ one), (e, subst t.SomeDigits (sym (tails b sign f ds is)) some))

  exponent_sign_goes : Accepts s.ExponentSign found (b ∷ f) r → Goes s.ExponentSign found b f r
  unfolding Goes
  exponent_sign_goes (e, (d, ds, is, one, all)) =
      (s.ExponentDigits, ap (λ c. when c s.ExponentDigits) (ap t.is_digit (heads b d f ds is) ∙ one), (e, subst t.AreDigits (sym (tails b d f ds is)) all))

  exponent_digits_goes : Accepts s.ExponentDigits found (b ∷ f) r → Goes s.ExponentDigits found b f r
  unfolding Goes
  exponent_digits_goes (e, all) =
      let p = parts (t.is_digit b) (list_all t.is_digit f) all in (s.ExponentDigits, ap (λ c. when c s.ExponentDigits) p.0, (e, p.1))

  -- a sign of two bytes ends at its second
  second_goes : (st : State) (n : ℕ) → step st n ≡ Some s.Sign → (found ≡ k.Sign) → b ∷ f ≡ n ∷ [] → Goes st found b f r
  unfolding Goes
  second_goes st n gives e is = (s.Sign, ap (step st) (heads b n f [] is) ∙ gives, (e, tails b n f [] is))

  equal_goes : Accepts s.Equal found (b ∷ f) r → Goes s.Equal found b f r
  equal_goes (e, inl is) = absurd (nil_cons b f (sym is))
  equal_goes (e, inr is) = second_goes s.Equal 61 refl e is

  less_goes : Accepts s.Less found (b ∷ f) r → Goes s.Less found b f r
  less_goes (e, inl is) = absurd (nil_cons b f (sym is))
  less_goes (e, inr (inl is)) = second_goes s.Less 61 refl e is
  less_goes (e, inr (inr is)) = second_goes s.Less 62 refl e is

  more_goes : Accepts s.More found (b ∷ f) r → Goes s.More found b f r
  more_goes (e, inl is) = absurd (nil_cons b f (sym is))
  more_goes (e, inr is) = second_goes s.More 61 refl e is

-- ---- the first byte of a token

-- what holds of as many numbers as told from one on
unfoldable pub AllFrom : (ℕ → Type 0) → ℕ → ℕ → Type 0
AllFrom P zero low = Unit {0}
AllFrom P (suc count) low = P low × AllFrom P count (low + 1)

in_range : (P : ℕ → Type 0) (count low : ℕ) → AllFrom P count low → (b : ℕ) → low ≤ b → b < low + count → P b
unfolding AllFrom
in_range P zero low all b above below = absurd (omega (arith, above, below))
in_range P (suc count) low all b above below =
    ⊎_elim (λ more. in_range P count (low + 1) all.1 b (omega (arith, more)) (omega (arith, below)))
    (λ least. let same : low ≡ b = omega (arith, least, above) in subst P same all.0) (order low b)

pub within : (P : ℕ → Type 0) (low high : ℕ) → AllFrom P (high + 1 - low) low → (b : ℕ) → t.between low high b ≡ true → P b
within P low high all b is =
    let p = parts (nat_le low b) (nat_le b high) is in
    let above : low ≤ b = leb-true low b p.0 in
    let below : b ≤ high = leb-true b high p.1 in in_range P (high + 1 - low) low all b above (omega (arith, above, below))

abbrev Starts : State → ℕ → Type 0
Starts st b = start b ≡ Some st

digit_starts : (b : ℕ) → t.is_digit b ≡ true → Starts s.Digits b
unfolding AllFrom
digit_starts b is = within (Starts s.Digits) 48 57 (refl, (refl, (refl, (refl, (refl, (refl, (refl, (refl, (refl, (refl, tt)))))))))) b is

starts_at : (st : State) (b n : ℕ) → Starts st n → (b == n) ≡ true → Starts st b
starts_at st b n is same = ap start (eqb-true b n same) ∙ is

sign_starts : (b : ℕ) → t.is_sign b ≡ true → Starts s.Sign b
unfolding AllFrom
sign_starts b is =
    ⊎_elim (λ low. within (Starts s.Sign) 40 45 (refl, (refl, (refl, (refl, (refl, (refl, tt)))))) b low)
    (λ h. ⊎_elim (λ e. starts_at s.Sign b 59 refl e) (λ h. ⊎_elim (λ e. starts_at s.Sign b 47 refl e) (λ e. starts_at s.Sign b 37 refl e) (or_true (b == 47) (b == 37) h))
    (or_true (b == 59) (b == 47 || b == 37) h))
    (or_true (t.between 40 45 b) (b == 59 || (b == 47 || b == 37)) is)

behind_letter : ℕ → Option State
behind_letter b =
    if t.is_digit b then Some s.Digits
    else (if b == 34 then Some s.Quoted
    else (if b == 39 then Some s.Text
    else (if b == 46 then Some s.Point
    else (if b == 61 then Some s.Equal
    else (if b == 60 then Some s.Less
    else (if b == 62 then Some s.More
    else (if b == 33 then Some s.Bang
    else (if t.is_sign b then Some s.Sign else None))))))))

x_starts : (b : ℕ) → t.is_x b ≡ true → Starts s.X b
unfolding behind_letter
x_starts b is = ap (λ c. if c then Some s.X else (if t.is_letter b then Some s.Word else behind_letter b)) is

letter_starts : (b : ℕ) → t.is_x b ≡ false → t.is_letter b ≡ true → Starts s.Word b
unfolding behind_letter
letter_starts b other is =
    ap (λ c. if c then Some s.X else (if t.is_letter b then Some s.Word else behind_letter b)) other
    ∙ ap (λ c. if c then Some s.Word else behind_letter b) is

module _ (b : ℕ) (f r : List ℕ) where
  word_begins : t.IsWord (b ∷ f) → t.opens_blob (b ∷ (f ++ r)) ≡ false → Goes s.Start k.Word b f r
  unfolding Goes
  word_begins (first, others, is, letter, all) none =
      let same : b ≡ first = heads b first f others is in
      let rest : list_all t.is_word f ≡ true = ap (list_all t.is_word) (tails b first f others is) ∙ all in
      by_x (t.is_x b) refl (ap t.is_letter same ∙ letter) rest none
    where
      by_x : (c : Bool) → t.is_x b ≡ c → t.is_letter b ≡ true → list_all t.is_word f ≡ true → (t.is_x b && begins 39 (f ++ r)) ≡ false
          → (after : State) × (start b ≡ Some after) × Accepts after k.Word f r
      by_x true is letter rest none = (s.X, x_starts b is, inl (refl, rest, sym (ap (λ c. c && begins 39 (f ++ r)) is) ∙ none))
      by_x false is letter rest none = (s.Word, letter_starts b is letter, (refl, rest))

  quoted_begins : t.IsQuoted 34 (b ∷ f) → begins 34 r ≡ false → Goes s.Start k.Quoted b f r
  unfolding Goes
  quoted_begins (rest, is, closes) none = (s.Quoted, ap start (heads b 34 f rest is), (refl, subst (t.Closes 34) (sym (tails b 34 f rest is)) closes, none))

  text_begins : t.IsQuoted 39 (b ∷ f) → begins 39 r ≡ false → Goes s.Start k.Text b f r
  unfolding Goes
  text_begins (rest, is, closes) none = (s.Text, ap start (heads b 39 f rest is), (refl, subst (t.Closes 39) (sym (tails b 39 f rest is)) closes, none))

  number_begins : t.IsNumber (b ∷ f) → Goes s.Start k.Number b f r
  unfolding Goes
  number_begins (inl (digits, more, is, (d, ds, split, one, all), after)) =
      let whole : b ∷ f ≡ d ∷ (ds ++ more) = is ∙ ap (λ x. x ++ more) split in
      (s.Digits, digit_starts b (ap t.is_digit (heads b d f (ds ++ more) whole) ∙ one), (refl, (ds, more, tails b d f (ds ++ more) whole, all, after)))
  number_begins (inr (digits, exponent, is, some, maybe)) =
      (s.Point, ap start (heads b 46 f (digits ++ exponent) is), inr (refl, (digits, exponent, tails b 46 f (digits ++ exponent) is, some, maybe)))

  blob_begins : t.IsBlob (b ∷ f) → Goes s.Start k.Blob b f r
  unfolding Goes
  blob_begins (x, rest, is, one, ends) =
      (s.X, x_starts b (ap t.is_x (heads b x f (39 ∷ rest) is) ∙ one), inr (refl, (rest, tails b x f (39 ∷ rest) is, ends)))

  alone_begins : f ≡ [] → one_sign b ≡ true → Goes s.Start k.Sign b f r
  unfolding Goes
  alone_begins is one =
      ⊎_elim (λ e. (s.Sign, sign_starts b e, (refl, is)))
      (λ h. ⊎_elim (λ e. (s.Point, starts_at s.Point b 46 refl e, inl (refl, is)))
      (λ h. ⊎_elim (λ e. (s.Equal, starts_at s.Equal b 61 refl e, (refl, inl is)))
      (λ h. ⊎_elim (λ e. (s.Less, starts_at s.Less b 60 refl e, (refl, inl is))) (λ e. (s.More, starts_at s.More b 62 refl e, (refl, inl is)))
      (or_true (b == 60) (b == 62) h))
      (or_true (b == 61) (b == 60 || b == 62) h))
      (or_true (b == 46) (b == 61 || (b == 60 || b == 62)) h))
      (or_true (t.is_sign b) (b == 46 || (b == 61 || (b == 60 || b == 62))) one)

  module _ (second : ℕ) (is : f ≡ second ∷ []) where
    at_second : (n : ℕ) → (second == n) ≡ true → f ≡ n ∷ []
    at_second n same = is ∙ ap (λ x. x ∷ []) (eqb-true second n same)

    pair_begins : t.is_pair b second ≡ true → Goes s.Start k.Sign b f r
    unfolding Goes
    pair_begins pair =
        ⊎_elim (λ e. let p = parts (b == 61) (second == 61) e in (s.Equal, starts_at s.Equal b 61 refl p.0, (refl, inr (at_second 61 p.1))))
        (λ h. ⊎_elim
        (λ e.
        let p = parts (b == 60) (second == 61 || second == 62) e in
        (s.Less, starts_at s.Less b 60 refl p.0, (refl, inr (⊎_elim (λ e. inl (at_second 61 e)) (λ e. inr (at_second 62 e)) (or_true (second == 61) (second == 62) p.1)))))
        (λ h. ⊎_elim (λ e. let p = parts (b == 62) (second == 61) e in (s.More, starts_at s.More b 62 refl p.0, (refl, inr (at_second 61 p.1))))
        (λ e. let p = parts (b == 33) (second == 61) e in (s.Bang, starts_at s.Bang b 33 refl p.0, (refl, at_second 61 p.1)))
        (or_true (b == 62 && second == 61) (b == 33 && second == 61) h))
        (or_true (b == 60 && (second == 61 || second == 62)) ((b == 62 && second == 61) || (b == 33 && second == 61)) h))
        (or_true (b == 61 && second == 61) ((b == 60 && (second == 61 || second == 62)) || ((b == 62 && second == 61) || (b == 33 && second == 61))) pair)

  sign_begins : t.IsSign (b ∷ f) → Goes s.Start k.Sign b f r
  sign_begins (inl (byte, is, one)) = alone_begins (tails b byte f [] is) (ap one_sign (heads b byte f [] is) ∙ one)
  sign_begins (inr (first, second, is, pair)) =
      pair_begins second (tails b first f (second ∷ []) is) (ap (λ x. t.is_pair x second) (heads b first f (second ∷ []) is) ∙ pair)

  begins_token : (found : TokenKind) → IsToken found (b ∷ f) r → Goes s.Start found b f r
  begins_token k.Word (word, none) = word_begins word none
  begins_token k.Quoted (quoted, none) = quoted_begins quoted none
  begins_token k.Number number = number_begins number
  begins_token k.Text (quoted, none) = text_begins quoted none
  begins_token k.Blob blob = blob_begins blob
  begins_token k.Sign sign = sign_begins sign

cons_complete : (st : State) (found : TokenKind) (b : ℕ) (f r : List ℕ) → Accepts st found (b ∷ f) r → Goes st found b f r
cons_complete s.Start found b f r h = begins_token b f r found h
cons_complete s.Word found b f r (e, all) = word_goes found b f r e all
cons_complete s.X found b f r h = x_goes found b f r h
cons_complete s.Quoted found b f r h = quoted_goes found b f r h
cons_complete s.QuotedEnd found b f r h = quoted_end_goes found b f r h
cons_complete s.Text found b f r h = text_goes found b f r h
cons_complete s.TextEnd found b f r h = text_end_goes found b f r h
cons_complete s.Hex found b f r h = hex_goes found b f r h
cons_complete s.OddHex found b f r h = odd_goes found b f r h
cons_complete s.BlobEnd found b f r (e, is) = absurd (nil_cons b f (sym is))
cons_complete s.Digits found b f r h = digits_goes found b f r h
cons_complete s.Point found b f r h = point_goes found b f r h
cons_complete s.Fraction found b f r h = fraction_goes found b f r h
cons_complete s.Exponent found b f r h = exponent_goes found b f r h
cons_complete s.ExponentSign found b f r h = exponent_sign_goes found b f r h
cons_complete s.ExponentDigits found b f r h = exponent_digits_goes found b f r h
cons_complete s.Equal found b f r h = equal_goes found b f r h
cons_complete s.Less found b f r h = less_goes found b f r h
cons_complete s.More found b f r h = more_goes found b f r h
cons_complete s.Bang found b f r (e, is) = second_goes found b f r s.Bang 61 refl e is
cons_complete s.Sign found b f r (e, is) = absurd (nil_cons b f (sym is))

-- a token is accepted
complete : (f : List ℕ) (st : State) (found : TokenKind) (r : List ℕ) → Accepts st found f r → token_of st (f ++ r) (length f) ≡ Some found
unfolding token_of Goes
complete [] st found [] h = nil_complete st found [] h
complete [] st found (b ∷ bs) h = nil_complete st found (b ∷ bs) h
complete (b ∷ f) st found r h =
    let goes = cons_complete st found b f r h in
    ap (λ o. pick o None (λ after. token_of after (f ++ r) (length f))) goes.1 ∙ complete f goes.0 found r goes.2

-- ---- the longest token

pub accepted : (bytes : List ℕ) (found : TokenKind) (n : ℕ) → IsTokenOf bytes found n → token_of s.Start bytes n ≡ Some found
accepted bytes found n h =
    let whole : take n bytes ++ drop n bytes ≡ bytes = take-append-drop n bytes in
    let size : length (take n bytes) ≡ n = length-take-le n bytes h.0 in
    sym (ap (λ x. token_of s.Start x (length (take n bytes))) whole ∙ ap (λ n. token_of s.Start bytes n) size) ∙ complete (take n bytes) s.Start found (drop n bytes) h.1

pub is_token : (bytes : List ℕ) (found : TokenKind) (n : ℕ) → token_of s.Start bytes n ≡ Some found → IsTokenOf bytes found n
is_token bytes found n e = sound n s.Start bytes found e

some_none : {A : Type 0} (o : Option A) (a : A) → o ≡ Some a → o ≡ None → ⊥
some_none o a e f = cc

last_longest : (bytes : List ℕ) (r : Option (TokenKind × ℕ)) → IsLast bytes r → IsLongest bytes r
last_longest bytes None h = λ found n is. some_none (token_of s.Start bytes n) found (accepted bytes found n is) (h n)
last_longest bytes (Some p) h =
    (is_token bytes p.0 p.1 h.0, λ found n is. at_most found n is (order p.1 n))
  where
    at_most : (found : TokenKind) (n : ℕ) → IsTokenOf bytes found n → (p.1 < n) ⊎ (n ≤ p.1) → n ≤ p.1
    at_most found n is (inl more) = absurd (some_none (token_of s.Start bytes n) found (accepted bytes found n is) (h.1 n more))
    at_most found n is (inr least) = least

pub longest_is : (bytes : List ℕ) → IsLongest bytes (longest bytes)
longest_is bytes = last_longest bytes (longest bytes) (scan_last bytes)

-- no two tokens are the longest
pub one_longest : (bytes : List ℕ) (r s : Option (TokenKind × ℕ)) → IsLongest bytes r → IsLongest bytes s → r ≡ s
one_longest bytes None None h k = refl
one_longest bytes None (Some q) h k = absurd (h q.0 q.1 k.0)
one_longest bytes (Some p) None h k = absurd (k p.0 p.1 h.0)
one_longest bytes (Some p) (Some q) h k =
    let sizes : q.1 ≡ p.1 = omega (arith, h.1 q.0 q.1 k.0, k.1 p.0 p.1 h.0) in
    let here : token_of s.Start bytes p.1 ≡ Some q.0 = subst (λ n. token_of s.Start bytes n ≡ Some q.0) sizes (accepted bytes q.0 q.1 k.0) in
    let kinds : p.0 ≡ q.0 = some_same p.0 q.0 (sym (accepted bytes p.0 p.1 h.0) ∙ here) in λ i. Some (kinds i, sym sizes i)

-- a token has some bytes
pub token_some : (bytes : List ℕ) (found : TokenKind) (n : ℕ) → IsTokenOf bytes found n → 0 < n
token_some bytes found zero h = absurd (nothing found bytes h.1)
token_some bytes found (suc n) h = omega arith

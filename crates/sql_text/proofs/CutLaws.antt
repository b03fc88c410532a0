-- The tokens of a text, as a function, are what it is cut into, and it is cut in one way.
use Rattle.std.proofs.Common.{◌≡◌, ◌||◌, ◌⊎◌, inl, inr, ℕ, zero, suc, ◌+◌, ◌-◌, ◌<◌, ◌≤◌, Bool, true, false, if◌then◌else◌, List, [], ◌∷◌, length, drop, Option, Some, None, refl, sym, ◌∙◌, ap, subst, arith, ⊎_elim}
use Rattle.std.specs.Prelude.{All, ◌==◌, slice_index}
use Rattle.std.proofs.lemmas.List.{length-drop, append-nil}
use Rattle.std.proofs.lemmas.Bool.{eqb-true}
use Rattle.std.proofs.lemmas.List.Elements.{All-nil, All-cons}
use Rattle.std.proofs.str.Laws.{order}
use Rattle.sql_text.specs.declared.token.Token.{Token}
use Rattle.sql_text.specs.declared.token.TokenKind.{TokenKind}
use Rattle.sql_text.specs.declared.state.State.TheVariants as state
use Rattle.sql_text.specs.Token.{IsLongest}
use Rattle.sql_text.specs.Scan.{start, pick, ended_before, token_of, longest}
use Rattle.sql_text.specs.Cut.{is_space, AreSpaces, IsCut, IsBadAt, IsWithin, Tokens, token_at, with_token, tokens_from, tokens_of, bad_of}
use Rattle.sql_text.proofs.Cutting.{at_place, here, before, space_here, token_here, bad_here, end_here}
use Rattle.sql_text.proofs.TokenLaws.{accepted, longest_is, one_longest, token_some}

no_spaces : (text : List ℕ) (at : ℕ) → AreSpaces text at at
no_spaces text at = (omega arith, λ i low high. absurd (omega (arith, low, high)))

one_space : (text : List ℕ) (at to : ℕ) → is_space (slice_index text at) ≡ true → AreSpaces text (at + 1) to → AreSpaces text at to
one_space text at to is h = (
  omega (arith, h.0),
  λ i low high. ⊎_elim (λ past. h.1 i (omega (arith, past)) high)
      (λ first. let same : i ≡ at = omega (arith, first, low) in subst (λ i. is_space (slice_index text i) ≡ true) (sym same) is) (order at i),
)

space_more : (text : List ℕ) (at : ℕ) → is_space (slice_index text at) ≡ true → (ts : List Token) (to : ℕ) → IsCut text (at + 1) ts to → IsCut text at ts to
space_more text at is [] to h = one_space text at to is h
space_more text at is (t ∷ ts) to h = (one_space text at t.start is h.0, h.1, h.2, h.3)

token_more : (text : List ℕ) (at : ℕ) (kind : TokenKind) (size : ℕ) → 0 < size → IsLongest (drop at text) (Some (kind, size)) → (ts : List Token) (to : ℕ)
    → IsCut text (at + size) ts to → IsCut text at (token_at kind at size ∷ ts) to
token_more text at kind size some longest ts to h =
    let back : size ≡ at + size - at = omega arith in
    (no_spaces text at, omega (arith, some), subst (λ n. IsLongest (drop at text) (Some (kind, n))) back longest, h)

-- ---- what the function gives is a cut

-- from this place on the text is these tokens, up to its end or to a byte that begins none
abbrev pub Shows : List ℕ → ℕ → List Token → Option ℕ → Type 0
Shows text from ts None = IsCut text from ts (length text)
Shows text from ts (Some at) = IsBadAt text from ts at

shows_space : (text : List ℕ) (at : ℕ) → is_space (slice_index text at) ≡ true → (ts : List Token) (bad : Option ℕ) → Shows text (at + 1) ts bad → Shows text at ts bad
shows_space text at is ts None h = space_more text at is ts (length text) h
shows_space text at is ts (Some to) h = (space_more text at is ts to h.0, h.1, h.2, h.3)

shows_token : (text : List ℕ) (at : ℕ) (kind : TokenKind) (size : ℕ) → 0 < size → IsLongest (drop at text) (Some (kind, size)) → (ts : List Token) (bad : Option ℕ)
    → Shows text (at + size) ts bad → Shows text at (token_at kind at size ∷ ts) bad
shows_token text at kind size some longest ts None h = token_more text at kind size some longest ts (length text) h
shows_token text at kind size some longest ts (Some to) h = (token_more text at kind size some longest ts to h.0, h.1, h.2, h.3)

abbrev ShowsAll : List ℕ → ℕ → Tokens → Type 0
ShowsAll text from r = Shows text from r.found r.bad

module _ (text : List ℕ) (at : ℕ) (within : at < length text) (bytes : List ℕ)
    (again : (taken : ℕ) → taken ≤ length bytes → ShowsAll text (at + 1 + taken) (tokens_from (at + 1) taken bytes)) where
  by_longest : is_space (slice_index text at) ≡ false → (found : Option (TokenKind × ℕ)) → IsLongest (drop at text) found → length (drop at text) ≡ length bytes + 1
      → ShowsAll text at (with_token at found (λ size. tokens_from (at + 1) (size - 1) bytes))
  by_longest other None longest long = (no_spaces text at, within, other, longest)
  by_longest other (Some p) longest long =
      let some : 0 < p.1 = token_some (drop at text) p.0 p.1 longest.0 in
      let fits : p.1 ≤ length bytes + 1 = omega (arith, long, longest.0.0) in
      let place : at + 1 + (p.1 - 1) ≡ at + p.1 = omega (arith, some) in
      let rest = tokens_from (at + 1) (p.1 - 1) bytes in
      shows_token text at p.0 p.1 some longest rest.found rest.bad (subst (λ n. ShowsAll text n rest) place (again (p.1 - 1) (omega (arith, some, fits))))

  by_space : (b : Bool) → is_space (slice_index text at) ≡ b → (found : Option (TokenKind × ℕ)) → IsLongest (drop at text) found → length (drop at text) ≡ length bytes + 1
      → ShowsAll text at (if b then tokens_from (at + 1) 0 bytes else with_token at found (λ size. tokens_from (at + 1) (size - 1) bytes))
  by_space true is found longest long =
      let rest = tokens_from (at + 1) 0 bytes in
      let place : at + 1 + 0 ≡ at + 1 = omega arith in
      shows_space text at is rest.found rest.bad (subst (λ n. ShowsAll text n rest) place (again 0 (omega arith)))
  by_space false is found longest long = by_longest is found longest long

begins : (text : List ℕ) (at byte : ℕ) (bytes : List ℕ) → byte ∷ bytes ≡ drop at text → at < length text
begins text at byte bytes is = omega (arith, ap length is, length-drop at text)

heads : (a b : ℕ) (xs ys : List ℕ) → a ∷ xs ≡ b ∷ ys → a ≡ b
heads a b xs ys e = cc

tails : (a b : ℕ) (xs ys : List ℕ) → a ∷ xs ≡ b ∷ ys → xs ≡ ys
tails a b xs ys e = cc

shown : (bytes : List ℕ) (at taken : ℕ) (text : List ℕ) → bytes ≡ drop at text → at ≤ length text → taken ≤ length bytes
    → ShowsAll text (at + taken) (tokens_from at taken bytes)
unfolding tokens_from
shown [] at zero text is within short =
    let end : at + 0 ≡ length text = omega (arith, ap length is, length-drop at text, within) in
    subst (AreSpaces text (at + 0)) end (no_spaces text (at + 0))
shown [] at (suc taken) text is within short = absurd (omega (arith, short))
shown (byte ∷ bytes) at (suc taken) text is within short =
    let inside : at < length text = begins text at byte bytes is in
    let place : at + 1 + taken ≡ at + suc taken = omega arith in
    let rest : bytes ≡ drop (at + 1) text = tails byte (slice_index text at) bytes (drop (at + 1) text) (is ∙ at_place text at inside) in
    subst (λ n. ShowsAll text n (tokens_from (at + 1) taken bytes)) place (shown bytes (at + 1) taken text rest (omega (arith, inside)) (omega (arith, short)))
shown (byte ∷ bytes) at zero text is within short =
    let inside : at < length text = begins text at byte bytes is in
    let split = is ∙ at_place text at inside in
    let first : byte ≡ slice_index text at = heads byte (slice_index text at) bytes (drop (at + 1) text) split in
    let rest : bytes ≡ drop (at + 1) text = tails byte (slice_index text at) bytes (drop (at + 1) text) split in
    let place : at ≡ at + 0 = omega arith in
    subst (λ n. ShowsAll text n (tokens_from at 0 (byte ∷ bytes))) place
    (by_space text at inside bytes (λ taken short. shown bytes (at + 1) taken text rest (omega (arith, inside)) short) (is_space byte)
    (sym (ap is_space first)) (longest (byte ∷ bytes)) (subst (λ w. IsLongest w (longest (byte ∷ bytes))) is (longest_is (byte ∷ bytes)))
    (omega (arith, ap length is)))

pub shows : (text : List ℕ) → Shows text 0 (tokens_of text) (bad_of text)
shows text = shown text 0 0 text refl (omega arith) (omega arith)

-- ---- each token lies inside the text

longest_inside : (text : List ℕ) (t : Token) → t.start < t.end → IsLongest (drop t.start text) (Some (t.kind, t.end - t.start)) → t.end ≤ length text
longest_inside text t some long = omega (arith, long.0.0, length-drop t.start text, some)

cut_within : (ts : List Token) (text : List ℕ) (from to : ℕ) → IsCut text from ts to → All (IsWithin text) ts
cut_within [] text from to h = All-nil (IsWithin text)
cut_within (t ∷ ts) text from to (spaces, some, long, rest) = All-cons (IsWithin text) t ts (some, longest_inside text t some long) (cut_within ts text t.end to rest)

shows_within : (text : List ℕ) (ts : List Token) (bad : Option ℕ) → Shows text 0 ts bad → All (IsWithin text) ts
shows_within text ts None h = cut_within ts text 0 (length text) h
shows_within text ts (Some at) h = cut_within ts text 0 at h.0

pub all_within : (text : List ℕ) → All (IsWithin text) (tokens_of text)
all_within text = shows_within text (tokens_of text) (bad_of text) (shows text)

-- ---- a text is cut in one way

some_none : {A : Type 0} (o : Option A) (a : A) → o ≡ Some a → o ≡ None → ⊥
some_none o a e f = cc

found_is : (bytes : List ℕ) (r : Option (TokenKind × ℕ)) → IsLongest bytes r → longest bytes ≡ r
found_is bytes r h = one_longest bytes (longest bytes) r (longest_is bytes) h

or_true : (a b : Bool) → (a || b) ≡ true → (a ≡ true) ⊎ (b ≡ true)
or_true true b h = inl refl
or_true false b h = inr h

at_byte : (byte n : ℕ) → (byte == n) ≡ true → start n ≡ None → start byte ≡ None
at_byte byte n same e = ap start (eqb-true byte n same) ∙ e

space_starts_none : (byte : ℕ) → is_space byte ≡ true → start byte ≡ None
space_starts_none byte is =
    ⊎_elim (λ e. at_byte byte 32 e refl)
    (λ h. ⊎_elim (λ e. at_byte byte 9 e refl)
    (λ h. ⊎_elim (λ e. at_byte byte 10 e refl)
    (λ h. ⊎_elim (λ e. at_byte byte 12 e refl) (λ e. at_byte byte 13 e refl) (or_true (byte == 12) (byte == 13) h))
    (or_true (byte == 10) (byte == 12 || byte == 13) h))
    (or_true (byte == 9) (byte == 10 || (byte == 12 || byte == 13)) h))
    (or_true (byte == 32) (byte == 9 || (byte == 10 || (byte == 12 || byte == 13))) is)

no_end : (byte : ℕ) (bytes : List ℕ) → is_space byte ≡ true → (n : ℕ) → token_of state.Start (byte ∷ bytes) n ≡ None
unfolding token_of
no_end byte bytes is zero = ap (λ o. ended_before state.Start o) (space_starts_none byte is)
no_end byte bytes is (suc n) = ap (λ o. pick o None (λ next. token_of next bytes n)) (space_starts_none byte is)

-- no token begins with a space
space_none : (byte : ℕ) (bytes : List ℕ) → is_space byte ≡ true → IsLongest (byte ∷ bytes) None
space_none byte bytes is kind n token = some_none (token_of state.Start (byte ∷ bytes) n) kind (accepted (byte ∷ bytes) kind n token) (no_end byte bytes is n)

no_space : (text : List ℕ) (at : ℕ) (p : TokenKind × ℕ) → at < length text → IsLongest (drop at text) (Some p) → is_space (slice_index text at) ≡ false
no_space text at p within longest = by_cases (is_space (slice_index text at)) refl
  where
    by_cases : (b : Bool) → is_space (slice_index text at) ≡ b → is_space (slice_index text at) ≡ false
    by_cases false is = is
    by_cases true is =
        let none : IsLongest (drop at text) None =
        subst (λ w. IsLongest w None) (sym (at_place text at within)) (space_none (slice_index text at) (drop (at + 1) text) is) in
        absurd (none p.0 p.1 longest.0)

spaces_here : (n : ℕ) (text : List ℕ) (from to : ℕ) → to ≡ from + n → to ≤ length text → AreSpaces text from to → here text from ≡ here text to
spaces_here zero text from to is within spaces = let same : from ≡ to = omega (arith, is) in ap (here text) same
spaces_here (suc n) text from to is within spaces =
    space_here text from (omega (arith, is, within)) (spaces.1 from (omega arith) (omega (arith, is)))
    ∙ spaces_here n text (from + 1) to (omega (arith, is)) within (omega (arith, is), λ i low high. spaces.1 i (omega (arith, low)) high)

all_spaces_here : (text : List ℕ) (from to : ℕ) → to ≤ length text → AreSpaces text from to → here text from ≡ here text to
all_spaces_here text from to within spaces = spaces_here (to - from) text from to (omega (arith, spaces.0)) within spaces

same_token : (t : Token) → t.start < t.end → token_at t.kind t.start (t.end - t.start) ≡ t
same_token t some = let same : t.start + (t.end - t.start) ≡ t.end = omega (arith, some) in λ i. record { kind = t.kind; start = t.start; end = same i }

-- whatever the text is cut into from a place on, the function gives
pub cut_here : (ts : List Token) (text : List ℕ) (from to : ℕ) → to ≤ length text → IsCut text from ts to → here text from ≡ before ts (here text to)
cut_here [] text from to within spaces = all_spaces_here text from to within spaces
cut_here (t ∷ ts) text from to within (spaces, some, longest, rest) =
    let size : ℕ = t.end - t.start in
    let fits : t.start + size ≤ length text = omega (arith, longest.0.0, length-drop t.start text, some) in
    let inside : t.start < length text = omega (arith, some, fits) in
    let place : t.start + size ≡ t.end = omega (arith, some) in
    all_spaces_here text from t.start (omega (arith, inside)) spaces
    ∙ (token_here text t.start inside t.kind size (no_space text t.start (t.kind, size) inside longest) (found_is (drop t.start text) (Some (t.kind, size)) longest) (omega (arith, some)) fits
    ∙ (ap (λ u. before (u ∷ []) (here text (t.start + size))) (same_token t some)
    ∙ (ap (λ n. before (t ∷ []) (here text n)) place ∙ ap (before (t ∷ [])) (cut_here ts text t.end to within rest))))

abbrev tokens_to : List Token → Option ℕ → Tokens
tokens_to ts bad = record { found = ts; bad = bad }

-- a text that is cut into these tokens is cut into no others, and has no byte that begins none
pub one_cut : (text : List ℕ) (ts : List Token) → IsCut text 0 ts (length text) → tokens_from 0 0 text ≡ tokens_to ts None
one_cut text ts cut =
    cut_here ts text 0 (length text) (omega arith) cut ∙ (ap (before ts) (end_here text) ∙ ap (λ all. tokens_to all None) (append-nil ts))

-- there is one first byte that begins no token, and the tokens before it are these
pub one_bad : (text : List ℕ) (ts : List Token) (at : ℕ) → IsBadAt text 0 ts at → tokens_from 0 0 text ≡ tokens_to ts (Some at)
one_bad text ts at (cut, within, other, none) =
    cut_here ts text 0 at (omega (arith, within)) cut
    ∙ (ap (before ts) (bad_here text at within other (found_is (drop at text) None none)) ∙ ap (λ all. tokens_to all (Some at)) (append-nil ts))

-- How the words behind the command are read, one step at a time.
use Rattle.std.proofs.Common.{◌≡◌, ℕ, true, false, List, [], ◌∷◌, length, Option, Some, None, option_and_then, codes, bytes_eq, refl, sym, ◌∙◌, ap, subst, arith}
use Rattle.std.proofs.lemmas.Slice.Eq.{bytes_eq-Decides}
use Rattle.words.specs.Words.{GivenWords, with_limit, with_size, with_word, given_as_paths, given_by}

-- a step of which nothing follows
pub and_then-some : {A : Type 0} (o : Option A) → option_and_then (λ x. Some x) o ≡ o
and_then-some None = refl
and_then-some (Some x) = refl

-- behind `--` all words are paths
pub dashes_on : (all : List (List ℕ)) (word : List ℕ) (behind : List (List ℕ)) (given : GivenWords) → all ≡ word ∷ behind → bytes_eq word (codes "--") ≡ true
    → given_as_paths behind given ≡ given_by all given
unfolding given_by given_as_paths
dashes_on all word behind given at is = subst (λ words. given_as_paths behind given ≡ given_by words given) (sym at) (after word behind is)
  where
    after : (word : List ℕ) (behind : List (List ℕ)) → bytes_eq word (codes "--") ≡ true → given_as_paths behind given ≡ given_by (word ∷ behind) given
    after word [] is = rw is refl
    after word (next ∷ words) is = rw is refl

-- no word is left
pub none_left : (words : List (List ℕ)) (given : GivenWords) → length words ≡ 0 → Some given ≡ given_by words given
unfolding given_by
none_left [] given none = refl
none_left (word ∷ words) given none = absurd (omega arith)

-- an option with its value in the next word
pub limit_on : (word : List ℕ) (behind : List (List ℕ)) (value : List ℕ) (left : List (List ℕ)) (given : GivenWords) (next : Option GivenWords) → bytes_eq word (codes "--limit") ≡ true
    → behind ≡ value ∷ left → next ≡ with_limit value given → option_and_then (given_by left) next ≡ given_by (word ∷ behind) given
unfolding given_by
limit_on word behind value left given next is at so =
    let name : word ≡ codes "--limit" = (bytes_eq-Decides word (codes "--limit")).0 is in
    let step : option_and_then (given_by left) (with_limit value given) ≡ given_by (codes "--limit" ∷ value ∷ left) given = refl in
    ap (option_and_then (given_by left)) so
    ∙ subst (λ all. option_and_then (given_by left) (with_limit value given) ≡ given_by (word ∷ all) given) (sym at)
    (subst (λ first. option_and_then (given_by left) (with_limit value given) ≡ given_by (first ∷ value ∷ left) given) (sym name) step)

pub size_on : (word : List ℕ) (behind : List (List ℕ)) (value : List ℕ) (left : List (List ℕ)) (given : GivenWords) (next : Option GivenWords) → bytes_eq word (codes "--page-size") ≡ true
    → behind ≡ value ∷ left → next ≡ with_size value given → option_and_then (given_by left) next ≡ given_by (word ∷ behind) given
unfolding given_by
size_on word behind value left given next is at so =
    let name : word ≡ codes "--page-size" = (bytes_eq-Decides word (codes "--page-size")).0 is in
    let step : option_and_then (given_by left) (with_size value given) ≡ given_by (codes "--page-size" ∷ value ∷ left) given = refl in
    ap (option_and_then (given_by left)) so
    ∙ subst (λ all. option_and_then (given_by left) (with_size value given) ≡ given_by (word ∷ all) given) (sym at)
    (subst (λ first. option_and_then (given_by left) (with_size value given) ≡ given_by (first ∷ value ∷ left) given) (sym name) step)

-- an option that is the last word has no value
pub limit_last : (word : List ℕ) (behind : List (List ℕ)) (given : GivenWords) → bytes_eq word (codes "--limit") ≡ true → length behind ≡ 0 → None ≡ given_by (word ∷ behind) given
unfolding given_by with_word
limit_last word [] given is last =
    let name : word ≡ codes "--limit" = (bytes_eq-Decides word (codes "--limit")).0 is in
    rw name refl
limit_last word (next ∷ words) given is last = absurd (omega arith)

pub size_last : (word : List ℕ) (behind : List (List ℕ)) (given : GivenWords) → bytes_eq word (codes "--page-size") ≡ true → length behind ≡ 0 → None ≡ given_by (word ∷ behind) given
unfolding given_by with_word
size_last word [] given is last =
    let name : word ≡ codes "--page-size" = (bytes_eq-Decides word (codes "--page-size")).0 is in
    rw name refl
size_last word (next ∷ words) given is last = absurd (omega arith)

-- a word by itself
pub word_on : (word : List ℕ) (behind : List (List ℕ)) (given : GivenWords) (next : Option GivenWords) → bytes_eq word (codes "--") ≡ false → bytes_eq word (codes "--limit") ≡ false
    → bytes_eq word (codes "--page-size") ≡ false → next ≡ with_word word given → option_and_then (given_by behind) next ≡ given_by (word ∷ behind) given
unfolding given_by
word_on word [] given next dashes limit size so = rw (dashes, so) (and_then-some (with_word word given))
word_on word (other ∷ words) given next dashes limit size so = rw (dashes, limit, size, so) refl

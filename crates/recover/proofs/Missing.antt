-- The first page that isn't whole.
use Rattle.std.proofs.Common.{◌≡◌, ◌≤◌, ◌<◌, ◌==◌, ◌+◌, ◌-◌, ℕ, zero, suc, Bool, true, false, if◌then◌else◌, List, length, Option, Some, None, refl, sym, ◌∙◌, ap, arith}
use Rattle.std.proofs.lemmas.Bool.{true≢false}
use Rattle.std.proofs.lemmas.Bool.Decides.{Decides-eqb}
use Rattle.std.specs.Prelude.{slice_index_or}
use Rattle.wal_frames.specs.declared.found.Accepted.{Accepted}
use Rattle.recover.specs.declared.place.Place.{Place}
use Rattle.recover.specs.declared.place.Place.TheVariants.{InMain}
use Rattle.recover.specs.Seeing.{first_missing}
use Rattle.recover.specs.Looking.{ArePlaces, is_whole_at, is_whole_in, is_whole_by, place_in}

pub goes_on : (held : ℕ → Bool) (number count rest : ℕ) → count ≡ suc rest → held number ≡ true → first_missing held (number + 1) rest ≡ first_missing held number count
goes_on held number count rest is whole = rw (is, whole) refl

pub same_held : (held other : ℕ → Bool) (number count : ℕ) → ((n : ℕ) → number ≤ n → n < number + count → held n ≡ other n) → first_missing held number count ≡ first_missing other number count
same_held held other number zero same = refl
same_held held other number (suc count) same =
    let first = same number (omega arith) (omega arith) in
    let rest = same_held held other (number + 1) count (λ n from less. same n (omega arith) (omega arith)) in
    rw (first, rest) refl

pub missing_more : (held : ℕ → Bool) (number few count page : ℕ) → few ≤ count → first_missing held number few ≡ Some page → first_missing held number count ≡ Some page
missing_more held number zero count page fits is = cc
missing_more held number (suc few) zero page fits is = absurd (omega arith)
missing_more held number (suc few) (suc count) page fits is = by (held number) (λ rest. missing_more held (number + 1) few count page (omega arith) rest) is
  where
    by : (whole : Bool) → (first_missing held (number + 1) few ≡ Some page → first_missing held (number + 1) count ≡ Some page)
        → (if whole then first_missing held (number + 1) few else Some number) ≡ Some page → (if whole then first_missing held (number + 1) count else Some number) ≡ Some page
    by true rest is = rest is
    by false rest is = is

-- what the code tests is what the places say
pub whole_in : (places : List Place) (size main index : ℕ) → is_whole_at size main (index + 1) (slice_index_or places index InMain) ≡ is_whole_in places size main (index + 1)
whole_in places size main index = ap (λ (k : ℕ). is_whole_at size main (index + 1) (slice_index_or places k InMain)) (omega arith)

-- where each place is the one that the logs give, the same page is missing
pub missing_by : (one two : Accepted) (places : List Place) (size main : ℕ) → ArePlaces one two places
    → first_missing (is_whole_in places size main) 1 (length places) ≡ first_missing (is_whole_by one two size main) 1 (length places)
missing_by one two places size main are =
    same_held (is_whole_in places size main) (is_whole_by one two size main) 1 (length places)
    (λ n from less.
    ap (λ (place : Place). is_whole_at size main n place) (are (n - 1) InMain (omega arith) ∙ ap (λ (k : ℕ). place_in one two k) (omega arith)))

pub found : (one two : Accepted) (laid other : List Place) (size main some : ℕ) (result : Option ℕ) → ArePlaces one two laid → other ≡ laid → length laid ≡ some
    → result ≡ first_missing (is_whole_in other size main) 1 (length other) → result ≡ first_missing (is_whole_by one two size main) 1 some
found one two laid other size main some result are same long is =
    is ∙ ap (λ (places : List Place). first_missing (is_whole_in places size main) 1 (length places)) same
    ∙ missing_by one two laid size main are ∙ ap (λ (n : ℕ). first_missing (is_whole_by one two size main) 1 n) long

-- where no page is missing each is there
later_number : (n number : ℕ) → number ≤ n → (n ≡ number → ⊥) → number + 1 ≤ n
later_number n number first apart = omega arith

here_or_later : (held : ℕ → Bool) (n number : ℕ) → held number ≡ true → number ≤ n → (number + 1 ≤ n → held n ≡ true) → held n ≡ true
here_or_later held n number whole first later = by (n == number) (Decides-eqb n number)
  where
    by : (same : Bool) → (same ≡ true → n ≡ number) × (n ≡ number → same ≡ true) → held n ≡ true
    by true decides = ap held (decides.0 refl) ∙ whole
    by false decides = later (later_number n number first (λ is. true≢false (sym (decides.1 is))))

pub none_missing : (held : ℕ → Bool) (number count : ℕ) → first_missing held number count ≡ None → (n : ℕ) → number ≤ n → n < number + count → held n ≡ true
none_missing held number zero none n first less = absurd (omega arith)
none_missing held number (suc count) none n first less = by (held number) refl (λ rest past. none_missing held (number + 1) count rest n past (omega arith)) none
  where
    by : (whole : Bool) → held number ≡ whole → (first_missing held (number + 1) count ≡ None → number + 1 ≤ n → held n ≡ true) → (if whole then first_missing held (number + 1) count else Some number) ≡ None
        → held n ≡ true
    by true whole later none = here_or_later held n number whole first (λ past. later none past)
    by false whole later none = cc

-- Within one session the ordinals of its commits rise, whatever page lines are run.
use Rattle.std.proofs.Common.{◌≡◌, ℕ, ◌+◌, ◌-◌, ◌^◌, ◌<◌, ◌≤◌, List, [], ◌∷◌, ◌++◌, length, Some, sym, subst, ap, ◌∙◌, inl, inr, arith, length-append, eq-eqb}
use Rattle.std.specs.Prelude.{◌⊎◌, slice_get}
use Rattle.std.proofs.lemmas.Bool.{cases_eq, cases_lt, ne_eqb}
use Rattle.std.proofs.Math.Nat.{min-eq_left, min-eq_right, le-min, min-le_right}
use Rattle.std.proofs.lemmas.Option.{slice_get_within}
use Rattle.engine_spec.specs.declared.commits.Commit.{Commit}
use Rattle.disk_face.specs.Faults.{one_more}
use Rattle.page_lines.specs.World.{SessionState, Out, Open, Refused, PageTransaction, changed_at}
use Rattle.page_lines.proofs.OneMore.{front_of, last_of}

-- while a session is in a transaction, the ordinal of each commit that it made is less than the count of those that it has begun,
-- as long as that count isn't at its last value
abbrev pub ArePast : List Commit → ℕ → ℕ → SessionState → Type 0
ArePast history session begun Out = Unit {0}
ArePast history session begun (Open transaction) = begun < 2 ^ 64 - 1 → (k : ℕ) (one : Commit) → slice_get history k ≡ Some one
    → one.entry.session ≡ session → one.entry.ordinal < begun
ArePast history session begun (Refused transaction) = begun < 2 ^ 64 - 1 → (k : ℕ) (one : Commit) → slice_get history k ≡ Some one
    → one.entry.session ≡ session → one.entry.ordinal < begun

-- Ordinals count the transactions of a session: they rise from commit to commit, and none is above the count of those begun.
pub record AreOrdinals (history : List Commit) (begun : ℕ → ℕ) (sessions : ℕ → SessionState) : Type 0 where
  pub rise : (earlier later : ℕ) (one other : Commit) → earlier < later → slice_get history earlier ≡ Some one
      → slice_get history later ≡ Some other → one.entry.session ≡ other.entry.session → begun one.entry.session < 2 ^ 64 - 1
      → one.entry.ordinal < other.entry.ordinal
  pub reached : (k : ℕ) (one : Commit) → slice_get history k ≡ Some one → one.entry.ordinal ≤ begun one.entry.session
  pub past : (session : ℕ) → ArePast history session (begun session) (sessions session)
  pub counted : (session : ℕ) → begun session ≤ 2 ^ 64 - 1

-- a session's state changed
pub ordinals_moved : (history : List Commit) (begun : ℕ → ℕ) (sessions : ℕ → SessionState) (session : ℕ) (state : SessionState)
    → ArePast history session (begun session) state → AreOrdinals history begun sessions
    → AreOrdinals history begun (changed_at sessions session state)
ordinals_moved history begun sessions session state here all = record {
  rise = all.rise;
  reached = all.reached;
  past = λ number. elim (cases_eq number session) [
    | inl same ↦
        rw (eq-eqb number session same) (subst (λ (n : ℕ). ArePast history n (begun n) state) (sym same) here)
    | inr apart ↦ rw (ne_eqb number session apart) (all.past number)
  ];
  counted = all.counted;
}

-- one more is more, below the last value
one_more-above : (count : ℕ) → one_more count < 2 ^ 64 - 1 → count < one_more count
one_more-above count below = elim (cases_lt count (2 ^ 64 - 1)) [
  | inl low ↦ (let more : one_more count ≡ count + 1 = min-eq_left (omega arith) in omega (arith, more))
  | inr high ↦ (let last : one_more count ≡ 2 ^ 64 - 1 = min-eq_right (omega arith) in absurd (omega (arith, last, below)))
]

-- and never less, up to it
one_more-least : (count : ℕ) → count ≤ 2 ^ 64 - 1 → count ≤ one_more count
one_more-least count within = le-min (omega arith) within

-- a count that began one more is no less
begun-least : (begun : ℕ → ℕ) (session number : ℕ) → begun session ≤ 2 ^ 64 - 1
    → begun number ≤ changed_at begun session (one_more (begun session)) number
begun-least begun session number within = elim (cases_eq number session) [
  | inl same ↦ rw (eq-eqb number session same)
      (subst (λ (n : ℕ). begun n ≤ one_more (begun session)) (sym same) (one_more-least (begun session) within))
  | inr apart ↦ rw (ne_eqb number session apart) (omega arith)
]

-- and stays within
begun-within : (begun : ℕ → ℕ) (session number : ℕ) → begun number ≤ 2 ^ 64 - 1
    → changed_at begun session (one_more (begun session)) number ≤ 2 ^ 64 - 1
begun-within begun session number within = elim (cases_eq number session) [
  | inl same ↦ rw (eq-eqb number session same) (min-le_right (begun session + 1) (2 ^ 64 - 1))
  | inr apart ↦ rw (ne_eqb number session apart) within
]

-- a session began a transaction
pub ordinals_begun : (history : List Commit) (begun : ℕ → ℕ) (sessions : ℕ → SessionState) (session : ℕ) (transaction : PageTransaction)
    → AreOrdinals history begun sessions
    → AreOrdinals history (changed_at begun session (one_more (begun session))) (changed_at sessions session (Open transaction))
ordinals_begun history begun sessions session transaction all = record {
  rise = λ earlier later one other below is_one is_other same few.
      all.rise earlier later one other below is_one is_other same
      (let least = begun-least begun session one.entry.session (all.counted session) in omega arith);
  reached = λ k one is_one.
      (let least = begun-least begun session one.entry.session (all.counted session) in
      let old = all.reached k one is_one in
      omega arith);
  past = λ number. elim (cases_eq number session) [
    | inl same ↦
        rw (eq-eqb number session same)
        (λ few k one is_one own.
        let old = subst (λ (n : ℕ). one.entry.ordinal ≤ begun n) (own ∙ same) (all.reached k one is_one) in
        let above = one_more-above (begun session) few in
        omega arith)
    | inr apart ↦ rw (ne_eqb number session apart) (all.past number)
  ];
  counted = λ number. begun-within begun session number (all.counted number);
}

-- the place of a commit in a history with one more: it is the last, or stands in the history
place : (history : List Commit) (commit : Commit) (k : ℕ) (one : Commit) → slice_get (history ++ commit ∷ []) k ≡ Some one
    → ((k < length history) × (slice_get history k ≡ Some one)) ⊎ ((k ≡ length history) × (one ≡ commit))
place history commit k one found = elim (cases_lt k (length history)) [
  | inl low ↦ inl (low, front_of history commit k one low found)
  | inr high ↦
      (let bound : k < length (history ++ commit ∷ []) = slice_get_within (history ++ commit ∷ []) k one found in
      let last : k ≡ length history = omega (arith, length-append history (commit ∷ [])) in
      inr (last, last_of history commit k one last found))
]

-- what holds of each commit of a session holds with one more commit of another session
all_more : (history : List Commit) (commit : Commit) (session begun : ℕ) → (commit.entry.session ≡ session → ⊥)
    → ((k : ℕ) (one : Commit) → slice_get history k ≡ Some one → one.entry.session ≡ session → one.entry.ordinal < begun)
    → (k : ℕ) (one : Commit) → slice_get (history ++ commit ∷ []) k ≡ Some one → one.entry.session ≡ session → one.entry.ordinal < begun
all_more history commit session begun apart past k one found own = elim (place history commit k one found) [
  | inl before ↦ past k one before.1 own
  | inr last ↦ absurd (apart (subst (λ (c : Commit). c.entry.session ≡ session) last.1 own))
]

-- a commit of another session changes nothing for this one
past_more : (history : List Commit) (commit : Commit) (session begun : ℕ) (state : SessionState) → (commit.entry.session ≡ session → ⊥)
    → ArePast history session begun state → ArePast (history ++ commit ∷ []) session begun state
past_more history commit session begun Out apart past = tt
past_more history commit session begun (Open transaction) apart past =
    λ few. all_more history commit session begun apart (past few)
past_more history commit session begun (Refused transaction) apart past =
    λ few. all_more history commit session begun apart (past few)

-- a session committed the transaction that it began last
pub ordinals_committed : (history : List Commit) (begun : ℕ → ℕ) (sessions : ℕ → SessionState) (commit : Commit) (transaction : PageTransaction)
    → commit.entry.ordinal ≡ begun commit.entry.session
    → ArePast history commit.entry.session (begun commit.entry.session) (Open transaction) → AreOrdinals history begun sessions
    → AreOrdinals (history ++ commit ∷ []) begun (changed_at sessions commit.entry.session Out)
ordinals_committed history begun sessions commit transaction numbered past all = record {
  rise = λ earlier later one other below is_one is_other same few.
      elim (place history commit later other is_other) [
        | inl before ↦ all.rise earlier later one other below (front_of history commit earlier one (omega arith) is_one) before.1 same few
        | inr last ↦
            (let own : one.entry.session ≡ commit.entry.session = same ∙ ap (λ (c : Commit). c.entry.session) last.1 in
            let ordinal : other.entry.ordinal ≡ begun commit.entry.session = ap (λ (c : Commit). c.entry.ordinal) last.1 ∙ numbered in
            let there = front_of history commit earlier one (omega arith) is_one in
            let less : one.entry.ordinal < begun commit.entry.session =
            past (subst (λ (n : ℕ). begun n < 2 ^ 64 - 1) own few) earlier one there own in
            omega arith)
      ];
  reached = λ k one found. elim (place history commit k one found) [
    | inl before ↦ all.reached k one before.1
    | inr last ↦ subst (λ (c : Commit). c.entry.ordinal ≤ begun c.entry.session) (sym last.1) (omega arith)
  ];
  past = λ number. elim (cases_eq number commit.entry.session) [
    | inl same ↦ rw (eq-eqb number commit.entry.session same) tt
    | inr apart ↦
        rw (ne_eqb number commit.entry.session apart)
        (past_more history commit number (begun number) (sessions number) (λ e. apart (sym e)) (all.past number))
  ];
  counted = all.counted;
}

-- nothing has been committed
pub ordinals_none : (sessions : ℕ → SessionState) → AreOrdinals [] (λ session. 0) sessions
ordinals_none sessions = record {
  rise = λ earlier later one other below is_one is_other same few. absurd (none_found earlier one is_one);
  reached = λ k one found. absurd (none_found k one found);
  past = λ session. none_past session 0 (sessions session);
  counted = λ session. omega arith;
}
  where
    none_found : (k : ℕ) (one : Commit) → slice_get [] k ≡ Some one → ⊥
    none_found k one found = (let bound = slice_get_within [] k one found in omega arith)

    none_past : (session count : ℕ) (state : SessionState) → ArePast [] session count state
    none_past session count Out = tt
    none_past session count (Open transaction) = λ few k one found own. absurd (none_found k one found)
    none_past session count (Refused transaction) = λ few k one found own. absurd (none_found k one found)

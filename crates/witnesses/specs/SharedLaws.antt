-- Laws of the engine to which others commit.
use Rattle.std.specs.Prelude.{◌≡◌, ℕ, zero, suc, ◌≤◌, ◌⊎◌, List, [], ◌∷◌, ◌++◌, Bool, true, false, if◌then◌else◌, ◌==◌, Contains, length, Some, IsSome}
use Rattle.std.specs.List.{list_any}
use Rattle.std.proofs.Common.{arith, refl, inl, inr, subst}
use Rattle.std.proofs.lemmas.List.Elements.{Contains-append_right}
use Rattle.page_spec.specs.PageMap.{PageMap, page_sizes}
use Rattle.engine_spec.specs.declared.pins.Pin.{Pin}
use Rattle.engine_spec.specs.TwoLogs.{TwoLogs, AreLogs}
use Rattle.engine_spec.specs.Good.{HasSizes, RunsFrom}
use Rattle.engine_spec.proofs.Conflicts.{contains_cases, contains_more}
use Rattle.page_face.specs.Pins.{IsLive}
use Rattle.memory_engine.specs.Plain.{PlainLive, state_of}
use Rattle.memory_engine.specs.PlainLaws as plain
use Rattle.witnesses.specs.declared.shared.Shared.{Shared}
use Rattle.witnesses.specs.Shared.{SharedLive, SharedRuns, shared_state, shared_map, plain_map, pin_of, log_since, numbers_but}

-- a pin that holds does in the engine in memory
pub held_inside : {M : Type 0} (shared : Shared M) (pin : Pin) → IsLive SharedLive shared pin → IsLive PlainLive shared.plain pin
held_inside shared pin live =
    (pin_of shared.waiting ++ live.0, live.1.plain, Contains-append_right (pin_of shared.waiting) live.0 pin live.2)

pub shared_newest_sizes : {M : Type 0} (shared : Shared M) (pins : List Pin) (pages : PageMap) → SharedLive shared pins
    → (shared_state shared).newest ≡ Some pages → HasSizes pages (shared_state shared).size (shared_state shared).page_size
shared_newest_sizes shared pins pages live told = plain.newest_has_sizes shared.plain pages live.plain.0 told

pub shared_pinned_sizes : {M : Type 0} (shared : Shared M) (pin : Pin) (pages : PageMap) → IsLive SharedLive shared pin
    → shared_map shared pin ≡ Some pages → HasSizes pages pin.size (shared_state shared).page_size
shared_pinned_sizes shared pin pages live found = plain.pinned_has_sizes shared.plain pin pages (held_inside shared pin live) found

pub shared_tells : {M : Type 0} (shared : Shared M) (pin : Pin) → IsLive SharedLive shared pin → IsSome (shared_state shared).newest
    → IsSome (shared_map shared pin)
shared_tells shared pin live told = plain.plain_tells shared.plain pin (held_inside shared pin live) told

pub shared_bounds : {M : Type 0} (shared : Shared M) (pin : Pin) → IsLive SharedLive shared pin
    → (pin.n ≤ length (shared_state shared).history) × (1 ≤ pin.size)
shared_bounds shared pin live = plain.plain_bounds shared.plain pin (held_inside shared pin live)

-- an element of two lists is one of the first or of the second
in_either : (xs ys : List ℕ) (n : ℕ) → Contains (xs ++ ys) n → Contains xs n ⊎ Contains ys n
in_either [] ys n there = inr there
in_either (x ∷ xs) ys n there = elim (contains_cases x n (xs ++ ys) there) [
  | inl same ↦ inl (0, omega arith, same)
  | inr later ↦ elim (in_either xs ys n later) [ inl one ↦ inl (contains_more x n xs one) | inr other ↦ inr other ]
]

-- one's own commits are numbered from 1
own_there : (theirs : List ℕ) (count number : ℕ) → Contains (numbers_but theirs count) number → (1 ≤ number) × (number ≤ count)
own_there theirs zero number there = absurd (let low = there.1 in omega arith)
own_there theirs (suc count) number there = at (list_any (λ n. n == suc count) theirs) (own_there theirs count number) there
  where
    at : (any : Bool) → (Contains (numbers_but theirs count) number → (1 ≤ number) × (number ≤ count))
        → Contains (if any then numbers_but theirs count else numbers_but theirs count ++ suc count ∷ []) number
        → (1 ≤ number) × (number ≤ suc count)
    at true before there = (let one = before there in (omega (arith, one.0), omega (arith, one.1)))
    at false before there = elim (in_either (numbers_but theirs count) (suc count ∷ []) number there) [
      | inl early ↦ (let one = before early in (omega (arith, one.0), omega (arith, one.1)))
      | inr last ↦ elim (contains_cases (suc count) number [] last) [
        | inl same ↦ (omega arith, omega arith)
        | inr none ↦ absurd (let low = none.1 in omega arith)
      ]
    ]

pub shared_own : {M : Type 0} (shared : Shared M) (pins : List Pin) (number : ℕ) → SharedLive shared pins
    → Contains (shared_state shared).own number → (1 ≤ number) × (number ≤ length (shared_state shared).history)
shared_own shared pins number live there = own_there shared.theirs.items (length shared.plain.history) number there

pub shared_legal : {M : Type 0} (shared : Shared M) (pins : List Pin) → SharedLive shared pins
    → Contains page_sizes (shared_state shared).page_size × (480 ≤ (shared_state shared).usable)
    × ((shared_state shared).usable ≤ (shared_state shared).page_size)
shared_legal shared pins live = plain.plain_legal shared.plain (pin_of shared.waiting ++ pins) live.plain

pub shared_logs : {M : Type 0} (shared : Shared M) (pins : List Pin) (logs : TwoLogs) → SharedLive shared pins
    → (shared_state shared).logs ≡ Some logs → AreLogs logs (shared_state shared).history
shared_logs shared pins logs live told =
    let same : log_since shared.since ≡ logs = cc in
    subst (λ (l : TwoLogs). AreLogs l shared.plain.history) same (record {
      current = inl refl;
      least = omega arith;
      most = omega arith;
      odd = (λ odd. refl, λ one. refl);
      since = omega (arith, live.since, live.commits);
      other_since = omega arith;
    })

-- what standing for a run means
pub shared_run : {M : Type 0} (sound : PageMap → Type 0) (leads : PageMap → List (List ℕ) → PageMap → Type 0) (first : PageMap) (shared : Shared M)
    → SharedRuns sound leads first shared
    → RunsFrom sound leads first (shared_state shared) (IsLive SharedLive shared) (shared_map shared)
shared_run sound leads first shared runs =
    let inner : RunsFrom sound leads first (state_of shared.plain) (IsLive PlainLive shared.plain) (plain_map shared.plain) =
    plain.plain_run sound leads first shared.plain runs.plain in
    record {
      snaps = inner.snaps;
      newest = inner.newest;
      pinned = λ pin pages live found. inner.pinned pin pages (held_inside shared pin live) found;
    }

-- beginning isn't always allowed
pub begins_never : {X : Type 0} → false ≡ true → X
begins_never always = absurd cc

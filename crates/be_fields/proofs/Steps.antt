-- What one step of reading or writing a varint gives.
use Rattle.std.proofs.Common.{◌≡◌, ℕ, ◌+◌, ◌-◌, ◌*◌, ◌/◌, ◌%◌, ◌^◌, ◌<◌, ◌≤◌, zero, suc, List, [], ◌∷◌, ◌++◌, length, get_or, take, drop, set, map, sym, ◌∙◌, arith, add-one, pow-suc, ap}
use Rattle.std.proofs.lemmas.List.{drop-set, take_at}
use Rattle.std.proofs.Math.Seq.{append_snoc}
use Rattle.std.proofs.lemmas.Grind.{common_steps}
use Rattle.std.proofs.Math.Nat.{pow-le-pow_right}
use Rattle.std.specs.Prelude.{Result, Ok, Err, is_ok, OnOk, if◌then◌else◌}
use Rattle.std.specs.Int.Digits.{number_from_digits}
use Rattle.page_spec.specs.Varint.{groups, last_values, shortest_varint, shortest_size, BeginsWithVarint}
use Rattle.page_spec.proofs.VarintLaws.{varint_is, length-groups}

-- a group moves from what is still to be written to what was written
pub group_written : (to : List ℕ) (left rest : ℕ) → 0 < left → left ≤ length to
    → groups (left - 1) (rest / 128) ++ drop (left - 1) (set to (left - 1) (128 + rest % 128)) ≡ groups left rest ++ drop left to
unfolding groups
group_written to zero rest some room = absurd (omega arith)
group_written to (suc left) rest some room = grind (arith, common_steps)

take_one_more : (front rest : List ℕ) (i x : ℕ) → length front ≡ i → take (i + 1) (front ++ x ∷ rest) ≡ front ++ x ∷ []
take_one_more front rest i x len =
    ap (λ (xs : List ℕ). take (i + 1) xs) (sym (append_snoc front x rest))
    ∙ take_at (front ++ x ∷ []) rest (i + 1) (grind (arith, common_steps))

pub take-last : (front bytes : List ℕ) (i x : ℕ) → length front ≡ i → i < length bytes
    → take (i + 1) (front ++ drop i (set bytes i x)) ≡ front ++ x ∷ []
take-last front bytes i x len room = rw (drop-set bytes i x room) (take_one_more front (drop (i + 1) bytes) i x len)

-- the high bits of a varint leave room for its next byte
pub high_fits : (high at : ℕ) → at ≤ 8 → high < 128 ^ at → high < 2 ^ 56
high_fits high at few small =
    let most : 128 ^ at ≤ 128 ^ 8 = pow-le-pow_right (omega arith) few in omega arith

pub high_more : (high at byte : ℕ) → high < 128 ^ at → byte < 256 → high * 128 + (byte - 128) < 128 ^ (at + 1)
high_more high at byte small is =
    let power : 128 ^ (at + 1) ≡ 128 ^ at * 128 = rw add-one (pow-suc 128 at) in omega arith

-- the bytes before say that another follows, and this one ends the varint
pub ends_here : (bytes : List ℕ) (at high byte values : ℕ) → at ≤ 8 → at < length bytes
    → ((k : ℕ) → k < at → 128 ≤ get_or bytes k 0) → high ≡ number_from_digits 128 (map (λ b. b - 128) (take at bytes))
    → byte ≡ get_or bytes at 0 → (at < 8 → byte < 128) → last_values (at + 1) ≡ values
    → BeginsWithVarint bytes (high * values + byte) (at + 1)
ends_here bytes at high byte values few within go_on spelled read last is =
    let begins = varint_is bytes at few within go_on (λ less. let low = last less in omega arith) in
    rw (← spelled, is, ← read) at begins

-- the groups, and the last byte after them, are the shortest varint
pub written_is : (n size values : ℕ) (bytes written : List ℕ) → size ≡ shortest_size n → 1 ≤ size → size ≤ length bytes → values ≡ last_values (size - 1 + 1)
    → written ≡ groups (size - 1) (n / values) ++ drop (size - 1) (set bytes (size - 1) (n % values))
    → take (size - 1 + 1) written ≡ shortest_varint n
unfolding shortest_varint
written_is n size values bytes written of some room is by =
    let back : size - 1 + 1 ≡ size = omega arith in
    let same : values ≡ last_values (shortest_size n) = rw (back, of) at is in
    by_parts same
  where
    by_parts : values ≡ last_values (shortest_size n) → take (size - 1 + 1) written ≡ groups (shortest_size n - 1) (n / last_values (shortest_size n)) ++ n % last_values (shortest_size n) ∷ []
    by_parts same = rw (← same, ← of, by) (take-last (groups (size - 1) (n / values)) bytes (size - 1) (n % values) (length-groups (size - 1) (n / values)) (omega arith))

pub appended : {T E : Type 0} (r : Result T E) (new was more : List ℕ) → new ≡ (if is_ok r then was ++ more else was) → OnOk r (new ≡ was ++ more)
appended (Ok x) new was more h = h
appended (Err e) new was more h = tt

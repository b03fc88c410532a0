-- Laws of varints: where one ends, what it spells, and that the shortest one reads back.
use Rattle.std.proofs.Common.{true, length-append, append-nil, add-one, inl, inr, pow-suc, ◌≡◌, ℕ, ◌+◌, ◌-◌, ◌*◌, ◌/◌, ◌%◌, ◌^◌, ◌<◌, ◌≤◌, nat_le, zero, suc, false, List, [], ◌∷◌, ◌++◌, length, get_or, map, take, refl, sym, ◌∙◌, arith}
use Rattle.std.specs.List.{prefix_len, All}
use Rattle.std.specs.Int.Digits.{number_from_digits}
use Rattle.std.proofs.lemmas.List.{length-map, length-take, length-take-le, map_more, map_push, get_or-map, get_or-take, get_or_append_left, take-append-le}
use Rattle.std.proofs.lemmas.List.Elements.{All-from_get_or, All-get_or, recursion_from_All}
use Rattle.std.proofs.lemmas.List.Folds.{length-prefix_len}
use Rattle.std.proofs.Math.Nat.{pow-le-pow_right}
use Rattle.std.proofs.lemmas.List.Sums.{prefix_len_is, prefix_len_stops, prefix_len_passes, prefix_len-le-length}
use Rattle.std.proofs.lemmas.Bool.{cases_lt, cases_eq}
use Rattle.std.proofs.lemmas.Bool.Decides.{nat_tests}
use Rattle.std.proofs.lemmas.Int.Digits.{number_push, number_lt}
use Rattle.std.proofs.lemmas.Grind.{common_steps}
use Rattle.page_spec.specs.Bytes.{AreBytes}
use Rattle.page_spec.specs.Varint.{carrying, varint_size, varint_number, BeginsWithVarint, IsShortestVarint, shortest_size, groups, shortest_varint, last_values}

-- where each of the first `i` bytes says that another follows, and the next doesn't or is the ninth
pub carrying_is : (bytes : List ℕ) (i : ℕ) → i ≤ 8 → i < length bytes
    → ((k : ℕ) → k < i → 128 ≤ get_or bytes k 0) → (i < 8 → get_or bytes i 0 < 128)
    → carrying bytes ≡ take i bytes
unfolding carrying
carrying_is bytes i few within go_on stops =
    let size : prefix_len (nat_le 128) (take 8 bytes) ≡ i =
    prefix_len_is (nat_le 128) (take 8 bytes) i 0 (omega (arith, length-take 8 bytes))
    (λ k below. let at = go_on k below in grind (arith, common_steps, nat_tests))
    (λ more. let at = stops (omega (arith, length-take 8 bytes)) in grind (arith, common_steps, nat_tests)) in
    rw size (grind (arith, common_steps))

-- where each byte says that another follows, and they aren't nine
pub carrying_ends : (bytes : List ℕ) → length bytes ≤ 8
    → ((k : ℕ) → k < length bytes → 128 ≤ get_or bytes k 0)
    → varint_size bytes ≡ length bytes + 1
unfolding carrying varint_size
carrying_ends bytes few go_on =
    let size : prefix_len (nat_le 128) (take 8 bytes) ≡ length bytes =
    prefix_len_is (nat_le 128) (take 8 bytes) (length bytes) 0 (omega (arith, length-take 8 bytes))
    (λ k below. let at = go_on k below in grind (arith, common_steps, nat_tests))
    (λ more. absurd (omega (arith, length-take 8 bytes))) in
    rw size (omega (arith, length-take (length bytes) (take 8 bytes), length-take 8 bytes))

-- what the varint at the front spells, where its last byte is known
pub varint_is : (bytes : List ℕ) (i : ℕ) → i ≤ 8 → i < length bytes
    → ((k : ℕ) → k < i → 128 ≤ get_or bytes k 0) → (i < 8 → get_or bytes i 0 < 128)
    → BeginsWithVarint bytes
    (number_from_digits 128 (map (λ byte. byte - 128) (take i bytes)) * last_values (i + 1) + get_or bytes i 0)
    (i + 1)
unfolding varint_size varint_number
varint_is bytes i few within go_on stops =
    let front = carrying_is bytes i few within go_on stops in
    let len : length (take i bytes) ≡ i = length-take-le i bytes (omega arith) in
    record {
      spelled = rw (front, len) refl;
      used = rw (front, len) refl;
      whole = omega arith;
    }

-- the number that bytes spell which say that another follows, one byte more
pub carried_more : (bytes : List ℕ) (i : ℕ) → i < length bytes
    → number_from_digits 128 (map (λ byte. byte - 128) (take (i + 1) bytes))
    ≡ number_from_digits 128 (map (λ byte. byte - 128) (take i bytes)) * 128 + (get_or bytes i 0 - 128)
carried_more bytes i within =
    rw (map_more (λ byte. byte - 128) bytes i 0 within)
    (number_push 128 (map (λ byte. byte - 128) (take i bytes)) (get_or bytes i 0 - 128))

pub length-groups : (count n : ℕ) → length (groups count n) ≡ count
unfolding groups
length-groups zero n = refl
length-groups (suc count) n = let back = length-groups count (n / 128) in grind (arith, common_steps)

-- each group's byte says that another follows
pub groups_go_on : (count n k : ℕ) → k < count → 128 ≤ get_or (groups count n) k 0
unfolding groups
groups_go_on zero n k below = absurd (omega arith)
groups_go_on (suc count) n k below =
    let len = length-groups count (n / 128) in
    elim (cases_lt k count) [
      | inl l ↦ let at = groups_go_on count (n / 128) k l in grind (arith, common_steps)
      | inr r ↦ grind (arith, common_steps)
    ]

-- the groups spell the number's low part, which is all of it where they suffice
pub groups_spell : (count n : ℕ) → n < 128 ^ count → number_from_digits 128 (map (λ byte. byte - 128) (groups count n)) ≡ n
unfolding groups
groups_spell zero n small = omega arith
groups_spell (suc count) n small =
    let less : n / 128 < 128 ^ count = omega (arith, pow-suc 128 count) in
    let back = groups_spell count (n / 128) less in
    rw (map_push (λ byte. byte - 128) (groups count (n / 128)) (128 + n % 128))
    (number_push 128 (map (λ byte. byte - 128) (groups count (n / 128))) (128 + n % 128 - 128) ∙ omega arith)

varint_size_positive : (bytes : List ℕ) → 1 ≤ varint_size bytes
unfolding varint_size
varint_size_positive bytes = omega arith

-- the size classes, said of the size
pub shortest_size_bounds : (n : ℕ) → (1 ≤ shortest_size n) × (shortest_size n ≤ 9)
    × (shortest_size n < 9 → n < 128 ^ shortest_size n)
    × (1 < shortest_size n → 128 ^ (shortest_size n - 1) ≤ n)
unfolding shortest_size
shortest_size_bounds n = grind (arith, nat_tests)

-- bytes that say that another follows, then one that ends a varint, then whatever
pub begins_with_parts : (front rest : List ℕ) (last i : ℕ) → length front ≡ i → i ≤ 8
    → ((k : ℕ) → k < i → 128 ≤ get_or front k 0) → (i < 8 → last < 128)
    → BeginsWithVarint ((front ++ last ∷ []) ++ rest)
    (number_from_digits 128 (map (λ byte. byte - 128) front) * last_values (i + 1) + last)
    (i + 1)
begins_with_parts front rest last i len few go_on stops =
    let bytes = (front ++ last ∷ []) ++ rest in
    let taken : take i bytes ≡ front = grind (arith, common_steps) in
    let at : get_or bytes i 0 ≡ last = grind (arith, common_steps) in
    let is : BeginsWithVarint bytes (number_from_digits 128 (map (λ byte. byte - 128) (take i bytes)) * last_values (i + 1) + get_or bytes i 0) (i + 1) =
    varint_is bytes i few (grind (arith, common_steps))
    (λ k below. let on = go_on k below in grind (arith, common_steps))
    (λ less. let low = stops less in omega arith) in
    rw (taken, at) at is

pub last_values_nine : (size : ℕ) → size ≡ 9 → last_values size ≡ 256
unfolding last_values
last_values_nine size nine = grind (arith, nat_tests)

pub last_values_less : (size : ℕ) → size < 9 → last_values size ≡ 128
unfolding last_values
last_values_less size less = grind (arith, nat_tests)

-- the high bits in groups, then the low bits in a last byte
in_groups : (n i values : ℕ) → i ≤ 8 → values ≡ last_values (i + 1) → 0 < values → n / values < 128 ^ i → (i < 8 → values ≡ 128)
    → (rest : List ℕ) → BeginsWithVarint ((groups i (n / values) ++ n % values ∷ []) ++ rest) n (i + 1)
in_groups n i values few is some fits seven rest =
    let begins = begins_with_parts (groups i (n / values)) rest (n % values) i (length-groups i (n / values)) few
    (groups_go_on i (n / values))
    (λ less. let by = seven less in grind arith) in
    let high = groups_spell i (n / values) fits in
    let whole : n / values * values + n % values ≡ n = grind arith in
    let spelled : number_from_digits 128 (map (λ byte. byte - 128) (groups i (n / values))) * last_values (i + 1) + n % values ≡ n =
    rw (high, ← is) whole in
    rw spelled at begins

-- the same with the size in place of the count of groups
by_size : (n size values : ℕ) → n < 2 ^ 64 → 1 ≤ size → size ≤ 9 → values ≡ last_values size → (size < 9 → n < 128 ^ size)
    → (rest : List ℕ) → BeginsWithVarint ((groups (size - 1) (n / values) ++ n % values ∷ []) ++ rest) n size
by_size n size values small least most is fits rest =
    let back : size - 1 + 1 ≡ size = omega arith in
    let of : values ≡ last_values (size - 1 + 1) = rw back is in
    elim (cases_eq size 9) [
      | inl nine ↦
          let wide : values ≡ 256 = is ∙ last_values_nine size nine in
          let eight : size - 1 ≡ 8 = omega arith in
          let high : n / values < 128 ^ (size - 1) = rw (wide, eight) (omega arith) in
          rw back at (in_groups n (size - 1) values (omega arith) of (omega arith) high (λ less. absurd (omega arith)) rest)
      | inr less ↦
          let seven : values ≡ 128 = is ∙ last_values_less size (omega arith) in
          let below : n < 128 ^ (size - 1 + 1) = rw back (fits (omega arith)) in
          let high : n / values < 128 ^ (size - 1) = rw seven (omega (arith, rw (add-one, pow-suc) at below)) in
          rw back at (in_groups n (size - 1) values (omega arith) of (omega arith) high (λ few. seven) rest)
    ]

-- the shortest varint of a number of at most 64 bits reads back, whatever follows
pub shortest_varint_begins : (n : ℕ) → n < 2 ^ 64 → (rest : List ℕ) → BeginsWithVarint (shortest_varint n ++ rest) n (shortest_size n)
unfolding shortest_varint
shortest_varint_begins n small rest =
    let bounds = shortest_size_bounds n in
    by_size n (shortest_size n) (last_values (shortest_size n)) small bounds.0 bounds.1 refl bounds.2 rest

pub length-shortest_varint : (n : ℕ) → length (shortest_varint n) ≡ shortest_size n
unfolding shortest_varint
length-shortest_varint n =
    let bounds = shortest_size_bounds n in
    let len = length-groups (shortest_size n - 1) (n / last_values (shortest_size n)) in
    grind (arith, common_steps)

-- a varint of fewer than nine bytes spells a number below that power of 128
number_below : (front : List ℕ) (last : ℕ) → ((k : ℕ) → k < length front → get_or front k 0 < 256) → last < 128
    → number_from_digits 128 (map (λ byte. byte - 128) front) * 128 + last < 128 ^ (length front + 1)
number_below front last are low =
    let digits = map (λ byte. byte - 128) front in
    let len : length digits ≡ length front = length-map front (λ byte. byte - 128) in
    let each : All (λ digit. digit < 128) digits =
    All-from_get_or (λ digit. digit < 128) digits 0
    (λ k below.
    let within : k < length front = omega arith in
    let at = are k within in
    rw (get_or-map (λ byte. byte - 128) front k 0 0 within) (omega arith)) in
    let high = number_lt 128 digits (recursion_from_All (λ digit. digit < 128) digits each) in
    let power : 128 ^ (length front + 1) ≡ 128 ^ length front * 128 = rw add-one (pow-suc 128 (length front)) in
    let top : number_from_digits 128 digits < 128 ^ length front = rw len at high in
    omega arith

true_le : (m n : ℕ) → nat_le m n ≡ true → m ≤ n
true_le m n h = grind (arith, nat_tests)

false_le : (m n : ℕ) → nat_le m n ≡ false → n < m
false_le m n h = grind (arith, nat_tests)

varint_number_small : (bytes : List ℕ) → AreBytes bytes → varint_size bytes ≤ length bytes → varint_size bytes ≤ 8
    → varint_number bytes < 128 ^ varint_size bytes
unfolding carrying varint_size varint_number
varint_number_small bytes are whole few =
    let first = take 8 bytes in
    let i = prefix_len (nat_le 128) first in
    let len : length (take i first) ≡ i = length-prefix_len (nat_le 128) first in
    let room : i < length first = omega (arith, length-take 8 bytes) in
    let stop = prefix_len_stops (nat_le 128) first 0 room in
    let same : get_or first i 0 ≡ get_or bytes i 0 = get_or-take 8 bytes i 0 (omega arith) in
    let low : get_or bytes i 0 < 128 = rw same at (false_le 128 (get_or first i 0) stop) in
    let values : last_values (length (take i first) + 1) ≡ 128 = last_values_less (length (take i first) + 1) (omega arith) in
    let each : (k : ℕ) → k < length (take i first) → get_or (take i first) k 0 < 256 =
    λ k below.
    let byte = All-get_or (λ b. b < 256) bytes k 0 (omega arith) are in
    let at = get_or-take i first k 0 (omega arith) ∙ get_or-take 8 bytes k 0 (omega arith) in
    omega arith in
    let small = number_below (take i first) (get_or bytes i 0) each low in
    rw (values, len) (rw len at small)

-- no varint of a number has fewer bytes than the shortest
no_shorter : (n : ℕ) (others : List ℕ) → AreBytes others → BeginsWithVarint others n (length others) → shortest_size n ≤ length others
no_shorter n others are is =
    let bounds = shortest_size_bounds n in
    elim (cases_lt (length others) (shortest_size n)) [
      | inr enough ↦ enough
      | inl less ↦
          let below = varint_number_small others are (omega (arith, is.used)) (omega (arith, is.used)) in
          let small : n < 128 ^ length others = rw (is.spelled, is.used) at below in
          let more : 128 ^ (shortest_size n - 1) ≤ n = bounds.3 (omega (arith, varint_size_positive others, is.used)) in
          let power : 128 ^ length others ≤ 128 ^ (shortest_size n - 1) = pow-le-pow_right (omega arith) (omega arith) in
          absurd (omega arith)
    ]

pub shortest_varint_is : (n : ℕ) → n < 2 ^ 64 → IsShortestVarint (shortest_varint n) n
shortest_varint_is n small =
    let begins = rw (append-nil (shortest_varint n)) at (shortest_varint_begins n small []) in
    let len = length-shortest_varint n in
    record {
      spelled = begins.spelled;
      used = begins.used ∙ sym len;
      shortest = λ others are is. omega (arith, no_shorter n others are is);
    }

-- the parts of a whole varint at the front
varint_parts : (bytes : List ℕ) → varint_size bytes ≤ length bytes
    → (varint_size bytes - 1 ≤ 8)
    × ((k : ℕ) → k < varint_size bytes - 1 → 128 ≤ get_or bytes k 0)
    × (varint_size bytes - 1 < 8 → get_or bytes (varint_size bytes - 1) 0 < 128)
unfolding carrying varint_size
varint_parts bytes whole =
    let first = take 8 bytes in
    let i = prefix_len (nat_le 128) first in
    let len : length (take i first) ≡ i = length-prefix_len (nat_le 128) first in
    let most : i ≤ length first = prefix_len-le-length (nat_le 128) first in
    let count : length (take i first) + 1 - 1 ≡ i = omega arith in
    rw count (
      omega (arith, length-take 8 bytes),
      (λ k below.
          let passes = prefix_len_passes (nat_le 128) first k 0 below in
          rw (get_or-take 8 bytes k 0 (omega (arith, length-take 8 bytes))) at (true_le 128 (get_or first k 0) passes)),
      (λ less.
          let stop = prefix_len_stops (nat_le 128) first 0 (omega (arith, length-take 8 bytes)) in
          rw (get_or-take 8 bytes i 0 less) at (false_le 128 (get_or first i 0) stop)),
    )

-- what follows a whole varint changes nothing
pub begins_append : (bytes more : List ℕ) (number size : ℕ) → BeginsWithVarint bytes number size → BeginsWithVarint (bytes ++ more) number size
begins_append bytes more number size b =
    let within : varint_size bytes ≤ length bytes = omega (arith, b.used, b.whole) in
    let parts = varint_parts bytes within in
    let i = varint_size bytes - 1 in
    let low : i < length bytes = omega (arith, varint_size_positive bytes) in
    let alone = varint_is bytes i parts.0 low parts.1 parts.2 in
    let longer = varint_is (bytes ++ more) i parts.0 (omega (arith, length-append bytes more))
    (λ k below. rw (get_or_append_left bytes more 0 k (omega arith)) (parts.1 k below))
    (λ less. rw (get_or_append_left bytes more 0 i low) (parts.2 less)) in
    let same = rw (take-append-le i bytes more (omega arith), get_or_append_left bytes more 0 i low) at longer in
    record {
      spelled = same.spelled ∙ sym alone.spelled ∙ b.spelled;
      used = same.used ∙ sym alone.used ∙ b.used;
      whole = omega (arith, length-append bytes more, b.whole);
    }

-- a varint has 1 to 9 bytes
pub varint_size_bounds : (bytes : List ℕ) → (1 ≤ varint_size bytes) × (varint_size bytes ≤ 9)
unfolding carrying varint_size
varint_size_bounds bytes =
    let first = take 8 bytes in
    (omega arith, omega (arith, length-prefix_len (nat_le 128) first, prefix_len-le-length (nat_le 128) first, length-take 8 bytes))

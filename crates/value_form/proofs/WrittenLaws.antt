-- A record that was written reads back, whatever follows it.
use Rattle.std.proofs.Common.{◌≡◌, ℕ, ◌+◌, ◌-◌, ◌*◌, ◌^◌, ◌<◌, ◌≤◌, suc, List, [], ◌∷◌, ◌++◌, length, take, drop, true, None, refl, sym, ap, subst, ◌∙◌, inl, inr, arith, pow-suc, length-append, append_assoc, append-nil, take_at, drop_at, map, get_or}
use Rattle.std.specs.Prelude.{All, ◌==◌, Result, Ok, Err, is_ok, OnOk, if◌then◌else◌}
use Rattle.std.specs.List.{position_from}
use Rattle.std.proofs.Math.Nat.{pow-le-pow_right}
use Rattle.std.proofs.lemmas.Bool.Decides.{nat_tests}
use Rattle.std.proofs.lemmas.Bool.{ne_eqb, cases_lt}
use Rattle.std.proofs.lemmas.Iterator.Adapters.{position_from-zero}
use Rattle.std.proofs.lemmas.List.Sums.{sum_by-cons}
use Rattle.std.proofs.lemmas.List.{take_more}
use Rattle.std.proofs.lemmas.List.Elements.{All-push}
use Rattle.std.proofs.lemmas.Grind.{flat_map-append}
use Rattle.std.proofs.lemmas.Result.{on_ok_weaker}
use Rattle.page_spec.specs.Varint.{varint_size, varint_number, shortest_varint, shortest_size, BeginsWithVarint}
use Rattle.page_spec.proofs.VarintLaws.{shortest_varint_begins, length-shortest_varint, shortest_size_bounds}
use Rattle.value_form.specs.declared.value.Value.{Value}
use Rattle.value_form.specs.Serial.{body_size, type_of, body_of}
use Rattle.value_form.specs.Record.{has_header, header_from, bodies_in, begins_with_type, BeginsWithTypes, bodies_size, first_float, values_of, IsRecord}
use Rattle.value_form.specs.Written.{types_text, bodies_text, header_size, record_text}
use Rattle.value_form.specs.Writing.{IsWritable, Extends}
use Rattle.value_form.proofs.SerialLaws.{written_body, written_type}

-- The header's size.

-- a number from one power of 128 up to the next has that many groups of seven bits
size_is : (n size : ℕ) → 1 ≤ size → size < 9 → (1 < size → 128 ^ (size - 1) ≤ n) → n < 128 ^ size → shortest_size n ≡ size
size_is n size some few low high =
    let bounds = shortest_size_bounds n in
    elim (cases_lt (shortest_size n) size) [
      | inl less ↦
          let power : 128 ^ shortest_size n ≤ 128 ^ (size - 1) = pow-le-pow_right (omega arith) (omega arith) in
          absurd (omega (arith, bounds.2 (omega arith), low (omega (arith, bounds.0))))
      | inr more ↦
          elim (cases_lt size (shortest_size n)) [
            | inl greater ↦
                let power : 128 ^ size ≤ 128 ^ (shortest_size n - 1) = pow-le-pow_right (omega arith) (omega arith) in
                absurd (omega (arith, bounds.3 (omega arith)))
            | inr same ↦ omega arith
          ]
    ]

-- a size that counts itself: the size of the varint stays what it is, or is one more
counts_itself : (types first size : ℕ) → first ≡ shortest_size types → size ≡ shortest_size (types + first) → shortest_size (types + size) ≡ size
counts_itself types first size is counted =
    let f = shortest_size_bounds types in
    let g = shortest_size_bounds (types + first) in
    let h = shortest_size_bounds (types + size) in
    elim (cases_lt size 9) [
      | inr nine ↦
          elim (cases_lt (shortest_size (types + size)) 9) [
            | inl less ↦
                let power : 128 ^ shortest_size (types + size) ≤ 128 ^ 8 = pow-le-pow_right {n = 128} (omega arith) {i = shortest_size (types + size)} {j = 8} (omega arith) in
                let at_least : 128 ^ 8 ≤ 128 ^ (size - 1) = pow-le-pow_right {n = 128} (omega arith) {i = 8} {j = size - 1} (omega arith) in
                let low : 128 ^ (size - 1) ≤ types + first = rw (← counted) at (g.3 (omega arith)) in
                absurd (omega (arith, h.2 less, f.1))
            | inr more ↦ omega (arith, h.1, g.1)
          ]
      | inl few ↦
          elim (cases_lt first size) [
            | inl less ↦
                let power : 128 ^ first ≤ 128 ^ (size - 1) = pow-le-pow_right (omega arith) (omega arith) in
                let upper : types < 128 ^ first = rw (← is) at (f.2 (omega arith)) in
                let lower : 128 ^ (size - 1) ≤ types + first = rw (← counted) at (g.3 (omega (arith, f.0))) in
                let next : 128 ^ suc (size - 1) ≡ 128 ^ (size - 1) * 128 = pow-suc 128 (size - 1) in
                let back : suc (size - 1) ≡ size = omega (arith, g.0) in
                let whole : 128 ^ size ≡ 128 ^ (size - 1) * 128 = ap (λ (n : ℕ). 128 ^ n) (sym back) ∙ next in
                size_is (types + size) size (omega (arith, g.0)) few (λ some. omega arith) (omega arith)
            | inr more ↦
                elim (cases_lt size first) [
                  | inl greater ↦
                      let power : 128 ^ size ≤ 128 ^ (first - 1) = pow-le-pow_right (omega arith) (omega arith) in
                      let lower : 128 ^ (first - 1) ≤ types = rw (← is) at (f.3 (omega (arith, g.0))) in
                      let upper : types + first < 128 ^ size = rw (← counted) at (g.2 (omega arith)) in
                      absurd (omega arith)
                  | inr fewer ↦
                      let same : size ≡ first = omega arith in
                      ap (λ (n : ℕ). shortest_size (types + n)) same ∙ sym counted
                ]
          ]
    ]

-- the size that is counted is the size of the varint that spells it
pub header_counts : (types : ℕ) → header_size types ≡ types + shortest_size (header_size types)
unfolding header_size
header_counts types = ap (λ (n : ℕ). types + n) (sym (counts_itself types (shortest_size types) (shortest_size (types + shortest_size types)) refl refl))

-- The serial types.

type_begins : (bytes : List ℕ) (type size : ℕ) → BeginsWithVarint bytes type size → (type ≡ 10 → ⊥) → (type ≡ 11 → ⊥) → begins_with_type bytes ≡ true
unfolding begins_with_type
type_begins bytes type size b ten eleven =
    let whole : varint_size bytes ≤ length bytes = omega (arith, b.used, b.whole) in
    let number = b.spelled in
    grind (arith, nat_tests)

pub types_written : (row : List Value) (rest : List ℕ) → All IsWritable row → BeginsWithTypes (types_text row ++ rest) (map type_of row) rest
types_written [] rest all = refl
types_written (value ∷ row) rest all =
    let spelled = shortest_varint (type_of value) in
    let more = types_text row ++ rest in
    let group : (spelled ++ types_text row) ++ rest ≡ spelled ++ more = append_assoc spelled (types_text row) rest in
    let begins = shortest_varint_begins (type_of value) (all 0 value (omega arith)).type_fits more in
    let allowed = written_type value in
    let next : drop (varint_size (spelled ++ more)) (spelled ++ more) ≡ more =
    drop_at spelled more (varint_size (spelled ++ more)) (length-shortest_varint (type_of value) ∙ sym begins.used) in
    subst (λ (bytes : List ℕ). BeginsWithTypes bytes (type_of value ∷ map type_of row) rest) (sym group) (
      type_begins (spelled ++ more) (type_of value) (shortest_size (type_of value)) begins allowed.1 allowed.2,
      begins.spelled,
      subst (λ (bytes : List ℕ). BeginsWithTypes bytes (map type_of row) rest) (sym next) (types_written row rest (λ k d below. all (suc k) d (omega arith))),
    )

-- The values.

sizes_written : (row : List Value) → All IsWritable row → bodies_size (map type_of row) ≡ length (bodies_text row)
sizes_written [] all = refl
sizes_written (value ∷ row) all =
    let size = (written_body value (all 0 value (omega arith)).integer_fits).size in
    let rest = sizes_written row (λ k d below. all (suc k) d (omega arith)) in
    omega (arith, sum_by-cons body_size (type_of value) (map type_of row), length-append (body_of value) (bodies_text row))

values_written : (row : List Value) (rest : List ℕ) → All IsWritable row → values_of (map type_of row) (bodies_text row ++ rest) ≡ row
values_written [] rest all = refl
values_written (value ∷ row) rest all =
    let body = written_body value (all 0 value (omega arith)).integer_fits in
    let own = body_of value in
    let more = bodies_text row ++ rest in
    let group : (own ++ bodies_text row) ++ rest ≡ own ++ more = append_assoc own (bodies_text row) rest in
    let front : take (body_size (type_of value)) (own ++ more) ≡ own = take_at own more (body_size (type_of value)) (sym body.size) in
    let back : drop (body_size (type_of value)) (own ++ more) ≡ more = drop_at own more (body_size (type_of value)) (sym body.size) in
    rw (group, front, back, body.reads) (ap (λ (values : List Value). value ∷ values) (values_written row rest (λ k d below. all (suc k) d (omega arith))))

no_float_from : (row : List Value) (at : ℕ) → position_from (λ type. type == 7) at (map type_of row) ≡ None
no_float_from [] at = refl
no_float_from (value ∷ row) at = rw (ne_eqb (type_of value) 7 (written_type value).0) (no_float_from row (at + 1))

no_float_written : (row : List Value) → first_float (map type_of row) ≡ None
no_float_written row = position_from-zero (λ type. type == 7) (map type_of row) ∙ no_float_from row 0

-- The whole record.

has_header_by : (bytes : List ℕ) → varint_size bytes ≤ varint_number bytes → varint_number bytes ≤ length bytes → has_header bytes ≡ true
unfolding has_header
has_header_by bytes low high = grind (arith, nat_tests)

pub reads_back : (row : List Value) (rest : List ℕ) → All IsWritable row → header_size (length (types_text row)) < 2 ^ 64 → IsRecord (record_text row ++ rest) row
unfolding record_text
reads_back row rest all small =
    let types = types_text row in
    let bodies = bodies_text row in
    let header = header_size (length types) in
    let head = shortest_varint header in
    let bytes = (head ++ (types ++ bodies)) ++ rest in
    let group : bytes ≡ head ++ ((types ++ bodies) ++ rest) = append_assoc head (types ++ bodies) rest in
    let begins = subst (λ (bs : List ℕ). BeginsWithVarint bs header (shortest_size header)) (sym group) (shortest_varint_begins header small ((types ++ bodies) ++ rest)) in
    let head_size = length-shortest_varint header in
    let counted : length (head ++ types) ≡ header = length-append head types ∙ omega (arith, header_counts (length types)) in
    let split : bytes ≡ (head ++ types) ++ (bodies ++ rest) = simp append_assoc in
    let front : take (varint_number bytes) bytes ≡ head ++ types =
    ap (take (varint_number bytes)) split ∙ take_at (head ++ types) (bodies ++ rest) (varint_number bytes) (counted ∙ sym begins.spelled) in
    let left : bodies_in bytes ≡ bodies ++ rest =
    ap (drop (varint_number bytes)) split ∙ drop_at (head ++ types) (bodies ++ rest) (varint_number bytes) (counted ∙ sym begins.spelled) in
    let middle : header_from bytes (varint_size bytes) ≡ types =
    ap (drop (varint_size bytes)) front ∙ drop_at head types (varint_size bytes) (head_size ∙ sym begins.used) in
    let long = ap length split ∙ length-append (head ++ types) (bodies ++ rest) in
    record {
      types = map type_of row;
      header = record {
        size = has_header_by bytes (omega (arith, begins.used, begins.spelled, length-append head types)) (omega (arith, begins.spelled));
        spelled = subst (λ (bs : List ℕ). BeginsWithTypes bs (map type_of row) []) (append-nil types ∙ sym middle) (types_written row [] all);
      };
      whole = omega (arith, sizes_written row all, ap length left, length-append bodies rest);
      no_float = no_float_written row;
      values = ap (values_of (map type_of row)) left ∙ values_written row rest all;
    }

-- Steps of a writer.

pub appended : {T E : Type 0} (answer : Result T E) (new was more : List ℕ) → new ≡ (if is_ok answer then was ++ more else was) → OnOk answer (new ≡ was ++ more)
appended (Ok x) new was more h = h
appended (Err e) new was more h = tt

pub extends_on : (first second third : List ℕ) → Extends first second → Extends second third → Extends first third
extends_on first second third p q = (p.0 ++ q.0, q.1 ∙ ap (λ (bs : List ℕ). bs ++ q.0) p.1 ∙ append_assoc first p.0 q.0)

-- what was appended is cut off again
pub cut_back : (old new : List ℕ) (kept : ℕ) → Extends old new → kept ≡ length old → take kept new ≡ old
cut_back old new kept more is = ap (take kept) more.1 ∙ take_at old more.0 kept (sym is)

pub types_more : (values : List Value) (i types more : ℕ) (value : Value) → i < length values → value ≡ get_or values i value → types ≡ length (types_text (take i values))
    → more ≡ types + shortest_size (type_of value) → more ≡ length (types_text (take (i + 1) values))
types_more values i types more value below at is counted =
    rw (take_more values i value below, ← at, flat_map-append (λ v. shortest_varint (type_of v)) (take i values) (value ∷ []))
    (omega (arith, length-append (types_text (take i values)) (shortest_varint (type_of value) ++ []), length-append (shortest_varint (type_of value)) [], length-shortest_varint (type_of value)))

pub bodies_more : (values : List Value) (i bodies more : ℕ) (value : Value) → i < length values → value ≡ get_or values i value → bodies ≡ length (bodies_text (take i values))
    → IsWritable value → more ≡ bodies + body_size (type_of value) → more ≡ length (bodies_text (take (i + 1) values))
bodies_more values i bodies more value below at is writable counted =
    let body = written_body value writable.integer_fits in
    rw (take_more values i value below, ← at, flat_map-append body_of (take i values) (value ∷ []))
    (omega (arith, length-append (bodies_text (take i values)) (body_of value ++ []), length-append (body_of value) [], body.size))

pub writable_more : (values : List Value) (i : ℕ) (value : Value) → i < length values → value ≡ get_or values i value → All IsWritable (take i values)
    → IsWritable value → All IsWritable (take (i + 1) values)
writable_more values i value below at all writable =
    rw (take_more values i value below, ← at) (All-push IsWritable (take i values) value all writable)

pub record_appended : {T E : Type 0} (answer : Result T E) (row values : List Value) (header : ℕ) (old first second third : List ℕ) → values ≡ row
    → header ≡ header_size (length (types_text values)) → first ≡ old ++ shortest_varint header → second ≡ first ++ types_text values
    → OnOk answer (third ≡ second ++ bodies_text values) → OnOk answer (third ≡ old ++ record_text row)
unfolding record_text
record_appended answer row values header old first second third same counted head types bodies =
    on_ok_weaker answer (λ is. is ∙ rw (types, head, counted, same) (simp append_assoc)) bodies

pub record_reads_back : {T E : Type 0} (P : Type 0) (answer : Result T E) (row values : List Value) (header : ℕ) → values ≡ row → header ≡ header_size (length (types_text values))
    → header < 2 ^ 64 → All IsWritable values → OnOk answer P → OnOk answer ((rest : List ℕ) → IsRecord (record_text row ++ rest) row)
record_reads_back P answer row values header same counted small all ok =
    on_ok_weaker answer (λ _ rest. subst (λ (r : List Value). IsRecord (record_text r ++ rest) r) same (reads_back values rest all (omega arith))) ok

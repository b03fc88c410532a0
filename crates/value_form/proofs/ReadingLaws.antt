-- A record is read in one way alone; and what each step of a reader adds.
use Rattle.std.proofs.Common.{◌≡◌, ℕ, ◌+◌, ◌-◌, ◌^◌, ◌<◌, ◌≤◌, ◌⊎◌, min, List, [], ◌∷◌, ◌++◌, length, take, drop, Bool, true, false, refl, sym, ap, subst, ◌∙◌, inl, inr, arith, length-take, length-drop, Option, Some, None, Result, Ok, Err, cond, add-zero, suc}
use Rattle.std.specs.Prelude.{IsTrue, IfOk, IfErr, is_some, ◌==◌}
use Rattle.std.specs.List.{position_from}
use Rattle.std.proofs.lemmas.Bool.{ne_eqb}
use Rattle.std.proofs.lemmas.Bool.Decides.{nat_tests}
use Rattle.std.proofs.lemmas.List.{drop-drop, drop_all, take_rest}
use Rattle.std.proofs.lemmas.List.Sums.{sum_by-cons, sum_by_push}
use Rattle.std.proofs.lemmas.Iterator.Adapters.{position_from-zero}
use Rattle.page_spec.specs.Varint.{varint_size, varint_number}
use Rattle.page_spec.proofs.VarintLaws.{varint_size_bounds}
use Rattle.value_form.specs.declared.value.Value.{Value}
use Rattle.value_form.specs.declared.fault.RecordFault.{RecordFault}
use Rattle.value_form.specs.declared.fault.RecordFault.TheVariants.{BadHeader, Short, Float, Memory}
use Rattle.value_form.specs.Serial.{body_size, value_of}
use Rattle.value_form.specs.Record.{has_header, header_from, bodies_in, begins_with_type, BeginsWithTypes, HasTypes, bodies_size, first_float, values_of, IsRecord, BreaksHeader, IsRefused, IsOrMemory}
use Rattle.value_form.specs.Reading.{IsTakenOf, IsLeft}
use Rattle.value_form.specs.declared.read.Taken.{Taken}

-- The header.

no_type_in_nothing : begins_with_type [] ≡ false
unfolding begins_with_type
no_type_in_nothing = let some = varint_size_bounds [] in grind (arith, nat_tests)

-- one more serial type
pub types_more : (bytes types rest : List ℕ) (type : ℕ) → BeginsWithTypes bytes types rest → IsTrue (begins_with_type rest) → varint_number rest ≡ type
    → BeginsWithTypes bytes (types ++ type ∷ []) (drop (varint_size rest) rest)
types_more bytes [] rest type is begins number = subst (λ (from : List ℕ). BeginsWithTypes from (type ∷ []) (drop (varint_size rest) rest)) (sym is) (begins, number, refl)
types_more bytes (first ∷ types) rest type is begins number = (is.0, is.1, types_more (drop (varint_size bytes) bytes) types rest type is.2 begins number)

-- the serial types up to where there is none are the only ones
types_once : (bytes xs ys left rest : List ℕ) → BeginsWithTypes bytes xs left → BeginsWithTypes bytes ys rest
    → begins_with_type left ≡ false → begins_with_type rest ≡ false → (xs ≡ ys) × (left ≡ rest)
types_once bytes [] [] left rest p q ends stops = (refl, sym p ∙ q)
types_once bytes [] (y ∷ ys) left rest p q ends stops = let none : begins_with_type bytes ≡ false = ap begins_with_type p ∙ ends in absurd (cc (q.0, none))
types_once bytes (x ∷ xs) [] left rest p q ends stops = let none : begins_with_type bytes ≡ false = ap begins_with_type q ∙ stops in absurd (cc (p.0, none))
types_once bytes (x ∷ xs) (y ∷ ys) left rest p q ends stops =
    let later = types_once (drop (varint_size bytes) bytes) xs ys left rest p.2 q.2 ends stops in
    let first : x ≡ y = sym p.1 ∙ q.1 in
    (cc (first, later.0), later.1)

has_types_once : (bytes xs ys : List ℕ) → HasTypes bytes xs → HasTypes bytes ys → xs ≡ ys
has_types_once bytes xs ys p q = (types_once _ xs ys [] [] p.spelled q.spelled no_type_in_nothing no_type_in_nothing).0

-- a serial type at the front is whole
pub type_within : (bytes : List ℕ) → begins_with_type bytes ≡ true → varint_size bytes ≤ length bytes
unfolding begins_with_type
type_within bytes h = grind (arith, nat_tests)

-- the header's size is at most that of the record
header_within : (bytes : List ℕ) → has_header bytes ≡ true → (varint_size bytes ≤ varint_number bytes) × (varint_number bytes ≤ length bytes)
unfolding has_header
header_within bytes h = (grind (arith, nat_tests), grind (arith, nat_tests))

pub header_left : (bytes : List ℕ) (at : ℕ) → has_header bytes ≡ true → length (header_from bytes at) ≡ varint_number bytes - at
header_left bytes at h =
    let within = header_within bytes h in omega (arith, length-drop at (take (varint_number bytes) bytes), length-take (varint_number bytes) bytes)

-- a record with a header breaks it nowhere
no_break : (bytes types : List ℕ) (at : ℕ) → HasTypes bytes types → BreaksHeader bytes at → ⊥
no_break bytes types at has (inl none) = absurd (cc (has.size, none.0))
no_break bytes types at has (inr breaks) =
    let same = types_once _ types breaks.before [] (header_from bytes at) has.spelled breaks.spelled no_type_in_nothing breaks.broken in
    let none : 0 ≡ length (header_from bytes at) = ap length same.1 in
    omega (arith, header_left bytes at has.size, breaks.inside)

break_once : (bytes : List ℕ) (at place : ℕ) → BreaksHeader bytes at → BreaksHeader bytes place → at ≡ place
break_once bytes at place (inl p) (inl q) = p.1 ∙ sym q.1
break_once bytes at place (inl p) (inr q) = absurd (cc (p.0, q.size))
break_once bytes at place (inr p) (inl q) = absurd (cc (q.0, p.size))
break_once bytes at place (inr p) (inr q) =
    let same = types_once _ p.before q.before (header_from bytes at) (header_from bytes place) p.spelled q.spelled p.broken q.broken in
    let long : length (header_from bytes at) ≡ length (header_from bytes place) = ap length same.1 in
    omega (arith, header_left bytes at p.size, header_left bytes place p.size, p.inside, q.inside)

-- Each answer is the only one.

pub record_once : (bytes : List ℕ) (row other : List Value) → IsRecord bytes row → IsRecord bytes other → row ≡ other
record_once bytes row other p q =
    let types = has_types_once bytes p.types q.types p.header q.header in
    sym p.values ∙ ap (λ (ts : List ℕ). values_of ts (bodies_in bytes)) types ∙ q.values

pub record_or_fault : (bytes : List ℕ) (row : List Value) (fault : RecordFault) → IsRecord bytes row → IsRefused bytes fault → ⊥
record_or_fault bytes row (BadHeader at) p q = no_break bytes p.types at p.header q
record_or_fault bytes row (Short need) p q =
    let size = ap bodies_size (has_types_once bytes p.types q.types p.header q.header) in omega (arith, size, p.whole, q.short)
record_or_fault bytes row (Float column) p q =
    let float = ap first_float (has_types_once bytes p.types q.types p.header q.header) in
    cc (float, p.no_float, q.first)
record_or_fault bytes row Memory p q = q

pub fault_once : (bytes : List ℕ) (fault other : RecordFault) → IsRefused bytes fault → IsRefused bytes other → fault ≡ other
fault_once bytes (BadHeader at) (BadHeader place) p q = ap BadHeader (break_once bytes at place p q)
fault_once bytes (BadHeader at) (Short need) p q = absurd (no_break bytes q.types at q.header p)
fault_once bytes (BadHeader at) (Float column) p q = absurd (no_break bytes q.types at q.header p)
fault_once bytes (BadHeader at) Memory p q = absurd q
fault_once bytes (Short need) (BadHeader at) p q = absurd (no_break bytes p.types at p.header q)
fault_once bytes (Short need) (Short more) p q =
    let size = ap bodies_size (has_types_once bytes p.types q.types p.header q.header) in
    ap Short (p.told ∙ ap (λ (n : ℕ). min n (2 ^ 64 - 1)) size ∙ sym q.told)
fault_once bytes (Short need) (Float column) p q =
    let size = ap bodies_size (has_types_once bytes p.types q.types p.header q.header) in absurd (omega (arith, size, p.short, q.whole))
fault_once bytes (Short need) Memory p q = absurd q
fault_once bytes (Float column) (BadHeader at) p q = absurd (no_break bytes p.types at p.header q)
fault_once bytes (Float column) (Short need) p q =
    let size = ap bodies_size (has_types_once bytes p.types q.types p.header q.header) in absurd (omega (arith, size, q.short, p.whole))
fault_once bytes (Float column) (Float other) p q =
    let float = ap first_float (has_types_once bytes p.types q.types p.header q.header) in
    let told : Some column ≡ Some other = sym p.first ∙ float ∙ q.first in cc
fault_once bytes (Float column) Memory p q = absurd q
fault_once bytes Memory other p q = absurd p

-- The values.

pub length-values_of : (types bodies : List ℕ) → length (values_of types bodies) ≡ length types
length-values_of [] bodies = refl
length-values_of (type ∷ types) bodies = ap suc (length-values_of types (drop (body_size type) bodies))

pub values_more : (types bodies : List ℕ) (type : ℕ)
    → values_of (types ++ type ∷ []) bodies ≡ values_of types bodies ++ value_of type (take (body_size type) (drop (bodies_size types) bodies)) ∷ []
values_more [] bodies type = refl
values_more (first ∷ types) bodies type =
    let step = values_more types (drop (body_size first) bodies) type in
    let place = drop-drop (bodies_size types) (body_size first) bodies in
    rw (sum_by-cons body_size first types, ← place) (ap (λ (vs : List Value). value_of first (take (body_size first) bodies) ∷ vs) step)

-- The first float.

abbrev is_float : ℕ → Bool
is_float type = type == 7

none_before : (b : Bool) (at : ℕ) (rest : Option ℕ) → cond b (Some at) rest ≡ None → (b ≡ false) × (rest ≡ None)
none_before true at rest h = absurd (cc)
none_before false at rest h = (refl, h)

some_before : (b : Bool) (at column : ℕ) (rest more : Option ℕ) → cond b (Some at) rest ≡ Some column → (rest ≡ Some column → more ≡ Some column)
    → cond b (Some at) more ≡ Some column
some_before true at column rest more h step = h
some_before false at column rest more h step = step h

float_from_none : (types : List ℕ) (at type : ℕ) → position_from is_float at types ≡ None
    → position_from is_float at (types ++ type ∷ []) ≡ cond (is_float type) (Some (at + length types)) None
float_from_none [] at type none = rw add-zero refl
float_from_none (first ∷ types) at type none =
    let parts = none_before (is_float first) at (position_from is_float (at + 1) types) none in
    let place : at + 1 + length types ≡ at + suc (length types) = omega arith in
    rw parts.0 (float_from_none types (at + 1) type parts.1 ∙ ap (λ (k : ℕ). cond (is_float type) (Some k) None) place)

float_from_some : (types : List ℕ) (at type column : ℕ) → position_from is_float at types ≡ Some column
    → position_from is_float at (types ++ type ∷ []) ≡ Some column
float_from_some [] at type column some = absurd (cc)
float_from_some (first ∷ types) at type column some =
    some_before (is_float first) at column _ _ some (float_from_some types (at + 1) type column)

pub float_none : (types : List ℕ) (type : ℕ) → first_float types ≡ None → first_float (types ++ type ∷ []) ≡ cond (type == 7) (Some (length types)) None
float_none types type none =
    let start : 0 + length types ≡ length types = omega arith in
    position_from-zero is_float (types ++ type ∷ []) ∙ float_from_none types 0 type (sym (position_from-zero is_float types) ∙ none)
    ∙ ap (λ (k : ℕ). cond (is_float type) (Some k) None) start

pub float_some : (types : List ℕ) (type column : ℕ) → first_float types ≡ Some column → first_float (types ++ type ∷ []) ≡ Some column
float_some types type column some =
    position_from-zero is_float (types ++ type ∷ []) ∙ float_from_some types 0 type column (sym (position_from-zero is_float types) ∙ some)

-- What one more serial type gives.

need_more : (types : List ℕ) (serial before need : ℕ) → before ≡ min (bodies_size types) (2 ^ 64 - 1) → need ≡ min (before + body_size serial) (2 ^ 64 - 1)
    → need ≡ min (bodies_size (types ++ serial ∷ [])) (2 ^ 64 - 1)
need_more types serial before need was is = let sum = sum_by_push body_size types serial in omega arith

pub taken_float : (taken : Taken) (types bodies : List ℕ) (serial need : ℕ) → IsTakenOf taken types bodies
    → need ≡ min (taken.need + body_size serial) (2 ^ 64 - 1) → need ≤ length bodies → length bodies < 2 ^ 32 → taken.float ≡ None → serial ≡ 7
    → IsTakenOf (record { row = taken.row; need = need; float = Some (length taken.row) }) (types ++ serial ∷ []) bodies
taken_float taken types bodies serial need is more fits small none seven =
    let sum = sum_by_push body_size types serial in
    let before : bodies_size types ≤ length bodies = omega (arith, is.need_is) in
    let no_float : first_float types ≡ None = sym (is.float_is before) ∙ none in
    let count : length taken.row ≡ length types = ap length (is.row_is before no_float) ∙ length-values_of types bodies in
    let found : first_float (types ++ serial ∷ []) ≡ Some (length types) = float_none types serial no_float ∙ rw seven refl in
    record {
      need_is = need_more types serial taken.need need is.need_is more;
      float_is = λ _. ap Some count ∙ sym found;
      row_is = λ _ nothing. absurd (cc (nothing, found));
    }

pub taken_value : (taken : Taken) (types bodies : List ℕ) (serial need : ℕ) (value : Value) → IsTakenOf taken types bodies
    → need ≡ min (taken.need + body_size serial) (2 ^ 64 - 1) → need ≤ length bodies → length bodies < 2 ^ 32 → taken.float ≡ None → (serial ≡ 7 → ⊥)
    → value ≡ value_of serial (take (need - taken.need) (drop taken.need bodies))
    → IsTakenOf (record { row = taken.row ++ value ∷ []; need = need; float = taken.float }) (types ++ serial ∷ []) bodies
taken_value taken types bodies serial need value is more fits small none other given =
    let sum = sum_by_push body_size types serial in
    let before : bodies_size types ≤ length bodies = omega (arith, is.need_is) in
    let no_float : first_float types ≡ None = sym (is.float_is before) ∙ none in
    let place : taken.need ≡ bodies_size types = omega (arith, is.need_is) in
    let size : need - taken.need ≡ body_size serial = omega (arith, is.need_is) in
    let still : first_float (types ++ serial ∷ []) ≡ None = float_none types serial no_float ∙ rw (ne_eqb serial 7 other) refl in
    record {
      need_is = need_more types serial taken.need need is.need_is more;
      float_is = λ _. none ∙ sym still;
      row_is = λ _ _. rw (is.row_is before no_float, given, size, place) (sym (values_more types bodies serial));
    }

pub no_float_yet : (float : Option ℕ) → false ≡ is_some float → float ≡ None
no_float_yet None h = refl
no_float_yet (Some column) h = absurd (cc)

-- What a reader has once all serial types are taken.

pub left_row : (taken : Taken) (bytes types : List ℕ) (row : List Value) → IsTakenOf taken types (bodies_in bytes) → HasTypes bytes types → length (bodies_in bytes) < 2 ^ 32
    → (taken.need ≤ length (bodies_in bytes)) × (taken.float ≡ None) × (row ≡ taken.row) → IsRecord bytes row
left_row taken bytes types row is has small left =
    let whole : bodies_size types ≤ length (bodies_in bytes) = omega (arith, is.need_is, left.0) in
    let no_float : first_float types ≡ None = sym (is.float_is whole) ∙ left.1 in
    record {
      types = types;
      header = has;
      whole = whole;
      no_float = no_float;
      values = sym (left.2 ∙ is.row_is whole no_float);
    }

pub left_fault : (taken : Taken) (bytes types : List ℕ) (fault : RecordFault) → IsTakenOf taken types (bodies_in bytes) → HasTypes bytes types → length (bodies_in bytes) < 2 ^ 32
    → IsLeft taken (bodies_in bytes) fault → IsRefused bytes fault
left_fault taken bytes types (BadHeader at) is has small left = absurd left
left_fault taken bytes types (Short need) is has small left =
    record {
      types = types;
      header = has;
      short = omega (arith, is.need_is, left.0);
      told = left.1 ∙ is.need_is;
    }
left_fault taken bytes types (Float column) is has small left =
    let whole : bodies_size types ≤ length (bodies_in bytes) = omega (arith, is.need_is, left.0) in
    record {
      types = types;
      header = has;
      whole = whole;
      first = sym (is.float_is whole) ∙ left.1;
    }
left_fault taken bytes types Memory is has small left = absurd left

-- The reader's place in the header.

-- the rest of the header, as a slice from an offset on shows it
pub left_is : (bytes header : List ℕ) (size at : ℕ) → header ≡ take size bytes → size ≡ varint_number bytes
    → take (length header - at) (drop at header) ≡ header_from bytes at
left_is bytes header size at front number = take_rest header at ∙ ap (drop at) (front ∙ ap (λ (n : ℕ). take n bytes) number)

pub types_step : (bytes types from : List ℕ) (at serial len : ℕ) → BeginsWithTypes (header_from bytes (varint_size bytes)) types (header_from bytes at)
    → from ≡ header_from bytes at → (begins_with_type from ≡ true) × (serial ≡ varint_number from) × (len ≡ varint_size from)
    → BeginsWithTypes (header_from bytes (varint_size bytes)) (types ++ serial ∷ []) (header_from bytes (at + len))
types_step bytes types from at serial len before is found =
    let left = header_from bytes at in
    let begins : begins_with_type left ≡ true = ap begins_with_type (sym is) ∙ found.0 in
    let number : varint_number left ≡ serial = ap varint_number (sym is) ∙ sym found.1 in
    let size : len ≡ varint_size left = found.2 ∙ ap varint_size is in
    let more = types_more (header_from bytes (varint_size bytes)) types left serial before begins number in
    let next : drop (varint_size left) left ≡ header_from bytes (at + len) =
    ap (λ (n : ℕ). drop n left) (sym size) ∙ drop-drop len at (take (varint_number bytes) bytes) in
    subst (BeginsWithTypes (header_from bytes (varint_size bytes)) (types ++ serial ∷ [])) next more

pub header_done : (bytes types : List ℕ) (at : ℕ) → has_header bytes ≡ true → BeginsWithTypes (header_from bytes (varint_size bytes)) types (header_from bytes at)
    → varint_number bytes ≤ at → HasTypes bytes types
header_done bytes types at has before past =
    let none : header_from bytes at ≡ [] = drop_all at (take (varint_number bytes) bytes) (omega (arith, length-take (varint_number bytes) bytes)) in
    record { size = has; spelled = subst (BeginsWithTypes (header_from bytes (varint_size bytes)) types) none before }

pub type_breaks : (bytes types from : List ℕ) (at : ℕ) → has_header bytes ≡ true → BeginsWithTypes (header_from bytes (varint_size bytes)) types (header_from bytes at)
    → from ≡ header_from bytes at → at < varint_number bytes → begins_with_type from ≡ false → BreaksHeader bytes at
type_breaks bytes types from at has before is inside broken =
    inr (record {
      size = has;
      inside = inside;
      before = types;
      spelled = before;
      broken = ap begins_with_type (sym is) ∙ broken;
    })

pub read_row : (taken : Taken) (bytes types bodies : List ℕ) (answer : Result (List Value) RecordFault) → HasTypes bytes types → bodies ≡ bodies_in bytes
    → IsTakenOf taken types bodies → length bodies < 2 ^ 32
    → IfOk answer (λ row. (taken.need ≤ length bodies) × (taken.float ≡ None) × (row ≡ taken.row)) → IfOk answer (IsRecord bytes)
read_row taken bytes types bodies (Ok row) has at is small left =
    left_row taken bytes types row (subst (IsTakenOf taken types) at is) has (omega (arith, ap length at))
    (omega (arith, ap length at, left.0), left.1, left.2)
read_row taken bytes types bodies (Err fault) has at is small left = tt

pub read_fault : (taken : Taken) (bytes types bodies : List ℕ) (answer : Result (List Value) RecordFault) → HasTypes bytes types → bodies ≡ bodies_in bytes
    → IsTakenOf taken types bodies → length bodies < 2 ^ 32
    → IfErr answer (IsLeft taken bodies) → IfErr answer (λ fault. (fault ≡ Memory) ⊎ IsRefused bytes fault)
read_fault taken bytes types bodies (Ok row) has at is small left = tt
read_fault taken bytes types bodies (Err fault) has at is small left =
    inr (left_fault taken bytes types fault (subst (IsTakenOf taken types) at is) has (omega (arith, ap length at)) (subst (λ (bs : List ℕ). IsLeft taken bs fault) at left))

-- Answers of a reader.

pub only_row : (bytes : List ℕ) (row : List Value) (answer : Result (List Value) RecordFault) → IfOk answer (IsRecord bytes)
    → IfErr answer (λ fault. (fault ≡ Memory) ⊎ IsRefused bytes fault) → IsRecord bytes row → IsOrMemory answer (Ok row)
only_row bytes row (Ok read) ok err is = inl (ap Ok (record_once bytes read row ok is))
only_row bytes row (Err fault) ok (inl memory) is = inr (ap Err memory)
only_row bytes row (Err fault) ok (inr refused) is = absurd (record_or_fault bytes row fault is refused)

pub only_fault : (bytes : List ℕ) (fault : RecordFault) (answer : Result (List Value) RecordFault) → IfOk answer (IsRecord bytes)
    → IfErr answer (λ other. (other ≡ Memory) ⊎ IsRefused bytes other) → IsRefused bytes fault → IsOrMemory answer (Err fault)
only_fault bytes fault (Ok read) ok err is = absurd (record_or_fault bytes read fault ok is)
only_fault bytes fault (Err other) ok (inl memory) is = inr (ap Err memory)
only_fault bytes fault (Err other) ok (inr refused) is = inl (ap Err (fault_once bytes other fault refused is))

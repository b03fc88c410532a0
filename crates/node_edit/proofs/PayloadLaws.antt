-- The text of a leaf's cell, put together: varints, the front of a payload, and a number where that isn't all of it.
use Rattle.std.proofs.Common.{◌≡◌, ℕ, ℤ, ◌+◌, ◌-◌, ◌*◌, ◌/◌, ◌^◌, ◌<◌, ◌≤◌, nat_le, Bool, true, false, if◌then◌else◌, max, List, ◌++◌, length, take, drop, slice_range, Option, Some, None, is_some, Result, Ok, Err, OnOk, refl, sym, ap, subst, ◌∙◌, inl, arith, append_assoc, length-append}
use Rattle.std.proofs.lemmas.List.{length-take-le}
use Rattle.std.proofs.lemmas.Bool.Decides.{nat_tests}
use Rattle.std.proofs.lemmas.Grind.{common_steps}
use Rattle.std.proofs.Math.Nat.{div-le_of_le-mul}
use Rattle.std.proofs.Math.Seq.{drop-append_seam, take-append_seam}
use Rattle.std.specs.Int.{cast_signed, cast_unsigned, w64}
use Rattle.page_spec.specs.Bytes.{u32_at}
use Rattle.page_spec.specs.Varint.{varint_size, varint_number, shortest_varint}
use Rattle.page_spec.proofs.VarintLaws.{shortest_varint_begins, length-shortest_varint}
use Rattle.node_spec.specs.declared.kinds.Kind.{Kind}
use Rattle.node_spec.specs.declared.kinds.Kind.TheVariants.{IndexLeaf, TableLeaf}
use Rattle.node_spec.specs.Kinds.{is_leaf, is_table}
use Rattle.node_spec.specs.Cells.{NodeCell, most_local, least_local, fitted_local, left_size, keys_size, payload_in, rowid_in, body_size, stored_size, local_size, spills, payload_at, cell_in}
use Rattle.node_edit.specs.Payloads.{leaf_kind, key_of, keys_text, KeyFits, Ends, IsLeafCell}
use Rattle.node_edit.proofs.UpKeys.{number_behind, overflow_same}

-- A cell doesn't store more than the payload has.
above_most : (table : Bool) (usable payload : ℕ) → spills table usable payload ≡ true → most_local table usable < payload
unfolding spills
above_most table usable payload large = grind (arith, common_steps, nat_tests)

least_most : (table : Bool) (usable : ℕ) → least_local usable ≤ most_local table usable
unfolding least_local most_local
least_most true usable =
    let part : (usable - 12) * 32 / 255 ≤ usable - 12 = div-le_of_le-mul 255 (omega arith) in omega (arith, part)
least_most false usable =
    let part : (usable - 12) * 32 / 255 ≤ (usable - 12) * 64 / 255 = omega arith in omega (arith, part)

pub local_within : (table : Bool) (usable payload : ℕ) → local_size table usable payload ≤ payload
unfolding local_size
local_within table usable payload = by_spill (spills table usable payload) refl
  where
    by_fitted : spills table usable payload ≡ true → most_local table usable < payload → (fits : Bool) → nat_le (fitted_local usable payload) (most_local table usable) ≡ fits
        → local_size table usable payload ≤ payload
    by_fitted large less true is =
        let most : fitted_local usable payload ≤ most_local table usable = grind (arith, common_steps, nat_tests) in rw (large, is) (omega (arith, most, less))
    by_fitted large less false is = rw (large, is) (omega (arith, least_most table usable, less))

    by_spill : (large : Bool) → spills table usable payload ≡ large → local_size table usable payload ≤ payload
    by_spill true is = by_fitted is (above_most table usable payload is) (nat_le (fitted_local usable payload) (most_local table usable)) refl
    by_spill false is = rw is (omega arith)

-- What stands in front of the payload of a leaf's cell.
pub record HasKeys (kind : Kind) (text keys rest : List ℕ) (size : ℕ) (rowid : ℤ) : Type 0 where
  pub text_is : text ≡ keys ++ rest
  pub leaf : is_leaf kind ≡ true
  pub none : left_size kind ≡ 0
  pub used : keys_size kind text ≡ length keys
  pub payload : payload_in kind text ≡ size
  pub rowid_is : cast_signed w64 (rowid_in kind text) ≡ rowid

-- a varint in front of others
pub record StandsInFront (front rest : List ℕ) (number : ℕ) : Type 0 where
  pub used : varint_size (front ++ rest) ≡ length front
  pub spelled : varint_number (front ++ rest) ≡ number
  pub behind : drop (varint_size (front ++ rest)) (front ++ rest) ≡ rest

in_front : (number : ℕ) (rest : List ℕ) → number < 2 ^ 64 → StandsInFront (shortest_varint number) rest number
in_front number rest fits =
    let begins = shortest_varint_begins number fits rest in
    let used : varint_size (shortest_varint number ++ rest) ≡ length (shortest_varint number) = begins.used ∙ sym (length-shortest_varint number) in
    record {
      used = used;
      spelled = begins.spelled;
      behind = ap (λ n. drop n (shortest_varint number ++ rest)) used ∙ drop-append_seam (shortest_varint number) rest;
    }

entry_keys : (size : ℕ) (rest : List ℕ) → size < 2 ^ 64 → HasKeys IndexLeaf (shortest_varint size ++ rest) (shortest_varint size) rest size (cast_signed w64 0)
unfolding keys_size payload_in rowid_in
entry_keys size rest fits =
    let front = in_front size rest fits in
    record { text_is = refl; leaf = refl; none = refl; used = front.used; payload = front.spelled; rowid_is = refl }

row_keys : (size bits : ℕ) (rowid : ℤ) (rest : List ℕ) → size < 2 ^ 64 → bits < 2 ^ 64 → cast_signed w64 bits ≡ rowid
    → HasKeys TableLeaf (shortest_varint size ++ (shortest_varint bits ++ rest)) (shortest_varint size ++ shortest_varint bits) rest size rowid
unfolding keys_size payload_in rowid_in
row_keys size bits rowid rest fits few same =
    let one = in_front size (shortest_varint bits ++ rest) fits in
    let two = in_front bits rest few in
    record {
      text_is = sym (append_assoc (shortest_varint size) (shortest_varint bits) rest);
      leaf = refl;
      none = refl;
      used = rw one.behind (omega (arith, one.used, two.used, length-append (shortest_varint size) (shortest_varint bits)));
      payload = one.spelled;
      rowid_is = rw (one.behind, two.spelled) same;
    }

front_there : (keys front tail text : List ℕ) → text ≡ keys ++ (front ++ tail) → slice_range text (length keys) (length keys + length front) ≡ front
front_there keys front tail text is =
    let n : length keys + length front - length keys ≡ length front = omega arith in
    rw (n, is, drop-append_seam keys (front ++ tail)) (take-append_seam front tail)

number_there : (keys front tail text : List ℕ) → text ≡ keys ++ (front ++ tail) → u32_at text (length keys + length front) ≡ u32_at tail 0
number_there keys front tail text is =
    let at : u32_at text (length keys + length front) ≡ u32_at (drop (length keys) text) (length front) = number_behind text (length keys) (length front) in
    let behind : drop (length keys) text ≡ front ++ tail = ap (drop (length keys)) is ∙ drop-append_seam keys (front ++ tail) in
    let here : u32_at (front ++ tail) (length front + 0) ≡ u32_at (drop (length front) (front ++ tail)) 0 = number_behind (front ++ tail) (length front) 0 in
    let same : length front + 0 ≡ length front = omega arith in
    at ∙ ap (λ xs. u32_at xs (length front)) behind ∙ ap (u32_at (front ++ tail)) (sym same) ∙ here ∙ ap (λ xs. u32_at xs 0) (drop-append_seam front tail)

long_by : (large : Bool) (first : ℕ) (tail : List ℕ) → Ends large first tail → length tail ≡ (if large then 4 else 0)
long_by true first tail ends = (ends.some refl).0
long_by false first tail ends = ends.none refl

-- the bytes are one cell
made_one : (kind : Kind) (usable size : ℕ) (rowid : ℤ) (text keys front tail : List ℕ) (first : ℕ) → HasKeys kind text keys (front ++ tail) size rowid
    → length front ≡ local_size (is_table kind) usable size → Ends (spills (is_table kind) usable size) first tail
    → left_size kind + body_size kind usable (drop (left_size kind) text) ≡ length text
unfolding body_size stored_size
made_one kind usable size rowid text keys front tail first has local ends =
    let long = long_by (spills (is_table kind) usable size) first tail ends in
    let all : length text ≡ length keys + (length front + length tail) =
    ap length has.text_is ∙ length-append keys (front ++ tail) ∙ ap (λ n. length keys + n) (length-append front tail) in
    rw (has.none, has.used, has.payload, sym local, sym long) (omega (arith, all))

zero_first : (n : ℕ) → 0 + n ≡ n
zero_first n = omega arith

-- and this one
made_cell : (kind : Kind) (usable size : ℕ) (rowid : ℤ) (text keys front tail : List ℕ) (first : ℕ) → HasKeys kind text keys (front ++ tail) size rowid
    → length front ≡ local_size (is_table kind) usable size → Ends (spills (is_table kind) usable size) first tail
    → cell_in kind usable text ≡ record {
      left = 0;
      rowid = rowid;
      payload = size;
      local = front;
      overflow = if spills (is_table kind) usable size then first else 0;
      size = max 4 (length text);
    }
unfolding cell_in payload_at
made_cell kind usable size rowid text keys front tail first has local ends =
    let local_is : slice_range text (length keys) (length keys + length front) ≡ front = front_there keys front tail text has.text_is in
    let over : (if spills (is_table kind) usable size then u32_at text (length keys + length front) else 0) ≡ (if spills (is_table kind) usable size then first else 0) =
    overflow_same (spills (is_table kind) usable size) (u32_at text (length keys + length front)) first
    (λ large. number_there keys front tail text has.text_is ∙ (ends.some large).1) in
    rw (has.leaf, has.none, has.used, has.payload, has.rowid_is, sym local, zero_first (length keys)) (λ i. record {
      left = 0;
      rowid = rowid;
      payload = size;
      local = local_is i;
      overflow = over i;
      size = max 4 (length text);
    })

-- the cell with so many bytes of the payload in it
cell_with : (usable : ℕ) → Option ℤ → (payload : List ℕ) → (local first long : ℕ) → NodeCell
cell_with usable rowid payload local first long = record {
  left = 0;
  rowid = key_of rowid;
  payload = length payload;
  local = take local payload;
  overflow = if spills (is_table (leaf_kind rowid)) usable (length payload) then first else 0;
  size = max 4 long;
}

-- a text of a row's cell, or an entry's
leaf_made : (usable : ℕ) (rowid : Option ℤ) (payload text tail : List ℕ) (first local : ℕ) → length payload < 2 ^ 64
    → KeyFits rowid
    → local ≡ local_size (is_table (leaf_kind rowid)) usable (length payload) → local ≤ length payload
    → Ends (spills (is_table (leaf_kind rowid)) usable (length payload)) first tail
    → text ≡ keys_text (length payload) rowid ++ (take local payload ++ tail) → IsLeafCell usable rowid payload first text
unfolding cell_with
leaf_made usable None payload text tail first local fits bits local_is within ends is =
    let front = take local payload in
    let has : HasKeys IndexLeaf text (shortest_varint (length payload)) (front ++ tail) (length payload) (cast_signed w64 0) =
    subst (λ t. HasKeys IndexLeaf t (shortest_varint (length payload)) (front ++ tail) (length payload) (cast_signed w64 0)) (sym is) (entry_keys (length payload) (front ++ tail) fits) in
    let long : length front ≡ local_size false usable (length payload) = length-take-le local payload within ∙ local_is in
    record {
      one = inl (made_one IndexLeaf usable (length payload) (cast_signed w64 0) text (shortest_varint (length payload)) front tail first has long ends);
      spells = made_cell IndexLeaf usable (length payload) (cast_signed w64 0) text (shortest_varint (length payload)) front tail first has long ends
          ∙ ap (λ n. cell_with usable None payload n first (length text)) local_is;
    }
leaf_made usable (Some rowid) payload text tail first local fits bits local_is within ends is =
    let front = take local payload in
    let keys = shortest_varint (length payload) ++ shortest_varint (cast_unsigned w64 rowid) in
    let begun = row_keys (length payload) (cast_unsigned w64 rowid) rowid (front ++ tail) fits bits.0 bits.1 in
    let whole : text ≡ shortest_varint (length payload) ++ (shortest_varint (cast_unsigned w64 rowid) ++ (front ++ tail)) = is ∙ append_assoc (shortest_varint (length payload)) (shortest_varint (cast_unsigned w64 rowid)) (front ++ tail) in
    let has : HasKeys TableLeaf text keys (front ++ tail) (length payload) rowid = subst (λ t. HasKeys TableLeaf t keys (front ++ tail) (length payload) rowid) (sym whole) begun in
    let long : length front ≡ local_size true usable (length payload) = length-take-le local payload within ∙ local_is in
    record {
      one = inl (made_one TableLeaf usable (length payload) rowid text keys front tail first has long ends);
      spells = made_cell TableLeaf usable (length payload) rowid text keys front tail first has long ends
          ∙ ap (λ n. cell_with usable (Some rowid) payload n first (length text)) local_is;
    }

table_is : (rowid : Option ℤ) → is_some rowid ≡ is_table (leaf_kind rowid)
table_is None = refl
table_is (Some rowid) = refl

-- a cell, as it is put together
pub leaf_put : (usable : ℕ) (rowid : Option ℤ) (payload text tail : List ℕ) (first local : ℕ) (table large : Bool) → table ≡ is_some rowid → local ≡ local_size table usable (length payload)
    → large ≡ spills table usable (length payload) → length payload < 2 ^ 64 → KeyFits rowid → Ends large first tail → text ≡ keys_text (length payload) rowid ++ (take local payload ++ tail)
    → IsLeafCell usable rowid payload first text
leaf_put usable rowid payload text tail first local table large is local_is large_is fits bits ends all =
    let same : table ≡ is_table (leaf_kind rowid) = is ∙ table_is rowid in
    leaf_made usable rowid payload text tail first local fits bits (local_is ∙ ap (λ t. local_size t usable (length payload)) same)
    (subst (λ n. n ≤ length payload) (sym local_is) (local_within table usable (length payload)))
    (subst (λ b. Ends b first tail) (large_is ∙ ap (λ t. spills t usable (length payload)) same) ends) all

-- what holds anyway holds where a call went well
pub when_ok : {T E : Type 0} (X : Type 0) (result : Result T E) → X → OnOk result X
when_ok X (Ok value) x = x
when_ok X (Err why) x = tt

-- What goes up from the cells of a divided page: the body of a cell, and its rowid.
use Rattle.std.proofs.Common.{◌≡◌, ℕ, ◌+◌, ◌-◌, ◌<◌, ◌≤◌, ◌&&◌, Bool, true, false, if◌then◌else◌, List, length, get_or, take, drop, slice_range, refl, sym, ap, subst, ◌∙◌, inl, inr, arith, length-drop, get_or-drop, drop-drop}
use Rattle.std.proofs.lemmas.List.{take_all, take-take, drop-take, length-take-le, get_or-take}
use Rattle.std.proofs.lemmas.Bool.Decides.{nat_tests}
use Rattle.std.proofs.lemmas.Grind.{common_steps}
use Rattle.page_spec.specs.Bytes.{u32_at}
use Rattle.page_spec.specs.Varint.{varint_size, varint_number}
use Rattle.page_spec.proofs.VarintLaws.{varint_size_bounds}
use Rattle.node_spec.specs.declared.kinds.Kind.{Kind}
use Rattle.node_spec.specs.declared.kinds.Kind.TheVariants.{IndexInner, TableInner, IndexLeaf, TableLeaf}
use Rattle.node_spec.specs.Kinds.{is_leaf, is_table}
use Rattle.node_spec.specs.Cells.{NodeCell, IsOneCell, spills, local_size, stored_size, left_size, keys_size, payload_in, rowid_in, body_size, cell_size, payload_at, cell_in}
use Rattle.node_spec.proofs.CellLaws.{varint_cut}
use Rattle.edit_spec.specs.Nodes.{SaysSame}
use Rattle.node_edit.specs.Keys.{LeadsTo}
use Rattle.node_edit.specs.Runs.{Spells}
use Rattle.node_edit.specs.Dividing.{IsRowKey, IsUpKey, body_in}

-- the body of a cell stands in its text
pub one_body : (kind : Kind) (usable : ℕ) (text : List ℕ) → IsOneCell kind usable text → left_size kind + body_size kind usable (drop (left_size kind) text) ≤ length text
unfolding cell_size
one_body kind usable text (inl plain) = omega (arith, plain)
one_body kind usable text (inr whole) = omega (arith, whole)

-- and is all of it where the text is longer than the shortest cell
pub one_long : (kind : Kind) (usable : ℕ) (text : List ℕ) → IsOneCell kind usable text → 4 < length text → left_size kind + body_size kind usable (drop (left_size kind) text) ≡ length text
unfolding cell_size
one_long kind usable text (inl plain) long = plain
one_long kind usable text (inr whole) long = omega (arith, whole, long)

keys_some : (kind : Kind) (body : List ℕ) → 1 ≤ keys_size kind body
unfolding keys_size
keys_some IndexInner body = (varint_size_bounds body).0
keys_some TableInner body = (varint_size_bounds body).0
keys_some IndexLeaf body = (varint_size_bounds body).0
keys_some TableLeaf body = omega (arith, (varint_size_bounds body).0)

body_some : (kind : Kind) (usable : ℕ) (body : List ℕ) → 1 ≤ body_size kind usable body
unfolding body_size
body_some kind usable body = omega (arith, keys_some kind body)

-- a cell that has a left child is longer than the shortest one
pub inner_long : (kind : Kind) (usable : ℕ) (text : List ℕ) → is_leaf kind ≡ false → IsOneCell kind usable text → 4 < length text
inner_long IndexInner usable text inner one = omega (arith, one_body IndexInner usable text one, body_some IndexInner usable (drop 4 text))
inner_long TableInner usable text inner one = omega (arith, one_body TableInner usable text one, body_some TableInner usable (drop 4 text))
inner_long IndexLeaf usable text inner one = absurd (cc)
inner_long TableLeaf usable text inner one = absurd (cc)

pub inner_body : (kind : Kind) (usable : ℕ) (text : List ℕ) → is_leaf kind ≡ false → IsOneCell kind usable text → take (length text - 4) (drop 4 text) ≡ body_in kind usable text
inner_body IndexInner usable text inner one =
    ap (λ n. take n (drop 4 text)) (omega (arith, one_long IndexInner usable text one (inner_long IndexInner usable text refl one)))
inner_body TableInner usable text inner one =
    ap (λ n. take n (drop 4 text)) (omega (arith, one_long TableInner usable text one (inner_long TableInner usable text refl one)))
inner_body IndexLeaf usable text inner one = absurd (cc)
inner_body TableLeaf usable text inner one = absurd (cc)

pub leaf_body : (kind : Kind) (usable : ℕ) (text : List ℕ) → is_leaf kind ≡ true → IsOneCell kind usable text → 4 < length text → text ≡ body_in kind usable text
leaf_body IndexInner usable text leaf one long = absurd (cc)
leaf_body TableInner usable text leaf one long = absurd (cc)
leaf_body IndexLeaf usable text leaf one long = sym (take_all (body_size IndexLeaf usable text) text (omega (arith, one_long IndexLeaf usable text one long)))
leaf_body TableLeaf usable text leaf one long = sym (take_all (body_size TableLeaf usable text) text (omega (arith, one_long TableLeaf usable text one long)))

pub index_leaf : (kind : Kind) → is_leaf kind ≡ true → is_leaf kind && is_table kind ≡ false → kind ≡ IndexLeaf
index_leaf IndexInner leaf other = absurd (cc)
index_leaf TableInner leaf other = absurd (cc)
index_leaf IndexLeaf leaf other = refl
index_leaf TableLeaf leaf other = absurd (cc)

-- the body of a short cell of an index's leaf
short_size : (usable : ℕ) (text : List ℕ) → length text ≤ 4 → IsOneCell IndexLeaf usable text → body_size IndexLeaf usable text ≡ varint_size text + varint_number text
unfolding body_size keys_size payload_in stored_size local_size
short_size usable text short one = by_spill (spills false usable (varint_number text)) refl (one_body IndexLeaf usable text one)
  where
    by_spill : (b : Bool) → spills false usable (varint_number text) ≡ b → 0 + body_size IndexLeaf usable text ≤ length text
        → body_size IndexLeaf usable text ≡ varint_size text + varint_number text
    by_spill false is within = rw is (omega arith)
    by_spill true is within = let e = rw is at within in absurd (omega (arith, e, short, (varint_size_bounds text).0))

pub short_body : (kind : Kind) (usable : ℕ) (text : List ℕ) → is_leaf kind ≡ true → is_leaf kind && is_table kind ≡ false → length text ≤ 4 → IsOneCell kind usable text
    → (varint_size text + varint_number text ≤ length text) × (take (varint_size text + varint_number text) text ≡ body_in kind usable text)
short_body kind usable text leaf other short one =
    let is = index_leaf kind leaf other in
    let here : IsOneCell IndexLeaf usable text = subst (λ (k : Kind). IsOneCell k usable text) is one in
    let size = short_size usable text short here in (
      omega (arith, size, one_body IndexLeaf usable text here),
      subst (λ (k : Kind). take (varint_size text + varint_number text) text ≡ body_in k usable text) (sym is) (ap (λ n. take n text) (sym size)),
    )

-- numbers and parts of a text from a place on, and in a front
pub number_behind : (xs : List ℕ) (a m : ℕ) → u32_at xs (a + m) ≡ u32_at (drop a xs) m
unfolding u32_at
number_behind xs a m =
    let at : (k : ℕ) → get_or (drop a xs) (m + k) 0 ≡ get_or xs (a + m + k) 0 = λ k. get_or-drop a xs (m + k) 0 ∙ ap (λ n. get_or xs n 0) (omega arith) in
    rw (get_or-drop a xs m 0, at 1, at 2, at 3) refl

number_front : (xs : List ℕ) (n m : ℕ) → m + 4 ≤ n → u32_at (take n xs) m ≡ u32_at xs m
unfolding u32_at
number_front xs n m room =
    rw (get_or-take n xs m 0 (omega arith), get_or-take n xs (m + 1) 0 (omega arith), get_or-take n xs (m + 2) 0 (omega arith), get_or-take n xs (m + 3) 0 (omega arith)) refl

pub range_behind : (xs : List ℕ) (a k l : ℕ) → slice_range xs (a + k) (a + k + l) ≡ take l (drop k (drop a xs))
range_behind xs a k l =
    let n : a + k + l - (a + k) ≡ l = omega arith in
    rw n (ap (take l) (sym (drop-drop k a xs)))

range_front : (xs : List ℕ) (n k l : ℕ) → k + l ≤ n → take l (drop k (take n xs)) ≡ take l (drop k xs)
range_front xs n k l room =
    let e : n ≡ k + (n - k) = omega arith in
    ap (λ m. take l (drop k (take m xs))) e ∙ ap (take l) (drop-take k (n - k) xs) ∙ take-take l (n - k) (drop k xs) (omega arith)

stored_parts : (table : Bool) (usable payload : ℕ) → (local_size table usable payload ≤ stored_size table usable payload)
    × (spills table usable payload ≡ true → local_size table usable payload + 4 ≤ stored_size table usable payload)
unfolding stored_size
stored_parts table usable payload = (omega arith, λ large. rw large (omega arith))

pub overflow_same : (b : Bool) (x y : ℕ) → (b ≡ true → x ≡ y) → (if b then x else 0) ≡ (if b then y else 0)
overflow_same true x y same = same refl
overflow_same false x y same = refl

-- a cell of another kind, whose body says the same in fewer bytes that fill it up
says_core : (kind up : Kind) (usable : ℕ) (text : List ℕ) → left_size up ≡ 4 → is_table up ≡ is_table kind
    → let body = drop (left_size kind) text in let key = body_in kind usable text in
    body_size kind usable body ≤ length body → keys_size up key ≡ keys_size kind body → payload_in up key ≡ payload_in kind body → rowid_in up key ≡ rowid_in kind body
    → (body_size up usable key ≡ length key) × ((page : ℕ) (other : List ℕ) → LeadsTo page key other → SaysSame (cell_in kind usable text) (cell_in up usable other))
unfolding cell_in payload_at body_size
says_core kind up usable text left table whole keys payload rowid =
    let body = drop (left_size kind) text in
    let k = keys_size kind body in
    let p = payload_in kind body in
    let n = body_size kind usable body in
    let l = local_size (is_table kind) usable p in
    let parts = stored_parts (is_table kind) usable p in (
      rw (keys, payload, table) (sym (length-take-le n body whole)),
      λ page other lead. record {
        rowid = rw (left, lead.key_is, rowid) refl;
        payload = rw (left, lead.key_is, payload) refl;
        local = rw (left, lead.key_is, keys, payload, table)
            (range_behind other 4 k l ∙ ap (λ xs. take l (drop k xs)) lead.key_is ∙ range_front body n k l (omega (arith, parts.0)) ∙ sym (range_behind text (left_size kind) k l));
        overflow = rw (left, lead.key_is, keys, payload, table)
            (overflow_same (spills (is_table kind) usable p) (u32_at other (4 + k + l)) (u32_at text (left_size kind + k + l))
            (λ large. ap (u32_at other) (omega arith) ∙ number_behind other 4 (k + l) ∙ ap (λ xs. u32_at xs (k + l)) lead.key_is
            ∙ number_front body n (k + l) (omega (arith, parts.1 large)) ∙ sym (number_behind text (left_size kind) (k + l)) ∙ ap (u32_at text) (omega arith)));
      },
    )

first_keys : (usable : ℕ) (body : List ℕ) (n : ℕ) → varint_size body ≤ n → n ≤ length body → (varint_size (take n body) ≡ varint_size body) × (varint_number (take n body) ≡ varint_number body)
first_keys usable body n low high = let v = varint_cut body n low high in (v.used, v.spelled)

keys_least : (kind : Kind) (usable : ℕ) (body : List ℕ) → keys_size kind body ≤ body_size kind usable body
unfolding body_size
keys_least kind usable body = omega arith

-- the body of a cell is the key that goes up
pub up_says : (kind : Kind) (usable : ℕ) (text : List ℕ) → is_leaf kind && is_table kind ≡ false → IsOneCell kind usable text → IsUpKey kind usable (cell_in kind usable text) (body_in kind usable text)
unfolding keys_size payload_in rowid_in
up_says IndexInner usable text other one =
    let body = drop 4 text in
    let whole : body_size IndexInner usable body ≤ length body = omega (arith, one_body IndexInner usable text one, length-drop 4 text) in
    let v = first_keys usable body (body_size IndexInner usable body) (keys_least IndexInner usable body) whole in
    let s = says_core IndexInner IndexInner usable text refl refl whole v.0 v.1 refl in record { is_key = s.0; says = s.1 }
up_says TableInner usable text other one =
    let body = drop 4 text in
    let whole : body_size TableInner usable body ≤ length body = omega (arith, one_body TableInner usable text one, length-drop 4 text) in
    let v = first_keys usable body (body_size TableInner usable body) (keys_least TableInner usable body) whole in
    let s = says_core TableInner TableInner usable text refl refl whole v.0 refl v.1 in record { is_key = s.0; says = s.1 }
up_says IndexLeaf usable text other one =
    let whole : body_size IndexLeaf usable text ≤ length text = omega (arith, one_body IndexLeaf usable text one) in
    let v = first_keys usable text (body_size IndexLeaf usable text) (keys_least IndexLeaf usable text) whole in
    let s = says_core IndexLeaf IndexInner usable text refl refl whole v.0 v.1 refl in record { is_key = s.0; says = s.1 }
up_says TableLeaf usable text other one = absurd (cc)

-- the rowid of a cell of a leaf of a table
pub rowid_fits : (usable : ℕ) (text : List ℕ) → IsOneCell TableLeaf usable text → varint_size text + varint_size (drop (varint_size text) text) ≤ length text
unfolding body_size keys_size
rowid_fits usable text one = omega (arith, one_body TableLeaf usable text one)

pub no_spill : (usable : ℕ) → spills true usable 0 ≡ false
unfolding spills
no_spill usable = grind (arith, common_steps, nat_tests)

pub no_stored : (usable : ℕ) → (stored_size true usable 0 ≡ 0) × (local_size true usable 0 ≡ 0)
unfolding stored_size local_size
no_stored usable = rw (no_spill usable) (refl, refl)

pub row_says : (usable : ℕ) (text : List ℕ) → IsOneCell TableLeaf usable text
    → IsRowKey usable (cell_in TableLeaf usable text) (take (varint_size (drop (varint_size text) text)) (drop (varint_size text) text))
unfolding cell_in payload_at body_size keys_size payload_in rowid_in
row_says usable text one =
    let behind = drop (varint_size text) text in
    let s = varint_size behind in
    let key = take s behind in
    let fits = rowid_fits usable text one in
    let v = varint_cut behind s (omega arith) (omega (arith, fits, length-drop (varint_size text) text)) in
    let none = no_stored usable in
    let len : length key ≡ s = length-take-le s behind (omega (arith, fits, length-drop (varint_size text) text)) in
    record {
      is_key = omega (arith, v.used, none.0, len);
      rowid = λ page other lead. rw (lead.key_is, v.spelled) refl;
      no_payload = λ page other lead.
          let zero : 4 + varint_size (drop 4 other) + local_size true usable 0 - (4 + varint_size (drop 4 other)) ≡ 0 = omega (arith, none.1) in
          (refl, rw zero refl, rw (no_spill usable) refl);
    }

pub left_told : {kind : Kind} {usable : ℕ} {text : List ℕ} {cell : NodeCell} → Spells kind usable text cell → (if is_leaf kind then 0 else u32_at text 0) ≡ cell.left
unfolding cell_in
left_told s = ap (λ (c : NodeCell). c.left) s.is

pub rest_whole : (xs : List ℕ) (s n : ℕ) → n ≡ s → take (length xs - n) (drop n xs) ≡ drop s xs
rest_whole xs s n is = take_all (length xs - n) (drop n xs) (omega (arith, length-drop n xs)) ∙ ap (λ k. drop k xs) is

pub up_told : {kind : Kind} {usable : ℕ} {text : List ℕ} {cell : NodeCell} {key : List ℕ} → Spells kind usable text cell → is_leaf kind && is_table kind ≡ false → key ≡ body_in kind usable text
    → IsUpKey kind usable cell key
up_told {kind} {usable} {text} {cell} {key} s other is = rw is (subst (λ c. IsUpKey kind usable c (body_in kind usable text)) s.is (up_says kind usable text other s.one))

pub row_told : {kind : Kind} {usable : ℕ} {text : List ℕ} {cell : NodeCell} {key : List ℕ} → Spells kind usable text cell → kind ≡ TableLeaf
    → key ≡ take (varint_size (drop (varint_size text) text)) (drop (varint_size text) text) → IsRowKey usable cell key
row_told {kind} {usable} {text} {cell} {key} spells leaf is =
    let s = subst (λ (k : Kind). Spells k usable text cell) leaf spells in
    rw is (subst (λ c. IsRowKey usable c (take (varint_size (drop (varint_size text) text)) (drop (varint_size text) text))) s.is (row_says usable text s.one))

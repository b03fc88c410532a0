-- A cell read from the bytes of its page.
use Rattle.std.proofs.Common.{◌≡◌, ℕ, ◌+◌, ◌-◌, ◌<◌, ◌≤◌, max, true, false, Bool, if◌then◌else◌, List, length, drop, take, take_at, get_or, slice_range, refl, sym, ap, subst, ◌∙◌, arith, length-drop, drop-drop}
use Rattle.std.specs.Int.{cast_signed, w64}
use Rattle.std.proofs.lemmas.List.{drop-take, take-take, length-take-le, get_or-map, length-map}
use Rattle.page_spec.specs.Bytes.{u32_at}
use Rattle.node_spec.specs.declared.kinds.Kind.{Kind}
use Rattle.node_spec.specs.Kinds.{is_leaf, is_table}
use Rattle.node_spec.specs.Cells.{NodeCell, IsCell, keys_size, payload_in, rowid_in, body_size, left_size, cell_size, stored_size, local_size, spills, payload_at, cell_in}
use Rattle.node_spec.specs.Layout.{Piece, nowhere}
use Rattle.node_spec.specs.Faults.{rest_at}
use Rattle.node_spec.specs.Nodes.{Node, cell_at, no_cell}
use Rattle.node_spec.proofs.CellLaws.{split_at, reads_cell}
use Rattle.node_spec.proofs.NodeLaws.{node_shows}
use Rattle.page_form.specs.declared.page.Page.{Page}
use Rattle.page_form.specs.declared.cells.Cell.{Cell}
use Rattle.page_form.specs.Reading.{IsReadPage, TellsCell, CellStands}

-- what stands behind a left child
rest_behind : (page : List ℕ) (start left usable : ℕ) → start + left ≤ usable → drop left (rest_at usable page start) ≡ rest_at usable page (start + left)
rest_behind page start left usable room =
    let is : usable - start ≡ left + (usable - (start + left)) = omega arith in
    rw is (drop-take left (usable - (start + left)) (drop start page) ∙ ap (take (usable - (start + left))) (drop-drop left start page))

-- the size of the cell at a place, by what stands behind its left child
pub cell_sizes : (kind : Kind) (usable : ℕ) (page : List ℕ) (start : ℕ) → start + left_size kind ≤ usable
    → cell_size kind usable (rest_at usable page start)
    ≡ max 4 (left_size kind + (keys_size kind (rest_at usable page (start + left_size kind))
    + stored_size (is_table kind) usable (payload_in kind (rest_at usable page (start + left_size kind)))))
unfolding cell_size body_size
cell_sizes kind usable page start room = rw (rest_behind page start (left_size kind) usable room) refl

pub cell_past : (kind : Kind) (usable : ℕ) (page : List ℕ) (start : ℕ) → usable < start + left_size kind → usable < start + cell_size kind usable (rest_at usable page start)
unfolding cell_size
cell_past kind usable page start past = omega arith

-- the bytes of the page from where a cell starts to where it ends are its text
pub range_is : (page text : List ℕ) (start : ℕ) → ((k : ℕ) → k < length text → get_or page (start + k) 0 ≡ get_or text k 0)
    → start + length text ≤ length page → slice_range page start (start + length text) ≡ text
range_is page text start same room =
    let n : start + length text - start ≡ length text = omega arith in
    rw n (ap (take (length text)) (split_at page text start same room) ∙ take_at text (drop (length text) (drop start page)) (length text) refl)

-- Where the cell of a read page stands.
pub record CellHere (usable : ℕ) (bytes : List ℕ) (page : Page) (node : Node) (k : ℕ) : Type 0 where
  pub text : List ℕ
  pub kind : page.kind ≡ node.kind
  pub stands : CellStands usable page.kind bytes text (get_or page.cells.items k 0)
  pub is : cell_at node k ≡ cell_in page.kind usable text

pub cell_here : (usable : ℕ) (bytes : List ℕ) (page : Page) (node : Node) (k : ℕ) → IsReadPage usable bytes page node → k < length node.cells
    → CellHere usable bytes page node k
cell_here usable bytes page node k read less =
    let t = read.tells in
    let s = node_shows usable read.first bytes node t.shown in
    let h = s.is_page.holds in
    let len : length node.cells ≡ length s.cells = ap (λ (cells : List NodeCell). length cells) s.cells_are ∙ length-map s.cells (λ (piece : Piece). cell_in node.kind usable piece.bytes) in
    let here : k < length s.cells = omega arith in
    let piece = get_or s.cells k nowhere in
    let p = h.stand k nowhere here in
    let start : get_or page.cells.items k 0 ≡ piece.start = t.pointers k less ∙ h.points k here in
    let kind = t.kind in
    record {
      text = piece.bytes;
      kind = kind;
      stands = record {
        least = h.least;
        most = h.most;
        long = h.whole;
        whole = rw kind (h.kinds k here);
        some = p.some;
        high = omega (arith, p.high);
        same = λ j l. ap (λ n. get_or bytes (n + j) 0) start ∙ p.same j l;
      };
      is = ap (λ (cells : List NodeCell). get_or cells k no_cell) s.cells_are
          ∙ get_or-map (λ (p : Piece). cell_in node.kind usable p.bytes) s.cells k nowhere no_cell here ∙ ap (λ q. cell_in q usable piece.bytes) (sym kind);
    }

-- a cell whose varints end past the usable bytes
pub cell_keys_past : (kind : Kind) (usable : ℕ) (page : List ℕ) (start place left : ℕ) → place ≡ start → left ≡ left_size kind → place + left ≤ usable → usable ≤ length page
    → length (rest_at usable page (place + left)) < keys_size kind (rest_at usable page (place + left))
    → usable < start + cell_size kind usable (rest_at usable page start)
cell_keys_past kind usable page start place left is size room long past =
    let at : place + left ≡ start + left_size kind = omega arith in
    let sizes = cell_sizes kind usable page start (omega arith) in
    let len : length (rest_at usable page (start + left_size kind)) ≡ usable - (start + left_size kind) =
    length-take-le (usable - (start + left_size kind)) (drop (start + left_size kind) page) (omega (arith, length-drop (start + left_size kind) page)) in
    let past_here = subst (λ n. length (rest_at usable page n) < keys_size kind (rest_at usable page n)) at past in
    omega (arith, sizes, past_here)

-- the size of a cell, from what was read
pub cell_is : (kind : Kind) (usable : ℕ) (page : List ℕ) (start place left keys payload stored : ℕ) (table : Bool) → place ≡ start → left ≡ left_size kind → place + left ≤ usable
    → keys ≡ keys_size kind (rest_at usable page (place + left)) → payload ≡ payload_in kind (rest_at usable page (place + left))
    → table ≡ is_table kind → stored ≡ stored_size table usable payload
    → max (left + keys + stored) 4 ≡ cell_size kind usable (rest_at usable page start)
cell_is kind usable page start place left keys payload stored table is size room keys_is payload_is table_is stored_is =
    let at : place + left ≡ start + left_size kind = omega arith in
    let sizes = cell_sizes kind usable page start (omega arith) in
    let k = subst (λ n. keys ≡ keys_size kind (rest_at usable page n)) at keys_is in
    let p = subst (λ n. payload ≡ payload_in kind (rest_at usable page n)) at payload_is in
    let s : stored ≡ stored_size (is_table kind) usable (payload_in kind (rest_at usable page (start + left_size kind))) =
    stored_is ∙ ap (λ t. stored_size t usable payload) table_is ∙ ap (stored_size (is_table kind) usable) p in
    omega (arith, sizes, k, s)

-- a number of four bytes in a text, and where the text stands
number_here : (bytes text : List ℕ) (start n place : ℕ) → ((k : ℕ) → k < length text → get_or bytes (start + k) 0 ≡ get_or text k 0)
    → n + 4 ≤ length text → place ≡ start + n → u32_at bytes place ≡ u32_at text n
unfolding u32_at
number_here bytes text start n place same room is =
    let at : (k : ℕ) → k < 4 → get_or bytes (place + k) 0 ≡ get_or text (n + k) 0 = λ k l. ap (λ m. get_or bytes m 0) (omega arith) ∙ same (n + k) (omega arith) in
    let a : get_or bytes place 0 ≡ get_or text n 0 = ap (λ m. get_or bytes m 0) is ∙ same n (omega arith) in
    rw (a, at 1 (omega arith), at 2 (omega arith), at 3 (omega arith)) refl

length_cut : (text : List ℕ) (at n : ℕ) → at + n ≤ length text → length (slice_range text at (at + n)) ≡ n
length_cut text at n room =
    let is : at + n - at ≡ n = omega arith in
    rw is (length-take-le n (drop at text) (omega (arith, length-drop at text)))

-- what is stored of a payload, and the number behind it
pub stored_parts : (table : Bool) (usable payload stored : ℕ) → stored ≡ stored_size table usable payload
    → (local_size table usable payload ≤ stored) × (spills table usable payload ≡ true → local_size table usable payload + 4 ≤ stored)
unfolding stored_size
stored_parts table usable payload stored is = (omega arith, λ spilled. let e = rw spilled at is in omega arith)

local_part : (table : Bool) (usable payload : ℕ) → local_size table usable payload ≤ stored_size table usable payload
unfolding stored_size
local_part table usable payload = omega arith

if_both : (b : Bool) (x y : ℕ) → (b ≡ true → x ≡ y) → (if b then x else 0) ≡ (if b then y else 0)
if_both true x y e = e refl
if_both false x y e = refl

if_other : (b : Bool) (x y : ℕ) → x ≡ y → (if b then 0 else x) ≡ (if b then 0 else y)
if_other true x y e = refl
if_other false x y e = e

-- The parts of a cell lie inside its text.
pub record CellRoom (usable : ℕ) (kind : Kind) (bytes text : List ℕ) (start left : ℕ) : Type 0 where
  pub left_fits : start + left ≤ usable
  pub keys_fit : keys_size kind (rest_at usable bytes (start + left)) ≤ length (rest_at usable bytes (start + left))
  pub stored_fits : (keys payload stored : ℕ) (table : Bool) → keys ≡ keys_size kind (rest_at usable bytes (start + left))
      → payload ≡ payload_in kind (rest_at usable bytes (start + left)) → table ≡ is_table kind → stored ≡ stored_size table usable payload
      → left + keys + stored ≤ length text

pub cell_room : (usable : ℕ) (kind : Kind) (bytes text : List ℕ) (start left : ℕ) → CellStands usable kind bytes text start → left ≡ left_size kind
    → CellRoom usable kind bytes text start left
unfolding body_size
cell_room usable kind bytes text start left stands is =
    let r = reads_cell kind usable bytes text start stands.whole stands.same stands.high stands.long in
    let high = stands.high in
    subst (λ n. CellRoom usable kind bytes text start n) (sym is) (record {
      left_fits = omega (arith, r.left);
      keys_fit = r.whole;
      stored_fits = λ keys payload stored table k p t s.
          let all : stored ≡ stored_size (is_table kind) usable (payload_in kind (rest_at usable bytes (start + left_size kind))) =
          s ∙ ap (λ b. stored_size b usable payload) t ∙ ap (stored_size (is_table kind) usable) p in
          omega (arith, r.size, k, all);
    })

-- What is told of a cell that was read so.
pub cell_tells : (kind : Kind) (usable : ℕ) (bytes text : List ℕ) (start left keys local payload rowid stored : ℕ) (told : Cell)
    → CellStands usable kind bytes text start → left ≡ left_size kind
    → payload ≡ payload_in kind (rest_at usable bytes (start + left)) → rowid ≡ rowid_in kind (rest_at usable bytes (start + left))
    → keys ≡ keys_size kind (rest_at usable bytes (start + left)) → local ≡ local_size (is_table kind) usable payload
    → stored ≡ stored_size (is_table kind) usable payload
    → told.start ≡ start → told.len ≡ max (start + left + keys + stored - start) 4
    → told.left ≡ (if is_leaf kind then 0 else u32_at bytes start) → told.rowid ≡ cast_signed w64 rowid
    → told.payload ≡ payload → told.local ≡ local
    → told.overflow ≡ (if spills (is_table kind) usable payload then u32_at bytes (start + left + keys + local) else 0)
    → TellsCell usable kind bytes told (cell_in kind usable text)
unfolding payload_at body_size cell_in
cell_tells kind usable bytes text start left keys local payload rowid stored told stands left_is payload_is rowid_is keys_is local_is stored_is
    start_told len_told left_told rowid_told payload_told local_told overflow_told =
    let some = stands.some in
    let high = stands.high in
    let long = stands.long in
    let same = stands.same in
    let r = reads_cell kind usable bytes text start stands.whole same high long in
    let body = drop (left_size kind) text in
    let rest = rest_at usable bytes (start + left_size kind) in
    let k0 : keys ≡ keys_size kind rest = subst (λ n. keys ≡ keys_size kind (rest_at usable bytes (start + n))) left_is keys_is in
    let p0 : payload ≡ payload_in kind rest = subst (λ n. payload ≡ payload_in kind (rest_at usable bytes (start + n))) left_is payload_is in
    let r0 : rowid ≡ rowid_in kind rest = subst (λ n. rowid ≡ rowid_in kind (rest_at usable bytes (start + n))) left_is rowid_is in
    let s0 : stored ≡ stored_size (is_table kind) usable (payload_in kind rest) = stored_is ∙ ap (stored_size (is_table kind) usable) p0 in
    let p : payload ≡ payload_in kind body = p0 ∙ r.payload in
    let at : payload_at kind text ≡ left + keys = omega (arith, left_is, k0, r.keys) in
    let parts = stored_parts (is_table kind) usable payload stored stored_is in
    let enough : left + keys + stored ≤ length text = omega (arith, r.size, left_is, k0, s0) in
    let len : told.len ≡ length text = omega (arith, r.size, left_is, k0, s0, len_told) in
    let range : slice_range bytes told.start (told.start + told.len) ≡ text = rw (start_told, len) (range_is bytes text start same (omega arith)) in
    let local_here : local_size (is_table kind) usable (payload_in kind body) ≡ local = ap (local_size (is_table kind) usable) (sym p) ∙ sym local_is in
    record {
      inside = omega arith;
      long = long;
      whole = subst (λ xs. IsCell kind usable xs) (sym range) stands.whole;
      spells = ap (cell_in kind usable) range;
      size = omega (arith, len, some);
      left = left_told ∙ if_other (is_leaf kind) (u32_at bytes start) (u32_at text 0) (number_here bytes text start 0 start same some (omega arith));
      rowid = rowid_told ∙ ap (cast_signed w64) (r0 ∙ r.rowid);
      payload = payload_told ∙ p;
      local = local_told ∙ sym (rw (at, local_here) (length_cut text (left + keys) local (omega (arith, parts.0))));
      overflow = overflow_told
          ∙ if_both (spills (is_table kind) usable payload) (u32_at bytes (start + left + keys + local)) (u32_at text (left + keys + local))
          (λ spilled. number_here bytes text start (left + keys + local) (start + left + keys + local) same (omega (arith, parts.1 spilled)) (omega arith))
          ∙ rw (at, local_here, p) refl;
    }

-- The stored part of a payload, from a cell that was told.
pub record LocalHere (kind : Kind) (bytes : List ℕ) (told : Cell) (cell : NodeCell) (left : ℕ) : Type 0 where
  pub left_fits : told.start + left ≤ told.start + told.len
  pub ends : told.start + told.len ≤ length bytes
  pub keys_fit : keys_size kind (slice_range bytes (told.start + left) (told.start + told.len)) ≤ length (slice_range bytes (told.start + left) (told.start + told.len))
  pub local_fits : (keys : ℕ) → keys ≡ keys_size kind (slice_range bytes (told.start + left) (told.start + told.len)) → left + keys + told.local ≤ told.len
  pub local_is : (keys : ℕ) → keys ≡ keys_size kind (slice_range bytes (told.start + left) (told.start + told.len))
      → slice_range bytes (told.start + left + keys) (told.start + left + keys + told.local) ≡ cell.local

-- a cut of a cut
cut_again : (bytes : List ℕ) (start len at n : ℕ) → at + n ≤ len → slice_range (slice_range bytes start (start + len)) at (at + n) ≡ slice_range bytes (start + at) (start + at + n)
cut_again bytes start len at n room =
    let a : start + len - start ≡ at + (len - at) = omega arith in
    let b : at + n - at ≡ n = omega arith in
    let c : start + at + n - (start + at) ≡ n = omega arith in
    let cut = drop at (drop start bytes) in
    rw (a, b, c) (ap (take n) (drop-take at (len - at) (drop start bytes)) ∙ take-take n (len - at) cut (omega arith)
    ∙ ap (take n) (drop-drop at start bytes))

pub local_here : (usable : ℕ) (kind : Kind) (bytes : List ℕ) (told : Cell) (cell : NodeCell) (left : ℕ) → TellsCell usable kind bytes told cell → left ≡ left_size kind
    → LocalHere kind bytes told cell left
unfolding cell_size body_size cell_in payload_at
local_here usable kind bytes told cell left t is =
    let text = slice_range bytes told.start (told.start + told.len) in
    let n : told.start + told.len - told.start ≡ told.len = omega arith in
    let len : length text ≡ told.len = rw n (length-take-le told.len (drop told.start bytes) (omega (arith, t.inside, t.long, length-drop told.start bytes))) in
    let whole = t.whole in
    let body = drop (left_size kind) text in
    let fits : left ≤ told.len = omega arith in
    let rest : slice_range bytes (told.start + left) (told.start + told.len) ≡ body =
    sym (rest_behind bytes told.start left (told.start + told.len) (omega arith)) ∙ ap (λ k. drop k text) is in
    let low = local_part (is_table kind) usable (payload_in kind body) in
    let keys_body : left_size kind + keys_size kind body + local_size (is_table kind) usable (payload_in kind body) ≤ length text = omega arith in
    let local_len : length cell.local ≡ local_size (is_table kind) usable (payload_in kind body) =
    ap (λ (c : NodeCell). length c.local) (sym t.spells)
    ∙ length_cut text (left_size kind + keys_size kind body) (local_size (is_table kind) usable (payload_in kind body)) keys_body in
    let local : told.local ≡ local_size (is_table kind) usable (payload_in kind body) = t.local ∙ local_len in
    record {
      left_fits = omega arith;
      ends = omega (arith, t.inside, t.long);
      keys_fit = rw rest (omega (arith, length-drop (left_size kind) text));
      local_fits = λ keys k. let k' : keys ≡ keys_size kind body = k ∙ ap (keys_size kind) rest in omega arith;
      local_is = λ keys k.
          let k' : keys ≡ keys_size kind body = k ∙ ap (keys_size kind) rest in
          let at : told.start + left + keys ≡ told.start + (left_size kind + keys_size kind body) = omega arith in
          rw (at, local) (sym (cut_again bytes told.start told.len (left_size kind + keys_size kind body) (local_size (is_table kind) usable (payload_in kind body)) (omega arith))
          ∙ ap (λ (c : NodeCell). c.local) t.spells);
    }

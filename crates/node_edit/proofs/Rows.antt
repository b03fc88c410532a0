-- Rows of cells: what stands at each place, and how much room parts of them take.
use Rattle.std.proofs.Common.{◌≡◌, ℕ, ◌+◌, ◌-◌, ◌*◌, ◌<◌, ◌≤◌, max, List, [], ◌∷◌, ◌++◌, length, get_or, take, drop, insert, All, refl, sym, ap, ap₂, subst, ◌∙◌, inr, arith, Some, Bool, length-append, length-drop, take-append-drop, append-nil, nat_eq, true, false, if◌then◌else◌}
use Rattle.std.proofs.lemmas.Grind.{common_steps}
use Rattle.std.proofs.lemmas.Bool.Decides.{nat_tests}
use Rattle.page_edit.specs.Forms.{KeepsOutside, empty_node}
use Rattle.node_edit.specs.Editing.{inner_node}
use Rattle.node_spec.specs.declared.kinds.Kind.TheVariants.{IndexInner, TableInner, IndexLeaf, TableLeaf}
use Rattle.std.proofs.Math.Seq.{take-add}
use Rattle.std.proofs.lemmas.List.{drop_all, drop-drop, take_all, append_assoc, get_or-map, get_or-drop, get_or-take, get_or_append_left, get_or-append_right, length-map, length-take-le, take_more}
use Rattle.std.proofs.lemmas.List.Sums.{sum_by-append, sum_by-cons}
use Rattle.std.proofs.lemmas.List.Edits.{insert-append_right}
use Rattle.page_spec.specs.Bytes.{u16_at}
use Rattle.node_spec.specs.declared.kinds.Kind.{Kind}
use Rattle.node_spec.specs.Kinds.{pointers_at, header_at, is_leaf}
use Rattle.node_spec.specs.Cells.{NodeCell, cell_in, cell_size, IsOneCell}
use Rattle.node_spec.specs.Layout.{Piece, nowhere}
use Rattle.node_spec.specs.Nodes.{Node, node_of, no_cell, free_of, with_cell, right_in}
use Rattle.node_spec.specs.Faults.{rest_at}
use Rattle.node_spec.proofs.CellLaws.{cell_stands}
use Rattle.node_spec.proofs.NodeLaws.{node_shows, shown_bytes, shown_fits}
use Rattle.page_form.proofs.CellReads.{range_is}
use Rattle.edit_spec.specs.Nodes.{cells_with, node_taking}
use Rattle.node_edit.specs.declared.run.Lent.{Lent}
use Rattle.node_edit.specs.declared.run.Run.{Run}
use Rattle.node_edit.specs.Runs.{cell_of, part_of, weight_of, spelled_by, Spells, Lies, CellsLie, IsRun, HasRoom}

-- a cell that lies at a place has its size there, and its text
pub lies_size : {kind : Kind} {usable : ℕ} {bytes : List ℕ} {start : ℕ} {cell : NodeCell} → (l : Lies kind usable bytes start cell)
    → cell_size kind usable (rest_at usable bytes start) ≡ length l.text
lies_size {kind} {usable} {bytes} {start} l =
    let s = l.stands in (cell_stands kind usable bytes l.text start s.whole s.same s.high s.long).0

pub lies_within : {kind : Kind} {usable : ℕ} {bytes : List ℕ} {start : ℕ} {cell : NodeCell} → (l : Lies kind usable bytes start cell)
    → (start + cell_size kind usable (rest_at usable bytes start) ≤ usable) × (usable ≤ length bytes) × (480 ≤ usable) × (usable ≤ 65536)
lies_within l = let s = l.stands in (omega (arith, lies_size l, s.high), s.long, s.least, s.most)

pub lies_spells : {kind : Kind} {usable : ℕ} {bytes : List ℕ} {start : ℕ} {cell : NodeCell} → Lies kind usable bytes start cell
    → (place len : ℕ) → place ≡ start → len ≡ cell_size kind usable (rest_at usable bytes start)
    → Spells kind usable (take (place + len - place) (drop place bytes)) cell
lies_spells {kind} {usable} {bytes} {start} {cell} l place len is size =
    let s = l.stands in
    let text : take (start + length l.text - start) (drop start bytes) ≡ l.text = range_is bytes l.text start s.same (omega (arith, s.high, s.long)) in
    let all : len ≡ length l.text = size ∙ lies_size l in
    rw (is, all, text) (record { one = inr s.whole; is = l.is })

-- what a cell of a row takes
pub spells_size : {kind : Kind} {usable : ℕ} {text : List ℕ} {cell : NodeCell} → Spells kind usable text cell → cell.size ≡ max 4 (length text)
unfolding cell_in
spells_size s = ap (λ (c : NodeCell). c.size) (sym s.is)

-- The cell at a place of a row: one of the first page, of the list, or of the other page.
module _ (run : Run) (cells : List NodeCell) (is : IsRun run cells) where
  abbrev mid : List NodeCell
  mid = spelled_by run.kind run.u run.news.now

  len_mid : length mid ≡ length run.news.now
  len_mid = length-map run.news.now (cell_in run.kind run.u)

  pub row_length : length cells ≡ length is.front + (length run.news.now + length is.back)
  row_length = ap (λ (xs : List NodeCell). length xs) is.cells_are ∙ length-append is.front (mid ++ is.back) ∙ ap (λ n. length is.front + n) (length-append mid is.back ∙ ap (λ n. n + length is.back) len_mid)

  pub row_front : (k : ℕ) → k < length is.front → cell_of cells k ≡ cell_of is.front k
  row_front k less = ap (λ (xs : List NodeCell). get_or xs k no_cell) is.cells_are ∙ get_or_append_left is.front (mid ++ is.back) no_cell k less

  behind : (k : ℕ) → length is.front ≤ k → cell_of cells k ≡ cell_of (mid ++ is.back) (k - length is.front)
  behind k past = ap (λ (xs : List NodeCell). get_or xs k no_cell) is.cells_are ∙ get_or-append_right is.front (mid ++ is.back) (length is.front) k no_cell refl past

  pub row_news : (k j : ℕ) → k ≡ length is.front + j → j < length run.news.now → cell_of cells k ≡ cell_in run.kind run.u (get_or run.news.now j [])
  row_news k j at less =
      let here : k - length is.front ≡ j = omega arith in
      behind k (omega arith) ∙ ap (λ n. cell_of (mid ++ is.back) n) here ∙ get_or_append_left mid is.back no_cell j (omega (arith, len_mid))
      ∙ get_or-map (cell_in run.kind run.u) run.news.now j [] no_cell less

  pub row_back : (k j : ℕ) → k ≡ length is.front + (length run.news.now + j) → cell_of cells k ≡ cell_of is.back j
  row_back k j at =
      let here : k - length is.front ≡ length run.news.now + j = omega arith in
      let rest : length run.news.now + j - length run.news.now ≡ j = omega arith in
      behind k (omega arith) ∙ ap (λ n. cell_of (mid ++ is.back) n) here
      ∙ get_or-append_right mid is.back (length run.news.now) (length run.news.now + j) no_cell len_mid (omega arith) ∙ ap (λ n. cell_of is.back n) rest

-- parts of a row
pub length_part : (cells : List NodeCell) (from to : ℕ) → to ≤ length cells → length (part_of cells from to) ≡ to - from
length_part cells from to within = length-take-le (to - from) (drop from cells) (omega (arith, length-drop from cells))

pub part_none : (cells : List NodeCell) (from : ℕ) → part_of cells from from ≡ []
part_none cells from = let none : from - from ≡ 0 = omega arith in rw none refl

pub part_more : (cells : List NodeCell) (from i : ℕ) → from ≤ i → i < length cells → part_of cells from (i + 1) ≡ part_of cells from i ++ cell_of cells i ∷ []
part_more cells from i low less =
    let next : i + 1 - from ≡ i - from + 1 = omega arith in
    let back : from + (i - from) ≡ i = omega arith in
    ap (λ n. take n (drop from cells)) next ∙ take_more (drop from cells) (i - from) no_cell (omega (arith, length-drop from cells))
    ∙ ap (λ c. take (i - from) (drop from cells) ++ c ∷ []) (get_or-drop from cells (i - from) no_cell ∙ ap (λ n. cell_of cells n) back)

pub weight_join : (xs ys : List NodeCell) → weight_of (xs ++ ys) ≡ weight_of xs + weight_of ys
weight_join xs ys = omega (arith, length-append xs ys, sum_by-append (λ (c : NodeCell). c.size) xs ys)

pub weight_one : (cell : NodeCell) → weight_of (cell ∷ []) ≡ cell.size + 2
weight_one cell = omega (arith, sum_by-cons (λ (c : NodeCell). c.size) cell [])

pub weight_more : (cells : List NodeCell) (from i : ℕ) → from ≤ i → i < length cells
    → weight_of (part_of cells from (i + 1)) ≡ weight_of (part_of cells from i) + ((cell_of cells i).size + 2)
weight_more cells from i low less =
    ap weight_of (part_more cells from i low less) ∙ weight_join (part_of cells from i) (cell_of cells i ∷ []) ∙ ap (λ n. weight_of (part_of cells from i) + n) (weight_one (cell_of cells i))

-- a part is the two that it is cut into
pub part_cut : (cells : List NodeCell) (from mid to : ℕ) → from ≤ mid → mid ≤ to → part_of cells from to ≡ part_of cells from mid ++ part_of cells mid to
part_cut cells from mid to low high =
    let sum : to - from ≡ (mid - from) + (to - mid) = omega arith in
    let back : from + (mid - from) ≡ mid = omega arith in
    ap (λ n. take n (drop from cells)) sum ∙ take-add (mid - from) (to - mid) (drop from cells)
    ∙ ap (λ xs. part_of cells from mid ++ take (to - mid) xs) (drop-drop (mid - from) from cells ∙ ap (λ n. drop n cells) back)

pub part_all : (cells : List NodeCell) → part_of cells 0 (length cells) ≡ cells
part_all cells = let all : length cells - 0 ≡ length cells = omega arith in rw all (take_all (length cells) cells (omega arith))

-- a node that took so many cells takes one more
pub takes_more : (cells : List NodeCell) (at : ℕ) (news : List NodeCell) (cell : NodeCell) → at ≤ length cells
    → cells_with cells at (news ++ cell ∷ []) ≡ insert (cells_with cells at news) (at + length news) cell
takes_more cells at news cell place =
    let front = take at cells in
    let rest = drop at cells in
    let len : length front ≡ at = length-take-le at cells place in
    let back : at + length news - at ≡ length news = omega arith in
    let none : length news - length news ≡ 0 = omega arith in
    let inner : insert (news ++ rest) (length news) cell ≡ news ++ (cell ∷ rest) =
    insert-append_right news rest (length news) (length news) cell refl (omega arith) ∙ ap (λ n. news ++ insert rest n cell) none in
    sym (insert-append_right front (news ++ rest) at (at + length news) cell len (omega arith)
    ∙ ap (λ n. front ++ insert (news ++ rest) n cell) back ∙ ap (λ xs. front ++ xs) (inner ∙ sym (append_assoc news (cell ∷ []) rest)))

pub length_taking : (cells : List NodeCell) (at : ℕ) (news : List NodeCell) → at ≤ length cells → length (cells_with cells at news) ≡ length cells + length news
length_taking cells at news place =
    omega (arith, length-append (take at cells) (news ++ drop at cells), length-append news (drop at cells), length-take-le at cells place, length-drop at cells)

pub weight_taking : (cells : List NodeCell) (at : ℕ) (news : List NodeCell) → weight_of (cells_with cells at news) ≡ weight_of cells + weight_of news
weight_taking cells at news =
    let whole : weight_of (take at cells) + weight_of (drop at cells) ≡ weight_of cells =
    sym (weight_join (take at cells) (drop at cells)) ∙ ap weight_of (take-append-drop at cells) in
    omega (arith, weight_join (take at cells) (news ++ drop at cells), weight_join news (drop at cells), whole)

pub taking_none : (cells : List NodeCell) (at : ℕ) → cells_with cells at [] ≡ cells
taking_none cells at = take-append-drop at cells

-- a part is at most the longer one
pub weight_within : (cells : List NodeCell) (from i end : ℕ) → from ≤ i → i < end → end ≤ length cells
    → weight_of (part_of cells from i) + ((cell_of cells i).size + 2) ≤ weight_of (part_of cells from end)
weight_within cells from i end low less within =
    let more = weight_more cells from i low (omega arith) in
    let cut = ap weight_of (part_cut cells from (i + 1) end (omega arith) (omega arith)) ∙ weight_join (part_of cells from (i + 1)) (part_of cells (i + 1) end) in
    omega (arith, more, cut)

-- What stands at a place of a page that shows a node.
pub node_lies : {usable : ℕ} (first : Bool) {page : List ℕ} {node : Node} → node_of usable first page ≡ Some node
    → (k : ℕ) → k < length node.cells → Lies node.kind usable page (u16_at page (pointers_at first node.kind + 2 * k)) (cell_of node.cells k)
node_lies {usable} first {page} {node} shown k less =
    let s = node_shows usable first page node shown in
    let h = s.is_page.holds in
    let len = (shown_bytes s).0 in
    let here : k < length s.cells = omega arith in
    let piece = get_or s.cells k nowhere in
    let p = h.stand k nowhere here in
    let start : u16_at page (pointers_at first node.kind + 2 * k) ≡ piece.start = h.points k here in
    record {
      text = piece.bytes;
      stands = record {
        least = h.least;
        most = h.most;
        long = h.whole;
        whole = h.kinds k here;
        some = p.some;
        high = omega (arith, p.high, start);
        same = λ j l. ap (λ n. get_or page (n + j) 0) start ∙ p.same j l;
      };
      is = sym (ap (λ (cells : List NodeCell). get_or cells k no_cell) s.cells_are
          ∙ get_or-map (λ (q : Piece). cell_in node.kind usable q.bytes) s.cells k nowhere no_cell here);
    }

-- the bounds of a page that shows a node
pub record NodeFits (usable : ℕ) (first : Bool) (page : List ℕ) (node : Node) : Type 0 where
  pub least : 480 ≤ usable
  pub most : usable ≤ 65536
  pub long : usable ≤ length page
  pub fits : pointers_at first node.kind + weight_of node.cells ≤ usable
  pub head : header_at first + 8 ≤ pointers_at first node.kind
  pub count : u16_at page (header_at first + 3) ≡ length node.cells

pub node_fits : {usable : ℕ} {first : Bool} {page : List ℕ} {node : Node} → node_of usable first page ≡ Some node → NodeFits usable first page node
node_fits {usable} {first} {page} {node} shown =
    let s = node_shows usable first page node shown in
    let h = s.is_page.holds in
    record {
      least = h.least;
      most = h.most;
      long = h.whole;
      fits = omega (arith, shown_fits s);
      head = h.head;
      count = h.count ∙ sym (shown_bytes s).0;
    }

-- cells of such a page, from one place up to another
pub lent_cells : {usable : ℕ} (first : Bool) {node : Node} (lent : Lent) → node_of usable first lent.bytes.now ≡ Some node
    → lent.pointers ≡ pointers_at first node.kind → lent.from ≤ lent.to → lent.to ≤ length node.cells
    → CellsLie node.kind usable lent (part_of node.cells lent.from lent.to)
lent_cells {usable} first {node} lent shown pointers order within =
    let f = node_fits {first = first} {page = lent.bytes.now} shown in
    let len = length_part node.cells lent.from lent.to within in
    record {
      count = omega arith;
      room = omega (arith, f.fits, f.long);
      most = omega (arith, f.fits, f.most);
      each = λ i less.
          let here : cell_of (part_of node.cells lent.from lent.to) i ≡ cell_of node.cells (lent.from + i) =
          get_or-take (lent.to - lent.from) (drop lent.from node.cells) i no_cell (omega arith) ∙ get_or-drop lent.from node.cells i no_cell in
          rw (pointers, here) (node_lies first {page = lent.bytes.now} shown (lent.from + i) (omega arith));
    }

pub no_cells : {kind : Kind} {usable : ℕ} (lent : Lent) → lent.from ≡ lent.to → lent.pointers + 2 * lent.to ≡ 0 → CellsLie kind usable lent []
no_cells lent same none = record {
  count = omega arith;
  room = omega arith;
  most = omega arith;
  each = λ i less. absurd (omega arith);
}

-- a row of a list's cells alone
pub list_is : (run : Run) → 480 ≤ run.u → run.u ≤ 65536 → All (IsOneCell run.kind run.u) run.news.now → run.front.from ≡ run.front.to → run.front.pointers + 2 * run.front.to ≡ 0
    → run.back.from ≡ run.back.to → run.back.pointers + 2 * run.back.to ≡ 0 → IsRun run (spelled_by run.kind run.u run.news.now)
list_is run least most news front no_front back no_back = record {
  least = least;
  most = most;
  front = [];
  back = [];
  cells_are = sym (append-nil (spelled_by run.kind run.u run.news.now));
  front_lie = no_cells run.front front no_front;
  news_are = news;
  back_lie = no_cells run.back back no_back;
}

-- a row of a page's cells with others put in
pub taking_is : (run : Run) (first : Bool) (node : Node) (at : ℕ) → node_of run.u first run.front.bytes.now ≡ Some node → node_of run.u first run.back.bytes.now ≡ Some node
    → run.kind ≡ node.kind → at ≤ length node.cells → All (IsOneCell node.kind run.u) run.news.now
    → run.front.pointers ≡ pointers_at first node.kind → run.front.from ≡ 0 → run.front.to ≡ at
    → run.back.pointers ≡ pointers_at first node.kind → run.back.from ≡ at → run.back.to ≡ length node.cells
    → IsRun run (cells_with node.cells at (spelled_by node.kind run.u run.news.now))
taking_is run first node at front_shown back_shown kind place news front_at front_from front_to back_at back_from back_to =
    let f = node_fits {first = first} {page = run.front.bytes.now} front_shown in
    let none : at - 0 ≡ at = omega arith in
    let front_cells : part_of node.cells run.front.from run.front.to ≡ take at node.cells = rw (front_from, front_to, none) refl in
    let back_cells : part_of node.cells run.back.from run.back.to ≡ drop at node.cells =
    rw (back_from, back_to) (take_all (length node.cells - at) (drop at node.cells) (omega (arith, length-drop at node.cells))) in
    record {
      least = f.least;
      most = f.most;
      front = take at node.cells;
      back = drop at node.cells;
      cells_are = rw kind refl;
      front_lie = rw (kind, sym front_cells) (lent_cells first run.front front_shown front_at (omega arith) (omega arith));
      news_are = rw kind news;
      back_lie = rw (kind, sym back_cells) (lent_cells first run.back back_shown back_at (omega arith) (omega arith));
    }

-- a page with room for a part of a row
pub room_for : {run : Run} {usable from end : ℕ} {first : Bool} {bytes : List ℕ} {at : ℕ} (cells : List NodeCell) (node : Node) → run.u ≡ usable → node.kind ≡ run.kind → IsRun run cells
    → from ≤ end → end ≤ length cells → node_of usable first bytes ≡ Some node → at ≤ length node.cells
    → pointers_at first node.kind + weight_of node.cells + weight_of (part_of cells from end) ≤ usable → HasRoom run from end first bytes at
room_for {run} {usable} {from} {end} {first} {bytes} {at} cells node u kind is order within shown place fits = record {
  cells = cells;
  node = node;
  is_run = is;
  order = order;
  within = within;
  shown = rw u shown;
  kind = kind;
  place = place;
  fits = omega arith;
}

-- what one cell more needs, and what the page is then
pub put_one : {run : Run} {from end : ℕ} {first : Bool} {old : List ℕ} {at : ℕ} (now : List ℕ) (room : HasRoom run from end first old at) (i : ℕ) → from ≤ i → i < end
    → node_of run.u first now ≡ Some (node_taking room.node at (part_of room.cells from i))
    → (at + (i - from) ≤ length (cells_with room.node.cells at (part_of room.cells from i)))
    × ((cell_of room.cells i).size + 2 ≤ free_of run.u first (node_taking room.node at (part_of room.cells from i)))
put_one {run} {from} {end} {first} {old} {at} now room i low less shown =
    let part = part_of room.cells from i in
    let len = length_part room.cells from i (omega (arith, room.within)) in
    let long = length_taking room.node.cells at part room.place in
    let weight = weight_taking room.node.cells at part in
    let more = weight_within room.cells from i end low less room.within in
    (omega (arith, room.place, len, long), omega (arith, room.fits, more, weight, long))

pub took_one : (run : Run) {from : ℕ} {at : ℕ} (cells : List NodeCell) (node : Node) (i : ℕ) {text : List ℕ} → from ≤ i → i < length cells → at ≤ length node.cells
    → node.kind ≡ run.kind → Spells run.kind run.u text (cell_of cells i)
    → with_cell (node_taking node at (part_of cells from i)) (at + (i - from)) (cell_in node.kind run.u text) ≡ node_taking node at (part_of cells from (i + 1))
took_one run {from} {at} cells node i {text} low less place kind spells =
    let len = length_part cells from i (omega arith) in
    let cell : cell_in node.kind run.u text ≡ cell_of cells i = rw kind spells.is in
    let same : insert (cells_with node.cells at (part_of cells from i)) (at + (i - from)) (cell_in node.kind run.u text) ≡ cells_with node.cells at (part_of cells from (i + 1)) =
    ap₂ (λ n c. insert (cells_with node.cells at (part_of cells from i)) (at + n) c) (sym len) cell
    ∙ sym (takes_more node.cells at (part_of cells from i) (cell_of cells i) place) ∙ ap (cells_with node.cells at) (sym (part_more cells from i low less)) in
    λ j. record { kind = node.kind; cells = same j; right = node.right }

pub part_whole : (cells : List NodeCell) (n : ℕ) → n ≡ length cells → part_of cells 0 n ≡ cells
part_whole cells n all = ap (part_of cells 0) all ∙ part_all cells

pub part_most : (cells : List NodeCell) (n : ℕ) → n ≤ length cells → weight_of (part_of cells 0 n) ≤ weight_of cells
part_most cells n within =
    let cut = ap weight_of (sym (part_all cells) ∙ part_cut cells 0 n (length cells) (omega arith) within) ∙ weight_join (part_of cells 0 n) (part_of cells n (length cells)) in
    omega (arith, cut)

pub length_spelled : (kind : Kind) (usable : ℕ) (texts : List (List ℕ)) → length (spelled_by kind usable texts) ≡ length texts
length_spelled kind usable texts = length-map texts (cell_in kind usable)

pub header_most : (first : Bool) → header_at first ≤ 100
header_most true = omega arith
header_most false = omega arith

pub outside_join : {usable : ℕ} {first : Bool} {a b c : List ℕ} → KeepsOutside usable first a b → KeepsOutside usable first b c → KeepsOutside usable first a c
outside_join x y = record {
  same_length = y.same_length ∙ x.same_length;
  before = λ j l. y.before j l ∙ x.before j l;
  past = λ j l. y.past j l ∙ x.past j l;
}

pub nat_eq_is : (a b : ℕ) → nat_eq a b ≡ true → a ≡ b
nat_eq_is a b same = grind (arith, common_steps, nat_tests)

pub nat_eq_not : (a b : ℕ) → nat_eq a b ≡ false → a ≤ b → a < b
nat_eq_not a b apart most = grind (arith, common_steps, nat_tests)

-- a page that took a whole row
pub took_all : {run : Run} {usable end : ℕ} (first : Bool) (old new : List ℕ) (at : ℕ) (cells : List NodeCell) (node : Node) → run.u ≡ usable → IsRun run cells → end ≡ length cells
    → node_of usable first old ≡ Some node
    → ((cells : List NodeCell) (node : Node) → IsRun run cells → end ≤ length cells → node_of run.u first old ≡ Some node
    → node_of run.u first new ≡ Some (node_taking node at (part_of cells 0 end)))
    → node_of usable first new ≡ Some (node_taking node at cells)
took_all {run} {usable} {end} first old new at cells node u is all shown put =
    let got = put cells node is (omega arith) (rw u shown) in
    subst (λ xs. node_of usable first new ≡ Some (node_taking node at xs)) (part_whole cells end all) (subst (λ n. node_of n first new ≡ Some (node_taking node at (part_of cells 0 end))) u got)

-- a page that was begun and took cells has just these
pub begun_with : (kind : Kind) (right : ℕ) (cells : List NodeCell) → node_taking (empty_node kind right) 0 cells ≡ inner_node kind cells right
begun_with kind right cells = λ j. record { kind = kind; cells = append-nil cells j; right = if is_leaf kind then 0 else right }

same_right : (first : Bool) (kind : Kind) (page : List ℕ) → (if is_leaf kind then 0 else right_in first kind page) ≡ right_in first kind page
unfolding right_in
same_right first IndexInner page = refl
same_right first TableInner page = refl
same_right first IndexLeaf page = refl
same_right first TableLeaf page = refl

pub begun_like : (usable : ℕ) (first : Bool) (page : List ℕ) (node : Node) (kind : Kind) (right : ℕ) → node_of usable first page ≡ Some node → kind ≡ node.kind
    → right ≡ right_in first kind page → node_taking (empty_node kind right) 0 node.cells ≡ node
begun_like usable first page node kind right shown same is =
    let s = node_shows usable first page node shown in
    let right_is : (if is_leaf kind then 0 else right) ≡ node.right =
    ap (λ n. if is_leaf kind then 0 else n) is ∙ same_right first kind page ∙ ap (λ k. right_in first k page) same ∙ sym s.right_is in
    begun_with kind right node.cells ∙ (λ j. record { kind = same j; cells = node.cells; right = right_is j })

-- a row of two pages' cells with others between
pub joined_is : (run : Run) (node other : Node) → node_of run.u false run.front.bytes.now ≡ Some node → node_of run.u false run.back.bytes.now ≡ Some other
    → run.kind ≡ node.kind → other.kind ≡ node.kind → All (IsOneCell node.kind run.u) run.news.now
    → run.front.pointers ≡ pointers_at false node.kind → run.front.from ≡ 0 → run.front.to ≡ length node.cells
    → run.back.pointers ≡ pointers_at false other.kind → run.back.from ≡ 0 → run.back.to ≡ length other.cells
    → IsRun run (cells_with other.cells 0 (node.cells ++ spelled_by node.kind run.u run.news.now))
joined_is run node other front_shown back_shown kind same news front_at front_from front_to back_at back_from back_to =
    let f = node_fits {first = false} {page = run.front.bytes.now} front_shown in
    let front_cells : part_of node.cells run.front.from run.front.to ≡ node.cells = rw front_from (part_whole node.cells run.front.to front_to) in
    let back_cells : part_of other.cells run.back.from run.back.to ≡ other.cells = rw back_from (part_whole other.cells run.back.to back_to) in
    record {
      least = f.least;
      most = f.most;
      front = node.cells;
      back = other.cells;
      cells_are = rw kind (append_assoc node.cells (spelled_by node.kind run.u run.news.now) other.cells);
      front_lie = rw kind (subst (λ xs. CellsLie node.kind run.u run.front xs) front_cells (lent_cells false run.front front_shown front_at (omega arith) (omega arith)));
      news_are = rw kind news;
      back_lie = rw (kind, sym same) (subst (λ xs. CellsLie other.kind run.u run.back xs) back_cells (lent_cells false run.back back_shown back_at (omega arith) (omega arith)));
    }

pub taken_behind : (cells news : List NodeCell) (n : ℕ) → n ≡ length cells → cells_with cells n news ≡ cells ++ news
taken_behind cells news n all =
    ap (λ k. cells_with cells k news) all ∙ ap₂ (λ xs ys. xs ++ (news ++ ys)) (take_all (length cells) cells (omega arith)) (drop_all (length cells) cells (omega arith)) ∙ ap (λ xs. cells ++ xs) (append-nil news)

-- a node that doesn't fit is copied to page 1, from another page
pub only_first : (usable : ℕ) (from to : Bool) (page : List ℕ) (node : Node) → node_of usable from page ≡ Some node → usable < pointers_at to node.kind + weight_of node.cells
    → (to ≡ true) × (from ≡ false)
only_first usable true true page node shown less = absurd (omega (arith, less, (node_fits {first = true} {page = page} shown).fits))
only_first usable true false page node shown less = absurd (omega (arith, less, (node_fits {first = true} {page = page} shown).fits))
only_first usable false true page node shown less = (refl, refl)
only_first usable false false page node shown less = absurd (omega (arith, less, (node_fits {first = false} {page = page} shown).fits))

-- a longer part takes as much or more
pub part_within : (cells : List NodeCell) (from mid to : ℕ) → from ≤ mid → mid ≤ to → to ≤ length cells → weight_of (part_of cells from mid) ≤ weight_of (part_of cells from to)
part_within cells from mid to low high within =
    let cut = ap weight_of (part_cut cells from mid to low high) ∙ weight_join (part_of cells from mid) (part_of cells mid to) in
    omega (arith, cut)

-- a page's node that takes cells, made of its parts
pub whole_like : (usable : ℕ) (first : Bool) (page : List ℕ) (node : Node) (at : ℕ) (news : List NodeCell) {kind told : Kind} {right : ℕ} → kind ≡ node.kind → told ≡ node.kind
    → right ≡ right_in first told page → node_of usable first page ≡ Some node
    → inner_node kind (cells_with node.cells at news) right ≡ node_taking node at news
whole_like usable first page node at news {kind} {told} {right} same is told_right shown =
    let s = node_shows usable first page node shown in
    let right_is : (if is_leaf kind then 0 else right) ≡ node.right =
    ap₂ (λ k n. if is_leaf k then 0 else n) same (told_right ∙ ap (λ k. right_in first k page) is) ∙ same_right first node.kind page ∙ sym s.right_is in
    λ j. record { kind = same j; cells = cells_with node.cells at news; right = right_is j }

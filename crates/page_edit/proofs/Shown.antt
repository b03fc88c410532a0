-- From the texts of cells to the node that a page shows, and back.
use Rattle.std.proofs.Common.{◌≡◌, ℕ, ◌+◌, ◌-◌, ◌<◌, ◌≤◌, Some, Bool, true, false, List, [], ◌∷◌, length, get_or, map, insert, remove, refl, sym, ap, subst, ◌∙◌, arith, append-nil}
use Rattle.std.proofs.Common.{Result, Ok, Err, OnOk, IfErr, if◌then◌else◌}
use Rattle.page_spec.specs.Bytes.{DiffersOnlyWithin}
use Rattle.page_spec.proofs.BytesLaws.{u16_at-below}
use Rattle.node_spec.specs.Kinds.{flag_of}
use Rattle.node_spec.specs.Layout.{content_start}
use Rattle.node_spec.proofs.NodeLaws.{header_fits}
use Rattle.node_spec.proofs.CellLaws.{padded_cell}
use Rattle.page_edit.specs.Forms.{IsPacked, empty_node}
use Rattle.page_spec.specs.Bytes.{u16_at, u32_at}
use Rattle.node_spec.specs.declared.kinds.Kind.{Kind}
use Rattle.node_spec.specs.declared.kinds.Kind.TheVariants.{IndexInner, TableInner, IndexLeaf, TableLeaf}
use Rattle.node_spec.specs.Kinds.{kind_of, header_at, pointers_at, is_leaf}
use Rattle.node_spec.specs.Cells.{NodeCell, cell_in, IsCell, IsOneCell, padded}
use Rattle.node_spec.specs.Layout.{Piece, IsPage}
use Rattle.node_spec.specs.Nodes.{Node, Shows, node_of, right_in, cells_of, free_of, with_cell, without_cell}
use Rattle.node_spec.proofs.CellLaws.{padded_same}
use Rattle.node_spec.proofs.Decode.{kind_flag}
use Rattle.node_spec.proofs.NodeLaws.{node_shows, shows_node, shown_bytes}
use Rattle.page_edit.specs.declared.form.Form.{Form}
use Rattle.page_edit.specs.Forms.{IsFormOf, HasTexts, Holds, texts_of, KeepsRest, KeepsOutside, free_in}
use Rattle.page_edit.proofs.Lists.{length-texts_of, taken-texts_of, map-insert, map-remove}

-- the kind of a page that shows a node
pub shown_kind : (usable : ℕ) (first : Bool) (page : List ℕ) (node : Node) → node_of usable first page ≡ Some node
    → (480 ≤ length page) × (kind_of (get_or page (header_at first) 0) ≡ Some node.kind)
shown_kind usable first page node is =
    let h = (node_shows usable first page node is).is_page.holds in
    (omega (arith, h.least, h.whole), rw h.flag (kind_flag node.kind))

-- The texts of the cells of a page that shows a node.
pub record ShownTexts (usable : ℕ) (first : Bool) (page : List ℕ) (node : Node) (form : Form) : Type 0 where
  pub texts : List (List ℕ)
  pub has : HasTexts form page texts
  pub cells_are : node.cells ≡ map (cell_in node.kind usable) texts
  pub right_is : node.right ≡ right_in first node.kind page
  pub count : u16_at page (form.at + 3) ≡ length node.cells
  pub free : free_in form texts ≡ free_of usable first node

cells_texts : (kind : Kind) (usable : ℕ) (pieces : List Piece) → cells_of kind usable pieces ≡ map (cell_in kind usable) (texts_of pieces)
cells_texts kind usable [] = refl
cells_texts kind usable (piece ∷ pieces) = ap (λ cells. cell_in kind usable piece.bytes ∷ cells) (cells_texts kind usable pieces)

pub shown_texts : {usable : ℕ} {first : Bool} {page : List ℕ} {node : Node} {form : Form} → IsFormOf usable first node form
    → node_of usable first page ≡ Some node → ShownTexts usable first page node form
shown_texts {usable} {first} {page} {node} {form} f is =
    let s = node_shows usable first page node is in
    let b = shown_bytes s in
    let is_page : IsPage form.u form.at form.pointers form.kind page s.cells s.blocks = rw (f.u, f.at, f.pointers, f.kind) s.is_page in
    record {
      texts = texts_of s.cells;
      has = record { pieces = s.cells; blocks = s.blocks; is_page = is_page; texts_are = refl };
      cells_are = s.cells_are ∙ cells_texts node.kind usable s.cells;
      right_is = s.right_is;
      count = is_page.holds.count ∙ sym b.0;
      free = omega (arith, f.u, f.pointers, length-texts_of s.cells, taken-texts_of s.cells, b.0, b.1);
    }

form_page : {usable : ℕ} {first : Bool} {page : List ℕ} {node : Node} {form : Form} {cells blocks : List Piece} → IsFormOf usable first node form
    → IsPage form.u form.at form.pointers form.kind page cells blocks → IsPage usable (header_at first) (pointers_at first node.kind) node.kind page cells blocks
form_page {usable} {first} {page} {node} {form} {cells} {blocks} f is =
    subst (λ kind. IsPage usable (header_at first) (pointers_at first node.kind) kind page cells blocks) f.kind
    (subst (λ pointers. IsPage usable (header_at first) pointers form.kind page cells blocks) f.pointers
    (subst (λ at. IsPage usable at form.pointers form.kind page cells blocks) f.at
    (subst (λ u. IsPage u form.at form.pointers form.kind page cells blocks) f.u is)))

-- a page with these texts shows the node of their cells
pub texts_show : {usable : ℕ} {first : Bool} {page : List ℕ} {node : Node} {form : Form} (texts : List (List ℕ)) (cells : List NodeCell) → IsFormOf usable first node form
    → HasTexts form page texts → cells ≡ map (cell_in node.kind usable) texts → node.right ≡ right_in first node.kind page
    → node_of usable first page ≡ Some (record node { cells = cells })
texts_show {usable} {first} {page} {node} {form} texts cells f has cells_are right_is =
    let shows : Shows usable first page (record node { cells = cells }) = record {
      cells = has.pieces;
      blocks = has.blocks;
      is_page = form_page f has.is_page;
      cells_are = cells_are ∙ ap (map (cell_in node.kind usable)) (sym has.texts_are) ∙ sym (cells_texts node.kind usable has.pieces);
      right_is = right_is;
    } in
    shows_node shows

-- the right child stays where its bytes do
right_kept : (first : Bool) (kind : Kind) (old new : List ℕ) → ((j : ℕ) → header_at first + 8 ≤ j → j < pointers_at first kind → get_or new j 0 ≡ get_or old j 0)
    → right_in first kind new ≡ right_in first kind old
unfolding right_in u32_at
right_kept first IndexInner old new same =
    let at = header_at first + 8 in
    rw (same at (omega arith) (omega arith), same (at + 1) (omega arith) (omega arith), same (at + 2) (omega arith) (omega arith), same (at + 3) (omega arith) (omega arith)) refl
right_kept first TableInner old new same =
    let at = header_at first + 8 in
    rw (same at (omega arith) (omega arith), same (at + 1) (omega arith) (omega arith), same (at + 2) (omega arith) (omega arith), same (at + 3) (omega arith) (omega arith)) refl
right_kept first IndexLeaf old new same = refl
right_kept first TableLeaf old new same = refl

same_node : (usable : ℕ) (first : Bool) (page : List ℕ) (a b : Node) → node_of usable first page ≡ Some a → node_of usable first page ≡ Some b → a ≡ b
same_node usable first page a b p q = cc

-- a cell that needs no filling up
pub long_cell : (text : List ℕ) → 4 ≤ length text → text ≡ padded text
long_cell text long = let none : 4 - length text ≡ 0 = omega arith in rw none (sym (append-nil text))

-- What an edit of texts makes of the node,
pub edited : {usable : ℕ} {first : Bool} {old new : List ℕ} {node : Node} {form : Form} (texts : List (List ℕ)) (cells : List NodeCell) → IsFormOf usable first node form
    → node_of usable first old ≡ Some node → KeepsRest form old new → HasTexts form new texts → cells ≡ map (cell_in node.kind usable) texts
    → node_of usable first new ≡ Some (record node { cells = cells })
edited {usable} {first} {old} {new} {node} {form} texts cells f was keeps has cells_are =
    let s = shown_texts f was in
    texts_show texts cells f has cells_are
    (s.right_is ∙ sym (right_kept first node.kind old new (λ j low high. keeps.right j (omega (arith, f.at)) (omega (arith, f.pointers)))))

-- a cell put in,
pub put_shows : {usable : ℕ} {first : Bool} {old new : List ℕ} {node : Node} {form : Form} (k : ℕ) (cell text : List ℕ) → IsFormOf usable first node form
    → (was : node_of usable first old ≡ Some node) → KeepsRest form old new
    → (asked : Node) → node_of usable first old ≡ Some asked → IsOneCell asked.kind usable cell → text ≡ padded cell
    → ((texts : List (List ℕ)) → HasTexts form old texts → HasTexts form new (insert texts k text))
    → node_of usable first new ≡ Some (with_cell node k (cell_in node.kind usable cell))
put_shows {usable} {first} {old} {node = node} k cell text f was keeps asked asked_is one_asked is puts =
    let s = shown_texts f was in
    let same : asked ≡ node = same_node usable first old asked node asked_is was in
    let one : IsOneCell node.kind usable cell = subst (λ (n : Node). IsOneCell n.kind usable cell) same one_asked in
    edited (insert s.texts k text) (insert node.cells k (cell_in node.kind usable cell)) f was keeps (puts s.texts s.has)
    (ap (λ cells. insert cells k (cell_in node.kind usable cell)) s.cells_are
    ∙ ap (λ c. insert (map (cell_in node.kind usable) s.texts) k c) (sym (padded_same node.kind usable cell one) ∙ ap (cell_in node.kind usable) (sym is))
    ∙ sym (map-insert (cell_in node.kind usable) s.texts k text))

-- one taken out.
pub take_shows : {usable : ℕ} {first : Bool} {old new : List ℕ} {node : Node} {form : Form} (k : ℕ) → IsFormOf usable first node form
    → (was : node_of usable first old ≡ Some node) → KeepsRest form old new
    → ((texts : List (List ℕ)) → HasTexts form old texts → HasTexts form new (remove texts k))
    → node_of usable first new ≡ Some (without_cell node k)
take_shows {usable} {node = node} k f was keeps takes =
    let s = shown_texts f was in
    edited (remove s.texts k) (remove node.cells k) f was keeps (takes s.texts s.has)
    (ap (λ cells. remove cells k) s.cells_are ∙ sym (map-remove (cell_in node.kind usable) s.texts k))

-- and what stays outside
pub keeps_outside : {usable : ℕ} {first : Bool} {old new : List ℕ} {node : Node} {form : Form} → IsFormOf usable first node form → KeepsRest form old new
    → KeepsOutside usable first old new
keeps_outside f keeps = record {
  same_length = keeps.same_length;
  before = λ j l. keeps.head j (omega (arith, f.at));
  past = λ j l. keeps.past j (omega (arith, f.u));
}

-- what packing asks of a page
pub holds_texts : {form : Form} {page : List ℕ} {texts : List (List ℕ)} → HasTexts form page texts → Holds form page texts
holds_texts s = record { content = _; pieces = s.pieces; has = s.is_page.holds; texts_are = s.texts_are }

-- a clause of a result from another
pub on_ok : {X E : Type 0} {P Q : Type 0} (r : Result X E) → (P → Q) → OnOk r P → OnOk r Q
on_ok (Ok x) f p = f p
on_ok (Err e) f p = p

pub if_err : {X E : Type 0} {P Q : E → Type 0} (r : Result X E) → ((e : E) → P e → Q e) → IfErr r P → IfErr r Q
if_err (Ok x) f p = p
if_err (Err e) f p = f e p

-- What is asked of a whole cell's text and place, and what is told of the page, from the node.
pub record PutsText (usable : ℕ) (first : Bool) (old : List ℕ) (node : Node) (form : Form) (k : ℕ) (text : List ℕ) : Type 0 where
  pub texts : List (List ℕ)
  pub has : HasTexts form old texts
  pub place : k ≤ u16_at old (form.at + 3)
  pub whole : IsCell form.kind form.u text

pub puts_text : {usable : ℕ} {first : Bool} {old : List ℕ} {node : Node} {form : Form} (k : ℕ) (cell text : List ℕ) → IsFormOf usable first node form
    → node_of usable first old ≡ Some node → k ≤ length node.cells → IsOneCell node.kind usable cell → text ≡ padded cell
    → PutsText usable first old node form k text
puts_text {usable} {form = form} k cell text f was place one is =
    let s = shown_texts f was in
    record {
      texts = s.texts;
      has = s.has;
      place = omega (arith, s.count);
      whole = rw (f.kind, f.u, is) (padded_cell _ usable cell one);
    }

pub free_shown : {usable : ℕ} {first : Bool} {old : List ℕ} {node : Node} {form : Form} → IsFormOf usable first node form → (was : node_of usable first old ≡ Some node)
    → (P : ℕ → Type 0) → ((texts : List (List ℕ)) → HasTexts form old texts → P (free_in form texts)) → P (free_of usable first node)
free_shown f was P says = let s = shown_texts f was in subst P s.free (says s.texts s.has)

-- a page without a cell
pub empty_page : (usable at pointers : ℕ) (kind : Kind) (page : List ℕ) → usable ≤ length page → 480 ≤ usable → usable ≤ 65536 → at + 8 ≤ pointers → pointers ≤ usable
    → get_or page at 0 ≡ flag_of kind → u16_at page (at + 3) ≡ 0 → content_start page at ≡ usable → u16_at page (at + 1) ≡ 0 → get_or page (at + 7) 0 ≡ 0
    → IsPage usable at pointers kind page [] []
empty_page usable at pointers kind page long least most head room flag none starts chain fragments = record {
  holds = record {
    whole = long;
    least = least;
    most = most;
    head = head;
    flag = flag;
    count = none;
    points = λ i l. absurd (omega arith);
    room = omega arith;
    kinds = λ i l. absurd (omega arith);
    fits = omega arith;
    stand = λ i d l. absurd (omega arith);
    once = λ k. omega arith;
  };
  chain = chain;
  free = λ i d l. absurd (omega arith);
  apart = λ k. omega arith;
  all = omega arith;
  few = omega arith;
}

content_kept : (old new : List ℕ) (at : ℕ) → u16_at new (at + 5) ≡ u16_at old (at + 5) → content_start new at ≡ content_start old at
unfolding content_start
content_kept old new at e = rw e refl

right_started : (first : Bool) (kind : Kind) (page : List ℕ) (right : ℕ) → (is_leaf kind ≡ false → u32_at page (header_at first + 8) ≡ right)
    → (if is_leaf kind then 0 else right) ≡ right_in first kind page
unfolding right_in
right_started first IndexInner page right is = sym (is refl)
right_started first TableInner page right is = sym (is refl)
right_started first IndexLeaf page right is = refl
right_started first TableLeaf page right is = refl

header_most : (first : Bool) → header_at first ≤ 100
header_most true = omega arith
header_most false = omega arith

pointers_most : (first : Bool) (kind : Kind) → pointers_at first kind ≤ 112
pointers_most first IndexInner = let h = header_most first in omega arith
pointers_most first TableInner = let h = header_most first in omega arith
pointers_most first IndexLeaf = let h = header_most first in omega arith
pointers_most first TableLeaf = let h = header_most first in omega arith

-- a page that was begun
pub started : (usable : ℕ) (first : Bool) (kind : Kind) (right at : ℕ) (flagged counted packed new : List ℕ) → usable ≤ length new → 480 ≤ usable → usable ≤ 65536
    → at ≡ header_at first → get_or flagged at 0 ≡ flag_of kind → DiffersOnlyWithin flagged counted (at + 3) (at + 3 + 2) → u16_at counted (at + 3) ≡ 0
    → content_start packed at ≡ usable → u16_at packed (at + 1) ≡ 0 → get_or packed (at + 7) 0 ≡ 0 → u16_at packed (at + 3) ≡ u16_at counted (at + 3)
    → get_or packed at 0 ≡ get_or counted at 0 → DiffersOnlyWithin packed new (at + 8) (at + 12) → (is_leaf kind ≡ false → u32_at new (at + 8) ≡ right)
    → (node_of usable first new ≡ Some (empty_node kind right)) × IsPacked at new
started usable first kind right at flagged counted packed new long least most at_is flag counts none starts chain fragments same_count same_flag rights right_is =
    let most_at : header_at first ≤ 100 = header_most first in
    let most_pointers = pointers_most first kind in
    let content : content_start new at ≡ usable = content_kept packed new at (u16_at-below rights (at + 5) (omega arith)) ∙ starts in
    let block : u16_at new (at + 1) ≡ 0 = u16_at-below rights (at + 1) (omega arith) ∙ chain in
    let fragment : get_or new (at + 7) 0 ≡ 0 = rights.before (at + 7) (omega arith) ∙ fragments in
    let page : IsPage usable at (pointers_at first kind) kind new [] [] =
    empty_page usable at (pointers_at first kind) kind new long least most (rw at_is (header_fits first kind)) (omega arith)
    (rights.before at (omega arith) ∙ same_flag ∙ counts.before at (omega arith) ∙ flag)
    (u16_at-below rights (at + 3) (omega arith) ∙ same_count ∙ none) content block fragment in
    let shows : Shows usable first new (empty_node kind right) = record {
      cells = [];
      blocks = [];
      is_page = subst (λ n. IsPage usable n (pointers_at first kind) kind new [] []) at_is page;
      cells_are = refl;
      right_is = right_started first kind new right (λ inner. ap (λ n. u32_at new (n + 8)) (sym at_is) ∙ right_is inner);
    } in
    (shows_node shows, record { no_block = block; no_fragment = fragment })

-- Pages as lists of texts of cells, and what an edit of bytes leaves.
use Rattle.std.specs.Prelude.{◌≡◌, ℕ, ◌+◌, ◌-◌, ◌*◌, ◌<◌, ◌≤◌, Bool, if◌then◌else◌, List, [], length, map, sum_by, slice_index}
use Rattle.page_spec.specs.Bytes.{u16_at}
use Rattle.node_spec.specs.Kinds.{header_at, pointers_at, is_leaf}
use Rattle.node_spec.specs.declared.kinds.Kind.{Kind}
use Rattle.node_spec.specs.Layout.{Piece, HasCells, IsPage}
use Rattle.node_spec.specs.Nodes.{Node}
use Rattle.page_edit.specs.declared.form.Form.{Form}

-- the places of the parts of a page that shows a node
pub record IsFormOf (usable : ℕ) (first : Bool) (node : Node) (form : Form) : Type 0 where
  pub u : form.u ≡ usable
  pub at : form.at ≡ header_at first
  pub pointers : form.pointers ≡ pointers_at first node.kind
  pub kind : form.kind ≡ node.kind

-- the texts of cells, in the order of the pointers
abbrev pub texts_of : List Piece → List (List ℕ)
texts_of cells = map (λ (cell : Piece). cell.bytes) cells

-- the bytes are the text of a page of this form, whose cells have these texts
pub record HasTexts (form : Form) (page : List ℕ) (texts : List (List ℕ)) : Type 0 where
  pub pieces : List Piece
  pub blocks : List Piece
  pub is_page : IsPage form.u form.at form.pointers form.kind page pieces blocks
  pub texts_are : texts_of pieces ≡ texts

-- the bytes hold cells of these texts, whatever else they have
pub record Holds (form : Form) (page : List ℕ) (texts : List (List ℕ)) : Type 0 where
  pub content : ℕ
  pub pieces : List Piece
  pub has : HasCells form.u form.at form.pointers content form.kind page pieces
  pub texts_are : texts_of pieces ≡ texts

-- how many bytes are free, fragments and freeblocks included
abbrev pub free_in : Form → List (List ℕ) → ℕ
free_in form texts = form.u - (form.pointers + 2 * length texts + sum_by length texts)

-- a page whose header stands at a place has no freeblock and no fragment, so all its free bytes are one gap
pub record IsPacked (at : ℕ) (page : List ℕ) : Type 0 where
  pub no_block : u16_at page (at + 1) ≡ 0
  pub no_fragment : slice_index page (at + 7) ≡ 0

-- what no edit changes: what stands before the header, the right child, and the bytes that aren't usable
pub record KeepsRest (form : Form) (old new : List ℕ) : Type 0 where
  pub same_length : length new ≡ length old
  pub head : (j : ℕ) → j < form.at → slice_index new j ≡ slice_index old j
  pub right : (j : ℕ) → form.at + 8 ≤ j → j < form.pointers → slice_index new j ≡ slice_index old j
  pub past : (j : ℕ) → form.u ≤ j → slice_index new j ≡ slice_index old j

-- what no edit of a page changes, seen from outside: the bytes before its header, which page 1 has, and those past the usable ones
pub record KeepsOutside (usable : ℕ) (first : Bool) (old new : List ℕ) : Type 0 where
  pub same_length : length new ≡ length old
  pub before : (j : ℕ) → j < header_at first → slice_index new j ≡ slice_index old j
  pub past : (j : ℕ) → usable ≤ j → slice_index new j ≡ slice_index old j

-- the pointers of a page get one more, at place k
pub record AddsPointer (old new : List ℕ) (pointers count k start : ℕ) : Type 0 where
  pub same_length : length new ≡ length old
  pub below : (j : ℕ) → j < k → u16_at new (pointers + 2 * j) ≡ u16_at old (pointers + 2 * j)
  pub added : u16_at new (pointers + 2 * k) ≡ start
  pub above : (j : ℕ) → k ≤ j → j < count → u16_at new (pointers + 2 * (j + 1)) ≡ u16_at old (pointers + 2 * j)
  pub before : (j : ℕ) → j < pointers → slice_index new j ≡ slice_index old j
  pub after : (j : ℕ) → pointers + 2 * count + 2 ≤ j → slice_index new j ≡ slice_index old j

-- the pointers of a page lose the one at place k, and its header counts one less
pub record DropsPointer (old new : List ℕ) (at pointers count k : ℕ) : Type 0 where
  pub same_length : length new ≡ length old
  pub below : (j : ℕ) → j < k → u16_at new (pointers + 2 * j) ≡ u16_at old (pointers + 2 * j)
  pub above : (j : ℕ) → k ≤ j → j + 1 < count → u16_at new (pointers + 2 * j) ≡ u16_at old (pointers + 2 * (j + 1))
  pub flag : slice_index new at ≡ slice_index old at
  pub head : (j : ℕ) → j < at → slice_index new j ≡ slice_index old j
  pub right : (j : ℕ) → at + 8 ≤ j → j < pointers → slice_index new j ≡ slice_index old j
  pub after : (j : ℕ) → pointers + 2 * count ≤ j → slice_index new j ≡ slice_index old j

-- a node without a cell; a leaf has no right child
abbrev pub empty_node : Kind → ℕ → Node
empty_node kind right = record { kind = kind; cells = []; right = if is_leaf kind then 0 else right }

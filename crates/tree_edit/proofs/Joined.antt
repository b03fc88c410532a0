-- Neighbours that are read, joined in bytes, and stored.
use Rattle.std.proofs.Common.{◌≡◌, ℕ, ◌<◌, ◌≤◌, List, [], ◌∷◌, ◌++◌, length, Bool, true, false, if◌then◌else◌, refl, sym, subst, ap, ◌∙◌, arith, inl, inr, append-nil}
use Rattle.std.specs.Prelude.{◌⊎◌, ◌&&◌, All, Contains, Option, Some, unwrap_or}
use Rattle.std.proofs.lemmas.List.Elements.{All-nil, All-cons}
use Rattle.std.proofs.lemmas.List.{append_assoc}
use Rattle.page_spec.specs.View.{View}
use Rattle.engine_spec.specs.declared.commits.FetchFault.{FetchFault}
use Rattle.engine_spec.specs.declared.commits.FetchFault.TheVariants as fault
use Rattle.node_spec.specs.declared.kinds.Kind.{Kind}
use Rattle.node_spec.specs.declared.kinds.Kind.TheVariants.{IndexInner, TableInner, IndexLeaf, TableLeaf}
use Rattle.node_spec.specs.Kinds.{is_leaf, is_table, flag_of}
use Rattle.node_spec.specs.Cells.{NodeCell, IsOneCell, cell_in}
use Rattle.node_spec.specs.Nodes.{Node, node_of, free_of, right_in}
use Rattle.node_spec.proofs.NodeLaws.{node_shows}
use Rattle.page_face.specs.declared.pages_tells.PagesTells.{Ghosts}
use Rattle.page_face.specs.Pages.{ReadsAtMost, IsFromOutside, pages_read}
use Rattle.tree_spec.specs.Layout.{times}
use Rattle.tree_spec.specs.Shown.{Shown, shown_by}
use Rattle.tree_spec.proofs.Lists.{times-append}
use Rattle.overflow.specs.Following.{shown_over}
use Rattle.edit_spec.specs.Nodes.{ByLeafOfTable, node_taking}
use Rattle.edit_spec.specs.Joins.{Joins, JoinsRows, JoinsBetween}
use Rattle.node_edit.specs.Keys.{kind_above, ComesDown, size_down}
use Rattle.node_edit.specs.Runs.{weight_of, spelled_by}
use Rattle.tree_edit.specs.declared.joining.Left.{Left}
use Rattle.tree_edit.specs.Editing.{PageLists, EditsPages, lists_joined, reading, giving, storing}
use Rattle.tree_edit.specs.Roots.{inner_kind}
use Rattle.tree_edit.specs.Settling.{HoldsNone}
use Rattle.tree_edit.specs.Joining.{AreBetween, LacksRoomFor, JoinsPages, BarsJoining, HoldsHead, HaveNodes, SpellBetween}
use Rattle.tree_edit.proofs.Edits.{edits_join, edits_told, edits_read, read_one, still_used, alike, page_apart}
use Rattle.tree_edit.proofs.Storing.{fault_since}

-- kinds with the same flag are the same
pub flags_same : (one two : Kind) → flag_of one ≡ flag_of two → two ≡ one
flags_same IndexInner IndexInner is = refl
flags_same IndexInner TableInner is = absurd (omega (arith, is))
flags_same IndexInner IndexLeaf is = absurd (omega (arith, is))
flags_same IndexInner TableLeaf is = absurd (omega (arith, is))
flags_same TableInner IndexInner is = absurd (omega (arith, is))
flags_same TableInner TableInner is = refl
flags_same TableInner IndexLeaf is = absurd (omega (arith, is))
flags_same TableInner TableLeaf is = absurd (omega (arith, is))
flags_same IndexLeaf IndexInner is = absurd (omega (arith, is))
flags_same IndexLeaf TableInner is = absurd (omega (arith, is))
flags_same IndexLeaf IndexLeaf is = refl
flags_same IndexLeaf TableLeaf is = absurd (omega (arith, is))
flags_same TableLeaf IndexInner is = absurd (omega (arith, is))
flags_same TableLeaf TableInner is = absurd (omega (arith, is))
flags_same TableLeaf IndexLeaf is = absurd (omega (arith, is))
flags_same TableLeaf TableLeaf is = refl

-- the kind of the pages above, by the tree's
pub above_is : (kind : Kind) → kind_above kind ≡ inner_kind (is_table kind)
above_is IndexInner = refl
above_is TableInner = refl
above_is IndexLeaf = refl
above_is TableLeaf = refl

-- a leaf has no right child
pub leaf_right : (usable : ℕ) (first : Bool) (bytes : List ℕ) (node : Node) → node_of usable first bytes ≡ Some node → is_leaf node.kind ≡ true → node.right ≡ 0
unfolding right_in
leaf_right usable first bytes node shown leaf = (node_shows usable first bytes node shown).right_is ∙ rw leaf refl

leads_right : (leaf : Bool) (right child : ℕ) → right ≡ child → (leaf ≡ true → child ≡ 0) → (if leaf then 0 else right) ≡ child
leads_right true right child same none = sym (none refl)
leads_right false right child same none = same

-- two nodes joined, from the texts of the cells between them
pub joins_of : (usable : ℕ) (kind : Kind) (one two : Node) (cell : List ℕ) (right : ℕ) (texts : List (List ℕ)) → kind ≡ one.kind → two.kind ≡ one.kind → right ≡ one.right
    → (is_leaf kind ≡ true → one.right ≡ 0) → SpellBetween (is_leaf kind && is_table kind) kind usable cell right texts
    → Joins one (cell_in (kind_above kind) usable cell) two (node_taking two 0 (one.cells ++ spelled_by one.kind usable texts))
joins_of usable kind one two cell right texts same both child none spells =
    let up = cell_in (kind_above kind) usable cell in
    let whole : Node = node_taking two 0 (one.cells ++ spelled_by one.kind usable texts) in
    subst (λ (k : Kind). ByLeafOfTable (is_leaf k && is_table k) (JoinsRows one two whole) (JoinsBetween one up two whole)) (same ∙ sym both) (by_case (is_leaf kind && is_table kind) spells)
  where
    by_case : (rows : Bool) → SpellBetween rows kind usable cell right texts
        → ByLeafOfTable rows (JoinsRows one two (node_taking two 0 (one.cells ++ spelled_by one.kind usable texts)))
        (JoinsBetween one (cell_in (kind_above kind) usable cell) two (node_taking two 0 (one.cells ++ spelled_by one.kind usable texts)))
    by_case true nothing = record {
      kind = refl;
      cells = ap (λ (l : List (List ℕ)). (one.cells ++ spelled_by one.kind usable l) ++ two.cells) nothing ∙ ap (λ (l : List NodeCell). l ++ two.cells) (append-nil one.cells);
    }
    by_case false (text, is, down) = record {
      kind = refl;
      right_is = refl;
      down = cell_in kind usable text;
      says = down.says;
      leads = down.leads ∙ leads_right (is_leaf kind) right one.right child none;
      cells = ap (λ (l : List (List ℕ)). (one.cells ++ spelled_by one.kind usable l) ++ two.cells) is
          ∙ (ap (λ (k : Kind). (one.cells ++ (cell_in k usable text ∷ [])) ++ two.cells) (sym same) ∙ append_assoc one.cells (cell_in kind usable text ∷ []) two.cells);
    }

-- and that they don't fit
pub lacks_of : (usable : ℕ) (kind : Kind) (one two : Node) (cell : List ℕ) (right : ℕ) (texts : List (List ℕ)) → kind ≡ one.kind → two.kind ≡ one.kind → right ≡ one.right
    → (is_leaf kind ≡ true → one.right ≡ 0) → SpellBetween (is_leaf kind && is_table kind) kind usable cell right texts
    → free_of usable false two < weight_of (one.cells ++ spelled_by one.kind usable texts) → LacksRoomFor usable one two (cell_in (kind_above kind) usable cell)
lacks_of usable kind one two cell right texts same both child none spells lacks = record {
  between = spelled_by one.kind usable texts;
  are = subst (λ (k : Kind). AreBetween (is_leaf k && is_table k) one (cell_in (kind_above kind) usable cell) (spelled_by one.kind usable texts)) (same ∙ sym both) (by_case (is_leaf kind && is_table kind) spells);
  lacks = lacks;
}
  where
    by_case : (rows : Bool) → SpellBetween rows kind usable cell right texts → AreBetween rows one (cell_in (kind_above kind) usable cell) (spelled_by one.kind usable texts)
    by_case true nothing = ap (λ (l : List (List ℕ)). spelled_by one.kind usable l) nothing
    by_case false (text, is, down) = (
      cell_in kind usable text,
      ap (λ (l : List (List ℕ)). spelled_by one.kind usable l) is ∙ ap (λ (k : Kind). cell_in k usable text ∷ []) (sym same),
      record {
        says = down.says;
        leads = down.leads ∙ leads_right (is_leaf kind) right one.right child none;
        size_is = down.size_is ∙ ap (λ (k : Kind). size_down k (cell_in (kind_above kind) usable cell).size) same;
      },
    )

-- pages that were read at most show the same
pub same_shown : {P : Type 0} (pages : Ghosts P) (old mid : P) (world : View) → ReadsAtMost pages old mid → pages.tells mid world → shown_over pages mid world ≡ shown_over pages old world
same_shown pages old mid world reads told =
    let keeps = reads.each world told in
    λ i. shown_by (reads.edits.usable i) (λ n. keeps.each n i)

pub one_node : (one other : Node) (shown : Option Node) → shown ≡ Some one → shown ≡ Some other → one ≡ other
one_node one other shown is also = ap (λ (found : Option Node). unwrap_or found other) (sym is ∙ also)

-- both neighbours were read
pub both_held : {P : Type 0} (pages : Ghosts P) (old mid new : P) (table : Bool) (left right : ℕ) (left_bytes right_bytes : List ℕ) (told other : Left) → ReadsAtMost pages old mid
    → ReadsAtMost pages mid new → HoldsHead pages old left left_bytes told mid → HoldsHead pages mid right right_bytes other new → other.kind ≡ told.kind → is_table told.kind ≡ table
    → HaveNodes pages old table left right left_bytes right_bytes told new
both_held pages old mid new table left right left_bytes right_bytes told other first second one two same table_is = record {
  one = one.node;
  two = two.node;
  left_is = one.is;
  right_is = subst (λ (u : ℕ). node_of u false right_bytes ≡ Some two.node) first.edits.usable two.is;
  same_kind = sym two.kind ∙ (same ∙ one.kind);
  table_is = ap is_table (sym one.kind) ∙ table_is;
  kind = one.kind;
  child = one.child;
  left_shows = λ world tells. one.shown world (second.edits.narrows world tells);
  right_shows = λ world tells.
      subst (λ (s : Shown). s.node right ≡ Some two.node) (same_shown pages old mid world first (second.edits.narrows world tells)) (two.shown world tells);
}

pub reads_both : (left right n : ℕ) {A B C : Type 0} → (B → A ⊎ (1 ≤ times (left ∷ []) n)) → (C → B ⊎ (1 ≤ times (right ∷ []) n)) → C → A ⊎ (1 ≤ times (left ∷ (right ∷ [])) n)
reads_both left right n one two there =
    let both = times-append (left ∷ []) (right ∷ []) n in
    elim (two there) [
      | inl before ↦ elim (one before) [ inl earlier ↦ inl earlier | inr here ↦ inr (omega (arith, here, both)) ]
      | inr here ↦ inr (omega (arith, here, both))
    ]

-- why a page on the left gave no node, and one on the right
pub left_bars : {P : Type 0} (pages : Ghosts P) (old new : P) (table : Bool) (left right : ℕ) (why : FetchFault) → HoldsNone pages old left new why
    → BarsJoining pages old table left right new why
left_bars pages old new table left right fault.Disk rose = rose
left_bars pages old new table left right (fault.Corrupt named) bars = inl (bars.0, λ world told one shows is. bars.2 world told one shows)
left_bars pages old new table left right (fault.Size count) never = absurd never
left_bars pages old new table left right fault.Memory is = tt

pub right_bars : {P : Type 0} (pages : Ghosts P) (old mid new : P) (table : Bool) (left right : ℕ) (why : FetchFault) → ReadsAtMost pages old mid → ReadsAtMost pages mid new
    → HoldsNone pages mid right new why → BarsJoining pages old table left right new why
right_bars pages old mid new table left right fault.Disk first second rose = fault_since (pages.faults old) (pages.faults mid) (pages.faults new) fault.Disk first.edits.faults rose
right_bars pages old mid new table left right (fault.Corrupt named) first second bars = inr (
  bars.0,
  λ world told one two left_shows shows same.
      bars.2 world told two (subst (λ (s : Shown). s.node right ≡ Some two) (sym (same_shown pages old mid world first (second.edits.narrows world told))) shows),
)
right_bars pages old mid new table left right (fault.Size count) first second never = absurd never
right_bars pages old mid new table left right fault.Memory first second is = tt

-- the left page is of another tree's kind, or the right one isn't of its kind
pub other_table : {P : Type 0} (pages : Ghosts P) (old new : P) (table : Bool) (left right : ℕ) (bytes : List ℕ) (told : Left) → HoldsHead pages old left bytes told new
    → (is_table told.kind ≡ table → ⊥) → BarsJoining pages old table left right new (fault.Corrupt left)
other_table pages old new table left right bytes told one apart = inl (
  refl,
  λ world tells node shows is.
      apart (ap is_table (one.kind ∙ ap (λ (n : Node). n.kind) (one_node one.node node ((shown_over pages old world).node left) (one.shown world tells) shows)) ∙ is),
)

pub other_kind : {P : Type 0} (pages : Ghosts P) (old mid new : P) (table : Bool) (left right : ℕ) (left_bytes right_bytes : List ℕ) (told other : Left) → ReadsAtMost pages old mid
    → ReadsAtMost pages mid new → HoldsHead pages old left left_bytes told mid → HoldsHead pages mid right right_bytes other new → (other.kind ≡ told.kind → ⊥)
    → BarsJoining pages old table left right new (fault.Corrupt right)
other_kind pages old mid new table left right left_bytes right_bytes told other first second one two apart = inr (
  refl,
  λ world tells a b left_shows right_shows same.
      let tells_mid = second.edits.narrows world tells in
      let left_is = one_node one.node a ((shown_over pages old world).node left) (one.shown world tells_mid) left_shows in
      let right_is = one_node two.node b ((shown_over pages old world).node right)
      (subst (λ (s : Shown). s.node right ≡ Some two.node) (same_shown pages old mid world first tells_mid) (two.shown world tells)) right_shows in
      apart (two.kind ∙ (ap (λ (n : Node). n.kind) right_is ∙ (same ∙ (ap (λ (n : Node). n.kind) (sym left_is) ∙ sym one.kind)))),
)

-- a fault from outside bars a join
pub outside_bars : {P : Type 0} (pages : Ghosts P) (old new : P) (table : Bool) (left right before : ℕ) (why : FetchFault) → pages.faults old ≤ before
    → IsFromOutside before (pages.faults new) why → BarsJoining pages old table left right new why
outside_bars pages old new table left right before fault.Disk least rose = fault_since (pages.faults old) before (pages.faults new) fault.Disk least rose
outside_bars pages old new table left right before (fault.Corrupt named) least never = absurd never
outside_bars pages old new table left right before (fault.Size count) least never = absurd never
outside_bars pages old new table left right before fault.Memory least is = tt

-- both were read, and the right one was stored
pub joined_put : {P : Type 0} (pages : Ghosts P) (old mid new : P) (world : View) (table : Bool) (left right : ℕ) (left_bytes right_bytes : List ℕ) (told : Left) (cell : NodeCell) (whole : Node)
    → ReadsAtMost pages old mid → ((n : ℕ) → Contains (pages.reads mid) n → Contains (pages.reads old) n ⊎ (1 ≤ times (left ∷ (right ∷ [])) n))
    → (have : HaveNodes pages old table left right left_bytes right_bytes told mid) → pages.tells mid world → pages.neat old world → (pages.free old world right → ⊥)
    → Joins have.one cell have.two whole → (shown_over pages new world).node right ≡ Some whole
    → (pages.neat mid world → (pages.free mid world right → ⊥) → EditsPages pages (storing right []) mid new world) → JoinsPages pages old left right [] cell new world
joined_put pages old mid new world table left right left_bytes right_bytes told cell whole reads few have tells neat used joins shows store =
    let one = edits_read pages (left ∷ (right ∷ [])) old mid world reads tells neat few in
    let two = store one.neat (still_used pages (reading (left ∷ (right ∷ []))) old mid world one right used refl) in
    record {
      one = have.one;
      two = have.two;
      whole = whole;
      left_shows = have.left_shows world tells;
      right_shows = have.right_shows world tells;
      shows = shows;
      joins = joins;
      edits = edits_told pages (lists_joined (reading (left ∷ (right ∷ []))) (storing right [])) (record { read = left ∷ (right ∷ []); put = right ∷ []; made = []; gone = [] }) old new world
          (λ n. refl) (λ n. refl) (λ uses. uses) (λ n there. inl there)
          (λ n there. inl (omega (arith, there, times-append (left ∷ (right ∷ [])) (right ∷ []) n, times-append (left ∷ []) (right ∷ []) n)))
          (edits_join pages (reading (left ∷ (right ∷ []))) (storing right []) old mid new world one two);
    }

-- and the left one was given up
pub joined_given : {P : Type 0} (pages : Ghosts P) (old mid new : P) (world : View) (left right : ℕ) (cell : NodeCell) → JoinsPages pages old left right [] cell mid world
    → pages.usable new ≡ pages.usable mid → 1 ≤ right → (left ≡ right → ⊥) → (pages.free old world left → ⊥) → (pages.free old world right → ⊥)
    → (pages.neat mid world → (pages.free mid world left → ⊥) → EditsPages pages (giving (left ∷ [])) mid new world) → JoinsPages pages old left right (left ∷ []) cell new world
joined_given pages old mid new world left right cell joins usable some apart used_left used_right give =
    let one = joins.edits in
    let lists : PageLists = record { read = left ∷ (right ∷ []); put = right ∷ []; made = []; gone = [] } in
    let two = give one.neat (still_used pages lists old mid world one left used_left refl) in
    let stays = alike pages (giving (left ∷ [])) mid new world two usable right some (still_used pages lists old mid world one right used_right refl) refl (page_apart left right apart) in
    record {
      one = joins.one;
      two = joins.two;
      whole = joins.whole;
      left_shows = joins.left_shows;
      right_shows = joins.right_shows;
      shows = stays.node ∙ joins.shows;
      joins = joins.joins;
      edits = edits_join pages lists (giving (left ∷ [])) old mid new world one two;
    }

-- a page more was read, or none
pub read_some : {P : Type 0} (pages : Ghosts P) (old new : P) (page : ℕ) → (pages.reads new ≡ pages.reads old) ⊎ (pages.reads new ≡ pages_read pages old page) → (n : ℕ)
    → Contains (pages.reads new) n → Contains (pages.reads old) n ⊎ (1 ≤ times (page ∷ []) n)
read_some pages old new page (inl same) n there = inl (subst (λ (l : List ℕ). Contains l n) same there)
read_some pages old new page (inr is) n there = read_one pages old new page is n there

-- the texts of the cells between are cells of the kind
pub between_cells : (kind : Kind) (usable : ℕ) (cell : List ℕ) (right : ℕ) (texts : List (List ℕ)) → SpellBetween (is_leaf kind && is_table kind) kind usable cell right texts
    → All (IsOneCell kind usable) texts × (length texts ≤ 1)
between_cells kind usable cell right texts spells = by_case (is_leaf kind && is_table kind) spells
  where
    by_case : (rows : Bool) → SpellBetween rows kind usable cell right texts → All (IsOneCell kind usable) texts × (length texts ≤ 1)
    by_case true nothing = subst (λ (l : List (List ℕ)). All (IsOneCell kind usable) l × (length l ≤ 1)) (sym nothing) (All-nil (IsOneCell kind usable), omega arith)
    by_case false (text, is, down) = subst (λ (l : List (List ℕ)). All (IsOneCell kind usable) l × (length l ≤ 1)) (sym is)
        (All-cons (IsOneCell kind usable) text [] down.one (All-nil (IsOneCell kind usable)), omega arith)

-- the kind of the cell above
pub above_held : {P : Type 0} (pages : Ghosts P) (old mid : P) (table : Bool) (left right : ℕ) (left_bytes right_bytes : List ℕ) (told : Left)
    → HaveNodes pages old table left right left_bytes right_bytes told mid → kind_above told.kind ≡ inner_kind table
above_held pages old mid table left right left_bytes right_bytes told have = above_is told.kind ∙ ap inner_kind (ap is_table have.kind ∙ have.table_is)

-- the same said of that cell, over the pages' count of usable bytes
pub joins_on : (u v : ℕ) (k kind : Kind) (cell : List ℕ) (one two whole : Node) → u ≡ v → k ≡ kind → Joins one (cell_in k u cell) two whole → Joins one (cell_in kind v cell) two whole
joins_on u v k kind cell one two whole usable is joins =
    subst (λ (n : ℕ). Joins one (cell_in kind n cell) two whole) usable (subst (λ (a : Kind). Joins one (cell_in a u cell) two whole) is joins)

pub lacks_on : (u v : ℕ) (k kind : Kind) (cell : List ℕ) (a b one two : Node) → u ≡ v → k ≡ kind → a ≡ one → b ≡ two → LacksRoomFor u a b (cell_in k u cell)
    → LacksRoomFor v one two (cell_in kind v cell)
lacks_on u v k kind cell a b one two usable is first second lacks =
    subst (λ (n : ℕ). LacksRoomFor n one two (cell_in kind n cell)) usable (subst (λ (x : Kind). LacksRoomFor u one two (cell_in x u cell)) is
    (subst (λ (x : Node). LacksRoomFor u one x (cell_in k u cell)) second (subst (λ (x : Node). LacksRoomFor u x b (cell_in k u cell)) first lacks)))

-- none comes between leaves of tables, else one
pub between_none : (rows : Bool) (kind : Kind) (usable : ℕ) (cell : List ℕ) (right : ℕ) (texts : List (List ℕ)) → rows ≡ true → texts ≡ [] → SpellBetween rows kind usable cell right texts
between_none true kind usable cell right texts is nothing = nothing
between_none false kind usable cell right texts is nothing = absurd (cc)

pub between_one : (rows : Bool) (kind : Kind) (usable : ℕ) (cell : List ℕ) (right : ℕ) (text : List ℕ) (texts : List (List ℕ)) → rows ≡ false → texts ≡ text ∷ []
    → ComesDown kind usable (cell_in (kind_above kind) usable cell) right text → SpellBetween rows kind usable cell right texts
between_one true kind usable cell right text texts is one down = absurd (cc)
between_one false kind usable cell right text texts is one down = (text, one, down)

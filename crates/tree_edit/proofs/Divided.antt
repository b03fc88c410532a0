-- Neighbours that are read, divided anew in bytes, and stored.
use Rattle.std.proofs.Common.{◌≡◌, ℕ, ◌<◌, ◌≤◌, List, [], ◌∷◌, ◌++◌, length, Bool, true, false, refl, sym, subst, ap, ◌∙◌, arith, inl, inr, length-append}
use Rattle.std.specs.Prelude.{◌⊎◌, ◌==◌, ◌&&◌, All, Contains, Some}
use Rattle.std.proofs.lemmas.Bool.{ne_eqb}
use Rattle.std.proofs.lemmas.List.Sums.{sum_by_push}
use Rattle.page_spec.specs.View.{View}
use Rattle.engine_spec.specs.declared.commits.FetchFault.{FetchFault}
use Rattle.engine_spec.specs.declared.commits.FetchFault.TheVariants as fault
use Rattle.node_spec.specs.declared.kinds.Kind.{Kind}
use Rattle.node_spec.specs.Kinds.{is_leaf, is_table}
use Rattle.node_spec.specs.Cells.{NodeCell, IsOneCell, cell_in}
use Rattle.node_spec.specs.Nodes.{Node, node_of, free_of}
use Rattle.page_face.specs.declared.pages_tells.PagesTells.{Ghosts}
use Rattle.page_face.specs.Pages.{ReadsAtMost}
use Rattle.tree_spec.specs.Layout.{times}
use Rattle.tree_spec.specs.Shown.{Shown}
use Rattle.tree_spec.proofs.Lists.{times-append}
use Rattle.overflow.specs.Following.{shown_over}
use Rattle.edit_spec.specs.Nodes.{Divides}
use Rattle.node_edit.specs.Keys.{kind_above, LeadsTo, IsCellAbove, size_down}
use Rattle.node_edit.specs.Runs.{weight_of, spelled_by}
use Rattle.node_edit.specs.Dividing.{LackRoom}
use Rattle.tree_edit.specs.declared.joining.Left.{Left}
use Rattle.tree_edit.specs.Editing.{EditsPages, lists_joined, reading, storing}
use Rattle.tree_edit.specs.Joining.{AreBetween, LacksRoomFor, BarsJoining, HaveNodes, SpellBetween}
use Rattle.tree_edit.specs.Dividing.{HaveToDivide, AreCrowded, putting_both, DividesPages, BarsDividing, ShowAnew, ShowUnder, StoresBoth}
use Rattle.tree_edit.specs.Roots.{inner_kind}
use Rattle.tree_edit.proofs.Edits.{edits_join, edits_told, edits_read, still_used, alike, page_apart}
use Rattle.tree_edit.proofs.Joined.{one_node, between_cells, above_held, same_shown}

-- a last cell weighs by its size
weight_last : (cells : List NodeCell) (one other : NodeCell) → one.size ≡ other.size → weight_of (cells ++ (one ∷ [])) ≡ weight_of (cells ++ (other ∷ []))
weight_last cells one other same =
    let first = sum_by_push (λ (cell : NodeCell). cell.size) cells one in
    let second = sum_by_push (λ (cell : NodeCell). cell.size) cells other in
    omega (arith, same, first, second, length-append cells (one ∷ []), length-append cells (other ∷ []))

-- where the cells that come between have room, any that may come between have
pub has_room : (usable : ℕ) (kind : Kind) (one two : Node) (cell : List ℕ) (right : ℕ) (texts : List (List ℕ)) → kind ≡ one.kind → two.kind ≡ one.kind
    → SpellBetween (is_leaf kind && is_table kind) kind usable cell right texts → weight_of (one.cells ++ spelled_by one.kind usable texts) ≤ free_of usable false two
    → LacksRoomFor usable one two (cell_in (kind_above kind) usable cell) → ⊥
has_room usable kind one two cell right texts same both spells fits lacks =
    let are = subst (λ (k : Kind). AreBetween (is_leaf k && is_table k) one (cell_in (kind_above kind) usable cell) lacks.between) (both ∙ sym same) lacks.are in
    omega (arith, fits, lacks.lacks, by_case (is_leaf kind && is_table kind) lacks.between spells are)
  where
    by_case : (rows : Bool) (between : List NodeCell) → SpellBetween rows kind usable cell right texts → AreBetween rows one (cell_in (kind_above kind) usable cell) between
        → weight_of (one.cells ++ between) ≡ weight_of (one.cells ++ spelled_by one.kind usable texts)
    by_case true between nothing none =
        ap (λ (l : List NodeCell). weight_of (one.cells ++ l)) (none ∙ sym (ap (λ (l : List (List ℕ)). spelled_by one.kind usable l) nothing))
    by_case false between (text, is, down) (other, are, may) =
        let up = cell_in (kind_above kind) usable cell in
        let size : other.size ≡ (cell_in kind usable text).size = may.size_is ∙ (ap (λ (k : Kind). size_down k up.size) (sym same) ∙ sym down.size_is) in
        let spelled : spelled_by one.kind usable texts ≡ cell_in kind usable text ∷ [] =
        ap (λ (l : List (List ℕ)). spelled_by one.kind usable l) is ∙ ap (λ (k : Kind). cell_in k usable text ∷ []) (sym same) in
        ap (λ (l : List NodeCell). weight_of (one.cells ++ l)) are
        ∙ (weight_last one.cells other (cell_in kind usable text) size ∙ sym (ap (λ (l : List NodeCell). weight_of (one.cells ++ l)) spelled))

-- neighbours without room, one of which has no cell, by the texts of the cells between them
pub lack_room : (usable : ℕ) (kind : Kind) (one two : Node) (cell : List ℕ) (right : ℕ) (texts : List (List ℕ)) → kind ≡ one.kind → two.kind ≡ one.kind
    → SpellBetween (is_leaf kind && is_table kind) kind usable cell right texts → (length one.cells ≡ 0) ⊎ (length two.cells ≡ 0)
    → free_of usable false two < weight_of (one.cells ++ spelled_by one.kind usable texts) → LackRoom usable one two texts
lack_room usable kind one two cell right texts same both spells thin lacks =
    let cells = between_cells kind usable cell right texts spells in
    record {
      kind = both;
      cells = subst (λ (k : Kind). All (IsOneCell k usable) texts) same cells.0;
      few = omega (arith, cells.1);
      rows = λ rows. none (is_leaf kind && is_table kind) spells (ap (λ (k : Kind). is_leaf k && is_table k) same ∙ rows);
      thin = thin;
      lacks = lacks;
    }
  where
    none : (rows : Bool) → SpellBetween rows kind usable cell right texts → rows ≡ true → texts ≡ []
    none true nothing is = nothing
    none false one is = absurd (cc)

-- the key, behind the number of the page on the left, is the cell above
pub under_key : (usable : ℕ) (kind : Kind) (one : Node) (cell : NodeCell) (two : Node) (page : ℕ) (key text left right : List ℕ) → kind ≡ one.kind → LeadsTo page key text
    → ShowAnew usable one cell two key left right → ShowUnder usable (kind_above kind) one cell two page text left right
under_key usable kind one cell two page key text left right same leads anew =
    let parts = anew.parts in
    let is : kind_above anew.whole.kind ≡ kind_above kind = ap kind_above (anew.kind ∙ sym same) in
    record {
      whole = anew.whole;
      joins = anew.joins;
      left_part = parts.left_part;
      rest = parts.rest;
      left_shows = parts.left_shows;
      rest_shows = parts.rest_shows;
      is_above = subst (λ (k : Kind). IsCellAbove k usable page text) is (parts.divides.one page text leads);
      divides = subst (λ (k : Kind). Divides anew.whole (cell_in k usable text) parts.left_part parts.rest) is (parts.divides.divides page text leads);
    }

-- the same said over the pages' count of usable bytes, of the neighbours that were read
under_on : (u v : ℕ) (k kind : Kind) (cell : List ℕ) (one two : Node) (page : ℕ) (text left right : List ℕ) → u ≡ v → k ≡ kind
    → ShowUnder u k one (cell_in k u cell) two page text left right → ShowUnder v kind one (cell_in kind v cell) two page text left right
under_on u v k kind cell one two page text left right usable is shows =
    subst (λ (n : ℕ). ShowUnder n kind one (cell_in kind n cell) two page text left right) usable
    (subst (λ (a : Kind). ShowUnder u a one (cell_in a u cell) two page text left right) is shows)

pub under_held : {P : Type 0} (pages : Ghosts P) (old mid : P) (table : Bool) (left right : ℕ) (left_bytes right_bytes : List ℕ) (told : Left) (u : ℕ) (cell text one two : List ℕ)
    → u ≡ pages.usable old → (have : HaveNodes pages old table left right left_bytes right_bytes told mid)
    → ((a b : Node) → node_of u false left_bytes ≡ Some a → node_of u false right_bytes ≡ Some b
    → ShowUnder u (kind_above told.kind) a (cell_in (kind_above told.kind) u cell) b left text one two)
    → ShowUnder (pages.usable old) (inner_kind table) have.one (cell_in (inner_kind table) (pages.usable old) cell) have.two left text one two
under_held pages old mid table left right left_bytes right_bytes told u cell text one two usable have shows =
    under_on u (pages.usable old) (kind_above told.kind) (inner_kind table) cell have.one have.two left text one two usable
    (above_held pages old mid table left right left_bytes right_bytes told have)
    (shows have.one have.two (subst (λ (n : ℕ). node_of n false left_bytes ≡ Some have.one) (sym usable) have.left_is)
    (subst (λ (n : ℕ). node_of n false right_bytes ≡ Some have.two) (sym usable) have.right_is))

have_on : (u v : ℕ) (k kind : Kind) (cell : List ℕ) (a b one two : Node) → u ≡ v → k ≡ kind → a ≡ one → b ≡ two → HaveToDivide u a b (cell_in k u cell)
    → HaveToDivide v one two (cell_in kind v cell)
have_on u v k kind cell a b one two usable is first second have =
    subst (λ (n : ℕ). HaveToDivide n one two (cell_in kind n cell)) usable (subst (λ (x : Kind). HaveToDivide u one two (cell_in x u cell)) is
    (subst (λ (x : Node). HaveToDivide u one x (cell_in k u cell)) second (subst (λ (x : Node). HaveToDivide u x b (cell_in k u cell)) first have)))

-- two pages were stored one after the other
pub both_stored : {P : Type 0} (pages : Ghosts P) (old mid new : P) (world : View) (left right : ℕ) (one two : List ℕ) → pages.usable mid ≡ pages.usable old
    → pages.usable new ≡ pages.usable mid → 2 ≤ left → 2 ≤ right → (left ≡ right → ⊥) → (pages.free old world left → ⊥) → (pages.free old world right → ⊥)
    → EditsPages pages (storing left []) old mid world → (pages.neat mid world → (pages.free mid world right → ⊥) → EditsPages pages (storing right []) mid new world)
    → ((node : Node) → node_of (pages.usable old) (left == 1) one ≡ Some node → (shown_over pages mid world).node left ≡ Some node)
    → ((node : Node) → node_of (pages.usable mid) (right == 1) two ≡ Some node → (shown_over pages new world).node right ≡ Some node)
    → StoresBoth pages old left right one two new world
both_stored pages old mid new world left right one two same then_same low high apart used_left used_right first store shows_left shows_right =
    let last = store first.neat (still_used pages (storing left []) old mid world first right used_right refl) in
    let stays = alike pages (storing right []) mid new world last then_same left (omega (arith, low)) (still_used pages (storing left []) old mid world first left used_left refl)
    (page_apart right left (λ is. apart (sym is))) refl in
    record {
      left_shows = λ node is. stays.node ∙ shows_left node
          (subst (λ (b : Bool). node_of (pages.usable old) b one ≡ Some node) (sym (ne_eqb left 1 (λ page. omega (arith, page, low)))) is);
      right_shows = λ node is. shows_right node
          (subst (λ (b : Bool). node_of (pages.usable mid) b two ≡ Some node) (sym (ne_eqb right 1 (λ page. omega (arith, page, high))))
          (subst (λ (u : ℕ). node_of u false two ≡ Some node) (sym same) is));
      edits = edits_join pages (storing left []) (storing right []) old mid new world first last;
    }

-- both were read, divided and stored
pub divided_put : {P : Type 0} (pages : Ghosts P) (old mid new : P) (world : View) (table : Bool) (left right : ℕ) (left_bytes right_bytes : List ℕ) (told : Left) (cell : NodeCell)
    (text one two : List ℕ) → ReadsAtMost pages old mid → ((n : ℕ) → Contains (pages.reads mid) n → Contains (pages.reads old) n ⊎ (1 ≤ times (left ∷ (right ∷ [])) n))
    → (have : HaveNodes pages old table left right left_bytes right_bytes told mid) → pages.tells mid world → pages.neat old world → (pages.free old world left → ⊥)
    → (pages.free old world right → ⊥) → ShowUnder (pages.usable old) (inner_kind table) have.one cell have.two left text one two
    → (pages.neat mid world → (pages.free mid world left → ⊥) → (pages.free mid world right → ⊥) → StoresBoth pages mid left right one two new world)
    → DividesPages pages old table left right cell text new world
divided_put pages old mid new world table left right left_bytes right_bytes told cell text one two reads few have tells neat used_left used_right under store =
    let both : List ℕ = left ∷ (right ∷ []) in
    let first = edits_read pages both old mid world reads tells neat few in
    let puts = store first.neat (still_used pages (reading both) old mid world first left used_left refl) (still_used pages (reading both) old mid world first right used_right refl) in
    let same = reads.edits.usable in
    record {
      one = have.one;
      two = have.two;
      whole = under.whole;
      left_shows = have.left_shows world tells;
      right_shows = have.right_shows world tells;
      joins = under.joins;
      shows = record {
        left = under.left_part;
        rest = under.rest;
        holds = ap (λ (n : ℕ). (shown_over pages new world).node n) under.is_above.left
            ∙ puts.left_shows under.left_part (subst (λ (u : ℕ). node_of u false one ≡ Some under.left_part) (sym same) under.left_shows);
        divides = under.divides;
        others = puts.right_shows under.rest (subst (λ (u : ℕ). node_of u false two ≡ Some under.rest) (sym same) under.rest_shows);
      };
      edits = edits_told pages (lists_joined (reading both) (putting_both left right)) (putting_both left right) old new world (λ n. refl) (λ n. refl) (λ uses. uses)
          (λ n there. inl there) (λ n there. inl (omega (arith, there, times-append both both n)))
          (edits_join pages (reading both) (putting_both left right) old mid new world first puts.edits);
    }

-- what bars a join bars this
pub beside_bars : {P : Type 0} (pages : Ghosts P) (old new : P) (table : Bool) (left right : ℕ) (cell : NodeCell) (why : FetchFault) → BarsJoining pages old table left right new why
    → BarsDividing pages old table left right cell new why
beside_bars pages old new table left right cell fault.Disk rose = rose
beside_bars pages old new table left right cell (fault.Corrupt named) (inl bars) = inl bars
beside_bars pages old new table left right cell (fault.Corrupt named) (inr bars) =
    inr (bars.0, λ world told crowded. bars.1 world told crowded.one crowded.two crowded.left_shows crowded.right_shows crowded.crowded.kind)
beside_bars pages old new table left right cell (fault.Size count) never = absurd never
beside_bars pages old new table left right cell fault.Memory is = tt

-- neighbours that needn't be divided
pub needless_bars : {P : Type 0} (pages : Ghosts P) (old new : P) (table : Bool) (left right : ℕ) (left_bytes right_bytes : List ℕ) (told : Left) (u : ℕ) (cell : List ℕ)
    → u ≡ pages.usable old → HaveNodes pages old table left right left_bytes right_bytes told new
    → ((a b : Node) → node_of u false left_bytes ≡ Some a → node_of u false right_bytes ≡ Some b → HaveToDivide u a b (cell_in (kind_above told.kind) u cell) → ⊥)
    → BarsDividing pages old table left right (cell_in (inner_kind table) (pages.usable old) cell) new (fault.Corrupt right)
needless_bars pages old new table left right left_bytes right_bytes told u cell usable have not = inr (
  refl,
  λ world tells crowded.
      not have.one have.two (subst (λ (n : ℕ). node_of n false left_bytes ≡ Some have.one) (sym usable) have.left_is)
      (subst (λ (n : ℕ). node_of n false right_bytes ≡ Some have.two) (sym usable) have.right_is)
      (have_on (pages.usable old) u (inner_kind table) (kind_above told.kind) cell crowded.one crowded.two have.one have.two (sym usable)
      (sym (above_held pages old new table left right left_bytes right_bytes told have))
      (one_node crowded.one have.one ((shown_over pages old world).node left) crowded.left_shows (have.left_shows world tells))
      (one_node crowded.two have.two ((shown_over pages old world).node right) crowded.right_shows (have.right_shows world tells)) crowded.crowded),
)

-- neighbours that lacked room when they should be joined have to be divided, where one of them has no cell
pub crowded_then : {P : Type 0} (pages : Ghosts P) (old mid : P) (world : View) (left right : ℕ) (kind : Kind) (cell : List ℕ) (one two : Node) → ReadsAtMost pages old mid
    → pages.tells mid world → (shown_over pages old world).node left ≡ Some one → (shown_over pages old world).node right ≡ Some two → two.kind ≡ one.kind
    → (length one.cells ≡ 0) ⊎ (length two.cells ≡ 0) → LacksRoomFor (pages.usable old) one two (cell_in kind (pages.usable old) cell)
    → AreCrowded pages mid left right (cell_in kind (pages.usable mid) cell) world
crowded_then pages old mid world left right kind cell one two reads told left_shows right_shows same thin lacks =
    let have : HaveToDivide (pages.usable old) one two (cell_in kind (pages.usable old) cell) = record { kind = same; thin = thin; lacks = lacks } in
    let shown = sym (same_shown pages old mid world reads told) in
    record {
      one = one;
      two = two;
      left_shows = subst (λ (s : Shown). s.node left ≡ Some one) shown left_shows;
      right_shows = subst (λ (s : Shown). s.node right ≡ Some two) shown right_shows;
      crowded = subst (λ (u : ℕ). HaveToDivide u one two (cell_in kind u cell)) (sym reads.edits.usable) have;
    }

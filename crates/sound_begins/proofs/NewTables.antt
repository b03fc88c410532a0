-- A new database of tables is sound: page 1 roots the schema's tree, a leaf without a row, and is the only page.
use Rattle.std.proofs.Common.{◌≡◌, ℕ, ◌+◌, ◌*◌, ◌/◌, ◌%◌, ◌^◌, ◌≤◌, ◌==◌, true, if◌then◌else◌, List, [], ◌∷◌, length, refl, ap, ◌∙◌, arith, inl}
use Rattle.std.specs.List.{starts_with}
use Rattle.std.specs.Prelude.{nat_eq, nat_le, slice_index}
use Rattle.std.proofs.lemmas.List.Elements.{All-nil}
use Rattle.page_spec.specs.Bytes.{u16_at, u32_at}
use Rattle.page_spec.specs.Header.{database_text, page_sizes, fields_of, is_page_size, is_database, has_versions, is_utf8, is_without_auto_vacuum, has_usable_bytes, has_schema_format, IsHeader}
use Rattle.page_spec.specs.View.{view_of}
use Rattle.node_spec.specs.declared.kinds.Kind.TheVariants.{TableLeaf}
use Rattle.node_spec.specs.Layout.{Stands, IsPage, content_start}
use Rattle.node_spec.specs.Nodes.{Node, Shows, right_in}
use Rattle.node_spec.proofs.NodeLaws.{shows_node}
use Rattle.tree_spec.specs.Shown.{shown_by}
use Rattle.tree_spec.specs.Trees.{IsTree}
use Rattle.tree_spec.proofs.Freelists.{each_there}
use Rattle.sound_spec.specs.Sound.{IsSound}
use Rattle.recover.specs.NewPages.{new_first_page, new_pages}
use Rattle.recover.specs.declared.setup.StoreKind.TheVariants.{Tables}
use Rattle.recover.proofs.NewPages.{first_sized, first_counts, first_long}
use Rattle.recover.proofs.Page1.{le_true}
use Rattle.recover.proofs.SeenFiles.{legal_size, is_legal}

-- the text of page 1 where it is a leaf of a table without a cell
leaf_without_cells : (usable : ℕ) (page : List ℕ) → usable ≤ length page → 480 ≤ usable → usable ≤ 65536 → slice_index page 100 ≡ 13 → u16_at page 101 ≡ 0
    → u16_at page 103 ≡ 0 → content_start page 100 ≡ usable → slice_index page 107 ≡ 0 → IsPage usable 100 108 TableLeaf page [] []
leaf_without_cells usable page long least most flag free count content fragments = record {
  holds = record {
    whole = long;
    least = least;
    most = most;
    head = omega arith;
    flag = flag;
    count = count;
    points = λ i less. absurd (omega (arith, less));
    room = omega (arith, content, least);
    kinds = λ i less. absurd (omega (arith, less));
    fits = omega (arith, content);
    stand = All-nil (Stands page (content_start page 100) usable);
    once = λ k. omega arith;
  };
  chain = free;
  free = All-nil (Stands page (content_start page 100) usable);
  apart = λ k. omega arith;
  all = omega (arith, content, fragments);
  few = omega (arith, fragments);
}

-- two bytes at the end of a page of this size
abbrev Ends : ℕ → Type 0
Ends size = (if size / 256 % 256 * 2 ^ 8 + 0 == 0 then 65536 else size / 256 % 256 * 2 ^ 8 + 0) ≡ size

ends : (size : ℕ) → is_page_size size ≡ true → Ends size
ends size legal = each_there Ends page_sizes size (refl, (refl, (refl, (refl, (refl, (refl, (refl, (refl, tt)))))))) (is_legal size legal)

abbrev no_rows : Node
no_rows = record { kind = TableLeaf; cells = []; right = 0 }

database_of : (first : List ℕ) → nat_le 100 (length first) ≡ true → starts_with nat_eq first database_text ≡ true
    → (slice_index first 21 == 64) ≡ true → (slice_index first 22 == 32) ≡ true → (slice_index first 23 == 32) ≡ true → is_database first ≡ true
unfolding is_database
database_of first long text one two three = rw (long, text, one, two, three) refl

module _ (size : ℕ) (legal : is_page_size size ≡ true) where
  wide : (512 ≤ size) × (size ≤ 65536)
  wide = legal_size size legal

  long : length (new_first_page Tables size) ≡ size
  long = first_long Tables size (omega (arith, wide.0))

  content : content_start (new_first_page Tables size) 100 ≡ size
  unfolding content_start u16_at new_first_page
  content = ends size legal

  flag : slice_index (new_first_page Tables size) 100 ≡ 13
  unfolding new_first_page
  flag = refl

  no_block : u16_at (new_first_page Tables size) 101 ≡ 0
  unfolding new_first_page u16_at
  no_block = refl

  no_cell : u16_at (new_first_page Tables size) 103 ≡ 0
  unfolding new_first_page u16_at
  no_cell = refl

  no_fragment : slice_index (new_first_page Tables size) 107 ≡ 0
  unfolding new_first_page
  no_fragment = refl

  is_leaf_page : IsPage size 100 108 TableLeaf (new_first_page Tables size) [] []
  is_leaf_page =
      leaf_without_cells size (new_first_page Tables size) (omega (arith, long)) (omega (arith, wide.0)) wide.1 flag no_block no_cell content no_fragment

  shows : Shows size true (new_first_page Tables size) no_rows
  unfolding right_in
  shows = record { cells = []; blocks = []; is_page = is_leaf_page; cells_are = refl; right_is = refl }

  schema : IsTree true size 1 (shown_by size (view_of (new_pages Tables size))) 0 1 (1 ∷ []) []
  unfolding new_pages
  schema = record {
    node = no_rows;
    holds = shows_node shows;
    enough = inl refl;
    below = [];
    content = record { leaf = refl; table_is = refl; items_are = tt; below_is = refl };
    own_is = refl;
  }

  header_is : IsHeader (new_first_page Tables size)
  unfolding fields_of has_versions is_utf8 is_without_auto_vacuum has_usable_bytes has_schema_format new_first_page u32_at
  header_is = record {
    database = database_of (new_first_page Tables size) (ap (λ (n : ℕ). nat_le 100 n) long ∙ le_true 100 size (omega (arith, wide.0))) refl refl refl refl;
    page_size = ap is_page_size (first_sized Tables size legal) ∙ legal;
    versions = refl;
    utf8 = refl;
    without_auto_vacuum = refl;
    usable_bytes = ap (λ (n : ℕ). nat_le 480 n) (first_sized Tables size legal) ∙ le_true 480 size (omega (arith, wide.0));
    schema_format = refl;
  }

  pub new_sound : IsSound size size 1 (view_of (new_pages Tables size)) [] (1 ∷ []) [] []
  unfolding new_pages fields_of new_first_page u32_at
  new_sound = record {
    header = record { some = omega arith; header = header_is; count = first_counts Tables size (1 * size) };
    freelist = record { trunks = []; follow = refl; held = refl; counted = refl };
    trees = record { height = 0; low = omega arith; first = 1 ∷ []; others = []; schema = schema; rooted = refl; used_is = refl };
    named = refl;
    placed = λ page low high. absurd (omega (arith, low, high));
  }

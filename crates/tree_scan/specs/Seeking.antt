-- A path that goes down to the low bound's place.
use Rattle.std.specs.Prelude.{◌≡◌, ℕ, zero, suc, false, List, [], ◌∷◌, ◌++◌, Some}
use Rattle.page_spec.specs.View.{View}
use Rattle.page_face.specs.declared.pages_tells.PagesTells.{Ghosts}
use Rattle.node_spec.specs.Kinds.{is_leaf}
use Rattle.node_spec.specs.Nodes.{Node}
use Rattle.tree_spec.specs.Shown.{Shown}
use Rattle.tree_spec.specs.Layout.{Each, Item, chains}
use Rattle.tree_spec.specs.Trees.{IsChild, Content, IsTree}
use Rattle.overflow.specs.Following.{shown_over}
use Rattle.tree_read.specs.Ways.{child_at}
use Rattle.tree_scan.specs.declared.bounds.Bounds.{Bounds}
use Rattle.tree_scan.specs.declared.level.Level.{Level}
use Rattle.tree_scan.specs.Bounded.{of_table, IsUnder, AreFrom}
use Rattle.tree_scan.specs.Coming.{one_less, LeftBehind, Rests, Comes}

-- A leaf stands at the bound's place: before it are the items under the bound, and from there on none is.
pub record SoughtLeaf (usable last : ℕ) (shown : Shown) (bounds : Bounds) (level : Level) (items : List Item) : Type 0 where
  pub rest : List Item
  pub from : AreFrom bounds items rest
  pub node : Node
  pub holds : shown.node level.page ≡ Some node
  pub left : Rests (of_table bounds) usable last shown zero node level.place level.at_cell (chains rest) rest

-- An interior page, with so many levels under its children, stands before the child that the place is under: before it are items under the bound, and
-- behind it there are none.
pub record SoughtInner (usable last : ℕ) (shown : Shown) (height : ℕ) (bounds : Bounds) (level : Level) (items : List Item) : Type 0 where
  pub front : List Item
  pub under_own : List ℕ
  pub behind_own : List ℕ
  pub under : List Item
  pub behind : List Item
  pub items_are : items ≡ front ++ (under ++ behind)
  pub node : Node
  pub holds : shown.node level.page ≡ Some node
  pub inner : is_leaf node.kind ≡ false
  pub at : level.at_cell ≡ false
  pub sub : IsChild last shown (Content (of_table bounds) usable last shown height) (child_at node.cells node.right level.place) under_own under
  pub left : LeftBehind (of_table bounds) usable last shown (IsChild last shown (Content (of_table bounds) usable last shown height)) level.place node.cells node.right behind_own behind
  pub before : Each (IsUnder bounds) front
  pub after : Each (λ (item : Item). IsUnder bounds item → ⊥) behind
  pub rest : List Item
  pub from : AreFrom bounds under rest

abbrev pub SoughtLast : (usable last : ℕ) → Shown → (height : ℕ) → Bounds → Level → List Item → Type 0
SoughtLast usable last shown zero bounds level items = SoughtLeaf usable last shown bounds level items
SoughtLast usable last shown (suc height) bounds level items = SoughtInner usable last shown height bounds level items

-- what is left of a level above has nothing under the bound
pub record SoughtAbove (shown : Shown) (bounds : Bounds) (page : ℕ) (Below : List Item → Type 0) (Left : Node → List ℕ → List Item → Type 0) (items : List Item) : Type 0 where
  pub below : List Item
  pub rest_own : List ℕ
  pub rest : List Item
  pub items_are : items ≡ below ++ rest
  pub sought : Below below
  pub node : Node
  pub holds : shown.node page ≡ Some node
  pub left : Left node rest_own rest
  pub after : Each (λ (item : Item). IsUnder bounds item → ⊥) rest

abbrev pub Sought : (usable last : ℕ) → Shown → (height : ℕ) → Bounds → (above : List Level) → (top : Level) → List Item → Type 0
Sought usable last shown height bounds [] top items = SoughtLast usable last shown height bounds top items
Sought usable last shown height bounds (level ∷ above) top items =
    SoughtAbove shown bounds level.page (Sought usable last shown (one_less height) bounds above top)
    (λ node. Rests (of_table bounds) usable last shown height node level.place level.at_cell) items

-- these levels
pub record IsSought (usable last : ℕ) (shown : Shown) (height : ℕ) (bounds : Bounds) (levels : List Level) (items : List Item) : Type 0 where
  pub above : List Level
  pub top : Level
  pub are : levels ≡ above ++ top ∷ []
  pub sought : Sought usable last shown height bounds above top items

abbrev pub KeepsSought : {P : Type 0} → Ghosts P → P → Bounds → (levels levels_then : List Level) → P → Type 0
KeepsSought pages old bounds levels levels_then new = (world : View) → pages.tells new world → (bound height : ℕ) (items : List Item)
    → IsSought (pages.usable old) bound (shown_over pages old world) height bounds levels items
    → IsSought (pages.usable old) bound (shown_over pages old world) height bounds levels_then items

-- Over each world that is still told in which the root has a tree, its items from the low bound on come from the levels.
abbrev pub StartsAt : {P : Type 0} → Ghosts P → P → Bounds → (root : ℕ) → List Level → P → Type 0
StartsAt pages old bounds root levels new = (world : View) → pages.tells new world → (bound height : ℕ) (own : List ℕ) (items ahead : List Item)
    → IsTree (of_table bounds) (pages.usable old) bound (shown_over pages old world) height root own items → AreFrom bounds items ahead
    → (left : List ℕ) × Comes (of_table bounds) (pages.usable old) bound (shown_over pages old world) height levels left ahead

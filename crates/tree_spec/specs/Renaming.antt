-- Pages renumbered: the same pages under other numbers, with every pointer renumbered alike.
use Rattle.std.specs.Prelude.{◌≡◌, ℕ, ◌≤◌, map, Option, None, Some}
use Rattle.node_spec.specs.Cells.{NodeCell}
use Rattle.node_spec.specs.Nodes.{Node}
use Rattle.tree_spec.specs.Layout.{Item}
use Rattle.tree_spec.specs.Shown.{Link, Shown}

abbrev pub cell_renamed : (ℕ → ℕ) → NodeCell → NodeCell
cell_renamed name cell = record cell { left = name cell.left; overflow = name cell.overflow }

abbrev pub node_renamed : (ℕ → ℕ) → Node → Node
node_renamed name node = record node { cells = map (cell_renamed name) node.cells; right = name node.right }

abbrev pub shown_renamed : (ℕ → ℕ) → Option Node → Option Node
shown_renamed name None = None
shown_renamed name (Some node) = Some (node_renamed name node)

abbrev pub link_renamed : (ℕ → ℕ) → Link → Link
link_renamed name link = record link { next = name link.next }

abbrev pub item_renamed : (ℕ → ℕ) → Item → Item
item_renamed name item = record item { chain = map name item.chain }

-- One view shows under a page's new name what another shows under its own, with the pointers renamed.
pub record IsRenamed (name : ℕ → ℕ) (shown shown_then : Shown) (page : ℕ) : Type 0 where
  pub node : shown_then.node (name page) ≡ shown_renamed name (shown.node page)
  pub link : 2 ≤ page → shown_then.link (name page) ≡ link_renamed name (shown.link page)

-- A name for each page up to the last one: 0, which is no page, stays so; page 1 keeps its own and no other page gets it; no two pages get
-- one, and none is past the new last.
pub record IsNaming (name : ℕ → ℕ) (last last_then : ℕ) : Type 0 where
  pub none : name 0 ≡ 0
  pub first : name 1 ≡ 1
  pub others : (page : ℕ) → 2 ≤ page → page ≤ last → (2 ≤ name page) × (name page ≤ last_then)
  pub once : (page other : ℕ) → 1 ≤ page → page ≤ last → 1 ≤ other → other ≤ last → name page ≡ name other → page ≡ other

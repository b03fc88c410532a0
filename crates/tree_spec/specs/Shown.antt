-- What the pages of a view show: each page a node, where it is the text of a tree's page, and a link of a chain. Whether a page is one
-- or the other is said by what leads to it.
-- Source: SQLite's "Database File Format", "B-tree Pages" and "Cell Payload Overflow Pages".
use Rattle.std.specs.Prelude.{◌≡◌, ℕ, ◌-◌, ◌≤◌, ◌==◌, List, take, drop, Option}
use Rattle.page_spec.specs.Bytes.{u32_at}
use Rattle.page_spec.specs.View.{View}
use Rattle.node_spec.specs.Nodes.{Node, node_of}

-- a page of an overflow chain: the number of the next page, and the bytes that it has room for
pub record Link : Type 0 where
  pub next : ℕ
  pub bytes : List ℕ

-- for each page number the node and the link that the page shows
pub record Shown : Type 0 where
  pub node : ℕ → Option Node
  pub link : ℕ → Link

-- the link in a page: four bytes of the next page's number, then content to the end of the usable bytes
abbrev pub link_in : (usable : ℕ) → List ℕ → Link
link_in usable page = record { next = u32_at page 0; bytes = take (usable - 4) (drop 4 page) }

-- what the bytes of a view show
abbrev pub shown_by : (usable : ℕ) → View → Shown
shown_by usable view = record {
  node = λ page. node_of usable (page == 1) (view page);
  link = λ page. link_in usable (view page);
}

-- A page shows the same in two views. Page 1 is in no chain, so its link doesn't matter: its first bytes may differ.
pub record IsAlike (shown shown_then : Shown) (page : ℕ) : Type 0 where
  pub node : shown_then.node page ≡ shown.node page
  pub link : 2 ≤ page → shown_then.link page ≡ shown.link page

-- When the pages of a database are sound. What calls on trees speak of stands apart: page 1's tree, the trees of some roots, and the pages
-- that these use. The header, the freelist and which roots the schema names come on top of that.
-- Source: SQLite's "Database File Format", "The Database Header", "The Freelist", "B-tree Pages" and "Storage Of The SQL Database Schema". That
-- a tree has at most 40 levels below its root is this project's own.
use Rattle.std.specs.Prelude.{◌≡◌, ℕ, ◌+◌, ◌*◌, ◌≤◌, Bool, true, List, [], ◌∷◌, ◌++◌}
use Rattle.page_spec.specs.Header.{fields_of, pages_in, IsHeader}
use Rattle.page_spec.specs.View.{View}
use Rattle.tree_spec.specs.Layout.{times, Item}
use Rattle.tree_spec.specs.Shown.{Shown, shown_by}
use Rattle.tree_spec.specs.Freelist.{IsFreelist}
use Rattle.tree_spec.specs.Trees.{IsTree}
use Rattle.sound_spec.specs.Schema.{NameRoots}

-- a tree has at most so many levels below its root
abbrev pub most_levels : ℕ
most_levels = 40

-- A page from 2 to the last one roots a tree, of a table or an index, that is made of these pages.
pub record IsRooted (usable last : ℕ) (shown : Shown) (root : ℕ) (own : List ℕ) : Type 0 where
  pub least : 2 ≤ root
  pub most : root ≤ last
  pub table : Bool
  pub height : ℕ
  pub low : height ≤ most_levels
  pub items : List Item
  pub tree : IsTree table usable last shown height root own items

-- each of these roots has a tree, and together these are made of these pages, tree by tree
abbrev pub AreRooted : (usable last : ℕ) → Shown → (roots own : List ℕ) → Type 0
AreRooted usable last shown [] own = own ≡ []
AreRooted usable last shown (root ∷ roots) own =
    (first : List ℕ) × (others : List ℕ) × (own ≡ first ++ others) × IsRooted usable last shown root first × AreRooted usable last shown roots others

-- Page 1 roots a table's tree that lists these rows, and these roots have trees. These pages are in use: those of page 1's tree, and then
-- those of the others.
pub record HasTrees (usable last : ℕ) (shown : Shown) (roots used : List ℕ) (rows : List Item) : Type 0 where
  pub height : ℕ
  pub low : height ≤ most_levels
  pub first : List ℕ
  pub others : List ℕ
  pub schema : IsTree true usable last shown height 1 first rows
  pub rooted : AreRooted usable last shown roots others
  pub used_is : used ≡ first ++ others

-- What calls on trees speak of: page 1's tree and those of these roots, with each page in one place of one tree at most.
pub record IsSoundTrees (usable last : ℕ) (shown : Shown) (roots used : List ℕ) (rows : List Item) : Type 0 where
  pub trees : HasTrees usable last shown roots used rows
  pub once : (page : ℕ) → times used page ≤ 1

-- Page 1's first bytes are a database header, whatever the database's size, and it counts so many pages where the file has as many, of this size.
-- There is one at least.
pub record CountsPages (page_size last : ℕ) (first : List ℕ) : Type 0 where
  pub some : 1 ≤ last
  pub header : IsHeader first
  pub count : pages_in first (last * page_size) ≡ last

-- each page from 2 on is in one place: used once or free once
abbrev pub IsInOnePlace : (last : ℕ) (used free : List ℕ) → Type 0
IsInOnePlace last used free = (page : ℕ) → 2 ≤ page → page ≤ last → times used page + times free page ≡ 1

-- The pages of a database, so many, are sound: the header counts them; its freelist has the free ones; page 1's tree lists these rows, whose
-- roots have trees, which have the used ones; and each page from 2 on is in one place.
pub record IsSound (page_size usable last : ℕ) (view : View) (roots used free : List ℕ) (rows : List Item) : Type 0 where
  pub header : CountsPages page_size last (view 1)
  pub freelist : IsFreelist usable last view (fields_of (view 1)).first_trunk (fields_of (view 1)).free_pages free
  pub trees : HasTrees usable last (shown_by usable view) roots used rows
  pub named : NameRoots last rows roots
  pub placed : IsInOnePlace last used free

-- The freelist at a commit: freed pages join it, and page 1 says what is free then.
-- Source: SQLite's "Database File Format", "The Freelist". How many leaves a trunk gets is this project's own.
use Rattle.std.specs.Prelude.{ℕ, ◌+◌, ◌-◌, ◌*◌, ◌&&◌, nat_lt, if◌then◌else◌, Bool, List, [], ◌∷◌, ◌++◌, length, replicate}
use Rattle.page_spec.specs.Bytes.{u32_at}
use Rattle.page_spec.specs.View.{View, view_with}
use Rattle.tree_spec.specs.Trunks.{leaves_put}
use Rattle.engine_spec.specs.Change.{u32_bytes, stamped}
use Rattle.relocate_spec.specs.Renumbered.{with_number}

-- A view with its freelist: the first trunk, how many pages are free, and the trunks that were changed or made on the way here.
pub record Joining : Type 0 where
  pub view : View
  pub trunk : ℕ
  pub count : ℕ
  pub trunks : List ℕ

-- the bytes of the first trunk, and how many leaves it lists
abbrev pub trunk_bytes : Joining → List ℕ
trunk_bytes free = free.view free.trunk

abbrev pub leaf_count : Joining → ℕ
leaf_count free = u32_at (trunk_bytes free) 4

-- the freelist that page 1 of a view names
abbrev pub free_in : View → Joining
free_in view = record { view = view; trunk = u32_at (view 1) 32; count = u32_at (view 1) 36; trunks = [] }

-- A page joins: as a leaf of the first trunk where that has room, else as a new first trunk. A leaf isn't written.
unfoldable pub has_room : (usable : ℕ) → Joining → Bool
has_room usable free = nat_lt 0 free.count && nat_lt (leaf_count free) (leaves_put usable)

abbrev pub with_leaf : Joining → (page : ℕ) → Joining
with_leaf free page = record {
  view = view_with free.view free.trunk
      (with_number (with_number (trunk_bytes free) 4 (leaf_count free + 1)) (8 + 4 * leaf_count free) page);
  trunk = free.trunk;
  count = free.count + 1;
  trunks = free.trunk ∷ free.trunks;
}

-- a new trunk in a page of so many bytes
abbrev pub new_trunk : (size next : ℕ) → List ℕ
new_trunk size next = u32_bytes next ++ replicate (size - 4) 0

abbrev pub with_trunk : (size : ℕ) → Joining → (page : ℕ) → Joining
with_trunk size free page = record {
  view = view_with free.view page (new_trunk size free.trunk);
  trunk = page;
  count = free.count + 1;
  trunks = page ∷ free.trunks;
}

abbrev pub page_joined : (size usable : ℕ) → Joining → (page : ℕ) → Joining
page_joined size usable free page = if has_room usable free then with_leaf free page else with_trunk size free page

-- these pages join, one after another
abbrev pub pages_joined : (size usable : ℕ) → Joining → (pages : List ℕ) → Joining
pages_joined size usable free [] = free
pages_joined size usable free (page ∷ pages) = pages_joined size usable (page_joined size usable free page) pages

-- page 1 with the fields of a freelist
abbrev pub with_list : (trunk count : ℕ) → List ℕ → List ℕ
with_list trunk count first = with_number (with_number first 32 trunk) 36 count

-- the view once page 1 says what is free, how many pages there are, and that the database changed
abbrev pub headed : (last : ℕ) → Joining → View
headed last free = view_with free.view 1 (stamped last (with_list free.trunk free.count (free.view 1)))

-- A page taken out of the freelist, and one put in, over the pages of any face.
use Rattle.std.specs.Prelude.{◌≡◌, ◌↔◌, ℕ, ◌+◌, ◌-◌, ◌*◌, ◌⊎◌, ◌<◌, ◌≤◌, ◌==◌, ◌||◌, List, [], ◌∷◌, ◌++◌, length, Option, IsNone, MatchOption, Result, IfOk, IfErr, OnOk}
use Rattle.disk_face.specs.Faults.{Rose}
use Rattle.page_spec.specs.Bytes.{u32_at}
use Rattle.page_spec.specs.View.{View}
use Rattle.engine_spec.specs.declared.commits.FetchFault.{FetchFault}
use Rattle.engine_spec.specs.declared.commits.FetchFault.TheVariants as fault
use Rattle.page_face.specs.declared.pages_tells.PagesTells.{Ghosts}
use Rattle.page_face.specs.Pages.{Editing, ReadsAtMost, PutsPage, pages_read}
use Rattle.tree_spec.specs.Layout.{times}
use Rattle.tree_spec.specs.Freelist.{Trunk, trunk_in, most_leaves, IsFreelist}
use Rattle.tree_spec.specs.Trunks.{leaves_put, LosesLeaf, GetsLeaf, IsNewTrunk}
use Rattle.freelist.specs.declared.free.Free.{Free}
use Rattle.freelist.specs.Walking.{IsOut, Misleads, ListsTooMany}

-- A number fits how many pages are to come: it is that of a page where some are, and 0 where none is.
abbrev pub Suits : (last left next : ℕ) → Type 0
Suits last left next = ((0 < left) × (2 ≤ next) × (next ≤ last)) ⊎ ((left ≡ 0) × (next ≡ 0))

-- The first trunk of a list of so many pages is one of which no page can be taken: it lists too many leaves; or its last leaf is out of range;
-- or it lists none, and the number of the next trunk doesn't fit how many pages are left.
abbrev pub BreaksTaking : (last count usable : ℕ) → Trunk → Type 0
BreaksTaking last count usable trunk = ListsTooMany usable count trunk
    ⊎ (((others : List ℕ) × (leaf : ℕ) × (trunk.leaves ≡ others ++ leaf ∷ []) × IsOut last leaf)
    ⊎ ((trunk.leaves ≡ []) × Misleads last (count - 1) trunk.next))

-- Why a list wasn't changed: a fault from outside; or the number of its first trunk doesn't fit its count, or that trunk was read and is broken, over
-- each world that is still told.
abbrev pub BarsChange : {P : Type 0} → Ghosts P → P → Free → (Breaks : Trunk → Type 0) → P → FetchFault → Type 0
BarsChange pages old free Breaks new fault.Disk = Rose (pages.faults old) (pages.faults new)
BarsChange pages old free Breaks new (fault.Corrupt page) = (page ≡ free.trunk) × (Misleads (pages.last_page old) free.count free.trunk
    ⊎ ((0 < free.count) × ((world : View) → pages.tells new world → Breaks (trunk_in (pages.over old world free.trunk)))))
BarsChange pages old free Breaks new (fault.Size count) = ⊥
BarsChange pages old free Breaks new fault.Memory = Unit {0}

-- a trunk lists no more leaves than there is room for, and fewer than pages are to come with it
abbrev pub ListsFew : (usable left : ℕ) → Trunk → Type 0
ListsFew usable left trunk = (length trunk.leaves ≤ most_leaves usable) × (length trunk.leaves < left)

-- A list begins well: the number of its first trunk fits its count, and over each world that is still told that trunk lists no more leaves than it may.
pub record BeginsWell {P : Type 0} (pages : Ghosts P) (old : P) (free : Free) (new : P) : Type 0 where
  pub number : Suits (pages.last_page old) free.count free.trunk
  pub leaves : 0 < free.count → (world : View) → pages.tells new world → ListsFew (pages.usable old) free.count (trunk_in (pages.over old world free.trunk))

-- The first trunk was fetched into a buffer, over each world that is still told, and has room for its leaves, which are fewer than the list's pages.
pub record HasFirst {P : Type 0} (pages : Ghosts P) (old : P) (free : Free) (leaves : ℕ) (buf : List ℕ) (new : P) : Type 0 where
  pub range : (2 ≤ free.trunk) × (free.trunk ≤ pages.last_page old)
  pub shows : (world : View) → pages.tells new world → buf ≡ pages.over old world free.trunk
  pub leaves_are : leaves ≡ u32_at buf 4
  pub room : leaves ≤ most_leaves (pages.usable old)
  pub within : 8 + 4 * leaves ≤ length buf
  pub fewer : leaves < free.count
  pub read : pages.reads new ≡ pages_read pages old free.trunk

-- all is as before, but for what was read
pub record IsAsBefore {P : Type 0} (pages : Ghosts P) (old : P) (free : Free) (new : P) (free_then : Free) : Type 0 where
  pub same : free_then ≡ free
  pub reading : ReadsAtMost pages old new

-- The first trunk has these bytes now, and all other pages are as before.
pub record ChangesTrunk {P : Type 0} (pages : Ghosts P) (old : P) (free : Free) (Changes : List ℕ → List ℕ → Type 0) (new : P) : Type 0 where
  pub bytes : List ℕ
  pub changes : (world : View) → pages.tells new world → Changes (pages.over old world free.trunk) bytes
  pub put : (world : View) → pages.tells new world → PutsPage pages old free.trunk bytes new world
  pub has : (number : ℕ) → pages.has new number ≡ (pages.has old number || (number == free.trunk))

-- a leaf was taken: the last one of the first trunk, which stays the first
pub record TakesLeaf {P : Type 0} (pages : Ghosts P) (old : P) (free : Free) (page : ℕ) (new : P) (free_then : Free) : Type 0 where
  pub trunk : free_then.trunk ≡ free.trunk
  pub change : ChangesTrunk pages old free (λ bytes bytes_then. LosesLeaf bytes bytes_then page) new

-- The first trunk was taken, which lists no leaf: the next one is the first now, and all pages are as before.
pub record TakesTrunk {P : Type 0} (pages : Ghosts P) (old : P) (free : Free) (page : ℕ) (new : P) (free_then : Free) : Type 0 where
  pub page_is : page ≡ free.trunk
  pub trunk : (world : View) → pages.tells new world → trunk_in (pages.over old world free.trunk) ≡ record { next = free_then.trunk; leaves = [] }
  pub reading : ReadsAtMost pages old new

-- a page was taken, from 2 to the last one
pub record HasTakenOut {P : Type 0} (pages : Ghosts P) (old : P) (free : Free) (page : ℕ) (new : P) (free_then : Free) : Type 0 where
  pub begins : BeginsWell pages old free new
  pub count : free.count ≡ free_then.count + 1
  pub range : (2 ≤ page) × (page ≤ pages.last_page old)
  pub suits : Suits (pages.last_page old) free_then.count free_then.trunk
  pub taken : TakesLeaf pages old free page new free_then ⊎ TakesTrunk pages old free page new free_then

-- `take`
pub record HasTaken {P : Type 0} (pages : Ghosts P) (old : P) (free : Free) (result : Result (Option ℕ) FetchFault) (new : P) (free_then : Free) : Type 0 where
  pub none : IfOk result (λ found. IsNone found ↔ (free.count ≡ 0))
  pub taken : IfOk result (λ found. MatchOption found (IsAsBefore pages old free new free_then) (λ page. HasTakenOut pages old free page new free_then))
  pub refused : IfErr result (λ why. IsAsBefore pages old free new free_then
      × BarsChange pages old free (BreaksTaking (pages.last_page old) free.count (pages.usable old)) new why)
  pub read : (pages.reads new ≡ pages.reads old) ⊎ ((0 < free.count) × (pages.reads new ≡ pages_read pages old free.trunk))
  pub last : pages.last_page new ≡ pages.last_page old
  pub edits : Editing pages old new

-- Over each world that is still told in which there was a freelist, that page was one of it, and it is the freelist without that page now.
abbrev pub LeavesFreelist : {P : Type 0} → Ghosts P → P → Free → (page : ℕ) → P → Free → Type 0
LeavesFreelist pages old free page new free_then = (world : View) → pages.tells new world → (bound : ℕ) (list : List ℕ)
    → IsFreelist (pages.usable old) bound (pages.over old world) free.trunk free.count list
    → (front back : List ℕ) × (list ≡ front ++ page ∷ back)
    × IsFreelist (pages.usable old) bound (pages.over new world) free_then.trunk free_then.count (front ++ back)

-- a page was put in as a leaf of the first trunk, which had fewer leaves than this program puts into one
pub record GivesLeaf {P : Type 0} (pages : Ghosts P) (old : P) (free : Free) (page : ℕ) (new : P) (free_then : Free) : Type 0 where
  pub some : 0 < free.count
  pub room : (world : View) → pages.tells new world → length (trunk_in (pages.over old world free.trunk)).leaves < leaves_put (pages.usable old)
  pub trunk : free_then.trunk ≡ free.trunk
  pub change : ChangesTrunk pages old free (λ bytes bytes_then. GetsLeaf bytes bytes_then page) new

-- A page was put in as a new first trunk, before the one that there was, since there was none, or it had as many leaves already.
pub record GivesTrunk {P : Type 0} (pages : Ghosts P) (old : P) (free : Free) (page : ℕ) (new : P) (free_then : Free) : Type 0 where
  pub room : (free.count ≡ 0) ⊎ ((world : View) → pages.tells new world → leaves_put (pages.usable old) ≤ length (trunk_in (pages.over old world free.trunk)).leaves)
  pub trunk : free_then.trunk ≡ page
  pub bytes : List ℕ
  pub new_trunk : IsNewTrunk (pages.page_size old) free.trunk bytes
  pub put : (world : View) → pages.tells new world → PutsPage pages old page bytes new world
  pub has : (number : ℕ) → pages.has new number ≡ (pages.has old number || (number == page))

-- a page was put in
pub record HasPutIn {P : Type 0} (pages : Ghosts P) (old : P) (free : Free) (page : ℕ) (new : P) (free_then : Free) : Type 0 where
  pub begins : BeginsWell pages old free new
  pub count : free_then.count ≡ free.count + 1
  pub given : GivesLeaf pages old free page new free_then ⊎ GivesTrunk pages old free page new free_then

-- `give`
pub record HasGiven {P : Type 0} (pages : Ghosts P) (old : P) (free : Free) (page : ℕ) (result : Result Unit FetchFault) (new : P) (free_then : Free) : Type 0 where
  pub given : OnOk result (HasPutIn pages old free page new free_then)
  pub refused : IfErr result (λ why. IsAsBefore pages old free new free_then × BarsChange pages old free (ListsTooMany (pages.usable old) free.count) new why)
  pub read : (pages.reads new ≡ pages.reads old) ⊎ ((0 < free.count) × (pages.reads new ≡ pages_read pages old free.trunk))
  pub last : pages.last_page new ≡ pages.last_page old
  pub edits : Editing pages old new

-- Over each world that is still told in which there was a freelist without that page, it is the freelist with that page more now.
abbrev pub ExtendsFreelist : {P : Type 0} → Ghosts P → P → Free → (page : ℕ) → P → Free → Type 0
ExtendsFreelist pages old free page new free_then = (world : View) → pages.tells new world → (bound : ℕ) (list : List ℕ) → page ≤ bound
    → times list page ≡ 0 → IsFreelist (pages.usable old) bound (pages.over old world) free.trunk free.count list
    → (front back : List ℕ) × (list ≡ front ++ back)
    × IsFreelist (pages.usable old) bound (pages.over new world) free_then.trunk free_then.count (front ++ page ∷ back)

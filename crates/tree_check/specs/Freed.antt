-- What walking a freelist promises.
use Rattle.std.specs.Prelude.{◌≡◌, ℕ, ◌+◌, ◌<◌, ◌≤◌, List, [], ◌∷◌, map, length}
use Rattle.page_spec.specs.Bytes.{u32_at}
use Rattle.tree_spec.specs.Freelist.{trunk_in}
use Rattle.page_face.specs.declared.pages_tells.PagesTells.{Ghosts}
use Rattle.check_spec.specs.declared.fault.CheckFault.{CheckFault}
use Rattle.check_spec.specs.declared.fault.CheckFault.TheVariants as fault
use Rattle.check_spec.specs.Walk.{Database, Place, Past, Meets, trunk_places}
use Rattle.tree_check.specs.declared.walk.Walk.{Walk}
use Rattle.tree_check.specs.Met.{met_up_to}
use Rattle.tree_check.specs.Walking.{KeepsPast, SuitsPages, ComesTo, WalksTo}

-- the places of a trunk's leaves
abbrev pub leaves_of : List ℕ → List Place
leaves_of trunk = map Place.AtLeaf (trunk_in trunk).leaves

-- The leaves of a trunk were met, so many. No other field of the walk changes.
pub record HasLeaves (before : Walk) (trunk : List ℕ) (count : ℕ) (walk : Walk) : Type 0 where
  pub walks : (db : Database) (past : Past) → KeepsPast before past → ComesTo db walk before.roots.items past (leaves_of trunk) []
  pub counted : met_up_to walk.marks.bits.items before.last ≡ met_up_to before.marks.bits.items before.last + count
  pub same : walk ≡ record before { marks = walk.marks }
  pub room : length walk.marks.bits.items ≡ length before.marks.bits.items

-- one of them was met before
pub record BarsLeaves (before : Walk) (trunk : List ℕ) (why : CheckFault) : Type 0 where
  pub page : ℕ
  pub told : why ≡ fault.Twice page
  pub meets : (db : Database) (past : Past) → KeepsPast before past → Meets db (fault.Twice page) past (leaves_of trunk)

-- A trunk and its leaves were met, so many pages, and the trunk goes on to the next one.
pub record HasTrunk {P : Type 0} (pages : Ghosts P) (old : P) (before : Walk) (page count : ℕ) (buf : List ℕ) (new : P) (walk : Walk) : Type 0 where
  pub walks : WalksTo pages old new before walk (Place.AtTrunk page ∷ []) (trunk_places (u32_at buf 0))
  pub suits : SuitsPages pages new walk
  pub next : 0 < u32_at buf 0 → (2 ≤ u32_at buf 0) × (u32_at buf 0 ≤ walk.last)
  pub some : 0 < count
  pub counted : met_up_to walk.marks.bits.items before.last ≡ met_up_to before.marks.bits.items before.last + count
  pub last : walk.last ≡ before.last

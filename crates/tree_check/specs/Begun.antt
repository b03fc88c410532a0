-- What a walk begins with, and what it has once page 1's header, the freelist and page 1's tree were visited.
use Rattle.std.specs.Prelude.{◌≡◌, ℕ, ◌+◌, ◌/◌, ◌<◌, ◌≤◌, false, List, [], ◌∷◌, ◌++◌, None, length}
use Rattle.page_spec.specs.Bytes.{u32_at}
use Rattle.page_spec.specs.Header.{fields_of}
use Rattle.page_spec.specs.View.{View}
use Rattle.page_face.specs.declared.pages_tells.PagesTells.{Ghosts}
use Rattle.check_spec.specs.Walk.{Place, schema_spot, trunk_places}
use Rattle.tree_check.specs.Met.{is_met}
use Rattle.tree_check.specs.declared.walk.Walk.{Walk}
use Rattle.tree_check.specs.Walking.{SuitsPages, WalksTo}

-- A walk has these sizes, and met no page yet.
pub record IsFresh (size used most : ℕ) (walk : Walk) : Type 0 where
  pub page_size : walk.page_size ≡ size
  pub usable : walk.usable ≡ used
  pub last : walk.last ≡ most
  pub room : length walk.marks.bits.items ≡ most / 8 + 1
  pub none : (page : ℕ) → page ≤ most → is_met walk.marks.bits.items page ≡ false
  pub leaves : walk.leaves ≡ None
  pub roots : walk.roots.items ≡ []

-- the places behind the freelist's
abbrev pub behind_list : List Place
behind_list = Place.AtEnd ∷ Place.AtNode schema_spot 1 ∷ []

-- Page 1 was read, and its header is in order.
pub record HasHeader {P : Type 0} (pages : Ghosts P) (old : P) (before : Walk) (buf : List ℕ) (new : P) : Type 0 where
  pub walks : WalksTo pages old new before before (Place.AtHeader ∷ []) (trunk_places (u32_at buf 32) ++ behind_list)
  pub suits : SuitsPages pages new before
  pub bytes : (world : View) → pages.tells new world → buf ≡ pages.over old world 1
  pub some : 1 ≤ before.last
  pub first : 0 < u32_at buf 32 → (2 ≤ u32_at buf 32) × (u32_at buf 32 ≤ before.last)

-- so many pages are free, as the header counts
abbrev pub CountsFree : {P : Type 0} → Ghosts P → (old new : P) → (free : ℕ) → Type 0
CountsFree pages old new free = (world : View) → pages.tells new world → free ≡ (fields_of (pages.over old world 1)).free_pages

-- The header and the freelist are in order, and page 1's bytes were read.
pub record HasFront {P : Type 0} (pages : Ghosts P) (old : P) (before : Walk) (free : ℕ) (buf : List ℕ) (new : P) (walk : Walk) : Type 0 where
  pub walks : WalksTo pages old new before walk (Place.AtHeader ∷ []) (Place.AtNode schema_spot 1 ∷ [])
  pub suits : SuitsPages pages new walk
  pub bytes : (world : View) → pages.tells new world → buf ≡ pages.over old world 1
  pub some : 1 ≤ walk.last
  pub counts : CountsFree pages old new free

-- Page 1's header, the freelist and page 1's tree were visited.
pub record HasFirst {P : Type 0} (pages : Ghosts P) (old : P) (before : Walk) (free : ℕ) (new : P) (walk : Walk) : Type 0 where
  pub walks : WalksTo pages old new before walk (Place.AtHeader ∷ []) []
  pub suits : SuitsPages pages new walk
  pub counts : CountsFree pages old new free

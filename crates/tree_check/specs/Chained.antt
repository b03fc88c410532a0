-- What walking a chain promises.
use Rattle.std.specs.Prelude.{◌≡◌, ℕ, ◌-◌, ◌<◌, ◌≤◌, Bool, true, List, [], ◌∷◌, ◌++◌, length}
use Rattle.page_spec.specs.Bytes.{u32_at}
use Rattle.page_spec.specs.View.{View}
use Rattle.tree_spec.specs.Shown.{shown_by}
use Rattle.tree_spec.specs.Chains.{IsChain, chain_bytes}
use Rattle.page_face.specs.declared.pages_tells.PagesTells.{Ghosts}
use Rattle.check_spec.specs.Walk.{Place, link_places}
use Rattle.tree_check.specs.declared.walk.Walk.{Walk}
use Rattle.tree_check.specs.Walking.{SuitsPages, WalksTo}

-- a chain of so many bytes begins in range, and 0 stands for none
pub record BeginsChain (last first size : ℕ) : Type 0 where
  pub some : 0 < size → (2 ≤ first) × (first ≤ last)
  pub none : size ≡ 0 → first ≡ 0

-- A page of a chain was met and read, and goes on to the next one.
pub record HasLink {P : Type 0} (pages : Ghosts P) (old : P) (before : Walk) (page left : ℕ) (buf : List ℕ) (new : P) (walk : Walk) : Type 0 where
  pub walks : WalksTo pages old new before walk (Place.AtLink page left ∷ []) (link_places (u32_at buf 0) (left - (pages.usable old - 4)))
  pub suits : SuitsPages pages new walk
  pub begins : BeginsChain walk.last (u32_at buf 0) (left - (pages.usable old - 4))
  pub bytes : (world : View) → pages.tells new world → buf ≡ pages.over old world page
  pub payload : walk.payload ≡ before.payload
  pub long : pages.usable old ≤ length buf

-- Over each world that is still told there is the chain, with so many bytes, and these were appended where they are kept.
abbrev pub Gathers : {P : Type 0} → Ghosts P → (old : P) → (first size : ℕ) → (keep : Bool) → (before : List ℕ) → (new : P) → (after : List ℕ) → Type 0
Gathers pages old first size keep before new after = (world : View) → pages.tells new world
    → (links : List ℕ) × IsChain (pages.usable old) (pages.last_page old) (shown_by (pages.usable old) (pages.over old world)) first size links
    × (keep ≡ true → after ≡ before ++ chain_bytes (pages.usable old) (shown_by (pages.usable old) (pages.over old world)) links size)
    × (length (chain_bytes (pages.usable old) (shown_by (pages.usable old) (pages.over old world)) links size) ≡ size)

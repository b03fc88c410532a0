-- What the history of a run of page lines amounts to: each commit leads from one map to the next.
use Rattle.std.specs.Prelude.{◌≡◌, ℕ, ◌+◌, ◌-◌, ◌^◌, ◌<◌, ◌≤◌, length, slice_get, Some}
use Rattle.page_spec.specs.PageMap.{PageMap}
use Rattle.engine_spec.specs.declared.commits.Commit.{Commit}
use Rattle.page_lines.specs.PageLines.{PageLinesLead}
use Rattle.page_lines.specs.World.{World}

-- A commit is legal: its statements lead from the map before it to the one after it, and it began at a snapshot before itself.
pub record IsLegalCommit (number : ℕ) (before : PageMap) (commit : Commit) (after : PageMap) : Type 0 where
  pub leads : PageLinesLead before commit.entry.statements after
  pub snap : commit.entry.snap ≤ number

-- A history is legal from a first map: each commit leads from one map to the next. The ordinals of one session's commits rise, as long as
-- its count of transactions begun isn't at its last value, 2^64 - 1.
pub record IsLegalFrom (first : PageMap) (world : World) : Type 0 where
  pub begins : slice_get world.maps 0 ≡ Some first
  pub count : length world.maps ≡ length world.history + 1
  pub commits : (number : ℕ) (before after : PageMap) (commit : Commit) → slice_get world.maps number ≡ Some before
      → slice_get world.history number ≡ Some commit → slice_get world.maps (number + 1) ≡ Some after
      → IsLegalCommit number before commit after
  pub ordinals : (earlier later : ℕ) (one other : Commit) → earlier < later → slice_get world.history earlier ≡ Some one
      → slice_get world.history later ≡ Some other → one.entry.session ≡ other.entry.session
      → world.begun one.entry.session < 2 ^ 64 - 1 → one.entry.ordinal < other.entry.ordinal

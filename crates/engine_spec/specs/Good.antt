-- What makes a change fit to be committed, and what it means that an engine stands for a run.
use Rattle.std.specs.Prelude.{◌≡◌, ℕ, ◌*◌, ◌≤◌, List, length, take, Option, Some, All}
use Rattle.page_spec.specs.Header.{database_limit}
use Rattle.page_spec.specs.PageMap.{PageMap, page_size_of, Agree}
use Rattle.engine_spec.specs.declared.pins.Pin.{Pin}
use Rattle.engine_spec.specs.declared.commits.Mode.{Mode}
use Rattle.engine_spec.specs.declared.commits.Mode.TheVariants.{Plain, Concurrent}
use Rattle.engine_spec.specs.Change.{Change, laid}
use Rattle.engine_spec.specs.History.{statements_of, SnapsBefore}
use Rattle.engine_spec.specs.State.{EngineState}

-- the maps on which the change has to be right: for a plain transaction its snapshot alone, for a concurrent one each map that
-- agrees with the snapshot on what was read
abbrev pub MayLayOn : Mode → PageMap → List ℕ → PageMap → Type 0
MayLayOn Plain snapshot reads before = before ≡ snapshot
MayLayOn Concurrent snapshot reads before = Agree snapshot before reads

-- A change is good: on each sound map within the limit that it may be laid on, laying it gives a sound map, to which the
-- statements lead. Which maps are sound, and where statements lead, is a matter of what the statements are.
abbrev pub Good : (PageMap → Type 0) → (PageMap → List (List ℕ) → PageMap → Type 0) → PageMap → List ℕ → Change → List (List ℕ) → Type 0
Good sound leads snapshot reads change said = (before : PageMap) → sound before → length before * page_size_of before ≤ database_limit
    → MayLayOn change.mode snapshot reads before → sound (laid before change) × leads before said (laid before change)

-- a map of so many pages, each of this many bytes
pub record HasSizes (pages : PageMap) (size page_size : ℕ) : Type 0 where
  pub count : length pages ≡ size
  pub each : All (λ page. length page ≡ page_size) pages

-- An engine stands for a run from the first map: the newest map, and that of each pin, is sound, and the statements of the
-- history, or of its first commits up to the pin's snapshot, lead to it from the first map.
pub record RunsFrom (sound : PageMap → Type 0) (leads : PageMap → List (List ℕ) → PageMap → Type 0) (first : PageMap)
    (state : EngineState) (IsLive : Pin → Type 0) (map_at : Pin → Option PageMap) : Type 0 where
  pub snaps : SnapsBefore 0 state.history
  pub newest : (pages : PageMap) → state.newest ≡ Some pages → sound pages × leads first (statements_of state.history) pages
  pub pinned : (pin : Pin) (pages : PageMap) → IsLive pin → map_at pin ≡ Some pages
      → sound pages × leads first (statements_of (take pin.n state.history)) pages

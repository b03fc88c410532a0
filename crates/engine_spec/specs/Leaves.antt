-- Which maps a crash may leave of an engine, now and at each moment of a call.
use Rattle.std.specs.Prelude.{List, [], ◌∷◌, ◌++◌, Contains, Option, Some, None}
use Rattle.disk_face.specs.Files.{Files}
use Rattle.disk_face.specs.Steps.{History}
use Rattle.disk_face.specs.Image.{MayLeave}
use Rattle.page_spec.specs.PageMap.{PageMap}
use Rattle.crash_spec.specs.Known.{IsWithoutChance}
use Rattle.crash_spec.specs.Logs.{HaveOwnLogs}
use Rattle.crash_spec.specs.Moments.{AtEachMoment}
use Rattle.crash_spec.specs.Opening.{Opening, Since}
use Rattle.crash_spec.specs.Recovered.{recovered, NamesItsPages}
use Rattle.engine_spec.specs.State.{Stop, EngineState}

-- an optional map as a list
abbrev pub if_told : Option PageMap → List PageMap
if_told None = []
if_told (Some pages) = pages ∷ []

-- the map that a commit would have made whose log write failed
abbrev pub kept_map : Option Stop → List PageMap
kept_map None = []
kept_map (Some stop) = if_told stop.map

-- The maps that a crash may leave as the engine now stands: the newest, and the one that a commit would have made whose log write failed.
abbrev pub may_recover : EngineState → List PageMap
may_recover state = if_told state.newest ++ kept_map state.stopped

-- An image of a moment, where nothing in it is as it is by chance, recovers one of these maps, none of its logs bars the next opening, and
-- the map's page 1 names its pages, or Main's length does.
abbrev pub RecoversOneOf : Opening → List PageMap → History → Files → Type 0
RecoversOneOf opening maps told image =
    IsWithoutChance opening told image → Contains maps (recovered image) × HaveOwnLogs image × NamesItsPages image

-- From the moment when the disk told the one history to the moment when it tells the other, each image of each moment recovers one of
-- these maps, for each of these openings.
abbrev pub AtEach : (Opening → Type 0) → List PageMap → Option History → Option History → Type 0
AtEach opened maps old new = (opening : Opening) → opened opening
    → AtEachMoment opening (RecoversOneOf opening maps) old new

-- each image that may be left at this moment recovers one of these maps
abbrev pub LeavesOneOf : Opening → List PageMap → History → Type 0
LeavesOneOf opening maps told = (image : Files) → MayLeave opening.before told image → RecoversOneOf opening maps told image

-- so it is now
abbrev pub RecoversNow : Opening → List PageMap → Option History → Type 0
RecoversNow opening maps disk = Since opening.start (LeavesOneOf opening maps) disk

-- What a run of page lines is answered over any engine that nobody else commits to: what the run over whole page maps is answered.
use Rattle.std.specs.Prelude.{◌≡◌, ℕ, ◌+◌, List, length, Some, None, All}
use Rattle.page_spec.specs.PageMap.{PageMap, page_size_of}
use Rattle.page_lines.specs.declared.lines.Act.{Act}
use Rattle.page_lines.specs.declared.lines.Act.TheVariants as act
use Rattle.page_lines.specs.declared.lines.Told.{Told}
use Rattle.page_lines.specs.declared.lines.Told.TheVariants as reply
use Rattle.page_lines.specs.PageLines.{IsPageStore}
use Rattle.engine_spec.specs.State.{EngineState}
use Rattle.page_lines.specs.World.{World, Out, newest_map}
use Rattle.page_lines.specs.Alike.{AreAlike}

-- An engine rests at a world: it has as many commits, its newest map and the world's are page stores with the same pages 2 to 16, no
-- write of a log failed, and no session has begun a transaction. What the earlier commits and maps were doesn't matter.
pub record RestsAt (seen : EngineState) (world : World) : Type 0 where
  pub commits : length seen.history ≡ length world.history
  pub count : length world.maps ≡ length world.history + 1
  pub pages : PageMap
  pub newest : seen.newest ≡ Some pages
  pub store : IsPageStore pages
  pub size : seen.size ≡ 16
  pub page_size : seen.page_size ≡ page_size_of pages
  pub alike : AreAlike pages (newest_map world)
  pub world_store : IsPageStore (newest_map world)
  pub running : seen.stopped ≡ None
  pub out : (session : ℕ) → world.sessions session ≡ Out
  pub none_begun : (session : ℕ) → world.begun session ≡ 0

-- the engine keeps no logs
abbrev pub IsWithoutLogs : EngineState → Type 0
IsWithoutLogs seen = seen.logs ≡ None

-- an act of a session, and not one that looks after the logs
abbrev pub IsOfSession : Act → Type 0
IsOfSession (act.Begin session) = Unit {0}
IsOfSession (act.Read session page) = Unit {0}
IsOfSession (act.Write session page byte) = Unit {0}
IsOfSession (act.Commit session) = Unit {0}
IsOfSession (act.Rollback session) = Unit {0}
IsOfSession act.Copy = ⊥
IsOfSession act.Step = ⊥
IsOfSession act.Logs = ⊥

-- all of these acts are of sessions
abbrev pub AreSessions : List Act → Type 0
AreSessions acts = All IsOfSession acts

-- an answer that tells of no limit
abbrev pub HasNoLimit : Told → Type 0
HasNoLimit reply.Ok = Unit {0}
HasNoLimit (reply.Byte byte) = Unit {0}
HasNoLimit (reply.Done receipt) = Unit {0}
HasNoLimit (reply.Busy page number) = Unit {0}
HasNoLimit reply.InTransaction = Unit {0}
HasNoLimit reply.NoTransaction = Unit {0}
HasNoLimit reply.MustRollBack = Unit {0}
HasNoLimit reply.Disk = Unit {0}
HasNoLimit (reply.Stopped log at) = Unit {0}
HasNoLimit (reply.Size pages) = ⊥
HasNoLimit (reply.Ckpt answer) = Unit {0}
HasNoLimit (reply.Logs logs) = Unit {0}

-- no limit was met
abbrev pub HaveNoLimit : List Told → Type 0
HaveNoLimit answers = All HasNoLimit answers

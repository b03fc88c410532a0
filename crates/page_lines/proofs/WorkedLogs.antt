-- Small runs over a store that keeps two logs, computed from the definitions alone. The answers were worked out by hand from the rules.
use Rattle.std.proofs.Common.{◌≡◌, true, false, [], ◌∷◌, replicate, Some, None, refl}
use Rattle.page_spec.specs.PageMap.{PageMap}
use Rattle.engine_spec.specs.declared.commits.Receipt.TheVariants.{At, ReadOnly}
use Rattle.engine_spec.specs.declared.pins.Ckpt.TheVariants.{Copied, Finished, Idle, Held}
use Rattle.engine_spec.specs.declared.pins.Lock.TheVariants.{Part1}
use Rattle.page_lines.specs.declared.lines.Act.TheVariants as act
use Rattle.page_lines.specs.declared.lines.Told.TheVariants as told
use Rattle.page_lines.specs.World.{world_over}
use Rattle.page_lines.specs.Logged.{LoggedWorld, logged_answers}

-- 16 pages of one zero
small : PageMap
small = replicate 16 (replicate 1 0)

-- a store that has just been opened: log 1 is current and takes four frames before a commit may go over to log 2, which is done
opened_small : LoggedWorld
opened_small = record {
  world = world_over small;
  logs = record { current = 1; generation = 3; since = 0; other_since = 0; done = true; copied = 0; limit = 4 };
  readers = record { part1 = 0; part1_full2 = 0; part2 = 0; part2_full1 = 0 };
  locks = λ session. Part1;
  stopped = None;
}

-- the third commit goes over to log 2; a reader that began before it holds the copying of log 1 up until it ends
logs_take_turns :
    logged_answers opened_small (
    act.Begin 1 ∷ act.Write 1 2 7 ∷ act.Commit 1 ∷ act.Begin 1 ∷ act.Write 1 3 8 ∷ act.Commit 1 ∷ act.Logs
    ∷ act.Begin 3 ∷ act.Begin 1 ∷ act.Write 1 4 9 ∷ act.Commit 1 ∷ act.Logs ∷ act.Copy
    ∷ act.Read 3 4 ∷ act.Commit 3 ∷ act.Step ∷ act.Copy ∷ act.Copy ∷ [])
    ≡ told.Ok ∷ told.Ok ∷ told.Done (At 1) ∷ told.Ok ∷ told.Ok ∷ told.Done (At 2)
    ∷ told.Logs (record { current = 1; frames = 4; done = true })
    ∷ told.Ok ∷ told.Ok ∷ told.Ok ∷ told.Done (At 3) ∷ told.Logs (record { current = 2; frames = 2; done = false }) ∷ told.Ckpt (Held 1)
    ∷ told.Byte 0 ∷ told.Done (ReadOnly 2) ∷ told.Ckpt (Copied 1) ∷ told.Ckpt Finished ∷ told.Ckpt Idle ∷ []
unfolding small opened_small
logs_take_turns = refl

-- where a write of a log failed before, a COMMIT that wrote is refused with that place and the session stays in its transaction; reads go on
a_stop_bars_commits :
    logged_answers (record opened_small { stopped = Some (record { log = 1; at = 32; map = None }) }) (
    act.Begin 1 ∷ act.Read 1 2 ∷ act.Commit 1 ∷ act.Begin 1 ∷ act.Write 1 2 7 ∷ act.Commit 1 ∷ act.Begin 1 ∷ act.Read 1 2 ∷ act.Rollback 1
    ∷ act.Logs ∷ [])
    ≡ told.Ok ∷ told.Byte 0 ∷ told.Done (ReadOnly 0) ∷ told.Ok ∷ told.Ok ∷ told.Stopped 1 32 ∷ told.InTransaction ∷ told.Byte 7 ∷ told.Ok
    ∷ told.Logs (record { current = 1; frames = 0; done = true }) ∷ []
unfolding small opened_small
a_stop_bars_commits = refl

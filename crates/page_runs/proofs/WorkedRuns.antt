-- Small runs, computed from the definitions alone. The answers were worked out by hand from the rules, not taken from a program.
use Rattle.std.proofs.Common.{◌≡◌, ℕ, List, [], ◌∷◌, replicate, refl}
use Rattle.page_spec.specs.PageMap.{PageMap}
use Rattle.page_lines.specs.declared.lines.Act.TheVariants as act
use Rattle.page_lines.specs.declared.lines.Told.TheVariants as told
use Rattle.engine_spec.specs.declared.commits.Receipt.TheVariants.{At, ReadOnly}
use Rattle.engine_spec.specs.declared.pins.Ckpt.TheVariants.{Idle}
use Rattle.page_lines.specs.World.{world_over, answers_to}

-- 16 pages of four zeros
small : PageMap
small = replicate 16 (replicate 4 0)

-- session 1 rests on page 2, which session 2 writes: it is refused, and sees the new byte once it begins again
a_lost_update_is_refused :
    answers_to (world_over small) (
    act.Begin 1 ∷ act.Begin 2 ∷ act.Read 1 2 ∷ act.Write 2 2 7 ∷ act.Commit 2 ∷ act.Write 1 3 9 ∷ act.Read 1 2 ∷ act.Commit 1
    ∷ act.Read 1 2 ∷ act.Rollback 1 ∷ act.Begin 1 ∷ act.Read 1 2 ∷ act.Read 1 3 ∷ [])
    ≡ told.Ok ∷ told.Ok ∷ told.Byte 0 ∷ told.Ok ∷ told.Done (At 1) ∷ told.Ok ∷ told.Byte 0 ∷ told.Busy 2 1
    ∷ told.MustRollBack ∷ told.Ok ∷ told.Ok ∷ told.Byte 7 ∷ told.Byte 0 ∷ []
unfolding small
a_lost_update_is_refused = refl

-- two sessions that only write a page both commit, and the later byte stands
blind_writes_commit :
    answers_to (world_over small) (
    act.Begin 1 ∷ act.Begin 2 ∷ act.Write 1 2 5 ∷ act.Write 2 2 6 ∷ act.Commit 2 ∷ act.Commit 1 ∷ act.Begin 3 ∷ act.Read 3 2 ∷ act.Commit 3 ∷ [])
    ≡ told.Ok ∷ told.Ok ∷ told.Ok ∷ told.Ok ∷ told.Done (At 1) ∷ told.Done (At 2) ∷ told.Ok ∷ told.Byte 5 ∷ told.Done (ReadOnly 2) ∷ []
unfolding small
blind_writes_commit = refl

-- each reads what the other writes: the second is refused, by the least page read that was written, and its first later commit
write_skew_is_refused :
    answers_to (world_over small) (
    act.Begin 1 ∷ act.Begin 2 ∷ act.Read 1 4 ∷ act.Read 2 3 ∷ act.Read 2 2 ∷ act.Write 1 3 1 ∷ act.Write 2 4 1 ∷ act.Commit 1 ∷ act.Commit 2 ∷ [])
    ≡ told.Ok ∷ told.Ok ∷ told.Byte 0 ∷ told.Byte 0 ∷ told.Byte 0 ∷ told.Ok ∷ told.Ok ∷ told.Done (At 1) ∷ told.Busy 3 1 ∷ []
unfolding small
write_skew_is_refused = refl

-- out of a transaction there is nothing to read, write, commit or roll back; in one there is no other; session 0 finds no logs
wrong_places :
    answers_to (world_over small) (
    act.Read 1 2 ∷ act.Write 1 2 7 ∷ act.Commit 1 ∷ act.Rollback 1 ∷ act.Begin 1 ∷ act.Begin 1 ∷ act.Rollback 1 ∷ act.Copy ∷ act.Step
    ∷ act.Logs ∷ [])
    ≡ told.NoTransaction ∷ told.NoTransaction ∷ told.NoTransaction ∷ told.NoTransaction ∷ told.Ok ∷ told.InTransaction ∷ told.Ok
    ∷ told.Ckpt Idle ∷ told.Ckpt Idle ∷ told.Logs (record { current = 1; frames = 0; done = Rattle.std.proofs.Common.true }) ∷ []
unfolding small
wrong_places = refl

use Rattle.std.proofs.Common.{◌≡◌, [], length, reverse, take}
use Rattle.disk_face.specs.Image.{unsure}
use Rattle.disk_mem.specs.Crash.{places}
use Rattle.disk_mem.proofs.crash.mark.Given as goal

abbrev pub invariant-loop-step : goal.invariant-loop-step
invariant-loop-step l = l.marks ≡ places (unsure [] (reverse (take l.step-index l.steps))) l.file (length l.initial.marks)

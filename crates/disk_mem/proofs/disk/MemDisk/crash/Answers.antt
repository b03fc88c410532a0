use Rattle.std.proofs.Common.{◌≡◌, sym, subst, rules, [], List, ℕ}
use Rattle.disk_face.specs.Steps.{History, reads}
use Rattle.disk_face.specs.Image.{MayLeave}
use Rattle.disk_mem.specs.Crash.{crashed}
use Rattle.disk_mem.proofs.Allowed.{crash_allowed}
use Rattle.disk_mem.proofs.disk.MemDisk.crash.Goals as goal

along : (told left : History) (pick : List ℕ) → left ≡ crashed told pick → MayLeave [] told (reads left)
along told left pick is = let P : History → Type 0 = λ after. MayLeave [] told (reads after) in subst P (sym is) (crash_allowed told pick)

pub returns-clause-allowed : goal.returns-clause-allowed
returns-clause-allowed c = along c.args.self.now.told c.in_ok-crash.field-0 c.args.pick.now (search rules)

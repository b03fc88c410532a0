-- Which calls of a disk in memory fail.
use Rattle.std.specs.Prelude.{ℕ, ◌+◌, ◌-◌, ◌^◌, min, Bool, true, false, ◌&&◌, ◌||◌, ◌==◌, if◌then◌else◌, List, map, Option, Some, None}
use Rattle.disk_face.specs.declared.disk.File.{File}
use Rattle.disk_face.specs.Image.{same_file}
use Rattle.disk_mem.specs.declared.plan.Call.{Call}
use Rattle.disk_mem.specs.declared.plan.Call.TheVariants.{Attach, Journal, Size, Read, Write, Sync}
use Rattle.disk_mem.specs.declared.plan.Fail.{Fail}
use Rattle.disk_mem.specs.Fuse.{burnt}
use Rattle.std.specs.List.{list_any}

-- the plan of a disk
pub record PlanState : Type 0 where
  -- the calls that are to fail, each named by how many calls of its kind on its file from now on, from 1
  pub failing : List Fail
  -- how many further calls pass before all fail; none where none is to fail so
  pub passes : Option ℕ
  -- how many calls there have been
  pub calls : ℕ

-- whether two kinds of calls are one
abbrev pub same_call : Call → Call → Bool
same_call Attach Attach = true
same_call Journal Journal = true
same_call Size Size = true
same_call Read Read = true
same_call Write Write = true
same_call Sync Sync = true
same_call one other = false

-- whether it is to fail a call of this kind on this file
abbrev pub names : File → Call → Fail → Bool
names file call fail = same_file fail.file file && same_call fail.call call

-- whether this call of the kind is the one that is to fail
abbrev pub is_due : File → Call → Fail → Bool
is_due file call fail = names file call fail && (fail.nth == 1)

-- what names the same call once this one has been
abbrev pub later : File → Call → Fail → Fail
later file call fail = record { file = fail.file; call = fail.call; nth = if names file call fail then fail.nth - 1 else fail.nth }

-- whether no further call passes
abbrev pub is_over : Option ℕ → Bool
is_over None = false
is_over (Some passes) = passes == 0

-- whether this call fails
abbrev pub fails : File → Call → PlanState → Bool
fails file call plan = list_any (is_due file call) plan.failing || is_over plan.passes

-- the plan once this call has been
abbrev pub called : File → Call → PlanState → PlanState
called file call plan = record {
  failing = map (later file call) plan.failing;
  passes = burnt plan.passes;
  calls = min (plan.calls + 1) (2 ^ 64 - 1);
}

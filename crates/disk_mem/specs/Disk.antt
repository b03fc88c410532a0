-- What a disk in memory is, and what its calls make of it.
use Rattle.std.specs.Prelude.{◌≡◌, ℕ, Bool, true, false, List}
use Rattle.disk_face.specs.declared.disk.File.{File}
use Rattle.disk_face.specs.Faults.{one_more}
use Rattle.disk_face.specs.Steps.{History}
use Rattle.disk_mem.specs.declared.plan.Call.{Call}
use Rattle.disk_mem.specs.declared.plan.Made.{Made}
use Rattle.disk_mem.specs.Note.{with_call, NotesIfAble}
use Rattle.disk_mem.specs.Plan.{PlanState, called}

-- the disk
pub record DiskState : Type 0 where
  -- what the files held at first, and the steps since
  pub told : History
  -- whether the files have been named
  pub attached : Bool
  -- whether there is a hot journal
  pub hot : Bool
  -- which calls are to fail, and how many there have been
  pub plan : PlanState
  -- the calls that were made, the oldest first
  pub made : List Made
  -- how often it has failed
  pub faults : ℕ

-- the disk after a call that went well, but for what the call is for
abbrev pub passed : File → Call → DiskState → DiskState
passed file call disk = record disk {
  plan = called file call disk.plan;
  made = with_call (record { file = file; call = call; failed = false }) disk.made;
}

-- What a call that failed leaves of the disk, but for the files.
pub record HasFailed (file : File) (call : Call) (before after : DiskState) : Type 0 where
  pub plan : after.plan ≡ called file call before.plan
  pub noted : NotesIfAble (record { file = file; call = call; failed = true }) before.made after.made
  pub counted : after.faults ≡ one_more before.faults
  pub attached : after.attached ≡ before.attached
  pub hot : after.hot ≡ before.hot

-- What a call leaves of a disk, said of all that the disk tells at once.
use Rattle.std.specs.Prelude.{◌≡◌}
use Rattle.disk_face.specs.declared.tells.DiskTells.{Ghosts}

-- Nothing but the count of faults may differ.
pub record OnlyReads {D : Type 0} (disk : Ghosts D) (old new : D) : Type 0 where
  pub told : disk.told new ≡ disk.told old
  pub attached : disk.attached new ≡ disk.attached old
  pub named : disk.named new ≡ disk.named old
  pub journal_answer : disk.journal_answer new ≡ disk.journal_answer old
  pub loans : disk.loans new ≡ disk.loans old

-- Nothing but the files and the count of faults may differ.
pub record OnlyWrites {D : Type 0} (disk : Ghosts D) (old new : D) : Type 0 where
  pub attached : disk.attached new ≡ disk.attached old
  pub named : disk.named new ≡ disk.named old
  pub journal_answer : disk.journal_answer new ≡ disk.journal_answer old
  pub loans : disk.loans new ≡ disk.loans old

-- Nothing but which files they are and the count of faults may differ.
pub record OnlyNames {D : Type 0} (disk : Ghosts D) (old new : D) : Type 0 where
  pub told : disk.told new ≡ disk.told old
  pub journal_answer : disk.journal_answer new ≡ disk.journal_answer old
  pub loans : disk.loans new ≡ disk.loans old

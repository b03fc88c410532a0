-- Laws of calls in a row: what they leave of a disk, and what they count.
use Rattle.std.proofs.Common.{ℕ, ◌≤◌, Bool, true, false, refl, ◌∙◌, arith}
use Rattle.disk_face.specs.declared.tells.DiskTells.{Ghosts}
use Rattle.disk_face.specs.Faults.{Counts}
use Rattle.disk_face.specs.Stays.{OnlyReads, OnlyWrites}

pub reads_nothing : {D : Type 0} (disk : Ghosts D) (one : D) → OnlyReads disk one one
reads_nothing disk one = record { told = refl; attached = refl; named = refl; journal_answer = refl; loans = refl }

pub reads_twice : {D : Type 0} (disk : Ghosts D) (one two three : D) → OnlyReads disk one two → OnlyReads disk two three → OnlyReads disk one three
reads_twice disk one two three first second = record {
  told = second.told ∙ first.told;
  attached = second.attached ∙ first.attached;
  named = second.named ∙ first.named;
  journal_answer = second.journal_answer ∙ first.journal_answer;
  loans = second.loans ∙ first.loans;
}

-- what only reads writes nothing
pub reads_as_write : {D : Type 0} (disk : Ghosts D) (one two : D) → OnlyReads disk one two → OnlyWrites disk one two
reads_as_write disk one two is = record { attached = is.attached; named = is.named; journal_answer = is.journal_answer; loans = is.loans }

pub writes_twice : {D : Type 0} (disk : Ghosts D) (one two three : D) → OnlyWrites disk one two → OnlyWrites disk two three → OnlyWrites disk one three
writes_twice disk one two three first second = record {
  attached = second.attached ∙ first.attached;
  named = second.named ∙ first.named;
  journal_answer = second.journal_answer ∙ first.journal_answer;
  loans = second.loans ∙ first.loans;
}

-- no call lowers the count
pub counts_later : (well : Bool) (before after : ℕ) → Counts well before after → before ≤ after
counts_later true before after same = omega (arith, same)
counts_later false before after rose = rose.later

-- after calls that went well a further one counts as it does alone
pub counts_twice : (well : Bool) (one two three : ℕ) → Counts true one two → Counts well two three → Counts well one three
counts_twice true one two three first second = second ∙ first
counts_twice false one two three first rose = rw first at rose

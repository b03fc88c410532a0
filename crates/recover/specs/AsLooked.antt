-- A disk is as it was looked at, and which views its recovered map has.
use Rattle.std.specs.Prelude.{◌≡◌, ℕ, ◌+◌, ◌≤◌, Bool, true, false, length, Option, None, Some, IfSome}
use Rattle.std.proofs.Common.{refl, ◌∙◌}
use Rattle.disk_face.specs.Stays.{OnlyReads}
use Rattle.disk_face.specs.Steps.{History, reads}
use Rattle.disk_face.specs.declared.tells.DiskTells.{Ghosts}
use Rattle.page_spec.specs.PageMap.{PageMap, page_at, reserved_of}
use Rattle.page_spec.specs.View.{View}
use Rattle.crash_spec.specs.Recovered.{recovered}
use Rattle.engine_spec.specs.Good.{HasSizes}
use Rattle.recover.specs.Remembered.{Remembers, remembers_itself, remembers_on}
use Rattle.recover.specs.Seeing.{SeenView, IsSeen, IsWholeSeen}

-- The disk has the files named, a database is there, and what was seen of it is what it tells, where it tells its bytes.
pub record IsAsLooked {D : Type 0} (tells : Ghosts D) (disk : D) (seen : SeenView) : Type 0 where
  pub attached : tells.attached disk ≡ true
  pub old : seen.is_new ≡ false
  pub whole : IsWholeSeen seen
  pub new_size : ℕ
  pub seen_is : IfSome (tells.told disk) (λ told. IsSeen new_size (reads told) seen)

-- A view that agrees with the recovered map on all pages of that. Where the disk doesn't tell its bytes, there is none.
abbrev pub IsViewOfRecovered : Option History → View → Type 0
IsViewOfRecovered None world = ⊥
IsViewOfRecovered (Some told) world =
    (number : ℕ) → 1 ≤ number → number ≤ length (recovered (reads told)) → world number ≡ page_at (recovered (reads told)) number

-- What was seen tells the sizes of this map: how many pages it has, at least one, how long each is, and how much of it isn't reserved.
pub record AreSizesOf (pages : PageMap) (seen : SeenView) : Type 0 where
  pub sizes : HasSizes pages (length seen.places) seen.page_size
  pub some : 1 ≤ length pages
  pub reserved : seen.page_size ≡ seen.usable + reserved_of pages

-- What was seen is the same, and of the disk nothing but the count of faults may differ. It differs only where a read failed, which is remembered.
pub record IsOnlyRead {D : Type 0} (tells : Ghosts D) (old_seen new_seen : SeenView) (old_failed new_failed : Bool) (old new : D) : Type 0 where
  pub seen : new_seen ≡ old_seen
  pub stays : OnlyReads tells old new
  pub counts : Remembers old_failed new_failed (tells.faults old) (tells.faults new)

-- so it is where nothing happened
pub only_read_itself : {D : Type 0} (tells : Ghosts D) (seen : SeenView) (failed : Bool) (disk : D) → IsOnlyRead tells seen seen failed failed disk disk
only_read_itself tells seen failed disk = record {
  seen = refl;
  stays = record { told = refl; attached = refl; named = refl; journal_answer = refl; loans = refl };
  counts = remembers_itself failed (tells.faults disk);
}

-- and over two calls
pub only_read_on : {D : Type 0} (tells : Ghosts D) (a b c : SeenView) (one two three : Bool) (first second third : D) → IsOnlyRead tells a b one two first second
    → IsOnlyRead tells b c two three second third → IsOnlyRead tells a c one three first third
only_read_on tells a b c one two three first second third before then_is = record {
  seen = then_is.seen ∙ before.seen;
  stays = record {
    told = then_is.stays.told ∙ before.stays.told;
    attached = then_is.stays.attached ∙ before.stays.attached;
    named = then_is.stays.named ∙ before.stays.named;
    journal_answer = then_is.stays.journal_answer ∙ before.stays.journal_answer;
    loans = then_is.stays.loans ∙ before.stays.loans;
  };
  counts = remembers_on one two three (tells.faults first) (tells.faults second) (tells.faults third) before.counts then_is.counts;
}

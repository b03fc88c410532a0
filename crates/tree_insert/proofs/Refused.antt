-- Why nothing was put in: what was refused after pages were read.
use Rattle.std.proofs.Common.{ℕ, sym, subst}
use Rattle.page_face.specs.declared.pages_tells.PagesTells.{Ghosts}
use Rattle.page_face.specs.Pages.{Editing, ReadsAtMost}
use Rattle.tree_spec.specs.Shown.{Shown}
use Rattle.tree_spec.specs.Trees.{IsTree}
use Rattle.overflow.specs.Following.{shown_over}
use Rattle.tree_read.proofs.Descents.{same_shown}
use Rattle.tree_keys.specs.Keys.{Sought, is_row}
use Rattle.tree_keys.proofs.Refused.{bars_since}
use Rattle.tree_insert.specs.Inserting.{RefusesInsert}
use Rattle.tree_insert.specs.declared.fault.InsertFault.{InsertFault}
use Rattle.tree_insert.specs.declared.fault.InsertFault.TheVariants as insert

-- What was refused after pages were read was refused since before.
pub refused_since : {P : Type 0} (pages : Ghosts P) (old mid new : P) (sought : Sought) (level page : ℕ) (why : InsertFault) → ReadsAtMost pages old mid → Editing pages mid new
    → (ReadsAtMost pages mid new → ReadsAtMost pages old new) → RefusesInsert pages mid sought level page new why → RefusesInsert pages old sought level page new why
refused_since pages old mid new sought level page insert.Exists only edits join had = record {
  reading = join had.reading;
  there = λ world told bound height own items tree.
      had.there world told bound height own items
      (subst (λ (s : Shown). IsTree (is_row sought) (pages.usable mid) bound s height page own items) (sym (same_shown pages old mid only world (edits.narrows world told)))
      (subst (λ (u : ℕ). IsTree (is_row sought) u bound (shown_over pages old world) height page own items) (sym only.edits.usable) tree));
}
refused_since pages old mid new sought level page (insert.Fetch why) only edits join bars = bars_since pages old mid new sought level page why only edits bars

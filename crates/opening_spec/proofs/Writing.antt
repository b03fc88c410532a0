-- Pages are written to Main, and Main is synced.
use Rattle.std.proofs.Common.{◌≡◌, ℕ, ◌+◌, ◌-◌, ◌*◌, ◌≤◌, inl, inr, List, length, sym, subst, arith, Option, Some, None}
use Rattle.std.specs.Prelude.{IfSome, Contains}
use Rattle.disk_face.specs.declared.disk.File.TheVariants.{Main, Log1, Log2}
use Rattle.disk_face.specs.declared.step.Step.{Step}
use Rattle.disk_face.specs.declared.step.Step.TheVariants.{Wrote, Synced}
use Rattle.disk_face.specs.Files.{Files}
use Rattle.disk_face.specs.Steps.{History, after, reads}
use Rattle.disk_face.specs.Told.{Refuses}
use Rattle.disk_face.specs.Image.{MayLeave}
use Rattle.crash_spec.specs.Opening.{Since, grown, rebased}
use Rattle.crash_spec.specs.Passes.{Passes}
use Rattle.crash_spec.proofs.Elsewhere.{whole_elsewhere, whole_synced}
use Rattle.crash_spec.proofs.Passing.{passes_still, passes_step, passes_refused, passes_weaker}
use Rattle.crash_spec.proofs.Rebased.{rebased_reads}
use Rattle.opening_spec.specs.Found.{OpeningView, FoundLog, pages_held, page_in}
use Rattle.opening_spec.specs.States.{AreSynced, IsWriting, IsLaidDown, LeavesMap, page_piece}
use Rattle.opening_spec.proofs.Syncing.{opened_synced}
use Rattle.opening_spec.proofs.Synced.{synced_images}
use Rattle.opening_spec.proofs.Written.{page_written, page_refused, page_laid, page_long}

-- Main reaches to the page that comes next
pub reaches : (view : OpeningView) (one two : FoundLog) (next : ℕ) (told : History) → IsWriting view one two next told → (next - 1) * view.size ≤ length (reads told).main
reaches view one two next told w = omega (arith, w.long)

module _ (view : OpeningView) (one two : FoundLog) where
  abbrev At : ℕ → History → Type 0
  At next told = IsWriting view one two next told

  writing_gives : (next : ℕ) (told : History) → At next told → (image : Files) → MayLeave view.opening.before told image → LeavesMap view told image
  writing_gives next told w = synced_images view one two told w.synced

  synced_gives : (told : History) → AreSynced view one two told → (image : Files) → MayLeave view.opening.before told image → LeavesMap view told image
  synced_gives told s = synced_images view one two told s

  module _ (number : ℕ) (held : Contains (pages_held one two) number) (from : 1 ≤ number) (within_map : number ≤ length view.map) (bytes : List ℕ) (whole : length bytes ≡ view.size) where
    page_at_start : (old : Option History) → IfSome old (λ told. bytes ≡ page_in view.size (reads told) one two number) → (since : List Step) → old ≡ Some (grown since view.opening.start)
        → bytes ≡ page_in view.size (reads (rebased view.opening.start since)) one two number
    page_at_start old is since grew =
        subst (λ (files : Files). bytes ≡ page_in view.size files one two number) (rebased_reads view.opening.start since)
        (subst (λ told. IfSome told (λ told. bytes ≡ page_in view.size (reads told) one two number)) grew is)

    pub page_done : (old : Option History) → IfSome old (λ told. bytes ≡ page_in view.size (reads told) one two number) → Since view.opening.start (IsWriting view one two number) old
        → Passes view.opening (LeavesMap view) (IsWriting view one two (number + 1)) old (after (Wrote (page_piece number view.size bytes)) old)
    page_done old is h =
        passes_step view.opening (LeavesMap view) (At number) (At (number + 1)) (Wrote (page_piece number view.size bytes)) (writing_gives number) (writing_gives (number + 1)) old
        (λ since grew w. record {
          synced = page_written view one two (rebased view.opening.start since) w.synced number held from within_map bytes whole (reaches view one two number (rebased view.opening.start since) w);
          laid = page_laid view one two (rebased view.opening.start since) w.synced number held from within_map bytes whole (reaches view one two number (rebased view.opening.start since) w) w.laid (page_at_start old is since grew);
          long = page_long view one two (rebased view.opening.start since) w.synced number held from within_map bytes whole (reaches view one two number (rebased view.opening.start since) w) view.long w.long;
        }) h

    pub page_fails : (old new : Option History) → Refuses (page_piece number view.size bytes) old new → Since view.opening.start (IsWriting view one two number) old
        → Passes view.opening (LeavesMap view) (AreSynced view one two) old new
    page_fails old new refused h =
        passes_refused view.opening (LeavesMap view) (At number) (AreSynced view one two) (page_piece number view.size bytes) (writing_gives number) synced_gives old new
        (λ told w. w.synced)
        (λ left within since grew w. page_refused view one two (rebased view.opening.start since) w.synced number held from within_map bytes whole (reaches view one two number (rebased view.opening.start since) w) left within) h refused

  -- Main is synced
  pub main_done : (next : ℕ) (old : Option History) → Since view.opening.start (IsWriting view one two next) old
      → Passes view.opening (LeavesMap view) (IsLaidDown view one two next) old (after (Synced Main) old)
  main_done next old h =
      passes_step view.opening (LeavesMap view) (At next) (IsLaidDown view one two next) (Synced Main) (writing_gives next) (λ told d. writing_gives next told d.writing) old
      (λ since grew w. record {
        writing = record {
          synced = record {
            opened = opened_synced view one two (rebased view.opening.start since) Main w.synced.opened;
            whole1 = whole_elsewhere view.opening Log1 (Synced Main) (rebased view.opening.start since) tt w.synced.whole1;
            whole2 = whole_elsewhere view.opening Log2 (Synced Main) (rebased view.opening.start since) tt w.synced.whole2;
          };
          laid = w.laid;
          long = w.long;
        };
        main = whole_synced view.opening Main (rebased view.opening.start since);
      }) h

  pub main_fails : (next : ℕ) (old : Option History) → Since view.opening.start (IsWriting view one two next) old → Passes view.opening (LeavesMap view) (AreSynced view one two) old old
  main_fails next old h =
      passes_weaker view.opening (LeavesMap view) (LeavesMap view) (At next) (AreSynced view one two) (λ told image leaves. leaves) (λ told w. w.synced) old old
      (passes_still view.opening (LeavesMap view) (At next) (writing_gives next) old h)

-- the same, where the disk tells
module _ (view : OpeningView) (one two : FoundLog) (number : ℕ) (from : 1 ≤ number) (bytes : List ℕ) (whole : length bytes ≡ view.size) where
  pub told_page_done : (old : Option History) → IfSome old (λ told. Contains (pages_held one two) number × (bytes ≡ page_in view.size (reads told) one two number) × (number ≤ length view.map)) → Since view.opening.start (IsWriting view one two number) old
      → Passes view.opening (LeavesMap view) (IsWriting view one two (number + 1)) old (after (Wrote (page_piece number view.size bytes)) old)
  told_page_done None is h = record { each_moment = tt; holds = tt }
  told_page_done (Some told) (held, is, within_map) h = page_done view one two number held from within_map bytes whole (Some told) is h

  pub told_page_fails : (old new : Option History) → IfSome old (λ told. Contains (pages_held one two) number × (bytes ≡ page_in view.size (reads told) one two number) × (number ≤ length view.map))
      → Refuses (page_piece number view.size bytes) old new → Since view.opening.start (IsWriting view one two number) old
      → Passes view.opening (LeavesMap view) (AreSynced view one two) old new
  told_page_fails None new is (inl same) h = subst (λ told. Passes view.opening (LeavesMap view) (AreSynced view one two) None told) (sym same) (record { each_moment = tt; holds = tt })
  told_page_fails None new is (inr (left, within, same)) h = subst (λ told. Passes view.opening (LeavesMap view) (AreSynced view one two) None told) (sym same) (record { each_moment = tt; holds = tt })
  told_page_fails (Some told) new (held, is, within_map) refused h = page_fails view one two number held from within_map bytes whole (Some told) new refused h

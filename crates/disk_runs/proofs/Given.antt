-- A run over a store as an engine, said of its disk as it is given back.
use Rattle.std.proofs.Common.{◌≡◌, ◌∙◌, ℕ, List, [], sym, ap, subst}
use Rattle.disk_face.specs.declared.tells.DiskTells as disks
use Rattle.engine_spec.specs.State.{EngineState}
use Rattle.page_face.specs.declared.means.Means.{Ghosts as Meaning}
use Rattle.page_lines.specs.declared.lines.Act.{Act}
use Rattle.page_lines.specs.declared.lines.Told.{Told}
use Rattle.acts.specs.Pagers.{Plays}
use Rattle.store.specs.declared.solo.Solo.{Solo}
use Rattle.store.specs.Solo.{solo_tells, store_of}
use Rattle.disk_runs.specs.Opened.{IsRunOf}

pub run_given : {D W M : Type 0} (disk : disks.Ghosts D) (loans : W → List ℕ) (means : Meaning M) (solo made then : Solo D W M) (after : D) (acts : List Act)
    (answers : List Told) (last : EngineState) → made ≡ solo → after ≡ (store_of then).disk
    → Plays ((solo_tells disk loans means).opened made) ((solo_tells disk loans means).state made) ((solo_tells disk loans means).map_at made) [] acts answers last
    → last.faults ≡ ((solo_tells disk loans means).state then).faults → last.disk ≡ ((solo_tells disk loans means).state then).disk
    → IsRunOf disk loans means solo after acts answers
run_given {D} {W} {M} disk loans means solo made then after acts answers last is given plays faults past = record {
  last = last;
  plays = subst (λ (one : Solo D W M). Plays ((solo_tells disk loans means).opened one) ((solo_tells disk loans means).state one) ((solo_tells disk loans means).map_at one) []
      acts answers last) is plays;
  faults = faults ∙ ap disk.faults (sym given);
  past = past ∙ ap disk.told (sym given);
}

-- A run over a store as an engine, said of the store as it was and of its disk as it is given back.
use Rattle.std.specs.Prelude.{◌≡◌, ℕ, [], List}
use Rattle.disk_face.specs.declared.tells.DiskTells as disks
use Rattle.page_face.specs.declared.means.Means.{Ghosts as Meaning}
use Rattle.engine_spec.specs.State.{EngineState}
use Rattle.page_lines.specs.declared.lines.Act.{Act}
use Rattle.page_lines.specs.declared.lines.Told.{Told}
use Rattle.acts.specs.Pagers.{Plays}
use Rattle.store.specs.declared.solo.Solo.{Solo}
use Rattle.store.specs.Solo.{solo_tells}

-- These acts were answered so over the engine, and its disk then counts as many faults, and tells the same, as this one.
pub record IsRunOf {D W M : Type 0} (disk : disks.Ghosts D) (loans : W → List ℕ) (means : Meaning M) (solo : Solo D W M) (after : D) (acts : List Act)
    (answers : List Told) : Type 0 where
  pub last : EngineState
  pub plays : Plays ((solo_tells disk loans means).opened solo) ((solo_tells disk loans means).state solo) ((solo_tells disk loans means).map_at solo) [] acts
      answers last
  pub faults : last.faults ≡ disk.faults after
  pub past : last.disk ≡ disk.told after

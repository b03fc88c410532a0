-- While a store is opened, what a crash leaves is opened again, as soon as it recovers to the map before or to the one with which the store begins.
use Rattle.std.proofs.Common.{◌≡◌, ◌++◌, inl, inr, ℕ, true, length, Option, Some, None}
use Rattle.disk_face.specs.Files.{Files}
use Rattle.disk_face.specs.Steps.{History, reads}
use Rattle.page_spec.specs.Header.{is_page_size}
use Rattle.crash_spec.specs.Opening.{Opening, opening_at, rebased}
use Rattle.crash_spec.specs.Moments.{AtEachMoment}
use Rattle.crash_spec.proofs.Moments.{each_weaker}
use Rattle.opening_spec.specs.Begins.{view_at}
use Rattle.recover.specs.Ready.{LeavesSettling}
use Rattle.recover.specs.declared.setup.StoreKind.TheVariants.{Pages}
use Rattle.store.specs.Opening.{map_opened, size_opened}
use Rattle.store.proofs.Mixed.{opened_settles}
use Rattle.reopening.proofs.Openings.{settling_opens}
use Rattle.disk_runs.specs.OnDisk.{OpensSettling, Reopens, Settles}

-- what is left of each moment
weaker_moments : (opening : Opening) (Leaves Less : History → Files → Type 0) → ((told : History) (image : Files) → Leaves told image → Less told image) → (old new : Option History)
    → AtEachMoment opening Leaves old new → AtEachMoment opening Less old new
weaker_moments opening Leaves Less less None None each = tt
weaker_moments opening Leaves Less less None (Some new) each = absurd each
weaker_moments opening Leaves Less less (Some old) None each = absurd each
weaker_moments opening Leaves Less less (Some old) (Some new) (since, more, is, reached, each) = (
  since,
  more,
  is,
  reached,
  each_weaker opening.before Leaves Less less (rebased opening.start (more ++ since)) (length since) each,
)

pub reopens_settling : (new_size : ℕ) → is_page_size new_size ≡ true → (old new : Option History) → Settles Pages new_size old new → Reopens new_size old new
reopens_settling new_size legal old new settles told is may hot opened =
    weaker_moments (opening_at told) (LeavesSettling (view_at (size_opened new_size (reads told)) told) (map_opened new_size (reads told)))
    (OpensSettling (view_at (size_opened new_size (reads told)) told)) less old new (settles told is may (opened_settles hot (reads told) opened))
  where
    less : (now : History) (image : Files) → LeavesSettling (view_at (size_opened new_size (reads told)) told) (map_opened new_size (reads told)) now image
        → OpensSettling (view_at (size_opened new_size (reads told)) told) now image
    less now image (inl leaves) = inl (λ chance room cold_hot cold. settling_opens new_size legal hot told opened now image leaves chance room cold_hot cold)
    less now image (inr rest) = inr rest

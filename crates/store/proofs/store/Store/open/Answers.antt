use Rattle.std.proofs.Common.{◌≡◌, Some, sym, subst}
use Rattle.std.specs.Prelude.{IfSome}
use Rattle.disk_face.specs.Steps.{History, reads}
use Rattle.page_spec.specs.PageMap.{PageMap}
use Rattle.crash_spec.specs.Opening.{opening_at}
use Rattle.crash_spec.specs.Passes.{Passes}
use Rattle.opening_spec.specs.Begins.{MayOpen, view_at}
use Rattle.recover.specs.Ready.{LeavesSettling}
use Rattle.recover.specs.declared.setup.StoreKind.{StoreKind}
use Rattle.store_spec.specs.Standing.{StandsFrom, StandsOn}
use Rattle.store.specs.Kept.{kept_of}
use Rattle.store.specs.Opening.{MaySettle, map_begun, no_readers, size_opened}
use Rattle.store.proofs.store.Store.open.Goals as goal

pub returns-in-Ok-clause-runs : goal.returns-in-Ok-clause-runs
returns-in-Ok-clause-runs g c =
    let store = c.in-Ok.store in
    subst (λ (kind : StoreKind). (first : PageMap) → IfSome (g.D.DiskTells.told c.args.disk) (λ told. MaySettle (reads told) × (first ≡ map_begun kind c.args.setup.page_size (reads told)) × g.M.Means.sound first first)
    → StandsFrom (g.M.Means.sound first) (g.M.Means.leads first) first (g.D.DiskTells.told store.disk) (kept_of store) no_readers)
    (sym c.in-Pages.is) c.in-Ok.ensures.runs

pub returns-in-Ok-open_checked-clause-runs : goal.returns-in-Ok-open_checked-clause-runs
returns-in-Ok-open_checked-clause-runs g c =
    let store = c.in-Ok-open_checked.store in
    subst (λ (kind : StoreKind). (first : PageMap) → IfSome (g.D.DiskTells.told c.args.disk) (λ told. MaySettle (reads told) × (first ≡ map_begun kind c.args.setup.page_size (reads told)) × g.M.Means.sound first first)
    → StandsFrom (g.M.Means.sound first) (g.M.Means.leads first) first (g.D.DiskTells.told store.disk) (kept_of store) no_readers)
    (sym c.in-Tables.is) c.in-Ok-open_checked.ensures.runs

pub returns-in-Ok-clause-moments : goal.returns-in-Ok-clause-moments
returns-in-Ok-clause-moments g c =
    let store = c.in-Ok.store in
    subst (λ (kind : StoreKind). (told : History) → g.D.DiskTells.told c.args.disk ≡ Some told → MayOpen (size_opened c.args.setup.page_size (reads told)) told → MaySettle (reads told)
    → Passes (opening_at told) (LeavesSettling (view_at (size_opened c.args.setup.page_size (reads told)) told) (map_begun kind c.args.setup.page_size (reads told))) (StandsOn (opening_at told) (kept_of store)) (g.D.DiskTells.told c.args.disk) (g.D.DiskTells.told store.disk))
    (sym c.in-Pages.is) c.in-Ok.ensures.moments

pub returns-in-Ok-open_checked-clause-moments : goal.returns-in-Ok-open_checked-clause-moments
returns-in-Ok-open_checked-clause-moments g c =
    let store = c.in-Ok-open_checked.store in
    subst (λ (kind : StoreKind). (told : History) → g.D.DiskTells.told c.args.disk ≡ Some told → MayOpen (size_opened c.args.setup.page_size (reads told)) told → MaySettle (reads told)
    → Passes (opening_at told) (LeavesSettling (view_at (size_opened c.args.setup.page_size (reads told)) told) (map_begun kind c.args.setup.page_size (reads told))) (StandsOn (opening_at told) (kept_of store)) (g.D.DiskTells.told c.args.disk) (g.D.DiskTells.told store.disk))
    (sym c.in-Tables.is) c.in-Ok-open_checked.ensures.moments

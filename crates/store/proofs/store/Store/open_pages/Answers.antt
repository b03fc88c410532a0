use Rattle.std.proofs.Common.{◌≡◌, Option, None, Some, false, ◌∙◌, sym, ap, subst}
use Rattle.std.specs.Prelude.{IfSome}
use Rattle.page_spec.specs.PageMap.{PageMap}
use Rattle.crash_spec.specs.Opening.{opening_at}
use Rattle.crash_spec.specs.Passes.{Passes}
use Rattle.opening_spec.specs.Begins.{MayOpen, view_at}
use Rattle.recover.specs.Ready.{LeavesSettling}
use Rattle.recover.specs.Seeing.{fault_of}
use Rattle.recover.specs.declared.setup.StoreKind.{StoreKind}
use Rattle.recover.specs.declared.setup.StoreKind.TheVariants.{Pages}
use Rattle.disk_face.specs.Steps.{History, reads}
use Rattle.store.specs.Kept.{kept_of}
use Rattle.store_spec.specs.Store.{newest_told}
use Rattle.store_spec.specs.Standing.{StandsFrom, StandsOn}
use Rattle.store.specs.Opening.{MaySettle, count_begun, map_begun, map_opened, no_readers, size_opened}
use Rattle.store.proofs.OpenLaws.{pages_begun, pages_may, quiet}
use Rattle.store.proofs.Opened.{fine_still, said_still}
use Rattle.store.proofs.store.Store.open_pages.Goals as goal

pub returns-in-Some-clause-moments : goal.returns-in-Some-clause-moments
returns-in-Some-clause-moments g c told is may settle =
    quiet (size_opened c.args.setup.page_size (reads told)) (map_opened c.args.setup.page_size (reads told)) told _ _ is c.in-Ok.ensures.stays.told may

pub returns-in-Err-clause-moments : goal.returns-in-Err-clause-moments
returns-in-Err-clause-moments g c told is may settle =
    quiet (size_opened c.args.setup.page_size (reads told)) (map_opened c.args.setup.page_size (reads told)) told _ _ is c.in-Err.ensures.stays.told may

pub returns-then-is_mixed-clause-moments : goal.returns-then-is_mixed-clause-moments
returns-then-is_mixed-clause-moments g c told is may settle =
    quiet (size_opened c.args.setup.page_size (reads told)) (map_opened c.args.setup.page_size (reads told)) told _ _ is c.in-Ok.ensures.stays.told may

pub open_seen-requires-clause-counts : goal.open_seen-requires-clause-counts
open_seen-requires-clause-counts g c = ap (λ (kind : StoreKind). count_begun kind c.in-Ok.seen) c.requires.kind ∙ pages_begun c.in-Ok.seen (sym c.pages_fault.ensures ∙ c.in-None.is)

pub open_seen-requires-clause-fits : goal.open_seen-requires-clause-fits
open_seen-requires-clause-fits g c = (pages_may c.in-Ok.seen c.args.setup.limit c.in-Ok.ensures.seen.whole c.requires.limit).fits

pub open_seen-requires-clause-fine : goal.open_seen-requires-clause-fine
open_seen-requires-clause-fine g c =
    subst (λ (told : Option History). IfSome told (λ told. fault_of (reads told) false ≡ None)) (sym c.in-Ok.ensures.stays.told) (fine_still (g.D.DiskTells.told c.args.disk) c.in-Ok.ensures.seen.fine)

pub returns-in-Ok-open_seen-clause-live : goal.returns-in-Ok-open_seen-clause-live
returns-in-Ok-open_seen-clause-live g c settle =
    c.in-Ok-open_seen.ensures.live (subst (λ (told : Option History). IfSome told (λ told. MaySettle (reads told))) (sym c.in-Ok.ensures.stays.told) settle)

pub returns-in-Ok-open_seen-clause-newest : goal.returns-in-Ok-open_seen-clause-newest
returns-in-Ok-open_seen-clause-newest g c =
    let store = c.in-Ok-open_seen.store in
    said_still Pages c.args.setup.kind c.requires.kind _ _ c.in-Ok.ensures.stays.told
    (λ kind old. IfSome old (λ told. MaySettle (reads told) → newest_told (kept_of store) (g.D.DiskTells.told store.disk) ≡ Some (map_begun kind c.args.setup.page_size (reads told))))
    c.in-Ok-open_seen.ensures.newest

pub returns-in-Ok-open_seen-clause-runs : goal.returns-in-Ok-open_seen-clause-runs
returns-in-Ok-open_seen-clause-runs g c =
    let store = c.in-Ok-open_seen.store in
    said_still Pages c.args.setup.kind c.requires.kind _ _ c.in-Ok.ensures.stays.told
    (λ kind old. (first : PageMap) → IfSome old (λ told. MaySettle (reads told) × (first ≡ map_begun kind c.args.setup.page_size (reads told)) × g.M.Means.sound first first)
    → StandsFrom (g.M.Means.sound first) (g.M.Means.leads first) first (g.D.DiskTells.told store.disk) (kept_of store) no_readers)
    c.in-Ok-open_seen.ensures.runs

pub returns-in-Ok-open_seen-clause-moments : goal.returns-in-Ok-open_seen-clause-moments
returns-in-Ok-open_seen-clause-moments g c =
    let store = c.in-Ok-open_seen.store in
    said_still Pages c.args.setup.kind c.requires.kind _ _ c.in-Ok.ensures.stays.told
    (λ kind old. (told : History) → old ≡ Some told → MayOpen (size_opened c.args.setup.page_size (reads told)) told → MaySettle (reads told)
    → Passes (opening_at told) (LeavesSettling (view_at (size_opened c.args.setup.page_size (reads told)) told) (map_begun kind c.args.setup.page_size (reads told))) (StandsOn (opening_at told) (kept_of store)) old (g.D.DiskTells.told store.disk))
    c.in-Ok-open_seen.ensures.moments

pub returns-in-Err-open_seen-clause-moments : goal.returns-in-Err-open_seen-clause-moments
returns-in-Err-open_seen-clause-moments g c =
    let refused = c.in-Err-open_seen.refused in
    said_still Pages c.args.setup.kind c.requires.kind _ _ c.in-Ok.ensures.stays.told
    (λ kind old. (told : History) → old ≡ Some told → MayOpen (size_opened c.args.setup.page_size (reads told)) told → MaySettle (reads told)
    → Passes (opening_at told) (LeavesSettling (view_at (size_opened c.args.setup.page_size (reads told)) told) (map_begun kind c.args.setup.page_size (reads told))) (λ told. Unit {0}) old (g.D.DiskTells.told refused.1))
    c.in-Err-open_seen.ensures.moments

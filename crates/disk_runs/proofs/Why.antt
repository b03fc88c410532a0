-- What is said where a store wasn't opened.
use Rattle.std.proofs.Common.{◌≡◌, sym, subst, inl, inr, ◌⊎◌}
use Rattle.disk_face.specs.declared.sink.Sink as sinks
use Rattle.page_runs.specs.declared.status.Status.{Status}
use Rattle.recover.specs.declared.seen.LookFault.{LookFault}
use Rattle.check_spec.specs.declared.fault.CheckFault.{CheckFault}
use Rattle.store.specs.declared.open_fault.OpenFault.{OpenFault}
use Rattle.store.specs.declared.open_fault.OpenFault.TheVariants.{Look, NotPages, Check}
use Rattle.disk_runs.specs.OnDisk.{SaysReason, SaysWhy}

-- where the files show why
pub says_reason : {K : Type 0} (sink : sinks.Ghosts K) (why : OpenFault) (ended : Status) (out out' : K)
    → ((look : LookFault) × (why ≡ Look look)) ⊎ (((pages byte : _) × (why ≡ NotPages pages byte)) ⊎ ((fault : CheckFault) × (why ≡ Check fault))) → SaysReason sink why ended out out' → SaysWhy sink why ended out out'
says_reason sink why ended out out' (inl (look, is)) says =
    subst (λ (it : OpenFault). SaysWhy sink it ended out out') (sym is) (subst (λ (it : OpenFault). SaysReason sink it ended out out') is says)
says_reason sink why ended out out' (inr (inl (pages, byte, is))) says =
    subst (λ (it : OpenFault). SaysWhy sink it ended out out') (sym is) (subst (λ (it : OpenFault). SaysReason sink it ended out out') is says)
says_reason sink why ended out out' (inr (inr (fault, is))) says =
    subst (λ (it : OpenFault). SaysWhy sink it ended out out') (sym is) (subst (λ (it : OpenFault). SaysReason sink it ended out out') is says)

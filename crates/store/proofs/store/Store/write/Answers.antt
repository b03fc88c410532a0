use Rattle.std.proofs.Common.{◌≡◌, List, ℕ, sym, subst}
use Rattle.std.specs.Prelude.{IfSome}
use Rattle.store.proofs.store.Store.write.Goals as goal
use Rattle.page_spec.specs.PageMap.{page_at}
use Rattle.engine_spec.specs.Change.{laid}
use Rattle.page_face.specs.Prepared.{change_in}
use Rattle.store_spec.specs.Store.{newest_told}
use Rattle.store.specs.Kept.{kept_of}
use Rattle.store.specs.CommittedFrom.{before_of}

pub returns-in-Ok : goal.returns-in-Ok
returns-in-Ok g c pins pin live there fit =
    c.finish.ensures (before_of g.D.DiskTells g.W.Salts.loans c.args.self.now) c.args.readers.now pins pin live.live live.steady there c.in-Ok.ensures.ready fit c.requires.clear
    (subst (λ (items : List ℕ). IfSome (newest_told (kept_of c.args.self.now) (g.D.DiskTells.told c.args.self.now.disk)) (λ pages. items ≡ page_at (laid pages (change_in c.args.prepared)) 1))
    (sym (λ i. (c.in-Ok.ensures.buf i).items)) c.requires.laid)

pub returns-in-Err : goal.returns-in-Err
returns-in-Err g c pins pin live there fit = c.in-Err.ensures.failed pins pin c.args.who live there fit c.requires.clear

-- What an opening leaves is what a store asks of the files.
use Rattle.std.proofs.Common.{◌≡◌, ◌≤◌, ◌<◌, [], ap, arith}
use Rattle.disk_face.specs.declared.disk.File.TheVariants.{Log1}
use Rattle.disk_face.specs.Steps.{History}
use Rattle.page_spec.specs.PageMap.{PageMap}
use Rattle.crash_spec.specs.Store.{HoldsStore}
use Rattle.log_pair.specs.Pair.{PairView}
use Rattle.opening_spec.specs.Found.{OpeningView}
use Rattle.opening_spec.proofs.Ended.{holds_store}
use Rattle.recover.specs.Ready.{IsReady, IsNewPair, store_view}

pub ready_holds : (view : OpeningView) (later : PageMap) (pair : PairView) (told : History) → IsReady view later pair told → IsNewPair view.size pair → 100 ≤ view.size
    → HoldsStore view.opening Log1 pair.one.header pair.two.header [] [] [] view.size later later told
ready_holds view later pair told r new some =
    holds_store (store_view view later) told pair.one.header pair.two.header later r.settled rising some r.sized
  where
    rising : pair.two.header.generation < pair.one.header.generation
    rising =
        let one : pair.one.header.generation ≡ new.one.generation = ap (λ (p : PairView). p.one.header.generation) new.is in
        let two : pair.two.header.generation ≡ new.two.generation = ap (λ (p : PairView). p.two.header.generation) new.is in
        omega (arith, one, two, new.newer)

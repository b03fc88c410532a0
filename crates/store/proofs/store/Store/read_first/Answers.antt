use Rattle.std.proofs.Common.{◌≡◌, ◌∙◌, ℕ, List, sym, ap, subst, length}
use Rattle.std.specs.Prelude.{OnOk, IfSome}
use Rattle.store.proofs.store.Store.read_first.Goals as goal
use Rattle.page_spec.specs.PageMap.{page_at}
use Rattle.store_spec.specs.Store.{newest_told}
use Rattle.store.specs.Kept.{kept_of}
use Rattle.store.proofs.Buffers.{written_back, newest_inside, newest_read}

pub read_page-requires-clause-inside : goal.read_page-requires-clause-inside
read_page-requires-clause-inside g c =
    newest_inside (g.D.DiskTells.told c.args.self.now.disk) (kept_of c.args.self.now) c.requires.live.0 c.requires.live.1 (length c.as_mut_slice.result.now) c.find_newest-found.result c.requires.live.2.live
    (ap (λ (bytes : List ℕ). length bytes) c.as_mut_slice.ensures.value ∙ c.requires.live.2.able.room) c.find_newest-found.ensures

pub returns-clause-read : goal.returns-clause-read
returns-clause-read g c =
    let same : length c.read_page.new.buf ≡ length c.args.self.now.buf.items = c.read_page.ensures.size ∙ ap (λ (bytes : List ℕ). length bytes) c.as_mut_slice.ensures.value in
    subst (λ (bytes : List ℕ). OnOk c.read_page.result (IfSome (newest_told (kept_of c.args.self.now) (g.D.DiskTells.told c.args.self.now.disk)) (λ pages. bytes ≡ page_at pages 1)))
    (sym (written_back c.args.self.now.buf.items c.read_page.new.buf c.args.self.now.buf.len c.args.self.now.buf.ok.0 same))
    (newest_read c.read_page.result (g.D.DiskTells.told c.args.self.now.disk) (kept_of c.args.self.now) c.requires.live.0 c.requires.live.1 c.find_newest-found.result c.read_page.new.buf c.requires.live.2.live
    c.requires.live.2.steady.named c.find_newest-found.ensures (same ∙ c.requires.live.2.able.room) c.read_page.ensures.read)

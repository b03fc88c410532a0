use Rattle.std.proofs.Common.{◌∙◌, length}
use Rattle.store.proofs.store.Store.fetch.Goals as goal
use Rattle.store.specs.Kept.{kept_of}
use Rattle.store.proofs.Fetched.{inside, page_read}

pub read_page-requires-clause-inside : goal.read_page-requires-clause-inside
read_page-requires-clause-inside g c =
    let live = c.requires.live in
    inside (g.D.DiskTells.told c.args.self.now.disk) (kept_of c.args.self.now) live.0 live.1 c.args.pin.now c.args.page (length c.args.buf.now) c.find-found.result live.2.live live.3
    c.requires.page.0 c.requires.page.1 c.requires.room c.find-found.ensures

pub returns-in-Ok-clause-page_is : goal.returns-in-Ok-clause-page_is
returns-in-Ok-clause-page_is g c =
    let live = c.requires.live in
    page_read (g.D.DiskTells.told c.args.self.now.disk) (kept_of c.args.self.now) live.0 live.1 c.args.pin.now c.args.page c.find-found.result c.read_page.new.buf live.2.live live.2.steady.named live.3
    c.requires.page.0 c.requires.page.1 c.find-found.ensures (c.read_page.ensures.size ∙ c.requires.room) (c.in-Ok.ensures.read)

use Rattle.std.proofs.Common.{true, false, length, get_or}
use Rattle.std.specs.Prelude.{is_ok}
use Rattle.engine_spec.specs.declared.commits.PageImage.{PageImage}
use Rattle.log_commit.specs.Commit.{no_image}
use Rattle.log_commit.specs.Pages.{images_of}
use Rattle.log_commit.proofs.Same.{same_more, same_sealed}
use Rattle.log_commit.proofs.Steps.{goes_more, goes_sealed, ends_synced}
use Rattle.log_commit.proofs.Appending.{appended_again, commits_all, last_fails_all, front_fails}
use Rattle.log_commit.proofs.commit.write_commit.Goals as goal

pub returns-in-Ok-append_page-clause-writes : goal.returns-in-Ok-append_page-clause-writes
returns-in-Ok-append_page-clause-writes g c =
    let a = c.in-Ok.ensures in
    commits_all (is_ok c.seal.result) c.args.pair.now c.append_pages.new.pair c.append_page.new.pair c.seal.new.self c.args.pages.now c.args.size
    (g.D.DiskTells.told c.args.disk.now) (g.D.DiskTells.told c.append_pages.new.disk) (g.D.DiskTells.told c.append_page.new.disk) (g.D.DiskTells.told c.seal.new.disk)
    c.requires.size a.becomes a.counted a.appended c.in-Ok-append_page.ensures.appends c.seal.ensures.seals

pub returns-in-Ok-append_page-clause-steps : goal.returns-in-Ok-append_page-clause-steps
returns-in-Ok-append_page-clause-steps g c =
    let a = c.in-Ok.ensures in
    let e = c.in-Ok-append_page.ensures in
    let last : PageImage = get_or (images_of c.args.pages.now) (length c.args.pages.now.order.now) no_image in
    let old = g.D.DiskTells.told c.args.disk.now in
    let mid = g.D.DiskTells.told c.append_pages.new.disk in
    let near = g.D.DiskTells.told c.append_page.new.disk in
    let again = appended_again c.args.pair.now c.append_pages.new.pair c.append_page.new.pair e.appends.0 a.becomes e.appends.1.becomes in
    goes_sealed (is_ok c.seal.result) c.args.pair.now c.append_page.new.pair c.seal.new.self old near (g.D.DiskTells.told c.seal.new.disk) again
    (goes_more true c.args.pair.now c.append_pages.new.pair c.append_page.new.pair last c.args.size old mid near a.becomes a.steps e.appends) c.seal.ensures.seals

pub returns-in-Ok-append_page-clause-elsewhere : goal.returns-in-Ok-append_page-clause-elsewhere
returns-in-Ok-append_page-clause-elsewhere g c =
    let a = c.in-Ok.ensures in
    let e = c.in-Ok-append_page.ensures in
    let last : PageImage = get_or (images_of c.args.pages.now) (length c.args.pages.now.order.now) no_image in
    let old = g.D.DiskTells.told c.args.disk.now in
    let mid = g.D.DiskTells.told c.append_pages.new.disk in
    let near = g.D.DiskTells.told c.append_page.new.disk in
    let again = appended_again c.args.pair.now c.append_pages.new.pair c.append_page.new.pair e.appends.0 a.becomes e.appends.1.becomes in
    same_sealed (is_ok c.seal.result) c.args.pair.now c.append_page.new.pair c.seal.new.self old near (g.D.DiskTells.told c.seal.new.disk) again
    (same_more true c.args.pair.now c.append_pages.new.pair c.append_page.new.pair last c.args.size old mid near a.becomes a.elsewhere e.appends) c.seal.ensures.seals

pub returns-in-Err-append_page-clause-writes : goal.returns-in-Err-append_page-clause-writes
returns-in-Err-append_page-clause-writes g c =
    let a = c.in-Ok.ensures in
    last_fails_all c.args.pair.now c.append_pages.new.pair c.append_page.new.pair c.args.pages.now c.args.size (g.D.DiskTells.told c.args.disk.now)
    (g.D.DiskTells.told c.append_pages.new.disk) (g.D.DiskTells.told c.append_page.new.disk) c.requires.size a.becomes a.appended c.in-Err-append_page.ensures.appends

pub returns-in-Err-append_page-clause-steps : goal.returns-in-Err-append_page-clause-steps
returns-in-Err-append_page-clause-steps g c =
    let a = c.in-Ok.ensures in
    goes_more false c.args.pair.now c.append_pages.new.pair c.append_page.new.pair (get_or (images_of c.args.pages.now) (length c.args.pages.now.order.now) no_image) c.args.size
    (g.D.DiskTells.told c.args.disk.now) (g.D.DiskTells.told c.append_pages.new.disk) (g.D.DiskTells.told c.append_page.new.disk) a.becomes a.steps c.in-Err-append_page.ensures.appends

pub returns-in-Err-append_page-clause-elsewhere : goal.returns-in-Err-append_page-clause-elsewhere
returns-in-Err-append_page-clause-elsewhere g c =
    let a = c.in-Ok.ensures in
    same_more false c.args.pair.now c.append_pages.new.pair c.append_page.new.pair (get_or (images_of c.args.pages.now) (length c.args.pages.now.order.now) no_image) c.args.size
    (g.D.DiskTells.told c.args.disk.now) (g.D.DiskTells.told c.append_pages.new.disk) (g.D.DiskTells.told c.append_page.new.disk) a.becomes a.elsewhere c.in-Err-append_page.ensures.appends

pub returns-in-Err-clause-writes : goal.returns-in-Err-clause-writes
returns-in-Err-clause-writes g c =
    front_fails c.args.pair.now c.append_pages.new.pair _ c.args.size (g.D.DiskTells.told c.args.disk.now) (g.D.DiskTells.told c.append_pages.new.disk)
    c.in-Err.ensures.becomes c.in-Err.ensures.fails

pub returns-in-Ok-append_page-clause-synced : goal.returns-in-Ok-append_page-clause-synced
returns-in-Ok-append_page-clause-synced g c =
    let a = c.in-Ok.ensures in
    let e = c.in-Ok-append_page.ensures in
    let last : PageImage = get_or (images_of c.args.pages.now) (length c.args.pages.now.order.now) no_image in
    let old = g.D.DiskTells.told c.args.disk.now in
    let mid = g.D.DiskTells.told c.append_pages.new.disk in
    let near = g.D.DiskTells.told c.append_page.new.disk in
    let again = appended_again c.args.pair.now c.append_pages.new.pair c.append_page.new.pair e.appends.0 a.becomes e.appends.1.becomes in
    ends_synced c.seal.result c.args.pair.now c.append_page.new.pair c.seal.new.self old near (g.D.DiskTells.told c.seal.new.disk) again
    (goes_more true c.args.pair.now c.append_pages.new.pair c.append_page.new.pair last c.args.size old mid near a.becomes a.steps e.appends) c.seal.ensures.seals

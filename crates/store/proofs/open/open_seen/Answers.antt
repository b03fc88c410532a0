use Rattle.store.specs.Kept.{kept_of}
use Rattle.store.proofs.OpenLaws.{whole_of, may_begin, live_of, newest_of, from_of, stands_of, failed_of}
use Rattle.store.proofs.open.open_seen.Goals as goal

pub returns-in-Ok-clause-whole : goal.returns-in-Ok-clause-whole
returns-in-Ok-clause-whole g c =
    let seen = c.args.seen in
    let r = c.requires in
    whole_of c.args.size seen.page_size seen.usable c.args.setup.limit (kept_of c.in-Ok.store) c.in-Ok.ensures.begins (may_begin c.args.size seen c.args.setup.limit r.whole r.some r.fits r.limit)

pub returns-in-Ok-clause-live : goal.returns-in-Ok-clause-live
returns-in-Ok-clause-live g c settle =
    let seen = c.args.seen in
    let r = c.requires in
    let e = c.in-Ok.ensures in
    let live = live_of c.args.setup.kind c.args.size c.args.setup.page_size c.args.setup.limit seen r.whole r.new_size r.counts (may_begin c.args.size seen c.args.setup.limit r.whole r.some r.fits r.limit)
    (kept_of c.in-Ok.store) e.begins _ _ r.seen r.fine settle e.moments in
    record { able = e.able; live = live.0; steady = live.1 }

pub returns-in-Ok-clause-newest : goal.returns-in-Ok-clause-newest
returns-in-Ok-clause-newest g c =
    let seen = c.args.seen in
    let r = c.requires in
    let e = c.in-Ok.ensures in
    newest_of c.args.setup.kind c.args.size c.args.setup.page_size c.args.setup.limit seen r.whole r.new_size r.counts (may_begin c.args.size seen c.args.setup.limit r.whole r.some r.fits r.limit)
    (kept_of c.in-Ok.store) e.begins _ _ r.seen r.fine e.moments

pub returns-in-Ok-clause-runs : goal.returns-in-Ok-clause-runs
returns-in-Ok-clause-runs g c first is =
    let seen = c.args.seen in
    let r = c.requires in
    let e = c.in-Ok.ensures in
    from_of c.args.setup.kind c.args.size c.args.setup.page_size c.args.setup.limit seen r.whole r.new_size r.counts (may_begin c.args.size seen c.args.setup.limit r.whole r.some r.fits r.limit)
    (kept_of c.in-Ok.store) e.begins (g.M.Means.sound first) (g.M.Means.leads first) first _ _ r.seen r.fine e.moments (λ good. g.M.Means.rests first first good) is

pub returns-in-Ok-clause-moments : goal.returns-in-Ok-clause-moments
returns-in-Ok-clause-moments g c told is may settle =
    let seen = c.args.seen in
    let r = c.requires in
    let e = c.in-Ok.ensures in
    stands_of c.args.setup.kind c.args.size c.args.setup.page_size c.args.setup.limit seen r.whole r.new_size r.counts (may_begin c.args.size seen c.args.setup.limit r.whole r.some r.fits r.limit)
    (kept_of c.in-Ok.store) e.begins told _ _ is r.seen may settle e.moments

pub returns-in-Err-clause-moments : goal.returns-in-Err-clause-moments
returns-in-Err-clause-moments g c told is may settle =
    let seen = c.args.seen in
    let r = c.requires in
    failed_of c.args.setup.kind c.args.size c.args.setup.page_size seen r.whole r.new_size r.counts told _ _ is r.seen may settle c.in-Err.ensures.moments

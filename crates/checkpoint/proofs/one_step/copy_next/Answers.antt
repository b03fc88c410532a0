use Rattle.std.proofs.Common.{List, ℕ, sym, subst, arith}
use Rattle.std.specs.Prelude.{Contains}
use Rattle.wal_frames.specs.Found.{log_file}
use Rattle.checkpoint.specs.Steps.{log_behind, pages_behind, view_behind}
use Rattle.checkpoint.proofs.Stepping.{frame_inside, has_frame, found_frame}
use Rattle.checkpoint.proofs.one_step.copy_next.Goals as goal

pub copy_page-requires-clause-inside : goal.copy_page-requires-clause-inside
copy_page-requires-clause-inside g c =
    let state = c.args.state.now in
    let view = view_behind c.args.pair.now state in
    let last = found_frame (pages_behind c.args.index.now state) c.args.page c.frames.result c.find.result c.in-Some.frame c.in-Some.is c.find.ensures in
    frame_inside (g.D.DiskTells.told c.args.disk.now) (log_file (log_behind state)) view.header view.frames c.in-Some.frame last.is.counted
    (omega (arith, last.is.there, c.requires.frames)) c.requires.inside

pub unreachable-requires : goal.unreachable-requires
unreachable-requires g c =
    has_frame (pages_behind c.args.index.now c.args.state.now) c.args.page c.frames.result c.find.result c.requires.next.there
    (omega (arith, c.requires.frames, c.frames.ensures)) c.find.ensures c.in-None.is

pub returns-in-Ok-clause-moments : goal.returns-in-Ok-clause-moments
returns-in-Ok-clause-moments g c = λ opening view h sized pages.
    c.copy_page.ensures.moments opening view h sized (subst (λ (xs : List ℕ). Contains xs c.args.page) (sym pages) c.requires.next.there)

pub returns-in-Err-clause-moments : goal.returns-in-Err-clause-moments
returns-in-Err-clause-moments g c = λ opening view h sized pages.
    c.copy_page.ensures.moments opening view h sized (subst (λ (xs : List ℕ). Contains xs c.args.page) (sym pages) c.requires.next.there)

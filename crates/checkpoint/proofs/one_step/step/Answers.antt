use Rattle.crash_spec.proofs.StoreMoments.{keeps_still}
use Rattle.checkpoint.specs.Steps.{pages_behind}
use Rattle.checkpoint.proofs.Stepping.{none_holds, some_hold, none_left, of_ok, on_err, finishes, is_step}
use Rattle.std.proofs.Common.{refl}
use Rattle.checkpoint.proofs.one_step.step.Goals as goal

pub returns-then-state-clause-moments : goal.returns-then-state-clause-moments
returns-then-state-clause-moments g c = λ opening view h sized pages. keeps_still opening view (g.D.DiskTells.told c.args.disk.now) h

pub returns-in-Err-clause-does : goal.returns-in-Err-clause-does
returns-in-Err-clause-does g c =
    let held = some_hold c.args.state.now c.args.readers.now c.may_copy.result c.in-Err.count c.in-Err.is c.may_copy.ensures in
    (c.if-state.false, held.0, held.1, refl, refl)

pub returns-in-Err-clause-logs : goal.returns-in-Err-clause-logs
returns-in-Err-clause-logs g c = λ rest history is.
    let held = some_hold c.args.state.now c.args.readers.now c.may_copy.result c.in-Err.count c.in-Err.is c.may_copy.ensures in
    (c.if-state.false, held.0, held.1, refl)

pub returns-in-Err-clause-moments : goal.returns-in-Err-clause-moments
returns-in-Err-clause-moments g c = λ opening view h sized pages. keeps_still opening view (g.D.DiskTells.told c.args.disk.now) h

pub returns-in-Some-clause-does : goal.returns-in-Some-clause-does
returns-in-Some-clause-does g c =
    c.copy_next.ensures.does c.args.readers.now (none_holds c.args.state.now c.args.readers.now c.may_copy.result _ c.in_default.is c.may_copy.ensures)

pub returns-in-Some-clause-logs : goal.returns-in-Some-clause-logs
returns-in-Some-clause-logs g c = λ rest history is.
    of_ok c.copy_next.result _ _ (is_step c.args.pair.now c.args.index.now c.args.state.now c.args.readers.now rest history c.copy_next.new.buf
    (g.D.DiskTells.told c.args.disk.now) (g.D.DiskTells.told c.copy_next.new.disk) c.copy_next.new.state is)
    (c.copy_next.ensures.does c.args.readers.now (none_holds c.args.state.now c.args.readers.now c.may_copy.result _ c.in_default.is c.may_copy.ensures))

pub returns-in-None-clause-does : goal.returns-in-None-clause-does
returns-in-None-clause-does g c =
    of_ok c.finish.result _ _ (finishes c.args.pair.now (pages_behind c.args.index.now c.args.state.now) c.args.state.now c.args.readers.now c.args.buf.now
    (g.D.DiskTells.told c.args.disk.now) (g.D.DiskTells.told c.finish.new.disk) c.finish.new.state c.if-state.false
    (none_holds c.args.state.now c.args.readers.now c.may_copy.result _ c.in_default.is c.may_copy.ensures)
    (none_left (pages_behind c.args.index.now c.args.state.now) c.args.state.now.copied c.next_page.result c.in-None.is c.next_page.ensures))
    c.finish.ensures.finished

pub returns-in-None-clause-logs : goal.returns-in-None-clause-logs
returns-in-None-clause-logs g c = λ rest history is.
    of_ok c.finish.result _ _ (λ answer does. is_step c.args.pair.now c.args.index.now c.args.state.now c.args.readers.now rest history c.args.buf.now
    (g.D.DiskTells.told c.args.disk.now) (g.D.DiskTells.told c.finish.new.disk) c.finish.new.state is answer
    (finishes c.args.pair.now (pages_behind c.args.index.now c.args.state.now) c.args.state.now c.args.readers.now c.args.buf.now
    (g.D.DiskTells.told c.args.disk.now) (g.D.DiskTells.told c.finish.new.disk) c.finish.new.state c.if-state.false
    (none_holds c.args.state.now c.args.readers.now c.may_copy.result _ c.in_default.is c.may_copy.ensures)
    (none_left (pages_behind c.args.index.now c.args.state.now) c.args.state.now.copied c.next_page.result c.in-None.is c.next_page.ensures) answer does))
    c.finish.ensures.finished

pub returns-in-None-clause-moments : goal.returns-in-None-clause-moments
returns-in-None-clause-moments g c = λ opening view h sized pages. c.finish.ensures.moments opening view h

pub returns-in-Some-clause-unheld : goal.returns-in-Some-clause-unheld
returns-in-Some-clause-unheld g c =
    on_err c.copy_next.result _ (c.if-state.false, none_holds c.args.state.now c.args.readers.now c.may_copy.result _ c.in_default.is c.may_copy.ensures)

pub returns-in-None-clause-unheld : goal.returns-in-None-clause-unheld
returns-in-None-clause-unheld g c =
    on_err c.finish.result _ (c.if-state.false, none_holds c.args.state.now c.args.readers.now c.may_copy.result _ c.in_default.is c.may_copy.ensures)

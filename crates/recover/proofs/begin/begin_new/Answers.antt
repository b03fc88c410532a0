use Rattle.std.proofs.Common.{◌≡◌, [], true, false}
use Rattle.log_spec.specs.LogHeader.{log_fields}
use Rattle.opening_spec.specs.Found.{next_log}
use Rattle.opening_spec.specs.States.{AreSynced, IsSettled}
use Rattle.recover.specs.Founding.{HasFounded}
use Rattle.recover.specs.NewPages.{new_pages}
use Rattle.recover.specs.Ready.{store_view}
use Rattle.recover.proofs.Placing.{said_still}
use Rattle.recover.proofs.Readying.{lift_opening, settling_join, resets_later, bare_then}
use Rattle.recover.proofs.begin.begin_new.Goals as goal

pub returns-in-Ok-reset_logs-clause-moments : goal.returns-in-Ok-reset_logs-clause-moments
returns-in-Ok-reset_logs-clause-moments g c view one two h sized none neither empty next1 next2 last =
    let later = new_pages c.args.kind view.size in
    let here = c.args.headers.now.here.bytes in
    let there = c.args.headers.now.there.bytes in
    let synced = lift_opening view later (λ told. AreSynced view one two told) _ _ (c.in-Ok.ensures.moments view one two h) in
    let founded = settling_join view later (λ told. AreSynced view one two told) (λ told. HasFounded view later [] (next_log one) two told) _ _ _ synced
    (c.in-Ok-found_new.ensures.moments view one two (bare_then view one two _ none neither synced.holds) next1 neither sized (said_still (λ files. files.main ≡ []) _ _ c.in-Ok.ensures.reads empty)) in
    settling_join view later (λ told. HasFounded view later [] (next_log one) two told) (λ told. IsSettled (store_view view later) (log_fields there) (log_fields here) told) _ _ _ founded
    (resets_later true view later [] here there (next_log one) two _ _ (λ view one two h own next2 next1. c.in-Ok-reset_logs.ensures.moments view one two h own next2 next1) founded.holds next2 last)

pub returns-in-Err-reset_logs-clause-moments : goal.returns-in-Err-reset_logs-clause-moments
returns-in-Err-reset_logs-clause-moments g c view one two h sized none neither empty next1 next2 last =
    let later = new_pages c.args.kind view.size in
    let here = c.args.headers.now.here.bytes in
    let there = c.args.headers.now.there.bytes in
    let synced = lift_opening view later (λ told. AreSynced view one two told) _ _ (c.in-Ok.ensures.moments view one two h) in
    let founded = settling_join view later (λ told. AreSynced view one two told) (λ told. HasFounded view later [] (next_log one) two told) _ _ _ synced
    (c.in-Ok-found_new.ensures.moments view one two (bare_then view one two _ none neither synced.holds) next1 neither sized (said_still (λ files. files.main ≡ []) _ _ c.in-Ok.ensures.reads empty)) in
    settling_join view later (λ told. HasFounded view later [] (next_log one) two told) (λ told. Unit {0}) _ _ _ founded
    (resets_later false view later [] here there (next_log one) two _ _ (λ view one two h own next2 next1. c.in-Err-reset_logs.ensures.moments view one two h own next2 next1) founded.holds next2 last)

pub returns-in-Err-found_new-clause-moments : goal.returns-in-Err-found_new-clause-moments
returns-in-Err-found_new-clause-moments g c view one two h sized none neither empty next1 next2 last =
    let later = new_pages c.args.kind view.size in
    let synced = lift_opening view later (λ told. AreSynced view one two told) _ _ (c.in-Ok.ensures.moments view one two h) in
    settling_join view later (λ told. AreSynced view one two told) (λ told. Unit {0}) _ _ _ synced
    (c.in-Err-found_new.ensures.moments view one two (bare_then view one two _ none neither synced.holds) next1 neither sized (said_still (λ files. files.main ≡ []) _ _ c.in-Ok.ensures.reads empty))

pub returns-in-Err-clause-moments : goal.returns-in-Err-clause-moments
returns-in-Err-clause-moments g c view one two h sized none neither empty next1 next2 last =
    lift_opening view (new_pages c.args.kind view.size) (λ told. Unit {0}) _ _ (c.in-Err.ensures.moments view one two h)

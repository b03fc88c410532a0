use Rattle.std.proofs.Common.{◌≡◌, ◌+◌, ◌*◌, ◌≤◌, ℕ, [], length, None, true, false, sym, ◌∙◌, subst}
use Rattle.disk_face.specs.declared.disk.File.TheVariants.{Main, Log1}
use Rattle.disk_face.specs.Told.{IsInside}
use Rattle.log_spec.specs.LogHeader.{log_fields}
use Rattle.opening_spec.specs.Found.{next_log}
use Rattle.opening_spec.specs.States.{AreSynced, IsResetting, IsSettled, LeavesMap}
use Rattle.recover.specs.Founding.{HasMigrated}
use Rattle.recover.specs.NewPages.{migrated}
use Rattle.recover.specs.Places.{AreSeen}
use Rattle.recover.specs.Ready.{store_view}
use Rattle.recover.proofs.Placing.{said_still, said_only, said_same}
use Rattle.recover.proofs.Readying.{lift_opening, settling_join, first_found, log1_resets, map_not, said_on, counted_now, some_now, both_known, whole_first, resets_migrated}
use Rattle.recover.proofs.begin.begin_migrated.Goals as goal

pub returns-in-Ok-reset_logs-clause-moments : goal.returns-in-Ok-reset_logs-clause-moments
returns-in-Ok-reset_logs-clause-moments g c view one two h sized none none1 seen next1 next2 last =
    let later = migrated view.map in
    let places = c.args.places.now in
    let opened = c.in-Ok.ensures.moments view one two h in
    let same = c.in-Ok.ensures.reads in
    let synced = lift_opening view later (λ told. AreSynced view one two told) _ _ opened in
    let first = first_found one two (g.D.DiskTells.told c.sync_logs.new.disk) in
    let bare : c.args.some_frames ≡ false → (one.frames ≡ []) × (two.frames ≡ []) = λ no. (none1 no, none) in
    let seen' = said_still (λ files. AreSeen view one two places files) _ _ same seen in
    let down = c.in-Ok-lay_down.ensures.moments view one two first.0 opened.holds sized bare (λ yes. seen') first.1 first.2 in
    let laid = settling_join view later (λ told. AreSynced view one two told) (λ told. IsResetting view Log1 one two None told) _ _ _ synced (log1_resets view later first.0 one two _ _ none down) in
    let n : ℕ = length places in
    let size : ℕ = length c.args.buf.now in
    let reached = c.in-Ok-lay_down.ensures.reached (λ no. said_still (λ files. n * size + 0 ≤ length files.main) _ _ same (c.requires.whole no)) in
    let known = both_known view n size c.max-size.result _ sized c.max-size.ensures (said_on (length view.map ≡ n) view.opening (LeavesMap view) (λ told. IsResetting view first.0 one two None told) _ _ down (counted_now view one two places _ seen'))
    (said_on (1 ≤ length view.map) view.opening (LeavesMap view) (λ told. IsResetting view first.0 one two None told) _ _ down (some_now view one two places _ seen')) reached in
    let here = c.args.headers.now.here.bytes in
    let there = c.args.headers.now.there.bytes in
    let founded = settling_join view later (λ told. IsResetting view Log1 one two None told) (λ told. HasMigrated view (next_log one) two told) _ _ _ laid
    (c.in-Ok-found_migrated.ensures.moments view one two laid.holds next1 none (c.lay_down.auto.buf ∙ sized) known) in
    settling_join view later (λ told. HasMigrated view (next_log one) two told) (λ told. IsSettled (store_view view later) (log_fields there) (log_fields here) told) _ _ _ founded
    (resets_migrated true view here there (next_log one) two _ _ (λ view one two h own next2 next1. c.in-Ok-reset_logs.ensures.moments view one two h own next2 next1) founded.holds next2 last)

pub returns-in-Err-reset_logs-clause-moments : goal.returns-in-Err-reset_logs-clause-moments
returns-in-Err-reset_logs-clause-moments g c view one two h sized none none1 seen next1 next2 last =
    let later = migrated view.map in
    let places = c.args.places.now in
    let opened = c.in-Ok.ensures.moments view one two h in
    let same = c.in-Ok.ensures.reads in
    let synced = lift_opening view later (λ told. AreSynced view one two told) _ _ opened in
    let first = first_found one two (g.D.DiskTells.told c.sync_logs.new.disk) in
    let bare : c.args.some_frames ≡ false → (one.frames ≡ []) × (two.frames ≡ []) = λ no. (none1 no, none) in
    let seen' = said_still (λ files. AreSeen view one two places files) _ _ same seen in
    let down = c.in-Ok-lay_down.ensures.moments view one two first.0 opened.holds sized bare (λ yes. seen') first.1 first.2 in
    let laid = settling_join view later (λ told. AreSynced view one two told) (λ told. IsResetting view Log1 one two None told) _ _ _ synced (log1_resets view later first.0 one two _ _ none down) in
    let n : ℕ = length places in
    let size : ℕ = length c.args.buf.now in
    let reached = c.in-Ok-lay_down.ensures.reached (λ no. said_still (λ files. n * size + 0 ≤ length files.main) _ _ same (c.requires.whole no)) in
    let known = both_known view n size c.max-size.result _ sized c.max-size.ensures (said_on (length view.map ≡ n) view.opening (LeavesMap view) (λ told. IsResetting view first.0 one two None told) _ _ down (counted_now view one two places _ seen'))
    (said_on (1 ≤ length view.map) view.opening (LeavesMap view) (λ told. IsResetting view first.0 one two None told) _ _ down (some_now view one two places _ seen')) reached in
    let here = c.args.headers.now.here.bytes in
    let there = c.args.headers.now.there.bytes in
    let founded = settling_join view later (λ told. IsResetting view Log1 one two None told) (λ told. HasMigrated view (next_log one) two told) _ _ _ laid
    (c.in-Ok-found_migrated.ensures.moments view one two laid.holds next1 none (c.lay_down.auto.buf ∙ sized) known) in
    settling_join view later (λ told. HasMigrated view (next_log one) two told) (λ told. Unit {0}) _ _ _ founded
    (resets_migrated false view here there (next_log one) two _ _ (λ view one two h own next2 next1. c.in-Err-reset_logs.ensures.moments view one two h own next2 next1) founded.holds next2 last)

pub returns-in-Err-found_migrated-clause-moments : goal.returns-in-Err-found_migrated-clause-moments
returns-in-Err-found_migrated-clause-moments g c view one two h sized none none1 seen next1 next2 last =
    let later = migrated view.map in
    let places = c.args.places.now in
    let opened = c.in-Ok.ensures.moments view one two h in
    let same = c.in-Ok.ensures.reads in
    let synced = lift_opening view later (λ told. AreSynced view one two told) _ _ opened in
    let first = first_found one two (g.D.DiskTells.told c.sync_logs.new.disk) in
    let bare : c.args.some_frames ≡ false → (one.frames ≡ []) × (two.frames ≡ []) = λ no. (none1 no, none) in
    let seen' = said_still (λ files. AreSeen view one two places files) _ _ same seen in
    let down = c.in-Ok-lay_down.ensures.moments view one two first.0 opened.holds sized bare (λ yes. seen') first.1 first.2 in
    let laid = settling_join view later (λ told. AreSynced view one two told) (λ told. IsResetting view Log1 one two None told) _ _ _ synced (log1_resets view later first.0 one two _ _ none down) in
    let n : ℕ = length places in
    let size : ℕ = length c.args.buf.now in
    let reached = c.in-Ok-lay_down.ensures.reached (λ no. said_still (λ files. n * size + 0 ≤ length files.main) _ _ same (c.requires.whole no)) in
    let known = both_known view n size c.max-size.result _ sized c.max-size.ensures (said_on (length view.map ≡ n) view.opening (LeavesMap view) (λ told. IsResetting view first.0 one two None told) _ _ down (counted_now view one two places _ seen'))
    (said_on (1 ≤ length view.map) view.opening (LeavesMap view) (λ told. IsResetting view first.0 one two None told) _ _ down (some_now view one two places _ seen')) reached in
    settling_join view later (λ told. IsResetting view Log1 one two None told) (λ told. Unit {0}) _ _ _ laid
    (c.in-Err-found_migrated.ensures.moments view one two laid.holds next1 none (c.lay_down.auto.buf ∙ sized) known)

pub returns-in-Err-lay_down-clause-moments : goal.returns-in-Err-lay_down-clause-moments
returns-in-Err-lay_down-clause-moments g c view one two h sized none none1 seen next1 next2 last =
    let later = migrated view.map in
    let places = c.args.places.now in
    let opened = c.in-Ok.ensures.moments view one two h in
    let same = c.in-Ok.ensures.reads in
    let synced = lift_opening view later (λ told. AreSynced view one two told) _ _ opened in
    let first = first_found one two (g.D.DiskTells.told c.sync_logs.new.disk) in
    let bare : c.args.some_frames ≡ false → (one.frames ≡ []) × (two.frames ≡ []) = λ no. (none1 no, none) in
    let seen' = said_still (λ files. AreSeen view one two places files) _ _ same seen in
    settling_join view later (λ told. AreSynced view one two told) (λ told. Unit {0}) _ _ _ synced
    (map_not view later (λ told. AreSynced view one two told) _ _ (c.in-Err-lay_down.ensures.moments view one two first.0 opened.holds sized bare (λ yes. seen') first.1 first.2))

pub returns-in-Err-clause-moments : goal.returns-in-Err-clause-moments
returns-in-Err-clause-moments g c view one two h sized none none1 seen next1 next2 last =
    lift_opening view (migrated view.map) (λ told. Unit {0}) _ _ (c.in-Err.ensures.moments view one two h)

pub found_migrated-requires-clause-whole : goal.found_migrated-requires-clause-whole
found_migrated-requires-clause-whole g c =
    let n : ℕ = length c.args.places.now in
    let size : ℕ = length c.args.buf.now in
    let same = c.in-Ok.ensures.reads in
    subst (λ (k : ℕ). IsInside (g.D.DiskTells.told c.lay_down.new.disk) Main 0 k) (sym c.lay_down.auto.buf)
    (whole_first n size _ (said_only (1 ≤ n) _ _ c.in-Ok-lay_down.ensures.only (said_same (1 ≤ n) _ _ same c.requires.some))
    (c.in-Ok-lay_down.ensures.reached (λ no. said_still (λ files. n * size + 0 ≤ length files.main) _ _ same (c.requires.whole no))))

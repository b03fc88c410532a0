use Rattle.std.proofs.Common.{◌≡◌, ◌≤◌, List, ◌++◌, sym, subst, length, All, true, false}
use Rattle.store.proofs.store.Store.finish.Goals as goal
use Rattle.engine_spec.specs.declared.commits.PageImage.{PageImage}
use Rattle.laying.specs.Order.{images_of}
use Rattle.log_pair.specs.Pair.{next_place}
use Rattle.store_spec.specs.Steps.{HasWritten, stopped}
use Rattle.store.specs.Kept.{kept_of}
use Rattle.store.specs.Committing.{kept_stop}
use Rattle.store.proofs.Finishing.{finish_stopped}
use Rattle.store.proofs.Finished.{current_now, finished}
use Rattle.store.proofs.Fitting.{reached, frames_fit, images_fit, wrote_count, wrote_numbered, indexed_now, enter_fits, room_now}
use Rattle.store.proofs.Readying.{none_kept}

pub write_frames-requires-clause-whole : goal.write_frames-requires-clause-whole
write_frames-requires-clause-whole g c =
    let (before, readers, pins, pin, live, steady, there, ready, fit, clear, first) = c.requires.live in
    (ready.live pins live steady).whole

pub write_frames-requires-clause-reached : goal.write_frames-requires-clause-reached
write_frames-requires-clause-reached g c =
    let (before, readers, pins, pin, live, steady, there, ready, fit, clear, first) = c.requires.live in
    reached (g.D.DiskTells.told c.args.self.now.disk) (kept_of c.args.self.now) (ready.live pins live steady).whole (ready.live pins live steady).readable
    (none_kept c.args.self.now.page_size c.args.self.now.spare c.args.self.now.stop ready.running)

pub write_frames-requires-clause-fits : goal.write_frames-requires-clause-fits
write_frames-requires-clause-fits g c =
    let (before, readers, pins, pin, live, steady, there, ready, fit, clear, first) = c.requires.live in
    frames_fit before (kept_of c.args.self.now) readers (g.D.DiskTells.told c.args.self.now.disk) c.args.prepared c.args.who (length c.args.plan.order.items) ready.readied (ready.live pins live steady).whole clear
    c.requires.plan.fewer

pub write_frames-requires-clause-images : goal.write_frames-requires-clause-images
write_frames-requires-clause-images g c =
    let (before, readers, pins, pin, live, steady, there, ready, fit, clear, first) = c.requires.live in
    subst (All (λ image. (1 ≤ image.page) × (length image.bytes ≡ c.args.self.now.page_size))) (sym c.as_slice.ensures)
    (images_fit before readers pin c.args.prepared c.args.self.now.page_size fit ready.readied.page_size)

pub enter-requires-clause-indexed : goal.enter-requires-clause-indexed
enter-requires-clause-indexed g c =
    let (before, readers, pins, pin, live, steady, there, ready, fit, clear, first) = c.requires.live in
    indexed_now c.args.self.now c.write_frames.new.self (ready.live pins live steady).whole c.in-Ok.ensures.becomes
    (current_now c.args.self.now c.write_frames.new.self (images_of c.args.self.now.buf.items c.as_slice.result.now c.args.plan.order.items) (g.D.DiskTells.told c.args.self.now.disk) (g.D.DiskTells.told c.write_frames.new.self.disk) c.in-Ok.ensures.written)

pub enter-requires-clause-numbered : goal.enter-requires-clause-numbered
enter-requires-clause-numbered g c =
    let (before, readers, pins, pin, live, steady, there, ready, fit, clear, first) = c.requires.live in
    wrote_numbered c.args.prepared.changed c.args.plan c.requires.plan (λ k d within. (fit.in_range k d within).0)

pub enter-requires-clause-fits : goal.enter-requires-clause-fits
enter-requires-clause-fits g c =
    let (before, readers, pins, pin, live, steady, there, ready, fit, clear, first) = c.requires.live in
    enter_fits c.args.self.now c.write_frames.new.self (ready.live pins live steady).whole c.in-Ok.ensures.becomes
    (current_now c.args.self.now c.write_frames.new.self (images_of c.args.self.now.buf.items c.as_slice.result.now c.args.plan.order.items) (g.D.DiskTells.told c.args.self.now.disk) (g.D.DiskTells.told c.write_frames.new.self.disk) c.in-Ok.ensures.written)
    (length c.args.plan.order.items) (length c.args.plan.wrote)
    (frames_fit before (kept_of c.args.self.now) readers (g.D.DiskTells.told c.args.self.now.disk) c.args.prepared c.args.who (length c.args.plan.order.items) ready.readied (ready.live pins live steady).whole clear
    c.requires.plan.fewer) (wrote_count c.args.prepared.changed c.args.plan c.requires.plan)

pub enter-requires-clause-room : goal.enter-requires-clause-room
enter-requires-clause-room g c =
    let (before, readers, pins, pin, live, steady, there, ready, fit, clear, first) = c.requires.live in
    room_now c.args.self.now c.write_frames.new.self (ready.live pins live steady).whole c.in-Ok.ensures.becomes
    (current_now c.args.self.now c.write_frames.new.self (images_of c.args.self.now.buf.items c.as_slice.result.now c.args.plan.order.items) (g.D.DiskTells.told c.args.self.now.disk) (g.D.DiskTells.told c.write_frames.new.self.disk) c.in-Ok.ensures.written)
    (length c.args.plan.order.items) (length c.args.plan.wrote) (wrote_count c.args.prepared.changed c.args.plan c.requires.plan) c.requires.room

pub returns-in-Ok : goal.returns-in-Ok
returns-in-Ok g c before readers pins pin live steady there ready fit clear first =
    finished g.D.DiskTells g.W.Salts.loans g.M.Means readers before c.args.self.now c.write_frames.new.self c.enter.new.self pins pin c.args.plan c.args.prepared c.args.who live steady there ready fit clear
    c.requires.plan first c.in-Ok.ensures.legal
    (subst (λ (images : List PageImage). HasWritten (kept_of c.args.self.now) true (images_of c.args.self.now.buf.items images c.args.plan.order.items) c.write_frames.new.self.pair
    (g.D.DiskTells.told c.args.self.now.disk) (g.D.DiskTells.told c.write_frames.new.self.disk)) c.as_slice.ensures c.in-Ok.ensures.written)
    c.in-Ok.ensures.becomes c.enter.ensures.same c.enter.result c.enter.ensures.number c.enter.ensures.indexed c.enter.ensures.history c.in-Ok.ensures.faults c.in-Ok.ensures.able c.in-Ok.ensures.stays c.in-Ok.ensures.salts

pub returns-in-Err : goal.returns-in-Err
returns-in-Err g c before readers pins pin live steady there ready fit clear first =
    finish_stopped g.D.DiskTells g.W.Salts.loans g.M.Means readers before c.args.self.now c.write_frames.new.self pins pin c.args.plan c.args.prepared c.args.who live steady there ready fit clear
    c.requires.plan first c.in-Err.ensures.legal
    (subst (λ (images : List PageImage). HasWritten (kept_of c.args.self.now) false (images_of c.args.self.now.buf.items images c.args.plan.order.items) c.write_frames.new.self.pair
    (g.D.DiskTells.told c.args.self.now.disk) (g.D.DiskTells.told c.write_frames.new.self.disk)) c.as_slice.ensures c.in-Err.ensures.written)
    (subst (λ (images : List PageImage). kept_of c.write_frames.new.self ≡ stopped (kept_of c.args.self.now) c.write_frames.new.self.pair
    (kept_stop c.args.self.now.pair.current (next_place c.args.self.now.pair) c.args.self.now.size (images_of c.args.self.now.buf.items images c.args.plan.order.items))) c.as_slice.ensures c.in-Err.ensures.stops)
    c.in-Err.ensures.faults c.in-Err.ensures.able
    (λ i. c.in-Err.ensures.stays.loans i ++ g.W.Salts.loans (c.in-Err.ensures.salts i))

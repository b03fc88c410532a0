use Rattle.std.proofs.Common.{[], arith, ◌<◌, length}
use Rattle.acts.proofs.Endings.{ends_from, live_from, stays_from}
use Rattle.acts.proofs.pagers.end_all.Goals as goal

pub end-requires : goal.end-requires
end-requires g c = record {
  live = live_from g.E.EngineTells.live c.loop-seat.engine c.args.seats.now c.loop-seat.seat-index c.seat-item.result c.requires.live.0
      (omega arith) c.seat-item.is (c.loop-seat.invariant.stays.holds [] c.requires.live.0 c.requires.live.1);
}

pub loop-seat-preserved : goal.loop-seat-preserved
loop-seat-preserved g c =
    let within : c.loop-seat.seat-index < length c.args.seats.now = omega arith in
    record {
      ends = λ new rest. c.loop-seat.invariant.ends new
          (ends_from c.args.seats.now c.loop-seat.seat-index c.seat-item.result _ _ new within c.seat-item.is c.end.ensures.ends rest);
      stays = stays_from g.E.EngineTells
          _ _ _ _ c.args.seats.now c.loop-seat.seat-index c.seat-item.result within c.seat-item.is c.loop-seat.invariant.stays c.end.ensures.stays;
    }

use Rattle.std.proofs.Common.{arith, length-drop}
use Rattle.wal_frames.specs.Front.{words_of}
use Rattle.wal_frames.proofs.FrameParts.{SummedFrame, rest_is, page_size_whole, summed_of, valid_from_head}
use Rattle.wal_frames.proofs.scan.tell_frame.Goals as goal

pub sum_step-after-requires : goal.sum_step-after-requires
sum_step-after-requires c =
    rw (rest_is 24 c.args.frame.now) (omega (arith, length-drop 24 c.args.frame.now, c.requires.whole, page_size_whole c.args.header.now.page_size c.requires.legal))

pub returns-then-fits_head : goal.returns-then-fits_head
returns-then-fits_head c =
    let frame = c.args.frame.now in
    let header = c.args.header.now in
    let sum = words_of c.args.sum in
    let middle = words_of c.sum_step-front_sum.result in
    let after = words_of c.sum_step-after.result in
    let summed : SummedFrame frame header sum middle after = record {
      long = c.requires.whole;
      head_summed = c.sum_step-front_sum.ensures;
      page_summed = rw (rest_is 24 c.args.frame.now) at c.sum_step-after.ensures;
    } in
    record {
      valid = valid_from_head frame header sum middle after summed (c.fits_head.ensures.0 c.if-fits_head.true);
      page = c.get_u32.ensures;
      size = c.get_u32-then-fits_head.ensures;
      summed = summed_of frame header sum middle after summed;
    }

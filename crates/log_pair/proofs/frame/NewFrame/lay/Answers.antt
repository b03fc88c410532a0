use Rattle.std.proofs.Common.{◌-◌, ap, arith, length, List, ℕ}
use borrow.Rule.Slice.PartMut.{put_mid}
use Rattle.wal_frames.proofs.FrameParts.{page_size_whole}
use Rattle.log_pair.proofs.FrameLaid.{laid, laid_sum}
use Rattle.log_pair.proofs.frame.NewFrame.lay.Goals as goal

pub sum_step-after-requires : goal.sum_step-after-requires
sum_step-after-requires c = omega (arith, page_size_whole c.args.self.now.header.page_size c.requires.legal, c.requires.bytes)

pub returns-clause-frame : goal.returns-clause-frame
returns-clause-frame c =
    laid _ _ _ _ _ c.args.frame.now _ _ _ _ _ _ _ _ _
    (ap (λ (xs : List ℕ). put_mid 24 (length c.args.frame.now - 24) c.args.frame.now xs) c.copy_from_slice.ensures.after)
    c.requires.room c.requires.page c.requires.bytes
    c.put_u32.ensures.others c.put_u32.ensures.value c.put_u32-2.ensures.others c.put_u32-2.ensures.value
    c.put_u32-3.ensures.others c.put_u32-3.ensures.value c.put_u32-4.ensures.others c.put_u32-4.ensures.value
    c.sum_step-front_sum.ensures c.sum_step-after.ensures
    c.put_u32-5.ensures.others c.put_u32-5.ensures.value c.put_u32-6.ensures.others c.put_u32-6.ensures.value

pub returns-clause-sum : goal.returns-clause-sum
returns-clause-sum c =
    laid_sum c.args.self.now.header _ c.args.self.now.page c.args.self.now.size _ c.args.frame.now _ _ _ _ _ _ _ _ _
    (ap (λ (xs : List ℕ). put_mid 24 (length c.args.frame.now - 24) c.args.frame.now xs) c.copy_from_slice.ensures.after)
    c.requires.room c.requires.page c.requires.bytes
    c.put_u32.ensures.others c.put_u32.ensures.value c.put_u32-2.ensures.others c.put_u32-2.ensures.value
    c.put_u32-3.ensures.others c.put_u32-3.ensures.value c.put_u32-4.ensures.others c.put_u32-4.ensures.value
    c.sum_step-front_sum.ensures c.sum_step-after.ensures
    c.put_u32-5.ensures.others c.put_u32-5.ensures.value c.put_u32-6.ensures.others c.put_u32-6.ensures.value

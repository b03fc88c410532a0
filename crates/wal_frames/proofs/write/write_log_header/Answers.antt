use Rattle.std.proofs.Common.{◌∙◌, arith}
use Rattle.page_spec.proofs.BytesLaws.{u32_at-below, take-below, differs-trans}
use Rattle.wal_frames.proofs.Written.{Written, signed_written, told_written, ours_written}
use Rattle.wal_frames.proofs.write.write_log_header.Goals as goal

pub returns : goal.returns
returns c =
    let after_7 = c.put_u32-8.ensures.others in
    let after_6 = differs-trans c.put_u32-7.ensures.others after_7 24 32 (omega arith) (omega arith) (omega arith) (omega arith) in
    let after_5 = differs-trans c.put_u32-6.ensures.others after_6 20 32 (omega arith) (omega arith) (omega arith) (omega arith) in
    let after_4 = differs-trans c.put_u32-5.ensures.others after_5 16 32 (omega arith) (omega arith) (omega arith) (omega arith) in
    let after_3 = differs-trans c.put_u32-4.ensures.others after_4 12 32 (omega arith) (omega arith) (omega arith) (omega arith) in
    let after_2 = differs-trans c.put_u32-3.ensures.others after_3 8 32 (omega arith) (omega arith) (omega arith) (omega arith) in
    let after_1 = differs-trans c.put_u32-2.ensures.others after_2 4 32 (omega arith) (omega arith) (omega arith) (omega arith) in
    let written : Written c.put_u32-8.new.to c.args.header.now =
    record {
      long = omega (arith, after_1.same_length);
      magic = u32_at-below after_1 0 (omega arith) ∙ c.put_u32.ensures.value ∙ c.magic_of.ensures;
      version = u32_at-below after_2 4 (omega arith) ∙ c.put_u32-2.ensures.value;
      page_size = u32_at-below after_3 8 (omega arith) ∙ c.put_u32-3.ensures.value;
      generation = u32_at-below after_4 12 (omega arith) ∙ c.put_u32-4.ensures.value;
      salt1 = u32_at-below after_5 16 (omega arith) ∙ c.put_u32-5.ensures.value;
      salt2 = u32_at-below after_6 20 (omega arith) ∙ c.put_u32-6.ensures.value;
      summed =
          rw (u32_at-below after_7 24 (omega arith), c.put_u32-7.ensures.value, c.put_u32-8.ensures.value, take-below after_6 24 (omega arith))
          c.sum_step-sum.ensures;
    } in
    record {
      signed = signed_written c.put_u32-8.new.to c.args.header.now written;
      told = told_written c.put_u32-8.new.to c.args.header.now written;
      ours = ours_written c.put_u32-8.new.to c.args.header.now written;
    }

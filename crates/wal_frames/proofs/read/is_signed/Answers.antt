use Rattle.std.proofs.Common.{◌==◌, refl, arith}
use Rattle.wal_frames.specs.Front.{words_of}
use Rattle.wal_frames.proofs.Fronts.{short_is_unsigned, other_is_unsigned, signed_then, signed_else, magic_either}
use Rattle.wal_frames.proofs.read.is_signed.Goals as goal

pub returns-then-bytes-lt-HEADER_SIZE-clause-value : goal.returns-then-bytes-lt-HEADER_SIZE-clause-value
returns-then-bytes-lt-HEADER_SIZE-clause-value c = short_is_unsigned c.args.bytes.now (omega arith)

pub returns-then-magic-ne-LITTLE_MAGIC-clause-value : goal.returns-then-magic-ne-LITTLE_MAGIC-clause-value
returns-then-magic-ne-LITTLE_MAGIC-clause-value c =
    other_is_unsigned c.args.bytes.now (λ same. omega arith) (λ same. omega arith)

pub returns-then-get_u32-sum-clause-value : goal.returns-then-get_u32-sum-clause-value
returns-then-get_u32-sum-clause-value c =
    let magic = magic_either c.args.bytes.now c.get_u32-magic.result c.get_u32-magic.ensures c.else-magic-ne-BIG_MAGIC.either in
    signed_then c.args.bytes.now (c.get_u32-magic.result == 0x377f_0683) (words_of c.sum_step-sum.result) c.get_u32.result c.get_u32-then-get_u32-sum.result
    (omega arith) magic (rw c.get_u32-magic.ensures refl) c.sum_step-sum.ensures c.get_u32.ensures c.get_u32-then-get_u32-sum.ensures c.if-get_u32-sum.true

pub returns-else-get_u32-sum-clause-value : goal.returns-else-get_u32-sum-clause-value
returns-else-get_u32-sum-clause-value c =
    let magic = magic_either c.args.bytes.now c.get_u32-magic.result c.get_u32-magic.ensures c.else-magic-ne-BIG_MAGIC.either in
    signed_else c.args.bytes.now (c.get_u32-magic.result == 0x377f_0683) (words_of c.sum_step-sum.result) c.get_u32.result
    (omega arith) magic (rw c.get_u32-magic.ensures refl) c.sum_step-sum.ensures c.get_u32.ensures c.if-get_u32-sum.false

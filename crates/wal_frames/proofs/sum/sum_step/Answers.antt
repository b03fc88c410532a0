use Rattle.std.proofs.Common.{◌≡◌, ◌/◌, length, sym, ◌∙◌, arith, refl}
use Rattle.log_spec.proofs.ChecksumLaws.{sum_of_pairs-none, checksum-is}
use Rattle.wal_frames.proofs.Fronts.{pair_added}
use Rattle.wal_frames.specs.Front.{words_of}
use Rattle.wal_frames.proofs.sum.sum_step.Goals as goal

pub loop-pair-init : goal.loop-pair-init
loop-pair-init c = sym (sum_of_pairs-none c.args.big (words_of c.args.sum) c.args.bytes.now)

pub loop-pair-preserved : goal.loop-pair-preserved
loop-pair-preserved c =
    pair_added c.args.big (words_of c.args.sum) c.args.bytes.now c.loop-pair.pair c.loop-pair.s0 c.loop-pair.s1 c.word_at.result c.word_at-in-loop-pair.result
    c.loop-pair.invariant c.word_at.ensures c.word_at-in-loop-pair.ensures

pub returns : goal.returns
returns c =
    let all : c.loop-pair.pair ≡ length c.args.bytes.now / 8 = omega arith in
    c.loop-pair.invariant ∙ rw all refl ∙ sym (checksum-is c.args.big (words_of c.args.sum) c.args.bytes.now)

use Rattle.std.proofs.Common.{◌≡◌}
use Rattle.log_spec.specs.Checksum.{sum_of_pairs}
use Rattle.wal_frames.specs.Front.{words_of}
use Rattle.wal_frames.proofs.sum.sum_step.Given as goal

abbrev pub invariant-loop-pair : goal.invariant-loop-pair
invariant-loop-pair l = (l.s0, l.s1) ≡ sum_of_pairs l.big (words_of l.fn.sum) l.bytes l.pair

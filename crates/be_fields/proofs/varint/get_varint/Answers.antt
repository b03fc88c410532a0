use Rattle.std.proofs.Common.{arith, ◌+◌, ◌≡◌, get_or, below_more, refl}
use Rattle.page_spec.proofs.VarintLaws.{carrying_ends, last_values_nine, last_values_less, carried_more}
use Rattle.be_fields.proofs.Steps.{ends_here, high_fits, high_more}
use Rattle.be_fields.proofs.varint.get_varint.Goals as goal

pub returns-then-at : goal.returns-then-at
returns-then-at c =
    let loop = c.loop-at in
    let read : c.from-byte.result ≡ get_or c.args.from.now loop.at 0 = c.from-byte.ensures in
    let nine : loop.at ≡ 8 = omega arith in
    let begins = ends_here c.args.from.now loop.at loop.high c.from-byte.result 256 loop.invariant.few (omega arith)
    loop.invariant.go_on loop.invariant.spelled read (λ less. absurd (omega arith)) (last_values_nine (loop.at + 1) (omega arith)) in
    let ninth : loop.at + 1 ≡ 9 = omega arith in
    rw ninth at begins

pub overflow_mul-result-then-byte-lt128 : goal.overflow_mul-result-then-byte-lt128
overflow_mul-result-then-byte-lt128 c =
    omega (arith, high_fits c.loop-at.high c.loop-at.at c.loop-at.invariant.few c.loop-at.invariant.small)

pub overflow_add-result-then-byte-lt128 : goal.overflow_add-result-then-byte-lt128
overflow_add-result-then-byte-lt128 c =
    omega (arith, high_fits c.loop-at.high c.loop-at.at c.loop-at.invariant.few c.loop-at.invariant.small)

pub overflow_mul-high : goal.overflow_mul-high
overflow_mul-high c =
    omega (arith, high_fits c.loop-at.high c.loop-at.at c.loop-at.invariant.few c.loop-at.invariant.small)

pub returns-then-byte-lt128 : goal.returns-then-byte-lt128
returns-then-byte-lt128 c =
    let loop = c.loop-at in
    let read : c.from-byte.result ≡ get_or c.args.from.now loop.at 0 = c.from-byte.ensures in
    ends_here c.args.from.now loop.at loop.high c.from-byte.result 128 loop.invariant.few (omega arith)
    loop.invariant.go_on loop.invariant.spelled read (λ less. omega arith) (last_values_less (loop.at + 1) (omega arith))

pub loop-at-preserved : goal.loop-at-preserved
loop-at-preserved c =
    let loop = c.loop-at in
    let read : c.from-byte.result ≡ get_or c.args.from.now loop.at 0 = c.from-byte.ensures in
    let more = carried_more c.args.from.now loop.at (omega arith) in
    record {
      few = omega arith;
      go_on = below_more _ _ loop.invariant.go_on (omega arith);
      spelled = rw (more, ← loop.invariant.spelled, ← read) refl;
      small = high_more loop.high loop.at c.from-byte.result loop.invariant.small (omega arith);
    }

pub returns : goal.returns
returns c =
    let loop = c.loop-at in
    omega (arith, carrying_ends c.args.from.now (omega arith) (λ k below. loop.invariant.go_on k (omega arith)))

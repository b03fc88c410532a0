use Rattle.std.proofs.Common.{◌∙◌, ℕ, ◌+◌, ◌%◌, ◌^◌, ap, arith, length-take}
use Rattle.engine_spec.specs.Change.{u32_bytes}
use Rattle.memory_engine.proofs.Stamping.{stamped_is}
use Rattle.memory_engine.proofs.lay.stamp.Goals as goal

pub slice_bounds-from_slice-end : goal.slice_bounds-from_slice-end
slice_bounds-from_slice-end c = omega (arith, length-take 24 c.args.first.now)

pub returns : goal.returns
returns c =
    stamped_is c.args.size c.args.first.now _ _ _ _ _ _ c.to_be_bytes-counter.result c.to_be_bytes.result c.requires
    (c.to_be_bytes-counter.ensures ∙ ap (λ (word : ℕ). u32_bytes ((word + 1) % 2 ^ 32)) c.get_u32.ensures) c.to_be_bytes.ensures
    c.in_ok-bytes.ensures.items
    c.in_ok-extend_from_slice.ensures.items
    c.in_ok-extend_from_slice-2.ensures.items
    c.in_ok-extend_from_slice-3.ensures.items
    c.in_ok-extend_from_slice-4.ensures.items
    c.in_ok-extend_from_slice-5.ensures.items

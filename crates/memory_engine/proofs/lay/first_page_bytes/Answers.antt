use Rattle.std.proofs.Common.{ℕ, length, arith, length-drop, length-append, length-take, ap}
use Rattle.memory_engine.proofs.lay.first_page_bytes.Goals as goal

pub slice_bounds-from_slice-end : goal.slice_bounds-from_slice-end
slice_bounds-from_slice-end c = omega (arith, length-take 32 c.args.old.now)

pub returns-clause-size : goal.returns-clause-size
returns-clause-size c =
    omega (
      arith,
      ap length (c.in_ok-bytes.ensures.items),
      ap length (c.in_ok-extend_from_slice.ensures.items),
      ap length (c.in_ok-extend_from_slice-2.ensures.items),
      ap length (c.in_ok-extend_from_slice-3.ensures.items),
      length-append {A = ℕ},
      length-take {A = ℕ},
      length-drop {A = ℕ},
      c.schema_part.ensures.size,
      c.tree_part.ensures.size,
    )

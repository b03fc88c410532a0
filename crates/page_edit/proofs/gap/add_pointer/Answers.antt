use Rattle.std.proofs.Common.{◌≡◌, ◌+◌, ◌-◌, ◌*◌, ◌∙◌, arith, refl}
use Rattle.page_spec.specs.Bytes.{u16_at}
use Rattle.page_spec.proofs.BytesLaws.{u16_at-below, u16_at-above}
use Rattle.page_edit.proofs.gap.add_pointer.Goals as goal

pub returns : goal.returns
unfolding u16_at
returns c =
    let w = c.put_u16.ensures.others in
    let m = c.copy_within.ensures.by_index in
    let pointers = c.args.pointers in
    record {
      same_length = omega (arith, w.same_length, c.copy_within.ensures.len);
      below = λ j h.
          let a = m.1 (pointers + 2 * j) 0 (omega arith) in
          let b = m.1 (pointers + 2 * j + 1) 0 (omega arith) in
          u16_at-below w (pointers + 2 * j) (omega arith) ∙ rw (a, b) refl;
      added = c.put_u16.ensures.value;
      above = λ j h l.
          let a = m.0 (pointers + 2 * (j + 1)) 0 (omega arith) (omega arith) in
          let b = m.0 (pointers + 2 * (j + 1) + 1) 0 (omega arith) (omega arith) in
          let x : pointers + 2 * c.args.k + (pointers + 2 * (j + 1) - (pointers + 2 * c.args.k + 2)) ≡ pointers + 2 * j = omega arith in
          let y : pointers + 2 * c.args.k + (pointers + 2 * (j + 1) + 1 - (pointers + 2 * c.args.k + 2)) ≡ pointers + 2 * j + 1 = omega arith in
          u16_at-above w (pointers + 2 * (j + 1)) (omega arith) ∙ rw (a, b, x, y) refl;
      before = λ j h. w.before j (omega arith) ∙ m.1 j 0 (omega arith);
      after = λ j h. w.after j (omega arith) ∙ m.2 j 0 (omega arith);
    }

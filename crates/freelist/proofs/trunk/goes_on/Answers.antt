use Rattle.std.proofs.Common.{◌≤◌, arith, subst}
use Rattle.page_spec.specs.Bytes.{u32_at}
use Rattle.tree_spec.specs.Layout.{Each}
use Rattle.tree_spec.specs.Freelist.{numbers_at}
use Rattle.tree_spec.proofs.Freelists.{length-numbers_at}
use Rattle.freelist.proofs.trunk.goes_on.Goals as goal

pub returns-clause-whole : goal.returns-clause-whole
returns-clause-whole c = λ is.
    let few = c.lists_too_many.ensures.few c.if-lists_too_many.false in
    let page = c.args.page.now in (
      record {
        room = omega (arith, few.0, length-numbers_at page 8 (u32_at page 4));
        range = subst (λ n. Each (λ leaf. (2 ≤ leaf) × (leaf ≤ c.args.last)) (numbers_at page 8 n)) c.get_u32.ensures (c.are_inside.ensures.inside is);
      },
      few.1,
    )

-- How much room an empty page has.
use Rattle.std.proofs.Common.{◌≤◌, false, arith}
use Rattle.node_spec.specs.declared.kinds.Kind.{Kind}
use Rattle.node_spec.specs.declared.kinds.Kind.TheVariants.{IndexInner, TableInner, IndexLeaf, TableLeaf}
use Rattle.node_spec.specs.Kinds.{pointers_at}

pub front_most : (kind : Kind) → pointers_at false kind ≤ 12
front_most IndexInner = omega arith
front_most TableInner = omega arith
front_most IndexLeaf = omega arith
front_most TableLeaf = omega arith

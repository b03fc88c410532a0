-- Nodes that pages are begun with.
use Rattle.std.specs.Prelude.{ℕ, List, if◌then◌else◌}
use Rattle.node_spec.specs.declared.kinds.Kind.{Kind}
use Rattle.node_spec.specs.Kinds.{is_leaf}
use Rattle.node_spec.specs.Cells.{NodeCell}
use Rattle.node_spec.specs.Nodes.{Node}

-- a node of a kind with these cells; a leaf has no right child
abbrev pub inner_node : Kind → List NodeCell → ℕ → Node
inner_node kind cells right = record { kind = kind; cells = cells; right = if is_leaf kind then 0 else right }

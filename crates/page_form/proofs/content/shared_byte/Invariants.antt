use Rattle.std.proofs.Common.{◌≡◌, List, None}
use Rattle.node_spec.specs.Layout.{Piece}
use Rattle.node_spec.specs.Faults.{first_fault, byte_fault}
use Rattle.page_form.specs.Marks.{AreMarks}
use Rattle.page_form.proofs.content.shared_byte.Given as goal

-- no byte before the next one is in two pieces
abbrev pub invariant-loop-k : goal.invariant-loop-k
invariant-loop-k l = (cells blocks : List Piece) → AreMarks l.marks cells blocks → first_fault l.k (byte_fault cells blocks) ≡ None

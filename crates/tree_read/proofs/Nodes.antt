-- A page that was fetched and decoded, and the child at a rowid's place.
use Rattle.std.proofs.Common.{◌≡◌, ℕ, zero, suc, ◌<◌, ◌≤◌, Bool, List, [], ◌∷◌, length, Some, refl, subst, arith}
use Rattle.std.specs.Prelude.{slice_index_or}
use Rattle.node_spec.specs.Cells.{NodeCell}
use Rattle.node_spec.specs.Nodes.{Node, node_of, no_cell}
use Rattle.node_spec.proofs.NodeLaws.{node_shows}
use Rattle.page_form.specs.declared.page.PageFault.{PageFault}
use Rattle.page_form.specs.declared.page.PageFault.TheVariants.{Bad}
use Rattle.page_form.specs.Reading.{IsFault}
use Rattle.tree_read.specs.Ways.{child_at}

-- bytes that are refused show no node
pub bad_node : (usable : ℕ) (first : Bool) (bytes : List ℕ) (why : PageFault) (at : ℕ) → why ≡ Bad at → IsFault usable first bytes why
    → (node : Node) → node_of usable first bytes ≡ Some node → ⊥
bad_node usable first bytes why at is refused node shown =
    let s = node_shows usable first bytes node shown in
    (subst (IsFault usable first bytes) is refused).1 (record { kind = node.kind; cells = s.cells; blocks = s.blocks; is_page = s.is_page })

-- the child at a place
pub child_inside : (cells : List NodeCell) (right place : ℕ) → place < length cells → child_at cells right place ≡ (slice_index_or cells place no_cell).left
child_inside [] right place inside = absurd (omega (arith, inside))
child_inside (cell ∷ cells) right zero inside = refl
child_inside (cell ∷ cells) right (suc place) inside = child_inside cells right place (omega (arith, inside))

pub child_past : (cells : List NodeCell) (right place : ℕ) → length cells ≤ place → child_at cells right place ≡ right
child_past [] right place past = refl
child_past (cell ∷ cells) right zero past = absurd (omega (arith, past))
child_past (cell ∷ cells) right (suc place) past = child_past cells right place (omega (arith, past))

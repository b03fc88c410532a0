-- A page of a tree that was read: its fault, and how deep the first leaf of its tree stands.
use Rattle.std.proofs.Common.{◌≡◌, ℕ, zero, suc, ◌<◌, ◌==◌, Bool, true, false, List, Option, Some, None, refl, sym, ap, ◌∙◌, arith}
use Rattle.node_spec.specs.Layout.{IsPageText}
use Rattle.node_spec.specs.Nodes.{Node, node_of}
use Rattle.node_spec.specs.Faults.{or_else, page_fault}
use Rattle.node_spec.proofs.NodeLaws.{node_shows, text_passes}
use Rattle.check_spec.specs.Forms.{fault_in_node, node_fault}
use Rattle.check_spec.specs.Walk.{Past, leaves_at, leaves_then}

pub leaves_is : (level : ℕ) (past : Past) (leaves result : Option ℕ) → leaves ≡ past.leaves → (level ≡ 0 → result ≡ None) → (0 < level → result ≡ leaves)
    → result ≡ leaves_at level past
leaves_is zero past leaves result is root below = root refl
leaves_is (suc level) past leaves result is root below = below (omega arith) ∙ is

pub then_is : (leaf : Bool) (level : ℕ) (past : Past) (before result : Option ℕ) → before ≡ leaves_at level past → (leaf ≡ true → result ≡ Some level)
    → (leaf ≡ false → result ≡ before) → result ≡ leaves_then leaf level past
then_is true level past before result is one other = one refl
then_is false level past before result is one other = other refl ∙ is

shown_passes : (usable : ℕ) (first : Bool) (page : List ℕ) (node : Node) → node_of usable first page ≡ Some node → page_fault usable first page ≡ None
shown_passes usable first page node gives =
    let shown = node_shows usable first page node gives in
    let text : IsPageText usable first page = record { kind = node.kind; cells = shown.cells; blocks = shown.blocks; is_page = shown.is_page } in text_passes text

-- a page that shows a node breaks only where the node may not stand
pub fault_whole : (usable last : ℕ) (table : Option Bool) (leaves leaves_then : Option ℕ) (level page : ℕ) (bytes : List ℕ) (node : Node) (result : Option ℕ) → leaves ≡ leaves_then
    → node_of usable (page == 1) bytes ≡ Some node → result ≡ fault_in_node last table leaves level page bytes (Some node)
    → node_fault usable last table leaves_then level page bytes ≡ result
unfolding node_fault
fault_whole usable last table leaves leaves_then level page bytes node result same gives is =
    ap (λ (f : Option ℕ). or_else f (fault_in_node last table leaves_then level page bytes (node_of usable (page == 1) bytes))) (shown_passes usable (page == 1) bytes node gives)
    ∙ ap (λ (n : Option Node). fault_in_node last table leaves_then level page bytes n) gives
    ∙ ap (λ (l : Option ℕ). fault_in_node last table l level page bytes (Some node)) (sym same) ∙ sym is

-- a page that shows none breaks where its text does
pub fault_text : (usable last : ℕ) (table : Option Bool) (leaves : Option ℕ) (level page at : ℕ) (bytes : List ℕ) → page_fault usable (page == 1) bytes ≡ Some at
    → node_fault usable last table leaves level page bytes ≡ Some at
unfolding node_fault
fault_text usable last table leaves level page at bytes is =
    ap (λ (f : Option ℕ). or_else f (fault_in_node last table leaves level page bytes (node_of usable (page == 1) bytes))) is

-- A cell's numbers as they were read, and as the page shows them.
use Rattle.std.proofs.Common.{◌≡◌, ℕ, ◌<◌, Bool, List, Option, length, sym, subst, ap, ◌∙◌}
use Rattle.std.specs.Prelude.{slice_index}
use Rattle.node_spec.specs.declared.kinds.Kind.{Kind}
use Rattle.node_spec.specs.Nodes.{Node, cell_at}
use Rattle.page_form.specs.Reading.{Tells, TellsCell, IsCellOf}
use Rattle.page_form.specs.declared.page.Page.{Page}
use Rattle.page_form.specs.declared.cells.Cell.{Cell}
use Rattle.check_spec.specs.Forms.{cell_numbers_fault}
use Rattle.tree_check.specs.Cellwise.{fault_of_cell}

pub cell_told : (usable : ℕ) (first : Bool) (bytes : List ℕ) (page : Page) (told : Node) (cell : Cell) (k : ℕ) → Tells usable first bytes page told
    → IsCellOf usable bytes cell told k → TellsCell usable page.kind bytes cell (cell_at told k)
cell_told usable first bytes page told cell k tells is =
    subst (λ (kind : Kind). TellsCell usable kind bytes cell (cell_at told k)) (sym tells.kind) is

pub cell_fault_is : (usable last : ℕ) (first : Bool) (bytes : List ℕ) (page : Page) (told : Node) (k start : ℕ) (result : Option ℕ) → Tells usable first bytes page told
    → k < length told.cells → start ≡ slice_index page.cells.items k → result ≡ cell_numbers_fault last page.kind start (cell_at told k)
    → result ≡ fault_of_cell last first bytes told k
cell_fault_is usable last first bytes page told k start result tells less start_is is =
    is ∙ ap (λ (kind : Kind). cell_numbers_fault last kind start (cell_at told k)) tells.kind
    ∙ ap (λ (n : ℕ). cell_numbers_fault last told.kind n (cell_at told k)) (start_is ∙ tells.pointers k less)
